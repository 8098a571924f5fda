-- Nameless functions after others.
use Rattle.std.proofs.Common.{◌≡◌, ℕ, ◌+◌, ◌-◌, ◌<◌, ◌≤◌, List, [], ◌∷◌, ◌++◌, length, sym, ap, ◌∙◌, arith, append_assoc, Option, None, append-nil}
use Rattle.std.specs.Prelude.{replicate}
use Rattle.std.proofs.lemmas.List.{length-append, replicate_more}
use Rattle.btx_bst.specs.refinement.NameTables.{IsPadded}
use Rattle.btx_bst.specs.refinement.Names.{padded}

abbrev pub Functions : Type 0
Functions = List (Option (List ℕ))

-- more functions are the first ones and nameless ones
pub record Pads (first more : Functions) (count : ℕ) : Type 0 where
  pub same : more ≡ padded (length more) first
  pub longer : length first ≤ length more
  pub within : length more ≤ length first + (count - length first)

pub pads-none : (first : Functions) (count : ℕ) → Pads first first count
pads-none first count = record {
  same = let e : length first - length first ≡ 0 = omega arith in sym (ap (λ n. first ++ replicate n None) e ∙ append-nil first);
  longer = omega arith;
  within = omega arith;
}

pub pads-next : (first more : Functions) (count : ℕ) → Pads first more count → length more < count → Pads first (more ++ None ∷ []) count
pads-next first more count p h =
    let l = length-append more (None ∷ []) in
    let n = length more - length first in
    let a = p.longer in
    let b = p.within in
    let e : length (more ++ None ∷ []) - length first ≡ n + 1 = omega (arith, l) in
    record {
      same =
          ap (λ (xs : Functions). xs ++ None ∷ []) p.same ∙ append_assoc first (replicate n None) (None ∷ [])
          ∙ ap (λ (xs : Functions). first ++ xs) (replicate_more n None)
          ∙ ap (λ (k : ℕ). first ++ replicate k None) (sym e);
      longer = omega (arith, l);
      within = omega (arith, l);
    }

pub pads-all : (first more : Functions) (count : ℕ) → Pads first more count → count ≤ length more → more ≡ padded count first
pads-all first more count p h =
    let a = p.longer in
    let b = p.within in
    let e : length more - length first ≡ count - length first = omega arith in
    p.same ∙ ap (λ (k : ℕ). first ++ replicate k None) e

pub pads-padded : (first more : Functions) (count : ℕ) → Pads first more count → IsPadded first more
pads-padded first more count p = (length more - length first, p.same)

pub ruleset pad_steps = (pads-none, pads-next, pads-all, pads-padded)
