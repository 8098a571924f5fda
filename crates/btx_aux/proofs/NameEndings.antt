-- The names of a job's files: their endings keep them apart, and none of its databases is named twice.
use Rattle.std.proofs.Common.{◌≡◌, ℕ, ◌-◌, Bool, true, false, if◌then◌else◌, List, [], ◌∷◌, ◌++◌, fold, length, drop, Option, None, Some, refl, sym, ap, ◌∙◌}
use Rattle.std.proofs.Common.{subst}
use Rattle.std.specs.Prelude.{codes}
use Rattle.std.specs.List.{AllByRecursion, IsDistinct, flat_map}
use Rattle.std.specs.Str.{bytes_eq}
use Rattle.std.proofs.lemmas.Bool.Decides.{Decides-eqb}
use Rattle.std.proofs.lemmas.Cmp.{nat_list_eq_equiv}
use Rattle.std.proofs.lemmas.Map.Keys.{IsDistinct-cons, IsDistinct-head, IsDistinct-push, IsDistinct-tail}
use Rattle.std.proofs.lemmas.Slice.Eq.{bytes_eq-Decides, ends_is}
use Rattle.btx_aux.specs.language.Files.{Files}
use Rattle.btx_aux.specs.language.Names.{has_ending, with_ending, with_name_once}
use Rattle.btx_aux.specs.language.Grammar.{Piece, Taken, Cut}
use Rattle.btx_aux.specs.language.Events.{job_events}
use Rattle.btx_aux.specs.language.Job.{bibdata_of, bibstyle_of, databases_in, job_of_files, taken_with}
use Rattle.btx_aux.proofs.AnswerLemmas.{all-both}
use Rattle.btx_text.specs.language.Lists.{is_among}
use Rattle.btx_aux.specs.refinement.Job.{style_name_in}

-- ---- endings

-- a name has one ending of this length
pub one_ending : (ending other name : List ℕ) → length ending ≡ length other → has_ending ending name ≡ true → has_ending other name ≡ true → ending ≡ other
one_ending ending other name long ends ends' =
    let there = (bytes_eq-Decides ending (drop (length name - length ending) name)).0 ends in
    let there' = (bytes_eq-Decides other (drop (length name - length other) name)).0 ends' in
    there ∙ ap (λ (n : ℕ). drop (length name - n) name) long ∙ sym there'

-- the name has this ending
pub with_ending-ends : (ending name : List ℕ) → has_ending ending (with_ending ending name) ≡ true
with_ending-ends ending name = by (has_ending ending name) refl where
  by : (b : Bool) → has_ending ending name ≡ b → has_ending ending (if b then name else name ++ ending) ≡ true
  by true ends = ends
  by false ends = (ends_is Decides-eqb (name ++ ending) ending (has_ending ending (name ++ ending)) refl).1 name refl

-- ---- names apart

-- names that pass a test, and names that don't
pub distinct-both : (test : List ℕ → Bool) (xs ys : List (List ℕ)) → AllByRecursion (λ name. test name ≡ true) xs
    → AllByRecursion (λ name. test name ≡ false) ys
    → IsDistinct bytes_eq xs → IsDistinct bytes_eq ys → IsDistinct bytes_eq (xs ++ ys)
distinct-both test [] ys pass fail once once' = once'
distinct-both test (x ∷ xs) ys pass fail once once' =
    IsDistinct-cons bytes_eq x (xs ++ ys) (all-both _ xs ys (IsDistinct-head bytes_eq x xs once) (others ys fail))
    (distinct-both test xs ys pass.1 fail (IsDistinct-tail bytes_eq x xs once) once') where
      apart : (b : Bool) (y : List ℕ) → bytes_eq x y ≡ b → test y ≡ false → b ≡ false
      apart true y same fails = sym pass.0 ∙ ap test ((bytes_eq-Decides x y).0 same) ∙ fails
      apart false y same fails = refl

      others : (ys : List (List ℕ)) → AllByRecursion (λ name. test name ≡ false) ys → AllByRecursion (λ y. bytes_eq x y ≡ false) ys
      others [] fail = tt
      others (y ∷ ys) fail = (apart (bytes_eq x y) y refl fail.0, others ys fail.1)

-- ---- a job's databases and style

distinct-with_name : (names : List (List ℕ)) (name : List ℕ) → IsDistinct bytes_eq names → IsDistinct bytes_eq (with_name_once names name)
distinct-with_name names name once = by (is_among names name) refl where
  by : (b : Bool) → is_among names name ≡ b → IsDistinct bytes_eq (if b then names else names ++ name ∷ [])
  by true there = once
  by false absent = IsDistinct-push nat_list_eq_equiv names name once absent

distinct-more : (more names : List (List ℕ)) → IsDistinct bytes_eq names → IsDistinct bytes_eq (fold with_name_once names more)
distinct-more [] names once = once
distinct-more (name ∷ more) names once = distinct-more more (with_name_once names name) (distinct-with_name names name once)

distinct-none : IsDistinct bytes_eq []
unfolding IsDistinct
distinct-none = tt

all-with_name : (P : List ℕ → Type 0) (names : List (List ℕ)) (name : List ℕ) → AllByRecursion P names → P name → AllByRecursion P (with_name_once names name)
all-with_name P names name all one = by (is_among names name) where
  by : (b : Bool) → AllByRecursion P (if b then names else names ++ name ∷ [])
  by true = all
  by false = all-both P names (name ∷ []) all (one, tt)

all-more : (P : List ℕ → Type 0) (more names : List (List ℕ)) → AllByRecursion P names → AllByRecursion P more
    → AllByRecursion P (fold with_name_once names more)
all-more P [] names all others = all
all-more P (name ∷ more) names all others = all-more P more (with_name_once names name) (all-with_name P names name all others.0) others.1

abbrev EndIn : List ℕ → List (List ℕ) → Type 0
EndIn ending names = AllByRecursion (λ name. has_ending ending name ≡ true) names

taken_end : (ending : List ℕ) (pieces : List Piece) → EndIn ending (flat_map (taken_with ending) pieces)
taken_end ending [] = tt
taken_end ending (Taken name ∷ pieces) = (with_ending-ends ending name, taken_end ending pieces)
taken_end ending (Cut slip ∷ pieces) = taken_end ending pieces

databases-end : (pieces : Option (List Piece)) → EndIn (codes ".bib") (databases_in pieces)
databases-end None = tt
databases-end (Some pieces) = all-more _ (flat_map (taken_with (codes ".bib")) pieces) [] tt (taken_end (codes ".bib") pieces)

databases-once : (pieces : Option (List Piece)) → IsDistinct bytes_eq (databases_in pieces)
databases-once None = distinct-none
databases-once (Some pieces) = distinct-more (flat_map (taken_with (codes ".bib")) pieces) [] distinct-none

abbrev ends : Option (List ℕ) → Type 0
ends None = Unit {0}
ends (Some name) = has_ending (codes ".bst") name ≡ true

style-ends : (piece : Option Piece) (name : List ℕ) → style_name_in piece ≡ Some name → has_ending (codes ".bst") name ≡ true
style-ends None name is = cc
style-ends (Some (Taken text)) name is = subst ends is (with_ending-ends (codes ".bst") text)
style-ends (Some (Cut slip)) name is = cc

-- the databases end in `.bib`
pub job_databases_end : (files : Files) (top : List ℕ) → EndIn (codes ".bib") (job_of_files files top).databases
unfolding job_of_files
job_databases_end files top = databases-end (bibdata_of (job_events files top))

-- none of them is named twice
pub job_databases_once : (files : Files) (top : List ℕ) → IsDistinct bytes_eq (job_of_files files top).databases
unfolding job_of_files
job_databases_once files top = databases-once (bibdata_of (job_events files top))

-- the style ends in `.bst`
pub job_style_ends : (files : Files) (top name : List ℕ) → (job_of_files files top).style ≡ Some name → has_ending (codes ".bst") name ≡ true
unfolding job_of_files
job_style_ends files top name is = style-ends (bibstyle_of (job_events files top)) name is
