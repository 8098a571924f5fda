-- Bodies as ranges of one list of tokens.
use Rattle.std.proofs.Common.{◌≡◌, ℕ, ◌≤◌, List, [], length, sym, ap, ◌∙◌, map, refl, ◌++◌, ◌+◌, ◌-◌, take, drop, arith, append-nil, ◌∷◌, zero, suc}
use Rattle.std.specs.List.{All, AllByRecursion}
use Rattle.std.proofs.lemmas.List.{take-append-le, drop-append-le, map-append, length-drop}
use Rattle.std.proofs.lemmas.List.Elements.{recursion_from_All}
use Rattle.std.proofs.Math.Seq.{drop-append_seam, take-append_seam}
use Rattle.btx_bst.specs.declared.bodies.Range.{Range}
use Rattle.std.specs.Borrow.{Bor}
use Rattle.btx_bst.specs.refinement.Views.{texts_view}
use Rattle.btx_bst.specs.refinement.Ranges.{tokens_in}

-- a range that was in bounds has the same tokens after more of them
part_more : {T : Type 0} (ts us : List T) (r : Range) → r.from ≤ r.to → r.to ≤ length ts → tokens_in (ts ++ us) r ≡ tokens_in ts r
part_more ts us r le h =
    ap (take (r.to - r.from)) (drop-append-le r.from ts us (omega arith))
    ∙ take-append-le (r.to - r.from) (drop r.from ts) us (omega (arith, length-drop r.from ts))

parts_more : {T : Type 0} (ts us : List T) (rs : List Range) → AllByRecursion (λ r. (r.from ≤ r.to) × (r.to ≤ length ts)) rs → map (tokens_in (ts ++ us)) rs
    ≡ map (tokens_in ts) rs
parts_more ts us [] h = refl
parts_more ts us (r ∷ rs) h = ap (λ x. x ∷ map (tokens_in (ts ++ us)) rs) (part_more ts us r h.0.0 h.0.1)
    ∙ ap (λ xs. tokens_in ts r ∷ xs) (parts_more ts us rs h.1)

-- the new part is all that was added
last_part : {T : Type 0} (ts us : List T) (n m : ℕ) → n ≡ length ts → m ≡ length ts + length us → take (m - n) (drop n (ts ++ us)) ≡ us
last_part ts us n m e g =
    let k : m - n ≡ length us = omega arith in
    ap (λ i. take i (drop n (ts ++ us))) k ∙ ap (λ i. take (length us) (drop i (ts ++ us))) e ∙ ap (take (length us)) (drop-append_seam ts us)
    ∙ ap (take (length us)) (sym (append-nil us)) ∙ take-append_seam us []

pub added : {T : Type 0} (ts us : List T) (rs : List Range) (n m : ℕ) → All (λ r. (r.from ≤ r.to) × (r.to ≤ length ts)) rs → n ≡ length ts → m ≡ length ts + length us
    → map (tokens_in (ts ++ us)) (rs ++ record { from = n; to = m } ∷ []) ≡ map (tokens_in ts) rs ++ us ∷ []
added {T = T} ts us rs n m h e g =
    map-append (tokens_in (ts ++ us)) rs (record { from = n; to = m } ∷ [])
    ∙ ap (λ xs. xs ++ tokens_in (ts ++ us) (record { from = n; to = m }) ∷ []) (parts_more ts us rs (recursion_from_All _ rs h))
    ∙ ap (λ (x : List T). map (tokens_in ts) rs ++ x ∷ []) (last_part ts us n m e g)

pub map-take : {A B : Type 0} (f : A → B) (n : ℕ) (xs : List A) → map f (take n xs) ≡ take n (map f xs)
map-take f zero xs = refl
map-take f (suc n) [] = refl
map-take f (suc n) (x ∷ xs) = ap (λ ys. f x ∷ ys) (map-take f n xs)

-- as many strings as there are places of them
pub texts-length : (texts : List (Bor (List ℕ))) → length (texts_view texts) ≡ length texts
texts-length [] = refl
texts-length (t ∷ ts) = ap suc (texts-length ts)
