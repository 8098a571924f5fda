-- The tokens of functions that are being read, in one list.
use Rattle.std.proofs.Common.{◌≡◌, ℕ, List, [], ◌∷◌, ◌++◌, length, take, drop, refl, ap, ◌∙◌, arith}
use Rattle.std.proofs.lemmas.List.{take-append-le, drop-append-le, length-append, take_all, drop_all}
use Rattle.btx_bst.specs.refinement.Views.{open_bodies}
use Rattle.btx_bst.specs.refinement.Pending.{innermost, around_in, opened_in, StartsNest}

-- one more token
pub opened-push : {T : Type 0} (ts : List T) (t : T) (starts : List ℕ) → StartsNest ts starts → opened_in (ts ++ t ∷ []) starts
    ≡ open_bodies (innermost ts starts ++ t ∷ []) (around_in ts starts)
opened-push ts t [] h = refl
opened-push {T = T} ts t (s ∷ starts) h =
    let e = drop-append-le s ts (t ∷ []) h.0 in
    let g = take-append-le s ts (t ∷ []) h.0 in
    ap (λ (xs : List T). open_bodies xs (innermost (take s (ts ++ t ∷ [])) starts ∷ around_in (take s (ts ++ t ∷ [])) starts)) e
    ∙ ap (λ (xs : List T). open_bodies (drop s ts ++ t ∷ []) (innermost xs starts ∷ around_in xs starts)) g

pub cut-push : {T : Type 0} (ts : List T) (t : T) (starts : List ℕ) → StartsNest ts starts → StartsNest (ts ++ t ∷ []) starts
cut-push ts t [] h = tt
cut-push ts t (s ∷ starts) h = (omega (arith, h.0, length-append ts (t ∷ [])), rw (take-append-le s ts (t ∷ []) h.0) h.1)

-- one more function
pub opened-open : {T : Type 0} (ts : List T) (starts : List ℕ) (n : ℕ) → n ≡ length ts → opened_in ts (n ∷ starts)
    ≡ open_bodies [] (innermost ts starts ∷ around_in ts starts)
opened-open {T = T} ts starts n e =
    ap (λ (xs : List T). open_bodies xs (innermost (take n ts) starts ∷ around_in (take n ts) starts)) (drop_all n ts (omega arith))
    ∙ ap (λ (xs : List T). open_bodies [] (innermost xs starts ∷ around_in xs starts)) (take_all n ts (omega arith))

pub cut-open : {T : Type 0} (ts : List T) (starts : List ℕ) (n : ℕ) → n ≡ length ts → StartsNest ts starts → StartsNest ts (n ∷ starts)
cut-open ts starts n e h = (omega arith, rw (take_all n ts (omega arith)) h)

pub ruleset open_steps = (opened-push, cut-push, opened-open, cut-open)
