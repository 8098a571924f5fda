-- The cited keys before and after `*`, and the one at a place.
use Rattle.std.proofs.Common.{◌≡◌, ◌∙◌, ℕ, zero, suc, arith, ◌≤◌, nat_lt, true, List, [], ◌∷◌, take, drop, length, slice_index_or, Some, refl, sym, ap}
use Rattle.std.specs.Prelude.{slice_get}
use Rattle.std.specs.Option.{option_map}
use Rattle.std.proofs.lemmas.Option.{slice_get-map, slice_get-get_or}
use Rattle.std.proofs.lemmas.Bool.Decides.{nat_tests}
use Rattle.btx_aux.specs.refinement.Entries.{Bytes, texts_of}

pub take_texts : (keys : List Bytes) (n : ℕ) → texts_of (take n keys) ≡ take n (texts_of keys)
take_texts keys zero = refl
take_texts [] (suc n) = refl
take_texts (key ∷ keys) (suc n) = ap (λ (rest : List (List ℕ)). key.items ∷ rest) (take_texts keys n)

pub drop_texts : (keys : List Bytes) (n : ℕ) → texts_of (drop n keys) ≡ drop n (texts_of keys)
drop_texts keys zero = refl
drop_texts [] (suc n) = refl
drop_texts (key ∷ keys) (suc n) = drop_texts keys n

pub take_texts_all : (keys : List Bytes) (n : ℕ) → length keys ≤ n → texts_of keys ≡ take n (texts_of keys)
take_texts_all [] zero h = refl
take_texts_all [] (suc n) h = refl
take_texts_all (key ∷ keys) zero h = absurd (omega arith)
take_texts_all (key ∷ keys) (suc n) h = ap (λ (rest : List (List ℕ)). key.items ∷ rest) (take_texts_all keys n (omega arith))

pub drop_texts_all : (keys : List Bytes) (n : ℕ) → length keys ≤ n → [] ≡ drop n (texts_of keys)
drop_texts_all [] zero h = refl
drop_texts_all [] (suc n) h = refl
drop_texts_all (key ∷ keys) zero h = absurd (omega arith)
drop_texts_all (key ∷ keys) (suc n) h = drop_texts_all keys n (omega arith)

pub ruleset cited_parts = (take_texts, drop_texts, take_texts_all, drop_texts_all)

pub cited-place : (keys : List Bytes) (listed : List (List ℕ)) (place : ℕ) (key d : Bytes) → texts_of keys ≡ listed → true ≡ nat_lt place (length keys)
    → key ≡ slice_index_or keys place d
    → slice_get listed place ≡ Some key.items
cited-place keys listed place key d is within at =
    ap (λ (ks : List (List ℕ)). slice_get ks place) (sym is)
    ∙ slice_get-map (λ (b : Bytes). b.items) keys place
    ∙ ap (option_map (λ (b : Bytes). b.items)) (slice_get-get_or keys place d (grind (arith, nat_tests)))
    ∙ ap (λ (b : Bytes). Some b.items) (sym at)
