-- Values by place, with those of a parent.
use Rattle.std.proofs.Common.{◌≡◌, ℕ, zero, suc, arith, ◌+◌, ◌<◌, ◌≤◌, List, [], ◌∷◌, ◌++◌, take, drop, length, append-nil, Option, None, Some, is_some, true}
use Rattle.std.proofs.Common.{refl, sym, ap, ◌∙◌, add-one}
use Rattle.std.proofs.lemmas.List.{take_all, drop_all}
use Rattle.std.specs.Option.{option_or}
use Rattle.btx_bib.specs.refinement.Finding.{changed_at}
use Rattle.btx_bib.specs.language.Values.{field_value}
use Rattle.btx_bib.specs.language.Passes.{or_values, inherited_values}
use Rattle.btx_bib.proofs.FillingLemmas.{with_value-kept}

or_none : (o : Option (List ℕ)) → o ≡ option_or o None
or_none None = refl
or_none (Some x) = refl

or_same : (o : Option (List ℕ)) → option_or o o ≡ o
or_same None = refl
or_same (Some x) = refl

or-same : (own : List (Option (List ℕ))) → or_values own own ≡ own
or-same [] = refl
or-same (v ∷ own) = ap (λ (first : Option (List ℕ)). first ∷ or_values own own) (or_same v) ∙ ap (λ (rest : List (Option (List ℕ))). v ∷ rest) (or-same own)

-- what is inherited from one's own values, where those are away, and where they are there
pub inherited-same : (key : List ℕ) (own : List (Option (List ℕ))) → inherited_values key own [] ≡ inherited_values key own own
inherited-same key [] = refl
inherited-same key (v ∷ own) = ap (λ (rest : List (Option (List ℕ))). Some key ∷ rest) (sym (or-same own))

length-or : (own parents : List (Option (List ℕ))) → length (or_values own parents) ≡ length own
length-or [] parents = refl
length-or (v ∷ own) [] = refl
length-or (v ∷ own) (p ∷ parents) = ap suc (length-or own parents)

length-inherited : (key : List ℕ) (own parents : List (Option (List ℕ))) → length (inherited_values key own parents) ≡ length own
length-inherited key [] parents = refl
length-inherited key (v ∷ own) [] = refl
length-inherited key (v ∷ own) (p ∷ parents) = ap suc (length-or own parents)

-- ---- one value of the parent's

pub filled-none : (own : List (Option (List ℕ))) (place : ℕ) → own ≡ changed_at place (λ value. option_or value None) own
filled-none [] place = refl
filled-none (v ∷ own) zero = ap (λ (first : Option (List ℕ)). first ∷ own) (or_none v)
filled-none (v ∷ own) (suc place) = ap (λ (rest : List (Option (List ℕ))). v ∷ rest) (filled-none own place)

pub filled-kept : (own : List (Option (List ℕ))) (place : ℕ) (o : Option (List ℕ)) → is_some (field_value place own) ≡ true
    → own ≡ changed_at place (λ value. option_or value o) own
filled-kept own place None kept = filled-none own place
filled-kept own place (Some new) kept = with_value-kept own place new kept

-- ---- values of which those before a place are inherited

abbrev pub inherited_to : ℕ → List ℕ → List (Option (List ℕ)) → List (Option (List ℕ)) → List (Option (List ℕ))
inherited_to place key own parents = take place (inherited_values key own parents) ++ drop place own

pub inherited-first : (key : List ℕ) (own parents : List (Option (List ℕ))) →
    changed_at 0 (λ value. Some key) own ≡ inherited_to 1 key (changed_at 0 (λ value. Some key) own) parents
inherited-first key [] parents = refl
inherited-first key (v ∷ own) [] = refl
inherited-first key (v ∷ own) (p ∷ parents) = refl

-- the first value is the parent's key, whatever it was
pub inherited-over : (key : List ℕ) (own parents : List (Option (List ℕ))) → inherited_values key (changed_at 0 (λ value. Some key) own) parents
    ≡ inherited_values key own parents
inherited-over key [] parents = refl
inherited-over key (v ∷ own) [] = refl
inherited-over key (v ∷ own) (p ∷ parents) = refl

none-next : (place : ℕ) (own : List (Option (List ℕ))) → changed_at place (λ value. option_or value None) (take place own ++ drop place own)
    ≡ take (suc place) own ++ drop (suc place) own
none-next zero [] = refl
none-next (suc place) [] = refl
none-next zero (v ∷ own) = ap (λ (first : Option (List ℕ)). first ∷ own) (sym (or_none v))
none-next (suc place) (v ∷ own) = ap (λ (rest : List (Option (List ℕ))). v ∷ rest) (none-next place own)

or-next : (place : ℕ) (own parents : List (Option (List ℕ))) →
    changed_at place (λ value. option_or value (field_value place parents)) (take place (or_values own parents) ++ drop place own)
    ≡ take (suc place) (or_values own parents) ++ drop (suc place) own
or-next zero [] parents = refl
or-next (suc place) [] parents = refl
or-next place (v ∷ own) [] = none-next place (v ∷ own)
or-next zero (v ∷ own) (p ∷ parents) = refl
or-next (suc place) (v ∷ own) (p ∷ parents) = ap (λ (rest : List (Option (List ℕ))). option_or v p ∷ rest) (or-next place own parents)

inherited-behind : (place : ℕ) (key : List ℕ) (own parents : List (Option (List ℕ))) →
    changed_at (suc place) (λ value. option_or value (field_value (suc place) parents)) (inherited_to (suc place) key own parents)
    ≡ inherited_to (suc (suc place)) key own parents
inherited-behind place key [] parents = refl
inherited-behind place key (v ∷ own) [] = ap (λ (rest : List (Option (List ℕ))). Some key ∷ rest) (none-next place own)
inherited-behind place key (v ∷ own) (p ∷ parents) = ap (λ (rest : List (Option (List ℕ))). Some key ∷ rest) (or-next place own parents)

pub inherited-next : (place : ℕ) (key : List ℕ) (own parents : List (Option (List ℕ))) → 0 < place →
    changed_at place (λ value. option_or value (field_value place parents)) (inherited_to place key own parents) ≡ inherited_to (place + 1) key own parents
inherited-next zero key own parents behind = absurd (omega arith)
inherited-next (suc place) key own parents behind = inherited-behind place key own parents
    ∙ ap (λ n. inherited_to n key own parents) (sym (add-one (suc place)))

pub inherited-whole : (place : ℕ) (key : List ℕ) (own parents : List (Option (List ℕ))) → length own ≤ place → inherited_to place key own parents
    ≡ inherited_values key own parents
inherited-whole place key own parents past =
    ap (λ rest. take place (inherited_values key own parents) ++ rest) (drop_all place own past)
    ∙ append-nil (take place (inherited_values key own parents))
    ∙ take_all place (inherited_values key own parents) (omega (arith, length-inherited key own parents))
