-- The values of the declared fields, one field after the other.
use Rattle.std.specs.Prelude.{ℕ, zero, suc, List, [], ◌∷◌, Option, None, Some}
use Rattle.std.specs.Option.{option_or, option_and_then}
use Rattle.btx_bib.specs.refinement.Finding.{changed_at}
use Rattle.btx_bib.specs.language.Values.{field_value}

-- the value at a place of the list, if there is such a place
abbrev pub value_by : Option ℕ → List (Option (List ℕ)) → Option (List ℕ)
value_by place values = option_and_then (λ (number : ℕ). field_value number values) place

-- no value
abbrev pub blanks : ℕ → List (Option (List ℕ))
blanks zero = []
blanks (suc count) = None ∷ blanks count

-- the values with one put where none is
abbrev pub with_value : Option ℕ → List ℕ → List (Option (List ℕ)) → List (Option (List ℕ))
with_value None new values = values
with_value (Some place) new values = changed_at place (λ (old : Option (List ℕ)). option_or old (Some new)) values
