-- Names of parts of an entry.
use Rattle.std.specs.Prelude.{ℕ, Option, List, nat_eq, Bool, false}
use Rattle.btx_text.specs.language.Keys.{folded}
use Rattle.btx_bib.specs.language.Request.{Request}
use Rattle.btx_bib.specs.language.Entries.{KeptField, Given, field_values, parent_in}
use Rattle.std.specs.Option.{option_map_or}

-- a number is there, and it is `number`
abbrev pub is_number : ℕ → Option ℕ → Bool
is_number number found = option_map_or (λ (other : ℕ). nat_eq other number) found false

-- the number of the declared field that a field is, if it is one
abbrev pub field_number : Request → KeptField → Option ℕ
field_number wanted field = wanted.field (folded field.name)

-- the key of the parent of an entry, if it has one
abbrev pub parent_of : Request → Given → Option (List ℕ)
parent_of wanted given = parent_in (field_values wanted given.fields)
