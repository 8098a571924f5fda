-- What an entry of a database gives: its values for the declared fields, the number of its type, and its parent.
use Rattle.std.specs.Prelude.{ℕ, zero, suc, nat_eq, Bool, false, List, [], ◌∷◌, Option, None}
use Rattle.std.specs.List.{find}
use Rattle.std.specs.Option.{option_map, option_map_or}
use Rattle.btx_text.specs.language.Keys.{folded}
use Rattle.btx_bib.specs.declared.slots.Body.{Body}
use Rattle.btx_bib.specs.language.Request.{Request}

-- a field: its name, and its value's text
pub record KeptField : Type 0 where
  pub name : List ℕ
  pub value : List ℕ

-- an entry as a database gives it: the word of its type (`kind`, such as `book`), its key, and those of its fields that are kept
pub record Given : Type 0 where
  pub kind : List ℕ
  pub key : List ℕ
  pub fields : List KeptField

-- the value of an entry's first field whose number is `number`; nothing if it has none
abbrev pub value_in : Request → List KeptField → ℕ → Option (List ℕ)
value_in wanted fields number =
    let has_number : KeptField → Bool = λ field.
    option_map_or (λ (other : ℕ). nat_eq other number)
    (wanted.field (folded field.name)) false in
    option_map (λ (field : KeptField). field.value) (find has_number fields)

-- the values of `count` fields, from field number `first` on
abbrev pub values_from : Request → List KeptField → ℕ → ℕ → List (Option (List ℕ))
values_from wanted fields first zero = []
values_from wanted fields first (suc count) = value_in wanted fields first ∷ values_from wanted fields (suc first) count

-- an entry's values: for each declared field, by its number, the value, or that the entry lacks it
abbrev pub field_values : Request → List KeptField → List (Option (List ℕ))
field_values wanted fields = values_from wanted fields 0 wanted.count

-- the value of the first declared field, which is `crossref`: the key of the parent
abbrev pub parent_in : List (Option (List ℕ)) → Option (List ℕ)
parent_in [] = None
parent_in (value ∷ values) = value

-- an entry of a database as the list has it: the word of its type becomes the number of the style's function, and its fields become values, by the
-- fields' numbers
unfoldable pub body_of : Request → Given → Body
body_of wanted given = record { kind = wanted.kind (folded given.kind); values = field_values wanted given.fields }
