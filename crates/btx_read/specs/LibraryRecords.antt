-- The library of a job as records: each entry of its list, with the fields that a run has of it.
use Rattle.std.specs.Prelude.{◌≡◌, ℕ, zero, suc, List, [], ◌∷◌, ◌++◌, Option, None, Some, length}
use Rattle.std.specs.List.{flat_map}
use Rattle.std.specs.Option.{option_map_or}
use Rattle.btx_bib.specs.declared.entry.Entry.{Entry}
use Rattle.btx_bib.specs.language.Library.{Library}
use Rattle.btx_bib.specs.language.Values.{field_value}
use Rattle.btx_bst.specs.declared.callee.Callee.TheVariants as callee
use Rattle.btx_bst.specs.language.Names.{name_of}
use Rattle.btx_bst.specs.language.Style.{Style}
use Rattle.btx_read.specs.declared.content.Content.{Content}
use Rattle.btx_read.specs.declared.content.Content.TheVariants as content
use Rattle.btx_read.specs.declared.record.Record.{Record}
use Rattle.btx_read.specs.declared.rows.Rows.{Rows}
use Rattle.btx_read.specs.Rows.{rows_along, texts_of}

-- the word for the type of an entry: the name of the style's function; no bytes for a type that the style doesn't have
abbrev pub type_word : Style → Option ℕ → List ℕ
type_word style None = []
type_word style (Some number) = name_of style.names (callee.User number)

-- a record that has no place in a file
abbrev pub placeless : Content → Record
placeless says = record { content = says; start = 0; end = 0; line = 0 }

-- the record of the field of a number: its name, and its value once the entry has inherited; none if it has no value
abbrev pub field_records : Style → Entry → ℕ → List Record
field_records style entry number =
    option_map_or (λ (value : List ℕ). placeless (content.Field (name_of style.names (callee.Field number)) (Some value)) ∷ [])
    (field_value number entry.values) []

-- the records of `count` fields, from field number `first` on
abbrev pub fields_from : Style → Entry → ℕ → ℕ → List Record
fields_from style entry first zero = []
fields_from style entry first (suc count) = field_records style entry first ++ fields_from style entry (suc first) count

-- the records of an entry: its type and its key; its fields in the order in which the style has them, of which the first is `crossref`; and its end
abbrev pub entry_records : Style → Entry → List Record
entry_records style entry =
    placeless (content.Entry (type_word style entry.kind) entry.key) ∷ (fields_from style entry 0 (length style.names.fields) ++ placeless content.End ∷ [])

-- the records of a library: those of its entries, in the order of the list
abbrev pub library_records : Style → Library → List Record
library_records style library = flat_map (entry_records style) library.entries

-- ---- rows that grow

-- the rows of these records were put after those that were there
pub record Adds (records : List Record) (old new : Rows) : Type 0 where
  pub rows_are : new.rows.items ≡ old.rows.items ++ rows_along [] (length old.texts.items) records
  pub texts_are : new.texts.items ≡ old.texts.items ++ flat_map (texts_of []) records
