-- What clauses see of a field in the code.
use Rattle.std.specs.Prelude.{Option}
use Rattle.std.specs.Option.{option_map}
use Rattle.btx_bib.specs.language.Grammar.Fields as spec
use Rattle.btx_bib.specs.declared.grammar.fields.Field.{Field}

-- a field, without where its texts lie in memory
abbrev pub field_view : Field → spec.Field
field_view field = record { name = field.name.now; value = field.value }

abbrev pub more_view : Option Field → Option spec.Field
more_view more = option_map field_view more
