-- Parts of definitions by their names.
use Rattle.std.specs.Prelude.{ℕ, List, Option}
use Rattle.btx_bib.specs.declared.grammar.byte_sets.Delimiter.{Delimiter}
use Rattle.btx_bib.specs.declared.grammar.byte_sets.ByteSet.TheVariants.{Gap}
use Rattle.btx_bib.specs.language.Grammar.ByteSets.{past}
use Rattle.btx_bib.specs.language.Grammar.Tokens.{Parsed}
use Rattle.btx_bib.specs.language.Grammar.Fields.{Field, more_in}

-- what stands next in an entry, after whitespace: a field, or none and the entry is at its end
abbrev pub more_at : Delimiter → List ℕ → Parsed (Option Field)
more_at delimiter text = more_in delimiter (past Gap text)
