-- What clauses see of the parts of a value in the code.
use Rattle.std.specs.Prelude.{ℕ, List, [], ◌∷◌, Option, None, Some}
use Rattle.std.specs.Borrow.{Bor}
use Rattle.btx_bib.specs.language.Grammar.Values as spec
use Rattle.btx_bib.specs.refinement.Grammar.Values as refined
use Rattle.btx_bib.specs.declared.grammar.parts.StringName.{StringName}
use Rattle.btx_bib.specs.declared.grammar.parts.Part.{Part}
use Rattle.btx_bib.specs.declared.grammar.parts.Part.TheVariants.{Braced, Quoted, Digits, Named}

-- the name of a string, without where it lies in memory
abbrev pub string_view : StringName → spec.StringName
string_view string = record { name = string.name.now; rest = string.rest.now }

-- a part, without where its text lies in memory
abbrev pub part_view : Part → spec.Part
part_view (Braced text) = spec.Braced text.now
part_view (Quoted text) = spec.Quoted text.now
part_view (Digits text) = spec.Digits text.now
part_view (Named string) = spec.Named (string_view string)

-- the parts from a text on, if one is given
abbrev pub parts_from : Option (Bor (List ℕ)) → List spec.Part
parts_from None = []
parts_from (Some text) = refined.parts_read (spec.value_at text.now)

-- they were read whole
abbrev pub AreWhole : Option (Bor (List ℕ)) → Type 0
AreWhole None = Unit {0}
AreWhole (Some text) = refined.IsWhole (spec.value_at text.now)

-- a part that was read already, and the parts from a text on
abbrev pub parts_with : Option Part → Option (Bor (List ℕ)) → List spec.Part
parts_with None others = parts_from others
parts_with (Some part) others = part_view part ∷ parts_from others
