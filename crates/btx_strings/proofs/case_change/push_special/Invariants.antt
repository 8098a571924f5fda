use Rattle.std.proofs.Common.{◌≡◌, ◌++◌}
use Rattle.std.specs.List.{flat_map}
use Rattle.btx_strings.specs.language.Case.{cased_glyph, becomes_letters}
use Rattle.btx_strings.proofs.ControlLemmas.{kept_from}
use Rattle.btx_strings.proofs.case_change.push_special.Given as goal
use Rattle.btx_strings.specs.refinement.Case.{cased_special}

abbrev pub invariant-loop-glyph : goal.invariant-loop-glyph
invariant-loop-glyph l =
    l.text.items ++ flat_map (cased_glyph l.conversion) (kept_from (becomes_letters l.conversion) l.gone l.glyph-iterator)
    ≡ l.initial.text.items ++ cased_special l.conversion l.special
