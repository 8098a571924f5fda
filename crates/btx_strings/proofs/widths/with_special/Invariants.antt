use Rattle.std.proofs.Common.{◌≡◌, ◌+◌, true, sum_by}
use Rattle.btx_strings.specs.language.Width.{glyph_width}
use Rattle.btx_strings.proofs.ControlLemmas.{kept_from}
use Rattle.btx_strings.proofs.widths.with_special.Given as goal
use Rattle.btx_strings.specs.refinement.Width.{special_width}

abbrev pub invariant-loop-glyph : goal.invariant-loop-glyph
invariant-loop-glyph l = l.total + sum_by glyph_width (kept_from (λ _. true) l.gone l.glyph-iterator) ≡ l.initial.total + special_width l.special
