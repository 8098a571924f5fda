use Rattle.std.proofs.Common.{◌≡◌, ◌<◌}
use Rattle.btx_bib.proofs.ValueLemmas.{inherited_to}
use Rattle.btx_bib.proofs.values.Values.inherit.Given as goal

abbrev pub invariant-loop-field : goal.invariant-loop-field
invariant-loop-field l = (l.self ≡ inherited_to l.field l.key l.initial.self l.parent) × (0 < l.field)
