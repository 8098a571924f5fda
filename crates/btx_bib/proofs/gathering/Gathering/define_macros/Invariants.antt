use Rattle.std.proofs.Common.{◌≡◌, drop}
use Rattle.btx_bib.specs.refinement.Readings.{kept_macros}
use Rattle.btx_bib.proofs.gathering.Gathering.define_macros.Given as goal

-- the macros that are left do the rest
abbrev pub invariant-loop-index : goal.invariant-loop-index
invariant-loop-index l = kept_macros l.self (drop l.index l.macros) ≡ kept_macros l.initial.self l.macros
