use Rattle.std.proofs.Common.{◌≡◌, [], fold, drop}
use Rattle.btx_c.specs.Read.{handed_strings, with_handed}
use Rattle.btx_c.proofs.read.known.Given as goal

-- the strings that are left do the rest
abbrev pub invariant-loop-string : goal.invariant-loop-string
invariant-loop-string l = fold with_handed l.known (drop l.string-index l.strings) ≡ handed_strings l.strings
