use Rattle.std.proofs.Common.{◌≡◌, ◌+◌, take, sum_by}
use Rattle.btx_strings.specs.language.Width.{byte_width}
use Rattle.btx_strings.proofs.widths.with_bytes.Given as goal

abbrev pub invariant-loop-byte : goal.invariant-loop-byte
invariant-loop-byte l = l.total ≡ l.initial.total + sum_by byte_width (take l.byte-index l.bytes)
