use Rattle.std.proofs.Common.{◌+◌, ◌-◌, ◌<◌, length, arith, rules}
use Rattle.btx_out.proofs.GoingOnLemmas.{goes_collected}
use Rattle.btx_out.proofs.TogetherLemmas.{together_written, together_failed}
use Rattle.btx_out.proofs.breaker.collect_lines.Goals as goal

pub returns-then-bytes-line_length-clause-goes_on : goal.returns-then-bytes-line_length-clause-goes_on
returns-then-bytes-line_length-clause-goes_on g c =
    let kept = rw c.unwrap.ensures at c.try_extend_from_slice.ensures.ok in
    let fits : length c.args.bytes.now < c.args.line_length + 1 - length c.args.line.now.items = omega arith in
    goes_collected c.args.line_length _ _ c.args.bytes.now _ c.requires.kept fits kept

pub returns-in_err-write_whole-clause-err : goal.returns-in_err-write_whole-clause-err
returns-in_err-write_whole-clause-err g c =
    let h = together_failed c.args.line_length _ _ c.args.bytes.now _ _ _ _ _ c.new-gathered.ensures c.gather-next.ensures.goes_on
    (rw c.as_slice.ensures.value at c.in_err-write_whole.ensures.err) in search rules

pub returns-clause-goes_on : goal.returns-clause-goes_on
returns-clause-goes_on g c =
    together_written c.args.line_length _ _ c.args.bytes.now _ _ _ _ _ c.new-gathered.ensures c.gather-next.ensures.goes_on
    (rw c.as_slice.ensures.value at c.in_ok-write_whole.ensures.ok)
