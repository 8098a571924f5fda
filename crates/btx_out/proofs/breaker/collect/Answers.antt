use Rattle.std.proofs.Common.{◌≡◌, ◌+◌, ◌-◌, ◌<◌, length, arith}
use Rattle.btx_out.proofs.GoingOnLemmas.{goes_collected, goes_full}
use Rattle.btx_out.proofs.breaker.collect.Goals as goal

pub returns-then-bytes-room-clause-goes_on : goal.returns-then-bytes-room-clause-goes_on
returns-then-bytes-room-clause-goes_on c =
    let kept = rw c.unwrap.ensures at c.try_extend_from_slice.ensures.ok in
    let fits : length c.args.bytes.now < c.args.line_length + 1 - length c.args.line.now.items = omega arith in
    goes_collected c.args.line_length _ _ c.args.bytes.now _ c.requires.kept fits kept

pub returns-clause-goes_on : goal.returns-clause-goes_on
returns-clause-goes_on c =
    let full = rw c.unwrap-2.ensures at c.try_extend_from_slice-2.ensures.ok in
    let room : length c.split_at.result.0.now ≡ c.args.line_length + 1 - length c.args.line.now.items = omega arith in
    goes_full c.args.line_length _ _ c.args.bytes.now _ _ _ _ _ c.requires.kept c.split_at.ensures.by_index.0 room full c.break_full-state.ensures.state
    c.break_full-state.ensures.committed
