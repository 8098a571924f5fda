use Rattle.std.proofs.Common.{rules, ◌≡◌, ◌<◌, length}
use Rattle.btx_strings.proofs.PurifyLemmas.{next_group, less_is_left, nothing_behind, nothing_left}
use Rattle.btx_strings.proofs.purified.purify_into.Goals as goal

pub loop-rest-smaller : goal.loop-rest-smaller
loop-rest-smaller c =
    let some : 0 < length c.loop-rest.rest.now = search rules in
    less_is_left c.loop-rest.rest.now some c.run_len.ensures c.split_at.ensures.back c.group_len.ensures c.split_at-in-loop-rest.ensures.back

pub loop-rest-preserved : goal.loop-rest-preserved
loop-rest-preserved c =
    next_group c.loop-rest.rest.now c.loop-rest.text.items
    c.loop-rest.invariant c.run_len.ensures c.split_at.ensures.front c.in_ok-extend_from_slice.ensures.items c.split_at.ensures.back c.group_len.ensures
    c.split_at-in-loop-rest.ensures.front c.split_at-in-loop-rest.ensures.back c.in_ok-push_group.ensures

pub returns-then-is_empty : goal.returns-then-is_empty
returns-then-is_empty c =
    let none : length c.split_at.result.1.now ≡ 0 = search rules in
    nothing_behind c.loop-rest.rest.now c.loop-rest.text.items
    c.loop-rest.invariant c.run_len.ensures c.split_at.ensures.front c.in_ok-extend_from_slice.ensures.items c.split_at.ensures.back none

pub returns : goal.returns
returns c =
    let none : length c.loop-rest.rest.now ≡ 0 = search rules in
    nothing_left c.loop-rest.rest.now c.loop-rest.text.items c.loop-rest.invariant none
