use Rattle.std.proofs.Common.{◌+◌, ◌-◌, ◌*◌, drop, take}
use Rattle.btx_check.specs.Inclusion.{Sub}
use Rattle.btx_check.specs.Answers.{Stepped, Reached, TypesStepped}
use Rattle.btx_check.specs.Memos.{Remembers}
use Rattle.btx_check.proofs.running.+search.Given as goal

abbrev pub decreases-run_where : goal.decreases-run_where
decreases-run_where l = 8 * l.room.fuel + 1

abbrev pub decreases-run_all : goal.decreases-run_all
decreases-run_all l = 8 * l.room.fuel + 2

abbrev pub decreases-run_if : goal.decreases-run_if
decreases-run_if l = 8 * l.room.fuel + 2

abbrev pub decreases-run_loop : goal.decreases-run_loop
decreases-run_loop l = 8 * l.room.fuel + 4

abbrev pub decreases-run_next : goal.decreases-run_next
decreases-run_next l = 8 * l.room.fuel + 3

abbrev pub decreases-run_sure : goal.decreases-run_sure
decreases-run_sure l = 8 * l.room.fuel

abbrev pub decreases-run_token : goal.decreases-run_token
decreases-run_token l = 8 * l.room.fuel + 1

abbrev pub decreases-run_types : goal.decreases-run_types
decreases-run_types l = 8 * l.room.fuel + 2

abbrev pub decreases-run_user : goal.decreases-run_user
decreases-run_user l = 8 * l.room.fuel + 6

abbrev pub decreases-run_anew : goal.decreases-run_anew
decreases-run_anew l = 8 * l.room.fuel + 5

abbrev pub decreases-run_plainly : goal.decreases-run_plainly
decreases-run_plainly l = 8 * l.room.fuel + 5

abbrev pub decreases-run_body : goal.decreases-run_body
decreases-run_body l = 8 * l.room.fuel + 4

abbrev pub decreases-run_while : goal.decreases-run_while
decreases-run_while l = 8 * l.room.fuel + 5

abbrev pub invariant-run_all-loop-a : goal.invariant-run_all-loop-a
invariant-run_all-loop-a l = Stepped l.style l.allowed l.t l.yielded l.room.deep l.room.loops l.initial.out.items l.out.items
    × Remembers l.style l.allowed l.memo

abbrev pub invariant-run_loop-loop-round : goal.invariant-run_loop-loop-round
invariant-run_loop-loop-round l = Sub l.initial.out.items l.out.items × Remembers l.style l.allowed l.memo

abbrev pub invariant-run_types-loop-number : goal.invariant-run_types-loop-number
invariant-run_types-loop-number l = TypesStepped l.style l.allowed (take l.number-index l.allowed) l.fn.a l.room.deep l.room.loops l.initial.out.items
    l.out.items × Remembers l.style l.allowed l.memo

abbrev pub invariant-run_body-loop-t : goal.invariant-run_body-loop-t
invariant-run_body-loop-t l = Reached l.style l.allowed l.body (drop l.t-index l.body) l.fn.a (l.fn.room.deep - 1) l.fn.room.loops l.states.items
    × Remembers l.style l.allowed l.memo
