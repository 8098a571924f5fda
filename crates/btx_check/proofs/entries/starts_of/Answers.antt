use Rattle.std.proofs.Common.{arith, subst, sym, List, [], true}
use Rattle.std.proofs.lemmas.List.{take_all}
use Rattle.btx_check.specs.States.{Abstract}
use Rattle.btx_check.specs.Between.{Joint, where_entry}
use Rattle.btx_check.proofs.EntryLemmas.{joint_none, joint_step}
use Rattle.btx_check.proofs.entries.starts_of.Goals as goal

pub loop-entry-init : goal.loop-entry-init
loop-entry-init c = subst (λ (xs : List Abstract). Joint (where_entry true c.args.globals.now) [] xs) (sym c.new-starts.ensures.items) (joint_none _)

pub loop-entry-preserved : goal.loop-entry-preserved
loop-entry-preserved c = joint_step _ _ _ _ _ _ _ (omega arith) c.entry-item.is c.in_ok-start.ensures c.in_ok-push.ensures.items c.loop-entry.invariant

pub returns : goal.returns
returns c = subst (λ (xs : List Abstract). Joint (where_entry true c.args.globals.now) xs c.loop-entry.starts.items)
    (take_all c.loop-entry.entry-index c.args.entries.now (omega arith)) c.loop-entry.invariant
