use Rattle.std.proofs.Common.{take, true}
use Rattle.btx_check.specs.Between.{Joint, where_entry}
use Rattle.btx_check.proofs.entries.starts_of.Given as goal

abbrev pub invariant-loop-entry : goal.invariant-loop-entry
invariant-loop-entry l = Joint (where_entry true l.globals) (take l.entry-index l.entries) l.starts.items
