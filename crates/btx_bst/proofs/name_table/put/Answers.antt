use Rattle.std.proofs.Common.{◌∙◌}
use Rattle.indexmap.proofs.CallerLemmas.{insert_entry-new}
use Rattle.btx_bst.proofs.TableLemmas.{same_name}
use Rattle.btx_bst.proofs.name_table.put.Goals as goal

pub returns-clause-table : goal.returns-clause-table
returns-clause-table g c = c.in_ok-insert.ensures.entries ∙ insert_entry-new same_name c.args.table.now c.args.name c.args.callee c.requires
