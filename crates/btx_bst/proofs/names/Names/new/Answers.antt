use Rattle.btx_bst.proofs.TableLemmas.{table-new}
use Rattle.btx_bst.proofs.names.Names.new.Goals as goal

pub invariant_of-result : goal.invariant_of-result
invariant_of-result c =
    rw (c.new.ensures.items, c.new-2.ensures.items, c.new-3.ensures.items, c.new-4.ensures.items, c.new-5.ensures.items, c.new-6.ensures.items)
    (table-new c.in_ok-built_in_table.field-0.entries c.in_ok-built_in_table.ensures)
