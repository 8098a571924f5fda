use Rattle.btx_bst.proofs.PredefinedLemmas.{new-global_max}
use Rattle.btx_bst.proofs.style.add_predefined.Goals as goal

pub add-requires-4-clause-new : goal.add-requires-4-clause-new
add-requires-4-clause-new c =
    rw (
      c.in_ok-add-3.ensures,
      c.in_ok-add-2.ensures,
      c.in_ok-add.ensures,
      c.requires,
      c.in_ok-of.ensures,
      c.in_ok-of-2.ensures,
      c.in_ok-of-3.ensures,
      c.in_ok-of-4.ensures,
    )
    new-global_max
