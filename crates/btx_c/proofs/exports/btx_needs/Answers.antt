use Rattle.std.proofs.Common.{arith}
use Rattle.std.proofs.lemmas.List.{nil_from_length}
use Rattle.btx_c.proofs.exports.btx_needs.Goals as goal

pub returns-in-Ok-Names-clause-complete : goal.returns-in-Ok-Names-clause-complete
returns-in-Ok-Names-clause-complete c = λ done none.
    c.in-Ok-Names.ensures.complete (rw c.in-Ok-Names.field-0-is
    (nil_from_length c.in-Ok-Names.asked.items (grind (arith, none, c.copy_out.ensures.len, c.as_slice.ensures.value))))

pub returns-in-Ok-Names-clause-whole : goal.returns-in-Ok-Names-clause-whole
returns-in-Ok-Names-clause-whole c = λ done none.
    c.in-Ok-Names.ensures.whole (rw c.in-Ok-Names.field-0-is
    (nil_from_length c.in-Ok-Names.asked.items (grind (arith, none, c.copy_out.ensures.len, c.as_slice.ensures.value))))

pub returns-in-Ok-Ends-clause-ended : goal.returns-in-Ok-Ends-clause-ended
returns-in-Ok-Ends-clause-ended c = λ ends. c.in-Ok-Ends.ensures.ended c.in-Ok-Ends.field-0-is
