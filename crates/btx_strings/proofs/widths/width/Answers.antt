use Rattle.std.proofs.Common.{arith}
use Rattle.btx_strings.proofs.WidthLemmas.{one_less}
use Rattle.btx_strings.proofs.widths.width.Goals as goal

pub with_element-total-requires : goal.with_element-total-requires
with_element-total-requires c =
    let less = one_less _ _ _ c.in-Some.ensures.steps in
    omega arith

pub loop-element-preserved : goal.loop-element-preserved
loop-element-preserved c =
    let less = one_less _ _ _ c.in-Some.ensures.steps in
    record { so_far = omega arith; bound = omega arith }
