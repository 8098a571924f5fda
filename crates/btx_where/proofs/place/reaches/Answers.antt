use Rattle.std.proofs.Common.{arith}
use Rattle.btx_code.specs.refinement.Instructions.{token_of}
use Rattle.btx_where.proofs.ShownLemmas.{walked}
use Rattle.btx_where.proofs.place.reaches.Goals as goal

pub loop-at-preserved : goal.loop-at-preserved
loop-at-preserved c = record {
  within = c.instruction-instruction.ensures.within c.in_default.not-Return;
  walked = walked c.args.code.now c.args.start c.loop-at.at (token_of c.instruction-instruction.result) (omega arith) c.loop-at.invariant.walked
      (c.instruction-instruction.ensures.next c.in_default.not-Return);
}
