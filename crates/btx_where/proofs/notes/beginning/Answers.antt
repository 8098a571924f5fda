use Rattle.std.proofs.Common.{arith, sym}
use Rattle.std.proofs.lemmas.List.{take_all}
use Rattle.btx_where.proofs.NoteLemmas.{length_of_first}
use Rattle.btx_where.proofs.notes.beginning.Goals as goal

pub slice_bounds-result-end : goal.slice_bounds-result-end
slice_bounds-result-end c = length_of_first 200 c.args.text.now (omega (arith, c.if-text-le-MOST_SHOWN.false))

pub returns-then-text-le-MOST_SHOWN : goal.returns-then-text-le-MOST_SHOWN
returns-then-text-le-MOST_SHOWN c = sym (take_all 200 c.args.text.now c.if-text-le-MOST_SHOWN.true)
