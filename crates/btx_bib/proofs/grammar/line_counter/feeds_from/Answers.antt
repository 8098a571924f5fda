use Rattle.std.proofs.Common.{◌≡◌, ◌+◌, take, arith}
use Rattle.btx_bib.specs.refinement.Grammar.PlaceLines.{feeds_in}
use Rattle.btx_bib.proofs.GrammarLemmas.PlaceLemmas.{feeds-block, feeds-fit, feeds-on}
use Rattle.btx_bib.proofs.grammar.line_counter.feeds_from.Goals as goal

pub loop-counted-preserved : goal.loop-counted-preserved
loop-counted-preserved c = (
  omega (arith, c.loop-counted-test.true, c.loop-counted.invariant.0),
  rw (c.loop-counted.invariant.1, c.feeds_in_block-feeds.ensures) (feeds-block c.args.text.now c.loop-counted.counted),
)

pub overflow_add-feeds : goal.overflow_add-feeds
overflow_add-feeds c =
    let text = c.args.text.now in
    let sum : c.loop-counted.feeds + c.feeds_in_block-feeds.result ≡ feeds_in (take (c.loop-counted.counted + 32) text) =
    rw (c.loop-counted.invariant.1, c.feeds_in_block-feeds.ensures) (feeds-block text c.loop-counted.counted) in
    omega (arith, sum, feeds-fit text (c.loop-counted.counted + 32), c.loop-counted-test.true)

pub overflow_add-result : goal.overflow_add-result
overflow_add-result c =
    let text = c.args.text.now in
    let sum : c.loop-counted.feeds + c.feeds_in_rest.result ≡ feeds_in (take c.args.place text) =
    rw (c.loop-counted.invariant.1, c.feeds_in_rest.ensures) (feeds-on text c.loop-counted.counted c.args.place c.loop-counted.invariant.0) in
    omega (arith, sum, feeds-fit text c.args.place)

pub returns-clause-value : goal.returns-clause-value
returns-clause-value c = rw (c.loop-counted.invariant.1, c.feeds_in_rest.ensures)
    (feeds-on c.args.text.now c.loop-counted.counted c.args.place c.loop-counted.invariant.0)

pub returns-clause-bound : goal.returns-clause-bound
returns-clause-bound c =
    let text = c.args.text.now in
    let sum : c.loop-counted.feeds + c.feeds_in_rest.result ≡ feeds_in (take c.args.place text) =
    rw (c.loop-counted.invariant.1, c.feeds_in_rest.ensures) (feeds-on text c.loop-counted.counted c.args.place c.loop-counted.invariant.0) in
    omega (arith, sum, feeds-fit text c.args.place)
