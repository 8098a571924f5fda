use Rattle.btx_check.specs.declared.description.Value.TheVariants as value
use Rattle.btx_check.proofs.BoundLemmas.{matches_same, matches_other}
use Rattle.btx_check.proofs.bounds.if_equal.Goals as goal

pub returns-clause-so : goal.returns-clause-so
returns-clause-so c = matches_same (value.Integer c.args.low c.args.high) (value.Integer c.args.low2 c.args.high2) _ c.both-same.ensures

pub returns-clause-other : goal.returns-clause-other
returns-clause-other c = matches_other (value.Integer c.args.low c.args.high) (value.Integer c.args.low2 c.args.high2) _ _ c.other_than.ensures c.other_than-2.ensures
