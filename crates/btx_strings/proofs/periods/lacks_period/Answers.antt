use Rattle.btx_strings.proofs.PeriodLemmas.{period_added}
use Rattle.btx_strings.proofs.periods.lacks_period.Goals as goal

pub returns : goal.returns
returns c = period_added c.args.string.now c.is_empty.result c.is_ended.result c.is_empty.ensures c.if-is_empty.false c.is_ended.ensures
