use Rattle.std.proofs.Common.{◌∙◌, sym}
use Rattle.btx_c.proofs.laws.never_asks.Goals as goal

pub returns : goal.returns
returns c = λ files job none another. another.differ (none another.some another.options another.budget
    ∙ sym (none another.others another.options another.budget))
