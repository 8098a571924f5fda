use Rattle.btx_c.proofs.AnswersLemmas.{all_huge}
use Rattle.btx_c.proofs.needs.read_handed.Given as goal

-- each file of which nothing was said may be longer than any that memory holds
abbrev pub ghost-new : goal.ghost-new
ghost-new a = all_huge
