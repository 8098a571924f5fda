use Rattle.btx_c.proofs.AnswersLemmas.{says_always}
use Rattle.btx_c.proofs.needs.read_handed.Goals as goal

pub returns : goal.returns
returns c =
    says_always c.args.index.now c.args.name.now c.in_ok-job.job c.read_job.new.finder.answers
    (rw (c.new-finder.ensures.files, c.new-finder.ensures.others, c.new-finder.ensures.answers) at c.in_ok-job.ensures.answered) c.were_held.ensures
