use Rattle.std.proofs.Common.{subst}
use Rattle.std.proofs.lemmas.Result.{on_ok_weaker}
use Rattle.btx_aux.specs.language.Job.{AuxJob}
use Rattle.btx_run.specs.refinement.Files.Readings.{files_read}
use Rattle.btx_where.specs.Events.{ExplainsReading}
use Rattle.btx_where.proofs.JobLemmas.{of_both}
use Rattle.btx_where.proofs.runner.locate.Goals as goal

pub returns-clause-notes : goal.returns-clause-notes
returns-clause-notes g c =
    on_ok_weaker c.explain_job.result (λ explains. of_both (g.F.Finder.content c.args.finder.now) (g.F.Finder.content c.read_job.new.finder) _ _ _
    c.read_job.ensures.stays c.in_ok-job.ensures.job explains
    (λ files is notes. subst (λ (job : AuxJob). ExplainsReading job (files_read files job) c.args.options.now c.args.notes.now.items
    c.explain_job.new.notes.items) is notes)) c.explain_job.ensures.notes
