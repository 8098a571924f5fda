use Rattle.std.proofs.lemmas.Result.{on_ok_weaker}
use Rattle.btx_run.specs.refinement.Files.Readings.{files_read}
use Rattle.btx_where.proofs.JobLemmas.{of_files, read_explained}
use Rattle.btx_where.proofs.runner.explain_job.Goals as goal

pub returns-clause-notes : goal.returns-clause-notes
returns-clause-notes g c =
    on_ok_weaker c.after_files.result (λ explains. of_files (g.F.Finder.content c.args.finder.now) _ _ c.in_ok-read.ensures.reads
    (λ files read. read_explained c.args.job.now c.in_ok-read.field-0 c.args.options.now c.counts-counts.result _ _ _ _ _ (files_read files c.args.job.now)
    c.args.notes.now.items c.after_files.new.notes.items
    c.counts-counts.ensures.warnings c.counts-counts.ensures.errors c.new-journal.ensures.warnings c.new-journal.ensures.errors read explains))
    c.after_files.ensures.notes
