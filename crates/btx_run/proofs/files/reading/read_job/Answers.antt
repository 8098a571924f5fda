use Rattle.std.proofs.Common.{◌≡◌, ◌∙◌, inl, IfOk, OnErr, refl, subst}
use Rattle.btx_aux.specs.refinement.Answers.{Answered, AsksTop, AsksTopAtMost, ByAnswers}
use Rattle.btx_aux.proofs.AnswerLemmas.{by_none, on_err}
use Rattle.btx_aux.specs.language.Job.{AuxJob, job_of_files}
use Rattle.btx_run.proofs.files.reading.read_job.Goals as goal

pub returns-clause-answered : goal.returns-clause-answered
returns-clause-answered g c =
    subst (λ top. IfOk c.read_aux.result (λ (job : AuxJob). ByAnswers (g.F.Finder.content c.args.finder.now) (g.F.Finder.answers c.args.finder.now)
    (g.F.Finder.answers c.read_aux.new.finder) (AsksTop top) (λ files. job ≡ job_of_files files top)))
    (c.as_slice.ensures.value ∙ c.in_ok-top.ensures) c.read_aux.ensures.answered

pub returns-clause-asked : goal.returns-clause-asked
returns-clause-asked g c =
    subst (λ top. OnErr c.read_aux.result
    (Answered (g.F.Finder.content c.args.finder.now) (g.F.Finder.answers c.args.finder.now) (g.F.Finder.answers c.read_aux.new.finder) (AsksTopAtMost top)))
    (c.as_slice.ensures.value ∙ c.in_ok-top.ensures) c.read_aux.ensures.asked

pub returns-in_err-top-clause-asked : goal.returns-in_err-top-clause-asked
returns-in_err-top-clause-asked g c = on_err c.from_residual.result (by_none refl (inl refl) (λ files. tt))
