use Rattle.std.proofs.Common.{inr, ◌∙◌, ap}
use Rattle.std.proofs.lemmas.Result.{IfOk-weaker}
use Rattle.btx_aux.specs.refinement.Reads.{closed}
use Rattle.btx_aux.proofs.AnswerLemmas.{by_map, on_err, shown_by}
use Rattle.btx_aux.proofs.JobLemmas.{closed-topped}
use Rattle.btx_aux.proofs.citations.read_aux.Goals as goal

pub returns-clause-job : goal.returns-clause-job
returns-clause-job g c =
    let top = c.args.top.now in
    IfOk-weaker c.close.result _ _ (λ job closes. shown_by
    (by_map c.in_ok-read_top.ensures.draft (λ names asks. asks) (λ files r. closes ∙ ap closed r ∙ closed-topped files top))) c.close.ensures.job

pub returns-clause-answered : goal.returns-clause-answered
returns-clause-answered g c =
    let top = c.args.top.now in
    IfOk-weaker c.close.result _ _ (λ job closes. by_map c.in_ok-read_top.ensures.draft (λ names asks. asks)
    (λ files r. closes ∙ ap closed r ∙ closed-topped files top)) c.close.ensures.job

pub returns-clause-asked : goal.returns-clause-asked
returns-clause-asked g c = on_err c.close.result (by_map c.in_ok-read_top.ensures.draft (λ names asks. inr asks) (λ files is. tt))
