use Rattle.std.proofs.Common.{IfSome, subst}
use Rattle.btx_where.specs.Events.{steps_before}
use Rattle.btx_where.specs.Scenes.{IsScene}
use Rattle.btx_where.proofs.EventLemmas.{still_holds}
use Rattle.btx_where.proofs.explainer.Explainer.scene_of.Goals as goal

pub returns-clause-run : goal.returns-clause-run
returns-clause-run g c =
    still_holds c.in_ok-found.found c.in_item.result
    (λ scene. IsScene c.args.self.now.job.now c.args.self.now.counts (steps_before c.args.event.now.word c.args.event.now.moment.steps) scene)
    (subst (λ steps. IfSome c.in_ok-found.found (λ scene. IsScene c.args.self.now.job.now c.args.self.now.counts steps scene)) c.steps_before.ensures
    c.in_ok-found.ensures) c.in_item.ensures.same
