use Rattle.std.proofs.Common.{◌∙◌, IfOk, IfSome, ap, ap₂, subst}
use Rattle.btx_machine.specs.laws.Reports.{log_counts}
use Rattle.btx_machine.specs.refinement.Outputs.{Journal}
use Rattle.btx_where.specs.Scenes.{IsScene}
use Rattle.btx_where.proofs.stops.scene_after.Goals as goal

pub returns : goal.returns
returns g c =
    subst (λ counts. IfOk c.stop.result (λ found. IfSome found (λ scene. IsScene c.args.job.now counts c.args.budget scene)))
    (ap₂ log_counts (ap (λ (log : Journal). log.warnings) c.new-outputs.ensures.log ∙ c.new-2.ensures.warnings)
    (ap (λ (log : Journal). log.errors) c.new-outputs.ensures.log ∙ c.new-2.ensures.errors)) c.stop.ensures
