use Rattle.std.proofs.Common.{OnOk, subst, ap, ◌∙◌}
use Rattle.btx_bst.specs.laws.StylePlaces.{StylePlaces, places_of}
use Rattle.btx_run.specs.refinement.Product.{work_in}
use Rattle.btx_step.specs.language.Jobs.{Job}
use Rattle.btx_where.specs.Events.{Explains}
use Rattle.btx_where.proofs.JobLemmas.{read_is}
use Rattle.btx_where.proofs.runner.explain_found.Goals as goal

pub returns-clause-notes : goal.returns-clause-notes
returns-clause-notes g c =
    let work : Job = work_in c.args.job.now c.args.found.now c.args.options.now in
    subst (λ (places : StylePlaces). OnOk c.explain.result (Explains work c.args.counts places c.args.notes.now.items c.explain.new.notes.items))
    (c.in_ok-placed.ensures.places ∙ ap (λ name. places_of name c.bytes.result.now) c.name.ensures ∙ ap (places_of c.args.found.now.style.name) c.bytes.ensures)
    (subst (λ (work : Job). OnOk c.explain.result (Explains work c.args.counts c.in_ok-placed.placed.places c.args.notes.now.items c.explain.new.notes.items))
    (c.new-job.ensures ∙ read_is c.args.job.now c.args.found.now c.args.options.now c.in_ok-placed.placed.style c.in_ok-library.library _ _
    c.in_ok-placed.ensures.style.0 c.name.ensures c.bytes.ensures c.in_ok-library.ensures.library) c.explain.ensures.notes)
