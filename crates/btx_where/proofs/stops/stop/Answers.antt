use Rattle.std.proofs.Common.{◌∙◌, ◌-◌, [], ap, arith, subst, sym}
use Rattle.btx_bst.specs.language.Style.{Style}
use Rattle.btx_machine.specs.language.Items.{do_items}
use Rattle.btx_machine.specs.refinement.Outputs.{Work}
use Rattle.btx_machine.specs.refinement.Written.{Comes}
use Rattle.btx_where.specs.Rests.{StandsInStyle}
use Rattle.btx_where.proofs.SceneLemmas.{shows}
use Rattle.btx_where.proofs.stops.stop.Goals as goal

pub returns-in-Here : goal.returns-in-Here
returns-in-Here g c =
    let job = c.args.job.now in
    let taken = c.args.budget - c.do_items.new.left in
    shows job c.in_ok-code.code c.do_items.new.at c.do_items.new.marks c.args.work.now c.do_items.new.work c.args.budget taken c.work-2.inside.store
    (sym (ap (λ (w : Work). w.store) c.work-2.view_is))
    c.do_items.new.course.item c.in-Here.function c.in_ok-scene-in-Here.scene c.requires.range c.requires.store c.requires.fresh
    (omega (arith, c.in_ok-end.ensures.spent _ c.in-Here.is))
    (subst (λ items. Comes c.args.work.now c.do_items.new.work
    (StandsInStyle items c.do_items.new.course.item c.in-Here.function job c.in_ok-code.code c.do_items.new.at c.do_items.new.marks
    (do_items job items []) taken))
    (c.items-items.ensures ∙ ap (λ (style : Style). style.items) c.style-2.ensures) (c.in_ok-end.ensures.stands _ c.in-Here.is))
    c.in_ok-scene-in-Here.ensures.next c.in_ok-scene-in-Here.ensures.levels c.in_ok-scene-in-Here.ensures.entry c.in_ok-scene-in-Here.ensures.depth
    c.in_ok-scene-in-Here.ensures.literals c.in_ok-scene-in-Here.ensures.calls c.in_ok-scene-in-Here.ensures.item
