use Rattle.btx_bib.specs.refinement.Gatherings.{is_kept}
use Rattle.btx_bib.specs.refinement.Requests.{wanted}
use Rattle.btx_bib.proofs.PassingLemmas.{field-less, goes-end, goes-field, goes-further, goes-none}
use Rattle.btx_bib.proofs.gathering.Gathering.pass_fields.Goals as goal

pub loop-rest-init : goal.loop-rest-init
loop-rest-init c = goes-none (wanted c.args.request.now) c.args.self.now c.args.reader.now

pub loop-rest-preserved : goal.loop-rest-preserved
loop-rest-preserved c =
    let next = rw c.in-Some.is at c.behind_field.ensures in
    let goes = goes-field _ _ c.requires.whole c.requires.none c.loop-rest.reader c.in-Some.rest.now next in
    goes-further _ _ _ _ _ c.loop-rest.invariant (rw c.pass.ensures goes)

pub loop-rest-smaller : goal.loop-rest-smaller
loop-rest-smaller c =
    let next = rw c.in-Some.is at c.behind_field.ensures in
    rw c.pass.ensures (field-less (is_kept c.args.self.now) c.loop-rest.reader c.in-Some.rest.now next)

pub returns : goal.returns
returns c =
    let asked = wanted c.args.request.now in
    let kept = c.args.self.now in
    goes-further asked kept _ c.loop-rest.reader _ c.loop-rest.invariant
    (goes-end asked kept c.requires.whole c.requires.none c.leave.result c.loop-rest.reader _ c.leave.ensures)
