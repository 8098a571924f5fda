use Rattle.std.proofs.Common.{codes}
use Rattle.std.proofs.lemmas.Result.{on_ok_weaker}
use Rattle.std.specs.List.{flat_map}
use Rattle.btx_where.specs.Lines.{token_line}
use Rattle.btx_where.specs.Notes.{callers_note, far_note, place_note}
use Rattle.btx_where.proofs.NoteLemmas.{two_parts}
use Rattle.btx_where.proofs.notes.Known.note_callers.Goals as goal

pub returns : goal.returns
unfolding callers_note
returns c =
    let style = c.args.self.now.style.now in
    let line_of = token_line c.args.self.now.places.now in
    on_ok_weaker c.note_far.result (two_parts (flat_map (place_note style line_of (codes "from"))) (far_note style line_of) 64 c.min-near.result
    c.args.callers.now c.args.notes.now.items c.note_near.new.notes.items c.note_far.new.notes.items c.min-near.ensures c.in_ok-note_near.ensures)
    c.note_far.ensures
