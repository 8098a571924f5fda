use Rattle.std.proofs.Common.{◌∙◌, refl}
use Rattle.btx_bst.specs.language.StyleText.{style_of}
use Rattle.btx_bst.specs.laws.Recorded.{nothing_recorded, recorded_of}
use Rattle.btx_bst.proofs.RoomLemmas.{start-room}
use Rattle.btx_bst.proofs.ReferenceLemmas.{read-refers_within}
use Rattle.btx_bst.proofs.style.read_text.Goals as goal

pub items-requires : goal.items-requires
items-requires g c = start-room _ c.args.file_name.now c.in_ok-predefined.field-0 _ c.args.text.now c.new-draft.ensures c.in_ok-predefined.ensures
    c.of-cursor.ensures c.requires

pub invariant_of-result : goal.invariant_of-result
unfolding style_of
invariant_of-result g c =
    read-refers_within c.args.file_name.now c.args.text.now _
    (c.in_ok-items.ensures.style ∙ rw (c.new-draft.ensures, c.in_ok-predefined.ensures, c.of-cursor.ensures) refl)

pub returns-clause-recorded : goal.returns-clause-recorded
unfolding recorded_of
returns-clause-recorded g c = λ e. rw (c.new-draft.ensures, c.in_ok-predefined.ensures, c.of-cursor.ensures) at (c.in_ok-items.ensures.recorded nothing_recorded e)
