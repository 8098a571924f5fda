use Rattle.std.proofs.Common.{◌≡◌, Option}
use Rattle.btx_bst.specs.language.Places.{size}
use Rattle.btx_bst.specs.language.StyleText.{style_state, style_from}
use Rattle.btx_bst.specs.refinement.Weights.{HasRoom}
use Rattle.btx_bst.specs.refinement.DraftViews.{draft_view}
use Rattle.btx_bst.specs.laws.Recorded.{Recorded, Records, style_recorded}
use Rattle.btx_bst.proofs.reader.items.Given as goal

-- the items that are left do the rest
abbrev pub invariant-loop : goal.invariant-loop
invariant-loop g l = record {
  goes : style_from (style_state (draft_view l.draft) l.cursor) ≡ style_from (style_state (draft_view l.fn.draft) l.fn.cursor);
  recorded : (new : Option Recorded) → Records (style_recorded (style_state (draft_view l.draft) l.cursor)) (g.R.Recording.recorded l.recorder) new
      → Records (style_recorded (style_state (draft_view l.fn.draft) l.fn.cursor)) (g.R.Recording.recorded l.fn.recorder) new;
  room : HasRoom (draft_view l.draft) l.cursor;
}

abbrev pub decreases-loop : goal.decreases-loop
decreases-loop g l = size l.cursor
