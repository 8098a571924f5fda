use Rattle.std.proofs.Common.{◌≡◌, ◌<◌, ◌^◌, Option}
use Rattle.btx_bst.specs.language.Places.{size}
use Rattle.btx_bst.specs.language.BodyText.{body_end}
use Rattle.btx_bst.specs.refinement.Views.{inside_view, texts_view}
use Rattle.btx_bst.specs.refinement.Weights.{body_weight}
use Rattle.btx_bst.specs.laws.Recorded.{Recorded, Records, body_recorded}
use Rattle.btx_bst.proofs.body_words.words.Given as goal

-- what is left of the body does the rest
abbrev pub invariant-loop-complaint : goal.invariant-loop-complaint
invariant-loop-complaint g l = record {
  goes :
      body_end l.names (inside_view l.cursor l.current l.bodies l.texts.items l.items.items)
      ≡ body_end l.names (inside_view l.fn.cursor l.fn.current l.fn.bodies l.fn.texts.items l.fn.items.items);
  recorded : (new : Option Recorded)
      → Records (body_recorded l.names (inside_view l.cursor l.current l.bodies l.texts.items l.items.items)) (g.R.Recording.recorded l.recorder) new
      → Records (body_recorded l.names (inside_view l.fn.cursor l.fn.current l.fn.bodies l.fn.texts.items l.fn.items.items)) (g.R.Recording.recorded l.fn.recorder) new;
  room : body_weight l.cursor l.bodies (texts_view l.texts.items) < 2 ^ 32;
}

abbrev pub decreases-loop-complaint : goal.decreases-loop-complaint
decreases-loop-complaint g l = size l.cursor
