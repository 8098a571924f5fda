-- Reading one thing after another: what is read from a place on is what stands there, and then what follows.
use Rattle.std.specs.Prelude.{◌≡◌}
use Rattle.btx_bst.specs.declared.callee.Kind.{Kind}
use Rattle.btx_bst.specs.language.Names.{Names}
use Rattle.btx_bst.specs.language.Turns.{after_turn}
use Rattle.btx_bst.specs.language.Lists.{Listing, list_turn, list_end}
use Rattle.btx_bst.specs.language.BodyText.{Inside, body_turn, body_end}
use Rattle.btx_bst.specs.language.StyleText.{StyleState, item_turn, style_from}

-- A list of names is its next name, and then the rest of it.
abbrev pub ListNextLaw : Type 0
ListNextLaw = (kind : Kind) (listing : Listing) → list_end kind listing ≡ after_turn (list_end kind) (list_turn kind listing)

-- A body is its next word, and then the rest of it.
abbrev pub BodyNextLaw : Type 0
BodyNextLaw = (names : Names) (inside : Inside) → body_end names inside ≡ after_turn (body_end names) (body_turn names inside)

-- A style is its next command, and then the rest of it.
abbrev pub StyleNextLaw : Type 0
StyleNextLaw = (state : StyleState) → style_from state ≡ after_turn style_from (item_turn state)
