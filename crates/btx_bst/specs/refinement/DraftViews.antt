-- What clauses see of a style of the code.
use Rattle.std.specs.Prelude.{Bool, true, false, Option, None, Some}
use Rattle.btx_bst.specs.language.Style.{Style}
use Rattle.btx_bst.specs.language.Turns.{Turn, Again, Ends}
use Rattle.btx_bst.specs.language.StyleText.{StyleState, style_state}
use Rattle.btx_bst.specs.language.Places.{Place}
use Rattle.btx_bst.specs.language.Outcomes.{CommandOutcome, outcome}
use Rattle.btx_bst.specs.refinement.Views.{items_view, texts_view, complaint_view}
use Rattle.btx_bst.specs.declared.draft.StyleBuilder.{StyleBuilder}
use Rattle.btx_bst.specs.declared.complaint.Complaint.{Complaint}

abbrev pub draft_view : StyleBuilder → Style
draft_view draft = record {
  file = draft.file_name.now;
  items = items_view draft.items.items;
  names = draft.names;
  macros = draft.macros;
  bodies = draft.bodies;
  texts = texts_view draft.texts.items;
  has_entry = draft.has_entry;
  before_read = draft.before_read;
}

-- what a command comes to
abbrev pub outcome_view : Option Complaint → Style → Place → CommandOutcome
outcome_view None style place = outcome None style place
outcome_view (Some complaint) style place = outcome (Some (complaint_view complaint)) style place

-- what follows an item, if one was read
abbrev pub item_turn_view : Bool → Style → Place → Turn StyleState Style
item_turn_view true style place = Again (style_state style place)
item_turn_view false style place = Ends style
