-- What a command comes to.
use Rattle.std.specs.Prelude.{[], ◌∷◌, ◌++◌, Option, Some}
use Rattle.btx_bst.specs.language.Places.{Place}
use Rattle.btx_bst.specs.language.Complaints.{Complaint}
use Rattle.btx_bst.specs.language.Reads.{Read, Took, Mistake}
use Rattle.btx_bst.specs.language.Items.{Item}
use Rattle.btx_bst.specs.language.Style.{Style}

-- a complaint, if something is wrong; the style as read so far, with this command (its items, names, macros, bodies and strings); and the place where
-- the command ends or the fault is met
pub record CommandOutcome : Type 0 where
  pub complaint : Option Complaint
  pub style : Style
  pub place : Place

-- an outcome made of its three parts
abbrev pub outcome : Option Complaint → Style → Place → CommandOutcome
outcome complaint style place = record { complaint = complaint; style = style; place = place }

-- goes on with what was read and the place after it; a complaint ends the command
abbrev pub after_read : {A : Type 0} → Style → Read A → (A → Place → CommandOutcome) → CommandOutcome
after_read style (Took x place) go = go x place
after_read style (Mistake complaint place) go = outcome (Some complaint) style place

-- a style with a further item
abbrev pub with_item : Item → Style → Style
with_item item style = record style { items = style.items ++ item ∷ [] }
