-- What is read one after another is the next, and then the rest.
use Rattle.btx_bst.specs.laws.Nexts.{ListNextLaw, BodyNextLaw, StyleNextLaw}
use Rattle.btx_bst.proofs.ListLemmas.{list_end-next}
use Rattle.btx_bst.proofs.BodyTurnLemmas.{body_end-next}
use Rattle.btx_bst.proofs.StyleLemmas.{style_from-next}

pub list-next : ListNextLaw
list-next kind listing = list_end-next kind listing

pub body-next : BodyNextLaw
body-next names inside = body_end-next names inside

pub style-next : StyleNextLaw
style-next state = style_from-next state

pub ruleset next_laws = (list-next, body-next, style-next)
