-- What is shown of a style: a token by its function and its number, and what is open by such tokens.
use Rattle.std.specs.Prelude.{◌+◌, List, [], drop, map, slice_index_or}
use Rattle.btx_bst.specs.declared.token.Token.{Token}
use Rattle.btx_bst.specs.language.Style.{Style}
use Rattle.btx_machine.specs.refinement.Frame as frame
use Rattle.btx_machine.specs.refinement.Frame.{Frame}
use Rattle.btx_machine.specs.refinement.Running as running
use Rattle.btx_where.specs.declared.place.Place.{Place}
use Rattle.btx_where.specs.declared.scene.Level.{Level}
use Rattle.btx_where.specs.declared.scene.Level.TheVariants as level

-- the tokens after a token, up to the end of its function
abbrev pub behind : Style → Place → List Token
behind style place = drop (place.token + 1) (slice_index_or style.bodies place.function [])

-- what is still done of what is open: of a body the tokens after the one where it stands; of a loop its test and its body, of which one runs
abbrev pub frame_of : Style → Level → Frame
frame_of style (level.Body place) = frame.Body (behind style place)
frame_of style (level.LoopTest test body) = frame.Loop test body running.Test
frame_of style (level.LoopBody test body) = frame.Loop test body running.Body

-- what is still done of all that is open, innermost first
abbrev pub frames_shown : Style → List Level → List Frame
frames_shown style levels = map (frame_of style) levels
