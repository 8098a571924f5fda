-- Where the tokens and the items of a style stand in its text. Nothing is read here: along the turns in which a style is read (`body_turn`, `item_turn`) each
-- token gets the part of the text that its word has, and each item that of its command's word, or the place of its fault.
use Rattle.std.specs.Prelude.{ℕ, suc, ◌≡◌, nat_lt, Bool, true, false, List, [], ◌∷◌, ◌++◌, length, take, Option, None, Some, is_some, if◌then◌else◌}
use Rattle.btx_text.specs.language.Keys.{folded}
use Rattle.btx_bst.specs.declared.command.Command.{Command}
use Rattle.btx_bst.specs.declared.command.Command.TheVariants as command
use Rattle.btx_bst.specs.declared.span.Spot.{Spot}
use Rattle.btx_bst.specs.declared.span.Stretch.{Stretch}
use Rattle.btx_bst.specs.language.Places.{Place, ink, size}
use Rattle.btx_bst.specs.language.Complaints.{Complaint}
use Rattle.btx_bst.specs.language.Reads.{Read, Took, Mistake}
use Rattle.btx_bst.specs.language.Items.{Item}
use Rattle.btx_bst.specs.language.Words.{BodyWord, Open, Close, Unended, Ended, met_at}
use Rattle.btx_bst.specs.language.Names.{Names, named}
use Rattle.btx_bst.specs.language.Predefined.{predefined}
use Rattle.btx_bst.specs.language.Style.{Style}
use Rattle.btx_bst.specs.language.Turns.{Turn, Again, Ends, turns_within}
use Rattle.btx_bst.specs.language.BodyText.{Inside, BodyEnd, Whole, Broken, body_turn, body_end}
use Rattle.btx_bst.specs.language.Lists.{opening, closing, next_name, letters_at}
use Rattle.btx_bst.specs.language.Commands.{command_named, inside_at}
use Rattle.btx_bst.specs.language.StyleText.{StyleState, style_state, command_outcome, item_turn}
use Rattle.btx_bst.specs.laws.StyleText.{unread_style}
use Rattle.btx_bst.specs.laws.Places.{beginning}

-- ---- parts of a text

-- a place, as it is recorded: the number of its line, and how many bytes of the line are left
abbrev pub spot_at : Place → Spot
spot_at place = record { line = place.number; left = length place.line }

-- the part of a text from one spot to another
abbrev pub stretch : Spot → Spot → Stretch
stretch from to = record { from = from; to = to }

-- the part of a text from one place to another
abbrev pub between : Place → Place → Stretch
between from to = stretch (spot_at from) (spot_at to)

-- ---- what is recorded

-- where the tokens of the innermost function stand that were read so far (`tokens`), and those of the functions round it (`around`); where the `{` of each nested
-- function stands, the innermost first (`braces`); and, of the whole style so far, where the tokens of each function stand, and the items
pub record Recorded : Type 0 where
  pub tokens : List Stretch
  pub around : List (List Stretch)
  pub braces : List Spot
  pub bodies : List (List Stretch)
  pub items : List Stretch

-- nothing
abbrev pub nothing_recorded : Recorded
nothing_recorded = record { tokens = []; around = []; braces = []; bodies = []; items = [] }

-- a further token of the innermost function
abbrev pub with_token : Stretch → Recorded → Recorded
with_token met r = record r { tokens = r.tokens ++ met ∷ [] }

-- a further item
abbrev pub with_item : Stretch → Recorded → Recorded
with_item met r = record r { items = r.items ++ met ∷ [] }

-- a `{` in a body
abbrev pub opened : Spot → Recorded → Recorded
opened brace r = record r { tokens = []; around = r.tokens ∷ r.around; braces = brace ∷ r.braces }

-- the tokens of the function round the innermost one, and those of the functions round that
abbrev pub outer_tokens : List (List Stretch) → List Stretch
outer_tokens [] = []
outer_tokens (outer ∷ around) = outer

abbrev pub outer_around : List (List Stretch) → List (List Stretch)
outer_around [] = []
outer_around (outer ∷ around) = around

-- a `}` in a body, up to the spot `to`: a nameless function is defined, and stands in the function round it from its `{` to its `}`. The outermost one ends the body
abbrev pub closed : Spot → Recorded → List Spot → Recorded
closed to r [] = r
closed to r (brace ∷ braces) = record {
  tokens = outer_tokens r.around ++ stretch brace to ∷ [];
  around = outer_around r.around;
  braces = braces;
  bodies = r.bodies ++ r.tokens ∷ [];
  items = r.items;
}

-- a word that gives a message or, if it isn't `logged`, a token
abbrev pub given : Stretch → Bool → Recorded → Recorded
given met true r = with_item met r
given met false r = with_token met r

-- what is recorded of a word of a body, which stands at `met`; `logged` says whether it gives a message
abbrev pub word_recorded : BodyWord → Stretch → Bool → Recorded → Recorded
word_recorded Open met logged r = opened met.from r
word_recorded Close met logged r = closed met.to r r.braces
word_recorded Unended met logged r = r
word_recorded Ended met logged r = r
word_recorded _ met logged r = given met logged r

-- ---- turns

-- what is recorded where something was, of what that becomes
abbrev pub Records : (Recorded → Recorded) → Option Recorded → Option Recorded → Type 0
Records change old new = (r : Recorded) → old ≡ Some r → new ≡ Some (change r)

-- a turn, with what is kept beside it
abbrev pub kept_after : {S R K : Type 0} → K → Turn S R → Turn (S × K) K
kept_after kept (Again s) = Again (s, kept)
kept_after kept (Ends r) = Ends kept

-- turns beside which something is kept: `keep` says what it is after a turn
abbrev pub beside : {S R K : Type 0} → (S → Turn S R) → (S → K → K) → S × K → Turn (S × K) K
beside turn keep state = kept_after (keep state.0 state.1) (turn state.0)

-- ---- bodies

-- the items after a turn of a body
abbrev pub items_after : Turn Inside BodyEnd → List Item
items_after (Again inside) = inside.items
items_after (Ends (Whole inside)) = inside.items
items_after (Ends (Broken complaint inside)) = inside.items

-- what is recorded of the word of a body that stands next: it is logged if there is a further item after its turn
abbrev pub turn_recorded : Names → Inside → Recorded → Recorded
turn_recorded names inside =
    word_recorded (met_at inside.place).word (between (ink inside.place) (met_at inside.place).place)
    (nat_lt (length inside.items) (length (items_after (body_turn names inside))))

-- what is recorded of the words up to the end of a body
unfoldable pub body_recorded : Names → Inside → Recorded → Recorded
body_recorded names inside r =
    turns_within (beside (body_turn names) (turn_recorded names)) (λ (state : Inside × Recorded). state.1) (suc (size inside.place)) (inside, r)

-- a body begins
abbrev pub begun : Recorded → Recorded
begun r = record r { tokens = []; around = []; braces = [] }

-- a body ends: whole, and its function is recorded; or broken off, and nothing but its messages stays. Before it `count` functions were recorded
abbrev pub ended : ℕ → Bool → Recorded → Recorded
ended count true r = record r { bodies = r.bodies ++ r.tokens ∷ [] }
ended count false r = record r { bodies = take count r.bodies }

-- a body is whole
abbrev pub is_whole : BodyEnd → Bool
is_whole (Whole inside) = true
is_whole (Broken complaint inside) = false

-- what is recorded of a body and its end
abbrev pub function_recorded : Names → Inside → Recorded → Recorded
function_recorded names inside r = ended (length r.bodies) (is_whole (body_end names inside)) (body_recorded names inside (begun r))

-- ---- commands

-- goes on with what was read; a complaint ends the command
abbrev pub recorded_after : {A : Type 0} → Read A → (A → Place → Recorded → Recorded) → Recorded → Recorded
recorded_after (Took x place) go r = go x place r
recorded_after (Mistake complaint place) go r = r

-- what is recorded of the body of a FUNCTION, if it has one; the command is read from the place after its word on
unfoldable pub function_command_recorded : Style → Place → Recorded → Recorded
function_command_recorded style place =
    recorded_after (opening place) (λ _ place.
    recorded_after (next_name place) (λ name place r.
    if is_some (named style.names name) then r else
    recorded_after (closing place) (λ _ place.
    recorded_after (opening place) (λ _ place. function_recorded style.names (inside_at style place))) r))

-- what is recorded of the body of a command, if it has one
abbrev pub command_recorded : Command → Style → Place → Recorded → Recorded
command_recorded command.Function style place r = function_command_recorded style place r
command_recorded _ style place r = r

abbrev pub known_recorded : Style → Place → Option Command → Recorded → Recorded
known_recorded style place None r = r
known_recorded style place (Some command) r = command_recorded command style place r

-- ---- items

-- the place where a reading ends
abbrev pub read_place : {A : Type 0} → Read A → Place
read_place (Took x place) = place
read_place (Mistake complaint place) = place

-- where an item stands: at the word of its command or, of a fault, at the place of the fault
abbrev pub item_stretch : Stretch → Option Complaint → Place → Stretch
item_stretch word None place = word
item_stretch word (Some complaint) place = between place place

-- what is recorded of the command at a place that isn't in whitespace or a comment, if one stands there
abbrev pub item_recorded_in : Style → Place → List ℕ → Recorded → Recorded
item_recorded_in style place [] r = r
item_recorded_in style place (b ∷ bs) r =
    let o = command_outcome style place in
    with_item (item_stretch (between place (read_place (letters_at place))) o.complaint o.place)
    (recorded_after (letters_at place) (λ word behind. known_recorded style behind (command_named (folded word))) r)

-- what is recorded of the command that stands next
abbrev pub item_recorded : StyleState → Recorded → Recorded
item_recorded state = item_recorded_in state.style (ink state.place) (ink state.place).line

-- what is recorded of all commands that are left
unfoldable pub style_recorded : StyleState → Recorded → Recorded
style_recorded state r =
    turns_within (beside item_turn item_recorded) (λ (state : StyleState × Recorded). state.1) (suc (size state.place)) (state, r)

-- what is recorded of the style of a text, whose file has the name `file`
unfoldable pub recorded_of : List ℕ → List ℕ → Recorded
recorded_of file text = style_recorded (style_state (unread_style file predefined) (beginning text)) nothing_recorded
