-- What is recorded along turns.
use Rattle.std.proofs.Common.{◌≡◌, ℕ, suc, ◌<◌, refl, sym, ◌∙◌, List, [], ◌∷◌, length, ap, Option, Some, Ok, Err, Bor, arith}
use Rattle.std.specs.Prelude.{Result}
use Rattle.btx_text.specs.language.Keys.{folded}
use Rattle.btx_bst.specs.declared.complaint.Complaint.{Complaint as CodeComplaint}
use Rattle.btx_bst.specs.declared.span.Stretch.{Stretch}
use Rattle.btx_bst.specs.declared.turn.Turn.{Turn as OneTurn}
use Rattle.btx_bst.specs.declared.turn.Turn.TheVariants as one
use Rattle.btx_bst.specs.language.Places.{Place, size}
use Rattle.btx_bst.specs.language.Complaints.{Complaint}
use Rattle.btx_bst.specs.language.Reads.{Read}
use Rattle.btx_bst.specs.language.Lists.{letters_at}
use Rattle.btx_bst.specs.language.Outcomes.{CommandOutcome, outcome, after_read}
use Rattle.btx_bst.specs.language.Commands.{command_named}
use Rattle.btx_bst.specs.language.Names.{Names}
use Rattle.btx_bst.specs.language.Turns.{Turn, Again, Ends, turns_within}
use Rattle.btx_bst.specs.language.BodyText.{Inside, BodyEnd, body_turn}
use Rattle.btx_bst.specs.language.Style.{Style}
use Rattle.btx_bst.specs.language.StyleText.{StyleState, item_turn}
use Rattle.btx_bst.specs.refinement.Views.{body_turn_view, read_text}
use Rattle.btx_bst.specs.refinement.StyleText.{word_outcome}
use Rattle.btx_bst.specs.laws.Recorded.{Recorded, Records, kept_after, beside, body_recorded, turn_recorded, style_recorded, item_recorded, items_after}
use Rattle.btx_bst.specs.laws.Recorded.{between, with_item, read_place, item_stretch, recorded_after, known_recorded, item_recorded_in}
use Rattle.btx_bst.proofs.TurnLemmas.{OnTurn, Falls, turns-next}
use Rattle.btx_bst.proofs.BodyTurnLemmas.{body_turn-falls}
use Rattle.btx_bst.proofs.StyleLemmas.{item_turn-falls}

kept-falls : {S R K : Type 0} (turn : S → Turn S R) (keep : S → K → K) (left : S → ℕ) → Falls left turn
    → Falls (λ (state : S × K). left state.0) (beside turn keep)
kept-falls {S = S} {R = R} {K = K} turn keep left falls state = at (turn state.0) (falls state.0) where
  at : (t : Turn S R) → OnTurn (λ u. left u < left state.0) (λ (r : R). Unit {0}) t
      → OnTurn (λ (u : S × K). left u.0 < left state.0) (λ (k : K). Unit {0}) (kept_after (keep state.0 state.1) t)
  at (Again u) h = h
  at (Ends r) h = tt

-- beside a turn that goes on, and beside the last one
kept-again : {S R K : Type 0} (turn : S → Turn S R) (keep : S → K → K) (left : S → ℕ) → Falls left turn → (s t : S) (k : K) → turn s ≡ Again t
    → turns_within (beside turn keep) (λ (state : S × K). state.1) (suc (left s)) (s, k)
    ≡ turns_within (beside turn keep) (λ (state : S × K). state.1) (suc (left t)) (t, keep s k)
kept-again {S = S} {K = K} turn keep left falls s t k e =
    rw (turns-next (beside turn keep) (λ (state : S × K). state.1) (λ (state : S × K). left state.0) (kept-falls turn keep left falls) (s, k), e) refl

kept-ends : {S R K : Type 0} (turn : S → Turn S R) (keep : S → K → K) (left : S → ℕ) → Falls left turn → (s : S) (r : R) (k : K) → turn s ≡ Ends r
    → turns_within (beside turn keep) (λ (state : S × K). state.1) (suc (left s)) (s, k) ≡ keep s k
kept-ends {S = S} {K = K} turn keep left falls s r k e =
    rw (turns-next (beside turn keep) (λ (state : S × K). state.1) (λ (state : S × K). left state.0) (kept-falls turn keep left falls) (s, k), e) refl

-- ---- bodies

pub body_recorded-again : (names : Names) (s t : Inside) (r : Recorded) → body_turn names s ≡ Again t
    → body_recorded names s r ≡ body_recorded names t (turn_recorded names s r)
unfolding body_recorded
body_recorded-again names s t r e = kept-again (body_turn names) (turn_recorded names) (λ (u : Inside). size u.place) (body_turn-falls names) s t r e

pub body_recorded-ends : (names : Names) (s : Inside) (end : BodyEnd) (r : Recorded) → body_turn names s ≡ Ends end
    → body_recorded names s r ≡ turn_recorded names s r
unfolding body_recorded
body_recorded-ends names s end r e = kept-ends (body_turn names) (turn_recorded names) (λ (u : Inside). size u.place) (body_turn-falls names) s end r e

-- the items after a turn are those of the code after it
pub items_after-view : (turn : OneTurn) (inside : Inside) → items_after (body_turn_view turn inside) ≡ inside.items
items_after-view one.Again inside = refl
items_after-view one.Whole inside = refl
items_after-view (one.Broken complaint) inside = refl

-- ---- items

pub style_recorded-again : (s t : StyleState) (r : Recorded) → item_turn s ≡ Again t → style_recorded s r ≡ style_recorded t (item_recorded s r)
unfolding style_recorded
style_recorded-again s t r e = kept-again item_turn item_recorded (λ (u : StyleState). size u.place) item_turn-falls s t r e

pub style_recorded-ends : (s : StyleState) (style : Style) (r : Recorded) → item_turn s ≡ Ends style → style_recorded s r ≡ item_recorded s r
unfolding style_recorded
style_recorded-ends s style r e = kept-ends item_turn item_recorded (λ (u : StyleState). size u.place) item_turn-falls s style r e

-- the place after a reading is that of the code
read_place-view : (word : Result (Bor (List ℕ)) CodeComplaint) (place : Place) → read_place (read_text word place) ≡ place
read_place-view (Ok text) place = refl
read_place-view (Err complaint) place = refl

abbrev word_in : Style → List ℕ → Place → CommandOutcome
word_in style word place = word_outcome style place word (command_named (folded word))

abbrev body_in : Style → List ℕ → Place → Recorded → Recorded
body_in style word place = known_recorded style place (command_named (folded word))

-- what is recorded of a command, given how its word is read
abbrev at_command : Style → Place → Read (List ℕ) → Recorded → Recorded
at_command style place word r =
    let o = after_read style word (word_in style) in
    with_item (item_stretch (between place (read_place word)) o.complaint o.place) (recorded_after word (body_in style) r)

at_ink : (style : Style) (place : Place) (line : List ℕ) (r : Recorded) → 0 < length line → at_command style place (letters_at place) r
    ≡ item_recorded_in style place line r
at_ink style place [] r h = absurd (omega arith)
at_ink style place (b ∷ bs) r h = refl

-- a command, whole or with a fault, is recorded as the code records it
pub item-recorded : (style end : Style) (place next last : Place) (word : Result (Bor (List ℕ)) CodeComplaint) (complaint : Option Complaint) (met : Stretch)
    (old mid new : Option Recorded) → 0 < length place.line → read_text word next ≡ letters_at place
    → outcome complaint end last ≡ after_read style (read_text word next) (λ word place. word_outcome style place word (command_named (folded word)))
    → met ≡ item_stretch (between place next) complaint last
    → Records (recorded_after (read_text word next) (λ word place. known_recorded style place (command_named (folded word)))) old mid
    → Records (with_item met) mid new → Records (item_recorded_in style place place.line) old new
item-recorded style end place next last word complaint met old mid new some taken came is of_body of_item = λ r e.
    let read = read_text word next in
    let body = recorded_after read (body_in style) r in
    let here : between place next ≡ between place (read_place read) = ap (between place) (sym (read_place-view word next)) in
    let stands : met ≡ item_stretch (between place (read_place read)) complaint last = is ∙ ap (λ (m : Stretch). item_stretch m complaint last) here in
    let kept : with_item met body ≡ at_command style place read r =
    ap (λ (m : Stretch). with_item m body) stands
    ∙ ap (λ (o : CommandOutcome). with_item (item_stretch (between place (read_place read)) o.complaint o.place) body) came in
    of_item body (of_body r e)
    ∙ ap Some (kept ∙ ap (λ (w : Read (List ℕ)). at_command style place w r) taken ∙ at_ink style place place.line r some)
