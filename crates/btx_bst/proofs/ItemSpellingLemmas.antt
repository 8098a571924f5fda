-- A style as its commands spell it.
use Rattle.std.proofs.Common.{◌≡◌, ℕ, zero, suc, ◌+◌, ◌<◌, List, [], ◌∷◌, ◌++◌, length, refl, sym, ap, ◌∙◌, arith, Option, None, Some}
use Rattle.btx_bst.specs.language.Places.{Place, place_at, ink, size, skipped, skipped_from}
use Rattle.btx_bst.specs.language.Complaints.{Complaint}
use Rattle.btx_bst.specs.language.Style.{Style}
use Rattle.btx_bst.specs.language.Items.{Message}
use Rattle.btx_bst.specs.language.Outcomes.{CommandOutcome, outcome, with_item}
use Rattle.btx_bst.specs.language.Turns.{Again, Ends}
use Rattle.btx_bst.specs.language.StyleText.{StyleState, style_state, command_outcome, item_in, item_turn, style_from}
use Rattle.btx_bst.specs.laws.ItemSpelling.{SpelledCommand, Whole, Faulty, IsEnd, GivesStyle, GivenLaw, GivingLaw, AreFull, SkippedLaw, SkippedToEndLaw}
use Rattle.btx_bst.proofs.StyleLemmas.{style_from-again, style_from-ends, item_turn-less}
use Rattle.btx_bst.specs.refinement.StyleText.{resumed_after}

end_in : (style : Style) (p : Place) (line : List ℕ) → line ≡ [] → item_in style p line ≡ Ends style
end_in style p [] e = refl
end_in style p (b ∷ bs) e = absurd (cc)

more_in : (style : Style) (p : Place) (line : List ℕ) → (line ≡ [] → ⊥) → item_in style p line ≡ Again (resumed_after (command_outcome style p))
more_in style p [] h = absurd (h refl)
more_in style p (b ∷ bs) h = refl

pub end_turn : (s : StyleState) → IsEnd s.place → item_turn s ≡ Ends s.style
unfolding item_turn
end_turn s e = end_in s.style (ink s.place) (ink s.place).line e

pub more_turn : (s : StyleState) (o : CommandOutcome) → (IsEnd s.place → ⊥) → command_outcome s.style (ink s.place) ≡ o → item_turn s ≡ Again (resumed_after o)
unfolding item_turn
more_turn s o h e = more_in s.style (ink s.place) (ink s.place).line h ∙ ap (λ (x : CommandOutcome). Again (resumed_after x)) e

pub given : GivenLaw
given [] from end h = style_from-ends from from.style (end_turn from h.0) ∙ h.1
given (Whole ∷ more) from end h =
    style_from-again from h.0 (more_turn from (outcome None h.0.style h.0.place) h.1 h.2) ∙ given more h.0 end h.3
given (Faulty c line ∷ more) from end h =
    let t = resumed_after (outcome (Some c) h.0.style h.0.place) in
    let u : StyleState = style_state (with_item (Message c line) h.0.style) (skipped h.0.place) in
    let e : t ≡ u = ap (λ (n : ℕ). style_state (with_item (Message c n) h.0.style) (skipped h.0.place)) (sym h.3) in
    style_from-again from t (more_turn from (outcome (Some c) h.0.style h.0.place) h.1 h.2) ∙ ap style_from e ∙ given more u end h.4

abbrev Giving : StyleState → Type 0
Giving from = (steps : List SpelledCommand) × (end : Style) × GivesStyle steps from end

giving_step : (from : StyleState) (c : Option Complaint) (style : Style) (p : Place) → (IsEnd from.place → ⊥) → command_outcome from.style (ink from.place)
    ≡ outcome c style p → ((t : StyleState) → size t.place < size from.place → Giving t) → Giving from
giving_step from None style p h e more =
    let l = item_turn-less from (style_state style p) (more_turn from (outcome None style p) h e) in
    let g = more (style_state style p) l in
    (Whole ∷ g.0, g.1, (style_state style p, h, e, g.2))
giving_step from (Some c) style p h e more =
    let t : StyleState = style_state (with_item (Message c p.number) style) (skipped p) in
    let l = item_turn-less from t (more_turn from (outcome (Some c) style p) h e) in
    let g = more t l in
    (Faulty c p.number ∷ g.0, g.1, (style_state style p, h, e, refl, g.2))

giving_at : (from : StyleState) (line : List ℕ) → (ink from.place).line ≡ line → ((t : StyleState) → size t.place < size from.place → Giving t) → Giving from
giving_at from [] e more = ([], from.style, (e, refl))
giving_at from (b ∷ bs) e more =
    let o = command_outcome from.style (ink from.place) in
    giving_step from o.complaint o.style o.place (λ (k : IsEnd from.place). absurd (cc)) refl more

giving_within : (n : ℕ) (from : StyleState) → size from.place < n → Giving from
giving_within zero from h = absurd (omega arith)
giving_within (suc n) from h = giving_at from (ink from.place).line refl (λ t l. giving_within n t (omega arith))

pub giving : GivingLaw
giving from = giving_within (suc (size from.place)) from (omega arith)

skips : (number : ℕ) (lines after : List (List ℕ)) → AreFull lines → skipped_from number (lines ++ [] ∷ after) ≡ place_at (number + length lines + 1) [] after
unfolding skipped_from
skips number [] after h = ap (λ n. place_at n [] after) (let e : number + 1 ≡ number + 0 + 1 = omega arith in e)
skips number ([] ∷ lines) after h = absurd (h.0 refl)
skips number ((b ∷ bs) ∷ lines) after h =
    skips (number + 1) lines after h.1
    ∙ ap (λ n. place_at n [] after) (let e : number + 1 + length lines + 1 ≡ number + suc (length lines) + 1 = omega arith in e)

pub skipped-lines : SkippedLaw
skipped-lines number line lines after h = skips number lines after h

skips_all : (number : ℕ) (lines : List (List ℕ)) → AreFull lines → skipped_from number lines ≡ place_at (number + length lines) [] []
unfolding skipped_from
skips_all number [] h = ap (λ n. place_at n [] []) (let e : number ≡ number + 0 = omega arith in e)
skips_all number ([] ∷ lines) h = absurd (h.0 refl)
skips_all number ((b ∷ bs) ∷ lines) h =
    skips_all (number + 1) lines h.1
    ∙ ap (λ n. place_at n [] []) (let e : number + 1 + length lines ≡ number + suc (length lines) = omega arith in e)

pub skipped-to_end : SkippedToEndLaw
skipped-to_end number line lines h = skips_all number lines h
