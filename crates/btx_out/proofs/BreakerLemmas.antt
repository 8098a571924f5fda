-- What a breaker does, from what is left of the pending line.
use Rattle.std.proofs.Common.{◌≡◌, ℕ, ◌+◌, ◌≤◌, Bool, true, false, cond, ltb, List, [], ◌∷◌, ◌++◌, length, Option, Some, None, refl, sym, ◌∙◌, ap, arith}
use Rattle.std.specs.Io.KnownBytes.{Appends}
use Rattle.std.proofs.KnownBytes.{Appends-nil}
use Rattle.btx_text.specs.language.Class.{is_white}
use Rattle.btx_out.specs.laws.Lengths.{IsLineLength}
use Rattle.btx_out.specs.language.Breaking.{last_white, indented, cut_of, cut_within, committed, wrap}
use Rattle.btx_out.specs.laws.Breaking.{Left, Collecting, Passing, Swallowing, left}
use Rattle.btx_out.specs.language.Breakers.{written_at_end}
use Rattle.btx_out.specs.refinement.Breakers.{Held, holding, AppendsRest, AppendsPartOfRest, is_fresh}
use Rattle.btx_out.specs.language.Pieces.{AppendsPrefix}
use Rattle.btx_out.specs.laws.States.{ByteStep, break_full, step, left_after, sure_after, end_written}
use Rattle.btx_out.proofs.BreakLemmas.{go_on, wrap_is}

same_some : (a b : Left) → Some a ≡ Some b → a ≡ b
same_some a b is = cc

-- what a breaker holds is left of the text
holds_left : (line_length : ℕ) (state : Left) (old : Held) (text : List ℕ) → holding line_length state ≡ old → old.pending ≡ Some (left old.line_length text)
    → state ≡ left line_length text
holds_left line_length state old text view held = same_some state (left line_length text) (rw (← view) at held)

-- ---- more bytes

pub puts_more : (line_length : ℕ) (state next : Left) (old : Held) (text bytes : List ℕ) (before after : Option (List ℕ)) → holding line_length state ≡ old
    → IsLineLength line_length →
    old.pending ≡ Some (left old.line_length text) → next ≡ left_after line_length state bytes → Appends before after (sure_after line_length state bytes) →
    (holding line_length next ≡ holding old.line_length (left old.line_length (text ++ bytes))) × AppendsRest before after (committed old.line_length text)
    (committed old.line_length (text ++ bytes))
puts_more line_length state next old text bytes before after view range held is received =
    let state_is = holds_left line_length state old text view held in
    let wide : 3 ≤ line_length = omega arith in
    let more = go_on line_length bytes text wide in
    let is' = rw state_is at is in
    let received' = rw state_is at received in
    rw (← view) (
      ap (holding line_length) (is' ∙ sym more.0),
      record { written = sure_after line_length (left line_length text) bytes; joined = sym more.1; received = received' },
    )

pub puts_part : (line_length : ℕ) (state : Left) (old : Held) (text bytes : List ℕ) (before after : Option (List ℕ)) → holding line_length state ≡ old
    → IsLineLength line_length →
    old.pending ≡ Some (left old.line_length text) → AppendsPrefix before after (sure_after line_length state bytes) →
    AppendsPartOfRest before after (committed old.line_length text) (committed old.line_length (text ++ bytes))
puts_part line_length state old text bytes before after view range held begins =
    let state_is = holds_left line_length state old text view held in
    let wide : 3 ≤ line_length = omega arith in
    let more = go_on line_length bytes text wide in
    let begins' = rw state_is at begins in
    rw (← view) (record { written = sure_after line_length (left line_length text) bytes; joined = sym more.1; received = begins' })

-- ---- the end of the line

module _ (line_length : ℕ) (state : Left) (old : Held) (text : List ℕ) (before after : Option (List ℕ)) (view : holding line_length state ≡ old)
    (held : old.pending ≡ Some (left old.line_length text)) where
  pub ends_all : Appends before after (end_written state) → AppendsRest before after (committed old.line_length text) (wrap old.line_length text)
  ends_all received =
      let received' = rw (holds_left line_length state old text view held) at received in
      rw (← view) (record { written = end_written (left line_length text); joined = sym (wrap_is line_length text); received = received' })

  pub ends_part : AppendsPrefix before after (end_written state) → AppendsPartOfRest before after (committed old.line_length text) (wrap old.line_length text)
  ends_part begins =
      let begins' = rw (holds_left line_length state old text view held) at begins in
      rw (← view) (record { written = end_written (left line_length text); joined = sym (wrap_is line_length text); received = begins' })

-- ---- a text of which nothing is left is empty

abbrev NotFresh : Left → Type 0
NotFresh (Collecting []) = ⊥
NotFresh _ = Unit {0}

more_not_fresh : (text : List ℕ) (b : ℕ) → NotFresh (Collecting (text ++ b ∷ []))
more_not_fresh [] b = tt
more_not_fresh (c ∷ text) b = tt

step_not_fresh : (line_length : ℕ) (state : Left) (b : ℕ) → NotFresh (step line_length state b).0
step_not_fresh line_length (Collecting text) b = at (ltb (length text) line_length) (last_white (line_length + 1) (text ++ b ∷ [])) where
  at : (t : Bool) (o : Option ℕ) → NotFresh (cond {A = ByteStep} t (Collecting (text ++ b ∷ []), []) (break_full (text ++ b ∷ []) o)).0
  at true o = more_not_fresh text b
  at false (Some i) = tt
  at false None = tt
step_not_fresh line_length Passing b = at (is_white b) where
  at : (t : Bool) → NotFresh (cond {A = ByteStep} t (Swallowing, 10 ∷ []) (Passing, b ∷ [])).0
  at true = tt
  at false = tt
step_not_fresh line_length Swallowing b = at (is_white b) where
  at : (t : Bool) → NotFresh (cond {A = ByteStep} t (Swallowing, []) (Collecting (indented (b ∷ [])), [])).0
  at true = tt
  at false = tt

left_after_not_fresh : (line_length : ℕ) (state : Left) (bs : List ℕ) → NotFresh state → NotFresh (left_after line_length state bs)
unfolding left_after
left_after_not_fresh line_length state [] h = h
left_after_not_fresh line_length state (b ∷ bs) h = left_after_not_fresh line_length (step line_length state b).0 bs (step_not_fresh line_length state b)

left_after_some : (line_length : ℕ) (state : Left) (b : ℕ) (bs : List ℕ) → NotFresh (left_after line_length state (b ∷ bs))
unfolding left_after
left_after_some line_length state b bs = left_after_not_fresh line_length (step line_length state b).0 bs (step_not_fresh line_length state b)

left_not_fresh : (line_length b : ℕ) (bs : List ℕ) → 3 ≤ line_length → NotFresh (left line_length (b ∷ bs))
left_not_fresh line_length b bs wide = let more = go_on line_length (b ∷ bs) [] wide in rw more.0 (left_after_some line_length (left line_length []) b bs)

fresh_is_empty : (line_length : ℕ) (v : Option Left) (text : List ℕ) → 3 ≤ line_length → v ≡ Some (left line_length text) → is_fresh v ≡ true → text ≡ []
fresh_is_empty line_length v [] wide is fresh = refl
fresh_is_empty line_length v (b ∷ bs) wide is fresh = absurd (none (left line_length (b ∷ bs)) (left_not_fresh line_length b bs wide) (rw is at fresh)) where
  none : (state : Left) → NotFresh state → is_fresh (Some state) ≡ true → ⊥
  none (Collecting []) h e = h
  none (Collecting (c ∷ cs)) h e = cc
  none Passing h e = cc
  none Swallowing h e = cc

-- ---- the very end

-- nothing is pending, and nothing is written
pub finish_fresh : (old : Held) (text : List ℕ) (received : Option (List ℕ)) → IsLineLength old.line_length → old.pending ≡ Some (left old.line_length text)
    → is_fresh old.pending ≡ true →
    AppendsRest received received (committed old.line_length text) (written_at_end old.line_length text)
unfolding cut_of cut_within
finish_fresh old text received range held fresh =
    let wide : 3 ≤ old.line_length = omega arith in
    let empty = fresh_is_empty old.line_length old.pending text wide held fresh in
    record { written = []; joined = rw empty refl; received = Appends-nil received }

-- such a breaker is as a new one
pub fresh_is_new : (old : Held) → is_fresh old.pending ≡ true → old ≡ holding old.line_length (Collecting [])
fresh_is_new old fresh = at old.pending refl fresh where
  at : (v : Option Left) → old.pending ≡ v → is_fresh v ≡ true → old ≡ holding old.line_length (Collecting [])
  at (Some (Collecting [])) is fresh = ap (λ p. record { line_length = old.line_length; pending = p }) is
  at (Some (Collecting (b ∷ bs))) is fresh = cc
  at (Some Passing) is fresh = cc
  at (Some Swallowing) is fresh = cc
  at None is fresh = cc

-- something is pending
some_pending : (line_length : ℕ) (v : Option Left) (text : List ℕ) → v ≡ Some (left line_length text) → is_fresh v ≡ false → written_at_end line_length text
    ≡ wrap line_length text
unfolding cut_of cut_within
some_pending line_length v [] held fresh = let fresh' : is_fresh (Some (left line_length [])) ≡ false = rw held at fresh in cc
some_pending line_length v (b ∷ bs) held fresh = refl

pub finish_ends : (old : Held) (text : List ℕ) (before after : Option (List ℕ)) → is_fresh old.pending ≡ false → old.pending ≡ Some (left old.line_length text)
    →
    AppendsRest before after (committed old.line_length text) (wrap old.line_length text)
    → AppendsRest before after (committed old.line_length text) (written_at_end old.line_length text)
finish_ends old text before after fresh held h = rw (some_pending old.line_length old.pending text held fresh) h

pub finish_part : (old : Held) (text : List ℕ) (before after : Option (List ℕ)) → is_fresh old.pending ≡ false → old.pending ≡ Some (left old.line_length text)
    →
    AppendsPartOfRest before after (committed old.line_length text) (wrap old.line_length text)
    → AppendsPartOfRest before after (committed old.line_length text) (written_at_end old.line_length text)
finish_part old text before after fresh held h = rw (some_pending old.line_length old.pending text held fresh) h
