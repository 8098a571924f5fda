-- Lemmas on the bytes that a breaker keeps.
use Rattle.std.proofs.Common.{◌≡◌, ℕ, zero, suc, ◌+◌, ◌-◌, ◌<◌, ◌≤◌, cond, not, if◌then◌else◌, List, [], ◌∷◌, ◌++◌, length, take, drop, set, get_or, ◌⊎◌}
use Rattle.std.proofs.Common.{⊎_elim, Some, None, refl, sym, subst, ◌∙◌, ap, arith, append_assoc, Bool, true, false}
use Rattle.std.proofs.lemmas.Bool.{le-leb}
use Rattle.std.proofs.lemmas.List.{append-nil, take_more, take_more_set, drop_all, drop-set-lt, drop-set, drop-set-add, take_all, take-take, length-take-le}
use Rattle.std.proofs.lemmas.List.{length-set, length-drop}
use Rattle.std.proofs.lemmas.List.Sums.{take_while-cons}
use Rattle.std.proofs.lemmas.List.Edits.{take-paste}
use Rattle.std.proofs.Math.Seq.{drop-cons}
use Rattle.std.specs.List.{copy_within, take_while}
use Rattle.btx_text.specs.language.Class.{is_white}
use Rattle.btx_text.specs.language.Lines.{trimmed, white_before}
use Rattle.btx_out.specs.language.Breaking.{written_line, with_line_feed, last_white, indented, skip_white, till_white, from_white}
use Rattle.btx_out.specs.refinement.Breaking.{is_not_white}

-- ---- the last whitespace byte

pub last_white_step : (end : ℕ) (text : List ℕ) → 3 ≤ end → last_white (end + 1) text ≡ cond (is_white (get_or text end 0)) (Some end) (last_white end text)
unfolding last_white
last_white_step end text h = let e : end + 1 ≡ suc end = omega arith in rw (e, le-leb 3 end h) refl

pub last_white_three : (end : ℕ) (text : List ℕ) → end ≤ 3 → last_white end text ≡ None
unfolding last_white
last_white_three zero text h = refl
last_white_three (suc zero) text h = refl
last_white_three (suc (suc zero)) text h = refl
last_white_three (suc (suc (suc zero))) text h = refl
last_white_three (suc (suc (suc (suc n)))) text h = absurd (omega arith)

pub ruleset last_whites = (last_white_step, last_white_three)

-- ---- a line and its end

-- what is kept of a line is its front
pub trimmed_front : (text : List ℕ) → (length (trimmed text) ≤ length text) × (trimmed text ≡ take (length (trimmed text)) text)
unfolding trimmed
trimmed_front [] = (omega arith, refl)
trimmed_front (b ∷ bs) = at (is_white b) (trimmed bs) (trimmed_front bs) where
  at : (t : Bool) (kept : List ℕ) → (length kept ≤ length bs) × (kept ≡ take (length kept) bs) →
      (length (cond t (white_before b kept) (b ∷ kept)) ≤ suc (length bs))
      × (cond t (white_before b kept) (b ∷ kept) ≡ take (length (cond t (white_before b kept) (b ∷ kept))) (b ∷ bs))
  at true [] h = (omega arith, refl)
  at true (c ∷ cs) h = (omega (arith, h.0), ap (λ xs. b ∷ xs) h.1)
  at false kept h = (omega (arith, h.0), ap (λ xs. b ∷ xs) h.1)

-- a line of whitespace alone is nothing
pub line_gone : (text : List ℕ) → 0 < length text → length (trimmed text) ≡ 0 → written_line text ≡ []
line_gone [] some h = absurd (omega arith)
line_gone (b ∷ bs) some h = at (trimmed (b ∷ bs)) h where
  at : (kept : List ℕ) → length kept ≡ 0 → with_line_feed kept ≡ []
  at [] h = refl
  at (c ∷ cs) h = absurd (omega arith)

-- any other is what is kept of it, and byte 10
pub line_kept : (text : List ℕ) → (length text ≡ 0 → ⊥) → (length (trimmed text) ≡ 0 → ⊥) → written_line text ≡ trimmed text ++ 10 ∷ []
unfolding trimmed
line_kept [] some h = absurd (some refl)
line_kept (b ∷ bs) some h = at (trimmed (b ∷ bs)) h where
  at : (kept : List ℕ) → (length kept ≡ 0 → ⊥) → with_line_feed kept ≡ kept ++ 10 ∷ []
  at [] h = absurd (h refl)
  at (c ∷ cs) h = refl

pub line_empty : (text : List ℕ) → length text ≡ 0 → written_line text ≡ trimmed text ++ 10 ∷ []
unfolding trimmed
line_empty [] h = refl
line_empty (b ∷ bs) h = absurd (omega arith)

-- what is kept of the line before an index
pub kept_within : (text kept : List ℕ) (at : ℕ) → at < length text → kept ≡ trimmed (take at text) → length kept ≤ at
kept_within text kept at inside is =
    let front = trimmed_front (take at text) in
    let len : length (take at text) ≡ at = length-take-le at text (omega arith) in
    rw is (omega (arith, front.0))

-- it and byte 10 are the line as it is written
pub kept_line : (text kept : List ℕ) (at : ℕ) → at < length text → kept ≡ trimmed (take at text) → ((length kept ≡ 0) × (at ≤ 0)) ⊎ (length kept ≡ 0 → ⊥) →
    take (length kept + 1) (set text (length kept) 10) ≡ written_line (take at text)
kept_line text kept at inside is either =
    let within = kept_within text kept at inside is in
    let front = trimmed_front (take at text) in
    let short : length kept < length text = omega arith in
    let kept_is : take (length kept) text ≡ kept = sym (take-take (length kept) at text within) ∙ sym (rw (← is) at front.1) in
    rw (take_more_set text (length kept) 10 short, kept_is)
    (⊎_elim (λ none. rw is (sym (line_empty (take at text) (let len : length (take at text) ≡ at = length-take-le at text (omega arith) in omega arith))))
    (λ some. let some' : length (trimmed (take at text)) ≡ 0 → ⊥ = rw is at some in
    rw is (sym (line_kept (take at text) (λ none. some' (let le = front.0 in omega arith)) some'))) either)

-- what comes after the index stays
pub kept_rest : (text kept : List ℕ) (at : ℕ) → at < length text → kept ≡ trimmed (take at text) → drop (at + 1) (set text (length kept) 10)
    ≡ drop (at + 1) text
kept_rest text kept at inside is = let within = kept_within text kept at inside is in drop-set-lt (at + 1) text (length kept) 10 (omega arith)

-- a line of whitespace alone is not written
pub kept_none : (text kept : List ℕ) (at : ℕ) → at < length text → kept ≡ trimmed (take at text) → length kept ≡ 0 → 0 < at → written_line (take at text) ≡ []
kept_none text kept at inside is none some =
    let len : length (take at text) ≡ at = length-take-le at text (omega arith) in
    line_gone (take at text) (omega arith) (rw is at none)

-- ---- what goes on after a break

-- two spaces before what comes after an index
spaced : (text : List ℕ) (start : ℕ) → start + 1 < length text → drop start (set (set text start 32) (start + 1) 32) ≡ indented (drop (start + 2) text)
spaced text start inside =
    let first = drop-set text start 32 (omega arith) in
    let cut = drop-cons text (start + 1) 0 inside in
    let more : suc (start + 1) ≡ start + 2 = omega arith in
    drop-set-add start (set text start 32) 1 32 ∙ rw (first, cut, more) refl

-- a copy of the end to the front
copied : (both moved : List ℕ) (start : ℕ) → start ≤ length both → moved ≡ copy_within both start (length both) 0 → length moved ≡ length both →
    take (length moved - start) moved ≡ drop start both
copied both moved start inside is len =
    let rest = length-drop start both in
    let room : length both - start ≤ length (drop start both) = omega arith in
    let none : 0 ≤ length both = omega arith in
    let taken = take-paste both 0 (drop start both) (length both - start) none room in
    let same : 0 + (length both - start) ≡ length both - start = omega arith in
    let Taken : ℕ → Type 0 = λ n. take n (copy_within both start (length both) 0) ≡ take (length both - start) (drop start both) in
    let taken' = subst Taken same taken in
    rw (len, is) (taken' ∙ take_all (length both - start) (drop start both) (omega arith))

pub carried : (text moved : List ℕ) (at : ℕ) → 0 < at → at < length text →
    moved ≡ copy_within (set (set text (at - 1) 32) at 32) (at - 1) (length (set (set text (at - 1) 32) at 32)) 0 →
    length moved ≡ length (set (set text (at - 1) 32) at 32) →
    take (length moved - (at - 1)) moved ≡ indented (drop (at + 1) text)
carried text moved at some inside is len = carried_from (at - 1) (omega arith) (omega arith) where
  carried_from : (start : ℕ) → start ≡ at - 1 → at ≡ start + 1 → take (length moved - (at - 1)) moved ≡ indented (drop (at + 1) text)
  carried_from start same next =
      let both = set (set text (at - 1) 32) at 32 in
      let length_both : length both ≡ length text = length-set (set text (at - 1) 32) at 32 ∙ length-set text (at - 1) 32 in
      let more : at + 1 ≡ start + 2 = omega arith in
      let front = copied both moved (at - 1) (omega arith) is len in
      let gap = spaced text start (omega arith) in
      front ∙ rw (more, ← same, next) gap

-- ---- the first whitespace byte

-- what passes a test at the front is no longer than the whole
pub front_within : (passes : ℕ → Bool) (bytes : List ℕ) (n : ℕ) → n ≡ length (take_while passes bytes) → n ≤ length bytes
front_within passes bytes n is = rw is (within bytes) where
  within : (bytes : List ℕ) → length (take_while passes bytes) ≤ length bytes
  within [] = omega arith
  within (b ∷ bs) = rw (take_while-cons passes b bs) (at (passes b) (within bs)) where
    at : (t : Bool) → length (take_while passes bs) ≤ length bs → length (cond t (b ∷ take_while passes bs) []) ≤ suc (length bs)
    at true h = omega (arith, h)
    at false h = omega arith

-- the front without whitespace is what stands before the first whitespace byte, and the rest what stands from it on
ink_front : (bytes : List ℕ) → take (length (take_while is_not_white bytes)) bytes ≡ till_white bytes
unfolding till_white
ink_front [] = refl
ink_front (b ∷ bs) = rw (take_while-cons is_not_white b bs) (at (is_white b) (ink_front bs)) where
  at : (white : Bool) → take (length (take_while is_not_white bs)) bs ≡ till_white bs →
      take (length (cond (not white) (b ∷ take_while is_not_white bs) [])) (b ∷ bs) ≡ (if white then [] else b ∷ till_white bs)
  at true h = refl
  at false h = ap (λ xs. b ∷ xs) h

ink_rest : (bytes : List ℕ) → drop (length (take_while is_not_white bytes)) bytes ≡ from_white bytes
unfolding from_white
ink_rest [] = refl
ink_rest (b ∷ bs) = rw (take_while-cons is_not_white b bs) (at (is_white b) (ink_rest bs)) where
  at : (white : Bool) → drop (length (take_while is_not_white bs)) bs ≡ from_white bs →
      drop (length (cond (not white) (b ∷ take_while is_not_white bs) [])) (b ∷ bs) ≡ (if white then b ∷ bs else from_white bs)
  at true h = refl
  at false h = h

pub split_front : (bytes : List ℕ) (n : ℕ) → n ≡ length (take_while is_not_white bytes) → take n bytes ≡ till_white bytes
split_front bytes n is = rw is (ink_front bytes)

pub split_rest : (bytes : List ℕ) (n : ℕ) → n ≡ length (take_while is_not_white bytes) → drop n bytes ≡ from_white bytes
split_rest bytes n is = rw is (ink_rest bytes)

-- ---- the whitespace at the front

white_rest : (bytes : List ℕ) → drop (length (take_while is_white bytes)) bytes ≡ skip_white bytes
unfolding skip_white
white_rest [] = refl
white_rest (b ∷ bs) = rw (take_while-cons is_white b bs) (at (is_white b) (white_rest bs)) where
  at : (white : Bool) → drop (length (take_while is_white bs)) bs ≡ skip_white bs →
      drop (length (cond white (b ∷ take_while is_white bs) [])) (b ∷ bs) ≡ (if white then skip_white bs else b ∷ bs)
  at true h = h
  at false h = refl

pub skip_rest : (bytes : List ℕ) (n : ℕ) → n ≡ length (take_while is_white bytes) → drop n bytes ≡ skip_white bytes
skip_rest bytes n is = rw is (white_rest bytes)
