-- A string has one more name than separators.
use Rattle.std.proofs.Common.{◌≡◌, ℕ, zero, suc, ◌+◌, ◌<◌, Bool, true, false, cond, eqb, ◌&&◌, List, [], ◌∷◌, ◌++◌, length, refl, sym, ◌∙◌, ap, arith}
use Rattle.std.proofs.Common.{append_assoc, length-append}
use Rattle.std.proofs.lemmas.Bool.{eqb-true, and_parts, false_from_ne_true, true≢false, and_right}
use Rattle.std.proofs.lemmas.List.{take_at, drop_at}
use Rattle.std.proofs.lemmas.List.Sums.{fold-append}
use Rattle.std.specs.Prelude.{filter}
use Rattle.std.specs.List.{range_with_len, onto_first}
use Rattle.btx_text.specs.language.Class.{is_white}
use Rattle.btx_text.specs.language.Elements.{depth_after, depth_of}
use Rattle.btx_names.specs.language.NameLists.{is_separator, pieces_from, names_of}
use Rattle.btx_names.specs.laws.NameLists.{separates_at, separators_of}
use Rattle.btx_names.proofs.SplitLemmas.{never}
use Rattle.btx_names.specs.refinement.NameLists.{is_letter}

-- ---- the bytes of a separator

-- no whitespace byte, and no brace
pub record IsInk (b : ℕ) : Type 0 where
  pub not_white : is_white b ≡ false
  pub keeps : depth_after 0 b ≡ 0

letter_is_ink : (lower b : ℕ) → is_letter lower b ≡ true → is_letter lower 32 ≡ false → is_letter lower 9 ≡ false → is_letter lower 13 ≡ false
    → is_letter lower 123 ≡ false → is_letter lower 125 ≡ false → IsInk b
letter_is_ink lower b is space tab return open_brace close_brace =
    record {
      not_white = rw (never (is_letter lower) b 32 is space, never (is_letter lower) b 9 is tab, never (is_letter lower) b 13 is return) refl;
      keeps = rw (never (is_letter lower) b 123 is open_brace, never (is_letter lower) b 125 is close_brace) refl;
    }

pub white_keeps : (b : ℕ) → is_white b ≡ true → depth_after 0 b ≡ 0
white_keeps b is = rw (never is_white b 123 is refl, never is_white b 125 is refl) refl

-- the first bytes of a text are no whitespace and no braces
abbrev pub InkFirst : ℕ → List ℕ → Type 0
InkFirst zero text = Unit {0}
InkFirst (suc n) [] = Unit {0}
InkFirst (suc n) (b ∷ bs) = IsInk b × InkFirst n bs

pub separator_is_ink : (b : ℕ) (bs : List ℕ) → is_separator (b ∷ bs) ≡ true → InkFirst 3 bs
unfolding is_separator
separator_is_ink b [] is = tt
separator_is_ink b (x ∷ []) is = absurd (true≢false (sym is))
separator_is_ink b (x ∷ y ∷ []) is = absurd (true≢false (sym is))
separator_is_ink b (x ∷ y ∷ z ∷ bs) is =
    let last = and_parts _ _ is in
    let third = and_parts _ _ last.0 in
    let second = and_parts _ _ third.0 in
    let first = and_parts _ _ second.0 in (
      letter_is_ink 97 x first.1 refl refl refl refl refl,
      (letter_is_ink 110 y second.1 refl refl refl refl refl, (letter_is_ink 100 z third.1 refl refl refl refl refl, tt)),
    )

pub separator_is_white : (b : ℕ) (bs : List ℕ) → is_separator (b ∷ bs) ≡ true → is_white b ≡ true
unfolding is_separator
separator_is_white b bs is = (and_parts _ _ (and_parts _ _ (and_parts _ _ (and_parts _ _ (and_parts _ _ is).0).0).0).0).1

pub ink_separates_nothing : (b : ℕ) (bs : List ℕ) → IsInk b → is_separator (b ∷ bs) ≡ false
ink_separates_nothing b bs ink = false_from_ne_true (is_separator (b ∷ bs)) (λ is. true≢false (sym (separator_is_white b bs is) ∙ ink.not_white))

-- ---- the places of separators, by what stands before

unfoldable pub places_from : List ℕ → List ℕ → List ℕ
places_from before [] = []
places_from before (b ∷ bs) =
    cond (eqb (depth_of before) 0 && is_separator (b ∷ bs)) (length before ∷ places_from (before ++ b ∷ []) bs) (places_from (before ++ b ∷ []) bs)

pub depth_push : (before : List ℕ) (b : ℕ) → depth_of (before ++ b ∷ []) ≡ depth_after (depth_of before) b
depth_push before b = fold-append depth_after 0 before (b ∷ [])

pub filter_places : (string before rest : List ℕ) → string ≡ before ++ rest → filter (separates_at string) (range_with_len (length before) (length rest))
    ≡ places_from before rest
unfolding places_from
filter_places string before [] is = refl
filter_places string before (b ∷ bs) is =
    let test : separates_at string (length before) ≡ (eqb (depth_of before) 0 && is_separator (b ∷ bs)) =
    rw (is, take_at before (b ∷ bs) (length before) refl, drop_at before (b ∷ bs) (length before) refl) refl in
    let next : length (before ++ b ∷ []) ≡ length before + 1 = length-append before (b ∷ []) in
    let more = filter_places string (before ++ b ∷ []) bs (is ∙ sym (append_assoc before (b ∷ []) bs)) in
    rw (test, sym next, more) refl

-- ---- counting

in_front_keeps : (b : ℕ) (pieces : List (List ℕ)) (n : ℕ) → length pieces ≡ suc n → length (onto_first b pieces) ≡ suc n
in_front_keeps b [] n is = absurd (omega arith)
in_front_keeps b (piece ∷ pieces) n is = is

count_from : (skip : ℕ) (before rest : List ℕ) → InkFirst skip rest → (0 < skip → depth_of before ≡ 0) →
    length (pieces_from skip (depth_of before) rest) ≡ suc (length (places_from before rest))
unfolding pieces_from places_from
count_from skip before [] ink low = refl
count_from (suc skip) before (b ∷ bs) ink low =
    let zero_depth = low (omega arith) in
    let deep : depth_of (before ++ b ∷ []) ≡ 0 = depth_push before b ∙ rw zero_depth ink.0.keeps in
    let none : (eqb (depth_of before) 0 && is_separator (b ∷ bs)) ≡ false =
    and_right (eqb (depth_of before) 0) (is_separator (b ∷ bs)) (ink_separates_nothing b bs ink.0) in
    let more = count_from skip (before ++ b ∷ []) bs ink.1 (λ some. deep) in
    rw (none, zero_depth) (rw deep at more)
count_from zero before (b ∷ bs) ink low =
    at (eqb (depth_of before) 0 && is_separator (b ∷ bs)) refl
    (λ ink low. count_from 3 (before ++ b ∷ []) bs ink low)
    (count_from 0 (before ++ b ∷ []) bs tt (λ some. absurd (omega arith))) where
      Places : ℕ
      Places = length (places_from (before ++ b ∷ []) bs)

      at : (t : Bool) → (eqb (depth_of before) 0 && is_separator (b ∷ bs)) ≡ t →
          (InkFirst 3 bs → (0 < 3 → depth_of (before ++ b ∷ []) ≡ 0) → length (pieces_from 3 (depth_of (before ++ b ∷ [])) bs) ≡ suc Places) →
          length (pieces_from 0 (depth_of (before ++ b ∷ [])) bs) ≡ suc Places →
          length (cond t ((b ∷ []) ∷ pieces_from 3 0 bs) (onto_first b (pieces_from 0 (depth_after (depth_of before) b) bs)))
          ≡ suc (length (cond t (length before ∷ places_from (before ++ b ∷ []) bs) (places_from (before ++ b ∷ []) bs)))
      at true is three one =
          let parts = and_parts (eqb (depth_of before) 0) (is_separator (b ∷ bs)) is in
          let white = separator_is_white b bs parts.1 in
          let deep : depth_of (before ++ b ∷ []) ≡ 0 = depth_push before b ∙ rw (eqb-true (depth_of before) 0 parts.0) (white_keeps b white) in
          let more = three (separator_is_ink b bs parts.1) (λ some. deep) in
          ap (λ n. suc n) (rw deep at more)
      at false is three one = in_front_keeps b (pieces_from 0 (depth_after (depth_of before) b) bs) Places (rw (sym (depth_push before b)) one)

pub one_more_name : (b : ℕ) (bs : List ℕ) → length (names_of (b ∷ bs)) ≡ length (separators_of (b ∷ bs)) + 1
unfolding names_of
one_more_name b bs =
    let more : (n : ℕ) → suc n ≡ n + 1 = λ n. omega arith in
    count_from 0 [] (b ∷ bs) tt (λ some. refl)
    ∙ ap (λ places. suc (length places)) (sym (filter_places (b ∷ bs) [] (b ∷ bs) refl))
    ∙ more (length (separators_of (b ∷ bs)))

pub ruleset counted = (one_more_name)
