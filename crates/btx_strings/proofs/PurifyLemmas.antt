-- What `purify$` leaves of a string, group by group.
use Rattle.std.proofs.Common.{◌≡◌, ℕ, zero, suc, ◌+◌, ◌-◌, ◌<◌, Bool, true, false, cond, eqb, List, [], ◌∷◌, ◌++◌, length, take, drop, refl, ◌∙◌, ap, arith}
use Rattle.std.proofs.Common.{append_assoc}
use Rattle.std.specs.Prelude.{nat_eq, ◌||◌}
use Rattle.std.specs.List.{flat_map, prefix_len, starts_with}
use Rattle.std.proofs.lemmas.List.{append-nil, length-drop}
use Rattle.std.proofs.lemmas.List.Sums.{prefix_len-le-length}
use Rattle.std.proofs.lemmas.Bool.{eqb-true, false≢true}
use Rattle.std.proofs.lemmas.Bool.Decides.{nat_tests}
use Rattle.btx_text.specs.declared.element_kind.Kind.{Kind}
use Rattle.btx_text.specs.declared.element_kind.Kind.TheVariants.{Byte, Open, Close, Special}
use Rattle.btx_text.specs.declared.element_kind.TextMode.TheVariants.{Bytes}
use Rattle.std.specs.Char.{is_ascii_digit}
use Rattle.btx_text.specs.declared.byte_class.Class.TheVariants.{Alpha, Digit, Sep, Other}
use Rattle.btx_text.specs.language.Class.{class_of, is_alpha, is_sep, is_white}
use Rattle.btx_text.specs.language.Elements.{Element, depth_after, kind_at, extent, group_len, elements_from, elements_of}
use Rattle.btx_text.proofs.ElementLemmas.{group_len-le, elements_from-step, elements_from-nil}
use Rattle.btx_strings.specs.language.Controls.{glyphs_of}
use Rattle.btx_strings.specs.language.Purify.{purified_as, purified_class, purified_glyph, purify_of}
use Rattle.btx_strings.specs.refinement.Purify.{stays, purified_group, purified_byte}
use Rattle.btx_strings.proofs.PieceLemmas.{above_zero, deeper, group_front, kind_inside, less_deep, one_more}
use Rattle.btx_text.specs.refinement.Elements.{element_at}

abbrev left_of : Element → List ℕ
left_of part = purified_as part.kind part.text

-- what is left from a place on
abbrev left_at : ℕ → ℕ → ℕ → List ℕ → List ℕ
left_at skip start depth s = flat_map left_of (elements_from Bytes skip start depth s)

-- where elements start says nothing
starts_apart : (skip start start' depth : ℕ) (s : List ℕ) → left_at skip start depth s ≡ left_at skip start' depth s
unfolding elements_from
starts_apart skip start start' depth [] = refl
starts_apart (suc skip) start start' depth (b ∷ bs) = starts_apart skip (start + 1) (start' + 1) (depth_after depth b) bs
starts_apart zero start start' depth (b ∷ bs) =
    let part = element_at Bytes start depth (b ∷ bs) in
    ap (λ xs. left_of part ++ xs) (starts_apart (length part.text - 1) (start + 1) (start' + 1) (depth_after depth b) bs)

-- a byte, and what is left of it as an element
byte_left : (b : ℕ) → flat_map purified_byte (b ∷ []) ≡ purified_byte b
byte_left b = append-nil (purified_byte b)

brace_left : purified_byte 123 ≡ []
unfolding class_of
brace_left = refl

close_left : purified_byte 125 ≡ []
unfolding class_of
close_left = refl

-- ---- groups

-- inside a group each byte leaves what it does outside, to the group's end
in_group : (start depth : ℕ) (s : List ℕ) →
    left_at 0 start (suc depth) s ≡ flat_map purified_byte (take (group_len (suc depth) s) s) ++ left_at 0 0 0 (drop (group_len (suc depth) s) s)
unfolding elements_from group_len
in_group start depth [] = refl
in_group start depth (b ∷ bs) = rw (kind_inside depth b bs, deeper depth, less_deep depth)
    (at (λ d. in_group (start + 1) d bs) (eqb b 123) (eqb b 125) refl refl) where
      at : ((d : ℕ) → left_at 0 (start + 1) (suc d) bs ≡ flat_map purified_byte (take (group_len (suc d) bs) bs)
          ++ left_at 0 0 0 (drop (group_len (suc d) bs) bs))
          →
          (t u : Bool) → eqb b 123 ≡ t → eqb b 125 ≡ u →
          let kind : Kind = cond t Open (cond u Close Byte) in
          let part : Element = record { kind = kind; text = take (extent kind (b ∷ bs)) (b ∷ bs); start = start; depth = suc depth } in
          let d = cond t (suc (depth + 1)) (cond u depth (suc depth)) in
          let n = cond (eqb d 0) 1 (suc (group_len d bs)) in
          left_of part ++ left_at (length part.text - 1) (start + 1) d bs ≡ flat_map purified_byte (take n (b ∷ bs)) ++ left_at 0 0 0 (drop n (b ∷ bs))
      at rest true u is k = rw (eqb-true _ _ is, above_zero (depth + 1), brace_left) (rest (depth + 1))
      at rest false true is k = rw (eqb-true _ _ k) (closed depth) where
        closed : (d : ℕ) → let n = cond (eqb d 0) 1 (suc (group_len d bs)) in left_at 0 (start + 1) d bs ≡ flat_map purified_byte (take n (125 ∷ bs))
            ++ left_at 0 0 0 (drop n (125 ∷ bs))
        closed zero = rw close_left (starts_apart 0 (start + 1) 0 0 bs)
        closed (suc d) = rw (above_zero d, close_left) (rest d)
      at rest false false is k = rw (above_zero depth, append-nil, append_assoc) (ap (λ xs. purified_byte b ++ xs) (rest depth))

-- a special character
special : (s bs : List ℕ) → s ≡ 123 ∷ bs → starts_with nat_eq s (123 ∷ 92 ∷ []) ≡ true →
    let text = take (group_len 0 s) s in
    purify_of s ≡ flat_map purified_glyph (glyphs_of text) ++ purify_of (drop (group_len 0 s) s)
unfolding elements_of kind_at
special s bs e h =
    let kind : kind_at Bytes 0 s ≡ Special = rw h refl in
    let text = take (group_len 0 s) s in
    let part : Element = record { kind = Special; text = text; start = 0; depth = 0 } in
    let step : elements_from Bytes 0 0 0 s ≡ part ∷ elements_from Bytes 0 (0 + length text) 0 (drop (group_len 0 s) s) =
    rw kind at (elements_from-step Bytes 0 0 123 s bs e) in
    ap (flat_map left_of) step ∙ ap (λ xs. left_of part ++ xs) (starts_apart 0 (0 + length text) 0 0 (drop (group_len 0 s) s))

-- any other group
other_group : (bs : List ℕ) → starts_with nat_eq bs (92 ∷ []) ≡ false →
    purify_of (123 ∷ bs) ≡ flat_map purified_byte (take (group_len 1 bs) bs) ++ purify_of (drop (group_len 1 bs) bs)
unfolding elements_of elements_from kind_at
other_group bs h = rw h (in_group 1 0 bs)

group_left : (bs : List ℕ) →
    let s = 123 ∷ bs in
    let n = group_len 0 s in
    purify_of s ≡ purified_group (take n s) ++ purify_of (drop n s)
unfolding group_len
group_left [] = rw brace_left (other_group [] refl)
group_left (e ∷ es) = at (starts_with nat_eq (e ∷ es) (92 ∷ [])) refl where
  at : (t : Bool) → starts_with nat_eq (e ∷ es) (92 ∷ []) ≡ t →
      let s = 123 ∷ e ∷ es in
      let n = group_len 0 s in
      purify_of s ≡ purified_group (take n s) ++ purify_of (drop n s)
  at true h = let front = group_front e es in rw (front.1, h) (rw front.1 at (special (123 ∷ e ∷ es) (e ∷ es) refl h))
  at false h = let front = group_front e es in rw (front.1, h, brace_left) (rw front.1 at (other_group (e ∷ es) h))

-- ---- outside groups

no_brace : (b : ℕ) → eqb b 123 ≡ false → eqb 123 b ≡ false
no_brace b h = grind (arith, nat_tests)

-- a byte outside of groups; `}` leaves nothing, and the depth stays 0
outside_byte : (b : ℕ) (bs : List ℕ) → eqb b 123 ≡ false → purify_of (b ∷ bs) ≡ purified_byte b ++ purify_of bs
unfolding elements_of elements_from kind_at
outside_byte b bs h = rw (h, no_brace b h) (at (eqb b 125) refl) where
  at : (t : Bool) → eqb b 125 ≡ t →
      let kind : Kind = cond t Close Byte in
      let part : Element = record { kind = kind; text = take (extent kind (b ∷ bs)) (b ∷ bs); start = 0; depth = 0 } in
      left_of part ++ left_at (length part.text - 1) 1 (cond t 0 0) bs ≡ purified_byte b ++ left_at 0 0 0 bs
  at true is = rw (eqb-true _ _ is, close_left) (starts_apart 0 1 0 0 bs)
  at false is = rw append-nil (ap (λ xs. purified_byte b ++ xs) (starts_apart 0 1 0 0 bs))

-- a byte that stays begins no group, and leaves itself
stays_apart : (b : ℕ) → stays b ≡ true → eqb b 123 ≡ false
stays_apart b h = grind (arith, nat_tests)

white_stays : (b : ℕ) → stays b ≡ true → is_white b ≡ eqb b 32
white_stays b h = grind (arith, nat_tests)

letter_stays : (b : ℕ) → stays b ≡ true → eqb b 32 ≡ false → (is_alpha b || is_ascii_digit b) ≡ true
letter_stays b h none = grind (arith, nat_tests)

stays_left : (b : ℕ) → stays b ≡ true → purified_byte b ≡ b ∷ []
unfolding class_of
stays_left b h = at (eqb b 32) refl where
  at : (white : Bool) → eqb b 32 ≡ white → purified_byte b ≡ b ∷ []
  at true is = rw (eqb-true _ _ is) refl
  at false is = rw (white_stays b h ∙ is) (letter (is_alpha b) (is_ascii_digit b) (letter_stays b h is)) where
    letter : (alpha digit : Bool) → (alpha || digit) ≡ true → purified_class (cond alpha Alpha (cond digit Digit (cond (is_sep b) Sep Other))) b ≡ b ∷ []
    letter true digit k = refl
    letter false true k = refl
    letter false false k = absurd (false≢true k)

before_other : (s : List ℕ) →
    let n = prefix_len stays s in
    purify_of s ≡ take n s ++ purify_of (drop n s)
before_other [] = refl
before_other (b ∷ bs) = rw (one_more (prefix_len stays bs)) (at (stays b) refl (before_other bs)) where
  at : (t : Bool) → stays b ≡ t → purify_of bs ≡ take (prefix_len stays bs) bs ++ purify_of (drop (prefix_len stays bs) bs) →
      let n = cond t (suc (prefix_len stays bs)) 0 in
      purify_of (b ∷ bs) ≡ take n (b ∷ bs) ++ purify_of (drop n (b ∷ bs))
  at true h rest = outside_byte b bs (stays_apart b h) ∙ rw (stays_left b h) (ap (λ xs. b ∷ xs) rest)
  at false h rest = refl

-- ---- for the loop over groups

-- a byte that begins no group stands alone
one_long : (b : ℕ) (bs : List ℕ) → eqb b 123 ≡ false → group_len 0 (b ∷ bs) ≡ 1
unfolding group_len
one_long b bs h = rw h (at (eqb b 125)) where
  at : (u : Bool) → let d : ℕ = cond u 0 0 in let one : ℕ = 1 in cond (eqb d 0) one (suc (group_len d bs)) ≡ one
  at true = refl
  at false = refl

none_left : let s : List ℕ = [] in purify_of s ≡ purified_group (take (group_len 0 s) s) ++ purify_of (drop (group_len 0 s) s)
unfolding group_len
none_left = refl

-- a group, or another byte
first_group : (s : List ℕ) →
    let m = group_len 0 s in
    purify_of s ≡ purified_group (take m s) ++ purify_of (drop m s)
first_group [] = none_left
first_group (b ∷ bs) = at (eqb b 123) refl where
  at : (t : Bool) → eqb b 123 ≡ t → let m = group_len 0 (b ∷ bs) in purify_of (b ∷ bs) ≡ purified_group (take m (b ∷ bs)) ++ purify_of (drop m (b ∷ bs))
  at true h = rw (eqb-true _ _ h) (group_left bs)
  at false h = rw (one_long b bs h, no_brace b h, byte_left b) (outside_byte b bs h)

pub next_group : (s text : List ℕ) {n m : ℕ} {run after group others before text' whole : List ℕ} →
    text ++ purify_of s ≡ whole → n ≡ prefix_len stays s → run ≡ take n s → before ≡ text ++ run →
    after ≡ drop n s → m ≡ group_len 0 after → group ≡ take m after → others ≡ drop m after → text' ≡ before ++ purified_group group →
    text' ++ purify_of others ≡ whole
next_group s text all n_is run_is before_is after_is m_is group_is others_is text_is =
    let n = prefix_len stays s in
    rw (text_is, before_is, run_is, others_is, group_is, m_is, after_is, n_is, append_assoc (text ++ take n s), append_assoc text (take n s))
    (rw (before_other s, first_group (drop n s)) at all)

fewer : (s : List ℕ) → 0 < length s → let after = drop (prefix_len stays s) s in length (drop (group_len 0 after) after) < length s
unfolding group_len
fewer [] h = absurd (omega arith)
fewer (b ∷ bs) h = rw (one_more (prefix_len stays bs)) (at (stays b)) where
  at : (t : Bool) → let after = drop (cond t (suc (prefix_len stays bs)) 0) (b ∷ bs) in length (drop (group_len 0 after) after) < length (b ∷ bs)
  at false = back (eqb (depth_after 0 b) 0) (group_len (depth_after 0 b) bs) where
    back : (t : Bool) (n : ℕ) → length (drop (cond t 1 (suc n)) (b ∷ bs)) < suc (length bs)
    back true n = omega arith
    back false n = rw (length-drop n bs) (omega arith)
  at true = let after = drop (prefix_len stays bs) bs in rw (length-drop (group_len 0 after) after, length-drop (prefix_len stays bs) bs) (omega arith)

pub less_is_left : (s : List ℕ) {n m : ℕ} {after others : List ℕ} → 0 < length s →
    n ≡ prefix_len stays s → after ≡ drop n s → m ≡ group_len 0 after → others ≡ drop m after → length others < length s
less_is_left s some n_is after_is m_is others_is = rw (others_is, m_is, after_is, n_is) (fewer s some)

pub nothing_left : (s text : List ℕ) {whole : List ℕ} → text ++ purify_of s ≡ whole → length s ≡ 0 → text ≡ whole
unfolding elements_of
nothing_left s text all none = rw (elements_from-nil Bytes 0 0 0 s none, append-nil) at all

-- a run to the end
pub nothing_behind : (s text : List ℕ) {n : ℕ} {run after before whole : List ℕ} →
    text ++ purify_of s ≡ whole → n ≡ prefix_len stays s → run ≡ take n s → before ≡ text ++ run → after ≡ drop n s → length after ≡ 0 → before ≡ whole
nothing_behind s text {n} {run} {after} {before} {whole} all n_is run_is before_is after_is none =
    let n = prefix_len stays s in
    let left : before ++ purify_of after ≡ whole = rw (before_is, run_is, after_is, n_is, append_assoc text (take n s)) (rw (before_other s) at all) in
    nothing_left after before left none

pub ruleset groups = (prefix_len-le-length, group_len-le)
