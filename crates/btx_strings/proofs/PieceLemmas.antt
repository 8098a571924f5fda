-- The pieces of a string in another case.
use Rattle.std.proofs.Common.{◌≡◌, ℕ, zero, suc, ◌+◌, ◌-◌, ◌<◌, ◌≤◌, Bool, true, false, cond, not, eqb, ◌&&◌, List, [], ◌∷◌, ◌++◌, length, take, drop, map}
use Rattle.std.proofs.Common.{refl, ◌∙◌, ap, arith, append_assoc}
use Rattle.std.specs.Prelude.{nat_eq}
use Rattle.std.specs.List.{prefix_len, starts_with}
use Rattle.std.proofs.lemmas.List.{append-nil}
use Rattle.std.proofs.lemmas.Bool.{eqb-true, false≢true}
use Rattle.std.proofs.lemmas.Bool.Decides.{nat_tests}
use Rattle.btx_text.specs.language.Class.{is_white}
use Rattle.btx_text.specs.declared.element_kind.Kind.{Kind}
use Rattle.btx_text.specs.declared.element_kind.Kind.TheVariants.{Byte, Open, Close, Special}
use Rattle.btx_text.specs.declared.element_kind.TextMode.TheVariants.{Bytes}
use Rattle.btx_text.specs.language.Elements.{Element, depth_after, kind_at, extent, group_len, elements_from, elements_of}
use Rattle.btx_text.proofs.ElementLemmas.{group_len-le, elements_from-step, elements_from-nil}
use Rattle.btx_strings.specs.declared.conversions.Conversion.{Conversion}
use Rattle.btx_strings.specs.declared.conversions.Conversion.TheVariants.{Title, Lower, Upper}
use Rattle.btx_strings.specs.declared.case_change.Place.{Place}
use Rattle.btx_strings.specs.declared.case_change.Place.TheVariants.{First, Colon, ColonAndWhite, Inside}
use Rattle.btx_strings.specs.language.Case.{case_of, is_title, is_white_text, cased_part}
use Rattle.btx_strings.specs.refinement.CaseState.{is_case_plain, first_place, is_inside, is_beginning, piece_len, cased_piece, place_after}
use Rattle.btx_strings.proofs.CaseLemmas.{cased_from, cased_from-anywhere, cased_from-first}
use Rattle.btx_strings.proofs.CaseLemmas as elements
use Rattle.btx_strings.specs.refinement.Case.{cased_special, cased}
use Rattle.btx_text.specs.refinement.Elements.{element_at}

-- the elements of a text at a depth, after a place, in another case
abbrev rest_at : Conversion → Place → ℕ → ℕ → ℕ → List ℕ → List ℕ
rest_at conversion place skip start depth s = cased_from conversion place (elements_from Bytes skip start depth s)

-- the rest of a string from a piece on, after a place, in another case
unfoldable pub cased_rest : Conversion → Place → List ℕ → List ℕ
cased_rest conversion place s = rest_at conversion place 0 0 0 s

-- where elements start says nothing
starts_apart : (c : Conversion) (p : Place) (skip start start' depth : ℕ) (s : List ℕ) → rest_at c p skip start depth s ≡ rest_at c p skip start' depth s
unfolding elements_from
starts_apart c p skip start start' depth [] = refl
starts_apart c p (suc skip) start start' depth (b ∷ bs) = starts_apart c p skip (start + 1) (start' + 1) (depth_after depth b) bs
starts_apart c p zero start start' depth (b ∷ bs) =
    let part = element_at Bytes start depth (b ∷ bs) in
    ap (λ xs. cased_part c (is_beginning p) part ++ xs)
    (starts_apart c (elements.place_after p part) (length part.text - 1) (start + 1) (start' + 1) (depth_after depth b) bs)

same : {X : Type 0} (t : Bool) (x : X) → cond t x x ≡ x
same true x = refl
same false x = refl

kept_inside : (c : Conversion) → (is_title c && false) ≡ false
kept_inside Title = refl
kept_inside _ = refl

pub above_zero : (n : ℕ) → eqb (suc n) 0 ≡ false
above_zero n = grind (arith, nat_tests)

pub one_more : (n : ℕ) → 1 + n ≡ suc n
one_more n = omega arith

pub deeper : (n : ℕ) → suc n + 1 ≡ suc (n + 1)
deeper n = omega arith

pub less_deep : (n : ℕ) → suc n - 1 ≡ n
less_deep n = omega arith

-- ---- groups

pub kind_inside : (depth b : ℕ) (bs : List ℕ) → kind_at Bytes (suc depth) (b ∷ bs) ≡ cond (eqb b 123) Open (cond (eqb b 125) Close Byte)
unfolding kind_at
kind_inside depth b bs = rw (above_zero depth) refl

-- inside a group all stays, to its end
in_group : (c : Conversion) (start depth : ℕ) (s : List ℕ) →
    rest_at c Inside 0 start (suc depth) s ≡ take (group_len (suc depth) s) s ++ cased_rest c Inside (drop (group_len (suc depth) s) s)
unfolding elements_from group_len cased_rest
in_group c start depth [] = refl
in_group c start depth (b ∷ bs) = rw (kind_inside depth b bs, deeper depth, less_deep depth)
    (at (λ d. in_group c (start + 1) d bs) (eqb b 123) (eqb b 125)) where
      at : ((d : ℕ) → rest_at c Inside 0 (start + 1) (suc d) bs ≡ take (group_len (suc d) bs) bs ++ cased_rest c Inside (drop (group_len (suc d) bs) bs))
          → (t u : Bool) →
          let kind : Kind = cond t Open (cond u Close Byte) in
          let part : Element = record { kind = kind; text = take (extent kind (b ∷ bs)) (b ∷ bs); start = start; depth = suc depth } in
          let d = cond t (suc (depth + 1)) (cond u depth (suc depth)) in
          let n = cond (eqb d 0) 1 (suc (group_len d bs)) in
          cased_part c false part ++ rest_at c (elements.place_after Inside part) (length part.text - 1) (start + 1) d bs ≡ take n (b ∷ bs)
          ++ cased_rest c Inside (drop n (b ∷ bs))
      at rest true u = rw (above_zero (depth + 1), above_zero depth, kept_inside c, same (is_white b) Inside) (ap (λ xs. b ∷ xs) (rest (depth + 1)))
      at rest false true = rw (above_zero depth, kept_inside c, same (is_white b) Inside) (closed depth) where
        closed : (d : ℕ) → let n = cond (eqb d 0) 1 (suc (group_len d bs)) in b ∷ rest_at c Inside 0 (start + 1) d bs ≡ take n (b ∷ bs)
            ++ cased_rest c Inside (drop n (b ∷ bs))
        closed zero = ap (λ xs. b ∷ xs) (starts_apart c Inside 0 (start + 1) 0 0 bs)
        closed (suc d) = rw (above_zero d) (ap (λ xs. b ∷ xs) (rest d))
      at rest false false = rw (above_zero depth, kept_inside c, same (is_white b) Inside) (ap (λ xs. b ∷ xs) (rest depth))

-- a special character
special : (c : Conversion) (p : Place) (s bs : List ℕ) → s ≡ 123 ∷ bs → starts_with nat_eq s (123 ∷ 92 ∷ []) ≡ true →
    let text = take (group_len 0 s) s in
    cased_rest c p s ≡ cond (is_title c && is_beginning p) text (cased_special c text) ++ cased_rest c (place_after p text) (drop (group_len 0 s) s)
unfolding cased_rest kind_at
special c p s bs e h =
    let kind : kind_at Bytes 0 s ≡ Special = rw h refl in
    let text = take (group_len 0 s) s in
    let part : Element = record { kind = Special; text = text; start = 0; depth = 0 } in
    let step : elements_from Bytes 0 0 0 s ≡ part ∷ elements_from Bytes 0 (0 + length text) 0 (drop (group_len 0 s) s) =
    rw kind at (elements_from-step Bytes 0 0 123 s bs e) in
    ap (cased_from c p) step ∙ ap (λ xs. cased_part c (is_beginning p) part ++ xs)
    (starts_apart c (place_after p text) 0 (0 + length text) 0 0 (drop (group_len 0 s) s))

-- any other group
other_group : (c : Conversion) (p : Place) (bs : List ℕ) → starts_with nat_eq bs (92 ∷ []) ≡ false →
    cased_rest c p (123 ∷ bs) ≡ 123 ∷ take (group_len 1 bs) bs ++ cased_rest c Inside (drop (group_len 1 bs) bs)
unfolding cased_rest elements_from kind_at
other_group c p bs h = rw (h, same {X = List ℕ} (is_title c && is_beginning p) (123 ∷ [])) (ap (λ xs. 123 ∷ xs) (in_group c 1 0 bs))

pub group_front : (e : ℕ) (es : List ℕ) → (m : ℕ) × (take (group_len 1 (e ∷ es)) (e ∷ es) ≡ e ∷ take m es)
unfolding group_len
group_front e es = at (eqb (depth_after 1 e) 0) (group_len (depth_after 1 e) es) where
  at : (t : Bool) (n : ℕ) → (m : ℕ) × (take (cond t 1 (suc n)) (e ∷ es) ≡ e ∷ take m es)
  at true n = (0, refl)
  at false n = (n, refl)

group_piece : (c : Conversion) (p : Place) (bs : List ℕ) →
    let s = 123 ∷ bs in
    let n = group_len 0 s in
    cased_rest c p s ≡ cased_piece c (is_beginning p) (take n s) ++ cased_rest c (place_after p (take n s)) (drop n s)
unfolding cased_piece group_len
group_piece c p [] = rw (same {X = List ℕ} (is_title c && is_beginning p) (123 ∷ [])) (other_group c p [] refl)
group_piece c p (e ∷ es) = at (starts_with nat_eq (e ∷ es) (92 ∷ [])) refl where
  at : (t : Bool) → starts_with nat_eq (e ∷ es) (92 ∷ []) ≡ t →
      let s = 123 ∷ e ∷ es in
      let n = group_len 0 s in
      cased_rest c p s ≡ cased_piece c (is_beginning p) (take n s) ++ cased_rest c (place_after p (take n s)) (drop n s)
  at true h = let front = group_front e es in rw (front.1, h) (rw front.1 at (special c p (123 ∷ e ∷ es) (e ∷ es) refl h))
  at false h = let front = group_front e es in rw (front.1, h, same {X = List ℕ} (is_title c && is_beginning p) (123 ∷ e ∷ take front.0 es))
      (rw front.1 at (other_group c p (e ∷ es) h))

-- ---- outside groups

no_brace : (b : ℕ) → eqb b 123 ≡ false → eqb 123 b ≡ false
no_brace b h = grind (arith, nat_tests)

one_byte : (c : Conversion) (p : Place) (b : ℕ) (bs : List ℕ) → eqb b 123 ≡ false →
    cased_rest c p (b ∷ bs) ≡ cond (is_title c && is_beginning p) (b ∷ []) (case_of c b ∷ []) ++ cased_rest c (place_after p (b ∷ [])) bs
unfolding cased_rest elements_from kind_at
one_byte c p b bs h = rw (h, no_brace b h) (at (eqb b 125) refl) where
  at : (t : Bool) → eqb b 125 ≡ t →
      let kind : Kind = cond t Close Byte in
      let part : Element = record { kind = kind; text = take (extent kind (b ∷ bs)) (b ∷ bs); start = 0; depth = 0 } in
      cased_part c (is_beginning p) part ++ rest_at c (elements.place_after p part) (length part.text - 1) 1 (cond t 0 0) bs
      ≡ cond (is_title c && is_beginning p) (b ∷ []) (case_of c b ∷ []) ++ rest_at c (place_after p (b ∷ [])) 0 0 0 bs
  at true is = rw (eqb-true _ _ is) (rw (stays c)
      (ap (λ xs. cond (is_title c && is_beginning p) (125 ∷ []) (125 ∷ []) ++ xs) (starts_apart c (place_after p (125 ∷ [])) 0 1 0 0 bs))) where
        stays : (c : Conversion) → case_of c 125 ≡ 125
        stays Upper = refl
        stays _ = refl
  at false is = ap (λ xs. cond (is_title c && is_beginning p) (b ∷ []) (case_of c b ∷ []) ++ xs) (starts_apart c (place_after p (b ∷ [])) 0 1 0 0 bs)

-- a byte of a run
plain_parts : (t u : Bool) → (not t && not u) ≡ true → (t ≡ false) × (u ≡ false)
plain_parts false false h = (refl, refl)
plain_parts false true h = absurd (false≢true h)
plain_parts true u h = absurd (false≢true h)

plain_byte : (c : Conversion) (b : ℕ) (bs : List ℕ) → is_case_plain b ≡ true → cased_rest c Inside (b ∷ bs) ≡ case_of c b ∷ cased_rest c Inside bs
plain_byte c b bs h =
    let parts = plain_parts (eqb b 58) (eqb b 123) h in
    one_byte c Inside b bs parts.1 ∙ rw (kept_inside c, parts.0, same (is_white b) Inside) refl

run : (c : Conversion) (s : List ℕ) →
    let n = prefix_len is_case_plain s in
    cased_rest c Inside s ≡ map (case_of c) (take n s) ++ cased_rest c Inside (drop n s)
run c [] = refl
run c (b ∷ bs) = rw (one_more (prefix_len is_case_plain bs)) (at (is_case_plain b) refl (run c bs)) where
  at : (t : Bool) → is_case_plain b ≡ t → cased_rest c Inside bs ≡ map (case_of c) (take (prefix_len is_case_plain bs) bs)
      ++ cased_rest c Inside (drop (prefix_len is_case_plain bs) bs) →
      let n = cond t (suc (prefix_len is_case_plain bs)) 0 in
      cased_rest c Inside (b ∷ bs) ≡ map (case_of c) (take n (b ∷ bs)) ++ cased_rest c Inside (drop n (b ∷ bs))
  at true h rest = plain_byte c b bs h ∙ ap (λ xs. case_of c b ∷ xs) rest
  at false h rest = refl

-- ---- the first piece of a text, and what follows

one_piece : (c : Conversion) (p : Place) (b : ℕ) (bs : List ℕ) → eqb b 123 ≡ false →
    cased_rest c p (b ∷ bs) ≡ cased_piece c (is_beginning p) (b ∷ []) ++ cased_rest c (place_after p (b ∷ [])) bs
unfolding cased_piece
one_piece c p b bs h = rw (h, no_brace b h) (one_byte c p b bs h)

-- a run as a piece
run_as_piece : (c : Conversion) (b : ℕ) (xs : List ℕ) → eqb b 58 ≡ false → eqb b 123 ≡ false →
    (cased_piece c false (b ∷ xs) ≡ map (case_of c) (b ∷ xs)) × (place_after Inside (b ∷ xs) ≡ Inside)
unfolding cased_piece
run_as_piece c b xs h k = (rw (kept_inside c, no_brace b k, k) refl, rw (h, same (is_white_text (b ∷ xs)) Inside) refl)

run_len : (b : ℕ) (bs : List ℕ) → is_case_plain b ≡ true → prefix_len is_case_plain (b ∷ bs) ≡ suc (prefix_len is_case_plain bs)
run_len b bs h = rw h (one_more (prefix_len is_case_plain bs))

run_piece : (c : Conversion) (b : ℕ) (bs : List ℕ) → is_case_plain b ≡ true →
    let n = prefix_len is_case_plain (b ∷ bs) in
    cased_rest c Inside (b ∷ bs) ≡ cased_piece c false (take n (b ∷ bs)) ++ cased_rest c (place_after Inside (take n (b ∷ bs))) (drop n (b ∷ bs))
run_piece c b bs h =
    let parts = plain_parts (eqb b 58) (eqb b 123) h in
    let m = prefix_len is_case_plain bs in
    let piece = run_as_piece c b (take m bs) parts.0 parts.1 in
    let here : cased_rest c Inside (b ∷ bs) ≡ case_of c b ∷ map (case_of c) (take m bs) ++ cased_rest c Inside (drop m bs) =
    rw (run_len b bs h) at (run c (b ∷ bs)) in
    rw (run_len b bs h, piece.0, piece.1) here

outside_piece : (c : Conversion) (p : Place) (b : ℕ) (bs : List ℕ) (t : Bool) → eqb b 123 ≡ false → is_case_plain b ≡ t →
    let n = cond (is_inside p && t) (prefix_len is_case_plain (b ∷ bs)) 1 in
    cased_rest c p (b ∷ bs) ≡ cased_piece c (is_beginning p) (take n (b ∷ bs)) ++ cased_rest c (place_after p (take n (b ∷ bs))) (drop n (b ∷ bs))
outside_piece c Inside b bs true h k = run_piece c b bs k
outside_piece c Inside b bs false h k = one_piece c Inside b bs h
outside_piece c First b bs t h k = one_piece c First b bs h
outside_piece c Colon b bs t h k = one_piece c Colon b bs h
outside_piece c ColonAndWhite b bs t h k = one_piece c ColonAndWhite b bs h

cased_rest-piece : (c : Conversion) (p : Place) (s : List ℕ) → 0 < length s →
    let n = piece_len p s in
    cased_rest c p s ≡ cased_piece c (is_beginning p) (take n s) ++ cased_rest c (place_after p (take n s)) (drop n s)
unfolding piece_len
cased_rest-piece c p [] h = absurd (omega arith)
cased_rest-piece c p (b ∷ bs) h = at (eqb b 123) refl where
  at : (t : Bool) → eqb b 123 ≡ t →
      let n = cond t (group_len 0 (b ∷ bs)) (cond (is_inside p && is_case_plain b) (prefix_len is_case_plain (b ∷ bs)) 1) in
      cased_rest c p (b ∷ bs) ≡ cased_piece c (is_beginning p) (take n (b ∷ bs)) ++ cased_rest c (place_after p (take n (b ∷ bs))) (drop n (b ∷ bs))
  at true is = rw (eqb-true _ _ is) (group_piece c p bs)
  at false is = outside_piece c p b bs (is_case_plain b) is refl

cased_rest-none : (c : Conversion) (p : Place) (s : List ℕ) → length s ≡ 0 → cased_rest c p s ≡ []
unfolding cased_rest
cased_rest-none c p s h = rw (elements_from-nil Bytes 0 0 0 s h) refl

-- all of a string
pub cased_rest-first : (c : Conversion) (s : List ℕ) → cased c s ≡ cased_rest c (first_place c) s
unfolding cased_rest elements_of
cased_rest-first Title s = cased_from-first Title (elements_of Bytes s)
cased_rest-first Lower s = cased_from-first Lower (elements_of Bytes s) ∙ cased_from-anywhere Lower First Inside (elements_of Bytes s) refl
cased_rest-first Upper s = cased_from-first Upper (elements_of Bytes s) ∙ cased_from-anywhere Upper First Inside (elements_of Bytes s) refl

-- ---- the length of a piece

group_some : (s : List ℕ) → 0 < length s → 0 < group_len 0 s
unfolding group_len
group_some [] h = absurd (omega arith)
group_some (b ∷ bs) h = at (eqb (depth_after 0 b) 0) (group_len (depth_after 0 b) bs) where
  at : (t : Bool) (n : ℕ) → 0 < cond t 1 (suc n)
  at true n = omega arith
  at false n = omega arith

run_le : (s : List ℕ) → prefix_len is_case_plain s ≤ length s
run_le [] = omega arith
run_le (b ∷ bs) = at (is_case_plain b) (prefix_len is_case_plain bs) (run_le bs) where
  at : (t : Bool) (n : ℕ) → n ≤ length bs → cond t (1 + n) 0 ≤ suc (length bs)
  at true n h = omega arith
  at false n h = omega arith

run_some : (b : ℕ) (bs : List ℕ) → is_case_plain b ≡ true → 0 < prefix_len is_case_plain (b ∷ bs)
run_some b bs h = rw h (omega arith)

piece_fits : (p : Place) (s : List ℕ) → 0 < length s → (0 < piece_len p s) × (piece_len p s ≤ length s)
unfolding piece_len
piece_fits p [] h = absurd (omega arith)
piece_fits p (b ∷ bs) h = at (eqb b 123) (is_inside p) (is_case_plain b) refl where
  at : (t u v : Bool) → is_case_plain b ≡ v →
      let n = cond t (group_len 0 (b ∷ bs)) (cond (u && v) (prefix_len is_case_plain (b ∷ bs)) 1) in
      (0 < n) × (n ≤ length (b ∷ bs))
  at true u v k = (group_some (b ∷ bs) h, group_len-le 0 (b ∷ bs))
  at false true true k = (run_some b bs k, run_le (b ∷ bs))
  at false true false k = (omega arith, omega arith)
  at false false v k = (omega arith, omega arith)

pub piece_some : (p : Place) (s : List ℕ) → 0 < length s → 0 < piece_len p s
piece_some p s h = (piece_fits p s h).0

pub piece_le : (p : Place) (s : List ℕ) → 0 < length s → piece_len p s ≤ length s
piece_le p s h = (piece_fits p s h).1

-- ---- for the loop over pieces

pub next_piece : (c : Conversion) (p : Place) (s text : List ℕ) {n : ℕ} {p' : Place} {begins : Bool} {front back text' whole : List ℕ} →
    text ++ cased_rest c p s ≡ whole → 0 < length s → n ≡ piece_len p s → front ≡ take n s → back ≡ drop n s →
    begins ≡ is_beginning p → p' ≡ place_after p front → text' ≡ text ++ cased_piece c begins front →
    text' ++ cased_rest c p' back ≡ whole
next_piece c p s text all some n_is front_is back_is begins_is place_is text_is =
    rw (text_is, place_is, begins_is, back_is, front_is, n_is, append_assoc) (rw (cased_rest-piece c p s some) at all)

pub last_piece : (c : Conversion) (p : Place) (s text : List ℕ) {whole : List ℕ} → text ++ cased_rest c p s ≡ whole → length s ≡ 0 → text ≡ whole
last_piece c p s text all none = rw (cased_rest-none c p s none, append-nil) at all

pub ruleset pieces = (cased_rest-first, piece_some, piece_le)
