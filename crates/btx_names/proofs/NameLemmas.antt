-- Lemmas on the names of a string.
use Rattle.std.proofs.Common.{◌≡◌, ℕ, zero, suc, ◌+◌, ◌<◌, ◌≤◌, Bool, true, false, cond, eqb, ◌&&◌, List, [], ◌∷◌, length, take, drop, get_or, ◌⊎◌, inl, inr}
use Rattle.std.proofs.Common.{refl, sym, ◌∙◌, ap, arith}
use Rattle.std.proofs.lemmas.List.{drop_all, drop_more, take_rest, drop-drop, length-drop, take_all}
use Rattle.std.proofs.lemmas.Bool.{and_parts, leb-true, ne_eqb}
use Rattle.std.proofs.lemmas.Bool.Decides.{nat_tests}
use Rattle.std.proofs.Math.Bool.{and-false}
use Rattle.std.specs.Prelude.{nat_le, slice_index}
use Rattle.btx_text.specs.language.Class.{is_white}
use Rattle.btx_text.specs.language.Elements.{depth_after}
use Rattle.btx_names.specs.language.NameLists.{is_separator, pieces_from, names_of}
use Rattle.btx_names.specs.refinement.Steps.{first_name_len}
use Rattle.std.specs.List.{onto_first}
use Rattle.std.specs.Int.{is_in_range}
use Rattle.btx_names.specs.refinement.NameLists.{is_letter}

-- ---- the length of the first name

pub name_len_here : (depth : ℕ) (s : List ℕ) (i : ℕ) → i < length s → (eqb depth 0 && is_separator (drop i s)) ≡ true → first_name_len depth (drop i s) ≡ 1
unfolding first_name_len
name_len_here depth s i h test = let split = drop_more s i 0 h in rw split (rw (rw split at test) refl)

pub name_len_next : (depth : ℕ) (s : List ℕ) (i : ℕ) → i < length s → (eqb depth 0 && is_separator (drop i s)) ≡ false →
    first_name_len depth (drop i s) ≡ suc (first_name_len (depth_after depth (get_or s i 0)) (drop (i + 1) s))
unfolding first_name_len
name_len_next depth s i h test = let split = drop_more s i 0 h in rw split (rw (rw split at test) refl)

pub name_len_all : (depth : ℕ) (s : List ℕ) (i : ℕ) → length s ≤ i → first_name_len depth (drop i s) ≡ 0
unfolding first_name_len
name_len_all depth s i h = rw (drop_all i s h) refl

-- a byte from `!` to `z` is neither whitespace nor a brace
abbrev is_plain : ℕ → Bool
is_plain = is_in_range 33 122

depth_after-plain : (depth b : ℕ) → is_plain b ≡ true → depth_after depth b ≡ depth
depth_after-plain depth b plain = grind (arith, nat_tests)

is_white-plain : (b : ℕ) → is_plain b ≡ true → is_white b ≡ false
is_white-plain b plain = grind (arith, nat_tests)

is_separator-plain : (b : ℕ) (bs : List ℕ) → is_plain b ≡ true → is_separator (b ∷ bs) ≡ false
unfolding is_separator
is_separator-plain b bs plain = at (nat_le 5 (length (b ∷ bs))) where
  at : (fits : Bool) → (fits && is_white b && is_letter 97 (slice_index (b ∷ bs) 1) && is_letter 110 (slice_index (b ∷ bs) 2)
      && is_letter 100 (slice_index (b ∷ bs) 3) && is_white (slice_index (b ∷ bs) 4)) ≡ false
  at true = rw (is_white-plain b plain) refl
  at false = refl

pub name_len_plain : (depth : ℕ) (s : List ℕ) (i : ℕ) → i < length s → is_plain (get_or s i 0) ≡ true →
    first_name_len depth (drop i s) ≡ suc (first_name_len depth (drop (i + 1) s))
name_len_plain depth s i h plain =
    let none : (eqb depth 0 && is_separator (drop i s)) ≡ false = rw (drop_more s i 0 h, is_separator-plain (get_or s i 0) (drop (i + 1) s) plain)
    (and-false (eqb depth 0)) in
    name_len_next depth s i h none ∙ ap (λ d. suc (first_name_len d (drop (i + 1) s))) (depth_after-plain depth (get_or s i 0) plain)

pub ruleset name_len_steps = (name_len_here, name_len_next, name_len_plain, name_len_all, take_rest)

-- ---- the pieces

pub pieces_from-skip : (skip depth : ℕ) (s : List ℕ) → pieces_from skip depth s ≡ pieces_from 0 depth (drop skip s)
unfolding pieces_from
pieces_from-skip zero depth s = refl
pieces_from-skip (suc skip) depth [] = refl
pieces_from-skip (suc skip) depth (b ∷ bs) = pieces_from-skip skip depth bs

-- a separator has five bytes
separator_fits : (depth : ℕ) (s : List ℕ) → (eqb depth 0 && is_separator s) ≡ true → 5 ≤ length s
unfolding is_separator
separator_fits depth s h = leb-true 5 (length s) (and_parts _ _ (and_parts _ _ (and_parts _ _ (and_parts _ _ (and_parts _ _ (and_parts _ _ h).1).0).0).0).0).0

-- the first piece goes to the end, or to a separator
abbrev pub Splits : ℕ → List ℕ → ℕ → Type 0
Splits depth s n =
    ((n ≡ length s) × (pieces_from 0 depth s ≡ s ∷ []))
    ⊎ ((n + 4 ≤ length s) × (pieces_from 0 depth s ≡ take n s ∷ pieces_from 0 0 (drop (suc (suc (suc n))) s)))

pub first_piece : (depth : ℕ) (s : List ℕ) → Splits depth s (first_name_len depth s)
unfolding pieces_from first_name_len
first_piece depth [] = inl (refl, refl)
first_piece depth (b ∷ bs) = at (eqb depth 0 && is_separator (b ∷ bs)) refl (first_piece (depth_after depth b) bs) where
  at : (t : Bool) → (eqb depth 0 && is_separator (b ∷ bs)) ≡ t → Splits (depth_after depth b) bs (first_name_len (depth_after depth b) bs) →
      Splits depth (b ∷ bs) (cond t 1 (suc (first_name_len (depth_after depth b) bs)))
  at true is h = let fits = separator_fits depth (b ∷ bs) is in inr (omega arith, rw is (ap (λ ps. (b ∷ []) ∷ ps) (pieces_from-skip 3 0 bs)))
  at false is (inl h) = inl (omega arith, rw is (ap (onto_first b) h.1))
  at false is (inr h) = inr (omega arith, rw is (ap (onto_first b) h.1))

pub length-pieces_from : (skip depth : ℕ) (s : List ℕ) → length (pieces_from skip depth s) ≤ length s + 1
unfolding pieces_from
length-pieces_from skip depth [] = omega arith
length-pieces_from (suc skip) depth (b ∷ bs) = let h = length-pieces_from skip depth bs in omega arith
length-pieces_from zero depth (b ∷ bs) =
    at (eqb depth 0 && is_separator (b ∷ bs)) (length-pieces_from 3 0 bs) (pieces_from 0 (depth_after depth b) bs)
    (length-pieces_from 0 (depth_after depth b) bs) where
      at : (t : Bool) → length (pieces_from 3 0 bs) ≤ length bs + 1 → (pieces : List (List ℕ)) → length pieces ≤ length bs + 1 →
          length (cond t ((b ∷ []) ∷ pieces_from 3 0 bs) (onto_first b pieces)) ≤ length (b ∷ bs) + 1
      at true h pieces g = omega arith
      at false h [] g = omega arith
      at false h (piece ∷ pieces) g = omega arith

-- ---- the iterator

pub names_of-when : (s : List ℕ) (t : Bool) → t ≡ eqb (length s) 0 → cond t [] (pieces_from 0 0 s) ≡ names_of s
unfolding names_of
names_of-when [] t is = rw is refl
names_of-when (b ∷ bs) t is = rw (is, ne_eqb (length (b ∷ bs)) 0 (omega arith)) refl

pub length-names_when : (s : List ℕ) (t : Bool) → length (cond t [] (pieces_from 0 0 s)) ≤ length s + 1
length-names_when s true = omega arith
length-names_when s false = length-pieces_from 0 0 s

pub ruleset names_start = (names_of-when, length-names_when)

pub name_len-le : (depth : ℕ) (s : List ℕ) → first_name_len depth s ≤ length s
name_len-le depth s = at (first_piece depth s) where
  at : Splits depth s (first_name_len depth s) → first_name_len depth s ≤ length s
  at (inl h) = omega arith
  at (inr h) = omega arith

drop_three : (n : ℕ) (s : List ℕ) → drop (suc (suc (suc n))) s ≡ drop 3 (drop n s)
drop_three n s = let e : n + 3 ≡ suc (suc (suc n)) = omega arith in rw (drop-drop 3 n s, e) refl

pub pieces_more : (s after : List ℕ) → after ≡ drop (first_name_len 0 s) s → 3 ≤ length after →
    pieces_from 0 0 s ≡ take (first_name_len 0 s) s ∷ pieces_from 0 0 (drop 3 after)
pieces_more s after is long = at (first_piece 0 s) where
  len : length after + first_name_len 0 s ≡ length s
  len = omega (arith, ap length is, length-drop (first_name_len 0 s) s, name_len-le 0 s)

  at : Splits 0 s (first_name_len 0 s) → pieces_from 0 0 s ≡ take (first_name_len 0 s) s ∷ pieces_from 0 0 (drop 3 after)
  at (inl h) = absurd (omega (arith, len))
  at (inr h) = h.1 ∙ ap (λ t. take (first_name_len 0 s) s ∷ pieces_from 0 0 t) (drop_three (first_name_len 0 s) s ∙ ap (drop 3) (sym is))

pub pieces_last : (s after : List ℕ) → after ≡ drop (first_name_len 0 s) s → length after < 3 →
    pieces_from 0 0 s ≡ take (first_name_len 0 s) s ∷ []
pieces_last s after is short = at (first_piece 0 s) where
  len : length after + first_name_len 0 s ≡ length s
  len = omega (arith, ap length is, length-drop (first_name_len 0 s) s, name_len-le 0 s)

  at : Splits 0 s (first_name_len 0 s) → pieces_from 0 0 s ≡ take (first_name_len 0 s) s ∷ []
  at (inl h) = rw (h.0, take_all (length s) s (omega arith)) h.1
  at (inr h) = absurd (omega (arith, len))
