-- Lemmas on places.
use Rattle.std.proofs.Common.{◌≡◌, ℕ, suc, ◌+◌, ◌<◌, ◌≤◌, Bool, true, false, cond, List, [], ◌∷◌, length, map, refl, ◌==◌, arith}
use Rattle.std.proofs.lemmas.List.{length-map}
use Rattle.btx_text.specs.language.Lines.{lines_of, line_pieces, trimmed, white_before}
use Rattle.btx_text.specs.language.Class.{is_white}
use Rattle.btx_bst.specs.language.Places.{size, lines_size, place_at, behind_white, ink_from, skipped_from, line_or}
use Rattle.std.specs.List.{onto_first}
use Rattle.btx_bst.specs.laws.Places.{beginning}

in_front-len : (b : ℕ) (pieces : List (List ℕ)) (n : ℕ) → length pieces ≤ n → length (onto_first b pieces) ≤ suc n
in_front-len b [] n h = omega arith
in_front-len b (p ∷ ps) n h = omega arith

pieces-len : (text : List ℕ) → length (line_pieces text) ≤ length text
unfolding line_pieces
pieces-len [] = omega arith
pieces-len (b ∷ bs) = at (b == 10) (pieces-len bs) where
  at : (t : Bool) → length (line_pieces bs) ≤ length bs → length (cond t ([] ∷ line_pieces bs) (onto_first b (line_pieces bs))) ≤ suc (length bs)
  at true h = omega arith
  at false h = in_front-len b (line_pieces bs) (length bs) h

pub lines_len : (text : List ℕ) → length (lines_of text) ≤ length text
lines_len text = rw length-map (pieces-len text)

pub ruleset line_steps = (lines_len)

-- nothing is left of a line, and there is a next one
pub ink-next : (n : ℕ) (s : List ℕ) (next : List ℕ) (after : List (List ℕ)) → length (behind_white s) ≡ 0 → ink_from n s (next ∷ after)
    ≡ ink_from (n + 1) next after
unfolding ink_from
ink-next n s next after h = at (behind_white s) h where
  at : (x : List ℕ) → length x ≡ 0 → line_or n x (next ∷ after) (ink_from (n + 1) next after) ≡ ink_from (n + 1) next after
  at [] h = refl
  at (b ∷ bs) h = absurd (omega arith)

-- something is left of a line
pub ink-found : (n : ℕ) (s : List ℕ) (after : List (List ℕ)) → 0 < length (behind_white s) → ink_from n s after ≡ place_at n (behind_white s) after
unfolding ink_from
ink-found n s [] h = refl
ink-found n s (next ∷ after) h = at (behind_white s) h where
  at : (x : List ℕ) → 0 < length x → line_or n x (next ∷ after) (ink_from (n + 1) next after) ≡ place_at n x (next ∷ after)
  at [] h = absurd (omega arith)
  at (b ∷ bs) h = refl

-- there is no further line
pub ink-last : (n : ℕ) (s : List ℕ) → ink_from n s [] ≡ place_at n (behind_white s) []
unfolding ink_from
ink-last n s = refl

pub ruleset ink_steps = (ink-next, ink-found, ink-last)

pub skip-last : (n : ℕ) → skipped_from n [] ≡ place_at n [] []
unfolding skipped_from
skip-last n = refl

pub skip-empty : (n : ℕ) (line : List ℕ) (after : List (List ℕ)) → length line ≡ 0 → skipped_from n (line ∷ after) ≡ place_at (n + 1) [] after
unfolding skipped_from
skip-empty n [] after h = refl
skip-empty n (b ∷ bs) after h = absurd (omega arith)

pub skip-next : (n : ℕ) (line : List ℕ) (after : List (List ℕ)) → 0 < length line → skipped_from n (line ∷ after) ≡ skipped_from (n + 1) after
unfolding skipped_from
skip-next n [] after h = absurd (omega arith)
skip-next n (b ∷ bs) after h = refl

pub ruleset skip_steps = (skip-last, skip-empty, skip-next)

-- ---- a text is no shorter than its lines

white_before-len : (b : ℕ) (bs : List ℕ) → length (white_before b bs) ≤ suc (length bs)
white_before-len b [] = omega arith
white_before-len b (c ∷ cs) = omega arith

trimmed-len : (s : List ℕ) → length (trimmed s) ≤ length s
unfolding trimmed
trimmed-len [] = omega arith
trimmed-len (b ∷ bs) = at (is_white b) (trimmed-len bs) where
  at : (t : Bool) → length (trimmed bs) ≤ length bs → length (cond t (white_before b (trimmed bs)) (b ∷ trimmed bs)) ≤ suc (length bs)
  at true h = omega (arith, h, white_before-len b (trimmed bs))
  at false h = omega arith

trimmed-size : (ps : List (List ℕ)) → lines_size (map trimmed ps) ≤ lines_size ps
unfolding lines_size
trimmed-size [] = omega arith
trimmed-size (p ∷ ps) = omega (arith, trimmed-len p, trimmed-size ps)

in_front-size : (b : ℕ) (pieces : List (List ℕ)) (n : ℕ) → lines_size pieces ≤ suc n → lines_size (onto_first b pieces) ≤ suc (suc n)
unfolding lines_size
in_front-size b [] n h = omega arith
in_front-size b (p ∷ ps) n h = omega arith

pieces-size : (text : List ℕ) → lines_size (line_pieces text) ≤ suc (length text)
unfolding line_pieces lines_size
pieces-size [] = omega arith
pieces-size (b ∷ bs) = at (b == 10) (pieces-size bs) where
  at : (t : Bool) → lines_size (line_pieces bs) ≤ suc (length bs) → lines_size (cond t ([] ∷ line_pieces bs) (onto_first b (line_pieces bs)))
      ≤ suc (suc (length bs))
  at true h = omega arith
  at false h = in_front-size b (line_pieces bs) (length bs) h

pub beginning-size : (text : List ℕ) → size (beginning text) ≤ suc (length text)
unfolding size
beginning-size text = omega (arith, trimmed-size (line_pieces text), pieces-size text)
