-- How much of a text is left.
use Rattle.std.proofs.Common.{ℕ, suc, ◌+◌, ◌≤◌, Bool, true, false, cond, List, [], ◌∷◌, length, ◌==◌, arith}
use Rattle.btx_text.specs.language.Class.{is_white}
use Rattle.btx_bst.specs.language.Places.{Place, behind_white, ink, ink_from, line_or, skipped, skipped_from, size, lines_size}

white-len : (s : List ℕ) → length (behind_white s) ≤ length s
unfolding behind_white
white-len [] = omega arith
white-len (b ∷ bs) = at (is_white b) (b == 37) (white-len bs) where
  at : (t u : Bool) → length (behind_white bs) ≤ length bs → length (cond t (behind_white bs) (cond u [] (b ∷ bs))) ≤ suc (length bs)
  at true u h = omega arith
  at false true h = omega arith
  at false false h = omega arith

ink_from-size : (n : ℕ) (s : List ℕ) (after : List (List ℕ)) → size (ink_from n s after) ≤ length s + lines_size after
unfolding ink_from size lines_size
ink_from-size n s [] = omega (arith, white-len s)
ink_from-size n s (next ∷ after) = at (behind_white s) (white-len s) (ink_from-size (n + 1) next after) where
  at : (x : List ℕ) → length x ≤ length s → size (ink_from (n + 1) next after) ≤ length next + lines_size after
      → size (line_or n x (next ∷ after) (ink_from (n + 1) next after)) ≤ length s + suc (length next + lines_size after)
  at [] h k = omega arith
  at (b ∷ bs) h k = omega arith

pub ink-size : (p : Place) → size (ink p) ≤ size p
unfolding size
ink-size p = ink_from-size p.number p.line p.after

skipped_from-size : (n : ℕ) (after : List (List ℕ)) → size (skipped_from n after) ≤ lines_size after
unfolding skipped_from size lines_size
skipped_from-size n [] = omega arith
skipped_from-size n ([] ∷ after) = omega arith
skipped_from-size n ((b ∷ bs) ∷ after) = let h = skipped_from-size (n + 1) after in omega arith

pub skipped-size : (p : Place) → size (skipped p) + length p.line ≤ size p
unfolding size
skipped-size p = omega (arith, skipped_from-size p.number p.after)
