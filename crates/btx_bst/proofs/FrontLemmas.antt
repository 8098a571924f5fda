-- Lemmas on the fronts of a line.
use Rattle.std.proofs.Common.{◌≡◌, ℕ, suc, ◌+◌, ◌<◌, ◌≤◌, Bool, cond, List, [], length, drop, get_or, refl, ◌==◌}
use Rattle.std.proofs.lemmas.List.{take_rest, drop_more, drop_all, drop-drop}
use Rattle.btx_text.specs.language.Class.{is_white}
use Rattle.btx_bst.specs.language.Places.{behind_white}
use Rattle.btx_bst.specs.language.Fronts.{len_till}

pub len_till_at : (test : ℕ → Bool) (s : List ℕ) (i : ℕ) → i < length s → len_till test (drop i s)
    ≡ cond (test (get_or s i 0)) 0 (suc (len_till test (drop (i + 1) s)))
unfolding len_till
len_till_at test s i h = rw (drop_more s i 0) refl

pub len_till_all : (test : ℕ → Bool) (s : List ℕ) (i : ℕ) → length s ≤ i → len_till test (drop i s) ≡ 0
unfolding len_till
len_till_all test s i h = rw (drop_all i s h) refl

pub ruleset len_steps = (len_till_at, len_till_all)

pub white_at : (s : List ℕ) (i : ℕ) → i < length s → behind_white (drop i s) ≡ cond (is_white (get_or s i 0)) (behind_white (drop (i + 1) s))
    (cond (get_or s i 0 == 37) [] (drop i s))
unfolding behind_white
white_at s i h = rw (drop_more s i 0) refl

pub white_all : (s : List ℕ) (i : ℕ) → length s ≤ i → behind_white (drop i s) ≡ []
unfolding behind_white
white_all s i h = rw (drop_all i s h) refl

pub ruleset white_steps = (white_at, white_all, take_rest)
