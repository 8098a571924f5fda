-- Lemmas on sequences of UTF-8.
use Rattle.std.proofs.Common.{◌≡◌, ℕ, ◌<◌, ◌≤◌, Bool, true, false, leb, List, [], ◌∷◌, length, take, get_or, fold, min, ⊎_elim, refl, sym, ◌∙◌, ap, arith}
use Rattle.std.proofs.lemmas.List.{length-take, get_or-take, take_all}
use Rattle.std.specs.List.{list_all}
use Rattle.std.proofs.lemmas.Bool.{false≢true, and_parts, and_from, eqb-true, leb-true, le-leb, cases_lt}
use Rattle.std.proofs.lemmas.Bool.Decides.{nat_tests}
use Rattle.btx_text.specs.language.Elements.{depth_after}
use Rattle.btx_text.specs.language.Sequences.{is_further, sequence_size, second_fits, is_sequence, begins_sequence}

-- no sequence begins with a byte below 128
pub sequence_size-low : (b : ℕ) → b < 128 → sequence_size b ≡ 0
unfolding sequence_size
sequence_size-low b h = grind (arith, nat_tests)

pub second_fits-high : (a b : ℕ) → second_fits a b ≡ true → 128 ≤ b
unfolding second_fits
second_fits-high a b h = grind (arith, nat_tests)

pub further_high : (b : ℕ) → is_further b ≡ true → 128 ≤ b
further_high b h = grind (arith, nat_tests)

-- a sequence has as many bytes as its first says, two at least
pub is_sequence-size : (t : List ℕ) → is_sequence t ≡ true → (length t ≡ sequence_size (get_or t 0 0)) × (2 ≤ length t)
unfolding is_sequence
is_sequence-size [] h = absurd (false≢true h)
is_sequence-size (a ∷ []) h = absurd (false≢true h)
is_sequence-size (a ∷ b ∷ bs) h = (eqb-true _ _ (and_parts _ _ (and_parts _ _ h).0).0, omega arith)

-- the bytes of a sequence are all from 128 up
abbrev is_high : ℕ → Bool
is_high b = leb 128 b

further_all : (bs : List ℕ) → list_all is_further bs ≡ true → list_all is_high bs ≡ true
further_all [] h = refl
further_all (b ∷ bs) h =
    let parts = and_parts _ _ h in
    and_from _ _ (le-leb 128 b (further_high b parts.0)) (further_all bs parts.1)

is_sequence-high : (t : List ℕ) → is_sequence t ≡ true → list_all is_high t ≡ true
unfolding is_sequence
is_sequence-high [] h = refl
is_sequence-high (a ∷ []) h = absurd (false≢true h)
is_sequence-high (a ∷ b ∷ bs) h =
    let parts = and_parts _ _ h in
    let front = and_parts _ _ parts.0 in
    let size : length (a ∷ b ∷ bs) ≡ sequence_size a = eqb-true _ _ front.0 in
    let first : 128 ≤ a = ⊎_elim (λ low. let none = sequence_size-low a low in absurd (omega arith)) (λ high. high) (cases_lt a 128) in
    and_from _ _ (le-leb 128 a first) (and_from _ _ (le-leb 128 b (second_fits-high a b front.1)) (further_all bs parts.1))

-- so none of them is a brace, and the depth stays
depth_after-high : (depth b : ℕ) → 128 ≤ b → depth_after depth b ≡ depth
depth_after-high depth b h = grind (arith, nat_tests)

fold-high : (t : List ℕ) (depth : ℕ) → list_all is_high t ≡ true → fold depth_after depth t ≡ depth
fold-high [] depth h = refl
fold-high (b ∷ bs) depth h =
    let parts = and_parts _ _ h in
    rw (depth_after-high depth b (leb-true _ _ parts.0)) (fold-high bs depth parts.1)

pub fold-sequence : (t : List ℕ) (depth : ℕ) → is_sequence t ≡ true → fold depth_after depth t ≡ depth
fold-sequence t depth h = fold-high t depth (is_sequence-high t h)

-- ---- at the beginning of a text

pub begins_sequence-front : (s : List ℕ) → begins_sequence s ≡ true → is_sequence (take (sequence_size (get_or s 0 0)) s) ≡ true
unfolding begins_sequence
begins_sequence-front s h = h

-- the sequence is whole, and its size is that of the first byte
pub begins_sequence-size : (s : List ℕ) → begins_sequence s ≡ true → (2 ≤ sequence_size (get_or s 0 0)) × (sequence_size (get_or s 0 0) ≤ length s)
begins_sequence-size s h =
    let n = sequence_size (get_or s 0 0) in
    let size = is_sequence-size (take n s) (begins_sequence-front s h) in
    let len = length-take n s in
    let some : 2 ≤ n = omega arith in
    let first : get_or (take n s) 0 0 ≡ get_or s 0 0 = get_or-take n s 0 0 (omega arith) in
    let whole : length (take n s) ≡ n = size.0 ∙ ap sequence_size first in
    (some, omega arith)

-- a text that begins with a byte below 128 begins with no sequence
pub begins_sequence-low : (b : ℕ) (bs : List ℕ) → b < 128 → begins_sequence (b ∷ bs) ≡ false
unfolding begins_sequence is_sequence
begins_sequence-low b bs h = rw (sequence_size-low b h) refl

-- as the code takes the front, no longer than the text
pub take_whole : (n : ℕ) (s : List ℕ) → take (min n (length s)) s ≡ take n s
take_whole n s = ⊎_elim
    (λ lt. let e : min n (length s) ≡ n = omega arith in ap (λ k. take k s) e)
    (λ le. let e : min n (length s) ≡ length s = omega arith in let fits : length s ≤ length s = omega arith in ap (λ k. take k s) e
    ∙ take_all (length s) s fits ∙ sym (take_all n s le))
    (cases_lt n (length s))

pub ruleset sequence_steps = (take_whole)
