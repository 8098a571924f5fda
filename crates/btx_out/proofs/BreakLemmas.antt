-- The law of line breaking.
use Rattle.std.proofs.Common.{◌≡◌, ℕ, zero, suc, ◌+◌, ◌-◌, ◌<◌, ◌≤◌, Bool, true, false, cond, leb, ◌&&◌, List, [], ◌∷◌, ◌++◌, length, take, drop, get_or}
use Rattle.std.proofs.Common.{Option, Some, None, ⊎_elim, refl, sym, ◌∙◌, ap, arith, length-append, length-drop, append_assoc}
use Rattle.std.proofs.lemmas.List.{append-nil, get_or_append_left, drop-append-le, take-append-le, drop_all, get_or-drop, take-append-drop}
use Rattle.std.proofs.lemmas.Bool.{le-leb, lt-leb, lt-ltb, le-ltb, leb-true, leb-false, cases_lt, and_parts}
use Rattle.std.specs.List.{flat_map}
use Rattle.btx_text.specs.language.Class.{is_white}
use Rattle.btx_text.specs.language.Lines.{white_before, trimmed}
use Rattle.btx_out.specs.language.Breaking.{skip_white, till_white, from_white, written_line, last_white, Break, Unbroken, Broken, break_past, break_at}
use Rattle.btx_out.specs.language.Breaking.{break_of, indented, Last, Short, Long, Nothing, Cut, only, with_head, cut_at, cut_within, cut_of, written_last}
use Rattle.btx_out.specs.language.Breaking.{sure_last, wrap, committed}
use Rattle.btx_out.specs.laws.Breaking.{Collecting, Swallowing, Passing, left_last, left}
use Rattle.btx_out.specs.laws.States.{break_full, ByteStep, step, left_after, sure_after, end_written, wrap_after}

-- ---- where a line is broken

-- an index that was found
found_step : (t : Bool) (n i : ℕ) (o : Option ℕ) (text : List ℕ) → (leb 3 n && is_white (get_or text n 0)) ≡ t → (o ≡ Some i → (3 ≤ i) × (i < n))
    → cond t (Some n) o ≡ Some i → (3 ≤ i) × (i < suc n)
found_step true n i o text test rest is = let same : n ≡ i = cc in let low = leb-true 3 n (and_parts _ _ test).0 in (omega arith, omega arith)
found_step false n i o text test rest is = let h = rest is in (h.0, omega (arith, h.1))

pub last_white-some : (n i : ℕ) (text : List ℕ) → last_white n text ≡ Some i → (3 ≤ i) × (i < n)
unfolding last_white
last_white-some zero i text is = cc
last_white-some (suc n) i text is = found_step _ n i (last_white n text) text refl (last_white-some n i text) is

-- where none was found
none_step : (t : Bool) (n k : ℕ) (o : Option ℕ) (text : List ℕ) → (leb 3 n && is_white (get_or text n 0)) ≡ t
    → (o ≡ None → k < n → is_white (get_or text k 0) ≡ false) → cond t (Some n) o ≡ None → 3 ≤ k → k < suc n → is_white (get_or text k 0) ≡ false
none_step true n k o text test rest is low high = cc
none_step false n k o text test rest is low high = ⊎_elim (λ lt. rest is lt) (λ le. at le) (cases_lt k n) where
  at : n ≤ k → is_white (get_or text k 0) ≡ false
  at le =
      let same : n ≡ k = omega arith in
      let test_k : (leb 3 k && is_white (get_or text k 0)) ≡ false = rw (← same) test in
      rw (le-leb 3 k low) at test_k

pub last_white-none : (n k : ℕ) (text : List ℕ) → last_white n text ≡ None → 3 ≤ k → k < n → is_white (get_or text k 0) ≡ false
unfolding last_white
last_white-none zero k text is low high = absurd (omega arith)
last_white-none (suc n) k text is low high = none_step _ n k (last_white n text) text refl (λ h lt. last_white-none n k text h low lt) is low high

last_white-append : (n : ℕ) (t u : List ℕ) → n ≤ length t → last_white n (t ++ u) ≡ last_white n t
unfolding last_white
last_white-append zero t u h = refl
last_white-append (suc n) t u h =
    let lt : n < length t = omega arith in
    rw (get_or_append_left t u 0 n lt, last_white-append n t u (omega arith)) refl

-- the first whitespace byte of a longer text
from_white_on : (r s : List ℕ) (w : ℕ) (ws : List ℕ) → from_white r ≡ w ∷ ws → (from_white (r ++ s) ≡ w ∷ (ws ++ s)) × (till_white (r ++ s) ≡ till_white r)
unfolding from_white till_white
from_white_on [] s w ws is = cc
from_white_on (b ∷ bs) s w ws is = at (is_white b) is (from_white_on bs s w ws) where
  at : (t : Bool) → cond t (b ∷ bs) (from_white bs) ≡ w ∷ ws
      → (from_white bs ≡ w ∷ ws → (from_white (bs ++ s) ≡ w ∷ (ws ++ s)) × (till_white (bs ++ s) ≡ till_white bs)) →
      (cond t (b ∷ (bs ++ s)) (from_white (bs ++ s)) ≡ w ∷ (ws ++ s)) × (cond t [] (b ∷ till_white (bs ++ s)) ≡ cond t [] (b ∷ till_white bs))
  at true is rest = (ap (λ xs. xs ++ s) is, refl)
  at false is rest = let h = rest is in (h.0, ap (λ xs. b ∷ xs) h.1)

from_white_none : (r s : List ℕ) → from_white r ≡ [] → (from_white (r ++ s) ≡ from_white s) × (till_white (r ++ s) ≡ r ++ till_white s)
unfolding from_white till_white
from_white_none [] s is = (refl, refl)
from_white_none (b ∷ bs) s is = at (is_white b) is (from_white_none bs s) where
  at : (t : Bool) → cond t (b ∷ bs) (from_white bs) ≡ []
      → (from_white bs ≡ [] → (from_white (bs ++ s) ≡ from_white s) × (till_white (bs ++ s) ≡ bs ++ till_white s)) →
      (cond t (b ∷ (bs ++ s)) (from_white (bs ++ s)) ≡ from_white s) × (cond t [] (b ∷ till_white (bs ++ s)) ≡ b ∷ (bs ++ till_white s))
  at true is rest = cc
  at false is rest = let h = rest is in (h.0, ap (λ xs. b ∷ xs) h.1)

-- without whitespace each byte is none
pub no_white_at : (r : List ℕ) (k : ℕ) → from_white r ≡ [] → k < length r → is_white (get_or r k 0) ≡ false
unfolding from_white
no_white_at [] k is lt = absurd (omega arith)
no_white_at (b ∷ bs) k is lt = at (is_white b) k refl is lt (λ j e l. no_white_at bs j e l) where
  at : (t : Bool) (k : ℕ) → is_white b ≡ t → cond t (b ∷ bs) (from_white bs) ≡ [] → k < suc (length bs)
      → ((j : ℕ) → from_white bs ≡ [] → j < length bs → is_white (get_or bs j 0) ≡ false) → is_white (get_or (b ∷ bs) k 0) ≡ false
  at true k test is lt rest = cc
  at false zero test is lt rest = test
  at false (suc k) test is lt rest = rest k is (omega arith)

-- the whitespace at the front of a longer text
skip_white_on : (r s : List ℕ) (c : ℕ) (rest : List ℕ) → skip_white r ≡ c ∷ rest → skip_white (r ++ s) ≡ c ∷ (rest ++ s)
unfolding skip_white
skip_white_on [] s c rest is = cc
skip_white_on (b ∷ bs) s c rest is = at (is_white b) is (skip_white_on bs s c rest) where
  at : (t : Bool) → cond t (skip_white bs) (b ∷ bs) ≡ c ∷ rest → (skip_white bs ≡ c ∷ rest → skip_white (bs ++ s) ≡ c ∷ (rest ++ s))
      → cond t (skip_white (bs ++ s)) (b ∷ (bs ++ s)) ≡ c ∷ (rest ++ s)
  at true is more = more is
  at false is more = ap (λ xs. xs ++ s) is

skip_white_none : (r s : List ℕ) → skip_white r ≡ [] → skip_white (r ++ s) ≡ skip_white s
unfolding skip_white
skip_white_none [] s is = refl
skip_white_none (b ∷ bs) s is = at (is_white b) is (skip_white_none bs s) where
  at : (t : Bool) → cond t (skip_white bs) (b ∷ bs) ≡ [] → (skip_white bs ≡ [] → skip_white (bs ++ s) ≡ skip_white s)
      → cond t (skip_white (bs ++ s)) (b ∷ (bs ++ s)) ≡ skip_white s
  at true is more = more is
  at false is more = cc

pub length-skip_white : (r : List ℕ) → length (skip_white r) ≤ length r
unfolding skip_white
length-skip_white [] = omega arith
length-skip_white (b ∷ bs) = at (is_white b) (length-skip_white bs) where
  at : (t : Bool) → length (skip_white bs) ≤ length bs → length (cond t (skip_white bs) (b ∷ bs)) ≤ suc (length bs)
  at true h = omega arith
  at false h = omega arith

pub length-from_white : (r : List ℕ) → length (from_white r) ≤ length r
unfolding from_white
length-from_white [] = omega arith
length-from_white (b ∷ bs) = at (is_white b) (length-from_white bs) where
  at : (t : Bool) → length (from_white bs) ≤ length bs → length (cond t (b ∷ bs) (from_white bs)) ≤ suc (length bs)
  at true h = omega arith
  at false h = omega arith

-- a text whose last byte isn't whitespace keeps it
trimmed_ink : (t : List ℕ) → 0 < length t → is_white (get_or t (length t - 1) 0) ≡ false → trimmed t ≡ t
unfolding trimmed
trimmed_ink [] some ink = absurd (omega arith)
trimmed_ink (b ∷ []) some ink = rw ink refl
trimmed_ink (b ∷ c ∷ bs) some ink =
    let e : suc (suc (length bs)) - 1 ≡ suc (suc (length bs) - 1) = omega arith in
    let ink' : is_white (get_or (c ∷ bs) (length (c ∷ bs) - 1) 0) ≡ false = rw e at ink in
    at (is_white b) (trimmed (c ∷ bs)) (trimmed_ink (c ∷ bs) (omega arith) ink') where
      at : (t : Bool) (kept : List ℕ) → kept ≡ c ∷ bs → cond t (white_before b kept) (b ∷ kept) ≡ b ∷ c ∷ bs
      at true kept e = rw e refl
      at false kept e = rw e refl

line_ink : (t : List ℕ) → 0 < length t → is_white (get_or t (length t - 1) 0) ≡ false → written_line t ≡ t ++ 10 ∷ []
line_ink [] some ink = absurd (omega arith)
line_ink (b ∷ bs) some ink = rw (trimmed_ink (b ∷ bs) some ink) refl

-- ---- the pieces

-- a break takes at least two bytes away from what goes on
abbrev Shrinks : List ℕ → Break → Type 0
Shrinks text Unbroken = Unit {0}
Shrinks text (Broken past head rest) = length rest + 2 < length text

break_past-shrinks : (text head more : List ℕ) → length more + 3 ≤ length text → Shrinks text (break_past head more)
break_past-shrinks text head [] h = tt
break_past-shrinks text head (b ∷ bs) h = let le = length-skip_white bs in omega arith

break_of-shrinks : (line_length : ℕ) (text : List ℕ) → 3 ≤ line_length → line_length < length text → Shrinks text (break_of line_length text)
unfolding break_of
break_of-shrinks line_length text wide long = at (last_white (line_length + 1) text) refl where
  at : (o : Option ℕ) → last_white (line_length + 1) text ≡ o → Shrinks text (break_at line_length text o)
  at (Some i) is = let h = last_white-some (line_length + 1) i text is in simp length-drop (omega (arith, h.0, h.1))
  at None is =
      let le = length-from_white (drop (line_length + 1) text) in
      let len = length-drop (line_length + 1) text in
      break_past-shrinks text _ (from_white (drop (line_length + 1) text)) (omega arith)

cut_same : (cut cut' : List ℕ → Cut) (text : List ℕ) (broken : Break) → ((rest : List ℕ) → length rest < length text → cut rest ≡ cut' rest)
    → Shrinks text broken → cut_at cut text broken ≡ cut_at cut' text broken
cut_same cut cut' text Unbroken same shrinks = refl
cut_same cut cut' text (Broken past head []) same shrinks = refl
cut_same cut cut' text (Broken past head (b ∷ rest)) same shrinks = ap (λ c. with_head head c) (same (indented (b ∷ rest)) (omega arith))

cut_within-enough : (n m line_length : ℕ) (text : List ℕ) → 3 ≤ line_length → length text ≤ n → length text ≤ m → cut_within n line_length text
    ≡ cut_within m line_length text
unfolding cut_within
cut_within-enough zero zero line_length text wide hn hm = refl
cut_within-enough zero (suc m) line_length [] wide hn hm = rw (le-leb 0 line_length (omega arith)) refl
cut_within-enough zero (suc m) line_length (b ∷ bs) wide hn hm = absurd (omega arith)
cut_within-enough (suc n) zero line_length [] wide hn hm = rw (le-leb 0 line_length (omega arith)) refl
cut_within-enough (suc n) zero line_length (b ∷ bs) wide hn hm = absurd (omega arith)
cut_within-enough (suc n) (suc m) line_length text wide hn hm =
    at (leb (length text) line_length) refl (λ rest h. cut_within-enough n m line_length rest wide (omega arith) (omega arith)) where
      at : (t : Bool) → leb (length text) line_length ≡ t
          → ((rest : List ℕ) → length rest < length text → cut_within n line_length rest ≡ cut_within m line_length rest) →
          cond t (only (Short text)) (cut_at (cut_within n line_length) text (break_of line_length text))
          ≡ cond t (only (Short text)) (cut_at (cut_within m line_length) text (break_of line_length text))
      at true is same = refl
      at false is same = cut_same (cut_within n line_length) (cut_within m line_length) text (break_of line_length text) same
          (break_of-shrinks line_length text wide (omega (arith, leb-false (length text) line_length is)))

pub cut_short : (line_length : ℕ) (text : List ℕ) → length text ≤ line_length → cut_of line_length text ≡ only (Short text)
unfolding cut_of cut_within
cut_short line_length [] h = refl
cut_short line_length (b ∷ bs) h = rw (le-leb (length (b ∷ bs)) line_length h) refl

pub cut_long : (line_length : ℕ) (text : List ℕ) → 3 ≤ line_length → line_length < length text
    → cut_of line_length text ≡ cut_at (cut_of line_length) text (break_of line_length text)
unfolding cut_of cut_within
cut_long line_length [] wide h = absurd (omega arith)
cut_long line_length (b ∷ bs) wide h =
    rw (lt-leb (length (b ∷ bs)) line_length h)
    (cut_same (cut_within (length bs) line_length) (λ rest. cut_within (length rest) line_length rest) (b ∷ bs) (break_of line_length (b ∷ bs))
    (λ rest lt. cut_within-enough (length bs) (length rest) line_length rest wide (omega arith) (omega arith)) (break_of-shrinks line_length (b ∷ bs) wide h))

-- ---- one byte more

-- what the break is, with one byte more
abbrev Grows : List ℕ → ℕ → Break → Break → Type 0
Grows text b Unbroken x = x ≡ cond (is_white b) (Broken true text []) Unbroken
Grows text b (Broken past head (c ∷ rest)) x = x ≡ Broken past head (c ∷ (rest ++ b ∷ []))
Grows text b (Broken false head []) x = x ≡ Broken false head (b ∷ [])
Grows text b (Broken true head []) x = x ≡ Broken true head (skip_white (b ∷ []))

grows_inside : (text : List ℕ) (b : ℕ) (head rest : List ℕ) → Grows text b (Broken false head rest) (Broken false head (rest ++ b ∷ []))
grows_inside text b head [] = refl
grows_inside text b head (c ∷ rest) = refl

grows_past : (text : List ℕ) (b : ℕ) (head ws : List ℕ) (r : List ℕ) → skip_white ws ≡ r
    → Grows text b (Broken true head r) (Broken true head (skip_white (ws ++ b ∷ [])))
grows_past text b head ws [] is = ap (λ x. Broken true head x) (skip_white_none ws (b ∷ []) is)
grows_past text b head ws (c ∷ rest) is = ap (λ x. Broken true head x) (skip_white_on ws (b ∷ []) c rest is)

grows_white : (front : List ℕ) (text rest : List ℕ) (b : ℕ) → front ++ rest ≡ text → (r : List ℕ) → from_white rest ≡ r →
    Grows text b (break_past (front ++ till_white rest) r) (break_past (front ++ till_white (rest ++ b ∷ [])) (from_white (rest ++ b ∷ [])))
unfolding from_white till_white skip_white
grows_white front text rest b whole [] is = let h = from_white_none rest (b ∷ []) is in rw (h.0, h.1) (at (is_white b)) where
  at : (t : Bool) → break_past (front ++ (rest ++ cond t [] (b ∷ []))) (cond t (b ∷ []) []) ≡ cond t (Broken true text []) Unbroken
  at true = rw (append-nil, whole) refl
  at false = refl
grows_white front text rest b whole (w ∷ ws) is = let h = from_white_on rest (b ∷ []) w ws is in
    rw (h.0, h.1) (grows_past text b (front ++ till_white rest) ws (skip_white ws) refl)

break_of-grows : (line_length : ℕ) (text : List ℕ) (b : ℕ) → line_length < length text
    → Grows text b (break_of line_length text) (break_of line_length (text ++ b ∷ []))
unfolding break_of
break_of-grows line_length text b long =
    let fits : line_length + 1 ≤ length text = omega arith in
    rw (last_white-append (line_length + 1) text (b ∷ []) fits) (at fits (last_white (line_length + 1) text) refl) where
      at : line_length + 1 ≤ length text → (o : Option ℕ) → last_white (line_length + 1) text ≡ o
          → Grows text b (break_at line_length text o) (break_at line_length (text ++ b ∷ []) o)
      at fits (Some i) is =
          let h = last_white-some (line_length + 1) i text is in
          let le : i ≤ length text = omega (arith, h.1) in
          let le' : i + 1 ≤ length text = omega (arith, h.1) in
          rw (take-append-le i text (b ∷ []) le, drop-append-le (i + 1) text (b ∷ []) le') (grows_inside text b (take i text) (drop (i + 1) text))
      at fits None is =
          rw (take-append-le (line_length + 1) text (b ∷ []) fits, drop-append-le (line_length + 1) text (b ∷ []) fits)
          (grows_white (take (line_length + 1) text) text (drop (line_length + 1) text) b (take-append-drop (line_length + 1) text)
          (from_white (drop (line_length + 1) text)) refl)

-- a text that isn't broken ends in ink
pub past_none : (head r : List ℕ) → break_past head r ≡ Unbroken → r ≡ []
past_none head [] is = refl
past_none head (b ∷ bs) is = cc

unbroken_ink : (line_length : ℕ) (text : List ℕ) → 3 ≤ line_length → line_length < length text → break_of line_length text ≡ Unbroken
    → is_white (get_or text (length text - 1) 0) ≡ false
unfolding break_of
unbroken_ink line_length text wide long is = at (last_white (line_length + 1) text) refl is where
  at : (o : Option ℕ) → last_white (line_length + 1) text ≡ o → break_at line_length text o ≡ Unbroken → is_white (get_or text (length text - 1) 0) ≡ false
  at (Some i) e is = cc
  at None e is = ⊎_elim
      (λ more.
      let k : line_length + 1 + (length text - (line_length + 2)) ≡ length text - 1 = omega arith in
      let lt : length text - (line_length + 2) < length (drop (line_length + 1) text) = omega (arith, length-drop (line_length + 1) text) in
      let h = no_white_at (drop (line_length + 1) text) (length text - (line_length + 2)) (past_none _ _ is) lt in
      rw (get_or-drop, k) at h)
      (λ le. let k : length text - 1 ≡ line_length = omega arith in rw k (last_white-none (line_length + 1) line_length text e (omega arith) (omega arith)))
      (cases_lt (line_length + 1) (length text))

-- ---- the pieces of a text with one byte more

abbrev sure_cut : Cut → List ℕ
sure_cut cut = flat_map written_line cut.heads ++ sure_last cut.last

-- a cut goes on to another by one step
abbrev Goes : ℕ → ℕ → Cut → Cut → Type 0
Goes line_length b cut cut' = (left_last cut'.last ≡ (step line_length (left_last cut.last) b).0)
    × (sure_cut cut' ≡ sure_cut cut ++ (step line_length (left_last cut.last) b).1)

goes_short : (line_length : ℕ) (text : List ℕ) (b : ℕ) → length text < line_length
    → Goes line_length b (cut_of line_length text) (cut_of line_length (text ++ b ∷ []))
goes_short line_length text b short =
    let fits : length text ≤ line_length = omega arith in
    let fits' : length (text ++ b ∷ []) ≤ line_length = omega (arith, length-append text (b ∷ [])) in
    rw (cut_short line_length text fits, cut_short line_length (text ++ b ∷ []) fits', lt-ltb (length text) line_length short) (refl, refl)

abbrev SameFull : ℕ → List ℕ → Option ℕ → Type 0
SameFull line_length x o =
    (left_last (cut_at (cut_of line_length) x (break_at line_length x o)).last ≡ (break_full x o).0)
    × (sure_cut (cut_at (cut_of line_length) x (break_at line_length x o)) ≡ [] ++ (break_full x o).1)

goes_full : (line_length : ℕ) (text : List ℕ) (b : ℕ) → 3 ≤ line_length → length text ≡ line_length
    → Goes line_length b (cut_of line_length text) (cut_of line_length (text ++ b ∷ []))
unfolding break_of from_white till_white
goes_full line_length text b wide full =
    let fits : length text ≤ line_length = omega arith in
    let len : length (text ++ b ∷ []) ≡ line_length + 1 = omega (arith, length-append text (b ∷ [])) in
    let long : line_length < length (text ++ b ∷ []) = omega arith in
    let none_left : line_length ≤ length text = omega arith in
    rw (cut_short line_length text fits, cut_long line_length (text ++ b ∷ []) wide long, le-ltb (length text) line_length none_left)
    (at (text ++ b ∷ []) len (last_white (line_length + 1) (text ++ b ∷ [])) refl) where
      inside : (x head rest : List ℕ) → length rest + 2 ≤ line_length →
          (left_last (cut_at (cut_of line_length) x (Broken false head rest)).last ≡ Collecting (indented rest))
          × (sure_cut (cut_at (cut_of line_length) x (Broken false head rest)) ≡ written_line head)
      inside x head [] h = (refl, rw (append-nil, append-nil) refl)
      inside x head (c ∷ rest) h =
          let fits : length (indented (c ∷ rest)) ≤ line_length = omega arith in
          rw (cut_short line_length (indented (c ∷ rest)) fits) (refl, rw (append-nil, append-nil) refl)

      at : (x : List ℕ) → length x ≡ line_length + 1 → (o : Option ℕ) → last_white (line_length + 1) x ≡ o → SameFull line_length x o
      at x len (Some i) is =
          let h = last_white-some (line_length + 1) i x is in
          inside x (take i x) (drop (i + 1) x) (omega (arith, h.0, length-drop (i + 1) x))
      at x len None is =
          let le : length x ≤ line_length + 1 = omega arith in
          rw (drop_all (line_length + 1) x le) (refl, refl)

goes_long : (line_length : ℕ) (text : List ℕ) (b : ℕ) (broken broken' : Break) → 3 ≤ line_length → Grows text b broken broken'
    → (broken ≡ Unbroken → written_line text ≡ text ++ 10 ∷ []) →
    ((rest : List ℕ) → length rest < length text → Goes line_length b (cut_of line_length rest) (cut_of line_length (rest ++ b ∷ []))) → Shrinks text broken →
    Goes line_length b (cut_at (cut_of line_length) text broken) (cut_at (cut_of line_length) (text ++ b ∷ []) broken')
unfolding skip_white
goes_long line_length text b Unbroken broken' wide is ink more shrinks = rw is (at (is_white b)) where
  at : (t : Bool) →
      (left_last (cut_at (cut_of line_length) (text ++ b ∷ []) (cond t (Broken true text []) Unbroken)).last
      ≡ (cond {A = ByteStep} t (Swallowing, 10 ∷ []) (Passing, b ∷ [])).0)
      × (sure_cut (cut_at (cut_of line_length) (text ++ b ∷ []) (cond t (Broken true text []) Unbroken)) ≡ text
      ++ (cond {A = ByteStep} t (Swallowing, 10 ∷ []) (Passing, b ∷ [])).1)
  at true = (refl, rw (append-nil, append-nil) (ink refl))
  at false = (refl, refl)
goes_long line_length text b (Broken past head (c ∷ rest)) broken' wide is ink more shrinks =
    let h = more (indented (c ∷ rest)) (omega arith) in
    let cut = cut_of line_length (indented (c ∷ rest)) in
    rw is (
      h.0,
      rw (append_assoc, append_assoc, append_assoc)
          (ap (λ xs. written_line head ++ xs)
          (h.1 ∙ append_assoc (flat_map written_line cut.heads) (sure_last cut.last) (step line_length (left_last cut.last) b).1)),
    )
goes_long line_length text b (Broken false head []) broken' wide is ink more shrinks =
    let fits : length (indented (b ∷ [])) ≤ line_length = omega arith in
    let room : length (indented []) < line_length = omega arith in
    rw (is, cut_short line_length (indented (b ∷ [])) fits, lt-ltb (length (indented [])) line_length room)
    (refl, sym (append-nil (written_line head ++ [] ++ [])))
goes_long line_length text b (Broken true head []) broken' wide is ink more shrinks = rw is (at (is_white b)) where
  at : (t : Bool) →
      (left_last (cut_at (cut_of line_length) (text ++ b ∷ []) (Broken true head (cond t [] (b ∷ [])))).last
      ≡ (cond {A = ByteStep} t (Swallowing, []) (Collecting (indented (b ∷ [])), [])).0)
      × (sure_cut (cut_at (cut_of line_length) (text ++ b ∷ []) (Broken true head (cond t [] (b ∷ [])))) ≡ (written_line head ++ [] ++ [])
      ++ (cond {A = ByteStep} t (Swallowing, []) (Collecting (indented (b ∷ [])), [])).1)
  at true = (refl, sym (append-nil (written_line head ++ [] ++ [])))
  at false =
      let fits : length (indented (b ∷ [])) ≤ line_length = omega arith in
      rw (cut_short line_length (indented (b ∷ [])) fits) (refl, sym (append-nil (written_line head ++ [] ++ [])))

goes : (n line_length : ℕ) (text : List ℕ) (b : ℕ) → 3 ≤ line_length → length text ≤ n
    → Goes line_length b (cut_of line_length text) (cut_of line_length (text ++ b ∷ []))
goes zero line_length text b wide h = goes_short line_length text b (omega arith)
goes (suc n) line_length text b wide h = ⊎_elim (λ lt. goes_short line_length text b lt)
    (λ above. ⊎_elim (λ lt. at lt (λ rest lt. goes n line_length rest b wide (omega arith))) (λ below. goes_full line_length text b wide (omega arith))
    (cases_lt line_length (length text))) (cases_lt (length text) line_length) where
      at : line_length < length text → ((rest : List ℕ) → length rest < length text
          → Goes line_length b (cut_of line_length rest) (cut_of line_length (rest ++ b ∷ [])))
          → Goes line_length b (cut_of line_length text) (cut_of line_length (text ++ b ∷ []))
      at long more =
          let some : 0 < length text = omega arith in
          let long' : line_length < length (text ++ b ∷ []) = omega (arith, length-append text (b ∷ [])) in
          rw (cut_long line_length text wide long, cut_long line_length (text ++ b ∷ []) wide long')
          (goes_long line_length text b (break_of line_length text) (break_of line_length (text ++ b ∷ [])) wide (break_of-grows line_length text b long)
          (λ is. line_ink text some (unbroken_ink line_length text wide long is)) more (break_of-shrinks line_length text wide long))

-- ---- more bytes

pub go_on : (line_length : ℕ) (u t : List ℕ) → 3 ≤ line_length → (left line_length (t ++ u) ≡ left_after line_length (left line_length t) u)
    × (committed line_length (t ++ u) ≡ committed line_length t ++ sure_after line_length (left line_length t) u)
unfolding left_after sure_after
go_on line_length [] t wide = rw (append-nil, append-nil) (refl, refl)
go_on line_length (b ∷ bs) t wide =
    let here = goes (length t) line_length t b wide (omega arith) in
    let more = rw (append_assoc t (b ∷ []) bs, here.0, here.1) at (go_on line_length bs (t ++ b ∷ []) wide) in (
      more.0,
      more.1 ∙ append_assoc (committed line_length t) (step line_length (left line_length t) b).1
          (sure_after line_length (step line_length (left line_length t) b).0 bs),
    )

pub wrap_is : (line_length : ℕ) (t : List ℕ) → wrap line_length t ≡ committed line_length t ++ end_written (left line_length t)
unfolding trimmed
wrap_is line_length t = at (flat_map written_line (cut_of line_length t).heads) (cut_of line_length t).last where
  at : (written : List ℕ) (last : Last) → written ++ written_last last ≡ (written ++ sure_last last) ++ end_written (left_last last)
  at written (Short text) = rw append-nil refl
  at written (Long text) = rw append_assoc refl
  at written (Nothing true) = sym (append-nil (written ++ []))
  at written (Nothing false) = sym (append-nil (written ++ []))

pub wrap_on : (line_length : ℕ) (t u : List ℕ) → 3 ≤ line_length → wrap line_length (t ++ u) ≡ committed line_length t ++ wrap_after line_length (left line_length t)
    u
wrap_on line_length t u wide =
    let more = go_on line_length u t wide in
    wrap_is line_length (t ++ u) ∙ rw (more.0, more.1)
    (append_assoc (committed line_length t) (sure_after line_length (left line_length t) u) (end_written (left_after line_length (left line_length t) u)))

-- ---- row by row

pub table_ends : (line_length : ℕ) (t head : List ℕ) (past : Bool) → 3 ≤ line_length → line_length < length t → break_of line_length t ≡ Broken past head [] →
    (wrap line_length t ≡ written_line head) × (committed line_length t ≡ written_line head) × (left line_length t ≡ cond past Swallowing (Collecting (indented [])))
table_ends line_length t head past wide long is = rw (cut_long line_length t wide long, is) (at past) where
  whole : written_line head ++ [] ++ [] ≡ written_line head
  whole = rw (append-nil, append-nil) refl

  at : (past : Bool) → (written_line head ++ [] ++ [] ≡ written_line head) × (written_line head ++ [] ++ [] ≡ written_line head)
      × (left_last (Nothing past) ≡ cond past Swallowing (Collecting (indented [])))
  at true = (whole, whole, refl)
  at false = (whole, whole, refl)

pub table_more : (line_length : ℕ) (t head rest : List ℕ) (b : ℕ) (past : Bool) → 3 ≤ line_length → line_length < length t
    → break_of line_length t ≡ Broken past head (b ∷ rest) →
    let more = indented (b ∷ rest) in
    (wrap line_length t ≡ written_line head ++ wrap line_length more) × (committed line_length t ≡ written_line head ++ committed line_length more)
    × (left line_length t ≡ left line_length more)
table_more line_length t head rest b past wide long is =
    let cut = cut_of line_length (indented (b ∷ rest)) in
    rw (cut_long line_length t wide long, is) (
      append_assoc (written_line head) (flat_map written_line cut.heads) (written_last cut.last),
      append_assoc (written_line head) (flat_map written_line cut.heads) (sure_last cut.last),
      refl,
    )
