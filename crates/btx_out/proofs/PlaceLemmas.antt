-- Where a text is broken.
use Rattle.std.proofs.Common.{◌≡◌, ℕ, zero, suc, ◌+◌, ◌-◌, ◌<◌, ◌≤◌, Bool, true, false, cond, leb, ◌&&◌, List, [], ◌∷◌, ◌++◌, length, take, drop, get_or}
use Rattle.std.proofs.Common.{Option, Some, None, ⊎_elim, refl, sym, ◌∙◌, ap, arith, length-append, length-drop, append_assoc}
use Rattle.std.proofs.lemmas.List.{get_or_append_left, get_or-drop, take-append-drop, length-take-le}
use Rattle.std.proofs.lemmas.List.Elements.{All-nil, All-cons}
use Rattle.std.proofs.Math.Seq.{drop-cons}
use Rattle.std.proofs.lemmas.Bool.{le-leb, cases_lt, and_parts}
use Rattle.std.specs.List.{All}
use Rattle.btx_text.specs.language.Class.{is_white}
use Rattle.btx_out.specs.language.Breaking.{skip_white, till_white, from_white, last_white, Unbroken, Broken, break_past, break_at, break_of}
use Rattle.btx_out.specs.laws.Places.{HasNoWhitespace, IsBreakInside, IsBreakPast, IsUnbroken}
use Rattle.btx_out.proofs.BreakLemmas.{last_white-some, last_white-none, no_white_at, past_none}
use Rattle.btx_out.proofs.GoingOnLemmas.{from_white-white, skip_white-ink, till_from}

-- ---- the last whitespace byte

white_step : (t : Bool) (n i : ℕ) (o : Option ℕ) (text : List ℕ) → (leb 3 n && is_white (get_or text n 0)) ≡ t
    → (o ≡ Some i → is_white (get_or text i 0) ≡ true) → cond t (Some n) o ≡ Some i → is_white (get_or text i 0) ≡ true
white_step true n i o text test rest is = let same : n ≡ i = cc in let white : is_white (get_or text n 0) ≡ true = (and_parts _ _ test).1 in rw same at white
white_step false n i o text test rest is = rest is

last_white-white : (n i : ℕ) (text : List ℕ) → last_white n text ≡ Some i → is_white (get_or text i 0) ≡ true
unfolding last_white
last_white-white zero i text is = cc
last_white-white (suc n) i text is = white_step _ n i (last_white n text) text refl (last_white-white n i text) is

after_step : (t : Bool) (n i k : ℕ) (o : Option ℕ) (text : List ℕ) → (leb 3 n && is_white (get_or text n 0)) ≡ t → 3 ≤ k → i < k → k < suc n
    → (o ≡ Some i → k < n → is_white (get_or text k 0) ≡ false) → cond t (Some n) o ≡ Some i → is_white (get_or text k 0) ≡ false
after_step true n i k o text test low after high rest is = absurd (let same : n ≡ i = cc in omega arith)
after_step false n i k o text test low after high rest is = ⊎_elim (λ lt. rest is lt) (λ le. at le) (cases_lt k n) where
  at : n ≤ k → is_white (get_or text k 0) ≡ false
  at le =
      let same : n ≡ k = omega arith in
      let test_k : (leb 3 k && is_white (get_or text k 0)) ≡ false = rw (← same) test in
      rw (le-leb 3 k low) at test_k

last_white-after : (n i k : ℕ) (text : List ℕ) → last_white n text ≡ Some i → 3 ≤ k → i < k → k < n → is_white (get_or text k 0) ≡ false
unfolding last_white
last_white-after zero i k text is low after high = absurd (omega arith)
last_white-after (suc n) i k text is low after high =
    after_step _ n i k (last_white n text) text refl low after high (λ h lt. last_white-after n i k text h low after lt) is

-- ---- the first whitespace byte

till_white-ink : (bytes : List ℕ) (k : ℕ) → k < length (till_white bytes) → is_white (get_or (till_white bytes) k 0) ≡ false
unfolding till_white
till_white-ink [] k lt = absurd (omega arith)
till_white-ink (b ∷ bs) k lt = at (is_white b) k refl lt (λ j l. till_white-ink bs j l) where
  at : (t : Bool) (k : ℕ) → is_white b ≡ t → k < length (cond t [] (b ∷ till_white bs))
      → ((j : ℕ) → j < length (till_white bs) → is_white (get_or (till_white bs) j 0) ≡ false) → is_white (get_or (cond t [] (b ∷ till_white bs)) k 0) ≡ false
  at true k test lt more = absurd (omega arith)
  at false zero test lt more = test
  at false (suc k) test lt more = more k (omega arith)

-- the run of whitespace at the front
record HasRun (bytes rest : List ℕ) : Type 0 where
  run : List ℕ
  whole : bytes ≡ run ++ rest
  white : All (λ b. is_white b ≡ true) run

skip_white-run : (bytes : List ℕ) → HasRun bytes (skip_white bytes)
unfolding skip_white
skip_white-run [] = record { run = []; whole = refl; white = All-nil (λ b. is_white b ≡ true) }
skip_white-run (b ∷ bs) = at (is_white b) refl (skip_white-run bs) where
  at : (t : Bool) → is_white b ≡ t → HasRun bs (skip_white bs) → HasRun (b ∷ bs) (cond t (skip_white bs) (b ∷ bs))
  at true test more = record { run = b ∷ more.run; whole = ap (λ xs. b ∷ xs) more.whole; white = All-cons (λ b. is_white b ≡ true) b more.run test more.white }
  at false test more = record { run = []; whole = refl; white = All-nil (λ b. is_white b ≡ true) }

-- ---- a break inside the line

break_inside : (line_length i : ℕ) (text : List ℕ) → line_length < length text → last_white (line_length + 1) text ≡ Some i
    → IsBreakInside line_length text (take i text) (drop (i + 1) text)
break_inside line_length i text long is =
    let place = last_white-some (line_length + 1) i text is in
    let low = place.0 in
    let high = place.1 in
    let inside : i < length text = omega arith in
    let len : length (take i text) ≡ i = length-take-le i text (omega arith) in
    let next : i + 1 ≡ suc i = omega arith in
    record {
      white = get_or text i 0;
      of_white = last_white-white (line_length + 1) i text is;
      whole = sym (take-append-drop i text) ∙ ap (λ xs. take i text ++ xs) (rw next (drop-cons text i 0 inside));
      first = omega arith;
      last = omega arith;
      none_after = λ k above below. last_white-after (line_length + 1) i k text is (omega arith) (omega arith) below;
    }

pub place_inside : (line_length : ℕ) (text head rest : List ℕ) → line_length < length text → break_of line_length text ≡ Broken false head rest
    → IsBreakInside line_length text head rest
unfolding break_of
place_inside line_length text head rest long is = at (last_white (line_length + 1) text) refl is where
  at : (o : Option ℕ) → last_white (line_length + 1) text ≡ o → break_at line_length text o ≡ Broken false head rest → IsBreakInside line_length text head rest
  at (Some i) found is =
      let h : take i text ≡ head = cc in
      let r : drop (i + 1) text ≡ rest = cc in
      rw (← h, ← r) (break_inside line_length i text long found)
  at None found is = absurd (not_past _ (from_white (drop (line_length + 1) text)) is) where
    not_past : (front r : List ℕ) → break_past front r ≡ Broken false head rest → ⊥
    not_past front [] is = cc
    not_past front (b ∷ bs) is = cc

-- ---- a break past the line

no_white_before : (line_length : ℕ) (text : List ℕ) → line_length < length text → last_white (line_length + 1) text ≡ None
    → HasNoWhitespace text 3 (length (take (line_length + 1) text ++ till_white (drop (line_length + 1) text)))
no_white_before line_length text long none i low high = ⊎_elim (λ inside. last_white-none (line_length + 1) i text none low inside) (λ past. at past)
    (cases_lt i (line_length + 1)) where
      at : line_length + 1 ≤ i → is_white (get_or text i 0) ≡ false
      at past =
          let tail = drop (line_length + 1) text in
          let len : length (take (line_length + 1) text) ≡ line_length + 1 = length-take-le (line_length + 1) text (omega arith) in
          let both = length-append (take (line_length + 1) text) (till_white tail) in
          let k : line_length + 1 + (i - (line_length + 1)) ≡ i = omega arith in
          let lt : i - (line_length + 1) < length (till_white tail) = omega arith in
          let ink = till_white-ink tail (i - (line_length + 1)) lt in
          let front = get_or_append_left (till_white tail) (from_white tail) 0 (i - (line_length + 1)) lt in
          let there : get_or tail (i - (line_length + 1)) 0 ≡ get_or (till_white tail) (i - (line_length + 1)) 0 =
          ap (λ xs. get_or xs (i - (line_length + 1)) 0) (till_from tail) ∙ front in
          let ink' : is_white (get_or tail (i - (line_length + 1)) 0) ≡ false = rw there ink in
          rw (get_or-drop, k) at ink'

rest_ink : (bytes : List ℕ) → 0 < length (skip_white bytes) → is_white (get_or (skip_white bytes) 0 0) ≡ false
rest_ink bytes some = at (skip_white bytes) refl some where
  at : (r : List ℕ) → skip_white bytes ≡ r → 0 < length r → is_white (get_or r 0 0) ≡ false
  at [] is some = absurd (omega arith)
  at (c ∷ cs) is some = skip_white-ink bytes c cs is

break_past_line : (line_length : ℕ) (text : List ℕ) (b : ℕ) (bs : List ℕ) → line_length < length text → last_white (line_length + 1) text ≡ None
    → from_white (drop (line_length + 1) text) ≡ b ∷ bs →
    IsBreakPast line_length text (take (line_length + 1) text ++ till_white (drop (line_length + 1) text)) (skip_white bs)
break_past_line line_length text b bs long none is =
    let tail = drop (line_length + 1) text in
    let front = take (line_length + 1) text in
    let len : length front ≡ line_length + 1 = length-take-le (line_length + 1) text (omega arith) in
    let both = length-append front (till_white tail) in
    let more = skip_white-run bs in
    let cut : tail ≡ till_white tail ++ (b ∷ more.run ++ skip_white bs) = till_from tail
    ∙ ap (λ xs. till_white tail ++ xs) (is ∙ ap (λ xs. b ∷ xs) more.whole) in
    record {
      run = b ∷ more.run;
      whole = sym (take-append-drop (line_length + 1) text) ∙ ap (λ xs. front ++ xs) cut
          ∙ sym (append_assoc front (till_white tail) (b ∷ more.run ++ skip_white bs));
      of_white = All-cons (λ b. is_white b ≡ true) b more.run (from_white-white tail b bs is) more.white;
      some = omega arith;
      past = omega arith;
      none_before = no_white_before line_length text long none;
      ink = rest_ink bs;
    }

pub place_past : (line_length : ℕ) (text head rest : List ℕ) → line_length < length text → break_of line_length text ≡ Broken true head rest
    → IsBreakPast line_length text head rest
unfolding break_of
place_past line_length text head rest long is = at (last_white (line_length + 1) text) refl is where
  past : last_white (line_length + 1) text ≡ None → (r : List ℕ) → from_white (drop (line_length + 1) text) ≡ r
      → break_past (take (line_length + 1) text ++ till_white (drop (line_length + 1) text)) r ≡ Broken true head rest → IsBreakPast line_length text head rest
  past none [] found is = cc
  past none (b ∷ bs) found is =
      let h : take (line_length + 1) text ++ till_white (drop (line_length + 1) text) ≡ head = cc in
      let r : skip_white bs ≡ rest = cc in
      rw (← h, ← r) (break_past_line line_length text b bs long none found)

  at : (o : Option ℕ) → last_white (line_length + 1) text ≡ o → break_at line_length text o ≡ Broken true head rest → IsBreakPast line_length text head rest
  at (Some i) found is = cc
  at None found is = past found (from_white (drop (line_length + 1) text)) refl is

-- ---- no break

pub place_none : (line_length : ℕ) (text : List ℕ) → line_length < length text → break_of line_length text ≡ Unbroken → IsUnbroken text
unfolding break_of
place_none line_length text long is i low high = at (last_white (line_length + 1) text) refl is where
  at : (o : Option ℕ) → last_white (line_length + 1) text ≡ o → break_at line_length text o ≡ Unbroken → is_white (get_or text i 0) ≡ false
  at (Some j) found is = cc
  at None found is = ⊎_elim (λ inside. last_white-none (line_length + 1) i text found low inside)
      (λ past.
      let k : line_length + 1 + (i - (line_length + 1)) ≡ i = omega arith in
      let lt : i - (line_length + 1) < length (drop (line_length + 1) text) = omega (arith, length-drop (line_length + 1) text) in
      let ink = no_white_at (drop (line_length + 1) text) (i - (line_length + 1)) (past_none _ _ is) lt in
      rw (get_or-drop, k) at ink)
      (cases_lt i (line_length + 1))
