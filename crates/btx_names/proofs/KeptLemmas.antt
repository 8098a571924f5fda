-- Lemmas on finding a name in a list from a place on.
use Rattle.std.proofs.Common.{◌≡◌, ℕ, zero, suc, ◌+◌, ◌-◌, ◌<◌, ◌≤◌, Bool, true, false, eqb, None, Some, List, [], ◌∷◌, length, take, drop, refl, sym, ◌∙◌, ap}
use Rattle.std.proofs.Common.{inl, inr, arith}
use Rattle.std.proofs.lemmas.List.{drop-drop, length-drop, take_all}
use Rattle.std.proofs.lemmas.Bool.{ne_eqb, true≢false}
use Rattle.std.specs.Prelude.{slice_get}
use Rattle.btx_names.specs.refinement.NamesFrom.{names_from}
use Rattle.btx_names.specs.language.NameLists.{names_of, pieces_from}
use Rattle.btx_names.specs.refinement.Steps.{first_name_len}
use Rattle.btx_names.proofs.NameLemmas.{Splits, first_piece, pieces_more, pieces_last}

-- ---- places in a list of names

-- beyond the end there is none
pub none_beyond : (names : List (List ℕ)) (n left : ℕ) → drop n names ≡ [] → n ≤ left → slice_get names left ≡ None
none_beyond [] n zero none le = refl
none_beyond [] n (suc left) none le = refl
none_beyond (name ∷ names) zero left none le = absurd (omega (arith, ap length none))
none_beyond (name ∷ names) (suc n) zero none le = absurd (omega arith)
none_beyond (name ∷ names) (suc n) (suc left) none le = none_beyond names n left none (omega arith)

-- the first of the rest
pub first_of_rest : (names rest : List (List ℕ)) (name : List ℕ) (n : ℕ) → drop n names ≡ name ∷ rest → slice_get names n ≡ Some name
first_of_rest [] rest name zero is = absurd (omega (arith, ap length is))
first_of_rest [] rest name (suc n) is = absurd (omega (arith, ap length is))
first_of_rest (first ∷ names) rest name zero is = ap (λ all. slice_get all 0) is
first_of_rest (first ∷ names) rest name (suc n) is = first_of_rest names rest name n is

-- a place in the rest
pub later_in_rest : (names : List (List ℕ)) (known n : ℕ) → slice_get (drop known names) n ≡ slice_get names (known + n)
later_in_rest names zero n = let e : 0 + n ≡ n = omega arith in rw e refl
later_in_rest [] (suc known) n = none_in_nothing n ∙ sym (none_in_nothing (suc known + n)) where
  none_in_nothing : (n : ℕ) → let nothing : List (List ℕ) = [] in slice_get nothing n ≡ None
  none_in_nothing zero = refl
  none_in_nothing (suc n) = refl
later_in_rest (name ∷ names) (suc known) n = let e : suc known + n ≡ suc (known + n) = omega arith in rw e (later_in_rest names known n)

-- ---- the name at a place

-- the first of the names from a place on
pub name_at : (names : List ℕ) (from : ℕ)
    → (rest : List (List ℕ)) × (names_from names from ≡ take (first_name_len 0 (drop from names)) (drop from names) ∷ rest)
name_at names from = at (first_piece 0 (drop from names)) where
  at : Splits 0 (drop from names) (first_name_len 0 (drop from names)) →
      (rest : List (List ℕ)) × (names_from names from ≡ take (first_name_len 0 (drop from names)) (drop from names) ∷ rest)
  at (inl h) = ([], rw (h.0, take_all (length (drop from names)) (drop from names) (omega arith)) h.1)
  at (inr h) = (pieces_from 0 0 (drop (suc (suc (suc (first_name_len 0 (drop from names))))) (drop from names)), h.1)

-- the names after it
pub names_behind : (names : List ℕ) (start len next : ℕ) → start ≤ length names → len ≡ first_name_len 0 (drop start names)
    → 3 ≤ length (drop start names) - len →
    next ≡ start + len + 3 → (next ≤ length names) × (drop 1 (names_from names start) ≡ names_from names next)
names_behind names start len next le is long to =
    let s = drop start names in
    let after = drop (first_name_len 0 s) s in
    let size : length after ≡ length s - len = length-drop (first_name_len 0 s) s ∙ ap (λ n. length s - n) (sym is) in
    let more = pieces_more s after refl (omega (arith, long, size)) in
    let e : start + first_name_len 0 s + 3 ≡ next = omega (arith, is, to) in (
      omega (arith, le, long, to, length-drop start names),
      ap (drop 1) more ∙ ap (pieces_from 0 0) (ap (drop 3) (drop-drop (first_name_len 0 s) start names) ∙ drop-drop 3 (start + first_name_len 0 s) names
          ∙ ap (λ n. drop n names) e),
    )

-- there are none after the last
pub none_behind : (names : List ℕ) (start len : ℕ) → len ≡ first_name_len 0 (drop start names) → length (drop start names) - len < 3
    → drop 1 (names_from names start) ≡ []
none_behind names start len is short =
    let s = drop start names in
    let after = drop (first_name_len 0 s) s in
    let size : length after ≡ length s - len = length-drop (first_name_len 0 s) s ∙ ap (λ n. length s - n) (sym is) in
    ap (drop 1) (pieces_last s after refl (omega (arith, short, size)))

-- ---- passing over names

one_passed : (names : List (List ℕ)) (n : ℕ) → drop (n + 1) names ≡ drop 1 (drop n names)
one_passed names n = sym (drop-drop 1 n names)

pub passed_one : (names rest behind : List (List ℕ)) (n : ℕ) → drop n names ≡ rest → drop 1 rest ≡ behind → drop (n + 1) names ≡ behind
passed_one names rest behind n is next = one_passed names n ∙ ap (drop 1) is ∙ next

pub none_left : (names rest : List (List ℕ)) (n left : ℕ) → drop n names ≡ rest → drop 1 rest ≡ [] → n < left → slice_get names left ≡ None
none_left names rest n left is none lt = none_beyond names (n + 1) left (passed_one names rest [] n is none) (omega arith)

pub ruleset pass_steps = (passed_one, none_left)

-- ---- what is found from a name that is known

pub found_none : (names rest : List (List ℕ)) (known before : ℕ) → drop known names ≡ rest → known ≤ before → slice_get rest (before - known) ≡ None →
    slice_get names before ≡ None
found_none names rest known before is le none =
    let e : known + (before - known) ≡ before = omega (arith, le) in
    ap (slice_get names) (sym e) ∙ sym (later_in_rest names known (before - known)) ∙ ap (λ (all : List (List ℕ)). slice_get all (before - known)) is ∙ none

pub found_rest : (names rest found : List (List ℕ)) (known before : ℕ) → drop known names ≡ rest → known ≤ before → drop (before - known) rest ≡ found →
    drop before names ≡ found
found_rest names rest found known before is le more =
    let e : known + (before - known) ≡ before = omega (arith, le) in
    ap (λ n. drop n names) (sym e) ∙ sym (drop-drop (before - known) known names) ∙ ap (drop (before - known)) is ∙ more

pub found_name : (names : List ℕ) (all : List (List ℕ)) (from before : ℕ) → drop before all ≡ names_from names from →
    slice_get all before ≡ Some (take (first_name_len 0 (drop from names)) (drop from names))
found_name names all from before is =
    let first = name_at names from in
    first_of_rest all first.0 (take (first_name_len 0 (drop from names)) (drop from names)) before (is ∙ first.1)

-- a list that isn't empty has the names from its beginning
pub names_from_start : (names : List ℕ) (test : Bool) → test ≡ eqb (length names) 0 → test ≡ false → drop 0 (names_of names) ≡ names_from names 0
unfolding names_of
names_from_start [] test asked is = absurd (true≢false (sym asked ∙ is))
names_from_start (b ∷ bs) test asked is = refl

pub none_of_nothing : (names : List ℕ) (test : Bool) (before : ℕ) → test ≡ eqb (length names) 0 → test ≡ true → slice_get (names_of names) before ≡ None
unfolding names_of
none_of_nothing [] test zero asked is = refl
none_of_nothing [] test (suc before) asked is = refl
none_of_nothing (b ∷ bs) test before asked is = absurd (true≢false (sym is ∙ asked ∙ ne_eqb (length (b ∷ bs)) 0 (omega arith)))

pub ruleset find_steps = (found_none, found_rest, found_name, names_from_start, none_of_nothing)
