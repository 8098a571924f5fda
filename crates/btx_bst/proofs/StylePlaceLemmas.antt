-- The bytes of places.
use Rattle.std.proofs.Common.{◌≡◌, ℕ, zero, suc, ◌+◌, ◌-◌, ◌<◌, ◌≤◌, ◌==◌, Bool, true, false, cond, List, [], ◌∷◌, ◌++◌, length, take, drop, map, refl, sym, ap, ◌∙◌, arith, append_assoc, append-nil}
use Rattle.std.proofs.lemmas.List.{length-take, length-drop, drop-drop, take_all}
use Rattle.std.specs.Prelude.{slice_get, slice_index_or, option_map}
use Rattle.std.specs.List.{onto_first}
use Rattle.btx_text.specs.language.Lines.{line_pieces, trimmed}
use Rattle.btx_bst.specs.language.Fronts.{len_till}
use Rattle.btx_bst.specs.laws.Fronts.{is_line_feed}
use Rattle.btx_bst.specs.laws.StylePlaces.{ends_from}

-- ---- what stands at a number

pub get-map : {A B : Type 0} (f : A → B) (xs : List A) (i : ℕ) → slice_get (map f xs) i ≡ option_map f (slice_get xs i)
get-map f [] i = refl
get-map f (x ∷ xs) zero = refl
get-map f (x ∷ xs) (suc i) = get-map f xs i

pub part-map : {A B : Type 0} (f : A → B) (xss : List (List A)) (i : ℕ) → slice_index_or (map (map f) xss) i [] ≡ map f (slice_index_or xss i [])
part-map f [] i = refl
part-map f (xs ∷ xss) zero = refl
part-map f (xs ∷ xss) (suc i) = part-map f xss i

pub part-past : {A : Type 0} (xss : List (List A)) (i : ℕ) → length xss ≤ i → slice_index_or xss i [] ≡ []
part-past [] i h = refl
part-past (xs ∷ xss) zero h = absurd (omega arith)
part-past (xs ∷ xss) (suc i) h = part-past xss i (omega arith)

pub ruleset span_steps = (get-map, part-map, part-past)

-- ---- lines

-- a text is its first line, up to the line feed, and the other lines
pub pieces-cut : (text : List ℕ) → len_till is_line_feed text < length text
    → line_pieces text ≡ take (len_till is_line_feed text) text ∷ line_pieces (drop (suc (len_till is_line_feed text)) text)
unfolding line_pieces len_till
pieces-cut [] h = absurd (omega arith)
pieces-cut (b ∷ bs) h = at (b == 10) h (pieces-cut bs) where
  at : (t : Bool) → cond {A = ℕ} t 0 (suc (len_till is_line_feed bs)) < suc (length bs)
      → (len_till is_line_feed bs < length bs → line_pieces bs ≡ take (len_till is_line_feed bs) bs ∷ line_pieces (drop (suc (len_till is_line_feed bs)) bs))
      → cond t ([] ∷ line_pieces bs) (onto_first b (line_pieces bs))
      ≡ take (cond {A = ℕ} t 0 (suc (len_till is_line_feed bs))) (b ∷ bs) ∷ line_pieces (drop (suc (cond {A = ℕ} t 0 (suc (len_till is_line_feed bs)))) (b ∷ bs))
  at true k more = refl
  at false k more = ap (onto_first b) (more (omega arith))

-- the last line has no line feed
pub pieces-last : (text : List ℕ) → 0 < length text → len_till is_line_feed text ≡ length text → line_pieces text ≡ text ∷ []
unfolding line_pieces len_till
pieces-last [] h e = absurd (omega arith)
pieces-last (b ∷ []) h e = at (b == 10) e where
  at : (t : Bool) → cond {A = ℕ} t 0 1 ≡ 1 → cond {A = List (List ℕ)} t ([] ∷ []) (onto_first b []) ≡ (b ∷ []) ∷ []
  at true k = absurd (omega arith)
  at false k = refl
pieces-last (b ∷ c ∷ bs) h e = at (b == 10) e (pieces-last (c ∷ bs) (omega arith)) where
  at : (t : Bool) → cond {A = ℕ} t 0 (suc (len_till is_line_feed (c ∷ bs))) ≡ suc (suc (length bs))
      → (len_till is_line_feed (c ∷ bs) ≡ suc (length bs) → line_pieces (c ∷ bs) ≡ (c ∷ bs) ∷ [])
      → cond t ([] ∷ line_pieces (c ∷ bs)) (onto_first b (line_pieces (c ∷ bs))) ≡ (b ∷ c ∷ bs) ∷ []
  at true k more = absurd (omega arith)
  at false k more = ap (onto_first b) (more (omega arith))

-- what stands after the line feed
next-is : (n : ℕ) (rest after next : List ℕ) → after ≡ drop n rest → 1 ≤ length after → next ≡ take (length after - 1) (drop 1 after)
    → (n < length rest) × (next ≡ drop (suc n) rest)
next-is n rest after next e some h =
    let l : length after ≡ length (drop n rest) = ap (λ (xs : List ℕ). length xs) e in
    let one : n + 1 ≡ suc n = omega arith in
    let d : drop 1 after ≡ drop (suc n) rest = ap (drop 1) e ∙ drop-drop 1 n rest ∙ ap (λ k. drop k rest) one in
    (omega (arith, l, length-drop n rest), h ∙ take_all (length after - 1) (drop 1 after) (omega (arith, length-drop 1 after)) ∙ d)

-- the end of one more line, and of those that are left
pub ends-step : (ends new whole : List ℕ) (start n : ℕ) (rest line ink after next : List ℕ) → n ≡ len_till is_line_feed rest → line ≡ take n rest
    → after ≡ drop n rest → 1 ≤ length after → next ≡ take (length after - 1) (drop 1 after) → ink ≡ trimmed line → new ≡ ends ++ (start + length ink) ∷ []
    → ends ++ ends_from start (line_pieces rest) ≡ whole → new ++ ends_from (start + (n + 1)) (line_pieces next) ≡ whole
unfolding ends_from
ends-step ends new whole start n rest line ink after next e cut left some behind trim pushed goes =
    let is = next-is n rest after next left some behind in
    let k : length (take n rest) ≡ n = omega (arith, length-take n rest, is.0) in
    let q = pieces-cut rest (rw e at is.0) in
    let p = rw (← e) at q in
    let s : start + n + 1 ≡ start + (n + 1) = omega arith in
    rw (pushed, append_assoc, trim, cut, is.1)
    (ap (λ (xs : List ℕ). ends ++ xs) (sym (ap (ends_from start) p ∙ rw (k, s) refl)) ∙ goes)

-- the end of the last line
pub ends-last : (ends new whole : List ℕ) (start n : ℕ) (rest line ink after : List ℕ) → 0 < length rest → n ≡ len_till is_line_feed rest → n ≤ length rest
    → line ≡ take n rest → after ≡ drop n rest → length after < 1 → ink ≡ trimmed line → new ≡ ends ++ (start + length ink) ∷ []
    → ends ++ ends_from start (line_pieces rest) ≡ whole → new ≡ whole
unfolding ends_from
ends-last ends new whole start n rest line ink after some e le cut left none trim pushed goes =
    let all : n ≡ length rest = omega (arith, length-drop n rest, none, ap (λ (xs : List ℕ). length xs) left) in
    let p = pieces-last rest some (sym e ∙ all) in
    let t : take n rest ≡ rest = take_all n rest (omega (arith, all)) in
    rw (pushed, trim, cut, t) (ap (λ (xs : List ℕ). ends ++ xs) (sym (ap (ends_from start) p)) ∙ goes)

-- no line is left
pub ends-none : (ends whole : List ℕ) (start : ℕ) (rest : List ℕ) → length rest ≡ 0 → ends ++ ends_from start (line_pieces rest) ≡ whole → ends ≡ whole
unfolding ends_from line_pieces
ends-none ends whole start [] h goes = sym (append-nil ends) ∙ goes
ends-none ends whole start (b ∷ bs) h goes = absurd (omega arith)
