-- Bodies, word by word.
use Rattle.std.proofs.Common.{◌≡◌, ℕ, ℤ, zero, suc, ◌<◌, ◌≤◌, Bool, true, false, cond, List, [], ◌∷◌, length, take, drop, refl, ◌==◌, arith, Option, Some, None}
use Rattle.std.proofs.lemmas.List.{length-drop, length-append}
use Rattle.btx_bst.specs.declared.callee.Callee.{Callee}
use Rattle.btx_bst.specs.declared.token.Token.{Token}
use Rattle.btx_bst.specs.declared.token.Token.TheVariants.{Quote, Run}
use Rattle.btx_bst.specs.refinement.Weights.{body_weight}
use Rattle.btx_bst.specs.language.Places.{Place, ink, size}
use Rattle.btx_bst.specs.language.Fronts.{word_len, digits_len, quote_len, is_word_end}
use Rattle.btx_bst.specs.language.Complaints.{TextAfter, EndOfFile}
use Rattle.btx_bst.specs.language.Words.{BodyWord, Open, Close, String, Integer, Quoted, Name, Faulty, Unended, Ended, front, Met, word_front, integer_at}
use Rattle.btx_bst.specs.language.Words.{integer_front, integer_before, signed, digits_value, string_at, string_ended, met_at, met_in}
use Rattle.btx_bst.specs.language.Names.{Names, named}
use Rattle.btx_bst.specs.language.Turns.{Turn, Again, Ends, after_turn}
use Rattle.btx_bst.specs.language.BodyText.{Inside, BodyEnd, Whole, Broken, with_named, closed_inside, word_turn, body_turn, body_end}
use Rattle.btx_bst.proofs.TurnLemmas.{OnTurn, turns-next, turns-keep}
use Rattle.btx_bst.proofs.SizeLemmas.{ink-size}
use Rattle.btx_bst.specs.refinement.Words.{string_before}
use Rattle.btx_bst.specs.refinement.Bodies.{FunctionBody}

drop-len : (n : ℕ) (s : List ℕ) → length (drop n s) ≤ length s
drop-len n s = omega (arith, length-drop n s)

string_before-len : (t s : List ℕ) → length (string_before t s).rest ≤ length s
string_before-len t s = at (is_word_end s) where
  at : (b : Bool) → length (cond b (front (String t) s) (front (Faulty TextAfter) (drop (word_len s) s))).rest ≤ length s
  at true = omega arith
  at false = drop-len (word_len s) s

string_ended-len : (line t s : List ℕ) → length s ≤ length line → length (string_ended line t s).rest ≤ length line
string_ended-len line t [] h = omega arith
string_ended-len line t (q ∷ s) h = omega (arith, string_before-len t s)

string_at-len : (s : List ℕ) → length (string_at s).rest ≤ length s
string_at-len s = string_ended-len s (take (quote_len s) s) (drop (quote_len s) s) (drop-len (quote_len s) s)

integer_before-len : (line rest : List ℕ) (o : Option ℤ) → length rest ≤ length line → length (integer_before line rest o).rest ≤ length line
integer_before-len line rest None h = drop-len (word_len line) line
integer_before-len line rest (Some z) h = at (is_word_end rest) where
  at : (b : Bool) → length (cond b (front (Integer z) rest) (front (Faulty TextAfter) (drop (word_len rest) rest))).rest ≤ length line
  at true = h
  at false = omega (arith, drop-len (word_len rest) rest)

integer_of-len : (line : List ℕ) (minus : Bool) (rest : List ℕ) (n : ℕ) → length rest ≤ length line → length (integer_front line minus rest n).rest
    ≤ length line
integer_of-len line minus rest zero h = drop-len (word_len line) line
integer_of-len line minus rest (suc n) h = integer_before-len line (drop (suc n) rest) (signed minus (digits_value (take (suc n) rest)))
    (omega (arith, drop-len (suc n) rest))

integer_at-len : (s : List ℕ) → length (integer_at s).rest ≤ length s
unfolding integer_at
integer_at-len [] = omega arith
integer_at-len (b ∷ bs) = at (b == 45) where
  at : (t : Bool) → length (cond t (integer_front (b ∷ bs) true bs (digits_len bs)) (integer_front (b ∷ bs) false (b ∷ bs) (digits_len (b ∷ bs)))).rest
      ≤ suc (length bs)
  at true = integer_of-len (b ∷ bs) true bs (digits_len bs) (omega arith)
  at false = integer_of-len (b ∷ bs) false (b ∷ bs) (digits_len (b ∷ bs)) (omega arith)

word_front-len : (b : ℕ) (bs : List ℕ) → length (word_front b bs).rest ≤ length bs
unfolding word_front
word_front-len b bs = at (b == 123) (b == 125) (b == 34) (b == 35) (b == 39) where
  at : (t u v x w : Bool) → length (cond t (front Open bs)
      (cond u (front Close bs) (cond v (string_at bs)
      (cond x (integer_at bs) (cond w (front (Quoted (take (word_len bs) bs)) (drop (word_len bs) bs))
      (front (Name (b ∷ take (word_len bs) bs)) (drop (word_len bs) bs))))))).rest ≤ length bs
  at true u v x w = omega arith
  at false true v x w = omega arith
  at false false true x w = string_at-len bs
  at false false false true w = integer_at-len bs
  at false false false false true = drop-len (word_len bs) bs
  at false false false false false = drop-len (word_len bs) bs

-- the end of the file
abbrev pub is_ended : BodyWord → Bool
is_ended Ended = true
is_ended _ = false

-- a word leaves less, unless it is the end of the file
abbrev pub MetSized : ℕ → Met → Type 0
MetSized n m = (size m.place ≤ n) × (is_ended m.word ≡ false → size m.place < n)

met_in-size : (p : Place) (line : List ℕ) (n : ℕ) → p.line ≡ line → size p ≤ n → MetSized n (met_in p line)
unfolding size
met_in-size p [] n e h = (h, λ (bad : true ≡ false). absurd (cc))
met_in-size p (b ∷ bs) n e h =
    let shorter : length p.line ≡ suc (length bs) = rw e refl in
    (omega (arith, shorter, word_front-len b bs), λ _. omega (arith, shorter, word_front-len b bs))

pub met_at-size : (p : Place) → MetSized (size p) (met_at p)
met_at-size p = met_in-size (ink p) (ink p).line (size p) refl (ink-size p)

-- where an end stands
abbrev pub place_of : BodyEnd → Place
place_of (Whole inside) = inside.place
place_of (Broken complaint inside) = inside.place

abbrev pub BodyTurn : ℕ → Turn Inside BodyEnd → Type 0
BodyTurn n t = OnTurn (λ s. size s.place < n) (λ r. size (place_of r) ≤ n) t

with_named-place : (token : Callee → Token) (name : List ℕ) (s : Inside) (o : Option Callee) → (with_named token name s o).place ≡ s.place
with_named-place token name s None = refl
with_named-place token name s (Some callee) = refl

closed_inside-size : (s : Inside) (around : List FunctionBody) (n : ℕ) → size s.place < n → BodyTurn n (closed_inside s around)
closed_inside-size s [] n h = omega arith
closed_inside-size s (outer ∷ around) n h = h

word_turn-size : (names : Names) (s : Inside) (w : BodyWord) (n : ℕ) → size s.place ≤ n → (is_ended w ≡ false → size s.place < n)
    → BodyTurn n (word_turn names s w)
word_turn-size names s Open n h k = k refl
word_turn-size names s Close n h k = closed_inside-size s s.around n (k refl)
word_turn-size names s (String text) n h k = k refl
word_turn-size names s (Integer value) n h k = k refl
word_turn-size names s (Quoted name) n h k = rw (with_named-place Quote name s (named names name)) (k refl)
word_turn-size names s (Name name) n h k = rw (with_named-place Run name s (named names name)) (k refl)
word_turn-size names s (Faulty c) n h k = k refl
word_turn-size names s Unended n h k = h
word_turn-size names s Ended n h k = h

pub body_turn-size : (names : Names) (s : Inside) → BodyTurn (size s.place) (body_turn names s)
unfolding body_turn
body_turn-size names s =
    let m = met_at s.place in
    word_turn-size names (record s { place = m.place }) m.word (size s.place) (met_at-size s.place).0 (met_at-size s.place).1

abbrev left_in : Inside → ℕ
left_in s = size s.place

pub body_turn-falls : (names : Names) (s : Inside) → OnTurn (λ t. left_in t < left_in s) (λ (r : BodyEnd). Unit {0}) (body_turn names s)
body_turn-falls names s = at (body_turn names s) (body_turn-size names s) where
  at : (t : Turn Inside BodyEnd) → BodyTurn (size s.place) t → OnTurn (λ t. left_in t < left_in s) (λ (r : BodyEnd). Unit {0}) t
  at (Again u) h = h
  at (Ends r) h = tt

pub body_end-next : (names : Names) (s : Inside) → body_end names s ≡ after_turn (body_end names) (body_turn names s)
unfolding body_end
body_end-next names s = turns-next (body_turn names) (Broken EndOfFile) left_in (body_turn-falls names) s

pub body_end-again : (names : Names) (s t : Inside) → body_turn names s ≡ Again t → body_end names s ≡ body_end names t
body_end-again names s t e = rw (body_end-next names s, e) refl

pub body_end-ends : (names : Names) (s : Inside) (r : BodyEnd) → body_turn names s ≡ Ends r → body_end names s ≡ r
body_end-ends names s r e = rw (body_end-next names s, e) refl

pub body_turn-less : (names : Names) (s t : Inside) → body_turn names s ≡ Again t → size t.place < size s.place
body_turn-less names s t e = let h : BodyTurn (size s.place) (Again t) = rw e at (body_turn-size names s) in h

pub ruleset body_steps = (body_end-again, body_end-ends, body_turn-less)

-- ---- what a body weighs

abbrev pub inside_of : BodyEnd → Inside
inside_of (Whole inside) = inside
inside_of (Broken complaint inside) = inside

abbrev pub weight_of : Inside → ℕ
weight_of s = body_weight s.place s.bodies s.texts

with_named-weight : (token : Callee → Token) (name : List ℕ) (s : Inside) (o : Option Callee) → weight_of (with_named token name s o) ≡ weight_of s
with_named-weight token name s None = refl
with_named-weight token name s (Some callee) = refl

abbrev TurnWeighs : ℕ → Turn Inside BodyEnd → Type 0
TurnWeighs n t = OnTurn (λ s. weight_of s ≤ n) (λ r. weight_of (inside_of r) ≤ n) t

closed_inside-weight : (s : Inside) (around : List FunctionBody) (n : ℕ) → suc (weight_of s) ≤ n → TurnWeighs n (closed_inside s around)
closed_inside-weight s [] n h = omega arith
closed_inside-weight s (outer ∷ around) n h = omega (arith, length-append s.bodies (s.tokens ∷ []))

word_turn-weight : (names : Names) (s : Inside) (w : BodyWord) (n : ℕ) → weight_of s ≤ n → (is_ended w ≡ false → suc (weight_of s) ≤ n)
    → TurnWeighs n (word_turn names s w)
word_turn-weight names s Open n h k = h
word_turn-weight names s Close n h k = closed_inside-weight s s.around n (k refl)
word_turn-weight names s (String text) n h k = let l = k refl in omega (arith, l, length-append s.texts (text ∷ []))
word_turn-weight names s (Integer value) n h k = h
word_turn-weight names s (Quoted name) n h k = rw (with_named-weight Quote name s (named names name)) h
word_turn-weight names s (Name name) n h k = rw (with_named-weight Run name s (named names name)) h
word_turn-weight names s (Faulty c) n h k = h
word_turn-weight names s Unended n h k = h
word_turn-weight names s Ended n h k = h

body_turn-weight : (names : Names) (s : Inside) (n : ℕ) → weight_of s ≤ n → TurnWeighs n (body_turn names s)
unfolding body_turn
body_turn-weight names s n h =
    let m = met_at s.place in
    let z = met_at-size s.place in
    word_turn-weight names (record s { place = m.place }) m.word n (omega (arith, z.0)) (λ e. let l = z.1 e in omega (arith, l))

pub body_end-weight : (names : Names) (s : Inside) → weight_of (inside_of (body_end names s)) ≤ weight_of s
unfolding body_end
body_end-weight names s =
    turns-keep (λ t. weight_of t ≤ weight_of s) (λ r. weight_of (inside_of r) ≤ weight_of s) (body_turn names) (Broken EndOfFile)
    (λ t h. body_turn-weight names t (weight_of s) h) (λ t h. h) (suc (size s.place)) s (omega arith)

pub body_turn-room : (names : Names) (s t : Inside) → body_turn names s ≡ Again t → weight_of t ≤ weight_of s
body_turn-room names s t e = let h : TurnWeighs (weight_of s) (Again t) = rw e at (body_turn-weight names s (weight_of s) (omega arith)) in h
