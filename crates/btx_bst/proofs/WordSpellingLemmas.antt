-- A word of a body is met where it is spelled.
use Rattle.std.proofs.Common.{◌≡◌, ℕ, zero, suc, ◌+◌, ◌<◌, ◌==◌, ℤ, pos, negsuc, Bool, true, false, cond, List, [], ◌∷◌, ◌++◌, length, take, drop, refl, sym}
use Rattle.std.proofs.Common.{ap, ◌∙◌, arith, append_assoc, append-nil, ◌⊎◌, inl, inr, Some, None}
use Rattle.std.specs.Prelude.{not, ◌||◌, nat_lt}
use Rattle.std.proofs.Math.Seq.{take-append_seam, drop-append_seam}
use Rattle.std.proofs.lemmas.Bool.{eqb-true, ltb-true, lt-ltb}
use borrow.Author.Tests.{ltb-false}
use Rattle.btx_text.specs.language.Class.{is_white}
use Rattle.btx_bst.specs.language.Places.{Place, place_at, further, ink}
use Rattle.btx_bst.specs.language.Complaints.{BadInteger, TextAfter}
use Rattle.btx_bst.specs.language.Fronts.{len_till, ends_word, word_len, quote_len, digits_len, is_word_end}
use Rattle.btx_bst.specs.language.Words.{BodyWord, Open, Close, String, Integer, Quoted, Name, Faulty, Unended, Ended, Front, front, string_ended, string_at}
use Rattle.btx_bst.specs.language.Words.{digits_value, signed, integer_before, integer_front, integer_at, word_front, Met, met, met_in, met_at}
use Rattle.btx_bst.specs.laws.Spelling.{Parts, Nothing, Plain, Group, Spells, Fragment, Here, After, AfterGroup, Inner, Breaks}
use Rattle.btx_bst.specs.laws.TokenSpelling.{NoneIn, Begins, EndsBefore, IsUpTo, ends_gap, GapFrom}
use Rattle.btx_bst.specs.laws.WordSpelling.{IsBodyWord, IsNumeral, Fits, number_of, IsInteger, IsOverlong, IsNoInteger, IsString, begins_plainly, IsToken}
use Rattle.btx_bst.specs.laws.WordSpelling.{NextWord, AreParts, BreakOff, TokensLaw}
use Rattle.btx_bst.proofs.TokenSpellingLemmas.{len_text, upto_take, upto_drop, upto_met, gap_one, gap_met}
use Rattle.btx_bst.specs.laws.Fronts.{is_no_digit, is_quote}
use Rattle.btx_bst.specs.refinement.Words.{string_before}

-- ---- ends of words

word_end_true : (line : List ℕ) → EndsBefore ends_word line → is_word_end line ≡ true
word_end_true [] h = refl
word_end_true (b ∷ bs) h = h

word_end_false : (more line rest : List ℕ) → IsBodyWord more line rest → (more ≡ [] → ⊥) → is_word_end line ≡ false
word_end_false [] line rest w h = absurd (h refl)
word_end_false (b ∷ more) line rest w h = ap is_word_end w.joined ∙ w.none.0

-- what ends a word is no digit
end_no_digit : (b : ℕ) → ends_word b ≡ true → is_no_digit b ≡ true
end_no_digit b h = at (b == 32) (b == 9) (b == 13) (b == 125) (b == 37) refl refl refl refl refl h where
  at : (s t r c p : Bool) → (b == 32) ≡ s → (b == 9) ≡ t → (b == 13) ≡ r → (b == 125) ≡ c → (b == 37) ≡ p → ((s || t || r) || c || p) ≡ true
      → is_no_digit b ≡ true
  at true t r c p e f g i j k = ap is_no_digit (eqb-true b 32 e)
  at false true r c p e f g i j k = ap is_no_digit (eqb-true b 9 f)
  at false false true c p e f g i j k = ap is_no_digit (eqb-true b 13 g)
  at false false false true p e f g i j k = ap is_no_digit (eqb-true b 125 i)
  at false false false false true e f g i j k = ap is_no_digit (eqb-true b 37 j)
  at false false false false false e f g i j k = absurd (cc)

ends_no_digit : (line : List ℕ) → EndsBefore ends_word line → EndsBefore is_no_digit line
ends_no_digit [] h = tt
ends_no_digit (b ∷ bs) h = end_no_digit b h

more_ends : (more rest : List ℕ) → EndsBefore is_no_digit more → EndsBefore ends_word rest → EndsBefore is_no_digit (more ++ rest)
more_ends [] rest h k = ends_no_digit rest k
more_ends (b ∷ more) rest h k = h

none_right : (t : ℕ → Bool) (xs ys : List ℕ) → NoneIn t (xs ++ ys) → NoneIn t ys
none_right t [] ys h = h
none_right t (x ∷ xs) ys h = none_right t xs ys h.1

-- ---- strings

string_front : (text behind : List ℕ) → NoneIn is_quote text → string_at (text ++ 34 ∷ behind) ≡ string_before text behind
string_front text behind none =
    let line = text ++ 34 ∷ behind in
    let u : IsUpTo is_quote text line (34 ∷ behind) = record { joined = refl; none = none; ends = refl } in
    ap (λ (xs : List ℕ). string_ended line xs (drop (quote_len line) line)) (upto_take is_quote text line (34 ∷ behind) u)
    ∙ ap (string_ended line text) (upto_drop is_quote text line (34 ∷ behind) u)

string_whole : (text line rest : List ℕ) → IsString text [] line rest → (p : Place) → met_in p line ≡ met (String text) (further p rest)
unfolding word_front
string_whole text line rest h p =
    ap (met_in p) h.1 ∙ ap (λ (f : Front). met f.word (further p f.rest)) (string_front text h.0 h.2)
    ∙ ap (λ (t : Bool). let f = cond t (front (String text) h.0) (front (Faulty TextAfter) (drop (word_len h.0) h.0)) in met f.word (further p f.rest))
    (word_end_true h.0 (rw h.3.joined h.3.ends))
    ∙ ap (λ (xs : List ℕ). met (String text) (further p xs)) h.3.joined

string_after : (text more line rest : List ℕ) → IsString text more line rest → (more ≡ [] → ⊥) → (p : Place)
    → met_in p line ≡ met (Faulty TextAfter) (further p rest)
unfolding word_front
string_after text more line rest h k p =
    ap (met_in p) h.1 ∙ ap (λ (f : Front). met f.word (further p f.rest)) (string_front text h.0 h.2)
    ∙ ap (λ (t : Bool). let f = cond t (front (String text) h.0) (front (Faulty TextAfter) (drop (word_len h.0) h.0)) in met f.word (further p f.rest))
    (word_end_false more h.0 rest h.3 k)
    ∙ ap (λ (xs : List ℕ). met (Faulty TextAfter) (further p xs)) (upto_drop ends_word more h.0 rest h.3)

string_none : (rest : List ℕ) → NoneIn is_quote rest → string_at rest ≡ front Unended rest
string_none rest none =
    let u : IsUpTo is_quote rest rest [] = record { joined = sym (append-nil rest); none = none; ends = tt } in
    ap (string_ended rest (take (quote_len rest) rest)) (upto_drop is_quote rest rest [] u)

-- ---- integers

lt_true : (m n : ℕ) → m < n → nat_lt m n ≡ true
lt_true m n h = lt-ltb m n h

lt_false : (m n : ℕ) → (m < n → ⊥) → nat_lt m n ≡ false
lt_false m n h = at (nat_lt m n) refl where
  at : (t : Bool) → nat_lt m n ≡ t → t ≡ false
  at true e = absurd (h (ltb-true m n e))
  at false e = refl

fits_signed : (minus : Bool) (n : ℕ) → Fits minus n → signed minus n ≡ Some (number_of minus n)
unfolding signed
fits_signed false n h = ap (λ (t : Bool). cond t (Some (pos n)) None) (lt_true n 2147483648 h)
fits_signed true zero h = refl
fits_signed true (suc n) h = ap (λ (t : Bool). cond t (Some (negsuc n)) None) (lt_true n 2147483648 (omega (arith, h)))

unfit_signed : (minus : Bool) (n : ℕ) → (Fits minus n → ⊥) → signed minus n ≡ None
unfolding signed
unfit_signed false n h = ap (λ (t : Bool). cond t (Some (pos n)) None) (lt_false n 2147483648 h)
unfit_signed true zero h = absurd (h (omega arith))
unfit_signed true (suc n) h = ap (λ (t : Bool). cond t (Some (negsuc n)) None) (lt_false n 2147483648 (λ l. h (omega (arith, l))))

fits_or_not : (minus : Bool) (n : ℕ) → Fits minus n ⊎ (Fits minus n → ⊥)
fits_or_not false n = at (nat_lt n 2147483648) refl where
  at : (t : Bool) → nat_lt n 2147483648 ≡ t → Fits false n ⊎ (Fits false n → ⊥)
  at true e = inl (ltb-true n 2147483648 e)
  at false e = inr (λ l. let g = ltb-false n 2147483648 e in absurd (omega (arith, g, l)))
fits_or_not true n = at (nat_lt 2147483648 n) refl where
  at : (t : Bool) → nat_lt 2147483648 n ≡ t → Fits true n ⊎ (Fits true n → ⊥)
  at true e = inr (λ l. let g = ltb-true 2147483648 n e in absurd (omega (arith, g, l)))
  at false e = inl (ltb-false 2147483648 n e)

abbrev signed_by : Bool → List ℕ → List ℕ
signed_by minus unsigned = cond minus (45 ∷ unsigned) unsigned

at_plain : (b : ℕ) (bs : List ℕ) → (b == 45) ≡ false → integer_at (b ∷ bs) ≡ integer_front (b ∷ bs) false (b ∷ bs) (digits_len (b ∷ bs))
unfolding integer_at
at_plain b bs e = ap (λ (t : Bool). cond t (integer_front (b ∷ bs) true bs (digits_len bs)) (integer_front (b ∷ bs) false (b ∷ bs) (digits_len (b ∷ bs)))) e

at_minus : (bs : List ℕ) → integer_at (45 ∷ bs) ≡ integer_front (45 ∷ bs) true bs (digits_len bs)
unfolding integer_at
at_minus bs = refl

at_nothing : integer_at [] ≡ integer_front [] false [] (digits_len [])
unfolding integer_at len_till
at_nothing = refl

digit_no_minus : (d : ℕ) → is_no_digit d ≡ false → (d == 45) ≡ false
digit_no_minus d h = at (d == 45) refl where
  at : (t : Bool) → (d == 45) ≡ t → t ≡ false
  at true e = let g : true ≡ false = ap is_no_digit (sym (eqb-true d 45 e)) ∙ h in absurd (cc)
  at false e = refl

end_no_minus : (b : ℕ) → ends_word b ≡ true → (b == 45) ≡ false
end_no_minus b h = at (b == 45) refl where
  at : (t : Bool) → (b == 45) ≡ t → t ≡ false
  at true e = let g : false ≡ true = ap ends_word (sym (eqb-true b 45 e)) ∙ h in absurd (cc)
  at false e = refl

-- what is read of a line after a sign
abbrev ReadBehind : Bool → List ℕ → List ℕ → Type 0
ReadBehind minus line bs = integer_at line ≡ integer_front line minus bs (digits_len bs)

read_behind : (minus : Bool) (line bs : List ℕ) → line ≡ signed_by minus bs → (minus ≡ false → Begins (λ b. b == 45) bs → ⊥) → ReadBehind minus line bs
read_behind true line bs e k = ap integer_at e ∙ at_minus bs ∙ ap (λ (l : List ℕ). integer_front l true bs (digits_len bs)) (sym e)
read_behind false line [] e k = ap integer_at e ∙ at_nothing ∙ ap (λ (l : List ℕ). integer_front l false [] (digits_len [])) (sym e)
read_behind false line (b ∷ bs) e k =
    ap integer_at e ∙ at_plain b bs (no_minus (b == 45) refl) ∙ ap (λ (l : List ℕ). integer_front l false (b ∷ bs) (digits_len (b ∷ bs))) (sym e) where
      no_minus : (t : Bool) → (b == 45) ≡ t → t ≡ false
      no_minus true f = absurd (k refl f)
      no_minus false f = refl

numeral_front : (line : List ℕ) (minus : Bool) (digits behind : List ℕ) → NoneIn is_no_digit digits → EndsBefore is_no_digit behind → (digits ≡ [] → ⊥)
    → integer_front line minus (digits ++ behind) (digits_len (digits ++ behind)) ≡ integer_before line behind (signed minus (digits_value digits))
numeral_front line minus [] behind none ends some = absurd (some refl)
numeral_front line minus (d ∷ ds) behind none ends some =
    ap (integer_front line minus (d ∷ (ds ++ behind))) (len_text is_no_digit (d ∷ ds) behind none ends)
    ∙ ap (λ (xs : List ℕ). integer_before line xs (signed minus (digits_value (d ∷ take (length ds) (ds ++ behind))))) (drop-append_seam ds behind)
    ∙ ap (λ (xs : List ℕ). integer_before line behind (signed minus (digits_value (d ∷ xs)))) (take-append_seam ds behind)

signed_append : (minus : Bool) (u rest : List ℕ) → signed_by minus u ++ rest ≡ signed_by minus (u ++ rest)
signed_append true u rest = refl
signed_append false u rest = refl

no_minus_first : (minus : Bool) (digits behind : List ℕ) → NoneIn is_no_digit digits → (digits ≡ [] → ⊥) → minus ≡ false
    → Begins (λ b. b == 45) (digits ++ behind) → ⊥
no_minus_first minus [] behind none some e h = some refl
no_minus_first minus (d ∷ ds) behind none some e h = let f = digit_no_minus d none.0 in absurd (cc)

numeral_read : (minus : Bool) (digits more word line rest : List ℕ) → IsBodyWord word line rest → IsNumeral minus digits more word
    → integer_at line ≡ integer_before line (more ++ rest) (signed minus (digits_value digits))
numeral_read minus digits more word line rest w n =
    let u : n.unsigned ++ rest ≡ digits ++ (more ++ rest) = ap (λ (xs : List ℕ). xs ++ rest) n.digits_first.joined ∙ append_assoc digits more rest in
    let e : line ≡ signed_by minus (digits ++ (more ++ rest)) =
    w.joined ∙ ap (λ (xs : List ℕ). xs ++ rest) (sym n.signed) ∙ signed_append minus n.unsigned rest ∙ ap (signed_by minus) u in
    read_behind minus line (digits ++ (more ++ rest)) e (no_minus_first minus digits (more ++ rest) n.digits_first.none n.some)
    ∙ numeral_front line minus digits (more ++ rest) n.digits_first.none (more_ends more rest n.digits_first.ends w.ends) n.some

carried : (t : ℕ → Bool) (xs ys : List ℕ) → xs ≡ ys → NoneIn t ys → NoneIn t xs
carried t xs ys e h = rw e h

none_unsigned : (minus : Bool) (u word : List ℕ) → signed_by minus u ≡ word → NoneIn ends_word word → NoneIn ends_word u
none_unsigned true u word e h = (carried ends_word (45 ∷ u) word e h).1
none_unsigned false u word e h = carried ends_word u word e h

more_word : (minus : Bool) (digits more word line rest : List ℕ) → IsBodyWord word line rest → IsNumeral minus digits more word
    → IsBodyWord more (more ++ rest) rest
more_word minus digits more word line rest w n =
    let k : NoneIn ends_word (digits ++ more) = rw (sym n.digits_first.joined) (none_unsigned minus n.unsigned word n.signed w.none) in
    record { joined = refl; none = none_right ends_word digits more k; ends = w.ends }

integer_whole : (value : ℤ) (word line rest : List ℕ) → IsBodyWord word line rest → IsInteger value word → integer_at line ≡ front (Integer value) rest
integer_whole value word line rest w h =
    numeral_read h.0 h.1 [] word line rest w h.2 ∙ ap (integer_before line rest) (fits_signed h.0 (digits_value h.1) h.3)
    ∙ ap (λ (v : ℤ). integer_before line rest (Some v)) (sym h.4)
    ∙ ap (λ (t : Bool). cond t (front (Integer value) rest) (front (Faulty TextAfter) (drop (word_len rest) rest))) (word_end_true rest w.ends)

integer_after : (word line rest : List ℕ) → IsBodyWord word line rest → IsOverlong word → integer_at line ≡ front (Faulty TextAfter) rest
integer_after word line rest w h =
    let more = h.2 in
    let value = number_of h.0 (digits_value h.1) in
    let m = more_word h.0 h.1 more word line rest w h.3 in
    numeral_read h.0 h.1 more word line rest w h.3 ∙ ap (integer_before line (more ++ rest)) (fits_signed h.0 (digits_value h.1) h.4)
    ∙ ap (λ (t : Bool). cond t (front (Integer value) (more ++ rest)) (front (Faulty TextAfter) (drop (word_len (more ++ rest)) (more ++ rest))))
    (word_end_false more (more ++ rest) rest m h.5)
    ∙ ap (front (Faulty TextAfter)) (upto_drop ends_word more (more ++ rest) rest m)

none_read : (minus : Bool) (u word line rest : List ℕ) → IsBodyWord word line rest → signed_by minus u ≡ word → ReadBehind minus line (u ++ rest)
    → IsNoInteger word → integer_at line ≡ front (Faulty BadInteger) rest
none_read minus u word line rest w e r never = at (take (digits_len u) u) (drop (digits_len u) u) (upto_met is_no_digit u) where
  bad : List ℕ
  bad = drop (word_len line) line

  at : (digits more : List ℕ) → IsUpTo is_no_digit digits u more → integer_at line ≡ front (Faulty BadInteger) rest
  at [] more d =
      let ends : EndsBefore is_no_digit u = rw d.joined d.ends in
      r ∙ ap (integer_front line minus (u ++ rest)) (len_text is_no_digit [] (u ++ rest) tt (more_ends u rest ends w.ends))
      ∙ ap (front (Faulty BadInteger)) (upto_drop ends_word word line rest w)
  at (x ∷ xs) more d =
      let n : IsNumeral minus (x ∷ xs) more word = record { unsigned = u; signed = e; digits_first = d; some = λ k. absurd (cc) } in
      numeral_read minus (x ∷ xs) more word line rest w n
      ∙ ap (integer_before line (more ++ rest)) (unfit_signed minus (digits_value (x ∷ xs)) (never minus (x ∷ xs) more n))
      ∙ ap (front (Faulty BadInteger)) (upto_drop ends_word word line rest w)

no_minus_end : (rest : List ℕ) → EndsBefore ends_word rest → Begins (λ b. b == 45) rest → ⊥
no_minus_end [] h k = k
no_minus_end (b ∷ bs) h k = let f = end_no_minus b h in absurd (cc)

integer_none : (word line rest : List ℕ) → IsBodyWord word line rest → IsNoInteger word → integer_at line ≡ front (Faulty BadInteger) rest
integer_none [] line rest w never = none_read false [] [] line rest w refl (read_behind false line rest w.joined (λ e. no_minus_end rest w.ends)) never
integer_none (b ∷ bs) line rest w never = at (b == 45) refl where
  at : (t : Bool) → (b == 45) ≡ t → integer_at line ≡ front (Faulty BadInteger) rest
  at true e =
      let f = eqb-true b 45 e in
      none_read true bs (b ∷ bs) line rest w (ap (λ (n : ℕ). n ∷ bs) (sym f))
      (read_behind true line (bs ++ rest) (w.joined ∙ ap (λ (n : ℕ). n ∷ (bs ++ rest)) f) (λ g. absurd (cc))) never
  at false e = none_read false (b ∷ bs) (b ∷ bs) line rest w refl (read_behind false line (b ∷ (bs ++ rest)) w.joined (λ g h. absurd (cc))) never

-- ---- what a word after a `#` is

abbrev Unsigned : Bool → List ℕ → Type 0
Unsigned minus u = minus ≡ false → Begins (λ b. b == 45) u → ⊥

tail_of : List ℕ → List ℕ
tail_of xs = drop 1 xs

numeral_first : (digits more u : List ℕ) → IsUpTo is_no_digit digits u more → (digits ≡ [] → ⊥) → Begins (λ b. b == 45) u → ⊥
numeral_first digits more u d some h =
    no_minus_first false digits more d.none some refl (let k : Begins (λ b. b == 45) (digits ++ more) = rw (sym d.joined) h in k)

one_sign : (m minus : Bool) (digits more word u : List ℕ) → (n : IsNumeral m digits more word) → signed_by minus u ≡ word → Unsigned minus u
    → (m ≡ minus) × (n.unsigned ≡ u)
unfolding tail_of
one_sign true true digits more word u n e k = (refl, ap tail_of (n.signed ∙ sym e))
one_sign false false digits more word u n e k = (refl, n.signed ∙ sym e)
one_sign true false digits more word u n e k = absurd (k refl (let f : u ≡ 45 ∷ n.unsigned = e ∙ sym n.signed in rw f refl))
one_sign false true digits more word u n e k =
    absurd (numeral_first digits more n.unsigned n.digits_first n.some (let f : n.unsigned ≡ 45 ∷ u = n.signed ∙ sym e in rw f refl))

-- a numeral's digits are those that its word begins with
same_digits : (m minus : Bool) (digits more word u : List ℕ) → IsNumeral m digits more word → signed_by minus u ≡ word → Unsigned minus u
    → (m ≡ minus) × (digits ≡ take (digits_len u) u)
same_digits m minus digits more word u n e k =
    let o = one_sign m minus digits more word u n e k in
    (o.0, sym (upto_take is_no_digit digits n.unsigned more n.digits_first) ∙ ap (λ (xs : List ℕ). take (digits_len xs) xs) o.1)

abbrev Classed : List ℕ → Type 0
Classed word = ((value : ℤ) × IsInteger value word) ⊎ (IsOverlong word ⊎ IsNoInteger word)

fitting : (minus : Bool) (digits more word : List ℕ) → IsNumeral minus digits more word → Fits minus (digits_value digits) → Classed word
fitting minus digits [] word n f = inl (number_of minus (digits_value digits), (minus, digits, n, f, refl))
fitting minus digits (b ∷ more) word n f = inr (inl (minus, digits, b ∷ more, n, f, λ e. absurd (cc)))

not_fitting : (minus : Bool) (u digits word : List ℕ) → signed_by minus u ≡ word → Unsigned minus u → take (digits_len u) u ≡ digits
    → (Fits minus (digits_value digits) → ⊥) → IsNoInteger word
not_fitting minus u digits word e k t f m d r n g =
    let o = same_digits m minus d r word u n e k in
    let same : d ≡ digits = o.1 ∙ t in
    f (let g1 : Fits minus (digits_value d) = rw (sym o.0) g in let g2 : Fits minus (digits_value digits) = rw (sym same) g1 in g2)

no_digits : (minus : Bool) (u word : List ℕ) → signed_by minus u ≡ word → Unsigned minus u → take (digits_len u) u ≡ [] → IsNoInteger word
no_digits minus u word e k t m d r n g = n.some ((same_digits m minus d r word u n e k).1 ∙ t)

classed : (minus : Bool) (u word : List ℕ) → signed_by minus u ≡ word → Unsigned minus u → Classed word
classed minus u word e k = at (take (digits_len u) u) (drop (digits_len u) u) refl (upto_met is_no_digit u) where
  with_number : (digits more : List ℕ) → take (digits_len u) u ≡ digits → IsNumeral minus digits more word → Fits minus (digits_value digits)
      ⊎ (Fits minus (digits_value digits) → ⊥) → Classed word
  with_number digits more t n (inl f) = fitting minus digits more word n f
  with_number digits more t n (inr f) = inr (inr (not_fitting minus u digits word e k t f))

  at : (digits more : List ℕ) → take (digits_len u) u ≡ digits → IsUpTo is_no_digit digits u more → Classed word
  at [] more t d = inr (inr (no_digits minus u word e k t))
  at (x ∷ xs) more t d =
      with_number (x ∷ xs) more t (record { unsigned = u; signed = e; digits_first = d; some = λ f. absurd (cc) }) (fits_or_not minus (digits_value (x ∷ xs)))

class_of_word : (word : List ℕ) → Classed word
class_of_word [] = classed false [] [] refl (λ e h. h)
class_of_word (b ∷ bs) = at (b == 45) refl where
  at : (t : Bool) → (b == 45) ≡ t → Classed (b ∷ bs)
  at true e = classed true bs (b ∷ bs) (ap (λ (n : ℕ). n ∷ bs) (sym (eqb-true b 45 e))) (λ f. absurd (cc))
  at false e = classed false (b ∷ bs) (b ∷ bs) refl (λ f h. absurd (cc))

-- ---- words

abbrev met_front : Place → Front → Met
met_front p f = met f.word (further p f.rest)

hash_read : (p : Place) (line behind : List ℕ) (f : Front) → line ≡ 35 ∷ behind → integer_at behind ≡ f → met_in p line ≡ met_front p f
unfolding word_front
hash_read p line behind f e g = ap (met_in p) e ∙ ap (met_front p) g

named_front : (b : ℕ) (bs : List ℕ) → begins_plainly b ≡ true → (b == 125) ≡ false
    → word_front b bs ≡ front (Name (b ∷ take (word_len bs) bs)) (drop (word_len bs) bs)
unfolding word_front
named_front b bs h k = at (b == 123) (b == 125) (b == 34) (b == 35) (b == 39) h k where
  name : Front
  name = front (Name (b ∷ take (word_len bs) bs)) (drop (word_len bs) bs)

  quoted : Front
  quoted = front (Quoted (take (word_len bs) bs)) (drop (word_len bs) bs)

  at : (o c q i s : Bool) → not (o || q || i || s) ≡ true → c ≡ false
      → cond o (front Open bs) (cond c (front Close bs) (cond q (string_at bs) (cond i (integer_at bs) (cond s quoted name)))) ≡ name
  at true c q i s e f = absurd (cc)
  at false true q i s e f = absurd (cc)
  at false false true i s e f = absurd (cc)
  at false false false true s e f = absurd (cc)
  at false false false false true e f = absurd (cc)
  at false false false false false e f = refl

word_no_brace : (b : ℕ) → ends_word b ≡ false → (b == 125) ≡ false
word_no_brace b h = at (is_white b) (b == 125) (b == 37) h where
  at : (w c p : Bool) → (w || c || p) ≡ false → c ≡ false
  at true c p e = absurd (cc)
  at false true p e = absurd (cc)
  at false false p e = refl

pub token_one : (w : BodyWord) (p : Place) (rest : List ℕ) → IsToken w p.line rest → met_in p p.line ≡ met w (further p rest)
unfolding word_front
token_one Open p rest h = ap (met_in p) h
token_one Close p rest h = ap (met_in p) h
token_one (String text) p rest h = string_whole text p.line rest h p
token_one (Integer value) p rest h = hash_read p p.line h.1 (front (Integer value) rest) h.2 (integer_whole value h.0 h.1 rest h.3 h.4)
token_one (Quoted name) p rest h =
    ap (met_in p) h.1 ∙ ap (λ (xs : List ℕ). met (Quoted xs) (further p (drop (word_len h.0) h.0))) (upto_take ends_word name h.0 rest h.2)
    ∙ ap (λ (xs : List ℕ). met (Quoted name) (further p xs)) (upto_drop ends_word name h.0 rest h.2)
token_one (Name []) p rest h = absurd h.1
token_one (Name (b ∷ w)) p rest h =
    let u : IsUpTo ends_word w (w ++ rest) rest = record { joined = refl; none = h.0.none.1; ends = h.0.ends } in
    ap (met_in p) h.0.joined ∙ ap (met_front p) (named_front b (w ++ rest) h.1 (word_no_brace b h.0.none.0))
    ∙ ap (λ (xs : List ℕ). met (Name (b ∷ xs)) (further p (drop (word_len (w ++ rest)) (w ++ rest)))) (upto_take ends_word w (w ++ rest) rest u)
    ∙ ap (λ (xs : List ℕ). met (Name (b ∷ w)) (further p xs)) (upto_drop ends_word w (w ++ rest) rest u)
token_one (Faulty BadInteger) p rest h = hash_read p p.line h.1 (front (Faulty BadInteger) rest) h.2 (integer_none h.0 h.1 rest h.3 h.4)
token_one (Faulty TextAfter) p rest (inl h) = string_after h.0 h.1 p.line rest h.2 h.3 p
token_one (Faulty TextAfter) p rest (inr h) = hash_read p p.line h.1 (front (Faulty TextAfter) rest) h.2 (integer_after h.0 h.1 rest h.3 h.4)
token_one (Faulty _) p rest h = absurd h
token_one Unended p rest h = ap (met_in p) h.0 ∙ ap (met_front p) (string_none rest h.1)
token_one Ended p rest h = ap (met_in p) h.0 ∙ ap (λ (xs : List ℕ). met Ended (place_at p.number xs p.after)) (h.0 ∙ sym h.1)

-- ---- each line has a word

abbrev AToken : List ℕ → Type 0
AToken line = (w : BodyWord) × (rest : List ℕ) × IsToken w line rest

string_token : (bs : List ℕ) → AToken (34 ∷ bs)
string_token bs = at (take (quote_len bs) bs) (drop (quote_len bs) bs) (upto_met is_quote bs) where
  behind_it : (text behind more rest : List ℕ) → 34 ∷ bs ≡ 34 ∷ (text ++ 34 ∷ behind) → NoneIn is_quote text → IsBodyWord more behind rest → AToken (34 ∷ bs)
  behind_it text behind [] rest e n w = (String text, rest, (behind, e, n, w))
  behind_it text behind (x ∷ xs) rest e n w = (Faulty TextAfter, rest, inl (text, x ∷ xs, (behind, e, n, w), λ f. absurd (cc)))

  at : (text s : List ℕ) → IsUpTo is_quote text bs s → AToken (34 ∷ bs)
  at text [] u = (Unended, bs, (refl, carried is_quote bs text (u.joined ∙ append-nil text) u.none))
  at text (c ∷ behind) u =
      behind_it text behind (take (word_len behind) behind) (drop (word_len behind) behind)
      (ap (λ (xs : List ℕ). 34 ∷ xs) (u.joined ∙ ap (λ (n : ℕ). text ++ n ∷ behind) (eqb-true c 34 u.ends))) u.none (upto_met ends_word behind)

hash_token : (bs : List ℕ) → AToken (35 ∷ bs)
hash_token bs = at (take (word_len bs) bs) (drop (word_len bs) bs) (upto_met ends_word bs) where
  with_class : (word rest : List ℕ) → IsBodyWord word bs rest → Classed word → AToken (35 ∷ bs)
  with_class word rest u (inl h) = (Integer h.0, rest, (word, bs, refl, u, h.1))
  with_class word rest u (inr (inl h)) = (Faulty TextAfter, rest, inr (word, bs, refl, u, h))
  with_class word rest u (inr (inr h)) = (Faulty BadInteger, rest, (word, bs, refl, u, h))

  at : (word rest : List ℕ) → IsBodyWord word bs rest → AToken (35 ∷ bs)
  at word rest u = with_class word rest u (class_of_word word)

ink_in_word : (b : ℕ) → ends_gap b ≡ true → (b == 125) ≡ false → ends_word b ≡ false
ink_in_word b h k = at (is_white b) (b == 125) (b == 37) h k where
  at : (w c p : Bool) → not (w || p) ≡ true → c ≡ false → (w || c || p) ≡ false
  at true c p e f = absurd (cc)
  at false true p e f = absurd (cc)
  at false false true e f = absurd (cc)
  at false false false e f = refl

name_token : (b : ℕ) (bs : List ℕ) → ends_word b ≡ false → begins_plainly b ≡ true → AToken (b ∷ bs)
name_token b bs e h =
    let u = upto_met ends_word bs in (
      Name (b ∷ take (word_len bs) bs),
      drop (word_len bs) bs,
      (record { joined = ap (λ (xs : List ℕ). b ∷ xs) u.joined; none = (e, u.none); ends = u.ends }, h),
    )

byte_token : (b : ℕ) (bs : List ℕ) → ends_gap b ≡ true → AToken (b ∷ bs)
byte_token b bs h = at (b == 123) (b == 125) (b == 34) (b == 35) (b == 39) refl refl refl refl refl where
  plain : (o q i s : Bool) → o ≡ false → q ≡ false → i ≡ false → s ≡ false → not (o || q || i || s) ≡ true
  plain true q i s e f g j = absurd (cc)
  plain false true i s e f g j = absurd (cc)
  plain false false true s e f g j = absurd (cc)
  plain false false false true e f g j = absurd (cc)
  plain false false false false e f g j = refl

  at : (o c q i s : Bool) → (b == 123) ≡ o → (b == 125) ≡ c → (b == 34) ≡ q → (b == 35) ≡ i → (b == 39) ≡ s → AToken (b ∷ bs)
  at true c q i s e f g j k = (Open, bs, ap (λ (n : ℕ). n ∷ bs) (eqb-true b 123 e))
  at false true q i s e f g j k = (Close, bs, ap (λ (n : ℕ). n ∷ bs) (eqb-true b 125 f))
  at false false true i s e f g j k = rw (eqb-true b 34 g) (string_token bs)
  at false false false true s e f g j k = rw (eqb-true b 35 j) (hash_token bs)
  at false false false false true e f g j k =
      (Quoted (take (word_len bs) bs), drop (word_len bs) bs, (bs, ap (λ (n : ℕ). n ∷ bs) (eqb-true b 39 k), upto_met ends_word bs))
  at false false false false false e f g j k = name_token b bs (ink_in_word b h f) (plain (b == 123) (b == 34) (b == 35) (b == 39) e g j k)

token_met : (line : List ℕ) → (line ≡ []) ⊎ Begins ends_gap line → AToken line
token_met [] h = (Ended, [], (refl, refl))
token_met (b ∷ bs) (inl e) = absurd (cc)
token_met (b ∷ bs) (inr h) = byte_token b bs h

inked_from : (n : ℕ) (line : List ℕ) (after : List (List ℕ)) (q : Place) → GapFrom n line after q → (q.line ≡ []) ⊎ Begins ends_gap q.line
inked_from n line [] q (inl h) = inr (rw h.5 h.4)
inked_from n line [] q (inr h) = inl (ap (λ (r : Place). r.line) h.1)
inked_from n line (next ∷ after) q (inl h) = inr (rw h.5 h.4)
inked_from n line (next ∷ after) q (inr h) = inked_from (n + 1) next after q h.1

inked : (p : Place) → ((ink p).line ≡ []) ⊎ Begins ends_gap (ink p).line
inked p = inked_from p.number p.line p.after (ink p) (gap_met p)

-- ---- the law

pub token-met : (w : BodyWord) (p q : Place) → NextWord w p q → met_at p ≡ met w q
token-met w p q h = ap (λ (r : Place). met_in r r.line) (gap_one p h.0 h.2) ∙ token_one w h.0 h.1 h.3 ∙ ap (met w) (sym h.4)

pub met-token : (w : BodyWord) (p q : Place) → met_at p ≡ met w q → NextWord w p q
met-token w p q e =
    let i = ink p in
    let t = token_met i.line (inked p) in
    let k : met w q ≡ met t.0 (further i t.1) = sym e ∙ token_one t.0 i t.1 t.2 in
    let same_word : w ≡ t.0 = ap (λ (m : Met). m.word) k in
    (i, t.1, gap_met p, rw same_word t.2, ap (λ (m : Met). m.place) k)

pub tokens : TokensLaw
tokens word from to = (token-met word from to, met-token word from to)

-- ---- bodies

pub parts-spelled : (parts : Parts) (p q : Place) → AreParts parts p q → Spells parts p q
parts-spelled Nothing p q h = token-met Close p q h
parts-spelled (Plain line w more) p q h = (h.0, token-met w p h.0 h.1, h.2, h.3, parts-spelled more h.0 q h.4)
parts-spelled (Group inside more) p q h = (h.0, h.1, token-met Open p h.0 h.2, parts-spelled inside h.0 h.1 h.3, parts-spelled more h.1 q h.4)

pub spelled-parts : (parts : Parts) (p q : Place) → Spells parts p q → AreParts parts p q
spelled-parts Nothing p q h = met-token Close p q h
spelled-parts (Plain line w more) p q h = (h.0, met-token w p h.0 h.1, h.2, h.3, spelled-parts more h.0 q h.4)
spelled-parts (Group inside more) p q h = (h.0, h.1, met-token Open p h.0 h.2, spelled-parts inside h.0 h.1 h.3, spelled-parts more h.1 q h.4)

pub break-spelled : (f : Fragment) (p q : Place) → BreakOff f p q → Breaks f p q
break-spelled (Here c) p q h = (h.0, token-met h.0 p q h.1, h.2)
break-spelled (After line w more) p q h = (h.0, token-met w p h.0 h.1, h.2, h.3, break-spelled more h.0 q h.4)
break-spelled (AfterGroup inside more) p q h = (h.0, h.1, token-met Open p h.0 h.2, parts-spelled inside h.0 h.1 h.3, break-spelled more h.1 q h.4)
break-spelled (Inner inside) p q h = (h.0, token-met Open p h.0 h.1, break-spelled inside h.0 q h.2)

pub spelled-break : (f : Fragment) (p q : Place) → Breaks f p q → BreakOff f p q
spelled-break (Here c) p q h = (h.0, met-token h.0 p q h.1, h.2)
spelled-break (After line w more) p q h = (h.0, met-token w p h.0 h.1, h.2, h.3, spelled-break more h.0 q h.4)
spelled-break (AfterGroup inside more) p q h = (h.0, h.1, met-token Open p h.0 h.2, spelled-parts inside h.0 h.1 h.3, spelled-break more h.1 q h.4)
spelled-break (Inner inside) p q h = (h.0, met-token Open p h.0 h.1, spelled-break inside h.0 q h.2)
