-- The functions that read, and the relations of the grammar.
use Rattle.std.proofs.Common.{not, ◌≡◌, ℕ, zero, suc, ◌<◌, ◌≤◌, Bool, true, false, cond, eqb, ◌||◌, ◌&&◌, List, [], ◌∷◌, ◌++◌, length, take, drop, fold, ◌⊎◌}
use Rattle.std.proofs.Common.{inl, inr, refl, sym, ◌∙◌, ap, subst, arith, append_assoc, Result, Ok, Err, Some, None, Option}
use Rattle.std.proofs.lemmas.Bool.{and_parts, eqb-true, eq-eqb, true≢false}
use Rattle.std.proofs.lemmas.List.{take-append-drop, take_at, drop_at}
use Rattle.btx_text.specs.language.Class.{is_name_byte, begins_name}
use Rattle.btx_text.specs.language.Elements.{depth_after}
use Rattle.btx_bib.specs.declared.grammar.byte_sets.ByteSet.{ByteSet}
use Rattle.btx_bib.specs.declared.grammar.byte_sets.ByteSet.TheVariants.{Gap, NameByte, Digit}
use Rattle.btx_bib.specs.declared.grammar.byte_sets.Enclosure.{Enclosure}
use Rattle.btx_bib.specs.declared.grammar.byte_sets.Enclosure.TheVariants.{Group, Quotes}
use Rattle.btx_bib.specs.declared.grammar.slip.SyntaxError.{SyntaxError}
use Rattle.btx_bib.specs.declared.grammar.slip.SyntaxError.TheVariants.{NoName, NoDelimiter, NoComma, NoEquals, NoClosing, NoValue, Unbalanced, EndOfFile, Repeated}
use Rattle.btx_bib.specs.language.Grammar.ByteSets.{is_in, begins, ends_enclosed, longest_run_len, longest_run, past, enclosed_len}
use Rattle.btx_bib.specs.language.Grammar.Tokens.{Parsed, followed_by, wrong_at, name_here, name_at, sign_in, sign_at}
use Rattle.btx_bib.specs.language.Grammar.Values.{Part, Braced, Quoted, Digits, Named, closed_part, enclosed_in, part_in, part_at, behind_hash, next_part}
use Rattle.btx_bib.specs.language.Grammar.Values.{value_at}
use Rattle.btx_bib.specs.language.Grammar.Fields.{Field, field_at}
use Rattle.btx_bib.specs.laws.Grammar.Spelling.{Grammar, Gives, Both, Then, AllIn, IsRun, White, Spaced, NameHere, SignHere, IsInside, IsWrongPart, PartHere}
use Rattle.btx_bib.specs.laws.Grammar.Spelling.{EndsThere, OthersFollow, ValueOf, ValueSpelling, FieldSpelling, Splits, read_as}
use Rattle.btx_bib.proofs.GrammarLemmas.ValueLemmas.{value_at-step, Within, behind_hash-within, past-le, Leaves, part_at-leaves}
use Rattle.std.specs.Char.{is_ascii_digit}
use Rattle.btx_bib.specs.refinement.Grammar.Values.{joined}

-- a function reads as a grammar says: what it reads is spelled, and what is spelled it reads
pub record Decides {A : Type 0} (read : List ℕ → Parsed A) (R : Grammar A) : Type 0 where
  pub total : (s : List ℕ) → Splits R s (read s)
  pub only : (o : Result A SyntaxError) (front rest : List ℕ) → R o front rest → read (front ++ rest) ≡ read_as o rest

-- ---- one after the other

pub both-second : {A B : Type 0} (R : Grammar A) (next : A → Grammar B) (s : List ℕ) (got : A × List ℕ) (q : Parsed B) → Splits R s (Ok got)
    → Splits (next got.0) got.1 q → Splits (Both R next) s q
both-second {A} {B} R next s got (Ok p) h k =
    (h.0 ++ k.0, append_assoc h.0 k.0 p.1 ∙ ap (λ t. h.0 ++ t) k.1 ∙ h.1, (got.0, h.0, k.0, refl, subst (λ t. R (Ok got.0) h.0 t) (sym k.1) h.2, k.2))
both-second {A} {B} R next s got (Err p) h k =
    (h.0 ++ k.0, append_assoc h.0 k.0 p.1 ∙ ap (λ t. h.0 ++ t) k.1 ∙ h.1, (got.0, h.0, k.0, refl, subst (λ t. R (Ok got.0) h.0 t) (sym k.1) h.2, k.2))

pub both-then : {A B : Type 0} (R : Grammar A) (next : A → Grammar B) (s : List ℕ) (q : Parsed B) → Splits (Both R next) s q → Splits (Then R next) s q
both-then R next s (Ok p) h = (h.0, h.1, inr h.2)
both-then R next s (Err p) h = (h.0, h.1, inr h.2)

then-total : {A B : Type 0} (R : Grammar A) (next : A → Grammar B) (read : A → List ℕ → Parsed B) → ((a : A) (t : List ℕ) → Splits (next a) t (read a t))
    → (s : List ℕ) (r : Parsed A) → Splits R s r → Splits (Then R next) s (followed_by r read)
then-total R next read D s (Ok got) h = both-then R next s (read got.0 got.1) (both-second R next s got (read got.0 got.1) h (D got.0 got.1))
then-total R next read D s (Err wrong) h = (h.0, h.1, inl h.2)

-- what is spelled is read
abbrev pub Only : {A : Type 0} → (List ℕ → Parsed A) → Grammar A → Type 0
Only {A} read R = (o : Result A SyntaxError) (front rest : List ℕ) → R o front rest → read (front ++ rest) ≡ read_as o rest

pub then-only : {A B : Type 0} (R : Grammar A) (next : A → Grammar B) (first : List ℕ → Parsed A) (read : A → List ℕ → Parsed B) → Only first R
    → ((a : A) → Only (read a) (next a)) →
    (o : Result B SyntaxError) (front rest : List ℕ) → Then R next o front rest → followed_by (first (front ++ rest)) read ≡ read_as o rest
then-only R next first read D E (Ok b) front rest (inl h) = absurd h
then-only R next first read D E (Err slip) front rest (inl h) = rw (D (Err slip) front rest h) refl
then-only R next first read D E o front rest (inr h) =
    let is : first (front ++ rest) ≡ Ok (h.0, h.2 ++ rest) = ap (λ t. first (t ++ rest)) h.3 ∙ ap first (append_assoc h.1 h.2 rest)
    ∙ D (Ok h.0) h.1 (h.2 ++ rest) h.4 in
    rw is (E h.0 o h.2 rest h.5)

pub then-decides : {A B : Type 0} (R : Grammar A) (next : A → Grammar B) (first : List ℕ → Parsed A) (read : A → List ℕ → Parsed B) → Decides first R
    → ((a : A) → Decides (read a) (next a)) → Decides (λ s. followed_by (first s) read) (Then R next)
then-decides R next first read D E =
    record { total = λ s. then-total R next read (λ a. (E a).total) s (first s) (D.total s); only = then-only R next first read D.only (λ a. (E a).only) }

pub gives-decides : {A : Type 0} (a : A) → Decides (λ s. Ok (a, s)) (Gives a)
gives-decides {A} a = record { total = λ s. ([], refl, (refl, refl)); only = only } where
  only : (o : Result A SyntaxError) (front rest : List ℕ) → Gives a o front rest → ◌≡◌ {A = Parsed A} (Ok (a, front ++ rest)) (read_as o rest)
  only (Ok b) front rest h = rw (h.0, h.1) refl
  only (Err slip) front rest h = absurd h

-- ---- runs

run-all : (set : ByteSet) (s : List ℕ) → AllIn set (longest_run set s)
unfolding longest_run_len
run-all set [] = tt
run-all set (b ∷ bs) = at (is_in set b) refl (run-all set bs) where
  at : (t : Bool) → is_in set b ≡ t → AllIn set (longest_run set bs) → AllIn set (take (cond t (suc (longest_run_len set bs)) 0) (b ∷ bs))
  at true e h = (e, h)
  at false e h = tt

past-stops : (set : ByteSet) (s : List ℕ) → begins (is_in set) (past set s) ≡ false
unfolding longest_run_len
past-stops set [] = refl
past-stops set (b ∷ bs) = at (is_in set b) refl (past-stops set bs) where
  at : (t : Bool) → is_in set b ≡ t → begins (is_in set) (past set bs) ≡ false → begins (is_in set) (drop (cond t (suc (longest_run_len set bs)) 0) (b ∷ bs))
      ≡ false
  at true e h = h
  at false e h = e

pub is_run : (set : ByteSet) (s : List ℕ) → IsRun set (longest_run set s) (past set s)
is_run set s = record { all = run-all set s; longest = past-stops set s }

run_len-of : (set : ByteSet) (w rest : List ℕ) → IsRun set w rest → longest_run_len set (w ++ rest) ≡ length w
unfolding longest_run_len
run_len-of set [] [] h = refl
run_len-of set [] (b ∷ bs) h = rw h.longest refl
run_len-of set (b ∷ bs) rest h = rw h.all.0 (ap suc (run_len-of set bs rest (record { all = h.all.1; longest = h.longest })))

pub run-of : (set : ByteSet) (w rest : List ℕ) → IsRun set w rest → longest_run set (w ++ rest) ≡ w
run-of set w rest h = take_at w rest (longest_run_len set (w ++ rest)) (sym (run_len-of set w rest h))

pub past-of : (set : ByteSet) (w rest : List ℕ) → IsRun set w rest → past set (w ++ rest) ≡ rest
past-of set w rest h = drop_at w rest (longest_run_len set (w ++ rest)) (sym (run_len-of set w rest h))

white-decides : Decides (λ s. Ok (tt, past Gap s)) White
white-decides = record { total = λ s. (longest_run Gap s, take-append-drop (longest_run_len Gap s) s, is_run Gap s); only = only } where
  only : (o : Result (Unit {0}) SyntaxError) (front rest : List ℕ) → White o front rest
      → ◌≡◌ {A = Parsed (Unit {0})} (Ok (tt, past Gap (front ++ rest))) (read_as o rest)
  only (Ok none) front rest h = rw (past-of Gap front rest h) refl
  only (Err slip) front rest h = absurd h

pub spaced-decides : {A : Type 0} (R : Grammar A) (read : List ℕ → Parsed A) → Decides read R → Decides (λ s. read (past Gap s)) (Spaced R)
spaced-decides R read D = then-decides White (λ none. R) (λ s. Ok (tt, past Gap s)) (λ none. read) white-decides (λ none. D)

-- ---- words and signs

cond-false : {A : Type 0} (t : Bool) (x y : A) → t ≡ false → cond t x y ≡ y
cond-false t x y e = rw e refl

begins-append : (test : ℕ → Bool) (w rest : List ℕ) → begins test w ≡ true → begins test (w ++ rest) ≡ true
begins-append test [] rest h = cc
begins-append test (b ∷ bs) rest h = h

starts : (s : List ℕ) → begins begins_name s ≡ true → begins begins_name (longest_run NameByte s) ≡ true
unfolding longest_run_len
starts [] e = e
starts (b ∷ bs) e = rw (and_parts (is_name_byte b) _ e).0 e

name_here-total : (s : List ℕ) (t : Bool) → begins begins_name s ≡ t
    → Splits NameHere s (cond t (Ok (longest_run NameByte s, past NameByte s)) (wrong_at NoName s))
name_here-total s true e =
    let front = longest_run NameByte s in
    let joined_again : front ++ past NameByte s ≡ s = take-append-drop (longest_run_len NameByte s) s in
    (front, joined_again, record { spelled = refl; begins_well = starts s e; run = is_run NameByte s })
name_here-total s false e = ([], refl, (e, record { nothing = refl; slip_is = refl }))

name_here-only : (o : Result (List ℕ) SyntaxError) (front rest : List ℕ) → NameHere o front rest → name_here (front ++ rest) ≡ read_as o rest
unfolding name_here
name_here-only (Ok name) front rest h =
    rw (h.spelled, begins-append begins_name name rest h.begins_well, run-of NameByte name rest h.run, past-of NameByte name rest h.run) refl
name_here-only (Err slip) front rest h = rw (h.1.nothing, h.0, h.1.slip_is) refl

name_here-decides : Decides name_here NameHere
unfolding name_here
name_here-decides = record { total = λ s. name_here-total s (begins begins_name s) refl; only = name_here-only }

sign_here-total : (sign : ℕ) (wrong : SyntaxError) (s : List ℕ) (t : Bool) → begins (λ b. eqb b sign) s ≡ t
    → Splits (SignHere sign wrong) s (cond t (Ok (tt, drop 1 s)) (wrong_at wrong s))
sign_here-total sign wrong [] true e = cc
sign_here-total sign wrong (b ∷ bs) true e = let is : b ≡ sign = eqb-true b sign e in (sign ∷ [], rw is refl, refl)
sign_here-total sign wrong s false e = ([], refl, (e, record { nothing = refl; slip_is = refl }))

sign_here-only : (sign : ℕ) (wrong : SyntaxError) (o : Result (Unit {0}) SyntaxError) (front rest : List ℕ) → SignHere sign wrong o front rest
    → sign_in sign wrong (front ++ rest) ≡ read_as o rest
unfolding sign_in
sign_here-only sign wrong (Ok none) front rest h = rw (h, eq-eqb sign sign refl) refl
sign_here-only sign wrong (Err slip) front rest h = rw (h.1.nothing, h.0, h.1.slip_is) refl

sign_here-decides : (sign : ℕ) (wrong : SyntaxError) → Decides (sign_in sign wrong) (SignHere sign wrong)
unfolding sign_in
sign_here-decides sign wrong = record { total = λ s. sign_here-total sign wrong s (begins (λ b. eqb b sign) s) refl; only = sign_here-only sign wrong }

-- ---- parts

enclosed-inside : (e : Enclosure) (d : ℕ) (s : List ℕ) → IsInside e d (take (enclosed_len e d s) s)
unfolding enclosed_len
enclosed-inside e d [] = tt
enclosed-inside e d (b ∷ bs) = at (eqb d 0 && ends_enclosed e b) refl (enclosed-inside e (depth_after d b) bs) where
  here : (t : Bool) → eqb d 0 ≡ t → (t && ends_enclosed e b) ≡ false → d ≡ 0 → ends_enclosed e b ≡ false
  here true is h z = h
  here false is h z = absurd (true≢false (sym (eq-eqb d 0 z) ∙ is))

  at : (t : Bool) → (eqb d 0 && ends_enclosed e b) ≡ t → IsInside e (depth_after d b) (take (enclosed_len e (depth_after d b) bs) bs)
      → IsInside e d (take (cond t 0 (suc (enclosed_len e (depth_after d b) bs))) (b ∷ bs))
  at true is h = tt
  at false is h = (here (eqb d 0) refl is, h)

-- what is enclosed ends where the rest begins
abbrev EndsAt : Enclosure → ℕ → List ℕ → List ℕ → Type 0
EndsAt e d text [] = Unit {0}
EndsAt e d text (b ∷ bs) = (fold depth_after d text ≡ 0) × (ends_enclosed e b ≡ true)

enclosed-ends : (e : Enclosure) (d : ℕ) (s : List ℕ) → EndsAt e d (take (enclosed_len e d s) s) (drop (enclosed_len e d s) s)
unfolding enclosed_len
enclosed-ends e d [] = tt
enclosed-ends e d (b ∷ bs) = at (eqb d 0 && ends_enclosed e b) refl (enclosed-ends e (depth_after d b) bs) where
  on : (n : ℕ) (r : List ℕ) → drop n bs ≡ r → EndsAt e (depth_after d b) (take n bs) r → EndsAt e d (b ∷ take n bs) r
  on n [] is h = tt
  on n (c ∷ cs) is h = h

  at : (t : Bool) → (eqb d 0 && ends_enclosed e b) ≡ t → EndsAt e (depth_after d b) (take (enclosed_len e (depth_after d b) bs) bs)
      (drop (enclosed_len e (depth_after d b) bs) bs) →
      EndsAt e d (take (cond t 0 (suc (enclosed_len e (depth_after d b) bs))) (b ∷ bs)) (drop (cond t 0 (suc (enclosed_len e (depth_after d b) bs))) (b ∷ bs))
  at true is h = let parts = and_parts (eqb d 0) (ends_enclosed e b) is in (eqb-true d 0 parts.0, parts.1)
  at false is h = on (enclosed_len e (depth_after d b) bs) _ refl h

ends_later : (e : Enclosure) (d b : ℕ) (bs rest : List ℕ) → EndsAt e d (b ∷ bs) rest → EndsAt e (depth_after d b) bs rest
ends_later e d b bs [] h = tt
ends_later e d b bs (c ∷ cs) h = h

enclosed_len-of : (e : Enclosure) (d : ℕ) (t rest : List ℕ) → IsInside e d t → EndsAt e d t rest → enclosed_len e d (t ++ rest) ≡ length t
unfolding enclosed_len
enclosed_len-of e d [] [] i n = refl
enclosed_len-of e d [] (b ∷ bs) i n = let zero_depth : eqb d 0 ≡ true = eq-eqb d 0 n.0 in rw (zero_depth, n.1) refl
enclosed_len-of e d (b ∷ bs) rest i n = at (eqb d 0) refl (enclosed_len-of e (depth_after d b) bs rest i.1 (ends_later e d b bs rest n)) where
  at : (t : Bool) → eqb d 0 ≡ t → enclosed_len e (depth_after d b) (bs ++ rest) ≡ length bs
      → cond (t && ends_enclosed e b) 0 (suc (enclosed_len e (depth_after d b) (bs ++ rest))) ≡ suc (length bs)
  at true is later = let no : ends_enclosed e b ≡ false = i.0 (eqb-true d 0 is) in rw no (ap suc later)
  at false is later = ap suc later

enclosed_in-of : (e : Enclosure) (t rest : List ℕ) → IsInside e 0 t → EndsAt e 0 t rest → enclosed_in e (t ++ rest) ≡ closed_part e t rest
enclosed_in-of e t rest i n =
    let len = enclosed_len-of e 0 t rest i n in
    rw (take_at t rest (enclosed_len e 0 (t ++ rest)) (sym len), drop_at t rest (enclosed_len e 0 (t ++ rest)) (sym len)) refl

-- the text with the sign after it
with_sign : (text r bs : List ℕ) (b sign : ℕ) → b ≡ sign → text ++ b ∷ r ≡ bs → (text ++ sign ∷ []) ++ r ≡ bs
with_sign text r bs b sign is e = append_assoc text (sign ∷ []) r ∙ ap (λ c. text ++ c ∷ r) (sym is) ∙ e

group-splits : (text rest bs : List ℕ) → text ++ rest ≡ bs → IsInside Group 0 text → EndsAt Group 0 text rest
    → Splits PartHere (123 ∷ bs) (closed_part Group text rest)
group-splits text [] bs e i n = (123 ∷ text, ap (λ t. 123 ∷ t) e, (refl, inr (inl (text, refl, i))))
group-splits text (b ∷ r) bs e i n = (123 ∷ (text ++ 125 ∷ []), ap (λ t. 123 ∷ t) (with_sign text r bs b 125 (eqb-true b 125 n.1) e), (refl, (i, n.0)))

quotes-splits : (text rest bs : List ℕ) → text ++ rest ≡ bs → IsInside Quotes 0 text → EndsAt Quotes 0 text rest
    → Splits PartHere (34 ∷ bs) (closed_part Quotes text rest)
quotes-splits text [] bs e i n = (34 ∷ text, ap (λ t. 34 ∷ t) e, (refl, inr (inr (text, refl, i))))
quotes-splits text (b ∷ r) bs e i n = at (eqb b 34) refl where
  at : (t : Bool) → eqb b 34 ≡ t → Splits PartHere (34 ∷ bs) (cond t (Ok (Quoted text, r)) (Err (Unbalanced, b ∷ r)))
  at true is = (34 ∷ (text ++ 34 ∷ []), ap (λ t. 34 ∷ t) (with_sign text r bs b 34 (eqb-true b 34 is) e), (refl, (i, n.0)))
  at false is =
      let closes : b ≡ 125 = eqb-true b 125 (rw is at n.1) in
      (34 ∷ text, ap (λ t. 34 ∷ t) e, (text, r, refl, ap (λ c. c ∷ r) closes, (i, n.0)))

enclosed-splits : (bs : List ℕ) → Splits PartHere (123 ∷ bs) (enclosed_in Group bs) × Splits PartHere (34 ∷ bs) (enclosed_in Quotes bs)
enclosed-splits bs = (
  group-splits _ _ bs (take-append-drop (enclosed_len Group 0 bs) bs) (enclosed-inside Group 0 bs) (enclosed-ends Group 0 bs),
  quotes-splits _ _ bs (take-append-drop (enclosed_len Quotes 0 bs) bs) (enclosed-inside Quotes 0 bs) (enclosed-ends Quotes 0 bs),
)

starts_digit : (b : ℕ) (bs : List ℕ) → is_ascii_digit b ≡ true → begins is_ascii_digit (longest_run Digit (b ∷ bs)) ≡ true
unfolding longest_run_len
starts_digit b bs e = rw e e

part_here-total : (s : List ℕ) → Splits PartHere s (part_in s)
unfolding part_in
part_here-total [] = ([], refl, (refl, inl refl))
part_here-total (b ∷ bs) = at (eqb b 123) (eqb b 34) (is_ascii_digit b) (begins_name b) refl refl refl refl where
  at : (t u v w : Bool) → eqb b 123 ≡ t → eqb b 34 ≡ u → is_ascii_digit b ≡ v → begins_name b ≡ w →
      Splits PartHere (b ∷ bs) (cond t (enclosed_in Group bs)
      (cond u (enclosed_in Quotes bs) (cond v (Ok (Digits (longest_run Digit (b ∷ bs)), past Digit (b ∷ bs)))
      (cond w (Ok (Named (record { name = longest_run NameByte (b ∷ bs); rest = past NameByte (b ∷ bs) }), past NameByte (b ∷ bs))) (Err (NoValue, b ∷ bs))))))
  at true u v w g q d n = subst (λ c. Splits PartHere (c ∷ bs) (enclosed_in Group bs)) (sym (eqb-true b 123 g)) (enclosed-splits bs).0
  at false true v w g q d n = subst (λ c. Splits PartHere (c ∷ bs) (enclosed_in Quotes bs)) (sym (eqb-true b 34 q)) (enclosed-splits bs).1
  at false false true w g q d n = (
    longest_run Digit (b ∷ bs),
    take-append-drop (longest_run_len Digit (b ∷ bs)) (b ∷ bs),
    record { spelled = refl; begins_well = starts_digit b bs d; run = is_run Digit (b ∷ bs) },
  )
  at false false false true g q d n = (
    longest_run NameByte (b ∷ bs),
    take-append-drop (longest_run_len NameByte (b ∷ bs)) (b ∷ bs),
    (record { spelled = refl; begins_well = starts (b ∷ bs) n; run = is_run NameByte (b ∷ bs) }, refl),
  )
  at false false false false g q d n = ([], refl, (refl, b, bs, refl, rw (n, g, q, d) refl))

not_at : (test : ℕ → Bool) (b sign : ℕ) → test b ≡ true → test sign ≡ false → eqb b sign ≡ false
not_at test b sign h fails = at (eqb b sign) refl where
  at : (t : Bool) → eqb b sign ≡ t → t ≡ false
  at true is = absurd (true≢false (sym h ∙ ap test (eqb-true b sign is) ∙ fails))
  at false is = refl

part_in-digits : (t rest : List ℕ) → begins is_ascii_digit t ≡ true → IsRun Digit t rest → part_in (t ++ rest) ≡ Ok (Digits t, rest)
unfolding part_in
part_in-digits [] rest h r = cc
part_in-digits (b ∷ bs) rest h r =
    rw (not_at is_ascii_digit b 123 h refl, not_at is_ascii_digit b 34 h refl, h, run-of Digit (b ∷ bs) rest r, past-of Digit (b ∷ bs) rest r) refl

not_digit : (b : ℕ) → begins_name b ≡ true → is_ascii_digit b ≡ false
not_digit b h = at (is_ascii_digit b) refl where
  at : (t : Bool) → is_ascii_digit b ≡ t → t ≡ false
  at true is = absurd (true≢false (sym (and_parts (is_name_byte b) _ h).1 ∙ ap not is))
  at false is = refl

part_in-named : (t rest : List ℕ) → begins begins_name t ≡ true → IsRun NameByte t rest
    → part_in (t ++ rest) ≡ Ok (Named (record { name = t; rest = rest }), rest)
unfolding part_in
part_in-named [] rest h r = cc
part_in-named (b ∷ bs) rest h r =
    rw (h, not_at begins_name b 123 h refl, not_at begins_name b 34 h refl, not_digit b h, run-of NameByte (b ∷ bs) rest r, past-of NameByte (b ∷ bs) rest r)
    refl

or_parts : (x y : Bool) → (x || y) ≡ false → (x ≡ false) × (y ≡ false)
or_parts true y h = absurd (true≢false h)
or_parts false y h = (refl, h)

part_in-wrong : (slip : SyntaxError) (front rest : List ℕ) → IsWrongPart slip front rest → part_in (front ++ rest) ≡ Err (slip, rest)
unfolding part_in
part_in-wrong NoValue front rest (nothing, b, bs, is, none) =
    let name = or_parts (eqb b 123 || eqb b 34 || is_ascii_digit b) (begins_name b) none in
    let digit = or_parts (eqb b 123 || eqb b 34) (is_ascii_digit b) name.0 in
    let signs = or_parts (eqb b 123) (eqb b 34) digit.0 in
    rw (nothing, is, name.1, signs.0, signs.1, digit.1) refl
part_in-wrong Unbalanced front rest (text, bs, f, r, i) = rw (f, r, enclosed_in-of Quotes text (125 ∷ bs) i.0 (i.1, refl)) refl
part_in-wrong EndOfFile front rest (none, inl f) = rw (f, none) refl
part_in-wrong EndOfFile front rest (none, inr (inl (text, f, i))) = rw (f, none, enclosed_in-of Group text [] i tt) refl
part_in-wrong EndOfFile front rest (none, inr (inr (text, f, i))) = rw (f, none, enclosed_in-of Quotes text [] i tt) refl
part_in-wrong NoName front rest h = absurd h
part_in-wrong NoDelimiter front rest h = absurd h
part_in-wrong (NoComma d) front rest h = absurd h
part_in-wrong NoEquals front rest h = absurd h
part_in-wrong (NoClosing d) front rest h = absurd h
part_in-wrong Repeated front rest h = absurd h

part_here-only : (o : Result Part SyntaxError) (front rest : List ℕ) → PartHere o front rest → part_in (front ++ rest) ≡ read_as o rest
unfolding part_in
part_here-only (Ok (Braced text)) front rest h = rw (h.0, append_assoc text (125 ∷ []) rest, enclosed_in-of Group text (125 ∷ rest) h.1.0 (h.1.1, refl)) refl
part_here-only (Ok (Quoted text)) front rest h = rw (h.0, append_assoc text (34 ∷ []) rest, enclosed_in-of Quotes text (34 ∷ rest) h.1.0 (h.1.1, refl)) refl
part_here-only (Ok (Digits text)) front rest h = rw h.spelled (part_in-digits text rest h.begins_well h.run)
part_here-only (Ok (Named string)) front rest h =
    rw (h.0.spelled, ← h.1) (part_in-named string.name string.rest h.0.begins_well (subst (λ t. IsRun NameByte string.name t) (sym h.1) h.0.run))
part_here-only (Err slip) front rest h = part_in-wrong slip front rest h

part_here-decides : Decides part_in PartHere
part_here-decides = record { total = part_here-total; only = part_here-only }

-- ---- values

-- the text after the `#` that was read
abbrev hash_of : Parsed (Unit {0}) → Option (List ℕ)
hash_of (Ok got) = Some got.1
hash_of (Err wrong) = None

next_part-sign : (s : List ℕ) → next_part s ≡ hash_of (sign_at 35 NoValue s)
unfolding sign_in
next_part-sign s = here (past Gap s) where
  here : (r : List ℕ) → behind_hash r ≡ hash_of (cond (begins (λ b. eqb b 35) r) (Ok (tt, drop 1 r)) (wrong_at NoValue r))
  here [] = refl
  here (b ∷ bs) = at (eqb b 35) where
    at : (t : Bool) → cond t (Some bs) None ≡ hash_of (cond t (Ok (tt, bs)) (wrong_at NoValue (b ∷ bs)))
    at true = refl
    at false = refl

hash-decides : Decides (sign_at 35 NoValue) (Spaced (SignHere 35 NoValue))
hash-decides = spaced-decides (SignHere 35 NoValue) (sign_in 35 NoValue) (sign_here-decides 35 NoValue)

part-decides : Decides part_at (Spaced PartHere)
part-decides = spaced-decides PartHere part_in part_here-decides

abbrev AfterPart : ℕ → Part → Grammar (List Part)
AfterPart n part o front rest = EndsThere part o front rest ⊎ OthersFollow (ValueOf n) part o front rest

-- a value of `n` parts is a value
value-from : (n : ℕ) (s : List ℕ) (q : Parsed (List Part)) → Splits (ValueOf n) s q → Splits ValueSpelling s q
value-from n s (Ok got) h = (h.0, h.1, (n, h.2))
value-from n s (Err wrong) h = (h.0, h.1, (n, h.2))

behind_hash-none : (r : List ℕ) → behind_hash r ≡ None → begins (λ b. eqb b 35) r ≡ false
behind_hash-none [] e = refl
behind_hash-none (b ∷ bs) e = at (eqb b 35) e where
  at : (t : Bool) → cond t (Some bs) None ≡ None → t ≡ false
  at true e = cc
  at false e = refl

none-behind_hash : (r : List ℕ) → begins (λ b. eqb b 35) r ≡ false → behind_hash r ≡ None
none-behind_hash [] e = refl
none-behind_hash (b ∷ bs) e = rw e refl

ends-splits : (n : ℕ) (part : Part) (rest : List ℕ) → next_part rest ≡ None → Splits (AfterPart n part) rest (Ok (part ∷ [], rest))
ends-splits n part rest e = (
  [],
  refl,
  inl (
    refl,
    refl,
    longest_run Gap rest,
    past Gap rest,
    sym (take-append-drop (longest_run_len Gap rest) rest),
    is_run Gap rest,
    behind_hash-none (past Gap rest) e,
  ),
)

others-splits : (n : ℕ) (part : Part) (t : List ℕ) (q : Parsed (List Part)) → Splits (ValueOf n) t q
    → Splits (Then (ValueOf n) (λ parts. Gives (part ∷ parts))) t (followed_by q (λ parts end. Ok (part ∷ parts, end)))
others-splits n part t q h = then-total (ValueOf n) (λ parts. Gives (part ∷ parts)) (λ parts end. Ok (part ∷ parts, end))
    (λ parts end. (gives-decides (part ∷ parts)).total end) t q h

goes-splits : (n : ℕ) (part : Part) (rest t : List ℕ) (q : Parsed (List Part)) → sign_at 35 NoValue rest ≡ Ok (tt, t) → Splits (ValueOf n) t q
    → Splits (OthersFollow (ValueOf n) part) rest (followed_by q (λ parts end. Ok (part ∷ parts, end)))
goes-splits n part rest t q e h =
    both-second (Spaced (SignHere 35 NoValue)) (λ none. Then (ValueOf n) (λ parts. Gives (part ∷ parts))) rest (tt, t)
    (followed_by q (λ parts end. Ok (part ∷ parts, end)))
    (subst (Splits (Spaced (SignHere 35 NoValue)) rest) e (hash-decides.total rest)) (others-splits n part t q h)

right : (n : ℕ) (part : Part) (s : List ℕ) (q : Parsed (List Part)) → Splits (OthersFollow (ValueOf n) part) s q → Splits (AfterPart n part) s q
right n part s (Ok got) h = (h.0, h.1, inr h.2)
right n part s (Err wrong) h = (h.0, h.1, inr h.2)

sign_from_hash : (r : Parsed (Unit {0})) (t : List ℕ) → hash_of r ≡ Some t → r ≡ Ok (tt, t)
sign_from_hash (Ok got) t e = let is : got.1 ≡ t = cc in rw (← is) refl
sign_from_hash (Err wrong) t e = cc

within_next : (s t : List ℕ) → next_part s ≡ Some t → length t ≤ length s
within_next s t e = subst (Within (length s)) e (behind_hash-within (past Gap s) (length s) (past-le Gap s))

value-total : (m : ℕ) (s : List ℕ) → length s < m → (n : ℕ) × Splits (ValueOf n) s (value_at s)
value-total zero s lt = absurd (omega arith)
value-total (suc m) s lt =
    subst (λ r. (n : ℕ) × Splits (ValueOf n) s r) (sym (value_at-step s))
    (at (part_at s) (part-decides.total s) (part_at-leaves s) (λ t less. value-total m t (omega arith))) where
      after : (got : Part × List ℕ) → Splits (Spaced PartHere) s (Ok got) → suc (length got.1) ≤ length s
          → ((t : List ℕ) → length t < length s → (n : ℕ) × Splits (ValueOf n) t (value_at t)) →
          (o : Option (List ℕ)) → next_part got.1 ≡ o → (n : ℕ) × Splits (ValueOf n) s (joined value_at got.0 got.1 o)
      after got h l others None e = (
        1,
        both-then (Spaced PartHere) (AfterPart 0) s (Ok (got.0 ∷ [], got.1))
            (both-second (Spaced PartHere) (AfterPart 0) s got (Ok (got.0 ∷ [], got.1)) h (ends-splits 0 got.0 got.1 e)),
      )
      after got h l others (Some t) e =
          let le : length t ≤ length got.1 = within_next got.1 t e in
          let later = others t (omega arith) in
          let q = followed_by (value_at t) (λ parts end. Ok (got.0 ∷ parts, end)) in
          let sign = sign_from_hash (sign_at 35 NoValue got.1) t (sym (next_part-sign got.1) ∙ e) in (
            suc later.0,
            both-then (Spaced PartHere) (AfterPart later.0) s q
                (both-second (Spaced PartHere) (AfterPart later.0) s got q h
                (right later.0 got.0 got.1 q (goes-splits later.0 got.0 got.1 t (value_at t) sign later.1))),
          )

      at : (r : Parsed Part) → Splits (Spaced PartHere) s r → Leaves (length s) r
          → ((t : List ℕ) → length t < length s → (n : ℕ) × Splits (ValueOf n) t (value_at t)) →
          (n : ℕ) × Splits (ValueOf n) s (followed_by r (λ part rest. joined value_at part rest (next_part rest)))
      at (Err wrong) h l others = (1, (h.0, h.1, inl h.2))
      at (Ok got) h l others = after got h l others (next_part got.1) refl

after-only : (n : ℕ) (part : Part) → Only value_at (ValueOf n) → Only (λ rest. joined value_at part rest (next_part rest)) (AfterPart n part)
after-only n part others (Ok parts) front rest (inl h) =
    let none : next_part rest ≡ None = ap next_part h.4 ∙ ap behind_hash (past-of Gap h.2 h.3 h.5) ∙ none-behind_hash h.3 h.6 in
    rw (h.0, none, h.1) refl
after-only n part others (Err slip) front rest (inl h) = absurd h
after-only n part others o front rest (inr h) =
    let text : front ++ rest ≡ h.1 ++ (h.2 ++ rest) = ap (λ t. t ++ rest) h.3 ∙ append_assoc h.1 h.2 rest in
    let sign : sign_at 35 NoValue (front ++ rest) ≡ Ok (h.0, h.2 ++ rest) = ap (sign_at 35 NoValue) text ∙ hash-decides.only (Ok h.0) h.1 (h.2 ++ rest) h.4 in
    let next : next_part (front ++ rest) ≡ Some (h.2 ++ rest) = next_part-sign (front ++ rest) ∙ ap hash_of sign in
    rw next (then-only (ValueOf n) (λ parts. Gives (part ∷ parts)) value_at (λ parts end. Ok (part ∷ parts, end)) others
    (λ parts. (gives-decides (part ∷ parts)).only) o h.2 rest h.5)

value_of-only : (n : ℕ) → Only value_at (ValueOf n)
value_of-only zero o front rest h = absurd h
value_of-only (suc n) o front rest h =
    value_at-step (front ++ rest)
    ∙ then-only (Spaced PartHere) (AfterPart n) part_at (λ part rest. joined value_at part rest (next_part rest)) part-decides.only
    (λ part. after-only n part (value_of-only n)) o front rest h

pub value-decides : Decides value_at ValueSpelling
value-decides = record {
  total = λ s. let h = value-total (suc (length s)) s (omega arith) in value-from h.0 s (value_at s) h.1;
  only = λ o front rest h. value_of-only h.0 o front rest h.1;
}

-- ---- fields

pub name-decides : Decides name_at (Spaced NameHere)
name-decides = spaced-decides NameHere name_here name_here-decides

pub sign-decides : (sign : ℕ) (wrong : SyntaxError) → Decides (sign_at sign wrong) (Spaced (SignHere sign wrong))
sign-decides sign wrong = spaced-decides (SignHere sign wrong) (sign_in sign wrong) (sign_here-decides sign wrong)

field-of : List ℕ → List Part → Field
field-of name value = record { name = name; value = value }

pub field-decides : Decides field_at FieldSpelling
unfolding field_at
field-decides =
    then-decides (Spaced NameHere) _ name_at _ name-decides (λ name.
    then-decides (Spaced (SignHere 61 NoEquals)) _ (sign_at 61 NoEquals) _ (sign-decides 61 NoEquals) (λ sign.
    then-decides ValueSpelling _ value_at _ value-decides (λ value. gives-decides (record { name = name; value = value }))))
