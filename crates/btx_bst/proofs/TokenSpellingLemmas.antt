-- What is spelled at a place is what is read there.
use Rattle.std.proofs.Common.{◌≡◌, ℕ, zero, suc, ◌+◌, ◌==◌, Bool, true, false, cond, List, [], ◌∷◌, ◌++◌, length, take, drop, refl, sym, ap, ◌∙◌, append-nil}
use Rattle.std.proofs.Common.{◌⊎◌, inl, inr}
use Rattle.std.specs.Prelude.{not, ◌||◌, ◌&&◌}
use Rattle.std.proofs.Math.Seq.{take-append_seam, drop-append_seam}
use Rattle.std.proofs.lemmas.Bool.{eqb-true, eq-eqb}
use Rattle.std.proofs.lemmas.List.{take-append-drop}
use Rattle.btx_text.specs.language.Class.{is_white, is_name_byte, begins_name}
use Rattle.btx_bst.specs.language.Places.{Place, place_at, further, behind_white, line_or, ink_from, ink}
use Rattle.btx_bst.specs.language.Complaints.{Complaint, NoCommand, NoName, NoQuote}
use Rattle.btx_bst.specs.language.Reads.{Read, Took, Mistake}
use Rattle.btx_bst.specs.language.Fronts.{len_till, quote_len}
use Rattle.btx_bst.specs.language.Lists.{brace_in, front_of, name_in, quoted_text, quoted_in, letters_at}
use Rattle.btx_bst.specs.laws.TokenSpelling.{NoneIn, Begins, EndsBefore, IsUpTo, IsBlank, ends_gap, AllWhite, InkIn, GapFrom, Gap, BehindGap, IsMissing}
use Rattle.btx_bst.specs.laws.TokenSpelling.{StyleSignHere, StyleNameHere, IsNoText, TextHere, LettersHere}
use Rattle.std.specs.Char.{is_ascii_digit}
use Rattle.btx_bst.specs.laws.Fronts.{is_no_letter, ends_name, is_quote}
use Rattle.btx_bst.specs.refinement.Fronts.{letters_len}

-- ---- runs of bytes

pub len_text : (t : ℕ → Bool) (text rest : List ℕ) → NoneIn t text → EndsBefore t rest → len_till t (text ++ rest) ≡ length text
unfolding len_till
len_text t [] [] h k = refl
len_text t [] (b ∷ bs) h k = ap (λ (x : Bool). cond x 0 (suc (len_till t bs))) k
len_text t (b ∷ text) rest h k = ap (λ (x : Bool). cond x 0 (suc (len_till t (text ++ rest)))) h.0 ∙ ap (λ (n : ℕ). suc n) (len_text t text rest h.1 k)

pub upto_len : (t : ℕ → Bool) (text line rest : List ℕ) → IsUpTo t text line rest → len_till t line ≡ length text
upto_len t text line rest h = ap (len_till t) h.joined ∙ len_text t text rest h.none h.ends

pub upto_take : (t : ℕ → Bool) (text line rest : List ℕ) → IsUpTo t text line rest → take (len_till t line) line ≡ text
upto_take t text line rest h =
    ap (λ (n : ℕ). take n line) (upto_len t text line rest h) ∙ ap (take (length text)) h.joined ∙ take-append_seam text rest

pub upto_drop : (t : ℕ → Bool) (text line rest : List ℕ) → IsUpTo t text line rest → drop (len_till t line) line ≡ rest
upto_drop t text line rest h =
    ap (λ (n : ℕ). drop n line) (upto_len t text line rest h) ∙ ap (drop (length text)) h.joined ∙ drop-append_seam text rest

front_back : (t : ℕ → Bool) (line : List ℕ) → NoneIn t (take (len_till t line) line) × EndsBefore t (drop (len_till t line) line)
unfolding len_till
front_back t [] = (tt, tt)
front_back t (b ∷ bs) = at (t b) refl (front_back t bs) where
  at : (x : Bool) → t b ≡ x → NoneIn t (take (len_till t bs) bs) × EndsBefore t (drop (len_till t bs) bs)
      → NoneIn t (take (cond x 0 (suc (len_till t bs))) (b ∷ bs)) × EndsBefore t (drop (cond x 0 (suc (len_till t bs))) (b ∷ bs))
  at true e h = (tt, e)
  at false e h = ((e, h.0), h.1)

pub upto_met : (t : ℕ → Bool) (line : List ℕ) → IsUpTo t (take (len_till t line) line) line (drop (len_till t line) line)
upto_met t line =
    let parts = front_back t line in
    record { joined = sym (take-append-drop (len_till t line) line); none = parts.0; ends = parts.1 }

-- ---- whitespace and comments

white_blank : (line : List ℕ) → IsBlank line → behind_white line ≡ []
unfolding behind_white
white_blank [] h = refl
white_blank (b ∷ bs) (inl e) = ap (λ (n : ℕ). behind_white (n ∷ bs)) e
white_blank (b ∷ bs) (inr h) = ap (λ (x : Bool). cond x (behind_white bs) (cond (b == 37) [] (b ∷ bs))) h.0 ∙ white_blank bs h.1

white_ink : (white rest : List ℕ) → AllWhite white → Begins ends_gap rest → behind_white (white ++ rest) ≡ rest
unfolding behind_white
white_ink [] [] w i = absurd i
white_ink [] (b ∷ bs) w i = at (is_white b) (b == 37) i where
  at : (t u : Bool) → not (t || u) ≡ true → cond t (behind_white bs) (cond u [] (b ∷ bs)) ≡ b ∷ bs
  at true u h = absurd (cc)
  at false true h = absurd (cc)
  at false false h = refl
white_ink (b ∷ white) rest w i = ap (λ (x : Bool). cond x (behind_white (white ++ rest)) (cond (b == 37) [] (b ∷ (white ++ rest)))) w.0
    ∙ white_ink white rest w.1 i

line_or_ink : (n : ℕ) (rest : List ℕ) (after : List (List ℕ)) (later : Place) → Begins ends_gap rest → line_or n rest after later ≡ place_at n rest after
line_or_ink n [] after later i = absurd i
line_or_ink n (b ∷ bs) after later i = refl

ink_line : (n : ℕ) (line : List ℕ) (after : List (List ℕ)) (q : Place) → (h : InkIn n line after q) → behind_white line ≡ h.1
ink_line n line after q h = ap behind_white h.3 ∙ white_ink h.0 h.1 h.2 h.4

gap_one_from : (n : ℕ) (line : List ℕ) (after : List (List ℕ)) (q : Place) → GapFrom n line after q → ink_from n line after ≡ q
unfolding ink_from
gap_one_from n line [] q (inl h) = ap (λ (x : List ℕ). place_at n x []) (ink_line n line [] q h) ∙ sym h.5
gap_one_from n line [] q (inr h) = ap (λ (x : List ℕ). place_at n x []) (white_blank line h.0) ∙ sym h.1
gap_one_from n line (next ∷ after) q (inl h) =
    ap (λ (x : List ℕ). line_or n x (next ∷ after) (ink_from (n + 1) next after)) (ink_line n line (next ∷ after) q h)
    ∙ line_or_ink n h.1 (next ∷ after) (ink_from (n + 1) next after) h.4 ∙ sym h.5
gap_one_from n line (next ∷ after) q (inr h) =
    ap (λ (x : List ℕ). line_or n x (next ∷ after) (ink_from (n + 1) next after)) (white_blank line h.0) ∙ gap_one_from (n + 1) next after q h.1

pub gap_one : (p q : Place) → Gap p q → ink p ≡ q
gap_one p q h = gap_one_from p.number p.line p.after q h

-- a line is blank, or has whitespace and then something else
abbrev Divides : List ℕ → List ℕ → Type 0
Divides line behind = (IsBlank line × (behind ≡ []))
    ⊎ ((white : List ℕ) × (rest : List ℕ) × AllWhite white × (line ≡ white ++ rest) × Begins ends_gap rest × (behind ≡ rest))

divides : (line : List ℕ) → Divides line (behind_white line)
unfolding behind_white
divides [] = inl (tt, refl)
divides (b ∷ bs) = at (is_white b) (b == 37) refl refl (divides bs) where
  at : (t u : Bool) → is_white b ≡ t → (b == 37) ≡ u → Divides bs (behind_white bs) → Divides (b ∷ bs) (cond t (behind_white bs) (cond u [] (b ∷ bs)))
  at true u e f (inl d) = inl (inr (e, d.0), d.1)
  at true u e f (inr d) = inr (b ∷ d.0, d.1, (e, d.2), ap (λ (xs : List ℕ). b ∷ xs) d.3, d.4, d.5)
  at false true e f d = inl (inl (eqb-true b 37 f), refl)
  at false false e f d = inr ([], b ∷ bs, tt, refl, rw (e, f) refl, refl)

gap_met_from : (n : ℕ) (line : List ℕ) (after : List (List ℕ)) → GapFrom n line after (ink_from n line after)
unfolding ink_from
gap_met_from n line [] = at (behind_white line) (divides line) where
  at : (x : List ℕ) → Divides line x → GapFrom n line [] (place_at n x [])
  at x (inl d) = inr (d.0, ap (λ (y : List ℕ). place_at n y []) d.1)
  at x (inr d) = inl (d.0, d.1, d.2, d.3, d.4, ap (λ (y : List ℕ). place_at n y []) d.5)
gap_met_from n line (next ∷ after) = at (behind_white line) (divides line) (gap_met_from (n + 1) next after) where
  at : (x : List ℕ) → Divides line x → GapFrom (n + 1) next after (ink_from (n + 1) next after)
      → GapFrom n line (next ∷ after) (line_or n x (next ∷ after) (ink_from (n + 1) next after))
  at x (inl d) g = inr (d.0, rw d.1 g)
  at x (inr d) g = inl (
    d.0,
    d.1,
    d.2,
    d.3,
    d.4,
    ap (λ (y : List ℕ). line_or n y (next ∷ after) (ink_from (n + 1) next after)) d.5
        ∙ line_or_ink n d.1 (next ∷ after) (ink_from (n + 1) next after) d.4,
  )

pub gap_met : (p : Place) → Gap p (ink p)
gap_met p = gap_met_from p.number p.line p.after

-- ---- arguments

-- a relation has what is read, and nothing else
pub record Agrees {A : Type 0} (R : Place → Read A → Type 0) (r : Place → Read A) : Type 0 where
  pub met : (p : Place) → R p (r p)
  pub one : (p : Place) (x : Read A) → R p x → r p ≡ x

pub spaced : {A : Type 0} (R : Place → Read A → Type 0) (r : Place → Read A) → Agrees R r → Agrees (BehindGap R) (λ p. r (ink p))
spaced R r h = record { met = λ p. (ink p, gap_met p, h.met (ink p)); one = λ p x k. ap r (gap_one p k.0 k.1) ∙ h.one k.0 x k.2 }

sign_met : (b : ℕ) (c : Complaint) (p : Place) (line : List ℕ) → p.line ≡ line → StyleSignHere b c p (brace_in b c p line)
sign_met b c p [] e = (refl, rw e refl)
sign_met b c p (x ∷ xs) e = at (x == b) refl where
  at : (t : Bool) → (x == b) ≡ t → StyleSignHere b c p (cond t (Took tt (further p xs)) (Mistake c p))
  at true f = (xs, e ∙ ap (λ (n : ℕ). n ∷ xs) (eqb-true x b f), refl)
  at false f = (refl, rw e (f, refl))

sign_slip : (b : ℕ) (c k : Complaint) (p q : Place) (line : List ℕ) → q ≡ p → IsMissing (λ x. x == b) c k line → brace_in b c p line ≡ Mistake k q
sign_slip b c k p q [] e m = ap (λ (x : Complaint). Mistake x p) (sym m) ∙ ap (Mistake k) (sym e)
sign_slip b c k p q (x ∷ xs) e m =
    ap (λ (t : Bool). cond {A = Read (Unit {0})} t (Took tt (further p xs)) (Mistake c p)) m.0 ∙ ap (λ (x : Complaint). Mistake x p) (sym m.1) ∙ ap (Mistake k) (sym e)

sign_one : (b : ℕ) (c : Complaint) (p : Place) (x : Read (Unit {0})) → StyleSignHere b c p x → brace_in b c p p.line ≡ x
sign_one b c p (Took none q) h =
    ap (brace_in b c p) h.1 ∙ ap (λ (t : Bool). cond {A = Read (Unit {0})} t (Took tt (further p h.0)) (Mistake c p)) (eq-eqb b b refl) ∙ ap (Took tt) (sym h.2)
sign_one b c p (Mistake k q) h = sign_slip b c k p q p.line h.0 h.1

pub sign_agrees : (b : ℕ) (c : Complaint) → Agrees (StyleSignHere b c) (λ p. brace_in b c p p.line)
sign_agrees b c = record { met = λ p. sign_met b c p p.line refl; one = sign_one b c }

name_met : (p : Place) (line : List ℕ) → p.line ≡ line → StyleNameHere p (name_in p line)
unfolding len_till
name_met p [] e = (refl, rw e refl)
name_met p (b ∷ bs) e = at (is_ascii_digit b) (is_name_byte b) refl refl where
  at : (d n : Bool) → is_ascii_digit b ≡ d → is_name_byte b ≡ n
      → StyleNameHere p (front_of NoName p (b ∷ bs) (cond d 0 (cond (not n) 0 (suc (len_till ends_name bs)))))
  at true true f g = (refl, rw e (rw (f, g) refl, refl))
  at true false f g = (refl, rw e (rw (f, g) refl, refl))
  at false false f g = (refl, rw e (rw (f, g) refl, refl))
  at false true f g =
      let k = len_till ends_name bs in (
        drop k bs,
        record {
          joined = e ∙ ap (λ (xs : List ℕ). b ∷ xs) (sym (take-append-drop k bs));
          none = (rw g refl, (front_back ends_name bs).0);
          ends = (front_back ends_name bs).1;
        },
        rw (f, g) refl,
        refl,
      )

name_no_digit : (d n : Bool) → (n && not d) ≡ true → d ≡ false
name_no_digit true true h = absurd (cc)
name_no_digit true false h = absurd (cc)
name_no_digit false n h = refl

name_front : (p : Place) (b : ℕ) (w rest : List ℕ) → NoneIn ends_name (b ∷ w) → EndsBefore ends_name rest → begins_name b ≡ true → name_in p (b ∷ (w ++ rest))
    ≡ Took (b ∷ w) (further p rest)
name_front p b w rest none ends begins =
    let line = b ∷ (w ++ rest) in
    ap (λ (t : Bool). front_of NoName p line (cond t 0 (len_till ends_name line))) (name_no_digit (is_ascii_digit b) (is_name_byte b) begins)
    ∙ ap (front_of NoName p line) (len_text ends_name (b ∷ w) rest none ends)
    ∙ ap (λ (xs : List ℕ). Took (b ∷ xs) (further p (drop (length w) (w ++ rest)))) (take-append_seam w rest)
    ∙ ap (λ (xs : List ℕ). Took (b ∷ w) (further p xs)) (drop-append_seam w rest)

pub name_slip : (k : Complaint) (p q : Place) (line : List ℕ) → q ≡ p → IsMissing begins_name NoName k line → name_in p line ≡ Mistake k q
unfolding len_till
name_slip k p q [] e m = ap (λ (x : Complaint). Mistake x p) (sym m) ∙ ap (Mistake k) (sym e)
name_slip k p q (b ∷ bs) e m =
    at (is_ascii_digit b) (is_name_byte b) m.0 ∙ ap (λ (x : Complaint). Mistake x p) (sym m.1) ∙ ap (Mistake k) (sym e) where
      at : (d n : Bool) → (n && not d) ≡ false → front_of NoName p (b ∷ bs) (cond d 0 (cond (not n) 0 (suc (len_till ends_name bs)))) ≡ Mistake NoName p
      at true n h = refl
      at false false h = refl
      at false true h = absurd (cc)

name_one : (p : Place) (x : Read (List ℕ)) → StyleNameHere p x → name_in p p.line ≡ x
name_one p (Took [] q) h = absurd h.2
name_one p (Took (b ∷ w) q) h = ap (name_in p) h.1.joined ∙ name_front p b w h.0 h.1.none h.1.ends h.2 ∙ ap (Took (b ∷ w)) (sym h.3)
name_one p (Mistake k q) h = name_slip k p q p.line h.0 h.1

pub name_agrees : Agrees StyleNameHere (λ p. name_in p p.line)
name_agrees = record { met = λ p. name_met p p.line refl; one = name_one }

text_met : (p : Place) (line : List ℕ) → p.line ≡ line → TextHere p (quoted_in p line)
text_met p [] e = (refl, rw e refl)
text_met p (b ∷ bs) e = at (b == 34) refl where
  ended : (t s : List ℕ) → p.line ≡ 34 ∷ bs → IsUpTo is_quote t bs s → TextHere p (quoted_text p t s)
  ended t [] f u = (refl, rw f (refl, inr (rw (u.joined ∙ append-nil t) u.none)))
  ended t (c ∷ rest) f u = (rest, f ∙ ap (λ (xs : List ℕ). 34 ∷ xs) (u.joined ∙ ap (λ (n : ℕ). t ++ n ∷ rest) (eqb-true c 34 u.ends)), u.none, refl)

  at : (t : Bool) → (b == 34) ≡ t → TextHere p (cond t (quoted_text p (take (quote_len bs) bs) (drop (quote_len bs) bs)) (Mistake NoQuote p))
  at true f = ended (take (quote_len bs) bs) (drop (quote_len bs) bs) (e ∙ ap (λ (n : ℕ). n ∷ bs) (eqb-true b 34 f)) (upto_met is_quote bs)
  at false f = (refl, rw e (refl, inl f))

no_quote : (p : Place) (bs : List ℕ) → NoneIn is_quote bs → quoted_text p (take (quote_len bs) bs) (drop (quote_len bs) bs) ≡ Mistake NoQuote p
no_quote p bs none =
    let u : IsUpTo is_quote bs bs [] = record { joined = sym (append-nil bs); none = none; ends = tt } in
    ap (quoted_text p (take (quote_len bs) bs)) (upto_drop is_quote bs bs [] u)

text_slip : (k : Complaint) (p q : Place) (line : List ℕ) → q ≡ p → IsNoText k line → quoted_in p line ≡ Mistake k q
text_slip k p q [] e m = ap (λ (x : Complaint). Mistake x p) (sym m) ∙ ap (Mistake k) (sym e)
text_slip k p q (b ∷ bs) e m = at (b == 34) refl m.1 ∙ ap (λ (x : Complaint). Mistake x p) (sym m.0) ∙ ap (Mistake k) (sym e) where
  at : (t : Bool) → (b == 34) ≡ t → ((b == 34) ≡ false) ⊎ NoneIn is_quote bs → cond t (quoted_text p (take (quote_len bs) bs) (drop (quote_len bs) bs))
      (Mistake NoQuote p) ≡ Mistake NoQuote p
  at false f h = refl
  at true f (inl g) = absurd (cc)
  at true f (inr none) = no_quote p bs none

text_front : (p : Place) (text rest : List ℕ) → NoneIn is_quote text → quoted_in p (34 ∷ (text ++ 34 ∷ rest)) ≡ Took text (further p rest)
text_front p text rest none =
    let bs = text ++ 34 ∷ rest in
    let u : IsUpTo is_quote text bs (34 ∷ rest) = record { joined = refl; none = none; ends = refl } in
    ap (λ (xs : List ℕ). quoted_text p xs (drop (quote_len bs) bs)) (upto_take is_quote text bs (34 ∷ rest) u)
    ∙ ap (quoted_text p text) (upto_drop is_quote text bs (34 ∷ rest) u)

text_one : (p : Place) (x : Read (List ℕ)) → TextHere p x → quoted_in p p.line ≡ x
text_one p (Took text q) h = ap (quoted_in p) h.1 ∙ text_front p text h.0 h.2 ∙ ap (Took text) (sym h.3)
text_one p (Mistake k q) h = text_slip k p q p.line h.0 h.1

pub text_agrees : Agrees TextHere (λ p. quoted_in p p.line)
text_agrees = record { met = λ p. text_met p p.line refl; one = text_one }

front_some : (t : ℕ → Bool) (line : List ℕ) (n : ℕ) → len_till t line ≡ suc n → take (suc n) line ≡ [] → ⊥
unfolding len_till
front_some t [] n e f = absurd (cc)
front_some t (b ∷ bs) n e f = absurd (cc)

letters_met : (p : Place) (n : ℕ) → letters_len p.line ≡ n → LettersHere p (front_of NoCommand p p.line n)
letters_met p zero e = (refl, refl, rw e at ((front_back is_no_letter p.line).1))
letters_met p (suc n) e = (
  drop (suc n) p.line,
  let u : IsUpTo is_no_letter (take (suc n) p.line) p.line (drop (suc n) p.line) = rw e at (upto_met is_no_letter p.line) in u,
  front_some is_no_letter p.line n e,
  refl,
)

letters_none : (line : List ℕ) → EndsBefore is_no_letter line → letters_len line ≡ 0
unfolding len_till
letters_none [] h = refl
letters_none (b ∷ bs) h = ap (λ (t : Bool). cond t 0 (suc (len_till is_no_letter bs))) h

letters_one : (p : Place) (x : Read (List ℕ)) → LettersHere p x → letters_at p ≡ x
letters_one p (Took [] q) h = absurd (h.2 refl)
letters_one p (Took (b ∷ w) q) h =
    let line = b ∷ (w ++ h.0) in
    ap (λ (xs : List ℕ). front_of NoCommand p xs (letters_len xs)) h.1.joined
    ∙ ap (front_of NoCommand p line) (len_text is_no_letter (b ∷ w) h.0 h.1.none h.1.ends)
    ∙ ap (λ (xs : List ℕ). Took (b ∷ xs) (further p (drop (length w) (w ++ h.0)))) (take-append_seam w h.0)
    ∙ ap (λ (xs : List ℕ). Took (b ∷ w) (further p xs)) (drop-append_seam w h.0) ∙ ap (Took (b ∷ w)) (sym h.3)
letters_one p (Mistake k q) h = ap (front_of NoCommand p p.line) (letters_none p.line h.2) ∙ ap (λ (x : Complaint). Mistake x p) (sym h.1) ∙ ap (Mistake k) (sym h.0)

pub letters_agrees : Agrees LettersHere letters_at
letters_agrees = record { met = λ p. letters_met p (letters_len p.line) refl; one = letters_one }
