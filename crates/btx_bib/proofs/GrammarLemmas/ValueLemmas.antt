-- Lemmas on values.
use Rattle.std.proofs.Common.{◌≡◌, ℕ, zero, suc, ◌<◌, ◌≤◌, Bool, true, false, cond, eqb, List, [], ◌∷◌, length, drop, refl, sym, ap, arith, length-drop, Ok}
use Rattle.std.proofs.Common.{Err, Some, None, IfOk, IfSome, Result, Option, subst}
use Rattle.std.specs.Option.{option_map}
use Rattle.btx_bib.specs.declared.grammar.parts.Part.{Part as CodePart}
use Rattle.btx_bib.specs.refinement.Grammar.PartViews.{part_view}
use Rattle.std.specs.Borrow.{Bor}
use Rattle.std.proofs.lemmas.Bool.{and_parts}
use Rattle.btx_text.specs.language.Class.{is_name_byte, begins_name}
use Rattle.btx_bib.specs.declared.grammar.byte_sets.ByteSet.{ByteSet}
use Rattle.btx_bib.specs.declared.grammar.byte_sets.ByteSet.TheVariants.{Gap, NameByte, Digit}
use Rattle.btx_bib.specs.declared.grammar.byte_sets.Enclosure.{Enclosure}
use Rattle.btx_bib.specs.declared.grammar.byte_sets.Enclosure.TheVariants.{Group, Quotes}
use Rattle.btx_bib.specs.language.Grammar.ByteSets.{is_in, longest_run_len, longest_run, past, enclosed_len}
use Rattle.btx_bib.specs.declared.grammar.slip.SyntaxError.{SyntaxError}
use Rattle.btx_bib.specs.declared.grammar.slip.SyntaxError.TheVariants.{NoValue, Unbalanced}
use Rattle.btx_bib.specs.language.Grammar.Tokens.{Parsed, followed_by}
use Rattle.btx_bib.specs.refinement.Grammar.Tokens.{seen}
use Rattle.btx_bib.specs.language.Grammar.Values.{Part, Quoted, Digits, Named, closed_part, enclosed_in, part_in, part_at, behind_hash, next_part, value_within}
use Rattle.btx_bib.specs.language.Grammar.Values.{value_at}
use Rattle.btx_bib.specs.refinement.Grammar.Values.{parts_read, value_end, joined}
use Rattle.std.specs.Char.{is_ascii_digit}

-- what was read leaves less
abbrev pub Leaves : {A : Type 0} → ℕ → Parsed A → Type 0
Leaves n (Ok got) = suc (length got.1) ≤ n
Leaves n (Err wrong) = Unit {0}

pub past-le : (set : ByteSet) (s : List ℕ) → length (past set s) ≤ length s
past-le set s = omega (arith, length-drop (longest_run_len set s) s)

past-less : (set : ByteSet) (b : ℕ) (bs : List ℕ) → is_in set b ≡ true → suc (length (past set (b ∷ bs))) ≤ length (b ∷ bs)
unfolding longest_run_len
past-less set b bs is = rw is (omega (arith, length-drop (longest_run_len set bs) bs))

closed-leaves : (enclosure : Enclosure) (text rest : List ℕ) (n : ℕ) → length rest ≤ n → Leaves n (closed_part enclosure text rest)
closed-leaves enclosure text [] n h = tt
closed-leaves Group text (b ∷ bs) n h = h
closed-leaves Quotes text (b ∷ bs) n h = at (eqb b 34) where
  at : (t : Bool) → Leaves n (cond t (Ok (Quoted text, bs)) (Err (Unbalanced, b ∷ bs)))
  at true = h
  at false = tt

more : {A : Type 0} (r : Parsed A) (n : ℕ) → Leaves n r → Leaves (suc n) r
more (Ok got) n h = omega arith
more (Err wrong) n h = tt

enclosed-leaves : (enclosure : Enclosure) (rest : List ℕ) → Leaves (length rest) (enclosed_in enclosure rest)
enclosed-leaves enclosure rest = closed-leaves enclosure _ (drop (enclosed_len enclosure 0 rest) rest) (length rest)
    (omega (arith, length-drop (enclosed_len enclosure 0 rest) rest))

begins_name-byte : (b : ℕ) → begins_name b ≡ true → is_name_byte b ≡ true
begins_name-byte b h = (and_parts _ _ h).0

part_in-leaves : (rest : List ℕ) → Leaves (length rest) (part_in rest)
unfolding part_in
part_in-leaves [] = tt
part_in-leaves (b ∷ bs) = at (eqb b 123) (eqb b 34) (is_ascii_digit b) (begins_name b) refl refl where
  at : (t u v w : Bool) → is_ascii_digit b ≡ v → begins_name b ≡ w → Leaves (suc (length bs))
      (cond t (enclosed_in Group bs) (cond u (enclosed_in Quotes bs) (cond v (Ok (Digits (longest_run Digit (b ∷ bs)), past Digit (b ∷ bs)))
      (cond w (Ok (Named (record { name = longest_run NameByte (b ∷ bs); rest = past NameByte (b ∷ bs) }), past NameByte (b ∷ bs))) (Err (NoValue, b ∷ bs))))))
  at true u v w d n = more (enclosed_in Group bs) (length bs) (enclosed-leaves Group bs)
  at false true v w d n = more (enclosed_in Quotes bs) (length bs) (enclosed-leaves Quotes bs)
  at false false true w d n = past-less Digit b bs d
  at false false false true d n = past-less NameByte b bs (begins_name-byte b n)
  at false false false false d n = tt

-- a part leaves less than there was before the whitespace in front of it
less : {A : Type 0} (r : Parsed A) (n m : ℕ) → n ≤ m → Leaves n r → Leaves m r
less (Ok got) n m le h = omega arith
less (Err wrong) n m le h = tt

pub part_at-leaves : (text : List ℕ) → Leaves (length text) (part_at text)
part_at-leaves text = less (part_at text) (length (past Gap text)) (length text) (past-le Gap text) (part_in-leaves (past Gap text))

pub part-shorter : (r : Result (CodePart × Bor (List ℕ)) (SyntaxError × Bor (List ℕ))) (text : List ℕ) → seen part_view r ≡ part_at text
    → IfOk r (λ got. length got.1.now < length text)
part-shorter (Ok got) text e = subst (Leaves (length text)) (sym e) (part_at-leaves text)
part-shorter (Err wrong) text e = tt

abbrev pub Within : ℕ → Option (List ℕ) → Type 0
Within n None = Unit {0}
Within n (Some rest) = length rest ≤ n

pub behind_hash-within : (s : List ℕ) (n : ℕ) → length s ≤ n → Within n (behind_hash s)
behind_hash-within [] n h = tt
behind_hash-within (b ∷ bs) n h = at (eqb b 35) where
  at : (t : Bool) → Within n (cond t (Some bs) None)
  at true = omega arith
  at false = tt

pub next_part-shorter : (r : Option (Bor (List ℕ))) (text : List ℕ) → option_map (λ (rest : Bor (List ℕ)). rest.now) r ≡ next_part text
    → IfSome r (λ rest. length rest.now ≤ length text)
next_part-shorter None text e = tt
next_part-shorter (Some rest) text e = subst (Within (length text)) (sym e) (behind_hash-within (past Gap text) (length text) (past-le Gap text))

pub ruleset part_steps = (part-shorter, next_part-shorter)

-- ---- a value, one part at a time

step-enough : (f g : List ℕ → Parsed (List Part)) (n : ℕ) (r : Parsed Part) → Leaves n r → ((t : List ℕ) → length t < n → f t ≡ g t) →
    followed_by r (λ part rest. joined f part rest (next_part rest)) ≡ followed_by r (λ part rest. joined g part rest (next_part rest))
step-enough f g n (Err wrong) h same = refl
step-enough f g n (Ok got) h same = at (next_part got.1) (behind_hash-within (past Gap got.1) (length got.1) (past-le Gap got.1)) where
  at : (o : Option (List ℕ)) → Within (length got.1) o → joined f got.0 got.1 o ≡ joined g got.0 got.1 o
  at None le = refl
  at (Some t) le = rw (same t (omega arith)) refl

value_within-enough : (n m : ℕ) (text : List ℕ) → length text < n → length text < m → value_within n text ≡ value_within m text
unfolding value_within
value_within-enough zero m text h k = absurd (omega arith)
value_within-enough (suc n) zero text h k = absurd (omega arith)
value_within-enough (suc n) (suc m) text h k =
    step-enough (value_within n) (value_within m) (length text) (part_at text) (part_at-leaves text)
    (λ t lt. value_within-enough n m t (omega arith) (omega arith))

pub value_at-step : (text : List ℕ) → value_at text ≡ followed_by (part_at text) (λ part rest. joined value_at part rest (next_part rest))
unfolding value_at value_within
value_at-step text =
    step-enough (value_within (length text)) value_at (length text) (part_at text) (part_at-leaves text)
    (λ t lt. value_within-enough (length text) (suc (length t)) t lt (omega arith))

pub value-wrong : (text : List ℕ) (wrong : SyntaxError × List ℕ) → part_at text ≡ Err wrong → value_end (value_at text) ≡ Err wrong
value-wrong text wrong e = rw (value_at-step text, e) refl

pub value-ends : (text rest : List ℕ) (part : Part) → part_at text ≡ Ok (part, rest) → next_part rest ≡ None → value_end (value_at text) ≡ Ok (tt, rest)
value-ends text rest part e n = rw (value_at-step text, e, n) refl

end-joined : (part : Part) (rest : List ℕ) (r : Parsed (List Part)) → value_end (followed_by r (λ parts end. Ok (part ∷ parts, end))) ≡ value_end r
end-joined part rest (Ok got) = refl
end-joined part rest (Err wrong) = refl

pub value-goes : (text rest next : List ℕ) (part : Part) → part_at text ≡ Ok (part, rest) → next_part rest ≡ Some next → value_end (value_at text)
    ≡ value_end (value_at next)
value-goes text rest next part e n = rw (value_at-step text, e, n) (end-joined part rest (value_at next))

abbrev rest_of : Parsed (Unit {0}) → List ℕ
rest_of (Ok got) = got.1
rest_of (Err wrong) = wrong.1

pub whole_from : (r : Parsed (List Part)) (rest : List ℕ) → value_end r ≡ Ok (tt, rest) → r ≡ Ok (parts_read r, rest)
whole_from (Ok got) rest e = let is : got.1 ≡ rest = at got.1 e in rw (← is) refl where
  at : (xs : List ℕ) → ◌≡◌ {A = Parsed (Unit {0})} (Ok (tt, xs)) (Ok (tt, rest)) → xs ≡ rest
  at xs e = ap (λ (r : Parsed (Unit {0})). rest_of r) e
whole_from (Err wrong) rest e = cc

pub wrong_from : (r : Parsed (List Part)) (wrong : SyntaxError × List ℕ) → value_end r ≡ Err wrong → r ≡ Err wrong
wrong_from (Ok got) wrong e = cc
wrong_from (Err w) wrong e = cc

-- ---- as the code reads it

pub ruleset value_steps = (value-ends, value-goes, whole_from, wrong_from)

-- a value of one part, and one of several
pub value-one : (text rest : List ℕ) (part : Part) → part_at text ≡ Ok (part, rest) → next_part rest ≡ None → value_at text ≡ Ok (part ∷ [], rest)
value-one text rest part e n = rw (value_at-step text, e, n) refl

pub value-more : (text rest next end : List ℕ) (part : Part) → part_at text ≡ Ok (part, rest) → next_part rest ≡ Some next → value_end (value_at next)
    ≡ Ok (tt, end) →
    value_at text ≡ Ok (part ∷ parts_read (value_at next), end)
value-more text rest next end part e n w = rw (value_at-step text, e, n, whole_from (value_at next) end w) refl

pub value-more-wrong : (text rest next : List ℕ) (part : Part) (wrong : SyntaxError × List ℕ) → part_at text ≡ Ok (part, rest) → next_part rest ≡ Some next
    → value_end (value_at next) ≡ Err wrong →
    value_at text ≡ Err wrong
value-more-wrong text rest next part wrong e n w = rw (value_at-step text, e, n, wrong_from (value_at next) wrong w) refl

pub value-none : (text : List ℕ) (wrong : SyntaxError × List ℕ) → part_at text ≡ Err wrong → value_at text ≡ Err wrong
value-none text wrong e = rw (value_at-step text, e) refl

pub ruleset value_parts = (value-one, value-more, value-more-wrong, value-none)

pub ruleset parts_steps = (value_at-step)
