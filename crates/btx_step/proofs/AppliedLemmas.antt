-- Either the operands of a function are there and fit, or something is logged.
use Rattle.std.proofs.Common.{◌≡◌, ◌≢◌, ◌≤◌, ◌+◌, ◌⊎◌, inl, inr, ℕ, zero, suc, List, [], ◌∷◌, ◌++◌, length, take, drop, replicate, Option, Some, None, refl}
use Rattle.std.proofs.Common.{sym, ap, subst, ◌∙◌, arith}
use Rattle.std.specs.Prelude.{option_and_then, MatchOption, ⊤}
use Rattle.btx_step.proofs.Common.{BuiltIn, Literal, OperandKind, Note, Job, Store, Answer, with_literals, Operand, Any, Of, Default, Push, Back, Does, applied}
use Rattle.btx_step.proofs.Common.{wrong, or_default, row, runs, runs_missing, built_in_run}
use Rattle.btx_bst.specs.declared.built_in.BuiltIn.TheVariants as built_in
use Rattle.btx_stack.specs.declared.literal.Literal.TheVariants as literal
use Rattle.btx_step.specs.declared.literal.OperandKind.TheVariants as wanted
use Rattle.btx_step.specs.declared.said.Note.TheVariants as note
use Rattle.btx_step.specs.language.Operands.{Value, seen_as, absent, or_else}
use Rattle.btx_step.specs.laws.Applied.{operand_literal, OperandValues, operand_literals, done_on, IsApplied, AreMissing, IsWrong, by_default, IsReported}
use Rattle.btx_step.specs.laws.Applied.{FollowsRule, AppliedOrReported}
use Rattle.btx_step.specs.refinement.Operands.{misfit_notes, complaints}

-- ---- one operand

-- a literal is such an operand, or it isn't
look : (operand : Operand) (x : Literal) → ((value : Value operand) × (x ≡ operand_literal operand value) × (seen_as operand x ≡ Some value))
    ⊎ (seen_as operand x ≡ None)
look Any x = inl (x, refl, refl)
look (Of wanted.Integer) (literal.Integer n) = inl (n, refl, refl)
look (Of wanted.Text) (literal.Text text) = inl (text, refl, refl)
look (Of wanted.Function) (literal.Function f) = inl (f, refl, refl)
look (Of wanted.TextOrMissing) (literal.Text text) = inl (Some text, refl, refl)
look (Of wanted.TextOrMissing) literal.Missing = inl (None, refl, refl)
look (Of kind) x = inr refl

round : (operand : Operand) (value : Value operand) → seen_as operand (operand_literal operand value) ≡ Some value
round Any x = refl
round (Of wanted.Integer) n = refl
round (Of wanted.Text) text = refl
round (Of wanted.Function) f = refl
round (Of wanted.TextOrMissing) None = refl
round (Of wanted.TextOrMissing) (Some text) = refl

none_is_some : {A : Type 0} (a : A) → None ≡ Some a → ⊥
none_is_some a e = subst (λ o. MatchOption o ⊤ (λ x. ⊥)) e tt

misfit : (kind : OperandKind) (x : Literal) → seen_as (Of kind) x ≡ None → (value : Value (Of kind)) → x ≢ operand_literal (Of kind) value
misfit kind x none value e = none_is_some value (sym none ∙ ap (seen_as (Of kind)) e ∙ round (Of kind) value)

-- ---- operands that aren't there

absent_all : (operands : List Operand) → absent operands [] ≡ replicate (length operands) note.EmptyStack
absent_all [] = refl
absent_all (operand ∷ more) = ap (λ notes. note.EmptyStack ∷ notes) (absent_all more)

abbrev Enough : List Operand → List Literal → Type 0
Enough operands xs = (length operands ≤ length xs) × (absent operands xs ≡ [])

abbrev Few : List Operand → List Literal → Type 0
Few operands xs = (missing : ℕ) × (suc missing + length xs ≡ length operands) × (absent operands xs ≡ replicate (suc missing) note.EmptyStack)

enough : (operands : List Operand) (xs : List Literal) → Enough operands xs ⊎ Few operands xs
enough [] xs = inl (omega arith, refl)
enough (operand ∷ more) [] = inr (length more, omega arith, ap (λ notes. note.EmptyStack ∷ notes) (absent_all more))
enough (operand ∷ more) (x ∷ xs) = later (enough more xs)
  where
    later : Enough more xs ⊎ Few more xs → Enough (operand ∷ more) (x ∷ xs) ⊎ Few (operand ∷ more) (x ∷ xs)
    later (inl e) = let h = e.0 in inl (omega (arith, h), e.1)
    later (inr e) = let h = e.1 in inr (e.0, omega (arith, h), e.2)

-- ---- all operands

record Fits (operands : List Operand) (does : Does operands) (xs : List Literal) : Type 0 where
  values : OperandValues operands
  below : List Literal
  taken : xs ≡ operand_literals operands values ++ below
  left : drop (length operands) xs ≡ below
  is : applied operands does xs ≡ Some (done_on operands does values)

record Fails (operands : List Operand) (does : Does operands) (xs : List Literal) : Type 0 where
  why : AreMissing operands xs (complaints operands xs) ⊎ IsWrong operands xs (complaints operands xs)
  is : applied operands does xs ≡ None

-- where the first one fits, what is logged is logged of the others
logged_later : (operand : Operand) (more : List Operand) (x : Literal) (xs : List Literal) (value : Value operand) → seen_as operand x ≡ Some value
    → complaints (operand ∷ more) (x ∷ xs) ≡ complaints more xs
logged_later Any more x xs value e = refl
logged_later (Of kind) more x xs value e = ap (λ o. or_else (absent more xs) (misfit_notes o (note.WrongKind x kind) (wrong more xs))) e

module _ (operand : Operand) (more : List Operand) (does : Does (operand ∷ more)) (x : Literal) (xs : List Literal) (value : Value operand)
    (same : x ≡ operand_literal operand value) (seen : seen_as operand x ≡ Some value) where
  go_on : applied (operand ∷ more) does (x ∷ xs) ≡ applied more (does value) xs
  go_on = ap (option_and_then (λ value. applied more (does value) xs)) seen

  fits_later : Fits more (does value) xs → Fits (operand ∷ more) does (x ∷ xs)
  fits_later h = record {
    values = (value, h.values);
    below = h.below;
    taken = ap (λ y. y ∷ xs) same ∙ ap (λ ys. operand_literal operand value ∷ ys) h.taken;
    left = h.left;
    is = go_on ∙ h.is;
  }

  why_later : AreMissing more xs (complaints more xs) ⊎ IsWrong more xs (complaints more xs)
      → AreMissing (operand ∷ more) (x ∷ xs) (complaints (operand ∷ more) (x ∷ xs)) ⊎ IsWrong (operand ∷ more) (x ∷ xs) (complaints (operand ∷ more) (x ∷ xs))
  why_later (inl h) = let others = h.others in
      inl (record { missing = h.missing; some = h.some; others = omega (arith, others); logged = logged_later operand more x xs value seen ∙ h.logged })
  why_later (inr h) = let there = h.there in inr (record {
    place = suc h.place;
    kind = h.kind;
    x = h.x;
    there = omega (arith, there);
    asked = h.asked;
    found = h.found;
    misfits = h.misfits;
    above = (value, h.above);
    fit = ap (λ y. y ∷ take h.place xs) same ∙ ap (λ ys. operand_literal operand value ∷ ys) h.fit;
    logged = logged_later operand more x xs value seen ∙ h.logged;
  })

  later : Fits more (does value) xs ⊎ Fails more (does value) xs → Fits (operand ∷ more) does (x ∷ xs) ⊎ Fails (operand ∷ more) does (x ∷ xs)
  later (inl h) = inl (fits_later h)
  later (inr h) = inr (record { why = why_later h.why; is = go_on ∙ h.is })

module _ (kind : OperandKind) (more : List Operand) (x : Literal) (xs : List Literal) (none : seen_as (Of kind) x ≡ None) where
  -- it is logged, unless another one isn't there
  logged_here : (notes : List Note) → absent more xs ≡ notes → complaints (Of kind ∷ more) (x ∷ xs) ≡ or_else notes (note.WrongKind x kind ∷ [])
  logged_here notes e = ap (λ o. or_else (absent more xs) (misfit_notes o (note.WrongKind x kind) (wrong more xs))) none
      ∙ ap (λ l. or_else l (note.WrongKind x kind ∷ [])) e

  why_here : Enough more xs ⊎ Few more xs
      → AreMissing (Of kind ∷ more) (x ∷ xs) (complaints (Of kind ∷ more) (x ∷ xs)) ⊎ IsWrong (Of kind ∷ more) (x ∷ xs) (complaints (Of kind ∷ more) (x ∷ xs))
  why_here (inl e) = let there = e.0 in inr (record {
    place = zero;
    kind = kind;
    x = x;
    there = omega (arith, there);
    asked = refl;
    found = refl;
    misfits = misfit kind x none;
    above = tt;
    fit = refl;
    logged = logged_here [] e.1;
  })
  why_here (inr e) = let others = e.1 in inl (record { missing = suc e.0; some = omega arith; others = omega (arith, others); logged = logged_here _ e.2 })

abbrev Verdict : (operands : List Operand) → Does operands → List Literal → Type 0
Verdict operands does xs = Fits operands does xs ⊎ Fails operands does xs

of_kind : (kind : OperandKind) (more : List Operand) (does : Does (Of kind ∷ more)) (x : Literal) (xs : List Literal)
    → ((value : Value (Of kind)) → Verdict more (does value) xs)
    → ((value : Value (Of kind)) × (x ≡ operand_literal (Of kind) value) × (seen_as (Of kind) x ≡ Some value)) ⊎ (seen_as (Of kind) x ≡ None)
    → Verdict (Of kind ∷ more) does (x ∷ xs)
of_kind kind more does x xs others (inl e) = later (Of kind) more does x xs e.0 e.1 e.2 (others e.0)
of_kind kind more does x xs others (inr none) =
    inr (record { why = why_here kind more x xs none (enough more xs); is = ap (option_and_then (λ value. applied more (does value) xs)) none })

verdict : (operands : List Operand) (does : Does operands) (xs : List Literal) → Verdict operands does xs
verdict [] does xs = inl (record { values = tt; below = xs; taken = refl; left = refl; is = refl })
verdict (operand ∷ more) does [] = inr (record {
  why = inl (record {
    missing = suc (length more);
    some = omega arith;
    others = omega arith;
    logged =
        ap (λ notes. note.EmptyStack ∷ notes) (absent_all more);
  });
  is = refl;
})
verdict (Any ∷ more) does (x ∷ xs) = later Any more does x xs x refl refl (verdict more (does x) xs)
verdict (Of kind ∷ more) does (x ∷ xs) = of_kind kind more does x xs (λ value. verdict more (does value) xs) (look (Of kind) x)

-- ---- the law

defaulted : (default : Default) (notes : List Note) (seen below : List Literal) (s : Store) → or_default None default notes seen below s
    ≡ by_default default notes seen below s
defaulted (Push instead) notes seen below s = refl
defaulted Back notes seen below s = refl

by_table : (job : Job) (f : BuiltIn) (s : Store) → built_in_run job f s ≡ runs f ((row f).does job) s → IsApplied job f s ⊎ IsReported job f s
by_table job f s e = decided (verdict (row f).operands ((row f).does job) s.literals)
  where
    answered : Option (Store → Answer) → Answer
    answered o = or_default o (row f).default (complaints (row f).operands s.literals) s.literals (drop (length (row f).operands) s.literals) s

    decided : Fits (row f).operands ((row f).does job) s.literals ⊎ Fails (row f).operands ((row f).does job) s.literals → IsApplied job f s
        ⊎ IsReported job f s
    decided (inl h) = inl (record {
      values = h.values;
      below = h.below;
      taken = h.taken;
      is = e ∙ ap answered h.is ∙ ap (λ below. done_on (row f).operands ((row f).does job) h.values (with_literals below s)) h.left;
    })
    decided (inr h) = inr (record {
      notes = complaints (row f).operands s.literals;
      why = h.why;
      is = e ∙ ap answered h.is ∙ defaulted (row f).default (complaints (row f).operands s.literals) s.literals (drop (length (row f).operands) s.literals) s;
    })

missing_by_table : (job : Job) (s : Store) (current : Option ℕ) → s.current ≡ current → FollowsRule built_in.Missing current → IsApplied job built_in.Missing s
    ⊎ IsReported job built_in.Missing s
unfolding built_in_run
missing_by_table job s None e follows = absurd follows
missing_by_table job s (Some entry) e follows = by_table job built_in.Missing s (ap (λ current. runs_missing current s) e)

pub applied_or_reported : AppliedOrReported
unfolding built_in_run
applied_or_reported job built_in.Missing s follows = missing_by_table job s s.current refl follows
applied_or_reported job f s follows = by_table job f s refl
