-- A test that tells whether a loop may go on changes no variable, and is true only where something is left.
use Rattle.std.proofs.Common.{◌≡◌, ℕ, zero, suc, ◌≤◌, ◌<◌, ℤ, Bool, true, false, not, cond, List, [], ◌∷◌, length, arith, sym, ap, ◌∙◌, inl, inr}
use Rattle.std.specs.List.{list_all}
use Rattle.btx_text.specs.language.Class.{is_white}
use Rattle.btx_bst.specs.declared.callee.Callee.TheVariants as callee
use Rattle.btx_bst.specs.declared.token.Token.TheVariants.{Run}
use Rattle.btx_stack.specs.declared.literal.Literal.{Literal}
use Rattle.btx_stack.specs.declared.literal.Literal.TheVariants as literal
use Rattle.btx_step.specs.language.Answers.{truth}
use Rattle.btx_step.specs.language.Control.{is_positive, tested}
use Rattle.btx_step.specs.language.Jobs.{Job}
use Rattle.btx_machine.specs.language.States.{State}
use Rattle.btx_machine.specs.language.Steps.{turn_of}
use Rattle.btx_machine.specs.language.MeaningBySteps.{act}
use Rattle.btx_ends.specs.Counters.{value_in}
use Rattle.btx_ends.specs.Keeping.{IfDone}
use Rattle.btx_ends.specs.Shortening.{text_in, flag_in, left_of, begins, word_of, body_of, Tells}
use Rattle.btx_ends.proofs.CounterLemmas.{SameVariables, turn_again}
use Rattle.btx_ends.proofs.DoneLemmas.{if_weaker, LeavesIn, Both, Until, filled_to, begins_to, until_to, first_to, flag_to}

-- the variables are those of `s`, and the loop goes on only where something was left
abbrev pub Told : Job → ℕ → ℕ → State → State → Type 0
Told job t flag s u = SameVariables s.store u × ((turn_of job u).again ≡ true → 0 < left_of (flag_in flag s) (text_in t s))

not_white : (x : List ℕ) → not (list_all is_white x) ≡ true → 0 < length x
not_white [] e = absurd (cc)
not_white (b ∷ x) e = omega arith

some_begun : (x w : List ℕ) → 0 < length w → begins w x ≡ true → 0 < length x
some_begun (b ∷ x) w l e = omega arith
some_begun [] [] l e = absurd (omega (arith, l))
some_begun [] (c ∷ w) l e = absurd (cc)

some_first : (x w : List ℕ) → length w ≡ 0 → not (begins w x) ≡ true → 0 < length x
some_first (b ∷ x) w l e = omega arith
some_first [] [] l e = absurd (cc)
some_first [] (c ∷ w) l e = absurd (omega (arith, l))

pub again_of : (job : Job) (n : ℤ) (ys : List Literal) (u : State) → u.store.literals ≡ literal.Integer n ∷ ys → (turn_of job u).again ≡ is_positive n
unfolding turn_of
again_of job n ys u e = ap (λ (zs : List Literal). (tested zs u.store).again) e

left_all : (g : ℤ) (x : List ℕ) → not (is_positive g) ≡ true → 0 < length x → 0 < left_of g x
left_all g x e l = by (is_positive g) e
  where
    by : (b : Bool) → not b ≡ true → 0 < cond b 0 (length x)
    by true e = absurd (cc)
    by false e = l

pub tells_to : (job : Job) (d test t flag : ℕ) → Tells job.style t flag (body_of job.style test) → (bodies loops left : ℕ) (s : State)
    → IfDone (Told job t flag s) (act job d (Run (callee.User test)) bodies loops left s)
tells_to job d test t zero (inl w) bodies loops left s =
    let white = not (list_all is_white (text_in t s)) in
    if_weaker (LeavesIn (truth white ∷ s.store.literals) s.store) (Told job t zero s) _
    (filled_to job d test t w.0 w.1.1.0 w.1.1.1.0 w.1.0 w.1.1.1.1 bodies loops left s)
    (λ u q. (q.1, λ e. not_white (text_in t s) (sym (turn_again job white s.store.literals u q.0) ∙ e)))
tells_to job d test t zero (inr (inl w)) bodies loops left s =
    let told = begins (word_of job.style w.0) (text_in t s) in
    if_weaker (LeavesIn (truth told ∷ s.store.literals) s.store) (Told job t zero s) _
    (begins_to job d test t w.0 w.1.0 bodies loops left s)
    (λ u q. (q.1, λ e. some_begun (text_in t s) (word_of job.style w.0) w.1.1 (sym (turn_again job told s.store.literals u q.0) ∙ e)))
tells_to job d test t zero (inr (inr (inl w))) bodies loops left s =
    let nay = w.1.1.1.1.0 in
    let join = w.1.1.1.1.1 in
    if_weaker (Until t s) (Told job t zero s) _
    (until_to job d test t w.0 w.1.0 w.1.1.0 nay.0 nay.1.0 join.0 w.1.1.1.0 nay.1.1 join.1 bodies loops left s)
    (λ u q. (
      q.leaves.1,
      λ e. not_white (text_in t s) (q.text (sym (again_of job q.integer s.store.literals u q.leaves.0) ∙ e)),
    ))
tells_to job d test t zero (inr (inr (inr w))) bodies loops left s =
    let nay = w.1.1.1.1 in
    let told = not (begins (word_of job.style w.0) (text_in t s)) in
    if_weaker (LeavesIn (truth told ∷ s.store.literals) s.store) (Told job t zero s) _
    (first_to job d test t w.0 w.1.0 nay.0 nay.1.0 w.1.1.0 nay.1.1 bodies loops left s)
    (λ u q. (q.1, λ e. some_first (text_in t s) (word_of job.style w.0) w.1.1.1.0 (sym (turn_again job told s.store.literals u q.0) ∙ e)))
tells_to job d test t (suc v) w bodies loops left s =
    let nay = w.1.1.1.0 in
    let join = w.1.1.1.1 in
    if_weaker (Both v t s) (Told job t (suc v) s) _
    (flag_to job d test v t w.0 w.1.0 nay.0 nay.1.0 join.0 w.1.1.0 nay.1.1 join.1 bodies loops left s)
    (λ u q. (
      q.leaves.1,
      λ e.
          let so : is_positive q.integer ≡ true = sym (again_of job q.integer s.store.literals u q.leaves.0) ∙ e in
          left_all (value_in v s) (text_in t s) (q.flag so) (not_white (text_in t s) (q.text so)),
    ))

pub left_few : (g : ℤ) (x : List ℕ) → left_of g x ≤ length x
left_few g x = by (is_positive g)
  where
    by : (b : Bool) → cond b 0 (length x) ≤ length x
    by true = omega arith
    by false = omega arith
