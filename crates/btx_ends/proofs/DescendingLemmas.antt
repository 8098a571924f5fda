-- Loops that count an integer down which stands on top of the stack: their test is true only where it is above 0, and each turn makes it less.
use Rattle.std.proofs.Common.{◌≡◌, ℕ, zero, suc, ◌+◌, ◌-◌, ◌≤◌, ◌<◌, ◌^◌, ℤ, pos, negsuc, Bool, true, false, cond, nat_lt, List, [], ◌∷◌, ◌++◌, drop}
use Rattle.std.proofs.Common.{refl, arith, sym, subst, ◌∙◌, ◌⊎◌, inl, inr}
use Rattle.std.proofs.lemmas.Bool.{ltb-true, ltb-false}
use Rattle.std.proofs.lemmas.Int.{ints}
use Rattle.std.specs.Prelude.{◌-ℤ◌}
use Rattle.btx_bst.specs.declared.built_in.BuiltIn.TheVariants as built_in
use Rattle.btx_bst.specs.declared.callee.Callee.TheVariants as callee
use Rattle.btx_bst.specs.declared.token.Token.TheVariants as token
use Rattle.btx_bst.specs.declared.token.Token.TheVariants.{Run}
use Rattle.btx_stack.specs.declared.literal.Literal.{Literal}
use Rattle.btx_stack.specs.declared.literal.Literal.TheVariants as literal
use Rattle.btx_step.proofs.AppliedLemmas.{applied_or_reported}
use Rattle.btx_step.specs.declared.said.Note.TheVariants as note
use Rattle.btx_step.specs.declared.said.StepOutput.TheVariants as step_output
use Rattle.btx_step.specs.declared.stand_in.StandIn.TheVariants as stand_in
use Rattle.btx_step.specs.language.Answers.{with_literals, pushed, complained}
use Rattle.btx_step.specs.language.Arithmetic.{fits, result_of}
use Rattle.btx_step.specs.language.Control.{tested}
use Rattle.btx_step.specs.language.Jobs.{Job}
use Rattle.btx_step.specs.language.Steps.{step_of, built_in_run}
use Rattle.btx_step.specs.language.Stores.{Store}
use Rattle.btx_step.specs.laws.Applied.{IsApplied, IsReported}
use Rattle.btx_machine.specs.language.States.{State, Outcome, Done, Stopped, Limit}
use Rattle.btx_machine.specs.language.Steps.{turn_of}
use Rattle.btx_machine.specs.language.MeaningBySteps.{in_turn, act}
use Rattle.btx_ends.specs.declared.held.Held.{Held}
use Rattle.btx_ends.specs.declared.held.Held.TheVariants as held
use Rattle.btx_ends.specs.declared.held.Pile.{Pile}
use Rattle.btx_ends.specs.declared.measures.Kind.{Kind}
use Rattle.btx_ends.specs.Counters.{above_zero}
use Rattle.btx_ends.specs.Keeping.{IfDone}
use Rattle.btx_ends.specs.Shortening.{body_of, KindsHold}
use Rattle.btx_ends.specs.Descending.{nothing_held, only_same, is_told}
use Rattle.btx_ends.specs.Descending.{pile_through, Asks, take_one, Lowers}
use Rattle.btx_ends.proofs.CounterLemmas.{integer_step, in_turn_both, at_most_above}
use Rattle.btx_ends.proofs.DoneLemmas.{if_then, if_weaker, LeavesIn, AnswerSo, one_to, pushed_to, pushes_so, so_by, call_to}
use Rattle.btx_ends.proofs.HeldLemmas.{built_in_is, LowTop, MayLack, Stands, On, LeftIn, pushed_on, nothing_on, told_is, through_done, same_on, low_on}

-- ---- `#1 -`

-- the result: it is below 2^31, and less than what it was taken from
abbrev pub Lessened : ℕ → List Literal → Type 0
Lessened k ys = (z : ℤ) × ((zs : List Literal) × ((ys ≡ literal.Integer z ∷ zs) × ((above_zero z < 2 ^ 31) × (above_zero z ≤ k - 1))))

fits_below : (n : ℤ) → fits n ≡ true → above_zero n < 2 ^ 31
fits_below (pos n) e = ltb-true n (2 ^ 31) e
fits_below (negsuc n) e = omega arith

one_less : (n : ℤ) (k : ℕ) → above_zero n ≤ k → above_zero (n -ℤ pos 1) ≤ k - 1
one_less (pos zero) k l = omega arith
one_less (pos (suc n)) k l = at_most_above (pos (suc n) -ℤ pos 1) (k - 1) (omega (arith, ints, l))
one_less (negsuc n) k l = at_most_above (negsuc n -ℤ pos 1) (k - 1) (omega (arith, ints))

less_result : (k : ℕ) (n : ℤ) (ys : List Literal) (s : Store) → above_zero n ≤ k - 1 → AnswerSo (λ r. Lessened k r.literals) (result_of n (with_literals ys s))
less_result k n ys s l = by (fits n) refl
  where
    P : Store → Type 0
    P r = Lessened k r.literals

    by : (b : Bool) → fits n ≡ b
        → AnswerSo P (cond b (pushed (literal.Integer n) (with_literals ys s)) (complained (note.Overflow ∷ []) stand_in.Zero (with_literals ys s)))
    by true e = pushes_so P step_output.Nothing (literal.Integer n) (with_literals ys s) (n, (ys, (refl, (fits_below n e, l))))
    by false e = pushes_so P (step_output.Noted (note.Overflow ∷ [])) (literal.Integer (pos 0)) (with_literals ys s) (pos 0, (ys, (refl, (omega arith, omega arith))))

minus_so : (job : Job) (k : ℕ) (ys : List Literal) (s : Store) → s.literals ≡ literal.Integer (pos 1) ∷ ys → LowTop k ys
    → AnswerSo (λ r. Lessened k r.literals) (step_of job (Run (callee.BuiltIn built_in.Minus)) s)
minus_so job k ys s e low = so_by P _ _ (built_in_is job built_in.Minus s) (by (applied_or_reported job built_in.Minus s tt))
  where
    P : Store → Type 0
    P r = Lessened k r.literals

    by : IsApplied job built_in.Minus s ⊎ IsReported job built_in.Minus s → AnswerSo P (built_in_run job built_in.Minus s)
    by (inl a) =
        let q : literal.Integer (pos 1) ∷ ys ≡ literal.Integer a.values.0 ∷ literal.Integer a.values.1.0 ∷ a.below = sym e ∙ a.taken in
        let one : a.values.0 ≡ pos 1 = cc in
        let rest : ys ≡ literal.Integer a.values.1.0 ∷ a.below = cc in
        let l = subst (LowTop k) rest low in
        so_by P _ _ a.is
        (less_result k (a.values.1.0 -ℤ a.values.0) a.below s
        (subst (λ (i : ℤ). above_zero (a.values.1.0 -ℤ i) ≤ k - 1) (sym one) (one_less a.values.1.0 k (l a.values.1.0 refl))))
    by (inr r) =
        so_by P _ _ r.is
        (pushes_so P (step_output.Noted r.notes) (literal.Integer (pos 0)) (with_literals (drop 2 s.literals) s)
        (pos 0, (drop 2 s.literals, (refl, (omega arith, omega arith)))))

take_done : (job : Job) (d k : ℕ) (bodies loops left : ℕ) (s : State) → LowTop k s.store.literals
    → IfDone (λ t. Lessened k t.store.literals) (in_turn (act job d) take_one bodies loops left s)
take_done job d k bodies loops left s low =
    if_then (LeavesIn (literal.Integer (pos 1) ∷ s.store.literals) s.store) (λ t. Lessened k t.store.literals) _ _
    (pushed_to job d (token.Integer (pos 1)) (literal.Integer (pos 1)) s.store.literals bodies loops left s (integer_step job (pos 1) s.store))
    (λ less t q. if_then (λ u. Lessened k u.store.literals) (λ u. Lessened k u.store.literals) _ _
    (one_to job d (Run (callee.BuiltIn built_in.Minus)) (λ r. Lessened k r.literals) bodies loops less t (minus_so job k s.store.literals t.store q.0 low))
    (λ less1 u v. v))

-- ---- the body of a loop

-- how far what stands on top is above 0
abbrev pub size_on : List Literal → ℕ
size_on [] = 0
size_on (literal.Integer n ∷ ys) = above_zero n
size_on (y ∷ ys) = 0

size_low : (ys : List Literal) → LowTop (size_on ys) ys
size_low [] = tt
size_low (literal.Integer n ∷ ys) = λ m e. let same : m ≡ n = cc in subst (λ (i : ℤ). above_zero i ≤ above_zero n) (sym same) (omega arith)
size_low (literal.Text z ∷ ys) = λ m e. absurd (cc)
size_low (literal.Function f ∷ ys) = λ m e. absurd (cc)
size_low (literal.Missing ∷ ys) = λ m e. absurd (cc)

abbrev pub IsSmall : State → Type 0
IsSmall t = (k : ℕ) × Lessened k t.store.literals

any_state : (o : Outcome) → IfDone (λ t. Unit {0}) o
any_state (Done t rest) = tt
any_state (Stopped t) = tt
any_state (Limit kind t rest) = tt

module _ (job : Job) (kinds : ℕ → Kind) (kinds_hold : KindsHold job.style kinds) where
  body_done : (P Q : State → Type 0) (d number : ℕ) → (w : Lowers kinds (body_of job.style number)) → (bodies loops left : ℕ) (s : State)
      → ((e less : ℕ) (t : State) → t.store.literals ≡ s.store.literals → IfDone P (in_turn (act job e) w.0 (bodies + 1) loops less t))
      → ((e less : ℕ) (t : State) → P t → IfDone Q (in_turn (act job e) take_one (bodies + 1) loops less t))
      → IfDone Q (act job d (Run (callee.User number)) bodies loops left s)
  body_done P Q d number w bodies loops left s f g =
      call_to job d number (w.0 ++ take_one) Q bodies loops left s w.1.0
      (λ e less t q. subst (λ (o : Outcome). IfDone Q o) (sym (in_turn_both (act job e) w.0 take_one (bodies + 1) loops less t))
      (if_then P Q (in_turn (act job e) w.0 (bodies + 1) loops less t) (in_turn (act job e) take_one (bodies + 1) loops) (f e less t q.0)
      (λ less1 u v. g e less1 u v)))

  -- whatever stood on the stack, a small integer stands there after a turn
  pub small_done : (d number : ℕ) → Lowers kinds (body_of job.style number) → (bodies loops left : ℕ) (s : State)
      → IfDone IsSmall (act job d (Run (callee.User number)) bodies loops left s)
  small_done d number w bodies loops left s =
      body_done (λ t. Unit {0}) IsSmall d number w bodies loops left s (λ e less t q. any_state _)
      (λ e less t q. if_weaker (λ u. Lessened (size_on t.store.literals) u.store.literals) IsSmall _
      (take_done job e (size_on t.store.literals) (bodies + 1) loops less t (size_low t.store.literals))
      (λ u v. (size_on t.store.literals, v)))

  -- .. and where it was at most so far above 0, it is less
  pub lowers_done : (d number k : ℕ) → Lowers kinds (body_of job.style number) → (bodies loops left : ℕ) (s : State) → On k only_same s.store.literals
      → IfDone (λ t. Lessened k t.store.literals) (act job d (Run (callee.User number)) bodies loops left s)
  lowers_done d number k w bodies loops left s st =
      body_done (LeftIn k (pile_through kinds only_same w.0)) (λ t. Lessened k t.store.literals) d number w bodies loops left s
      (λ e less t q. through_done k job kinds kinds_hold e w.0 only_same (bodies + 1) loops less t (subst (On k only_same) (sym q) st))
      (λ e less t v. take_done job e k (bodies + 1) loops less t (low_on k (pile_through kinds only_same w.0) t.store.literals w.1.1 v))

  -- ---- the test

  -- the integer still stands there after the test, and the loop goes on only where it is above 0
  abbrev pub Asked : ℕ → State → Type 0
  Asked k t = On k only_same (turn_of job t).state.store.literals × ((turn_of job t).again ≡ true → 0 < k)

  asked_at : (k : ℕ) (p : Pile) (t : State) → is_told p.first ≡ true → p.second ≡ held.Same → On k p t.store.literals → Asked k t
  unfolding turn_of
  asked_at k p t told same w = by t.store.literals told same w
    where
      under : (h : Held) (hs : List Held) (ys : List Literal) → h ≡ held.Same → Stands k (h ∷ hs) ys → On k only_same ys
      under h hs ys e v = same_there hs ys (subst (λ (g : Held). Stands k (g ∷ hs) ys) e v)
        where
          same_there : (hs : List Held) (ys : List Literal) → Stands k (held.Same ∷ hs) ys → On k only_same ys
          same_there hs [] v = absurd v.0
          same_there hs (y ∷ ys) v = pushed_on k held.Same nothing_held y ys v.0 (nothing_on k ys)

      by : (ys : List Literal) → is_told p.first ≡ true → p.second ≡ held.Same → On k p ys
          → On k only_same (tested ys t.store).store.literals × ((tested ys t.store).again ≡ true → 0 < k)
      by [] told same v = absurd (lacks p.first told v.0)
        where
          lacks : (h : Held) → is_told h ≡ true → MayLack k h → ⊥
          lacks held.Same e g = g
          lacks held.Told e g = g
          lacks h e g = absurd (cc)
      by (literal.Integer n ∷ ys) told same v =
          (under p.second (p.third ∷ p.fourth ∷ p.fifth ∷ p.sixth ∷ p.seventh ∷ p.eighth ∷ []) ys same v.1, λ so. told_is k p.first n told v.0 so)
      by (y ∷ ys) told same v =
          (under p.second (p.third ∷ p.fourth ∷ p.fifth ∷ p.sixth ∷ p.seventh ∷ p.eighth ∷ []) ys same v.1, λ so. absurd (cc))

  pub asks_done : (d number k : ℕ) → Asks kinds (body_of job.style number) → (bodies loops left : ℕ) (s : State) → On k only_same s.store.literals
      → IfDone (Asked k) (act job d (Run (callee.User number)) bodies loops left s)
  asks_done d number k w bodies loops left s st =
      let p = pile_through kinds only_same (body_of job.style number) in
      call_to job d number (body_of job.style number) (Asked k) bodies loops left s refl
      (λ e less t q. if_weaker (LeftIn k p) (Asked k) _
      (through_done k job kinds kinds_hold e (body_of job.style number) only_same (bodies + 1) loops less t (subst (On k only_same) (sym q.0) st))
      (λ u v. asked_at k p u w.0 w.1 v))

-- ---- how many turns there may be

-- an integer on top as far as it is above 0, but at most 2^31; and 2^31 where there is none
abbrev pub least : ℕ → ℕ → ℕ
least n most = cond (nat_lt n most) n most

abbrev pub turns_on : List Literal → ℕ
turns_on (literal.Integer n ∷ ys) = least (above_zero n) (2 ^ 31)
turns_on ys = 2 ^ 31

pub least_few : (n most : ℕ) → (least n most ≤ n) × (least n most ≤ most)
least_few n most = by (nat_lt n most) refl
  where
    by : (b : Bool) → nat_lt n most ≡ b → (cond b n most ≤ n) × (cond b n most ≤ most)
    by true e = let l = ltb-true n most e in (omega arith, omega (arith, l))
    by false e = let l = ltb-false n most e in (omega (arith, l), omega arith)

pub turns_few_on : (ys : List Literal) → turns_on ys ≤ 2 ^ 31
turns_few_on [] = omega arith
turns_few_on (literal.Integer n ∷ ys) = (least_few (above_zero n) (2 ^ 31)).1
turns_few_on (y ∷ ys) = omega arith

pub small_few : (ys : List Literal) (k : ℕ) → Lessened k ys → turns_on ys < 2 ^ 31
small_few ys k w =
    let l = (least_few (above_zero w.0) (2 ^ 31)).0 in
    let few = w.1.1.1.0 in
    subst (λ (zs : List Literal). turns_on zs < 2 ^ 31) (sym w.1.1.0) (omega (arith, l, few))

pub least_over : (n k most : ℕ) → n < most → n ≤ k - 1 → 0 < k → least n most < least k most
least_over n k most l m some = by (nat_lt k most)
  where
    by : (b : Bool) → least n most < cond b k most
    by true = let q = (least_few n most).0 in omega (arith, q, m, some)
    by false = let q = (least_few n most).0 in omega (arith, q, l)

pub least_less : (ys : List Literal) (k : ℕ) → 0 < k → Lessened k ys → turns_on ys < least k (2 ^ 31)
least_less ys k some w =
    subst (λ (zs : List Literal). turns_on zs < least k (2 ^ 31)) (sym w.1.1.0) (least_over (above_zero w.0) k (2 ^ 31) w.1.1.1.0 w.1.1.1.1 some)

-- either there may be as many turns as can be, or an integer stands on top
pub seen_on : (ys : List Literal) (j : ℕ) → turns_on ys ≡ j → (2 ^ 31 ≤ j) ⊎ ((k : ℕ) × ((least k (2 ^ 31) ≡ j) × On k only_same ys))
seen_on [] j e = inl (omega (arith, e))
seen_on (literal.Integer n ∷ ys) j e = inr (above_zero n, (e, same_on (above_zero n) n ys (omega arith)))
seen_on (literal.Text z ∷ ys) j e = inl (omega (arith, e))
seen_on (literal.Function f ∷ ys) j e = inl (omega (arith, e))
seen_on (literal.Missing ∷ ys) j e = inl (omega (arith, e))
