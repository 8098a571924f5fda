-- What is known of the literals on top of the stack is so, where a loop counts an integer down that stands there, or shortens a text that does.
use Rattle.std.proofs.Common.{◌≡◌, ℕ, zero, suc, ◌+◌, ◌-◌, ◌≤◌, ◌<◌, ℤ, pos, negsuc, Bool, true, false, not, ◌&&◌, ◌||◌, cond, List, [], ◌∷◌, ◌++◌, length, take, drop}
use Rattle.std.proofs.Common.{refl, arith, sym, ap, subst, ◌∙◌, ◌⊎◌, inl, inr}
use Rattle.std.proofs.lemmas.Int.{ints}
use Rattle.std.specs.Prelude.{slice_get, unwrap_or, int_lt, ◌+ℤ◌, ◌≤ℤ◌, Option, None, Some}
use Rattle.std.specs.Str.{bytes_eq}
use Rattle.std.specs.Ordering.{int_eq}
use Rattle.btx_bst.specs.declared.built_in.BuiltIn.{BuiltIn}
use Rattle.btx_bst.specs.declared.built_in.BuiltIn.TheVariants as built_in
use Rattle.btx_bst.specs.declared.callee.Callee.{Callee}
use Rattle.btx_bst.specs.declared.callee.Callee.TheVariants as callee
use Rattle.btx_bst.specs.declared.token.Token.{Token}
use Rattle.btx_bst.specs.declared.token.Token.TheVariants as token
use Rattle.btx_bst.specs.declared.token.Token.TheVariants.{Quote, Run}
use Rattle.btx_stack.specs.declared.literal.Literal.{Literal}
use Rattle.btx_stack.specs.declared.literal.Literal.TheVariants as literal
use Rattle.btx_step.proofs.AppliedLemmas.{applied_or_reported}
use Rattle.btx_step.specs.declared.said.Note.{Note}
use Rattle.btx_step.specs.declared.said.Note.TheVariants as note
use Rattle.btx_step.specs.declared.said.StepOutput.TheVariants as step_output
use Rattle.btx_step.specs.declared.stand_in.StandIn.TheVariants as stand_in
use Rattle.btx_step.specs.language.Answers.{Answer, truth, with_literals, pushed, pushed_text, complained}
use Rattle.btx_step.specs.language.Arithmetic.{fits, result_of, equals}
use Rattle.btx_step.specs.language.Control.{is_positive}
use Rattle.btx_step.specs.language.Jobs.{Job}
use Rattle.btx_step.specs.language.Operands.{on_operands}
use Rattle.btx_step.specs.language.Steps.{step_of, function_run, built_in_run}
use Rattle.btx_step.specs.language.Stores.{Store}
use Rattle.btx_step.specs.language.Table.{row}
use Rattle.btx_step.specs.language.Variables as variables
use Rattle.btx_step.specs.laws.Applied.{IsApplied, IsReported}
use Rattle.btx_machine.specs.language.States.{State, Outcome, Done, Stopped, Limit}
use Rattle.btx_machine.specs.language.MeaningBySteps.{in_turn, act}
use Rattle.btx_ends.specs.declared.held.Held.{Held}
use Rattle.btx_ends.specs.declared.held.Held.TheVariants as held
use Rattle.btx_ends.specs.declared.held.Pile.{Pile}
use Rattle.btx_ends.specs.declared.measures.Kind.{Kind}
use Rattle.btx_ends.specs.declared.measures.Kind.TheVariants as kind
use Rattle.btx_ends.specs.Counters.{above_zero}
use Rattle.btx_ends.specs.Keeping.{IfDone}
use Rattle.btx_ends.specs.Shortening.{word_of, KindHolds, KindsHold}
use Rattle.btx_ends.specs.Descending.{nothing_held, push, popped, popped_two, only_same, is_integer, is_there, is_bound, is_text, is_low, is_told, number_held, sum_held, greater_held, joined_held}
use Rattle.btx_ends.specs.Descending.{raised_held, lowered_held, swapped_held, built_in_held, called_held, pile_after, pile_through}
use Rattle.btx_ends.proofs.CounterLemmas.{variable_step, quote_step, integer_step, string_step, in_store, above}
use Rattle.btx_ends.proofs.DoneLemmas.{if_then, if_weaker, LeavesIn, AnswerSo, one_to, pushes_so, text_so, word_step, so_by, not_to, and_to, or_to, one_if, lower_if}
use Rattle.btx_ends.proofs.QuietLemmas.{step_quiet}
use Rattle.btx_ends.proofs.StackLemmas.{and_both, quiet_so}
use Rattle.btx_strings.specs.language.Positions.{substring_of}

-- ---- steps

pub built_in_is : (job : Job) (f : BuiltIn) (s : Store) → step_of job (Run (callee.BuiltIn f)) s ≡ built_in_run job f s
unfolding step_of function_run
built_in_is job f s = refl

-- `:=` leaves what stood below its operands
kept_integer : (store : ℤ → Store → Store) → ((n : ℤ) (r : Store) → (store n r).literals ≡ r.literals) → (y : Literal) (s : Store)
    → (variables.stores_integer store y s).store.literals ≡ s.literals
kept_integer store h (literal.Integer n) s = h n s
kept_integer store h y s = refl

kept_string : (most : ℕ) (store : List ℕ → Store → Store) → ((z : List ℕ) (r : Store) → (store z r).literals ≡ r.literals) → (y : Literal) (s : Store)
    → (variables.stores_string most store y s).store.literals ≡ s.literals
kept_string most store h (literal.Text z) s = h (take most z) s
kept_string most store h y s = refl

kept_in_entry : (go : ℕ → Store → Answer) → ((entry : ℕ) (r : Store) → (go entry r).store.literals ≡ r.literals) → (current : Option ℕ) (s : Store)
    → (variables.in_entry go current s).store.literals ≡ s.literals
kept_in_entry go h None s = refl
kept_in_entry go h (Some entry) s = h entry s

pub assigns_keep : (job : Job) (f : Callee) (y : Literal) (s : Store) → (variables.assigns job f y s).store.literals ≡ s.literals
assigns_keep job (callee.GlobalInteger i) y s = kept_integer (variables.with_global_integer i) (λ n r. refl) y s
assigns_keep job (callee.GlobalString i) y s = kept_string job.global_max (variables.with_global_string i) (λ z r. refl) y s
assigns_keep job (callee.EntryInteger i) y s =
    kept_in_entry (λ entry. variables.stores_integer (variables.with_entry_integer entry i) y)
    (λ entry r. kept_integer (variables.with_entry_integer entry i) (λ n q. refl) y r) s.current s
assigns_keep job (callee.EntryString i) y s =
    kept_in_entry (λ entry. variables.stores_string job.entry_max (variables.with_entry_string entry i) y)
    (λ entry r. kept_string job.entry_max (variables.with_entry_string entry i) (λ z q. refl) y r) s.current s
assigns_keep job f y s = refl

-- what stands on top is at most so far above 0, if it is an integer
abbrev pub LowTop : ℕ → List Literal → Type 0
LowTop k [] = Unit {0}
LowTop k (y ∷ ys) = (n : ℤ) → y ≡ literal.Integer n → above_zero n ≤ k

-- ---- what is known of literals, where the integer of the loop was `k` above 0

module _ (k : ℕ) where
  abbrev pub IsHeld : Held → Literal → Type 0
  IsHeld held.Anything y = Unit {0}
  IsHeld held.Text y = (z : List ℕ) × (y ≡ literal.Text z)
  IsHeld held.Number y = (n : ℤ) × (y ≡ literal.Integer n)
  IsHeld held.Zero y = y ≡ literal.Integer (pos 0)
  IsHeld held.Positive y = (n : ℕ) × (y ≡ literal.Integer (pos (suc n)))
  IsHeld held.Same y = (n : ℤ) × ((y ≡ literal.Integer n) × (above_zero n ≤ k))
  IsHeld held.Low y = (n : ℤ) → y ≡ literal.Integer n → above_zero n ≤ k
  IsHeld held.Told y = (n : ℤ) × ((y ≡ literal.Integer n) × (is_positive n ≡ true → 0 < k))
  IsHeld held.Whole y = (z : List ℕ) × ((y ≡ literal.Text z) × (length z ≤ k))
  IsHeld held.Late y = (n : ℤ) → y ≡ literal.Integer n → pos 2 ≤ℤ n
  IsHeld held.Apart y = (n : ℤ) → y ≡ literal.Integer n → (n ≡ pos 0) ⊎ (pos 2 ≤ℤ n)

  -- there may be none
  abbrev pub MayLack : Held → Type 0
  MayLack held.Anything = Unit {0}
  MayLack held.Low = Unit {0}
  MayLack held.Late = Unit {0}
  MayLack held.Apart = Unit {0}
  MayLack it = ⊥

  abbrev pub Stands : List Held → List Literal → Type 0
  Stands [] ys = Unit {0}
  Stands (h ∷ hs) [] = MayLack h × Stands hs []
  Stands (h ∷ hs) (y ∷ ys) = IsHeld h y × Stands hs ys

  abbrev pub On : Pile → List Literal → Type 0
  On p ys = Stands (p.first ∷ p.second ∷ p.third ∷ p.fourth ∷ p.fifth ∷ p.sixth ∷ p.seventh ∷ p.eighth ∷ []) ys

  -- one less is looked at, or one more of which nothing is known
  short : (hs : List Held) (h : Held) (ys : List Literal) → Stands (hs ++ h ∷ []) ys → Stands hs ys
  short [] h ys w = tt
  short (g ∷ hs) h [] w = (w.0, short hs h [] w.1)
  short (g ∷ hs) h (y ∷ ys) w = (w.0, short hs h ys w.1)

  padded : (hs : List Held) (ys : List Literal) → Stands hs ys → Stands (hs ++ held.Anything ∷ []) ys
  padded [] [] w = (tt, tt)
  padded [] (y ∷ ys) w = (tt, tt)
  padded (g ∷ hs) [] w = (w.0, padded hs [] w.1)
  padded (g ∷ hs) (y ∷ ys) w = (w.0, padded hs ys w.1)

  pub pushed_on : (it : Held) (p : Pile) (y : Literal) (ys : List Literal) → IsHeld it y → On p ys → On (push it p) (y ∷ ys)
  pushed_on it p y ys h w =
      (h, short (p.first ∷ p.second ∷ p.third ∷ p.fourth ∷ p.fifth ∷ p.sixth ∷ p.seventh ∷ []) p.eighth ys w)

  popped_on : (p : Pile) (ys : List Literal) → On p ys → On (popped p) (drop 1 ys)
  popped_on p [] w = padded (p.second ∷ p.third ∷ p.fourth ∷ p.fifth ∷ p.sixth ∷ p.seventh ∷ p.eighth ∷ []) [] w.1
  popped_on p (y ∷ ys) w = padded (p.second ∷ p.third ∷ p.fourth ∷ p.fifth ∷ p.sixth ∷ p.seventh ∷ p.eighth ∷ []) ys w.1

  pub popped_two_on : (p : Pile) (ys : List Literal) → On p ys → On (popped_two p) (drop 2 ys)
  popped_two_on p [] w = popped_on (popped p) [] (popped_on p [] w)
  popped_two_on p (y ∷ []) w = popped_on (popped p) [] (popped_on p (y ∷ []) w)
  popped_two_on p (y ∷ x ∷ ys) w = popped_on (popped p) (x ∷ ys) (popped_on p (y ∷ x ∷ ys) w)

  popped_three_on : (p : Pile) (ys : List Literal) → On p ys → On (popped (popped_two p)) (drop 3 ys)
  popped_three_on p [] w = popped_on (popped_two p) [] (popped_two_on p [] w)
  popped_three_on p (y ∷ []) w = popped_on (popped_two p) [] (popped_two_on p (y ∷ []) w)
  popped_three_on p (y ∷ x ∷ []) w = popped_on (popped_two p) [] (popped_two_on p (y ∷ x ∷ []) w)
  popped_three_on p (y ∷ x ∷ z ∷ ys) w = popped_on (popped_two p) (z ∷ ys) (popped_two_on p (y ∷ x ∷ z ∷ ys) w)

  pub nothing_on : (ys : List Literal) → On nothing_held ys
  nothing_on ys =
      let A = held.Anything in
      padded (A ∷ A ∷ A ∷ A ∷ A ∷ A ∷ A ∷ []) ys (padded (A ∷ A ∷ A ∷ A ∷ A ∷ A ∷ []) ys (padded (A ∷ A ∷ A ∷ A ∷ A ∷ []) ys (padded (A ∷ A ∷ A ∷ A ∷ []) ys
      (padded (A ∷ A ∷ A ∷ []) ys (padded (A ∷ A ∷ []) ys (padded (A ∷ []) ys (padded [] ys tt)))))))

  -- what is known of a literal that is there
  there_not : (it : Held) → is_there it ≡ true → MayLack it → ⊥
  there_not held.Anything e h = absurd (cc)
  there_not held.Low e h = absurd (cc)
  there_not held.Late e h = absurd (cc)
  there_not held.Apart e h = absurd (cc)
  there_not held.Text e h = h
  there_not held.Number e h = h
  there_not held.Zero e h = h
  there_not held.Same e h = h
  there_not held.Told e h = h
  there_not held.Positive e h = h
  there_not held.Whole e h = h

  pub integer_there : (it : Held) → is_integer it ≡ true → is_there it ≡ true
  integer_there held.Number e = refl
  integer_there held.Zero e = refl
  integer_there held.Same e = refl
  integer_there held.Told e = refl
  integer_there held.Positive e = refl
  integer_there held.Anything e = absurd (cc)
  integer_there held.Low e = absurd (cc)
  integer_there held.Text e = absurd (cc)
  integer_there held.Whole e = absurd (cc)
  integer_there held.Late e = absurd (cc)
  integer_there held.Apart e = absurd (cc)

  pub integer_is : (it : Held) (y : Literal) → is_integer it ≡ true → IsHeld it y → (n : ℤ) × (y ≡ literal.Integer n)
  integer_is held.Number y e h = h
  integer_is held.Zero y e h = (pos 0, h)
  integer_is held.Same y e h = (h.0, h.1.0)
  integer_is held.Told y e h = (h.0, h.1.0)
  integer_is held.Positive y e h = (pos (suc h.0), h.1)
  integer_is held.Anything y e h = absurd (cc)
  integer_is held.Low y e h = absurd (cc)
  integer_is held.Text y e h = absurd (cc)
  integer_is held.Whole y e h = absurd (cc)
  integer_is held.Late y e h = absurd (cc)
  integer_is held.Apart y e h = absurd (cc)

  -- a literal is there of which something is known
  pub record There (it : Held) (hs : List Held) (ls : List Literal) : Type 0 where
    pub first : Literal
    pub others : List Literal
    pub is : ls ≡ first ∷ others
    pub holds : IsHeld it first
    pub below : Stands hs others

  pub there : (it : Held) (hs : List Held) (ls : List Literal) → is_there it ≡ true → Stands (it ∷ hs) ls → There it hs ls
  there it hs [] e w = absurd (there_not it e w.0)
  there it hs (y ∷ ys) e w = record { first = y; others = ys; is = refl; holds = w.0; below = w.1 }

  -- ---- what single tokens leave

  abbrev Left : Pile → Store → Type 0
  Left p r = On p r.literals

  abbrev pub LeftIn : Pile → State → Type 0
  LeftIn p t = On p t.store.literals

  any_done : (o : Outcome) → IfDone (LeftIn nothing_held) o
  any_done (Done t rest) = nothing_on t.store.literals
  any_done (Stopped t) = tt
  any_done (Limit kind t rest) = tt

  number_is : (n : ℤ) → IsHeld (number_held n) (literal.Integer n)
  number_is (pos zero) = refl
  number_is (pos (suc n)) = (n, refl)
  number_is (negsuc n) = (negsuc n, refl)

  truth_is : (b : Bool) → (n : ℤ) × (truth b ≡ literal.Integer n)
  truth_is true = (pos 1, refl)
  truth_is false = (pos 0, refl)

  -- one literal in place of others
  pushes_on : (it : Held) (q : Pile) (y : Literal) (ys : List Literal) (s : Store) → IsHeld it y → On q ys
      → AnswerSo (Left (push it q)) (pushed y (with_literals ys s))
  pushes_on it q y ys s h w = pushes_so (Left (push it q)) step_output.Nothing y (with_literals ys s) (pushed_on it q y ys h w)

  texts_on : (q : Pile) (z : List ℕ) (ys : List Literal) (s : Store) → On q ys → AnswerSo (Left (push held.Text q)) (pushed_text z (with_literals ys s))
  texts_on q z ys s w = text_so (Left (push held.Text q)) z (with_literals ys s) (pushed_on held.Text q (literal.Text z) ys (z, refl) w)

  zero_on : (it : Held) (q : Pile) (notes : List Note) (ys : List Literal) (s : Store) → IsHeld it (literal.Integer (pos 0)) → On q ys
      → AnswerSo (Left (push it q)) (complained notes stand_in.Zero (with_literals ys s))
  zero_on it q notes ys s h w =
      pushes_so (Left (push it q)) (step_output.Noted notes) (literal.Integer (pos 0)) (with_literals ys s) (pushed_on it q (literal.Integer (pos 0)) ys h w)

  empty_on : (q : Pile) (notes : List Note) (ys : List Literal) (s : Store) → On q ys
      → AnswerSo (Left (push held.Text q)) (complained notes stand_in.Empty (with_literals ys s))
  empty_on q notes ys s w =
      pushes_so (Left (push held.Text q)) (step_output.Noted notes) (literal.Text []) (with_literals ys s) (pushed_on held.Text q (literal.Text []) ys ([], refl) w)

  -- .. of `>`
  greater_zero : (a b : Held) → IsHeld (greater_held a b) (literal.Integer (pos 0))
  greater_zero held.Zero held.Same = (pos 0, (refl, λ e. absurd (cc)))
  greater_zero a b = (pos 0, refl)

  greater_truth : (a b : Held) (n m : ℤ) → IsHeld a (literal.Integer n) → IsHeld b (literal.Integer m) → IsHeld (greater_held a b) (truth (int_lt n m))
  greater_truth held.Zero held.Same n m h g = by (int_lt n m) refl
    where
      by : (c : Bool) → int_lt n m ≡ c → IsHeld held.Told (truth c)
      by false e = (pos 0, (refl, λ q. absurd (cc)))
      by true e =
          let zero_is : n ≡ pos 0 = cc in
          let more = above m (ap (λ (i : ℤ). int_lt i m) (sym zero_is) ∙ e) in
          let same : m ≡ g.0 = cc in
          let size : above_zero g.0 ≡ suc more.0 = ap above_zero (sym same ∙ more.1) in
          (pos 1, (refl, λ q. let l = g.1.1 in omega (arith, size, l)))
  greater_truth a b n m h g = truth_is (int_lt n m)

  greater_so : (job : Job) (p : Pile) (s : Store) → On p s.literals
      → AnswerSo (Left (push (greater_held p.first p.second) (popped_two p))) (step_of job (Run (callee.BuiltIn built_in.Greater)) s)
  greater_so job p s w = so_by P _ _ (built_in_is job built_in.Greater s) (by (applied_or_reported job built_in.Greater s tt))
    where
      P : Store → Type 0
      P = Left (push (greater_held p.first p.second) (popped_two p))

      by : IsApplied job built_in.Greater s ⊎ IsReported job built_in.Greater s → AnswerSo P (built_in_run job built_in.Greater s)
      by (inl a) =
          let v = subst (On p) a.taken w in
          so_by P _ _ a.is
          (pushes_on (greater_held p.first p.second) (popped_two p) (truth (int_lt a.values.0 a.values.1.0)) a.below s
          (greater_truth p.first p.second a.values.0 a.values.1.0 v.0 v.1.0)
          (popped_two_on p (literal.Integer a.values.0 ∷ literal.Integer a.values.1.0 ∷ a.below) v))
      by (inr r) =
          so_by P _ _ r.is
          (zero_on (greater_held p.first p.second) (popped_two p) r.notes (drop 2 s.literals) s (greater_zero p.first p.second) (popped_two_on p s.literals w))

  -- .. of `=`
  equals_at : (q : Pile) (y x : Literal) (ys : List Literal) (s : Store) → On q ys → AnswerSo (Left (push held.Number q)) (equals y x (with_literals ys s))
  equals_at q (literal.Integer b) (literal.Integer a) ys s w = pushes_on held.Number q (truth (int_eq a b)) ys s (truth_is (int_eq a b)) w
  equals_at q (literal.Text b) (literal.Text a) ys s w = pushes_on held.Number q (truth (bytes_eq a b)) ys s (truth_is (bytes_eq a b)) w
  equals_at q y x ys s w = zero_on held.Number q _ ys s (pos 0, refl) w

  equals_so : (job : Job) (p : Pile) (s : Store) → On p s.literals
      → AnswerSo (Left (push held.Number (popped_two p))) (step_of job (Run (callee.BuiltIn built_in.Equals)) s)
  equals_so job p s w = so_by P _ _ (built_in_is job built_in.Equals s) (by (applied_or_reported job built_in.Equals s tt))
    where
      P : Store → Type 0
      P = Left (push held.Number (popped_two p))

      by : IsApplied job built_in.Equals s ⊎ IsReported job built_in.Equals s → AnswerSo P (built_in_run job built_in.Equals s)
      by (inl a) =
          so_by P _ _ a.is (equals_at (popped_two p) a.values.0 a.values.1.0 a.below s
          (popped_two_on p (a.values.0 ∷ a.values.1.0 ∷ a.below) (subst (On p) a.taken w)))
      by (inr r) =
          so_by P _ _ r.is (zero_on held.Number (popped_two p) r.notes (drop 2 s.literals) s (pos 0, refl) (popped_two_on p s.literals w))

  -- .. of `*` and `substring$`
  joins_so : (job : Job) (p : Pile) (s : Store) → On p s.literals
      → AnswerSo (Left (push held.Text (popped_two p))) (step_of job (Run (callee.BuiltIn built_in.Concatenate)) s)
  joins_so job p s w = so_by P _ _ (built_in_is job built_in.Concatenate s) (by (applied_or_reported job built_in.Concatenate s tt))
    where
      P : Store → Type 0
      P = Left (push held.Text (popped_two p))

      by : IsApplied job built_in.Concatenate s ⊎ IsReported job built_in.Concatenate s → AnswerSo P (built_in_run job built_in.Concatenate s)
      by (inl a) =
          so_by P _ _ a.is
          (texts_on (popped_two p) (a.values.1.0 ++ a.values.0) a.below s
          (popped_two_on p (literal.Text a.values.0 ∷ literal.Text a.values.1.0 ∷ a.below) (subst (On p) a.taken w)))
      by (inr r) = so_by P _ _ r.is (empty_on (popped_two p) r.notes (drop 2 s.literals) s (popped_two_on p s.literals w))

  parts_so : (job : Job) (p : Pile) (s : Store) → On p s.literals
      → AnswerSo (Left (push held.Text (popped (popped_two p)))) (step_of job (Run (callee.BuiltIn built_in.Substring)) s)
  parts_so job p s w = so_by P _ _ (built_in_is job built_in.Substring s) (by (applied_or_reported job built_in.Substring s tt))
    where
      P : Store → Type 0
      P = Left (push held.Text (popped (popped_two p)))

      by : IsApplied job built_in.Substring s ⊎ IsReported job built_in.Substring s → AnswerSo P (built_in_run job built_in.Substring s)
      by (inl a) =
          so_by P _ _ a.is
          (texts_on (popped (popped_two p)) (substring_of a.values.1.1.0 a.values.1.0 a.values.0) a.below s
          (popped_three_on p (literal.Integer a.values.0 ∷ literal.Integer a.values.1.0 ∷ literal.Text a.values.1.1.0 ∷ a.below) (subst (On p) a.taken w)))
      by (inr r) = so_by P _ _ r.is (empty_on (popped (popped_two p)) r.notes (drop 3 s.literals) s (popped_three_on p s.literals w))

  -- .. of `swap$`
  pub lacking_on : (it : Held) (q : Pile) → MayLack it → On q [] → On (push it q) []
  lacking_on it q h w = (h, short (q.first ∷ q.second ∷ q.third ∷ q.fourth ∷ q.fifth ∷ q.sixth ∷ q.seventh ∷ []) q.eighth [] w)

  raised_lacks : (a b : Held) → MayLack b → MayLack (raised_held a b)
  raised_lacks a b g = by (is_there b || (is_text a && is_bound b))
    where
      by : (c : Bool) → MayLack (cond c b held.Anything)
      by true = g
      by false = tt

  -- one that may be missing is another one
  lacks_there : (b : Held) → MayLack b → is_there b ≡ false
  lacks_there held.Anything g = refl
  lacks_there held.Low g = refl
  lacks_there held.Late g = refl
  lacks_there held.Apart g = refl
  lacks_there b g = absurd g

  lowered_lacks : (a b : Held) → MayLack b → MayLack (lowered_held a b)
  lowered_lacks a b g = by (is_there b) (lacks_there b g)
    where
      low : (c : Bool) → MayLack (cond c held.Low held.Anything)
      low true = tt
      low false = tt

      by : (c : Bool) → c ≡ false → MayLack (cond c a (cond (is_low a) held.Low held.Anything))
      by true e = absurd (cc)
      by false e = low (is_low a)

  -- a string is no integer
  text_bound : (a b : Held) (y : Literal) → is_text a ≡ true → is_bound b ≡ true → IsHeld a y → IsHeld b y
  text_bound a b y ta bb h = by b bb (text_is a ta h)
    where
      text_is : (a : Held) → is_text a ≡ true → IsHeld a y → (z : List ℕ) × (y ≡ literal.Text z)
      text_is held.Text e g = g
      text_is held.Whole e g = (g.0, g.1.0)
      text_is a e g = absurd (cc)

      by : (b : Held) → is_bound b ≡ true → (z : List ℕ) × (y ≡ literal.Text z) → IsHeld b y
      by held.Low e w = λ n q. let never : literal.Text w.0 ≡ literal.Integer n = sym w.1 ∙ q in absurd (cc)
      by held.Late e w = λ n q. let never : literal.Text w.0 ≡ literal.Integer n = sym w.1 ∙ q in absurd (cc)
      by held.Apart e w = λ n q. let never : literal.Text w.0 ≡ literal.Integer n = sym w.1 ∙ q in absurd (cc)
      by b e w = absurd (cc)

  raised_alone : (a b : Held) (y : Literal) → MayLack b → IsHeld a y → IsHeld (raised_held a b) y
  raised_alone a b y g h = by (is_there b) (is_text a) (is_bound b) (lacks_there b g) refl refl
    where
      by : (c d e : Bool) → c ≡ false → is_text a ≡ d → is_bound b ≡ e → IsHeld (cond (c || (d && e)) b held.Anything) y
      by true d e lacks ta bb = absurd (cc)
      by false true true lacks ta bb = text_bound a b y ta bb h
      by false true false lacks ta bb = tt
      by false false e lacks ta bb = tt

  raised_over : (a b : Held) (x : Literal) → IsHeld b x → IsHeld (raised_held a b) x
  raised_over a b x h = by (is_there b || (is_text a && is_bound b))
    where
      by : (c : Bool) → IsHeld (cond c b held.Anything) x
      by true = h
      by false = tt

  low_is : (a : Held) (y : Literal) → is_low a ≡ true → IsHeld a y → IsHeld held.Low y
  low_is held.Low y e h = h
  low_is held.Same y e h = λ n q. let same : n ≡ h.0 = cc in subst (λ (i : ℤ). above_zero i ≤ k) (sym same) h.1.1
  low_is a y e h = absurd (cc)

  lowered_over : (a b : Held) (y : Literal) → IsHeld a y → IsHeld (lowered_held a b) y
  lowered_over a b y h = by (is_there b)
    where
      low : (c : Bool) → is_low a ≡ c → IsHeld (cond c held.Low held.Anything) y
      low true e = low_is a y e h
      low false e = tt

      by : (c : Bool) → IsHeld (cond c a (cond (is_low a) held.Low held.Anything)) y
      by true = h
      by false = low (is_low a) refl

  swap_on : (job : Job) (p : Pile) (xs : List Literal) (s : Store) → On p xs
      → AnswerSo (Left (swapped_held p)) (on_operands (row built_in.Swap).operands (row built_in.Swap).default ((row built_in.Swap).does job) xs s)
  swap_on job p [] s w =
      let q = push (lowered_held p.first p.second) (popped_two p) in
      lacking_on (raised_held p.first p.second) q (raised_lacks p.first p.second w.1.0)
      (lacking_on (lowered_held p.first p.second) (popped_two p) (lowered_lacks p.first p.second w.1.0) (popped_two_on p [] w))
  swap_on job p (y ∷ []) s w =
      let q = push (lowered_held p.first p.second) (popped_two p) in
      pushed_on (raised_held p.first p.second) q y [] (raised_alone p.first p.second y w.1.0 w.0)
      (lacking_on (lowered_held p.first p.second) (popped_two p) (lowered_lacks p.first p.second w.1.0) (popped_two_on p (y ∷ []) w))
  swap_on job p (y ∷ x ∷ ys) s w =
      let q = push (lowered_held p.first p.second) (popped_two p) in
      pushed_on (raised_held p.first p.second) q x (y ∷ ys) (raised_over p.first p.second x w.1.0)
      (pushed_on (lowered_held p.first p.second) (popped_two p) y ys (lowered_over p.first p.second y w.0) (popped_two_on p (y ∷ x ∷ ys) w))

  swap_so : (job : Job) (p : Pile) (s : Store) → On p s.literals → AnswerSo (Left (swapped_held p)) (step_of job (Run (callee.BuiltIn built_in.Swap)) s)
  unfolding step_of function_run built_in_run
  swap_so job p s w = swap_on job p s.literals s w

  -- .. of `duplicate$`
  double_on : (job : Job) (p : Pile) (xs : List Literal) (s : Store) → On p xs
      → AnswerSo (Left (push p.first p)) (on_operands (row built_in.Duplicate).operands (row built_in.Duplicate).default ((row built_in.Duplicate).does job) xs s)
  double_on job p [] s w = lacking_on p.first p w.0 w
  double_on job p (y ∷ ys) s w = pushes_on p.first p y (y ∷ ys) s w.0 w

  double_so : (job : Job) (p : Pile) (s : Store) → On p s.literals → AnswerSo (Left (push p.first p)) (step_of job (Run (callee.BuiltIn built_in.Duplicate)) s)
  unfolding step_of function_run built_in_run
  double_so job p s w = double_on job p s.literals s w

  -- .. of `+`
  sum_zero : (a b : Held) → IsHeld (sum_held a b) (literal.Integer (pos 0))
  sum_zero held.Positive held.Late = λ n e. inl (cc)
  sum_zero a b = (pos 0, refl)

  late_sum : (n : ℕ) (m : ℤ) → pos 2 ≤ℤ m → pos 2 ≤ℤ (m +ℤ pos (suc n))
  late_sum n (pos m) l = omega (arith, ints, l)
  late_sum n (negsuc m) l = absurd (omega (arith, ints, l))

  sum_is : (a b : Held) (n m : ℤ) → IsHeld a (literal.Integer n) → IsHeld b (literal.Integer m) → IsHeld (sum_held a b) (literal.Integer (m +ℤ n))
  sum_is held.Positive held.Late n m h g =
      λ i e.
      let is_one : n ≡ pos (suc h.0) = cc in
      let is_sum : m +ℤ n ≡ i = cc in
      inr (subst (λ (j : ℤ). pos 2 ≤ℤ j) (ap (λ (j : ℤ). m +ℤ j) (sym is_one) ∙ is_sum) (late_sum h.0 m (g m refl)))
  sum_is a b n m h g = (m +ℤ n, refl)

  sum_so : (job : Job) (p : Pile) (s : Store) → On p s.literals
      → AnswerSo (Left (push (sum_held p.first p.second) (popped_two p))) (step_of job (Run (callee.BuiltIn built_in.Plus)) s)
  sum_so job p s w = so_by P _ _ (built_in_is job built_in.Plus s) (by (applied_or_reported job built_in.Plus s tt))
    where
      P : Store → Type 0
      P = Left (push (sum_held p.first p.second) (popped_two p))

      result : (n : ℤ) (ys : List Literal) → IsHeld (sum_held p.first p.second) (literal.Integer n) → On (popped_two p) ys
          → AnswerSo P (result_of n (with_literals ys s))
      result n ys is v = fit (fits n)
        where
          fit : (b : Bool) → AnswerSo P (cond b (pushed (literal.Integer n) (with_literals ys s)) (complained (note.Overflow ∷ []) stand_in.Zero (with_literals ys s)))
          fit true = pushes_on (sum_held p.first p.second) (popped_two p) (literal.Integer n) ys s is v
          fit false = zero_on (sum_held p.first p.second) (popped_two p) (note.Overflow ∷ []) ys s (sum_zero p.first p.second) v

      by : IsApplied job built_in.Plus s ⊎ IsReported job built_in.Plus s → AnswerSo P (built_in_run job built_in.Plus s)
      by (inl a) =
          let v = subst (On p) a.taken w in
          so_by P _ _ a.is
          (result (a.values.1.0 +ℤ a.values.0) a.below (sum_is p.first p.second a.values.0 a.values.1.0 v.0 v.1.0)
          (popped_two_on p (literal.Integer a.values.0 ∷ literal.Integer a.values.1.0 ∷ a.below) v))
      by (inr r) =
          so_by P _ _ r.is
          (zero_on (sum_held p.first p.second) (popped_two p) r.notes (drop 2 s.literals) s (sum_zero p.first p.second) (popped_two_on p s.literals w))

  -- .. of `:=`
  assign_so : (job : Job) (p : Pile) (s : Store) → On p s.literals → AnswerSo (Left (popped_two p)) (step_of job (Run (callee.BuiltIn built_in.Assign)) s)
  assign_so job p s w =
      quiet_so (Left (popped_two p)) (step_of job (Run (callee.BuiltIn built_in.Assign)) s) (step_quiet job (Run (callee.BuiltIn built_in.Assign)) s tt)
      (subst (λ (a : Answer). On (popped_two p) a.store.literals) (sym (built_in_is job built_in.Assign s)) (by (applied_or_reported job built_in.Assign s tt)))
    where
      by : IsApplied job built_in.Assign s ⊎ IsReported job built_in.Assign s → On (popped_two p) (built_in_run job built_in.Assign s).store.literals
      by (inl a) =
          let v = subst (On p) a.taken w in
          subst (λ (b : Answer). On (popped_two p) b.store.literals) (sym a.is)
          (subst (On (popped_two p)) (sym (assigns_keep job a.values.0 a.values.1.0 (with_literals a.below s)))
          (popped_two_on p (literal.Function a.values.0 ∷ a.values.1.0 ∷ a.below) v))
      by (inr r) = subst (λ (b : Answer). On (popped_two p) b.store.literals) (sym r.is) (popped_two_on p s.literals w)

  -- ---- functions of the style

  positive_above : (n : ℤ) → is_positive n ≡ true → 0 < above_zero n
  positive_above (pos (suc n)) e = omega arith
  positive_above (pos zero) e = absurd (cc)
  positive_above (negsuc n) e = absurd (cc)

  pub told_is : (it : Held) (n : ℤ) → is_told it ≡ true → IsHeld it (literal.Integer n) → is_positive n ≡ true → 0 < k
  told_is held.Same n e h so =
      let same : n ≡ h.0 = cc in let more = positive_above h.0 (ap is_positive (sym same) ∙ so) in let l = h.1.1 in omega (arith, more, l)
  told_is held.Told n e h so = let same : n ≡ h.0 = cc in h.1.1 (ap is_positive (sym same) ∙ so)
  told_is it n e h so = absurd (cc)

  joined_is : (it : Held) (n : ℤ) (c : Bool) → IsHeld it (literal.Integer n) → IsHeld (joined_held it) (literal.Integer (lower_if c n))
  joined_is it n c h = by (is_told it) refl
    where
      lower : (c : Bool) → is_told it ≡ true → is_positive (lower_if c n) ≡ true → 0 < k
      lower true e so = told_is it n e h so
      lower false e so = absurd (cc)

      by : (b : Bool) → is_told it ≡ b → IsHeld (cond b held.Told held.Number) (literal.Integer (lower_if c n))
      by true e = (lower_if c n, (refl, lower c e))
      by false e = (lower_if c n, refl)

  record Two (a b : Held) (ys : List Literal) : Type 0 where
    one : ℤ
    other : ℤ
    below : List Literal
    is : ys ≡ literal.Integer one ∷ literal.Integer other ∷ below

  two_is : (p : Pile) (ys : List Literal) → (is_integer p.first && is_integer p.second) ≡ true → On p ys → Two p.first p.second ys
  two_is p ys e w =
      let both = and_both (is_integer p.first) (is_integer p.second) e in
      let a = there p.first (p.second ∷ p.third ∷ p.fourth ∷ p.fifth ∷ p.sixth ∷ p.seventh ∷ p.eighth ∷ []) ys (integer_there p.first both.0) w in
      let b = there p.second (p.third ∷ p.fourth ∷ p.fifth ∷ p.sixth ∷ p.seventh ∷ p.eighth ∷ []) a.others (integer_there p.second both.1) a.below in
      let i = integer_is p.first a.first both.0 a.holds in
      let j = integer_is p.second b.first both.1 b.holds in
      record {
        one = i.0;
        other = j.0;
        below = b.others;
        is = a.is ∙ ap (λ (y : Literal). y ∷ a.others) i.1
            ∙ ap (λ (zs : List Literal). literal.Integer i.0 ∷ zs) (b.is ∙ ap (λ (y : Literal). y ∷ b.others) j.1);
      }

  called_done : (job : Job) (d number : ℕ) (p : Pile) (f : Kind) → KindHolds job.style f number → (bodies loops left : ℕ) (s : State) → On p s.store.literals
      → IfDone (LeftIn (called_held f p)) (act job d (Run (callee.User number)) bodies loops left s)
  called_done job d number p f h bodies loops left s w = by f h
    where
      o : Outcome
      o = act job d (Run (callee.User number)) bodies loops left s

      negated : KindHolds job.style kind.Not number → (b : Bool) → is_integer p.first ≡ b
          → IfDone (LeftIn (cond b (push held.Number (popped p)) nothing_held)) o
      negated g false e = any_done o
      negated g true e =
          let a = there p.first (p.second ∷ p.third ∷ p.fourth ∷ p.fifth ∷ p.sixth ∷ p.seventh ∷ p.eighth ∷ []) s.store.literals (integer_there p.first e) w in
          let i = integer_is p.first a.first e a.holds in
          if_weaker (LeavesIn (truth (not (is_positive i.0)) ∷ a.others) s.store) (LeftIn (push held.Number (popped p))) o
          (not_to job d number g.0 g.1.0 g.1.1 i.0 a.others bodies loops left s (a.is ∙ ap (λ (y : Literal). y ∷ a.others) i.1))
          (λ t q. subst (On (push held.Number (popped p))) (sym q.0)
          (pushed_on held.Number (popped p) (truth (not (is_positive i.0))) a.others (truth_is (not (is_positive i.0)))
          (popped_on p (a.first ∷ a.others) (subst (On p) a.is w))))

      either : KindHolds job.style kind.Or number → (b : Bool) → (is_integer p.first && is_integer p.second) ≡ b
          → IfDone (LeftIn (cond b (push held.Number (popped_two p)) nothing_held)) o
      either g false e = any_done o
      either g true e =
          let a = two_is p s.store.literals e w in
          if_weaker (LeavesIn (literal.Integer (one_if (is_positive a.one) a.other) ∷ a.below) s.store) (LeftIn (push held.Number (popped_two p))) o
          (or_to job d number g.0 g.1 a.one a.other a.below bodies loops left s a.is)
          (λ t q. subst (On (push held.Number (popped_two p))) (sym q.0)
          (pushed_on held.Number (popped_two p) (literal.Integer (one_if (is_positive a.one) a.other)) a.below (one_if (is_positive a.one) a.other, refl)
          (popped_two_on p (literal.Integer a.one ∷ literal.Integer a.other ∷ a.below) (subst (On p) a.is w))))

      joined : KindHolds job.style kind.And number → (b : Bool) → (is_integer p.first && is_integer p.second) ≡ b
          → IfDone (LeftIn (cond b (push (joined_held p.second) (popped_two p)) nothing_held)) o
      joined g false e = any_done o
      joined g true e =
          let a = two_is p s.store.literals e w in
          let v = subst (On p) a.is w in
          if_weaker (LeavesIn (literal.Integer (lower_if (is_positive a.one) a.other) ∷ a.below) s.store) (LeftIn (push (joined_held p.second) (popped_two p))) o
          (and_to job d number g.0 g.1 a.one a.other a.below bodies loops left s a.is)
          (λ t q. subst (On (push (joined_held p.second) (popped_two p))) (sym q.0)
          (pushed_on (joined_held p.second) (popped_two p) (literal.Integer (lower_if (is_positive a.one) a.other)) a.below
          (joined_is p.second a.other (is_positive a.one) v.1.0)
          (popped_two_on p (literal.Integer a.one ∷ literal.Integer a.other ∷ a.below) v)))

      by : (f : Kind) → KindHolds job.style f number → IfDone (LeftIn (called_held f p)) o
      by kind.Other g = any_done o
      by kind.Not g = negated g (is_integer p.first) refl
      by kind.Or g = either g (is_integer p.first && is_integer p.second) refl
      by kind.And g = joined g (is_integer p.first && is_integer p.second) refl

  -- ---- tokens one after another

  module _ (job : Job) (kinds : ℕ → Kind) (kinds_hold : KindsHold job.style kinds) (d : ℕ) where
    built_in_done : (f : BuiltIn) (p : Pile) (bodies loops left : ℕ) (s : State) → On p s.store.literals
        → IfDone (LeftIn (built_in_held p f)) (act job d (Run (callee.BuiltIn f)) bodies loops left s)
    built_in_done built_in.Duplicate p bodies loops left s w =
        one_to job d (Run (callee.BuiltIn built_in.Duplicate)) (Left (push p.first p)) bodies loops left s (double_so job p s.store w)
    built_in_done built_in.Swap p bodies loops left s w =
        one_to job d (Run (callee.BuiltIn built_in.Swap)) (Left (swapped_held p)) bodies loops left s (swap_so job p s.store w)
    built_in_done built_in.Substring p bodies loops left s w =
        one_to job d (Run (callee.BuiltIn built_in.Substring)) (Left (push held.Text (popped (popped_two p)))) bodies loops left s (parts_so job p s.store w)
    built_in_done built_in.Concatenate p bodies loops left s w =
        one_to job d (Run (callee.BuiltIn built_in.Concatenate)) (Left (push held.Text (popped_two p))) bodies loops left s (joins_so job p s.store w)
    built_in_done built_in.Equals p bodies loops left s w =
        one_to job d (Run (callee.BuiltIn built_in.Equals)) (Left (push held.Number (popped_two p))) bodies loops left s (equals_so job p s.store w)
    built_in_done built_in.Greater p bodies loops left s w =
        one_to job d (Run (callee.BuiltIn built_in.Greater)) (Left (push (greater_held p.first p.second) (popped_two p))) bodies loops left s (greater_so job p s.store w)
    built_in_done built_in.Plus p bodies loops left s w =
        one_to job d (Run (callee.BuiltIn built_in.Plus)) (Left (push (sum_held p.first p.second) (popped_two p))) bodies loops left s (sum_so job p s.store w)
    built_in_done built_in.Assign p bodies loops left s w =
        one_to job d (Run (callee.BuiltIn built_in.Assign)) (Left (popped_two p)) bodies loops left s (assign_so job p s.store w)
    built_in_done f p bodies loops left s w = any_done (act job d (Run (callee.BuiltIn f)) bodies loops left s)

    token_done : (x : Token) (p : Pile) (bodies loops left : ℕ) (s : State) → On p s.store.literals
        → IfDone (LeftIn (pile_after kinds p x)) (act job d x bodies loops left s)
    token_done (Quote f) p bodies loops left s w =
        one_to job d (Quote f) (Left (push held.Anything p)) bodies loops left s
        (so_by (Left (push held.Anything p)) _ _ (quote_step job f s.store)
        (pushes_so (Left (push held.Anything p)) step_output.Nothing (literal.Function f) s.store
        (pushed_on held.Anything p (literal.Function f) s.store.literals tt w)))
    token_done (token.Integer n) p bodies loops left s w =
        one_to job d (token.Integer n) (Left (push (number_held n) p)) bodies loops left s
        (so_by (Left (push (number_held n) p)) _ _ (integer_step job n s.store)
        (pushes_so (Left (push (number_held n) p)) step_output.Nothing (literal.Integer n) s.store
        (pushed_on (number_held n) p (literal.Integer n) s.store.literals (number_is n) w)))
    token_done (token.Text i) p bodies loops left s w =
        one_to job d (token.Text i) (Left (push held.Text p)) bodies loops left s
        (so_by (Left (push held.Text p)) _ _ (word_step job i s.store)
        (text_so (Left (push held.Text p)) (word_of job.style i) s.store
        (pushed_on held.Text p (literal.Text (word_of job.style i)) s.store.literals (word_of job.style i, refl) w)))
    token_done (Run (callee.GlobalInteger v)) p bodies loops left s w =
        one_to job d (Run (callee.GlobalInteger v)) (Left (push held.Number p)) bodies loops left s
        (so_by (Left (push held.Number p)) _ _ (variable_step job v s.store)
        (pushes_so (Left (push held.Number p)) step_output.Nothing (literal.Integer (in_store v s.store)) s.store
        (pushed_on held.Number p (literal.Integer (in_store v s.store)) s.store.literals (in_store v s.store, refl) w)))
    token_done (Run (callee.GlobalString i)) p bodies loops left s w =
        let z = unwrap_or (slice_get s.store.strings i) [] in
        one_to job d (Run (callee.GlobalString i)) (Left (push held.Text p)) bodies loops left s
        (so_by (Left (push held.Text p)) _ _ (string_step job i s.store)
        (pushes_so (Left (push held.Text p)) step_output.Nothing (literal.Text z) s.store
        (pushed_on held.Text p (literal.Text z) s.store.literals (z, refl) w)))
    token_done (Run (callee.BuiltIn f)) p bodies loops left s w = built_in_done f p bodies loops left s w
    token_done (Run (callee.User number)) p bodies loops left s w = called_done job d number p (kinds number) (kinds_hold number) bodies loops left s w
    token_done x p bodies loops left s w = any_done (act job d x bodies loops left s)

    pub through_done : (xs : List Token) (p : Pile) (bodies loops left : ℕ) (s : State) → On p s.store.literals
        → IfDone (LeftIn (pile_through kinds p xs)) (in_turn (act job d) xs bodies loops left s)
    through_done [] p bodies loops left s w = w
    through_done (x ∷ xs) p bodies loops left s w =
        if_then (LeftIn (pile_after kinds p x)) (LeftIn (pile_through kinds p (x ∷ xs))) (act job d x bodies loops left s) (in_turn (act job d) xs bodies loops)
        (token_done x p bodies loops left s w)
        (λ less t v. through_done xs (pile_after kinds p x) bodies loops less t v)

  pub same_on : (n : ℤ) (ys : List Literal) → above_zero n ≤ k → On only_same (literal.Integer n ∷ ys)
  same_on n ys l = pushed_on held.Same nothing_held (literal.Integer n) ys (n, (refl, l)) (nothing_on ys)

  pub low_on : (p : Pile) (ys : List Literal) → is_low p.first ≡ true → On p ys → LowTop k ys
  low_on p [] e w = tt
  low_on p (y ∷ ys) e w = low_is p.first y e w.0
