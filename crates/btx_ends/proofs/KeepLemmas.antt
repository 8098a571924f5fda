-- Tokens that leave a variable no greater than it was do.
use Rattle.std.proofs.Common.{◌≡◌, ℕ, zero, suc, ◌+◌, ◌≤◌, ℤ, pos, Bool, true, false, cond, nat_lt, List, [], ◌∷◌, length, Option, Some, None, refl, arith, sym, ap, subst, ◌∙◌}
use Rattle.std.proofs.Common.{inl, inr}
use Rattle.std.specs.Prelude.{◌≢◌, ◌⊎◌, slice_get, slice_set, slice_index_or, unwrap_or}
use Rattle.btx_bst.specs.declared.built_in.BuiltIn.TheVariants as built_in
use Rattle.btx_bst.specs.declared.callee.Callee.{Callee}
use Rattle.btx_bst.specs.declared.callee.Callee.TheVariants as callee
use Rattle.btx_bst.specs.declared.token.Token.{Token}
use Rattle.btx_bst.specs.declared.token.Token.TheVariants as token
use Rattle.btx_bst.specs.declared.token.Token.TheVariants.{Quote, Run}
use Rattle.btx_stack.specs.declared.literal.Literal.{Literal}
use Rattle.btx_stack.specs.declared.literal.Literal.TheVariants as literal
use Rattle.btx_text.specs.declared.limits.Limit.TheVariants as limit
use Rattle.btx_step.specs.declared.next.Next.{Next}
use Rattle.btx_step.specs.declared.next.Next.TheVariants as next
use Rattle.btx_step.specs.declared.said.StepOutput.TheVariants as step_output
use Rattle.btx_step.specs.language.Answers.{Answer, answer, says, with_literals}
use Rattle.btx_step.specs.language.Jobs.{Job}
use Rattle.btx_step.specs.language.Operands.{on_operands}
use Rattle.btx_step.specs.language.Steps as on_store
use Rattle.btx_step.specs.language.Stores.{Store}
use Rattle.btx_step.specs.language.Table.{row}
use Rattle.btx_step.specs.language.Variables as variables
use Rattle.btx_step.specs.laws.Leaves.{is_assignment}
use Rattle.btx_step.specs.refinement.Control as kept_control
use Rattle.btx_step.proofs.LeaveLemmas.{variables_stay}
use Rattle.btx_machine.specs.language.States.{State, state, Outcome, Done, Stopped, Limit}
use Rattle.btx_machine.specs.language.Saying.{said_on}
use Rattle.btx_machine.specs.language.Steps.{executed_by, token_effect, turn_of}
use Rattle.btx_machine.specs.language.Meaning.{Action, most_bodies, most_loops, then_do, after_test}
use Rattle.btx_machine.specs.language.MeaningBySteps.{in_turn, turns, turns_if, body_if, follow, act}
use Rattle.btx_ends.specs.Counters.{value_in, above_zero}
use Rattle.btx_ends.specs.Keeping.{IfDone, pushed_after, pushed_below, most_given, CalleeKeeps, BothKeep, IsLow, AssignKeeps, StepKeeps, TokensKeep, BodiesKeep, TokensKeepValues}
use Rattle.btx_ends.proofs.CounterLemmas.{turn_keeps, at_most_above}
use Rattle.btx_ends.proofs.FineLemmas.{put_value}
use Rattle.btx_ends.proofs.QuietLemmas.{IsQuiet, IsSingleToken, OneOf, step_quiet, choice_next}
use Rattle.btx_ends.proofs.TopLemmas.{literal_of, OnTop, Tops, pushed_on}

pub then_done : (P Q : State → Type 0) (o : Outcome) (go : ℕ → State → Outcome) → IfDone P o → ((left : ℕ) (t : State) → P t → IfDone Q (go left t))
    → IfDone Q (then_do o go)
then_done P Q (Done t left) go h f = f left t h
then_done P Q (Stopped t) go h f = tt
then_done P Q (Limit kind t left) go h f = tt

-- the value of a variable in a store
abbrev in_store : ℕ → Store → ℤ
in_store v s = unwrap_or (slice_get s.integers v) (pos 0)

-- ---- loops

-- nothing follows, the end of the run, or the loop of two functions
abbrev pub LoopOf : Callee → Callee → Next → Type 0
LoopOf f g (next.Loop h k) = (h ≡ f) × (k ≡ g)
LoopOf f g after = IsQuiet after

loop_of : (f g : Callee) (ys : List Literal) (s : Store)
    → LoopOf f g (on_operands (row built_in.While).operands (row built_in.While).default kept_control.loops (literal.Function g ∷ literal.Function f ∷ ys) s).next
loop_of f g ys s = (refl, refl)

pub loop_next : (job : Job) (f g : Callee) (ys : List Literal) (s : Store) → s.literals ≡ literal.Function g ∷ literal.Function f ∷ ys
    → LoopOf f g (on_store.step_of job (Run (callee.BuiltIn built_in.While)) s).next
unfolding on_store.step_of on_store.function_run on_store.built_in_run
loop_next job f g ys s e =
    subst (λ xs. LoopOf f g (on_operands (row built_in.While).operands (row built_in.While).default kept_control.loops xs s).next) (sym e) (loop_of f g ys s)

-- ---- assignments

-- the variable is at most this in a store
abbrev MostIn : ℕ → ℕ → Store → Type 0
MostIn v y r = above_zero (in_store v r) ≤ y

-- what an `:=` assigns to the variable is at most this
abbrev Given : ℕ → ℕ → Callee → Literal → Type 0
Given v y (callee.GlobalInteger w) (literal.Integer m) = w ≡ v → above_zero m ≤ y
Given v y f z = Unit {0}

stored_keeps : (v y w : ℕ) (z : Literal) (s : Store) → Given v y (callee.GlobalInteger w) z → MostIn v y s
    → MostIn v y (variables.stores_integer (variables.with_global_integer w) z s).store
stored_keeps v y w (literal.Integer m) s g h = put_value s.integers w v m y h g
stored_keeps v y w z s g h = h

entry_integer_keeps : (v y entry w : ℕ) (z : Literal) (s : Store) → MostIn v y s
    → MostIn v y (variables.stores_integer (variables.with_entry_integer entry w) z s).store
entry_integer_keeps v y entry w (literal.Integer m) s h = h
entry_integer_keeps v y entry w z s h = h

global_string_keeps : (v y most w : ℕ) (z : Literal) (s : Store) → MostIn v y s
    → MostIn v y (variables.stores_string most (variables.with_global_string w) z s).store
global_string_keeps v y most w (literal.Text text) s h = h
global_string_keeps v y most w z s h = h

entry_string_keeps : (v y most entry w : ℕ) (z : Literal) (s : Store) → MostIn v y s
    → MostIn v y (variables.stores_string most (variables.with_entry_string entry w) z s).store
entry_string_keeps v y most entry w (literal.Text text) s h = h
entry_string_keeps v y most entry w z s h = h

in_entry_keeps : (v y : ℕ) (go : ℕ → Store → Answer) (current : Option ℕ) (s : Store) → ((entry : ℕ) → MostIn v y (go entry s).store) → MostIn v y s
    → MostIn v y (variables.in_entry go current s).store
in_entry_keeps v y go None s f h = h
in_entry_keeps v y go (Some entry) s f h = f entry

assigns_keeps : (job : Job) (v y : ℕ) (f : Callee) (z : Literal) (s : Store) → Given v y f z → MostIn v y s → MostIn v y (variables.assigns job f z s).store
assigns_keeps job v y (callee.GlobalInteger w) z s g h = stored_keeps v y w z s g h
assigns_keeps job v y (callee.GlobalString w) z s g h = global_string_keeps v y job.global_max w z s h
assigns_keeps job v y (callee.EntryInteger w) z s g h =
    in_entry_keeps v y (λ entry. variables.stores_integer (variables.with_entry_integer entry w) z) s.current s (λ entry. entry_integer_keeps v y entry w z s h) h
assigns_keeps job v y (callee.EntryString w) z s g h =
    in_entry_keeps v y (λ entry. variables.stores_string job.entry_max (variables.with_entry_string entry w) z) s.current s
    (λ entry. entry_string_keeps v y job.entry_max entry w z s h) h
assigns_keeps job v y f z s g h = h

-- .. of the literals below the one that it assigns to
abbrev GivenOf : ℕ → ℕ → Callee → List Literal → Type 0
GivenOf v y f [] = Unit {0}
GivenOf v y f (z ∷ zs) = Given v y f z

assign_of : (job : Job) (v y : ℕ) (f : Callee) (zs : List Literal) (s : Store) → GivenOf v y f zs → MostIn v y s
    → MostIn v y (on_operands (row built_in.Assign).operands (row built_in.Assign).default (variables.assigns job) (literal.Function f ∷ zs) s).store
assign_of job v y f [] s g h = h
assign_of job v y f (z ∷ zs) s g h = assigns_keeps job v y f z (with_literals zs s) g h

assign_keeps : (job : Job) (v y : ℕ) (f : Callee) (zs : List Literal) (s : Store) → GivenOf v y f zs → s.literals ≡ literal.Function f ∷ zs → MostIn v y s
    → MostIn v y (on_store.step_of job (Run (callee.BuiltIn built_in.Assign)) s).store
unfolding on_store.step_of on_store.function_run on_store.built_in_run
assign_keeps job v y f zs s g e h =
    subst (λ xs. MostIn v y (on_operands (row built_in.Assign).operands (row built_in.Assign).default (variables.assigns job) xs s).store) (sym e)
    (assign_of job v y f zs s g h)

-- what stands on top
top_is : (x : Token) (below : Option Token) (xs : List Literal) → OnTop (Some x) below xs → (ys : List Literal) × (xs ≡ literal_of x ∷ ys)
top_is x None xs h = h
top_is x (Some y) xs h = (literal_of y ∷ h.0, h.1)

low_most : (one : Bool) (m : ℤ) (y : ℕ) → IsLow one (Some (token.Integer m)) → most_given one ≤ y → above_zero m ≤ y
low_most one m y l k = let a = at_most_above m (most_given one) l in omega (arith, a, k)

-- the value of an assignment that is allowed
given_low : (one : Bool) (v y w : ℕ) (value : Option Token) (zs : List Literal) → IsLow one value → most_given one ≤ y
    → OnTop (Some (Quote (callee.GlobalInteger w))) value (literal.Function (callee.GlobalInteger w) ∷ zs) → GivenOf v y (callee.GlobalInteger w) zs
given_low one v y w value [] l k h = tt
given_low one v y w (Some (token.Integer m)) (literal.Integer n ∷ zs) l k h = λ e.
    let q : literal.Function (callee.GlobalInteger w) ∷ literal.Integer n ∷ zs ≡ literal.Function (callee.GlobalInteger w) ∷ literal.Integer m ∷ h.0 = h.1 in
    let is : n ≡ m = cc in subst (λ i. above_zero i ≤ y) (sym is) (low_most one m y l k)
given_low one v y w (Some (token.Integer m)) (z ∷ zs) l k h = tt
given_low one v y w None zs l k h = absurd l
given_low one v y w (Some x) zs l k h = absurd l

given_other : (v y w : ℕ) (zs : List Literal) → w ≢ v → GivenOf v y (callee.GlobalInteger w) zs
given_other v y w [] h = tt
given_other v y w (literal.Integer n ∷ zs) h = λ e. absurd (h e)
given_other v y w (z ∷ zs) h = tt

given_any : (v y : ℕ) (f : Callee) (zs : List Literal) → ((w : ℕ) → f ≢ callee.GlobalInteger w) → GivenOf v y f zs
given_any v y f [] h = tt
given_any v y (callee.GlobalInteger w) (z ∷ zs) h = absurd (h w refl)
given_any v y f (z ∷ zs) h = tt

-- ---- any other step

step_keeps : (job : Job) (v y : ℕ) (x : Token) (s : Store) → is_assignment x ≡ false → MostIn v y s → MostIn v y (on_store.step_of job x s).store
step_keeps job v y x s a h = subst (λ (r : Store). MostIn v y r) (sym (variables_stay job x s a)) h

effect_value : (job : Job) (v : ℕ) (x : Token) (s : State) → value_in v (token_effect job x s).state ≡ in_store v (on_store.step_of job x s.store).store
unfolding token_effect
effect_value job v x s = refl

next_so : (P : Next → Type 0) (job : Job) (x : Token) (s : State) → P (on_store.step_of job x s.store).next → P (token_effect job x s).next
unfolding token_effect
next_so P job x s h = h

module _ (job : Job) (one : Bool) (keeps : ℕ → Bool) (v : ℕ) (bodies_keep : BodiesKeep one keeps v job.style) (y : ℕ) (given_few : most_given one ≤ y) where
  abbrev Here : State → Type 0
  Here s = above_zero (value_in v s) ≤ y

  abbrev HereWith : Option Token → Option Token → State → Type 0
  HereWith top below s = (above_zero (value_in v s) ≤ y) × Tops top below s

  abbrev Level : ℕ → Type 0
  Level n = (top below : Option Token) (x : Token) → StepKeeps one keeps v top below x → (bodies loops left : ℕ) (s : State) → HereWith top below s
      → IfDone (HereWith (pushed_after x) (pushed_below top x)) (act job n x bodies loops left s)

  tokens_keep : (n : ℕ) → Level n → (xs : List Token) (top below : Option Token) → TokensKeep one keeps v top below xs → (bodies loops left : ℕ) (s : State)
      → HereWith top below s → IfDone Here (in_turn (act job n) xs bodies loops left s)
  tokens_keep n p [] top below k bodies loops left s h = h.0
  tokens_keep n p (x ∷ xs) top below k bodies loops left s h =
      then_done (HereWith (pushed_after x) (pushed_below top x)) Here (act job n x bodies loops left s) (in_turn (act job n) xs bodies loops)
      (p top below x k.0 bodies loops left s h)
      (λ rest t g. tokens_keep n p xs (pushed_after x) (pushed_below top x) k.1 bodies loops rest t g)

  callee_step : (f : Callee) → CalleeKeeps keeps f → StepKeeps one keeps v None None (Run f)
  callee_step (callee.BuiltIn built_in.Assign) h = absurd h
  callee_step (callee.BuiltIn built_in.CallType) h = absurd h
  callee_step (callee.BuiltIn built_in.If) h = absurd h
  callee_step (callee.BuiltIn built_in.While) h = absurd h
  callee_step (callee.BuiltIn f) h = h
  callee_step f h = h

  -- a function, by its name alone
  callee_keeps : (n : ℕ) → Level n → (f : Callee) → CalleeKeeps keeps f → (bodies loops left : ℕ) (s : State) → Here s
      → IfDone Here (act job n (Run f) bodies loops left s)
  callee_keeps n p f h bodies loops left s e = weaken (act job n (Run f) bodies loops left s) (p None None (Run f) (callee_step f h) bodies loops left s (e, tt))
    where
      weaken : (o : Outcome) → IfDone (HereWith None None) o → IfDone Here o
      weaken (Done t rest) g = g.0
      weaken (Stopped t) g = tt
      weaken (Limit kind t rest) g = tt

  after_keeps : (again : Bool) (t : State) (left : ℕ) (go : ℕ → State → Outcome) → Here t → ((rest : ℕ) (u : State) → Here u → IfDone Here (go rest u))
      → IfDone Here (after_test again t left go)
  after_keeps true t left go h f = f left t h
  after_keeps false t left go h f = h

  turns_keep : (test body : Action) → ((bodies loops left : ℕ) (s : State) → Here s → IfDone Here (test bodies loops left s))
      → ((bodies loops left : ℕ) (s : State) → Here s → IfDone Here (body bodies loops left s)) → (most bodies loops left : ℕ) (s : State) → Here s
      → IfDone Here (turns job most test body bodies loops left s)
  turns_keep test body f g zero bodies loops left s h = tt
  turns_keep test body f g (suc most) bodies loops left s h =
      then_done Here Here (test bodies loops left s) _ (f bodies loops left s h)
      (λ rest t e. after_keeps (turn_of job t).again (turn_of job t).state rest _ (subst (λ n. above_zero n ≤ y) (sym (turn_keeps job v t)) e)
      (λ rest1 u e1. then_done Here Here (body bodies loops rest1 u) (turns job most test body bodies loops) (g bodies loops rest1 u e1)
      (λ rest2 w e2. turns_keep test body f g most bodies loops rest2 w e2)))

  -- what follows a step
  abbrev NextKeeps : Next → Type 0
  NextKeeps next.Nothing = Unit {0}
  NextKeeps (next.End limit) = Unit {0}
  NextKeeps (next.Run f) = CalleeKeeps keeps f
  NextKeeps (next.Open number) = keeps number ≡ true
  NextKeeps (next.Loop f g) = CalleeKeeps keeps f × CalleeKeeps keeps g

  body_keeps : (n : ℕ) → Level n → (number : ℕ) → keeps number ≡ true → (more : Bool) (bodies loops left : ℕ) (s : State) → Here s
      → IfDone Here (body_if more (act job n) (slice_index_or job.style.bodies number []) bodies loops left s)
  body_keeps n p number k true bodies loops left s h =
      tokens_keep n p (slice_index_or job.style.bodies number []) None None (bodies_keep number k) (bodies + 1) loops left _ (h, tt)
  body_keeps n p number k false bodies loops left s h = tt

  loop_keeps : (n : ℕ) → Level n → (f g : Callee) → CalleeKeeps keeps f → CalleeKeeps keeps g → (more : Bool) (bodies loops left : ℕ) (s : State) → Here s
      → IfDone Here (turns_if job more n (act job n (Run f)) (act job n (Run g)) bodies loops left s)
  loop_keeps n p f g kf kg true bodies loops left s h =
      turns_keep (act job n (Run f)) (act job n (Run g)) (callee_keeps n p f kf) (callee_keeps n p g kg) n bodies (loops + 1) left s h
  loop_keeps n p f g kf kg false bodies loops left s h = tt

  follow_keeps : (n : ℕ) → Level n → (after : Next) → NextKeeps after → (bodies loops left : ℕ) (s : State) → Here s
      → IfDone Here (follow job (act job n) n after s bodies loops left)
  follow_keeps n p next.Nothing k bodies loops left s h = h
  follow_keeps n p (next.End limit) k bodies loops left s h = tt
  follow_keeps n p (next.Run f) k bodies loops left s h = callee_keeps n p f k bodies loops left s h
  follow_keeps n p (next.Open number) k bodies loops left s h = body_keeps n p number k (nat_lt bodies most_bodies) bodies loops left s h
  follow_keeps n p (next.Loop f g) k bodies loops left s h = loop_keeps n p f g k.0 k.1 (nat_lt loops most_loops) bodies loops left s h

  stepped : (n : ℕ) → Level n → (x : Token) (s : State) → NextKeeps (on_store.step_of job x s.store).next
      → MostIn v y (on_store.step_of job x s.store).store → (bodies loops left : ℕ)
      → IfDone Here (act job (suc n) x bodies loops left s)
  stepped n p x s k h bodies loops zero = tt
  stepped n p x s k h bodies loops (suc left) =
      follow_keeps n p (token_effect job x s).next (next_so NextKeeps job x s k) bodies loops left (token_effect job x s).state
      (subst (λ n. above_zero n ≤ y) (sym (effect_value job v x s)) h)

  quiet_keeps : (after : Next) → IsQuiet after → NextKeeps after
  quiet_keeps next.Nothing h = tt
  quiet_keeps (next.End limit) h = tt
  quiet_keeps (next.Run f) h = absurd h
  quiet_keeps (next.Open number) h = absurd h
  quiet_keeps (next.Loop f g) h = absurd h

  choice_keeps : (f g : Callee) (after : Next) → OneOf f g after → CalleeKeeps keeps f → CalleeKeeps keeps g → NextKeeps after
  choice_keeps f g next.Nothing h kf kg = tt
  choice_keeps f g (next.End limit) h kf kg = tt
  choice_keeps f g (next.Run k) (inl e) kf kg = subst (CalleeKeeps keeps) (sym e) kf
  choice_keeps f g (next.Run k) (inr e) kf kg = subst (CalleeKeeps keeps) (sym e) kg
  choice_keeps f g (next.Open number) h kf kg = absurd h
  choice_keeps f g (next.Loop test body) h kf kg = absurd h

  loops_keep : (f g : Callee) (after : Next) → LoopOf f g after → CalleeKeeps keeps f → CalleeKeeps keeps g → NextKeeps after
  loops_keep f g next.Nothing h kf kg = tt
  loops_keep f g (next.End limit) h kf kg = tt
  loops_keep f g (next.Run k) h kf kg = absurd h
  loops_keep f g (next.Open number) h kf kg = absurd h
  loops_keep f g (next.Loop test body) h kf kg = (subst (CalleeKeeps keeps) (sym h.0) kf, subst (CalleeKeeps keeps) (sym h.1) kg)

  -- with nothing known of the stack afterwards
  plainly : (o : Outcome) → IfDone Here o → IfDone (HereWith None None) o
  plainly (Done t rest) h = (h, tt)
  plainly (Stopped t) h = tt
  plainly (Limit kind t rest) h = tt

  single : (n : ℕ) → Level n → (x : Token) → IsSingleToken x → is_assignment x ≡ false → (bodies loops left : ℕ) (s : State) → Here s
      → IfDone (HereWith None None) (act job (suc n) x bodies loops left s)
  single n p x alone a bodies loops left s h =
      plainly _ (stepped n p x s (quiet_keeps _ (step_quiet job x s.store alone)) (step_keeps job v y x s.store a h) bodies loops left)

  quote_keeps : (n : ℕ) (top below : Option Token) (f : Callee) (bodies loops left : ℕ) (s : State) → HereWith top below s
      → IfDone (HereWith (Some (Quote f)) top) (act job (suc n) (Quote f) bodies loops left s)
  unfolding token_effect on_store.step_of
  quote_keeps n top below f bodies loops zero s h = tt
  quote_keeps n top below f bodies loops (suc left) s h = pushed (nat_lt (length s.store.literals) 1000)
    where
      pushed : (yes : Bool) →
          (let a = cond yes (says step_output.Nothing (with_literals (literal.Function f ∷ s.store.literals) s.store))
          (answer (next.End limit.Literals) step_output.Nothing s.store) in
          IfDone (HereWith (Some (Quote f)) top) (follow job (act job n) n a.next
          (state a.store (said_on job (executed_by job.style.names (Quote f)) a.store.current a.said s.out)) bodies loops left))
      pushed true = (h.0, pushed_on top below (Quote f) s.store.literals h.1)
      pushed false = tt

  integer_keeps : (n : ℕ) (top below : Option Token) (i : ℤ) (bodies loops left : ℕ) (s : State) → HereWith top below s
      → IfDone (HereWith (Some (token.Integer i)) top) (act job (suc n) (token.Integer i) bodies loops left s)
  unfolding token_effect on_store.step_of
  integer_keeps n top below i bodies loops zero s h = tt
  integer_keeps n top below i bodies loops (suc left) s h = pushed (nat_lt (length s.store.literals) 1000)
    where
      pushed : (yes : Bool) →
          (let a = cond yes (says step_output.Nothing (with_literals (literal.Integer i ∷ s.store.literals) s.store))
          (answer (next.End limit.Literals) step_output.Nothing s.store) in
          IfDone (HereWith (Some (token.Integer i)) top) (follow job (act job n) n a.next
          (state a.store (said_on job (executed_by job.style.names (token.Integer i)) a.store.current a.said s.out)) bodies loops left))
      pushed true = (h.0, pushed_on top below (token.Integer i) s.store.literals h.1)
      pushed false = tt

  opened : (number : ℕ) (s : State) → keeps number ≡ true → NextKeeps (on_store.step_of job (Run (callee.User number)) s.store).next
  unfolding on_store.step_of on_store.function_run
  opened number s k = k

  both_keep : (n : ℕ) → Level n → (top below : Option Token) → BothKeep keeps top below → (bodies loops left : ℕ) (s : State) → HereWith top below s
      → IfDone (HereWith None None) (act job (suc n) (Run (callee.BuiltIn built_in.If)) bodies loops left s)
  both_keep n p (Some (Quote g)) (Some (Quote f)) k bodies loops left s h =
      plainly _ (stepped n p (Run (callee.BuiltIn built_in.If)) s (choice_keeps f g _ (choice_next job f g h.1.0 s.store h.1.1) k.1 k.0)
      (step_keeps job v y (Run (callee.BuiltIn built_in.If)) s.store refl h.0) bodies loops left)
  both_keep n p (Some (Quote g)) below k bodies loops left s h = absurd k
  both_keep n p top below k bodies loops left s h = absurd k

  while_keeps : (n : ℕ) → Level n → (top below : Option Token) → BothKeep keeps top below → (bodies loops left : ℕ) (s : State) → HereWith top below s
      → IfDone (HereWith None None) (act job (suc n) (Run (callee.BuiltIn built_in.While)) bodies loops left s)
  while_keeps n p (Some (Quote g)) (Some (Quote f)) k bodies loops left s h =
      plainly _ (stepped n p (Run (callee.BuiltIn built_in.While)) s (loops_keep f g _ (loop_next job f g h.1.0 s.store h.1.1) k.1 k.0)
      (step_keeps job v y (Run (callee.BuiltIn built_in.While)) s.store refl h.0) bodies loops left)
  while_keeps n p (Some (Quote g)) below k bodies loops left s h = absurd k
  while_keeps n p top below k bodies loops left s h = absurd k

  -- an `:=` of which this is known
  assigned : (n : ℕ) → Level n → (f : Callee) (below : Option Token) → ((zs : List Literal) → OnTop (Some (Quote f)) below (literal.Function f ∷ zs) → GivenOf v y f zs)
      → (bodies loops left : ℕ) (s : State) → HereWith (Some (Quote f)) below s
      → IfDone (HereWith None None) (act job (suc n) (Run (callee.BuiltIn built_in.Assign)) bodies loops left s)
  assigned n p f below g bodies loops left s h =
      let stands = top_is (Quote f) below s.store.literals h.1 in
      plainly _ (stepped n p (Run (callee.BuiltIn built_in.Assign)) s (quiet_keeps _ (step_quiet job (Run (callee.BuiltIn built_in.Assign)) s.store tt))
      (assign_keeps job v y f stands.0 s.store (g stands.0 (subst (λ (xs : List Literal). OnTop (Some (Quote f)) below xs) stands.1 h.1)) stands.1 h.0)
      bodies loops left)

  other_keeps : (n : ℕ) → Level n → (top below : Option Token) → AssignKeeps one v top below → (bodies loops left : ℕ) (s : State) → HereWith top below s
      → IfDone (HereWith None None) (act job (suc n) (Run (callee.BuiltIn built_in.Assign)) bodies loops left s)
  other_keeps n p (Some (Quote (callee.GlobalInteger w))) below (inl k) bodies loops left s h =
      assigned n p (callee.GlobalInteger w) below (λ zs st. given_other v y w zs k) bodies loops left s h
  other_keeps n p (Some (Quote (callee.GlobalInteger w))) below (inr k) bodies loops left s h =
      assigned n p (callee.GlobalInteger w) below (λ zs st. given_low one v y w below zs k given_few st) bodies loops left s h
  other_keeps n p (Some (Quote f)) below k bodies loops left s h =
      assigned n p f below (λ zs st. given_any v y f zs (λ w e. absurd (cc))) bodies loops left s h
  other_keeps n p top below k bodies loops left s h = absurd k

  level_next : (n : ℕ) → Level n → Level (suc n)
  level_next n p top below (token.Text i) k bodies loops left s h = single n p (token.Text i) tt refl bodies loops left s h.0
  level_next n p top below (token.Integer i) k bodies loops left s h = integer_keeps n top below i bodies loops left s h
  level_next n p top below (Quote f) k bodies loops left s h = quote_keeps n top below f bodies loops left s h
  level_next n p top below (Run (callee.BuiltIn built_in.If)) k bodies loops left s h = both_keep n p top below k bodies loops left s h
  level_next n p top below (Run (callee.BuiltIn built_in.While)) k bodies loops left s h = while_keeps n p top below k bodies loops left s h
  level_next n p top below (Run (callee.BuiltIn built_in.Assign)) k bodies loops left s h = other_keeps n p top below k bodies loops left s h
  level_next n p top below (Run (callee.BuiltIn built_in.CallType)) k bodies loops left s h = absurd k
  level_next n p top below (Run (callee.BuiltIn f)) k bodies loops left s h = single n p (Run (callee.BuiltIn f)) tt refl bodies loops left s h.0
  level_next n p top below (Run (callee.User number)) k bodies loops left s h =
      plainly _ (stepped n p (Run (callee.User number)) s (opened number s k) (step_keeps job v y (Run (callee.User number)) s.store refl h.0) bodies loops left)
  level_next n p top below (Run f) k bodies loops left s h = single n p (Run f) tt refl bodies loops left s h.0

  level : (n : ℕ) → Level n
  level zero = λ top below x k bodies loops left s h. tt
  level (suc n) = level_next n (level n)

pub tokens_keep_values : TokensKeepValues
tokens_keep_values job one keeps v k xs keep depth most few bodies loops left s h =
    tokens_keep job one keeps v k most few depth (level job one keeps v k most few depth) xs None None keep bodies loops left s (h, tt)
