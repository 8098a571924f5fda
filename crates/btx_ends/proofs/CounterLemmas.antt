-- Loops that count a variable down end.
use Rattle.std.proofs.Common.{◌≡◌, ℕ, zero, suc, ◌+◌, ◌*◌, ◌≤◌, ◌<◌, ℤ, pos, negsuc, Bool, true, false, cond, nat_lt, List, [], ◌∷◌, ◌++◌, length, refl, arith, sym, ap, subst, ◌∙◌}
use Rattle.std.specs.Prelude.{slice_get, slice_set, slice_index_or, unwrap_or, int_lt, ◌-ℤ◌, ◌≤ℤ◌}
use Rattle.std.proofs.lemmas.Int.{ints}
use Rattle.btx_bst.specs.declared.callee.Callee.{Callee}
use Rattle.btx_step.specs.declared.said.StepOutput.{StepOutput}
use Rattle.btx_step.specs.declared.said.Note.TheVariants as note
use Rattle.btx_step.specs.language.Arithmetic.{fits, result_of}
use Rattle.btx_step.specs.language.Variables.{with_global_integer}
use Rattle.btx_bst.specs.declared.built_in.BuiltIn.TheVariants as built_in
use Rattle.btx_bst.specs.declared.callee.Callee.TheVariants as callee
use Rattle.btx_bst.specs.declared.token.Token.{Token}
use Rattle.btx_bst.specs.declared.token.Token.TheVariants as token
use Rattle.btx_names.specs.language.NameLists.{names_of}
use Rattle.btx_stack.specs.declared.literal.Literal.{Literal}
use Rattle.btx_stack.specs.declared.literal.Literal.TheVariants as literal
use Rattle.btx_text.specs.declared.limits.Limit.TheVariants as limit
use Rattle.btx_step.specs.declared.next.Next.TheVariants as next
use Rattle.btx_step.specs.declared.said.StepOutput.TheVariants as step_output
use Rattle.btx_step.specs.language.Answers.{Answer, answer, says, with_literals, pushes, pushed, done, truth}
use Rattle.btx_step.specs.language.Control.{tested}
use Rattle.btx_step.specs.language.Jobs.{Job}
use Rattle.btx_step.specs.language.Operands.{on_operands}
use Rattle.btx_step.specs.language.Steps.{step_of, function_run, built_in_run}
use Rattle.btx_step.specs.language.Stores.{Store}
use Rattle.btx_step.specs.language.Table.{row}
use Rattle.btx_machine.specs.language.States.{State, state, Outcome, Done, Stopped, Limit}
use Rattle.btx_machine.specs.language.Saying.{said_on}
use Rattle.btx_machine.specs.language.Steps.{executed_by, token_effect, turn_of}
use Rattle.btx_machine.specs.language.Meaning.{Action, most_bodies, then_do}
use Rattle.btx_machine.specs.language.MeaningBySteps.{in_turn, turns, body_if, follow, act}
use Rattle.btx_ends.specs.Costs.{Ended, EndsIn}
use Rattle.btx_ends.specs.Counters.{value_in, above_zero, IsAboveZero, CountsDown, CountersEnd, less_one, LessOneCounts, Keeps, CountedLoopsEnd}
use Rattle.btx_ends.specs.Keeping.{IfDone}
use Rattle.btx_ends.proofs.EndLemmas.{then_ends, at_most, step_ends, loops_end_in}

-- ---- a step that pushes

-- the global variables are those of `r`
abbrev pub SameVariables : Store → State → Type 0
SameVariables r t = (t.store.integers ≡ r.integers) × (t.store.strings ≡ r.strings)

-- a literal was pushed on those of `r`
abbrev pub Pushed : Literal → Store → State → Type 0
Pushed y r t = (t.store.literals ≡ y ∷ r.literals) × SameVariables r t

follow_pushed : (job : Job) (x : Token) (y : Literal) (e : ℕ) (s : State) (r : Store) (a : Answer) → a ≡ pushed y r → (bodies loops left : ℕ)
    → Ended 0 (Pushed y r) left
    (follow job (act job e) e a.next (state a.store (said_on job (executed_by job.style.names x) a.store.current a.said s.out)) bodies loops left)
follow_pushed job x y e s r a eq bodies loops left =
    subst (λ (b : Answer). Ended 0 (Pushed y r) left
    (follow job (act job e) e b.next (state b.store (said_on job (executed_by job.style.names x) b.store.current b.said s.out)) bodies loops left)) (sym eq)
    (by (nat_lt (length r.literals) 1000))
  where
    by : (yes : Bool) →
        (let b = cond yes (says step_output.Nothing (with_literals (y ∷ r.literals) r)) (answer (next.End limit.Literals) step_output.Nothing r) in
        Ended 0 (Pushed y r) left
        (follow job (act job e) e b.next (state b.store (said_on job (executed_by job.style.names x) b.store.current b.said s.out)) bodies loops left))
    by true = ((refl, (refl, refl)), omega arith)
    by false = omega arith

pub effect_pushed : (job : Job) (x : Token) (y : Literal) (e : ℕ) (s : State) (r : Store) → step_of job x s.store ≡ pushed y r → (bodies loops left : ℕ)
    → Ended 0 (Pushed y r) left (follow job (act job e) e (token_effect job x s).next (token_effect job x s).state bodies loops left)
unfolding token_effect
effect_pushed job x y e s r eq bodies loops left = follow_pushed job x y e s r (step_of job x s.store) eq bodies loops left

pub push_ends : (job : Job) (x : Token) (y : Literal) (e : ℕ) (s : State) (r : Store) → step_of job x s.store ≡ pushed y r → (bodies loops left : ℕ) → 1 ≤ left
    → Ended 1 (Pushed y r) left (act job (suc e) x bodies loops left s)
push_ends job x y e s r eq bodies loops left l =
    at_most (0 + 1) 1 left (Pushed y r) _ (omega arith)
    (step_ends job e x (Pushed y r) 0 bodies loops left s (λ less m. effect_pushed job x y e s r eq bodies loops less) (omega (arith, l)))

-- ---- the three tokens of the test

pub variable_step : (job : Job) (v : ℕ) (s : Store)
    → step_of job (token.Run (callee.GlobalInteger v)) s ≡ pushed (literal.Integer (unwrap_or (slice_get s.integers v) (pos 0))) s
unfolding step_of function_run
variable_step job v s = refl

zero_step : (job : Job) (s : Store) → step_of job (token.Integer (pos 0)) s ≡ pushed (literal.Integer (pos 0)) s
unfolding step_of
zero_step job s = refl

pub greater_step : (job : Job) (b a : ℤ) (ys : List Literal) (s : Store) → s.literals ≡ literal.Integer b ∷ literal.Integer a ∷ ys
    → step_of job (token.Run (callee.BuiltIn built_in.Greater)) s ≡ pushed (truth (int_lt b a)) (with_literals ys s)
unfolding step_of function_run built_in_run
greater_step job b a ys s e =
    ap (λ xs. on_operands (row built_in.Greater).operands (row built_in.Greater).default ((row built_in.Greater).does job) xs s) e

-- the value of a variable in a store
abbrev pub in_store : ℕ → Store → ℤ
in_store v s = unwrap_or (slice_get s.integers v) (pos 0)

-- after the test: the variables are as they were in `r`, and the answer stands on top
pub record Tested (v : ℕ) (r : Store) (t : State) : Type 0 where
  pub same : SameVariables r t
  pub below : List Literal
  pub top : t.store.literals ≡ truth (int_lt (pos 0) (in_store v r)) ∷ below

test_tokens : (job : Job) (v : ℕ) (r : Store) (e : ℕ) → EndsIn 3 (SameVariables r)
    (in_turn (act job (suc e)) (token.Run (callee.GlobalInteger v) ∷ token.Integer (pos 0) ∷ token.Run (callee.BuiltIn built_in.Greater) ∷ [])) (Tested v r)
test_tokens job v r e bodies loops left s h l =
    then_ends 1 2 left (Pushed (literal.Integer (value_in v s)) s.store) (Tested v r) _ _
    (push_ends job (token.Run (callee.GlobalInteger v)) (literal.Integer (value_in v s)) e s s.store (variable_step job v s.store) bodies loops left (omega (arith, l)))
    l
    (λ left1 t p m. then_ends 1 1 left1 (Pushed (literal.Integer (pos 0)) t.store) (Tested v r) _ _
    (push_ends job (token.Integer (pos 0)) (literal.Integer (pos 0)) e t t.store (zero_step job t.store) bodies loops left1 (omega (arith, m)))
    m
    (λ left2 u q n. then_ends 1 0 left2 (Pushed (truth (int_lt (pos 0) (value_in v s))) (with_literals s.store.literals u.store)) (Tested v r) _ _
    (push_ends job (token.Run (callee.BuiltIn built_in.Greater)) (truth (int_lt (pos 0) (value_in v s))) e u (with_literals s.store.literals u.store)
    (greater_step job (pos 0) (value_in v s) s.store.literals u.store (q.0 ∙ ap (λ (xs : List Literal). literal.Integer (pos 0) ∷ xs) p.0)) bodies loops left2 (omega (arith, n)))
    n
    (λ left3 w g k. (
      record {
        same = (g.1.0 ∙ q.1.0 ∙ p.1.0 ∙ h.0, g.1.1 ∙ q.1.1 ∙ p.1.1 ∙ h.1);
        below = s.store.literals;
        top = g.0 ∙ ap (λ (xs : List ℤ). truth (int_lt (pos 0) (unwrap_or (slice_get xs v) (pos 0))) ∷ s.store.literals) h.0;
      },
      omega arith,
    ))))

pub opens : (job : Job) (number : ℕ) (s : State) (e bodies loops left : ℕ) (goal : State → Type 0) (cost : ℕ)
    → ((t : State) → SameVariables s.store t → Ended cost goal left (in_turn (act job e) (slice_index_or job.style.bodies number []) (bodies + 1) loops left t))
    → (yes : Bool) → Ended cost goal left (body_if yes (act job e) (slice_index_or job.style.bodies number []) bodies loops left s)
opens job number s e bodies loops left goal cost f true = f _ (refl, refl)
opens job number s e bodies loops left goal cost f false = omega arith

effect_opens : (job : Job) (number : ℕ) (s : State) (e bodies loops left : ℕ) (goal : State → Type 0) (cost : ℕ)
    → ((t : State) → SameVariables s.store t → Ended cost goal left (in_turn (act job e) (slice_index_or job.style.bodies number []) (bodies + 1) loops left t))
    → Ended cost goal left (follow job (act job e) e (token_effect job (token.Run (callee.User number)) s).next
    (token_effect job (token.Run (callee.User number)) s).state bodies loops left)
unfolding token_effect step_of function_run said_on
effect_opens job number s e bodies loops left goal cost f =
    opens job number s e bodies loops left goal cost f (nat_lt bodies most_bodies)

-- what holds of the outcome of a body, and of the end at the limit of open bodies, holds of a call
opens_by : (job : Job) (number : ℕ) (s : State) (e bodies loops left : ℕ) (P : Outcome → Type 0) → P (Limit limit.Calls s left)
    → ((t : State) → SameVariables s.store t → P (in_turn (act job e) (slice_index_or job.style.bodies number []) (bodies + 1) loops left t))
    → (yes : Bool) → P (body_if yes (act job e) (slice_index_or job.style.bodies number []) bodies loops left s)
opens_by job number s e bodies loops left P h f true = f _ (refl, refl)
opens_by job number s e bodies loops left P h f false = h

pub opens_to : (job : Job) (number : ℕ) (s : State) (e bodies loops left : ℕ) (P : State → Type 0)
    → ((t : State) → SameVariables s.store t → IfDone P (in_turn (act job e) (slice_index_or job.style.bodies number []) (bodies + 1) loops left t))
    → IfDone P (act job (suc e) (token.Run (callee.User number)) bodies loops (suc left) s)
unfolding token_effect step_of function_run said_on
opens_to job number s e bodies loops left P f =
    opens_by job number s e bodies loops left (λ (o : Outcome). IfDone P o) tt f (nat_lt bodies most_bodies)

pub test_ends : (job : Job) (test v depth : ℕ) → IsAboveZero job test v → 4 < depth → (bodies loops left : ℕ) (s : State) → 4 ≤ left
    → Ended 4 (Tested v s.store) left (act job depth (token.Run (callee.User test)) bodies loops left s)
test_ends job test v zero is deep bodies loops left s l = absurd (omega (arith, deep))
test_ends job test v (suc zero) is deep bodies loops left s l = absurd (omega (arith, deep))
test_ends job test v (suc (suc e)) is deep bodies loops left s l =
    at_most (3 + 1) 4 left (Tested v s.store) _ (omega arith)
    (step_ends job (suc e) (token.Run (callee.User test)) (Tested v s.store) 3 bodies loops left s
    (λ less m. effect_opens job test s (suc e) bodies loops less (Tested v s.store) 3
    (λ t same. subst (λ (ts : List Token). Ended 3 (Tested v s.store) less (in_turn (act job (suc e)) ts (bodies + 1) loops less t)) (sym is)
    (test_tokens job v s.store e (bodies + 1) loops less t same m)))
    (omega (arith, l)))

-- ---- the turn

tested_again : (b : Bool) (ys xs : List Literal) (s : Store) → xs ≡ truth b ∷ ys → (tested xs s).again ≡ b
tested_again true ys xs s e = ap (λ (zs : List Literal). (tested zs s).again) e
tested_again false ys xs s e = ap (λ (zs : List Literal). (tested zs s).again) e

tested_keeps : (xs : List Literal) (s : Store) → ((tested xs s).store.integers ≡ s.integers) × ((tested xs s).store.strings ≡ s.strings)
tested_keeps [] s = (refl, refl)
tested_keeps (literal.Integer n ∷ xs) s = (refl, refl)
tested_keeps (x ∷ xs) s = (refl, refl)

pub turn_again : (job : Job) (b : Bool) (ys : List Literal) (t : State) → t.store.literals ≡ truth b ∷ ys → (turn_of job t).again ≡ b
unfolding turn_of
turn_again job b ys t e = tested_again b ys t.store.literals t.store e

pub turn_keeps : (job : Job) (v : ℕ) (t : State) → value_in v (turn_of job t).state ≡ value_in v t
unfolding turn_of
turn_keeps job v t = ap (λ (xs : List ℤ). unwrap_or (slice_get xs v) (pos 0)) (tested_keeps t.store.literals t.store).0

pub turn_same : (job : Job) (t : State) → SameVariables t.store (turn_of job t).state
unfolding turn_of
turn_same job t = tested_keeps t.store.literals t.store

pub above : (x : ℤ) → int_lt (pos 0) x ≡ true → (k : ℕ) × (x ≡ pos (suc k))
above (pos zero) e = absurd (cc)
above (pos (suc k)) e = (k, refl)
above (negsuc k) e = absurd (cc)

pub weaker : (cost left : ℕ) (P Q : State → Type 0) (o : Outcome) → ((s : State) → P s → Q s) → Ended cost P left o → Ended cost Q left o
weaker cost left P Q (Done s rest) f h = (f s h.0, h.1)
weaker cost left P Q (Stopped s) f h = h
weaker cost left P Q (Limit kind s rest) f h = h

-- after the test of a loop that counts, where the measure was this
record Between (v n : ℕ) (t : State) : Type 0 where
  before : Store
  tested : Tested v before t
  is : above_zero (in_store v before) ≡ n

pub counters_end : CountersEnd
counters_end job test v cost depth body is down deep n most bodies loops left s k l r =
    loops_end_in job (act job depth (token.Run (callee.User test))) body (λ t. Unit {0}) (λ t. Unit {0}) (Between v) (λ t. above_zero (value_in v t)) 4 cost
    (λ m bodies loops left s h e. weaker 4 left (Tested v s.store) (Between v m) _
    (λ t p. record { before = s.store; tested = p; is = h.1 })
    (test_ends job test v depth is deep bodies loops left s e))
    (λ m t b yes bodies loops left u eu e.
    let more = above (in_store v b.before) (sym (turn_again job (int_lt (pos 0) (in_store v b.before)) b.tested.below t b.tested.top) ∙ yes) in
    let stays : value_in v t ≡ in_store v b.before = ap (λ (xs : List ℤ). unwrap_or (slice_get xs v) (pos 0)) b.tested.same.0 in
    let here : value_in v u ≡ pos (suc more.0) = ap (value_in v) eu ∙ turn_keeps job v t ∙ stays ∙ more.1 in
    let size : suc more.0 ≡ m = sym (ap above_zero more.1) ∙ b.is in
    weaker cost left (λ w. above_zero (value_in v w) ≤ more.0) (λ w. Unit {0} × (above_zero (value_in v w) < m)) _
    (λ w p. (tt, omega (arith, size, p)))
    (down more.0 bodies loops left u here e))
    (λ m t b no. tt)
    n most bodies loops left s tt k l r

-- ---- counting down

-- the value of the variable is at most n, or below 0
pub at_most_above : (x : ℤ) (n : ℕ) → x ≤ℤ pos n → above_zero x ≤ n
at_most_above (pos k) n h = omega (arith, ints, h)
at_most_above (negsuc k) n h = omega arith

follow_pushing : (job : Job) (x : Token) (words : StepOutput) (y : Literal) (e : ℕ) (s : State) (r : Store) (a : Answer) → a ≡ pushes words y r → (bodies loops left : ℕ)
    → Ended 0 (Pushed y r) left
    (follow job (act job e) e a.next (state a.store (said_on job (executed_by job.style.names x) a.store.current a.said s.out)) bodies loops left)
follow_pushing job x words y e s r a eq bodies loops left =
    subst (λ (b : Answer). Ended 0 (Pushed y r) left
    (follow job (act job e) e b.next (state b.store (said_on job (executed_by job.style.names x) b.store.current b.said s.out)) bodies loops left)) (sym eq)
    (by (nat_lt (length r.literals) 1000))
  where
    by : (yes : Bool) →
        (let b = cond yes (says words (with_literals (y ∷ r.literals) r)) (answer (next.End limit.Literals) words r) in
        Ended 0 (Pushed y r) left
        (follow job (act job e) e b.next (state b.store (said_on job (executed_by job.style.names x) b.store.current b.said s.out)) bodies loops left))
    by true = ((refl, (refl, refl)), omega arith)
    by false = omega arith

effect_pushing : (job : Job) (x : Token) (words : StepOutput) (y : Literal) (e : ℕ) (s : State) (r : Store) → step_of job x s.store ≡ pushes words y r
    → (bodies loops left : ℕ)
    → Ended 0 (Pushed y r) left (follow job (act job e) e (token_effect job x s).next (token_effect job x s).state bodies loops left)
unfolding token_effect
effect_pushing job x words y e s r eq bodies loops left = follow_pushing job x words y e s r (step_of job x s.store) eq bodies loops left

-- an integer at most n was pushed
pub record Small (n : ℕ) (r : Store) (t : State) : Type 0 where
  pub integer : ℤ
  pub small : above_zero integer ≤ n
  pub top : t.store.literals ≡ literal.Integer integer ∷ r.literals
  pub same : SameVariables r t

minus_by : (job : Job) (x : Token) (n e : ℕ) (s : State) (r : Store) (m : ℤ) → above_zero m ≤ n → (yes : Bool)
    → step_of job x s.store ≡ cond yes (pushes step_output.Nothing (literal.Integer m) r) (pushes (step_output.Noted (note.Overflow ∷ [])) (literal.Integer (pos 0)) r)
    → (bodies loops left : ℕ)
    → Ended 0 (Small n r) left (follow job (act job e) e (token_effect job x s).next (token_effect job x s).state bodies loops left)
minus_by job x n e s r m small true eq bodies loops left =
    weaker 0 left (Pushed (literal.Integer m) r) (Small n r) _ (λ t p. record { integer = m; small = small; top = p.0; same = p.1 })
    (effect_pushing job x step_output.Nothing (literal.Integer m) e s r eq bodies loops left)
minus_by job x n e s r m small false eq bodies loops left =
    weaker 0 left (Pushed (literal.Integer (pos 0)) r) (Small n r) _ (λ t p. record { integer = pos 0; small = omega arith; top = p.0; same = p.1 })
    (effect_pushing job x (step_output.Noted (note.Overflow ∷ [])) (literal.Integer (pos 0)) e s r eq bodies loops left)

minus_step : (job : Job) (b a : ℤ) (ys : List Literal) (s : Store) → s.literals ≡ literal.Integer b ∷ literal.Integer a ∷ ys
    → step_of job (token.Run (callee.BuiltIn built_in.Minus)) s ≡ result_of (a -ℤ b) (with_literals ys s)
unfolding step_of function_run built_in_run
minus_step job b a ys s e =
    ap (λ xs. on_operands (row built_in.Minus).operands (row built_in.Minus).default ((row built_in.Minus).does job) xs s) e

pub effect_minus : (job : Job) (n e : ℕ) (s : State) (b a : ℤ) (ys : List Literal) → above_zero (a -ℤ b) ≤ n
    → s.store.literals ≡ literal.Integer b ∷ literal.Integer a ∷ ys → (bodies loops left : ℕ)
    → Ended 0 (Small n (with_literals ys s.store)) left (follow job (act job e) e (token_effect job (token.Run (callee.BuiltIn built_in.Minus)) s).next
    (token_effect job (token.Run (callee.BuiltIn built_in.Minus)) s).state bodies loops left)
effect_minus job n e s b a ys small top bodies loops left =
    minus_by job (token.Run (callee.BuiltIn built_in.Minus)) n e s (with_literals ys s.store) (a -ℤ b) small (fits (a -ℤ b)) (minus_step job b a ys s.store top)
    bodies loops left

-- a difference that is at most n
pub minus_done : (job : Job) (n e : ℕ) (s : State) (b a : ℤ) (ys : List Literal) → above_zero (a -ℤ b) ≤ n
    → s.store.literals ≡ literal.Integer b ∷ literal.Integer a ∷ ys → (bodies loops left : ℕ) → 1 ≤ left
    → Ended 1 (Small n (with_literals ys s.store)) left (act job (suc e) (token.Run (callee.BuiltIn built_in.Minus)) bodies loops left s)
minus_done job n e s b a ys small top bodies loops left l =
    at_most (0 + 1) 1 left (Small n (with_literals ys s.store)) _ (omega arith)
    (step_ends job e (token.Run (callee.BuiltIn built_in.Minus)) (Small n (with_literals ys s.store)) 0 bodies loops left s
    (λ less m. effect_minus job n e s b a ys small top bodies loops less)
    (omega (arith, l)))

minus_ends : (job : Job) (n e : ℕ) (s : State) (a : ℤ) (ys : List Literal) → a ≡ pos (suc n) → s.store.literals ≡ literal.Integer (pos 1) ∷ literal.Integer a ∷ ys
    → (bodies loops left : ℕ) → 1 ≤ left
    → Ended 1 (Small n (with_literals ys s.store)) left (act job (suc e) (token.Run (callee.BuiltIn built_in.Minus)) bodies loops left s)
minus_ends job n e s a ys is top bodies loops left l =
    minus_done job n e s (pos 1) a ys (at_most_above (a -ℤ pos 1) n (omega (arith, ints, is))) top bodies loops left l

pub quote_step : (job : Job) (f : Callee) (s : Store) → step_of job (token.Quote f) s ≡ pushed (literal.Function f) s
unfolding step_of
quote_step job f s = refl

pub integer_step : (job : Job) (n : ℤ) (s : Store) → step_of job (token.Integer n) s ≡ pushed (literal.Integer n) s
unfolding step_of
integer_step job n s = refl

pub string_step : (job : Job) (i : ℕ) (s : Store)
    → step_of job (token.Run (callee.GlobalString i)) s ≡ pushed (literal.Text (unwrap_or (slice_get s.strings i) [])) s
unfolding step_of function_run
string_step job i s = refl

pub names_step : (job : Job) (text : List ℕ) (ys : List Literal) (s : Store) → s.literals ≡ literal.Text text ∷ ys
    → step_of job (token.Run (callee.BuiltIn built_in.NumNames)) s ≡ pushed (literal.Integer (pos (length (names_of text)))) (with_literals ys s)
unfolding step_of function_run built_in_run
names_step job text ys s e =
    ap (λ xs. on_operands (row built_in.NumNames).operands (row built_in.NumNames).default ((row built_in.NumNames).does job) xs s) e

-- `:=` puts an integer into the variable
pub assign_step : (job : Job) (v : ℕ) (m : ℤ) (ys : List Literal) (s : Store) → s.literals ≡ literal.Function (callee.GlobalInteger v) ∷ literal.Integer m ∷ ys
    → step_of job (token.Run (callee.BuiltIn built_in.Assign)) s ≡ done (with_global_integer v m (with_literals ys s))
unfolding step_of function_run built_in_run
assign_step job v m ys s e =
    ap (λ xs. on_operands (row built_in.Assign).operands (row built_in.Assign).default ((row built_in.Assign).does job) xs s) e

pub put_small : (xs : List ℤ) (v : ℕ) (m : ℤ) (n : ℕ) → above_zero m ≤ n → above_zero (unwrap_or (slice_get (slice_set xs v m) v) (pos 0)) ≤ n
put_small [] v m n h = omega arith
put_small (x ∷ xs) zero m n h = h
put_small (x ∷ xs) (suc v) m n h = put_small xs v m n h

assigned : (job : Job) (x : Token) (v n e : ℕ) (s : State) (r : Store) (a : Answer) → a ≡ done r → above_zero (unwrap_or (slice_get r.integers v) (pos 0)) ≤ n
    → (bodies loops left : ℕ) → Ended 0 (λ t. above_zero (value_in v t) ≤ n) left
    (follow job (act job e) e a.next (state a.store (said_on job (executed_by job.style.names x) a.store.current a.said s.out)) bodies loops left)
assigned job x v n e s r a eq h bodies loops left =
    subst (λ (b : Answer). Ended 0 (λ t. above_zero (value_in v t) ≤ n) left
    (follow job (act job e) e b.next (state b.store (said_on job (executed_by job.style.names x) b.store.current b.said s.out)) bodies loops left)) (sym eq)
    (h, omega arith)

pub effect_assigned : (job : Job) (x : Token) (v n e : ℕ) (s : State) (r : Store) → step_of job x s.store ≡ done r
    → above_zero (unwrap_or (slice_get r.integers v) (pos 0)) ≤ n → (bodies loops left : ℕ)
    → Ended 0 (λ t. above_zero (value_in v t) ≤ n) left (follow job (act job e) e (token_effect job x s).next (token_effect job x s).state bodies loops left)
unfolding token_effect
effect_assigned job x v n e s r eq h bodies loops left = assigned job x v n e s r (step_of job x s.store) eq h bodies loops left

assign_ends : (job : Job) (v n e : ℕ) (s : State) (m : ℤ) (ys : List Literal) → above_zero m ≤ n
    → s.store.literals ≡ literal.Function (callee.GlobalInteger v) ∷ literal.Integer m ∷ ys → (bodies loops left : ℕ) → 1 ≤ left
    → Ended 1 (λ t. above_zero (value_in v t) ≤ n) left (act job (suc e) (token.Run (callee.BuiltIn built_in.Assign)) bodies loops left s)
assign_ends job v n e s m ys small top bodies loops left l =
    at_most (0 + 1) 1 left (λ t. above_zero (value_in v t) ≤ n) _ (omega arith)
    (step_ends job e (token.Run (callee.BuiltIn built_in.Assign)) (λ t. above_zero (value_in v t) ≤ n) 0 bodies loops left s
    (λ less k. effect_assigned job (token.Run (callee.BuiltIn built_in.Assign)) v n e s (with_global_integer v m (with_literals ys s.store))
    (assign_step job v m ys s.store top) (put_small s.store.integers v m n small) bodies loops less)
    (omega (arith, l)))

pub one_step : (job : Job) (s : Store) → step_of job (token.Integer (pos 1)) s ≡ pushed (literal.Integer (pos 1)) s
unfolding step_of
one_step job s = refl

pub less_one_counts : LessOneCounts
less_one_counts job v zero deep n bodies loops left s h l = absurd (omega (arith, deep))
less_one_counts job v (suc e) deep n bodies loops left s h l =
    then_ends 1 4 left (Pushed (literal.Integer (value_in v s)) s.store) (λ t. above_zero (value_in v t) ≤ n) _ _
    (push_ends job (token.Run (callee.GlobalInteger v)) (literal.Integer (value_in v s)) e s s.store (variable_step job v s.store) bodies loops left (omega (arith, l)))
    l
    (λ left1 t p m1. then_ends 1 3 left1 (Pushed (literal.Integer (pos 1)) t.store) (λ t. above_zero (value_in v t) ≤ n) _ _
    (push_ends job (token.Integer (pos 1)) (literal.Integer (pos 1)) e t t.store (one_step job t.store) bodies loops left1 (omega (arith, m1)))
    m1
    (λ left2 u q m2. then_ends 1 2 left2 (Small n (with_literals s.store.literals u.store)) (λ t. above_zero (value_in v t) ≤ n) _ _
    (minus_ends job n e u (value_in v s) s.store.literals h (q.0 ∙ ap (λ (xs : List Literal). literal.Integer (pos 1) ∷ xs) p.0) bodies loops left2 (omega (arith, m2)))
    m2
    (λ left3 w r m3. then_ends 1 1 left3 (Pushed (literal.Function (callee.GlobalInteger v)) w.store) (λ t. above_zero (value_in v t) ≤ n) _ _
    (push_ends job (token.Quote (callee.GlobalInteger v)) (literal.Function (callee.GlobalInteger v)) e w w.store (quote_step job (callee.GlobalInteger v) w.store)
    bodies loops left3 (omega (arith, m3)))
    m3
    (λ left4 z o m4. then_ends 1 0 left4 (λ t. above_zero (value_in v t) ≤ n) (λ t. above_zero (value_in v t) ≤ n) _ _
    (assign_ends job v n e z r.integer s.store.literals r.small
    (o.0 ∙ ap (λ (xs : List Literal). literal.Function (callee.GlobalInteger v) ∷ xs) r.top) bodies loops left4 (omega (arith, m4)))
    m4
    (λ left5 y g m5. (g, omega arith))))))

-- ---- both

then_same : (o : Outcome) (f g h : ℕ → State → Outcome) → ((left : ℕ) (t : State) → f left t ≡ then_do (g left t) h) → then_do o f ≡ then_do (then_do o g) h
then_same (Done t left) f g h e = e left t
then_same (Stopped t) f g h e = refl
then_same (Limit kind t left) f g h e = refl

pub in_turn_both : (go : Token → Action) (xs ys : List Token) (bodies loops left : ℕ) (s : State)
    → in_turn go (xs ++ ys) bodies loops left s ≡ then_do (in_turn go xs bodies loops left s) (in_turn go ys bodies loops)
in_turn_both go [] ys bodies loops left s = refl
in_turn_both go (x ∷ xs) ys bodies loops left s =
    then_same (go x bodies loops left s) (in_turn go (xs ++ ys) bodies loops) (in_turn go xs bodies loops) (in_turn go ys bodies loops)
    (λ rest t. in_turn_both go xs ys bodies loops rest t)

then_less_one : (job : Job) (v cost depth : ℕ) (others : List Token) → 0 < depth → Keeps v cost (in_turn (act job depth) others)
    → CountsDown v (cost + 5) (in_turn (act job depth) (others ++ less_one v))
then_less_one job v cost depth others deep keeps n bodies loops left s h l =
    subst (λ (o : Outcome). Ended (cost + 5) (λ t. above_zero (value_in v t) ≤ n) left o)
    (sym (in_turn_both (act job depth) others (less_one v) bodies loops left s))
    (then_ends cost 5 left (λ t. value_in v t ≡ pos (suc n)) (λ t. above_zero (value_in v t) ≤ n) (in_turn (act job depth) others bodies loops left s)
    (in_turn (act job depth) (less_one v) bodies loops) (keeps (pos (suc n)) bodies loops left s h (omega (arith, l))) l
    (λ rest t b m. less_one_counts job v depth deep n bodies loops rest t b m))

call_counts : (job : Job) (body v cost depth : ℕ) (others : List Token) → 0 < depth → slice_index_or job.style.bodies body [] ≡ others ++ less_one v
    → Keeps v cost (in_turn (act job depth) others) → CountsDown v (cost + 5 + 1) (act job (suc depth) (token.Run (callee.User body)))
call_counts job body v cost depth others deep is keeps n bodies loops left s h l =
    step_ends job depth (token.Run (callee.User body)) (λ t. above_zero (value_in v t) ≤ n) (cost + 5) bodies loops left s
    (λ less m. effect_opens job body s depth bodies loops less (λ t. above_zero (value_in v t) ≤ n) (cost + 5)
    (λ t same. subst (λ (ts : List Token). Ended (cost + 5) (λ t. above_zero (value_in v t) ≤ n) less (in_turn (act job depth) ts (bodies + 1) loops less t))
    (sym is)
    (then_less_one job v cost depth others deep keeps n (bodies + 1) loops less t
    (ap (λ (xs : List ℤ). unwrap_or (slice_get xs v) (pos 0)) same.0 ∙ h) m)))
    l

pub counted_loops_end : CountedLoopsEnd
counted_loops_end job test body v cost depth others above is keeps deep n most bodies loops left s k l r =
    let e : 4 + (cost + 5 + 1) ≡ cost + 10 = omega arith in
    subst (λ (c : ℕ). suc n * c ≤ left → Ended (suc n * c) (λ t. Unit {0}) left
    (turns job most (act job (suc depth) (token.Run (callee.User test))) (act job (suc depth) (token.Run (callee.User body))) bodies loops left s)) e
    (λ r2. counters_end job test v (cost + 5 + 1) (suc depth) (act job (suc depth) (token.Run (callee.User body))) above
    (call_counts job body v cost depth others (omega (arith, deep)) is keeps) (omega (arith, deep)) n most bodies loops left s k l r2)
    r
