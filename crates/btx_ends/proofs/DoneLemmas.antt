-- What tokens leave where they are done: rules for one token after another, and the tests of loops that make a text shorter.
use Rattle.std.proofs.Common.{◌≡◌, ℕ, zero, suc, ◌+◌, ℤ, pos, Bool, true, false, not, cond, nat_lt, List, [], ◌∷◌, ◌++◌, length, refl, sym, ap, subst, ◌∙◌, inl, inr}
use Rattle.std.specs.Prelude.{slice_get, unwrap_or}
use Rattle.std.specs.Str.{bytes_eq}
use Rattle.std.specs.List.{list_all}
use Rattle.btx_text.specs.language.Class.{is_white}
use Rattle.btx_text.specs.language.Limits.{greatest_string}
use Rattle.btx_bst.specs.declared.built_in.BuiltIn.TheVariants as built_in
use Rattle.btx_bst.specs.declared.callee.Callee.{Callee}
use Rattle.btx_bst.specs.declared.callee.Callee.TheVariants as callee
use Rattle.btx_bst.specs.declared.token.Token.{Token}
use Rattle.btx_bst.specs.declared.token.Token.TheVariants as token
use Rattle.btx_bst.specs.declared.token.Token.TheVariants.{Quote, Run}
use Rattle.btx_stack.specs.declared.literal.Literal.{Literal}
use Rattle.btx_stack.specs.declared.literal.Literal.TheVariants as literal
use Rattle.btx_text.specs.declared.limits.Limit.TheVariants as limit
use Rattle.btx_strings.specs.language.Positions.{substring_of}
use Rattle.btx_step.specs.declared.next.Next.{Next}
use Rattle.btx_step.specs.declared.next.Next.TheVariants as next
use Rattle.btx_step.specs.declared.said.StepOutput.{StepOutput}
use Rattle.btx_step.specs.declared.said.StepOutput.TheVariants as step_output
use Rattle.btx_step.specs.language.Answers.{Answer, answer, quiet, says, with_literals, pushes, pushed, pushed_text, done, truth}
use Rattle.btx_step.specs.language.Control.{is_positive}
use Rattle.btx_step.specs.language.Jobs.{Job}
use Rattle.btx_step.specs.language.Operands.{on_operands}
use Rattle.btx_step.specs.language.Steps.{step_of, function_run, built_in_run}
use Rattle.btx_step.specs.language.Stores.{Store}
use Rattle.btx_step.specs.language.Table.{row}
use Rattle.btx_step.specs.refinement.Control as kept_control
use Rattle.btx_machine.specs.language.States.{State, state, Outcome, Done, Stopped, Limit}
use Rattle.btx_machine.specs.language.Saying.{said_on}
use Rattle.btx_machine.specs.language.Steps.{executed_by, token_effect}
use Rattle.btx_machine.specs.language.Meaning.{most_bodies, then_do}
use Rattle.btx_machine.specs.language.MeaningBySteps.{in_turn, body_if, follow, act}
use Rattle.btx_ends.specs.Counters.{value_in}
use Rattle.btx_ends.specs.Keeping.{IfDone}
use Rattle.btx_ends.specs.Shortening.{text_in, begins, word_of, body_of, IsSkip, NotOf, AndOf, OrOf, filled_test, flag_test, begins_test, until_test, first_test}
use Rattle.btx_ends.proofs.CounterLemmas.{variable_step, quote_step, integer_step, string_step}

-- ---- outcomes

pub if_then : (P Q : State → Type 0) (o : Outcome) (go : ℕ → State → Outcome) → IfDone P o → ((left : ℕ) (t : State) → P t → IfDone Q (go left t))
    → IfDone Q (then_do o go)
if_then P Q (Done t left) go h f = f left t h
if_then P Q (Stopped t) go h f = tt
if_then P Q (Limit kind t left) go h f = tt

pub if_weaker : (P Q : State → Type 0) (o : Outcome) → IfDone P o → ((t : State) → P t → Q t) → IfDone Q o
if_weaker P Q (Done t left) h f = f t h
if_weaker P Q (Stopped t) h f = tt
if_weaker P Q (Limit kind t left) h f = tt

-- ---- what a step leaves

-- these literals, and the variables of `r`
abbrev pub Leaves : List Literal → Store → Store → Type 0
Leaves ys r q = (q.literals ≡ ys) × ((q.integers ≡ r.integers) × (q.strings ≡ r.strings))

abbrev pub LeavesIn : List Literal → Store → State → Type 0
LeavesIn ys r t = Leaves ys r t.store

pub leaves_then : (ys zs : List Literal) (r q p : Store) → Leaves ys r q → Leaves zs q p → Leaves zs r p
leaves_then ys zs r q p h k = (k.0, (k.1.0 ∙ h.1.0, k.1.1 ∙ h.1.1))

-- nothing follows, and this holds of the store; or the run ends
abbrev pub NextSo : (Store → Type 0) → Next → Store → Type 0
NextSo P next.Nothing r = P r
NextSo P (next.End limit) r = Unit {0}
NextSo P (next.Run f) r = ⊥
NextSo P (next.Open number) r = ⊥
NextSo P (next.Loop f g) r = ⊥

abbrev pub AnswerSo : (Store → Type 0) → Answer → Type 0
AnswerSo P a = NextSo P a.next a.store

pub one_to : (job : Job) (d : ℕ) (x : Token) (P : Store → Type 0) (bodies loops left : ℕ) (s : State) → AnswerSo P (step_of job x s.store)
    → IfDone (λ t. P t.store) (act job d x bodies loops left s)
unfolding token_effect
one_to job zero x P bodies loops left s h = tt
one_to job (suc e) x P bodies loops zero s h = tt
one_to job (suc e) x P bodies loops (suc left) s h =
    by (step_of job x s.store).next (state (step_of job x s.store).store
    (said_on job (executed_by job.style.names x) (step_of job x s.store).store.current (step_of job x s.store).said s.out)) h
  where
    by : (after : Next) (u : State) → NextSo P after u.store → IfDone (λ t. P t.store) (follow job (act job e) e after u bodies loops left)
    by next.Nothing u h = h
    by (next.End limit) u h = tt
    by (next.Run f) u h = absurd h
    by (next.Open number) u h = absurd h
    by (next.Loop f g) u h = absurd h

pub pushes_so : (P : Store → Type 0) (words : StepOutput) (y : Literal) (r : Store) → P (with_literals (y ∷ r.literals) r) → AnswerSo P (pushes words y r)
pushes_so P words y r h = by (nat_lt (length r.literals) 1000)
  where
    by : (one : Bool) → AnswerSo P (cond one (says words (with_literals (y ∷ r.literals) r)) (answer (next.End limit.Literals) words r))
    by true = h
    by false = tt

pub text_so : (P : Store → Type 0) (text : List ℕ) (r : Store) → P (with_literals (literal.Text text ∷ r.literals) r) → AnswerSo P (pushed_text text r)
text_so P text r h = by (nat_lt greatest_string (length text))
  where
    by : (long : Bool) → AnswerSo P (cond long (quiet (next.End limit.String) r) (pushed (literal.Text text) r))
    by true = tt
    by false = pushes_so P step_output.Nothing (literal.Text text) r h

-- ---- calls and choices

pub call_to : (job : Job) (d number : ℕ) (xs : List Token) (Q : State → Type 0) (bodies loops left : ℕ) (s : State) → body_of job.style number ≡ xs
    → ((e less : ℕ) (t : State) → Leaves s.store.literals s.store t.store → IfDone Q (in_turn (act job e) xs (bodies + 1) loops less t))
    → IfDone Q (act job d (Run (callee.User number)) bodies loops left s)
unfolding token_effect step_of function_run said_on
call_to job zero number xs Q bodies loops left s is f = tt
call_to job (suc e) number xs Q bodies loops zero s is f = tt
call_to job (suc e) number xs Q bodies loops (suc left) s is f = by (nat_lt bodies most_bodies)
  where
    opened : (less : ℕ) (t : State) → Leaves s.store.literals s.store t.store
        → IfDone Q (in_turn (act job e) (body_of job.style number) (bodies + 1) loops less t)
    opened less t q = subst (λ (ts : List Token). IfDone Q (in_turn (act job e) ts (bodies + 1) loops less t)) (sym is) (f e less t q)

    by : (more : Bool) → IfDone Q (body_if more (act job e) (body_of job.style number) bodies loops left s)
    by true = opened left _ (refl, (refl, refl))
    by false = tt

choice_step : (job : Job) (f g : Callee) (n : ℤ) (ys : List Literal) (s : Store) → s.literals ≡ literal.Function g ∷ literal.Function f ∷ literal.Integer n ∷ ys
    → step_of job (Run (callee.BuiltIn built_in.If)) s ≡ quiet (next.Run (kept_control.chosen (is_positive n) f g)) (with_literals ys s)
unfolding step_of function_run built_in_run
choice_step job f g n ys s e = ap (λ xs. on_operands (row built_in.If).operands (row built_in.If).default kept_control.chooses xs s) e

pub choose_to : (job : Job) (d : ℕ) (f g : Callee) (n : ℤ) (ys : List Literal) (Q : State → Type 0) (bodies loops left : ℕ) (s : State)
    → s.store.literals ≡ literal.Function g ∷ literal.Function f ∷ literal.Integer n ∷ ys
    → ((e less : ℕ) (t : State) → Leaves ys s.store t.store → IfDone Q (act job e (Run (kept_control.chosen (is_positive n) f g)) bodies loops less t))
    → IfDone Q (act job d (Run (callee.BuiltIn built_in.If)) bodies loops left s)
unfolding token_effect
choose_to job zero f g n ys Q bodies loops left s is h = tt
choose_to job (suc e) f g n ys Q bodies loops zero s is h = tt
choose_to job (suc e) f g n ys Q bodies loops (suc left) s is h =
    by (step_of job (Run (callee.BuiltIn built_in.If)) s.store) (choice_step job f g n ys s.store is)
  where
    by : (a : Answer) → a ≡ quiet (next.Run (kept_control.chosen (is_positive n) f g)) (with_literals ys s.store)
        → IfDone Q (follow job (act job e) e a.next
        (state a.store (said_on job (executed_by job.style.names (Run (callee.BuiltIn built_in.If))) a.store.current a.said s.out)) bodies loops left)
    by a e2 = subst (λ (b : Answer). IfDone Q (follow job (act job e) e b.next
        (state b.store (said_on job (executed_by job.style.names (Run (callee.BuiltIn built_in.If))) b.store.current b.said s.out)) bodies loops left)) (sym e2)
        (h e left _ (refl, (refl, refl)))

-- ---- single tokens

pub so_by : (P : Store → Type 0) (a b : Answer) → a ≡ b → AnswerSo P b → AnswerSo P a
so_by P a b e h = subst (AnswerSo P) (sym e) h

pub pushed_to : (job : Job) (d : ℕ) (x : Token) (y : Literal) (ys : List Literal) (bodies loops left : ℕ) (s : State)
    → step_of job x s.store ≡ pushed y (with_literals ys s.store) → IfDone (LeavesIn (y ∷ ys) s.store) (act job d x bodies loops left s)
pushed_to job d x y ys bodies loops left s e =
    one_to job d x (Leaves (y ∷ ys) s.store) bodies loops left s
    (so_by (Leaves (y ∷ ys) s.store) _ _ e (pushes_so (Leaves (y ∷ ys) s.store) step_output.Nothing y (with_literals ys s.store) (refl, (refl, refl))))

pub text_to : (job : Job) (d : ℕ) (x : Token) (text : List ℕ) (ys : List Literal) (bodies loops left : ℕ) (s : State)
    → step_of job x s.store ≡ pushed_text text (with_literals ys s.store) → IfDone (LeavesIn (literal.Text text ∷ ys) s.store) (act job d x bodies loops left s)
text_to job d x text ys bodies loops left s e =
    one_to job d x (Leaves (literal.Text text ∷ ys) s.store) bodies loops left s
    (so_by (Leaves (literal.Text text ∷ ys) s.store) _ _ e
    (text_so (Leaves (literal.Text text ∷ ys) s.store) text (with_literals ys s.store) (refl, (refl, refl))))

pub word_step : (job : Job) (w : ℕ) (s : Store) → step_of job (token.Text w) s ≡ pushed_text (word_of job.style w) s
unfolding step_of
word_step job w s = refl

pub substring_step : (job : Job) (size start : ℤ) (text : List ℕ) (ys : List Literal) (s : Store)
    → s.literals ≡ literal.Integer size ∷ literal.Integer start ∷ literal.Text text ∷ ys
    → step_of job (Run (callee.BuiltIn built_in.Substring)) s ≡ pushed_text (substring_of text start size) (with_literals ys s)
unfolding step_of function_run built_in_run
substring_step job size start text ys s e =
    ap (λ xs. on_operands (row built_in.Substring).operands (row built_in.Substring).default ((row built_in.Substring).does job) xs s) e

pub equals_step : (job : Job) (b a : List ℕ) (ys : List Literal) (s : Store) → s.literals ≡ literal.Text b ∷ literal.Text a ∷ ys
    → step_of job (Run (callee.BuiltIn built_in.Equals)) s ≡ pushed (truth (bytes_eq a b)) (with_literals ys s)
unfolding step_of function_run built_in_run
equals_step job b a ys s e =
    ap (λ xs. on_operands (row built_in.Equals).operands (row built_in.Equals).default ((row built_in.Equals).does job) xs s) e

empty_step : (job : Job) (text : List ℕ) (ys : List Literal) (s : Store) → s.literals ≡ literal.Text text ∷ ys
    → step_of job (Run (callee.BuiltIn built_in.Empty)) s ≡ pushed (truth (list_all is_white text)) (with_literals ys s)
unfolding step_of function_run built_in_run
empty_step job text ys s e = ap (λ xs. on_operands (row built_in.Empty).operands (row built_in.Empty).default ((row built_in.Empty).does job) xs s) e

pop_step : (job : Job) (x : Literal) (ys : List Literal) (s : Store) → s.literals ≡ x ∷ ys
    → step_of job (Run (callee.BuiltIn built_in.Pop)) s ≡ done (with_literals ys s)
unfolding step_of function_run built_in_run
pop_step job x ys s e = ap (λ xs. on_operands (row built_in.Pop).operands (row built_in.Pop).default ((row built_in.Pop).does job) xs s) e

skip_step : (job : Job) (s : Store) → step_of job (Run (callee.BuiltIn built_in.Skip)) s ≡ done s
unfolding step_of function_run built_in_run
skip_step job s = refl

pop_to : (job : Job) (d : ℕ) (x : Literal) (ys : List Literal) (bodies loops left : ℕ) (s : State) → s.store.literals ≡ x ∷ ys
    → IfDone (LeavesIn ys s.store) (act job d (Run (callee.BuiltIn built_in.Pop)) bodies loops left s)
pop_to job d x ys bodies loops left s e =
    one_to job d (Run (callee.BuiltIn built_in.Pop)) (Leaves ys s.store) bodies loops left s
    (so_by (Leaves ys s.store) _ _ (pop_step job x ys s.store e) (refl, (refl, refl)))

skip_to : (job : Job) (d : ℕ) (bodies loops left : ℕ) (s : State)
    → IfDone (LeavesIn s.store.literals s.store) (act job d (Run (callee.BuiltIn built_in.Skip)) bodies loops left s)
skip_to job d bodies loops left s =
    one_to job d (Run (callee.BuiltIn built_in.Skip)) (Leaves s.store.literals s.store) bodies loops left s
    (so_by (Leaves s.store.literals s.store) _ _ (skip_step job s.store) (refl, (refl, refl)))

skips_to : (job : Job) (d : ℕ) (f : Callee) → IsSkip job.style f → (bodies loops left : ℕ) (s : State)
    → IfDone (LeavesIn s.store.literals s.store) (act job d (Run f) bodies loops left s)
skips_to job d f (inl e) bodies loops left s =
    subst (λ (g : Callee). IfDone (LeavesIn s.store.literals s.store) (act job d (Run g) bodies loops left s)) (sym e) (skip_to job d bodies loops left s)
skips_to job d f (inr h) bodies loops left s =
    subst (λ (g : Callee). IfDone (LeavesIn s.store.literals s.store) (act job d (Run g) bodies loops left s)) (sym h.1.0)
    (call_to job d h.0 (Run (callee.BuiltIn built_in.Skip) ∷ []) (LeavesIn s.store.literals s.store) bodies loops left s h.1.1
    (λ e less t q. if_then (LeavesIn t.store.literals t.store) (LeavesIn s.store.literals s.store) _ _
    (skip_to job e (bodies + 1) loops less t)
    (λ less1 u p. (p.0 ∙ q.0, (p.1.0 ∙ q.1.0, p.1.1 ∙ q.1.1)))))

-- what stood below stays below
abbrev on : Literal → List Literal → List Literal
on y ys = y ∷ ys

-- ---- `not` and `and`

pub number_to : (job : Job) (d number : ℕ) (n : ℤ) (bodies loops left : ℕ) (s : State) → body_of job.style number ≡ token.Integer n ∷ []
    → IfDone (LeavesIn (literal.Integer n ∷ s.store.literals) s.store) (act job d (Run (callee.User number)) bodies loops left s)
number_to job d number n bodies loops left s is =
    call_to job d number (token.Integer n ∷ []) (LeavesIn (literal.Integer n ∷ s.store.literals) s.store) bodies loops left s is
    (λ e less t q. if_then (LeavesIn (literal.Integer n ∷ t.store.literals) t.store) (LeavesIn (literal.Integer n ∷ s.store.literals) s.store) _ _
    (pushed_to job e (token.Integer n) (literal.Integer n) t.store.literals (bodies + 1) loops less t (integer_step job n t.store))
    (λ less1 u p. (p.0 ∙ ap (on (literal.Integer n)) q.0, (p.1.0 ∙ q.1.0, p.1.1 ∙ q.1.1))))

pub not_to : (job : Job) (d number nought one : ℕ) → NotOf job.style number nought one → (n : ℤ) (ys : List Literal) (bodies loops left : ℕ) (s : State)
    → s.store.literals ≡ literal.Integer n ∷ ys
    → IfDone (LeavesIn (truth (not (is_positive n)) ∷ ys) s.store) (act job d (Run (callee.User number)) bodies loops left s)
not_to job d number nought one is n ys bodies loops left s top =
    call_to job d number _ Q bodies loops left s is.0
    (λ e less t q. if_then (LeavesIn (literal.Function (callee.User nought) ∷ t.store.literals) t.store) Q _ _
    (pushed_to job e (Quote (callee.User nought)) (literal.Function (callee.User nought)) t.store.literals (bodies + 1) loops less t (quote_step job (callee.User nought) t.store))
    (λ less1 t1 q1. if_then (LeavesIn (literal.Function (callee.User one) ∷ t1.store.literals) t1.store) Q _ _
    (pushed_to job e (Quote (callee.User one)) (literal.Function (callee.User one)) t1.store.literals (bodies + 1) loops less1 t1
    (quote_step job (callee.User one) t1.store))
    (λ less2 t2 q2. if_then Q Q _ _
    (choose_to job e (callee.User nought) (callee.User one) n ys Q (bodies + 1) loops less2 t2
    (q2.0 ∙ ap (on (literal.Function (callee.User one))) (q1.0 ∙ ap (on (literal.Function (callee.User nought))) (q.0 ∙ top)))
    (λ e3 less3 t3 q3. by (is_positive n) e3 less3 t3
    (leaves_then t2.store.literals ys s.store t2.store t3.store
    (refl, (q2.1.0 ∙ q1.1.0 ∙ q.1.0, q2.1.1 ∙ q1.1.1 ∙ q.1.1)) q3)))
    (λ less4 t4 q4. q4))))
  where
    Q : State → Type 0
    Q t = LeavesIn (truth (not (is_positive n)) ∷ ys) s.store t

    by : (b : Bool) (e less : ℕ) (t : State) → Leaves ys s.store t.store
        → IfDone (LeavesIn (truth (not b) ∷ ys) s.store)
        (act job e (Run (kept_control.chosen b (callee.User nought) (callee.User one))) (bodies + 1) loops less t)
    by true e less t q = if_weaker _ (LeavesIn (literal.Integer (pos 0) ∷ ys) s.store) _ (number_to job e nought (pos 0) (bodies + 1) loops less t is.1.0)
        (λ u p. (p.0 ∙ ap (on (literal.Integer (pos 0))) q.0, (p.1.0 ∙ q.1.0, p.1.1 ∙ q.1.1)))
    by false e less t q = if_weaker _ (LeavesIn (literal.Integer (pos 1) ∷ ys) s.store) _ (number_to job e one (pos 1) (bodies + 1) loops less t is.1.1)
        (λ u p. (p.0 ∙ ap (on (literal.Integer (pos 1))) q.0, (p.1.0 ∙ q.1.0, p.1.1 ∙ q.1.1)))

-- the lower one, or 0
abbrev pub lower_if : Bool → ℤ → ℤ
lower_if true a = a
lower_if false a = pos 0

pub and_to : (job : Job) (d number nought : ℕ) → AndOf job.style number nought → (b a : ℤ) (ys : List Literal) (bodies loops left : ℕ) (s : State)
    → s.store.literals ≡ literal.Integer b ∷ literal.Integer a ∷ ys
    → IfDone (LeavesIn (literal.Integer (lower_if (is_positive b) a) ∷ ys) s.store) (act job d (Run (callee.User number)) bodies loops left s)
and_to job d number nought is b a ys bodies loops left s top =
    call_to job d number _ Q bodies loops left s is.1.1.0
    (λ e less t q. if_then (LeavesIn (literal.Function skip ∷ t.store.literals) t.store) Q _ _
    (pushed_to job e (Quote skip) (literal.Function skip) t.store.literals (bodies + 1) loops less t
    (quote_step job skip t.store))
    (λ less1 t1 q1. if_then (LeavesIn (literal.Function (callee.User nought) ∷ t1.store.literals) t1.store) Q _ _
    (pushed_to job e (Quote (callee.User nought)) (literal.Function (callee.User nought)) t1.store.literals (bodies + 1) loops less1 t1
    (quote_step job (callee.User nought) t1.store))
    (λ less2 t2 q2. if_then Q Q _ _
    (choose_to job e skip (callee.User nought) b (literal.Integer a ∷ ys) Q (bodies + 1) loops less2 t2
    (q2.0 ∙ ap (on (literal.Function (callee.User nought))) (q1.0 ∙ ap (on (literal.Function skip)) (q.0 ∙ top)))
    (λ e3 less3 t3 q3. by (is_positive b) e3 less3 t3
    (leaves_then t2.store.literals (literal.Integer a ∷ ys) s.store t2.store t3.store
    (refl, (q2.1.0 ∙ q1.1.0 ∙ q.1.0, q2.1.1 ∙ q1.1.1 ∙ q.1.1)) q3)))
    (λ less4 t4 q4. q4))))
  where
    skip : Callee
    skip = is.0

    Q : State → Type 0
    Q t = LeavesIn (literal.Integer (lower_if (is_positive b) a) ∷ ys) s.store t

    zero_body : (e less : ℕ) (t : State) → Leaves (literal.Integer a ∷ ys) s.store t.store
        → IfDone (LeavesIn (literal.Integer (pos 0) ∷ ys) s.store) (act job e (Run (callee.User nought)) (bodies + 1) loops less t)
    zero_body e less t q =
        call_to job e nought _ (LeavesIn (literal.Integer (pos 0) ∷ ys) s.store) (bodies + 1) loops less t is.1.1.1
        (λ e1 less1 t1 q1. if_then (LeavesIn ys t1.store) (LeavesIn (literal.Integer (pos 0) ∷ ys) s.store) _ _
        (pop_to job e1 (literal.Integer a) ys (bodies + 1 + 1) loops less1 t1 (q1.0 ∙ q.0))
        (λ less2 t2 q2. if_then (LeavesIn (literal.Integer (pos 0) ∷ t2.store.literals) t2.store) (LeavesIn (literal.Integer (pos 0) ∷ ys) s.store) _ _
        (pushed_to job e1 (token.Integer (pos 0)) (literal.Integer (pos 0)) t2.store.literals (bodies + 1 + 1) loops less2 t2 (integer_step job (pos 0) t2.store))
        (λ less3 t3 q3. (
          q3.0 ∙ ap (on (literal.Integer (pos 0))) q2.0,
          (q3.1.0 ∙ q2.1.0 ∙ q1.1.0 ∙ q.1.0, q3.1.1 ∙ q2.1.1 ∙ q1.1.1 ∙ q.1.1),
        ))))

    by : (c : Bool) (e less : ℕ) (t : State) → Leaves (literal.Integer a ∷ ys) s.store t.store
        → IfDone (LeavesIn (literal.Integer (lower_if c a) ∷ ys) s.store)
        (act job e (Run (kept_control.chosen c skip (callee.User nought))) (bodies + 1) loops less t)
    by true e less t q = if_weaker _ (LeavesIn (literal.Integer a ∷ ys) s.store) _ (skips_to job e skip is.1.0 (bodies + 1) loops less t)
        (λ u p. (p.0 ∙ q.0, (p.1.0 ∙ q.1.0, p.1.1 ∙ q.1.1)))
    by false e less t q = zero_body e less t q

-- ---- tests

-- 1 or 0
abbrev pub number_of : Bool → ℤ
number_of true = pos 1
number_of false = pos 0

pub truth_number : (b : Bool) → truth b ≡ literal.Integer (number_of b)
truth_number true = refl
truth_number false = refl

pub number_positive : (b : Bool) → is_positive (number_of b) ≡ b
number_positive true = refl
number_positive false = refl

-- the literals that `t empty$ not` pushes, after these
filled_tokens : (job : Job) (t negation nought one : ℕ) → NotOf job.style negation nought one → (e : ℕ) (rest : List Token) (bodies loops left : ℕ) (s : State)
    (Q : State → Type 0)
    → ((less : ℕ) (u : State) → Leaves (truth (not (list_all is_white (text_in t s))) ∷ s.store.literals) s.store u.store
    → IfDone Q (in_turn (act job e) rest bodies loops less u))
    → IfDone Q (in_turn (act job e) (Run (callee.GlobalString t) ∷ Run (callee.BuiltIn built_in.Empty) ∷ Run (callee.User negation) ∷ rest) bodies loops left s)
filled_tokens job t negation nought one is e rest bodies loops left s Q f =
    let white = list_all is_white (text_in t s) in
    if_then (LeavesIn (literal.Text (text_in t s) ∷ s.store.literals) s.store) Q _ _
    (pushed_to job e (Run (callee.GlobalString t)) (literal.Text (text_in t s)) s.store.literals bodies loops left s (string_step job t s.store))
    (λ less1 t1 q1. if_then (LeavesIn (truth white ∷ s.store.literals) t1.store) Q _ _
    (pushed_to job e (Run (callee.BuiltIn built_in.Empty)) (truth white) s.store.literals bodies loops less1 t1
    (empty_step job (text_in t s) s.store.literals t1.store q1.0))
    (λ less2 t2 q2. if_then (LeavesIn (truth (not (is_positive (number_of white))) ∷ s.store.literals) t2.store) Q _ _
    (not_to job e negation nought one is (number_of white) s.store.literals bodies loops less2 t2 (q2.0 ∙ ap (λ (y : Literal). y ∷ s.store.literals) (truth_number white)))
    (λ less3 t3 q3. f less3 t3 (
      q3.0 ∙ ap (λ (b : Bool). truth (not b) ∷ s.store.literals) (number_positive white),
      (q3.1.0 ∙ q2.1.0 ∙ q1.1.0, q3.1.1 ∙ q2.1.1 ∙ q1.1.1),
    ))))

pub filled_to : (job : Job) (d test t negation nought one : ℕ) → body_of job.style test ≡ filled_test t negation → NotOf job.style negation nought one
    → (bodies loops left : ℕ) (s : State)
    → IfDone (LeavesIn (truth (not (list_all is_white (text_in t s))) ∷ s.store.literals) s.store) (act job d (Run (callee.User test)) bodies loops left s)
filled_to job d test t negation nought one is negates bodies loops left s =
    call_to job d test _ Q bodies loops left s is
    (λ e less u q. filled_tokens job t negation nought one negates e [] (bodies + 1) loops less u Q
    (λ less1 w p. (
      p.0 ∙ ap (λ (ts : List (List ℕ)). truth (not (list_all is_white (unwrap_or (slice_get ts t) []))) ∷ u.store.literals) q.1.1
          ∙ ap (on (truth (not (list_all is_white (text_in t s))))) q.0,
      (p.1.0 ∙ q.1.0, p.1.1 ∙ q.1.1),
    )))
  where
    Q : State → Type 0
    Q t1 = LeavesIn (truth (not (list_all is_white (text_in t s))) ∷ s.store.literals) s.store t1

-- .. and `t #1 #1 substring$ "w" =`
begins_tokens : (job : Job) (t w : ℕ) (e : ℕ) (rest : List Token) (bodies loops left : ℕ) (s : State) (Q : State → Type 0)
    → ((less : ℕ) (u : State) → Leaves (truth (begins (word_of job.style w) (text_in t s)) ∷ s.store.literals) s.store u.store
    → IfDone Q (in_turn (act job e) rest bodies loops less u))
    → IfDone Q (in_turn (act job e) (begins_test t w ++ rest) bodies loops left s)
begins_tokens job t w e rest bodies loops left s Q f =
    if_then (LeavesIn (literal.Text (text_in t s) ∷ s.store.literals) s.store) Q _ _
    (pushed_to job e (Run (callee.GlobalString t)) (literal.Text (text_in t s)) s.store.literals bodies loops left s (string_step job t s.store))
    (λ less1 t1 q1. if_then (LeavesIn (literal.Integer (pos 1) ∷ t1.store.literals) t1.store) Q _ _
    (pushed_to job e (token.Integer (pos 1)) (literal.Integer (pos 1)) t1.store.literals bodies loops less1 t1 (integer_step job (pos 1) t1.store))
    (λ less2 t2 q2. if_then (LeavesIn (literal.Integer (pos 1) ∷ t2.store.literals) t2.store) Q _ _
    (pushed_to job e (token.Integer (pos 1)) (literal.Integer (pos 1)) t2.store.literals bodies loops less2 t2 (integer_step job (pos 1) t2.store))
    (λ less3 t3 q3. if_then (LeavesIn (literal.Text (substring_of (text_in t s) (pos 1) (pos 1)) ∷ s.store.literals) t3.store) Q _ _
    (text_to job e (Run (callee.BuiltIn built_in.Substring)) (substring_of (text_in t s) (pos 1) (pos 1)) s.store.literals bodies loops less3 t3
    (substring_step job (pos 1) (pos 1) (text_in t s) s.store.literals t3.store
    (q3.0 ∙ ap (on (literal.Integer (pos 1))) (q2.0 ∙ ap (on (literal.Integer (pos 1))) q1.0))))
    (λ less4 t4 q4. if_then (LeavesIn (literal.Text (word_of job.style w) ∷ t4.store.literals) t4.store) Q _ _
    (text_to job e (token.Text w) (word_of job.style w) t4.store.literals bodies loops less4 t4 (word_step job w t4.store))
    (λ less5 t5 q5. if_then (LeavesIn (truth (begins (word_of job.style w) (text_in t s)) ∷ s.store.literals) t5.store) Q _ _
    (pushed_to job e (Run (callee.BuiltIn built_in.Equals)) (truth (begins (word_of job.style w) (text_in t s))) s.store.literals bodies loops less5 t5
    (equals_step job (word_of job.style w) (substring_of (text_in t s) (pos 1) (pos 1)) s.store.literals t5.store
    (q5.0 ∙ ap (on (literal.Text (word_of job.style w))) q4.0)))
    (λ less6 t6 q6. f less6 t6 (
      q6.0,
      (q6.1.0 ∙ q5.1.0 ∙ q4.1.0 ∙ q3.1.0 ∙ q2.1.0 ∙ q1.1.0, q6.1.1 ∙ q5.1.1 ∙ q4.1.1 ∙ q3.1.1 ∙ q2.1.1 ∙ q1.1.1),
    )))))))

pub begins_to : (job : Job) (d test t w : ℕ) → body_of job.style test ≡ begins_test t w → (bodies loops left : ℕ) (s : State)
    → IfDone (LeavesIn (truth (begins (word_of job.style w) (text_in t s)) ∷ s.store.literals) s.store) (act job d (Run (callee.User test)) bodies loops left s)
begins_to job d test t w is bodies loops left s =
    call_to job d test _ Q bodies loops left s is
    (λ e less u q. begins_tokens job t w e [] (bodies + 1) loops less u Q
    (λ less1 z p. (
      p.0 ∙ ap (λ (ts : List (List ℕ)). truth (begins (word_of job.style w) (unwrap_or (slice_get ts t) [])) ∷ u.store.literals) q.1.1
          ∙ ap (on (truth (begins (word_of job.style w) (text_in t s)))) q.0,
      (p.1.0 ∙ q.1.0, p.1.1 ∙ q.1.1),
    )))
  where
    Q : State → Type 0
    Q t1 = LeavesIn (truth (begins (word_of job.style w) (text_in t s)) ∷ s.store.literals) s.store t1

-- .. and `t #1 #1 substring$ "w" = not`
pub first_to : (job : Job) (d test t w negation nought one : ℕ) → body_of job.style test ≡ first_test t w negation → NotOf job.style negation nought one
    → (bodies loops left : ℕ) (s : State)
    → IfDone (LeavesIn (truth (not (begins (word_of job.style w) (text_in t s))) ∷ s.store.literals) s.store) (act job d (Run (callee.User test)) bodies loops left s)
first_to job d test t w negation nought one is negates bodies loops left s =
    call_to job d test _ Q bodies loops left s is
    (λ e less u q. begins_tokens job t w e (Run (callee.User negation) ∷ []) (bodies + 1) loops less u Q
    (λ less1 z p.
    let told = begins (word_of job.style w) (text_in t u) in
    if_then (LeavesIn (truth (not (is_positive (number_of told))) ∷ u.store.literals) z.store) Q _ _
    (not_to job e negation nought one negates (number_of told) u.store.literals (bodies + 1) loops less1 z
    (p.0 ∙ ap (λ (y : Literal). y ∷ u.store.literals) (truth_number told)))
    (λ less2 v r. (
      r.0 ∙ ap (λ (b : Bool). truth (not b) ∷ u.store.literals) (number_positive told)
          ∙ ap (λ (ts : List (List ℕ)). truth (not (begins (word_of job.style w) (unwrap_or (slice_get ts t) []))) ∷ u.store.literals) q.1.1
          ∙ ap (on (truth (not (begins (word_of job.style w) (text_in t s))))) q.0,
      (r.1.0 ∙ p.1.0 ∙ q.1.0, r.1.1 ∙ p.1.1 ∙ q.1.1),
    ))))
  where
    Q : State → Type 0
    Q t1 = LeavesIn (truth (not (begins (word_of job.style w) (text_in t s))) ∷ s.store.literals) s.store t1

-- `v not t empty$ not and`: an integer that is above 0 only where the text isn't empty and v isn't above 0
pub record Both (v t : ℕ) (s u : State) : Type 0 where
  pub integer : ℤ
  pub leaves : Leaves (literal.Integer integer ∷ s.store.literals) s.store u.store
  pub flag : is_positive integer ≡ true → not (is_positive (value_in v s)) ≡ true
  pub text : is_positive integer ≡ true → not (list_all is_white (text_in t s)) ≡ true

pub lower_positive : (b a : Bool) → is_positive (lower_if (is_positive (number_of b)) (number_of a)) ≡ true → (a ≡ true) × (b ≡ true)
lower_positive true true e = (refl, refl)
lower_positive true false e = absurd (cc)
lower_positive false a e = absurd (cc)

pub flag_to : (job : Job) (d test v t negation conjunction nought one none : ℕ) → body_of job.style test ≡ flag_test v t negation conjunction
    → NotOf job.style negation nought one → AndOf job.style conjunction none → (bodies loops left : ℕ) (s : State)
    → IfDone (Both v t s) (act job d (Run (callee.User test)) bodies loops left s)
flag_to job d test v t negation conjunction nought one none is negates joins bodies loops left s =
    call_to job d test _ (Both v t s) bodies loops left s is
    (λ e less u q. if_then (LeavesIn (literal.Integer (value_in v u) ∷ u.store.literals) u.store) (Both v t s) _ _
    (pushed_to job e (Run (callee.GlobalInteger v)) (literal.Integer (value_in v u)) u.store.literals (bodies + 1) loops less u (variable_step job v u.store))
    (λ less1 t1 q1. if_then (LeavesIn (truth (not (is_positive (value_in v u))) ∷ u.store.literals) t1.store) (Both v t s) _ _
    (not_to job e negation nought one negates (value_in v u) u.store.literals (bodies + 1) loops less1 t1 q1.0)
    (λ less2 t2 q2. filled_tokens job t negation nought one negates e (Run (callee.User conjunction) ∷ []) (bodies + 1) loops less2 t2 (Both v t s)
    (λ less3 t3 q3.
    let b = not (list_all is_white (text_in t t2)) in
    let a = not (is_positive (value_in v u)) in
    if_then (LeavesIn (literal.Integer (lower_if (is_positive (number_of b)) (number_of a)) ∷ u.store.literals) t3.store) (Both v t s) _ _
    (and_to job e conjunction none joins (number_of b) (number_of a) u.store.literals (bodies + 1) loops less3 t3
    (q3.0 ∙ ap (λ (y : Literal). y ∷ t2.store.literals) (truth_number b) ∙ ap (on (literal.Integer (number_of b)))
    (q2.0 ∙ ap (λ (y : Literal). y ∷ u.store.literals) (truth_number a))))
    (λ less4 t4 q4. record {
      integer = lower_if (is_positive (number_of b)) (number_of a);
      leaves = (
        q4.0 ∙ ap (on (literal.Integer (lower_if (is_positive (number_of b)) (number_of a)))) q.0,
        (q4.1.0 ∙ q3.1.0 ∙ q2.1.0 ∙ q1.1.0 ∙ q.1.0, q4.1.1 ∙ q3.1.1 ∙ q2.1.1 ∙ q1.1.1 ∙ q.1.1),
      );
      flag = λ one. ap (λ (xs : List ℤ). not (is_positive (unwrap_or (slice_get xs v) (pos 0)))) (sym q.1.0) ∙ (lower_positive b a one).0;
      text = λ one. ap (λ (xs : List (List ℕ)). not (list_all is_white (unwrap_or (slice_get xs t) []))) (sym (q2.1.1 ∙ q1.1.1 ∙ q.1.1)) ∙ (lower_positive b a one).1;
    })))))

-- `t empty$ not t #1 #1 substring$ "w" = not and`: an integer that is above 0 only where the text isn't empty
pub record Until (t : ℕ) (s u : State) : Type 0 where
  pub integer : ℤ
  pub leaves : Leaves (literal.Integer integer ∷ s.store.literals) s.store u.store
  pub text : is_positive integer ≡ true → not (list_all is_white (text_in t s)) ≡ true

pub until_to : (job : Job) (d test t w negation conjunction nought one none : ℕ) → body_of job.style test ≡ until_test t w negation conjunction
    → NotOf job.style negation nought one → AndOf job.style conjunction none → (bodies loops left : ℕ) (s : State)
    → IfDone (Until t s) (act job d (Run (callee.User test)) bodies loops left s)
until_to job d test t w negation conjunction nought one none is negates joins bodies loops left s =
    call_to job d test _ (Until t s) bodies loops left s is
    (λ e less u q. filled_tokens job t negation nought one negates e (begins_test t w ++ Run (callee.User negation) ∷ Run (callee.User conjunction) ∷ [])
    (bodies + 1) loops less u (Until t s)
    (λ less1 t1 q1. begins_tokens job t w e (Run (callee.User negation) ∷ Run (callee.User conjunction) ∷ []) (bodies + 1) loops less1 t1 (Until t s)
    (λ less2 t2 q2.
    let a = not (list_all is_white (text_in t u)) in
    let c = begins (word_of job.style w) (text_in t t1) in
    let b = not (is_positive (number_of c)) in
    if_then (LeavesIn (truth b ∷ t1.store.literals) t2.store) (Until t s) _ _
    (not_to job e negation nought one negates (number_of c) t1.store.literals (bodies + 1) loops less2 t2
    (q2.0 ∙ ap (λ (y : Literal). y ∷ t1.store.literals) (truth_number c)))
    (λ less3 t3 q3. if_then (LeavesIn (literal.Integer (lower_if (is_positive (number_of b)) (number_of a)) ∷ u.store.literals) t3.store) (Until t s) _ _
    (and_to job e conjunction none joins (number_of b) (number_of a) u.store.literals (bodies + 1) loops less3 t3
    (q3.0 ∙ ap (λ (y : Literal). y ∷ t1.store.literals) (truth_number b) ∙ ap (on (literal.Integer (number_of b)))
    (q1.0 ∙ ap (λ (y : Literal). y ∷ u.store.literals) (truth_number a))))
    (λ less4 t4 q4. record {
      integer = lower_if (is_positive (number_of b)) (number_of a);
      leaves = (
        q4.0 ∙ ap (on (literal.Integer (lower_if (is_positive (number_of b)) (number_of a)))) q.0,
        (q4.1.0 ∙ q3.1.0 ∙ q2.1.0 ∙ q1.1.0 ∙ q.1.0, q4.1.1 ∙ q3.1.1 ∙ q2.1.1 ∙ q1.1.1 ∙ q.1.1),
      );
      text = λ so. ap (λ (xs : List (List ℕ)). not (list_all is_white (unwrap_or (slice_get xs t) []))) (sym q.1.1) ∙ (lower_positive b a so).0;
    })))))

-- ---- `or`

-- 1, or the lower one
abbrev pub one_if : Bool → ℤ → ℤ
one_if true a = pos 1
one_if false a = a

pub or_to : (job : Job) (d number one : ℕ) → OrOf job.style number one → (b a : ℤ) (ys : List Literal) (bodies loops left : ℕ) (s : State)
    → s.store.literals ≡ literal.Integer b ∷ literal.Integer a ∷ ys
    → IfDone (LeavesIn (literal.Integer (one_if (is_positive b) a) ∷ ys) s.store) (act job d (Run (callee.User number)) bodies loops left s)
or_to job d number one is b a ys bodies loops left s top =
    call_to job d number _ Q bodies loops left s is.1.1.0
    (λ e less t q. if_then (LeavesIn (literal.Function (callee.User one) ∷ t.store.literals) t.store) Q _ _
    (pushed_to job e (Quote (callee.User one)) (literal.Function (callee.User one)) t.store.literals (bodies + 1) loops less t
    (quote_step job (callee.User one) t.store))
    (λ less1 t1 q1. if_then (LeavesIn (literal.Function skip ∷ t1.store.literals) t1.store) Q _ _
    (pushed_to job e (Quote skip) (literal.Function skip) t1.store.literals (bodies + 1) loops less1 t1
    (quote_step job skip t1.store))
    (λ less2 t2 q2. if_then Q Q _ _
    (choose_to job e (callee.User one) skip b (literal.Integer a ∷ ys) Q (bodies + 1) loops less2 t2
    (q2.0 ∙ ap (on (literal.Function skip)) (q1.0 ∙ ap (on (literal.Function (callee.User one))) (q.0 ∙ top)))
    (λ e3 less3 t3 q3. by (is_positive b) e3 less3 t3
    (leaves_then t2.store.literals (literal.Integer a ∷ ys) s.store t2.store t3.store
    (refl, (q2.1.0 ∙ q1.1.0 ∙ q.1.0, q2.1.1 ∙ q1.1.1 ∙ q.1.1)) q3)))
    (λ less4 t4 q4. q4))))
  where
    skip : Callee
    skip = is.0

    Q : State → Type 0
    Q t = LeavesIn (literal.Integer (one_if (is_positive b) a) ∷ ys) s.store t

    one_body : (e less : ℕ) (t : State) → Leaves (literal.Integer a ∷ ys) s.store t.store
        → IfDone (LeavesIn (literal.Integer (pos 1) ∷ ys) s.store) (act job e (Run (callee.User one)) (bodies + 1) loops less t)
    one_body e less t q =
        call_to job e one _ (LeavesIn (literal.Integer (pos 1) ∷ ys) s.store) (bodies + 1) loops less t is.1.1.1
        (λ e1 less1 t1 q1. if_then (LeavesIn ys t1.store) (LeavesIn (literal.Integer (pos 1) ∷ ys) s.store) _ _
        (pop_to job e1 (literal.Integer a) ys (bodies + 1 + 1) loops less1 t1 (q1.0 ∙ q.0))
        (λ less2 t2 q2. if_then (LeavesIn (literal.Integer (pos 1) ∷ t2.store.literals) t2.store) (LeavesIn (literal.Integer (pos 1) ∷ ys) s.store) _ _
        (pushed_to job e1 (token.Integer (pos 1)) (literal.Integer (pos 1)) t2.store.literals (bodies + 1 + 1) loops less2 t2 (integer_step job (pos 1) t2.store))
        (λ less3 t3 q3. (
          q3.0 ∙ ap (on (literal.Integer (pos 1))) q2.0,
          (q3.1.0 ∙ q2.1.0 ∙ q1.1.0 ∙ q.1.0, q3.1.1 ∙ q2.1.1 ∙ q1.1.1 ∙ q.1.1),
        ))))

    by : (c : Bool) (e less : ℕ) (t : State) → Leaves (literal.Integer a ∷ ys) s.store t.store
        → IfDone (LeavesIn (literal.Integer (one_if c a) ∷ ys) s.store)
        (act job e (Run (kept_control.chosen c (callee.User one) skip)) (bodies + 1) loops less t)
    by false e less t q = if_weaker _ (LeavesIn (literal.Integer a ∷ ys) s.store) _ (skips_to job e skip is.1.0 (bodies + 1) loops less t)
        (λ u p. (p.0 ∙ q.0, (p.1.0 ∙ q.1.0, p.1.1 ∙ q.1.1)))
    by true e less t q = one_body e less t q
