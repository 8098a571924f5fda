-- A body with the tokens `v #1 - 'v :=` makes the variable smaller, where it is done, if what stands before them and after them doesn't raise it.
use Rattle.std.proofs.Common.{◌≡◌, ℕ, zero, suc, ◌+◌, ◌≤◌, ℤ, pos, negsuc, Bool, true, false, true≢false, refl, List, [], ◌∷◌, ◌++◌, None, arith, sym, ap, subst, ◌∙◌}
use Rattle.std.specs.Prelude.{slice_get, slice_index_or, unwrap_or, ◌-ℤ◌}
use Rattle.std.proofs.lemmas.Int.{ints}
use Rattle.btx_bst.specs.declared.built_in.BuiltIn.TheVariants as built_in
use Rattle.btx_bst.specs.declared.callee.Callee.TheVariants as callee
use Rattle.btx_bst.specs.declared.token.Token.{Token}
use Rattle.btx_bst.specs.declared.token.Token.TheVariants as token
use Rattle.btx_bst.specs.language.Style.{Style}
use Rattle.btx_stack.specs.declared.literal.Literal.{Literal}
use Rattle.btx_stack.specs.declared.literal.Literal.TheVariants as literal
use Rattle.btx_step.specs.language.Answers.{with_literals}
use Rattle.btx_step.specs.language.Jobs.{Job}
use Rattle.btx_step.specs.language.Variables as variables
use Rattle.btx_machine.specs.language.States.{State, Outcome, Done, Stopped, Limit}
use Rattle.btx_machine.specs.language.Steps.{token_effect}
use Rattle.btx_machine.specs.language.MeaningBySteps.{in_turn, follow, act}
use Rattle.btx_ends.specs.Costs.{Ended}
use Rattle.btx_ends.specs.Counters.{value_in, above_zero, less_one}
use Rattle.btx_ends.specs.Keeping.{IfDone, TokensKeep, BodiesKeep, BodyCounts, said_by}
use Rattle.btx_ends.proofs.CounterLemmas.{Pushed, Small, at_most_above, effect_pushed, effect_assigned, effect_minus, in_turn_both, opens_to, assign_step, quote_step, one_step, put_small, variable_step}
use Rattle.btx_ends.proofs.KeepLemmas.{then_done, tokens_keep_values}

-- what ended is so where it is done
pub if_ended : (cost left : ℕ) (P : State → Type 0) (o : Outcome) → Ended cost P left o → IfDone P o
if_ended cost left P (Done t rest) h = h.0
if_ended cost left P (Stopped t) h = tt
if_ended cost left P (Limit kind t rest) h = tt

-- both hold of what ended
pub both_ended : (cost left : ℕ) (P Q : State → Type 0) (o : Outcome) → Ended cost P left o → IfDone Q o → Ended cost (λ t. P t × Q t) left o
both_ended cost left P Q (Done t rest) h k = ((h.0, k), h.1)
both_ended cost left P Q (Stopped t) h k = h
both_ended cost left P Q (Limit kind t rest) h k = h

-- what holds after a token's step
stepped : (job : Job) (e : ℕ) (x : Token) (P : State → Type 0) (bodies loops left : ℕ) (s : State)
    → ((less : ℕ) → Ended 0 P less (follow job (act job e) e (token_effect job x s).next (token_effect job x s).state bodies loops less))
    → IfDone P (act job (suc e) x bodies loops left s)
stepped job e x P bodies loops zero s f = tt
stepped job e x P bodies loops (suc left) s f = if_ended 0 left P _ (f left)

-- the value of the variable is at most k
abbrev pub AtMost : ℕ → ℕ → State → Type 0
AtMost v k t = above_zero (value_in v t) ≤ k

one_less : (a : ℤ) (k : ℕ) → above_zero a ≤ suc k → above_zero (a -ℤ pos 1) ≤ k
one_less (pos n) k h = at_most_above (pos n -ℤ pos 1) k (omega (arith, ints, h))
one_less (negsuc n) k h = at_most_above (negsuc n -ℤ pos 1) k (omega (arith, ints))

less_one_done : (job : Job) (v k e bodies loops left : ℕ) (s : State) → AtMost v (suc k) s
    → IfDone (AtMost v k) (in_turn (act job (suc e)) (less_one v) bodies loops left s)
less_one_done job v k e bodies loops left s h =
    then_done (Pushed (literal.Integer (value_in v s)) s.store) (AtMost v k) _ _
    (stepped job e (token.Run (callee.GlobalInteger v)) (Pushed (literal.Integer (value_in v s)) s.store) bodies loops left s
    (λ less. effect_pushed job (token.Run (callee.GlobalInteger v)) (literal.Integer (value_in v s)) e s s.store (variable_step job v s.store) bodies loops less))
    (λ left1 t p. then_done (Pushed (literal.Integer (pos 1)) t.store) (AtMost v k) _ _
    (stepped job e (token.Integer (pos 1)) (Pushed (literal.Integer (pos 1)) t.store) bodies loops left1 t
    (λ less. effect_pushed job (token.Integer (pos 1)) (literal.Integer (pos 1)) e t t.store (one_step job t.store) bodies loops less))
    (λ left2 u q. then_done (Small k (with_literals s.store.literals u.store)) (AtMost v k) _ _
    (stepped job e (token.Run (callee.BuiltIn built_in.Minus)) (Small k (with_literals s.store.literals u.store)) bodies loops left2 u
    (λ less. effect_minus job k e u (pos 1) (value_in v s) s.store.literals
    (one_less (value_in v s) k h)
    (q.0 ∙ ap (λ (xs : List Literal). literal.Integer (pos 1) ∷ xs) p.0) bodies loops less))
    (λ left3 w r. then_done (Pushed (literal.Function (callee.GlobalInteger v)) w.store) (AtMost v k) _ _
    (stepped job e (token.Quote (callee.GlobalInteger v)) (Pushed (literal.Function (callee.GlobalInteger v)) w.store) bodies loops left3 w
    (λ less. effect_pushed job (token.Quote (callee.GlobalInteger v)) (literal.Function (callee.GlobalInteger v)) e w w.store
    (quote_step job (callee.GlobalInteger v) w.store) bodies loops less))
    (λ left4 z o. then_done (AtMost v k) (AtMost v k) _ _
    (stepped job e (token.Run (callee.BuiltIn built_in.Assign)) (AtMost v k) bodies loops left4 z
    (λ less. effect_assigned job (token.Run (callee.BuiltIn built_in.Assign)) v k e z
    (variables.with_global_integer v r.integer (with_literals s.store.literals z.store))
    (assign_step job v r.integer s.store.literals z.store (o.0 ∙ ap (λ (xs : List Literal). literal.Function (callee.GlobalInteger v) ∷ xs) r.top))
    (put_small z.store.integers v r.integer k r.small) bodies loops less))
    (λ left5 y g. g)))))

-- of no function this is said
none_said : (style : Style) (v : ℕ) → BodiesKeep false (said_by []) v style
none_said style v number e = absurd (let q : said_by [] number ≡ false = refl in true≢false (sym e ∙ q))

-- tokens around these
counting_done : (job : Job) (keeps : ℕ → Bool) (v k : ℕ) (others after : List Token) → BodiesKeep true keeps v job.style
    → TokensKeep true keeps v None None others → TokensKeep false (said_by []) v None None after → (depth bodies loops left : ℕ) (s : State) → AtMost v (suc k) s
    → IfDone (AtMost v k) (in_turn (act job depth) (others ++ (less_one v ++ after)) bodies loops left s)
counting_done job keeps v k others after bk tk ta depth bodies loops left s h =
    subst (λ (o : Outcome). IfDone (AtMost v k) o) (sym (in_turn_both (act job depth) others (less_one v ++ after) bodies loops left s))
    (then_done (AtMost v (suc k)) (AtMost v k) (in_turn (act job depth) others bodies loops left s) (in_turn (act job depth) (less_one v ++ after) bodies loops)
    (tokens_keep_values job true keeps v bk others tk depth (suc k) (omega arith) bodies loops left s h)
    (λ rest t b. subst (λ (o : Outcome). IfDone (AtMost v k) o) (sym (in_turn_both (act job depth) (less_one v) after bodies loops rest t))
    (then_done (AtMost v k) (AtMost v k) (in_turn (act job depth) (less_one v) bodies loops rest t) (in_turn (act job depth) after bodies loops)
    (at depth rest t b)
    (λ rest1 u c. tokens_keep_values job false (said_by []) v (none_said job.style v) after ta depth k (omega arith) bodies loops rest1 u c))))
  where
    at : (depth rest : ℕ) (t : State) → AtMost v (suc k) t → IfDone (AtMost v k) (in_turn (act job depth) (less_one v) bodies loops rest t)
    at zero rest t b = tt
    at (suc e) rest t b = less_one_done job v k e bodies loops rest t b

-- a call of such a body
pub call_lowers : (job : Job) (keeps : ℕ → Bool) (body v k : ℕ) → BodyCounts keeps v (slice_index_or job.style.bodies body [])
    → BodiesKeep true keeps v job.style → (depth bodies loops left : ℕ) (s : State) → AtMost v (suc k) s
    → IfDone (AtMost v k) (act job depth (token.Run (callee.User body)) bodies loops left s)
call_lowers job keeps body v k w bk zero bodies loops left s h = tt
call_lowers job keeps body v k w bk (suc e) bodies loops zero s h = tt
call_lowers job keeps body v k w bk (suc e) bodies loops (suc left) s h =
    opens_to job body s e bodies loops left (AtMost v k)
    (λ t same. subst (λ (ts : List Token). IfDone (AtMost v k) (in_turn (act job e) ts (bodies + 1) loops left t)) (sym w.1.1.0)
    (counting_done job keeps v k w.0 w.1.0 bk w.1.1.1.0 w.1.1.1.1 e (bodies + 1) loops left t
    (subst (λ (xs : List ℤ). above_zero (unwrap_or (slice_get xs v) (pos 0)) ≤ suc k) (sym same.0) h)))
