-- How what is known of single steps makes what is known of executions, by one induction each: over the tokens of a body, and over the turns of a loop.
use Rattle.std.proofs.Common.{◌≡◌, ℕ, zero, suc, ◌+◌, ◌≤◌, List, [], ◌∷◌, Bool, true, false, refl, sym, ap, subst, arith, inl, inr, nat_lt, max}
use Rattle.std.proofs.Math.Nat.{max-le}
use Rattle.std.proofs.lemmas.Bool.{ltb-false}
use Rattle.std.specs.Prelude.{slice_index_or}
use Rattle.btx_text.specs.declared.limits.Limit.TheVariants as limit
use Rattle.btx_bst.specs.language.Style.{Style}
use Rattle.btx_bst.specs.declared.callee.Callee.{Callee}
use Rattle.btx_bst.specs.declared.callee.Callee.TheVariants as callee
use Rattle.btx_bst.specs.declared.token.Token.{Token}
use Rattle.btx_bst.specs.declared.token.Token.TheVariants as token
use Rattle.btx_step.specs.declared.next.Next.{Next}
use Rattle.btx_step.specs.declared.next.Next.TheVariants as next
use Rattle.btx_step.specs.language.Jobs.{Job}
use Rattle.btx_step.specs.language.Stores.{Store}
use Rattle.btx_step.specs.language.Control.{tested}
use Rattle.btx_step.specs.language.Steps.{function_run, step_of}
use Rattle.btx_machine.specs.language.States.{State, state, Outcome, Done, Stopped, Limit}
use Rattle.btx_machine.specs.language.Saying.{said_on}
use Rattle.btx_machine.specs.language.Steps.{executed_by, token_effect, turn_of}
use Rattle.btx_machine.specs.language.Meaning.{Action, then_do, after_test}
use Rattle.btx_machine.specs.language.MeaningBySteps.{in_turn, turns, body_if, turns_if, follow, act}
use Rattle.btx_check.specs.Calm.{Asked, AfterDone, Where, CalmInTurn, CalmTurns, CalmFollow, CalmAct}
use Rattle.btx_check.specs.Promise.{IsOf}
use Rattle.btx_check.specs.States.{Abstract, values_in, In, Among}
use Rattle.btx_check.specs.Inclusion.{Sub}
use Rattle.btx_check.specs.Running.{Sized, Sound, Goes, Leads, Rule, StyleRule, Good, Passes, RunsFrom, BodyRuns, TurnsTo, Turned, Closed}
use Rattle.btx_check.proofs.Later.{among_later}

good_sub : (job : Job) (m : ℕ) (xs ys : List Abstract) (o : Outcome) → Sub xs ys → Good job m xs o → Good job m ys o
good_sub job m xs ys (Done s left) h g = (g.0, h job left s.store g.1)
good_sub job m xs ys (Stopped s) h g = g
good_sub job m xs ys (Limit kind s left) h g = g

pub passes_sub : (job : Job) (m : ℕ) (xs ys : List Abstract) (calm : Type 0) (o : Outcome) → Sub xs ys → Passes calm (Good job m xs o)
    → Passes calm (Good job m ys o)
passes_sub job m xs ys calm o h g = record { is_calm = g.is_calm; ends_so = good_sub job m xs ys o h g.ends_so }

then_good : (job : Job) (m : ℕ) (xs ys : List Abstract) (o : Outcome) (go : ℕ → State → Outcome) (calm : ℕ → State → Type 0) → Good job m xs o
    → ((left : ℕ) (t : State) → Sound job m t → Among job left xs t.store → Passes (calm left t) (Good job m ys (go left t)))
    → Passes (AfterDone o calm) (Good job m ys (then_do o go))
then_good job m xs ys (Done s left) go calm h g = g left s h.0 h.1
then_good job m xs ys (Stopped s) go calm h g = record { is_calm = tt; ends_so = h }
then_good job m xs ys (Limit kind s left) go calm h g = record { is_calm = tt; ends_so = h }

-- one execution, and what follows it
then_passes : (job : Job) (m : ℕ) (xs ys : List Abstract) (first : Type 0) (o : Outcome) (go : ℕ → State → Outcome) (calm : ℕ → State → Type 0)
    → Passes first (Good job m xs o)
    → ((left : ℕ) (t : State) → Sound job m t → Among job left xs t.store → Passes (calm left t) (Good job m ys (go left t)))
    → Passes (first × AfterDone o calm) (Good job m ys (then_do o go))
then_passes job m xs ys first o go calm h g =
    let k = then_good job m xs ys o go calm h.ends_so g in record { is_calm = (h.is_calm, k.is_calm); ends_so = k.ends_so }

-- ---- one step

module _ (job : Job) (go : Token → Action) (calm : Token → Asked) (n : ℕ) (m : ℕ) (xs : List Abstract) where
  goes_good : (left : ℕ) (after : Next) (t : State) → Goes job left xs after t.store → Sound job m t → (bodies running : ℕ)
      → Passes (CalmFollow job go calm n after t bodies running left) (Good job m xs (follow job go n after t bodies running left))
  goes_good left next.Nothing t h f b r = record { is_calm = tt; ends_so = (f, h) }
  goes_good left (next.End limit.String) t h f b r = record { is_calm = tt; ends_so = (f, tt) }
  goes_good left (next.End limit.Literals) t h f b r = absurd h
  goes_good left (next.End limit.Calls) t h f b r = absurd h
  goes_good left (next.End limit.Loops) t h f b r = absurd h
  goes_good left (next.End limit.File) t h f b r = absurd h
  goes_good left (next.End limit.Files) t h f b r = absurd h
  goes_good left (next.Run g) t h f b r = absurd h
  goes_good left (next.Open i) t h f b r = absurd h
  goes_good left (next.Loop g k) t h f b r = absurd h

  pub leads_good : (left : ℕ) (x : Token) (s : State) → Leads job left xs s.store (step_of job x s.store) → Sound job m s → (bodies running : ℕ)
      → Passes (CalmFollow job go calm n (token_effect job x s).next (token_effect job x s).state bodies running left)
      (Good job m xs (follow job go n (token_effect job x s).next (token_effect job x s).state bodies running left))
  unfolding token_effect
  leads_good left x s h f b r =
      let a = step_of job x s.store in
      goes_good left a.next (state a.store (said_on job (executed_by job.style.names x) a.store.current a.said s.out)) h.goes
      (subst (λ d. d ≤ m) (sym h.deepest) f.0, h.sized f.1) b r

-- a token whose step leads on from each of these, one step later
token_runs_later : (style : Style) (allowed : List ℕ) (t : Token) (from : List Abstract) (r w : ℕ) (xs : List Abstract)
    → ((job : Job) → IsOf style allowed job → (left : ℕ) (s : Store) → Sized job (values_in s) → Among job (suc left) from s
    → Leads job left xs s (step_of job t s))
    → RunsFrom style allowed t from r w xs
token_runs_later style allowed t from r w xs rule job of zero m bodies running left s i fine l1 l2 l3 = record { is_calm = tt; ends_so = fine }
token_runs_later style allowed t from r w xs rule job of (suc n) m bodies running zero s i fine l1 l2 l3 = record { is_calm = tt; ends_so = fine }
token_runs_later style allowed t from r w xs rule job of (suc n) m bodies running (suc left) s i fine l1 l2 l3 =
    let leads = rule job of left s.store fine.1 i in
    let k = leads_good job (act job n) (CalmAct job n) n m xs left t s leads fine bodies running in
    record { is_calm = (leads.calm, k.is_calm); ends_so = k.ends_so }

-- .. that needs no step less
pub token_runs : (style : Style) (allowed : List ℕ) (t : Token) (from : List Abstract) (r w : ℕ) (xs : List Abstract)
    → ((job : Job) → IsOf style allowed job → (left : ℕ) (s : Store) → Sized job (values_in s) → Among job left from s → Leads job left xs s (step_of job t s))
    → RunsFrom style allowed t from r w xs
token_runs style allowed t from r w xs rule =
    token_runs_later style allowed t from r w xs (λ job of left s z i. rule job of left s z (among_later job left from s i))

rule_leads : (job : Job) (left : ℕ) (xs : List Abstract) (f : Callee) (s : Store) → Leads job left xs s (function_run job f s)
    → Leads job left xs s (step_of job (token.Run f) s)
unfolding step_of
rule_leads job left xs f s h = h

pub one_of : (job : Job) (left : ℕ) (a : Abstract) (s : Store) → Among job left (a ∷ []) s → In job left a s
one_of job left a s (inl h) = h
one_of job left a s (inr h) = absurd h

pub rule_runs : (style : Style) (allowed : List ℕ) (f : Callee) (a : Abstract) (r w : ℕ) (xs : List Abstract) → Rule f a xs
    → RunsFrom style allowed (token.Run f) (a ∷ []) r w xs
rule_runs style allowed f a r w xs rule =
    token_runs_later style allowed (token.Run f) (a ∷ []) r w xs
    (λ job of left s z i. rule_leads job left xs f s (rule job of.global_max of.entry_max left s (one_of job (suc left) a s i)))

pub style_rule_runs : (style : Style) (allowed : List ℕ) (f : Callee) (a : Abstract) (r w : ℕ) (xs : List Abstract) → StyleRule style allowed f a xs
    → RunsFrom style allowed (token.Run f) (a ∷ []) r w xs
style_rule_runs style allowed f a r w xs rule =
    token_runs style allowed (token.Run f) (a ∷ []) r w xs (λ job of left s z i. rule_leads job left xs f s (rule job of left s z (one_of job left a s i)))

-- ---- tokens, one after another

pub body_none : (style : Style) (allowed : List ℕ) (xs : List Abstract) (r w : ℕ) → BodyRuns style allowed [] xs r w xs
body_none style allowed xs r w job of n m bodies running left s i fine l1 l2 l3 = record { is_calm = tt; ends_so = (fine, i) }

pub body_next : (style : Style) (allowed : List ℕ) (t : Token) (ts : List Token) (xs ys zs : List Abstract) (r w : ℕ) → RunsFrom style allowed t xs r w ys
    → BodyRuns style allowed ts ys r w zs → BodyRuns style allowed (t ∷ ts) xs r w zs
body_next style allowed t ts xs ys zs r w h g job of n m bodies running left s i fine l1 l2 l3 =
    then_passes job m ys zs (CalmAct job n t bodies running left s) (act job n t bodies running left s) (in_turn (act job n) ts bodies running)
    (CalmInTurn (act job n) (CalmAct job n) ts bodies running) (h job of n m bodies running left s i fine l1 l2 l3)
    (λ c u f k. g job of n m bodies running c u k f l1 l2 l3)

-- ---- a function of the style: one more body

abbrev opened : ℕ → State → State
opened bodies s = record s { store = record s.store { deepest = max s.store.deepest (bodies + 1) } }

opened_good : (job : Job) (ts : List Token) (n m r : ℕ) (xs ys : List Abstract) (bodies running left : ℕ) (s : State)
    → ((t : State) → Among job left xs t.store → Sound job m t → Passes (CalmInTurn (act job n) (CalmAct job n) ts (bodies + 1) running left t)
    (Good job m ys (in_turn (act job n) ts (bodies + 1) running left t)))
    → Sound job m s → bodies + suc r ≤ m → m ≤ 4096 → (more : Bool) → nat_lt bodies 4096 ≡ more
    → ((d : ℕ) → Among job left xs (record s.store { deepest = d }))
    → Passes (Where more (CalmInTurn (act job n) (CalmAct job n) ts (bodies + 1) running left (opened bodies s)))
    (Good job m ys (body_if more (act job n) ts bodies running left s))
opened_good job ts n m r xs ys bodies running left s go fine l1 l2 true e k =
    go (opened bodies s) (k (max s.store.deepest (bodies + 1)))
    (max-le fine.0 (omega (arith, l1)), fine.1)
opened_good job ts n m r xs ys bodies running left s go fine l1 l2 false e k = let many = ltb-false bodies 4096 e in absurd (omega (arith, l1, l2, many))

-- γ says nothing of the greatest number of open bodies
among_deep : (job : Job) (left : ℕ) (xs : List Abstract) (s : Store) (d : ℕ) → Among job left xs s → Among job left xs (record s { deepest = d })
among_deep job left [] s d h = h
among_deep job left (a ∷ xs) s d (inl h) = inl h
among_deep job left (a ∷ xs) s d (inr h) = inr (among_deep job left xs s d h)

user_step : (job : Job) (n i : ℕ) (bodies running left : ℕ) (s : State) →
    act job (suc n) (token.Run (callee.User i)) bodies running (suc left) s ≡ body_if (nat_lt bodies 4096) (act job n) (slice_index_or job.style.bodies i [])
    bodies running left s
unfolding token_effect step_of function_run said_on
user_step job n i bodies running left s = refl

-- such a step says nothing, and its body is asked
user_calm : (job : Job) (n i : ℕ) (bodies running left : ℕ) (s : State)
    → Where (nat_lt bodies 4096) (CalmInTurn (act job n) (CalmAct job n) (slice_index_or job.style.bodies i []) (bodies + 1) running left (opened bodies s))
    → CalmAct job (suc n) (token.Run (callee.User i)) bodies running (suc left) s
unfolding token_effect step_of function_run said_on
user_calm job n i bodies running left s h = (tt, h)

pub user_runs : (style : Style) (allowed : List ℕ) (i : ℕ) (xs : List Abstract) (r w : ℕ) (ys : List Abstract)
    → BodyRuns style allowed (slice_index_or style.bodies i []) xs r w ys
    → RunsFrom style allowed (token.Run (callee.User i)) xs (suc r) w ys
user_runs style allowed i xs r w ys h job of zero m bodies running left s k fine l1 l2 l3 = record { is_calm = tt; ends_so = fine }
user_runs style allowed i xs r w ys h job of (suc n) m bodies running zero s k fine l1 l2 l3 = record { is_calm = tt; ends_so = fine }
user_runs style allowed i xs r w ys h job of (suc n) m bodies running (suc left) s k fine l1 l2 l3 =
    let body = slice_index_or job.style.bodies i [] in
    let o = opened_good job body n m r xs ys bodies running left s
    (λ t j f. subst (λ ts. Passes (CalmInTurn (act job n) (CalmAct job n) ts (bodies + 1) running left t)
    (Good job m ys (in_turn (act job n) ts (bodies + 1) running left t)))
    (ap (λ (st : Style). slice_index_or st.bodies i []) (sym of.same))
    (h job of n m (bodies + 1) running left t j f (omega (arith, l1)) l2 l3))
    fine l1 l2 (nat_lt bodies 4096) refl (λ d. among_deep job left xs s.store d (among_later job left xs s.store k)) in
    record {
      is_calm = user_calm job n i bodies running left s o.is_calm;
      ends_so = subst (Good job m ys) (sym (user_step job n i bodies running left s)) o.ends_so;
    }

-- ---- loops

record TurnGood (job : Job) (m left : ℕ) (again ends : List Abstract) (t : State) : Type 0 where
  fine : Sound job m (turn_of job t).state
  goes : TurnsTo job left again ends (turn_of job t).again (turn_of job t).state.store

turn_good : (job : Job) (m left : ℕ) (xs again ends : List Abstract) (t : State) → Turned xs again ends → Among job left xs t.store
    → Sound job m t → TurnGood job m left again ends t
unfolding turn_of
turn_good job m left xs again ends t h i fine =
    let test = tested t.store.literals t.store in
    record {
      fine = (subst (λ d. d ≤ m) (sym (h.deepest job left t.store i)) fine.0, h.sized job left t.store i fine.1);
      goes = h.goes job left t.store i;
    }

after_good : (job : Job) (m : ℕ) (again ends : List Abstract) (more : Bool) (t : State) (left : ℕ) (go : ℕ → State → Outcome) (calm : Type 0)
    → TurnsTo job left again ends more t.store → Sound job m t
    → (Among job left again t.store → Passes calm (Good job m ends (go left t))) → Passes (Where more calm) (Good job m ends (after_test more t left go))
after_good job m again ends true t left go calm h f g = g h
after_good job m again ends false t left go calm h f g = record { is_calm = tt; ends_so = (f, h) }

-- after the test, which is calm
tested_good : (job : Job) (m : ℕ) (test rest : Type 0) (o : Outcome) (ends : List Abstract) → test → Passes rest (Good job m ends o)
    → Passes (test × rest) (Good job m ends o)
tested_good job m test rest o ends h g = record { is_calm = (h, g.is_calm); ends_so = g.ends_so }

turns_good : (style : Style) (allowed : List ℕ) (heads : List Abstract) (f g : Callee) (r w : ℕ) (tests again ends : List Abstract)
    → Closed style allowed heads f g r w tests again ends
    → (job : Job) → IsOf style allowed job → (n most m bodies running left : ℕ) (s : State) → Among job left heads s.store → Sound job m s
    → bodies + r ≤ m → m ≤ 4096 → running + w ≤ 4096
    → Passes (CalmTurns job (act job n) (CalmAct job n) most (token.Run f) (token.Run g) bodies running left s)
    (Good job m ends (turns job most (act job n (token.Run f)) (act job n (token.Run g)) bodies running left s))
turns_good style allowed heads f g r w tests again ends c job of n zero m bodies running left s i fine l1 l2 l3 = record { is_calm = tt; ends_so = fine }
turns_good style allowed heads f g r w tests again ends c job of n (suc most) m bodies running left s i fine l1 l2 l3 =
    then_passes job m tests ends (CalmAct job n (token.Run f) bodies running left s) (act job n (token.Run f) bodies running left s) _ _
    (c.tested job of n m bodies running left s i fine l1 l2 l3)
    (λ c1 t f1 i1. let tg = turn_good job m c1 tests again ends t c.turned i1 f1 in
    tested_good job m _ _ _ ends (c.turned.calm job c1 t.store i1)
    (after_good job m again ends (turn_of job t).again (turn_of job t).state c1 _ _ tg.goes tg.fine
    (λ i2. then_passes job m heads ends (CalmAct job n (token.Run g) bodies running c1 (turn_of job t).state)
    (act job n (token.Run g) bodies running c1 (turn_of job t).state)
    (turns job most (act job n (token.Run f)) (act job n (token.Run g)) bodies running)
    (CalmTurns job (act job n) (CalmAct job n) most (token.Run f) (token.Run g) bodies running)
    (c.bodies job of n m bodies running c1 (turn_of job t).state i2 tg.fine l1 l2 l3)
    (λ c2 u f2 i3. turns_good style allowed heads f g r w tests again ends c job of n most m bodies running c2 u i3 f2 l1 l2 l3))))

pub loop_good : (style : Style) (allowed : List ℕ) (heads : List Abstract) (f g : Callee) (r w : ℕ) (tests again ends : List Abstract)
    → Closed style allowed heads f g r w tests again ends
    → (job : Job) → IsOf style allowed job → (n most m bodies running left : ℕ) (s : State) → Among job left heads s.store → Sound job m s
    → bodies + r ≤ m → m ≤ 4096 → running + suc w ≤ 4096
    → (more : Bool) → nat_lt running 4096 ≡ more
    → Passes (Where more (CalmTurns job (act job n) (CalmAct job n) most (token.Run f) (token.Run g) bodies (running + 1) left s))
    (Good job m ends (turns_if job more most (act job n (token.Run f)) (act job n (token.Run g)) bodies running left s))
loop_good style allowed heads f g r w tests again ends c job of n most m bodies running left s i fine l1 l2 l3 true e =
    turns_good style allowed heads f g r w tests again ends c job of n most m bodies (running + 1) left s i fine l1 l2 (omega (arith, l3))
loop_good style allowed heads f g r w tests again ends c job of n most m bodies running left s i fine l1 l2 l3 false e =
    let many = ltb-false running 4096 e in absurd (omega (arith, l3, many))
