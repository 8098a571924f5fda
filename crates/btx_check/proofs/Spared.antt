-- What no execution changes: which entry is current, and the variables of the other entries. And none adds to the steps that are left.
use Rattle.std.proofs.Common.{◌≡◌, ℕ, zero, suc, ◌+◌, List, [], ◌∷◌, ◌≤◌, Option, Bool, true, false, refl, sym, subst, ◌∙◌, nat_lt, max, arith}
use Rattle.std.specs.Prelude.{slice_get, slice_index_or}
use Rattle.btx_bst.specs.declared.token.Token.{Token}
use Rattle.btx_bst.specs.declared.token.Token.TheVariants as token
use Rattle.btx_stack.specs.declared.literal.Literal.{Literal}
use Rattle.btx_stack.specs.declared.literal.Literal.TheVariants.{Integer}
use Rattle.btx_step.specs.declared.next.Next.{Next}
use Rattle.btx_step.specs.declared.next.Next.TheVariants as next
use Rattle.btx_step.specs.language.Jobs.{Job}
use Rattle.btx_step.specs.language.Stores.{Store}
use Rattle.btx_step.specs.language.Control.{tested}
use Rattle.btx_step.specs.laws.Leaves.{IsOther}
use Rattle.btx_step.proofs.LeaveLemmas.{current_stays, other_entries_stay}
use Rattle.btx_machine.specs.language.States.{State, Outcome, Done, Stopped, Limit}
use Rattle.btx_machine.specs.language.Steps.{token_effect, turn_of}
use Rattle.btx_machine.specs.language.Meaning.{Action, then_do, after_test}
use Rattle.btx_machine.specs.language.MeaningBySteps.{in_turn, turns, body_if, turns_if, follow, act}

-- the current entry is the same, and so are the variables of the others
pub record Spares (s t : Store) : Type 0 where
  pub current : t.current ≡ s.current
  pub others : (entry : ℕ) → IsOther s.current entry → slice_get t.entries entry ≡ slice_get s.entries entry

spares_then : (s t u : Store) → Spares s t → Spares t u → Spares s u
spares_then s t u h g = record {
  current = g.current ∙ h.current;
  others = λ entry apart. g.others entry (subst (λ (o : Option ℕ). IsOther o entry) (sym h.current) apart) ∙ h.others entry apart;
}

-- where an execution is done, it is so, and no more steps are left than `most`
abbrev pub Keeps : Store → ℕ → Outcome → Type 0
Keeps s most (Done t left) = Spares s t.store × (left ≤ most)
Keeps s most (Stopped t) = Unit {0}
Keeps s most (Limit kind t left) = Unit {0}

keeps_from : (s t : Store) (most less : ℕ) (o : Outcome) → Spares s t → less ≤ most → Keeps t less o → Keeps s most o
keeps_from s t most less (Done u left) h l g = let e = g.1 in (spares_then s t u.store h g.0, omega (arith, l, e))
keeps_from s t most less (Stopped u) h l g = tt
keeps_from s t most less (Limit kind u left) h l g = tt

then_keeps : (s : Store) (most : ℕ) (o : Outcome) (go : ℕ → State → Outcome) → Keeps s most o
    → ((left : ℕ) (t : State) → Keeps t.store left (go left t)) → Keeps s most (then_do o go)
then_keeps s most (Done t left) go h g = keeps_from s t.store most left (go left t) h.0 h.1 (g left t)
then_keeps s most (Stopped t) go h g = tt
then_keeps s most (Limit kind t left) go h g = tt

abbrev KeepsAll : Action → Type 0
KeepsAll action = (bodies loops left : ℕ) (s : State) → Keeps s.store left (action bodies loops left s)

same : (s : Store) → Spares s s
same s = record { current = refl; others = λ entry apart. refl }

no_more : (n : ℕ) → n ≤ n
no_more n = omega arith

tested_spares : (xs : List Literal) (s : Store) → Spares s (tested xs s).store
tested_spares [] s = record { current = refl; others = λ entry apart. refl }
tested_spares (Integer n ∷ xs) s = record { current = refl; others = λ entry apart. refl }
tested_spares (x ∷ xs) s = record { current = refl; others = λ entry apart. refl }

turn_spares : (job : Job) (t : State) → Spares t.store (turn_of job t).state.store
unfolding turn_of
turn_spares job t = tested_spares t.store.literals t.store

step_spares : (job : Job) (x : Token) (s : State) → Spares s.store (token_effect job x s).state.store
unfolding token_effect
step_spares job x s = record { current = current_stays job x s.store; others = λ entry apart. other_entries_stay job x s.store entry apart }

in_turn_keeps : (go : Token → Action) → ((x : Token) → KeepsAll (go x)) → (xs : List Token) → KeepsAll (in_turn go xs)
in_turn_keeps go h [] bodies loops left s = (same s.store, no_more left)
in_turn_keeps go h (x ∷ xs) bodies loops left s = then_keeps s.store left (go x bodies loops left s) (in_turn go xs bodies loops) (h x bodies loops left s)
    (λ c t. in_turn_keeps go h xs bodies loops c t)

after_keeps : (s : Store) (more : Bool) (t : State) (left : ℕ) (go : ℕ → State → Outcome) → Spares s t.store
    → ((left : ℕ) (u : State) → Keeps u.store left (go left u)) → Keeps s left (after_test more t left go)
after_keeps s true t left go h g = keeps_from s t.store left left (go left t) h (no_more left) (g left t)
after_keeps s false t left go h g = (h, no_more left)

turns_keeps : (job : Job) (test body : Action) → KeepsAll test → KeepsAll body → (most : ℕ) → KeepsAll (turns job most test body)
turns_keeps job test body f g zero bodies loops left s = tt
turns_keeps job test body f g (suc most) bodies loops left s =
    then_keeps s.store left (test bodies loops left s) _ (f bodies loops left s)
    (λ c t. after_keeps t.store (turn_of job t).again (turn_of job t).state c _ (turn_spares job t)
    (λ c1 u. then_keeps u.store c1 (body bodies loops c1 u) (turns job most test body bodies loops) (g bodies loops c1 u)
    (λ c2 v. turns_keeps job test body f g most bodies loops c2 v)))

body_keeps : (go : Token → Action) → ((x : Token) → KeepsAll (go x)) → (xs : List Token) (more : Bool) → KeepsAll (body_if more go xs)
body_keeps go h xs true bodies loops left s =
    let deeper = record s { store = record s.store { deepest = max s.store.deepest (bodies + 1) } } in
    keeps_from s.store deeper.store left left (in_turn go xs (bodies + 1) loops left deeper) (record { current = refl; others = λ entry apart. refl })
    (no_more left) (in_turn_keeps go h xs (bodies + 1) loops left deeper)
body_keeps go h xs false bodies loops left s = tt

loop_keeps : (job : Job) (test body : Action) → KeepsAll test → KeepsAll body → (more : Bool) (most : ℕ) → KeepsAll (turns_if job more most test body)
loop_keeps job test body f g true most bodies loops left s = turns_keeps job test body f g most bodies (loops + 1) left s
loop_keeps job test body f g false most bodies loops left s = tt

follow_keeps : (job : Job) (go : Token → Action) → ((x : Token) → KeepsAll (go x)) → (most : ℕ) (after : Next) (s : State) (bodies loops left : ℕ)
    → Keeps s.store left (follow job go most after s bodies loops left)
follow_keeps job go h most next.Nothing s bodies loops left = (same s.store, no_more left)
follow_keeps job go h most (next.End limit) s bodies loops left = tt
follow_keeps job go h most (next.Run f) s bodies loops left = h (token.Run f) bodies loops left s
follow_keeps job go h most (next.Open i) s bodies loops left = body_keeps go h (slice_index_or job.style.bodies i []) (nat_lt bodies 4096) bodies loops left s
follow_keeps job go h most (next.Loop test body) s bodies loops left =
    loop_keeps job (go (token.Run test)) (go (token.Run body)) (h (token.Run test)) (h (token.Run body)) (nat_lt loops 4096) most bodies loops left s

-- whatever is executed
pub act_keeps : (job : Job) (n : ℕ) (x : Token) → KeepsAll (act job n x)
act_keeps job zero x bodies loops left s = tt
act_keeps job (suc n) x bodies loops zero s = tt
act_keeps job (suc n) x bodies loops (suc left) s =
    keeps_from s.store (token_effect job x s).state.store (suc left) left
    (follow job (act job n) n (token_effect job x s).next (token_effect job x s).state bodies loops left) (step_spares job x s) (omega arith)
    (follow_keeps job (act job n) (λ y. act_keeps job n y) n (token_effect job x s).next (token_effect job x s).state bodies loops left)
