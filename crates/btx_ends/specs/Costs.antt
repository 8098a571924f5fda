-- The calculus of costs: what it is that an execution ends within a number of steps, and how that is composed.
use Rattle.std.specs.Prelude.{◌≡◌, ℕ, suc, ◌+◌, ◌*◌, ◌≤◌, ◌<◌, List, ◌∷◌, Bool, true, false}
use Rattle.btx_bst.specs.declared.token.Token.{Token}
use Rattle.btx_step.specs.language.Jobs.{Job}
use Rattle.btx_machine.specs.language.States.{State, Outcome, Done, Stopped, Limit}
use Rattle.btx_machine.specs.language.Steps.{token_effect, turn_of}
use Rattle.btx_machine.specs.language.Meaning.{Action}
use Rattle.btx_machine.specs.language.MeaningBySteps.{in_turn, turns, follow, act}

-- an execution that began with `left` steps took at most `cost` of them. It is done in a state of which `goal` holds, or it met a limit; it wasn't stopped
abbrev pub Ended : ℕ → (State → Type 0) → ℕ → Outcome → Type 0
Ended cost goal left (Done s rest) = goal s × (left ≤ rest + cost)
Ended cost goal left (Stopped s) = ⊥
Ended cost goal left (Limit kind s rest) = left ≤ rest + cost

-- an action ends within `cost` steps from each state of which `from` holds, if these are left
abbrev pub EndsIn : ℕ → (State → Type 0) → Action → (State → Type 0) → Type 0
EndsIn cost from go goal = (bodies loops left : ℕ) (s : State) → from s → cost ≤ left → Ended cost goal left (go bodies loops left s)

-- the states of which a test is true
abbrev pub So : (State → Bool) → State → Type 0
So p s = p s ≡ true

-- ---- the rules

-- a token and those after it end within the sum of their costs
abbrev pub TokensEnd : Type 0
TokensEnd = (go : Token → Action) (x : Token) (rest : List Token) (from between goal : State → Bool) (first others : ℕ)
    → EndsIn first (So from) (go x) (So between) → EndsIn others (So between) (in_turn go rest) (So goal)
    → EndsIn (first + others) (So from) (in_turn go (x ∷ rest)) (So goal)

-- a token ends within a step more than what follows its step
abbrev pub StepsEnd : Type 0
StepsEnd = (job : Job) (n : ℕ) (x : Token) (from goal : State → Bool) (cost : ℕ)
    → ((bodies loops left : ℕ) (s : State) → So from s → cost ≤ left
    → Ended cost (So goal) left (follow job (act job n) n (token_effect job x s).next (token_effect job x s).state bodies loops left))
    → EndsIn (cost + 1) (So from) (act job (suc n) x) (So goal)

-- a loop of which each turn makes a measure smaller ends within a turn more than the measure says. The test ends from each head, and leads to `between`; where
-- the body follows, it ends too, and leads to a head of a smaller measure
abbrev pub LoopsEnd : Type 0
LoopsEnd = (job : Job) (test body : Action) (head goal : State → Bool) (between : ℕ → State → Bool) (measure : State → ℕ) (of_test of_body : ℕ)
    → ((n : ℕ) → EndsIn of_test (λ s. So head s × (measure s ≡ n)) test (So (between n)))
    → ((n : ℕ) (t : State) → So (between n) t → (turn_of job t).again ≡ true
    → EndsIn of_body (λ u. u ≡ (turn_of job t).state) body (λ v. So head v × (measure v < n)))
    → ((n : ℕ) (t : State) → So (between n) t → (turn_of job t).again ≡ false → So goal (turn_of job t).state)
    → (n most bodies loops left : ℕ) (s : State) → So head s → measure s ≤ n → n < most → suc n * (of_test + of_body) ≤ left
    → Ended (suc n * (of_test + of_body)) (So goal) left (turns job most test body bodies loops left s)
