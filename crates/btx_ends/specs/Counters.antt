-- Loops that count a variable down.
use Rattle.std.specs.Prelude.{◌≡◌, ℕ, suc, ◌+◌, ◌*◌, ◌≤◌, ◌<◌, List, [], ◌∷◌, ◌++◌, ℤ, pos, negsuc, slice_get, slice_index_or, unwrap_or}
use Rattle.btx_bst.specs.declared.built_in.BuiltIn.TheVariants.{Assign, Greater, Minus}
use Rattle.btx_bst.specs.declared.callee.Callee.TheVariants.{BuiltIn, GlobalInteger, User}
use Rattle.btx_bst.specs.declared.token.Token.{Token}
use Rattle.btx_bst.specs.declared.token.Token.TheVariants.{Integer, Quote, Run}
use Rattle.btx_step.specs.language.Jobs.{Job}
use Rattle.btx_machine.specs.language.States.{State}
use Rattle.btx_machine.specs.language.Meaning.{Action}
use Rattle.btx_machine.specs.language.MeaningBySteps.{in_turn, turns, act}
use Rattle.btx_ends.specs.Costs.{Ended, EndsIn}

-- the value of a global integer variable
abbrev pub value_in : ℕ → State → ℤ
value_in v s = unwrap_or (slice_get s.store.integers v) (pos 0)

-- how far an integer is above 0
abbrev pub above_zero : ℤ → ℕ
above_zero (pos n) = n
above_zero (negsuc n) = 0

-- the tokens `v #0 >`
abbrev pub above_zero_test : ℕ → List Token
above_zero_test v = Run (GlobalInteger v) ∷ Integer (pos 0) ∷ Run (BuiltIn Greater) ∷ []

-- a function of the style is `{v #0 >}`, for a global integer variable v
abbrev pub IsAboveZero : Job → ℕ → ℕ → Type 0
IsAboveZero job test v = slice_index_or job.style.bodies test [] ≡ above_zero_test v

-- from where the variable is above 0, a body ends within `cost` steps, and leaves a smaller value in it
abbrev pub CountsDown : ℕ → ℕ → Action → Type 0
CountsDown v cost body = (n : ℕ) → EndsIn cost (λ s. value_in v s ≡ pos (suc n)) body (λ s. above_zero (value_in v s) ≤ n)

-- THE RULE: a loop with the test `{v #0 >}` and such a body ends within a turn more than the variable's value says; a test takes 4 steps
abbrev pub CountersEnd : Type 0
CountersEnd = (job : Job) (test v cost depth : ℕ) (body : Action) → IsAboveZero job test v → CountsDown v cost body → 4 < depth
    → (n most bodies loops left : ℕ) (s : State) → above_zero (value_in v s) ≤ n → n < most → suc n * (4 + cost) ≤ left
    → Ended (suc n * (4 + cost)) (λ t. Unit {0}) left (turns job most (act job depth (Run (User test))) body bodies loops left s)

-- the tokens `v #1 - 'v :=`
abbrev pub less_one : ℕ → List Token
less_one v = Run (GlobalInteger v) ∷ Integer (pos 1) ∷ Run (BuiltIn Minus) ∷ Quote (GlobalInteger v) ∷ Run (BuiltIn Assign) ∷ []

-- THE RULE: they count the variable down, and take 5 steps
abbrev pub LessOneCounts : Type 0
LessOneCounts = (job : Job) (v depth : ℕ) → 0 < depth → CountsDown v 5 (in_turn (act job depth) (less_one v))

-- an action ends within `cost` steps, and leaves the variable's value as it was
abbrev pub Keeps : ℕ → ℕ → Action → Type 0
Keeps v cost go = (x : ℤ) → EndsIn cost (λ s. value_in v s ≡ x) go (λ s. value_in v s ≡ x)

-- BOTH: a loop with the test `{v #0 >}`, and a body that ends in `v #1 - 'v :=` after tokens that keep the variable, ends within a turn more than its value
-- says. A turn takes 10 steps more than those tokens: 4 of the test, one of the call, and 5 that count
abbrev pub CountedLoopsEnd : Type 0
CountedLoopsEnd = (job : Job) (test body v cost depth : ℕ) (others : List Token) → IsAboveZero job test v
    → slice_index_or job.style.bodies body [] ≡ others ++ less_one v → Keeps v cost (in_turn (act job depth) others) → 4 < depth
    → (n most bodies loops left : ℕ) (s : State) → above_zero (value_in v s) ≤ n → n < most → suc n * (cost + 10) ≤ left
    → Ended (suc n * (cost + 10)) (λ t. Unit {0}) left
    (turns job most (act job (suc depth) (Run (User test))) (act job (suc depth) (Run (User body))) bodies loops left s)
