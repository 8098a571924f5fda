-- What leaves the value of a global integer variable no greater than it was, or than 1, read off tokens.
use Rattle.std.specs.Prelude.{◌≡◌, ◌≢◌, ◌⊎◌, ℕ, ◌≤◌, pos, ◌≤ℤ◌, List, [], ◌∷◌, ◌++◌, Option, None, Some, Bool, true, false, if◌then◌else◌, slice_index_or}
use Rattle.btx_bst.specs.declared.built_in.BuiltIn.{BuiltIn}
use Rattle.btx_bst.specs.declared.built_in.BuiltIn.TheVariants as built_in
use Rattle.btx_bst.specs.declared.callee.Callee.{Callee}
use Rattle.btx_bst.specs.declared.callee.Callee.TheVariants as callee
use Rattle.btx_bst.specs.declared.token.Token.{Token}
use Rattle.btx_bst.specs.declared.token.Token.TheVariants.{Integer, Quote, Run}
use Rattle.btx_bst.specs.language.Style.{Style}
use Rattle.btx_step.specs.language.Jobs.{Job}
use Rattle.btx_machine.specs.language.States.{State, Outcome, Done, Stopped, Limit}
use Rattle.btx_machine.specs.language.MeaningBySteps.{in_turn, act}
use Rattle.btx_ends.specs.Counters.{value_in, above_zero, less_one}

-- where an execution is done, this holds of the state; nothing is asked after a stop or a limit
abbrev pub IfDone : (State → Type 0) → Outcome → Type 0
IfDone goal (Done s left) = goal s
IfDone goal (Stopped s) = Unit {0}
IfDone goal (Limit kind s left) = Unit {0}

-- the token that pushed the literal on top, after a token: that one, if it is a function or an integer
abbrev pub pushed_after : Token → Option Token
pushed_after (Quote f) = Some (Quote f)
pushed_after (Integer n) = Some (Integer n)
pushed_after _ = None

-- .. and the one below that: what pushed the literal that stood on top
abbrev pub pushed_below : Option Token → Token → Option Token
pushed_below top (Quote f) = top
pushed_below top (Integer n) = top
pushed_below top _ = None

-- a built-in function changes no variable and executes nothing, by its name alone
abbrev pub BuiltInKeeps : BuiltIn → Type 0
BuiltInKeeps built_in.Assign = ⊥
BuiltInKeeps built_in.CallType = ⊥
BuiltInKeeps built_in.If = ⊥
BuiltInKeeps built_in.While = ⊥
BuiltInKeeps _ = Unit {0}

-- what is executed under a name doesn't raise the variable that is looked at, by what `keeps` says of the style's functions
abbrev pub CalleeKeeps : (ℕ → Bool) → Callee → Type 0
CalleeKeeps keeps (callee.BuiltIn f) = BuiltInKeeps f
CalleeKeeps keeps (callee.User number) = keeps number ≡ true
CalleeKeeps keeps _ = Unit {0}

-- two functions that an `if$` or a `while$` takes are known, and don't raise it
abbrev pub BothKeep : (ℕ → Bool) → Option Token → Option Token → Type 0
BothKeep keeps (Some (Quote top)) (Some (Quote below)) = CalleeKeeps keeps top × CalleeKeeps keeps below
BothKeep keeps _ _ = ⊥

-- the greatest integer that the variable may be given, whatever its value: 1, or 0
abbrev pub most_given : Bool → ℕ
most_given one = if one then 1 else 0

-- a value that is assigned is an integer of the style that is no greater
abbrev pub IsLow : Bool → Option Token → Type 0
IsLow one (Some (Integer n)) = n ≤ℤ pos (most_given one)
IsLow one _ = ⊥

-- what `:=` assigns to is known, and isn't the variable v, or v is given a low integer
abbrev pub AssignKeeps : Bool → ℕ → Option Token → Option Token → Type 0
AssignKeeps one v (Some (Quote (callee.GlobalInteger w))) value = (w ≢ v) ⊎ IsLow one value
AssignKeeps one v (Some (Quote f)) value = Unit {0}
AssignKeeps one v _ value = ⊥

-- a token doesn't raise the variable v, where these tokens pushed the literal on top of the stack and the one below that
abbrev pub StepKeeps : Bool → (ℕ → Bool) → ℕ → Option Token → Option Token → Token → Type 0
StepKeeps one keeps v top below (Run (callee.BuiltIn built_in.If)) = BothKeep keeps top below
StepKeeps one keeps v top below (Run (callee.BuiltIn built_in.While)) = BothKeep keeps top below
StepKeeps one keeps v top below (Run (callee.BuiltIn built_in.Assign)) = AssignKeeps one v top below
StepKeeps one keeps v top below (Run f) = CalleeKeeps keeps f
StepKeeps one keeps v top below _ = Unit {0}

-- nor do tokens one after another
abbrev pub TokensKeep : Bool → (ℕ → Bool) → ℕ → Option Token → Option Token → List Token → Type 0
TokensKeep one keeps v top below [] = Unit {0}
TokensKeep one keeps v top below (x ∷ rest) = StepKeeps one keeps v top below x × TokensKeep one keeps v (pushed_after x) (pushed_below top x) rest

-- nor do the functions of which `keeps` says so
abbrev pub BodiesKeep : Bool → (ℕ → Bool) → ℕ → Style → Type 0
BodiesKeep one keeps v style = (number : ℕ) → keeps number ≡ true → TokensKeep one keeps v None None (slice_index_or style.bodies number [])

-- what a list says of functions, by their numbers
abbrev pub said_by : List Bool → ℕ → Bool
said_by keeps number = slice_index_or keeps number false

-- a body counts the variable down: it has the tokens `v #1 - 'v :=`, after tokens that leave v at most what it was, or 1, and before tokens that execute no function
-- of the style and leave it at most what it is then, or 0
abbrev pub BodyCounts : (ℕ → Bool) → ℕ → List Token → Type 0
BodyCounts keeps v body = (others : List Token) × ((rest : List Token) × ((body ≡ others ++ (less_one v ++ rest))
    × (TokensKeep true keeps v None None others × TokensKeep false (said_by []) v None None rest)))

-- THE RULE: where such tokens are done, the variable isn't greater than it was, or than the greatest integer that it may be given, whatever loops they turn
abbrev pub TokensKeepValues : Type 0
TokensKeepValues = (job : Job) (one : Bool) (keeps : ℕ → Bool) (v : ℕ) → BodiesKeep one keeps v job.style → (xs : List Token)
    → TokensKeep one keeps v None None xs → (depth most : ℕ) → most_given one ≤ most → (bodies loops left : ℕ) (s : State) → above_zero (value_in v s) ≤ most
    → IfDone (λ t. above_zero (value_in v t) ≤ most) (in_turn (act job depth) xs bodies loops left s)
