-- What a step leaves as it was. Fields, keys, types, the preamble and the style belong to the job, which no step answers: none can change them.
use Rattle.std.specs.Prelude.{◌≡◌, ◌≢◌, ◌≤◌, ℕ, Bool, true, false, List, [], ◌++◌, length, drop, slice_get, Option, None, Some}
use Rattle.btx_bst.specs.declared.built_in.BuiltIn.TheVariants as built_in
use Rattle.btx_bst.specs.declared.callee.Callee.TheVariants as callee
use Rattle.btx_bst.specs.declared.token.Token.{Token}
use Rattle.btx_bst.specs.declared.token.Token.TheVariants as token
use Rattle.btx_stack.specs.declared.literal.Literal.{Literal}
use Rattle.btx_step.specs.language.Jobs.{Job}
use Rattle.btx_step.specs.language.Stores.{Store}
use Rattle.btx_step.specs.language.Answers.{with_literals}
use Rattle.btx_step.specs.language.Table.{row}
use Rattle.btx_step.specs.language.Steps.{step_of}

-- ---- variables

-- `:=` that is executed
abbrev pub is_assignment : Token → Bool
is_assignment (token.Run (callee.BuiltIn built_in.Assign)) = true
is_assignment t = false

-- a step of any other token changes the literals alone: no variable, and not which entry is the current one
abbrev pub VariablesStay : Type 0
VariablesStay = (job : Job) (t : Token) (s : Store) → is_assignment t ≡ false → with_literals [] (step_of job t s).store ≡ with_literals [] s

-- an entry that isn't the current one
abbrev pub IsOther : Option ℕ → ℕ → Type 0
IsOther None entry = Unit {0}
IsOther (Some current) entry = entry ≢ current

-- no step changes the variables of another entry
abbrev pub OtherEntriesStay : Type 0
OtherEntriesStay = (job : Job) (t : Token) (s : Store) (entry : ℕ) → IsOther s.current entry
    → slice_get (step_of job t s).store.entries entry ≡ slice_get s.entries entry

-- no step makes another entry the current one
abbrev pub CurrentStays : Type 0
CurrentStays = (job : Job) (t : Token) (s : Store) → (step_of job t s).store.current ≡ s.current

-- no step changes the greatest number of bodies that were open at once
abbrev pub DeepestStays : Type 0
DeepestStays = (job : Job) (t : Token) (s : Store) → (step_of job t s).store.deepest ≡ s.deepest

-- ---- literals

-- how many literals a token takes, `stack$`, which takes all, aside: a built-in function as many as its row of the table says; a literal that
-- is pushed takes none, and neither does a field, a variable or a function of the style. That a row doesn't take more than it should is seen from the
-- worked functions: below the operands of each one further literal stands, which stays
abbrev pub operands_taken : Token → ℕ
operands_taken (token.Run (callee.BuiltIn f)) = length (row f).operands
operands_taken t = 0

-- `stack$` that is executed
abbrev pub is_listing : Token → Bool
is_listing (token.Run (callee.BuiltIn built_in.Stack)) = true
is_listing t = false

-- these literals stand, and above them at most two others
pub record StandUnder (below : List Literal) (literals : List Literal) : Type 0 where
  pub results : List Literal
  pub few : length results ≤ 2
  pub above : literals ≡ results ++ below

-- below the operands that a step takes all literals stay, but for `stack$`
abbrev pub LowerLiteralsStay : Type 0
LowerLiteralsStay = (job : Job) (t : Token) (s : Store) → is_listing t ≡ false
    → StandUnder (drop (operands_taken t) s.literals) (step_of job t s).store.literals

-- `stack$` leaves no literal on the stack
abbrev pub ListingEmpties : Type 0
ListingEmpties = (job : Job) (s : Store) → (step_of job (token.Run (callee.BuiltIn built_in.Stack)) s).store.literals ≡ []
