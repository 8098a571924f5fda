-- The calls of a run: which token led to each body and loop that is open.
use Rattle.std.specs.Prelude.{◌≡◌, ◌⊎◌, ℕ, List, [], ◌∷◌, Option, None, Some, slice_get, slice_index_or}
use Rattle.btx_bib.specs.language.Library.{entry_type}
use Rattle.btx_bst.specs.declared.built_in.BuiltIn.TheVariants as built_in
use Rattle.btx_bst.specs.declared.callee.Callee.{Callee}
use Rattle.btx_bst.specs.declared.callee.Callee.TheVariants.{BuiltIn, User}
use Rattle.btx_bst.specs.declared.token.Token.{Token}
use Rattle.btx_bst.specs.declared.token.Token.TheVariants.{Run}
use Rattle.btx_bst.specs.language.Style.{Style}
use Rattle.btx_step.specs.language.Entries.{entry_of}
use Rattle.btx_step.specs.language.Jobs.{Job}
use Rattle.btx_step.specs.refinement.Entries.{runner_of}
use Rattle.btx_where.specs.declared.place.Place.{Place}
use Rattle.btx_where.specs.declared.scene.Level.{Level}
use Rattle.btx_where.specs.declared.scene.Level.TheVariants as level

-- the token at a place
abbrev pub token_at : Style → Place → Option Token
token_at style place = slice_get (slice_index_or style.bodies place.function []) place.token

-- the function that `call.type$` runs in the current entry, if there is one
abbrev pub type_called : Job → Option ℕ → Option ℕ
type_called job None = None
type_called job (Some entry) = runner_of job (entry_type (entry_of job entry))

-- `next` is run by a token that runs a function of its choice: by `if$`, which may run any, or by `call.type$`, which runs that of the entry's type
abbrev pub IsChosen : Job → Option ℕ → Token → Token → Type 0
IsChosen job entry (Run (BuiltIn built_in.If)) next = (function : Callee) × (next ≡ Run function)
IsChosen job entry (Run (BuiltIn built_in.CallType)) next = (function : ℕ) × (type_called job entry ≡ Some function) × (next ≡ Run (User function))
IsChosen job entry _ next = ⊥

-- a body that stands at a token is at `next`: it is the token itself, or what that runs by its choice
abbrev pub Leads : Job → Option ℕ → Token → Token → Type 0
Leads job entry token next = (next ≡ token) ⊎ IsChosen job entry token next

-- These levels, innermost first, are calls that lead to `next`. A body stands at a token that leads to it, and the call of the body's function is what the
-- levels round the body lead to. A loop runs its test or its body, which leads to it, and those round the loop lead to `while$`. Round all is the command,
-- which runs `function`
abbrev pub AreCalls : Job → Option ℕ → Callee → List Level → Token → Type 0
AreCalls job entry function [] next = Leads job entry (Run function) next
AreCalls job entry function (level.Body place ∷ levels) next =
    ((token : Token) × (token_at job.style place ≡ Some token) × Leads job entry token next) × AreCalls job entry function levels (Run (User place.function))
AreCalls job entry function (level.LoopTest test body ∷ levels) next =
    Leads job entry (Run test) next × AreCalls job entry function levels (Run (BuiltIn built_in.While))
AreCalls job entry function (level.LoopBody test body ∷ levels) next =
    Leads job entry (Run body) next × AreCalls job entry function levels (Run (BuiltIn built_in.While))
