-- Small cases in which a fault is seen: without them, a definition that asks too little would be believed.
use Rattle.std.specs.Prelude.{◌≡◌, ℕ, suc, ◌<◌, pos, List, [], ◌∷◌, Some, slice_index_or}
use Rattle.btx_text.specs.declared.limits.Limit.TheVariants.{Literals, Calls, Loops}
use Rattle.btx_bst.specs.declared.built_in.BuiltIn.TheVariants as built_in
use Rattle.btx_bst.specs.declared.callee.Callee.{Callee}
use Rattle.btx_bst.specs.declared.callee.Callee.TheVariants.{BuiltIn, User}
use Rattle.btx_bst.specs.declared.token.Token.{Token}
use Rattle.btx_bst.specs.declared.token.Token.TheVariants.{Integer, Run, Quote}
use Rattle.btx_bst.specs.language.Items.{Item}
use Rattle.btx_bst.specs.language.Items as item
use Rattle.btx_step.specs.language.Jobs.{Job}
use Rattle.btx_machine.specs.declared.command.Command.TheVariants as command
use Rattle.btx_machine.specs.language.States.{State, Done, Limit}
use Rattle.btx_machine.specs.language.Commands.{visit}
use Rattle.btx_check.specs.Calm.{CalmVisit, CalmItems}
use Rattle.btx_check.specs.Promise.{Promised, most_steps}

-- a state with an empty stack
abbrev pub emptied : State → State
emptied s = record s { store = record s.store { literals = [] } }

-- a token that runs `skip$`
abbrev skip : Token
skip = Run (BuiltIn built_in.Skip)

-- one that runs `pop$`
abbrev pop : Token
pop = Run (BuiltIn built_in.Pop)

-- a command whose function pops an empty stack has a fault, whatever items are after it
abbrev pub PopIsSeen : Type 0
PopIsSeen = (job : Job) (items : List Item) (list : List ℕ) (left : ℕ) (s : State)
    → CalmItems job (item.Execute (BuiltIn built_in.Pop) ∷ items) list (suc left) (emptied s) → ⊥

-- so has one that is executed for an entry, whose function's body is `skip$ pop$`: what is after a token without a fault is asked too
abbrev pub PopInBodyIsSeen : Type 0
PopInBodyIsSeen = (job : Job) (items : List Item) (entry left function : ℕ) (s : State) → slice_index_or job.style.bodies function [] ≡ skip ∷ pop ∷ []
    → CalmItems job (item.Iterate (User function) ∷ items) (entry ∷ []) (suc (suc (suc left))) (emptied s) → ⊥

-- so has a style whose second command pops an empty stack
abbrev pub LaterPopIsSeen : Type 0
LaterPopIsSeen = (job : Job) (items : List Item) (list : List ℕ) (left : ℕ) (s : State)
    → CalmItems job (item.Execute (BuiltIn built_in.Skip) ∷ item.Execute (BuiltIn built_in.Pop) ∷ items) list (suc (suc left)) (emptied s) → ⊥

-- so has a loop whose test leaves nothing: `while$` after `'skip$ 'skip$`
abbrev pub LackOfTestIsSeen : Type 0
LackOfTestIsSeen = (job : Job) (items : List Item) (list : List ℕ) (left function : ℕ) (s : State)
    → slice_index_or job.style.bodies function [] ≡ Quote (BuiltIn built_in.Skip) ∷ Quote (BuiltIn built_in.Skip) ∷ Run (BuiltIn built_in.While) ∷ []
    → CalmItems job (item.Execute (User function) ∷ items) list (suc (suc (suc (suc (suc left))))) (emptied s) → ⊥

-- so has a function that is chosen: `#1 'pop$ 'skip$ if$`
abbrev pub ChosenPopIsSeen : Type 0
ChosenPopIsSeen = (job : Job) (items : List Item) (list : List ℕ) (left function : ℕ) (s : State)
    → slice_index_or job.style.bodies function []
    ≡ Integer (pos 1) ∷ Quote (BuiltIn built_in.Pop) ∷ Quote (BuiltIn built_in.Skip) ∷ Run (BuiltIn built_in.If) ∷ []
    → CalmItems job (item.Execute (User function) ∷ items) list (suc (suc (suc (suc (suc (suc left)))))) (emptied s) → ⊥

-- so has the body of a loop: `#1 'duplicate$ 'swap$ while$`, whose test leaves 1 twice, so that the body finds one literal
abbrev pub BodyOfLoopIsSeen : Type 0
BodyOfLoopIsSeen = (job : Job) (items : List Item) (list : List ℕ) (left function : ℕ) (s : State)
    → slice_index_or job.style.bodies function []
    ≡ Integer (pos 1) ∷ Quote (BuiltIn built_in.Duplicate) ∷ Quote (BuiltIn built_in.Swap) ∷ Run (BuiltIn built_in.While) ∷ []
    → CalmItems job (item.Execute (User function) ∷ items) list (suc (suc (suc (suc (suc (suc (suc left))))))) (emptied s) → ⊥

-- so has the second turn of a loop: `#1 'duplicate$ 'pop$ while$`, whose test finds nothing there
abbrev pub LaterTurnIsSeen : Type 0
LaterTurnIsSeen = (job : Job) (items : List Item) (list : List ℕ) (left function : ℕ) (s : State)
    → slice_index_or job.style.bodies function []
    ≡ Integer (pos 1) ∷ Quote (BuiltIn built_in.Duplicate) ∷ Quote (BuiltIn built_in.Pop) ∷ Run (BuiltIn built_in.While) ∷ []
    → CalmItems job (item.Execute (User function) ∷ items) list (suc (suc (suc (suc (suc (suc (suc (suc left)))))))) (emptied s) → ⊥

-- so has a function that is executed by REVERSE
abbrev pub PopInReverseIsSeen : Type 0
PopInReverseIsSeen = (job : Job) (items : List Item) (entry left : ℕ) (s : State)
    → CalmItems job (item.Reverse (BuiltIn built_in.Pop) ∷ items) (entry ∷ []) (suc left) (emptied s) → ⊥

-- the visit of a second entry is asked, in the state that the first one leaves
abbrev pub LaterEntryIsAsked : Type 0
LaterEntryIsAsked = (job : Job) (items : List Item) (f : Callee) (first second left less : ℕ) (s t : State)
    → visit job command.Iterate f (Some first) left s ≡ Done t less
    → CalmItems job (item.Iterate f ∷ items) (first ∷ second ∷ []) left s → CalmVisit job f (Some second) less t

-- ---- the other faults

-- a fault is in a function that asks for an entry where none is current
abbrev pub LackOfEntryIsSeen : Type 0
LackOfEntryIsSeen = (job : Job) (items : List Item) (list : List ℕ) (left : ℕ) (s : State)
    → CalmItems job (item.Execute (BuiltIn built_in.Cite) ∷ items) list (suc left) (emptied s) → ⊥

-- in one that writes what is no string: `'skip$ write$`
abbrev pub WrongKindIsSeen : Type 0
WrongKindIsSeen = (job : Job) (items : List Item) (list : List ℕ) (left function : ℕ) (s : State)
    → slice_index_or job.style.bodies function [] ≡ Quote (BuiltIn built_in.Skip) ∷ Run (BuiltIn built_in.Write) ∷ []
    → CalmItems job (item.Execute (User function) ∷ items) list (suc (suc (suc left))) (emptied s) → ⊥

-- in one that compares what can't be compared: `'skip$ 'skip$ =`
abbrev pub IncomparableIsSeen : Type 0
IncomparableIsSeen = (job : Job) (items : List Item) (list : List ℕ) (left function : ℕ) (s : State)
    → slice_index_or job.style.bodies function [] ≡ Quote (BuiltIn built_in.Skip) ∷ Quote (BuiltIn built_in.Skip) ∷ Run (BuiltIn built_in.Equals) ∷ []
    → CalmItems job (item.Execute (User function) ∷ items) list (suc (suc (suc (suc left)))) (emptied s) → ⊥

-- in one that assigns to what is no variable: `#1 'skip$ :=`
abbrev pub LackOfVariableIsSeen : Type 0
LackOfVariableIsSeen = (job : Job) (items : List Item) (list : List ℕ) (left function : ℕ) (s : State)
    → slice_index_or job.style.bodies function [] ≡ Integer (pos 1) ∷ Quote (BuiltIn built_in.Skip) ∷ Run (BuiltIn built_in.Assign) ∷ []
    → CalmItems job (item.Execute (User function) ∷ items) list (suc (suc (suc (suc left)))) (emptied s) → ⊥

-- and in a command that leaves a literal: `quote$`, on an empty stack
abbrev pub LeftOverIsSeen : Type 0
LeftOverIsSeen = (job : Job) (items : List Item) (list : List ℕ) (left : ℕ) (s : State)
    → CalmItems job (item.Execute (BuiltIn built_in.Quote) ∷ items) list (suc left) (emptied s) → ⊥

-- ---- how runs end

-- no run of a clean style ends at these limits
abbrev pub LimitsAreSeen : Type 0
LimitsAreSeen = (deepest left : ℕ) (s : State)
    → (Promised deepest (Limit Literals s left) → ⊥) × (Promised deepest (Limit Calls s left) → ⊥) × (Promised deepest (Limit Loops s left) → ⊥)

-- the promise holds up to this budget, which is more than the command's own
abbrev pub StepsArePromised : Type 0
StepsArePromised = 1000000000 < most_steps
