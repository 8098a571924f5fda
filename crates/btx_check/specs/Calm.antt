-- What it is that an execution goes without a fault. It is said by recursion over tokens and turns, as the meaning of a style is (`act`, `turns`, `visit`,
-- `do_items`), which gives the state in which each step is taken: each step and each test of a loop is asked for what it says, and each command for what it
-- leaves. Nothing is read off the log, into which a style can write lines that look like a message.
use Rattle.std.specs.Prelude.{◌≡◌, ℕ, zero, suc, ◌+◌, List, [], ◌∷◌, reverse, Option, None, Some, max, nat_lt, Bool, true, false, slice_index_or}
use Rattle.std.specs.List.{list_any}
use Rattle.btx_bst.specs.declared.callee.Callee.{Callee}
use Rattle.btx_bst.specs.declared.token.Token.{Token}
use Rattle.btx_bst.specs.declared.token.Token.TheVariants.{Run}
use Rattle.btx_bst.specs.language.Items.{Item}
use Rattle.btx_bst.specs.language.Items as item
use Rattle.btx_step.specs.declared.next.Next.{Next}
use Rattle.btx_step.specs.declared.next.Next.TheVariants as next
use Rattle.btx_step.specs.declared.said.Note.{Note}
use Rattle.btx_step.specs.declared.said.Note.TheVariants as note
use Rattle.btx_step.specs.declared.said.StepOutput.{StepOutput}
use Rattle.btx_step.specs.declared.said.StepOutput.TheVariants as step_output
use Rattle.btx_step.specs.language.Jobs.{Job}
use Rattle.btx_step.specs.language.Control.{tested}
use Rattle.btx_step.specs.language.Steps.{step_of}
use Rattle.btx_machine.specs.declared.command.Command.TheVariants as command
use Rattle.btx_machine.specs.language.States.{State, Outcome, Done, Stopped, Limit}
use Rattle.btx_machine.specs.language.Steps.{token_effect, turn_of}
use Rattle.btx_machine.specs.language.Meaning.{Action, most_bodies, most_loops}
use Rattle.btx_machine.specs.language.MeaningBySteps.{act, meaning}
use Rattle.btx_machine.specs.language.Commands.{visit}
use Rattle.btx_machine.specs.language.Items.{do_item, list_after}

-- a fault: one of the messages that a clean style never logs. A literal is popped from an empty stack; an operand is of a wrong kind; `=` gets what
-- it can't compare; `:=` gets no variable; an entry is needed where none is current; literals are left on the stack when a command ends
abbrev pub is_fault : Note → Bool
is_fault note.EmptyStack = true
is_fault (note.WrongKind v wanted) = true
is_fault note.Incomparable = true
is_fault (note.NotAssignable f) = true
is_fault note.NoEntry = true
is_fault note.LeftOver = true
is_fault note.Overflow = false
is_fault (note.NotAscii n) = false
is_fault (note.NotOneCharacter text) = false
is_fault (note.NoConversion text) = false
is_fault (note.NoSuchName n names) = false
is_fault (note.FinalComma n names) = false
is_fault (note.TooManyCommas n names) = false
is_fault (note.IllegalFormat format) = false
is_fault (note.Cut from to) = false
is_fault (note.Warning text) = false
is_fault (note.Shown v) = false

-- what a step writes or logs has no fault in it
abbrev pub Calm : StepOutput → Type 0
Calm (step_output.Noted notes) = list_any is_fault notes ≡ false
Calm _ = Unit {0}

-- what is asked of an action, with this number of bodies open, of loops running, and of steps left, from a state
abbrev pub Asked : Type 1
Asked = (bodies loops left : ℕ) → State → Type 0

-- this is asked of what follows an execution, if it was done; after a stop or a limit nothing follows
abbrev pub AfterDone : Outcome → (ℕ → State → Type 0) → Type 0
AfterDone (Done s left) asked = asked left s
AfterDone (Stopped s) asked = Unit {0}
AfterDone (Limit kind s left) asked = Unit {0}

-- this is asked if `condition` is so
abbrev pub Where : Bool → Type 0 → Type 0
Where true asked = asked
Where false asked = Unit {0}

-- ---- tokens, bodies and loops

-- tokens executed one after another (`in_turn`)
abbrev pub CalmInTurn : (Token → Action) → (Token → Asked) → List Token → Asked
CalmInTurn go calm [] bodies loops left s = Unit {0}
CalmInTurn go calm (x ∷ rest) bodies loops left s = calm x bodies loops left s × AfterDone (go x bodies loops left s) (CalmInTurn go calm rest bodies loops)

-- the turns of a loop (`turns`): the test, what it left, and, where that is above 0, the body and the next turn
abbrev pub CalmTurns : Job → (Token → Action) → (Token → Asked) → ℕ → Token → Token → Asked
CalmTurns job go calm zero test body bodies loops left s = Unit {0}
CalmTurns job go calm (suc most) test body bodies loops left s =
    calm test bodies loops left s × AfterDone (go test bodies loops left s) (λ left t.
    Calm (tested t.store.literals t.store).said × Where (turn_of job t).again
    (calm body bodies loops left (turn_of job t).state
    × AfterDone (go body bodies loops left (turn_of job t).state) (CalmTurns job go calm most test body bodies loops)))

-- What follows a step (`follow`): nothing or the end of the run; one function; the body of a function, with one more body open; or a loop, with one more
-- running. Past 4,096 of them nothing is executed, and the run ends at a limit, of which `Promised` speaks
abbrev pub CalmFollow : Job → (Token → Action) → (Token → Asked) → ℕ → Next → State → ℕ → ℕ → ℕ → Type 0
CalmFollow job go calm most next.Nothing s bodies loops left = Unit {0}
CalmFollow job go calm most (next.End limit) s bodies loops left = Unit {0}
CalmFollow job go calm most (next.Run f) s bodies loops left = calm (Run f) bodies loops left s
CalmFollow job go calm most (next.Open function) s bodies loops left =
    Where (nat_lt bodies most_bodies) (CalmInTurn go calm (slice_index_or job.style.bodies function []) (bodies + 1) loops left
    (record s { store = record s.store { deepest = max s.store.deepest (bodies + 1) } }))
CalmFollow job go calm most (next.Loop test body) s bodies loops left =
    Where (nat_lt loops most_loops) (CalmTurns job go calm most (Run test) (Run body) bodies (loops + 1) left s)

-- a token (`act`): what its step says, and what follows it. Where a step is left, `most` is never 0: each execution takes a step
abbrev pub CalmAct : Job → ℕ → Token → Asked
CalmAct job zero x bodies loops left s = Unit {0}
CalmAct job (suc most) x bodies loops zero s = Unit {0}
CalmAct job (suc most) x bodies loops (suc left) s =
    Calm (step_of job x s.store).said
    × CalmFollow job (act job most) (CalmAct job most) most (token_effect job x s).next (token_effect job x s).state bodies loops left

-- ---- commands and styles

-- a command's function (`visit`), which leaves nothing on the stack
abbrev pub CalmVisit : Job → Callee → Option ℕ → ℕ → State → Type 0
CalmVisit job f entry left s =
    let begun = record s { store = record s.store { current = entry } } in
    CalmAct job (suc left) (Run f) 0 0 left begun × AfterDone (meaning job (Run f) 0 0 left begun) (λ left t. t.store.literals ≡ [])

-- one thing after another (`in_order`)
abbrev pub CalmInOrder : {A : Type 0} → (A → ℕ → State → Outcome) → (A → ℕ → State → Type 0) → List A → ℕ → State → Type 0
CalmInOrder go calm [] left s = Unit {0}
CalmInOrder go calm (x ∷ xs) left s = calm x left s × AfterDone (go x left s) (CalmInOrder go calm xs)

-- an item of a style (`do_item`): only EXECUTE, ITERATE and REVERSE take steps
abbrev pub CalmItem : Job → List ℕ → Item → ℕ → State → Type 0
CalmItem job list (item.Execute f) left s = CalmVisit job f None left s
CalmItem job list (item.Iterate f) left s =
    CalmInOrder (λ entry. visit job command.Iterate f (Some entry)) (λ entry. CalmVisit job f (Some entry)) list left s
CalmItem job list (item.Reverse f) left s =
    CalmInOrder (λ entry. visit job command.Reverse f (Some entry)) (λ entry. CalmVisit job f (Some entry)) (reverse list) left s
CalmItem job list _ left s = Unit {0}

-- the items of a style, one after another (`do_items`)
abbrev pub CalmItems : Job → List Item → List ℕ → ℕ → State → Type 0
CalmItems job [] list left s = Unit {0}
CalmItems job (x ∷ xs) list left s =
    CalmItem job list x left s × AfterDone (do_item job list x left s) (CalmItems job xs (list_after job x list s.store))
