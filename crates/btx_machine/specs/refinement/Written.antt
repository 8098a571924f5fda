-- What the sinks have received of the list and the log.
use Rattle.std.specs.Prelude.{◌≡◌, ℕ, ◌+◌, ◌<◌, Bool, true, false, List, Option}
use Rattle.std.specs.Io.KnownBytes.{Appends}
use Rattle.btx_bst.specs.declared.token.Token.{Token}
use Rattle.btx_out.specs.laws.Breaking.{left}
use Rattle.btx_out.specs.refinement.Breakers.{holding}
use Rattle.btx_out.specs.laws.Lengths.{IsLineLength}
use Rattle.btx_out.specs.language.Pieces.{AppendsAtLeast, AppendsPrefix}
use Rattle.btx_step.specs.declared.next.Next.TheVariants as next
use Rattle.btx_step.specs.language.Jobs.{Job}
use Rattle.btx_machine.specs.declared.ending.Ending.{Ending}
use Rattle.btx_machine.specs.declared.ending.Ending.TheVariants as endings
use Rattle.btx_machine.specs.refinement.Outputs.{Outputs, Work}
use Rattle.btx_machine.specs.language.States.{Out, State, state, Outcome, Stopped}
use Rattle.btx_machine.specs.laws.States.{final_state, effect}
use Rattle.btx_machine.specs.refinement.States.{outcome_of}
use Rattle.btx_machine.specs.language.Steps.{token_effect}
use Rattle.btx_machine.specs.language.KeepingStep.{Received}
use Rattle.btx_machine.specs.refinement.Product.{so_far}

-- what the sinks of both outputs have received
abbrev pub received : Outputs → Received
received outputs = (outputs.bbl.received, outputs.log.sink.received)

-- where a run begins: the greatest length of a line, and what the two sinks had received
pub record Start : Type 0 where
  pub line_length : ℕ
  pub range : IsLineLength line_length
  pub bbl : Option (List ℕ)
  pub log : Option (List ℕ)

-- the code's outputs stand for these, and their sinks have received what is sure of them since the start
pub record StandsFor (start : Start) (outputs : Outputs) (out : Out) : Type 0 where
  pub line : outputs.breaker ≡ holding start.line_length (left start.line_length out.pending)
  pub warnings : outputs.log.warnings ≡ out.warnings
  pub errors : outputs.log.errors ≡ out.errors
  pub bbl : Appends start.bbl outputs.bbl.received (so_far start.line_length out)
  pub log : Appends start.log outputs.log.sink.received out.log

-- since the start the sinks have received at least what is sure of the first, and no more than what is sure of the second
pub record Between (start : Start) (outputs : Outputs) (least most : Out) : Type 0 where
  pub bbl_least : AppendsAtLeast start.bbl outputs.bbl.received (so_far start.line_length least)
  pub bbl_most : AppendsPrefix start.bbl outputs.bbl.received (so_far start.line_length most)
  pub log_least : AppendsAtLeast start.log outputs.log.sink.received least.log
  pub log_most : AppendsPrefix start.log outputs.log.sink.received most.log

-- the outputs stand for what they stood for, changed so
abbrev pub Becomes : Outputs → Outputs → (Out → Out) → Type 0
Becomes old new change = (start : Start) (out : Out) → StandsFor start old out → StandsFor start new (change out)

-- from all that the outputs stand for, no more is written than up to this change
abbrev pub Stops : Outputs → Outputs → (Out → Out) → Type 0
Stops old new change = (start : Start) (out : Out) → StandsFor start old out → Between start new out (change out)

-- the code's work stands for a state of which something holds
pub record Leads (start : Start) (work : Work) (claim : State → Type 0) : Type 0 where
  pub out : Out
  pub stands : StandsFor start work.outputs out
  pub is : claim (state work.store out)

-- from every state that the work stands for, it comes to one of which something holds
abbrev pub Comes : Work → Work → (State → State → Type 0) → Type 0
Comes old new claim = (start : Start) (out : Out) → StandsFor start old.outputs out → Leads start new (claim (state old.store out))

-- the step of a token was taken, whatever it wrote, and nothing follows it; or it wasn't taken, and nothing has changed
abbrev pub Takes : Bool → Job → Token → Work → Work → Type 0
Takes true job x old new = Comes old new (λ s t. effect next.Nothing t ≡ token_effect job x s)
Takes false job x old new = new ≡ old

-- from every state that the work stands for, no more is written than up to another
abbrev pub Fails : Work → Outputs → (State → State) → Type 0
Fails old new most = (start : Start) (out : Out) → StandsFor start old.outputs out → Between start new out (most (state old.store out)).out

-- for some number of steps below the budget, the same for both sinks: a run of that number of steps is stopped, they have received at least
-- what it writes, and no more than what a run of one step more writes
pub record Within (start : Start) (outputs : Outputs) (budget : ℕ) (run : ℕ → Outcome) : Type 0 where
  pub taken : ℕ
  pub fewer : taken < budget
  pub least : State
  pub stopped : run taken ≡ Stopped least
  pub between : Between start outputs least.out (final_state (run (taken + 1))).out

abbrev pub FailsWithin : Work → ℕ → Outputs → (ℕ → State → Outcome) → Type 0
FailsWithin old budget new run = (start : Start) (out : Out) → StandsFor start old.outputs out → Within start new budget (λ n. run n (state old.store out))

-- for every number of further steps, a run ends so with as many as it took and these; a stopped one with these none
abbrev pub Runs : (ℕ → State → Outcome) → ℕ → Ending → State → State → Type 0
Runs run taken end s t = (n : ℕ) → (end ≡ endings.Stopped → n ≡ 0) → outcome_of end t n ≡ run (n + taken) s
