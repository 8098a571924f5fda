-- What is shown of steps, of whole executions and of loops, and where the first command begins.
use Rattle.std.specs.Prelude.{◌≡◌, ℕ, suc, ◌+◌, ◌≤◌, ◌<◌, length, List, [], ◌∷◌, Bool, true, false, None, Some}
use Rattle.btx_bst.specs.language.Style.{Style}
use Rattle.btx_bst.specs.declared.callee.Callee.{Callee}
use Rattle.btx_bst.specs.declared.token.Token.{Token}
use Rattle.btx_bst.specs.declared.token.Token.TheVariants as token
use Rattle.btx_text.specs.declared.limits.Limit.TheVariants as limit
use Rattle.btx_step.specs.declared.next.Next.{Next}
use Rattle.btx_step.specs.declared.next.Next.TheVariants as next
use Rattle.btx_step.specs.language.Jobs.{Job}
use Rattle.btx_step.specs.language.Stores.{Store}
use Rattle.btx_step.specs.language.Answers.{Answer}
use Rattle.btx_step.specs.language.Variables.{values_of}
use Rattle.btx_step.specs.language.Control.{tested}
use Rattle.btx_step.specs.language.Steps.{function_run}
use Rattle.btx_machine.specs.language.States.{State, Outcome, Done, Stopped, Limit}
use Rattle.btx_machine.specs.language.Meaning.{Action}
use Rattle.btx_machine.specs.language.MeaningBySteps.{in_turn, act}
use Rattle.btx_check.specs.Calm.{Calm, Asked, CalmInTurn, CalmAct}
use Rattle.btx_check.specs.Promise.{IsSpared, IsOf}
use Rattle.btx_check.specs.States.{Abstract, Values, values_in, slot, In, Among}

-- a store of a job: as many variables as the style declares, for each entry too, and the current entry is one of the library's
pub record Sized (job : Job) (n : Values) : Type 0 where
  pub integers : length n.integers ≡ length job.style.names.global_integers
  pub strings : length n.strings ≡ length job.style.names.global_strings
  pub entries : length n.entries ≡ length job.library.entries
  pub entry_integers : (entry : ℕ) → entry < length n.entries → length (values_of n.entries entry).integers ≡ length job.style.names.entry_integers
  pub entry_strings : (entry : ℕ) → entry < length n.entries → length (values_of n.entries entry).strings ≡ length job.style.names.entry_strings
  pub current : (entry : ℕ) → n.current ≡ Some entry → entry < length n.entries

-- never more than `most` bodies open at once, and the store is one of the job
abbrev pub Sound : Job → ℕ → State → Type 0
Sound job most s = (s.store.deepest ≤ most) × Sized job (values_in s.store)

-- ---- one step

-- what follows a step: nothing, in a store that one of the descriptions stands for; or the end of the run at the limit of strings
abbrev pub Goes : Job → ℕ → List Abstract → Next → Store → Type 0
Goes job left states next.Nothing s = Among job left states s
Goes job left states (next.End limit.String) s = Unit {0}
Goes job left states _ s = ⊥

-- a step from the store `s` is without a fault, and leads to what these descriptions stand for
pub record Leads (job : Job) (left : ℕ) (states : List Abstract) (s : Store) (a : Answer) : Type 0 where
  pub calm : Calm a.said
  pub deepest : a.store.deepest ≡ s.deepest
  pub sized : Sized job (values_in s) → Sized job (values_in a.store)
  pub goes : Goes job left states a.next a.store

-- from each store that `a` stands for, the step of `f` leads to these
abbrev pub Rule : Callee → Abstract → List Abstract → Type 0
Rule f a states = (job : Job) → 1 ≤ job.global_max → 1 ≤ job.entry_max → (left : ℕ) (s : Store) → In job (suc left) a s
    → Leads job left states s (function_run job f s)

-- the same, of what needs no step less
abbrev pub RuleNow : Callee → Abstract → List Abstract → Type 0
RuleNow f a states = (job : Job) → 1 ≤ job.global_max → 1 ≤ job.entry_max → (left : ℕ) (s : Store) → In job left a s
    → Leads job left states s (function_run job f s)

-- the same, of what depends on the style, and on how many variables there are
abbrev pub StyleRule : Style → List ℕ → Callee → Abstract → List Abstract → Type 0
StyleRule style allowed f a states = (job : Job) → IsOf style allowed job → (left : ℕ) (s : Store) → Sized job (values_in s) → In job left a s
    → Leads job left states s (function_run job f s)

-- ---- whole executions

-- how an execution ends: at no limit that matters, and where it is done, one of the descriptions stands for the store
abbrev pub Good : Job → ℕ → List Abstract → Outcome → Type 0
Good job most states (Done s left) = Sound job most s × Among job left states s.store
Good job most states (Stopped s) = Sound job most s
Good job most states (Limit kind s left) = Sound job most s × IsSpared kind

-- an execution goes without a fault, and this is so of its end
pub record Passes (calm end : Type 0) : Type 0 where
  pub is_calm : calm
  pub ends_so : end

-- an execution that begins in what one of `from` stands for, with at most `deep` further bodies and `loops` further loops, is without a fault, and good
abbrev pub Covers : Job → List Abstract → ℕ → ℕ → List Abstract → Asked → Action → Type 0
Covers job from deep loops states calm action =
    (most bodies running left : ℕ) (s : State) → Among job left from s.store → Sound job most s → bodies + deep ≤ most → most ≤ 4096 → running + loops ≤ 4096
    → Passes (calm bodies running left s) (Good job most states (action bodies running left s))

-- so it is with a token, in each job of the style
abbrev pub RunsFrom : Style → List ℕ → Token → List Abstract → ℕ → ℕ → List Abstract → Type 0
RunsFrom style allowed t from deep loops states =
    (job : Job) → IsOf style allowed job → (n : ℕ) → Covers job from deep loops states (CalmAct job n t) (act job n t)

-- so it is with the tokens of a body
abbrev pub BodyRuns : Style → List ℕ → List Token → List Abstract → ℕ → ℕ → List Abstract → Type 0
BodyRuns style allowed body from deep loops states = (job : Job) → IsOf style allowed job → (n : ℕ)
    → Covers job from deep loops states (CalmInTurn (act job n) (CalmAct job n) body) (in_turn (act job n) body)

-- ---- loops

-- after the test of a loop: one of `again` where the loop goes on, one of `ends` where it ends
abbrev pub TurnsTo : Job → ℕ → List Abstract → List Abstract → Bool → Store → Type 0
TurnsTo job left again ends true s = Among job left again s
TurnsTo job left again ends false s = Among job left ends s

-- what the test of a loop left is an integer, and taken off
pub record Turned (xs again ends : List Abstract) : Type 0 where
  pub calm : (job : Job) (left : ℕ) (s : Store) → Among job left xs s → Calm (tested s.literals s).said
  pub deepest : (job : Job) (left : ℕ) (s : Store) → Among job left xs s → (tested s.literals s).store.deepest ≡ s.deepest
  pub sized : (job : Job) (left : ℕ) (s : Store) → Among job left xs s → Sized job (values_in s) → Sized job (values_in (tested s.literals s).store)
  pub goes : (job : Job) (left : ℕ) (s : Store) → Among job left xs s → TurnsTo job left again ends (tested s.literals s).again (tested s.literals s).store

-- the heads of a loop are closed: from each, its test and its body lead to one of them, or the loop ends in one of `ends`
pub record Closed (style : Style) (allowed : List ℕ) (heads : List Abstract) (f g : Callee) (deep loops : ℕ) (tests again ends : List Abstract) : Type 0 where
  pub tested : RunsFrom style allowed (token.Run f) heads deep loops tests
  pub turned : Turned tests again ends
  pub bodies : RunsFrom style allowed (token.Run g) again deep loops heads

-- ---- commands

-- nothing is known but whether an entry is current
pub record Starts (a : Abstract) : Type 0 where
  pub stack : a.stack ≡ []
  pub values : a.values ≡ []
  pub names : (f : Callee) → slot a f ≡ None

-- each of the descriptions is so
abbrev pub Each : (Abstract → Type 0) → List Abstract → Type 0
Each P [] = Unit {0}
Each P (a ∷ xs) = P a × Each P xs

-- nothing is on the stack
abbrev pub IsEmpty : Abstract → Type 0
IsEmpty a = a.stack ≡ []
