-- The small cases in which a fault is seen.
use Rattle.std.proofs.Common.{◌≡◌, ℕ, suc, List, [], ◌∷◌, None, Some, subst, max, arith}
use Rattle.std.specs.Prelude.{slice_index_or}
use Rattle.btx_bst.specs.declared.callee.Callee.TheVariants.{User}
use Rattle.btx_bst.specs.declared.token.Token.{Token}
use Rattle.btx_bst.specs.language.Items.{Item}
use Rattle.btx_bst.specs.language.Items as item
use Rattle.btx_step.specs.language.Jobs.{Job}
use Rattle.btx_step.specs.language.Steps.{step_of, function_run, built_in_run}
use Rattle.btx_machine.specs.declared.command.Command.TheVariants as command
use Rattle.btx_machine.specs.language.States.{State, Outcome}
use Rattle.btx_machine.specs.language.Steps.{token_effect, turn_of}
use Rattle.btx_machine.specs.language.MeaningBySteps.{act, meaning}
use Rattle.btx_machine.specs.language.Saying.{said_on}
use Rattle.btx_machine.specs.language.Commands.{visit}
use Rattle.btx_machine.specs.language.Items.{do_item}
use Rattle.btx_check.specs.Calm.{AfterDone, CalmInTurn, CalmAct, CalmInOrder, CalmVisit, CalmItems}
use Rattle.btx_check.specs.CalmLaws.{emptied, PopIsSeen, PopInBodyIsSeen, LaterPopIsSeen, LackOfTestIsSeen, LeftOverIsSeen, ChosenPopIsSeen, BodyOfLoopIsSeen}
use Rattle.btx_check.specs.CalmLaws.{LaterTurnIsSeen, PopInReverseIsSeen, LaterEntryIsAsked, LackOfEntryIsSeen, WrongKindIsSeen, IncomparableIsSeen}
use Rattle.btx_check.specs.CalmLaws.{LackOfVariableIsSeen, LimitsAreSeen, StepsArePromised}

-- the body of a function, after the step that opens it
abbrev InBody : Job → ℕ → State → List Token → Type 0
InBody job left s body = CalmInTurn (act job (suc left)) (CalmAct job (suc left)) body 1 0 left
    (record s { store = record s.store { deepest = max s.store.deepest 1 } })

-- where EXECUTE begins, on an empty stack
abbrev begun : State → State
begun s = record (emptied s) { store = record (emptied s).store { current = None } }

-- the body of the function that it executes is asked
opened : (job : Job) (items : List Item) (list : List ℕ) (left function : ℕ) (s : State) (body : List Token)
    → slice_index_or job.style.bodies function [] ≡ body
    → CalmItems job (item.Execute (User function) ∷ items) list (suc left) (emptied s) → InBody job left (begun s) body
unfolding step_of function_run token_effect said_on
opened job items list left function s body e h = subst (InBody job left (begun s)) e h.0.0.1

pub pop_is_seen : PopIsSeen
unfolding step_of function_run built_in_run
pop_is_seen job items list left s h = let seen = h.0.0.0 in absurd (cc)

pub pop_in_body_is_seen : PopInBodyIsSeen
unfolding step_of function_run built_in_run token_effect said_on
pop_in_body_is_seen job items entry left function s body h =
    let now = record (emptied s) { store = record (emptied s).store { current = Some entry } } in
    let asked = subst (InBody job (suc (suc left)) now) body h.0.0.0.1 in
    let seen = asked.1.0.0 in absurd (cc)

pub later_pop_is_seen : LaterPopIsSeen
unfolding step_of function_run built_in_run token_effect said_on meaning visit do_item
later_pop_is_seen job items list left s h = let seen = h.1.0.0.0 in absurd (cc)

pub lack_of_test_is_seen : LackOfTestIsSeen
unfolding step_of function_run built_in_run token_effect said_on turn_of
lack_of_test_is_seen job items list left function s body h =
    let asked = opened job items list (suc (suc (suc (suc left)))) function s _ body h in
    let seen = asked.1.1.0.1.1.0 in absurd (cc)

pub left_over_is_seen : LeftOverIsSeen
unfolding step_of function_run built_in_run token_effect said_on meaning
left_over_is_seen job items list left s h = let seen = h.0.1 in absurd (cc)

pub chosen_pop_is_seen : ChosenPopIsSeen
unfolding step_of function_run built_in_run token_effect said_on turn_of
chosen_pop_is_seen job items list left function s body h =
    let asked = opened job items list (suc (suc (suc (suc (suc left))))) function s _ body h in
    let seen = asked.1.1.1.0.1.0 in absurd (cc)

pub body_of_loop_is_seen : BodyOfLoopIsSeen
unfolding step_of function_run built_in_run token_effect said_on turn_of
body_of_loop_is_seen job items list left function s body h =
    let asked = opened job items list (suc (suc (suc (suc (suc (suc left)))))) function s _ body h in
    let seen = asked.1.1.1.0.1.1.1.0.0 in absurd (cc)

pub later_turn_is_seen : LaterTurnIsSeen
unfolding step_of function_run built_in_run token_effect said_on turn_of
later_turn_is_seen job items list left function s body h =
    let asked = opened job items list (suc (suc (suc (suc (suc (suc (suc left))))))) function s _ body h in
    let seen = asked.1.1.1.0.1.1.1.1.0.0 in absurd (cc)

pub pop_in_reverse_is_seen : PopInReverseIsSeen
unfolding step_of function_run built_in_run
pop_in_reverse_is_seen job items entry left s h = let seen = h.0.0.0.0 in absurd (cc)

pub lack_of_entry_is_seen : LackOfEntryIsSeen
unfolding step_of function_run built_in_run
lack_of_entry_is_seen job items list left s h = let seen = h.0.0.0 in absurd (cc)

pub wrong_kind_is_seen : WrongKindIsSeen
unfolding step_of function_run built_in_run token_effect said_on turn_of
wrong_kind_is_seen job items list left function s body h =
    let asked = opened job items list (suc (suc left)) function s _ body h in
    let seen = asked.1.0.0 in absurd (cc)

pub incomparable_is_seen : IncomparableIsSeen
unfolding step_of function_run built_in_run token_effect said_on turn_of
incomparable_is_seen job items list left function s body h =
    let asked = opened job items list (suc (suc (suc left))) function s _ body h in
    let seen = asked.1.1.0.0 in absurd (cc)

pub lack_of_variable_is_seen : LackOfVariableIsSeen
unfolding step_of function_run built_in_run token_effect said_on turn_of
lack_of_variable_is_seen job items list left function s body h =
    let asked = opened job items list (suc (suc (suc left))) function s _ body h in
    let seen = asked.1.1.0.0 in absurd (cc)

pub later_entry_is_asked : LaterEntryIsAsked
later_entry_is_asked job items f first second left less s t done h =
    let rest = subst (λ (o : Outcome). AfterDone o (CalmInOrder (λ entry. visit job command.Iterate f (Some entry)) (λ entry. CalmVisit job f (Some entry))
    (second ∷ []))) done h.0.1 in
    rest.0

pub limits_are_seen : LimitsAreSeen
limits_are_seen deepest left s = ((λ h. h.1), (λ h. h.1), (λ h. h.1))

pub steps_are_promised : StepsArePromised
steps_are_promised = omega arith
