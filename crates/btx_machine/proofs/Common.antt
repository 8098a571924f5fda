-- The names that most proofs of this crate cite, passed on from one place. Declares nothing.
pub use Rattle.btx_text.specs.language.LogLines.{Line}
pub use Rattle.btx_bst.specs.declared.built_in.BuiltIn.{BuiltIn}
pub use Rattle.btx_bst.specs.declared.callee.Callee.{Callee}
pub use Rattle.btx_bst.specs.declared.token.Token.{Token}
pub use Rattle.btx_bst.specs.declared.token.Token.TheVariants.{Run}
pub use Rattle.btx_bst.specs.language.Items.{Item}
pub use Rattle.btx_bst.specs.language.MessageTexts.{complaint_line}
pub use Rattle.btx_bst.specs.language.Names.{name_of}
pub use Rattle.btx_bst.specs.language.Style.{Style}
pub use Rattle.btx_bst.specs.refinement.Views.{items_view}
pub use Rattle.btx_code.specs.declared.op.Op.{Op}
pub use Rattle.btx_code.specs.refinement.Codes.{Coded}
unfoldable pub use Rattle.btx_code.specs.refinement.Codes.{tokens_left}
pub use Rattle.btx_code.specs.refinement.Instructions.{token_as, token_of}
pub use Rattle.btx_code.specs.refinement.Ops.{callee_of}
pub use Rattle.btx_step.specs.declared.next.Next.{Next}
pub use Rattle.btx_step.specs.declared.said.StepOutput.{StepOutput}
pub use Rattle.btx_step.specs.language.Answers.{with_literals}
pub use Rattle.btx_step.specs.language.Jobs.{Job}
unfoldable pub use Rattle.btx_step.specs.language.Steps.{built_in_run, function_run, step_of}
pub use Rattle.btx_step.specs.language.Stores.{Store}
pub use Rattle.btx_step.specs.refinement.Top.{below_top}
pub use Rattle.btx_machine.specs.declared.command.Command.{Command}
pub use Rattle.btx_machine.specs.declared.ending.Ending.{Ending}
pub use Rattle.btx_machine.specs.declared.machine.Position.{Position}
pub use Rattle.btx_machine.specs.declared.marks.MarkKind.{MarkKind}
pub use Rattle.btx_machine.specs.declared.marks.Mark.{Mark}
pub use Rattle.btx_machine.specs.language.Commands.{cleared, in_order}
unfoldable pub use Rattle.btx_machine.specs.language.Commands.{visit}
pub use Rattle.btx_machine.specs.language.Items.{list_after, read_limit}
unfoldable pub use Rattle.btx_machine.specs.language.Items.{do_item, do_items}
pub use Rattle.btx_machine.specs.language.Meaning.{Action, after_test, most_bodies, most_loops, then_do}
pub use Rattle.btx_machine.specs.language.MeaningBySteps.{act, body_if, follow, in_turn, turns, turns_if}
unfoldable pub use Rattle.btx_machine.specs.language.MeaningBySteps.{meaning}
pub use Rattle.btx_machine.specs.language.Product.{bbl_at, product_at, product_of, style_product}
pub use Rattle.btx_machine.specs.language.Reports.{report_of}
unfoldable pub use Rattle.btx_machine.specs.language.Reports.{last_line}
pub use Rattle.btx_machine.specs.language.Saying.{ended_line, logging}
unfoldable pub use Rattle.btx_machine.specs.language.Saying.{lines_logged, said_on}
pub use Rattle.btx_machine.specs.language.States.{Done, Effect, Limit, LoopTurn, Out, Outcome, State, Stopped, state}
pub use Rattle.btx_machine.specs.language.Steps.{executed_by}
unfoldable pub use Rattle.btx_machine.specs.language.Steps.{token_effect, turn_of}
pub use Rattle.btx_machine.specs.laws.Goings.{IsPrefix, Starts}
pub use Rattle.btx_machine.specs.laws.Meaning.{deeper, function_tokens}
pub use Rattle.btx_machine.specs.laws.MeaningBySteps.{action_of_tokens}
unfoldable pub use Rattle.btx_machine.specs.laws.MeaningBySteps.{loop_of}
pub use Rattle.btx_machine.specs.laws.Reports.{log_counts}
pub use Rattle.btx_machine.specs.laws.States.{effect, final_state}
pub use Rattle.btx_machine.specs.refinement.Commands.{Doing, at_entry, visits}
pub use Rattle.btx_machine.specs.refinement.Faults.{NoneFailed, Writes}
pub use Rattle.btx_machine.specs.refinement.Frame.{Frame}
pub use Rattle.btx_machine.specs.refinement.Frames.{bodies_in, loops_in}
unfoldable pub use Rattle.btx_machine.specs.refinement.Frames.{resume, with_frames}
pub use Rattle.btx_machine.specs.refinement.Items.{numbers_from, outcome_of_read, read_lines}
pub use Rattle.btx_machine.specs.refinement.Marks.{Body, Loop, Open, StandInCode, frames_of, function, open_of, opened_as}
pub use Rattle.btx_machine.specs.refinement.Outputs.{Journal, Outputs, Work}
pub use Rattle.btx_machine.specs.refinement.Positions.{Leaves, execute_at, lead_as, next_token, quoted_before, resume_at}
pub use Rattle.btx_machine.specs.refinement.Product.{executed, first, so_far}
pub use Rattle.btx_machine.specs.refinement.Progress.{FailsInStep, Midway, Reached, RunEnded}
pub use Rattle.btx_machine.specs.refinement.Saying.{line_logged, note_lines}
pub use Rattle.btx_machine.specs.refinement.States.{outcome_of, turn}
pub use Rattle.btx_machine.specs.refinement.Written.{Becomes, Between, Comes, Fails, FailsWithin, Runs, StandsFor, Start, Stops}
pub use Rattle.btx_bib.specs.language.MessageTexts.{message_line}
pub use Rattle.btx_out.specs.language.Breaking.{wrap}
pub use Rattle.btx_out.specs.language.Pieces.{AppendsPrefix}
pub use Rattle.btx_out.specs.laws.Breaking.{left}
pub use Rattle.btx_out.specs.refinement.Breakers.{holding}
