-- The names that most proofs of this crate cite, passed on from one place. Declares nothing.
pub use Rattle.btx_bst.specs.declared.built_in.BuiltIn.{BuiltIn}
pub use Rattle.btx_bst.specs.declared.callee.Callee.{Callee}
pub use Rattle.btx_stack.specs.declared.literal.Literal.{Literal}
pub use Rattle.btx_stack.specs.declared.literal.Literal.TheVariants.{Function, Integer, Missing, Text}
pub use Rattle.btx_stack.specs.refinement.Stacks.{Pushes, below_top, has_missing}
pub use Rattle.btx_step.specs.declared.literal.OperandKind.{OperandKind}
pub use Rattle.btx_step.specs.declared.next.Next.{Next}
pub use Rattle.btx_step.specs.declared.operands.Default.{Default}
pub use Rattle.btx_step.specs.declared.operands.Default.TheVariants.{Back, Push}
pub use Rattle.btx_step.specs.declared.operands.Operand.{Operand}
pub use Rattle.btx_step.specs.declared.operands.Operand.TheVariants.{Any, Of}
pub use Rattle.btx_step.specs.declared.said.Note.{Note}
pub use Rattle.btx_step.specs.declared.said.StepOutput.{StepOutput}
pub use Rattle.btx_step.specs.declared.stand_in.StandIn.{StandIn}
pub use Rattle.btx_step.specs.language.Answers.{Answer, answer, done, pushed, pushes, pushes_text, quiet, says, with_literals}
pub use Rattle.btx_step.specs.language.Entries.{finds_missing}
pub use Rattle.btx_step.specs.language.Jobs.{Job}
pub use Rattle.btx_step.specs.language.Operands.{Does, applied, on_operands, or_default, wrong}
unfoldable pub use Rattle.btx_step.specs.language.Steps.{built_in_run, function_run}
pub use Rattle.btx_step.specs.language.Stores.{EntryVariables, Store}
pub use Rattle.btx_step.specs.language.Table.{row, runs, runs_missing}
pub use Rattle.btx_step.specs.language.Variables.{assigns}
pub use Rattle.btx_step.specs.refinement.Quick.{Quick, takes_value}
pub use Rattle.btx_step.specs.refinement.Sorting.{by_key}
pub use Rattle.btx_step.specs.refinement.Stacks.{duplicates}
pub use Rattle.btx_step.specs.refinement.Table.{misses_entry}
