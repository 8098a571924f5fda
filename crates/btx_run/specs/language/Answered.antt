-- What a run writes and answers over any finder, also one that doesn't show its content, as one over the files of a disk: it is the product of the job of
-- this name, over all files that agree with what the finder answered. There are such files, since no name is asked for twice; and where the product of
-- two of them differed, the run could be that of neither.
use Rattle.std.specs.Prelude.{◌≡◌, ◌++◌, ℕ, List}
use Rattle.std.specs.List.{IsDistinct}
use Rattle.std.specs.Str.{bytes_eq}
use Rattle.btx_aux.specs.language.Answers.{Agree, FinderAnswer, names_asked}
use Rattle.btx_aux.specs.language.Files.{Files}
use Rattle.btx_machine.specs.declared.report.Report.{Report}
use Rattle.btx_machine.specs.language.KeepingStep.{Received, AtFault, Completes}
use Rattle.btx_core.specs.declared.options.Options.{Options}
use Rattle.btx_core.specs.refinement.ComputedProduct.{product, product_with}

-- the answers that a finder had given before the run, and those after it
abbrev pub Given : Type 0
Given = List FinderAnswer × List FinderAnswer

-- the run asked for no name twice, and for all files that agree with each answer that the finder gave in it the report is that of their product, and both
-- outputs received its bytes. `before` and `after` are what the two sinks had received before the run and after it
pub record CompletesAsAnswered (name : List ℕ) (options : Options) (given : Given) (before after : Received) (report : Report) : Type 0 where
  pub answers : List FinderAnswer
  pub are_given : given.1 ≡ given.0 ++ answers
  pub once : IsDistinct bytes_eq (names_asked answers)
  pub completes : (files : Files) → Agree files answers → Completes report before after (product files name options)

-- the run asked for no name twice, and for all files that agree with each answer that the finder gave in it both outputs are prefixes of their product's, and
-- keep step
pub record FailsAsAnswered (name : List ℕ) (options : Options) (given : Given) (before after : Received) : Type 0 where
  pub answers : List FinderAnswer
  pub are_given : given.1 ≡ given.0 ++ answers
  pub once : IsDistinct bytes_eq (names_asked answers)
  pub fails : (files : Files) → Agree files answers → AtFault before after (product_with files name options) options.budget
