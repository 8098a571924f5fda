-- What a run writes and answers: the one thing that stands in the relation between a job and its product. `before` and `after` are what the two sinks had
-- received before the run and after it.
use Rattle.std.specs.Prelude.{ℕ, List}
use Rattle.btx_aux.specs.language.Files.{Files}
use Rattle.btx_core.specs.declared.options.Options.{Options}
use Rattle.btx_core.specs.language.Product.{IsTheOne}
use Rattle.btx_machine.specs.declared.report.Report.{Report}
use Rattle.btx_machine.specs.language.KeepingStep.{Received, AtFault, Completes}
use Rattle.btx_machine.specs.language.Product.{Product}

-- what was written is the one thing that stands in the relation: the report is its report, and both outputs received its bytes
pub record WroteTheProduct (files : Files) (name : List ℕ) (options : Options) (before after : Received) (report : Report) : Type 0 where
  pub product : Product
  pub is_one : IsTheOne files name options product
  pub completes : Completes report before after product

-- after a fault both outputs are prefixes of the one thing that stands in the relation, and keep step: `product` gives that thing for each budget
pub record BeganTheProduct (files : Files) (name : List ℕ) (options : Options) (before after : Received) : Type 0 where
  pub product : ℕ → Product
  pub is_one : (steps : ℕ) → IsTheOne files name (record options { budget = steps }) (product steps)
  pub fails : AtFault before after product options.budget
