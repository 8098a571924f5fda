-- What a run has written when it ends, and where a write or a request for memory failed. `before` and `after` are what the two sinks had received
-- before the run and after it.
use Rattle.std.specs.Prelude.{◌≡◌, ℕ, ◌+◌, ◌<◌, ◌⊎◌, List, Option}
use Rattle.std.specs.Io.KnownBytes.{Appends}
use Rattle.btx_out.specs.language.Pieces.{AppendsPrefix, AppendsAtLeast}
use Rattle.btx_machine.specs.declared.report.Report.{Report}
use Rattle.btx_machine.specs.language.Product.{Product, log_of}

-- what the two sinks have received: that of the list first (`.0`), that of the log second (`.1`). A sink that doesn't show its bytes has `None`, and
-- of it nothing is said
abbrev pub Received : Type 0
Received = Option (List ℕ) × Option (List ℕ)

-- the report is the product's, and both outputs received its bytes
pub record Completes (report : Report) (before after : Received) (product : Product) : Type 0 where
  pub report_is : report ≡ product.report
  pub bbl_whole : Appends before.0 after.0 product.bbl
  pub log_whole : Appends before.1 after.1 (log_of product)

-- both outputs are prefixes of a product's
pub record BothBegin (before after : Received) (product : Product) : Type 0 where
  pub bbl_begins : AppendsPrefix before.0 after.0 product.bbl
  pub log_begins : AppendsPrefix before.1 after.1 (log_of product)

-- both outputs begin with a product's, the log's last line aside
pub record BothExtend (before after : Received) (product : Product) : Type 0 where
  pub bbl_extends : AppendsAtLeast before.0 after.0 product.bbl
  pub log_extends : AppendsAtLeast before.1 after.1 product.log_so_far

-- there is a number of steps n below the budget such that each output begins with what a run of n steps writes, the log's last line aside, and
-- is a prefix of what a run of n + 1 steps writes. `make` gives the product of the run for each budget
pub record WithinOneStep (before after : Received) (make : ℕ → Product) (budget : ℕ) : Type 0 where
  pub steps : ℕ
  pub within : steps < budget
  pub extends : BothExtend before after (make steps)
  pub begins : BothBegin before after (make (steps + 1))

-- after a fault both outputs are prefixes of the product's and keep step, and nothing of the log's last line is written before the whole list.
-- `make` gives the product of the run for each budget, and `budget` is that of this run
pub record AtFault (before after : Received) (make : ℕ → Product) (budget : ℕ) : Type 0 where
  pub prefixes : BothBegin before after (make budget)
  -- nothing of the log's last line was written, or the list was written to its end
  pub last_line : Appends before.0 after.0 (make budget).bbl ⊎ AppendsPrefix before.1 after.1 (make budget).log_so_far
  -- both are prefixes of what a run without a step writes, or both broke off within the same step
  pub step : BothBegin before after (make 0) ⊎ WithinOneStep before after make budget
