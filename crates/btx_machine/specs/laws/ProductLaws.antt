-- The laws over budgets, for a run.
use Rattle.std.specs.Prelude.{◌≡◌, ◌≢◌, ℕ, ◌≤◌}
use Rattle.btx_out.specs.laws.Lengths.{IsLineLength}
use Rattle.btx_step.specs.language.Jobs.{Job}
use Rattle.btx_machine.specs.declared.report.End.TheVariants.{Stopped}
use Rattle.btx_machine.specs.declared.report.LogCounts.{LogCounts}
use Rattle.btx_machine.specs.laws.Goings.{IsPrefix}
use Rattle.btx_machine.specs.language.Product.{Product, style_product, log_of}

-- what a run writes begins what one with a larger budget writes, the log's last line aside; where it isn't stopped, that writes and
-- answers the same
pub record Foretells (shorter longer : Product) : Type 0 where
  pub bbl : IsPrefix shorter.bbl longer.bbl
  pub log : IsPrefix shorter.log_so_far (log_of longer)
  pub same : shorter.report.end ≢ Stopped → longer ≡ shorter

-- a run of a style foretells those with a larger budget
abbrev pub RunLaw : Type 0
RunLaw = (job : Job) (counts : LogCounts) (line_length : ℕ) → IsLineLength line_length → (c d : ℕ) → c ≤ d → Foretells (style_product job counts line_length c)
    (style_product job counts line_length d)

-- no run ever has more than 4,096 bodies open at once
abbrev pub DepthLaw : Type 0
DepthLaw = (job : Job) (counts : LogCounts) (line_length budget : ℕ) → (style_product job counts line_length budget).report.deepest ≤ 4096
