-- How a run ends of a style that is clean and ends.
use Rattle.std.specs.Prelude.{ℕ, ◌≤◌, List}
use Rattle.btx_bst.specs.language.Style.{Style}
use Rattle.btx_step.specs.language.Jobs.{Job}
use Rattle.btx_machine.specs.declared.report.End.{End}
use Rattle.btx_machine.specs.declared.report.End.TheVariants as ended
use Rattle.btx_machine.specs.declared.report.LogCounts.{LogCounts}
use Rattle.btx_machine.specs.language.Product.{style_product}
use Rattle.btx_check.specs.Promise.{IsOf, IsSpared, StyleIsClean, most_steps}
use Rattle.btx_ends.specs.Ends.{StyleEnds, bound_of}

-- a run finished, or it ended at a limit that is none of literals, of open bodies and of running loops
abbrev pub EndsWell : End → Type 0
EndsWell ended.Finished = Unit {0}
EndsWell (ended.Limit kind) = IsSpared kind
EndsWell _ = ⊥

-- the report of each run of a style that is clean and ends, for entries of the same types, whose budget is at least the bound and at most the greatest one for
-- which a style is clean: the run finished or ended at the limit of a string or a file, and took at most as many steps as the bound says
abbrev pub CleanStylesEndWell : Type 0
CleanStylesEndWell = (style : Style) (allowed : List ℕ) (deepest kept once each : ℕ) → StyleIsClean style allowed deepest → StyleEnds style allowed kept once each
    → (job : Job) → IsOf style allowed job → job.global_max ≤ kept → (counts : LogCounts) (line_length budget : ℕ)
    → bound_of once each job ≤ budget → budget ≤ most_steps
    → EndsWell (style_product job counts line_length budget).report.end × ((style_product job counts line_length budget).report.steps ≤ bound_of once each job)
