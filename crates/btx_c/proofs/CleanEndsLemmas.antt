-- How a run ends of a style that is clean and ends.
use Rattle.std.proofs.Common.{◌≡◌, ℕ, ◌≤◌, List, [], arith}
use Rattle.btx_machine.specs.language.States.{State, Outcome, Done, Stopped, Limit}
use Rattle.btx_machine.specs.language.Items.{do_items}
use Rattle.btx_machine.specs.language.Product.{product_of}
use Rattle.btx_check.specs.Promise.{IsOf, Promised}
use Rattle.btx_ends.specs.Ends.{EndsWithin, bound_of, first_state}
use Rattle.btx_c.specs.CleanEnds.{CleanStylesEndWell, EndsWell}

-- an outcome within a bound, at no spared limit
ends_well : (line_length bound budget deepest : ℕ) (o : Outcome) → EndsWithin bound budget o → Promised deepest o
    → EndsWell (product_of line_length budget o).report.end × ((product_of line_length budget o).report.steps ≤ bound)
ends_well line_length bound budget deepest (Done s left) h p = (tt, omega (arith, h))
ends_well line_length bound budget deepest (Stopped s) h p = absurd h
ends_well line_length bound budget deepest (Limit kind s left) h p = (p.1, omega (arith, h))

pub clean_styles_end_well : CleanStylesEndWell
clean_styles_end_well style allowed deepest kept once each clean ends job of keeps counts line_length budget enough most =
    ends_well line_length (bound_of once each job) budget deepest (do_items job job.style.items [] budget (first_state job counts))
    (ends job (record { same = of.same; keeps = keeps; types = of.types }) counts budget enough) (clean job of counts budget most).1
