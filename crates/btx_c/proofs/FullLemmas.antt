-- A list or a log that is longer than its room.
use Rattle.std.proofs.Common.{arith, ◌≡◌, ◌⊎◌, inl, inr, ℕ, zero, suc, ◌+◌, ◌≤◌, List, [], ◌++◌, Option, Some, length, length-append, sym, subst}
use Rattle.std.specs.Io.KnownBytes.{Appends}
use Rattle.btx_aux.specs.language.Files.{Files}
use Rattle.btx_out.specs.language.Pieces.{AppendsAtLeast, AppendsPrefix}
use Rattle.btx_out.specs.laws.Lengths.{IsLineLength}
use Rattle.btx_out.proofs.PieceLemmas.{prefix-all}
use Rattle.btx_machine.specs.declared.report.Report.{Report}
use Rattle.btx_machine.specs.laws.Goings.{IsPrefix}
use Rattle.btx_machine.specs.laws.ProductLaws.{Foretells}
use Rattle.btx_machine.specs.language.KeepingStep.{AtFault, BothBegin, Completes, Received, WithinOneStep}
use Rattle.btx_machine.specs.language.Product.{Product, log_of}
use Rattle.btx_core.specs.declared.options.Options.{Options}
use Rattle.btx_core.specs.refinement.ComputedProduct.{product, product_with}
use Rattle.btx_run.proofs.LawLemmas.{holds}

-- what was received is at least each prefix of it
at_least : (before after : Option (List ℕ)) (bytes whole : List ℕ) → IsPrefix bytes whole → Appends before after whole → AppendsAtLeast before after bytes
at_least before after bytes whole begins received = record { more = begins.0; received = subst (Appends before after) begins.1 received }

-- outputs that received a product's whole texts
whole_begins : (report : Report) (before after : Received) (product : Product) → Completes report before after product → BothBegin before after product
whole_begins report before after product whole = record {
  bbl_begins = prefix-all before.0 after.0 product.bbl whole.bbl_whole;
  log_begins = prefix-all before.1 after.1 (log_of product) whole.log_whole;
}

-- a run that ended has kept step
module _ (files : Files) (name : List ℕ) (options : Options) (line : IsLineLength options.line) (report : Report) (before after : Received) where
  abbrev make : ℕ → Product
  make budget = product_with files name options budget

  -- the step before the last one
  last_step : (n budget : ℕ) → n + 1 ≡ budget → Completes report before after (make budget) → WithinOneStep before after make budget
  last_step n budget is whole =
      let law : Foretells (make n) (make budget) = holds files name options line n budget (omega (arith, is)) in
      record {
        steps = n;
        within = omega (arith, is);
        extends = record {
          bbl_extends = at_least before.0 after.0 (make n).bbl (make budget).bbl law.bbl whole.bbl_whole;
          log_extends = at_least before.1 after.1 (make n).log_so_far (log_of (make budget)) law.log whole.log_whole;
        };
        begins = subst (λ (b : ℕ). BothBegin before after (make b)) (sym is) (whole_begins report before after (make budget) whole);
      }

  keeps_step : (budget : ℕ) → Completes report before after (make budget) → BothBegin before after (make 0) ⊎ WithinOneStep before after make budget
  keeps_step zero whole = inl (whole_begins report before after (make 0) whole)
  keeps_step (suc n) whole = inr (last_step n (suc n) (omega arith) whole)

  -- so it is as one that broke off after its last byte
  pub whole_at_fault : Completes report before after (product files name options) → AtFault before after (product_with files name options) options.budget
  whole_at_fault whole = record {
    prefixes = whole_begins report before after (make options.budget) whole;
    last_line = inl whole.bbl_whole;
    step = keeps_step options.budget whole;
  }

-- a prefix is no longer than the whole
prefix_length : (text whole : List ℕ) → AppendsPrefix (Some []) (Some text) whole → length text ≤ length whole
prefix_length text whole begins =
    let is : text ≡ begins.front = begins.received in
    let parts : whole ≡ begins.front ++ begins.rest = begins.whole in
    rw (is, parts, length-append begins.front begins.rest) (omega arith)

module _ (list log : List ℕ) (make : ℕ → Product) (budget : ℕ) (fault : AtFault (Some [], Some []) (Some list, Some log) make budget) where
  -- the product's list is at least as long as what was written of it
  pub list_length : length list ≤ length (make budget).bbl
  list_length = prefix_length list (make budget).bbl fault.prefixes.bbl_begins

  pub log_length : length log ≤ length (log_of (make budget))
  log_length = prefix_length log (log_of (make budget)) fault.prefixes.log_begins
