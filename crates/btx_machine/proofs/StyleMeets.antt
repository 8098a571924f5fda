-- Where the lines of a style are met.
use Rattle.std.proofs.Common.{◌≡◌, ◌≤◌, ◌-◌, ◌++◌, ◌∙◌, ℕ, List, [], ◌∷◌, Option, Result, Ok, Err, IfOk, IsErr, inl, inr, ap, append_assoc, arith, refl, subst, sym, true≢false}
use Rattle.btx_text.specs.declared.fault.Fault.{Fault}
use Rattle.btx_text.specs.declared.log_line.LineKind.TheVariants.{Plain}
use Rattle.btx_text.specs.language.LogLines.{Line}
use Rattle.btx_out.specs.laws.Lengths.{IsLineLength}
use Rattle.btx_step.specs.language.Starts.{first_store}
use Rattle.btx_machine.proofs.Common.{Ending, Item, Job, Journal, Work, State, Out, Start, StandsFor, state, last_line, report_of, style_product}
use Rattle.btx_machine.specs.declared.notebook.About.TheVariants as about
use Rattle.btx_machine.specs.declared.report.LogCounts.{LogCounts}
use Rattle.btx_machine.specs.declared.report.Report.{Report}
use Rattle.btx_machine.specs.language.KeepingStep.{Received}
use Rattle.btx_machine.specs.refinement.Met.{AddsMet, Met, met}
use Rattle.btx_machine.specs.refinement.Places.{EndsWithLast, Hands, MeetsInItems, MeetsInStyle, MetInItems, MetInStyle, MetLast, Shown, most_steps, showing, shown}
use Rattle.btx_machine.specs.refinement.Product.{first, no_out}
use Rattle.btx_machine.proofs.ComesLemmas.{ok_map}
use Rattle.btx_machine.proofs.HandLemmas.{handed_as, handed_none, handed_then, met_then}
use Rattle.btx_machine.proofs.ItemMeets.{met_within}
use Rattle.btx_machine.proofs.RunLemmas.{start_at}

-- ---- the last line

-- it alone was handed
pub last_alone : (old new : Shown) (report : Report) (line : Line) → line ≡ record { text = last_line report; kind = Plain }
    → AddsMet old.handed new.handed (met line about.End ∷ []) → EndsWithLast old new report
last_alone old new report line is handed =
    record { before = []; last = met line about.End; are_handed = handed; is_last = record { is_line = is; about_it = refl } }

-- it was handed behind other lines
pub last_behind : {claim : Met → Type 0} {old mid new : Shown} {report : Report} → Hands old mid claim → EndsWithLast mid new report → EndsWithLast old new report
last_behind {claim} {old} {mid} {new} h e = record {
  before = h.mets ++ e.before;
  last = e.last;
  are_handed = subst (AddsMet old.handed new.handed) (sym (append_assoc h.mets e.before (e.last ∷ [])))
      (met_then old.handed mid.handed new.handed h.mets (e.before ++ e.last ∷ []) h.are_handed e.are_handed);
  is_last = e.is_last;
}

module _ (old mid new : Journal) (same : mid ≡ old) where
  -- nothing was logged
  pub unlogged : {claim : Met → Type 0} → Hands (shown old) (shown mid) claim
  unlogged {claim} = subst (λ log. Hands (shown old) (shown log) claim) (sym same) (handed_none (shown old))

  -- and then the last line
  pub concluded : (report r : Report) → report ≡ r → Hands (shown mid) (shown new) (MetLast report) → Hands (shown old) (shown new) (MetLast r)
  concluded report r is h =
      subst (λ (log : Journal). Hands (shown log) (shown new) (MetLast r)) same (subst (λ report. Hands (shown mid) (shown new) (MetLast report)) is h)

  pub concluded_last : {T : Type 0} (result : Result Report T) → IfOk result (EndsWithLast (shown mid) (shown new))
      → IfOk result (EndsWithLast (shown old) (shown new))
  concluded_last result = ok_map (λ report h. subst (λ (log : Journal). EndsWithLast (shown log) (shown new) report) same h) result

-- ---- the items, and then the last line

module _ (job : Job) (counts : LogCounts) (line_length : ℕ) (range : IsLineLength line_length) (a : Received) (budget : ℕ) (old : Work)
    (store : old.store ≡ first_store job) (stands : StandsFor (start_at line_length range a) old.outputs (no_out counts)) (items : List Item)
    (are : items ≡ job.style.items) where
  -- what is met in one of the items is met in the style
  in_style : (k most : ℕ) → k ≤ most → (m : Met)
      → ((start : Start) (out : Out) → StandsFor start old.outputs out → MetInItems job items k (state old.store out) m)
      → MetInStyle job counts line_length budget most m
  in_style k most le m h = inl (met_within job job.style.items k most (first job counts) m le
      (subst (λ items. MetInItems job items k (first job counts) m) are
      (subst (λ store. MetInItems job items k (state store (no_out counts)) m) store (h (start_at line_length range a) (no_out counts) stands))))

  -- an item failed
  pub style_failed : (new : Work) (result : Result Report Fault) → IsErr result → MeetsInItems job items budget old new
      → MeetsInStyle job counts line_length budget result (shown old.outputs.log) (shown new.outputs.log)
  style_failed new (Ok report) failed h = absurd (true≢false (sym failed))
  style_failed new (Err fault) failed h = handed_as (in_style budget budget (omega arith)) h

  module _ (mid new : Work) (left : ℕ) (report : Report) (is_report : report ≡ (style_product job counts line_length budget).report)
      (steps : report.steps ≡ budget - left) where
    -- the steps of the items are no more than those of the run
    within_most : (result : Result Report Fault) → IfOk result (λ answer. answer ≡ report) → budget - left ≤ most_steps result budget
    within_most (Ok answer) is = let same = ap (λ (report : Report). report.steps) is in omega (arith, same, steps)
    within_most (Err fault) is = omega arith

    pub style_done : (result : Result Report Fault) → IfOk result (λ answer. answer ≡ report) → MeetsInItems job items (budget - left) old mid
        → Hands (shown mid.outputs.log) (shown new.outputs.log) (MetLast report)
        → MeetsInStyle job counts line_length budget result (shown old.outputs.log) (shown new.outputs.log)
    style_done result is h last =
        let le = within_most result is in
        handed_then (handed_as (in_style (budget - left) (most_steps result budget) le) h)
        (handed_as (λ m is_last. inr (subst (λ report. MetLast report m) is_report is_last)) last)

-- the last line was handed behind those of the items
pub last_of_style : {claim : Met → Type 0} {T : Type 0} (old mid new : Shown) (result : Result Report T) → Hands old mid claim
    → IfOk result (EndsWithLast mid new) → IfOk result (EndsWithLast old new)
last_of_style old mid new result h = ok_map (λ report last. last_behind h last) result

-- ---- what a notebook shows

pub showing_is : (a a' : Option (List Line)) (b b' : Option (List Met)) → a ≡ a' → b ≡ b' → showing a b ≡ showing a' b'
showing_is a a' b b' e f = ap (λ a. showing a b) e ∙ ap (showing a') f
