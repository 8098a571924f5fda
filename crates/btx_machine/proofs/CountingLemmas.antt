-- What a log counts of the lines that were noted, line by line and part by part.
use Rattle.std.proofs.Common.{◌≡◌, ℕ, Bool, List, [], ◌∷◌, ◌++◌, Option, None, Some, refl, sym, ap, subst, ◌∙◌, append-nil}
use Rattle.btx_text.specs.declared.log_line.LineKind.{LineKind}
use Rattle.btx_text.specs.language.LogLines.{Line, is_error, is_warning}
use Rattle.btx_machine.specs.declared.report.LogCounts.{LogCounts}
use Rattle.btx_machine.specs.language.Saying.{counted_if}
use Rattle.btx_machine.specs.laws.Noting.{AddsLines, NotedChange}
use Rattle.btx_machine.specs.laws.Reports.{log_counts}
use Rattle.btx_machine.specs.refinement.Counting.{CountsNoted, counted_in}
use Rattle.btx_machine.specs.refinement.Outputs.{Ties}
use Rattle.btx_machine.proofs.NotebookLemmas.{adds_then}

-- a count after lines and further ones
counted_in-append : (is : LineKind → Bool) (xs ys : List Line) (n : ℕ) → counted_in is (xs ++ ys) n ≡ counted_in is ys (counted_in is xs n)
counted_in-append is [] ys n = refl
counted_in-append is (x ∷ xs) ys n = counted_in-append is xs ys (counted_if (is x.kind) n)

-- nothing is noted
adds_none : (noted : Option (List Line)) → AddsLines noted noted []
adds_none None = tt
adds_none (Some lines) = sym (append-nil lines)

pub counts_nothing : (noted : Option (List Line)) (counts : LogCounts) → CountsNoted (noted, noted) counts counts
counts_nothing noted counts = record { lines = []; are_noted = adds_none noted; warnings_are = refl; errors_are = refl }

-- lines are noted and counted, and then further ones
pub counts_both : (a b c : Option (List Line)) (x y z : LogCounts) → CountsNoted (a, b) x y → CountsNoted (b, c) y z → CountsNoted (a, c) x z
counts_both a b c x y z first more = record {
  lines = first.lines ++ more.lines;
  are_noted = adds_then a b c first.lines more.lines first.are_noted more.are_noted;
  warnings_are = more.warnings_are ∙ ap (counted_in is_warning more.lines) first.warnings_are ∙ sym (counted_in-append is_warning first.lines more.lines x.warnings);
  errors_are = more.errors_are ∙ ap (counted_in is_error more.lines) first.errors_are ∙ sym (counted_in-append is_error first.lines more.lines x.errors);
}

-- a line is noted and counted, by its kind as the code reads it
pub counts_line : (a b c : Option (List Line)) (x : LogCounts) (w e w' e' : ℕ) (line : Line) (kind : LineKind) → kind ≡ line.kind
    → w' ≡ counted_if (is_warning kind) w → e' ≡ counted_if (is_error kind) e → AddsLines b c (line ∷ []) → CountsNoted (a, b) x (log_counts w e)
    → CountsNoted (a, c) x (log_counts w' e')
counts_line a b c x w e w' e' line kind is warnings errors adds first = counts_both a b c x (log_counts w e) (log_counts w' e') first (record {
  lines = line ∷ [];
  are_noted = adds;
  warnings_are = warnings ∙ ap (λ kind. counted_if (is_warning kind) w) is;
  errors_are = errors ∙ ap (λ kind. counted_if (is_error kind) e) is;
})

-- the same since a log began to count, which is tied as it was then
pub counts_since : (a b last : Option (List Line)) (x y : LogCounts) (ties began : Ties) → ties ≡ began → began.since.noted ≡ a → began.since.counts ≡ x
    → b ≡ last → CountsNoted (ties.since.noted, b) ties.since.counts y → CountsNoted (a, last) x y
counts_since a b last x y ties began same noted counts is h =
    subst (λ (noted : Option (List Line)). CountsNoted (noted, last) x y) (ap (λ (ties : Ties). ties.since.noted) same ∙ noted)
    (subst (λ (counts : LogCounts). CountsNoted (ties.since.noted, last) counts y) (ap (λ (ties : Ties). ties.since.counts) same ∙ counts)
    (subst (λ (noted : Option (List Line)). CountsNoted (ties.since.noted, noted) ties.since.counts y) is h))

-- a report has these counts
pub counts_reported : (noted : NotedChange) (x : LogCounts) (w e w' e' : ℕ) → w' ≡ w → e' ≡ e → CountsNoted noted x (log_counts w e)
    → CountsNoted noted x (log_counts w' e')
counts_reported noted x w e w' e' warnings errors h =
    subst (CountsNoted noted x) (ap (λ n. log_counts n e) (sym warnings) ∙ ap (log_counts w') (sym errors)) h
