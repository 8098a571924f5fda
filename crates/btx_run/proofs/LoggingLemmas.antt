-- What a log received while lines were logged, one part after another.
use Rattle.std.proofs.Common.{◌≡◌, ℕ, ◌+◌, ◌<◌, Bool, true, false, List, [], ◌∷◌, ◌++◌, Option, length, take, drop, get_or, sym, ap, ◌∙◌, subst, append_assoc}
use Rattle.std.proofs.Common.{append-nil, arith}
use Rattle.std.proofs.lemmas.Grind.{flat_map-append}
use Rattle.std.proofs.lemmas.List.{take-append-drop, take_more}
use Rattle.std.proofs.lemmas.List.Sums.{sum_by-append}
use Rattle.std.specs.Prelude.{cond, count_by, sum_by}
use Rattle.std.specs.Io.KnownBytes.{Appends}
use Rattle.std.proofs.KnownBytes.{Appends-trans, Appends-nil}
use Rattle.btx_text.specs.declared.log_line.LineKind.{LineKind}
use Rattle.btx_text.specs.language.LogLines.{Line, is_error, is_warning}
use Rattle.btx_out.specs.language.Pieces.{AppendsPrefix}
use Rattle.btx_out.proofs.PieceLemmas.{prefix-after, prefix-all, prefix-longer}
use Rattle.btx_machine.specs.declared.report.LogCounts.{LogCounts}
use Rattle.btx_machine.specs.declared.report.Report.{Report}
use Rattle.btx_core.specs.language.Files.Counts.{counts_of}
use Rattle.btx_run.specs.refinement.Files.Counts.{at_most_greatest, counts_at}
use Rattle.btx_run.specs.refinement.Files.Logging.{Logs, bytes_of_lines}
use Rattle.btx_machine.specs.language.Saying.{counted_if, ended_line}
use Rattle.btx_machine.specs.refinement.Outputs.{Journal}
use Rattle.btx_machine.specs.laws.Noting.{NotedChange}
use Rattle.btx_machine.specs.laws.Reports.{log_counts}
use Rattle.btx_machine.specs.refinement.Counting.{CountsNoted, counted_in}
use Rattle.btx_run.specs.laws.Noted.{CountsOfNoted}

-- the bytes of lines and further lines
pub bytes_of_both : (xs ys : List Line) → bytes_of_lines (xs ++ ys) ≡ bytes_of_lines xs ++ bytes_of_lines ys
bytes_of_both xs ys = flat_map-append (λ (line : Line). ended_line line.text) xs ys

-- nothing was logged
pub logs_nothing : (counts : LogCounts) (log : Option (List ℕ)) → Logs (counts, counts) (log, log) []
logs_nothing counts log = record {
  counts = λ before is. is ∙ ap counts_of (sym (append-nil before));
  received = Appends-nil log;
}

-- lines, and then further ones
pub logs_both : (a b c : LogCounts) (x y z : Option (List ℕ)) (first more : List Line) → Logs (a, b) (x, y) first → Logs (b, c) (y, z) more
    → Logs (a, c) (x, z) (first ++ more)
logs_both a b c x y z first more logs logs' = record {
  counts = λ before is. logs'.counts (before ++ first) (logs.counts before is) ∙ ap counts_of (append_assoc before first more);
  received = subst (Appends x z) (sym (bytes_of_both first more)) (Appends-trans x y z _ _ logs.received logs'.received);
}

-- all of the first lines is a prefix
pub logged_begins : (x y : Option (List ℕ)) (a b : LogCounts) (first more : List Line) → Logs (a, b) (x, y) first
    → AppendsPrefix x y (bytes_of_lines (first ++ more))
logged_begins x y a b first more logs =
    subst (AppendsPrefix x y) (sym (bytes_of_both first more)) (prefix-longer x y _ _ (prefix-all x y _ logs.received))

-- a prefix of the first lines is one of all
pub part_begins : (x y : Option (List ℕ)) (first more : List Line) → AppendsPrefix x y (bytes_of_lines first)
    → AppendsPrefix x y (bytes_of_lines (first ++ more))
part_begins x y first more part = subst (AppendsPrefix x y) (sym (bytes_of_both first more)) (prefix-longer x y _ _ part)

-- all of the first lines, and then a prefix of the further ones
pub rest_begins : (x y z : Option (List ℕ)) (a b : LogCounts) (first more : List Line) → Logs (a, b) (x, y) first → AppendsPrefix y z (bytes_of_lines more)
    → AppendsPrefix x z (bytes_of_lines (first ++ more))
rest_begins x y z a b first more logs part =
    subst (AppendsPrefix x z) (sym (bytes_of_both first more)) (prefix-after x y z _ _ logs.received part)

-- ---- one line

-- a count with one line more, which is of the kind that is counted or isn't
one_more : (is : Bool) (n : ℕ) → counted_if is (at_most_greatest n) ≡ at_most_greatest (n + sum_by (λ (is : Bool). cond is 1 0) (is ∷ []))
one_more true n = grind arith
one_more false n = grind arith

pub counted_more : (counts : Line → Bool) (before : List Line) (line : Line)
    → counted_if (counts line) (at_most_greatest (count_by counts before)) ≡ at_most_greatest (count_by counts (before ++ line ∷ []))
counted_more counts before line =
    one_more (counts line) (count_by counts before) ∙ ap at_most_greatest (sym (sum_by-append (λ line. cond (counts line) 1 0) before (line ∷ [])))

bytes_of_one : (line : Line) → ended_line line.text ≡ bytes_of_lines (line ∷ [])
bytes_of_one line = sym (append-nil (ended_line line.text))

-- a line was logged
pub logs_line : (line : Line) (old new : Journal) → Appends old.sink.received new.sink.received (ended_line line.text)
    → new.warnings ≡ counted_if (is_warning line.kind) old.warnings → new.errors ≡ counted_if (is_error line.kind) old.errors
    → Logs (counts_at old, counts_at new) (old.sink.received, new.sink.received) (line ∷ [])
logs_line line old new appends warnings errors = record {
  counts = λ before is.
      ap (λ n. log_counts n new.errors) (warnings ∙ ap (λ (counts : LogCounts). counted_if (is_warning line.kind) counts.warnings) is
      ∙ counted_more (λ line. is_warning line.kind) before line)
      ∙ ap (log_counts (counts_of (before ++ line ∷ [])).warnings) (errors ∙ ap (λ (counts : LogCounts). counted_if (is_error line.kind) counts.errors) is
      ∙ counted_more (λ line. is_error line.kind) before line);
  received = subst (Appends old.sink.received new.sink.received) (bytes_of_one line) appends;
}

-- a line was begun
pub line_begun : (line : Line) (x y : Option (List ℕ)) → AppendsPrefix x y (ended_line line.text) → AppendsPrefix x y (bytes_of_lines (line ∷ []))
line_begun line x y part = subst (AppendsPrefix x y) (bytes_of_one line) part

-- ---- lines, one after another

-- at a line of some
at_line : (lines : List Line) (i : ℕ) (line : Line) → i < length lines → line ≡ get_or lines i line
    → lines ≡ take i lines ++ line ∷ [] ++ drop (i + 1) lines
at_line lines i line lt is =
    sym (take-append-drop (i + 1) lines) ∙ ap (λ l. l ++ drop (i + 1) lines) (take_more lines i line lt ∙ ap (λ x. take i lines ++ x ∷ []) (sym is))

-- one line more
pub logs_one_more : (lines : List Line) (i : ℕ) (line : Line) (a b c : LogCounts) (x y z : Option (List ℕ)) → i < length lines → line ≡ get_or lines i line
    → Logs (a, b) (x, y) (take i lines) → Logs (b, c) (y, z) (line ∷ []) → Logs (a, c) (x, z) (take (i + 1) lines)
logs_one_more lines i line a b c x y z lt is logs next =
    subst (Logs (a, c) (x, z)) (sym (take_more lines i line lt ∙ ap (λ l. take i lines ++ l ∷ []) (sym is))) (logs_both a b c x y z _ _ logs next)

-- the lines so far, and a prefix of the next
pub line_begins : (lines : List Line) (i : ℕ) (line : Line) (a b : LogCounts) (x y z : Option (List ℕ)) → i < length lines → line ≡ get_or lines i line
    → Logs (a, b) (x, y) (take i lines) → AppendsPrefix y z (bytes_of_lines (line ∷ [])) → AppendsPrefix x z (bytes_of_lines lines)
line_begins lines i line a b x y z lt is logs part =
    subst (λ l. AppendsPrefix x z (bytes_of_lines l)) (sym (at_line lines i line lt is))
    (part_begins x z (take i lines ++ line ∷ []) (drop (i + 1) lines) (rest_begins x y z a b _ _ logs part))

-- ---- the lines that were noted

-- a count after lines is that of the lines before and these
counted_from : (is : LineKind → Bool) (before lines : List Line)
    → counted_in is lines (at_most_greatest (count_by (λ line. is line.kind) before)) ≡ at_most_greatest (count_by (λ line. is line.kind) (before ++ lines))
counted_from is before [] = ap (λ lines. at_most_greatest (count_by (λ line. is line.kind) lines)) (sym (append-nil before))
counted_from is before (line ∷ lines) =
    ap (counted_in is lines) (counted_more (λ line. is line.kind) before line) ∙ counted_from is (before ++ line ∷ []) lines
    ∙ ap (λ lines. at_most_greatest (count_by (λ line. is line.kind) lines)) (append_assoc before (line ∷ []) lines)

-- a report that counts the noted lines, from none on
pub counts_of_noted : (noted : NotedChange) (report : Report) → CountsNoted noted (log_counts 0 0) (log_counts report.warnings report.errors)
    → CountsOfNoted noted report
counts_of_noted noted report h = record {
  lines = h.lines;
  are_noted = h.are_noted;
  counts_are = ap (λ n. log_counts n report.errors) (h.warnings_are ∙ counted_from is_warning [] h.lines)
      ∙ ap (log_counts (counts_of h.lines).warnings) (h.errors_are ∙ counted_from is_error [] h.lines);
}
