-- The events of the lines of a log.
use Rattle.std.proofs.Common.{arith, ◌≡◌, ℕ, suc, ◌+◌, ◌≤◌, List, [], ◌∷◌, ◌++◌, Option, None, Some, length, min, map, take, drop, refl, sym, ap, subst, ◌∙◌, append-nil}
use Rattle.std.specs.Prelude.{IfSome, Result, Ok, Err, IfOk, OnOk}
use Rattle.std.proofs.lemmas.List.{length-append, length-map, map_push, length_push, take_all, take-append-le}
use Rattle.btx_text.specs.language.LogLines.{Line}
use Rattle.btx_machine.specs.declared.report.LogCounts.{LogCounts}
use Rattle.btx_machine.specs.declared.report.Report.{Report}
use Rattle.btx_machine.specs.laws.Noting.{Printed, printed}
use Rattle.btx_machine.specs.laws.Reports.{log_counts}
use Rattle.btx_core.specs.language.Files.Counts.{counts_of}
use Rattle.btx_run.specs.laws.Noted.{CountsOfNoted}
use Rattle.btx_c.specs.declared.cause.Cause.{Cause}
use Rattle.btx_c.specs.declared.event.BtxEvent.{BtxEvent}
use Rattle.btx_c.specs.declared.noted.Events.{Events}
use Rattle.btx_c.specs.declared.noted.Noted.{Noted}
use Rattle.btx_c.specs.declared.place.BtxPlace.{BtxPlace}
use Rattle.btx_c.specs.Events.{ArePlaced, Divided, Mark, filled_places, kind_number, mark, marks, marks_from}
use Rattle.btx_c.specs.Noted.{AreInLog, AreOf, end_from}

-- the mark of a line that stands at `at`
abbrev mark_at : ℕ → Line → Mark
mark_at at line = record { at = at; len = length line.text; kind = kind_number line.kind }

end_push : (at : ℕ) (lines : List Line) (line : Line) → end_from at (lines ++ line ∷ []) ≡ end_from at lines + length line.text + 1
end_push at [] line = refl
end_push at (first ∷ lines) line = end_push (at + length first.text + 1) lines line

marks_push : (at : ℕ) (lines : List Line) (line : Line)
    → marks_from at (lines ++ line ∷ []) ≡ marks_from at lines ++ mark_at (end_from at lines) line ∷ []
marks_push at [] line = refl
marks_push at (first ∷ lines) line = ap (λ (marks : List Mark). mark_at at first ∷ marks) (marks_push (at + length first.text + 1) lines line)

length_marks : (at : ℕ) (lines : List Line) → length (marks_from at lines) ≡ length lines
length_marks at [] = refl
length_marks at (first ∷ lines) = ap (λ (n : ℕ). suc n) (length_marks (at + length first.text + 1) lines)

module _ (lines : List Line) (line : Line) (before after : Events) (are : AreOf lines before) (count : after.count ≡ before.count + 1)
    (next : after.next ≡ before.next + length line.text + 1) where
  next_is : after.next ≡ end_from 0 (lines ++ line ∷ [])
  next_is = next ∙ ap (λ (n : ℕ). n + length line.text + 1) are.next_is ∙ sym (end_push 0 lines line)

  count_is : after.count ≡ length (lines ++ line ∷ [])
  count_is = count ∙ ap (λ (n : ℕ). n + 1) are.count_is ∙ sym (length_push lines line)

  -- a line whose event isn't kept
  pub counted : after.first.items ≡ before.first.items → AreOf (lines ++ line ∷ []) after
  counted same =
      let events = before.first.items in
      let fits : length events ≤ length (marks lines) = rw (length_marks 0 lines) are.are_first in
      let old : map mark events ≡ take (length events) (marks (lines ++ line ∷ [])) = are.are_theirs
      ∙ sym (ap (take (length events)) (marks_push 0 lines line) ∙ take-append-le (length events) (marks lines) _ fits) in
      record {
        count_is = count_is;
        next_is = next_is;
        are_first = rw (same, length_push lines line) (omega (arith, are.are_first));
        are_theirs = subst (λ (items : List BtxEvent). map mark items ≡ take (length items) (marks (lines ++ line ∷ []))) (sym same) old;
      }

  -- a line whose event is kept after those of all before
  pub kept : (event : BtxEvent) → length before.first.items ≡ before.count → after.first.items ≡ before.first.items ++ event ∷ []
      → mark event ≡ mark_at before.next line → AreOf (lines ++ line ∷ []) after
  kept event all same is =
      let events = before.first.items in
      let long : length events ≡ length lines = all ∙ are.count_is in
      let ours : map mark events ≡ marks lines = are.are_theirs
      ∙ take_all (length events) (marks lines) (rw (length_marks 0 lines, long) (omega arith)) in
      let more : map mark (events ++ event ∷ []) ≡ marks (lines ++ line ∷ []) = map_push mark events event
      ∙ ap (λ (front : List Mark). front ++ mark event ∷ []) ours
      ∙ ap (λ (last : Mark). marks lines ++ last ∷ []) (is ∙ ap (λ (n : ℕ). mark_at n line) are.next_is)
      ∙ sym (marks_push 0 lines line) in
      let size : length (events ++ event ∷ []) ≡ length (lines ++ line ∷ []) = length_push events event ∙ ap (λ (n : ℕ). n + 1) long
      ∙ sym (length_push lines line) in
      let all_of : take (length (events ++ event ∷ [])) (marks (lines ++ line ∷ [])) ≡ marks (lines ++ line ∷ []) =
      take_all _ _ (rw (length_marks 0 (lines ++ line ∷ []), size) (omega arith)) in
      record {
        count_is = count_is;
        next_is = next_is;
        are_first = rw (same, size) (omega arith);
        are_theirs = subst (λ (items : List BtxEvent). map mark items ≡ take (length items) (marks (lines ++ line ∷ []))) (sym same)
            (more ∙ sym all_of);
      }

-- what a run that ended has noted
printed_of : (notes_before notes : List Line) (log_before log : List ℕ) → Printed (Some notes_before, Some notes) (Some log_before, Some log)
    → notes_before ≡ [] → log_before ≡ [] → log ≡ printed notes
printed_of notes_before notes log_before log is no_notes no_log =
    let lines : notes ≡ is.lines = rw no_notes at is.are_noted in
    let bytes : log ≡ printed is.lines = rw no_log at is.are_logged in
    bytes ∙ ap printed (sym lines)

pub logged_of : (ended : Result Report Cause) (notes_before notes : List Line) (log_before log : List ℕ)
    → OnOk ended (Printed (Some notes_before, Some notes) (Some log_before, Some log)) → notes_before ≡ [] → log_before ≡ [] → OnOk ended (log ≡ printed notes)
logged_of (Ok report) notes_before notes log_before log is no_notes no_log = printed_of notes_before notes log_before log is no_notes no_log
logged_of (Err cause) notes_before notes log_before log is no_notes no_log = tt

-- what its report counts
counts_in : (notes_before notes : List Line) (report : Report) → CountsOfNoted (Some notes_before, Some notes) report → notes_before ≡ []
    → log_counts report.warnings report.errors ≡ counts_of notes
counts_in notes_before notes report is no_notes =
    let lines : notes ≡ is.lines = rw no_notes at is.are_noted in
    is.counts_are ∙ ap counts_of (sym lines)

pub counted_of : (ended : Result Report Cause) (notes_before notes : List Line) → IfOk ended (λ report. CountsOfNoted (Some notes_before, Some notes) report)
    → notes_before ≡ [] → IfOk ended (λ report. log_counts report.warnings report.errors ≡ counts_of notes)
counted_of (Ok report) notes_before notes is no_notes = counts_in notes_before notes report is no_notes
counted_of (Err cause) notes_before notes is no_notes = tt

-- events of a log's lines, put into a room
pub divided_of : (log : List ℕ) (counts : LogCounts) (len : ℕ) (events : Events) (room into : List BtxEvent) → AreInLog log counts (length room) events
    → len ≡ events.count → into ≡ take (length room) events.first.items ++ drop (length events.first.items) room → Divided log counts len (room, into)
divided_of log counts len events room into has len_is into_is =
    let are = has.are_all.are in
    let items = events.first.items in
    let fits : length items ≤ length room = rw has.are_all.as_many (omega arith) in
    record {
      lines = has.lines;
      log_is = has.log_is;
      counts_are = has.counts_are;
      len_is = len_is ∙ are.count_is;
      written = items;
      as_many = has.are_all.as_many ∙ ap (λ (n : ℕ). min n (length room)) (sym len_is);
      are_theirs = are.are_theirs;
      room_is = into_is ∙ ap (λ (front : List BtxEvent). front ++ drop (length items) room) (take_all (length room) items fits);
    }

-- places of lines, put into a room
pub placed_of : (len count : ℕ) (places room into : List BtxPlace) → length places ≡ min count (length room) → len ≡ count → into ≡ filled_places room places
    → ArePlaced len (room, into)
placed_of len count places room into as_many len_is into_is =
    let fits : length places ≤ length room = rw as_many (omega arith) in
    record {
      written = places;
      as_many = as_many ∙ ap (λ (n : ℕ). min n (length room)) (sym len_is);
      room_is = into_is ∙ ap (λ (front : List BtxPlace). front ++ drop (length places) room) (take_all (length room) places fits);
    }
