-- Worked readings of a job's files, by computation.
use Rattle.std.specs.Prelude.{◌≡◌, ℕ, List, [], ◌∷◌, ◌++◌, map, codes, refl}
use Rattle.btx_text.specs.language.Lines.{line_pieces, trimmed}
use Rattle.btx_text.specs.language.LogLines.{Line, mark_of, place_text}
use Rattle.btx_aux.specs.language.Notes.{TopFile, aux_complaint_text, aux_note_kind, aux_note_text}
use Rattle.btx_aux.specs.laws.Pairs.{files_of_pairs}
use Rattle.btx_aux.specs.language.Grammar.{pieces_of, aux_command_named, words_of}
use Rattle.btx_aux.specs.language.Events.{said, job_events}
use Rattle.btx_aux.specs.language.Job.{job_of_files}
use Rattle.btx_core.specs.declared.found.FilesRead.{FilesRead}
use Rattle.btx_core.specs.declared.found.FilesRead.TheVariants.{Ends, Found}
use Rattle.btx_machine.specs.declared.report.End.TheVariants as ended
use Rattle.btx_core.specs.language.Files.Lines.{database_line, no_style_line, style_line, no_database_line}
use Rattle.btx_core.specs.language.Files.Counts.{counts_of}
use Rattle.btx_core.specs.refinement.Files.Readings.{Logged, after_job, reading_of, style_named, style_read}
use Rattle.btx_run.specs.refinement.Files.Readings.{after_style}
use Rattle.btx_core.specs.refinement.Files.Found.{named_file}
use Rattle.btx_aux.specs.refinement.Notes.{aux_note_line}
use Rattle.btx_machine.specs.laws.Reports.{log_counts}

-- the texts of what is logged
abbrev texts : Logged FilesRead → List (List ℕ)
texts part = map (λ (line : Line). line.text) part.lines

-- the job `job` with these databases, and the files beside `job.aux`
abbrev with_databases : List ℕ → List (List ℕ × List ℕ) → Logged FilesRead
with_databases names files =
    reading_of (files_of_pairs ((codes "job.aux", codes "\\citation{k}\n\\bibstyle{s}\n" ++ codes "\\bibdata{" ++ names ++ codes "}\n") ∷ files)) (codes "job")

-- three databases, of which the second isn't there
abbrev second_missing : Logged FilesRead
second_missing = with_databases (codes "a,b,c") ((codes "s.bst", codes "READ") ∷ (codes "c.bib", codes "C") ∷ (codes "a.bib", codes "A") ∷ [])

second_missing-logged : second_missing.lines ≡ aux_note_line (TopFile (codes "job.aux")) ∷ style_line (codes "s.bst") ∷ database_line 1 (codes "a.bib")
    ∷ no_database_line (codes "b.bib") ∷ database_line 2 (codes "c.bib") ∷ []
unfolding line_pieces trimmed after_job style_named style_read after_style job_of_files job_events said pieces_of aux_command_named words_of
second_missing-logged = refl

second_missing-counts : counts_of second_missing.lines ≡ log_counts 0 1
unfolding line_pieces trimmed aux_note_kind aux_note_text aux_complaint_text mark_of place_text style_line no_style_line database_line no_database_line
    after_job style_named style_read after_style job_of_files job_events said pieces_of aux_command_named words_of
second_missing-counts = refl

second_missing-found : second_missing.gives ≡ Found (record {
  style = named_file (codes "s.bst") (codes "READ");
  databases = named_file (codes "a.bib") (codes "A") ∷ named_file (codes "c.bib") (codes "C") ∷ [];
})
unfolding line_pieces trimmed aux_note_kind aux_note_text aux_complaint_text mark_of place_text style_line no_style_line database_line no_database_line
    after_job style_named style_read after_style job_of_files job_events said pieces_of aux_command_named words_of
second_missing-found = refl

-- without its style, no database is looked for
abbrev style_missing : Logged FilesRead
style_missing = with_databases (codes "a,b") ((codes "a.bib", codes "A") ∷ [])

style_missing-is : (texts style_missing ≡ codes "The top-level auxiliary file: job.aux" ∷ codes "Error--I couldn't open style file s.bst" ∷ [])
    × (style_missing.gives ≡ Ends ended.Finished)
unfolding line_pieces trimmed aux_note_kind aux_note_text aux_complaint_text mark_of place_text style_line no_style_line database_line no_database_line
    after_job style_named style_read after_style job_of_files job_events said pieces_of aux_command_named words_of
style_missing-is = (refl, refl)

-- no file is there
abbrev nothing_there : Logged FilesRead
nothing_there = reading_of (files_of_pairs []) (codes "job.aux")

nothing_there-is : (texts nothing_there ≡ []) × (nothing_there.gives ≡ Ends ended.NoTopFile)
unfolding line_pieces trimmed aux_note_kind aux_note_text aux_complaint_text mark_of place_text style_line no_style_line database_line no_database_line
    after_job style_named style_read after_style job_of_files job_events said pieces_of aux_command_named words_of
nothing_there-is = (refl, refl)
