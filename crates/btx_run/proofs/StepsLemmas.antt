-- How many steps a whole run needs.
use Rattle.std.proofs.Common.{◌≡◌, ℕ, List, [], Option, None, Some, Bool, true, false, cond, arith, refl, sym, ap, ◌∙◌}
use Rattle.std.specs.Prelude.{◌≢◌}
use Rattle.btx_aux.specs.language.Files.{Files}
use Rattle.btx_aux.specs.language.Job.{AuxJob}
use Rattle.btx_aux.specs.declared.end.End.{End as AuxEnd}
use Rattle.btx_aux.specs.declared.end.End.TheVariants as aux
use Rattle.btx_text.specs.language.LogLines.{Line}
use Rattle.btx_text.specs.declared.limits.Limit.TheVariants as kind
use Rattle.btx_machine.specs.declared.report.End.{End}
use Rattle.btx_machine.specs.declared.report.End.TheVariants as ended
use Rattle.btx_machine.specs.declared.report.LogCounts.{LogCounts}
use Rattle.btx_machine.specs.language.Product.{Product}
use Rattle.btx_machine.specs.laws.StepsNeeded.{NeedsSteps, NeededSteps, StoppedSteps}
use Rattle.btx_machine.proofs.NeedsLemmas as machine
use Rattle.btx_core.specs.declared.found.FilesRead.{FilesRead}
use Rattle.btx_core.specs.declared.found.FilesRead.TheVariants.{Ends, Found}
use Rattle.btx_core.specs.declared.options.Options.{Options}
use Rattle.btx_core.specs.language.Files.Found.{NamedFile, file_at}
use Rattle.btx_core.specs.refinement.Files.Readings.{Logged, logged, style_read, style_named, after_job, job_named, reading_of}
use Rattle.btx_run.specs.refinement.Files.Readings.{after_style, with_style, databases_read}
use Rattle.btx_run.specs.laws.Laws.{NeedsLaw, StoppedLaw}
use Rattle.btx_core.specs.language.Files.Counts.{counts_of}
use Rattle.btx_core.specs.refinement.ComputedProduct.{product_of_files}
use Rattle.btx_text.specs.language.Limits.{is_too_long}
use Rattle.btx_run.specs.refinement.Product.{work_in, logged_before}

-- ---- what a run needs that isn't stopped

behind_lines : (lines : List Line) (run : ℕ → Product) (whole : Product) → NeedsSteps run whole
    → NeedsSteps (λ budget. logged_before lines (run budget)) (logged_before lines whole)
behind_lines lines run whole needs = record {
  fewer = λ budget lt. let stops = needs.fewer budget lt in record { stopped = stops.stopped; all_taken = stops.all_taken };
  enough = λ budget le. ap (logged_before lines) (needs.enough budget le);
}

after : (job : AuxJob) (read : FilesRead) (options : Options) (counts : LogCounts) → NeededSteps (product_of_files job read options counts)
after job (Ends end) options counts budget not = record { fewer = λ budget lt. absurd (omega (arith, lt)); enough = λ budget le. refl }
after job (Found found) options counts budget not = machine.needed (work_in job found options) counts options.line budget not

pub needed : NeedsLaw
needed files name options budget not =
    let read = reading_of files name in
    let run = product_of_files (job_named files name) read.gives options (counts_of read.lines) in
    behind_lines read.lines run (run budget) (after (job_named files name) read.gives options (counts_of read.lines) budget not)

-- ---- what a stopped run took

-- the reading of the files doesn't stop a run
abbrev GoesOn : FilesRead → Type 0
GoesOn (Ends end) = end ≢ ended.Stopped
GoesOn (Found found) = Unit {0}

-- a number by which a stopped run's end is known from the others
abbrev stop_code : End → ℕ
stop_code ended.Stopped = 1
stop_code _ = 0

other_end : (end : End) → stop_code end ≡ 0 → end ≢ ended.Stopped
other_end end code e = let z : 0 ≡ 1 = sym code ∙ ap stop_code e in omega (arith, z)

one_of : (b : Bool) (x y : Logged FilesRead) → GoesOn x.gives → GoesOn y.gives → GoesOn (cond b x y).gives
one_of true x y f g = f
one_of false x y f g = g

found_goes_on : (files : Files) (job : AuxJob) (style : NamedFile) → GoesOn (after_style files job style).gives
unfolding after_style
found_goes_on files job style =
    one_of (is_too_long style.bytes) (logged [] (Ends (ended.Limit kind.File))) (with_style style (databases_read files job.databases))
    (other_end (ended.Limit kind.File) refl) tt

read_goes_on : (files : Files) (job : AuxJob) (name : List ℕ) (style : Option NamedFile) → GoesOn (style_read files job name style).gives
unfolding style_read after_style
read_goes_on files job name None = other_end ended.Finished refl
read_goes_on files job name (Some style) = found_goes_on files job style

style_goes_on : (files : Files) (job : AuxJob) (name : Option (List ℕ)) → GoesOn (style_named files job name).gives
unfolding style_named
style_goes_on files job None = other_end ended.Finished refl
style_goes_on files job (Some name) = read_goes_on files job name (file_at files name)

job_goes_on : (files : Files) (job : AuxJob) (end : AuxEnd) → GoesOn (after_job files job end).gives
unfolding after_job
job_goes_on files job aux.Whole = style_goes_on files job job.style
job_goes_on files job aux.TooManyOpen = other_end (ended.Limit kind.Files) refl
job_goes_on files job aux.TopMissing = other_end ended.NoTopFile refl
job_goes_on files job aux.FileLimit = other_end (ended.Limit kind.File) refl

after_stopped : (job : AuxJob) (read : FilesRead) (options : Options) (counts : LogCounts) → GoesOn read
    → StoppedSteps (product_of_files job read options counts)
after_stopped job (Ends end) options counts goes budget e = absurd (goes e)
after_stopped job (Found found) options counts goes budget e = machine.stopped (work_in job found options) counts options.line budget e

pub stopped : StoppedLaw
stopped files name options budget e =
    let read = reading_of files name in
    let job = job_named files name in
    after_stopped job read.gives options (counts_of read.lines) (job_goes_on files job job.ending) budget e
