-- Where each line of a run's log is met: in the job's files, in what its style does, or at the end of the run.
use Rattle.std.specs.Prelude.{◌≡◌, ◌⊎◌, ◌++◌, ℕ, List}
use Rattle.std.specs.List.{IsDistinct}
use Rattle.std.specs.Str.{bytes_eq}
use Rattle.btx_aux.specs.language.Answers.{Agree, FinderAnswer, names_asked}
use Rattle.btx_aux.specs.language.Files.{Files}
use Rattle.btx_aux.specs.language.Job.{AuxJob}
use Rattle.btx_machine.specs.declared.report.LogCounts.{LogCounts}
use Rattle.btx_machine.specs.language.Reports.{report_of}
use Rattle.btx_machine.specs.refinement.Met.{Met}
use Rattle.btx_machine.specs.refinement.Places.{Hands, MetInStyle, MetLast, Shown}
use Rattle.btx_core.specs.declared.found.FilesRead.{FilesRead}
use Rattle.btx_core.specs.declared.found.FilesRead.TheVariants.{Ends, Found}
use Rattle.btx_core.specs.declared.options.Options.{Options}
use Rattle.btx_core.specs.language.Files.Counts.{counts_of}
use Rattle.btx_core.specs.refinement.Files.Readings.{Logged, job_named, reading_of}
use Rattle.btx_run.specs.language.Answered.{Given}
use Rattle.btx_run.specs.refinement.Files.Places.{MetInFiles}
use Rattle.btx_run.specs.refinement.Product.{work_in}

-- a line after the reading of a job's files, of which `counts` are the warnings and errors: the last one, where the run ends at once; else one that the style that was
-- found notes, within `most` steps, or the last one after it
abbrev pub MetAfterFiles : AuxJob → FilesRead → Options → LogCounts → (most : ℕ) → Met → Type 0
MetAfterFiles job (Ends end) options counts most m = MetLast (report_of end 0 0 counts) m
MetAfterFiles job (Found found) options counts most m = MetInStyle (work_in job found options) counts options.line options.budget most m

-- a line of a run whose files were read so: one of that reading, met in the job's files, or one after it
abbrev pub MetInReading : AuxJob → Logged FilesRead → Options → (most : ℕ) → Met → Type 0
MetInReading job read options most m = MetInFiles read.lines m ⊎ MetAfterFiles job read.gives options (counts_of read.lines) most m

-- a line of the run of the job of this name over these files, of at most `most` steps
abbrev pub MetInRun : Files → List ℕ → Options → (most : ℕ) → Met → Type 0
MetInRun files name options most m = MetInReading (job_named files name) (reading_of files name) options most m

-- of any finder: the run asked for no name twice, and for all files that agree with each answer that the finder gave in it, each line that the notebook was handed
-- is one of the run over these files
pub record MetAsAnswered (name : List ℕ) (options : Options) (given : Given) (old new : Shown) (most : ℕ) : Type 0 where
  pub answers : List FinderAnswer
  pub are_given : given.1 ≡ given.0 ++ answers
  pub once : IsDistinct bytes_eq (names_asked answers)
  pub met : (files : Files) → Agree files answers → Hands old new (MetInRun files name options most)
