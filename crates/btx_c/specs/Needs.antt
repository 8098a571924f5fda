-- What a job needs beyond the files that were handed in.
use Rattle.std.specs.Prelude.{◌≡◌, ℕ, Bool, true, false, List, [], ◌∷◌, ◌++◌, Option, None, Some, if◌then◌else◌}
use Rattle.std.specs.List.{flat_map}
use Rattle.btx_aux.specs.declared.end.End.TheVariants.{Whole}
use Rattle.btx_aux.specs.language.Files.{Files, file_of}
use Rattle.btx_aux.specs.language.Job.{AuxJob}
use Rattle.btx_core.specs.declared.options.Options.{Options}
use Rattle.btx_core.specs.refinement.Files.Readings.{job_named}
use Rattle.btx_core.specs.refinement.ComputedProduct.{product_with}
use Rattle.btx_c.specs.declared.handed.BtxFile.{BtxFile}
use Rattle.btx_c.specs.declared.needs.MissingFiles.{MissingFiles}
use Rattle.btx_c.specs.declared.needs.MissingFiles.TheVariants.{Ends, Names}
use Rattle.btx_c.specs.CallerFiles.{beside, is_known, known}

-- no files
abbrev pub no_files : Files
no_files name = None

-- the job needs no file but those that were handed in: whatever other files there are, the list, the log and the report are the same, with all options
-- and every budget
abbrev pub NeedsNoOther : List BtxFile → List ℕ → Type 0
NeedsNoOther files job = (others : Files) (options : Options) (budget : ℕ)
    → product_with (beside files others) job options budget ≡ product_with (beside files no_files) job options budget

-- each file is there, and empty; or none is there
abbrev pub empty_files : Bool → Files
empty_files are_there name = file_of are_there []

-- the job needs a file beside those that were handed in: what it writes, or the report, isn't the same with each choice of the other files
pub record NeedsAnother (files : List BtxFile) (job : List ℕ) : Type 0 where
  pub some : Files
  pub others : Files
  pub options : Options
  pub budget : ℕ
  pub differ : product_with (beside files some) job options budget ≡ product_with (beside files others) job options budget → ⊥

-- no job needs another file that needs no other
abbrev pub NeverAsks : Type 0
NeverAsks = (files : List BtxFile) (job : List ℕ) → NeedsNoOther files job → NeedsAnother files job → ⊥

-- the run ends with the job's `.aux` files, since their reading isn't whole, whatever other files there are: there is no top file, too many files are
-- open, or one is too long
abbrev pub EndsWithAuxFiles : List BtxFile → List ℕ → Type 0
EndsWithAuxFiles files job = (others : Files) → (job_named (beside files others) job).ending ≡ Whole → ⊥

-- the job's `.aux` files are read to their ends, whatever other files there are
abbrev pub ReadsAuxFiles : List BtxFile → List ℕ → Type 0
ReadsAuxFiles files job = (others : Files) → (job_named (beside files others) job).ending ≡ Whole

-- the job's `.aux` files say this, whatever other files there are
abbrev pub SaysAlways : List BtxFile → List ℕ → AuxJob → Type 0
SaysAlways files name job = (others : Files) → job ≡ job_named (beside files others) name

-- no file is asked for
abbrev pub AsksNothing : MissingFiles → Type 0
AsksNothing (Names names) = names.items ≡ []
AsksNothing Ends = ⊥

-- ---- names

-- the line for a name: the name and byte 10, unless something was said of its file
abbrev pub line_for : List BtxFile → List ℕ → List ℕ
line_for files name = if is_known files name then [] else name ++ 10 ∷ []

-- the lines for some names
abbrev pub lines_for : List BtxFile → List (List ℕ) → List ℕ
lines_for files names = flat_map (line_for files) names

-- it was said that there is no such file
abbrev pub is_absent : Option (Option (List ℕ)) → Bool
is_absent None = false
is_absent (Some None) = true
is_absent (Some (Some bytes)) = false

-- the lines for a job's style and its databases: none if there is no style, with which the run ends
abbrev pub lines_named : List BtxFile → Option (List ℕ) → List (List ℕ) → List ℕ
lines_named files None databases = []
lines_named files (Some style) databases = if is_absent (known files style) then [] else line_for files style ++ lines_for files databases
