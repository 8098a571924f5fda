-- The library of a job as rows.
use Rattle.std.specs.Prelude.{◌≡◌, ℕ, List, [], Option, None, Some}
use Rattle.std.specs.List.{flat_map}
use Rattle.btx_aux.specs.language.Files.{Files}
use Rattle.btx_aux.specs.language.Job.{AuxJob}
use Rattle.btx_bib.specs.declared.end.End.{End}
use Rattle.btx_bib.specs.declared.end.End.TheVariants as end
use Rattle.btx_bib.specs.language.Library.{Library}
use Rattle.btx_bst.specs.language.Style.{Style}
use Rattle.btx_core.specs.declared.found.FilesRead.{FilesRead}
use Rattle.btx_core.specs.declared.found.FilesRead.TheVariants.{Ends, Found}
use Rattle.btx_core.specs.declared.found.JobFiles.{JobFiles}
use Rattle.btx_core.specs.refinement.Contents.{style_in}
use Rattle.btx_core.specs.refinement.Files.Readings.{job_named, reading_of}
use Rattle.btx_read.specs.declared.record.Record.{Record}
use Rattle.btx_read.specs.declared.row.Row.{Row}
use Rattle.btx_read.specs.declared.rows.Rows.{Rows}
use Rattle.btx_read.specs.LibraryRecords.{library_records}
use Rattle.btx_read.specs.Rows.{rows_along, texts_of}
use Rattle.btx_run.specs.refinement.Contents.{library_in}
use Rattle.btx_c.specs.declared.read.BtxSizes.{BtxSizes}
use Rattle.btx_c.specs.Read.{AreRead}

-- ---- the records of a job

-- the records of a library, by how the reading of the databases ended: none where it met a limit, at which a run ends
abbrev pub records_by : Style → Library → End → Option (List Record)
records_by style library end.Whole = Some (library_records style library)
records_by style library end.FileLimit = None
records_by style library end.StringLimit = None

-- the records of the library that a run has of the style and the databases that were found; an entry that isn't cited needs at least `least` references to
-- stay
abbrev pub records_found : AuxJob → JobFiles → ℕ → Option (List Record)
records_found job found least =
    let library = library_in job found least in
    records_by (style_in found) library library.ending

-- the records of a job whose files were read: none where its run ends at once
abbrev pub records_of_files : AuxJob → FilesRead → ℕ → Option (List Record)
records_of_files job (Ends ending) least = None
records_of_files job (Found found) least = records_found job found least

-- the records of the library of the job of this name; none where its run ends before it has one: there is no top file or no style, or a limit is met in the
-- `.aux` files, by the style's length or in the databases
abbrev pub records_of_job : Files → List ℕ → ℕ → Option (List Record)
records_of_job files name least = records_of_files (job_named files name) (reading_of files name).gives least

-- ---- rows

-- the rows and the texts are those of these records, without a file's name
pub record AreRowsOf (records : List Record) (made : Rows) : Type 0 where
  pub rows_are : made.rows.items ≡ rows_along [] 0 records
  pub texts_are : made.texts.items ≡ flat_map (texts_of []) records

-- rows are there exactly if records are, and are theirs
abbrev pub ShowRecords : Option (List Record) → Option Rows → Type 0
ShowRecords None None = Unit {0}
ShowRecords None (Some made) = ⊥
ShowRecords (Some records) None = ⊥
ShowRecords (Some records) (Some made) = AreRowsOf records made

-- ---- what a call has left in the caller's memory

-- there are such records, and their rows and texts were put into memory, as many as there is room for; the sizes are those of all of them
abbrev pub AreOfJob : Option (List Record) → List Row × List Row → List ℕ × List ℕ → BtxSizes → Type 0
AreOfJob None rows texts sizes = ⊥
AreOfJob (Some records) rows texts sizes = AreRead [] records rows texts sizes
