-- What the databases that were found hold, as the code's clauses have it.
use Rattle.btx_bib.specs.language.Messages.{Database}
use Rattle.btx_core.specs.language.Files.Found.{NamedFile}
use Rattle.std.specs.Prelude.{ℕ, map}
use Rattle.btx_aux.specs.language.Job.{AuxJob}
use Rattle.btx_bib.specs.language.Databases.{library_of}
use Rattle.btx_bib.specs.language.Library.{Library}
use Rattle.btx_bib.specs.language.Requests.{asked}
use Rattle.btx_core.specs.declared.found.JobFiles.{JobFiles}
use Rattle.btx_core.specs.refinement.Contents.{style_in}

-- a file as a database
abbrev pub database_of : NamedFile → Database
database_of file = record { file = file.name; text = file.bytes }

-- the library of the databases that were found; an entry that isn't cited needs at least `least` references to stay
abbrev pub library_in : AuxJob → JobFiles → ℕ → Library
library_in job found least = library_of (asked (style_in found) job least) (style_in found).macros (map database_of found.databases)
