-- What a run makes of a job's databases is made from the records of these.
use Rattle.std.specs.Prelude.{◌≡◌, ℕ, List, ◌++◌}
use Rattle.std.specs.List.{filter}
use Rattle.btx_bib.specs.language.Databases.{library_of}
use Rattle.btx_bib.specs.language.Library.{Library}
use Rattle.btx_bib.specs.language.Messages.{Database}
use Rattle.btx_bib.specs.language.Request.{Request}
use Rattle.btx_bib.specs.laws.Databases.{read_all}
use Rattle.btx_read.specs.Errors.{errors_from_records, is_wrong}
use Rattle.btx_read.specs.Libraries.{LibraryParts, library_from_records, reference_messages_from_records}

-- a library without its messages
abbrev pub parts_of : Library → LibraryParts
parts_of library = record { entries = library.entries; preamble = library.preamble; ending = library.ending }

-- the library of a job has the entries, the preamble and the end that are made from the records of its databases
abbrev pub RecordsMakeLibraries : Type 0
RecordsMakeLibraries = (wanted : Request) (macros : List (List ℕ × List ℕ)) (databases : List Database) →
    parts_of (library_of wanted macros databases) ≡ library_from_records wanted macros databases

-- its last messages are those about references and cited keys that are made from these records, after those that are logged while its databases are read
abbrev pub RecordsMakeReferenceMessages : Type 0
RecordsMakeReferenceMessages = (wanted : Request) (macros : List (List ℕ × List ℕ)) (databases : List Database) →
    (library_of wanted macros databases).messages
    ≡ (read_all wanted macros databases).messages ++ reference_messages_from_records wanted macros databases

-- of the messages that are logged while its databases are read, those that say what is wrong are made from these records
abbrev pub RecordsMakeErrors : Type 0
RecordsMakeErrors = (wanted : Request) (macros : List (List ℕ × List ℕ)) (databases : List Database) →
    filter is_wrong (read_all wanted macros databases).messages ≡ errors_from_records wanted macros databases
