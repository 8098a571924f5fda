-- Worked libraries: what the records of short databases make for a job.
use Rattle.std.specs.Prelude.{◌≡◌, ℕ, List, [], ◌∷◌, None, Some, codes}
use Rattle.btx_bib.specs.declared.end.End.TheVariants as end
use Rattle.btx_bib.specs.declared.entry.Entry.{Entry}
use Rattle.btx_bib.specs.declared.grammar.slip.SyntaxError.TheVariants.{NoDelimiter, NoValue, Repeated}
use Rattle.btx_bib.specs.declared.message.Message.{Message}
use Rattle.btx_bib.specs.declared.message.Message.TheVariants as message
use Rattle.btx_bib.specs.language.Messages.{Database}
use Rattle.btx_bib.specs.language.Request.{Request}
use Rattle.btx_bib.specs.laws.WorkedLibraries.{book_type, citing, citing_all, database_with, misc, spot_in, worked_entry}
use Rattle.btx_read.specs.Errors.{errors_from_records}
use Rattle.btx_read.specs.Libraries.{LibraryParts, library_from_records}

-- a job, the macros of its style, its databases, the library without its messages, and the errors that are logged while the databases are read
pub record WorkedParts : Type 0 where
  pub wanted : Request
  pub macros : List (List ℕ × List ℕ)
  pub databases : List Database
  pub parts : LibraryParts
  pub errors : List Message

-- a job with its databases, the entries that they make, the preamble, and the errors
abbrev pub parts_row : Request → List (List ℕ × List ℕ) → List Database → List Entry → List ℕ → List Message → WorkedParts
parts_row wanted macros databases entries preamble errors = record {
  wanted = wanted;
  macros = macros;
  databases = databases;
  parts = record { entries = entries; preamble = preamble; ending = end.Whole };
  errors = errors;
}

-- worked libraries, of jobs whose styles declare `crossref`, `title` and `booktitle`
abbrev pub worked_parts : List WorkedParts
worked_parts =
    -- a macro, a string made of it, `#`, and a cross-reference. A second value of a field, and a field that the style doesn't declare, are left out
    parts_row (citing (codes "c" ∷ []) 2) ((codes "m", codes " M") ∷ [])
    (database_with (codes "@string{s = m # {  1}}@misc{c, crossref={P}, note={N}, title=s, title={T}}@book{p, booktitle={V}}") ∷ [])
    (worked_entry misc (codes "c") None (Some (codes "M 1")) (Some (codes "V")) ∷ []) [] []
    -- an entry with a repeated key is skipped from after its key on: of what stands in its field the `@misc` is read as an item
    ∷ parts_row (citing_all [] 0) [] (database_with (codes "@misc{k, title={A}}@misc{K, title={@misc{j, title={B}}}}@misc{i}") ∷ [])
    (worked_entry misc (codes "k") None (Some (codes "A")) None ∷ worked_entry misc (codes "j") None (Some (codes "B")) None
    ∷ worked_entry misc (codes "i") None None None ∷ [])
    [] (message.Wrong Repeated (spot_in 1 26) ∷ [])
    -- an entry that isn't wanted has no key that counts as repeated: what stands in its field isn't read, and a later one with its key is stored
    ∷ parts_row (citing (codes "c" ∷ []) 1) []
    (database_with (codes "@book{p, title={@book{q}}}@misc{c, crossref={p}}@book{p, booktitle={V}}") ∷ [])
    (worked_entry misc (codes "c") (Some (codes "p")) None (Some (codes "V")) ∷ worked_entry book_type (codes "p") None None (Some (codes "V")) ∷ []) [] []
    -- strings, stored entries and preambles go from one database to the next
    ∷ parts_row (citing (codes "k" ∷ codes "j" ∷ []) 2) []
    (database_with (codes "@preamble{{p}}@string{s={A}}@misc{k, title=s}") ∷ database_with (codes "@misc{k, title={B}}@preamble{s}@misc{j, title=s # s}") ∷ [])
    (worked_entry misc (codes "k") None (Some (codes "A")) None ∷ worked_entry misc (codes "j") None (Some (codes "AA")) None ∷ []) (codes "pA")
    (message.Wrong Repeated (spot_in 1 7) ∷ [])
    -- what is wrong is an error, also in what is skipped
    ∷ parts_row (citing_all [] 0) [] (database_with (codes "@misc{k, title=}@misc{k, @misc}") ∷ [])
    (worked_entry misc (codes "k") None None None ∷ []) []
    (message.Wrong NoValue (spot_in 1 15) ∷ message.Wrong Repeated (spot_in 1 23) ∷ message.Wrong NoDelimiter (spot_in 1 30) ∷ [])
    ∷ []

-- the records of each row's databases make its library and its errors
abbrev pub AreMade : List WorkedParts → Type 0
AreMade [] = Unit {0}
AreMade (row ∷ rows) = (library_from_records row.wanted row.macros row.databases ≡ row.parts)
    × (errors_from_records row.wanted row.macros row.databases ≡ row.errors) × AreMade rows
