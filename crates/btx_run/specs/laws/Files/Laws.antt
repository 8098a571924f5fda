-- Laws of what is logged of databases that are looked for.
use Rattle.std.specs.Prelude.{◌≡◌, ℕ, ◌+◌, Bool, true, false, List, [], ◌∷◌, length, map, filter, is_none}
use Rattle.btx_text.specs.declared.log_line.LineKind.{LineKind}
use Rattle.btx_text.specs.declared.log_line.LineKind.TheVariants.{Plain, Warning, Error}
use Rattle.btx_text.specs.language.LogLines.{Line, is_error}
use Rattle.btx_aux.specs.language.Files.{Files}
use Rattle.btx_core.specs.language.Files.Lines.{database_line, no_database_line}
use Rattle.btx_core.specs.language.Files.Found.{NamedFile}
use Rattle.btx_core.specs.language.Files.Databases.{databases_logged, files_found}

-- the line is neither a warning nor an error
abbrev pub is_plain_line : LineKind → Bool
is_plain_line Plain = true
is_plain_line Warning = false
is_plain_line Error = false

-- what is logged of files that were found, numbered from one number on
abbrev pub numbered : ℕ → List NamedFile → List Line
numbered number [] = []
numbered number (file ∷ files) = database_line number file.name ∷ numbered (number + 1) files

-- the databases that were found are numbered from 1 up, without a gap
abbrev pub FoundAreNumbered : Type 0
FoundAreNumbered = (files : Files) (names : List (List ℕ)) →
    filter (λ line. is_plain_line line.kind) (databases_logged files [] names) ≡ numbered 1 (files_found files names)

-- each database that isn't there is an error of its own
abbrev pub MissingAreErrors : Type 0
MissingAreErrors = (files : Files) (names : List (List ℕ)) →
    filter (λ line. is_error line.kind) (databases_logged files [] names) ≡ map no_database_line (filter (λ name. is_none (files name)) names)

-- each database has one line
abbrev pub OneLineEach : Type 0
OneLineEach = (files : Files) (names : List (List ℕ)) → length (databases_logged files [] names) ≡ length names
