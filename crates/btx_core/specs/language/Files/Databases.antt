-- The databases of a job that are there, and what is logged of each.
use Rattle.std.specs.Prelude.{ℕ, ◌+◌, List, [], ◌∷◌, ◌++◌, length, option_to_list}
use Rattle.std.specs.List.{flat_map}
use Rattle.std.specs.Option.{option_map_or}
use Rattle.btx_aux.specs.language.Files.{Files}
use Rattle.btx_text.specs.language.LogLines.{Line}
use Rattle.btx_core.specs.language.Files.Lines.{database_line, no_database_line}
use Rattle.btx_core.specs.language.Files.Found.{NamedFile, file_at}

-- the files of these names that are there, in order
abbrev pub files_found : Files → List (List ℕ) → List NamedFile
files_found files names = flat_map (λ name. option_to_list (file_at files name)) names

-- the log lines of the databases, which are numbered as they are found; a database that isn't there has a line too, but no number. `earlier` are the
-- names before these
abbrev pub databases_logged : Files → List (List ℕ) → List (List ℕ) → List Line
databases_logged files earlier [] = []
databases_logged files earlier (name ∷ names) =
    option_map_or (λ (file : NamedFile). database_line (length (files_found files earlier) + 1) name) (file_at files name) (no_database_line name)
    ∷ databases_logged files (earlier ++ name ∷ []) names
