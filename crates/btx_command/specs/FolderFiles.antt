-- The files of a folder, as the finder over it reads them.
use Rattle.std.specs.Prelude.{◌≡◌, ◌+◌, ℕ, false, List, Option, None, Some, Ok, take, if◌then◌else◌}
use Rattle.std.specs.Option.{option_map}
use Rattle.std.specs.Str.{is_utf8}
use Rattle.std.specs.declared.io.ErrorKind.{ErrorKind}
use Rattle.btx_aux.specs.language.Files.{Files}
use Rattle.btx_text.specs.language.Limits.{greatest_file}
use Rattle.btx_command.specs.FileErrors.{unopened}
use Rattle.btx_command.specs.Paths.{path_in}

-- a file of this path is there, and these are its bytes
abbrev pub Holds : Files → List ℕ → Option (List ℕ) → Type 0
Holds files path bytes = (held : List ℕ) × (files path ≡ Some held) × (bytes ≡ Some held)

-- a file that couldn't be opened for this reason isn't there, unless memory was refused
abbrev pub IsMissedBy : Files → List ℕ → ErrorKind → Type 0
IsMissedBy files path kind = unopened kind ≡ Ok false → files path ≡ None

-- how many bytes of a file are read at most: one more than the greatest file has shows that a file is too long, however much follows
abbrev pub most_read : ℕ
most_read = greatest_file + 1

-- the files of a folder by their names, each as far as it is read; a name that isn't UTF-8 is no file's
abbrev pub folder_files : List ℕ → Files → Files
folder_files directory files name = if is_utf8 name then option_map (λ bytes. take most_read bytes) (files (path_in directory name)) else None
