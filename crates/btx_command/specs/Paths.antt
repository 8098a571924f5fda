-- Where a file stands.
use Rattle.std.specs.Prelude.{ℕ, List, ◌++◌, codes}
use Rattle.btx_command.specs.declared.given.Settings.{Settings}

-- the path of a file of a folder: the folder, `/`, the file's name
abbrev pub path_in : List ℕ → List ℕ → List ℕ
path_in directory name = directory ++ codes "/" ++ name

-- the path of the job's output with this ending; the name has no last `.aux`
abbrev pub output_path : Settings → List ℕ → List ℕ
output_path settings ending = path_in settings.directory.now (settings.name.now ++ ending)

-- the path of the job's list of references
abbrev pub list_path : Settings → List ℕ
list_path settings = output_path settings (codes ".bbl")

-- the path of the job's log
abbrev pub log_path : Settings → List ℕ
log_path settings = output_path settings (codes ".blg")
