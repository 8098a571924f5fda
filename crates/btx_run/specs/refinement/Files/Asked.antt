-- Which files a run asks for after the `.aux` files of its job: the style, and then the databases.
use Rattle.std.specs.Prelude.{◌≡◌, ◌⊎◌, ℕ, List, [], ◌∷◌, ◌++◌, Option, None, Some}
use Rattle.btx_aux.specs.language.Job.{AuxJob}

-- each of these names is one of those, in their order
unfoldable pub AreAmong : List (List ℕ) → List (List ℕ) → Type 0
AreAmong [] all = Unit {0}
AreAmong (name ∷ names) [] = ⊥
AreAmong (name ∷ names) (first ∷ all) = ((name ≡ first) × AreAmong names all) ⊎ AreAmong (name ∷ names) all

-- the name that the `.aux` files give the style, if they do
abbrev pub style_name : Option (List ℕ) → List (List ℕ)
style_name None = []
style_name (Some name) = name ∷ []

-- the names of a job's style and of its databases
abbrev pub names_in : AuxJob → List (List ℕ)
names_in job = style_name job.style ++ job.databases
