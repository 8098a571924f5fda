-- What is proved of single parts of the relation: each is one thing alone, and it is the one that the code's definitions compute.
use Rattle.btx_aux.specs.language.Files.{Files}
use Rattle.btx_aux.specs.language.Job.{AuxJob, job_of_files}
use Rattle.btx_core.specs.language.AuxFiles.{AuxContents, AreAuxContents}
use Rattle.btx_core.specs.language.Divisions.{Divisions}
use Rattle.btx_core.specs.language.Lines.{IsCommitted, IsWrapped}
use Rattle.btx_core.specs.language.Names.{AreDivisions}
use Rattle.btx_out.specs.language.Breaking.{committed, wrap}
use Rattle.std.specs.Prelude.{List, ℕ, ◌↔◌, ◌≡◌, ◌≤◌}

-- what the `.aux` files of a job say, as their reader has it
abbrev pub job_said : AuxContents → AuxJob
job_said said = record { keys = said.keys; all = said.all; databases = said.databases; style = said.style; log = said.log; ending = said.ending }

-- the `.aux` files of a job say one thing, and nothing else; and that is the job that their reader makes of them
abbrev pub SameAux : Type 0
SameAux = (files : Files) (top : List ℕ) → (said : AuxContents)
    × AreAuxContents files top said × ((other : AuxContents) → AreAuxContents files top other → other ≡ said) × (job_said said ≡ job_of_files files top)

-- lines that have ended are written as the breaker writes them, and in no other way
abbrev pub SameLines : Type 0
SameLines = (line_length : ℕ) → 3 ≤ line_length → (written : List ℕ → List ℕ) → IsWrapped line_length written ↔ (written ≡ wrap line_length)

-- of a line that hasn't ended just that is written which the breaker writes
abbrev pub SameSure : Type 0
SameSure = (line_length : ℕ) → 3 ≤ line_length → (written : List ℕ → List ℕ) → IsCommitted line_length written ↔ (written ≡ committed line_length)

-- strings are divided in one way alone
abbrev pub OneDivision : Type 0
OneDivision = (one other : Divisions) → AreDivisions one → AreDivisions other → one ≡ other

-- and there is one
abbrev pub SomeDivision : Type 0
SomeDivision = (divisions : Divisions) × AreDivisions divisions
