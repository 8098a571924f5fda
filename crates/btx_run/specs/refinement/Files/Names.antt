-- The name of a job's first file, as the code's clause has it.
use Rattle.std.specs.Prelude.{ℕ, List, ◌++◌, nat_eq, codes, if◌then◌else◌}
use Rattle.std.specs.List.{ends_with}

-- the name of the top-level file: the job's name with `.aux`, unless it ends so
abbrev pub top_name : List ℕ → List ℕ
top_name job = if ends_with nat_eq job (codes ".aux") then job else job ++ codes ".aux"
