-- Names of parts of a format's definition.
use Rattle.std.specs.Prelude.{ℕ, ◌==◌, Bool, List, length}
use Rattle.btx_names.specs.declared.runs.Stop.TheVariants.{Letter}
use Rattle.btx_names.specs.language.Runs.{run_len}

-- no letter stands in a text outside its braces
abbrev pub has_no_letter : List ℕ → Bool
has_no_letter text = run_len Letter 0 text == length text
