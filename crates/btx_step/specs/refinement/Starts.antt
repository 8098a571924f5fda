-- The first values of variables, as the code's clauses have them.
use Rattle.std.specs.Prelude.{ℤ, pos, List, length, replicate, slice_set, []}
use Rattle.btx_step.specs.language.Jobs.{Job}
use Rattle.btx_bst.specs.language.Style.{Style}
use Rattle.btx_step.specs.language.Stores.{EntryVariables}

-- the global integers: the first two are `entry.max$` and `global.max$`, which begin with the number of bytes that a string variable of an entry and a
-- global one keep; all others begin with 0
abbrev pub first_integers : Job → List ℤ
first_integers job = slice_set (slice_set (replicate (length job.style.names.global_integers) (pos 0)) 0 (pos job.entry_max)) 1 (pos job.global_max)

-- the variables of an entry begin with 0 and the empty string
abbrev pub first_values : Style → EntryVariables
first_values style = record { integers = replicate (length style.names.entry_integers) (pos 0); strings = replicate (length style.names.entry_strings) [] }
