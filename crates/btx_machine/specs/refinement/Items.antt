-- The list of all entries, and what READ logs and comes to, as the code's clauses and proofs name them.
use Rattle.std.specs.Prelude.{ℕ, List, map, length, Option}
use Rattle.std.specs.List.{range_with_len}
use Rattle.std.specs.Option.{option_map_or}
use Rattle.btx_text.specs.language.LogLines.{Line}
use Rattle.btx_bib.specs.language.MessageTexts.{message_line}
use Rattle.btx_step.specs.language.Jobs.{Job}
use Rattle.btx_text.specs.declared.limits.Limit.{Limit as Kind}
use Rattle.btx_machine.specs.language.States.{State, Outcome, Done, Limit}

-- the numbers of `n` entries, one after another, of which the first is `i`
abbrev pub numbers_from : ℕ → ℕ → List ℕ
numbers_from n i = range_with_len i n

-- all entries, in the order of the list that the databases gave
abbrev pub all_entries : Job → List ℕ
all_entries job = numbers_from (length job.library.entries) 0

-- the outcome of READ: the end of the run if the databases met a limit, else done
abbrev pub outcome_of_read : Option Kind → ℕ → State → Outcome
outcome_of_read limit b s = option_map_or (λ (kind : Kind). Limit kind s b) limit (Done s b)

-- what READ logs of the databases: a line for each message, in their order
abbrev pub read_lines : Job → List Line
read_lines job = map message_line job.library.messages
