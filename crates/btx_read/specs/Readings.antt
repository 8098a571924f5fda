-- A database that is being read, record by record.
use Rattle.std.specs.Prelude.{◌≡◌, ℕ, List, [], ◌∷◌, Option, None, Some}
use Rattle.btx_bib.specs.declared.grammar.commands.Expected.{Expected}
use Rattle.btx_bib.specs.language.Grammar.Items.{events_from}
use Rattle.btx_read.specs.declared.record.Record.{Record}
use Rattle.btx_read.specs.Records.{nothing_kept, records_along}

-- a text that is being read: the strings that are known, what is wanted next, and the text that is left
pub record Reading : Type 0 where
  pub text : List ℕ
  pub strings : List (List ℕ × List ℕ)
  pub wanted : Expected
  pub rest : List ℕ

-- the records that are left
abbrev pub records_left : Reading → List Record
records_left reading = records_along reading.text reading.strings reading.rest (events_from nothing_kept tt reading.wanted reading.rest)

-- the record that was read is the first of those that were left, and the others are left now; or none was left
abbrev pub IsNext : Reading → Option Record → Reading → Type 0
IsNext old None new = (records_left old ≡ []) × (new ≡ old)
IsNext old (Some next) new = records_left old ≡ next ∷ records_left new

-- the same where a record was read; where none was, nothing has changed
abbrev pub IsNextIfAny : Reading → Option Record → Reading → Type 0
IsNextIfAny old None new = new ≡ old
IsNextIfAny old (Some next) new = IsNext old (Some next) new
