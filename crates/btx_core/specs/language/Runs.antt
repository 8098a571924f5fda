-- What the commands of a style do (btxhak, section 5.2).
use Rattle.btx_core.specs.language.Meanings.{Done, Limited, Meaning, Outcome, Stopped, then_do}
use Rattle.btx_core.specs.language.Notes.{error, shows}
use Rattle.btx_core.specs.language.Styles.{Command, Entry, Execute, Function, Iterate, Library, Read, Reverse, Run, Says, Sort, State}
use Rattle.btx_step.specs.laws.Orders.{comes_first}
use Rattle.btx_text.specs.declared.limits.Limit.{Limit}
use Rattle.std.specs.Option.{option_map_or}
use Rattle.std.specs.Prelude.{List, None, Option, Some, [], codes, false, filter, if◌then◌else◌, length, reverse, ℕ, ◌++◌, ◌==◌, ◌∷◌, ◌≡◌}
use Rattle.std.specs.Str.{bytes_eq}

-- ---- SORT

-- the key by which SORT orders an entry: its `sort.key$`
abbrev pub sort_key : State → Entry → List ℕ
sort_key s entry = s.entry_strings entry.key (codes "sort.key$")

-- none of these entries has a key that comes before that of x: with the smaller byte at the first that differs, or as a proper prefix (`comes_first`)
abbrev pub NoneBefore : (Entry → List ℕ) → Entry → List Entry → Type 0
NoneBefore key x [] = Unit {0}
NoneBefore key x (y ∷ ys) = (comes_first (key y) (key x) ≡ false) × NoneBefore key x ys

-- no entry has a key that comes before one that stands earlier
abbrev pub Ascends : (Entry → List ℕ) → List Entry → Type 0
Ascends key [] = Unit {0}
Ascends key (x ∷ xs) = NoneBefore key x xs × Ascends key xs

-- `sorted` is `entries` in the order of their keys, those of one key as they stood (the original puts these into the order before the first SORT)
pub record IsInOrder (key : Entry → List ℕ) (entries sorted : List Entry) : Type 0 where
  pub ascends : Ascends key sorted
  pub ties_kept : (wanted : List ℕ) → filter (λ x. bytes_eq (key x) wanted) sorted ≡ filter (λ x. bytes_eq (key x) wanted) entries

-- ---- commands

-- after the function of a command: if the stack isn't empty, that is an error, its literals are logged, and it is emptied
abbrev pub with_empty_stack : List ℕ → State → State
with_empty_stack command s =
    if length s.literals == 0 then record s { executed = command }
    else record (shows s.literals (error (codes "The literal stack isn't empty") (record s { executed = command }))) { literals = [] }

-- executes the function of a command, with this entry as the current one, or with none. That takes a step, as the function does where it stands in a body
abbrev pub execute_once : Meaning → List ℕ → Function → Option Entry → ℕ → State → Outcome
execute_once means command f entry left s =
    then_do (means.token (Run f) 0 0 left (record s { entry = entry })) (λ left t. Done (with_empty_stack command t) left)

-- executes the function of a command for one entry after another
abbrev pub execute_for_each : Meaning → List ℕ → Function → List Entry → ℕ → State → Outcome
execute_for_each means command f [] left s = Done s left
execute_for_each means command f (entry ∷ entries) left s = then_do (execute_once means command f (Some entry) left s) (execute_for_each means command f entries)

-- what a command does, where the list of entries is `list`: ITERATE goes along it from first to last, REVERSE from last to first. READ logs what the databases
-- gave, and a limit that their reading met ends the run there. READ and SORT take no step
abbrev pub command_does : Meaning → Library → List Entry → Command → ℕ → State → Outcome
command_does means library list (Says line) left s = Done (record s { log = s.log ++ line ∷ [] }) left
command_does means library list Read left s =
    let read = record s { log = s.log ++ library.log } in
    option_map_or (λ (limit : Limit). Limited limit read left) library.limit (Done read left)
command_does means library list (Execute f) left s = execute_once means (codes "EXECUTE") f None left s
command_does means library list (Iterate f) left s = execute_for_each means (codes "ITERATE") f list left s
command_does means library list (Reverse f) left s = execute_for_each means (codes "REVERSE") f (reverse list) left s
command_does means library list Sort left s = Done s left

-- the list after a command: READ makes all entries known, in the order of the library, and SORT puts them into the order of their keys
abbrev pub IsListAfter : Library → Command → List Entry → State → List Entry → Type 0
IsListAfter library Read list s next = next ≡ library.entries
IsListAfter library Sort list s next = IsInOrder (sort_key s) list next
IsListAfter library _ list s next = next ≡ list

-- after the first outcome the next follows as `Next` says, if the first is done; else it is the last
abbrev pub GoesOn : Outcome → (ℕ → State → Outcome → Type 0) → Outcome → Type 0
GoesOn (Done s left) Next outcome = Next left s outcome
GoesOn (Stopped s) Next outcome = outcome ≡ Stopped s
GoesOn (Limited limit s left) Next outcome = outcome ≡ Limited limit s left

-- `outcome` is what commands come to, one after another, from a state on
abbrev pub CommandsCome : Meaning → Library → List Command → List Entry → ℕ → State → Outcome → Type 0
CommandsCome means library [] list left s outcome = outcome ≡ Done s left
CommandsCome means library (command ∷ commands) list left s outcome =
    (next : List Entry) × IsListAfter library command list s next
    × GoesOn (command_does means library list command left s) (CommandsCome means library commands next) outcome
