-- What is known of global variables and of entries between commands, and what is found of each command.
use Rattle.std.specs.Prelude.{◌≡◌, ℕ, ◌+◌, ◌≤◌, List, [], ◌∷◌, ◌++◌, length, Bool, true, false, Option, None, Some, slice_index_or}
use Rattle.btx_bst.specs.language.Items.{Item}
use Rattle.btx_bst.specs.language.Items as item
use Rattle.btx_bst.specs.language.Style.{Style}
use Rattle.btx_bst.specs.declared.callee.Callee.{Callee}
use Rattle.btx_bst.specs.declared.token.Token.TheVariants as token
use Rattle.btx_step.specs.language.Jobs.{Job}
use Rattle.btx_step.specs.language.Stores.{Store}
use Rattle.btx_machine.specs.language.States.{State, Outcome, Done, Stopped, Limit}
use Rattle.btx_check.specs.declared.work.TheConstants.{MOST_LOOPS}
use Rattle.btx_check.specs.Promise.{IsSpared, StyleIsClean}
use Rattle.btx_check.specs.States.{Abstract, In, Among}
use Rattle.btx_check.specs.Inclusion.{Sub, Within}
use Rattle.btx_check.specs.Running.{Sound, RunsFrom, Starts, Each, IsEmpty}

-- only global variables are known: nothing is on the stack, and no name of entries has a number
pub record IsGlobal (a : Abstract) : Type 0 where
  pub stack : a.stack ≡ []
  pub entry_integers : (i : ℕ) → slice_index_or a.entry_integers i None ≡ None
  pub entry_strings : (i : ℕ) → slice_index_or a.entry_strings i None ≡ None
  pub fields : (i : ℕ) → slice_index_or a.fields i None ≡ None

-- only names of entries are known: nothing is on the stack, and no global variable has a number
pub record IsLocal (a : Abstract) : Type 0 where
  pub stack : a.stack ≡ []
  pub global_integers : (i : ℕ) → slice_index_or a.global_integers i None ≡ None
  pub global_strings : (i : ℕ) → slice_index_or a.global_strings i None ≡ None

-- the same description where an entry is current, or where none is
abbrev pub where_entry : Bool → Abstract → Abstract
where_entry entry a = record a { entry = entry }

-- what is known between commands: of the global variables, and descriptions of which one stands for each entry of the list
pub record Facts : Type 0 where
  pub globals : Abstract
  pub entries : List Abstract

-- ---- between commands

-- between commands, `a` stands for the store: as where no entry is current
abbrev pub Stays : Job → ℕ → Abstract → Store → Type 0
Stays job left a s = In job left (where_entry false a) (record s { current = None })

-- between commands: nothing is on the stack, and `a` stands for the store
abbrev pub Clear : Job → Abstract → ℕ → State → Type 0
Clear job a left s = (s.store.literals ≡ []) × Stays job left a s.store

-- one of the descriptions stands for an entry: as where it is current, and nothing is on the stack
abbrev pub Describe : Job → ℕ → List Abstract → Store → ℕ → Type 0
Describe job left entries s entry = Among job left entries (record s { literals = []; current = Some entry })

-- how a command ends: where it is done, this holds of the steps that are left and of the state
abbrev pub Ended : Job → ℕ → (ℕ → State → Type 0) → Outcome → Type 0
Ended job most Q (Done s left) = Sound job most s × Q left s
Ended job most Q (Stopped s) = Sound job most s
Ended job most Q (Limit kind s left) = Sound job most s × IsSpared kind

-- ---- what is known where a function begins for an entry

-- each store that `a` and one of `entries` stand for is one that one of `starts` stands for
pub record Joint (a : Abstract) (entries starts : List Abstract) : Type 0 where
  pub joint : (job : Job) (left : ℕ) (s : Store) → In job left a s → Among job left entries s → Among job left starts s

-- `number` is `i`, and the greater number is `i + n`
pub record IsGreater (n j : ℕ) (number : Option ℕ) : Type 0 where
  pub i : ℕ
  pub is : number ≡ Some i
  pub sum : j ≡ i + n

-- a number that is greater by `n`, or none
abbrev pub IsShifted : ℕ → Option ℕ → Option ℕ → Type 0
IsShifted n number None = Unit {0}
IsShifted n number (Some j) = IsGreater n j number

-- the same for each name of a kind
pub record Shifted (n : ℕ) (xs ys : List (Option ℕ)) : Type 0 where
  pub each : (f : ℕ) → IsShifted n (slice_index_or xs f None) (slice_index_or ys f None)

-- `b` says of an entry, which is current, what `entry` does, and of all else what `a` does. The numbers of `entry` come after those of `a`
pub record Combines (a entry b : Abstract) : Type 0 where
  pub stack : b.stack ≡ a.stack
  pub values : b.values ≡ a.values ++ entry.values
  pub global_integers : b.global_integers ≡ a.global_integers
  pub global_strings : b.global_strings ≡ a.global_strings
  pub entry_integers : Shifted (length a.values) entry.entry_integers b.entry_integers
  pub entry_strings : Shifted (length a.values) entry.entry_strings b.entry_strings
  pub fields : Shifted (length a.values) entry.fields b.fields
  pub current : b.entry ≡ true

-- ---- commands

-- a function runs from each of `starts`, executed for a command, and leaves nothing on the stack
pub record Visited (style : Style) (allowed : List ℕ) (f : Callee) (deepest : ℕ) (starts ends : List Abstract) : Type 0 where
  pub runs : RunsFrom style allowed (token.Run f) starts deepest MOST_LOOPS ends
  pub empty : Each IsEmpty ends

-- what is found of EXECUTE: its function runs from what is known before it, leaves nothing on the stack, and leads to what is known after it
pub record Found (style : Style) (allowed : List ℕ) (f : Callee) (deepest : ℕ) (before after : Abstract) : Type 0 where
  pub before_is : IsGlobal before
  pub after_is : IsGlobal after
  pub few_bodies : deepest ≤ 4096
  pub ends : List Abstract
  pub visited : Visited style allowed f deepest (where_entry false before ∷ []) ends
  pub kept : Sub ends (where_entry false after ∷ [])

-- no more is known of global variables after visits than before them; each end of a visit says so, and what is said of entries
pub record Closes (before after : Abstract) (ends entries : List Abstract) : Type 0 where
  pub weaker : Within (where_entry false before) (where_entry false after)
  pub kept : Sub ends (where_entry true after ∷ [])
  pub into : Sub ends entries

-- what is found of a command for each entry: its function runs from what is known of the global variables, before its visits and after each, and of
-- an entry before its visit; it leaves nothing on the stack, and leads to what is known of the global variables and, after its visit, of the entry
pub record FoundForEach (style : Style) (allowed : List ℕ) (f : Callee) (deepest : ℕ) (before after : Facts) : Type 0 where
  pub global : IsGlobal after.globals
  pub few_bodies : deepest ≤ 4096
  pub starts : List Abstract
  pub joint : Joint (where_entry true after.globals) before.entries starts
  pub ends : List Abstract
  pub visited : Visited style allowed f deepest starts ends
  pub closes : Closes before.globals after.globals ends after.entries
  pub local : Each IsLocal after.entries

-- what is found of EXECUTE: of entries the same is known as before
pub record FoundOnce (style : Style) (allowed : List ℕ) (f : Callee) (deepest : ℕ) (before after : Facts) : Type 0 where
  pub found : Found style allowed f deepest before.globals after.globals
  pub entries : after.entries ≡ before.entries

-- of the entries nothing is known, and of the global variables this is
pub record Forgotten (globals : Abstract) (after : Facts) : Type 0 where
  pub globals_are : after.globals ≡ globals
  pub unknown : Abstract
  pub starts : Starts unknown
  pub current : unknown.entry ≡ true
  pub entries : after.entries ≡ unknown ∷ []

-- what is found of a command or a message
abbrev pub ItemFound : Style → List ℕ → ℕ → Item → Facts → Facts → Type 0
ItemFound style allowed deepest (item.Execute f) before after = FoundOnce style allowed f deepest before after
ItemFound style allowed deepest (item.Iterate f) before after = FoundForEach style allowed f deepest before after
ItemFound style allowed deepest (item.Reverse f) before after = FoundForEach style allowed f deepest before after
ItemFound style allowed deepest item.Read before after = Forgotten before.globals after
ItemFound style allowed deepest _ before after = before ≡ after

-- what is found of commands, one after the other
abbrev pub AllFound : Style → List ℕ → ℕ → Facts → List Item → Facts → Type 0
AllFound style allowed deepest before [] after = before ≡ after
AllFound style allowed deepest before (x ∷ xs) after =
    (between : Facts) × (ItemFound style allowed deepest x before between × AllFound style allowed deepest between xs after)

-- .. where nothing is known before the first
pub record Begins (style : Style) (allowed : List ℕ) (deepest : ℕ) (items : List Item) (after : Facts) : Type 0 where
  pub globals : Abstract
  pub starts : Starts globals
  pub first : Facts
  pub forgotten : Forgotten globals first
  pub found : AllFound style allowed deepest first items after

-- THE LAW: a style of whose commands this was found is clean
abbrev pub FoundIsClean : Type 0
FoundIsClean = (style : Style) (allowed : List ℕ) (deepest : ℕ) (after : Facts) → Begins style allowed deepest style.items after
    → StyleIsClean style allowed deepest
