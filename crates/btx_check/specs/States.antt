-- Descriptions of states, and the stores that they stand for. Literals have numbers: two places of one number hold the same literal.
use Rattle.std.specs.Prelude.{◌≡◌, ℕ, zero, suc, ◌≤◌, ℤ, pos, List, [], ◌∷◌, ◌++◌, length, Option, None, Some, Bool, slice_index_or, slice_set, slice_get}
use Rattle.std.specs.Prelude.{unwrap_or, ◌⊎◌}
use Rattle.std.specs.Option.{is_some, option_map_or}
use Rattle.btx_bst.specs.declared.callee.Callee.{Callee}
use Rattle.btx_bst.specs.declared.callee.Callee.TheVariants as callee
use Rattle.btx_stack.specs.declared.literal.Literal.{Literal}
use Rattle.btx_stack.specs.declared.literal.Literal.TheVariants.{Integer, Text, Missing}
use Rattle.btx_bib.specs.language.Library.{entry_value}
use Rattle.btx_step.specs.language.Jobs.{Job}
use Rattle.btx_step.specs.language.Stores.{Store, EntryVariables}
use Rattle.btx_step.specs.language.Entries.{entry_of}
use Rattle.btx_step.specs.language.Variables.{integer_of, string_of}
use Rattle.btx_check.specs.declared.description.Mask.{Mask}
use Rattle.btx_check.specs.declared.description.Value.{Value}
use Rattle.btx_check.specs.declared.description.Value.TheVariants as value
use Rattle.btx_check.specs.Promise.{most_steps}
use Rattle.btx_check.specs.Descriptions.{Is, any_field, cut}

-- a description of states: the numbers of the literals on the stack, top first; what is known of each number; the numbers of the values of variables and
-- of the current entry's fields, where they have one; and whether an entry is current
pub record Abstract : Type 0 where
  pub stack : List ℕ
  pub values : List Value
  pub global_integers : List (Option ℕ)
  pub global_strings : List (Option ℕ)
  pub entry_integers : List (Option ℕ)
  pub entry_strings : List (Option ℕ)
  pub fields : List (Option ℕ)
  pub entry : Bool

-- the number of a name's value, if it has one
abbrev pub slot : Abstract → Callee → Option ℕ
slot a (callee.GlobalInteger i) = slice_index_or a.global_integers i None
slot a (callee.GlobalString i) = slice_index_or a.global_strings i None
slot a (callee.EntryInteger i) = slice_index_or a.entry_integers i None
slot a (callee.EntryString i) = slice_index_or a.entry_strings i None
slot a (callee.Field i) = slice_index_or a.fields i None
slot a _ = None

-- what the names of a style stand for in a store: the current entry, and the variables
pub record Values : Type 0 where
  pub current : Option ℕ
  pub integers : List ℤ
  pub strings : List (List ℕ)
  pub entries : List EntryVariables

-- the part of a store that names stand for
abbrev pub values_in : Store → Values
values_in s = record { current = s.current; integers = s.integers; strings = s.strings; entries = s.entries }

-- the value of a name. The names of entries have none where no entry is current
abbrev pub named : Job → Values → Callee → Option Literal
named job n (callee.GlobalInteger i) = Some (Integer (unwrap_or (slice_get n.integers i) (pos 0)))
named job n (callee.GlobalString i) = Some (Text (unwrap_or (slice_get n.strings i) []))
named job n (callee.EntryInteger i) = option_map_or (λ (entry : ℕ). Some (Integer (integer_of n.entries entry i))) n.current None
named job n (callee.EntryString i) = option_map_or (λ (entry : ℕ). Some (Text (string_of n.entries entry i))) n.current None
named job n (callee.Field i) = option_map_or (λ (entry : ℕ). Some (option_map_or Text (entry_value i (entry_of job entry)) Missing)) n.current None
named job n _ = None

-- the literal of a number
abbrev pub at : List Literal → ℕ → Option Literal
at [] i = None
at (x ∷ xs) zero = Some x
at (x ∷ xs) (suc i) = at xs i

-- each literal is as its number's description says, with this many steps left
abbrev pub Fits : ℕ → List Value → List Literal → Type 0
Fits left [] [] = Unit {0}
Fits left (d ∷ ds) (x ∷ xs) = Is left d x × Fits left ds xs
Fits left _ _ = ⊥

-- the literals on the stack are those of its numbers
abbrev pub Stack : List Literal → List ℕ → List Literal → Type 0
Stack v [] [] = Unit {0}
Stack v (i ∷ is) (x ∷ xs) = (at v i ≡ Some x) × Stack v is xs
Stack v _ _ = ⊥

-- a name's value is the literal of its number, if it has one
abbrev pub Stands : List Literal → Option ℕ → Literal → Type 0
Stands v None x = Unit {0}
Stands v (Some i) x = at v i ≡ Some x

-- a description stands for a store of these values and literals, with this many steps left and `v` as the literals of the numbers
pub record Holds (job : Job) (left : ℕ) (a : Abstract) (known : Values) (literals : List Literal) (v : List Literal) : Type 0 where
  pub steps : left ≤ most_steps
  pub values : Fits left a.values v
  pub stack : Stack v a.stack literals
  pub names : (f : Callee) (x : Literal) → named job known f ≡ Some x → Stands v (slot a f) x
  pub entry : is_some known.current ≡ a.entry

-- a description stands for a store: with some literals for its numbers
abbrev pub In : Job → ℕ → Abstract → Store → Type 0
In job left a s = (v : List Literal) × Holds job left a (values_in s) s.literals v

-- one of the descriptions stands for a store
abbrev pub Among : Job → ℕ → List Abstract → Store → Type 0
Among job left [] s = ⊥
Among job left (a ∷ states) s = In job left a s ⊎ Among job left states s

-- ---- what becomes of a description

-- a number is pushed
abbrev pub pushing : ℕ → Abstract → Abstract
pushing i a = record a { stack = i ∷ a.stack }

-- a literal of which this is known is pushed, under a new number
abbrev pub pushing_new : Value → Abstract → Abstract
pushing_new d a = record a { stack = length a.values ∷ a.stack; values = a.values ++ d ∷ [] }

-- this is known of a number
abbrev pub knowing : ℕ → Value → Abstract → Abstract
knowing i d a = record a { values = slice_set a.values i d }

-- other numbers on the stack
abbrev pub with_stack : List ℕ → Abstract → Abstract
with_stack is a = record a { stack = is }

-- a field of which nothing was known gets a number, which is pushed
abbrev pub recalling_field : ℕ → Abstract → Abstract
recalling_field f a = record (pushing_new (value.Text any_field) a) { fields = slice_set a.fields f (Some (length a.values)) }

-- a name's value has another number
abbrev pub putting : Callee → ℕ → Abstract → Abstract
putting (callee.GlobalInteger i) n a = record a { global_integers = slice_set a.global_integers i (Some n) }
putting (callee.GlobalString i) n a = record a { global_strings = slice_set a.global_strings i (Some n) }
putting (callee.EntryInteger i) n a = record a { entry_integers = slice_set a.entry_integers i (Some n) }
putting (callee.EntryString i) n a = record a { entry_strings = slice_set a.entry_strings i (Some n) }
putting (callee.Field i) n a = record a { fields = slice_set a.fields i (Some n) }
putting _ n a = a

-- what a variable keeps of a string has a new number
abbrev pub keeping : Mask → Abstract → Abstract
keeping m a = record a { values = a.values ++ value.Text (cut m) ∷ [] }

-- a string variable keeps the first bytes of a string, which have a number of their own
abbrev pub putting_text : Callee → Mask → Abstract → Abstract
putting_text f m a = putting f (length a.values) (keeping m a)
