-- The tables of names, a kind each.
use Rattle.std.specs.Prelude.{ℕ, List, Option, position, ◌-◌, ◌++◌, length, None, replicate, Bool, false}
use Rattle.btx_bst.specs.declared.callee.Callee.{Callee}
use Rattle.btx_bst.specs.declared.callee.Callee.TheVariants.{Field, EntryInteger, EntryString, GlobalInteger, GlobalString}
use Rattle.btx_bst.specs.declared.callee.Kind.{Kind}
use Rattle.btx_bst.specs.declared.callee.Kind.TheVariants as kind
use Rattle.btx_bst.specs.language.Names.{Names}
use Rattle.std.specs.Str.{bytes_eq}
use Rattle.std.specs.Option.{option_map_or}

-- the macros: names in lower case, each with its text
abbrev pub Macros : Type 0
Macros = List (List ℕ × List ℕ)

-- a function, given its name, if it has one, is called `name`
abbrev pub has_name : List ℕ → Option (List ℕ) → Bool
has_name name other = option_map_or (bytes_eq name) other false

-- the names of a kind
abbrev pub names_of_kind : Kind → Names → List (List ℕ)
names_of_kind kind.Field names = names.fields
names_of_kind kind.EntryInteger names = names.entry_integers
names_of_kind kind.EntryString names = names.entry_strings
names_of_kind kind.GlobalInteger names = names.global_integers
names_of_kind kind.GlobalString names = names.global_strings

-- the field or variable of a kind and a number
abbrev pub callee_of : Kind → ℕ → Callee
callee_of kind.Field number = Field number
callee_of kind.EntryInteger number = EntryInteger number
callee_of kind.EntryString number = EntryString number
callee_of kind.GlobalInteger number = GlobalInteger number
callee_of kind.GlobalString number = GlobalString number

-- the place of a name in a list of names, counted from 0, if it is there
abbrev pub number_in : List (List ℕ) → List ℕ → Option ℕ
number_in names name = position (bytes_eq name) names

-- the list of functions, filled up with nameless ones to `count` functions
abbrev pub padded : ℕ → List (Option (List ℕ)) → List (Option (List ℕ))
padded count functions = functions ++ replicate (count - length functions) None
