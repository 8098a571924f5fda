-- The names that are known, each with what it names. Case is ignored (btxhak, section 5.1), so names are kept in lower case. Functions,
-- fields and variables share one set of names; those of each kind are numbered from 0, in the order in which they are declared.
use Rattle.std.specs.Prelude.{ℕ, ◌-◌, Bool, false, List, [], ◌∷◌, ◌++◌, length, Option, None, Some, option_map, slice_index_or, position, replicate, codes}
use Rattle.std.specs.Prelude.{unwrap_or}
use Rattle.std.specs.Option.{option_or, option_map_or}
use Rattle.std.specs.Str.{bytes_eq}
use Rattle.btx_text.specs.language.Keys.{folded}
use Rattle.btx_bst.specs.declared.callee.Callee.{Callee}
use Rattle.btx_bst.specs.declared.callee.Callee.TheVariants as callee
use Rattle.btx_bst.specs.declared.callee.Callee.TheVariants.{User, Field, EntryInteger, EntryString, GlobalInteger, GlobalString}
use Rattle.btx_bst.specs.declared.callee.Kind.{Kind}
use Rattle.btx_bst.specs.declared.callee.Kind.TheVariants as kind
use Rattle.btx_bst.specs.language.BuiltIns.{built_in_of, built_in_name}

-- the names of the style's functions, of which some are nameless, of its fields and of its variables. The number of each thing is the place of its
-- name in its list
pub record Names : Type 0 where
  pub functions : List (Option (List ℕ))
  pub fields : List (List ℕ)
  pub entry_integers : List (List ℕ)
  pub entry_strings : List (List ℕ)
  pub global_integers : List (List ℕ)
  pub global_strings : List (List ℕ)

-- what a name names, if it names anything: a built-in function, a function of the style, a field, or a variable. The name is given in lower case, as
-- names are kept; nothing is converted here
unfoldable pub named_lower : Names → List ℕ → Option Callee
named_lower names name =
    let is_called : Option (List ℕ) → Bool = λ other. option_map_or (bytes_eq name) other false in
    option_or (option_map callee.BuiltIn (built_in_of name))
    (option_or (option_map User (position is_called names.functions))
    (option_or (option_map Field (position (bytes_eq name) names.fields))
    (option_or (option_map EntryInteger (position (bytes_eq name) names.entry_integers))
    (option_or (option_map EntryString (position (bytes_eq name) names.entry_strings))
    (option_or (option_map GlobalInteger (position (bytes_eq name) names.global_integers))
    (option_map GlobalString (position (bytes_eq name) names.global_strings)))))))

-- what a name names, in any case of letters, if it names anything
abbrev pub named : Names → List ℕ → Option Callee
named names name = named_lower names (folded name)

-- the name of a built-in function, a function, a field or a variable, as messages and `stack$` show it; a nameless function is shown as `{}`
abbrev pub name_of : Names → Callee → List ℕ
name_of names (callee.BuiltIn built_in) = built_in_name built_in
name_of names (User number) = unwrap_or (slice_index_or names.functions number None) (codes "{}")
name_of names (Field number) = slice_index_or names.fields number []
name_of names (EntryInteger number) = slice_index_or names.entry_integers number []
name_of names (EntryString number) = slice_index_or names.entry_strings number []
name_of names (GlobalInteger number) = slice_index_or names.global_integers number []
name_of names (GlobalString number) = slice_index_or names.global_strings number []

-- the names with a further one, `name` in lower case, for a field or a variable of the kind that is given
abbrev pub with_name : Kind → List ℕ → Names → Names
with_name kind.Field name names = record names { fields = names.fields ++ name ∷ [] }
with_name kind.EntryInteger name names = record names { entry_integers = names.entry_integers ++ name ∷ [] }
with_name kind.EntryString name names = record names { entry_strings = names.entry_strings ++ name ∷ [] }
with_name kind.GlobalInteger name names = record names { global_integers = names.global_integers ++ name ∷ [] }
with_name kind.GlobalString name names = record names { global_strings = names.global_strings ++ name ∷ [] }

-- the names with a function called `name`, in lower case, which has this number; the numbers just below it belong to the nameless functions of its
-- body
abbrev pub with_function : ℕ → List ℕ → Names → Names
with_function number name names =
    record names { functions = (names.functions ++ replicate (number - length names.functions) None) ++ Some name ∷ [] }
