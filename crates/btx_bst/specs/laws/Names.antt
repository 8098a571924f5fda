-- The names that every style begins with.
use Rattle.std.specs.Prelude.{[], ℕ, List, Option}
use Rattle.btx_bst.specs.language.Names.{Names}
use Rattle.std.specs.Map.{lookup}
use Rattle.std.specs.Str.{bytes_eq}

-- the text of the macro of a name, which is given in lower case, as macros are kept; nothing is converted here
abbrev pub macro_lower : List (List ℕ × List ℕ) → List ℕ → Option (List ℕ)
macro_lower macros name = lookup (bytes_eq name) macros

-- no function, field or variable has a name yet: only the built-in functions are known
abbrev pub no_names : Names
no_names = record { functions = []; fields = []; entry_integers = []; entry_strings = []; global_integers = []; global_strings = [] }
