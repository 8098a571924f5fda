-- The strings: the style's macros, and those that databases define. A name stands for its last value before the place, and for nothing
-- in its own definition. The case of names is ignored.
use Rattle.std.specs.Prelude.{ℕ, List, Option, None, if◌then◌else◌}
use Rattle.std.specs.Str.{bytes_eq}
use Rattle.std.specs.Map.{lookup}
use Rattle.indexmap.specs.IndexMap.{insert_entry}
use Rattle.btx_text.specs.language.Keys.{folded}
use Rattle.btx_aux.specs.language.Names.{is_same_key}

-- the value of the string `name`, whose case is ignored; none if it isn't defined
abbrev pub string_value : List (List ℕ × List ℕ) → List ℕ → Option (List ℕ)
string_value strings name = lookup (bytes_eq (folded name)) strings

-- the value of a name inside the `@string` that defines `own`: for `own` itself none, even if it had one before
abbrev pub other_value : List (List ℕ × List ℕ) → List ℕ → List ℕ → Option (List ℕ)
other_value strings own name = if is_same_key own name then None else string_value strings name

-- the strings after a definition: an earlier value of the name is replaced
abbrev pub defined : List (List ℕ × List ℕ) → List ℕ → List ℕ → List (List ℕ × List ℕ)
defined strings name value = insert_entry bytes_eq strings (folded name) value
