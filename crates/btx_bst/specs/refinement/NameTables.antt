-- The table of names.
use Rattle.std.specs.Prelude.{◌≡◌, ℕ, List, ◌++◌, Option, None, map, replicate}
use Rattle.std.specs.Str.{bytes_eq}
use Rattle.std.specs.Map.{lookup}
use Rattle.indexmap.specs.IndexMap.{insert_entry}
use Rattle.std.specs.Borrow.{Bor}
use Rattle.std.specs.declared.vec.Vec.{Vec}
use Rattle.std.specs.declared.alloc.Global.{Global}
use Rattle.btx_bst.specs.declared.built_in.BuiltIn.{BuiltIn}
use Rattle.btx_bst.specs.declared.callee.Callee.{Callee}
use Rattle.btx_bst.specs.declared.callee.Callee.TheVariants as callee
use Rattle.btx_bst.specs.language.BuiltIns.{built_in_name}
use Rattle.btx_bst.specs.language.Names.{Names, named_lower}
use Rattle.btx_bst.specs.refinement.Names.{Macros}

-- the names of their parts
abbrev pub known_in : List (Option (List ℕ)) → List (List ℕ) → List (List ℕ) → List (List ℕ) → List (List ℕ) → List (List ℕ) → Names
known_in functions fields entry_integers entry_strings global_integers global_strings = record {
  functions = functions;
  fields = fields;
  entry_integers = entry_integers;
  entry_strings = entry_strings;
  global_integers = global_integers;
  global_strings = global_strings;
}

-- the entries of the table
abbrev pub Entries : Type 0
Entries = List (Vec ℕ Global × Callee)

-- what the table says of a name in lower case
abbrev pub found_in : Entries → List ℕ → Option Callee
found_in entries name = lookup (λ (key : Vec ℕ Global). bytes_eq name key.items) entries

-- the table says of each name what it names
abbrev pub IsTable : Entries → Names → Type 0
IsTable entries names = (name : List ℕ) → found_in entries name ≡ named_lower names name

-- entries as pairs
abbrev pub pairs_in : Entries → List (List ℕ × Callee)
pairs_in entries = map (λ (entry : Vec ℕ Global × Callee). (entry.0.items, entry.1)) entries

-- built-in functions, each with its word
abbrev pub words_in : List BuiltIn → List (List ℕ × Callee)
words_in bs = map (λ (b : BuiltIn). (built_in_name b, callee.BuiltIn b)) bs

-- a built-in function among pairs
abbrev pub with_built_in : List (List ℕ × Callee) → BuiltIn → List (List ℕ × Callee)
with_built_in pairs b = insert_entry bytes_eq pairs (built_in_name b) (callee.BuiltIn b)

-- macros, each with its text
abbrev pub macros_view : List (Vec ℕ Global × Bor (List ℕ)) → Macros
macros_view entries = map (λ (entry : Vec ℕ Global × Bor (List ℕ)). (entry.0.items, entry.1.now)) entries

-- functions, and then some nameless ones
abbrev pub IsPadded : List (Option (List ℕ)) → List (Option (List ℕ)) → Type 0
IsPadded functions padded = (count : ℕ) × (padded ≡ functions ++ replicate count None)

-- a macro's name and text
abbrev pub macro_pair : Bor (List ℕ) × Bor (List ℕ) → List ℕ × List ℕ
macro_pair pair = (pair.0.now, pair.1.now)
