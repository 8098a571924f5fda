-- No name of a style has two meanings.
use Rattle.std.specs.Prelude.{◌≡◌, ℕ, ◌<◌, List, length, None, Some, slice_index_or}
use Rattle.btx_bst.specs.declared.callee.Callee.{Callee}
use Rattle.btx_bst.specs.declared.callee.Callee.TheVariants.{User, Field, EntryInteger, EntryString, GlobalInteger, GlobalString}
use Rattle.btx_bst.specs.declared.callee.Callee.TheVariants as callee
use Rattle.btx_bst.specs.language.Names.{Names, named_lower, name_of}
use Rattle.btx_bst.specs.language.StyleText.{style_of}

-- a built-in function, a function with a name, or a field or a variable that is declared
abbrev pub HasName : Names → Callee → Type 0
HasName names (callee.BuiltIn built_in) = Unit {0}
HasName names (User number) = (name : List ℕ) × (slice_index_or names.functions number None ≡ Some name)
HasName names (Field number) = number < length names.fields
HasName names (EntryInteger number) = number < length names.entry_integers
HasName names (EntryString number) = number < length names.entry_strings
HasName names (GlobalInteger number) = number < length names.global_integers
HasName names (GlobalString number) = number < length names.global_strings

-- the name of each function, field and variable of a style names it
abbrev pub MeaningsLaw : Type 0
MeaningsLaw = (file text : List ℕ) (callee : Callee) → HasName (style_of file text).names callee
    → named_lower (style_of file text).names (name_of (style_of file text).names callee) ≡ Some callee

-- no two functions, fields or variables of a style have one name
abbrev pub OneMeaningLaw : Type 0
OneMeaningLaw = (file text : List ℕ) (a b : Callee) → HasName (style_of file text).names a → HasName (style_of file text).names b
    → name_of (style_of file text).names a ≡ name_of (style_of file text).names b → a ≡ b
