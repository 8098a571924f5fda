-- No macro has two meanings.
use Rattle.std.specs.Prelude.{◌≡◌, ℕ, List, Some, slice_get}
use Rattle.btx_bst.specs.language.StyleText.{style_of}
use Rattle.btx_bst.specs.laws.Names.{macro_lower}

-- the name of each macro of a style stands for its text
abbrev pub MacroTextsLaw : Type 0
MacroTextsLaw = (file text : List ℕ) (place : ℕ) (name meaning : List ℕ) → slice_get (style_of file text).macros place ≡ Some (name, meaning)
    → macro_lower (style_of file text).macros name ≡ Some meaning

-- no two macros of a style have one name
abbrev pub OneMacroLaw : Type 0
OneMacroLaw = (file text : List ℕ) (j k : ℕ) (name first second : List ℕ) → slice_get (style_of file text).macros j ≡ Some (name, first)
    → slice_get (style_of file text).macros k ≡ Some (name, second) → j ≡ k
