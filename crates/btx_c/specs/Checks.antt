-- What is said of a style that is called clean, and of one that is said to end.
use Rattle.std.specs.Prelude.{◌≡◌, ℕ, List, [], ◌∷◌, ◌++◌, length}
use Rattle.std.specs.List.{flat_map}
use Rattle.btx_bst.specs.declared.callee.Callee.TheVariants.{User}
use Rattle.btx_bst.specs.language.Names.{Names, name_of}
use Rattle.btx_bst.specs.language.StyleText.{style_of}
use Rattle.btx_check.specs.Promise.{StyleIsClean}
use Rattle.btx_ends.specs.Ends.{StyleEnds}
use Rattle.btx_c.specs.Outcomes.{filled}

-- the name of a function of a style, by its number, with byte 10
abbrev pub type_name : Names → ℕ → List ℕ
type_name names number = name_of names (User number) ++ 10 ∷ []

-- the names of functions of a style, by their numbers, each with byte 10
abbrev pub type_names : Names → List ℕ → List ℕ
type_names names numbers = flat_map (type_name names) numbers

-- the style whose file has the name `file` and the bytes `text` is clean, for entries of the types that are named in `types` and with no more than `bodies`
-- bodies open at once
pub record TextIsClean (file text : List ℕ) (bodies : ℕ) (types : List ℕ) : Type 0 where
  pub allowed : List ℕ
  pub clean : StyleIsClean (style_of file text) allowed bodies
  pub types_are : types ≡ type_names (style_of file text).names allowed

-- the same, where the names were put into memory, and this is their length
pub record SaidClean (file text : List ℕ) (bodies types_len : ℕ) (memory : List ℕ × List ℕ) : Type 0 where
  pub types : List ℕ
  pub clean : TextIsClean file text bodies types
  pub len_is : types_len ≡ length types
  pub memory_is : memory.1 ≡ filled memory.0 types

-- each run ends of the style whose file has the name `file` and the bytes `text`, for entries of the types that are named in `types`, where global string variables
-- keep at most `kept` bytes: within `once` steps, and `each` for each entry
pub record TextEnds (file text : List ℕ) (kept once each : ℕ) (types : List ℕ) : Type 0 where
  pub allowed : List ℕ
  pub ends : StyleEnds (style_of file text) allowed kept once each
  pub types_are : types ≡ type_names (style_of file text).names allowed

-- the same, where the names were put into memory, and this is their length; the bound is the pair of `once` and `each`
pub record SaidEnding (file text : List ℕ) (kept : ℕ) (bound : ℕ × ℕ) (types_len : ℕ) (memory : List ℕ × List ℕ) : Type 0 where
  pub types : List ℕ
  pub ends : TextEnds file text kept bound.0 bound.1 types
  pub len_is : types_len ≡ length types
  pub memory_is : memory.1 ≡ filled memory.0 types
