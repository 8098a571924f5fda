-- A style.
use Rattle.std.specs.Prelude.{ℕ, nat_lt, Bool, List, Option, None, Some, if◌then◌else◌}
use Rattle.btx_bst.specs.declared.token.Token.{Token}
use Rattle.btx_bst.specs.declared.callee.Callee.{Callee}
use Rattle.btx_bst.specs.declared.callee.Callee.TheVariants.{User, Field}
use Rattle.btx_bst.specs.language.Items.{Item}
use Rattle.btx_bst.specs.language.Names.{Names, named_lower}

-- a style that was read: its commands and messages in order, and the names, macros, functions and strings that they use
pub record Style : Type 0 where
  -- the name of the file
  pub file : List ℕ
  -- the commands and messages, in order
  pub items : List Item
  -- the names of functions, fields and variables
  pub names : Names
  -- the macros, in order: names in lower case, each with its text
  pub macros : List (List ℕ × List ℕ)
  -- the bodies of the functions, by their numbers: the tokens of each, in order
  pub bodies : List (List Token)
  -- the strings that stand in bodies, by their numbers
  pub texts : List (List ℕ)
  -- whether an ENTRY took effect
  pub has_entry : Bool
  -- if a READ took effect, how many functions stood before it
  pub before_read : Option ℕ

-- the number of a field, if what a name names is a field
abbrev pub as_field : Option Callee → Option ℕ
as_field None = None
as_field (Some (Field number)) = Some number
as_field (Some _) = None

-- the number of a field by its name in lower case
abbrev pub field_of : Style → List ℕ → Option ℕ
field_of style name = as_field (named_lower style.names name)

-- the number of a function that may be an entry's type: a function of the style that stands before READ. Before READ stand the first `count`
-- functions, so its number is below `count`. For anything else, none
abbrev pub as_type : Option ℕ → Option Callee → Option ℕ
as_type None callee = None
as_type (Some count) None = None
as_type (Some count) (Some (User number)) = if nat_lt number count then Some number else None
as_type (Some count) (Some _) = None

-- the function of an entry's type, given in lower case: a function of the style that stands before READ (btxhak, section 5.3)
abbrev pub type_of : Style → List ℕ → Option ℕ
type_of style name = as_type style.before_read (named_lower style.names name)
