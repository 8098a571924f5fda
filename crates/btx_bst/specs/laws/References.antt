-- What bodies and commands of a style refer to.
use Rattle.std.specs.Prelude.{◌≡◌, ℕ, ◌<◌, List, [], length, Option, None, Some, slice_get, slice_index_or}
use Rattle.btx_bst.specs.declared.callee.Callee.{Callee}
use Rattle.btx_bst.specs.declared.callee.Callee.TheVariants.{User, Field, EntryInteger, EntryString, GlobalInteger, GlobalString}
use Rattle.btx_bst.specs.declared.callee.Callee.TheVariants as callee
use Rattle.btx_bst.specs.declared.token.Token.{Token}
use Rattle.btx_bst.specs.declared.token.Token.TheVariants.{Text, Quote, Run}
use Rattle.btx_bst.specs.declared.token.Token.TheVariants as token
use Rattle.btx_bst.specs.language.Items.{Item, Function, Execute, Iterate, Reverse}
use Rattle.btx_bst.specs.language.Names.{Names, named_lower}
use Rattle.btx_bst.specs.language.Style.{Style, type_of}
use Rattle.btx_bst.specs.language.StyleText.{style_of}

-- a built-in function, a function of the style whose number lies below a count, or a field or a variable that is declared
abbrev pub IsKnown : Names → ℕ → Callee → Type 0
IsKnown names functions (callee.BuiltIn built_in) = Unit {0}
IsKnown names functions (User number) = number < functions
IsKnown names functions (Field number) = number < length names.fields
IsKnown names functions (EntryInteger number) = number < length names.entry_integers
IsKnown names functions (EntryString number) = number < length names.entry_strings
IsKnown names functions (GlobalInteger number) = number < length names.global_integers
IsKnown names functions (GlobalString number) = number < length names.global_strings

-- a token is an integer, or refers to a string whose number lies below a count, or to what is known where this number of functions is defined
abbrev pub Refers : Names → ℕ → ℕ → Token → Type 0
Refers names texts functions (Text number) = number < texts
Refers names texts functions (token.Integer value) = Unit {0}
Refers names texts functions (Quote callee) = IsKnown names functions callee
Refers names texts functions (Run callee) = IsKnown names functions callee

-- a built-in function, or a function of the style whose number lies below a count
abbrev pub IsFunction : ℕ → Callee → Type 0
IsFunction functions (callee.BuiltIn built_in) = Unit {0}
IsFunction functions (User number) = number < functions
IsFunction functions _ = ⊥

-- a command defines or executes a function that is known where this number of functions is defined
abbrev pub IsKnownItem : ℕ → Item → Type 0
IsKnownItem functions (Function number) = number < functions
IsKnownItem functions (Execute callee) = IsFunction functions callee
IsKnownItem functions (Iterate callee) = IsFunction functions callee
IsKnownItem functions (Reverse callee) = IsFunction functions callee
IsKnownItem functions _ = Unit {0}

-- each token of the function of a number refers to strings, fields and variables of the style, and to functions of smaller numbers alone
abbrev pub BodiesRefer : Style → Type 0
BodiesRefer style = (number place : ℕ) (token : Token) → slice_get (slice_index_or style.bodies number []) place ≡ Some token
    → Refers style.names (length style.texts) number token

-- each command defines or executes a function of the style, or executes a built-in one
abbrev pub ItemsRefer : Style → Type 0
ItemsRefer style = (place : ℕ) (item : Item) → slice_get style.items place ≡ Some item → IsKnownItem (length style.bodies) item

-- each name names what is built in or what the style has
abbrev pub NamesRefer : Style → Type 0
NamesRefer style = (name : List ℕ) (callee : Callee) → named_lower style.names name ≡ Some callee → IsKnown style.names (length style.bodies) callee

-- the function of an entry's type is one of the style
abbrev pub TypesRefer : Style → Type 0
TypesRefer style = (name : List ℕ) (number : ℕ) → type_of style name ≡ Some number → number < length style.bodies

-- a style refers to nothing outside itself
pub record RefersWithin (style : Style) : Type 0 where
  pub bodies : BodiesRefer style
  pub commands : ItemsRefer style
  pub names : NamesRefer style
  pub types : TypesRefer style

-- Bodies refer to what is defined before. So a nameless function comes before the function round it, and a function never runs itself.
abbrev pub ReferencesLaw : Type 0
ReferencesLaw = (file text : List ℕ) → BodiesRefer (style_of file text)

-- What each command defines or executes is a function that is built in, or that the style has.
abbrev pub ItemsLaw : Type 0
ItemsLaw = (file text : List ℕ) → ItemsRefer (style_of file text)

-- what a command executes
abbrev pub function_executed : Item → Option Callee
function_executed (Execute callee) = Some callee
function_executed (Iterate callee) = Some callee
function_executed (Reverse callee) = Some callee
function_executed _ = None

-- A function of the style is executed only after the FUNCTION that defines it.
abbrev pub ExecutedLaw : Type 0
ExecutedLaw = (file text : List ℕ) (item : Item) (number k : ℕ) → slice_get (style_of file text).items k ≡ Some item
    → function_executed item ≡ Some (User number)
    → (j : ℕ) × (j < k) × (slice_get (style_of file text).items j ≡ Some (Function number))
