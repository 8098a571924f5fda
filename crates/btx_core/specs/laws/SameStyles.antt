-- Two ways to say one style: with numbers, as the reader of styles does (`Style` of btx_bst), where functions, strings, fields and variables have
-- numbers; and in names, where a function has its body in full (`Style` of `Styles`).
use Rattle.btx_bst.specs.declared.callee.Callee.{Callee}
use Rattle.btx_bst.specs.declared.callee.Callee.TheVariants as callee
use Rattle.btx_bst.specs.declared.callee.Kind.TheVariants as kind
use Rattle.btx_bst.specs.declared.token.Token.{Token}
use Rattle.btx_bst.specs.declared.token.Token.TheVariants as token
use Rattle.btx_bst.specs.language.Items as item
use Rattle.btx_bst.specs.language.Items.{Item}
use Rattle.btx_bst.specs.language.MessageTexts.{complaint_line}
use Rattle.btx_bst.specs.language.Names.{Names, name_of}
use Rattle.btx_bst.specs.language.Style.{field_of, type_of}
use Rattle.btx_bst.specs.language.Style.{Style as NumberedStyle}
use Rattle.btx_bst.specs.language.StyleText.{style_of}
use Rattle.btx_core.specs.language.StyleTexts.{IsStyle}
use Rattle.btx_core.specs.language.Styles.{Body, Built, Command, Declared, Defined, Empty, Execute, Function, Integer, Iterate, Push, Quoted, Read, Reverse}
use Rattle.btx_core.specs.language.Styles.{Run, Says, Sort, Style, Text, Then, StyleToken}
use Rattle.std.specs.Prelude.{List, None, Option, Some, [], is_some, option_map, slice_get, suc, ℕ, ◌++◌, ◌∷◌, ◌≡◌}

-- what the numbers of a style stand for: the names of its fields and variables, the strings of its bodies, and its functions, each with its body in full
pub record Numbers : Type 0 where
  pub names : Names
  pub texts : List (List ℕ)
  pub functions : List Function

-- the numbers of a style whose functions are these
abbrev pub numbers_of : NumberedStyle → List Function → Numbers
numbers_of style functions = record { names = style.names; texts = style.texts; functions = functions }

-- the function, the field or the variable that a number stands for, if there is one
abbrev pub stands_for : Numbers → Callee → Option Function
stands_for numbers (callee.BuiltIn f) = Some (Built f)
stands_for numbers (callee.User number) = slice_get numbers.functions number
stands_for numbers (callee.Field number) = option_map (Declared kind.Field) (slice_get numbers.names.fields number)
stands_for numbers (callee.EntryInteger number) = option_map (Declared kind.EntryInteger) (slice_get numbers.names.entry_integers number)
stands_for numbers (callee.EntryString number) = option_map (Declared kind.EntryString) (slice_get numbers.names.entry_strings number)
stands_for numbers (callee.GlobalInteger number) = option_map (Declared kind.GlobalInteger) (slice_get numbers.names.global_integers number)
stands_for numbers (callee.GlobalString number) = option_map (Declared kind.GlobalString) (slice_get numbers.names.global_strings number)

-- the word that a token of a body stands for
abbrev pub word_of : Numbers → Token → Option StyleToken
word_of numbers (token.Text number) = option_map (λ (text : List ℕ). Push (Text text)) (slice_get numbers.texts number)
word_of numbers (token.Integer n) = Some (Push (Integer n))
word_of numbers (token.Quote quoted) = option_map (λ (f : Function). Push (Quoted f)) (stands_for numbers quoted)
word_of numbers (token.Run run) = option_map Run (stands_for numbers run)

-- a body has the words that these tokens stand for, one after another
abbrev pub IsBodyOf : Numbers → List Token → Body → Type 0
IsBodyOf numbers [] body = body ≡ Empty
IsBodyOf numbers (token ∷ tokens) body =
    (word : StyleToken) × (more : Body) × (word_of numbers token ≡ Some word) × IsBodyOf numbers tokens more × (body ≡ Then word more)

-- the functions from a number on are those of these bodies: each has its name and its body
abbrev pub AreFunctionsOf : Numbers → ℕ → List (List Token) → List Function → Type 0
AreFunctionsOf numbers number [] functions = functions ≡ []
AreFunctionsOf numbers number (tokens ∷ bodies) functions =
    (body : Body) × (more : List Function) × IsBodyOf numbers tokens body × AreFunctionsOf numbers (suc number) bodies more
    × (functions ≡ Defined (name_of numbers.names (callee.User number)) body ∷ more)

-- what an item is among the commands that are executed: a message is a line of the log, and a declaration or a definition is nothing there
abbrev pub commands_of : Numbers → List ℕ → Item → Option (List Command)
commands_of numbers file (item.Message complaint line) = Some (Says (complaint_line complaint line file) ∷ [])
commands_of numbers file item.Entry = Some []
commands_of numbers file (item.Function number) = Some []
commands_of numbers file item.Read = Some (Read ∷ [])
commands_of numbers file (item.Execute f) = option_map (λ (f : Function). Execute f ∷ []) (stands_for numbers f)
commands_of numbers file (item.Iterate f) = option_map (λ (f : Function). Iterate f ∷ []) (stands_for numbers f)
commands_of numbers file (item.Reverse f) = option_map (λ (f : Function). Reverse f ∷ []) (stands_for numbers f)
commands_of numbers file item.Sort = Some (Sort ∷ [])
commands_of numbers file item.Integers = Some []
commands_of numbers file item.Strings = Some []
commands_of numbers file item.Macro = Some []

-- these are the commands of the items, one after another
abbrev pub AreCommandsOf : Numbers → List ℕ → List Item → List Command → Type 0
AreCommandsOf numbers file [] commands = commands ≡ []
AreCommandsOf numbers file (x ∷ items) commands =
    (first : List Command) × (more : List Command) × (commands_of numbers file x ≡ Some first) × AreCommandsOf numbers file items more
    × (commands ≡ first ++ more)

-- a name that a number has in one way names the same in the other, or nothing in both
abbrev pub IsMeant : Numbers → Option Callee → Option Function → Type 0
IsMeant numbers None meant = meant ≡ None
IsMeant numbers (Some number) meant = (f : Function) × (stands_for numbers number ≡ Some f) × (meant ≡ Some f)

-- the two say the same style: commands, macros, which names are fields, and which functions may be types of entries
pub record IsSameStyle (numbered : NumberedStyle) (style : Style) : Type 0 where
  pub functions : List Function
  pub defined : AreFunctionsOf (numbers_of numbered functions) 0 numbered.bodies functions
  pub commands : AreCommandsOf (numbers_of numbered functions) numbered.file numbered.items style.commands
  pub macros : style.macros ≡ numbered.macros
  pub fields : (name : List ℕ) → style.is_field name ≡ is_some (field_of numbered name)
  pub types : (name : List ℕ) → IsMeant (numbers_of numbered functions) (option_map callee.User (type_of numbered name)) (style.types name)

-- Each text is one style.
abbrev pub OneStyle : Type 0
OneStyle = (file text : List ℕ) → (style : Style) × IsStyle file text style × ((other : Style) → IsStyle file text other → other ≡ style)

-- The style of a text, in names, is the one that the reader makes of it, with numbers.
abbrev pub SameStyle : Type 0
SameStyle = (file text : List ℕ) (style : Style) → IsStyle file text style → IsSameStyle (style_of file text) style
