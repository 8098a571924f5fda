-- What the functions of a style log. The texts are this project's own, but for `Warning--`, which is the original's (btxhak, section 5.3, at `warning$`).
use Rattle.btx_bst.specs.language.BuiltIns.{built_in_name}
use Rattle.btx_core.specs.language.Styles.{Built, Declared, Defined, Entry, Function, Integer, Literal, Missing, Quoted, State, Text}
use Rattle.btx_text.specs.declared.log_line.LineKind.{LineKind}
use Rattle.btx_text.specs.language.LogLines.{message}
use Rattle.std.specs.Fmt.{signed_decimal}
use Rattle.std.specs.Option.{option_map_or}
use Rattle.std.specs.Prelude.{List, [], codes, decimal, fold, if◌then◌else◌, length, nat_lt, ℕ, ℤ, ◌++◌, ◌∷◌}
use Rattle.btx_text.specs.declared.log_line.LineKind.TheVariants as line

-- the name of a function, as messages show it
abbrev pub name_of : Function → List ℕ
name_of (Built f) = built_in_name f
name_of (Defined name body) = name
name_of (Declared kind name) = name

-- a literal, as messages, `top$` and `stack$` show it
abbrev pub shown : Literal → List ℕ
shown (Integer n) = signed_decimal n
shown (Text text) = codes "\"" ++ text ++ codes "\""
shown (Quoted f) = codes "'" ++ name_of f
shown Missing = codes "missing field"

-- a line is logged
abbrev pub logs : LineKind → List ℕ → State → State
logs kind text s = record s { log = s.log ++ message kind text ∷ [] }

-- the place of a message: what is executed, and the key of the current entry, if there is one
abbrev pub place : State → List ℕ
place s = codes " while executing " ++ s.executed ++ option_map_or (λ (entry : Entry). codes " for entry " ++ entry.key) s.entry []

-- an error is logged, with its place
abbrev pub error : List ℕ → State → State
error text s = logs line.Error (text ++ place s) s

-- errors are logged, one after another, each with its place
abbrev pub errors : List (List ℕ) → State → State
errors texts s = fold (λ (s : State) (text : List ℕ). error text s) s texts

-- literals are logged, one after another, each as it is shown
abbrev pub shows : List Literal → State → State
shows literals s = fold (λ (s : State) (x : Literal). logs line.Plain (shown x) s) s literals

-- an operand isn't there
abbrev pub empty_stack : List ℕ
empty_stack = codes "You can't pop an empty literal stack"

-- no entry is current
abbrev pub no_entry : List ℕ
no_entry = codes "You can't mess with entries here"

-- `int.to.chr$` of no ASCII code
abbrev pub not_ascii : ℤ → List ℕ
not_ascii n = signed_decimal n ++ codes " isn't an ASCII code"

-- a string was cut when it was assigned, which is a warning
abbrev pub cut_to : ℕ → List ℕ → State → State
cut_to most text s =
    if nat_lt most (length text) then
    logs line.Warning (codes "string of " ++ decimal (length text) ++ codes " bytes cut to " ++ decimal most ++ place s) s else s
