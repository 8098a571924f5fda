-- What the functions of a style do (btxhak, section 5.3, and section 5.2 for fields and variables).
use Rattle.btx_bst.specs.declared.built_in.BuiltIn.{BuiltIn}
use Rattle.btx_bst.specs.declared.callee.Kind.{Kind}
use Rattle.btx_bst.specs.language.BuiltIns.{built_in_name}
use Rattle.btx_core.specs.language.Divisions.{Divisions}
use Rattle.btx_core.specs.language.Names.{formatted_name, name_errors}
use Rattle.btx_core.specs.language.Notes.{cut_to, empty_stack, error, errors, logs, name_of, no_entry, not_ascii, shown, shows}
use Rattle.btx_core.specs.language.Strings.{in_case, purified, text_length, text_prefix, width}
use Rattle.btx_core.specs.language.Styles.{Body, Built, Declared, Defined, Entry, Function, Integer, Job, Literal, Missing, Push, Quoted, Run, State, Text}
use Rattle.btx_core.specs.language.Styles.{StyleToken, set}
use Rattle.btx_step.specs.language.Arithmetic.{fits}
use Rattle.btx_strings.specs.declared.conversions.Conversion.{Conversion}
use Rattle.btx_strings.specs.language.Case.{conversion_of}
use Rattle.btx_strings.specs.language.Positions.{add_period_of, substring_of}
use Rattle.btx_text.specs.declared.limits.Limit.{Limit}
use Rattle.btx_text.specs.declared.limits.TheConstants.{MOST_LITERALS}
use Rattle.btx_text.specs.language.Class.{is_white}
use Rattle.btx_text.specs.language.Limits.{greatest_string}
use Rattle.std.specs.Fmt.{signed_decimal}
use Rattle.std.specs.List.{list_all}
use Rattle.std.specs.Option.{option_map_or, option_or}
use Rattle.std.specs.Ordering.{int_eq}
use Rattle.std.specs.Prelude.{Bool, Err, List, None, Ok, Option, Result, Some, [], codes, drop, false, if◌then◌else◌, int_lt, is_none, length, nat_lt, negsuc}
use Rattle.std.specs.Prelude.{pos, replicate, take, true, ℕ, ℤ, ◌++◌, ◌+ℤ◌, ◌-ℤ◌, ◌-◌, ◌==◌, ◌∷◌}
use Rattle.std.specs.Str.{bytes_eq}
use Rattle.btx_bst.specs.declared.built_in.BuiltIn.TheVariants as built_in
use Rattle.btx_bst.specs.declared.callee.Kind.TheVariants as kind
use Rattle.btx_text.specs.declared.limits.Limit.TheVariants as limit
use Rattle.btx_text.specs.declared.log_line.LineKind.TheVariants as line

-- ---- what a step leads to

-- what a step leads to, each time with the state that it leaves: nothing follows; the run meets a limit; a function is run, as `if$` and `call.type$` do; a
-- body is run; or a loop, which has a test and a body
pub data Effect : Type 0 where
  Leaves : (t : State) → Effect
  Meets : (limit : Limit) (t : State) → Effect
  Runs : (f : Function) (t : State) → Effect
  Opens : (body : Body) (t : State) → Effect
  Loops : (test body : Function) (t : State) → Effect

-- a literal is pushed; with 1,000 on the stack the run meets a limit (this project's own)
abbrev pub push : Literal → State → Effect
push x s = if nat_lt (length s.literals) MOST_LITERALS then Leaves (record s { literals = x ∷ s.literals }) else Meets limit.Literals s

-- a string is pushed onto the stack of `t`, which is `s` with what is logged beside the push. If it has more than 1,000,000 bytes, the run ends in `s` (this
-- project's own), and what `t` logs isn't logged
abbrev pub push_text_in : State → List ℕ → State → Effect
push_text_in t text s = if nat_lt greatest_string (length text) then Meets limit.String s else push (Text text) t

-- a string is pushed onto the stack as it stands, if it isn't too long
abbrev pub push_text : List ℕ → State → Effect
push_text text s = push_text_in s text s

-- 1 for true and 0 for false is pushed
abbrev pub push_truth : Bool → State → Effect
push_truth true s = push (Integer (pos 1)) s
push_truth false s = push (Integer (pos 0)) s

-- what is pushed in place of a result; nothing by a function that has none
abbrev pub push_default : Option Literal → State → Effect
push_default None s = Leaves s
push_default (Some x) s = push x s

-- 0, in place of a result that is an integer
abbrev pub zero_default : Option Literal
zero_default = Some (Integer (pos 0))

-- the empty string, in place of a result that is a string
abbrev pub empty_default : Option Literal
empty_default = Some (Text [])

-- the current entry does it; without one that is an error
abbrev pub in_entry : (Entry → State → Effect) → State → Effect
in_entry does s = option_map_or (λ (entry : Entry). does entry s) s.entry (Leaves (error no_entry s))

-- ---- operands

-- what a function may ask of an operand: nothing, or that it is an integer, a string, a function, or a string or missing field
pub data Operand : Type 0 where
  AnyLiteral : Operand
  AnInteger : Operand
  AString : Operand
  AFunction : Operand
  AStringOrMissing : Operand

-- what the function gets of an operand: of one that may be missing, the string or `None`
abbrev pub Value : Operand → Type 0
Value AnyLiteral = Literal
Value AnInteger = ℤ
Value AString = List ℕ
Value AFunction = Function
Value AStringOrMissing = Option (List ℕ)

-- the value of a literal, if the literal is what is asked for
abbrev pub value_as : (operand : Operand) → Literal → Option (Value operand)
value_as AnyLiteral x = Some x
value_as AnInteger (Integer n) = Some n
value_as AString (Text text) = Some text
value_as AFunction (Quoted f) = Some f
value_as AStringOrMissing (Text text) = Some (Some text)
value_as AStringOrMissing Missing = Some None
value_as operand x = None

-- the error about a literal that isn't what is asked for
abbrev pub wrong_operand_text : Operand → Literal → List ℕ
wrong_operand_text AnyLiteral x = []
wrong_operand_text AnInteger x = shown x ++ codes " is not an integer"
wrong_operand_text AString x = shown x ++ codes " is not a string"
wrong_operand_text AFunction x = shown x ++ codes " is not a function"
wrong_operand_text AStringOrMissing x = shown x ++ codes " is not a string or missing field"

-- what a function does on its operands, the top one first
abbrev pub Does : List Operand → Type 0
Does [] = State → Effect
Does (operand ∷ more) = Value operand → Does more

-- the function on the literals on top; or the error about the first that isn't what is asked for. (Where there are fewer literals than
-- operands, `with_operands_checked` has the error)
abbrev pub on_literals : (operands : List Operand) → Does operands → List Literal → Result (State → Effect) (List ℕ)
on_literals [] does xs = Ok does
on_literals (operand ∷ more) does [] = Err []
on_literals (operand ∷ more) does (x ∷ xs) =
    option_map_or (λ value. on_literals more (does value) xs) (value_as operand x) (Err (wrong_operand_text operand x))

-- a row of the table: what a built-in function takes, the top operand first; what is pushed in place of a result; and what the function does
pub record BuiltInRule : Type 0 where
  pub operands : List Operand
  pub default : Option Literal
  pub does : Does operands

-- a row, of its three parts
abbrev pub takes : (operands : List Operand) → Option Literal → Does operands → BuiltInRule
takes operands default does = record { operands = operands; default = default; does = does }

-- the function on its operands, which are off the stack in `s`; or an error, and what is pushed in place of a result
abbrev pub or_else_default : Result (State → Effect) (List ℕ) → Option Literal → State → Effect
or_else_default (Ok does) default s = does s
or_else_default (Err text) default s = push_default default (error text s)

-- The rule of operands: all are taken off the stack. Where some aren't there, that is an error for each of them; else, where one isn't what is asked for,
-- the first of these is an error. Then the function isn't done, and what the table says is pushed in place of a result. (The original leaves a marker in place
-- of an operand that isn't there, which later functions take in silence.)
abbrev pub with_operands_checked : BuiltInRule → State → Effect
with_operands_checked row s =
    let count = length row.operands in
    let taken = record s { literals = drop count s.literals } in
    if nat_lt (length s.literals) count then push_default row.default (errors (replicate (count - length s.literals) empty_stack) taken)
    else or_else_default (on_literals row.operands row.does s.literals) row.default taken

-- ---- variables

-- `:=` of a value to a function: a variable takes a literal of its kind, a string no further than it keeps (the original doesn't cut every string that is too
-- long, and ends a string of an entry at a byte 127)
abbrev pub assigns : Job → Function → Literal → State → Effect
assigns job (Declared kind.GlobalInteger name) (Integer n) s = Leaves (record s { integers = set name n s.integers })
assigns job (Declared kind.GlobalInteger name) x s = Leaves (error (wrong_operand_text AnInteger x) s)
assigns job (Declared kind.GlobalString name) (Text text) s =
    Leaves (cut_to job.global_max text (record s { strings = set name (take job.global_max text) s.strings }))
assigns job (Declared kind.GlobalString name) x s = Leaves (error (wrong_operand_text AString x) s)
assigns job (Declared kind.EntryInteger name) (Integer n) s = in_entry (λ entry s. Leaves (record s {
  entry_integers = set entry.key (set name n (s.entry_integers entry.key)) s.entry_integers;
})) s
assigns job (Declared kind.EntryInteger name) x s = in_entry (λ entry s. Leaves (error (wrong_operand_text AnInteger x) s)) s
assigns job (Declared kind.EntryString name) (Text text) s = in_entry (λ entry s. Leaves (cut_to job.entry_max text (record s {
  entry_strings = set entry.key (set name (take job.entry_max text) (s.entry_strings entry.key)) s.entry_strings;
}))) s
assigns job (Declared kind.EntryString name) x s = in_entry (λ entry s. Leaves (error (wrong_operand_text AString x) s)) s
assigns job f x s = Leaves (error (codes "You can't assign to " ++ name_of f) s)

-- a field or a variable that is run pushes its value
abbrev pub value_of : Kind → List ℕ → State → Effect
value_of kind.Field name s = in_entry (λ entry. push (option_map_or Text (entry.value name) Missing)) s
value_of kind.EntryInteger name s = in_entry (λ entry s. push (Integer (s.entry_integers entry.key name)) s) s
value_of kind.EntryString name s = in_entry (λ entry s. push (Text (s.entry_strings entry.key name)) s) s
value_of kind.GlobalInteger name s = push (Integer (s.integers name)) s
value_of kind.GlobalString name s = push (Text (s.strings name)) s

-- ---- integers and strings, on operands that are there and fit

-- `=`: two integers or two strings are compared; anything else is an error, two functions and two missing fields too
abbrev pub equals : Literal → Literal → State → Effect
equals (Integer b) (Integer a) s = push_truth (int_eq a b) s
equals (Text b) (Text a) s = push_truth (bytes_eq a b) s
equals x y s = push_default zero_default (error (codes "= needs two integers or two strings") s)

-- an integer above 0
abbrev pub is_positive : ℤ → Bool
is_positive n = int_lt (pos 0) n

-- a sum or a difference, which has to be an integer of 32 bits: else 0, with an error (the original wraps)
abbrev pub push_result : ℤ → State → Effect
push_result n s = if fits n then push (Integer n) s else push_default zero_default (error (codes "Integer overflow") s)

-- `chr.to.int$`: the code of a string of one byte, where text is UTF-8 too
abbrev pub code_of : List ℕ → State → Effect
code_of (b ∷ []) s = push (Integer (pos b)) s
code_of text s = push_default zero_default (error (codes "\"" ++ text ++ codes "\" isn't a single character") s)

-- `int.to.chr$`: the character of an ASCII code
abbrev pub character_of : ℤ → State → Effect
character_of (pos n) s = if nat_lt n 128 then push (Text (n ∷ [])) s else push_default empty_default (error (not_ascii (pos n)) s)
character_of (negsuc n) s = push_default empty_default (error (not_ascii (negsuc n)) s)

-- a missing field, or a string of whitespace alone, as the empty one. Byte 10, which `int.to.chr$` can make, is no whitespace
abbrev pub is_empty_field : Option (List ℕ) → Bool
is_empty_field None = true
is_empty_field (Some text) = list_all is_white text

-- ---- the table

module _ (divisions : Divisions) (job : Job) where
  -- `format.name$`: all that is wrong is logged, and the name in the format is pushed
  abbrev pub formats_name : List ℕ → ℤ → List ℕ → State → Effect
  formats_name format number names s = push_text_in (errors (name_errors divisions format number names) s) (formatted_name divisions job.mode format number names) s

  -- `change.case$`: in the case that is asked for, or, with an error, as it is
  abbrev pub changes_case : List ℕ → List ℕ → State → Effect
  changes_case letter text s =
      option_map_or (λ (to : Conversion). push_text (in_case divisions to text) s)
      (conversion_of letter) (push_text_in (error (codes "\"" ++ letter ++ codes "\" is an illegal case-conversion string") s) text s)

  -- `call.type$`: the function of the entry's type; `default.type` for a type that the style doesn't know; and nothing where the style has none above READ (in
  -- the original one after READ counts from there on)
  abbrev pub calls_type : Entry → State → Effect
  calls_type entry s = option_map_or (λ (f : Function). Runs f s) (option_or entry.kind (job.style.types (codes "default.type"))) (Leaves s)

  -- The table: what each built-in function takes, the top operand first, what is pushed in place of its result, and what it does. In a sum and a
  -- difference, `b` stands on top, and so does `last` in `*`. In `if$` the function for a positive integer stands below the other one, and in `while$` the
  -- test below the body. `swap$` alone puts back what it finds, and `missing$` without an entry takes its operand whatever it is: see `built_in_effect`.
  -- (In the original `text.length$` of what is no string pushes the empty string.)
  abbrev pub row : BuiltIn → BuiltInRule
  row built_in.Equals = takes (AnyLiteral ∷ AnyLiteral ∷ []) zero_default equals
  row built_in.Greater = takes (AnInteger ∷ AnInteger ∷ []) zero_default (λ b a. push_truth (int_lt b a))
  row built_in.Less = takes (AnInteger ∷ AnInteger ∷ []) zero_default (λ b a. push_truth (int_lt a b))
  row built_in.Plus = takes (AnInteger ∷ AnInteger ∷ []) zero_default (λ b a. push_result (a +ℤ b))
  row built_in.Minus = takes (AnInteger ∷ AnInteger ∷ []) zero_default (λ b a. push_result (a -ℤ b))
  row built_in.Concatenate = takes (AString ∷ AString ∷ []) empty_default (λ last first. push_text (first ++ last))
  row built_in.Assign = takes (AFunction ∷ AnyLiteral ∷ []) None (assigns job)
  row built_in.AddPeriod = takes (AString ∷ []) empty_default (λ text. push_text (add_period_of text))
  row built_in.CallType = takes [] None (in_entry calls_type)
  row built_in.ChangeCase = takes (AString ∷ AString ∷ []) empty_default changes_case
  row built_in.ChrToInt = takes (AString ∷ []) zero_default code_of
  row built_in.Cite = takes [] None (in_entry (λ entry. push_text entry.key))
  row built_in.Duplicate = takes (AnyLiteral ∷ []) None (λ x s. push x (record s { literals = x ∷ s.literals }))
  row built_in.Empty = takes (AStringOrMissing ∷ []) zero_default (λ field. push_truth (is_empty_field field))
  row built_in.FormatName = takes (AString ∷ AnInteger ∷ AString ∷ []) empty_default formats_name
  row built_in.If = takes (AFunction ∷ AFunction ∷ AnInteger ∷ []) None (λ otherwise positive n. Runs (if is_positive n then positive else otherwise))
  row built_in.IntToChr = takes (AnInteger ∷ []) empty_default character_of
  row built_in.IntToStr = takes (AnInteger ∷ []) empty_default (λ n. push (Text (signed_decimal n)))
  row built_in.Missing = takes (AStringOrMissing ∷ []) zero_default (λ field. push_truth (is_none field))
  row built_in.NewLine = takes [] None (λ s. Leaves (record s { lines = s.lines ++ s.pending ∷ []; pending = [] }))
  row built_in.NumNames = takes (AString ∷ []) zero_default (λ text. push (Integer (pos (length (divisions.names text)))))
  row built_in.Pop = takes (AnyLiteral ∷ []) None (λ x. Leaves)
  row built_in.Preamble = takes [] None (push (Text job.library.preamble))
  row built_in.Purify = takes (AString ∷ []) empty_default (λ text. push_text (purified divisions text))
  row built_in.Quote = takes [] None (push (Text (codes "\"")))
  row built_in.Skip = takes [] None Leaves
  row built_in.Stack = takes [] None (λ s. Leaves (record (shows s.literals s) { literals = [] }))
  row built_in.Substring = takes (AnInteger ∷ AnInteger ∷ AString ∷ []) empty_default (λ size start text. push_text (substring_of text start size))
  row built_in.Swap = takes (AnyLiteral ∷ AnyLiteral ∷ []) None (λ x y s. Leaves (record s { literals = y ∷ x ∷ s.literals }))
  row built_in.TextLength = takes (AString ∷ []) zero_default (λ text. push (Integer (pos (text_length divisions job.mode text))))
  row built_in.TextPrefix = takes (AnInteger ∷ AString ∷ []) empty_default (λ count text. push_text (text_prefix divisions job.mode text count))
  row built_in.Top = takes (AnyLiteral ∷ []) None (λ x s. Leaves (shows (x ∷ []) s))
  row built_in.Type = takes [] None (in_entry (λ entry. push_text (option_map_or name_of entry.kind [])))
  row built_in.Warning = takes (AString ∷ []) None (λ text s. Leaves (logs line.Warning text s))
  row built_in.While = takes (AFunction ∷ AFunction ∷ []) None (λ body test. Loops test body)
  row built_in.Width = takes (AString ∷ []) zero_default (λ text. push (Integer (pos (width divisions text))))
  row built_in.Write = takes (AString ∷ []) None (λ text s. Leaves (record s { pending = s.pending ++ text }))

  -- `missing$` without an entry: its operand is taken, whatever it is, and nothing is pushed; where there is no operand, that is an error, and then comes the
  -- error that no entry is current
  abbrev pub missing_without_entry : State → Effect
  missing_without_entry s =
      let taken = record s { literals = drop 1 s.literals } in
      Leaves (error no_entry (if length s.literals == 0 then error empty_stack taken else taken))

  -- `swap$`: with fewer than two literals there is an error for each that is missing, and what stands on the stack stays
  abbrev pub swaps : State → Effect
  swaps s =
      if nat_lt (length s.literals) 2 then Leaves (errors (replicate (2 - length s.literals) empty_stack) s)
      else with_operands_checked (row built_in.Swap) s

  -- what a built-in function does
  abbrev pub built_in_effect : BuiltIn → State → Effect
  built_in_effect built_in.Missing s = option_map_or (λ (entry : Entry). with_operands_checked (row built_in.Missing) s) s.entry (missing_without_entry s)
  built_in_effect built_in.Swap s = swaps s
  built_in_effect f s = with_operands_checked (row f) s

  -- what a function does
  abbrev pub function_effect : Function → State → Effect
  function_effect (Built f) s = built_in_effect f s
  function_effect (Defined name body) s = Opens body s
  function_effect (Declared kind name) s = value_of kind name s

  -- what a token does
  abbrev pub token_effect : StyleToken → State → Effect
  token_effect (Push (Text text)) s = push_text text s
  token_effect (Push x) s = push x s
  token_effect (Run f) s = function_effect f (record s { executed = name_of f })

-- after the test of a `while$`, given the stack: whether the body is run; the result of the test is taken off the stack, and has to be an integer
abbrev pub test_on_literals : List Literal → State → Bool × State
test_on_literals [] s = (false, error empty_stack s)
test_on_literals (Integer n ∷ xs) s = (is_positive n, record s { literals = xs })
test_on_literals (x ∷ xs) s = (false, error (wrong_operand_text AnInteger x) (record s { literals = xs }))

-- after the test of a `while$`: whether the body is run, and the state then. A message about the test is one of `while$`
abbrev pub test_result : State → Bool × State
test_result s = test_on_literals s.literals (record s { executed = built_in_name built_in.While })
