-- Worked styles: what short texts are read as, and the texts of the messages.
use Rattle.std.specs.Prelude.{ℕ, ◌≡◌, pos, negsuc, List, [], ◌∷◌, ◌++◌, codes, map}
use Rattle.btx_bst.specs.declared.token.Token.{Token}
use Rattle.btx_bst.specs.declared.built_in.BuiltIn.{BuiltIn}
use Rattle.btx_bst.specs.declared.built_in.BuiltIn.TheVariants.{If, NewLine, Pop, Skip}
use Rattle.btx_bst.specs.declared.built_in.BuiltIn.TheVariants as built_in
use Rattle.btx_bst.specs.declared.callee.Callee.TheVariants as callee
use Rattle.btx_bst.specs.declared.command.Command.TheVariants as command
use Rattle.btx_bst.specs.declared.token.Token.TheVariants.{Text, Quote, Run}
use Rattle.btx_bst.specs.declared.token.Token.TheVariants as token
use Rattle.btx_bst.specs.language.Complaints.{Complaint, NoCommand, NotCommand, NoOpen, NoClose, NoName, Defined, Unknown, BadInteger, TextAfter, NoQuoteEnd}
use Rattle.btx_bst.specs.language.Complaints.{Another, BeforeRead, BeforeEntry, AfterRead, NoQuote, EndOfFile}
use Rattle.btx_bst.specs.language.Items.{Item, Message}
use Rattle.btx_bst.specs.language.Items as item
use Rattle.btx_bst.specs.language.MessageTexts.{complaint_text}
use Rattle.btx_bst.specs.language.StyleText.{style_of}

-- a text, and its commands and messages
pub record WorkedStyle : Type 0 where
  pub text : List ℕ
  pub items : List Item

-- a worked style: a text, and the items that it gives; `style_row (codes "SORT") (Message (BeforeRead command.Sort) 1 ∷ [])` says that a SORT without a
-- READ before it is an error of line 1
abbrev pub style_row : List ℕ → List Item → WorkedStyle
style_row text items = record { text = text; items = items }

-- styles without a fault, and what is read again after one
abbrev pub commands : List WorkedStyle
commands =
    -- nothing, and nothing but a comment
    style_row (codes "") []
    ∷ style_row (codes "% READ") []
    -- each command once, in any case of letters
    ∷ style_row (codes "ENTRY {title author} {depth} {label}") (item.Entry ∷ [])
    ∷ style_row (codes "FUNCTION {f} {skip$}") (item.Function 0 ∷ [])
    ∷ style_row (codes "entry {} {} {}\nrEaD") (item.Entry ∷ item.Read ∷ [])
    ∷ style_row (codes "ENTRY {} {} {} READ\nEXECUTE {newline$}") (item.Entry ∷ item.Read ∷ item.Execute (callee.BuiltIn NewLine) ∷ [])
    ∷ style_row (codes "ENTRY {} {} {} READ\nITERATE {SKIP$}") (item.Entry ∷ item.Read ∷ item.Iterate (callee.BuiltIn Skip) ∷ [])
    ∷ style_row (codes "ENTRY {} {} {} READ\nFUNCTION {F} {} REVERSE {f}") (item.Entry ∷ item.Read ∷ item.Function 0 ∷ item.Reverse (callee.User 0) ∷ [])
    ∷ style_row (codes "ENTRY {} {} {} READ\nSORT") (item.Entry ∷ item.Read ∷ item.Sort ∷ [])
    ∷ style_row (codes "INTEGERS {a b}") (item.Integers ∷ [])
    ∷ style_row (codes "STRINGS {s t}") (item.Strings ∷ [])
    ∷ style_row (codes "MACRO {jan} {\"January\"}") (item.Macro ∷ [])
    -- one directly after another, and with whitespace and comments in the middle
    ∷ style_row (codes "INTEGERS{a}STRINGS{b}FUNCTION{f}{}") (item.Integers ∷ item.Strings ∷ item.Function 0 ∷ [])
    ∷ style_row (codes "ENTRY % the fields\n\n\t{ title % and }\n} { } {\n}\n") (item.Entry ∷ [])
    -- a nameless function is defined before the one that it stands in
    ∷ style_row (codes "FUNCTION {f} {{skip$} {#1} if$} FUNCTION {g} {f}") (item.Function 2 ∷ item.Function 3 ∷ [])
    -- the name of a function that broke off is free, and so is ENTRY after an ENTRY with a fault
    ∷ style_row (codes "FUNCTION {f} {\"a\n\nFUNCTION {f} {}") (Message NoQuoteEnd 1 ∷ item.Function 0 ∷ [])
    ∷ style_row (codes "ENTRY {a b!#} {} {}\n\nENTRY {c} {} {}") (Message NoName 1 ∷ item.Entry ∷ [])
    ∷ []

-- each message, with its line
abbrev pub faults : List WorkedStyle
faults =
    -- a command is missing
    style_row (codes "{") (Message NoCommand 1 ∷ [])
    ∷ style_row (codes "\n % first\n 1") (Message NoCommand 3 ∷ [])
    ∷ style_row (codes "ENTRY {} {} {} }") (item.Entry ∷ Message NoCommand 1 ∷ [])
    -- a word is no command
    ∷ style_row (codes "bogus") (Message (NotCommand (codes "bogus")) 1 ∷ [])
    ∷ style_row (codes "\n\nBoGus {x}") (Message (NotCommand (codes "BoGus")) 3 ∷ [])
    -- a `{` is missing
    ∷ style_row (codes "INTEGERS a") (Message NoOpen 1 ∷ [])
    ∷ style_row (codes "FUNCTION f {}") (Message NoOpen 1 ∷ [])
    ∷ style_row (codes "FUNCTION {f}\nskip$") (Message NoOpen 2 ∷ [])
    ∷ style_row (codes "ENTRY {}\n{} READ") (Message NoOpen 2 ∷ [])
    ∷ style_row (codes "ENTRY {} {} {} READ\nEXECUTE skip$") (item.Entry ∷ item.Read ∷ Message NoOpen 2 ∷ [])
    ∷ style_row (codes "MACRO jan") (Message NoOpen 1 ∷ [])
    ∷ style_row (codes "MACRO {jan} \"January\"") (Message NoOpen 1 ∷ [])
    -- a `}` is missing
    ∷ style_row (codes "FUNCTION {f\ng} {}") (Message NoClose 2 ∷ [])
    ∷ style_row (codes "ENTRY {} {} {} READ\nITERATE {skip$ pop$}") (item.Entry ∷ item.Read ∷ Message NoClose 2 ∷ [])
    ∷ style_row (codes "MACRO {jan feb} {\"January\"}") (Message NoClose 1 ∷ [])
    ∷ style_row (codes "MACRO {jan} {\"January\" #}") (Message NoClose 1 ∷ [])
    -- a name is missing; none begins with a digit
    ∷ style_row (codes "FUNCTION {} {}") (Message NoName 1 ∷ [])
    ∷ style_row (codes "INTEGERS {a\n1b}") (Message NoName 2 ∷ [])
    ∷ style_row (codes "STRINGS {a, b}") (Message NoName 1 ∷ [])
    ∷ style_row (codes "ENTRY {} {} {} READ\nREVERSE {}") (item.Entry ∷ item.Read ∷ Message NoName 2 ∷ [])
    ∷ style_row (codes "MACRO {\"jan\"} {}") (Message NoName 1 ∷ [])
    -- a name is defined already: in the same list, before it, or before the style
    ∷ style_row (codes "INTEGERS {a A}") (Message (Defined (codes "A")) 1 ∷ [])
    ∷ style_row (codes "FUNCTION {f} {}\nFUNCTION {F} {}") (item.Function 0 ∷ Message (Defined (codes "F")) 2 ∷ [])
    ∷ style_row (codes "FUNCTION {skip$} {}") (Message (Defined (codes "skip$")) 1 ∷ [])
    ∷ style_row (codes "ENTRY {crossref} {} {}") (Message (Defined (codes "crossref")) 1 ∷ [])
    ∷ style_row (codes "MACRO {a} {\"x\"}\nMACRO {A} {\"y\"}") (item.Macro ∷ Message (Defined (codes "A")) 2 ∷ [])
    -- a name is no function where one is executed, or names nothing in a body; a function doesn't know its own name
    ∷ style_row (codes "ENTRY {} {} {} READ\nEXECUTE {nosuch}") (item.Entry ∷ item.Read ∷ Message (Unknown (codes "nosuch")) 2 ∷ [])
    ∷ style_row (codes "ENTRY {} {} {} READ\nEXECUTE {Entry.Max$}") (item.Entry ∷ item.Read ∷ Message (Unknown (codes "Entry.Max$")) 2 ∷ [])
    ∷ style_row (codes "FUNCTION {f} {NoSuch\nskip$}") (Message (Unknown (codes "NoSuch")) 1 ∷ item.Function 0 ∷ [])
    ∷ style_row (codes "FUNCTION {f} {\n'nosuch :=}") (Message (Unknown (codes "nosuch")) 2 ∷ item.Function 0 ∷ [])
    ∷ style_row (codes "FUNCTION {f} {f}") (Message (Unknown (codes "f")) 1 ∷ item.Function 0 ∷ [])
    -- a word of a body goes up to whitespace, `}` or `%`
    ∷ style_row (codes "FUNCTION {f} {skip$'pop${% }\n}") (Message (Unknown (codes "skip$'pop${")) 1 ∷ item.Function 0 ∷ [])
    ∷ style_row (codes "FUNCTION {f} {' skip$}") (Message (Unknown []) 1 ∷ item.Function 0 ∷ [])
    -- an integer has no digits, or doesn't fit 32 bits
    ∷ style_row (codes "FUNCTION {f} {#}") (Message BadInteger 1 ∷ item.Function 0 ∷ [])
    ∷ style_row (codes "FUNCTION {f} {\n#- #x}") (Message BadInteger 2 ∷ Message BadInteger 2 ∷ item.Function 0 ∷ [])
    ∷ style_row (codes "FUNCTION {f} {#2147483648}") (Message BadInteger 1 ∷ item.Function 0 ∷ [])
    ∷ style_row (codes "FUNCTION {f} {#-2147483649}") (Message BadInteger 1 ∷ item.Function 0 ∷ [])
    -- something stands directly after a string or an integer
    ∷ style_row (codes "FUNCTION {f} {\"a\"b}") (Message TextAfter 1 ∷ item.Function 0 ∷ [])
    ∷ style_row (codes "FUNCTION {f} {\n\n#1x\n}") (Message TextAfter 3 ∷ item.Function 0 ∷ [])
    -- a string has no end on its line; the messages of the body stay
    ∷ style_row (codes "FUNCTION {f} {nosuch\n\"a\n\"}\n\nSORT") (Message (Unknown (codes "nosuch")) 1 ∷ Message NoQuoteEnd 2
    ∷ Message (BeforeRead command.Sort) 5 ∷ [])
    -- a command stands again
    ∷ style_row (codes "ENTRY {} {} {}\nENTRY {} {} {}") (item.Entry ∷ Message (Another command.Entry) 2 ∷ [])
    ∷ style_row (codes "ENTRY {} {} {} READ\nREAD") (item.Entry ∷ item.Read ∷ Message (Another command.Read) 2 ∷ [])
    -- a command stands before READ
    ∷ style_row (codes "EXECUTE {skip$}") (Message (BeforeRead command.Execute) 1 ∷ [])
    ∷ style_row (codes "\nITERATE {skip$}") (Message (BeforeRead command.Iterate) 2 ∷ [])
    ∷ style_row (codes "REVERSE\n{skip$}") (Message (BeforeRead command.Reverse) 1 ∷ [])
    ∷ style_row (codes "SORT") (Message (BeforeRead command.Sort) 1 ∷ [])
    -- READ stands before ENTRY, and MACRO after READ
    ∷ style_row (codes "\nREAD") (Message BeforeEntry 2 ∷ [])
    ∷ style_row (codes "ENTRY {} {} {} READ\nMACRO {a} {\"x\"}") (item.Entry ∷ item.Read ∷ Message AfterRead 2 ∷ [])
    -- a quote of a macro's text is missing
    ∷ style_row (codes "MACRO {a} {x}") (Message NoQuote 1 ∷ [])
    ∷ style_row (codes "MACRO {a} {\n\"x\n\"}") (Message NoQuote 2 ∷ [])
    -- the file ends within a command; the end has the number of the last line
    ∷ style_row (codes "INTEGERS") (Message EndOfFile 1 ∷ [])
    ∷ style_row (codes "INTEGERS {a\n") (Message EndOfFile 1 ∷ [])
    ∷ style_row (codes "ENTRY {} {}\n\n%") (Message EndOfFile 3 ∷ [])
    ∷ style_row (codes "FUNCTION {f") (Message EndOfFile 1 ∷ [])
    ∷ style_row (codes "FUNCTION {f} {skip$\n\n") (Message EndOfFile 2 ∷ [])
    ∷ style_row (codes "FUNCTION {f} {{skip$}") (Message EndOfFile 1 ∷ [])
    ∷ style_row (codes "ENTRY {} {} {} READ\nEXECUTE {skip$") (item.Entry ∷ item.Read ∷ Message EndOfFile 2 ∷ [])
    ∷ style_row (codes "MACRO {a} {") (Message EndOfFile 1 ∷ [])
    ∷ style_row (codes "MACRO {a} {\"x\"") (Message EndOfFile 1 ∷ [])
    -- after a fault all is skipped up to the next empty line; one of whitespace alone is empty too
    ∷ style_row (codes "bogus SORT }\nSORT\n \t\nSORT") (Message (NotCommand (codes "bogus")) 1 ∷ Message (BeforeRead command.Sort) 4 ∷ [])
    ∷ style_row (codes "bogus\nbogus\nbogus") (Message (NotCommand (codes "bogus")) 1 ∷ [])
    ∷ []

-- a text, the bodies of its functions and its strings
pub record WorkedBody : Type 0 where
  pub text : List ℕ
  pub bodies : List (List Token)
  pub texts : List (List ℕ)

-- a worked body: a style's text, the bodies of its functions by their numbers, and the strings that stand in them
abbrev pub body_row : List ℕ → List (List Token) → List (List ℕ) → WorkedBody
body_row text bodies texts = record { text = text; bodies = bodies; texts = texts }

-- bodies of functions: `FUNCTION {f} {"a"} FUNCTION {g} {""}` has two, which push the strings 0 and 1: `a`, and the empty one
abbrev pub bodies : List WorkedBody
bodies =
    -- a body has integers, strings, names after a quote, and names; strings are numbered through the style
    body_row (codes "FUNCTION {f} {#10 #-2 #0 \"x\" 'skip$ POP$}")
    ((token.Integer (pos 10) ∷ token.Integer (negsuc 1) ∷ token.Integer (pos 0) ∷ Text 0 ∷ Quote (callee.BuiltIn Skip) ∷ Run (callee.BuiltIn Pop) ∷ []) ∷ [])
    ((codes "x") ∷ [])
    ∷ body_row (codes "FUNCTION {f} {\"a\"} FUNCTION {g} {\"\"}") ((Text 0 ∷ []) ∷ (Text 1 ∷ []) ∷ []) ((codes "a") ∷ [] ∷ [])
    -- the least and the greatest integer
    ∷ body_row (codes "FUNCTION {f} {#-2147483648 #2147483647}") ((token.Integer (negsuc 2147483647) ∷ token.Integer (pos 2147483647) ∷ []) ∷ []) []
    -- nameless functions come innermost first, and stand where they stood as literals
    ∷ body_row (codes "FUNCTION {f} {{#1} {\"a\" {}} if$}")
    ((token.Integer (pos 1) ∷ []) ∷ [] ∷ (Text 0 ∷ Quote (callee.User 1) ∷ []) ∷ (Quote (callee.User 0) ∷ Quote (callee.User 2) ∷ Run (callee.BuiltIn If) ∷ [])
    ∷ []) ((codes "a") ∷ [])
    -- a function that broke off leaves neither a body nor a string
    ∷ body_row (codes "FUNCTION {f} {{\"a\"} \"b\n\nFUNCTION {g} {\"c\"}") ((Text 0 ∷ []) ∷ []) ((codes "c") ∷ [])
    -- names are numbered after those that are known before the style
    ∷ body_row (codes "INTEGERS {n} STRINGS {s} ENTRY {t} {i} {l} FUNCTION {f} {n s t i l}")
    ((Run (callee.GlobalInteger 2) ∷ Run (callee.GlobalString 0) ∷ Run (callee.Field 1) ∷ Run (callee.EntryInteger 0) ∷ Run (callee.EntryString 1) ∷ [])
    ∷ []) []
    ∷ body_row (codes "FUNCTION {f} {crossref sort.key$ Entry.Max$ 'global.max$}")
    ((Run (callee.Field 0) ∷ Run (callee.EntryString 0) ∷ Run (callee.GlobalInteger 0) ∷ Quote (callee.GlobalInteger 1) ∷ []) ∷ []) []
    -- what is left out of a body leaves no token
    ∷ body_row (codes "FUNCTION {f} {#1 #2x nosuch \"a\"b #3 % #4\n}") ((token.Integer (pos 1) ∷ token.Integer (pos 3) ∷ []) ∷ []) []
    ∷ []

-- a word of a body, and the built-in function that it names
pub record WorkedWord : Type 0 where
  pub word : List ℕ
  pub function : BuiltIn

-- a worked word, and the built-in function that it names: `:=` is the assignment
abbrev pub word_row : List ℕ → BuiltIn → WorkedWord
word_row word function = record { word = word; function = function }

-- the 37 built-in functions
abbrev pub words : List WorkedWord
words =
    word_row (codes "=") built_in.Equals
    ∷ word_row (codes ">") built_in.Greater
    ∷ word_row (codes "<") built_in.Less
    ∷ word_row (codes "+") built_in.Plus
    ∷ word_row (codes "-") built_in.Minus
    ∷ word_row (codes "*") built_in.Concatenate
    ∷ word_row (codes ":=") built_in.Assign
    ∷ word_row (codes "add.period$") built_in.AddPeriod
    ∷ word_row (codes "call.type$") built_in.CallType
    ∷ word_row (codes "change.case$") built_in.ChangeCase
    ∷ word_row (codes "chr.to.int$") built_in.ChrToInt
    ∷ word_row (codes "cite$") built_in.Cite
    ∷ word_row (codes "duplicate$") built_in.Duplicate
    ∷ word_row (codes "empty$") built_in.Empty
    ∷ word_row (codes "format.name$") built_in.FormatName
    ∷ word_row (codes "if$") built_in.If
    ∷ word_row (codes "int.to.chr$") built_in.IntToChr
    ∷ word_row (codes "int.to.str$") built_in.IntToStr
    ∷ word_row (codes "missing$") built_in.Missing
    ∷ word_row (codes "newline$") built_in.NewLine
    ∷ word_row (codes "num.names$") built_in.NumNames
    ∷ word_row (codes "pop$") built_in.Pop
    ∷ word_row (codes "preamble$") built_in.Preamble
    ∷ word_row (codes "purify$") built_in.Purify
    ∷ word_row (codes "quote$") built_in.Quote
    ∷ word_row (codes "skip$") built_in.Skip
    ∷ word_row (codes "stack$") built_in.Stack
    ∷ word_row (codes "substring$") built_in.Substring
    ∷ word_row (codes "swap$") built_in.Swap
    ∷ word_row (codes "text.length$") built_in.TextLength
    ∷ word_row (codes "text.prefix$") built_in.TextPrefix
    ∷ word_row (codes "top$") built_in.Top
    ∷ word_row (codes "type$") built_in.Type
    ∷ word_row (codes "warning$") built_in.Warning
    ∷ word_row (codes "while$") built_in.While
    ∷ word_row (codes "width$") built_in.Width
    ∷ word_row (codes "write$") built_in.Write
    ∷ []

-- what is wrong, and the text of its message
pub record WorkedComplaint : Type 0 where
  pub complaint : Complaint
  pub text : List ℕ

-- a worked message: what is wrong, and its text; for the name `F`, which is defined twice, it is `F is already defined`
abbrev pub complaint_row : Complaint → List ℕ → WorkedComplaint
complaint_row complaint text = record { complaint = complaint; text = text }

-- the text of each message about a style
abbrev pub complaint_texts : List WorkedComplaint
complaint_texts =
    complaint_row NoCommand (codes "I was expecting a command")
    ∷ complaint_row (NotCommand (codes "Bogus")) (codes "Bogus isn't a command")
    ∷ complaint_row NoOpen (codes "I was expecting a {")
    ∷ complaint_row NoClose (codes "I was expecting a }")
    ∷ complaint_row NoName (codes "I was expecting a name")
    ∷ complaint_row (Defined (codes "F")) (codes "F is already defined")
    ∷ complaint_row (Unknown (codes "f")) (codes "f is an unknown function")
    ∷ complaint_row BadInteger (codes "Illegal integer")
    ∷ complaint_row TextAfter (codes "Illegal text after a literal")
    ∷ complaint_row NoQuoteEnd (codes "No \" to end string literal")
    ∷ complaint_row (Another command.Entry) (codes "Illegal, another ENTRY command")
    ∷ complaint_row (Another command.Read) (codes "Illegal, another READ command")
    ∷ complaint_row (BeforeRead command.Execute) (codes "Illegal, EXECUTE command before READ")
    ∷ complaint_row (BeforeRead command.Iterate) (codes "Illegal, ITERATE command before READ")
    ∷ complaint_row (BeforeRead command.Reverse) (codes "Illegal, REVERSE command before READ")
    ∷ complaint_row (BeforeRead command.Sort) (codes "Illegal, SORT command before READ")
    ∷ complaint_row BeforeEntry (codes "Illegal, READ command before ENTRY")
    ∷ complaint_row AfterRead (codes "Illegal, MACRO command after READ")
    ∷ complaint_row NoQuote (codes "I was expecting a \"")
    ∷ complaint_row EndOfFile (codes "Illegal end of style file")
    ∷ []

-- each text has the items of its row
abbrev pub AreRead : List WorkedStyle → Type 0
AreRead rows = map (λ (row : WorkedStyle). (style_of [] row.text).items) rows ≡ map (λ (row : WorkedStyle). row.items) rows

-- bodies of functions, and strings that stand in them
abbrev Parts : Type 0
Parts = List (List Token) × List (List ℕ)

-- the text of each row has the bodies and the strings of the row
abbrev pub AreBodies : List WorkedBody → Type 0
AreBodies rows =
    map (λ (row : WorkedBody). let style = style_of [] row.text in let parts : Parts = (style.bodies, style.texts) in parts) rows
    ≡ map (λ (row : WorkedBody). let parts : Parts = (row.bodies, row.texts) in parts) rows

-- a function with this word alone, `FUNCTION {f} {WORD}`
abbrev pub function_with_word : List ℕ → List ℕ
function_with_word word = codes "FUNCTION {f} {" ++ word ++ codes "}"

-- the items of a style, and the bodies of its functions
abbrev Read : Type 0
Read = List Item × List (List Token)

-- it executes that built-in function, and nothing else is read
abbrev pub AreWords : List WorkedWord → Type 0
AreWords rows =
    map (λ (row : WorkedWord). let style = style_of [] (function_with_word row.word) in let read : Read = (style.items, style.bodies) in read) rows
    ≡ map (λ (row : WorkedWord). let read : Read = (item.Function 0 ∷ [], (Run (callee.BuiltIn row.function) ∷ []) ∷ []) in read) rows

-- what is wrong has the text of its row
abbrev pub AreTexts : List WorkedComplaint → Type 0
AreTexts rows = map (λ (row : WorkedComplaint). complaint_text row.complaint) rows ≡ map (λ (row : WorkedComplaint). row.text) rows
