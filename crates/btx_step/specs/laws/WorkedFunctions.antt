-- Worked functions: what each of the 37 built-in functions does to a stack, what it writes, and the lines of the log (btxhak, section 5.3). Stacks are
-- written top first, in the order in which btxhak names the literals that a function pops.
use Prim.Native.String.{String}
use Rattle.std.specs.Prelude.{ℕ, ◌≡◌, List, [], ◌∷◌, ◌++◌, replicate, Option, codes}
use Rattle.btx_bst.specs.language.Names.{named_lower}
use Rattle.btx_stack.specs.declared.literal.Literal.{Literal}
use Rattle.btx_stack.specs.declared.literal.Literal.TheVariants as literal
use Rattle.btx_text.specs.declared.limits.Limit.TheVariants.{Literals}
use Rattle.btx_step.specs.declared.next.Next.{Next}
use Rattle.btx_step.specs.declared.next.Next.TheVariants.{Nothing, End, Run, Open, Loop}
use Rattle.btx_step.specs.language.Jobs.{Job}
use Rattle.btx_step.specs.laws.WorkedStores.{style, job, variables, store, number, minus, string, function_literal, missing, skip, newline, book}
use Rattle.btx_step.specs.laws.WorkedStores.{default_type, nameless, error, as_seen, executes_name, seen_of}

-- ---- rows

-- a function by its word, the literals before it and after it, what is executed next, the lines of the log, and what is written to the list
pub record WorkedFunction : Type 0 where
  pub name : List ℕ
  pub before : List Literal
  pub after : List Literal
  pub next : Next
  pub lines : List (List ℕ)
  pub written : List ℕ

-- a worked execution, of its six parts: the function `newline$` changes no literal, is followed by nothing, logs nothing and ends a line of the
-- list
abbrev pub worked : String → List Literal → List Literal → Next → List (List ℕ) → String → WorkedFunction
worked name before after next lines written =
    record { name = codes name; before = before; after = after; next = next; lines = lines; written = codes written }

-- a worked function that changes nothing but the stack: the literals before it and after it, top first
abbrev pub gives : String → List Literal → List Literal → WorkedFunction
gives name before after = worked name before after Nothing [] ""

-- a worked function that is followed by something: the literals before it, none after it, and what is executed next
abbrev pub leads_to : String → List Literal → Next → WorkedFunction
leads_to name before next = worked name before [] next [] ""

-- a worked function that writes: the literals before it, none after it, and the text that it writes
abbrev pub writes_text : String → List Literal → String → WorkedFunction
writes_text name before text = worked name before [] Nothing [] text

-- a worked function that logs: the literals before it and after it, and the lines of the log
abbrev pub logs : String → List Literal → List Literal → List (List ℕ) → WorkedFunction
logs name before after lines = worked name before after Nothing lines ""

-- a worked function that logs an error: the literals before it and after it, top first, and the text of the error
abbrev pub errs : String → List Literal → List Literal → String → WorkedFunction
errs name before after text = logs name before after (error name text ∷ [])

-- a worked function that lacks operands: the literals before it and after it, and how many operands the empty stack lacked, each an error
abbrev pub finds_too_few : String → List Literal → List Literal → ℕ → WorkedFunction
finds_too_few name before after times = logs name before after (replicate times (error name "You can't pop an empty literal stack"))

-- ---- operands that are there and fit

-- comparisons: `>` with 1 on top and 2 below it gives 1, since the second literal is greater
abbrev pub comparisons : List WorkedFunction
comparisons =
    gives "=" (number 2 ∷ number 2 ∷ []) (number 1 ∷ [])
    ∷ gives "=" (number 2 ∷ minus 2 ∷ []) (number 0 ∷ [])
    ∷ gives "=" (string "a" ∷ string "a" ∷ []) (number 1 ∷ [])
    ∷ gives "=" (string "a" ∷ string "A" ∷ []) (number 0 ∷ [])
    -- the second literal is greater, or less, than the first
    ∷ gives ">" (number 1 ∷ number 2 ∷ []) (number 1 ∷ [])
    ∷ gives ">" (number 2 ∷ number 1 ∷ []) (number 0 ∷ [])
    ∷ gives ">" (number 2 ∷ number 2 ∷ []) (number 0 ∷ [])
    ∷ gives ">" (minus 2 ∷ number 0 ∷ []) (number 1 ∷ [])
    ∷ gives "<" (number 2 ∷ number 1 ∷ []) (number 1 ∷ [])
    ∷ gives "<" (number 1 ∷ number 2 ∷ []) (number 0 ∷ [])
    ∷ gives "<" (number 2 ∷ number 2 ∷ []) (number 0 ∷ [])
    ∷ gives "<" (number 0 ∷ minus 2 ∷ []) (number 1 ∷ [])
    ∷ []

-- sums and differences, and integers as strings and characters: `+` with 3 and 2 gives 5
abbrev pub integers : List WorkedFunction
integers =
    gives "+" (number 3 ∷ number 2 ∷ []) (number 5 ∷ [])
    ∷ gives "+" (number 2 ∷ minus 5 ∷ []) (minus 3 ∷ [])
    ∷ gives "+" (number 1 ∷ number 2147483646 ∷ []) (number 2147483647 ∷ [])
    ∷ gives "-" (number 2 ∷ number 5 ∷ []) (number 3 ∷ [])
    ∷ gives "-" (number 5 ∷ number 2 ∷ []) (minus 3 ∷ [])
    ∷ gives "-" (number 2147483647 ∷ minus 1 ∷ []) (minus 2147483648 ∷ [])
    -- an integer has 32 bits
    ∷ errs "+" (number 1 ∷ number 2147483647 ∷ []) (number 0 ∷ []) "Integer overflow"
    ∷ errs "+" (minus 1 ∷ minus 2147483648 ∷ []) (number 0 ∷ []) "Integer overflow"
    ∷ errs "-" (minus 1 ∷ number 2147483647 ∷ []) (number 0 ∷ []) "Integer overflow"
    ∷ errs "-" (number 1 ∷ minus 2147483648 ∷ []) (number 0 ∷ []) "Integer overflow"
    -- integers, their decimal text, and characters
    ∷ gives "int.to.str$" (number 42 ∷ []) (string "42" ∷ [])
    ∷ gives "int.to.str$" (minus 42 ∷ []) (string "-42" ∷ [])
    ∷ gives "int.to.str$" (number 0 ∷ []) (string "0" ∷ [])
    ∷ gives "int.to.chr$" (number 65 ∷ []) (string "A" ∷ [])
    ∷ gives "int.to.chr$" (number 127 ∷ []) (literal.Text (127 ∷ []) ∷ [])
    ∷ errs "int.to.chr$" (number 128 ∷ []) (string "" ∷ []) "128 isn't an ASCII code"
    ∷ errs "int.to.chr$" (minus 1 ∷ []) (string "" ∷ []) "-1 isn't an ASCII code"
    ∷ gives "chr.to.int$" (string "A" ∷ []) (number 65 ∷ [])
    -- a byte from 128 up has its own number
    ∷ gives "chr.to.int$" (literal.Text (128 ∷ []) ∷ []) (number 128 ∷ [])
    ∷ gives "chr.to.int$" (literal.Text (195 ∷ []) ∷ []) (number 195 ∷ [])
    ∷ gives "chr.to.int$" (literal.Text (255 ∷ []) ∷ []) (number 255 ∷ [])
    ∷ errs "chr.to.int$" (string "" ∷ []) (number 0 ∷ []) "\"\" isn't a single character"
    ∷ errs "chr.to.int$" (string "AB" ∷ []) (number 0 ∷ []) "\"AB\" isn't a single character"
    ∷ []

-- strings and names: `*` with `b` on top and `a` below it gives `ab`
abbrev pub strings : List WorkedFunction
strings =
    -- the second literal comes first
    gives "*" (string "b" ∷ string "a" ∷ []) (string "ab" ∷ [])
    ∷ gives "add.period$" (string "" ∷ []) (string "" ∷ [])
    ∷ gives "add.period$" (string "a" ∷ []) (string "a." ∷ [])
    ∷ gives "add.period$" (string "a.}" ∷ []) (string "a.}" ∷ [])
    ∷ gives "add.period$" (string "a?" ∷ []) (string "a?" ∷ [])
    ∷ gives "add.period$" (string "a!" ∷ []) (string "a!" ∷ [])
    ∷ gives "add.period$" (string "{a}" ∷ []) (string "{a}." ∷ [])
    -- the letter of the conversion stands on top
    ∷ gives "change.case$" (string "t" ∷ string "The {TeX}book: A {\\AE}ON" ∷ []) (string "The {TeX}book: A {\\ae}on" ∷ [])
    ∷ gives "change.case$" (string "l" ∷ string "The {TeX}book: A {\\AE}ON" ∷ []) (string "the {TeX}book: a {\\ae}on" ∷ [])
    ∷ gives "change.case$" (string "u" ∷ string "The {TeX}book: A {\\ae}on" ∷ []) (string "THE {TeX}BOOK: A {\\AE}ON" ∷ [])
    ∷ gives "change.case$" (string "U" ∷ string "a" ∷ []) (string "A" ∷ [])
    -- foreign control sequences have a case, and no others
    ∷ gives "change.case$" (string "l" ∷ string "{\\O\\OE\\AE\\AA\\L} {\\RELAX}" ∷ []) (string "{\\o\\oe\\ae\\aa\\l} {\\RELAX}" ∷ [])
    ∷ gives "change.case$" (string "u" ∷ string "{\\o\\oe\\ae\\aa\\l} {\\i\\j\\ss} {\\relax}" ∷ []) (string "{\\O\\OE\\AE\\AA\\L} {IJSS} {\\relax}" ∷ [])
    ∷ errs "change.case$" (string "x" ∷ string "Ab" ∷ []) (string "Ab" ∷ []) "\"x\" is an illegal case-conversion string"
    ∷ gives "empty$" (missing ∷ []) (number 1 ∷ [])
    ∷ gives "empty$" (string "" ∷ []) (number 1 ∷ [])
    ∷ gives "empty$" (string " \t" ∷ []) (number 1 ∷ [])
    ∷ gives "empty$" (string " a" ∷ []) (number 0 ∷ [])
    ∷ gives "purify$" (string "{\\\"o}sterreich--{\\oe}uvre~1, 2." ∷ []) (string "osterreich  oeuvre 1 2" ∷ [])
    ∷ gives "quote$" [] (string "\"" ∷ [])
    -- the length, the start and the string: from the left, or where the start is negative from the right
    ∷ gives "substring$" (number 2 ∷ number 1 ∷ string "abcdef" ∷ []) (string "ab" ∷ [])
    ∷ gives "substring$" (number 1 ∷ number 2 ∷ string "abcdef" ∷ []) (string "b" ∷ [])
    ∷ gives "substring$" (number 3 ∷ minus 2 ∷ string "abcdef" ∷ []) (string "cde" ∷ [])
    ∷ gives "substring$" (number 2 ∷ minus 1 ∷ string "abcdef" ∷ []) (string "ef" ∷ [])
    ∷ gives "substring$" (number 10 ∷ number 5 ∷ string "abcdef" ∷ []) (string "ef" ∷ [])
    ∷ gives "substring$" (minus 2 ∷ number 1 ∷ string "abcdef" ∷ []) (string "" ∷ [])
    ∷ gives "substring$" (number 2 ∷ number 0 ∷ string "abcdef" ∷ []) (string "" ∷ [])
    ∷ gives "substring$" (number 1 ∷ number 7 ∷ string "abcdef" ∷ []) (string "" ∷ [])
    -- a special character counts as one character, and a brace as none
    ∷ gives "text.length$" (string "{\\\"O}zg{ab}c" ∷ []) (number 6 ∷ [])
    ∷ gives "text.prefix$" (number 4 ∷ string "{\\\"O}zg{ab}c" ∷ []) (string "{\\\"O}zg{a}" ∷ [])
    ∷ gives "text.prefix$" (number 9 ∷ string "ab" ∷ []) (string "ab" ∷ [])
    ∷ gives "text.prefix$" (number 0 ∷ string "ab" ∷ []) (string "" ∷ [])
    ∷ gives "text.prefix$" (minus 1 ∷ string "ab" ∷ []) (string "" ∷ [])
    ∷ gives "width$" (string "AB" ∷ []) (number 1458 ∷ [])
    ∷ []

-- the format stands on top, below it the number of the name, and below that the names
abbrev pub names : List WorkedFunction
names =
    gives "num.names$" (string "" ∷ []) (number 0 ∷ [])
    ∷ gives "num.names$" (string "Donald E. Knuth" ∷ []) (number 1 ∷ [])
    ∷ gives "num.names$" (string "Donald E. Knuth and {Barnes and Noble} and others" ∷ []) (number 3 ∷ [])
    ∷ gives "format.name$" (string "{ll}, {f.}" ∷ number 1 ∷ string "Donald E. Knuth and Leslie Lamport" ∷ []) (string "Knuth, D.~E." ∷ [])
    ∷ gives "format.name$" (string "{ff }{ll}" ∷ number 2 ∷ string "Donald E. Knuth and Leslie Lamport" ∷ []) (string "Leslie Lamport" ∷ [])
    ∷ gives "format.name$" (string "{vv~}{ll}{, jj}" ∷ number 1 ∷ string "de la Cruz, Jr, Ana" ∷ []) (string "de~la Cruz, Jr" ∷ [])
    ∷ errs "format.name$" (string "{ll}" ∷ number 2 ∷ string "Knuth" ∷ []) (string "" ∷ []) "There is no name number 2 in \"Knuth\""
    ∷ errs "format.name$" (string "{ll}" ∷ number 0 ∷ string "Knuth" ∷ []) (string "" ∷ []) "There is no name number 0 in \"Knuth\""
    ∷ errs "format.name$" (string "{ll}" ∷ number 1 ∷ string "Knuth," ∷ []) (string "Knuth" ∷ []) "Name 1 in \"Knuth,\" has a comma at the end"
    ∷ errs "format.name$" (string "{ll}" ∷ number 1 ∷ string "a, b, c, d" ∷ []) (string "a" ∷ []) "Too many commas in name 1 of \"a, b, c, d\""
    ∷ errs "format.name$" (string "{ll" ∷ number 1 ∷ string "Knuth" ∷ []) (string "" ∷ []) "The format string \"{ll\" is illegal"
    ∷ []

-- a letter of two bytes counts as two characters, or as one where text is read as UTF-8
abbrev pub e_acute : Literal
e_acute = literal.Text (0xC3 ∷ 0xA9 ∷ [])

-- an `e` with an acute accent, where text is read as bytes: its length is 2
abbrev pub bytes_characters : List WorkedFunction
bytes_characters =
    gives "text.length$" (e_acute ∷ []) (number 2 ∷ [])
    ∷ gives "text.prefix$" (number 1 ∷ e_acute ∷ []) (literal.Text (0xC3 ∷ []) ∷ [])
    ∷ []

-- an `e` with an acute accent, where text is read as UTF-8: its length is 1
abbrev pub utf8_characters : List WorkedFunction
utf8_characters =
    gives "text.length$" (e_acute ∷ []) (number 1 ∷ [])
    ∷ gives "text.prefix$" (number 1 ∷ e_acute ∷ []) (e_acute ∷ [])
    ∷ []

-- the stack, the list and the log: `swap$` with `a` on top and 1 below it leaves 1 on top; `top$` with `a` logs `"a"`
abbrev pub stack : List WorkedFunction
stack =
    gives "duplicate$" (string "a" ∷ []) (string "a" ∷ string "a" ∷ [])
    ∷ gives "pop$" (string "a" ∷ []) []
    ∷ gives "skip$" [] []
    ∷ gives "swap$" (string "a" ∷ number 1 ∷ []) (number 1 ∷ string "a" ∷ [])
    -- the form of each kind of literal in the log
    ∷ logs "top$" (string "a" ∷ []) [] (codes "\"a\"" ∷ [])
    ∷ logs "top$" (minus 7 ∷ []) [] (codes "-7" ∷ [])
    ∷ logs "top$" (function_literal skip ∷ []) [] (codes "'skip$" ∷ [])
    ∷ logs "top$" (function_literal nameless ∷ []) [] (codes "'{}" ∷ [])
    ∷ logs "top$" (missing ∷ []) [] (codes "missing field" ∷ [])
    -- one string is taken, and no more
    ∷ logs "warning$" (string "no year" ∷ string "b" ∷ []) (string "b" ∷ []) (codes "Warning--no year" ∷ [])
    ∷ writes_text "write$" (string "\\bibitem" ∷ []) "\\bibitem"
    ∷ writes_text "newline$" [] "\n"
    ∷ gives "preamble$" [] (string "\\def\\x{}" ∷ [])
    -- functions of the style
    ∷ leads_to "book" [] (Open 0)
    ∷ []

-- the first literal is run where the integer isn't above 0, the second where it is
abbrev pub choices : List WorkedFunction
choices =
    leads_to "if$" (function_literal skip ∷ function_literal newline ∷ number 1 ∷ []) (Run newline)
    ∷ leads_to "if$" (function_literal skip ∷ function_literal newline ∷ number 0 ∷ []) (Run skip)
    ∷ leads_to "if$" (function_literal skip ∷ function_literal newline ∷ minus 1 ∷ []) (Run skip)
    -- the body, and below it the test
    ∷ leads_to "while$" (function_literal skip ∷ function_literal book ∷ []) (Loop book skip)
    ∷ []

-- ---- operands of a wrong kind: the first one is logged, and the default follows

-- operands of a wrong kind: `>` with two strings gives 0, and the log says that the top one is not an integer
abbrev pub wrong_operands : List WorkedFunction
wrong_operands =
    errs "=" (number 1 ∷ string "1" ∷ []) (number 0 ∷ []) "= needs two integers or two strings"
    ∷ errs "=" (function_literal skip ∷ function_literal skip ∷ []) (number 0 ∷ []) "= needs two integers or two strings"
    ∷ errs "=" (missing ∷ missing ∷ []) (number 0 ∷ []) "= needs two integers or two strings"
    ∷ errs ">" (string "a" ∷ string "b" ∷ []) (number 0 ∷ []) "\"a\" is not an integer"
    ∷ errs ">" (number 1 ∷ string "b" ∷ []) (number 0 ∷ []) "\"b\" is not an integer"
    ∷ errs "<" (string "a" ∷ number 1 ∷ []) (number 0 ∷ []) "\"a\" is not an integer"
    ∷ errs "+" (missing ∷ number 1 ∷ []) (number 0 ∷ []) "missing field is not an integer"
    ∷ errs "-" (number 1 ∷ function_literal book ∷ []) (number 0 ∷ []) "'book is not an integer"
    ∷ errs "*" (number 1 ∷ missing ∷ []) (string "" ∷ []) "1 is not a string"
    ∷ errs "*" (string "a" ∷ missing ∷ []) (string "" ∷ []) "missing field is not a string"
    ∷ errs ":=" (string "a" ∷ string "b" ∷ []) [] "\"a\" is not a function"
    ∷ errs "add.period$" (missing ∷ []) (string "" ∷ []) "missing field is not a string"
    ∷ errs "change.case$" (number 1 ∷ string "Ab" ∷ []) (string "" ∷ []) "1 is not a string"
    ∷ errs "change.case$" (string "l" ∷ number 1 ∷ []) (string "" ∷ []) "1 is not a string"
    ∷ errs "chr.to.int$" (number 65 ∷ []) (number 0 ∷ []) "65 is not a string"
    ∷ errs "empty$" (number 0 ∷ []) (number 0 ∷ []) "0 is not a string or missing field"
    ∷ errs "format.name$" (number 1 ∷ string "a" ∷ string "Knuth" ∷ []) (string "" ∷ []) "1 is not a string"
    ∷ errs "format.name$" (string "{ll}" ∷ string "Knuth" ∷ number 1 ∷ []) (string "" ∷ []) "\"Knuth\" is not an integer"
    ∷ errs "format.name$" (string "{ll}" ∷ number 1 ∷ missing ∷ []) (string "" ∷ []) "missing field is not a string"
    ∷ errs "if$" (number 1 ∷ function_literal skip ∷ number 1 ∷ []) [] "1 is not a function"
    ∷ errs "if$" (function_literal skip ∷ string "a" ∷ number 1 ∷ []) [] "\"a\" is not a function"
    ∷ errs "if$" (function_literal skip ∷ function_literal skip ∷ string "a" ∷ []) [] "\"a\" is not an integer"
    ∷ errs "int.to.chr$" (string "A" ∷ []) (string "" ∷ []) "\"A\" is not an integer"
    ∷ errs "int.to.str$" (string "1" ∷ []) (string "" ∷ []) "\"1\" is not an integer"
    ∷ errs "num.names$" (missing ∷ []) (number 0 ∷ []) "missing field is not a string"
    ∷ errs "purify$" (missing ∷ []) (string "" ∷ []) "missing field is not a string"
    ∷ errs "substring$" (string "a" ∷ number 1 ∷ number 1 ∷ []) (string "" ∷ []) "\"a\" is not an integer"
    ∷ errs "substring$" (number 1 ∷ string "a" ∷ number 1 ∷ []) (string "" ∷ []) "\"a\" is not an integer"
    ∷ errs "substring$" (number 1 ∷ number 2 ∷ number 3 ∷ []) (string "" ∷ []) "3 is not a string"
    ∷ errs "text.length$" (missing ∷ []) (number 0 ∷ []) "missing field is not a string"
    ∷ errs "text.prefix$" (string "ab" ∷ number 1 ∷ []) (string "" ∷ []) "\"ab\" is not an integer"
    ∷ errs "text.prefix$" (number 1 ∷ number 2 ∷ []) (string "" ∷ []) "2 is not a string"
    ∷ errs "warning$" (number 1 ∷ []) [] "1 is not a string"
    ∷ errs "while$" (number 1 ∷ function_literal skip ∷ []) [] "1 is not a function"
    ∷ errs "while$" (function_literal skip ∷ number 1 ∷ []) [] "1 is not a function"
    ∷ errs "width$" (missing ∷ []) (number 0 ∷ []) "missing field is not a string"
    ∷ errs "write$" (missing ∷ []) [] "missing field is not a string"
    ∷ []

-- ---- the whole stack: operands that aren't there, `stack$`, and the limit of literals

-- stacks with nothing below: `=` on an empty one gives 0, and logs twice that the stack is empty
abbrev pub whole_stacks : List WorkedFunction
whole_stacks =
    finds_too_few "=" [] (number 0 ∷ []) 2
    ∷ finds_too_few ">" [] (number 0 ∷ []) 2
    ∷ finds_too_few "<" [] (number 0 ∷ []) 2
    ∷ finds_too_few "+" [] (number 0 ∷ []) 2
    ∷ finds_too_few "-" [] (number 0 ∷ []) 2
    ∷ finds_too_few "*" [] (string "" ∷ []) 2
    ∷ finds_too_few ":=" [] [] 2
    ∷ finds_too_few "add.period$" [] (string "" ∷ []) 1
    ∷ finds_too_few "change.case$" [] (string "" ∷ []) 2
    ∷ finds_too_few "chr.to.int$" [] (number 0 ∷ []) 1
    ∷ finds_too_few "duplicate$" [] [] 1
    ∷ finds_too_few "empty$" [] (number 0 ∷ []) 1
    ∷ finds_too_few "format.name$" [] (string "" ∷ []) 3
    ∷ finds_too_few "if$" [] [] 3
    ∷ finds_too_few "int.to.chr$" [] (string "" ∷ []) 1
    ∷ finds_too_few "int.to.str$" [] (string "" ∷ []) 1
    ∷ finds_too_few "num.names$" [] (number 0 ∷ []) 1
    ∷ finds_too_few "pop$" [] [] 1
    ∷ finds_too_few "purify$" [] (string "" ∷ []) 1
    ∷ finds_too_few "substring$" [] (string "" ∷ []) 3
    ∷ finds_too_few "swap$" [] [] 2
    ∷ finds_too_few "text.length$" [] (number 0 ∷ []) 1
    ∷ finds_too_few "text.prefix$" [] (string "" ∷ []) 2
    ∷ finds_too_few "top$" [] [] 1
    ∷ finds_too_few "warning$" [] [] 1
    ∷ finds_too_few "while$" [] [] 2
    ∷ finds_too_few "width$" [] (number 0 ∷ []) 1
    ∷ finds_too_few "write$" [] [] 1
    -- where one is missing, nothing is said of the others; `swap$` puts back what was there
    ∷ finds_too_few "+" (string "a" ∷ []) (number 0 ∷ []) 1
    ∷ finds_too_few "substring$" (string "a" ∷ []) (string "" ∷ []) 2
    ∷ finds_too_few "swap$" (string "a" ∷ []) (string "a" ∷ []) 1
    -- `missing$` reports the empty stack, and then that there is no entry
    ∷ logs "missing$" [] [] (error "missing$" "You can't pop an empty literal stack" ∷ error "missing$" "You can't mess with entries here" ∷ [])
    -- all literals are shown, top first
    ∷ logs "stack$" [] [] []
    ∷ logs "stack$" (number 1 ∷ string "a" ∷ missing ∷ []) [] (codes "1" ∷ codes "\"a\"" ∷ codes "missing field" ∷ [])
    -- at most 1,000 literals stand on the stack
    ∷ gives "quote$" (replicate 999 missing) (string "\"" ∷ replicate 999 missing)
    ∷ worked "quote$" (replicate 1000 missing) (replicate 1000 missing) (End Literals) [] ""
    ∷ []

-- ---- entries

-- worked functions without a current entry
abbrev pub no_entry : List WorkedFunction
no_entry =
    errs "call.type$" [] [] "You can't mess with entries here"
    ∷ errs "cite$" [] [] "You can't mess with entries here"
    ∷ errs "type$" [] [] "You can't mess with entries here"
    ∷ errs "title" [] [] "You can't mess with entries here"
    ∷ errs "rank" [] [] "You can't mess with entries here"
    ∷ errs "label" [] [] "You can't mess with entries here"
    -- `missing$` takes its literal, of whatever kind
    ∷ errs "missing$" (string "a" ∷ []) [] "You can't mess with entries here"
    ∷ errs "missing$" (number 1 ∷ []) [] "You can't mess with entries here"
    ∷ gives "count" [] (number 5 ∷ [])
    ∷ gives "line" [] (string "abc" ∷ [])
    ∷ []

-- worked functions where the book `knuth` is the current entry
abbrev pub of_knuth : List WorkedFunction
of_knuth =
    leads_to "call.type$" [] (Run book)
    ∷ gives "cite$" [] (string "knuth" ∷ [])
    ∷ gives "type$" [] (string "book" ∷ [])
    ∷ gives "title" [] (string "The {\\TeX}book" ∷ [])
    ∷ gives "year" [] (missing ∷ [])
    ∷ gives "rank" [] (number 7 ∷ [])
    ∷ gives "sort.key$" [] (string "knu" ∷ [])
    ∷ gives "label" [] (string "K84" ∷ [])
    ∷ gives "missing$" (missing ∷ []) (number 1 ∷ [])
    ∷ gives "missing$" (string "" ∷ []) (number 0 ∷ [])
    ∷ logs "missing$" (number 1 ∷ []) (number 0 ∷ []) (codes "Error--1 is not a string or missing field while executing missing$ for entry knuth" ∷ [])
    ∷ []

-- worked functions where the current entry is `Lamport`, whose type the style doesn't know
abbrev pub of_lamport : List WorkedFunction
of_lamport =
    leads_to "call.type$" [] (Run default_type)
    ∷ gives "cite$" [] (string "Lamport" ∷ [])
    ∷ gives "type$" [] (string "" ∷ [])
    ∷ []

-- the same, with `default.type` after READ: `call.type$` does nothing then
abbrev pub of_lamport_without_default : List WorkedFunction
of_lamport_without_default = gives "call.type$" [] [] ∷ []

-- ---- each row is so

-- each row holds above these further literals, which stay, in this entry
abbrev pub AreSo : Job → Option ℕ → List Literal → List WorkedFunction → Type 0
AreSo job entry below [] = Unit {0}
AreSo job entry below (row ∷ rows) =
    (seen_of row.name entry (executes_name job (named_lower style.names row.name) (store variables entry (row.before ++ below)))
    ≡ as_seen row.next row.lines row.written (store variables entry (row.after ++ below))) × AreSo job entry below rows
