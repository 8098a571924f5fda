-- Worked assignments, and worked tests of loops (btxhak, section 5.3, at `:=` and `while$`).
use Rattle.std.specs.Prelude.{ℕ, ◌≡◌, ℤ, pos, Bool, true, false, List, [], ◌∷◌, Option, None, Some, codes}
use Rattle.btx_text.specs.declared.element_kind.TextMode.TheVariants.{Bytes}
use Rattle.btx_bst.specs.declared.built_in.BuiltIn.TheVariants as built_in
use Rattle.btx_bst.specs.declared.callee.Callee.{Callee}
use Rattle.btx_bst.specs.declared.callee.Callee.TheVariants.{BuiltIn, Field, EntryInteger, EntryString, GlobalInteger, GlobalString}
use Rattle.btx_stack.specs.declared.literal.Literal.{Literal}
use Rattle.btx_step.specs.declared.next.Next.TheVariants.{Nothing}
use Rattle.btx_step.specs.language.Stores.{EntryVariables}
use Rattle.btx_step.specs.language.Control.{Tested, tested}
use Rattle.btx_step.specs.laws.WorkedStores.{job, outside_entries, Variables, values, knuth, lamport, variables, store, number, minus}
use Rattle.btx_step.specs.laws.WorkedStores.{string, function_literal, missing, skip, nameless, one_below, error, as_seen, logged_lines, executes_name, seen_of}

-- ---- `:=`

-- a variable and its new value, of which the variable stands on top; the lines of the log, and the variables after it
pub record WorkedAssignment : Type 0 where
  pub variable : Callee
  pub value : Literal
  pub lines : List (List ℕ)
  pub after : Variables

-- a worked assignment: `worked_assignment count (number 9) [] ..` stores 9 in `count`, logs nothing, and is followed by the variables after it
abbrev pub worked_assignment : Callee → Literal → List (List ℕ) → Variables → WorkedAssignment
worked_assignment variable value lines after = record { variable = variable; value = value; lines = lines; after = after }

-- the worked variables, but for the values of the global integers
abbrev pub with_integers : List ℤ → Variables
with_integers integers = record variables { integers = integers }

-- the worked variables, but for the values of the global strings
abbrev pub with_strings : List (List ℕ) → Variables
with_strings strings = record variables { strings = strings }

-- the worked variables, but for the values of the two entries
abbrev pub with_entries : EntryVariables → EntryVariables → Variables
with_entries first second = record variables { entries = first ∷ second ∷ [] }

-- the global integer `count`, which comes after `entry.max$` and `global.max$`
abbrev pub count : Callee
count = GlobalInteger 2

-- the global string `line`
abbrev pub line_variable : Callee
line_variable = GlobalString 0

-- the integer `rank` of entries
abbrev pub rank : Callee
rank = EntryInteger 0

-- the string `sort.key$` of entries
abbrev pub sort_key_variable : Callee
sort_key_variable = EntryString 0

-- the string `label` of entries
abbrev pub label : Callee
label = EntryString 1

-- the field `title`, which is no variable
abbrev pub title : Callee
title = Field 1

-- worked assignments without a current entry
abbrev pub assignments : List WorkedAssignment
assignments =
    worked_assignment count (number 9) [] (with_integers (pos 4 ∷ pos 6 ∷ pos 9 ∷ []))
    ∷ worked_assignment line_variable (string "abcdef") [] (with_strings (codes "abcdef" ∷ []))
    ∷ worked_assignment line_variable (string "abcdefg") (codes "Warning--string of 7 bytes cut to 6 while executing :=" ∷ [])
    (with_strings (codes "abcdef" ∷ []))
    ∷ worked_assignment count (string "a") (error ":=" "\"a\" is not an integer" ∷ []) variables
    ∷ worked_assignment line_variable (number 1) (error ":=" "1 is not a string" ∷ []) variables
    -- what is no variable, and a variable of an entry where there is none, are met before the value is looked at
    ∷ worked_assignment title missing (error ":=" "You can't assign to title" ∷ []) variables
    ∷ worked_assignment skip missing (error ":=" "You can't assign to skip$" ∷ []) variables
    ∷ worked_assignment nameless missing (error ":=" "You can't assign to {}" ∷ []) variables
    ∷ worked_assignment rank (string "a") (error ":=" "You can't mess with entries here" ∷ []) variables
    ∷ worked_assignment label (string "a") (error ":=" "You can't mess with entries here" ∷ []) variables
    ∷ []

-- worked assignments where the book `knuth` is the current entry
abbrev pub assignments_of_knuth : List WorkedAssignment
assignments_of_knuth =
    worked_assignment rank (number 9) [] (with_entries (values (pos 9) "knu" "K84") lamport)
    ∷ worked_assignment sort_key_variable (string "a") [] (with_entries (values (pos 7) "a" "K84") lamport)
    ∷ worked_assignment label (string "abcd") [] (with_entries (values (pos 7) "knu" "abcd") lamport)
    ∷ worked_assignment label (string "abcde") (codes "Warning--string of 5 bytes cut to 4 while executing := for entry knuth" ∷ [])
    (with_entries (values (pos 7) "knu" "abcd") lamport)
    ∷ worked_assignment rank missing (codes "Error--missing field is not an integer while executing := for entry knuth" ∷ []) variables
    ∷ []

-- worked assignments where the entry `Lamport` is the current one
abbrev pub assignments_of_lamport : List WorkedAssignment
assignments_of_lamport = worked_assignment rank (number 9) [] (with_entries knuth (values (pos 9) "" "")) ∷ []

-- each row of `:=` is so, in this entry
abbrev pub AreAssigned : Option ℕ → List WorkedAssignment → Type 0
AreAssigned entry [] = Unit {0}
AreAssigned entry (row ∷ rows) =
    (seen_of (codes ":=") entry (executes_name (job Bytes) (Some (BuiltIn built_in.Assign))
    (store variables entry (function_literal row.variable ∷ row.value ∷ one_below)))
    ≡ as_seen Nothing row.lines [] (store row.after entry one_below)) × AreAssigned entry rows

-- ---- the test of a loop

-- what the test of a `while$` left, whether the body runs, the lines of the log, and the literals after it
pub record WorkedTest : Type 0 where
  pub before : List Literal
  pub again : Bool
  pub lines : List (List ℕ)
  pub after : List Literal

-- a worked test of a loop: the literals that it left, whether the body runs, the lines of the log, and the literals after it
abbrev pub tests : List Literal → Bool → List (List ℕ) → List Literal → WorkedTest
tests before again lines after = record { before = before; again = again; lines = lines; after = after }

-- tests of a loop: with 1 on top the body runs; with 0, an integer below 0, a string or nothing the loop ends
abbrev pub loop_tests : List WorkedTest
loop_tests =
    tests (number 1 ∷ missing ∷ []) true [] (missing ∷ [])
    ∷ tests (number 0 ∷ missing ∷ []) false [] (missing ∷ [])
    ∷ tests (minus 1 ∷ missing ∷ []) false [] (missing ∷ [])
    ∷ tests (string "a" ∷ missing ∷ []) false (error "while$" "\"a\" is not an integer" ∷ []) (missing ∷ [])
    ∷ tests [] false (error "while$" "You can't pop an empty literal stack" ∷ []) []
    ∷ []

-- what is found of a test
abbrev pub TestedSo : WorkedTest → Tested → Type 0
TestedSo row t = (t.again ≡ row.again) × (logged_lines (codes "while$") None t.said ≡ row.lines) × (t.store ≡ store variables outside_entries row.after)

-- each row of a loop's test is so
abbrev pub AreTested : List WorkedTest → Type 0
AreTested [] = Unit {0}
AreTested (row ∷ rows) = TestedSo row (tested row.before (store variables outside_entries row.before)) × AreTested rows
