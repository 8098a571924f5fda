-- What clauses see of the code's values: each without where its bytes lie in memory.
use Rattle.std.specs.Prelude.{ℕ, List, [], ◌∷◌, map, Option, None, Some, Result, Ok, Err}
use Rattle.std.specs.Borrow.{Bor}
use Rattle.btx_bst.specs.language.Complaints as spec
use Rattle.btx_bst.specs.language.Items as items
use Rattle.btx_bst.specs.language.Places.{Place}
use Rattle.btx_bst.specs.language.Reads.{Read, Took, Mistake}
use Rattle.btx_bst.specs.language.Words as words
use Rattle.btx_bst.specs.language.Names.{Names}
use Rattle.btx_bst.specs.language.BodyText.{Inside, BodyEnd, Whole, Broken}
use Rattle.btx_bst.specs.language.Turns.{Turn, Again, Ends}
use Rattle.btx_bst.specs.language.Lists.{Listing, listing, Listed, listed}
use Rattle.btx_bst.specs.declared.turn.Turn.{Turn as OneTurn}
use Rattle.btx_bst.specs.declared.turn.Turn.TheVariants as turn
use Rattle.btx_bst.specs.declared.callee.Callee.{Callee}
use Rattle.btx_bst.specs.declared.command.Command.{Command}
use Rattle.btx_bst.specs.declared.command.Command.TheVariants as command
use Rattle.btx_bst.specs.declared.word.Word.{Word}
use Rattle.btx_bst.specs.declared.word.Word.TheVariants as word
use Rattle.btx_bst.specs.declared.complaint.Complaint.{Complaint}
use Rattle.btx_bst.specs.declared.complaint.Complaint.TheVariants as complaint
use Rattle.btx_bst.specs.declared.item.Item.{Item}
use Rattle.btx_bst.specs.declared.item.Item.TheVariants as item
use Rattle.btx_bst.specs.declared.token.Token.{Token}
use Rattle.btx_bst.specs.refinement.Bodies.{FunctionBody}

abbrev pub complaint_view : Complaint → spec.Complaint
complaint_view complaint.NoCommand = spec.NoCommand
complaint_view (complaint.NotCommand name) = spec.NotCommand name.now
complaint_view complaint.NoOpen = spec.NoOpen
complaint_view complaint.NoClose = spec.NoClose
complaint_view complaint.NoName = spec.NoName
complaint_view (complaint.Defined name) = spec.Defined name.now
complaint_view (complaint.Unknown name) = spec.Unknown name.now
complaint_view complaint.BadInteger = spec.BadInteger
complaint_view complaint.TextAfter = spec.TextAfter
complaint_view complaint.NoQuoteEnd = spec.NoQuoteEnd
complaint_view (complaint.Another command) = spec.Another command
complaint_view (complaint.BeforeRead command) = spec.BeforeRead command
complaint_view complaint.BeforeEntry = spec.BeforeEntry
complaint_view complaint.AfterRead = spec.AfterRead
complaint_view complaint.NoQuote = spec.NoQuote
complaint_view complaint.EndOfFile = spec.EndOfFile

abbrev pub item_view : Item → items.Item
item_view (item.Message message) = items.Message (complaint_view message.complaint) message.line
item_view item.Entry = items.Entry
item_view (item.Function number) = items.Function number
item_view item.Read = items.Read
item_view (item.Execute callee) = items.Execute callee
item_view (item.Iterate callee) = items.Iterate callee
item_view (item.Reverse callee) = items.Reverse callee
item_view item.Sort = items.Sort
item_view item.Integers = items.Integers
item_view item.Strings = items.Strings
item_view item.Macro = items.Macro

abbrev pub items_view : List Item → List items.Item
items_view items = map item_view items

-- strings that stand in the style's text
abbrev pub texts_view : List (Bor (List ℕ)) → List (List ℕ)
texts_view texts = map (λ (text : Bor (List ℕ)). text.now) texts

abbrev pub word_view : Word → words.BodyWord
word_view word.Open = words.Open
word_view word.Close = words.Close
word_view (word.String text) = words.String text.now
word_view (word.Integer value) = words.Integer value
word_view (word.Quoted name) = words.Quoted name.now
word_view (word.Name name) = words.Name name.now
word_view (word.Faulty complaint) = words.Faulty (complaint_view complaint)
word_view word.Unended = words.Unended
word_view word.Ended = words.Ended

-- what a reading of nothing but its place comes to
abbrev pub read_unit : Result (Unit {0}) Complaint → Place → Read (Unit {0})
read_unit (Ok x) place = Took tt place
read_unit (Err complaint) place = Mistake (complaint_view complaint) place

-- what the reading of a text comes to
abbrev pub read_text : Result (Bor (List ℕ)) Complaint → Place → Read (List ℕ)
read_text (Ok text) place = Took text.now place
read_text (Err complaint) place = Mistake (complaint_view complaint) place

-- how a list ended
abbrev pub listed_view : Option Complaint → Names → Place → Listed
listed_view None names place = listed None names place
listed_view (Some complaint) names place = listed (Some (complaint_view complaint)) names place

-- what follows something in a list
abbrev pub list_turn_view : OneTurn → Names → Place → Turn Listing Listed
list_turn_view turn.Again names place = Again (listing names place)
list_turn_view turn.Whole names place = Ends (listed None names place)
list_turn_view (turn.Broken complaint) names place = Ends (listed (Some (complaint_view complaint)) names place)

-- the functions whose bodies are being read: the tokens of the innermost one, and those of the functions round it
pub record OpenBodies (T : Type 0) : Type 0 where
  pub tokens : List T
  pub around : List (List T)

abbrev pub open_bodies : {T : Type 0} → List T → List (List T) → OpenBodies T
open_bodies tokens around = record { tokens = tokens; around = around }

-- the functions round the innermost one, without it
abbrev pub left_alone : {T : Type 0} → List (List T) → OpenBodies T
left_alone [] = open_bodies [] []
left_alone (outer ∷ around) = open_bodies outer around

-- what is known inside a body
abbrev pub inside_of_reader : Place → OpenBodies Token → List FunctionBody → List (List ℕ) → List items.Item → Inside
inside_of_reader place o bodies texts items = record { place = place; tokens = o.tokens; around = o.around; bodies = bodies; texts = texts; items = items }

abbrev pub inside_view : Place → OpenBodies Token → List FunctionBody → List (Bor (List ℕ)) → List Item → Inside
inside_view place o bodies texts items = inside_of_reader place o bodies (texts_view texts) (items_view items)

-- how a body ended
abbrev pub body_end_view : Option Complaint → Inside → BodyEnd
body_end_view None inside = Whole inside
body_end_view (Some complaint) inside = Broken (complaint_view complaint) inside

-- what follows a word of a body
abbrev pub body_turn_view : OneTurn → Inside → Turn Inside BodyEnd
body_turn_view turn.Again inside = Again inside
body_turn_view turn.Whole inside = Ends (Whole inside)
body_turn_view (turn.Broken complaint) inside = Ends (Broken (complaint_view complaint) inside)

-- the item of a command that executes a function
abbrev pub run_item : Command → Callee → items.Item
run_item command.Iterate callee = items.Iterate callee
run_item command.Reverse callee = items.Reverse callee
run_item _ callee = items.Execute callee
