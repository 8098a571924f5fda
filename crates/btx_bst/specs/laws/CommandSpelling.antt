-- How the commands of a style are spelled, with their faults: a relation between what is known at a place and what a command comes to from there.
-- A command is its word and its arguments; the first thing that is wrong ends it, and then all is skipped up to the next empty line.
use Rattle.std.specs.Prelude.{ℕ, ◌+◌, ◌≡◌, ◌⊎◌, ◌||◌, ◌==◌, Bool, true, false, List, [], ◌∷◌, ◌++◌, length, Option, None, Some}
use Rattle.btx_text.specs.language.Class.{begins_name}
use Rattle.btx_text.specs.language.Keys.{folded}
use Rattle.btx_bst.specs.declared.callee.Callee.{Callee}
use Rattle.btx_bst.specs.declared.callee.Kind.{Kind}
use Rattle.btx_bst.specs.declared.callee.Kind.TheVariants as kind
use Rattle.btx_bst.specs.declared.command.Command.{Command}
use Rattle.btx_bst.specs.declared.command.Command.TheVariants.{Entry, Function, Read, Execute, Iterate, Reverse, Sort, Integers, Strings, Macro}
use Rattle.btx_bst.specs.language.Places.{Place, place_at}
use Rattle.btx_bst.specs.language.Reads.{Took, Mistake}
use Rattle.btx_bst.specs.language.Complaints.{Complaint, NotCommand, NoOpen, NoClose, NoName, Defined, Unknown, Another, BeforeRead, BeforeEntry, AfterRead}
use Rattle.btx_bst.specs.language.Items as item
use Rattle.btx_bst.specs.language.Items.{Item}
use Rattle.btx_bst.specs.language.Names.{Names, named}
use Rattle.btx_bst.specs.language.Style.{Style}
use Rattle.btx_bst.specs.language.CommandWords.{command_word_of}
use Rattle.btx_bst.specs.language.Lists.{Listed, listed}
use Rattle.btx_bst.specs.language.Outcomes.{CommandOutcome, outcome, with_item}
use Rattle.btx_bst.specs.language.Commands.{has_read, function_in}
use Rattle.btx_bst.specs.language.Predefined.{predefined}
use Rattle.btx_bst.specs.language.StyleText.{StyleState, style_state, style_of}
use Rattle.btx_bst.specs.laws.Spelling.{Parts, Fragment, complaint_in, made_by, made_till}
use Rattle.btx_bst.specs.laws.ItemSpelling.{AreFull}
use Rattle.btx_bst.specs.laws.Written.{AreNew, declared, made_in, with_made_function}
use Rattle.btx_bst.specs.laws.TokenSpelling.{StyleGrammar, Gap, BehindGap, IsMissing, StyleSignHere, StyleNameHere, TextHere, LettersHere}
use Rattle.btx_bst.specs.laws.WordSpelling.{AreParts, BreakOff}
use Rattle.btx_bst.specs.laws.StyleText.{unread_style}
use Rattle.btx_bst.specs.laws.Names.{macro_lower}
use Rattle.btx_bst.specs.laws.Places.{beginning}
use Rattle.btx_text.specs.laws.Bytes.{open_brace, close_brace}

-- how a command goes on: a relation between the style so far, the place, and the outcome of the command
abbrev pub Rule : Type 1
Rule = Style → Place → CommandOutcome → Type 0

-- ---- how rules are made

-- what `R` spells stands here, and `rest` follows, given what was read; or what is wrong in it ends the command
abbrev pub AndThen : {A : Type 0} → StyleGrammar A → (A → Rule) → Rule
AndThen {A} R rest style from o =
    ((a : A) × (to : Place) × R from (Took a to) × rest a style to o)
    ⊎ ((complaint : Complaint) × (to : Place) × R from (Mistake complaint to) × (o ≡ outcome (Some complaint) style to))

-- a `{` stands here, and `rest` says how the command goes on. (`none` is the value of a brace, `tt`, which isn't used; it isn't the `None` of an option)
abbrev pub Opened : Rule → Rule
Opened rest = AndThen (BehindGap (StyleSignHere open_brace NoOpen)) (λ none. rest)

-- a `}` stands here, and `rest` says how the command goes on
abbrev pub Closed : Rule → Rule
Closed rest = AndThen (BehindGap (StyleSignHere close_brace NoClose)) (λ none. rest)

-- `test` holds of the style so far, and `rest` follows; or it doesn't, and the complaint is `wrong`
abbrev pub Where : (Style → Bool) → Complaint → Rule → Rule
Where test wrong rest style from o = ((test style ≡ true) × rest style from o) ⊎ ((test style ≡ false) × (o ≡ outcome (Some wrong) style from))

-- `test` holds of the style so far, and the complaint is `wrong`; or it doesn't, and `rest` follows
abbrev pub Unless : (Style → Bool) → Complaint → Rule → Rule
Unless test wrong rest style from o = ((test style ≡ true) × (o ≡ outcome (Some wrong) style from)) ⊎ ((test style ≡ false) × rest style from o)

-- the style so far has no `meaning` for a name, and `rest` follows; or it has one, and the complaint is `wrong`
abbrev pub New : {A : Type 0} → (Style → Option A) → Complaint → Rule → Rule
New {A} meaning wrong rest style from o =
    ((meaning style ≡ None) × rest style from o) ⊎ ((old : A) × (meaning style ≡ Some old) × (o ≡ outcome (Some wrong) style from))

-- the style so far has a `meaning` for a name, and `rest` follows, given that; or it has none, and the complaint is `wrong`
abbrev pub HasMeaning : {A : Type 0} → (Style → Option A) → Complaint → (A → Rule) → Rule
HasMeaning {A} meaning wrong rest style from o =
    ((a : A) × (meaning style ≡ Some a) × rest a style from o) ⊎ ((meaning style ≡ None) × (o ≡ outcome (Some wrong) style from))

-- nothing further stands: the command takes effect, and `change` says what it makes of the style so far
abbrev pub Makes : (Style → Style) → Rule
Makes change style from o = o ≡ outcome None (change style) from

-- ---- lists of names

-- names, one after another
abbrev pub AreNames : List (List ℕ) → Place → Place → Type 0
AreNames [] from to = from ≡ to
AreNames (name ∷ names) from to = (next : Place) × BehindGap StyleNameHere from (Took name next) × AreNames names next to

-- a byte that may stand in a list of names: its `}`, or one with which a name begins
abbrev pub is_list_byte : ℕ → Bool
is_list_byte b = b == close_brace || begins_name b

-- what ends a list: its `}`; something that is neither that nor a name; or a name that has a meaning
abbrev pub EndsList : Names → Place → Listed → Type 0
EndsList known from l =
    ((to : Place) × BehindGap (StyleSignHere close_brace NoClose) from (Took tt to) × (l ≡ listed None known to))
    ⊎ (((complaint : Complaint) × (to : Place) × Gap from to × IsMissing is_list_byte NoName complaint to.line × (l ≡ listed (Some complaint) known to))
    ⊎ ((name : List ℕ) × (to : Place) × (old : Callee) × BehindGap StyleNameHere from (Took name to) × (named known name ≡ Some old)
    × (l ≡ listed (Some (Defined name)) known to)))

-- the inside of a list: names that are all new, which are declared, and its end
abbrev pub InList : Kind → Names → Place → Listed → Type 0
InList kind known from l = (names : List (List ℕ)) × (end : Place) × AreNames names from end × AreNew kind names known
    × EndsList (declared kind names known) end l

-- a list of names in braces, and the rest; where a list has a fault, the names before it stay
abbrev pub Lists : Kind → Rule → Rule
Lists kind rest = Opened (λ style from o.
    ((known : Names) × (to : Place) × InList kind style.names from (listed None known to) × rest (record style { names = known }) to o)
    ⊎ ((complaint : Complaint) × (known : Names) × (to : Place) × InList kind style.names from (listed (Some complaint) known to)
    × (o ≡ outcome (Some complaint) (record style { names = known }) to)))

-- ---- bodies

-- a body up to its `}`, which defines a function; or one that breaks off, of which the messages stay
abbrev pub HasBody : List ℕ → Rule
HasBody name style from o =
    ((parts : Parts) × (to : Place) × AreParts parts from to
    × (o ≡ outcome None (with_made_function name (made_by style.names parts (made_in style)) style) to))
    ⊎ ((fragment : Fragment) × (to : Place) × BreakOff fragment from to
    × (o ≡ outcome (Some (complaint_in fragment)) (record style { items = (made_till style.names fragment (made_in style)).items }) to))

-- ---- the commands

-- a function is executed: only after READ
abbrev pub Executes : Command → (Callee → Item) → Rule
Executes command item =
    Where has_read (BeforeRead command) (Opened (AndThen (BehindGap StyleNameHere) (λ name.
    HasMeaning (λ style. function_in (named style.names name)) (Unknown name) (λ callee. Closed (Makes (with_item (item callee)))))))

-- what comes after the word of each command, and what the command makes of the style so far
abbrev pub Behind : Command → Rule
Behind Entry = Unless (λ style. style.has_entry) (Another Entry) (Lists kind.Field (Lists kind.EntryInteger (Lists kind.EntryString
    (Makes (λ style. with_item item.Entry (record style { has_entry = true }))))))
Behind Function = Opened (AndThen (BehindGap StyleNameHere) (λ name. New (λ style. named style.names name) (Defined name) (Closed (Opened (HasBody name)))))
Behind Read = Unless has_read (Another Read) (Where (λ style. style.has_entry) BeforeEntry
    (Makes (λ style. with_item item.Read (record style { before_read = Some (length style.bodies) }))))
Behind Execute = Executes Execute item.Execute
Behind Iterate = Executes Iterate item.Iterate
Behind Reverse = Executes Reverse item.Reverse
Behind Sort = Where has_read (BeforeRead Sort) (Makes (with_item item.Sort))
Behind Integers = Lists kind.GlobalInteger (Makes (with_item item.Integers))
Behind Strings = Lists kind.GlobalString (Makes (with_item item.Strings))
Behind Macro = Unless has_read AfterRead (Opened (AndThen (BehindGap StyleNameHere) (λ name.
    New (λ style. macro_lower style.macros (folded name)) (Defined name) (Closed (Opened (AndThen (BehindGap TextHere) (λ text.
    Closed (Makes (λ style. with_item item.Macro (record style { macros = style.macros ++ (folded name, text) ∷ [] }))))))))))

-- letters are the word of a command in any case
abbrev pub IsWordOf : Command → List ℕ → Type 0
IsWordOf command letters = folded letters ≡ folded (command_word_of command)

-- letters that are the word of a command, and what comes after it; or they are the word of none
abbrev pub Named : List ℕ → Rule
Named letters style from o =
    ((command : Command) × IsWordOf command letters × Behind command style from o)
    ⊎ (((command : Command) → IsWordOf command letters → ⊥) × (o ≡ outcome (Some (NotCommand letters)) style from))

-- a command, from its first letter on: its word and its arguments, or what is wrong in them
abbrev pub CommandHere : Rule
CommandHere = AndThen LettersHere Named

-- ---- styles

-- what is skipped after a fault: the rest of its line, and the lines up to the next empty one, with it, or up to the end
abbrev pub Skips : Place → Place → Type 0
Skips from to = (lines : List (List ℕ)) × AreFull lines ×
    (((after : List (List ℕ)) × (from.after ≡ lines ++ [] ∷ after) × (to ≡ place_at (from.number + length lines + 1) [] after))
    ⊎ ((from.after ≡ lines) × (to ≡ place_at (from.number + length lines) [] [])))

-- how far the reading has come where the next command is looked for: directly after a command without a fault; after one with a fault what is
-- skipped lies between, and the message has the line of the fault
abbrev pub GoesOn : Option Complaint → Style → Place → StyleState → Type 0
GoesOn None style place next = next ≡ style_state style place
GoesOn (Some complaint) style place next = (to : Place) × Skips place to × (next ≡ style_state (with_item (item.Message complaint place.number) style) to)

-- from `from` on the text is commands that have these outcomes, one after another, and then its end, where the style is `end`
abbrev pub IsStyle : List CommandOutcome → StyleState → Style → Type 0
IsStyle [] from end = (to : Place) × Gap from.place to × (to.line ≡ []) × (from.style ≡ end)
IsStyle (o ∷ more) from end =
    (here : Place) × (next : StyleState) × Gap from.place here × (here.line ≡ [] → ⊥) × CommandHere from.style here o
    × GoesOn o.complaint o.style o.place next × IsStyle more next end

-- ---- the laws

-- The style of each text is what its commands come to.
abbrev pub ReadingLaw : Type 0
ReadingLaw = (file text : List ℕ) → (commands : List CommandOutcome) × IsStyle commands (style_state (unread_style file predefined) (beginning text))
    (style_of file text)

-- A text has one reading: nothing that stands in it can be read as anything else.
abbrev pub OneReadingLaw : Type 0
OneReadingLaw = (from : StyleState) (first second : List CommandOutcome) (a b : Style) → IsStyle first from a → IsStyle second from b
    → (first ≡ second) × (a ≡ b)
