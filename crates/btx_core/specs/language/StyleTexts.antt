-- How a style is written (btxhak, sections 5.1 and 5.2). A text is commands, one after another, each its word and its arguments. Whitespace and
-- comments may stand before each thing. What is wrong ends a command, and then all is skipped up to the first empty line below the line of the mistake. A line
-- of whitespace alone is empty; one with a comment isn't.
-- `Place`, `Gap` and the spelling of names, words and bodies are those of `TokenSpelling` and `WordSpelling`.
use Rattle.btx_bst.specs.declared.callee.Kind.{Kind}
use Rattle.btx_bst.specs.language.BuiltIns.{built_in_of}
use Rattle.btx_bst.specs.language.Complaints.{AfterRead, Another, BeforeEntry, BeforeRead, Complaint, NoClose, NoName, NoOpen, NotCommand, Unknown}
use Rattle.btx_bst.specs.language.MessageTexts.{complaint_line}
use Rattle.btx_bst.specs.language.Places.{Place}
use Rattle.btx_bst.specs.language.Reads.{Mistake, Took}
use Rattle.btx_bst.specs.language.Words.{BodyWord}
use Rattle.btx_bst.specs.laws.CommandSpelling.{IsWordOf, Skips}
use Rattle.btx_bst.specs.laws.Places.{beginning}
use Rattle.btx_bst.specs.laws.Spelling.{After, AfterGroup, Fragment, Group, Here, Inner, Nothing, Parts, Plain, complaint_in}
use Rattle.btx_bst.specs.laws.TokenSpelling.{BehindGap, Gap, IsMissing, LettersHere, StyleGrammar, StyleNameHere, StyleSignHere, TextHere}
use Rattle.btx_bst.specs.laws.WordSpelling.{BreakOff}
use Rattle.btx_core.specs.language.Styles.{Body, Built, Command, Declared, Defined, Empty, Execute, Function, Integer, Iterate, Push, Quoted, Read, Reverse}
use Rattle.btx_core.specs.language.Styles.{Run, Says, Sort, Style, Text, Then, set}
use Rattle.btx_text.specs.language.Class.{begins_name}
use Rattle.btx_text.specs.language.Keys.{folded}
use Rattle.btx_text.specs.language.Lists.{only_if}
use Rattle.btx_text.specs.laws.Bytes.{close_brace, open_brace}
use Rattle.std.specs.Map.{lookup}
use Rattle.std.specs.Option.{option_map, option_map_or, option_or}
use Rattle.std.specs.Prelude.{Bool, List, None, Option, Some, [], codes, false, is_none, is_some, map, not, option_and_then, true, unwrap_or, ℕ, ◌++◌, ◌==◌}
use Rattle.std.specs.Prelude.{◌||◌, ◌∷◌, ◌≡◌, ◌⊎◌}
use Rattle.std.specs.Str.{bytes_eq}
use Rattle.btx_bst.specs.declared.callee.Kind.TheVariants as kind
use Rattle.btx_bst.specs.declared.command.Command.TheVariants as command
use Rattle.btx_bst.specs.language.Words as words
use Rattle.btx_bst.specs.declared.command.Command.{Command as CommandName}
use Rattle.btx_bst.specs.laws.WordSpelling.{AreParts as AreBodyParts}
use Rattle.btx_bst.specs.language.Complaints.{Defined as NameTaken}

-- a style as far as it has been read: what each name names that it has declared, in lower case; its commands and macros; whether ENTRY has stood there, and
-- with READ the functions that stood before it
pub record SoFar : Type 0 where
  pub file : List ℕ
  pub names : List ℕ → Option Function
  pub commands : List Command
  pub macros : List (List ℕ × List ℕ)
  pub has_entry : Bool
  pub types : Option (List ℕ → Option Function)

-- what a name names, in any case of letters: a built-in function, or what the style has declared
abbrev pub meaning : SoFar → List ℕ → Option Function
meaning style name = option_or (option_map Built (built_in_of (folded name))) (style.names (folded name))

-- the style before anything of it is read: a field, an entry's string and two global integers have names
abbrev pub initial_style : List ℕ → SoFar
initial_style file = record {
  file = file;
  names = set (codes "crossref") (Some (Declared kind.Field (codes "crossref"))) (
      set (codes "sort.key$") (Some (Declared kind.EntryString (codes "sort.key$"))) (
      set (codes "global.max$") (Some (Declared kind.GlobalInteger (codes "global.max$"))) (
      set (codes "entry.max$") (Some (Declared kind.GlobalInteger (codes "entry.max$"))) (λ name. None))));
  commands = [];
  macros = [];
  has_entry = false;
  types = None;
}

-- a style with a further command
abbrev pub and_command : Command → SoFar → SoFar
and_command command style = record style { commands = style.commands ++ command ∷ [] }

-- a style with a further name, which names this
abbrev pub and_name : List ℕ → Function → SoFar → SoFar
and_name name f style = record style { names = set (folded name) (Some f) style.names }

-- a style with these messages, each at its line
abbrev pub and_says : List (Complaint × ℕ) → SoFar → SoFar
and_says said style = record style { commands = style.commands ++ map (λ (s : Complaint × ℕ). Says (complaint_line s.0 s.1 style.file)) said }

-- ---- how a command goes on

-- what a command comes to: what is wrong, if something is, the style with it, and the place where it ends or the fault is met
pub record CommandEnd : Type 0 where
  pub wrong : Option Complaint
  pub style : SoFar
  pub place : Place

-- the end of a command, of its three parts
abbrev pub ended_at : Option Complaint → SoFar → Place → CommandEnd
ended_at wrong style place = record { wrong = wrong; style = style; place = place }

-- how a command goes on: a relation between the style so far, a place, and what the command comes to
abbrev pub Rule : Type 1
Rule = SoFar → Place → CommandEnd → Type 0

-- what `R` spells stands here, after whitespace, and `rest` follows; or what is wrong in it ends the command
abbrev pub Next : {A : Type 0} → StyleGrammar A → (A → Rule) → Rule
Next {A} R rest style from o =
    ((a : A) × (to : Place) × BehindGap R from (Took a to) × rest a style to o)
    ⊎ ((wrong : Complaint) × (to : Place) × BehindGap R from (Mistake wrong to) × (o ≡ ended_at (Some wrong) style to))

-- a `{` stands here, and `rest` says how the command goes on
abbrev pub Opened : Rule → Rule
Opened rest = Next (StyleSignHere open_brace NoOpen) (λ none. rest)

-- a `}` stands here, and `rest` says how the command goes on
abbrev pub Closed : Rule → Rule
Closed rest = Next (StyleSignHere close_brace NoClose) (λ none. rest)

-- something holds of the style so far; or it doesn't, and that is wrong
abbrev pub Requires : (SoFar → Bool) → Complaint → Rule → Rule
Requires test wrong rest style from o = ((test style ≡ true) × rest style from o) ⊎ ((test style ≡ false) × (o ≡ ended_at (Some wrong) style from))

-- the command takes effect
abbrev pub HasEffect : (SoFar → SoFar) → Rule
HasEffect change style from o = o ≡ ended_at None (change style) from

-- ---- names and lists of names

-- the inside of a list of names, up to its `}`: each name is new, and is declared as one of the kind. What is wrong is that something else stands there, or
-- that a name has a meaning already; the names before it stay (in the original a name before a wrong byte, as in `{a, b}`, isn't declared)
abbrev pub Names : Kind → List (List ℕ) → Rule → Rule
Names kind [] rest style from o =
    ((to : Place) × BehindGap (StyleSignHere close_brace NoClose) from (Took tt to) × rest style to o)
    ⊎ (((wrong : Complaint) × (to : Place) × Gap from to × IsMissing (λ b. b == close_brace || begins_name b) NoName wrong to.line
    × (o ≡ ended_at (Some wrong) style to))
    ⊎ ((name : List ℕ) × (to : Place) × BehindGap StyleNameHere from (Took name to) × (is_some (meaning style name) ≡ true)
    × (o ≡ ended_at (Some (NameTaken name)) style to)))
Names kind (name ∷ names) rest style from o =
    (to : Place) × BehindGap StyleNameHere from (Took name to) × (is_some (meaning style name) ≡ false)
    × Names kind names rest (and_name name (Declared kind (folded name)) style) to o

-- a list of names in braces
abbrev pub Lists : Kind → Rule → Rule
Lists kind rest = Opened (λ style from o. (names : List (List ℕ)) × Names kind names rest style from o)

-- ---- bodies

-- a word and then the rest of its body: a name that means nothing and a faulty literal are left out
abbrev pub and_word : (List ℕ → Option Function) → BodyWord → Body → Body
and_word means (words.String text) more = Then (Push (Text text)) more
and_word means (words.Integer n) more = Then (Push (Integer n)) more
and_word means (words.Quoted name) more = option_map_or (λ (f : Function). Then (Push (Quoted f)) more) (means name) more
and_word means (words.Name name) more = option_map_or (λ (f : Function). Then (Run f) more) (means name) more
and_word means _ more = more

-- the body of the parts that stand there; a nameless function in braces is pushed
abbrev pub body_of : (List ℕ → Option Function) → Parts → Body
body_of means Nothing = Empty
body_of means (Plain line word more) = and_word means word (body_of means more)
body_of means (Group inside more) = Then (Push (Quoted (Defined (codes "{}") (body_of means inside)))) (body_of means more)

-- what is wrong in a word, with its line: a name that means nothing, or a faulty literal
abbrev pub wrong_in_word : (List ℕ → Option Function) → ℕ → BodyWord → List (Complaint × ℕ)
wrong_in_word means line (words.Quoted name) = only_if (is_none (means name)) (Unknown name, line)
wrong_in_word means line (words.Name name) = only_if (is_none (means name)) (Unknown name, line)
wrong_in_word means line (words.Faulty wrong) = (wrong, line) ∷ []
wrong_in_word means line _ = []

-- what is wrong in the words of a body, each with its line
abbrev pub wrong_in : (List ℕ → Option Function) → Parts → List (Complaint × ℕ)
wrong_in means Nothing = []
wrong_in means (Plain line word more) = wrong_in_word means line word ++ wrong_in means more
wrong_in means (Group inside more) = wrong_in means inside ++ wrong_in means more

-- what is wrong in the words of a body up to where it breaks off
abbrev pub wrong_till : (List ℕ → Option Function) → Fragment → List (Complaint × ℕ)
wrong_till means (Here wrong) = []
wrong_till means (After line word more) = wrong_in_word means line word ++ wrong_till means more
wrong_till means (AfterGroup inside more) = wrong_in means inside ++ wrong_till means more
wrong_till means (Inner inside) = wrong_till means inside

-- a body up to its `}`, which defines the function of a name; or one that breaks off, of which the messages stay. A string that isn't closed on its line
-- breaks a body off, and there is no such function (the original leaves the string out)
abbrev pub HasBody : List ℕ → Rule
HasBody name style from o =
    ((parts : Parts) × (to : Place) × AreBodyParts parts from to
    × (o ≡ ended_at None (and_name name (Defined (folded name) (body_of (meaning style) parts)) (and_says (wrong_in (meaning style) parts) style)) to))
    ⊎ ((fragment : Fragment) × (to : Place) × BreakOff fragment from to
    × (o ≡ ended_at (Some (complaint_in fragment)) (and_says (wrong_till (meaning style) fragment) style) to))

-- ---- the commands

-- what is a function, and no field or variable
abbrev pub is_function : Function → Bool
is_function (Declared kind name) = false
is_function f = true

-- the functions of the style among what names name: entries may have them as types
abbrev pub as_type : Function → Option Function
as_type (Defined name body) = Some (Defined name body)
as_type f = None

-- READ has stood there
abbrev pub is_read : SoFar → Bool
is_read style = is_some style.types

-- the name of a function, in braces: it is executed, which only goes after READ
abbrev pub Executes : CommandName → (Function → Command) → Rule
Executes command made =
    Requires is_read (BeforeRead command) (Opened (Next StyleNameHere (λ name style from o.
    ((f : Function) × (meaning style name ≡ Some f) × (is_function f ≡ true) × Closed (HasEffect (and_command (made f))) style from o)
    ⊎ (((f : Function) → meaning style name ≡ Some f → is_function f ≡ true → ⊥) × (o ≡ ended_at (Some (Unknown name)) style from)))))

-- what comes after the word of each command, and what the command makes of the style so far. A faulty ENTRY doesn't count as one (in the original it
-- does), but the names that it declared stand
abbrev pub Arguments : CommandName → Rule
Arguments command.Entry = Requires (λ style. not style.has_entry) (Another command.Entry) (Lists kind.Field (Lists kind.EntryInteger (Lists kind.EntryString
    (HasEffect (λ style. record style { has_entry = true })))))
Arguments command.Function = Opened (Next StyleNameHere (λ name. Requires (λ style. is_none (meaning style name)) (NameTaken name) (Closed (Opened (HasBody name)))))
Arguments command.Read = Requires (λ style. not (is_read style)) (Another command.Read) (Requires (λ style. style.has_entry) BeforeEntry
    (HasEffect (λ style. and_command Read (record style { types = Some (λ name. option_and_then as_type (style.names name)) }))))
Arguments command.Execute = Executes command.Execute Execute
Arguments command.Iterate = Executes command.Iterate Iterate
Arguments command.Reverse = Executes command.Reverse Reverse
Arguments command.Sort = Requires is_read (BeforeRead command.Sort) (HasEffect (and_command Sort))
Arguments command.Integers = Lists kind.GlobalInteger (HasEffect (λ style. style))
Arguments command.Strings = Lists kind.GlobalString (HasEffect (λ style. style))
Arguments command.Macro = Requires (λ style. not (is_read style)) AfterRead (Opened (Next StyleNameHere (λ name.
    Requires (λ style. is_none (lookup (bytes_eq (folded name)) style.macros)) (NameTaken name) (Closed (Opened (Next TextHere (λ text.
    Closed (HasEffect (λ style. record style { macros = style.macros ++ (folded name, text) ∷ [] })))))))))

-- the word of a command in any case, and what comes after it; or a word of none
abbrev pub CommandNamed : List ℕ → Rule
CommandNamed letters style from o =
    ((command : CommandName) × IsWordOf command letters × Arguments command style from o)
    ⊎ (((command : CommandName) → IsWordOf command letters → ⊥) × (o ≡ ended_at (Some (NotCommand letters)) style from))

-- ---- styles

-- where the next command is looked for: after a command; after what is skipped, if something was wrong, which is said at its line
abbrev pub FollowsOn : CommandEnd → Option Complaint → SoFar → Place → Type 0
FollowsOn o None style place = (style ≡ o.style) × (place ≡ o.place)
FollowsOn o (Some wrong) style place = Skips o.place place × (style ≡ and_says ((wrong, o.place.number) ∷ []) o.style)

-- from a place on the text is commands that come to this, one after another, and then its end, where the style is `end` (a byte-order mark is no whitespace, in
-- the original neither)
abbrev pub AreCommands : List CommandEnd → SoFar → Place → SoFar → Type 0
AreCommands [] style from end = (to : Place) × Gap from to × (to.line ≡ []) × (end ≡ style)
AreCommands (o ∷ more) style from end =
    (here : Place) × Gap from here × (here.line ≡ [] → ⊥) × Next LettersHere CommandNamed style here o
    × (next : SoFar) × (place : Place) × FollowsOn o o.wrong next place × AreCommands more next place end

-- what a name names is a field
abbrev pub is_a_field : Option Function → Bool
is_a_field (Some (Declared kind.Field name)) = true
is_a_field _ = false

-- the style whose file has this name and this text
abbrev pub IsStyle : List ℕ → List ℕ → Style → Type 0
IsStyle file text style = (commands : List CommandEnd) × (end : SoFar) × AreCommands commands (initial_style file) (beginning text) end × (style ≡ record {
  commands = end.commands;
  is_field = λ name. is_a_field (end.names name);
  macros = end.macros;
  types = unwrap_or end.types (λ name. None);
})
