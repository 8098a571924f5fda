-- Styles without a fault, as a style designer writes them: commands, one after another, each its word and its arguments in braces. Whitespace and
-- comments may stand before each thing that is read here.
use Rattle.std.specs.Prelude.{ℕ, ◌≡◌, true, false, List, [], ◌∷◌, ◌++◌, length, map, Option, None, Some}
use Rattle.btx_text.specs.language.Keys.{folded}
use Rattle.btx_bst.specs.declared.callee.Callee.{Callee}
use Rattle.btx_bst.specs.declared.callee.Kind.{Kind}
use Rattle.btx_bst.specs.declared.callee.Kind.TheVariants as kind
use Rattle.btx_bst.specs.declared.command.Command.{Command}
use Rattle.btx_bst.specs.declared.command.Command.TheVariants as command
use Rattle.btx_bst.specs.language.Places.{Place, ink}
use Rattle.btx_bst.specs.language.Reads.{Took}
use Rattle.btx_bst.specs.language.Items as item
use Rattle.btx_bst.specs.language.Items.{Item}
use Rattle.btx_bst.specs.language.Words as words
use Rattle.btx_bst.specs.language.Words.{BodyWord}
use Rattle.btx_bst.specs.language.Names.{Names, named, with_name, with_function}
use Rattle.btx_bst.specs.language.Style.{Style}
use Rattle.btx_bst.specs.language.Lists.{opening, closing, next_name, quoted_at, letters_at}
use Rattle.btx_bst.specs.language.Outcomes.{with_item}
use Rattle.btx_bst.specs.language.Commands.{command_named, function_in, has_read}
use Rattle.btx_bst.specs.language.StyleText.{StyleState, style_from}
use Rattle.btx_bst.specs.laws.Spelling.{Parts, Nothing, Plain, Group, Spells, Made, made_by}
use Rattle.btx_bst.specs.laws.ItemSpelling.{IsEnd}
use Rattle.btx_bst.specs.laws.Names.{macro_lower}

-- a command with its arguments; a body is its parts
pub data Written : Type 0 where
  Entry : (fields integers strings : List (List ℕ)) → Written
  Function : (name : List ℕ) (body : Parts) → Written
  Read : Written
  Execute : (name : List ℕ) → Written
  Iterate : (name : List ℕ) → Written
  Reverse : (name : List ℕ) → Written
  Sort : Written
  Integers : (names : List (List ℕ)) → Written
  Strings : (names : List (List ℕ)) → Written
  Macro : (name text : List ℕ) → Written

-- which of the ten commands this is, without its arguments
abbrev pub command_written : Written → Command
command_written (Entry fields integers strings) = command.Entry
command_written (Function name body) = command.Function
command_written Read = command.Read
command_written (Execute name) = command.Execute
command_written (Iterate name) = command.Iterate
command_written (Reverse name) = command.Reverse
command_written Sort = command.Sort
command_written (Integers names) = command.Integers
command_written (Strings names) = command.Strings
command_written (Macro name text) = command.Macro

-- ---- what stands between two places

-- these names, one after another, and a `}` stand between two places
abbrev pub SpellsNames : List (List ℕ) → Place → Place → Type 0
SpellsNames [] from to = closing from ≡ Took tt to
SpellsNames (name ∷ names) from to = (next : Place) × (next_name from ≡ Took name next) × SpellsNames names next to

-- a list of these names in braces stands between two places
abbrev pub SpellsList : List (List ℕ) → Place → Place → Type 0
SpellsList names from to = (inside : Place) × (opening from ≡ Took tt inside) × SpellsNames names inside to

-- a name in braces stands between two places
abbrev pub SpellsName : List ℕ → Place → Place → Type 0
SpellsName name from to = (inside : Place) × (behind : Place) × (opening from ≡ Took tt inside) × (next_name inside ≡ Took name behind)
    × (closing behind ≡ Took tt to)

-- a text in quotes, in braces, stands between two places
abbrev pub SpellsText : List ℕ → Place → Place → Type 0
SpellsText text from to = (inside : Place) × (behind : Place) × (opening from ≡ Took tt inside) × (quoted_at inside ≡ Took text behind)
    × (closing behind ≡ Took tt to)

-- a body in braces stands between two places
abbrev pub SpellsBody : Parts → Place → Place → Type 0
SpellsBody body from to = (inside : Place) × (opening from ≡ Took tt inside) × Spells body inside to

-- the arguments of a command stand between two places
abbrev pub SpellsArguments : Written → Place → Place → Type 0
SpellsArguments (Entry fields integers strings) from to = (second : Place) × (third : Place) × SpellsList fields from second × SpellsList integers second third
    × SpellsList strings third to
SpellsArguments (Function name body) from to = (second : Place) × SpellsName name from second × SpellsBody body second to
SpellsArguments Read from to = from ≡ to
SpellsArguments (Execute name) from to = SpellsName name from to
SpellsArguments (Iterate name) from to = SpellsName name from to
SpellsArguments (Reverse name) from to = SpellsName name from to
SpellsArguments Sort from to = from ≡ to
SpellsArguments (Integers names) from to = SpellsList names from to
SpellsArguments (Strings names) from to = SpellsList names from to
SpellsArguments (Macro name text) from to = (second : Place) × SpellsName name from second × SpellsText text second to

-- a command stands between two places: its word, in any case of letters, and its arguments
abbrev pub SpellsCommand : Written → Place → Place → Type 0
SpellsCommand written from to =
    (word : List ℕ) × (behind : Place) × (letters_at (ink from) ≡ Took word behind) × (command_named (folded word) ≡ Some (command_written written))
    × SpellsArguments written behind to

-- ---- what a command does where it may stand

-- these names are new, one after another: each has no meaning when its turn comes to be declared
abbrev pub AreNew : Kind → List (List ℕ) → Names → Type 0
AreNew kind [] known = Unit {0}
AreNew kind (name ∷ names) known = (named known name ≡ None) × AreNew kind names (with_name kind (folded name) known)

-- these names are declared, one after another
abbrev pub declared : Kind → List (List ℕ) → Names → Names
declared kind [] known = known
declared kind (name ∷ names) known = declared kind names (with_name kind (folded name) known)

-- a word of a body without a fault: if it is a name, that has a meaning
abbrev pub IsGoodWord : Names → BodyWord → Type 0
IsGoodWord known (words.Quoted name) = (callee : Callee) × (named known name ≡ Some callee)
IsGoodWord known (words.Name name) = (callee : Callee) × (named known name ≡ Some callee)
IsGoodWord known (words.Faulty complaint) = ⊥
IsGoodWord known _ = Unit {0}

-- a body without a fault: none of its words has one
abbrev pub IsGoodBody : Names → Parts → Type 0
IsGoodBody known Nothing = Unit {0}
IsGoodBody known (Plain line word more) = IsGoodWord known word × IsGoodBody known more
IsGoodBody known (Group inside more) = IsGoodBody known inside × IsGoodBody known more

-- what is known of a style where a body begins
abbrev pub made_in : Style → Made
made_in style = record { tokens = []; bodies = style.bodies; texts = style.texts; items = style.items }

-- a style with a further function
abbrev pub with_made_function : List ℕ → Made → Style → Style
with_made_function name made style = record style {
  names = with_function (length made.bodies) (folded name) style.names;
  bodies = made.bodies ++ made.tokens ∷ [];
  texts = made.texts;
  items = made.items ++ item.Function (length made.bodies) ∷ [];
}

-- READ stands before `style`, and `end` is `style` with the command that executes the function `name`
abbrev pub ExecutesFunction : (Callee → Item) → List ℕ → Style → Style → Type 0
ExecutesFunction item name style end = (callee : Callee) × (has_read style ≡ true) × (function_in (named style.names name) ≡ Some callee)
    × (with_item (item callee) style ≡ end)

-- the command may come after `style`, and makes `end` of it
abbrev pub MakesStyle : Written → Style → Style → Type 0
MakesStyle (Entry fields integers strings) style end =
    (style.has_entry ≡ false)
    × AreNew kind.Field fields style.names
    × AreNew kind.EntryInteger integers (declared kind.Field fields style.names)
    × AreNew kind.EntryString strings (declared kind.EntryInteger integers (declared kind.Field fields style.names))
    × (with_item item.Entry (record style {
      names = declared kind.EntryString strings
          (declared kind.EntryInteger integers (declared kind.Field fields style.names));
      has_entry = true;
    }) ≡ end)
MakesStyle (Function name body) style end =
    (named style.names name ≡ None) × IsGoodBody style.names body × (with_made_function name (made_by style.names body (made_in style)) style ≡ end)
MakesStyle Read style end = (has_read style ≡ false) × (style.has_entry ≡ true)
    × (with_item item.Read (record style { before_read = Some (length style.bodies) }) ≡ end)
MakesStyle (Execute name) style end = ExecutesFunction item.Execute name style end
MakesStyle (Iterate name) style end = ExecutesFunction item.Iterate name style end
MakesStyle (Reverse name) style end = ExecutesFunction item.Reverse name style end
MakesStyle Sort style end = (has_read style ≡ true) × (with_item item.Sort style ≡ end)
MakesStyle (Integers names) style end = AreNew kind.GlobalInteger names style.names
    × (with_item item.Integers (record style { names = declared kind.GlobalInteger names style.names }) ≡ end)
MakesStyle (Strings names) style end = AreNew kind.GlobalString names style.names
    × (with_item item.Strings (record style { names = declared kind.GlobalString names style.names }) ≡ end)
MakesStyle (Macro name text) style end =
    (has_read style ≡ false) × (macro_lower style.macros (folded name) ≡ None)
    × (with_item item.Macro (record style { macros = style.macros ++ (folded name, text) ∷ [] }) ≡ end)

-- from `from` on the text is these commands, each where it may stand, and then its end, where the style is `end`
abbrev pub IsWritten : List Written → StyleState → Style → Type 0
IsWritten [] from end = IsEnd from.place × (from.style ≡ end)
IsWritten (written ∷ more) from end = (next : StyleState) × SpellsCommand written from.place next.place × MakesStyle written from.style next.style
    × IsWritten more next end

-- ---- the laws

-- A style that is written without a fault is read as what its commands do.
abbrev pub WrittenLaw : Type 0
WrittenLaw = (commands : List Written) (from : StyleState) (end : Style) → IsWritten commands from end → style_from from ≡ end

-- the command of an item; a message has none
abbrev pub item_command : Item → Option Command
item_command (item.Message complaint line) = None
item_command item.Entry = Some command.Entry
item_command (item.Function number) = Some command.Function
item_command item.Read = Some command.Read
item_command (item.Execute callee) = Some command.Execute
item_command (item.Iterate callee) = Some command.Iterate
item_command (item.Reverse callee) = Some command.Reverse
item_command item.Sort = Some command.Sort
item_command item.Integers = Some command.Integers
item_command item.Strings = Some command.Strings
item_command item.Macro = Some command.Macro

-- a style that is written without a fault has an item for each of its commands, in order, and no message
abbrev pub FaultlessLaw : Type 0
FaultlessLaw = (commands : List Written) (from : StyleState) (end : Style) → IsWritten commands from end
    → map item_command end.items ≡ map item_command from.style.items ++ map (λ (written : Written). Some (command_written written)) commands
