-- The commands of a style.
use Rattle.std.specs.Prelude.{ℕ, Bool, true, is_some, List, [], ◌∷◌, ◌++◌, length, Option, None, Some, codes, if◌then◌else◌}
use Rattle.std.specs.Str.{bytes_eq}
use Rattle.btx_text.specs.language.Keys.{folded}
use Rattle.btx_bst.specs.declared.callee.Callee.{Callee}
use Rattle.btx_bst.specs.declared.callee.Callee.TheVariants.{User, BuiltIn}
use Rattle.btx_bst.specs.declared.callee.Kind.{Kind}
use Rattle.btx_bst.specs.declared.callee.Kind.TheVariants as kind
use Rattle.btx_bst.specs.declared.command.Command.{Command}
use Rattle.btx_bst.specs.declared.command.Command.TheVariants as command
use Rattle.btx_bst.specs.language.Places.{Place}
use Rattle.btx_bst.specs.language.Complaints.{Complaint, Defined, Unknown, Another, BeforeRead, BeforeEntry, AfterRead}
use Rattle.btx_bst.specs.language.Items.{Item, Entry, Function, Read, Execute, Iterate, Reverse, Sort, Integers, Strings, Macro}
use Rattle.btx_bst.specs.language.Names.{named, with_function}
use Rattle.btx_bst.specs.language.Style.{Style}
use Rattle.btx_bst.specs.language.BodyText.{Inside, BodyEnd, Whole, Broken, body_end}
use Rattle.btx_bst.specs.language.Outcomes.{CommandOutcome, outcome, after_read, with_item}
use Rattle.btx_bst.specs.language.Lists.{Listed, opening, closing, next_name, quoted_at, list_at}
use Rattle.std.specs.Map.{lookup}

-- which of the ten commands a word in lower case is, if it is one
unfoldable pub command_named : List ℕ → Option Command
command_named name =
    if bytes_eq name (codes "entry") then Some command.Entry
    else if bytes_eq name (codes "function") then Some command.Function
    else if bytes_eq name (codes "read") then Some command.Read
    else if bytes_eq name (codes "execute") then Some command.Execute
    else if bytes_eq name (codes "iterate") then Some command.Iterate
    else if bytes_eq name (codes "reverse") then Some command.Reverse
    else if bytes_eq name (codes "sort") then Some command.Sort
    else if bytes_eq name (codes "integers") then Some command.Integers
    else if bytes_eq name (codes "strings") then Some command.Strings
    else if bytes_eq name (codes "macro") then Some command.Macro
    else None

-- ---- ENTRY

-- goes on, unless there is a complaint, which ends the command
abbrev pub after_listed : Option Complaint → Style → Place → (Style → Place → CommandOutcome) → CommandOutcome
after_listed None style place go = go style place
after_listed (Some complaint) style place go = outcome (Some complaint) style place

-- goes on after a list of names; the names that were declared stay declared, also after a complaint
abbrev pub after_list : Style → Listed → (Style → Place → CommandOutcome) → CommandOutcome
after_list style list go = after_listed list.complaint (record style { names = list.listing.names }) list.listing.place go

-- ENTRY declares the fields and the variables of entries, in three lists; it takes effect once (btxhak, section 5.2)
unfoldable pub entry_command : Style → Place → CommandOutcome
entry_command style place =
    if style.has_entry then outcome (Some (Another command.Entry)) style place else
    after_list style (list_at kind.Field style.names place) (λ style place.
    after_list style (list_at kind.EntryInteger style.names place) (λ style place.
    after_list style (list_at kind.EntryString style.names place) (λ style place.
    outcome None (with_item Entry (record style { has_entry = true })) place)))

-- ---- FUNCTION

-- the end of a FUNCTION, whose name is in lower case: it gets its number and its name; after a complaint only the messages of its body stay
abbrev pub function_ended : Style → List ℕ → BodyEnd → CommandOutcome
function_ended style lowered (Broken complaint inside) = outcome (Some complaint) (record style { items = inside.items }) inside.place
function_ended style lowered (Whole inside) =
    outcome None (record style {
      names = with_function (length inside.bodies) lowered style.names;
      bodies = inside.bodies ++ inside.tokens ∷ [];
      texts = inside.texts;
      items = inside.items ++ Function (length inside.bodies) ∷ [];
    }) inside.place

-- the start of a body: nothing of it has been read
abbrev pub inside_at : Style → Place → Inside
inside_at style place = record { place = place; tokens = []; around = []; bodies = style.bodies; texts = style.texts; items = style.items }

-- FUNCTION gives a new name to a function: the name in braces, which must name nothing yet, and the body in braces (btxhak, section 5.2)
unfoldable pub function_command : Style → Place → CommandOutcome
function_command style place =
    after_read style (opening place) (λ _ place.
    after_read style (next_name place) (λ name place.
    if is_some (named style.names name) then outcome (Some (Defined name)) style place else
    after_read style (closing place) (λ _ place.
    after_read style (opening place) (λ _ place.
    function_ended style (folded name) (body_end style.names (inside_at style place))))))

-- ---- READ, EXECUTE, ITERATE, REVERSE and SORT

-- a READ took effect in the style so far
abbrev pub has_read : Style → Bool
has_read style = is_some style.before_read

-- READ reads the databases: it comes after ENTRY and takes effect once; the functions before it may be types of entries (btxhak, section 5.2)
unfoldable pub read_command : Style → Place → CommandOutcome
read_command style place =
    if has_read style then outcome (Some (Another command.Read)) style place
    else if style.has_entry then outcome None (with_item Read (record style { before_read = Some (length style.bodies) })) place
    else outcome (Some BeforeEntry) style place

-- the function that a name stands for, if it is a built-in function or one of the style
abbrev pub function_in : Option Callee → Option Callee
function_in None = None
function_in (Some (User number)) = Some (User number)
function_in (Some (BuiltIn built_in)) = Some (BuiltIn built_in)
function_in (Some _) = None

-- EXECUTE, ITERATE or REVERSE with the name `name`, given the function of that name: an error if there is none. `item` makes the command of the
-- function
abbrev pub run_of : (Callee → Item) → Style → List ℕ → Place → Option Callee → CommandOutcome
run_of item style name place None = outcome (Some (Unknown name)) style place
run_of item style name place (Some callee) = after_read style (closing place) (λ _ place. outcome None (with_item (item callee) style) place)

-- EXECUTE, ITERATE and REVERSE: an error before READ
unfoldable pub run_command : Command → (Callee → Item) → Style → Place → CommandOutcome
run_command command item style place =
    if has_read style then
    after_read style (opening place) (λ _ place.
    after_read style (next_name place) (λ name place.
    run_of item style name place (function_in (named style.names name))))
    else outcome (Some (BeforeRead command)) style place

-- SORT orders the list by the sort keys of its entries, the strings that the style assigned to the entry variable `sort.key$`; it comes after READ
-- (btxhak, section 5.2)
unfoldable pub sort_command : Style → Place → CommandOutcome
sort_command style place = if has_read style then outcome None (with_item Sort style) place else outcome (Some (BeforeRead command.Sort)) style place

-- ---- INTEGERS, STRINGS and MACRO

-- INTEGERS and STRINGS declare the names of a list in braces, as variables of the kind (btxhak, section 5.2)
unfoldable pub declare : Kind → Item → Style → Place → CommandOutcome
declare kind item style place = after_list style (list_at kind style.names place) (λ style place. outcome None (with_item item style) place)

-- MACRO gives a string a name that databases may use, such as `jan`: the name in braces, which must be no macro's yet, and the text in quotes, in
-- braces. It stands before READ (btxhak, section 5.2)
unfoldable pub macro_command : Style → Place → CommandOutcome
macro_command style place =
    if has_read style then outcome (Some AfterRead) style place else
    after_read style (opening place) (λ _ place.
    after_read style (next_name place) (λ name place.
    if is_some (lookup (bytes_eq (folded name)) style.macros) then
    outcome (Some (Defined name)) style place else
    after_read style (closing place) (λ _ place.
    after_read style (opening place) (λ _ place.
    after_read style (quoted_at place) (λ text place.
    after_read style (closing place) (λ _ place.
    outcome None (with_item Macro (record style { macros = style.macros ++ (folded name, text) ∷ [] })) place))))))

-- what a command makes of a style, read from the place after the command's word on
abbrev pub command_at : Command → Style → Place → CommandOutcome
command_at command.Entry style place = entry_command style place
command_at command.Function style place = function_command style place
command_at command.Read style place = read_command style place
command_at command.Execute style place = run_command command.Execute Execute style place
command_at command.Iterate style place = run_command command.Iterate Iterate style place
command_at command.Reverse style place = run_command command.Reverse Reverse style place
command_at command.Sort style place = sort_command style place
command_at command.Integers style place = declare kind.GlobalInteger Integers style place
command_at command.Strings style place = declare kind.GlobalString Strings style place
command_at command.Macro style place = macro_command style place
