-- The arguments of commands, as proofs name them.
use Rattle.std.specs.Prelude.{true, None, [], Option, Some, ℕ, List, ◌∷◌, ◌++◌, is_some, if◌then◌else◌}
use Rattle.btx_bst.specs.declared.callee.Kind.TheVariants as kind
use Rattle.btx_bst.specs.language.Places.{Place}
use Rattle.btx_bst.specs.language.Items.{Entry, Item, Macro}
use Rattle.btx_bst.specs.language.Style.{Style}
use Rattle.btx_bst.specs.language.Outcomes.{CommandOutcome, outcome, with_item, after_read}
use Rattle.btx_bst.specs.language.Lists.{list_at, opening, next_name, closing, quoted_at}
use Rattle.btx_bst.specs.language.Commands.{after_list, function_in, run_of, function_ended, inside_at}
use Rattle.btx_bst.specs.declared.callee.Callee.{Callee}
use Rattle.btx_bst.specs.language.Names.{named}
use Rattle.btx_text.specs.language.Keys.{folded}
use Rattle.btx_bst.specs.language.BodyText.{body_end}
use Rattle.btx_bst.specs.laws.Names.{macro_lower}
use Rattle.btx_bst.specs.language.Complaints.{Defined}

-- FUNCTION with the name `name`, given what has that already: an error if something does; else the `}` of the name and the body in braces follow
abbrev pub function_of : Style → List ℕ → Place → Option Callee → CommandOutcome
function_of style name place other =
    if is_some other then outcome (Some (Defined name)) style place else
    after_read style (closing place) (λ _ place.
    after_read style (opening place) (λ _ place.
    function_ended style (folded name) (body_end style.names (inside_at style place))))

-- MACRO with the name `name`, given the text of the macro that has it already: an error if one does; else the `}` of the name follows, and the text in
-- quotes, in braces
abbrev pub macro_of : Style → List ℕ → Place → Option (List ℕ) → CommandOutcome
macro_of style name place other =
    if is_some other then outcome (Some (Defined name)) style place else
    after_read style (closing place) (λ _ place.
    after_read style (opening place) (λ _ place.
    after_read style (quoted_at place) (λ text place.
    after_read style (closing place) (λ _ place.
    outcome None (with_item Macro (record style { macros = style.macros ++ (folded name, text) ∷ [] })) place))))

-- the three lists of an ENTRY
abbrev pub entry_lists : Style → Place → CommandOutcome
entry_lists style place =
    after_list style (list_at kind.Field style.names place) (λ style place.
    after_list style (list_at kind.EntryInteger style.names place) (λ style place.
    after_list style (list_at kind.EntryString style.names place) (λ style place.
    outcome None (with_item Entry (record style { has_entry = true })) place)))

-- the argument of EXECUTE, ITERATE and REVERSE: in braces the name of a function, built-in or the style's own
abbrev pub run_name : (Callee → Item) → Style → Place → CommandOutcome
run_name item style place =
    after_read style (opening place) (λ _ place.
    after_read style (next_name place) (λ name place.
    run_of item style name place (function_in (named style.names name))))

-- the arguments of a MACRO: in braces a name that no other macro has, and in braces its text
abbrev pub macro_name : Style → Place → CommandOutcome
macro_name style place =
    after_read style (opening place) (λ _ place.
    after_read style (next_name place) (λ name place.
    macro_of style name place (macro_lower style.macros (folded name))))
