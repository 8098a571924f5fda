-- Which tokens of a name are von (btxhak, section 5.4): those of which the first letter that decides is lower case. A letter in braces is passed
-- over, one in a special character isn't.
use Rattle.std.specs.Prelude.{ℕ, ◌==◌, ◌&&◌, Bool, false, List, [], ◌∷◌, Option, Some, None, unwrap_or, length, drop, find, take_while, slice_index, nat_lt}
use Rattle.std.specs.Prelude.{if◌then◌else◌}
use Rattle.std.specs.Option.{option_map_or}
use Rattle.btx_text.specs.language.Class.{is_alpha}
use Rattle.btx_text.specs.declared.element_kind.Kind.{Kind}
use Rattle.btx_text.specs.declared.element_kind.Kind.TheVariants.{Byte, Special}
use Rattle.btx_text.specs.declared.element_kind.TextMode.TheVariants.{Bytes}
use Rattle.btx_text.specs.language.Elements.{Element, elements_of}
use Rattle.btx_strings.specs.language.Controls.{letters_of}
use Rattle.std.specs.Char.{is_ascii_alphabetic, is_ascii_lowercase}

-- whether a special character counts as lower case. Its first control sequence is a foreign letter if it stands for one or two letters when a string is
-- purified, as `\oe` and `\L` do. If it is one, its own first letter has to be in lower case, as in `{\oe}`. If it is none, the first letter after it
-- has to be there and in lower case, as in `{\'e}`. Letters of later control sequences count too.
unfoldable pub is_lower_special : List ℕ → Bool
is_lower_special text =
    let name = take_while is_alpha (drop 2 text) in
    let after = drop (length name) (drop 2 text) in
    let is_foreign = nat_lt 0 (length (letters_of name)) in
    if is_foreign then is_ascii_lowercase (slice_index name 0)
    else option_map_or is_ascii_lowercase (find is_ascii_alphabetic after) false

-- what an element says of its token: `Some true` for lower case, `Some false` for upper case, and nothing where it doesn't decide. Special
-- characters and the letters at depth 0 decide.
abbrev pub casing_of : Kind → ℕ → List ℕ → Option Bool
casing_of Special depth text = Some (is_lower_special text)
casing_of Byte depth text = if depth == 0 && is_ascii_alphabetic (slice_index text 0) then Some (is_ascii_lowercase (slice_index text 0)) else None
casing_of _ depth text = None

-- the first of the elements that decides says lower case; if none decides, it is false
unfoldable pub first_is_lower : List Element → Bool
first_is_lower [] = false
first_is_lower (element ∷ elements) = unwrap_or (casing_of element.kind element.depth element.text) (first_is_lower elements)

-- a token is von, as `de` and `{\'e}tat` are: its first special character, or letter A-Z or a-z at depth 0, is in lower case. Without one it isn't.
unfoldable pub is_von : List ℕ → Bool
is_von token = first_is_lower (elements_of Bytes token)
