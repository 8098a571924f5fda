-- What `format.name$` gives for a name of a string: a text, and what is wrong.
use Rattle.std.specs.Prelude.{ℕ, zero, suc, ℤ, pos, negsuc, true, not, List, [], Option, Some, None, option_and_then, slice_get, if◌then◌else◌}
use Rattle.btx_text.specs.declared.element_kind.TextMode.{TextMode}
use Rattle.btx_strings.specs.declared.answers.Complaints.{Complaints}
use Rattle.btx_strings.specs.language.Answers.{no_complaints}
use Rattle.btx_names.specs.language.NameLists.{names_of}
use Rattle.btx_names.specs.language.NameParts.{sections_of, ends_in_comma, has_third_comma, parts_by}
use Rattle.btx_names.specs.language.Formats.{is_legal, items_of}
use Rattle.btx_names.specs.language.FormattedNames.{item_text}
use Rattle.std.specs.Option.{option_map_or}
use Rattle.std.specs.List.{flat_map}

-- how many names stand before the one of a number: numbers count from 1
unfoldable pub names_before : ℤ → Option ℕ
names_before (pos zero) = None
names_before (pos (suc n)) = Some n
names_before (negsuc n) = None

-- the name of this number in the string `names`, counted from 1; none if there is no such name
unfoldable pub nth_name : List ℕ → ℤ → Option (List ℕ)
nth_name names number = option_and_then (slice_get (names_of names)) (names_before number)

-- a name in a format: what the items of the format give for the parts of the name (First, von, Last and Jr), joined; nothing where the format is
-- illegal
unfoldable pub one_name_text : TextMode → List ℕ → List ℕ → List ℕ
one_name_text mode name format =
    if is_legal format then
    flat_map (item_text mode (parts_by (sections_of name))) (items_of format)
    else []

-- what `format.name$` finds wrong with a name and a format: `x11` is a comma at the name's end, `x12` a third comma, `x13` an illegal format
unfoldable pub one_name_complaints : List ℕ → List ℕ → Complaints
one_name_complaints name format =
    record no_complaints { x11 = ends_in_comma name; x12 = has_third_comma (sections_of name); x13 = not (is_legal format) }

-- `format.name$`: the name of this number in the string `names`, in the format. It is empty if there is no such name or the format is illegal.
abbrev pub format_name_text : TextMode → List ℕ → ℤ → List ℕ → List ℕ
format_name_text mode names number format = option_map_or (λ (name : List ℕ). one_name_text mode name format) (nth_name names number) []

-- the errors of `format.name$`, for the name of this number in the string `names` and this format; or `x10`, that there is no such name
abbrev pub format_name_complaints : List ℕ → ℤ → List ℕ → Complaints
format_name_complaints names number format =
    option_map_or (λ (name : List ℕ). one_name_complaints name format) (nth_name names number) (record no_complaints { x10 = true })
