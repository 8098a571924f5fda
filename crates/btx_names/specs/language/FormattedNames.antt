-- A name in a format (btxhak, section 5.4, at `format.name$`).
use Rattle.std.specs.Prelude.{ℕ, ◌-◌, ◌==◌, ◌||◌, ◌&&◌, Bool, List, [], ◌∷◌, ◌++◌, length, take, slice_index, nat_lt, if◌then◌else◌, unwrap_or}
use Rattle.std.specs.Str.{byte}
use Rattle.btx_text.specs.declared.element_kind.TextMode.{TextMode}
use Rattle.btx_text.specs.language.Class.{is_alpha}
use Rattle.btx_text.specs.language.Elements.{Element, elements_of}
use Rattle.btx_strings.specs.language.Lengths.{text_length_of}
use Rattle.btx_names.specs.declared.name_tokens.TokenSeparator.{TokenSeparator}
use Rattle.btx_names.specs.declared.name_tokens.TokenSeparator.TheVariants.{Space, Tie, Hyphen}
use Rattle.btx_names.specs.declared.format_items.PartName.{PartName}
use Rattle.btx_names.specs.declared.format_items.PartName.TheVariants.{First, Von, Last, Jr}
use Rattle.btx_names.specs.language.Tokens.{NameToken}
use Rattle.btx_names.specs.language.NameParts.{NameParts}
use Rattle.btx_names.specs.language.Formats.{FormatItem, Literal, Plain, Name, Illegal, FormatPiece}

-- ---- a token

-- an abbreviation begins here: with a letter or a byte from 128 up, or with a `{` directly before a backslash, at any depth
abbrev pub begins_initial : List ℕ → Bool
begins_initial text = is_alpha (slice_index text 0) || (slice_index text 0 == byte "{" && slice_index text 1 == byte "\\")

-- the text of the first of some elements
abbrev pub first_text : List Element → List ℕ
first_text [] = []
first_text (element ∷ elements) = element.text

-- the abbreviation of a token: its first letter, or its first group that begins with a backslash if that comes before. `Jean` gives `J`, `{\'E}mile`
-- gives `{\'E}`, and `123` nothing. Such a group counts as a whole also inside braces. A byte from 128 up counts as a letter.
unfoldable pub initial_of : TextMode → List ℕ → List ℕ
initial_of mode [] = []
initial_of mode (b ∷ bs) = if begins_initial (b ∷ bs) then first_text (elements_of mode (b ∷ bs)) else initial_of mode bs

-- ---- between tokens

-- a text has fewer than three characters
abbrev pub is_short : TextMode → List ℕ → Bool
is_short mode text = nat_lt (text_length_of mode text) 3

-- the byte between two tokens: the `~` or `-` of the name; else a `~` before the last token of the part, and while the piece's text is shorter
-- than three characters; else a space
abbrev pub tie_of : TextMode → List ℕ → TokenSeparator → Bool → ℕ
tie_of mode so_far Tie is_last = byte "~"
tie_of mode so_far Hyphen is_last = byte "-"
tie_of mode so_far Space is_last = if is_last || is_short mode so_far then byte "~" else byte " "

-- the period after an abbreviated token; nothing after one in full
abbrev pub period_of : Bool → List ℕ
period_of is_full = if is_full then [] else byte "." ∷ []

-- the text after a token, if `left` tokens of the part follow it. After the last token that is nothing. Else it is the piece's own text between tokens,
-- if it has one. Without one it is a period, if the token is abbreviated, and then a `~`, a `-` or a space
unfoldable pub between_text : TextMode → FormatPiece → List ℕ → TokenSeparator → ℕ → List ℕ
between_text mode piece so_far joint left =
    if left == 0 then []
    else unwrap_or piece.between
    (period_of piece.is_full
    ++ tie_of mode (so_far ++ period_of piece.is_full) joint (left == 1) ∷ [])

-- the text of a piece, `so_far`, with further tokens appended: each in full or abbreviated, as the piece asks, and after it the text between tokens
unfoldable pub with_tokens : TextMode → FormatPiece → List ℕ → List NameToken → List ℕ
with_tokens mode piece so_far [] = so_far
with_tokens mode piece so_far (token ∷ tokens) =
    let next = so_far ++ (if piece.is_full then token.text else initial_of mode token.text) in
    with_tokens mode piece (next ++ between_text mode piece next token.joint (length tokens)) tokens

-- ---- a piece

-- a text without its last byte
abbrev pub without_last_byte : List ℕ → List ℕ
without_last_byte text = take (length text - 1) text

-- a text ends in `~`
abbrev pub ends_in_tie : List ℕ → Bool
ends_in_tie text = slice_index text (length text - 1) == byte "~"

-- the text of a piece, finished: of a final `~~` one `~` is removed; a single final `~` becomes a space, unless fewer than three characters stand
-- before it
unfoldable pub finished : TextMode → List ℕ → List ℕ
finished mode text =
    if ends_in_tie text then
    (if ends_in_tie (without_last_byte text) then without_last_byte text
    else if is_short mode (without_last_byte text) then text else without_last_byte text ++ byte " " ∷ [])
    else text

-- the tokens of a part
abbrev pub tokens_of_part : PartName → NameParts → List NameToken
tokens_of_part First parts = parts.first
tokens_of_part Von parts = parts.von
tokens_of_part Last parts = parts.last
tokens_of_part Jr parts = parts.jr

-- the text of a piece with a part, given the part's tokens; nothing where it has none
unfoldable pub piece_text : TextMode → FormatPiece → List NameToken → List ℕ
piece_text mode piece [] = []
piece_text mode piece (token ∷ tokens) = finished mode (with_tokens mode piece piece.before (token ∷ tokens) ++ piece.after)

-- ---- the name

-- what an item of a format gives for the parts of a name; an illegal one gives nothing
abbrev pub item_text : TextMode → NameParts → FormatItem → List ℕ
item_text mode parts (Literal text) = text
item_text mode parts (Plain inside) = finished mode inside
item_text mode parts (Name piece) = piece_text mode piece (tokens_of_part piece.part parts)
item_text mode parts Illegal = []
