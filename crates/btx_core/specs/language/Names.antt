-- Names and formats (btxhak, sections 5.3 and 5.4; btxdoc, section 4).
use Rattle.btx_bib.specs.language.Grammar.ByteSets.{begins}
use Rattle.btx_core.specs.language.Divisions.{Divisions}
use Rattle.btx_core.specs.language.Strings.{text_length}
use Rattle.btx_names.specs.declared.name_tokens.TokenSeparator.{TokenSeparator}
use Rattle.btx_names.specs.declared.name_tokens.TokenSeparator.TheVariants.{Hyphen, Space, Tie}
use Rattle.btx_names.specs.language.Answered.{names_before}
use Rattle.btx_names.specs.language.Formats.{FormatItem, FormatPiece, Illegal, Literal, Name, Plain}
use Rattle.btx_names.specs.language.FormattedNames.{begins_initial, ends_in_tie, first_text, period_of, tokens_of_part, without_last_byte}
use Rattle.btx_names.specs.language.NameParts.{NameParts, One, Sections, Three, Two, cut_again, ends_in_comma, is_hyphen}
use Rattle.btx_names.specs.language.Runs.{is_break}
use Rattle.btx_names.specs.language.Tokens.{NameToken, joint_of}
use Rattle.btx_names.specs.language.VonTokens.{first_is_lower}
use Rattle.btx_names.specs.laws.Gaps.{and_word_range, pieces_between}
use Rattle.btx_names.specs.laws.NameLists.{separators_of}
use Rattle.btx_names.specs.laws.WrittenFormats.{IsFormatOf, are_items}
use Rattle.btx_strings.specs.laws.Controls.{AreGlyphs}
use Rattle.btx_text.specs.declared.element_kind.TextMode.{TextMode}
use Rattle.btx_text.specs.declared.element_kind.TextMode.TheVariants.{Bytes}
use Rattle.btx_text.specs.language.Elements.{depth_of}
use Rattle.btx_text.specs.language.Lists.{only_if}
use Rattle.btx_text.specs.laws.Elements.{IsDivision}
use Rattle.std.specs.Fmt.{signed_decimal}
use Rattle.std.specs.List.{flat_map, list_all}
use Rattle.std.specs.Option.{option_map_or}
use Rattle.std.specs.Prelude.{Bool, List, None, Option, Some, [], codes, false, if◌then◌else◌, is_none, is_some, length, map, nat_lt, not, option_and_then}
use Rattle.std.specs.Prelude.{slice_get, suc, true, unwrap_or, zero, ℕ, ℤ, ◌++◌, ◌<◌, ◌==◌, ◌||◌, ◌∷◌, ◌≡◌, ◌⊎◌}
use Rattle.std.specs.Str.{byte}

-- ---- what stands up to a byte

-- `front` goes up to the first byte at depth 0 that passes the test, with which `rest` begins, or to the end of the text
pub record IsUpTo (test : ℕ → Bool) (front rest : List ℕ) : Type 0 where
  pub none : (before behind : List ℕ) (b : ℕ) → front ≡ before ++ b ∷ behind → depth_of before ≡ 0 → test b ≡ false
  pub ends : (rest ≡ []) ⊎ ((depth_of front ≡ 0) × (begins test rest ≡ true))

-- ---- the names of a string, and the tokens of a name

-- the names are what stands between the separators: an `and` at depth 0, in any case, between two bytes of whitespace. The empty string has none
abbrev pub AreNames : List ℕ → List (List ℕ) → Type 0
AreNames [] names = names ≡ []
AreNames (b ∷ bs) names = names ≡ pieces_between 0 (map and_word_range (separators_of (b ∷ bs))) (b ∷ bs)

-- the tokens are what stands between whitespace, `~`, `-` and commas at depth 0; what joins a token to the next is the byte after it (the
-- original divides a name with braces that match none in another way)
abbrev pub AreTokens : List ℕ → List NameToken → Type 0
AreTokens text [] = list_all is_break text ≡ true
AreTokens text (token ∷ tokens) =
    (breaks rest : List ℕ) × (text ≡ breaks ++ (token.text ++ rest)) × (list_all is_break breaks ≡ true) × (0 < length token.text)
    × IsUpTo is_break token.text rest × (token.joint ≡ joint_of rest) × AreTokens rest tokens

-- ---- First, von, Last and Jr

-- the first comma of a name stands between `front` and `rest`, and counts: a token follows it
pub record CutsAt (name front rest : List ℕ) : Type 0 where
  pub joined : name ≡ front ++ byte "," ∷ rest
  pub first : IsUpTo (λ b. b == byte ",") front (byte "," ∷ rest)
  pub counts : list_all is_break rest ≡ false

-- a name is cut at its first comma, if that counts
abbrev pub IsCut : List ℕ → Option (List ℕ × List ℕ) → Type 0
IsCut name (Some cut) = CutsAt name cut.0 cut.1
IsCut name None = (front rest : List ℕ) → CutsAt name front rest → ⊥

module _ (divisions : Divisions) where
  -- the sections of a name: it is cut at its first two commas that count
  abbrev pub sections : List ℕ → Sections
  sections name = option_map_or (λ (cut : List ℕ × List ℕ). cut_again cut.0 cut.1 (divisions.cut cut.1)) (divisions.cut name) (One name)

  -- a token is von: the first of its special characters and of its letters `A-Z` and `a-z` at depth 0 is in lower case. A byte from 128 up is passed over, so
  -- `Émile` is von
  abbrev pub is_von : NameToken → Bool
  is_von token = first_is_lower (divisions.elements Bytes token.text)

  -- no token of these is von, but perhaps the final one
  abbrev pub HaveNoVon : List NameToken → Type 0
  HaveNoVon tokens = (left right : List NameToken) (token next : NameToken) → tokens ≡ left ++ token ∷ next ∷ right → is_von token ≡ false

  -- the tokens of von and Last: von ends in the last von token that isn't the final one, and Last is never empty
  pub record AreVonLast (tokens von last : List NameToken) : Type 0 where
    pub whole : tokens ≡ von ++ last
    pub ends : (left : List NameToken) (token : NameToken) → von ≡ left ++ token ∷ [] → is_von token ≡ true
    pub others : HaveNoVon last
    pub some : last ≡ [] → tokens ≡ []

  -- the parts of a name without a comma, where a token is von: von begins with the first von token
  pub record HasVon (tokens : List NameToken) (parts : NameParts) : Type 0 where
    pub first : tokens ≡ parts.first ++ (parts.von ++ parts.last)
    pub none : (left right : List NameToken) (token : NameToken) → parts.first ≡ left ++ token ∷ right → is_von token ≡ false
    pub begins : (token : NameToken) (others : List NameToken) → parts.von ≡ token ∷ others → is_von token ≡ true
    pub some : 0 < length parts.von
    pub surname : AreVonLast (parts.von ++ parts.last) parts.von parts.last

  -- and where none is, but perhaps the final one: Last is the final token and those that `-` joins to it
  pub record HasNoVon (tokens : List NameToken) (parts : NameParts) : Type 0 where
    pub first : tokens ≡ parts.first ++ parts.last
    pub no_von : parts.von ≡ []
    pub none : HaveNoVon tokens
    pub joined : (left right : List NameToken) (token next : NameToken) → parts.last ≡ left ++ token ∷ next ∷ right → token.joint ≡ Hyphen
    pub apart : (left : List NameToken) (token : NameToken) → parts.first ≡ left ++ token ∷ [] → is_hyphen token.joint ≡ false
    pub some : parts.last ≡ [] → tokens ≡ []

  -- the parts of a name by its sections: First von Last; von Last, First; von Last, Jr, First (of a name that begins with a comma the original writes pieces
  -- without tokens)
  abbrev pub AreNameParts : Sections → NameParts → Type 0
  AreNameParts (One name) parts = (HasVon (divisions.tokens name) parts ⊎ HasNoVon (divisions.tokens name) parts) × (parts.jr ≡ [])
  AreNameParts (Two surname first) parts =
      AreVonLast (divisions.tokens surname) parts.von parts.last × (parts.first ≡ divisions.tokens first) × (parts.jr ≡ [])
  AreNameParts (Three surname jr first) parts =
      AreVonLast (divisions.tokens surname) parts.von parts.last × (parts.first ≡ divisions.tokens first) × (parts.jr ≡ divisions.tokens jr)

-- ---- formats

-- a format is legal, with these items, if they can stand one after another and are written so; and illegal if no items are written so
abbrev pub IsFormat : List ℕ → Option (List FormatItem) → Type 0
IsFormat format (Some items) = (are_items items ≡ true) × IsFormatOf items format
IsFormat format None = (items : List FormatItem) → are_items items ≡ true → IsFormatOf items format → ⊥

-- ---- `format.name$`

module _ (divisions : Divisions) (mode : TextMode) where
  -- the abbreviation of a token: its first letter, at any depth (a byte from 128 up is one); or its first group that begins with a backslash, at any depth too,
  -- if that comes before
  abbrev pub initial : List ℕ → List ℕ
  initial [] = []
  initial (b ∷ bs) = if begins_initial (b ∷ bs) then first_text (divisions.elements mode (b ∷ bs)) else initial bs

  -- fewer than three characters
  abbrev pub is_short : List ℕ → Bool
  is_short text = nat_lt (text_length divisions mode text) 3

  -- the byte between two tokens: the `~` or `-` of the name; else a `~` before the last token, and while the piece so far, with what stands before its letter
  -- and with this token and its period, has fewer than three characters; else a space (the original counts the characters in another way)
  abbrev pub separator_between : List ℕ → TokenSeparator → Bool → ℕ
  separator_between so_far Tie is_last = byte "~"
  separator_between so_far Hyphen is_last = byte "-"
  separator_between so_far Space is_last = if is_last || is_short so_far then byte "~" else byte " "

  -- what comes after a token of a piece, which this number of tokens follows: the piece's own string; else a period after an abbreviation, and the byte
  -- between. Nothing after the last
  abbrev pub behind_token : FormatPiece → List ℕ → TokenSeparator → ℕ → List ℕ
  behind_token piece so_far joint zero = []
  behind_token piece so_far joint (suc left) =
      unwrap_or piece.between (period_of piece.is_full ++ separator_between (so_far ++ period_of piece.is_full) joint (left == 0) ∷ [])

  -- the text of a piece so far, and then its tokens
  abbrev pub and_tokens : FormatPiece → List ℕ → List NameToken → List ℕ
  and_tokens piece so_far [] = so_far
  and_tokens piece so_far (token ∷ tokens) =
      let next = so_far ++ (if piece.is_full then token.text else initial token.text) in
      and_tokens piece (next ++ behind_token piece next token.joint (length tokens)) tokens

  -- of a final `~~` one `~` is removed; a single final `~` becomes a space, unless the text before it is short (the
  -- original looks at the whole text so far)
  abbrev pub with_final_tie_resolved : List ℕ → List ℕ
  with_final_tie_resolved text =
      if not (ends_in_tie text) then text
      else if ends_in_tie (without_last_byte text) then without_last_byte text
      else if is_short (without_last_byte text) then text else without_last_byte text ++ byte " " ∷ []

  -- a piece with the tokens of its part; nothing where the part has none
  abbrev pub piece : FormatPiece → List NameToken → List ℕ
  piece form [] = []
  piece form (token ∷ tokens) = with_final_tie_resolved (and_tokens form form.before (token ∷ tokens) ++ form.after)

  -- an item of a format, for the parts of a name
  abbrev pub item : NameParts → FormatItem → List ℕ
  item parts (Literal text) = text
  item parts (Plain text) = with_final_tie_resolved text
  item parts (Name form) = piece form (tokens_of_part form.part parts)
  item parts Illegal = []

-- the name of this number in a string of names, counted from 1
abbrev pub numbered_name : Divisions → ℤ → List ℕ → Option (List ℕ)
numbered_name divisions number names = option_and_then (slice_get (divisions.names names)) (names_before number)

-- `format.name$`: the items of the format for the parts of the name, joined; nothing without such a name or with an illegal format (with an illegal
-- format the original writes its other pieces)
abbrev pub formatted_name : Divisions → TextMode → List ℕ → ℤ → List ℕ → List ℕ
formatted_name divisions mode format number names =
    option_map_or (λ name. option_map_or (flat_map (item divisions mode (divisions.parts name))) (divisions.items format) []) (numbered_name divisions number names) []

-- a name has a third comma that counts
abbrev pub has_third : Divisions → Sections → Bool
has_third divisions (Three surname jr first) = is_some (divisions.cut first)
has_third divisions _ = false

-- what is wrong, in this order: the name has a comma at its end; it has a third comma; the format is illegal. Or there is no such name (the original
-- logs each comma too many, and each one at the end)
abbrev pub name_errors : Divisions → List ℕ → ℤ → List ℕ → List (List ℕ)
name_errors divisions format number names =
    option_map_or (λ name.
    only_if (ends_in_comma name) (codes "Name " ++ signed_decimal number ++ codes " in \"" ++ names ++ codes "\" has a comma at the end")
    ++ only_if (has_third divisions (sections divisions name)) (codes "Too many commas in name " ++ signed_decimal number ++ codes " of \"" ++ names ++ codes "\"")
    ++ only_if (is_none (divisions.items format)) (codes "The format string \"" ++ format ++ codes "\" is illegal"))
    (numbered_name divisions number names) ((codes "There is no name number " ++ signed_decimal number ++ codes " in \"" ++ names ++ codes "\"") ∷ [])

-- ---- what the divisions are

-- each string is divided as the relations say: into elements by `IsDivision`, into glyphs by `AreGlyphs`, and so on: a row for each

pub record AreDivisions (divisions : Divisions) : Type 0 where
  pub elements : (mode : TextMode) (string : List ℕ) → IsDivision mode string (divisions.elements mode string)
  pub glyphs : (special : List ℕ) → AreGlyphs special (divisions.glyphs special)
  pub names : (string : List ℕ) → AreNames string (divisions.names string)
  pub tokens : (text : List ℕ) → AreTokens text (divisions.tokens text)
  pub cut : (name : List ℕ) → IsCut name (divisions.cut name)
  pub parts : (name : List ℕ) → AreNameParts divisions (sections divisions name) (divisions.parts name)
  pub items : (format : List ℕ) → IsFormat format (divisions.items format)
