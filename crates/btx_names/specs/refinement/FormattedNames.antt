-- Names of parts of a name's text.
use Rattle.std.specs.Prelude.{ℕ, List, Bool, [], ◌∷◌, ◌++◌, Option, unwrap_or}
use Rattle.std.specs.List.{flat_map}
use Rattle.btx_text.specs.declared.element_kind.TextMode.{TextMode}
use Rattle.btx_names.specs.language.NameParts.{NameParts}
use Rattle.btx_names.specs.language.Formats.{items_of}
use Rattle.btx_names.specs.language.FormattedNames.{item_text, tie_of, period_of}
use Rattle.btx_names.specs.declared.name_tokens.TokenSeparator.{TokenSeparator}

-- the text between two tokens: the piece's own, if it has one; else a period after an abbreviation, and then a `~`, a `-` or a space
abbrev pub joined_by : TextMode → Bool → Option (List ℕ) → List ℕ → TokenSeparator → Bool → List ℕ
joined_by mode is_full between so_far joint is_last =
    unwrap_or between (period_of is_full ++ tie_of mode (so_far ++ period_of is_full) joint is_last ∷ [])

-- a name's parts in a format: the join of the format's literal bytes and its pieces
abbrev pub formatted : TextMode → NameParts → List ℕ → List ℕ
formatted mode parts format = flat_map (item_text mode parts) (items_of format)
