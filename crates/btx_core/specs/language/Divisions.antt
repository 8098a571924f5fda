-- How strings are divided. A part of a string is never computed here: `Divisions` gives each division a name, and `AreDivisions` says what it is. Each
-- string has one division of each kind, so that there is no choice.
use Rattle.btx_names.specs.language.Formats.{FormatItem}
use Rattle.btx_names.specs.language.NameParts.{NameParts}
use Rattle.btx_names.specs.language.Tokens.{NameToken}
use Rattle.btx_strings.specs.language.Controls.{Glyph}
use Rattle.btx_text.specs.declared.element_kind.TextMode.{TextMode}
use Rattle.btx_text.specs.language.Elements.{Element}
use Rattle.std.specs.Prelude.{List, Option, ℕ}

-- how each string is divided: each kind of division by a name
pub record Divisions : Type 0 where
  -- the elements of a string: special characters, braces, characters, bytes
  pub elements : TextMode → List ℕ → List Element
  -- the control sequences and other bytes of a special character
  pub glyphs : List ℕ → List Glyph
  -- the names of a string
  pub names : List ℕ → List (List ℕ)
  -- the tokens of a name or of a part of it
  pub tokens : List ℕ → List NameToken
  -- what stands before and after the first comma of a name that counts
  pub cut : List ℕ → Option (List ℕ × List ℕ)
  -- First, von, Last and Jr
  pub parts : List ℕ → NameParts
  -- the items of a format, if the format is legal
  pub items : List ℕ → Option (List FormatItem)
