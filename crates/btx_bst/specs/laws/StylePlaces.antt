-- Where the tokens and the items of a style stand, by the bytes of its file.
use Rattle.std.specs.Prelude.{ℕ, ◌≡◌, ◌+◌, ◌-◌, List, [], ◌∷◌, ◌++◌, length, map, Option, Some, count_by, slice_get, slice_index_or}
use Rattle.btx_text.specs.language.Lines.{line_pieces, lines_of, trimmed}
use Rattle.btx_bst.specs.declared.span.Spot.{Spot}
use Rattle.btx_bst.specs.declared.span.Stretch.{Stretch}
use Rattle.btx_bst.specs.declared.span.Span.{Span}
use Rattle.btx_bst.specs.language.Places.{place_at}
use Rattle.btx_bst.specs.laws.Fronts.{is_line_feed}
use Rattle.btx_bst.specs.laws.Recorded.{recorded_of, spot_at}

-- for each line, cut at its line feed, the byte after it and before the whitespace at its end; the first one begins at the byte `start`
unfoldable pub ends_from : ℕ → List (List ℕ) → List ℕ
ends_from start [] = []
ends_from start (piece ∷ pieces) = (start + length (trimmed piece)) ∷ ends_from (start + length piece + 1) pieces

-- for each line of a text the byte after it, before the whitespace at its end
abbrev pub line_ends : List ℕ → List ℕ
line_ends text = ends_from 0 (line_pieces text)

-- the byte of a spot, given where the lines end
abbrev pub byte_of : List ℕ → Spot → ℕ
byte_of ends spot = slice_index_or ends (spot.line - 1) 0 - spot.left

-- a part of a text by its bytes
abbrev pub span_of : List ℕ → Stretch → Span
span_of ends part = record { line = part.from.line; from = byte_of ends part.from; to = byte_of ends part.to }

-- where the tokens of each function of a style stand, and its items
pub record StylePlaces : Type 0 where
  pub functions : List (List Span)
  pub items : List Span

-- the places that were recorded, given where the lines end
abbrev pub places_in : List ℕ → List (List Stretch) → List Stretch → StylePlaces
places_in ends bodies items = record { functions = map (map (span_of ends)) bodies; items = map (span_of ends) items }

-- where the tokens and the items stand of the style of a text, whose file has the name `file`
unfoldable pub places_of : List ℕ → List ℕ → StylePlaces
places_of file text = places_in (line_ends text) (recorded_of file text).bodies (recorded_of file text).items

-- where a token stands: the one of this number, in the function of this number, if there is one
abbrev pub token_span : StylePlaces → ℕ → ℕ → Option Span
token_span places function token = slice_get (slice_index_or places.functions function []) token

-- ---- bytes and lines

-- how many line feeds a text has
abbrev pub line_feeds : List ℕ → ℕ
line_feeds text = count_by is_line_feed text

-- `rest` stands in a text at a spot: the byte of the spot is the number of bytes before it, and its line the number of line feeds before it, plus 1
pub record StandsAt (text rest : List ℕ) (spot : Spot) : Type 0 where
  pub before : List ℕ
  pub after : List ℕ
  pub joined : text ≡ before ++ (rest ++ after)
  pub byte : byte_of (line_ends text) spot ≡ length before
  pub line : spot.line ≡ line_feeds before + 1

-- What is left of a line, without the whitespace at its end, stands in the text at its spot.
abbrev pub SpotLaw : Type 0
SpotLaw = (text : List ℕ) (number : ℕ) (front rest : List ℕ) (after : List (List ℕ)) → slice_get (lines_of text) number ≡ Some (front ++ rest)
    → StandsAt text rest (spot_at (place_at (number + 1) rest after))
