-- The lines of a style's tokens and commands, by the places of its text.
use Rattle.std.specs.Prelude.{ℕ, Option, None, Some, slice_get}
use Rattle.btx_bst.specs.declared.span.Span.{Span}
use Rattle.btx_bst.specs.laws.StylePlaces.{StylePlaces, token_span}
use Rattle.btx_where.specs.declared.place.Place.{Place}

-- the line in which a part of a style's text begins; 0 where there is no such part
abbrev pub line_of_part : Option Span → ℕ
line_of_part None = 0
line_of_part (Some part) = part.line

-- the line of a token
abbrev pub token_line : StylePlaces → Place → ℕ
token_line places place = line_of_part (token_span places place.function place.token)

-- the line of the item of a number
abbrev pub item_line : StylePlaces → ℕ → ℕ
item_line places item = line_of_part (slice_get places.items item)
