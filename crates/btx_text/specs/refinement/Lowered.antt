-- Keys and names in lower case, as they are kept.
use Rattle.std.specs.Prelude.{◌≡◌, ◌<◌, ◌≤◌, ℕ, List, slice_index}
use Rattle.std.specs.Char.{to_ascii_lowercase}
use Rattle.btx_text.specs.declared.lowered.Kept.{Kept}
use Rattle.btx_text.specs.declared.lowered.Kept.TheVariants.{Lent, Made}

-- the bytes of a name in lower case, wherever they are
abbrev pub lowered_in : Kept → List ℕ
lowered_in (Lent bytes) = bytes.now
lowered_in (Made bytes) = bytes.items

-- the bytes from a place up to another one are none of `A-Z`
abbrev pub AreLower : List ℕ → ℕ → ℕ → Type 0
AreLower text from to = (place : ℕ) → from ≤ place → place < to → to_ascii_lowercase (slice_index text place) ≡ slice_index text place
