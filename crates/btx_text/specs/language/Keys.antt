-- Cite keys, the words by which a document cites entries, and names are compared without case (btxdoc, section 3), and only `A-Z` have one (this
-- project's own rule).
use Rattle.std.specs.Prelude.{ℕ, List, map}
use Rattle.std.specs.Char.{to_ascii_lowercase}

-- a key with its letters `A-Z` in lower case
abbrev pub folded : List ℕ → List ℕ
folded key = map to_ascii_lowercase key
