-- What the table of strings keeps.
use Rattle.std.specs.Prelude.{◌≡◌, ℕ, true, false, List, map}
use Rattle.std.specs.List.{AllByRecursion}
use Rattle.btx_aux.specs.refinement.Entries.{Bytes}
use Rattle.btx_bib.specs.refinement.Grammar.Squeezing.{is_squeezed}

-- the strings that are defined: names in lower case, each with its value
abbrev pub Strings : Type 0
Strings = List (List ℕ × List ℕ)

-- each value is squeezed: it has no whitespace but single spaces
abbrev pub AreSqueezed : Strings → Type 0
AreSqueezed strings = AllByRecursion (λ (string : List ℕ × List ℕ). is_squeezed false string.1 ≡ true) strings

-- the entries of the code's table
abbrev pub pairs_of : List (Bytes × List ℕ) → Strings
pairs_of entries = map (λ (entry : Bytes × List ℕ). (entry.0.items, entry.1)) entries
