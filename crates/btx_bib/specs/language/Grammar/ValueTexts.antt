-- The text that a value stands for: the texts of its parts joined, and then every run of whitespace made one space.
use Rattle.std.specs.Prelude.{◌==◌, ◌-◌, ℕ, slice_index, take, List, [], ◌∷◌, length, Option, if◌then◌else◌, unwrap_or}
use Rattle.std.specs.List.{flat_map}
use Rattle.std.specs.Str.{byte}
use Rattle.btx_bib.specs.declared.grammar.value_ends.Ends.{Ends}
use Rattle.btx_bib.specs.declared.grammar.value_ends.Ends.TheVariants.{Kept, Trimmed}
use Rattle.btx_bib.specs.language.Grammar.ByteSets.{is_gap, begins}
use Rattle.btx_bib.specs.language.Grammar.Values.{Part, Braced, Quoted, Digits, Named}

-- the text of a part, where `strings` gives the value of each name that has one: a name stands for its value, and for nothing where it has none
abbrev pub text_of_part : (List ℕ → Option (List ℕ)) → Part → List ℕ
text_of_part strings (Braced text) = text
text_of_part strings (Quoted text) = text
text_of_part strings (Digits text) = text
text_of_part strings (Named string) = unwrap_or (strings string.name) []

-- every run of whitespace becomes one space: of each run the last byte stays, as a space
unfoldable pub squeezed : List ℕ → List ℕ
squeezed [] = []
squeezed (b ∷ bs) = if is_gap b then (if begins is_gap bs then squeezed bs else byte " " ∷ squeezed bs) else b ∷ squeezed bs

-- a text without its first byte, if that is a space
abbrev pub without_first_space : List ℕ → List ℕ
without_first_space [] = []
without_first_space (b ∷ bs) = if b == byte " " then bs else b ∷ bs

-- a text without its last byte, if that is a space
abbrev pub without_last_space : List ℕ → List ℕ
without_last_space text = if slice_index text (length text - 1) == byte " " then take (length text - 1) text else text

-- whitespace is squeezed in the whole, and a field's value loses its first and its last space
abbrev pub shaped : Ends → List ℕ → List ℕ
shaped Kept text = squeezed text
shaped Trimmed text = without_last_space (without_first_space (squeezed text))

-- the text that a value stands for: its parts joined, its whitespace squeezed, and the space at each end trimmed or kept
abbrev pub value_text : Ends → (List ℕ → Option (List ℕ)) → List Part → List ℕ
value_text ends strings parts = shaped ends (flat_map (text_of_part strings) parts)
