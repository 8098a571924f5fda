-- How the code finds the end of what is enclosed: it skips what can't end it.
use Rattle.std.specs.Prelude.{◌≡◌, ℕ, suc, ◌<◌, ◌≤◌, ◌==◌, ◌||◌, Bool, false, List, [], ◌∷◌, slice_index, if◌then◌else◌}
use Rattle.btx_bib.specs.declared.grammar.byte_sets.Enclosure.{Enclosure}
use Rattle.btx_bib.specs.declared.grammar.byte_sets.Enclosure.TheVariants.{Group, Quotes}
use Rattle.std.specs.Int.{is_in_range}
use Rattle.btx_text.specs.laws.Bytes.{close_brace, double_quote, open_brace}

-- a byte that changes the depth or can end what is enclosed: a brace, and in quotes a `"`
abbrev pub is_mark : Enclosure → ℕ → Bool
is_mark Group b = b == open_brace || b == close_brace
is_mark Quotes b = b == open_brace || b == close_brace || b == double_quote

-- one of the bytes that are neither whitespace nor delimiters: from `#` to `z`
abbrev pub is_word_byte : ℕ → Bool
is_word_byte = is_in_range 35 122

-- how many bytes stand before the first that passes a test; all, where there is none
unfoldable pub unmarked_len : (ℕ → Bool) → List ℕ → ℕ
unmarked_len test [] = 0
unmarked_len test (b ∷ bs) = if test b then 0 else suc (unmarked_len test bs)

-- none of the bytes from a place up to another one is such
abbrev pub AreUnmarked : Enclosure → List ℕ → ℕ → ℕ → Type 0
AreUnmarked enclosure text from to = (place : ℕ) → from ≤ place → place < to → is_mark enclosure (slice_index text place) ≡ false
