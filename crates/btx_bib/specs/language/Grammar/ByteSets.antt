-- The bytes that the words of a database are made of, and the runs of them.
use Rattle.std.specs.Prelude.{ℕ, suc, ◌==◌, ◌||◌, ◌&&◌, not, Bool, false, List, [], ◌∷◌, take, drop, if◌then◌else◌}
use Rattle.btx_text.specs.language.Class.{is_white, is_name_byte}
use Rattle.btx_text.specs.language.Elements.{depth_after}
use Rattle.btx_bib.specs.declared.grammar.byte_sets.Delimiter.TheVariants.{Braces, Parens}
use Rattle.btx_bib.specs.declared.grammar.byte_sets.ByteSet.{ByteSet}
use Rattle.btx_bib.specs.declared.grammar.byte_sets.ByteSet.TheVariants.{Gap, NameByte, Digit, KeyByte}
use Rattle.btx_bib.specs.declared.grammar.byte_sets.Enclosure.{Enclosure}
use Rattle.btx_bib.specs.declared.grammar.byte_sets.Enclosure.TheVariants.{Group, Quotes}
use Rattle.std.specs.Char.{is_ascii_digit}
use Rattle.std.specs.Str.{byte}

-- whitespace, or the end of a line: what may stand between the words and signs of a database
abbrev pub is_gap : ℕ → Bool
is_gap b = is_white b || b == byte "\n"

-- the byte is in the set; a key ends at whitespace, the end of a line or a comma, and in braces also at a `}`
abbrev pub is_in : ByteSet → ℕ → Bool
is_in Gap b = is_gap b
is_in NameByte b = is_name_byte b
is_in Digit b = is_ascii_digit b
is_in (KeyByte Braces) b = not (is_gap b || b == byte "," || b == byte "}")
is_in (KeyByte Parens) b = not (is_gap b || b == byte ",")

-- how many bytes of a set a text begins with
unfoldable pub longest_run_len : ByteSet → List ℕ → ℕ
longest_run_len set [] = 0
longest_run_len set (b ∷ bs) = if is_in set b then suc (longest_run_len set bs) else 0

-- the longest run of a set that a text begins with
abbrev pub longest_run : ByteSet → List ℕ → List ℕ
longest_run set text = take (longest_run_len set text) text

-- the text after its longest prefix of bytes of the set
abbrev pub past : ByteSet → List ℕ → List ℕ
past set text = drop (longest_run_len set text) text

-- a text begins with a byte that passes the test
abbrev pub begins : (ℕ → Bool) → List ℕ → Bool
begins test [] = false
begins test (b ∷ bs) = test b

-- the byte ends an enclosed part, at depth 0: its closing delimiter, and in quotes also a `}`, which is an error
abbrev pub ends_enclosed : Enclosure → ℕ → Bool
ends_enclosed Group b = b == byte "}"
ends_enclosed Quotes b = b == byte "\"" || b == byte "}"

-- how many bytes stand before the first that ends an enclosed part, in a text whose brace depth is `depth`; all, if there is none
unfoldable pub enclosed_len : Enclosure → ℕ → List ℕ → ℕ
enclosed_len enclosure depth [] = 0
enclosed_len enclosure depth (b ∷ bs) =
    if depth == 0 && ends_enclosed enclosure b then 0 else suc (enclosed_len enclosure (depth_after depth b) bs)
