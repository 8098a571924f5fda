-- The division of a string into elements (btxhak, section 5.3, at the functions on strings, and 5.4; btxdoc, section 4, at special
-- characters): braces, special characters, characters of more than one byte where the text is UTF-8, and all other bytes, each by itself.
-- Here the list is computed; what a division is, without saying how it is found, is stated in `laws/Elements.antt`.
use Rattle.std.specs.Prelude.{ℕ, zero, suc, ◌+◌, ◌-◌, Bool, true, false, ◌&&◌, ◌==◌, nat_eq, List, [], ◌∷◌, length, take, fold, if◌then◌else◌, slice_index}
use Rattle.std.specs.Prelude.{codes}
use Rattle.std.specs.List.{starts_with}
use Rattle.std.specs.Str.{byte}
use Rattle.btx_text.specs.declared.element_kind.Kind.{Kind}
use Rattle.btx_text.specs.declared.element_kind.Kind.TheVariants.{Byte, Open, Close, Special, Wide}
use Rattle.btx_text.specs.declared.element_kind.TextMode.{TextMode}
use Rattle.btx_text.specs.declared.element_kind.TextMode.TheVariants.{Bytes, Utf8}
use Rattle.btx_text.specs.language.Sequences.{sequence_size, begins_sequence}

-- ---- depth

-- the brace depth after a byte: one more after `{`, one less after `}`, but never below 0 (this project's own rule): for natural numbers `0 - 1` is 0
abbrev pub depth_after : ℕ → ℕ → ℕ
depth_after depth b = if b == byte "{" then depth + 1 else if b == byte "}" then depth - 1 else depth

-- the brace depth after a text
abbrev pub depth_of : List ℕ → ℕ
depth_of text = fold depth_after 0 text

-- ---- elements and their kinds

-- an element of a string: its kind, its text, the index of its first byte, and the brace depth before it
pub record Element : Type 0 where
  pub kind : Kind
  pub text : List ℕ
  pub start : ℕ
  pub depth : ℕ

-- the text is read as UTF-8, as the option `--text utf8` asks: only then can a character have more than one byte
abbrev pub is_utf8 : TextMode → Bool
is_utf8 Bytes = false
is_utf8 Utf8 = true

-- the kind of the element with which `rest`, which has a byte, begins at brace depth `depth`. A special character begins at depth 0, with a `{`
-- directly before a backslash. A wide element, which only UTF-8 has, is a well-formed sequence of two to four bytes. Any other element is one byte: a
-- brace or a plain byte
unfoldable pub kind_at : TextMode → ℕ → List ℕ → Kind
kind_at mode depth rest =
    if depth == 0 && starts_with nat_eq rest (codes "{\\") then Special
    else if is_utf8 mode && begins_sequence rest then Wide
    else if slice_index rest 0 == byte "{" then Open
    else if slice_index rest 0 == byte "}" then Close else Byte

-- ---- the list of elements

-- the number of bytes up to and including the first after which the brace depth is 0, from depth `depth` on; all bytes if there is none
unfoldable pub group_len : ℕ → List ℕ → ℕ
group_len depth [] = 0
group_len depth (b ∷ bs) = if depth_after depth b == 0 then 1 else suc (group_len (depth_after depth b) bs)

-- the number of bytes of the element with which `rest` begins, given its kind
abbrev pub extent : Kind → List ℕ → ℕ
extent Special rest = group_len 0 rest
extent Wide rest = sequence_size (slice_index rest 0)
extent _ rest = 1

-- the elements that begin in `rest`, whose first byte has index `start` and brace depth `depth`. Its first `skip` bytes belong to the element
-- before and are passed over one by one
unfoldable pub elements_from : TextMode → ℕ → ℕ → ℕ → List ℕ → List Element
elements_from mode skip start depth [] = []
elements_from mode (suc skip) start depth (b ∷ bs) = elements_from mode skip (start + 1) (depth_after depth b) bs
elements_from mode zero start depth (b ∷ bs) =
    let kind = kind_at mode depth (b ∷ bs) in
    let text = take (extent kind (b ∷ bs)) (b ∷ bs) in
    record { kind = kind; text = text; start = start; depth = depth } ∷ elements_from mode (length text - 1) (start + 1) (depth_after depth b) bs

-- the elements of a string, from left to right: the one way to divide it
unfoldable pub elements_of : TextMode → List ℕ → List Element
elements_of mode string = elements_from mode 0 0 0 string

-- ---- what elements count as

-- an element of this kind counts as one character of text: a plain byte, a special character or a wide element, but not a brace by itself
abbrev pub is_character : Kind → Bool
is_character Open = false
is_character Close = false
is_character _ = true
