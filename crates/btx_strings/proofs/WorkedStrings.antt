-- Worked strings, by computation.
use Rattle.std.proofs.Common.{◌≡◌, ℕ, ◌+◌, ℤ, pos, negsuc, List, [], ◌∷◌, map, None, refl}
use Rattle.std.specs.Prelude.{codes}
use Rattle.btx_text.specs.declared.element_kind.TextMode.{TextMode}
use Rattle.btx_text.specs.declared.element_kind.TextMode.TheVariants.{Bytes, Utf8}
use Rattle.btx_text.specs.language.Class.{class_of}
use Rattle.btx_text.specs.language.Sequences.{sequence_size, second_fits, is_sequence, begins_sequence}
use Rattle.btx_text.specs.language.Elements.{kind_at, group_len, elements_from, elements_of}
use Rattle.btx_strings.specs.language.Answers.{no_complaints}
use Rattle.btx_strings.specs.language.Controls.{control_name, glyphs_from, glyphs_of, letters_of, without_white}
use Rattle.btx_strings.specs.language.Lengths.{take_characters, text_prefix_of, text_length_of}
use Rattle.btx_strings.specs.language.Positions.{add_period_of, substring_of}
use Rattle.btx_strings.specs.language.Purify.{purify_of}
use Rattle.btx_strings.specs.language.Case.{cased_parts, cased_control, change_case_of, case_complaints, conversion_of}
use Rattle.btx_strings.specs.language.Width.{control_width, width_of}
use Rattle.btx_strings.specs.refinement.Answers.{wrong_conversion}

-- ---- pieces

pub piece_from_right : substring_of (codes "abcdef") (negsuc 1) (pos 3) ≡ codes "cde"
piece_from_right = refl

pub long_piece_from_right : substring_of (codes "abcdef") (negsuc 1) (pos 10) ≡ codes "abcde"
long_piece_from_right = refl

pub piece_from_nowhere : substring_of (codes "abcdef") (pos 0) (pos 3) ≡ []
piece_from_nowhere = refl

pub piece_past_the_end : substring_of (codes "abc") (pos 4) (pos 1) ≡ []
piece_past_the_end = refl

pub piece_before_the_beginning : substring_of (codes "abc") (negsuc 3) (pos 1) ≡ []
piece_before_the_beginning = refl

pub period_is_there : add_period_of (codes "a.}") ≡ codes "a.}"
period_is_there = refl

pub period_after_braces : add_period_of (codes "}") ≡ codes "}."
period_after_braces = refl

pub period_after_parenthesis : add_period_of (codes "a)") ≡ codes "a)."
period_after_parenthesis = refl

-- only closing braces are passed over on the way to the last mark
pub period_after_bracket : add_period_of (codes "a.]") ≡ codes "a.]."
period_after_bracket = refl

-- ---- characters of text

-- what a function takes, and what it gives
record Worked (A B : Type 0) : Type 0 where
  taken : A
  given : B

-- a function gives what a table says
abbrev AreWorked : {A B : Type 0} → (A → B) → List (Worked A B) → Type 0
AreWorked f rows = map (λ row. f row.taken) rows ≡ map (λ row. row.given) rows

-- a string, how many characters of text are taken from it, and these
abbrev prefixed : TextMode → List ℕ → ℤ → List ℕ → Worked (TextMode × List ℕ × ℤ) (List ℕ)
prefixed mode string number text = record { taken = (mode, string, number); given = text }

abbrev prefixes : List (Worked (TextMode × List ℕ × ℤ) (List ℕ))
prefixes =
    prefixed Bytes (codes "{\\\"O}zg{ab}c") (pos 4) (codes "{\\\"O}zg{a}")
    ∷ prefixed Utf8 (0xC3 ∷ 0x89 ∷ 0x61 ∷ []) (pos 1) (0xC3 ∷ 0x89 ∷ [])
    ∷ prefixed Bytes (0xC3 ∷ 0x89 ∷ 0x61 ∷ []) (pos 1) (0xC3 ∷ [])
    ∷ []

pub prefixes-worked : AreWorked (λ taken. text_prefix_of taken.0 taken.1 taken.2) prefixes
unfolding elements_of elements_from kind_at group_len take_characters sequence_size second_fits is_sequence begins_sequence
prefixes-worked = refl

-- a string, and how many characters of text it has
abbrev counted : TextMode → List ℕ → ℕ → Worked (TextMode × List ℕ) ℕ
counted mode string number = record { taken = (mode, string); given = number }

abbrev lengths : List (Worked (TextMode × List ℕ) ℕ)
lengths =
    counted Bytes (codes "{\\\"O}zg{ab}c") 6
    ∷ counted Bytes (codes "a{b}") 2
    ∷ counted Utf8 (0xC3 ∷ 0x89 ∷ 0x61 ∷ []) 2
    ∷ counted Bytes (0xC3 ∷ 0x89 ∷ 0x61 ∷ []) 3
    -- an overlong form and a surrogate are no sequences
    ∷ counted Utf8 (0xC0 ∷ 0xAF ∷ []) 2
    ∷ counted Bytes (0xC0 ∷ 0xAF ∷ []) 2
    ∷ counted Utf8 (0xED ∷ 0xA0 ∷ 0x80 ∷ []) 3
    ∷ counted Bytes (0xED ∷ 0xA0 ∷ 0x80 ∷ []) 3
    ∷ []

pub lengths-worked : AreWorked (λ taken. text_length_of taken.0 taken.1) lengths
unfolding elements_of elements_from kind_at group_len sequence_size second_fits is_sequence begins_sequence
lengths-worked = refl

-- ---- purified forms

-- a string, and its purified form
abbrev purified : List ℕ → List ℕ → Worked (List ℕ) (List ℕ)
purified string text = record { taken = string; given = text }

abbrev purified_strings : List (Worked (List ℕ) (List ℕ))
purified_strings =
    purified (codes "{\\\"o}sterreich--{\\oe}uvre~1") (codes "osterreich  oeuvre 1")
    ∷ purified (codes "{\\'e}-{\\relax x}") (codes "e x")
    -- in a special character a hyphen and a tie go
    ∷ purified (codes "{\\'e-~o}") (codes "eo")
    -- a foreign control sequence becomes its two letters, if it is one of `oe OE ae AE ss`, and else its first
    ∷ purified (codes "{\\i\\j\\o\\oe\\ae\\aa\\l\\ss\\O\\OE\\AE\\AA\\L}") (codes "ijooeaealssOOEAEAL")
    ∷ []

pub purified-worked : AreWorked purify_of purified_strings
unfolding elements_of elements_from kind_at group_len class_of control_name glyphs_from glyphs_of letters_of
purified-worked = refl

-- ---- case

-- a conversion is named by one letter, and by no longer word
pub conversion_of_two_letters : conversion_of (codes "tt") ≡ None
conversion_of_two_letters = refl

-- a string, a conversion, and the string in that case
abbrev cased : List ℕ → List ℕ → List ℕ → Worked (List ℕ × List ℕ) (List ℕ)
cased string conversion text = record { taken = (string, conversion); given = text }

abbrev cased_strings : List (Worked (List ℕ × List ℕ) (List ℕ))
cased_strings =
    -- the foreign control sequences that are lowered; all others stay
    cased (codes "{\\O\\OE\\AE\\AA\\L} {\\i\\ss\\relax\\RELAX}") (codes "l") (codes "{\\o\\oe\\ae\\aa\\l} {\\i\\ss\\relax\\RELAX}")
    -- those that are raised, and those that become letters; all others stay
    ∷ cased (codes "{\\o\\oe\\ae\\aa\\l} {\\i\\j\\ss} {\\O\\relax}") (codes "u") (codes "{\\O\\OE\\AE\\AA\\L} {IJSS} {\\O\\relax}")
    ∷ cased (codes "The {TeX}book: A {\\AE}ON") (codes "t") (codes "The {TeX}book: A {\\ae}on")
    ∷ cased (codes "{\\ss}a") (codes "u") (codes "{SS}A")
    ∷ cased (codes "{\\i  x\\oe y}") (codes "U") (codes "{IX\\OE Y}")
    ∷ cased (codes "A:B") (codes "t") (codes "A:b")
    ∷ cased (codes "A: {\\'E} B") (codes "t") (codes "A: {\\'E} b")
    ∷ []

pub cased-worked : AreWorked (λ taken. change_case_of taken.0 taken.1) cased_strings
unfolding elements_of elements_from kind_at group_len control_name glyphs_from glyphs_of without_white cased_parts cased_control
cased-worked = refl

pub no_conversion : change_case_of (codes "Ab") (codes "x") ≡ codes "Ab"
no_conversion = refl

pub no_conversion_complaint : case_complaints (codes "x") ≡ wrong_conversion
no_conversion_complaint = refl

pub conversion_no_complaint : case_complaints (codes "T") ≡ no_complaints
conversion_no_complaint = refl

-- ---- widths

-- a string, and its width in hundredths of a point
abbrev measured : List ℕ → ℕ → Worked (List ℕ) ℕ
measured string width = record { taken = string; given = width }

abbrev widths : List (Worked (List ℕ) ℕ)
widths =
    measured (codes "AB") 1458
    ∷ measured (codes "{B}") 1708
    ∷ measured (codes "{\\oe}") 778
    -- five foreign control sequences have widths of their own, and each other one has that of its first letter
    ∷ measured (codes "{\\i\\j\\o\\oe\\ae\\aa\\l\\ss\\O\\OE\\AE\\AA\\L}") (278 + 306 + 500 + 778 + 722 + 500 + 278 + 500 + 778 + 1014 + 903 + 750 + 625)
    ∷ measured (codes "{\\'e}") 444
    ∷ measured [] 0
    ∷ []

pub widths-worked : AreWorked width_of widths
unfolding elements_of elements_from kind_at group_len control_name glyphs_from glyphs_of without_white control_width letters_of
widths-worked = refl
