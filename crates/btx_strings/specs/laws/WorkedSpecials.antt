-- Worked special characters: what `purify$` leaves of each foreign control sequence and of others, and their widths (btxhak, section 5.3).
use Prim.Native.String.{String}
use Rattle.std.specs.Prelude.{◌≡◌, ℕ, List, [], ◌∷◌, codes}
use Rattle.btx_strings.specs.language.Purify.{purify_of}
use Rattle.btx_strings.specs.language.Width.{width_of}

-- a special character, what `purify$` leaves of it, and its width
pub record WorkedSpecial : Type 0 where
  pub special : List ℕ
  pub purified : List ℕ
  pub width : ℕ

-- a worked special character, of its three parts: `{\oe}` is purified to `oe`, and has the width 778
abbrev pub special_row : String → String → ℕ → WorkedSpecial
special_row special purified width = record { special = codes special; purified = codes purified; width = width }

-- each foreign control sequence, one that is none, and an accent
abbrev pub specials : List WorkedSpecial
specials =
    special_row "{\\i}" "i" 278
    ∷ special_row "{\\j}" "j" 306
    ∷ special_row "{\\o}" "o" 500
    ∷ special_row "{\\oe}" "oe" 778
    ∷ special_row "{\\ae}" "ae" 722
    ∷ special_row "{\\aa}" "a" 500
    ∷ special_row "{\\l}" "l" 278
    ∷ special_row "{\\ss}" "ss" 500
    ∷ special_row "{\\O}" "O" 778
    ∷ special_row "{\\OE}" "OE" 1014
    ∷ special_row "{\\AE}" "AE" 903
    ∷ special_row "{\\AA}" "A" 750
    ∷ special_row "{\\L}" "L" 625
    ∷ special_row "{\\J}" "" 0
    ∷ special_row "{\\'e}" "e" 444
    -- whitespace after a control sequence has no width, be the sequence letters or a sign; before or between other bytes it has its own
    ∷ special_row "{\\oe x}" "oex" 1306
    ∷ special_row "{\\relax x}" "x" 528
    ∷ special_row "{\\' x}" "x" 528
    ∷ special_row "{\\^ \t o}" "o" 500
    ∷ special_row "{\\' x y}" "xy" 1334
    ∷ []

-- each row's special character is purified to its text, and has its width
abbrev pub AreSpecials : List WorkedSpecial → Type 0
AreSpecials [] = Unit {0}
AreSpecials (row ∷ rows) = (purify_of row.special ≡ row.purified) × (width_of row.special ≡ row.width) × AreSpecials rows
