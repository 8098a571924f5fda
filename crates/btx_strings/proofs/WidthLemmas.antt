-- Lemmas on widths.
use Rattle.std.proofs.Common.{◌≡◌, ℕ, zero, suc, ◌+◌, ◌*◌, ◌≤◌, Bool, true, false, cond, ◌&&◌, eqb, leb, List, [], ◌∷◌, length, get_or, sum_by, refl, arith}
use Rattle.std.proofs.Common.{length-append}
use Rattle.std.specs.Prelude.{codes}
use Rattle.std.specs.List.{list_all}
use Rattle.std.specs.Str.{bytes_eq}
use Rattle.std.proofs.lemmas.Bool.{and_parts, leb-true}
use Rattle.std.proofs.lemmas.List.{get_or_past}
use Rattle.std.proofs.lemmas.List.Sums.{sum_by-cons}
use Rattle.btx_text.specs.declared.element_kind.Kind.{Kind}
use Rattle.btx_text.specs.declared.element_kind.Kind.TheVariants.{Special}
use Rattle.btx_text.specs.language.Elements.{Element}
use Rattle.btx_strings.specs.language.Controls.{Glyph, Control, Plain, control_name, glyphs_from, glyphs_of, is_brace, follows, is_white_glyph, without_white}
use Rattle.btx_strings.specs.language.Controls.{letters_of}
use Rattle.btx_strings.specs.language.Width.{widths, byte_width, first_width, control_width, glyph_width, width_as}
use Rattle.btx_strings.specs.refinement.Width.{special_width, part_width}
use Rattle.btx_text.specs.laws.Elements.{text_of}

-- ---- no byte is wider than 1,028

get_or-below : (xs : List ℕ) (i : ℕ) → list_all (λ w. leb w 1028) xs ≡ true → get_or xs i 0 ≤ 1028
get_or-below [] i h = omega arith
get_or-below (x ∷ xs) zero h = leb-true _ _ (and_parts _ _ h).0
get_or-below (x ∷ xs) (suc i) h = get_or-below xs i (and_parts _ _ h).1

pub byte_width-le : (b : ℕ) → byte_width b ≤ 1028
byte_width-le b = get_or-below widths b refl

pub byte_width-past : (b : ℕ) → 127 ≤ b → byte_width b ≡ 0
byte_width-past b h = get_or_past widths b 0 h

pub ruleset width_table = (byte_width-past)

-- ---- no text is wider than 1,028 a byte

bytes_width-le : (text : List ℕ) → sum_by byte_width text ≤ 1028 * length text
bytes_width-le [] = omega arith
bytes_width-le (b ∷ bs) =
    let rest = bytes_width-le bs in
    let here = byte_width-le b in
    omega (arith, sum_by-cons byte_width b bs)

first_width-le : (text : List ℕ) → first_width text ≤ 1028
first_width-le [] = omega arith
first_width-le (b ∷ bs) = byte_width-le b

control_width-le : (name : List ℕ) → control_width name ≤ 1028
unfolding control_width
control_width-le name = at (bytes_eq name (codes "ss")) (bytes_eq name (codes "ae")) (bytes_eq name (codes "oe")) (bytes_eq name (codes "AE"))
    (bytes_eq name (codes "OE")) (first_width (letters_of name)) (first_width-le (letters_of name)) where
      at : (s t u v w : Bool) (n : ℕ) → n ≤ 1028 → cond s 500 (cond t 722 (cond u 778 (cond v 903 (cond w 1014 n)))) ≤ 1028
      at true t u v w n h = omega arith
      at false true u v w n h = omega arith
      at false false true v w n h = omega arith
      at false false false true w n h = omega arith
      at false false false false true n h = omega arith
      at false false false false false n h = h

glyph_width-le : (glyph : Glyph) → glyph_width glyph ≤ 1028
glyph_width-le (Control name) = control_width-le name
glyph_width-le (Plain b) = at (is_brace b) (byte_width b) (byte_width-le b) where
  at : (t : Bool) (n : ℕ) → n ≤ 1028 → cond t 0 n ≤ 1028
  at true n h = omega arith
  at false n h = h

-- a special character has no more glyphs than bytes
length-glyphs_from : (skip : ℕ) (s : List ℕ) → length (glyphs_from skip s) ≤ length s
unfolding glyphs_from
length-glyphs_from skip [] = omega arith
length-glyphs_from (suc skip) (b ∷ bs) = let h = length-glyphs_from skip bs in omega arith
length-glyphs_from zero (b ∷ bs) = at (eqb b 92) (glyphs_from (length (control_name bs)) bs) (glyphs_from zero bs)
    (length-glyphs_from (length (control_name bs)) bs) (length-glyphs_from zero bs) where
      at : (t : Bool) (xs ys : List Glyph) → length xs ≤ length bs → length ys ≤ length bs → length (cond t (Control (control_name bs) ∷ xs) (Plain b ∷ ys))
          ≤ suc (length bs)
      at true xs ys h k = omega arith
      at false xs ys h k = omega arith

kept_width-le : (test : List ℕ → Bool) (before glyphs : List Glyph) → sum_by glyph_width (without_white test before glyphs) ≤ 1028 * length glyphs
unfolding without_white
kept_width-le test before [] = omega arith
kept_width-le test before (glyph ∷ glyphs) =
    at (follows test before && is_white_glyph glyph) (without_white test (glyph ∷ before) glyphs) (kept_width-le test (glyph ∷ before) glyphs) where
      at : (t : Bool) (others : List Glyph) → sum_by glyph_width others ≤ 1028 * length glyphs → sum_by glyph_width (cond t others (glyph ∷ others))
          ≤ 1028 * suc (length glyphs)
      at true others h = omega arith
      at false others h = let here = glyph_width-le glyph in omega (arith, sum_by-cons glyph_width glyph others)

special_width-le : (text : List ℕ) → special_width text ≤ 1028 * length text
unfolding glyphs_of
special_width-le text =
    let kept = kept_width-le (λ _. true) [] (glyphs_of text) in
    let len = length-glyphs_from 0 text in
    omega arith

width_as-le : (kind : Kind) (text : List ℕ) → width_as kind text ≤ 1028 * length text
width_as-le Special text = special_width-le text
width_as-le _ text = bytes_width-le text

pub part_width-le : (part : Element) → part_width part ≤ 1028 * length part.text
part_width-le part = width_as-le part.kind part.text

-- one element less to go over
pub one_less : (parts rest : List Element) (part : Element) → parts ≡ part ∷ rest →
    (sum_by part_width parts ≡ part_width part + sum_by part_width rest) × (length (text_of parts) ≡ length part.text + length (text_of rest))
    × (part_width part ≤ 1028 * length part.text)
one_less parts rest part is = rw is (sum_by-cons part_width part rest, length-append part.text (text_of rest), part_width-le part)
