-- A special character is in lower case exactly where its glyphs are.
use Rattle.std.proofs.Common.{◌≡◌, ℕ, zero, suc, ◌+◌, ◌-◌, Bool, true, false, not, cond, eqb, leb, ◌&&◌, List, [], ◌∷◌, ◌++◌, Some, length, take, drop, refl}
use Rattle.std.proofs.Common.{sym, ◌∙◌, ap, arith}
use Rattle.std.proofs.lemmas.Bool.{true≢false, eqb-true, and_parts, or_parts, not_from_false}
use Rattle.std.proofs.lemmas.List.{nil_from_length}
use Rattle.std.proofs.lemmas.List.Sums.{take_while-cons}
use Rattle.std.specs.Prelude.{take_while, slice_index}
use Rattle.btx_text.specs.language.Class.{is_alpha}
use Rattle.btx_text.specs.declared.element_kind.Kind.TheVariants.{Byte, Open, Close, Special, Wide}
use Rattle.btx_text.specs.declared.element_kind.TextMode.{TextMode}
use Rattle.btx_text.specs.declared.element_kind.TextMode.TheVariants.{Bytes}
use Rattle.btx_text.specs.language.Elements.{Element, is_utf8, kind_at, group_len, extent, elements_from, elements_of, depth_after}
use Rattle.btx_text.specs.language.Sequences.{begins_sequence}
use Rattle.btx_strings.specs.language.Controls.{control_name, lone, is_brace, glyphs_from, glyphs_of, letters_of}
use Rattle.btx_strings.specs.laws.Controls.{glyphs_text}
use Rattle.btx_strings.proofs.ControlLemmas.{glyphs_from-skip}
use Rattle.btx_strings.proofs.ReadingLemmas.{glyphs_of-reads}
use Rattle.btx_names.specs.language.VonTokens.{is_lower_special, casing_of}
use Rattle.btx_names.specs.laws.VonGlyphs.{are_lower}
use Rattle.btx_names.proofs.SplitLemmas.{never}
use Rattle.btx_names.specs.laws.VonTokens.{casing, is_foreign, begins_lower}
use Rattle.std.specs.Char.{is_ascii_alphabetic, is_ascii_lowercase}
use Rattle.btx_text.specs.refinement.Elements.{begins_special, element_at}

-- ---- the text of a special character

behind_glyphs : (skip : ℕ) (s : List ℕ) → glyphs_text (glyphs_from skip s) ≡ drop skip s
unfolding glyphs_of
behind_glyphs skip s = ap glyphs_text (glyphs_from-skip skip s) ∙ (glyphs_of-reads (drop skip s)).joined

-- what a control sequence of a name says
abbrev says : List ℕ → List ℕ → Bool
says name bs = cond (is_foreign name) (is_ascii_lowercase (slice_index name 0)) (begins_lower (drop (length name) bs))

no_letter : (b : ℕ) (bs : List ℕ) → length (take_while is_alpha (b ∷ bs)) ≡ 0 → is_alpha b ≡ false
no_letter b bs none = at (is_alpha b) refl where
  at : (t : Bool) → is_alpha b ≡ t → t ≡ false
  at false is = refl
  at true is = let more : length (take_while is_alpha (b ∷ bs)) ≡ suc (length (take_while is_alpha bs)) =
      ap length (take_while-cons is_alpha b bs) ∙ rw is refl in absurd (omega (arith, none, more))

-- a sequence of one byte that is no letter isn't foreign, and the first letter comes after it
one_byte : (b : ℕ) (bs : List ℕ) → is_alpha b ≡ false → says (b ∷ []) (b ∷ bs) ≡ begins_lower (b ∷ bs)
unfolding letters_of
one_byte b bs other =
    let no : (v : ℕ) → not (is_alpha v) ≡ false → eqb b v ≡ false = λ v letter. never (λ x. not (is_alpha x)) b v (not_from_false (is_alpha b) other) letter in
    let cased : is_ascii_alphabetic b ≡ false = (or_parts (is_ascii_alphabetic b) (leb 128 b) other).0 in
    rw (no 111 refl, no 79 refl, no 97 refl, no 65 refl, no 115 refl, no 105 refl, no 106 refl, no 108 refl, no 76 refl, cased) refl

lone_says : (bs : List ℕ) → length (take_while is_alpha bs) ≡ 0 → says (lone bs) bs ≡ says [] bs
unfolding letters_of
lone_says [] none = refl
lone_says (b ∷ bs) none = at (is_brace b) where
  at : (t : Bool) → says (cond t [] (b ∷ [])) (b ∷ bs) ≡ begins_lower (b ∷ bs)
  at true = refl
  at false = one_byte b bs (no_letter b bs none)

name_says : (bs : List ℕ) → says (control_name bs) bs ≡ says (take_while is_alpha bs) bs
unfolding control_name
name_says bs = at (eqb (length (take_while is_alpha bs)) 0) refl where
  at : (t : Bool) → eqb (length (take_while is_alpha bs)) 0 ≡ t → says (cond t (lone bs) (take_while is_alpha bs)) bs ≡ says (take_while is_alpha bs) bs
  at false is = refl
  at true is =
      let none = eqb-true _ 0 is in
      lone_says bs none ∙ ap (λ name. says name bs) (sym (nil_from_length (take_while is_alpha bs) none))

pub lower_by_glyphs : (bs : List ℕ) → is_lower_special (123 ∷ 92 ∷ bs) ≡ are_lower (glyphs_of (123 ∷ 92 ∷ bs))
unfolding is_lower_special are_lower glyphs_of glyphs_from
lower_by_glyphs bs =
    sym (ap (λ after. cond (is_foreign (control_name bs)) (is_ascii_lowercase (slice_index (control_name bs) 0)) (begins_lower after))
    (behind_glyphs (length (control_name bs)) bs)
    ∙ name_says bs)

-- ---- the special characters of a token

abbrev ByGlyphs : Element → Type 0
ByGlyphs element = element.kind ≡ Special → casing element ≡ Some (are_lower (glyphs_of element.text))

Each : List Element → Type 0
Each [] = Unit {0}
Each (element ∷ elements) = ByGlyphs element × Each elements

begins : (mode : TextMode) (depth b : ℕ) (bs : List ℕ) → kind_at mode depth (b ∷ bs) ≡ Special → begins_special depth (b ∷ bs) ≡ true
unfolding kind_at
begins mode depth b bs is = at (begins_special depth (b ∷ bs)) (is_utf8 mode && begins_sequence (b ∷ bs)) (eqb b 123) (eqb b 125) is where
  at : (t u v w : Bool) → cond t Special (cond u Wide (cond v Open (cond w Close Byte))) ≡ Special → t ≡ true
  at true u v w is = refl
  at false true v w is = let none : ⊥ = cc in absurd none
  at false false true w is = let none : ⊥ = cc in absurd none
  at false false false true is = let none : ⊥ = cc in absurd none
  at false false false false is = let none : ⊥ = cc in absurd none

here : (mode : TextMode) (start depth b : ℕ) (bs : List ℕ) → ByGlyphs (element_at mode start depth (b ∷ bs))
unfolding group_len
here mode start depth b [] is =
    let test : (eqb depth 0 && (eqb 123 b && false)) ≡ true = begins mode depth b [] is in
    let parts = and_parts (eqb depth 0) (eqb 123 b && false) test in
    let two = and_parts (eqb 123 b) false parts.1 in
    absurd (true≢false (sym two.1))
here mode start depth b (c ∷ cs) is =
    let test : (eqb depth 0 && (eqb 123 b && (eqb 92 c && true))) ≡ true = begins mode depth b (c ∷ cs) is in
    let parts = and_parts (eqb depth 0) (eqb 123 b && (eqb 92 c && true)) test in
    let two = and_parts (eqb 123 b) (eqb 92 c && true) parts.1 in
    let three = and_parts (eqb 92 c) true two.1 in
    let text : take (extent (kind_at mode depth (b ∷ c ∷ cs)) (b ∷ c ∷ cs)) (b ∷ c ∷ cs) ≡ 123 ∷ 92 ∷ take (group_len 1 cs) cs =
    ap (λ kind. take (extent kind (b ∷ c ∷ cs)) (b ∷ c ∷ cs)) is ∙ rw (sym (eqb-true 123 b two.0), sym (eqb-true 92 c three.0)) refl in
    ap (λ kind. casing_of kind depth (take (extent (kind_at mode depth (b ∷ c ∷ cs)) (b ∷ c ∷ cs)) (b ∷ c ∷ cs))) is
    ∙ ap (λ xs. Some (is_lower_special xs)) text
    ∙ ap Some (lower_by_glyphs (take (group_len 1 cs) cs))
    ∙ ap (λ xs. Some (are_lower (glyphs_of xs))) (sym text)

each_from : (mode : TextMode) (skip start depth : ℕ) (s : List ℕ) → Each (elements_from mode skip start depth s)
unfolding elements_from Each
each_from mode zero start depth [] = tt
each_from mode (suc skip) start depth [] = tt
each_from mode (suc skip) start depth (b ∷ bs) = each_from mode skip (start + 1) (depth_after depth b) bs
each_from mode zero start depth (b ∷ bs) =
    (here mode start depth b bs, each_from mode (length (element_at mode start depth (b ∷ bs)).text - 1) (start + 1) (depth_after depth b) bs)

each_in : (left : List Element) (special : Element) (right : List Element) → Each (left ++ special ∷ right) → ByGlyphs special
unfolding Each
each_in [] special right each = each.0
each_in (element ∷ left) special right each = each_in left special right each.1

pub special_by_glyphs : (token : List ℕ) (left : List Element) (special : Element) (right : List Element) → elements_of Bytes token ≡ left ++ special ∷ right →
    special.kind ≡ Special → casing special ≡ Some (are_lower (glyphs_of special.text))
unfolding elements_of
special_by_glyphs token left special right is = each_in left special right (rw (sym is) (each_from Bytes 0 0 0 token))
