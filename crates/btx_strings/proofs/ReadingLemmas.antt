-- Each special character is read as glyphs in one way.
use Rattle.std.proofs.Common.{◌≡◌, ℕ, zero, suc, ◌≤◌, Bool, true, false, cond, not, ◌&&◌, eqb, List, [], ◌∷◌, ◌++◌, length, drop, refl, sym, ◌∙◌, ap, arith}
use Rattle.std.proofs.Common.{length-drop}
use Rattle.std.specs.Prelude.{take_while}
use Rattle.std.specs.List.{list_all}
use Rattle.std.proofs.lemmas.Bool.{and_parts, and_from, not-true, not_from_false, ne_eqb, eqb-true, eqb-false}
use Rattle.std.proofs.lemmas.Bool.Decides.{nat_tests}
use Rattle.std.proofs.lemmas.List.{take-append-drop, drop_at}
use Rattle.std.proofs.lemmas.List.Sums.{take_while-cons}
use Rattle.btx_text.specs.language.Class.{is_alpha}
use Rattle.btx_strings.specs.language.Controls.{Glyph, Control, Plain, is_brace, lone, control_name, glyphs_of}
use Rattle.btx_strings.specs.laws.Controls.{glyphs_text, begins_with, is_name, is_glyph, AreGlyphs}
use Rattle.btx_strings.proofs.ControlLemmas.{glyphs_of-control, glyphs_of-plain, glyphs_of-nil, control_name_front}

-- ---- the name of a control sequence

brace_is_no_letter : (b : ℕ) → is_brace b ≡ true → is_alpha b ≡ false
brace_is_no_letter b h = grind (arith, nat_tests)

-- a run of alpha bytes that no other follows
take_while-run : (name after : List ℕ) → list_all is_alpha name ≡ true → begins_with is_alpha after ≡ false → take_while is_alpha (name ++ after) ≡ name
take_while-run [] [] h k = refl
take_while-run [] (c ∷ cs) h k = take_while-cons is_alpha c cs ∙ ap (λ t. cond t (c ∷ take_while is_alpha cs) []) k
take_while-run (b ∷ bs) after h k =
    let parts = and_parts _ _ h in
    take_while-cons is_alpha b (bs ++ after) ∙ ap (λ t. cond t (b ∷ take_while is_alpha (bs ++ after)) []) parts.0
    ∙ ap (λ xs. b ∷ xs) (take_while-run bs after parts.1 k)

-- the run of alpha bytes that a text begins with
take_while-alpha : (s : List ℕ) → (list_all is_alpha (take_while is_alpha s) ≡ true) × (begins_with is_alpha (drop (length (take_while is_alpha s)) s) ≡ false)
take_while-alpha [] = (refl, refl)
take_while-alpha (b ∷ bs) = rw (take_while-cons is_alpha b bs) (at (is_alpha b) refl (take_while-alpha bs)) where
  at : (t : Bool) → is_alpha b ≡ t → (list_all is_alpha (take_while is_alpha bs) ≡ true)
      × (begins_with is_alpha (drop (length (take_while is_alpha bs)) bs) ≡ false) →
      (list_all is_alpha (cond t (b ∷ take_while is_alpha bs) []) ≡ true)
      × (begins_with is_alpha (drop (length (cond t (b ∷ take_while is_alpha bs) [])) (b ∷ bs)) ≡ false)
  at true is rest = (and_from _ _ is rest.0, rest.1)
  at false is rest = (refl, is)

-- the name of a text that begins with no alpha byte
control_name-lone : (s : List ℕ) → begins_with is_alpha s ≡ false → control_name s ≡ lone s
unfolding control_name
control_name-lone [] h = refl
control_name-lone (b ∷ bs) h =
    let none : take_while is_alpha (b ∷ bs) ≡ [] = take_while-cons is_alpha b bs ∙ ap (λ t. cond t (b ∷ take_while is_alpha bs) []) h in
    ap (λ letters. cond (eqb (length letters) 0) (lone (b ∷ bs)) letters) none

-- the name of a text that begins with an alpha byte
control_name-letters : (b : ℕ) (bs : List ℕ) → is_alpha b ≡ true → control_name (b ∷ bs) ≡ b ∷ take_while is_alpha bs
unfolding control_name
control_name-letters b bs h =
    let some : take_while is_alpha (b ∷ bs) ≡ b ∷ take_while is_alpha bs = take_while-cons is_alpha b bs ∙ ap (λ t. cond t (b ∷ take_while is_alpha bs) []) h in
    let more : eqb (suc (length (take_while is_alpha bs))) 0 ≡ false = ne_eqb _ 0 (λ e. omega arith) in
    ap (λ letters. cond (eqb (length letters) 0) (lone (b ∷ bs)) letters) some ∙ ap (λ t. cond t (lone (b ∷ bs)) (b ∷ take_while is_alpha bs)) more

-- what has the form of a name is the name
pub control_name-is_name : (name after : List ℕ) → is_name name after ≡ true → control_name (name ++ after) ≡ name
control_name-is_name [] [] h = control_name-lone [] refl
control_name-is_name [] (c ∷ cs) h =
    let brace : is_brace c ≡ true = at (is_brace c) h in
    control_name-lone (c ∷ cs) (brace_is_no_letter c brace) ∙ ap (λ t. cond t [] (c ∷ [])) brace where
      at : (t : Bool) → not (not t) ≡ true → t ≡ true
      at true e = refl
      at false e = e
control_name-is_name (b ∷ bs) after h = at (is_alpha b) refl h where
  one : (rest : List ℕ) → eqb (length rest) 0 ≡ true → rest ≡ []
  one [] e = refl
  one (c ∷ cs) e = let more : eqb (suc (length cs)) 0 ≡ false = ne_eqb _ 0 (λ same. omega arith) in cc

  at : (t : Bool) → is_alpha b ≡ t → cond t (list_all is_alpha bs && not (begins_with is_alpha after)) (eqb (length bs) 0 && not (is_brace b)) ≡ true
      → control_name (b ∷ (bs ++ after)) ≡ b ∷ bs
  at true is e =
      let parts = and_parts _ _ e in
      control_name-letters b (bs ++ after) is ∙ ap (λ xs. b ∷ xs) (take_while-run bs after parts.0 (not-true _ parts.1))
  at false is e =
      let parts = and_parts _ _ e in
      let none = one bs parts.0 in
      control_name-lone (b ∷ (bs ++ after)) is ∙ ap (λ t. cond t [] (b ∷ [])) (not-true _ parts.1) ∙ ap (λ xs. b ∷ xs) (sym none)

-- the name has the form of one
pub is_name-control_name : (s : List ℕ) → is_name (control_name s) (drop (length (control_name s)) s) ≡ true
is_name-control_name [] = rw (control_name-lone [] refl) refl
is_name-control_name (b ∷ bs) = at (is_alpha b) refl where
  lone_at : (t : Bool) → is_brace b ≡ t → is_alpha b ≡ false → is_name (cond t [] (b ∷ [])) (drop (length (cond t [] (b ∷ []))) (b ∷ bs)) ≡ true
  lone_at true brace is = rw brace refl
  lone_at false brace is = rw (is, brace) refl

  at : (t : Bool) → is_alpha b ≡ t → is_name (control_name (b ∷ bs)) (drop (length (control_name (b ∷ bs))) (b ∷ bs)) ≡ true
  at true is =
      let run = take_while-alpha bs in
      rw (control_name-letters b bs is, is) (and_from _ _ run.0 (not_from_false _ run.1))
  at false is = rw (control_name-lone (b ∷ bs) is) (lone_at (is_brace b) refl is)

-- ---- glyphs

-- each glyph is that of its place
abbrev Reads : List Glyph → Type 0
Reads [] = Unit {0}
Reads (g ∷ gs) = (is_glyph g (glyphs_text gs) ≡ true) × Reads gs

each_at : (left : List Glyph) (g : Glyph) (right : List Glyph) → Reads (left ++ g ∷ right) → is_glyph g (glyphs_text right) ≡ true
each_at [] g right h = h.0
each_at (l ∷ left) g right h = each_at left g right h.1

from_each : (gs : List Glyph) → ((left : List Glyph) (g : Glyph) (right : List Glyph) → gs ≡ left ++ g ∷ right → is_glyph g (glyphs_text right) ≡ true)
    → Reads gs
from_each [] h = tt
from_each (g ∷ gs) h = (h [] g gs refl, from_each gs (λ left q right e. h (g ∷ left) q right (ap (λ xs. g ∷ xs) e)))

-- what is shown of a text
abbrev IsRead : List ℕ → Type 0
IsRead s = (glyphs_text (glyphs_of s) ≡ s) × Reads (glyphs_of s)

-- there is one reading
reads : (n : ℕ) (s : List ℕ) → length s ≤ n → IsRead s
reads n [] h = let none = glyphs_of-nil [] refl in rw none (refl, tt)
reads zero (b ∷ bs) h = absurd (omega arith)
reads (suc n) (b ∷ bs) h = at (eqb b 92) refl (λ s le. reads n s le) where
  at : (t : Bool) → eqb b 92 ≡ t → ((s : List ℕ) → length s ≤ n → IsRead s) → IsRead (b ∷ bs)
  at true is shorter =
      let same : b ≡ 92 = eqb-true b 92 is in
      let name = control_name bs in
      let rest = drop (length name) bs in
      let later = shorter rest (omega (arith, length-drop (length name) bs)) in
      let whole : name ++ rest ≡ bs = ap (λ front. front ++ rest) (sym (control_name_front bs)) ∙ take-append-drop (length name) bs in
      rw (glyphs_of-control b bs same, later.0)
      (ap (λ xs. 92 ∷ xs) whole ∙ ap (λ c. c ∷ bs) (sym same), (is_name-control_name bs, later.1))
  at false is shorter =
      let later = shorter bs (omega arith) in
      rw (glyphs_of-plain b bs (eqb-false b 92 is)) (ap (λ xs. b ∷ xs) later.0, (rw is refl, later.1))

-- and no other
only : (gs : List Glyph) → Reads gs → gs ≡ glyphs_of (glyphs_text gs)
only [] h = sym (glyphs_of-nil [] refl)
only (Plain b ∷ gs) h =
    let other : b ≡ 92 → ⊥ = eqb-false b 92 (not-true _ h.0) in
    ap (λ xs. Plain b ∷ xs) (only gs h.1) ∙ sym (glyphs_of-plain b (glyphs_text gs) other)
only (Control name ∷ gs) h =
    let rest = glyphs_text gs in
    let same = control_name-is_name name rest h.0 in
    let after : drop (length (control_name (name ++ rest))) (name ++ rest) ≡ rest = ap (λ xs. drop (length xs) (name ++ rest)) same
    ∙ drop_at name rest (length name) refl in
    let first : glyphs_of (92 ∷ (name ++ rest)) ≡ Control name ∷ glyphs_of rest =
    glyphs_of-control 92 (name ++ rest) refl ∙ ap (λ xs. Control xs ∷ glyphs_of (drop (length (control_name (name ++ rest))) (name ++ rest))) same
    ∙ ap (λ xs. Control name ∷ glyphs_of xs) after in
    ap (λ xs. Control name ∷ xs) (only gs h.1) ∙ sym first

pub glyphs_of-reads : (text : List ℕ) → AreGlyphs text (glyphs_of text)
glyphs_of-reads text =
    let h = reads (length text) text (omega arith) in
    record { joined = h.0; each = λ left g right e. each_at left g right (rw (← e) h.1) }

pub glyphs_of-only : (text : List ℕ) (glyphs : List Glyph) → AreGlyphs text glyphs → glyphs ≡ glyphs_of text
glyphs_of-only text glyphs h = only glyphs (from_each glyphs h.each) ∙ ap glyphs_of h.joined
