-- Lemmas on the glyphs of a special character.
use Rattle.std.proofs.Common.{◌≡◌, ℕ, zero, suc, ◌≤◌, Bool, true, false, cond, eqb, ◌&&◌, ◌∙◌, List, [], ◌∷◌, length, take, drop, refl, arith, ap}
use Rattle.btx_text.specs.language.Class.{is_alpha}
use Rattle.btx_strings.specs.language.Controls.{Glyph, Control, Plain, control_name, glyphs_from, glyphs_of, lone, is_brace, follows, is_white_glyph}
use Rattle.btx_strings.specs.language.Controls.{without_white}
use Rattle.btx_strings.specs.refinement.Glyphs.{gone_after}
use Rattle.std.specs.Prelude.{take_while}
use Rattle.std.proofs.lemmas.Bool.{ne_eqb}
use Rattle.std.proofs.lemmas.List.{length-take}
use Rattle.std.proofs.lemmas.List.Folds.{length-prefix_len}

pub glyphs_from-skip : (skip : ℕ) (s : List ℕ) → glyphs_from skip s ≡ glyphs_from 0 (drop skip s)
unfolding glyphs_from
glyphs_from-skip zero s = refl
glyphs_from-skip (suc skip) [] = refl
glyphs_from-skip (suc skip) (b ∷ bs) = glyphs_from-skip skip bs

-- a control sequence, and what follows
pub glyphs_of-control : (b : ℕ) (bs : List ℕ) → b ≡ 92 → glyphs_of (b ∷ bs) ≡ Control (control_name bs) ∷ glyphs_of (drop (length (control_name bs)) bs)
unfolding glyphs_of glyphs_from
glyphs_of-control b bs is = rw is (ap (λ gs. Control (control_name bs) ∷ gs) (glyphs_from-skip (length (control_name bs)) bs))

pub glyphs_of-plain : (b : ℕ) (bs : List ℕ) → (b ≡ 92 → ⊥) → glyphs_of (b ∷ bs) ≡ Plain b ∷ glyphs_of bs
unfolding glyphs_of glyphs_from
glyphs_of-plain b bs ne = rw (ne_eqb b 92 ne) refl

pub glyphs_of-nil : (s : List ℕ) → length s ≡ 0 → glyphs_of s ≡ []
unfolding glyphs_of glyphs_from
glyphs_of-nil [] h = refl
glyphs_of-nil (b ∷ bs) h = absurd (omega arith)

-- the bytes of a control sequence are the first
take_while_front : (p : ℕ → Bool) (s : List ℕ) → take (length (take_while p s)) s ≡ take_while p s
take_while_front p s = ap (λ n. take n s) (length-prefix_len p s)

lone_front : (s : List ℕ) → take (length (lone s)) s ≡ lone s
lone_front [] = refl
lone_front (b ∷ bs) = elim (is_brace b) as (λ t. take (length (cond t [] (b ∷ []))) (b ∷ bs) ≡ cond t [] (b ∷ [])) [ true ↦ refl | false ↦ refl ]

pub control_name_front : (s : List ℕ) → take (length (control_name s)) s ≡ control_name s
unfolding control_name
control_name_front s = elim (eqb (length (take_while is_alpha s)) 0) as (λ t. take (length (cond t (lone s) (take_while is_alpha s))) s
    ≡ cond t (lone s) (take_while is_alpha s)) [ true ↦ lone_front s | false ↦ take_while_front is_alpha s ]

pub length-control_name : (s : List ℕ) → length (control_name s) ≤ length s
length-control_name s =
    let len : length (take (length (control_name s)) s) ≡ length (control_name s) = ap length (control_name_front s) in
    omega (arith, len, length-take (length (control_name s)) s)

pub ruleset glyph_steps = (glyphs_of-control, glyphs_of-plain, glyphs_of-nil, control_name_front, length-control_name)

-- ---- whitespace after a control sequence

-- the glyphs without that whitespace, by what is carried on
abbrev pub kept_from : (List ℕ → Bool) → Bool → List Glyph → List Glyph
kept_from test gone [] = []
kept_from test gone (glyph ∷ glyphs) =
    let others = kept_from test (gone_after test gone glyph) glyphs in
    cond (gone && is_white_glyph glyph) others (glyph ∷ others)

follows-cons : (test : List ℕ → Bool) (glyph : Glyph) (before : List Glyph) → follows test (glyph ∷ before) ≡ gone_after test (follows test before) glyph
follows-cons test (Control name) before = refl
follows-cons test (Plain b) before = refl

without_white-carried : (test : List ℕ → Bool) (before glyphs : List Glyph) → without_white test before glyphs ≡ kept_from test (follows test before) glyphs
unfolding without_white
without_white-carried test before [] = refl
without_white-carried test before (glyph ∷ glyphs) =
    let others : without_white test (glyph ∷ before) glyphs ≡ kept_from test (gone_after test (follows test before) glyph) glyphs =
    without_white-carried test (glyph ∷ before) glyphs ∙ ap (λ gone. kept_from test gone glyphs) (follows-cons test glyph before) in
    ap (λ gs. cond (follows test before && is_white_glyph glyph) gs (glyph ∷ gs)) others

-- from the first glyph on
pub without_white-kept : (test : List ℕ → Bool) (glyphs : List Glyph) → without_white test [] glyphs ≡ kept_from test false glyphs
without_white-kept test glyphs = without_white-carried test [] glyphs

pub ruleset kept_steps = (without_white-kept)
