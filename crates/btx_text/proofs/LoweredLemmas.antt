-- Names that have no capital letter.
use Rattle.std.proofs.Common.{◌≡◌, ℕ, suc, ◌<◌, ◌≤◌, ◌+◌, ◌%◌, ◌^◌, Bool, true, false, not, ◌||◌, eqb, ltb, cond, List, [], ◌∷◌, map, length, get_or, drop}
use Rattle.std.proofs.Common.{replicate, Fits, w8, ap, ap₂, ◌∙◌, arith, refl, sym}
use Rattle.std.proofs.lemmas.Bool.{agree_below, agree_below_at, eqb-true}
use Rattle.std.proofs.lemmas.Simd.{length-chunk, map-map, mask_l-mod, none_from_empty_mask, zip2_splat}
use lib.Lanes.{chunk, mask_l, top, zip2}
use Rattle.std.specs.Char.{to_ascii_lowercase, IsNotAsciiUppercase}
use Rattle.std.proofs.lemmas.List.{at_drop_more, length-map}
use Rattle.std.proofs.lemmas.Bool.Decides.{nat_tests}
use Rattle.btx_text.specs.language.Keys.{folded}
use Rattle.btx_text.specs.refinement.Lowered.{AreLower}

pub lower-same : (b : ℕ) → IsNotAsciiUppercase b → to_ascii_lowercase b ≡ b
lower-same b h = grind (arith, nat_tests)

pub folded-next : (text : List ℕ) (place b : ℕ) → place < length text → get_or text place b ≡ b → IsNotAsciiUppercase b → folded (drop (place + 1) text)
    ≡ drop (place + 1) text → folded (drop place text) ≡ drop place text
folded-next text place b within at lower rest =
    let parts : drop place text ≡ get_or text place b ∷ drop (place + 1) text = at_drop_more (λ (xs : List ℕ). xs) text place b within in
    let first : drop place text ≡ b ∷ drop (place + 1) text = parts ∙ ap (λ (x : ℕ). x ∷ drop (place + 1) text) at in
    ap folded first
    ∙ ap (λ (x : ℕ). x ∷ folded (drop (place + 1) text)) (lower-same b lower)
    ∙ ap (λ (xs : List ℕ). b ∷ xs) rest
    ∙ sym first

-- ---- block by block

-- what a comparison of two lanes gives
abbrev below : ℕ → ℕ → ℕ
below a b = cond (ltb a b) 255 0

pub lower-in-block : (s : List ℕ) (i : ℕ) (less : ℕ → ℕ → ℕ) → i + 8 ≤ length s → ((k : ℕ) → Fits w8 (get_or s k 0)) →
    not (eqb (mask_l (map (top 7) (zip2 below (zip2 less (chunk i 8 s) (replicate 8 65)) (replicate 8 26))) % 2 ^ 64) 0) ≡ false →
    agree_below (λ b. top 7 (below (less b 65) 26) || eqb (to_ascii_lowercase b) b) (λ _. true) 256 ≡ true → AreLower s i (i + 8)
lower-in-block s i less room fits none all k from to =
    let here = chunk i 8 s in
    let long = length-chunk i 8 s room in
    let lane = λ (b : ℕ). below (less b 65) 26 in
    let lanes : zip2 below (zip2 less here (replicate 8 65)) (replicate 8 26) ≡ map lane here =
    ap (λ l. zip2 below l (replicate 8 26)) (zip2_splat less here 8 65 long)
    ∙ zip2_splat below (map (λ b. less b 65) here) 8 26 (length-map here (λ b. less b 65) ∙ long) ∙ map-map (λ x. below x 26) (λ b. less b 65) here in
    let mask = ap (λ l. mask_l l % 2 ^ 64) (ap (map (top 7)) lanes ∙ map-map (top 7) lane here)
    ∙ mask_l-mod (map (λ b. top 7 (lane b)) here) 64 (omega (arith, length-map here (λ b. top 7 (lane b)), long)) in
    let empty = sym mask ∙ eqb-true _ 0 (not-not _ none) in
    let clear = none_from_empty_mask (λ b. top 7 (lane b)) s i 8 0 room empty k from to in
    eqb-true _ _ (sym (ap (λ (t : Bool). t || eqb (to_ascii_lowercase (get_or s k 0)) (get_or s k 0)) clear)
    ∙ agree_below_at (λ b. top 7 (lane b) || eqb (to_ascii_lowercase b) b) (λ _. true) 256 (get_or s k 0) all (fits k).fits) where
      not-not : (t : Bool) → not t ≡ false → t ≡ true
      not-not true h = refl
      not-not false h = sym h

pub folded-lower : (s : List ℕ) → AreLower s 0 (length s) → folded s ≡ s
folded-lower [] h = refl
folded-lower (b ∷ bs) h = ap₂ (λ x xs. x ∷ xs) (h 0 (omega arith) (omega arith)) (folded-lower bs (λ k from to. h (suc k) (omega arith) (omega arith)))
