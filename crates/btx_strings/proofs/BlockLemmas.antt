-- Blocks of bytes that neither begin a group nor are a colon.
use Rattle.std.proofs.Common.{◌≡◌, ℕ, zero, suc, ◌≤◌, ◌+◌, ◌-◌, ◌%◌, ◌^◌, Bool, true, ◌||◌, eqb, cond, List, [], ◌∷◌, map, length, get_or, take, drop}
use Rattle.std.proofs.Common.{replicate, Fits, w8, ap, ◌∙◌, arith, sym, bit_or}
use Rattle.std.proofs.lemmas.Bool.{agree_below, agree_below_at, eqb-true}
use Rattle.std.proofs.lemmas.Simd.{length-chunk, map-map, mask_l-mod, none_from_empty_mask, zip2_of_maps, zip2_splat}
use lib.Lanes.{chunk, mask_l, top, zip2}
use Rattle.std.proofs.lemmas.List.{length-drop, length-map, take_all}
use Rattle.std.specs.List.{prefix_len}
use Rattle.btx_strings.specs.refinement.CaseState.{ArePlain, is_case_plain}

-- what a comparison of two lanes gives
abbrev same : ℕ → ℕ → ℕ
same a b = cond (eqb a b) 255 0

-- the lane of a byte
abbrev lane : ℕ → ℕ
lane b = bit_or (same b 58) (same b 123)

pub plain_in_block : (s : List ℕ) (i : ℕ) → i + 8 ≤ length s → ((k : ℕ) → Fits w8 (get_or s k 0)) →
    eqb (mask_l (map (top 7) (zip2 bit_or (zip2 same (chunk i 8 s) (replicate 8 58)) (zip2 same (chunk i 8 s) (replicate 8 123)))) % 2 ^ 64) 0 ≡ true →
    agree_below (λ b. top 7 (lane b) || is_case_plain b) (λ _. true) 256 ≡ true → ArePlain s i (i + 8)
plain_in_block s i room fits none all k from to =
    let here = chunk i 8 s in
    let long = length-chunk i 8 s room in
    let lanes : zip2 bit_or (zip2 same here (replicate 8 58)) (zip2 same here (replicate 8 123)) ≡ map lane here =
    zip2_of_maps bit_or (λ b. same b 58) (λ b. same b 123) here (zip2_splat same here 8 58 long) (zip2_splat same here 8 123 long) in
    let mask = ap (λ l. mask_l l % 2 ^ 64) (ap (map (top 7)) lanes ∙ map-map (top 7) lane here)
    ∙ mask_l-mod (map (λ b. top 7 (lane b)) here) 64 (omega (arith, length-map here (λ b. top 7 (lane b)), long)) in
    let empty = sym mask ∙ eqb-true _ 0 none in
    let clear = none_from_empty_mask (λ b. top 7 (lane b)) s i 8 0 room empty k from to in
    sym (ap (λ (t : Bool). t || is_case_plain (get_or s k 0)) clear) ∙ agree_below_at (λ b. top 7 (lane b) || is_case_plain b) (λ _. true) 256 (get_or s k 0)
    all (fits k).fits

-- blocks that are plain, and the run after them
run_on : (s : List ℕ) (n : ℕ) → ArePlain s 0 n → n ≤ length s → n + prefix_len is_case_plain (drop n s) ≡ prefix_len is_case_plain s
run_on s zero plain le = omega arith
run_on [] (suc n) plain le = absurd (omega arith)
run_on (b ∷ bs) (suc n) plain le =
    let rest = run_on bs n (λ k from to. plain (suc k) (omega arith) (omega arith)) (omega arith) in
    rw (plain 0 (omega arith) (omega arith)) (omega (arith, rest))

pub plain_run : (s : List ℕ) (n m : ℕ) → ArePlain s 0 n → n ≤ length s → m ≡ prefix_len is_case_plain (take (length s - n) (drop n s))
    → n + m ≡ prefix_len is_case_plain s
plain_run s n m plain le is = rw (is, take_all (length s - n) (drop n s) (omega (arith, length-drop n s))) (run_on s n plain le)
