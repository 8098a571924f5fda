-- Lemmas on bytes that are passed over a block at a time, where what is enclosed ends at none of them.
use Rattle.std.proofs.Common.{◌≡◌, ℕ, zero, suc, ◌+◌, ◌-◌, ◌%◌, ◌^◌, ◌<◌, ◌≤◌, Bool, true, false, not, ◌||◌, eqb, List, [], ◌∷◌, map, length, drop, get_or}
use Rattle.std.proofs.Common.{replicate, cond, bit_or, ltb, Fits, w8, refl, sym, ◌∙◌, ap, arith}
use Rattle.std.proofs.lemmas.Bool.{agree_below, agree_below_at, not-true}
use Rattle.std.proofs.lemmas.List.{get_or-map, length-map}
use Rattle.std.proofs.lemmas.List.Sums.{prefix_len-le-length, prefix_len_passes}
use Rattle.std.proofs.lemmas.Simd.{first_set_mask_l, get_or-chunk, length-chunk, mask_l-mod, splat_is_map, zip2_of_maps, zip2_splat}
use Rattle.std.specs.List.{prefix_len}
use lib.Lanes.{chunk, mask_l, top, zip2}
use Rattle.btx_bib.specs.declared.grammar.byte_sets.Enclosure.{Enclosure}
use Rattle.btx_bib.specs.declared.grammar.byte_sets.Enclosure.TheVariants.{Group, Quotes}
use Rattle.btx_text.specs.language.Class.{is_name_byte}
use Rattle.btx_bib.specs.declared.grammar.byte_sets.ByteSet.{ByteSet}
use Rattle.btx_bib.specs.declared.grammar.byte_sets.ByteSet.TheVariants.{NameByte}
use Rattle.btx_bib.specs.language.Grammar.ByteSets.{enclosed_len, is_in, longest_run_len}
use Rattle.btx_bib.specs.refinement.Grammar.ByteSets.{AreUnmarked, is_mark}
use Rattle.btx_bib.specs.refinement.Grammar.Squeezing.{lanes_before}
use Rattle.btx_bib.proofs.GrammarLemmas.MarkLemmas.{and-false, enclosed-on, no-mark}

-- ---- a block

-- the lanes that the code computes: whether a byte is a brace or a `"`
abbrev same : ℕ → ℕ → ℕ
same a b = cond (eqb a b) 255 0

abbrev lane : ℕ → ℕ
lane b = bit_or (bit_or (same b 123) (same b 125)) (same b 34)

abbrev lanes : List ℕ → List ℕ
lanes block = zip2 bit_or (zip2 bit_or (zip2 same block (replicate 16 123)) (zip2 same block (replicate 16 125))) (zip2 same block (replicate 16 34))

abbrev brace_lane : ℕ → ℕ
brace_lane b = bit_or (same b 123) (same b 125)

abbrev brace_lanes : List ℕ → List ℕ
brace_lanes block = zip2 bit_or (zip2 same block (replicate 16 123)) (zip2 same block (replicate 16 125))

block-lanes : (block : List ℕ) → length block ≡ 16 → lanes block ≡ map lane block
block-lanes block long =
    let braces = zip2_of_maps bit_or (λ b. same b 123) (λ b. same b 125) block (zip2_splat same block 16 123 long) (zip2_splat same block 16 125 long) in
    zip2_of_maps bit_or (λ b. bit_or (same b 123) (same b 125)) (λ b. same b 34) block braces (zip2_splat same block 16 34 long)

brace-lanes : (block : List ℕ) → length block ≡ 16 → brace_lanes block ≡ map brace_lane block
brace-lanes block long = zip2_of_maps bit_or (λ b. same b 123) (λ b. same b 125) block (zip2_splat same block 16 123 long) (zip2_splat same block 16 125 long)

-- a byte whose lane is clear is no mark, where that was computed of all bytes
lane-clear : (f : ℕ → ℕ) (enclosure : Enclosure) → agree_below (λ b. top 7 (f b) || not (is_mark enclosure b)) (λ _. true) 256 ≡ true →
    (b : ℕ) → b < 256 → top 7 (f b) ≡ false → is_mark enclosure b ≡ false
lane-clear f enclosure computed b fits none = at (top 7 (f b)) (is_mark enclosure b) none
    (agree_below_at (λ b. top 7 (f b) || not (is_mark enclosure b)) (λ _. true) 256 b computed fits) where
      at : (t m : Bool) → t ≡ false → (t || not m) ≡ true → m ≡ false
      at false false none h = refl
      at false true none h = sym h
      at true m none h = cc

-- the lanes stand for the first byte that fails the test
block-clear : (s : List ℕ) (i r : ℕ) (z : List ℕ) (f : ℕ → ℕ) (Clear : ℕ → Type 0) → i + 16 ≤ length s → ((k : ℕ) → Fits w8 (get_or s k 0)) →
    r ≡ lanes_before (mask_l (map (top 7) z) % 2 ^ 64) → z ≡ map f (chunk i 16 s) → ((b : ℕ) → b < 256 → top 7 (f b) ≡ false → Clear b) →
    ((k : ℕ) → i ≤ k → k < i + r → Clear (get_or s k 0)) × (r ≤ 16)
block-clear s i r z f Clear room fits found is test = (clear, bound) where
  block : List ℕ
  block = chunk i 16 s

  long : length block ≡ 16
  long = length-chunk i 16 s room

  z-long : length z ≡ 16
  z-long = ap length is ∙ length-map block f ∙ long

  counted : r ≡ prefix_len (λ x. not (top 7 x)) z
  counted = found ∙ ap lanes_before (mask_l-mod (map (top 7) z) 64 (omega (arith, length-map z (top 7), z-long)))
      ∙ first_set_mask_l (top 7) z 16 z-long (omega arith)

  bound : r ≤ 16
  bound = omega (arith, counted, z-long, prefix_len-le-length (λ x. not (top 7 x)) z)

  clear : (k : ℕ) → i ≤ k → k < i + r → Clear (get_or s k 0)
  clear k from to =
      let j = k - i in
      let inside : j < 16 = omega (arith, bound) in
      let forth : i + j ≡ k = omega arith in
      let none : top 7 (get_or z j 0) ≡ false = not-true _ (prefix_len_passes (λ x. not (top 7 x)) z j 0 (omega (arith, counted))) in
      let here = get_or-chunk i 16 s j 0 inside ∙ ap (λ n. get_or s n 0) forth in
      let lane = ap (λ l. get_or l j 0) is ∙ get_or-map f block j 0 0 (omega (arith, long)) ∙ ap f here in
      test (get_or s k 0) (fits k).fits (sym (ap (top 7) lane) ∙ none)

pub unmarked_in_block : (s : List ℕ) (i r : ℕ) → i + 16 ≤ length s → ((k : ℕ) → Fits w8 (get_or s k 0))
    → r ≡ lanes_before (mask_l (map (top 7) (lanes (chunk i 16 s))) % 2 ^ 64) →
    AreUnmarked Quotes s i (i + r) × (r ≤ 16)
unmarked_in_block s i r room fits found =
    block-clear s i r (lanes (chunk i 16 s)) lane (λ b. is_mark Quotes b ≡ false) room fits found (block-lanes (chunk i 16 s) (length-chunk i 16 s room))
    (lane-clear lane Quotes refl)

pub braceless_in_block : (s : List ℕ) (i r : ℕ) → i + 16 ≤ length s → ((k : ℕ) → Fits w8 (get_or s k 0))
    → r ≡ lanes_before (mask_l (map (top 7) (brace_lanes (chunk i 16 s))) % 2 ^ 64) →
    AreUnmarked Group s i (i + r) × (r ≤ 16)
braceless_in_block s i r room fits found =
    block-clear s i r (brace_lanes (chunk i 16 s)) brace_lane (λ b. is_mark Group b ≡ false) room fits found
    (brace-lanes (chunk i 16 s) (length-chunk i 16 s room)) (lane-clear brace_lane Group refl)

-- ---- the letters with which a name begins

abbrev above : ℕ → ℕ → ℕ
above a b = cond (ltb a b) 255 0

abbrev letter_lane : (ℕ → ℕ → ℕ) → ℕ → ℕ
letter_lane less b = above 25 (less b 97)

pub run-on : (set : ByteSet) (n : ℕ) (s : List ℕ) → n ≤ length s → ((k : ℕ) → 0 ≤ k → k < n → is_in set (get_or s k 0) ≡ true)
    → longest_run_len set s ≡ n + longest_run_len set (drop n s)
unfolding longest_run_len
run-on set zero s room all = omega arith
run-on set (suc n) [] room all = absurd (omega arith)
run-on set (suc n) (b ∷ bs) room all =
    let here : is_in set b ≡ true = all 0 (omega arith) (omega arith) in
    rw here (ap suc (run-on set n bs (omega arith) (λ k from lt. all (suc k) (omega arith) (omega arith))) ∙ omega arith)

letter : (less : ℕ → ℕ → ℕ) → agree_below (λ b. top 7 (letter_lane less b) || is_name_byte b) (λ _. true) 256 ≡ true → (b : ℕ) → b < 256
    → top 7 (letter_lane less b) ≡ false → is_name_byte b ≡ true
letter less all b fits none = at (top 7 (letter_lane less b)) none
    (agree_below_at (λ b. top 7 (letter_lane less b) || is_name_byte b) (λ _. true) 256 b all fits) where
      at : (t : Bool) → t ≡ false → (t || is_name_byte b) ≡ true → is_name_byte b ≡ true
      at false none h = h
      at true none h = cc

pub letters_in_block : (s : List ℕ) (r : ℕ) (less : ℕ → ℕ → ℕ) → 16 ≤ length s → ((k : ℕ) → Fits w8 (get_or s k 0)) →
    r ≡ lanes_before (mask_l (map (top 7) (zip2 above (replicate 16 25) (zip2 less (chunk 0 16 s) (replicate 16 97)))) % 2 ^ 64) →
    agree_below (λ b. top 7 (letter_lane less b) || is_name_byte b) (λ _. true) 256 ≡ true
    → (longest_run_len NameByte s ≡ r + longest_run_len NameByte (drop r s)) × (r ≤ 16)
letters_in_block s r less room fits found all =
    let block = chunk 0 16 s in
    let long = length-chunk 0 16 s room in
    let is = zip2_of_maps above (λ _. 25) (λ b. less b 97) block (splat_is_map block 16 25 long) (zip2_splat less block 16 97 long) in
    let clear = block-clear s 0 r _ (letter_lane less) (λ b. is_name_byte b ≡ true) room fits found is (letter less all) in
    (run-on NameByte r s (omega (arith, clear.1)) (λ k from lt. clear.0 k from (omega (arith, lt))), clear.1)

-- ---- byte by byte

pub unmarked-on : (e : Enclosure) (s : List ℕ) (n i d total : ℕ) → i + n ≤ length s → AreUnmarked e s i (i + n) → i + enclosed_len e d (drop i s) ≡ total →
    i + n + enclosed_len e d (drop (i + n) s) ≡ total
unmarked-on e s zero i d total room unmarked so = let none : i + 0 ≡ i = omega arith in rw none so
unmarked-on e s (suc n) i d total room unmarked so =
    let b = get_or s i 0 in
    let stays = no-mark e d b (unmarked i (omega arith) (omega arith)) in
    let next = enclosed-on e d d s i total (get_or s i 0) (omega arith) refl (rw stays.0 (and-false (eqb d 0))) (sym stays.1) so in
    let sum : i + suc n ≡ i + 1 + n = omega arith in
    rw sum (unmarked-on e s n (i + 1) d total (omega arith) (λ k from to. unmarked k (omega arith) (omega arith)) next)
