-- Lemmas on plain bytes, which are passed a block at a time.
use Rattle.std.proofs.Common.{◌≡◌, ℕ, zero, suc, ◌+◌, ◌-◌, ◌%◌, ◌^◌, ◌<◌, ◌≤◌, Bool, true, false, not, ◌&&◌, ◌||◌, eqb, leb, List, [], ◌∷◌, map, length, drop}
use Rattle.std.proofs.Common.{get_or, replicate, cond, bit_and, bit_or, ltb, Fits, w8, refl, sym, ◌∙◌, ap, ap₂, arith}
use Rattle.std.proofs.lemmas.Bool.{agree_below, agree_below_at, and_parts, eqb-true, ne_eqb, not-true, true≢false}
use Rattle.std.proofs.lemmas.List.{length-map}
use Rattle.std.proofs.lemmas.List.Sums.{prefix_len-le-length, prefix_len_passes}
use Rattle.std.proofs.lemmas.Simd.{first_set_mask_l, get_or-chunk, get_or-zip2, length-chunk, length-zip2, mask_l-mod, splat_is_map, zip2_of_maps, zip2_splat}
use Rattle.std.specs.List.{prefix_len}
use lib.Lanes.{chunk, mask_l, top, zip2}
use Rattle.btx_text.specs.language.Elements.{depth_after}
use Rattle.btx_bib.specs.declared.grammar.byte_sets.Enclosure.{Enclosure}
use Rattle.btx_bib.specs.declared.grammar.byte_sets.Enclosure.TheVariants.{Group, Quotes}
use Rattle.btx_bib.specs.language.Grammar.ByteSets.{enclosed_len, ends_enclosed, is_gap}
use Rattle.btx_bib.specs.refinement.Grammar.ByteSets.{is_word_byte}
use Rattle.btx_bib.specs.refinement.Grammar.Squeezing.{ArePlainBytes, is_behind_white, is_plain_byte, lanes_before, stays_squeezed}
use Rattle.btx_bib.proofs.GrammarLemmas.MarkLemmas.{and-false, enclosed-on, word-depth, word-ends, word-gap}
use Rattle.btx_bib.proofs.GrammarLemmas.SqueezeLemmas.{IsSqueezedTo, squeezed-further, squeezed-none}

-- ---- a block

zip2-maps : (h : ℕ → ℕ → ℕ) (f g : ℕ → ℕ) (xs ys : List ℕ) → zip2 h (map f xs) (map g ys) ≡ zip2 (λ x y. h (f x) (g y)) xs ys
zip2-maps h f g [] ys = refl
zip2-maps h f g (x ∷ xs) [] = refl
zip2-maps h f g (x ∷ xs) (y ∷ ys) = ap (λ r. h (f x) (g y) ∷ r) (zip2-maps h f g xs ys)

pub zip2-left : (h : ℕ → ℕ → ℕ) (f : ℕ → ℕ) (k : ℕ → ℕ → ℕ) (xs ys : List ℕ) → zip2 h (map f xs) (zip2 k xs ys) ≡ zip2 (λ x y. h (f x) (k x y)) xs ys
zip2-left h f k [] ys = refl
zip2-left h f k (x ∷ xs) [] = refl
zip2-left h f k (x ∷ xs) (y ∷ ys) = ap (λ r. h (f x) (k x y) ∷ r) (zip2-left h f k xs ys)

-- the lanes are computed from the bytes and those before them; they stand for the first of them whose lane is set
module _ (s : List ℕ) (i r : ℕ) (z : List ℕ) (f : ℕ → ℕ → ℕ) (behind : 0 < i) (room : i + 16 ≤ length s) (fits : (k : ℕ) → Fits w8 (get_or s k 0))
    (found : r ≡ lanes_before (mask_l (map (top 7) z) % 2 ^ 64))
    (lanes : z ≡ zip2 f (chunk i 16 s) (chunk (i - 1) 16 s)) where
  before-long : length (chunk (i - 1) 16 s) ≡ 16
  before-long = length-chunk (i - 1) 16 s (omega arith)

  long : length z ≡ 16
  long = ap length lanes ∙ length-zip2 f (chunk i 16 s) (chunk (i - 1) 16 s) (length-chunk i 16 s room ∙ sym before-long) ∙ length-chunk i 16 s room

  counted : r ≡ prefix_len (λ x. not (top 7 x)) z
  counted = found ∙ ap lanes_before (mask_l-mod (map (top 7) z) 64 (omega (arith, length-map z (top 7), long)))
      ∙ first_set_mask_l (top 7) z 16 long (omega arith)

  pub block-bound : r ≤ 16
  block-bound = omega (arith, counted, long, prefix_len-le-length (λ x. not (top 7 x)) z)

  -- each byte of them has what its lane shows of it and of the byte before it
  pub block-all : (has : ℕ → ℕ → Bool) → ((b w : ℕ) → b < 256 → w < 256 → top 7 (f b w) ≡ false → has w b ≡ true) →
      (k : ℕ) → i ≤ k → k < i + r → has (get_or s (k - 1) 0) (get_or s k 0) ≡ true
  block-all has shown k from to =
      let j = k - i in
      let inside : j < 16 = omega (arith, block-bound) in
      let forth : i + j ≡ k = omega arith in
      let back : i - 1 + j ≡ k - 1 = omega arith in
      let clear : top 7 (get_or z j 0) ≡ false = not-true _ (prefix_len_passes (λ x. not (top 7 x)) z j 0 (omega (arith, counted))) in
      let here = get_or-chunk i 16 s j 0 inside ∙ ap (λ n. get_or s n 0) forth in
      let before = get_or-chunk (i - 1) 16 s j 0 inside ∙ ap (λ n. get_or s n 0) back in
      let lane = ap (λ l. get_or l j 0) lanes ∙ get_or-zip2 f (chunk i 16 s) (chunk (i - 1) 16 s) j 0 0 0 (omega (arith, length-chunk i 16 s room))
      (omega (arith, before-long)) ∙ ap₂ f here before in
      shown (get_or s k 0) (get_or s (k - 1) 0) (fits k).fits (fits (k - 1)).fits (sym (ap (top 7) lane) ∙ clear)

-- ---- byte by byte

-- the bytes before a place neither end what is enclosed nor spoil it
pub record IsReadTo (e : Enclosure) (s : List ℕ) (i d : ℕ) : Type 0 where
  pub ended : i + enclosed_len e d (drop i s) ≡ enclosed_len e 0 s
  pub squeezed : IsSqueezedTo s i (is_behind_white s i)

pub read-none : (e : Enclosure) (s : List ℕ) → IsReadTo e s 0 0
read-none e s = record { ended = omega arith; squeezed = squeezed-none s }

behind-next : (s : List ℕ) (i b : ℕ) → get_or s i 0 ≡ b → is_behind_white s (i + 1) ≡ is_gap b
behind-next s i b is =
    let before : i + 1 - 1 ≡ i = omega arith in
    rw (ne_eqb (i + 1) 0 (λ none. omega (arith, none)), before, is) refl

pub read-on : (e : Enclosure) (s : List ℕ) (i d after b : ℕ) → i < length s → get_or s i 0 ≡ b → (eqb d 0 && ends_enclosed e b) ≡ false →
    stays_squeezed (is_behind_white s i) b ≡ true → after ≡ depth_after d b → IsReadTo e s i d → IsReadTo e s (i + 1) after
read-on e s i d after b lt is goes stays deep so = record {
  ended = enclosed-on e d after s i _ b lt (sym is) goes deep so.ended;
  squeezed = rw (behind-next s i b is) (squeezed-further s i (is_behind_white s i) b lt is so.squeezed stays);
}

-- a plain byte ends nothing, and leaves depth and squeezing alone
plain-byte : (e : Enclosure) (d w b : ℕ) → is_plain_byte w b ≡ true → ((eqb d 0 && ends_enclosed e b) ≡ false) × (depth_after d b ≡ d)
    × (stays_squeezed (is_gap w) b ≡ true)
plain-byte e d w b = at (is_word_byte b) refl where
  space-ends : (e : Enclosure) → (eqb d 0 && ends_enclosed e 32) ≡ false
  space-ends Group = and-false (eqb d 0)
  space-ends Quotes = and-false (eqb d 0)

  at : (t : Bool) → is_word_byte b ≡ t → (t || (eqb b 32 && not (is_gap w))) ≡ true →
      ((eqb d 0 && ends_enclosed e b) ≡ false) × (depth_after d b ≡ d) × (stays_squeezed (is_gap w) b ≡ true)
  at true word h = (rw (word-ends e b word) (and-false (eqb d 0)), word-depth d b word, rw (word-gap b word) refl)
  at false other h =
      let parts = and_parts (eqb b 32) (not (is_gap w)) h in
      rw (eqb-true b 32 parts.0) (space-ends e, refl, parts.1)

behind-some : (s : List ℕ) (i : ℕ) → 0 < i → is_behind_white s i ≡ is_gap (get_or s (i - 1) 0)
behind-some s i behind = rw (ne_eqb i 0 (λ none. omega (arith, none, behind))) refl

pub plain-on : (e : Enclosure) (s : List ℕ) (n i d : ℕ) → 0 < i → i + n ≤ length s → ArePlainBytes s i (i + n) → IsReadTo e s i d → IsReadTo e s (i + n) d
plain-on e s zero i d behind room plain so = let none : i + 0 ≡ i = omega arith in rw none so
plain-on e s (suc n) i d behind room plain so =
    let b = get_or s i 0 in
    let parts = plain-byte e d (get_or s (i - 1) 0) b (plain i (omega arith) (omega arith)) in
    let further = read-on e s i d d b (omega arith) refl parts.0 (ap (λ (t : Bool). stays_squeezed t b) (behind-some s i behind) ∙ parts.2) (sym parts.1) so in
    let sum : i + suc n ≡ i + 1 + n = omega arith in
    rw sum (plain-on e s n (i + 1) d (omega arith) (omega arith) (λ k from to. plain k (omega arith) (omega arith)) further)

-- ---- the lanes of a byte and the one before it

-- a whitespace byte is at most the space
pub no-white : (w : ℕ) → w < 256 → leb w 32 ≡ false → is_gap w ≡ false
no-white w fits more = at (leb w 32) (is_gap w) more (agree_below_at (λ w. leb w 32 || not (is_gap w)) (λ _. true) 256 w refl fits) where
  at : (t g : Bool) → t ≡ false → (t || not g) ≡ true → g ≡ false
  at false false none h = refl
  at false true none h = sym h
  at true g none h = absurd (true≢false none)

-- what a comparison of two lanes gives
abbrev above : ℕ → ℕ → ℕ
above a b = cond (ltb a b) 255 0

abbrev pub apart : ℕ → ℕ → ℕ
apart a b = cond (not (eqb a b)) 255 0

abbrev pub at_most : ℕ → ℕ → ℕ
at_most a b = cond (leb a b) 255 0

-- a word byte, or a space where no whitespace stands before it
abbrev is_plain_behind : Bool → ℕ → Bool
is_plain_behind white b = is_word_byte b || (eqb b 32 && not white)

-- the lanes that the code computes, where the byte before is low or not
abbrev lane : (ℕ → ℕ → ℕ) → Bool → ℕ → ℕ
lane less low b = bit_and (above 87 (less b 35)) (bit_or (apart b 32) (cond low 255 0))

module _ (less : ℕ → ℕ → ℕ) (high : agree_below (λ b. top 7 (lane less false b) || is_plain_behind false b) (λ _. true) 256 ≡ true)
    (low : agree_below (λ b. top 7 (lane less true b) || is_plain_behind true b) (λ _. true) 256 ≡ true) where
  lanes-plain : (b w : ℕ) → b < 256 → w < 256 → top 7 (lane less (leb w 32) b) ≡ false → is_plain_byte w b ≡ true
  lanes-plain b w fits before none =
      at (is_word_byte b) (eqb b 32) (leb w 32) (is_gap w) (no-white w before) (sym (ap (λ (t : Bool). t || is_plain_behind (leb w 32) b) none)
      ∙ all (leb w 32)) where
        all : (t : Bool) → (top 7 (lane less t b) || is_plain_behind t b) ≡ true
        all true = agree_below_at (λ b. top 7 (lane less true b) || is_plain_behind true b) (λ _. true) 256 b low fits
        all false = agree_below_at (λ b. top 7 (lane less false b) || is_plain_behind false b) (λ _. true) 256 b high fits

        at : (t u low g : Bool) → (low ≡ false → g ≡ false) → (t || (u && not low)) ≡ true → (t || (u && not g)) ≡ true
        at true u low g apart h = refl
        at false true false g apart h = rw (apart refl) refl
        at false true true g apart h = absurd (true≢false (sym h))
        at false false low g apart h = h

-- lanes that are set but where a space stands behind no low byte
pub space-lanes : (s : List ℕ) (i : ℕ) → 0 < i → i + 16 ≤ length s →
    zip2 bit_or (zip2 apart (chunk i 16 s) (replicate 16 32)) (zip2 at_most (chunk (i - 1) 16 s) (replicate 16 32)) ≡
    zip2 (λ b w. bit_or (apart b 32) (at_most w 32)) (chunk i 16 s) (chunk (i - 1) 16 s)
space-lanes s i behind room =
    let here = chunk i 16 s in
    let before = chunk (i - 1) 16 s in
    ap₂ (zip2 bit_or) (zip2_splat apart here 16 32 (length-chunk i 16 s room)) (zip2_splat at_most before 16 32 (length-chunk (i - 1) 16 s (omega arith)))
    ∙ zip2-maps bit_or (λ b. apart b 32) (λ w. at_most w 32) here before

block-lanes : (s : List ℕ) (i : ℕ) (less : ℕ → ℕ → ℕ) → 0 < i → i + 16 ≤ length s →
    zip2 bit_and (zip2 above (replicate 16 87) (zip2 less (chunk i 16 s) (replicate 16 35)))
    (zip2 bit_or (zip2 apart (chunk i 16 s) (replicate 16 32)) (zip2 at_most (chunk (i - 1) 16 s) (replicate 16 32))) ≡
    zip2 (λ b w. lane less (leb w 32) b) (chunk i 16 s) (chunk (i - 1) 16 s)
block-lanes s i less behind room =
    let here = chunk i 16 s in
    let before = chunk (i - 1) 16 s in
    let here-long = length-chunk i 16 s room in
    let words = zip2_of_maps above (λ _. 87) (λ b. less b 35) here (splat_is_map here 16 87 here-long) (zip2_splat less here 16 35 here-long) in
    ap₂ (zip2 bit_and) words (space-lanes s i behind room) ∙ zip2-left bit_and (λ b. above 87 (less b 35)) (λ b w. bit_or (apart b 32) (at_most w 32)) here before

pub plain-in-block : (s : List ℕ) (i r : ℕ) (less : ℕ → ℕ → ℕ) → 0 < i → i + 16 ≤ length s → ((k : ℕ) → Fits w8 (get_or s k 0)) →
    r ≡ lanes_before (mask_l (map (top 7) (zip2 bit_and (zip2 above (replicate 16 87) (zip2 less (chunk i 16 s) (replicate 16 35)))
    (zip2 bit_or (zip2 apart (chunk i 16 s) (replicate 16 32)) (zip2 at_most (chunk (i - 1) 16 s) (replicate 16 32))))) % 2 ^ 64) →
    agree_below (λ b. top 7 (lane less false b) || is_plain_behind false b) (λ _. true) 256 ≡ true →
    agree_below (λ b. top 7 (lane less true b) || is_plain_behind true b) (λ _. true) 256 ≡ true → ArePlainBytes s i (i + r) × (r ≤ 16)
plain-in-block s i r less behind room fits found high low =
    let lanes = block-lanes s i less behind room in (
      block-all s i r _ (λ b w. lane less (leb w 32) b) behind room fits found lanes is_plain_byte (lanes-plain less high low),
      block-bound s i r _ (λ b w. lane less (leb w 32) b) behind room fits found lanes,
    )
