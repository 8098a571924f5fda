-- Lemmas on the pieces of a text that squeezing leaves as they are: they are found a block at a time, and copied whole.
use Rattle.std.proofs.Common.{◌≡◌, ℕ, zero, suc, ◌+◌, ◌-◌, ◌%◌, ◌^◌, ◌<◌, ◌≤◌, Bool, true, false, not, ◌&&◌, ◌||◌, eqb, leb, List, [], ◌∷◌, ◌++◌, map, length, take, drop}
use Rattle.std.proofs.Common.{get_or, replicate, cond, bit_and, bit_or, ltb, Fits, w8, refl, sym, ◌∙◌, ap, ap₂, append_assoc, arith}
use Rattle.std.proofs.lemmas.Bool.{agree_below_at, eq-eqb, ltb-false, ltb-true, ne_eqb, true≢false}
use Rattle.std.proofs.lemmas.List.{drop_more, length-drop, take-append-drop, take_all, take_more}
use Rattle.std.proofs.lemmas.Simd.{length-chunk, mask_l-mod, zip2_splat}
use lib.Lanes.{chunk, mask_l, top, zip2}
use Rattle.btx_bib.specs.declared.grammar.byte_sets.ByteSet.TheVariants.{Gap}
use Rattle.btx_bib.specs.language.Grammar.ByteSets.{begins, is_gap, longest_run_len, past}
use Rattle.btx_bib.specs.refinement.Grammar.Squeezing.{AreKeptBytes, is_squeezed, lanes_before, squeezed_after, stays_squeezed, white_after}
use Rattle.btx_bib.proofs.GrammarLemmas.PlainByteLemmas.{apart, at_most, block-all, block-bound, no-white, space-lanes, zip2-left}
use Rattle.btx_bib.proofs.GrammarLemmas.SqueezeLemmas.{is_squeezed-append, squeezed-alone, squeezed-begins, squeezed_after-append, squeezed_after-past, squeezed_after-plain, white_after-snoc}

-- ---- a block

-- the lanes that the code computes, where the byte before is low or not
abbrev kept_lane : Bool → ℕ → ℕ
kept_lane low b = bit_and (at_most b 32) (bit_or (apart b 32) (cond low 255 0))

lanes-kept : (b w : ℕ) → b < 256 → w < 256 → top 7 (kept_lane (leb w 32) b) ≡ false → stays_squeezed (is_gap w) b ≡ true
lanes-kept b w fits before none =
    at (not (is_gap b)) (eqb b 32) (leb w 32) (is_gap w) (no-white w before) (sym (ap (λ (t : Bool). t || stays_squeezed (leb w 32) b) none)
    ∙ all (leb w 32)) where
      all : (t : Bool) → (top 7 (kept_lane t b) || stays_squeezed t b) ≡ true
      all true = agree_below_at (λ b. top 7 (kept_lane true b) || stays_squeezed true b) (λ _. true) 256 b refl fits
      all false = agree_below_at (λ b. top 7 (kept_lane false b) || stays_squeezed false b) (λ _. true) 256 b refl fits

      at : (t u low g : Bool) → (low ≡ false → g ≡ false) → (t || (u && not low)) ≡ true → (t || (u && not g)) ≡ true
      at true u low g apart h = refl
      at false true false g apart h = rw (apart refl) refl
      at false true true g apart h = absurd (true≢false (sym h))
      at false false low g apart h = h

kept-lanes : (s : List ℕ) (i : ℕ) → 0 < i → i + 16 ≤ length s →
    zip2 bit_and (zip2 at_most (chunk i 16 s) (replicate 16 32))
    (zip2 bit_or (zip2 apart (chunk i 16 s) (replicate 16 32)) (zip2 at_most (chunk (i - 1) 16 s) (replicate 16 32))) ≡
    zip2 (λ b w. kept_lane (leb w 32) b) (chunk i 16 s) (chunk (i - 1) 16 s)
kept-lanes s i behind room =
    let here = chunk i 16 s in
    let before = chunk (i - 1) 16 s in
    ap₂ (zip2 bit_and) (zip2_splat at_most here 16 32 (length-chunk i 16 s room)) (space-lanes s i behind room)
    ∙ zip2-left bit_and (λ b. at_most b 32) (λ b w. bit_or (apart b 32) (at_most w 32)) here before

pub kept-block : (s : List ℕ) (i r : ℕ) → 0 < i → i + 16 ≤ length s → ((k : ℕ) → Fits w8 (get_or s k 0)) →
    r ≡ lanes_before (mask_l (map (top 7) (zip2 bit_and (zip2 at_most (chunk i 16 s) (replicate 16 32))
    (zip2 bit_or (zip2 apart (chunk i 16 s) (replicate 16 32)) (zip2 at_most (chunk (i - 1) 16 s) (replicate 16 32))))) % 2 ^ 64) →
    AreKeptBytes s i (i + r) × (r ≤ 16)
kept-block s i r behind room fits found =
    let lanes = kept-lanes s i behind room in (
      block-all s i r _ (λ b w. kept_lane (leb w 32) b) behind room fits found lanes (λ w b. stays_squeezed (is_gap w) b) lanes-kept,
      block-bound s i r _ (λ b w. kept_lane (leb w 32) b) behind room fits found lanes,
    )

-- ---- byte by byte

-- the last byte says whether whitespace stands before a place
pub white-behind : (w : Bool) (s : List ℕ) (i : ℕ) → 0 < i → i ≤ length s → white_after w (take i s) ≡ is_gap (get_or s (i - 1) 0)
white-behind w s i some room =
    let e : i ≡ i - 1 + 1 = omega arith in
    ap (λ n. white_after w (take n s)) e ∙ ap (white_after w) (take_more s (i - 1) 0 (omega arith)) ∙ white_after-snoc w (take (i - 1) s) (get_or s (i - 1) 0)

pub kept-none : (w : Bool) (s : List ℕ) → is_squeezed w (take 0 s) ≡ true
unfolding is_squeezed
kept-none w s = refl

pub kept-one : (w : Bool) (s : List ℕ) (i b : ℕ) → i < length s → get_or s i 0 ≡ b → is_squeezed w (take i s) ≡ true
    → stays_squeezed (white_after w (take i s)) b ≡ true → is_squeezed w (take (i + 1) s) ≡ true
kept-one w s i b lt is so stays =
    let next : take (i + 1) s ≡ take i s ++ b ∷ [] = take_more s i 0 lt ∙ ap (λ c. take i s ++ c ∷ []) is in
    rw next (is_squeezed-append w (take i s) (b ∷ []) ∙ rw (so, squeezed-alone (white_after w (take i s)) b) stays)

pub kept-on : (w : Bool) (s : List ℕ) (n i : ℕ) → 0 < i → i + n ≤ length s → AreKeptBytes s i (i + n) → is_squeezed w (take i s) ≡ true
    → is_squeezed w (take (i + n) s) ≡ true
kept-on w s zero i behind room kept so = let none : i + 0 ≡ i = omega arith in rw none so
kept-on w s (suc n) i behind room kept so =
    let stays = ap (λ (t : Bool). stays_squeezed t (get_or s i 0)) (white-behind w s i behind (omega arith)) ∙ kept i (omega arith) (omega arith) in
    let further = kept-one w s i (get_or s i 0) (omega arith) refl so stays in
    let sum : i + suc n ≡ i + 1 + n = omega arith in
    rw sum (kept-on w s n (i + 1) (omega arith) (omega arith) (λ k from to. kept k (omega arith) (omega arith)) further)

-- ---- a text of one piece

-- at the end of a piece stands what squeezing changes
abbrev pub EndsPiece : Bool → List ℕ → ℕ → Type 0
EndsPiece w s n = n < length s → stays_squeezed (white_after w (take n s)) (get_or s n 0) ≡ false

changed-first : (w : Bool) (b : ℕ) (bs : List ℕ) → stays_squeezed w b ≡ false → is_squeezed w (b ∷ bs) ≡ false
unfolding is_squeezed
changed-first w b bs h = at (is_gap b) (eqb b 32 && not w) h where
  at : (g t : Bool) → (not g || t) ≡ false → cond g (t && is_squeezed true bs) (is_squeezed false bs) ≡ false
  at true true e = absurd (true≢false e)
  at true false e = refl
  at false t e = absurd (true≢false e)

changed : (w : Bool) (s : List ℕ) (n : ℕ) → n < length s → is_squeezed w (take n s) ≡ true → stays_squeezed (white_after w (take n s)) (get_or s n 0) ≡ false
    → is_squeezed w s ≡ false
changed w s n lt so h =
    let white = white_after w (take n s) in
    ap (is_squeezed w) (sym (take-append-drop n s)) ∙ is_squeezed-append w (take n s) (drop n s) ∙ ap (λ (t : Bool). t && is_squeezed white (drop n s)) so
    ∙ ap (is_squeezed white) (drop_more s n 0 lt) ∙ changed-first white (get_or s n 0) (drop (n + 1) s) h

pub whole-piece : (w : Bool) (s : List ℕ) (n : ℕ) → is_squeezed w (take n s) ≡ true → n ≤ length s → EndsPiece w s n → eqb n (length s) ≡ is_squeezed w s
whole-piece w s n so room ended = at (ltb n (length s)) refl where
  at : (t : Bool) → ltb n (length s) ≡ t → eqb n (length s) ≡ is_squeezed w s
  at true e =
      let lt : n < length s = ltb-true n (length s) e in
      ne_eqb n (length s) (λ is. omega (arith, is, lt)) ∙ sym (changed w s n lt so (ended lt))
  at false e =
      let is : n ≡ length s = omega (arith, room, ltb-false n (length s) e) in
      eq-eqb n (length s) is ∙ sym (ap (is_squeezed w) (sym (take_all n s (omega (arith, is)))) ∙ so)

-- ---- piece by piece

gap-shorter : (s : List ℕ) → begins is_gap s ≡ true → length (past Gap s) < length s
unfolding longest_run_len
gap-shorter [] h = absurd (true≢false (sym h))
gap-shorter (b ∷ bs) h = at (is_gap b) h where
  at : (g : Bool) → g ≡ true → length (drop (cond g (suc (longest_run_len Gap bs)) 0) (b ∷ bs)) < length (b ∷ bs)
  at true is = omega (arith, length-drop (longest_run_len Gap bs) bs)
  at false is = absurd (true≢false (sym is))

changed-gap : (w : Bool) (s : List ℕ) → stays_squeezed w (get_or s 0 0) ≡ false → begins is_gap s ≡ true
changed-gap w [] h = absurd (true≢false h)
changed-gap w (b ∷ bs) h = at (is_gap b) (eqb b 32 && not w) h where
  at : (g t : Bool) → (not g || t) ≡ false → g ≡ true
  at true t e = refl
  at false t e = absurd (true≢false e)

-- less is left after a piece and the whitespace behind it
pub piece-shorter : (w : Bool) (s : List ℕ) (n : ℕ) → 0 < length s → n ≤ length s → EndsPiece w s n → length (past Gap (drop n s)) < length s
piece-shorter w s zero some room ended = gap-shorter s (changed-gap w s (ended some))
piece-shorter w s (suc n) some room ended =
    omega (arith, length-drop (suc n) s, length-drop (longest_run_len Gap (drop (suc n) s)) (drop (suc n) s))

white_after-append : (w : Bool) (s t : List ℕ) → white_after w (s ++ t) ≡ white_after (white_after w s) t
white_after-append w [] t = refl
white_after-append w (b ∷ bs) t = white_after-append (is_gap b) bs t

-- a piece is pushed as it is
pub piece-text : (w white : Bool) (s rest text new total : List ℕ) (n : ℕ) → is_squeezed w (take n s) ≡ true →
    new ++ squeezed_after white rest ≡ (text ++ take n s) ++ squeezed_after (white_after w (take n s)) (drop n s) →
    text ++ squeezed_after w s ≡ total → new ++ squeezed_after white rest ≡ total
piece-text w white s rest text new total n so e h =
    let later = squeezed_after (white_after w (take n s)) (drop n s) in
    e ∙ append_assoc text (take n s) later ∙ ap (λ t. text ++ (t ++ later)) (sym (squeezed_after-plain w (take n s) so))
    ∙ ap (λ t. text ++ t) (sym (squeezed_after-append w (take n s) (drop n s))) ∙ ap (λ t. text ++ squeezed_after w t) (take-append-drop n s) ∙ h

pub piece-white : (w white last : Bool) (s rest : List ℕ) (n : ℕ) → white_after white rest ≡ white_after (white_after w (take n s)) (drop n s)
    → white_after w s ≡ last → white_after white rest ≡ last
piece-white w white last s rest n e h = e ∙ sym (white_after-append w (take n s) (drop n s)) ∙ ap (white_after w) (take-append-drop n s) ∙ h

-- ---- the whitespace behind a piece

past-no_gap : (s : List ℕ) → begins is_gap s ≡ false → past Gap s ≡ s
unfolding longest_run_len
past-no_gap [] h = refl
past-no_gap (b ∷ bs) h = at (is_gap b) h where
  at : (g : Bool) → g ≡ false → drop (cond g (suc (longest_run_len Gap bs)) 0) (b ∷ bs) ≡ b ∷ bs
  at true is = absurd (true≢false is)
  at false is = refl

white-past : (s : List ℕ) → white_after true (past Gap s) ≡ white_after true s
unfolding longest_run_len
white-past [] = refl
white-past (b ∷ bs) = at (is_gap b) refl (white-past bs) where
  at : (g : Bool) → is_gap b ≡ g → white_after true (past Gap bs) ≡ white_after true bs →
      white_after true (drop (cond g (suc (longest_run_len Gap bs)) 0) (b ∷ bs)) ≡ white_after (is_gap b) bs
  at true is h = rw is h
  at false is h = refl

squeezed_after-space : (s : List ℕ) → begins is_gap s ≡ true → squeezed_after false s ≡ 32 ∷ squeezed_after true s
squeezed_after-space [] h = absurd (true≢false (sym h))
squeezed_after-space (b ∷ bs) h = at (is_gap b) h where
  at : (g : Bool) → g ≡ true → cond g (32 ∷ squeezed_after true bs) (b ∷ squeezed_after false bs)
      ≡ 32 ∷ cond g (squeezed_after true bs) (b ∷ squeezed_after false bs)
  at true is = refl
  at false is = absurd (true≢false (sym is))

gap-any : (w : Bool) (s : List ℕ) → begins is_gap s ≡ true → white_after w s ≡ white_after true s
gap-any w [] h = absurd (true≢false (sym h))
gap-any w (b ∷ bs) h = refl

-- what stands behind whitespace stays, if there is none to pass
pub squeezed_after-no_gap : (w : Bool) (s text : List ℕ) → begins is_gap s ≡ false → text ++ squeezed_after w (past Gap s) ≡ text ++ squeezed_after w s
squeezed_after-no_gap w s text h = ap (λ t. text ++ squeezed_after w t) (past-no_gap s h)

pub white_after-no_gap : (w : Bool) (s : List ℕ) → begins is_gap s ≡ false → white_after w (past Gap s) ≡ white_after w s
white_after-no_gap w s h = ap (white_after w) (past-no_gap s h)

-- whitespace after whitespace gives nothing
pub gap-again : (w : Bool) (s text : List ℕ) → w ≡ true → text ++ squeezed_after true (past Gap s) ≡ text ++ squeezed_after w s
gap-again w s text is = ap (λ t. text ++ t) (sym (squeezed_after-past s)) ∙ ap (λ t. text ++ squeezed_after t s) (sym is)

-- other whitespace gives a space
pub gap-pushed : (w : Bool) (s text new : List ℕ) → begins is_gap s ≡ true → w ≡ false → new ≡ text ++ 32 ∷ []
    → new ++ squeezed_after true (past Gap s) ≡ text ++ squeezed_after w s
gap-pushed w s text new h is e =
    ap (λ t. t ++ squeezed_after true (past Gap s)) e ∙ append_assoc text (32 ∷ []) (squeezed_after true (past Gap s))
    ∙ ap (λ t. text ++ 32 ∷ t) (sym (squeezed_after-past s)) ∙ ap (λ t. text ++ t) (sym (squeezed_after-space s h))
    ∙ ap (λ t. text ++ squeezed_after t s) (sym is)

pub gap-white : (w : Bool) (s : List ℕ) → begins is_gap s ≡ true → white_after true (past Gap s) ≡ white_after w s
gap-white w s h = white-past s ∙ sym (gap-any w s h)

-- ---- what is squeezed already

-- a first space goes after whitespace
known-behind : (s : List ℕ) → is_squeezed false s ≡ true → begins is_gap s ≡ true → squeezed_after true s ≡ drop 1 s
unfolding is_squeezed
known-behind [] h is = absurd (true≢false (sym is))
known-behind (b ∷ bs) h is = at (is_gap b) (eqb b 32) is h where
  at : (g t : Bool) → g ≡ true → cond g ((t && true) && is_squeezed true bs) (is_squeezed false bs) ≡ true →
      cond g (squeezed_after true bs) (b ∷ squeezed_after false bs) ≡ bs
  at true true is e = squeezed_after-plain true bs e
  at true false is e = absurd (true≢false (sym e))
  at false t is e = absurd (true≢false (sym is))

pub known-cut : (w : Bool) (s : List ℕ) → is_squeezed false s ≡ true → w ≡ true → begins is_gap s ≡ true → take (length s - 1) (drop 1 s) ≡ squeezed_after w s
known-cut w s h is begins_so =
    take_all (length s - 1) (drop 1 s) (omega (arith, length-drop 1 s)) ∙ sym (known-behind s h begins_so) ∙ ap (λ t. squeezed_after t s) (sym is)

-- nothing goes elsewhere
pub known-left : (w : Bool) (s : List ℕ) → is_squeezed false s ≡ true → begins is_gap s ≡ false → s ≡ squeezed_after w s
known-left false s h e = sym (squeezed_after-plain false s h)
known-left true s h e = sym (squeezed_after-plain true s (squeezed-begins s h ∙ ap not e))

pub known-apart : (w : Bool) (s : List ℕ) → is_squeezed false s ≡ true → w ≡ false → s ≡ squeezed_after w s
known-apart w s h is = sym (squeezed_after-plain false s h) ∙ ap (λ t. squeezed_after t s) (sym is)
