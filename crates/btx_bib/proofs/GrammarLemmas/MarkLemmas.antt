-- Where what is enclosed ends is found from mark to mark.
use Rattle.std.proofs.Common.{◌≡◌, ℕ, zero, suc, ◌+◌, ◌-◌, ◌<◌, ◌≤◌, Bool, true, false, cond, eqb, ◌&&◌, ◌||◌, List, [], ◌∷◌, length, drop, get_or, refl, sym}
use Rattle.std.proofs.Common.{◌∙◌, ap, arith, Option, Some, None}
use Rattle.std.specs.Prelude.{unwrap_or}
use Rattle.std.proofs.lemmas.Bool.{eqb-true, false_from_ne_true, true≢false}
use Rattle.std.proofs.lemmas.List.{drop_all}
use Rattle.memchr.specs.Find.{IsFirstByte}
use Rattle.btx_text.specs.language.Elements.{depth_after}
use Rattle.btx_bib.specs.declared.grammar.byte_sets.Enclosure.{Enclosure}
use Rattle.btx_bib.specs.declared.grammar.byte_sets.Enclosure.TheVariants.{Group, Quotes}
use Rattle.btx_bib.specs.language.Grammar.ByteSets.{is_gap, ends_enclosed, enclosed_len}
use Rattle.btx_bib.specs.refinement.Grammar.ByteSets.{is_word_byte, is_mark, unmarked_len}
use Rattle.btx_bib.proofs.GrammarLemmas.RunLemmas.{enclosed_here, enclosed_next}

-- ---- the first mark

unmarked-some : (test : ℕ → Bool) (s : List ℕ) (k : ℕ) → k < length s → ((j : ℕ) → j < k → test (get_or s j 0) ≡ true → ⊥) → test (get_or s k 0) ≡ true
    → unmarked_len test s ≡ k
unfolding unmarked_len
unmarked-some test [] k lt before here = absurd (omega arith)
unmarked-some test (b ∷ bs) zero lt before here = rw here refl
unmarked-some test (b ∷ bs) (suc k) lt before here =
    let none : test b ≡ false = false_from_ne_true _ (before 0 (omega arith)) in
    rw none (ap suc (unmarked-some test bs k (omega arith) (λ j less. before (suc j) (omega arith)) here))

unmarked-none : (test : ℕ → Bool) (s : List ℕ) → ((j : ℕ) → j < length s → test (get_or s j 0) ≡ true → ⊥) → unmarked_len test s ≡ length s
unfolding unmarked_len
unmarked-none test [] h = refl
unmarked-none test (b ∷ bs) h =
    let none : test b ≡ false = false_from_ne_true _ (h 0 (omega arith)) in
    rw none (ap suc (unmarked-none test bs (λ j less. h (suc j) (omega arith))))

pub unmarked-found : (test : ℕ → Bool) (s : List ℕ) (o : Option ℕ) → IsFirstByte test s o → unwrap_or o (length s) ≡ unmarked_len test s
unmarked-found test s None h = sym (unmarked-none test s (λ j less. h j (omega arith) less))
unmarked-found test s (Some k) h = sym (unmarked-some test s k h.0.high (λ j less. h.0.before j (omega arith) less) h.1)

pub unmarked-le : (test : ℕ → Bool) (s : List ℕ) → unmarked_len test s ≤ length s
unfolding unmarked_len
unmarked-le test [] = omega arith
unmarked-le test (b ∷ bs) = at (test b) (unmarked-le test bs) where
  at : (t : Bool) → unmarked_len test bs ≤ length bs → cond t 0 (suc (unmarked_len test bs)) ≤ suc (length bs)
  at true h = omega arith
  at false h = omega arith

pub ruleset mark_steps = (unmarked-found, unmarked-le)

-- ---- from mark to mark

pub or_parts : (x y : Bool) → (x || y) ≡ false → (x ≡ false) × (y ≡ false)
or_parts true y h = absurd (true≢false h)
or_parts false y h = (refl, h)

-- a byte that is no mark ends nothing, and the depth stays
pub no-mark : (e : Enclosure) (d b : ℕ) → is_mark e b ≡ false → (ends_enclosed e b ≡ false) × (depth_after d b ≡ d)
no-mark Group d b h = let parts = or_parts (eqb b 123) (eqb b 125) h in rw (parts.0, parts.1) (refl, refl)
no-mark Quotes d b h =
    let quote = or_parts (eqb b 123 || eqb b 125) (eqb b 34) h in
    let parts = or_parts (eqb b 123) (eqb b 125) quote.0 in
    rw (parts.0, parts.1, quote.1) (refl, refl)

pub and-false : (t : Bool) → (t && false) ≡ false
and-false true = refl
and-false false = refl

-- bytes that are no marks are passed over
pub enclosed-skip : (e : Enclosure) (d : ℕ) (s : List ℕ) → enclosed_len e d s ≡ unmarked_len (is_mark e) s + enclosed_len e d
    (drop (unmarked_len (is_mark e) s) s)
unfolding enclosed_len unmarked_len
enclosed-skip e d [] = refl
enclosed-skip e d (b ∷ bs) = at (is_mark e b) refl (enclosed-skip e d bs) where
  at : (t : Bool) → is_mark e b ≡ t → enclosed_len e d bs ≡ unmarked_len (is_mark e) bs + enclosed_len e d (drop (unmarked_len (is_mark e) bs) bs) →
      enclosed_len e d (b ∷ bs) ≡ cond t 0 (suc (unmarked_len (is_mark e) bs)) + enclosed_len e d (drop (cond t 0 (suc (unmarked_len (is_mark e) bs))) (b ∷ bs))
  at true is h = omega arith
  at false is h =
      let stays = no-mark e d b is in
      rw (stays.0, stays.1, and-false (eqb d 0)) (ap suc h ∙ omega arith)

drop-further : (n k : ℕ) (s : List ℕ) → drop k (drop n s) ≡ drop (n + k) s
drop-further zero k s = let e : 0 + k ≡ k = omega arith in rw e refl
drop-further (suc n) k [] = drop_all k [] (omega arith) ∙ sym (drop_all (suc n + k) [] (omega arith))
drop-further (suc n) k (b ∷ bs) = let e : suc n + k ≡ suc (n + k) = omega arith in rw e (drop-further n k bs)

-- the end is found from the first mark on
pub enclosed-first : (e : Enclosure) (s : List ℕ) (place : ℕ) → place ≡ unmarked_len (is_mark e) s → place + enclosed_len e 0 (drop place s)
    ≡ enclosed_len e 0 s
enclosed-first e s place is = rw is (sym (enclosed-skip e 0 s))

-- and from after a mark that isn't it
pub enclosed-further : (e : Enclosure) (d : ℕ) (s : List ℕ) (place : ℕ) (k total : ℕ) → place < length s → (eqb d 0 && ends_enclosed e (get_or s place 0))
    ≡ false →
    k ≡ unmarked_len (is_mark e) (drop (place + 1) s) → place + enclosed_len e d (drop place s) ≡ total →
    (place + 1) + k + enclosed_len e (depth_after d (get_or s place 0)) (drop ((place + 1) + k) s) ≡ total
enclosed-further e d s place k total lt ends is whole =
    let after = depth_after d (get_or s place 0) in
    let next = enclosed_next e d s place lt ends in
    let skip : enclosed_len e after (drop (place + 1) s) ≡ k + enclosed_len e after (drop k (drop (place + 1) s)) =
    rw is (enclosed-skip e after (drop (place + 1) s)) in
    let far = ap (λ t. enclosed_len e after t) (drop-further (place + 1) k s) in
    omega arith

-- a byte makes the depth greater by one at most
pub depth_after-le : (d b : ℕ) → depth_after d b ≤ d + 1
depth_after-le d b = at (eqb b 123) (eqb b 125) where
  at : (t u : Bool) → cond t (d + 1) (cond u (d - 1) d) ≤ d + 1
  at true u = omega arith
  at false true = omega arith
  at false false = omega arith

-- ---- byte by byte

no-word : (b k : ℕ) → is_word_byte k ≡ false → is_word_byte b ≡ true → eqb b k ≡ false
no-word b k other h = at (eqb b k) refl where
  at : (t : Bool) → eqb b k ≡ t → t ≡ false
  at true is = absurd (true≢false (sym h ∙ ap is_word_byte (eqb-true b k is) ∙ other))
  at false is = refl

pub word-gap : (b : ℕ) → is_word_byte b ≡ true → is_gap b ≡ false
word-gap b h = rw (no-word b 32 refl h, no-word b 9 refl h, no-word b 13 refl h, no-word b 10 refl h) refl

pub word-ends : (e : Enclosure) (b : ℕ) → is_word_byte b ≡ true → ends_enclosed e b ≡ false
word-ends Group b h = no-word b 125 refl h
word-ends Quotes b h = rw (no-word b 34 refl h, no-word b 125 refl h) refl

pub word-depth : (d b : ℕ) → is_word_byte b ≡ true → depth_after d b ≡ d
word-depth d b h = rw (no-word b 123 refl h, no-word b 125 refl h) refl

-- a byte that doesn't end what is enclosed is passed over
pub enclosed-on : (e : Enclosure) (d after : ℕ) (s : List ℕ) (i n b : ℕ) → i < length s → b ≡ get_or s i 0 → (eqb d 0 && ends_enclosed e b) ≡ false
    → after ≡ depth_after d b → i + enclosed_len e d (drop i s) ≡ n → i + 1 + enclosed_len e after (drop (i + 1) s) ≡ n
enclosed-on e d after s i n b lt at goes deep h =
    let next = enclosed_next e d s i lt (rw (sym at) goes) in
    rw (deep, at) (omega (arith, next, h))

pub enclosed-ends : (e : Enclosure) (d : ℕ) (s : List ℕ) (i n b : ℕ) → i < length s → b ≡ get_or s i 0 → (eqb d 0 && ends_enclosed e b) ≡ true
    → i + enclosed_len e d (drop i s) ≡ n → i ≡ n
enclosed-ends e d s i n b lt at ends h = omega (arith, enclosed_here e d s i lt (rw (sym at) ends), h)
