-- Lemmas on the lines of places.
use Rattle.std.proofs.Common.{◌≡◌, ℕ, zero, suc, ◌+◌, ◌-◌, ◌<◌, ◌≤◌, Bool, true, false, cond, eqb, List, [], ◌∷◌, ◌++◌, length, take, drop, get_or, refl, sym}
use Rattle.std.proofs.Common.{◌∙◌, ap, arith, min, ⊎_elim}
use Rattle.std.proofs.lemmas.List.{take_more, take_all, length-take}
use Rattle.std.proofs.lemmas.Bool.{cases_lt}
use Rattle.std.proofs.lemmas.List.Sums.{count_by-le-length}
use Rattle.std.specs.List.{count_by, onto_first}
use Rattle.std.proofs.lemmas.List.Recursion.{is_count_by}
use Rattle.btx_text.specs.language.Lines.{line_pieces}
use Rattle.btx_bib.specs.language.Grammar.PlaceLines.{lines_begun}
use Rattle.btx_bib.specs.refinement.Grammar.PlaceLines.{feeds_in}

pub feeds-count : (s : List ℕ) → feeds_in s ≡ count_by (λ b. eqb b 10) s
feeds-count s = is_count_by feeds_in (λ b. eqb b 10) refl (λ b bs. at b bs (eqb b 10)) s where
  at : (b : ℕ) (bs : List ℕ) (t : Bool) → cond t (suc (feeds_in bs)) (feeds_in bs) ≡ cond t (1 + feeds_in bs) (feeds_in bs)
  at b bs true = omega arith
  at b bs false = refl

pub feeds-le : (s : List ℕ) → feeds_in s ≤ length s
feeds-le s = omega (arith, feeds-count s, count_by-le-length (λ b. eqb b 10) s)

pub ruleset feed_counts = (feeds-count, feeds-le)

feeds-append : (s t : List ℕ) → feeds_in (s ++ t) ≡ feeds_in s + feeds_in t
feeds-append [] t = omega arith
feeds-append (b ∷ bs) t = at (eqb b 10) (feeds-append bs t) where
  at : (u : Bool) → feeds_in (bs ++ t) ≡ feeds_in bs + feeds_in t → cond u (suc (feeds_in (bs ++ t))) (feeds_in (bs ++ t))
      ≡ cond u (suc (feeds_in bs)) (feeds_in bs) + feeds_in t
  at true h = omega arith
  at false h = h

take-take-drop : (n k : ℕ) (s : List ℕ) → take (n + k) s ≡ take n s ++ take k (drop n s)
take-take-drop zero k s = let e : 0 + k ≡ k = omega arith in rw e refl
take-take-drop (suc n) k [] = let e : suc n + k ≡ suc (n + k) = omega arith in rw e (sym (take_all k [] (omega arith)))
take-take-drop (suc n) k (b ∷ bs) = let e : suc n + k ≡ suc (n + k) = omega arith in rw e (ap (λ t. b ∷ t) (take-take-drop n k bs))

-- the line feeds up to a place, and those of the block from it on
pub feeds-block : (s : List ℕ) (place : ℕ) → feeds_in (take place s) + feeds_in (take 32 (drop place s)) ≡ feeds_in (take (place + 32) s)
feeds-block s place = sym (feeds-append (take place s) (take 32 (drop place s))) ∙ ap feeds_in (sym (take-take-drop place 32 s))

-- the line feeds up to a place, and those from it to a later one
pub feeds-on : (s : List ℕ) (counted place : ℕ) → counted ≤ place → feeds_in (take counted s) + feeds_in (take (place - counted) (drop counted s))
    ≡ feeds_in (take place s)
feeds-on s counted place le =
    let e : counted + (place - counted) ≡ place = omega arith in
    sym (feeds-append (take counted s) (take (place - counted) (drop counted s))) ∙ ap feeds_in (sym (take-take-drop counted (place - counted) s))
    ∙ ap (λ n. feeds_in (take n s)) e

pub feeds-fit : (s : List ℕ) (n : ℕ) → feeds_in (take n s) ≤ n
feeds-fit s n = omega (arith, feeds-le (take n s), length-take n s)

pub ruleset feed_sums = (feeds-on, feeds-fit)

in_front-length : (b : ℕ) (pieces : List (List ℕ)) (n : ℕ) → length pieces ≡ suc n → length (onto_first b pieces) ≡ suc n
in_front-length b [] n e = absurd (omega (arith, e))
in_front-length b (p ∷ ps) n e = e

-- the lines that have begun: one more than the line feeds before the last byte
pieces-snoc : (s : List ℕ) (b : ℕ) → length (line_pieces (s ++ b ∷ [])) ≡ suc (feeds_in s)
unfolding line_pieces
pieces-snoc [] b = at (eqb b 10) where
  at : (t : Bool) → length (cond t ([] ∷ []) ((b ∷ []) ∷ [])) ≡ 1
  at true = refl
  at false = refl
pieces-snoc (c ∷ cs) b = at (eqb c 10) (pieces-snoc cs b) where
  at : (t : Bool) → length (line_pieces (cs ++ b ∷ [])) ≡ suc (feeds_in cs)
      → length (cond t ([] ∷ line_pieces (cs ++ b ∷ [])) (onto_first c (line_pieces (cs ++ b ∷ [])))) ≡ suc (cond t (suc (feeds_in cs)) (feeds_in cs))
  at true h = ap suc h
  at false h = in_front-length c (line_pieces (cs ++ b ∷ [])) (feeds_in cs) h

take-min : (count : ℕ) (text : List ℕ) → take count text ≡ take (min count (length text)) text
take-min count text = ⊎_elim within past (cases_lt count (length text)) where
  within : count < length text → take count text ≡ take (min count (length text)) text
  within lt = let e : min count (length text) ≡ count = omega arith in rw e refl

  past : length text ≤ count → take count text ≡ take (min count (length text)) text
  past le = let e : min count (length text) ≡ length text = omega arith in rw e (take_all count text le ∙ sym (take_all (length text) text (omega arith)))

-- the lines that have begun when a byte has been read
pub lines_begun-place : (count : ℕ) (text : List ℕ) (place : ℕ) → min count (length text) ≡ place + 1 → lines_begun count text ≡ feeds_in (take place text) + 1
unfolding lines_begun
lines_begun-place count text place is =
    let cut : take count text ≡ take place text ++ get_or text place 0 ∷ [] = take-min count text ∙ ap (λ n. take n text) is
    ∙ take_more text place 0 (omega (arith, is)) in
    ap (λ s. length (line_pieces s)) cut ∙ pieces-snoc (take place text) (get_or text place 0) ∙ omega arith

pub lines_begun-nothing : (count : ℕ) (text : List ℕ) → min count (length text) ≡ 0 → lines_begun count text ≡ 0
unfolding lines_begun line_pieces
lines_begun-nothing count text is = ap (λ s. length (line_pieces s)) (take-min count text ∙ ap (λ n. take n text) is)

pub ruleset line_steps = (lines_begun-place, lines_begun-nothing)
