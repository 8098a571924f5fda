-- The bytes and the lines of spots.
use Rattle.std.proofs.Common.{◌≡◌, ℕ, zero, suc, ◌+◌, ◌-◌, ◌==◌, Bool, true, false, cond, List, [], ◌∷◌, ◌++◌, length, map, refl, sym, ap, ◌∙◌, arith, Some}
use Rattle.std.proofs.Common.{append_assoc}
use Rattle.std.specs.Prelude.{slice_get, slice_index_or}
use Rattle.std.specs.List.{onto_first}
use Rattle.std.proofs.lemmas.List.{length-append}
use Rattle.btx_text.specs.language.Class.{is_white}
use Rattle.btx_text.specs.language.Lines.{line_pieces, trimmed, white_before}
use Rattle.std.proofs.lemmas.List.Sums.{sum_by-append}
use Rattle.btx_bst.specs.laws.Fronts.{is_line_feed}
use Rattle.btx_bst.specs.laws.StylePlaces.{ends_from, line_feeds, SpotLaw}

-- line feeds of two texts
feeds-append : (s t : List ℕ) → line_feeds (s ++ t) ≡ line_feeds s + line_feeds t
feeds-append s t = sum_by-append (λ (b : ℕ). cond (is_line_feed b) 1 0) s t

-- a line and the whitespace at its end
line_front : (p : List ℕ) → (w : List ℕ) × (p ≡ trimmed p ++ w)
unfolding trimmed
line_front [] = ([], refl)
line_front (b ∷ bs) = at (is_white b) (trimmed bs) (line_front bs) where
  at : (t : Bool) (x : List ℕ) → ((w : List ℕ) × (bs ≡ x ++ w)) → (w : List ℕ) × (b ∷ bs ≡ cond t (white_before b x) (b ∷ x) ++ w)
  at true [] h = (b ∷ bs, refl)
  at true (c ∷ cs) h = (h.0, ap (λ (xs : List ℕ). b ∷ xs) h.1)
  at false x h = (h.0, ap (λ (xs : List ℕ). b ∷ xs) h.1)

-- the first line begins a text, and has no line feed
abbrev FirstPiece : List (List ℕ) → List ℕ → Type 0
FirstPiece [] text = text ≡ []
FirstPiece (p ∷ ps) text = (tail : List ℕ) × (text ≡ p ++ tail) × (line_feeds p ≡ 0)

first_piece : (text : List ℕ) → FirstPiece (line_pieces text) text
unfolding line_pieces
first_piece [] = refl
first_piece (b ∷ bs) = at (b == 10) refl (line_pieces bs) (first_piece bs) where
  at : (t : Bool) → (b == 10) ≡ t → (qs : List (List ℕ)) → FirstPiece qs bs → FirstPiece (cond t ([] ∷ qs) (onto_first b qs)) (b ∷ bs)
  at true is qs h = (b ∷ bs, refl, refl)
  at false is [] h = ([], ap (λ (xs : List ℕ). b ∷ xs) h, rw is refl)
  at false is (q ∷ qs) h = (h.0, ap (λ (xs : List ℕ). b ∷ xs) h.1, rw is h.2)

-- `rest` stands in a text whose lines these are, in the line of a number, up to its end; the text begins at the byte `start`
record Found (start : ℕ) (pieces : List (List ℕ)) (text : List ℕ) (number : ℕ) (rest : List ℕ) : Type 0 where
  before : List ℕ
  after : List ℕ
  joined : text ≡ before ++ (rest ++ after)
  byte : slice_index_or (ends_from start pieces) number 0 ≡ start + length before + length rest
  line : line_feeds before ≡ number

found_first : (start : ℕ) (pieces : List (List ℕ)) (text front rest : List ℕ) → FirstPiece pieces text
    → slice_get (map trimmed pieces) 0 ≡ Some (front ++ rest) → Found start pieces text 0 rest
unfolding ends_from
found_first start [] text front rest h e = absurd (cc)
found_first start (p ∷ ps) text front rest h e =
    let is : trimmed p ≡ front ++ rest = cc in
    let w = line_front p in
    let whole : p ≡ front ++ (rest ++ w.0) = w.1 ∙ ap (λ (xs : List ℕ). xs ++ w.0) is ∙ append_assoc front rest w.0 in
    let none : line_feeds (front ++ (rest ++ w.0)) ≡ 0 = ap line_feeds (sym whole) ∙ h.2 in
    record {
      before = front;
      after = w.0 ++ h.0;
      joined = h.1 ∙ ap (λ (xs : List ℕ). xs ++ h.0) whole ∙ append_assoc front (rest ++ w.0) h.0 ∙ ap (λ (xs : List ℕ). front ++ xs) (append_assoc rest w.0 h.0);
      byte = omega (arith, ap (λ (xs : List ℕ). length xs) is, length-append front rest);
      line = omega (arith, none, feeds-append front (rest ++ w.0));
    }

found : (text : List ℕ) (start number : ℕ) (front rest : List ℕ) → slice_get (map trimmed (line_pieces text)) number ≡ Some (front ++ rest)
    → Found start (line_pieces text) text number rest
unfolding line_pieces ends_from
found text start zero front rest e = found_first start (line_pieces text) text front rest (first_piece text) e
found [] start (suc n) front rest e = absurd (cc)
found (b ∷ bs) start (suc n) front rest e = at (b == 10) refl (line_pieces bs) e (λ s m. found bs s m front rest) where
  at : (t : Bool) → (b == 10) ≡ t → (qs : List (List ℕ)) → slice_get (map trimmed (cond t ([] ∷ qs) (onto_first b qs))) (suc n) ≡ Some (front ++ rest)
      → ((s m : ℕ) → slice_get (map trimmed qs) m ≡ Some (front ++ rest) → Found s qs bs m rest)
      → Found start (cond t ([] ∷ qs) (onto_first b qs)) (b ∷ bs) (suc n) rest
  at true is qs k more =
      let f = more (start + 0 + 1) n k in
      record {
        before = b ∷ f.before;
        after = f.after;
        joined = ap (λ (xs : List ℕ). b ∷ xs) f.joined;
        byte = omega (arith, f.byte);
        line = let one : line_feeds (b ∷ []) ≡ 1 = rw is refl in omega (arith, feeds-append (b ∷ []) f.before, one, f.line);
      }
  at false is [] k more = absurd (cc)
  at false is (q ∷ qs) k more =
      let f = more (start + 1) (suc n) k in
      let s : start + suc (length q) + 1 ≡ start + 1 + length q + 1 = omega arith in
      record {
        before = b ∷ f.before;
        after = f.after;
        joined = ap (λ (xs : List ℕ). b ∷ xs) f.joined;
        byte = let h = f.byte in ap (λ (m : ℕ). slice_index_or (ends_from m qs) n 0) s ∙ h ∙ omega arith;
        line = let one : line_feeds (b ∷ []) ≡ 0 = rw is refl in omega (arith, feeds-append (b ∷ []) f.before, one, f.line);
      }

pub spot-law : SpotLaw
spot-law text number front rest after e =
    let f = found text 0 number front rest e in
    let same : number + 1 - 1 ≡ number = omega arith in
    record {
      before = f.before;
      after = f.after;
      joined = f.joined;
      byte = rw same (omega (arith, f.byte));
      line = omega (arith, f.line);
    }
