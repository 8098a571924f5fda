-- Each string has one division into elements.
use Rattle.std.proofs.Common.{◌≡◌, ℕ, zero, suc, ◌+◌, ◌<◌, ◌≤◌, Bool, true, false, cond, eqb, List, [], ◌∷◌, ◌++◌, length, take, drop, get_or, fold, ◌⊎◌, inl}
use Rattle.std.proofs.Common.{inr, ⊎_elim, refl, sym, ◌∙◌, ap, arith, length-append, length-drop, append_assoc}
use Rattle.std.proofs.lemmas.List.{get_or_append_left, append-nil, append_cancel_left, take-append-drop, length-take-le, take-take, take_at, take-append-le}
use Rattle.std.proofs.lemmas.List.Sums.{fold-append}
use Rattle.std.proofs.lemmas.Bool.{eqb-false, cases_lt}
use Rattle.btx_text.specs.declared.element_kind.Kind.{Kind}
use Rattle.btx_text.specs.declared.element_kind.Kind.TheVariants.{Special, Wide}
use Rattle.btx_text.specs.declared.element_kind.TextMode.{TextMode}
use Rattle.btx_text.specs.language.Sequences.{sequence_size}
use Rattle.btx_text.proofs.SequenceLemmas.{is_sequence-size, begins_sequence-front}
use Rattle.btx_text.specs.language.Elements.{depth_after, depth_of, Element, kind_at, extent, group_len, elements_from, elements_of}
use Rattle.btx_text.specs.laws.Elements.{IsSpecial, Reaches, IsElement, IsDivision, text_of}
use Rattle.btx_text.proofs.ElementLemmas.{Stands, stands_at, group_closes, length_take_extent, elements_from-cons, elements_from-nil}
use Rattle.btx_text.specs.refinement.Elements.{element_at}

-- the parts are the elements that follow a text
abbrev Divides : TextMode → List ℕ → List Element → Type 0
Divides mode before [] = Unit {0}
Divides mode before (p ∷ ps) = IsElement mode before p (text_of ps) × Divides mode (before ++ p.text) ps

each_at : (mode : TextMode) (left : List Element) (before : List ℕ) (p : Element) (right : List Element) → Divides mode before (left ++ p ∷ right)
    → IsElement mode (before ++ text_of left) p (text_of right)
each_at mode [] before p right h = rw append-nil h.0
each_at mode (l ∷ left) before p right h = rw (← append_assoc) (each_at mode left (before ++ l.text) p right h.1)

from_each : (mode : TextMode) (ps : List Element) (before : List ℕ)
    → ((left : List Element) (p : Element) (right : List Element) → ps ≡ left ++ p ∷ right → IsElement mode (before ++ text_of left) p (text_of right))
    → Divides mode before ps
from_each mode [] before h = tt
from_each mode (p ∷ ps) before h = (
  let here = h [] p ps refl in rw append-nil at here,
  from_each mode ps (before ++ p.text) (λ left q right e. let there = h (p ∷ left) q right (ap (λ xs. p ∷ xs) e) in rw append_assoc there),
)

-- ---- there is one

group_inside : (depth : ℕ) (s : List ℕ) (n : ℕ) → 0 < n → n < group_len depth s → 0 < fold depth_after depth (take n s)
unfolding group_len
group_inside depth [] n some h = absurd (omega arith)
group_inside depth (b ∷ bs) zero some h = absurd (omega arith)
group_inside depth (b ∷ bs) (suc n) some h = step (eqb (depth_after depth b) 0) n refl h (group_inside (depth_after depth b) bs n) where
  step : (t : Bool) (n : ℕ) → eqb (depth_after depth b) 0 ≡ t → suc n < cond t 1 (suc (group_len (depth_after depth b) bs)) →
      (0 < n → n < group_len (depth_after depth b) bs → 0 < fold depth_after (depth_after depth b) (take n bs))
      → 0 < fold depth_after (depth_after depth b) (take n bs)
  step true n e h rest = absurd (omega arith)
  step false zero e h rest = let ne : depth_after depth b ≡ 0 → ⊥ = eqb-false _ _ e in omega arith
  step false (suc n) e h rest = rest (omega arith) (omega arith)

reaches : (kind : Kind) (depth b : ℕ) (bs : List ℕ) → Stands kind depth (b ∷ bs) → let n = extent kind (b ∷ bs) in
    Reaches kind (take n (b ∷ bs)) (drop n (b ∷ bs))
reaches Special depth b bs h =
    let n = group_len 0 (b ∷ bs) in
    let parts = length_take_extent Special depth b bs h in
    let fits : n ≤ length (b ∷ bs) = omega arith in
    let len : length (take n (b ∷ bs)) ≡ n = length-take-le n (b ∷ bs) fits in
    record {
      inside = λ k some h. let le : k ≤ n = omega arith in rw (take-take k n (b ∷ bs) le) (group_inside 0 (b ∷ bs) k some (omega arith));
      ends = group_closes 0 (b ∷ bs);
      some = omega arith;
    }
reaches Wide depth b bs h = begins_sequence-front (b ∷ bs) h
reaches _ depth b bs h = refl

divides : (mode : TextMode) (n : ℕ) (before rest : List ℕ) → length rest ≤ n →
    let parts = elements_from mode 0 (length before) (depth_of before) rest in
    (text_of parts ≡ rest) × Divides mode before parts
divides mode n before [] h = let none = elements_from-nil mode 0 (length before) (depth_of before) [] refl in rw none (refl, tt)
divides mode zero before (b ∷ bs) h = absurd (omega arith)
divides mode (suc m) before (b ∷ bs) h =
    let kind = kind_at mode (depth_of before) (b ∷ bs) in
    let n = extent kind (b ∷ bs) in
    let text = take n (b ∷ bs) in
    let part = element_at mode (length before) (depth_of before) (b ∷ bs) in
    let stands : Stands kind (depth_of before) (b ∷ bs) = stands_at mode (depth_of before) (b ∷ bs) in
    let parts = length_take_extent kind (depth_of before) b bs stands in
    let fits : n ≤ length (b ∷ bs) = omega arith in
    let len : length text ≡ n = length-take-le n (b ∷ bs) fits in
    let later = divides mode m (before ++ text) (drop n (b ∷ bs)) (omega (arith, length-drop n (b ∷ bs))) in
    let others = elements_from mode 0 (length (before ++ text)) (depth_of (before ++ text)) (drop n (b ∷ bs)) in
    let moved : elements_from mode 0 (length before + length text) (fold depth_after (depth_of before) text) (drop (length text) (b ∷ bs)) ≡ others =
    rw (len, length-append, fold-append, len) refl in
    let whole : elements_from mode 0 (length before) (depth_of before) (b ∷ bs) ≡ part ∷ others =
    elements_from-cons mode (length before) (depth_of before) b bs ∙ ap (λ (ps : List Element). part ∷ ps) moved in
    let joined : text ++ text_of others ≡ b ∷ bs = ap (λ x. text ++ x) later.0 ∙ take-append-drop n (b ∷ bs) in
    let here : IsElement mode before part (text_of others) = record {
      start = refl;
      depth = refl;
      kind = rw joined refl;
      reaches = rw later.0 (reaches kind (depth_of before) b bs stands);
    } in
    rw whole (joined, (here, later.1))

-- ---- there is no other

special_len : (t a u b : List ℕ) → IsSpecial t a → IsSpecial u b → t ++ a ≡ u ++ b → length t ≤ length u
special_len t a u b ht hu e = ⊎_elim (λ lt. absurd (longer lt hu.ends)) (λ le. le) (cases_lt (length u) (length t)) where
  longer : length u < length t → (depth_of u ≡ 0) ⊎ (b ≡ []) → ⊥
  longer lt (inl zero_depth) =
      let le : length u ≤ length t = omega arith in
      let front : take (length u) t ≡ u = sym (take-append-le (length u) t a le) ∙ ap (take (length u)) e ∙ take_at u b (length u) refl in
      let above = ht.inside (length u) hu.some lt in
      let above_u : 0 < depth_of u = rw front at above in
      omega (arith, zero_depth)
  longer lt (inr none) =
      let lens : length (t ++ a) ≡ length (u ++ b) = ap length e in
      let lens_t = length-append t a in
      let lens_u = length-append u b in
      let none_len : length b ≡ 0 = rw none refl in
      omega arith

same_first : (t a u b : List ℕ) → t ++ a ≡ u ++ b → 0 < length t → 0 < length u → get_or t 0 0 ≡ get_or u 0 0
same_first t a u b e some_t some_u = sym (get_or_append_left t a 0 0 some_t) ∙ ap (λ s. get_or s 0 0) e ∙ get_or_append_left u b 0 0 some_u

reaches_len : (kind : Kind) (t a u b : List ℕ) → Reaches kind t a → Reaches kind u b → t ++ a ≡ u ++ b → length t ≡ length u
reaches_len Special t a u b ht hu e =
    let le = special_len t a u b ht hu e in
    let ge = special_len u b t a hu ht (sym e) in
    omega arith
reaches_len Wide t a u b ht hu e =
    let size_t = is_sequence-size t ht in
    let size_u = is_sequence-size u hu in
    size_t.0 ∙ ap sequence_size (same_first t a u b e (omega arith) (omega arith)) ∙ sym size_u.0
reaches_len _ t a u b ht hu e = ht ∙ sym hu

reaches_some : (kind : Kind) (t a : List ℕ) → Reaches kind t a → 0 < length t
reaches_some Special t a h = h.some
reaches_some Wide t a h = let size = is_sequence-size t h in omega arith
reaches_some _ t a h = omega (arith, h)

one_part : (p q : Element) → p.kind ≡ q.kind → p.text ≡ q.text → p.start ≡ q.start → p.depth ≡ q.depth → p ≡ q
one_part p q k t s d =
    let part : Kind → List ℕ → ℕ → ℕ → Element = λ kind text start depth. record { kind = kind; text = text; start = start; depth = depth } in
    let same : part p.kind p.text p.start p.depth ≡ part q.kind q.text q.start q.depth = rw (k, t, s, d) refl in
    same

one_element : (mode : TextMode) (before : List ℕ) (p q : Element) (a b : List ℕ) → IsElement mode before p a → IsElement mode before q b
    → p.text ++ a ≡ q.text ++ b → (p ≡ q) × (a ≡ b)
one_element mode before p q a b hp hq e =
    let depth : p.depth ≡ q.depth = hp.depth ∙ sym hq.depth in
    let kind : p.kind ≡ q.kind = hp.kind ∙ rw (depth, e) (sym hq.kind) in
    let reaches_p : Reaches q.kind p.text a = rw (← kind) hp.reaches in
    let len : length p.text ≡ length q.text = reaches_len q.kind p.text a q.text b reaches_p hq.reaches e in
    let text : p.text ≡ q.text = sym (take_at p.text a (length q.text) len) ∙ ap (take (length q.text)) e ∙ take_at q.text b (length q.text) refl in
    let others : p.text ++ a ≡ p.text ++ b = e ∙ ap (λ t. t ++ b) (sym text) in
    (one_part p q kind text (hp.start ∙ sym hq.start) depth, append_cancel_left p.text a b others)

one_division : (mode : TextMode) (ps qs : List Element) (before : List ℕ) → Divides mode before ps → Divides mode before qs → text_of ps ≡ text_of qs → ps ≡ qs
one_division mode [] [] before hp hq e = refl
one_division mode [] (q ∷ qs) before hp hq e =
    let some = reaches_some q.kind q.text _ hq.0.reaches in
    let lens : 0 ≡ length (q.text ++ text_of qs) = ap length e in
    let len = length-append q.text (text_of qs) in
    absurd (omega arith)
one_division mode (p ∷ ps) [] before hp hq e =
    let some = reaches_some p.kind p.text _ hp.0.reaches in
    let lens : length (p.text ++ text_of ps) ≡ 0 = ap length e in
    let len = length-append p.text (text_of ps) in
    absurd (omega arith)
one_division mode (p ∷ ps) (q ∷ qs) before hp hq e =
    let here = one_element mode before p q (text_of ps) (text_of qs) hp.0 hq.0 e in
    let text : p.text ≡ q.text = ap (λ (x : Element). x.text) here.0 in
    let hq' : Divides mode (before ++ p.text) qs = rw text hq.1 in
    let tail : ps ≡ qs = one_division mode ps qs (before ++ p.text) hp.1 hq' here.1 in
    ap (λ x. x ∷ ps) here.0 ∙ ap (λ xs. q ∷ xs) tail

-- ---- both, for a string

pub elements_of-divides : (mode : TextMode) (string : List ℕ) → IsDivision mode string (elements_of mode string)
unfolding elements_of
elements_of-divides mode string =
    let h = divides mode (length string) [] string (omega arith) in
    record { joined = h.0; each = λ left p right e. let at : Divides mode [] (left ++ p ∷ right) = rw (← e) h.1 in each_at mode left [] p right at }

pub elements_of-only : (mode : TextMode) (string : List ℕ) (parts : List Element) → IsDivision mode string parts → parts ≡ elements_of mode string
elements_of-only mode string parts h =
    let all = elements_of-divides mode string in
    one_division mode parts (elements_of mode string) [] (from_each mode parts [] h.each) (from_each mode (elements_of mode string) [] all.each)
    (h.joined ∙ sym all.joined)
