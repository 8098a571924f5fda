-- A piece of a string below two integers.
use Rattle.std.proofs.Common.{ℕ, ℤ, ◌≡◌, ◌≤◌, ◌<◌, ◌+◌, ◌-◌, List, [], ◌∷◌, ◌++◌, length, take, drop, set, get_or, Option, Some, None, Bool, true, false, refl}
use Rattle.std.proofs.Common.{sym, ap, subst, ◌∙◌, arith}
use Rattle.std.proofs.lemmas.List.{take_all, drop_all, append-nil, length-take, length-take-le, length-drop, length-append, drop-drop}
use Rattle.btx_stack.specs.declared.slot.SlotKind.TheVariants as kind
use Rattle.btx_stack.specs.declared.slot.Slot.{Slot}
use Rattle.btx_stack.specs.declared.literal.Literal.{Literal}
use Rattle.btx_stack.specs.refinement.Content.{Content}
use Rattle.btx_stack.specs.refinement.Content as content
use Rattle.btx_stack.specs.refinement.LongStrings.{filled, Owns}
use Rattle.btx_stack.specs.refinement.Slots.{HasBytes, SlotFits, content_of, content_as, contents_of, Stand}
use Rattle.btx_stack.specs.refinement.Steps.{Partly, cut}
use Rattle.btx_stack.specs.refinement.Stacks as stacks
use Rattle.btx_stack.proofs.Alone.{two_integers, put_alone, put_stands}
use Rattle.btx_stack.proofs.Opens.{from_here}
use Rattle.btx_stack.proofs.PartlyLemmas as partly
use Rattle.btx_stack.proofs.Pushes.{on_parts}

-- two integers on top, and the slot below them
record Three (slots : List Slot) (top : ℕ) (a b t : Slot) (pool : List ℕ) (old : List Content) : Type 0 where
  shown : old ≡ content.Integer a.integer ∷ content.Integer b.integer ∷ contents_of (t ∷ drop (top + 2 + 1) slots) pool
  fits : SlotFits t (length pool)
  stands : Stand (drop (top + 2 + 1) slots) t.start

three : (slots : List Slot) (top : ℕ) (a b t : Slot) (pool : List ℕ) (old : List Content) → contents_of (drop top slots) pool ≡ old
    → Stand (drop top slots) (length pool) → top + 2 < length slots → a ≡ get_or slots top a → b ≡ get_or slots (top + 1) b → t ≡ get_or slots (top + 2) t
    → a.kind ≡ kind.Integer → b.kind ≡ kind.Integer → Three slots top a b t pool old
three slots top a b t pool old o s l e f g ka kb =
    let two = two_integers slots top a b pool old o s (omega (arith, l)) e f ka kb in
    let here : drop (top + 1 + 1) slots ≡ t ∷ drop (top + 2 + 1) slots = ap (λ n. drop n slots) (omega arith) ∙ from_here slots (top + 2) t l g in
    let stand : Stand (t ∷ drop (top + 2 + 1) slots) (length pool) = subst (λ vs. Stand vs (length pool)) here two.stand in
    record {
      shown = two.shown ∙ ap (λ vs. content.Integer a.integer ∷ content.Integer b.integer ∷ contents_of vs pool) here;
      fits = stand.0;
      stands = stand.1;
    }

-- a string of a file
record Lent (t : Slot) (n : ℕ) : Type 0 where
  start : t.start ≡ n
  short : length t.bytes.now ≤ 1000000

lent : (t : Slot) (n : ℕ) → t.kind ≡ kind.Lent → SlotFits t n → Lent t n
lent t n k f =
    let h : HasBytes kind.Lent t (n - t.start) = subst (λ j. HasBytes j t (n - t.start)) k f.bytes in
    record { start = omega (arith, f.start, h.0); short = h.1 }

pub lent_within : (slots : List Slot) (top : ℕ) (a b t : Slot) (pool bytes : List ℕ) (from n : ℕ) → Stand (drop top slots) (length pool)
    → top + 2 < length slots → a ≡ get_or slots top a → b ≡ get_or slots (top + 1) b → t ≡ get_or slots (top + 2) t → a.kind ≡ kind.Integer
    → b.kind ≡ kind.Integer → t.kind ≡ kind.Lent →
    bytes ≡ take n (drop from t.bytes.now) → length bytes ≤ 1000000
lent_within slots top a b t pool bytes from n s l e f g ka kb kt i =
    let open_three = three slots top a b t pool (contents_of (drop top slots) pool) refl s l e f g ka kb in
    let short = (lent t (length pool) kt open_three.fits).short in
    omega (arith, short, ap length i, length-take n (drop from t.bytes.now), length-drop from t.bytes.now)

pub cut_lent : (slots : List Slot) (top : ℕ) (a b t v : Slot) (pool : List ℕ) (old : List Content) (bytes : List ℕ) (from count : ℕ)
    → contents_of (drop top slots) pool ≡ old → Stand (drop top slots) (length pool) → top + 2 < length slots → a ≡ get_or slots top a
    → b ≡ get_or slots (top + 1) b → t ≡ get_or slots (top + 2) t → a.kind ≡ kind.Integer → b.kind ≡ kind.Integer → t.kind ≡ kind.Lent →
    bytes ≡ take (from + count - from) (drop from t.bytes.now) → v.start ≡ t.start → ((made : List ℕ) → content_of v made ≡ content.Text bytes) →
    cut from count old ≡ Some (contents_of (drop (top + 2) (set slots (top + 2) v)) pool)
cut_lent slots top a b t v pool old bytes from count o s l e f g ka kb kt i begins shows =
    let open_three = three slots top a b t pool old o s l e f g ka kb in
    let rest = contents_of (drop (top + 2 + 1) slots) pool in
    let start = (lent t (length pool) kt open_three.fits).start in
    let shown : contents_of (t ∷ drop (top + 2 + 1) slots) pool ≡ content.Text t.bytes.now ∷ rest =
    ap (contents_of (t ∷ drop (top + 2 + 1) slots)) (sym (append-nil pool))
    ∙ (on_parts t (drop (top + 2 + 1) slots) pool [] start ∙ ap (λ j. content_as j t [] ∷ rest) kt) in
    let piece : take count (drop from t.bytes.now) ≡ bytes = ap (λ n. take n (drop from t.bytes.now)) (omega arith) ∙ sym i in
    ap (cut from count) (open_three.shown ∙ ap (λ xs. content.Integer a.integer ∷ content.Integer b.integer ∷ xs) shown)
    ∙ ap Some (ap (λ ys. content.Text ys ∷ rest) piece ∙ sym (put_alone slots (top + 2) v (content.Text bytes) pool l (begins ∙ start) shows))

pub cut_lent_stands : (slots : List Slot) (top : ℕ) (a b t v : Slot) (pool : List ℕ) → Stand (drop top slots) (length pool) → top + 2 < length slots
    → a ≡ get_or slots top a → b ≡ get_or slots (top + 1) b → t ≡ get_or slots (top + 2) t → a.kind ≡ kind.Integer → b.kind ≡ kind.Integer → t.kind ≡ kind.Lent
    → v.start ≡ t.start → HasBytes v.kind v 0 →
    Stand (drop (top + 2) (set slots (top + 2) v)) (length pool)
cut_lent_stands slots top a b t v pool s l e f g ka kb kt begins h =
    let open_three = three slots top a b t pool (contents_of (drop top slots) pool) refl s l e f g ka kb in
    let start = (lent t (length pool) kt open_three.fits).start in
    put_stands slots (top + 2) v (length pool) l (begins ∙ start) h (subst (λ n. Stand (drop (top + 2 + 1) slots) n) start open_three.stands)

-- a string that was made
pub third_within : (slots : List Slot) (top : ℕ) (a b t : Slot) (pool : List ℕ) → Stand (drop top slots) (length pool) → top + 2 < length slots
    → a ≡ get_or slots top a → b ≡ get_or slots (top + 1) b → t ≡ get_or slots (top + 2) t → a.kind ≡ kind.Integer → b.kind ≡ kind.Integer
    → t.start ≤ length pool
third_within slots top a b t pool s l e f g ka kb = (three slots top a b t pool (contents_of (drop top slots) pool) refl s l e f g ka kb).fits.start

pub cut_made : (slots : List Slot) (top : ℕ) (a b t : Slot) (pool new : List ℕ) (old : List Content) (from count : ℕ) → contents_of (drop top slots) pool ≡ old
    → Stand (drop top slots) (length pool) → top + 2 < length slots → a ≡ get_or slots top a → b ≡ get_or slots (top + 1) b → t ≡ get_or slots (top + 2) t
    → a.kind ≡ kind.Integer → b.kind ≡ kind.Integer → t.kind ≡ kind.Made →
    new ≡ take t.start pool ++ take count (drop (t.start + from) pool) → cut from count old ≡ Some (contents_of (drop (top + 2) slots) new)
cut_made slots top a b t pool new old from count o s l e f g ka kb kt i =
    let open_three = three slots top a b t pool old o s l e f g ka kb in
    let slots' = drop (top + 2 + 1) slots in
    let rest = contents_of slots' (take t.start pool) in
    let piece = take count (drop (t.start + from) pool) in
    let shown : contents_of (t ∷ slots') pool ≡ content.Text (drop t.start pool) ∷ rest = ap (λ j. content_as j t (drop t.start pool) ∷ rest) kt in
    let made : contents_of (drop (top + 2) slots) new ≡ content.Text piece ∷ rest =
    ap (λ vs. contents_of vs new) (from_here slots (top + 2) t l g)
    ∙ (ap (contents_of (t ∷ slots')) i ∙ (on_parts t slots' (take t.start pool) piece (sym (length-take-le t.start pool open_three.fits.start))
    ∙ ap (λ j. content_as j t piece ∷ rest) kt)) in
    ap (cut from count) (open_three.shown ∙ ap (λ xs. content.Integer a.integer ∷ content.Integer b.integer ∷ xs) shown)
    ∙ ap Some (ap (λ ys. content.Text (take count ys) ∷ rest) (drop-drop from t.start pool) ∙ sym made)

pub cut_made_stands : (slots : List Slot) (top : ℕ) (a b t : Slot) (pool new : List ℕ) (from count : ℕ) → Stand (drop top slots) (length pool)
    → top + 2 < length slots → a ≡ get_or slots top a → b ≡ get_or slots (top + 1) b → t ≡ get_or slots (top + 2) t → a.kind ≡ kind.Integer
    → b.kind ≡ kind.Integer → t.kind ≡ kind.Made →
    new ≡ take t.start pool ++ take count (drop (t.start + from) pool) → Stand (drop (top + 2) slots) (length new)
cut_made_stands slots top a b t pool new from count s l e f g ka kb kt i =
    let open_three = three slots top a b t pool (contents_of (drop top slots) pool) refl s l e f g ka kb in
    let piece = take count (drop (t.start + from) pool) in
    let had : length pool - t.start ≤ 1024 = subst (λ j. HasBytes j t (length pool - t.start)) kt open_three.fits.bytes in
    let size : length new ≡ t.start + length piece = ap length i
    ∙ (length-append (take t.start pool) piece ∙ ap (λ n. n + length piece) (length-take-le t.start pool open_three.fits.start)) in
    let few : length new - t.start ≤ 1024 = omega (arith, had, size, length-take count (drop (t.start + from) pool), length-drop (t.start + from) pool) in
    let fit : SlotFits t (length new) = record { start = omega (arith, size); bytes = subst (λ j. HasBytes j t (length new - t.start)) (sym kt) few } in
    let stand : Stand (t ∷ drop (top + 2 + 1) slots) (length new) = (fit, open_three.stands) in
    subst (λ vs. Stand vs (length new)) (sym (from_here slots (top + 2) t l g)) stand

-- with the long strings
cut_is : (from count : ℕ) (old new : List Content) (large : List (List ℕ)) → cut from count old ≡ Some new → stacks.cut from count (filled old large)
    ≡ Some (filled new large)
cut_is from count [] new large e = cc
cut_is from count (content.Integer b ∷ content.Integer a ∷ content.Text text ∷ xs) new large e =
    let s : content.Text (take count (drop from text)) ∷ xs ≡ new = cc in ap (λ vs. Some (filled vs large)) s
cut_is from count (x ∷ xs) new large e = cc

cut_owned : (from count : ℕ) (old new : List Content) (n : ℕ) → cut from count old ≡ Some new → Owns old n → Owns new n
cut_owned from count [] new n e o = cc
cut_owned from count (content.Integer b ∷ content.Integer a ∷ content.Text text ∷ xs) new n e o =
    let s : content.Text (take count (drop from text)) ∷ xs ≡ new = cc in subst (λ vs. Owns vs n) s o
cut_owned from count (x ∷ xs) new n e o = cc

pub cut_done : (from count : ℕ) (r : Bool) (old new : List Content) (large : List (List ℕ)) (was : List Literal) → Partly r old (cut from count old) new
    → filled old large ≡ was → stacks.Partly r was (stacks.cut from count was) (filled new large)
cut_done from count r old new large was e o = partly.done (cut from count) (stacks.cut from count) (cut_is from count) (cut_owned from count) r old new large
    was e o

pub cut_owns : (from count : ℕ) (r : Bool) (old new : List Content) (n : ℕ) → Partly r old (cut from count old) new → Owns old n → Owns new n
cut_owns from count r old new n e o = partly.owned (cut from count) (stacks.cut from count) (cut_is from count) (cut_owned from count) r old new n e o
