-- Lists of names, name by name.
use Rattle.std.proofs.Common.{◌≡◌, ℕ, zero, suc, ◌+◌, ◌<◌, ◌≤◌, Bool, true, false, cond, List, [], ◌∷◌, length, take, drop, refl, ◌==◌, arith, Option, Some}
use Rattle.std.proofs.Common.{None}
use Rattle.std.proofs.lemmas.List.{length-drop, length-append}
use Rattle.btx_text.specs.language.Keys.{folded}
use Rattle.btx_bst.specs.declared.callee.Callee.{Callee}
use Rattle.btx_bst.specs.declared.callee.Kind.{Kind}
use Rattle.btx_bst.specs.declared.callee.Kind.TheVariants as kind
use Rattle.btx_bst.specs.refinement.Weights.{names_weight}
use Rattle.btx_bst.specs.language.Places.{Place, ink, size, further}
use Rattle.btx_bst.specs.language.Fronts.{name_len, quote_len}
use Rattle.btx_bst.specs.language.Complaints.{Complaint, NoQuote}
use Rattle.btx_bst.specs.language.Reads.{Read, Took, Mistake}
use Rattle.btx_bst.specs.language.Names.{Names, named, with_name}
use Rattle.btx_bst.specs.language.Turns.{Turn, Again, Ends, after_turn}
use Rattle.btx_bst.specs.language.Lists.{brace_in, opening, closing, front_of, name_in, next_name, quoted_text, quoted_in, quoted_at, Listing, listing, Listed}
use Rattle.btx_bst.specs.language.Lists.{list_read, list_at, name_turn, list_turn_in, list_turn, list_end}
use Rattle.btx_bst.proofs.TurnLemmas.{OnTurn, turns-next, turns-keep}
use Rattle.btx_bst.proofs.SizeLemmas.{ink-size}
use Rattle.btx_bst.specs.refinement.Lists.{unlisted, with_new}

-- what was read, and how much is left: less after somekind that was taken, and no more after a complaint
abbrev pub Sized : {A : Type 0} → ℕ → Read A → Type 0
Sized n (Took x p) = size p < n
Sized n (Mistake c p) = size p ≤ n

brace_in-size : (brace : ℕ) (c : Complaint) (p : Place) (line : List ℕ) (n : ℕ) → p.line ≡ line → size p ≤ n → Sized n (brace_in brace c p line)
unfolding size
brace_in-size brace c p [] n e h = h
brace_in-size brace c p (b ∷ bs) n e h = at (b == brace) where
  shorter : length p.line ≡ suc (length bs)
  shorter = rw e refl

  at : (t : Bool) → Sized n (cond {A = Read (Unit {0})} t (Took tt (further p bs)) (Mistake c p))
  at true = omega (arith, shorter)
  at false = h

pub closing-size : (p : Place) → Sized (size p) (closing p)
closing-size p = brace_in-size 125 _ (ink p) (ink p).line (size p) refl (ink-size p)

pub opening-size : (p : Place) → Sized (size p) (opening p)
opening-size p = brace_in-size 123 _ (ink p) (ink p).line (size p) refl (ink-size p)

pub front_of-size : (c : Complaint) (p : Place) (line : List ℕ) (k n : ℕ) → p.line ≡ line → 0 < length line → size p ≤ n → Sized n (front_of c p line k)
unfolding size
front_of-size c p line zero n e some h = h
front_of-size c p line (suc k) n e some h =
    let shorter : length p.line ≡ length line = rw e refl in
    omega (arith, shorter, length-drop (suc k) line)

name_in-size : (p : Place) (line : List ℕ) (n : ℕ) → p.line ≡ line → size p ≤ n → Sized n (name_in p line)
name_in-size p [] n e h = h
name_in-size p (b ∷ bs) n e h = front_of-size _ p (b ∷ bs) (name_len (b ∷ bs)) n e (omega arith) h

pub name_at-size : (p : Place) → Sized (size p) (next_name p)
name_at-size p = name_in-size (ink p) (ink p).line (size p) refl (ink-size p)

text_of-size : (p : Place) (t s : List ℕ) (n : ℕ) → size p ≤ n → length s ≤ length p.line → Sized n (quoted_text p t s)
unfolding size
text_of-size p t [] n h k = h
text_of-size p t (q ∷ rest) n h k = omega arith

quoted_in-size : (p : Place) (line : List ℕ) (n : ℕ) → p.line ≡ line → size p ≤ n → Sized n (quoted_in p line)
quoted_in-size p [] n e h = h
quoted_in-size p (b ∷ bs) n e h = at (b == 34) where
  shorter : length p.line ≡ suc (length bs)
  shorter = rw e refl

  at : (t : Bool) → Sized n (cond {A = Read (List ℕ)} t (quoted_text p (take (quote_len bs) bs) (drop (quote_len bs) bs)) (Mistake NoQuote p))
  at true = text_of-size p (take (quote_len bs) bs) (drop (quote_len bs) bs) n h (omega (arith, shorter, length-drop (quote_len bs) bs))
  at false = h

pub quoted_at-size : (p : Place) → Sized (size p) (quoted_at p)
quoted_at-size p = quoted_in-size (ink p) (ink p).line (size p) refl (ink-size p)

-- a turn leaves less, and the end no more
abbrev pub ListTurn : ℕ → Turn Listing Listed → Type 0
ListTurn n t = OnTurn (λ s. size s.place < n) (λ r. size r.listing.place ≤ n) t

name_turn-size : (kind : Kind) (names : Names) (n : ℕ) (r : Read (List ℕ)) → Sized n r → ListTurn n (name_turn kind names r)
name_turn-size kind names n (Mistake c p) h = h
name_turn-size kind names n (Took name p) h = at (named names name) where
  at : (o : Option Callee) → ListTurn n (with_new kind names name p o)
  at None = h
  at (Some other) = omega arith

less : (m n : ℕ) (t : Turn Listing Listed) → m ≤ n → ListTurn m t → ListTurn n t
less m n (Again s) h k = omega arith
less m n (Ends r) h k = omega arith

pub list_turn-size : (kind : Kind) (s : Listing) → ListTurn (size s.place) (list_turn kind s)
unfolding list_turn
list_turn-size kind s = at (closing s.place) (closing-size s.place) where
  at : (r : Read (Unit {0})) → Sized (size s.place) r → ListTurn (size s.place) (list_turn_in kind s.names r)
  at (Took x p) h = omega arith
  at (Mistake c p) h = less (size p) (size s.place) _ h (name_turn-size kind s.names (size p) (next_name p) (name_at-size p))

abbrev left_in : Listing → ℕ
left_in s = size s.place

falls : (kind : Kind) (s : Listing) → OnTurn (λ t. left_in t < left_in s) (λ (r : Listed). Unit {0}) (list_turn kind s)
falls kind s = at (list_turn kind s) (list_turn-size kind s) where
  at : (t : Turn Listing Listed) → ListTurn (size s.place) t → OnTurn (λ t. left_in t < left_in s) (λ (r : Listed). Unit {0}) t
  at (Again u) h = h
  at (Ends r) h = tt

pub list_end-next : (kind : Kind) (s : Listing) → list_end kind s ≡ after_turn (list_end kind) (list_turn kind s)
unfolding list_end
list_end-next kind s = turns-next (list_turn kind) unlisted left_in (falls kind) s

-- a further turn
pub list_end-again : (kind : Kind) (s t : Listing) → list_turn kind s ≡ Again t → list_end kind s ≡ list_end kind t
list_end-again kind s t e = rw (list_end-next kind s, e) refl

pub list_end-ends : (kind : Kind) (s : Listing) (r : Listed) → list_turn kind s ≡ Ends r → list_end kind s ≡ r
list_end-ends kind s r e = rw (list_end-next kind s, e) refl

pub list_turn-less : (kind : Kind) (s t : Listing) → list_turn kind s ≡ Again t → size t.place < size s.place
list_turn-less kind s t e = let h : ListTurn (size s.place) (Again t) = rw e at (list_turn-size kind s) in h

pub ruleset list_steps = (list_end-again, list_end-ends, list_turn-less)

-- ---- what a list weighs

with_name-weight : (kind : Kind) (name : List ℕ) (names : Names) → names_weight (with_name kind name names) ≡ suc (names_weight names)
with_name-weight kind.Field name names = omega (arith, length-append names.fields (name ∷ []))
with_name-weight kind.EntryInteger name names = omega (arith, length-append names.entry_integers (name ∷ []))
with_name-weight kind.EntryString name names = omega (arith, length-append names.entry_strings (name ∷ []))
with_name-weight kind.GlobalInteger name names = omega (arith, length-append names.global_integers (name ∷ []))
with_name-weight kind.GlobalString name names = omega (arith, length-append names.global_strings (name ∷ []))

with_name-functions : (kind : Kind) (name : List ℕ) (names : Names) → (with_name kind name names).functions ≡ names.functions
with_name-functions kind.Field name names = refl
with_name-functions kind.EntryInteger name names = refl
with_name-functions kind.EntryString name names = refl
with_name-functions kind.GlobalInteger name names = refl
with_name-functions kind.GlobalString name names = refl

-- a list and what is left of the text weigh at most `n`, and the functions are `functions`
abbrev pub Weighs : ℕ → List (Option (List ℕ)) → Listing → Type 0
Weighs n functions s = (size s.place + names_weight s.names ≤ n) × (s.names.functions ≡ functions)

abbrev TurnWeighs : ℕ → List (Option (List ℕ)) → Turn Listing Listed → Type 0
TurnWeighs n functions t = OnTurn (Weighs n functions) (λ r. Weighs n functions r.listing) t

with_new-weight : (kind : Kind) (names : Names) (name : List ℕ) (p : Place) (o : Option Callee) (n : ℕ) → size p + suc (names_weight names) ≤ n
    → TurnWeighs n names.functions (with_new kind names name p o)
with_new-weight kind names name p None n h = (omega (arith, h, with_name-weight kind (folded name) names), with_name-functions kind (folded name) names)
with_new-weight kind names name p (Some other) n h = (omega arith, refl)

name_turn-weight : (kind : Kind) (names : Names) (n : ℕ) (m : ℕ) (r : Read (List ℕ)) → Sized m r → m + names_weight names ≤ n
    → TurnWeighs n names.functions (name_turn kind names r)
name_turn-weight kind names n m (Mistake c p) h k = (omega arith, refl)
name_turn-weight kind names n m (Took name p) h k = with_new-weight kind names name p (named names name) n (omega arith)

list_turn-weight : (kind : Kind) (s : Listing) (n : ℕ) → size s.place + names_weight s.names ≤ n → TurnWeighs n s.names.functions (list_turn kind s)
unfolding list_turn
list_turn-weight kind s n k = at (closing s.place) (closing-size s.place) where
  at : (r : Read (Unit {0})) → Sized (size s.place) r → TurnWeighs n s.names.functions (list_turn_in kind s.names r)
  at (Took x p) h = (omega arith, refl)
  at (Mistake c p) h = name_turn-weight kind s.names n (size p) (next_name p) (name_at-size p) (omega arith)

list_end-weight : (kind : Kind) (s : Listing) → Weighs (size s.place + names_weight s.names) s.names.functions (list_end kind s).listing
unfolding list_end
list_end-weight kind s =
    turns-keep (Weighs n s.names.functions) (λ r. Weighs n s.names.functions r.listing) (list_turn kind) unlisted
    (λ t h. rw (← h.1) (list_turn-weight kind t n h.0)) (λ t h. h) (suc (size s.place)) s (omega arith, refl) where
      n : ℕ
      n = size s.place + names_weight s.names

pub list_at-weight : (kind : Kind) (names : Names) (p : Place) → Weighs (size p + names_weight names) names.functions (list_at kind names p).listing
list_at-weight kind names p = at (opening p) (opening-size p) where
  at : (r : Read (Unit {0})) → Sized (size p) r → Weighs (size p + names_weight names) names.functions (list_read kind names r).listing
  at (Mistake c q) h = (omega arith, refl)
  at (Took x q) h = let k = list_end-weight kind (listing names q) in (omega (arith, k.0), k.1)

pub list_turn-room : (kind : Kind) (s t : Listing) → list_turn kind s ≡ Again t → size t.place + names_weight t.names ≤ size s.place + names_weight s.names
list_turn-room kind s t e =
    let n = size s.place + names_weight s.names in
    let h : TurnWeighs n s.names.functions (Again t) = rw e at (list_turn-weight kind s n (omega arith)) in
    h.0
