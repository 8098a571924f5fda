-- What several writes leave, one after another.
use Rattle.std.proofs.Common.{ℕ, ◌+◌, ◌-◌, List, [], ◌++◌, Option, None, Some, Result, Ok, Err, OnErr, length, take, drop, refl, sym, subst, ap, ◌∙◌}
use Rattle.std.proofs.Common.{append_assoc, append-nil, take-append-drop}
use Rattle.std.proofs.Math.Seq.{take-add}
use Rattle.std.proofs.lemmas.List.{take_rest}
use Rattle.std.specs.Io.KnownBytes.{Appends, Keeps}
use Rattle.std.proofs.KnownBytes.{Appends-trans, Appends-nil}
use Rattle.btx_out.specs.language.Pieces.{AppendsPrefix}

pub Appends-kept : (a b c : Option (List ℕ)) (bs : List ℕ) → Appends a b bs → Keeps b c → Appends a c bs
Appends-kept None b c bs p q = tt
Appends-kept (Some x) None c bs p q = absurd p
Appends-kept (Some x) (Some y) None bs p q = absurd q
Appends-kept (Some x) (Some y) (Some z) bs p q = q ∙ p

-- the first `at` bytes, and then n of the slice after them, `&bs[at..]`
pub Appends-take_more : (a b c : Option (List ℕ)) (at n : ℕ) (bs : List ℕ) → Appends a b (take at bs)
    → Appends b c (take n (take (length bs - at) (drop at bs))) → Appends a c (take (at + n) bs)
Appends-take_more a b c at n bs p q =
    let rest = subst (λ (l : List ℕ). Appends b c (take n l)) (take_rest bs at) q in
    subst (Appends a c) (sym (take-add at n bs)) (Appends-trans a b c _ _ p rest)

-- the first bytes are a prefix
pub prefix-take : (a b c : Option (List ℕ)) (at : ℕ) (bs : List ℕ) → Appends a b (take at bs) → Keeps b c → AppendsPrefix a c bs
prefix-take a b c at bs p q = record { front = take at bs; rest = drop at bs; whole = sym (take-append-drop at bs); received = Appends-kept a b c _ p q }

-- nothing is a prefix
pub prefix-none : (a b : Option (List ℕ)) (bs : List ℕ) → Keeps a b → AppendsPrefix a b bs
prefix-none a b bs p = record { front = []; rest = bs; whole = refl; received = Appends-kept a a b [] (Appends-nil a) p }

pub prefix-none_same : (a : Option (List ℕ)) (bs : List ℕ) → AppendsPrefix a a bs
prefix-none_same a bs = record { front = []; rest = bs; whole = refl; received = Appends-nil a }

-- all of it is a prefix
pub prefix-all : (a b : Option (List ℕ)) (bs : List ℕ) → Appends a b bs → AppendsPrefix a b bs
prefix-all a b bs p = record { front = bs; rest = []; whole = sym (append-nil bs); received = p }

-- a prefix stays one where more was to follow
pub prefix-longer : (a b : Option (List ℕ)) (bs cs : List ℕ) → AppendsPrefix a b bs → AppendsPrefix a b (bs ++ cs)
prefix-longer a b bs cs p = record {
  front = p.front;
  rest = p.rest ++ cs;
  whole = ap (λ l. l ++ cs) p.whole ∙ append_assoc p.front p.rest cs;
  received =
      p.received;
}

-- a whole piece, and then a prefix of the next
pub prefix-after : (a b c : Option (List ℕ)) (bs cs : List ℕ) → Appends a b bs → AppendsPrefix b c cs → AppendsPrefix a c (bs ++ cs)
prefix-after a b c bs cs p q = record {
  front = bs ++ q.front;
  rest = q.rest;
  whole = ap (λ l. bs ++ l) q.whole ∙ sym (append_assoc bs q.front q.rest);
  received = Appends-trans a b c _ _ p q.received;
}

-- what holds anyway holds at an error
pub on_err : {T E : Type 0} (r : Result T E) (P : Type 0) → P → OnErr r P
on_err (Ok x) P p = tt
on_err (Err e) P p = p

-- the lemmas on pieces, for `search`
pub ruleset pieces = (Appends-take_more, Appends-kept, prefix-take, prefix-none, prefix-longer, prefix-after, prefix-all, Appends-trans, on_err)
