-- What becomes of γ where a number is pushed, made, or known better.
use Rattle.std.proofs.Common.{◌≡◌, ℕ, zero, suc, List, [], ◌∷◌, ◌++◌, length, Option, None, Some, get_or, refl, ap, subst}
use Rattle.std.specs.Prelude.{slice_set}
use Rattle.btx_stack.specs.declared.literal.Literal.{Literal}
use Rattle.btx_step.specs.language.Jobs.{Job}
use Rattle.btx_check.specs.declared.description.Value.{Value}
use Rattle.btx_check.specs.declared.description.Value.TheVariants as value
use Rattle.btx_check.specs.Descriptions.{Is}
use Rattle.btx_check.specs.States.{Abstract, Values, slot, at, Fits, Stack, Stands, Holds, pushing_new, knowing, with_stack}

pub at-append : (v : List Literal) (y : Literal) (i : ℕ) (x : Literal) → at v i ≡ Some x → at (v ++ y ∷ []) i ≡ Some x
at-append [] y i x e = cc
at-append (z ∷ v) y zero x e = e
at-append (z ∷ v) y (suc i) x e = at-append v y i x e

pub at-last : (left : ℕ) (ds : List Value) (v : List Literal) (y : Literal) → Fits left ds v → at (v ++ y ∷ []) (length ds) ≡ Some y
at-last left [] [] y f = refl
at-last left [] (x ∷ v) y f = absurd f
at-last left (d ∷ ds) [] y f = absurd f
at-last left (d ∷ ds) (x ∷ v) y f = at-last left ds v y f.1

pub fits-append : (left : ℕ) (ds : List Value) (v : List Literal) (d : Value) (y : Literal) → Fits left ds v → Is left d y
    → Fits left (ds ++ d ∷ []) (v ++ y ∷ [])
fits-append left [] [] d y f h = (h, tt)
fits-append left [] (x ∷ v) d y f h = absurd f
fits-append left (e ∷ ds) [] d y f h = absurd f
fits-append left (e ∷ ds) (x ∷ v) d y f h = (f.0, fits-append left ds v d y f.1 h)

pub stack-append : (v : List Literal) (y : Literal) (is : List ℕ) (xs : List Literal) → Stack v is xs → Stack (v ++ y ∷ []) is xs
stack-append v y [] [] h = tt
stack-append v y [] (x ∷ xs) h = absurd h
stack-append v y (i ∷ is) [] h = absurd h
stack-append v y (i ∷ is) (x ∷ xs) h = (at-append v y i x h.0, stack-append v y is xs h.1)

pub stands-append : (v : List Literal) (y : Literal) (o : Option ℕ) (x : Literal) → Stands v o x → Stands (v ++ y ∷ []) o x
stands-append v y None x h = tt
stands-append v y (Some i) x h = at-append v y i x h

pub fits-at : (left : ℕ) (ds : List Value) (v : List Literal) (i : ℕ) (x : Literal) → Fits left ds v → at v i ≡ Some x → Is left (get_or ds i value.Any) x
fits-at left [] [] i x f e = tt
fits-at left [] (y ∷ v) i x f e = absurd f
fits-at left (d ∷ ds) [] i x f e = absurd f
fits-at left (d ∷ ds) (y ∷ v) zero x f e = let q : y ≡ x = cc in subst (λ z. Is left d z) q f.0
fits-at left (d ∷ ds) (y ∷ v) (suc i) x f e = fits-at left ds v i x f.1 e

pub fits-set : (left : ℕ) (ds : List Value) (v : List Literal) (i : ℕ) (d : Value) (x : Literal) → Fits left ds v → at v i ≡ Some x → Is left d x
    → Fits left (slice_set ds i d) v
fits-set left [] v i d x f e h = f
fits-set left (c ∷ ds) [] i d x f e h = absurd f
fits-set left (c ∷ ds) (y ∷ v) zero d x f e h = let q : x ≡ y = cc in (subst (λ z. Is left d z) q h, f.1)
fits-set left (c ∷ ds) (y ∷ v) (suc i) d x f e h = (f.0, fits-set left ds v i d x f.1 e h)

pub stack-length : (v : List Literal) (is : List ℕ) (xs : List Literal) → Stack v is xs → length xs ≡ length is
stack-length v [] [] h = refl
stack-length v [] (x ∷ xs) h = absurd h
stack-length v (i ∷ is) [] h = absurd h
stack-length v (i ∷ is) (x ∷ xs) h = ap suc (stack-length v is xs h.1)

module _ (job : Job) (left : ℕ) (a : Abstract) (n : Values) (v : List Literal) where
  -- literals of other numbers on the stack
  pub restack : (is : List ℕ) (xs ys : List Literal) → Stack v is ys → Holds job left a n xs v → Holds job left (with_stack is a) n ys v
  restack is xs ys k h = record { values = h.values; stack = k; names = h.names; steps = h.steps; entry = h.entry }

  -- a literal of a new number
  pub numbered : (xs : List Literal) (d : Value) (y : Literal) → Is left d y → Holds job left a n xs v
      → Holds job left (record a { values = a.values ++ d ∷ [] }) n xs (v ++ y ∷ [])
  numbered xs d y k h = record {
    values = fits-append left a.values v d y h.values k;
    stack = stack-append v y a.stack xs h.stack;
    names = λ f x e. stands-append v y (slot a f) x (h.names f x e);
    steps = h.steps;
    entry = h.entry;
  }

  -- .. which is pushed
  pub fresh : (xs : List Literal) (d : Value) (y : Literal) → Is left d y → Holds job left a n xs v → Holds job left (pushing_new d a) n (y ∷ xs) (v ++ y ∷ [])
  fresh xs d y k h = let m = numbered xs d y k h in
      record { values = m.values; stack = (at-last left a.values v y h.values, m.stack); names = m.names; steps = m.steps; entry = m.entry }

  -- what is known better
  pub known : (xs : List Literal) (i : ℕ) (d : Value) (x : Literal) → at v i ≡ Some x → Is left d x → Holds job left a n xs v
      → Holds job left (knowing i d a) n xs v
  known xs i d x e k h = record { values = fits-set left a.values v i d x h.values e k; stack = h.stack; names = h.names; steps = h.steps; entry = h.entry }
