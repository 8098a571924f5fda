-- A state that is added to others.
use Rattle.std.proofs.Common.{◌≡◌, ℕ, zero, suc, ◌<◌, List, [], ◌∷◌, ◌++◌, length, get_or, subst, arith, inl, inr}
use Rattle.std.proofs.Math.ListN.{set}
use Rattle.btx_step.specs.language.Jobs.{Job}
use Rattle.btx_step.specs.language.Stores.{Store}
use Rattle.btx_check.specs.States.{Abstract, Among}
use Rattle.btx_check.specs.Inclusion.{Sub, Into, Within, IsImpossible}
use Rattle.btx_check.specs.Answers.{Added}

pub among_left : (xs ys : List Abstract) (job : Job) (left : ℕ) (s : Store) → Among job left xs s → Among job left (xs ++ ys) s
among_left [] ys job left s h = absurd h
among_left (a ∷ xs) ys job left s (inl h) = inl h
among_left (a ∷ xs) ys job left s (inr h) = inr (among_left xs ys job left s h)

pub among_right : (xs ys : List Abstract) (job : Job) (left : ℕ) (s : Store) → Among job left ys s → Among job left (xs ++ ys) s
among_right [] ys job left s h = h
among_right (a ∷ xs) ys job left s h = inr (among_right xs ys job left s h)

pub sub_push : (xs : List Abstract) (a : Abstract) → Sub xs (xs ++ a ∷ [])
sub_push xs a job left s h = among_left xs (a ∷ []) job left s h

pub into_push : (xs : List Abstract) (a : Abstract) → Into a (xs ++ a ∷ [])
into_push xs a = record { into = λ job left s h. among_right xs (a ∷ []) job left s (inl h) }

pub sub_same : (xs : List Abstract) → Sub xs xs
sub_same xs job left s h = h

pub sub_then : (xs ys zs : List Abstract) → Sub xs ys → Sub ys zs → Sub xs zs
sub_then xs ys zs f g job left s h = g job left s (f job left s h)

pub into_sub : (a : Abstract) (xs ys : List Abstract) → Into a xs → Sub xs ys → Into a ys
into_sub a xs ys f g = record { into = λ job left s h. g job left s (f.into job left s h) }

pub added : (xs : List Abstract) (a : Abstract) → Added a xs (xs ++ a ∷ [])
added xs a = record { into = into_push xs a; sub = sub_push xs a }

pub added_nothing : (xs : List Abstract) (a : Abstract) → IsImpossible a → Added a xs xs
added_nothing xs a h = record { into = record { into = λ job left s i. absurd (h.impossible job left s i) }; sub = sub_same xs }

sub_set : (xs : List Abstract) (k : ℕ) (j d : Abstract) → k < length xs → Within (get_or xs k d) j → Sub xs (set xs k j)
sub_set [] k j d l h job left s i = absurd i
sub_set (x ∷ xs) zero j d l h job left s (inl i) = inl (h.within job left s i)
sub_set (x ∷ xs) zero j d l h job left s (inr i) = inr i
sub_set (x ∷ xs) (suc k) j d l h job left s (inl i) = inl i
sub_set (x ∷ xs) (suc k) j d l h job left s (inr i) = inr (sub_set xs k j d (omega (arith, l)) h job left s i)

into_set : (xs : List Abstract) (k : ℕ) (j a : Abstract) → k < length xs → Within a j → Into a (set xs k j)
into_set [] k j a l h = absurd (omega (arith, l))
into_set (x ∷ xs) zero j a l h = record { into = λ job left s i. inl (h.within job left s i) }
into_set (x ∷ xs) (suc k) j a l h = record { into = λ job left s i. inr ((into_set xs k j a (omega (arith, l)) h).into job left s i) }

pub added_set : (xs : List Abstract) (k : ℕ) (j a b : Abstract) → k < length xs → b ≡ get_or xs k b → Within b j → Within a j → Added a xs (set xs k j)
added_set xs k j a b l e h g = record { into = into_set xs k j a l g; sub = sub_set xs k j b l (subst (λ (x : Abstract). Within x j) e h) }

pub added_from : (a b : Abstract) (old new : List Abstract) → Within a b → Added b old new → Added a old new
added_from a b old new w h = record { into = record { into = λ job left s i. h.into.into job left s (w.within job left s i) }; sub = h.sub }

pub added_inside : (xs : List Abstract) (k : ℕ) (a b : Abstract) → k < length xs → b ≡ get_or xs k b → Within a b → Added a xs xs
added_inside xs k a b l e h = record { into = inside xs k (subst (λ (x : Abstract). Within a x) e h) l; sub = sub_same xs }
  where
    inside : (ys : List Abstract) (k : ℕ) → Within a (get_or ys k b) → k < length ys → Into a ys
    inside [] k h l = absurd (omega (arith, l))
    inside (y ∷ ys) zero h l = record { into = λ job left s i. inl (h.within job left s i) }
    inside (y ∷ ys) (suc k) h l = record { into = λ job left s i. inr ((inside ys k h (omega (arith, l))).into job left s i) }
