-- A sorted list ascends, and ties in it stand as before.
use Rattle.std.proofs.Common.{◌≡◌, ℕ, Bool, true, false, not, ◌&&◌, cond, List, [], ◌∷◌, filter, IsSortedBy, sym, ap, subst, refl, ◌∙◌, ⊎_elim, true≢false}
use Rattle.std.specs.Cmp.{IsStrictWeakOrder}
use Rattle.std.specs.List.{AllByRecursion}
use Rattle.std.specs.List.Sorted.{ties, IsStableBy}
use Rattle.std.proofs.lemmas.Bool.{cases_Bool}
use Rattle.std.proofs.lemmas.Cmp.{nat_list_cmp_total}
use Rattle.std.proofs.lemmas.List.Sorted.{ranks_by}
use Rattle.btx_step.proofs.Common.{by_key}
use Rattle.btx_step.specs.language.Sorting.{inserted, sorted_by}
use Rattle.btx_step.proofs.Order.{Ascends, passed, failed, ascends_from_sorted, one_order}

module _ {X : Type 0} (lt : X → X → Bool) (o : IsStrictWeakOrder lt) where
  later : (x y : X) (ys : List X) → lt y x ≡ true → inserted lt x (y ∷ ys) ≡ y ∷ inserted lt x ys
  later x y ys e = ap (λ b. cond b (y ∷ inserted lt x ys) (x ∷ y ∷ ys)) e

  here : (x y : X) (ys : List X) → lt y x ≡ false → inserted lt x (y ∷ ys) ≡ x ∷ y ∷ ys
  here x y ys e = ap (λ b. cond b (y ∷ inserted lt x ys) (x ∷ y ∷ ys)) e

  all_placed : (P : X → Type 0) (x : X) (ys : List X) → P x → AllByRecursion P ys → AllByRecursion P (inserted lt x ys)
  all_placed P x [] one all = (one, all)
  all_placed P x (y ∷ ys) one all =
      ⊎_elim
      (λ t. subst (AllByRecursion P) (sym (later x y ys t)) (all.0, all_placed P x ys one all.1))
      (λ f. subst (AllByRecursion P) (sym (here x y ys f)) (one, all))
      (cases_Bool (lt y x))

  all_above : (x y : X) (ys : List X) → lt y x ≡ false → AllByRecursion (λ z. lt z y ≡ false) ys → AllByRecursion (λ z. lt z x ≡ false) ys
  all_above x y [] low all = all
  all_above x y (z ∷ ys) low all = (o.chain z y x all.0 low, all_above x y ys low all.1)

  placed_ascends : (x : X) (ys : List X) → Ascends lt ys → Ascends lt (inserted lt x ys)
  placed_ascends x [] up = (tt, tt)
  placed_ascends x (y ∷ ys) up =
      ⊎_elim
      (λ t. subst (Ascends lt) (sym (later x y ys t)) (all_placed (λ z. lt z y ≡ false) x ys (o.one_way y x t) up.0, placed_ascends x ys up.1))
      (λ f. subst (Ascends lt) (sym (here x y ys f)) ((f, all_above x y ys f up.0), up))
      (cases_Bool (lt y x))

  first_fails : (a b : Bool) → not a && not b ≡ true → a ≡ false
  first_fails true b e = sym e
  first_fails false b e = refl

  second_fails : (a b : Bool) → not a && not b ≡ true → b ≡ false
  second_fails true b e = absurd (true≢false (sym e))
  second_fails false true e = sym e
  second_fails false false e = refl

  -- what is less than x ties with nothing that x ties with
  apart : (x y z : X) → lt y x ≡ true → ties lt z x ≡ true → ties lt z y ≡ false
  apart x y z below t =
      ⊎_elim
      (λ u. absurd (true≢false (sym below ∙ o.chain y z x (second_fails (lt z y) (lt y z) u) (first_fails (lt z x) (lt x z) t))))
      (λ f. f)
      (cases_Bool (ties lt z y))

  -- where an element passes the test, none that is less passes it
  abbrev pub Splits : (X → Bool) → Type 0
  Splits p = (x y : X) → lt y x ≡ true → p x ≡ true → p y ≡ false

  placed_passes : (p : X → Bool) → Splits p → (x : X) (ys : List X) → filter p (inserted lt x ys) ≡ filter p (x ∷ ys)
  placed_passes p tells x [] = refl
  placed_passes p tells x (y ∷ ys) =
      let more = placed_passes p tells x ys in
      ⊎_elim
      (λ below. ap (filter p) (later x y ys below) ∙
      ⊎_elim
      (λ t. failed p y (inserted lt x ys) (tells x y below t) ∙ more ∙ passed p x ys t ∙ ap (λ l. x ∷ l) (sym (failed p y ys (tells x y below t)))
      ∙ sym (passed p x (y ∷ ys) t))
      (λ f. ap (λ l. cond (p y) (y ∷ l) l) (more ∙ failed p x ys f) ∙ sym (failed p x (y ∷ ys) f))
      (cases_Bool (p x)))
      (λ f. ap (filter p) (here x y ys f))
      (cases_Bool (lt y x))

  pub sorted_ascends : (xs : List X) → Ascends lt (sorted_by lt xs)
  unfolding sorted_by
  sorted_ascends [] = tt
  sorted_ascends (x ∷ xs) = placed_ascends x (sorted_by lt xs) (sorted_ascends xs)

  pub sorted_passes : (p : X → Bool) → Splits p → (xs : List X) → filter p (sorted_by lt xs) ≡ filter p xs
  unfolding sorted_by
  sorted_passes p tells [] = refl
  sorted_passes p tells (x ∷ xs) = placed_passes p tells x (sorted_by lt xs) ∙ ap (λ l. cond (p x) (x ∷ l) l) (sorted_passes p tells xs)

  sorted_ties : (z : X) (xs : List X) → filter (ties lt z) (sorted_by lt xs) ≡ filter (ties lt z) xs
  sorted_ties z xs = sorted_passes (ties lt z) (λ x y below t. apart x y z below t) xs

  -- a stable sort gives the one list
  pub stable_sort_is : (xs ys : List X) → IsSortedBy lt ys → IsStableBy lt xs ys → ys ≡ sorted_by lt xs
  stable_sort_is xs ys up stable = one_order lt o ys (sorted_by lt xs) (ascends_from_sorted lt o ys up) (sorted_ascends xs)
      (λ z. stable z ∙ sym (sorted_ties z xs))

pub by_key_order : {X : Type 0} (key : X → List ℕ) → IsStrictWeakOrder (by_key key)
by_key_order key = ranks_by nat_list_cmp_total key
