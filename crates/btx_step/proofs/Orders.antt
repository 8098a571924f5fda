-- The order of keys: `sorted` gives the only list in it.
use Rattle.std.proofs.Common.{◌≡◌, ℕ, true, false, not, ◌&&◌, List, [], ◌∷◌, filter, Ordering, Less, Equal, Greater, nat_cmp, nat_eq, is_lt, ⊎_elim, sym, ap}
use Rattle.std.proofs.Common.{subst, refl, ◌∙◌, arith, true≢false}
use Rattle.std.specs.Cmp.Lexicographic.{slice_cmp, pointwise}
use Rattle.std.specs.List.{AllByRecursion}
use Rattle.std.specs.List.Sorted.{ties}
use Rattle.std.specs.Ordering.{is_eq, ordering_reverse}
use Rattle.std.specs.Str.{bytes_eq}
use Rattle.std.proofs.lemmas.Bool.{cases_Bool}
use Rattle.std.proofs.lemmas.Bool.Decides.{nat_tests}
use Rattle.std.proofs.lemmas.Cmp.{nat_list_cmp_total, nat_list_eq_equiv, same_from_slice_cmp}
use Rattle.std.proofs.lemmas.List.Elements.{filter_agree}
use Rattle.std.proofs.lemmas.Slice.Eq.{bytes_eq-Decides}
use Rattle.btx_step.proofs.Common.{by_key}
use Rattle.btx_step.specs.language.Sorting.{sorted}
use Rattle.btx_step.specs.laws.Orders.{NoneBefore, Ascends, IsInOrder, ComparesBytes, SortedOnce, precedes}
use Rattle.btx_step.proofs.Bytes.{precedes_reads}
use Rattle.btx_step.proofs.Order as order
use Rattle.btx_step.proofs.Ascent.{by_key_order, sorted_ascends, sorted_passes}

pub compares_bytes : ComparesBytes
compares_bytes = precedes_reads

-- ---- ties are equal keys

neither : (o : Ordering) → not (is_lt o) && not (is_lt (ordering_reverse o)) ≡ is_eq o
neither Less = refl
neither Equal = refl
neither Greater = refl

equal_is : (a b : List ℕ) → is_eq (slice_cmp nat_cmp a b) ≡ pointwise nat_eq a b
equal_is a b = same_from_slice_cmp nat_cmp is_eq (pointwise nat_eq) refl (λ _ _. refl) (λ _ _. refl) (λ x y xs ys o e. grind (arith, nat_tests)) a b _ refl

pub ties_are : {A : Type 0} (key : A → List ℕ) (z x : A) → ties (by_key key) z x ≡ bytes_eq (key x) (key z)
ties_are key z x =
    ap (λ o. not (is_lt (slice_cmp nat_cmp (key z) (key x))) && not (is_lt o)) (nat_list_cmp_total.antisymm (key x) (key z))
    ∙ neither (slice_cmp nat_cmp (key z) (key x)) ∙ equal_is (key z) (key x) ∙ nat_list_eq_equiv.symm (key z) (key x)

-- ---- ascending, in either word

none_before : (key : ℕ → List ℕ) (x : ℕ) (ys : List ℕ) → AllByRecursion (λ y. by_key key y x ≡ false) ys → NoneBefore key x ys
none_before key x [] all = tt
none_before key x (y ∷ ys) all = (sym (precedes_reads (key y) (key x)) ∙ all.0, none_before key x ys all.1)

none_before_back : (key : ℕ → List ℕ) (x : ℕ) (ys : List ℕ) → NoneBefore key x ys → AllByRecursion (λ y. by_key key y x ≡ false) ys
none_before_back key x [] all = tt
none_before_back key x (y ∷ ys) all = (precedes_reads (key y) (key x) ∙ all.0, none_before_back key x ys all.1)

ascends : (key : ℕ → List ℕ) (ys : List ℕ) → order.Ascends (by_key key) ys → Ascends key ys
ascends key [] up = tt
ascends key (y ∷ ys) up = (none_before key y ys up.0, ascends key ys up.1)

ascends_back : (key : ℕ → List ℕ) (ys : List ℕ) → Ascends key ys → order.Ascends (by_key key) ys
ascends_back key [] up = tt
ascends_back key (y ∷ ys) up = (none_before_back key y ys up.0, ascends_back key ys up.1)

-- ---- the law

-- of two keys one of which comes before the other, one alone is the wanted one
pub tells : {A : Type 0} (key : A → List ℕ) (wanted : List ℕ) (x y : A) → by_key key y x ≡ true → bytes_eq (key x) wanted ≡ true → bytes_eq (key y) wanted ≡ false
tells key wanted x y below one =
    ⊎_elim
    (λ t. absurd (true≢false (sym below ∙ ap (λ k. precedes k (key x)) ((bytes_eq-Decides (key y) wanted).0 t ∙ sym ((bytes_eq-Decides (key x) wanted).0 one))
    ∙ order.not_below_itself (by_key key) (by_key_order key) x)))
    (λ f. f)
    (cases_Bool (bytes_eq (key y) wanted))

is_in_order : (key : ℕ → List ℕ) (xs : List ℕ) → IsInOrder key xs (sorted key xs)
is_in_order key xs = record {
  ascends = ascends key _ (sorted_ascends (by_key key) (by_key_order key) xs);
  ties_kept = λ wanted. sorted_passes (by_key key) (by_key_order key) (λ x. bytes_eq (key x) wanted) (tells key wanted) xs;
}

same_ties : (key : ℕ → List ℕ) (xs ys : List ℕ) → IsInOrder key xs ys → (z : ℕ) → filter (ties (by_key key) z) ys ≡ filter (ties (by_key key) z) (sorted key xs)
same_ties key xs ys in_order z =
    filter_agree (ties (by_key key) z) (λ x. bytes_eq (key x) (key z)) (ties_are key z) ys
    ∙ in_order.ties_kept (key z) ∙ sym ((is_in_order key xs).ties_kept (key z))
    ∙ sym (filter_agree (ties (by_key key) z) (λ x. bytes_eq (key x) (key z)) (ties_are key z) (sorted key xs))

pub sorted_once : SortedOnce
sorted_once key xs ys = (
  λ in_order. order.one_order (by_key key) (by_key_order key) ys (sorted key xs) (ascends_back key ys in_order.ascends)
      (sorted_ascends (by_key key) (by_key_order key) xs) (same_ties key xs ys in_order),
  λ e. subst (IsInOrder key xs) (sym e) (is_in_order key xs),
)
