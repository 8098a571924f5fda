-- SORT gives one order (btx_step's proof, for entries).
use Rattle.std.proofs.Common.{◌≡◌, ℕ, false, List, [], ◌∷◌, filter, sym, ◌∙◌}
use Rattle.std.specs.List.{AllByRecursion}
use Rattle.std.specs.List.Sorted.{ties}
use Rattle.std.specs.Str.{bytes_eq}
use Rattle.std.proofs.lemmas.List.Elements.{filter_agree}
use Rattle.btx_step.specs.refinement.Sorting.{by_key}
use Rattle.btx_step.proofs.Orders.{compares_bytes, ties_are, tells}
use Rattle.btx_step.proofs.Order as order
use Rattle.btx_step.proofs.Ascent.{by_key_order, sorted_ascends, sorted_passes}
use Rattle.btx_step.specs.language.Sorting.{sorted_by}
use Rattle.btx_core.specs.language.Styles.{Entry}
use Rattle.btx_core.specs.language.Runs.{NoneBefore, Ascends, IsInOrder}

none_before : (key : Entry → List ℕ) (x : Entry) (ys : List Entry) → NoneBefore key x ys → AllByRecursion (λ y. by_key key y x ≡ false) ys
none_before key x [] all = tt
none_before key x (y ∷ ys) all = (compares_bytes (key y) (key x) ∙ all.0, none_before key x ys all.1)

ascends : (key : Entry → List ℕ) (ys : List Entry) → Ascends key ys → order.Ascends (by_key key) ys
ascends key [] up = tt
ascends key (y ∷ ys) up = (none_before key y ys up.0, ascends key ys up.1)

same_ties : (key : Entry → List ℕ) (xs ys zs : List Entry) → IsInOrder key xs ys → IsInOrder key xs zs → (z : Entry) → filter (ties (by_key key) z) ys
    ≡ filter (ties (by_key key) z) zs
same_ties key xs ys zs h k z =
    filter_agree (ties (by_key key) z) (λ x. bytes_eq (key x) (key z)) (ties_are key z) ys
    ∙ h.ties_kept (key z) ∙ sym (k.ties_kept (key z))
    ∙ sym (filter_agree (ties (by_key key) z) (λ x. bytes_eq (key x) (key z)) (ties_are key z) zs)

pub order_one : (key : Entry → List ℕ) (xs ys zs : List Entry) → IsInOrder key xs ys → IsInOrder key xs zs → ys ≡ zs
order_one key xs ys zs h k = order.one_order (by_key key) (by_key_order key) ys zs (ascends key ys h.ascends) (ascends key zs k.ascends)
    (same_ties key xs ys zs h k)

-- ---- and there is one

none_before_back : (key : Entry → List ℕ) (x : Entry) (ys : List Entry) → AllByRecursion (λ y. by_key key y x ≡ false) ys → NoneBefore key x ys
none_before_back key x [] all = tt
none_before_back key x (y ∷ ys) all = (sym (compares_bytes (key y) (key x)) ∙ all.0, none_before_back key x ys all.1)

pub ascends_back : (key : Entry → List ℕ) (ys : List Entry) → order.Ascends (by_key key) ys → Ascends key ys
ascends_back key [] up = tt
ascends_back key (y ∷ ys) up = (none_before_back key y ys up.0, ascends_back key ys up.1)

unfoldable pub there_is_order : (key : Entry → List ℕ) (xs : List Entry) → (ys : List Entry) × IsInOrder key xs ys
there_is_order key xs = (
  sorted_by (by_key key) xs,
  record {
    ascends = ascends_back key _ (sorted_ascends (by_key key) (by_key_order key) xs);
    ties_kept = λ wanted. sorted_passes (by_key key) (by_key_order key) (λ x. bytes_eq (key x) wanted) (tells key wanted) xs;
  },
)
