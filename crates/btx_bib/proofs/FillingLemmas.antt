-- The values of the declared fields, one field after the other.
use Rattle.std.proofs.Common.{◌≡◌, ℕ, zero, suc, arith, ◌+◌, ◌<◌, Bool, true, false, cond, if◌then◌else◌, nat_eq, List, [], ◌∷◌, ◌++◌, Option}
use Rattle.std.proofs.Common.{None, Some, is_some, refl, sym, ap, ◌∙◌}
use Rattle.std.specs.Option.{option_or, option_map}
use Rattle.std.proofs.lemmas.Bool.Decides.{nat_tests}
use Rattle.btx_bib.specs.refinement.Finding.{changed_at}
use Rattle.btx_bib.specs.language.Request.{Request}
use Rattle.btx_bib.specs.language.Entries.{KeptField, value_in, values_from}
use Rattle.btx_bib.specs.refinement.Filling.{blanks, with_value}
use Rattle.btx_bib.specs.language.Values.{field_value}
use Rattle.btx_bib.specs.refinement.Entries.{field_number, is_number}

-- ---- by place

or_kept : (old : Option (List ℕ)) (new : List ℕ) → is_some old ≡ true → old ≡ option_or old (Some new)
or_kept None new h = cc
or_kept (Some x) new h = refl

or_new : (old : Option (List ℕ)) (new : List ℕ) → is_some old ≡ false → Some new ≡ option_or old (Some new)
or_new None new h = refl
or_new (Some x) new h = cc

pub with_value-kept : (values : List (Option (List ℕ))) (i : ℕ) (new : List ℕ) → is_some (field_value i values) ≡ true → values ≡ with_value (Some i) new values
with_value-kept [] i new h = refl
with_value-kept (v ∷ values) zero new h = ap (λ (first : Option (List ℕ)). first ∷ values) (or_kept v new h)
with_value-kept (v ∷ values) (suc i) new h = ap (λ (rest : List (Option (List ℕ))). v ∷ rest) (with_value-kept values i new h)

pub with_value-new : (values : List (Option (List ℕ))) (i : ℕ) (new : List ℕ) → is_some (field_value i values) ≡ false
    → changed_at i (λ (old : Option (List ℕ)). Some new) values ≡ with_value (Some i) new values
with_value-new [] i new h = refl
with_value-new (v ∷ values) zero new h = ap (λ (first : Option (List ℕ)). first ∷ values) (or_new v new h)
with_value-new (v ∷ values) (suc i) new h = ap (λ (rest : List (Option (List ℕ))). v ∷ rest) (with_value-new values i new h)

-- ---- one more field

pub values_from-none : (wanted : Request) (first count : ℕ) → blanks count ≡ values_from wanted [] first count
values_from-none wanted first zero = refl
values_from-none wanted first (suc count) = ap (λ (rest : List (Option (List ℕ))). None ∷ rest) (values_from-none wanted (suc first) count)

-- a value, if something is so
abbrev value_if : Bool → List ℕ → Option (List ℕ)
value_if b value = if b then Some value else None

chosen : (b : Bool) (x : KeptField) (rest : Option KeptField) (r : Option (List ℕ)) → option_map (λ (field : KeptField). field.value) rest ≡ r
    → option_map (λ (field : KeptField). field.value) (cond b (Some x) rest) ≡ cond b (Some x.value) r
chosen true x rest r h = refl
chosen false x rest r h = h

or_chosen : (b : Bool) (x : List ℕ) (rest last : Option (List ℕ)) → cond b (Some x) (option_or rest last) ≡ option_or (cond b (Some x) rest) last
or_chosen true x rest last = refl
or_chosen false x rest last = refl

last_value : (b : Bool) (x : KeptField) → option_map (λ (field : KeptField). field.value) (cond b (Some x) None) ≡ value_if b x.value
last_value true x = refl
last_value false x = refl

or_none : (o : Option (List ℕ)) → option_or o None ≡ o
or_none None = refl
or_none (Some x) = refl

same_number : (n : ℕ) → nat_eq n n ≡ true
same_number n = grind (arith, nat_tests)

other_number : (m n : ℕ) → m < n → nat_eq m n ≡ false
other_number m n h = grind (arith, nat_tests)

later_number : (m n : ℕ) → n < m → nat_eq m n ≡ false
later_number m n h = grind (arith, nat_tests)

module _ (wanted : Request) where
  value_in-push : (fields : List KeptField) (field : KeptField) (n : ℕ) → value_in wanted (fields ++ field ∷ []) n
      ≡ option_or (value_in wanted fields n) (value_if (is_number n (field_number wanted field)) field.value)
  value_in-push [] field n = last_value (is_number n (field_number wanted field)) field
  value_in-push (first ∷ fields) field n =
      chosen (is_number n (field_number wanted first)) first _ _ (value_in-push fields field n)
      ∙ or_chosen (is_number n (field_number wanted first)) first.value (value_in wanted fields n)
      (value_if (is_number n (field_number wanted field)) field.value)
      ∙ ap (λ (o : Option (List ℕ)). option_or o (value_if (is_number n (field_number wanted field)) field.value))
      (sym (chosen (is_number n (field_number wanted first)) first _ _ refl))

  -- the value stays where the field has another number
  value_in-other : (fields : List KeptField) (field : KeptField) (n : ℕ) → is_number n (field_number wanted field) ≡ false
      → value_in wanted (fields ++ field ∷ []) n ≡ value_in wanted fields n
  value_in-other fields field n other =
      value_in-push fields field n ∙ ap (λ (b : Bool). option_or (value_in wanted fields n) (value_if b field.value)) other ∙ or_none (value_in wanted fields n)

  value_in-same : (fields : List KeptField) (field : KeptField) (n : ℕ) → is_number n (field_number wanted field) ≡ true
      → value_in wanted (fields ++ field ∷ []) n ≡ option_or (value_in wanted fields n) (Some field.value)
  value_in-same fields field n same = value_in-push fields field n ∙ ap (λ (b : Bool). option_or (value_in wanted fields n) (value_if b field.value)) same

  values_from-others : (fields : List KeptField) (field : KeptField) (m first count : ℕ) → field_number wanted field ≡ Some m → m < first
      → values_from wanted (fields ++ field ∷ []) first count ≡ values_from wanted fields first count
  values_from-others fields field m first zero is before = refl
  values_from-others fields field m first (suc count) is before =
      let other : is_number first (field_number wanted field) ≡ false = ap (is_number first) is ∙ other_number m first before in
      ap (λ (value : Option (List ℕ)). value ∷ values_from wanted (fields ++ field ∷ []) (suc first) count) (value_in-other fields field first other)
      ∙ ap (λ (rest : List (Option (List ℕ))). value_in wanted fields first ∷ rest) (values_from-others fields field m (suc first) count is (omega arith))

  -- one more field changes the value of its number alone, if there was none
  pub values_from-push : (fields : List KeptField) (field : KeptField) (place first count m : ℕ) → field_number wanted field ≡ Some m → m ≡ first + place
      → with_value (Some place) field.value (values_from wanted fields first count) ≡ values_from wanted (fields ++ field ∷ []) first count
  values_from-push fields field place first zero m is at = refl
  values_from-push fields field zero first (suc count) m is at =
      let same : is_number first (field_number wanted field) ≡ true =
      ap (is_number first) is ∙ ap (λ (k : ℕ). nat_eq k first) (let e : m ≡ first = omega arith in e) ∙ same_number first in
      ap (λ (value : Option (List ℕ)). value ∷ values_from wanted fields (suc first) count) (sym (value_in-same fields field first same))
      ∙ ap (λ (rest : List (Option (List ℕ))). value_in wanted (fields ++ field ∷ []) first ∷ rest)
      (sym (values_from-others fields field m (suc first) count is (omega arith)))
  values_from-push fields field (suc place) first (suc count) m is at =
      let other : is_number first (field_number wanted field) ≡ false = ap (is_number first) is ∙ later_number m first (omega arith) in
      ap (λ (value : Option (List ℕ)). value ∷ with_value (Some place) field.value (values_from wanted fields (suc first) count))
      (sym (value_in-other fields field first other))
      ∙ ap (λ (rest : List (Option (List ℕ))). value_in wanted (fields ++ field ∷ []) first ∷ rest)
      (values_from-push fields field place (suc first) count m is (omega arith))
