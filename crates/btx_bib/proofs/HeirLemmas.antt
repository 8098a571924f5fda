-- What entries take from their parents: own values stand, and each other value is the parent's.
use Rattle.std.proofs.Common.{◌≡◌, ◌<◌, arith, ℕ, zero, suc, Bool, true, false, cond, List, [], ◌∷◌, ◌++◌, length, Option, None, Some, ◌⊎◌, inl, inr, ⊎_elim}
use Rattle.std.proofs.Common.{refl, sym, ap, subst, ◌∙◌, append_assoc, append-nil}
use Rattle.std.specs.Option.{option_or}
use Rattle.btx_aux.specs.language.Names.{is_same_key}
use Rattle.btx_bib.specs.declared.slots.Body.{Body}
use Rattle.btx_bib.specs.language.Listing.{Slot}
use Rattle.btx_bib.specs.language.Values.{field_value}
use Rattle.btx_bib.specs.language.Entries.{parent_in}
use Rattle.btx_bib.specs.language.Passes.{passed, inherited, inherited_from, inherited_values, or_values, slot_at, parent_at, body_values, after_first}
use Rattle.btx_bib.specs.laws.Parents.{values_by, declared_value, parent_by_key}
use Rattle.btx_bib.proofs.PassLemmas.{inherited-alone, inherited-by, key-inherited}
use Rattle.btx_bib.proofs.ParentLemmas.{slot_at-own}
use Rattle.btx_bib.specs.refinement.Passes.{with_field_values}

-- ---- the values of an entry with those of its parent

or-own : (own parents : List (Option (List ℕ))) (field : ℕ) (value : List ℕ) → field_value field own ≡ Some value → field_value field (or_values own parents)
    ≡ Some value
or-own [] parents field value has = cc
or-own (v ∷ own) [] field value has = has
or-own (v ∷ own) (p ∷ parents) zero value has = ap (λ (o : Option (List ℕ)). option_or o p) has
or-own (v ∷ own) (p ∷ parents) (suc field) value has = or-own own parents field value has

or-lacks : (own parents : List (Option (List ℕ))) (field : ℕ) (value : List ℕ) → field_value field own ≡ None → field_value field (or_values own parents)
    ≡ Some value → field_value field parents ≡ Some value
or-lacks [] parents field value lacks has = cc
or-lacks (v ∷ own) [] field value lacks has = absurd (let both : None ≡ Some value = sym lacks ∙ has in cc)
or-lacks (v ∷ own) (p ∷ parents) zero value lacks has = ap (λ (o : Option (List ℕ)). option_or o p) (sym lacks) ∙ has
or-lacks (v ∷ own) (p ∷ parents) (suc field) value lacks has = or-lacks own parents field value lacks has

or-takes : (own parents : List (Option (List ℕ))) (field : ℕ) (value : List ℕ) → field < length own → field_value field own ≡ None → field_value field parents
    ≡ Some value → field_value field (or_values own parents) ≡ Some value
or-takes [] parents field value within lacks has = absurd (omega arith)
or-takes (v ∷ own) [] field value within lacks has = cc
or-takes (v ∷ own) (p ∷ parents) zero value within lacks has = ap (λ (o : Option (List ℕ)). option_or o p) lacks ∙ has
or-takes (v ∷ own) (p ∷ parents) (suc field) value within lacks has = or-takes own parents field value (omega arith) lacks has

-- the values of a place
abbrev values : Slot → List (Option (List ℕ))
values slot = body_values slot.body

heir-own : (parent slot : Slot) (field : ℕ) (value : List ℕ) → field_value (suc field) (values slot) ≡ Some value
    → field_value (suc field) (values (inherited_from (Some parent) slot)) ≡ Some value
heir-own parent slot field value = by_body slot.body where
  by_values : (own parents : List (Option (List ℕ))) → field_value (suc field) own ≡ Some value
      → field_value (suc field) (inherited_values parent.key own parents) ≡ Some value
  by_values [] parents has = has
  by_values (v ∷ own) [] has = has
  by_values (v ∷ own) (p ∷ parents) has = or-own own parents field value has

  by_body : (body : Option Body) → field_value (suc field) (body_values body) ≡ Some value
      → field_value (suc field) (body_values (with_field_values body (inherited_values parent.key (body_values body) (values parent)))) ≡ Some value
  by_body None has = has
  by_body (Some body) has = by_values body.values (values parent) has

heir-lacks : (parent slot : Slot) (field : ℕ) (value : List ℕ) → field_value (suc field) (values slot) ≡ None
    → field_value (suc field) (values (inherited_from (Some parent) slot)) ≡ Some value
    → field_value (suc field) (values parent) ≡ Some value
heir-lacks parent slot field value = by_body slot.body where
  by_values : (own parents : List (Option (List ℕ))) → field_value (suc field) own ≡ None → field_value (suc field) (inherited_values parent.key own parents)
      ≡ Some value → field_value (suc field) parents ≡ Some value
  by_values [] parents lacks has = cc
  by_values (v ∷ own) [] lacks has = absurd (let both : None ≡ Some value = sym lacks ∙ has in cc)
  by_values (v ∷ own) (p ∷ parents) lacks has = or-lacks own parents field value lacks has

  by_body : (body : Option Body) → field_value (suc field) (body_values body) ≡ None
      → field_value (suc field) (body_values (with_field_values body (inherited_values parent.key (body_values body) (values parent)))) ≡ Some value
      → field_value (suc field) (values parent) ≡ Some value
  by_body None lacks has = cc
  by_body (Some body) lacks has = by_values body.values (values parent) lacks has

heir-takes : (parent slot : Slot) (field : ℕ) (value : List ℕ) → suc field < length (values slot) → field_value (suc field) (values slot) ≡ None
    → field_value (suc field) (values parent) ≡ Some value
    → field_value (suc field) (values (inherited_from (Some parent) slot)) ≡ Some value
heir-takes parent slot field value = by_body slot.body where
  by_values : (own parents : List (Option (List ℕ))) → suc field < length own → field_value (suc field) own ≡ None → field_value (suc field) parents
      ≡ Some value → field_value (suc field) (inherited_values parent.key own parents) ≡ Some value
  by_values [] parents within lacks has = absurd (omega arith)
  by_values (v ∷ own) [] within lacks has = cc
  by_values (v ∷ own) (p ∷ parents) within lacks has = or-takes own parents field value (omega arith) lacks has

  by_body : (body : Option Body) → suc field < length (body_values body) → field_value (suc field) (body_values body) ≡ None
      → field_value (suc field) (values parent) ≡ Some value
      → field_value (suc field) (body_values (with_field_values body (inherited_values parent.key (body_values body) (values parent)))) ≡ Some value
  by_body None within lacks has = absurd (omega arith)
  by_body (Some body) within lacks has = by_values body.values (values parent) within lacks has

heir-parent : (parent slot : Slot) (key : List ℕ) → parent_at slot ≡ Some key → parent_at (inherited_from (Some parent) slot) ≡ Some parent.key
heir-parent parent slot key = by_body slot.body where
  by_values : (own parents : List (Option (List ℕ))) → parent_in own ≡ Some key → parent_in (inherited_values parent.key own parents) ≡ Some parent.key
  by_values [] parents has = cc
  by_values (v ∷ own) [] has = refl
  by_values (v ∷ own) (p ∷ parents) has = refl

  by_body : (body : Option Body) → parent_in (body_values body) ≡ Some key
      → parent_in (body_values (with_field_values body (inherited_values parent.key (body_values body) (values parent)))) ≡ Some parent.key
  by_body None has = cc
  by_body (Some body) has = by_values body.values (values parent) has

-- a place after its turn: as it was, or with what its parent has
abbrev Turned : List Slot → Slot → Slot → Type 0
Turned slots slot after = (after ≡ slot)
    ⊎ ((key : List ℕ) × (parent : Slot) × (parent_at slot ≡ Some key) × (slot_at slots key ≡ Some parent) × (after ≡ inherited_from (Some parent) slot))

turned : (slots : List Slot) (slot : Slot) → Turned slots slot (inherited slots slot)
turned slots slot = by_key (parent_at slot) refl where
  by_parent : (key : List ℕ) (o : Option Slot) → parent_at slot ≡ Some key → slot_at slots key ≡ o → Turned slots slot (inherited slots slot)
  by_parent key None some at = inl (inherited-by slots slot key None some at)
  by_parent key (Some parent) some at = inr (key, parent, some, at, inherited-by slots slot key (Some parent) some at)

  by_key : (o : Option (List ℕ)) → parent_at slot ≡ o → Turned slots slot (inherited slots slot)
  by_key None none = inl (inherited-alone slots slot none)
  by_key (Some key) some = by_parent key (slot_at slots key) some refl

-- ---- a list in which one place had its turn

slot_at-append : (xs ys : List Slot) (key : List ℕ) → slot_at (xs ++ ys) key ≡ option_or (slot_at xs key) (slot_at ys key)
slot_at-append [] ys key = refl
slot_at-append (x ∷ xs) ys key = by_test (is_same_key key x.key) (slot_at-append xs ys key) where
  by_test : (b : Bool) → slot_at (xs ++ ys) key ≡ option_or (slot_at xs key) (slot_at ys key) → cond b (Some x) (slot_at (xs ++ ys) key)
      ≡ option_or (cond b (Some x) (slot_at xs key)) (slot_at ys key)
  by_test true rest = refl
  by_test false rest = rest

slot_at-done : (xs ys : List Slot) (key : List ℕ) (slot : Slot) → slot_at xs key ≡ Some slot → slot_at (xs ++ ys) key ≡ Some slot
slot_at-done xs ys key slot at = slot_at-append xs ys key ∙ ap (λ (o : Option Slot). option_or o (slot_at ys key)) at

-- the place of a key is another one, or this one
abbrev AtTurn : List Slot → List Slot → Slot → Slot → List ℕ → Type 0
AtTurn done slots slot after key = (slot_at (done ++ slot ∷ slots) key ≡ slot_at (done ++ after ∷ slots) key)
    ⊎ ((slot_at (done ++ slot ∷ slots) key ≡ Some slot) × (slot_at (done ++ after ∷ []) key ≡ Some after))

at-turn : (done slots : List Slot) (slot after : Slot) (key : List ℕ) → after.key ≡ slot.key → AtTurn done slots slot after key
at-turn done slots slot after key same = by_done (slot_at done key) refl where
  rest : Slot → List Slot → Bool → Option Slot
  rest x xs b = cond b (Some x) (slot_at xs key)

  by_test : (b : Bool) → slot_at done key ≡ None → is_same_key key slot.key ≡ b → AtTurn done slots slot after key
  by_test true none is = inr (
    slot_at-append done (slot ∷ slots) key ∙ ap (λ (o : Option Slot). option_or o (slot_at (slot ∷ slots) key)) none ∙ ap (rest slot slots) is,
    slot_at-append done (after ∷ []) key ∙ ap (λ (o : Option Slot). option_or o (slot_at (after ∷ []) key)) none
        ∙ ap (λ (k : List ℕ). rest after [] (is_same_key key k)) same ∙ ap (rest after []) is,
  )
  by_test false none differs = inl
      (slot_at-append done (slot ∷ slots) key
      ∙ ap (λ (b : Bool). option_or (slot_at done key) (rest slot slots b)) differs
      ∙ sym (ap (λ (b : Bool). option_or (slot_at done key) (rest after slots b)) (ap (is_same_key key) same ∙ differs))
      ∙ sym (slot_at-append done (after ∷ slots) key))

  by_done : (o : Option Slot) → slot_at done key ≡ o → AtTurn done slots slot after key
  by_done (Some found) at = inl (slot_at-done done (slot ∷ slots) key found at ∙ sym (slot_at-done done (after ∷ slots) key found at))
  by_done None none = by_test (is_same_key key slot.key) none refl

-- the value that a list has for a key, by its place
field-by : (slots : List Slot) (key : List ℕ) (field : ℕ) (slot : Slot) → slot_at slots key ≡ Some slot → declared_value slots key field
    ≡ field_value (suc field) (values slot)
field-by slots key field slot at = ap (λ (o : Option Slot). field_value (suc field) (values_by o)) at

slot-turned : (done slots : List Slot) (after : Slot) (key : List ℕ) → slot_at (done ++ after ∷ []) key ≡ Some after → slot_at (done ++ after ∷ slots) key
    ≡ Some after
slot-turned done slots after key at = ap (λ (xs : List Slot). slot_at xs key) (sym (append_assoc done (after ∷ []) slots))
    ∙ slot_at-done (done ++ after ∷ []) slots key after at

own-after : (slots : List Slot) (slot after : Slot) (field : ℕ) (value : List ℕ) → Turned slots slot after → field_value (suc field) (values slot) ≡ Some value
    → field_value (suc field) (values after) ≡ Some value
own-after slots slot after field value turn has =
    ⊎_elim (λ (is : after ≡ slot). ap (λ (s : Slot). field_value (suc field) (values s)) is ∙ has)
    (λ (by : (key : List ℕ) × (parent : Slot) × (parent_at slot ≡ Some key) × (slot_at slots key ≡ Some parent) × (after ≡ inherited_from (Some parent) slot)).
    ap (λ (s : Slot). field_value (suc field) (values s)) by.4 ∙ heir-own by.1 slot field value has) turn

turn-grows : (done slots : List Slot) (slot after : Slot) (key : List ℕ) (field : ℕ) (value : List ℕ) → after.key ≡ slot.key
    → Turned (done ++ slot ∷ slots) slot after
    → declared_value (done ++ slot ∷ slots) key field ≡ Some value → declared_value (done ++ after ∷ slots) key field ≡ Some value
turn-grows done slots slot after key field value same turn has = ⊎_elim
    (λ (other : slot_at (done ++ slot ∷ slots) key ≡ slot_at (done ++ after ∷ slots) key). ap (λ (o : Option Slot). field_value (suc field) (values_by o))
    (sym other) ∙ has)
    (λ (here : (slot_at (done ++ slot ∷ slots) key ≡ Some slot) × (slot_at (done ++ after ∷ []) key ≡ Some after)).
    field-by (done ++ after ∷ slots) key field after (slot-turned done slots after key here.1)
    ∙ own-after (done ++ slot ∷ slots) slot after field value turn (sym (field-by (done ++ slot ∷ slots) key field slot here.0) ∙ has))
    (at-turn done slots slot after key same)

-- ---- the first pass

-- places that had their turn stay as they are
pass-done : (slots done : List Slot) (key : List ℕ) (slot : Slot) → slot_at done key ≡ Some slot → slot_at (passed inherited done slots) key ≡ Some slot
pass-done [] done key slot at = at
pass-done (s ∷ slots) done key slot at = pass-done slots (done ++ inherited (done ++ s ∷ slots) s ∷ []) key slot
    (slot_at-done done (inherited (done ++ s ∷ slots) s ∷ []) key slot at)

-- a value that is there stays there
pass-grows : (slots done : List Slot) (key : List ℕ) (field : ℕ) (value : List ℕ) → declared_value (done ++ slots) key field ≡ Some value
    → declared_value (passed inherited done slots) key field ≡ Some value
pass-grows [] done key field value has = ap (λ (xs : List Slot). declared_value xs key field) (sym (append-nil done)) ∙ has
pass-grows (slot ∷ slots) done key field value has =
    let after = inherited (done ++ slot ∷ slots) slot in
    pass-grows slots (done ++ after ∷ []) key field value
    (ap (λ (xs : List Slot). declared_value xs key field) (append_assoc done (after ∷ []) slots)
    ∙ turn-grows done slots slot after key field value (key-inherited (done ++ slot ∷ slots) slot) (turned (done ++ slot ∷ slots) slot) has)

-- ---- what an entry lacked and has is its parent's

abbrev IsFrom : List Slot → List ℕ → ℕ → List ℕ → Type 0
IsFrom final key field value = (parent : List ℕ) × (parent_by_key final key ≡ Some parent) × (declared_value final parent field ≡ Some value)

module _ (done slots : List Slot) (slot : Slot) (key : List ℕ) (field : ℕ) (value : List ℕ) where
  abbrev before : List Slot
  before = done ++ slot ∷ slots

  abbrev after : Slot
  after = inherited before slot

  from-parent : (name : List ℕ) (parent : Slot) → parent_at slot ≡ Some name → slot_at before name ≡ Some parent → after ≡ inherited_from (Some parent) slot
      → slot_at (done ++ after ∷ []) key ≡ Some after
      → field_value (suc field) (values parent) ≡ Some value → IsFrom (passed inherited done (slot ∷ slots)) key field value
  from-parent name parent some at is here has = (
    parent.key,
    ap (λ (o : Option Slot). parent_in (values_by o)) (pass-done slots (done ++ after ∷ []) key after here) ∙ ap parent_at is
        ∙ heir-parent parent slot name some,
    pass-grows (slot ∷ slots) done parent.key field value (field-by before parent.key field parent (slot_at-own before name parent at) ∙ has),
  )

  turn-inherits : declared_value before key field ≡ None → declared_value (done ++ after ∷ slots) key field ≡ Some value
      → IsFrom (passed inherited done (slot ∷ slots)) key field value
  turn-inherits lacks has = ⊎_elim
      (λ (other : slot_at before key ≡ slot_at (done ++ after ∷ slots) key).
      absurd (let both : None ≡ Some value = sym lacks ∙ ap (λ (o : Option Slot). field_value (suc field) (values_by o)) other ∙ has in cc))
      (λ (here : (slot_at before key ≡ Some slot) × (slot_at (done ++ after ∷ []) key ≡ Some after)).
      let lacking : field_value (suc field) (values slot) ≡ None = sym (field-by before key field slot here.0) ∙ lacks in
      let having : field_value (suc field) (values after) ≡ Some value =
      sym (field-by (done ++ after ∷ slots) key field after (slot-turned done slots after key here.1)) ∙ has in
      ⊎_elim
      (λ (is : after ≡ slot). absurd (let both : None ≡ Some value = sym lacking ∙ sym (ap (λ (s : Slot). field_value (suc field) (values s)) is) ∙ having in
      cc))
      (λ (by : (name : List ℕ) × (parent : Slot) × (parent_at slot ≡ Some name) × (slot_at before name ≡ Some parent)
      × (after ≡ inherited_from (Some parent) slot)).
      from-parent by.0 by.1 by.2 by.3 by.4 here.1
      (heir-lacks by.1 slot field value lacking (sym (ap (λ (s : Slot). field_value (suc field) (values s)) by.4) ∙ having)))
      (turned before slot))
      (at-turn done slots slot after key (key-inherited before slot))

pass-inherits : (slots done : List Slot) (key : List ℕ) (field : ℕ) (value : List ℕ) → declared_value (done ++ slots) key field ≡ None
    → declared_value (passed inherited done slots) key field ≡ Some value
    → IsFrom (passed inherited done slots) key field value
pass-inherits [] done key field value lacks has =
    absurd (let both : None ≡ Some value = sym lacks ∙ ap (λ (xs : List Slot). declared_value xs key field) (append-nil done) ∙ has in cc)
pass-inherits (slot ∷ slots) done key field value lacks has =
    by_next (declared_value (done ++ turn ∷ slots) key field) refl (pass-inherits slots (done ++ turn ∷ []) key field value) where
      turn : Slot
      turn = inherited (done ++ slot ∷ slots) slot

      final : List Slot
      final = passed inherited (done ++ turn ∷ []) slots

      joined : declared_value ((done ++ turn ∷ []) ++ slots) key field ≡ declared_value (done ++ turn ∷ slots) key field
      joined = ap (λ (xs : List Slot). declared_value xs key field) (append_assoc done (turn ∷ []) slots)

      by_next : (o : Option (List ℕ)) → declared_value (done ++ turn ∷ slots) key field ≡ o
          → (declared_value ((done ++ turn ∷ []) ++ slots) key field ≡ None → declared_value final key field ≡ Some value → IsFrom final key field value)
          → IsFrom final key field value
      by_next None none later = later (joined ∙ none) has
      by_next (Some found) some later =
          let both : Some found ≡ Some value = sym (pass-grows slots (done ++ turn ∷ []) key field found (joined ∙ some)) ∙ has in
          let same : found ≡ value = cc in
          turn-inherits done slots slot key field value lacks (some ∙ ap (λ (v : List ℕ). Some v) same)

-- ---- what the parent has of its own is taken

slot-there : (slots : List Slot) (key : List ℕ) (field : ℕ) (value : List ℕ) → declared_value slots key field ≡ Some value
    → (slot : Slot) × (slot_at slots key ≡ Some slot) × (field_value (suc field) (values slot) ≡ Some value)
slot-there slots key field value has = by_slot (slot_at slots key) refl has where
  by_slot : (o : Option Slot) → slot_at slots key ≡ o → field_value (suc field) (values_by o) ≡ Some value → (slot : Slot) × (slot_at slots key ≡ Some slot)
      × (field_value (suc field) (values slot) ≡ Some value)
  by_slot None at has = cc
  by_slot (Some slot) at has = (slot, at, has)

-- the place of the key, at its turn
turn-takes : (done slots : List Slot) (slot : Slot) (key parent : List ℕ) (field : ℕ) (value : List ℕ) → slot_at done key ≡ None → is_same_key key slot.key
    ≡ true → parent_at slot ≡ Some parent → suc field < length (values slot)
    → field_value (suc field) (values slot) ≡ None → declared_value (done ++ slot ∷ slots) parent field ≡ Some value
    → declared_value (passed inherited done (slot ∷ slots)) key field ≡ Some value
turn-takes done slots slot key parent field value none same some within lacks has =
    let before = done ++ slot ∷ slots in
    let after = inherited before slot in
    let there = slot-there before parent field value has in
    let here : slot_at (done ++ after ∷ []) key ≡ Some after =
    slot_at-append done (after ∷ []) key ∙ ap (λ (o : Option Slot). option_or o (slot_at (after ∷ []) key)) none
    ∙ ap (λ (b : Bool). cond b (Some after) None) (ap (is_same_key key) (key-inherited before slot) ∙ same) in
    field-by (passed inherited done (slot ∷ slots)) key field after (pass-done slots (done ++ after ∷ []) key after here)
    ∙ ap (λ (s : Slot). field_value (suc field) (values s)) (inherited-by before slot parent (Some there.0) some there.1)
    ∙ heir-takes there.0 slot field value within lacks there.2

pass-takes : (slots done : List Slot) (key parent : List ℕ) (slot : Slot) (field : ℕ) (value : List ℕ) → slot_at done key ≡ None → slot_at slots key ≡ Some slot
    → parent_at slot ≡ Some parent → suc field < length (values slot)
    → field_value (suc field) (values slot) ≡ None → declared_value (done ++ slots) parent field ≡ Some value
    → declared_value (passed inherited done slots) key field ≡ Some value
pass-takes [] done key parent slot field value none at some within lacks has = cc
pass-takes (first ∷ slots) done key parent slot field value none at some within lacks has =
    by_test (is_same_key key first.key) refl at (pass-takes slots (done ++ turn ∷ []) key parent slot field value) where
      turn : Slot
      turn = inherited (done ++ first ∷ slots) first

      final : List Slot
      final = passed inherited (done ++ turn ∷ []) slots

      by_test : (b : Bool) → is_same_key key first.key ≡ b → cond b (Some first) (slot_at slots key) ≡ Some slot
          → (slot_at (done ++ turn ∷ []) key ≡ None → slot_at slots key ≡ Some slot → parent_at slot ≡ Some parent → suc field < length (values slot)
          → field_value (suc field) (values slot) ≡ None
          → declared_value ((done ++ turn ∷ []) ++ slots) parent field ≡ Some value → declared_value final key field ≡ Some value)
          → declared_value final key field ≡ Some value
      by_test true same at later =
          let is : slot ≡ first = cc in
          turn-takes done slots first key parent field value none same (subst (λ (s : Slot). parent_at s ≡ Some parent) is some)
          (subst (λ (s : Slot). suc field < length (values s)) is within)
          (subst (λ (s : Slot). field_value (suc field) (values s) ≡ None) is lacks) has
      by_test false differs at later = later
          (slot_at-append done (turn ∷ []) key ∙ ap (λ (o : Option Slot). option_or o (slot_at (turn ∷ []) key)) none
          ∙ ap (λ (b : Bool). cond b (Some turn) None) (ap (is_same_key key) (key-inherited (done ++ first ∷ slots) first) ∙ differs))
          at some within lacks
          (ap (λ (xs : List Slot). declared_value xs parent field) (append_assoc done (turn ∷ []) slots)
          ∙ turn-grows done slots first turn parent field value (key-inherited (done ++ first ∷ slots) first) (turned (done ++ first ∷ slots) first) has)

-- ---- the whole first pass

pub first-grows : (slots : List Slot) (key : List ℕ) (field : ℕ) (value : List ℕ) → declared_value slots key field ≡ Some value
    → declared_value (after_first slots) key field ≡ Some value
first-grows slots = pass-grows slots []

pub first-inherits : (slots : List Slot) (key : List ℕ) (field : ℕ) (value : List ℕ) → declared_value slots key field ≡ None
    → declared_value (after_first slots) key field ≡ Some value
    → (parent : List ℕ) × (parent_by_key (after_first slots) key ≡ Some parent) × (declared_value (after_first slots) parent field ≡ Some value)
first-inherits slots = pass-inherits slots []

pub first-takes : (slots : List Slot) (key parent : List ℕ) (slot : Slot) (field : ℕ) (value : List ℕ) → slot_at slots key ≡ Some slot
    → parent_at slot ≡ Some parent → suc field < length (values slot)
    → field_value (suc field) (values slot) ≡ None → declared_value slots parent field ≡ Some value → declared_value (after_first slots) key field ≡ Some value
first-takes slots key parent slot field value = pass-takes slots [] key parent slot field value refl
