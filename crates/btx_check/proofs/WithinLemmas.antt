-- Inclusion of states.
use Rattle.std.proofs.Common.{◌≡◌, ℕ, zero, suc, ◌<◌, ◌≤◌, List, [], ◌∷◌, length, Option, None, Some, Bool, true, false, not, get_or, refl, sym, ap, subst, ◌∙◌}
use Rattle.std.proofs.Common.{arith, inl, inr}
use Rattle.std.proofs.lemmas.Bool.{cases_lt}
use Rattle.std.proofs.lemmas.List.{get_or_past, get_or_default}
use Rattle.btx_check.specs.declared.description.Value.{Value}
use Rattle.btx_check.specs.declared.description.Value.TheVariants as value
use Rattle.std.specs.Bool.{beq}
use Rattle.btx_bst.specs.declared.callee.Callee.{Callee}
use Rattle.btx_bst.specs.declared.callee.Callee.TheVariants as callee
use Rattle.btx_stack.specs.declared.literal.Literal.{Literal}
use Rattle.btx_stack.specs.declared.literal.Literal.TheVariants.{Missing}
use Rattle.btx_check.specs.Promise.{most_steps}
use Rattle.btx_check.specs.Descriptions.{Is}
use Rattle.btx_check.specs.States.{slot, Abstract, at, Fits, Stack, Stands}
use Rattle.btx_check.specs.Inclusion.{Within, IsImpossible, StackMaps, NameMaps, FieldsMap, ValuesMap}
use Rattle.btx_check.specs.Running.{Starts}
use Rattle.btx_check.proofs.Holding.{fits-at}

mapped : List Literal → List ℕ → List Literal
mapped v [] = []
mapped v (i ∷ is) = get_or v i Missing ∷ mapped v is

mapped_length : (v : List Literal) (is : List ℕ) → length (mapped v is) ≡ length is
unfolding mapped
mapped_length v [] = refl
mapped_length v (i ∷ is) = ap suc (mapped_length v is)

mapped_get : (v : List Literal) (is : List ℕ) (j : ℕ) → j < length is → get_or (mapped v is) j Missing ≡ get_or v (get_or is j 0) Missing
unfolding mapped
mapped_get v [] j l = absurd (omega (arith, l))
mapped_get v (i ∷ is) zero l = refl
mapped_get v (i ∷ is) (suc j) l = mapped_get v is j (omega (arith, l))

mapped_at : (v : List Literal) (is : List ℕ) (j : ℕ) → j < length is → at (mapped v is) j ≡ Some (get_or v (get_or is j 0) Missing)
unfolding mapped
mapped_at v [] j l = absurd (omega (arith, l))
mapped_at v (i ∷ is) zero l = refl
mapped_at v (i ∷ is) (suc j) l = mapped_at v is j (omega (arith, l))

at_get : (v : List Literal) (i : ℕ) (x : Literal) → at v i ≡ Some x → get_or v i Missing ≡ x
at_get [] i x e = cc
at_get (y ∷ v) zero x e = cc
at_get (y ∷ v) (suc i) x e = at_get v i x e

get_at : (v : List Literal) (i : ℕ) → i < length v → at v i ≡ Some (get_or v i Missing)
get_at [] i l = absurd (omega (arith, l))
get_at (y ∷ v) zero l = refl
get_at (y ∷ v) (suc i) l = get_at v i (omega (arith, l))

fits_length : (left : ℕ) (ds : List Value) (v : List Literal) → Fits left ds v → length ds ≡ length v
fits_length left [] [] f = refl
fits_length left [] (x ∷ v) f = absurd f
fits_length left (d ∷ ds) [] f = absurd f
fits_length left (d ∷ ds) (x ∷ v) f = ap suc (fits_length left ds v f.1)

fits_by_index : (left : ℕ) (ds : List Value) (v : List Literal) → length ds ≡ length v
    → ((j : ℕ) → j < length ds → Is left (get_or ds j value.Any) (get_or v j Missing)) → Fits left ds v
fits_by_index left [] [] e h = tt
fits_by_index left [] (x ∷ v) e h = absurd (omega (arith, e))
fits_by_index left (d ∷ ds) [] e h = absurd (omega (arith, e))
fits_by_index left (d ∷ ds) (x ∷ v) e h = (h 0 (omega arith), fits_by_index left ds v (omega (arith, e)) (λ j l. h (suc j) (omega (arith, l))))

name_mapped : (v : List Literal) (is : List ℕ) (o p : Option ℕ) (x : Literal) → NameMaps is o p → Stands v o x → Stands (mapped v is) p x
name_mapped v is o None x m h = tt
name_mapped v is o (Some j) x m h =
    let q : at v (get_or is j 0) ≡ Some x = subst (λ o. Stands v o x) m.1 h in
    mapped_at v is j m.0 ∙ ap Some (at_get v (get_or is j 0) x q)

stack_mapped : (v : List Literal) (is xs ys : List ℕ) (ls : List Literal) → StackMaps is xs ys → Stack v xs ls → Stack (mapped v is) ys ls
stack_mapped v is [] [] ls m h = elim ls as (λ ls. Stack v [] ls → Stack (mapped v is) [] ls) [ [] ↦ λ h. h | x ∷ xs ↦ λ h. h ] h
stack_mapped v is [] (y ∷ ys) ls m h = absurd (omega (arith, m.lengths))
stack_mapped v is (x ∷ xs) [] ls m h = absurd (omega (arith, m.lengths))
stack_mapped v is (x ∷ xs) (y ∷ ys) [] m h = absurd h
stack_mapped v is (x ∷ xs) (y ∷ ys) (l ∷ ls) m h =
    let e = m.each 0 (omega arith) in
    let q : at v (get_or is y 0) ≡ Some l = subst (λ i. at v i ≡ Some l) (sym e.1) h.0 in (
      mapped_at v is y e.0 ∙ ap Some (at_get v (get_or is y 0) l q),
      stack_mapped v is xs ys ls (record { lengths = omega (arith, m.lengths); each = λ k l. m.each (suc k) (omega (arith, l)) }) h.1,
    )

values_mapped : (left : ℕ) → left ≤ most_steps → (v : List Literal) (is : List ℕ) (cs ds : List Value) → ValuesMap is cs ds → Fits left cs v
    → Fits left ds (mapped v is)
values_mapped left few v is cs ds m f =
    let n = fits_length left cs v f in
    let e = mapped_length v is in
    let p = m.lengths in
    fits_by_index left ds (mapped v is) (sym p ∙ sym e)
    (λ j l. let q = m.each j l in let l2 : j < length is = omega (arith, l, p) in
    subst (λ x. Is left (get_or ds j value.Any) x) (sym (mapped_get v is j l2))
    (q.1 left few (get_or v (get_or is j 0) Missing)
    (fits-at left cs v (get_or is j 0) (get_or v (get_or is j 0) Missing) f (get_at v (get_or is j 0) (omega (arith, q.0, n))))))

fields_mapped : (v : List Literal) (is : List ℕ) (xs ys : List (Option ℕ)) (f : ℕ) (x : Literal) → FieldsMap is xs ys → Stands v (get_or xs f None) x
    → Stands (mapped v is) (get_or ys f None) x
fields_mapped v is xs ys f x m h = elim (cases_lt f (length ys)) [
  | inl l ↦ name_mapped v is (get_or xs f None) (get_or ys f None) x (m.each f l) h
  | inr l ↦ subst (λ o. Stands (mapped v is) o x) (sym (get_or_past ys f None l)) tt
]

-- all names' numbers
pub record NamesMap (is : List ℕ) (a b : Abstract) : Type 0 where
  pub global_integers : FieldsMap is a.global_integers b.global_integers
  pub global_strings : FieldsMap is a.global_strings b.global_strings
  pub entry_integers : FieldsMap is a.entry_integers b.entry_integers
  pub entry_strings : FieldsMap is a.entry_strings b.entry_strings
  pub fields : FieldsMap is a.fields b.fields

slots_mapped : (v : List Literal) (is : List ℕ) (a b : Abstract) → NamesMap is a b → (f : Callee) (x : Literal) → Stands v (slot a f) x
    → Stands (mapped v is) (slot b f) x
slots_mapped v is a b m (callee.GlobalInteger k) x h = fields_mapped v is a.global_integers b.global_integers k x m.global_integers h
slots_mapped v is a b m (callee.GlobalString k) x h = fields_mapped v is a.global_strings b.global_strings k x m.global_strings h
slots_mapped v is a b m (callee.EntryInteger k) x h = fields_mapped v is a.entry_integers b.entry_integers k x m.entry_integers h
slots_mapped v is a b m (callee.EntryString k) x h = fields_mapped v is a.entry_strings b.entry_strings k x m.entry_strings h
slots_mapped v is a b m (callee.Field k) x h = fields_mapped v is a.fields b.fields k x m.fields h
slots_mapped v is a b m (callee.BuiltIn k) x h = tt
slots_mapped v is a b m (callee.User k) x h = tt

pub within_is : (a b : Abstract) (is : List ℕ) → a.entry ≡ b.entry → StackMaps is a.stack b.stack → NamesMap is a b → ValuesMap is a.values b.values
    → Within a b
within_is a b is e st nm vs = record {
  within = λ job left s h. (
    mapped h.0 is,
    record {
      values = values_mapped left h.1.steps h.0 is a.values b.values vs h.1.values;
      stack = stack_mapped h.0 is a.stack b.stack s.literals st h.1.stack;
      names = λ f x q. slots_mapped h.0 is a b nm f x (h.1.names f x q);
      steps = h.1.steps;
      entry = h.1.entry ∙ e;
    },
  );
}

pub impossible_at : (a : Abstract) (j : ℕ) → j < length a.values → ((left : ℕ) (x : Literal) → Is left (get_or a.values j value.Any) x → ⊥) → IsImpossible a
impossible_at a j l h = record {
  impossible = λ job left s i.
      let n = fits_length left a.values i.0 i.1.values in
      let x = get_or i.0 j Missing in
      h left x (fits-at left a.values i.0 j x i.1.values (get_at i.0 j (omega (arith, l, n))));
}

pub impossible_of : (a : Abstract) (vs : List Value) (j : ℕ) (d : Value) → vs ≡ a.values → j < length vs → d ≡ get_or vs j d
    → ((left : ℕ) (x : Literal) → Is left d x → ⊥) → IsImpossible a
impossible_of a vs j d e l g h =
    let l2 : j < length a.values = subst (λ (us : List Value). j < length us) e l in
    let q : get_or a.values j value.Any ≡ d = subst (λ (us : List Value). get_or us j value.Any ≡ d) e (get_or_default vs j value.Any d l ∙ sym g) in
    impossible_at a j l2 (λ left x i. h left x (subst (λ (d : Value). Is left d x) q i))

beq_same : (x y : Bool) → not (beq x y) ≡ false → x ≡ y
beq_same true true h = refl
beq_same true false h = absurd (cc)
beq_same false true h = absurd (cc)
beq_same false false h = refl

pub within_parts : (a b a' b' : Abstract) (is xs ys : List ℕ) (g1 h1 g2 h2 g3 h3 g4 h4 g5 h5 : List (Option ℕ)) (vs ws : List Value) → a' ≡ a → b' ≡ b
    → xs ≡ a'.stack → ys ≡ b'.stack
    → g1 ≡ a'.global_integers → h1 ≡ b'.global_integers → g2 ≡ a'.global_strings → h2 ≡ b'.global_strings → g3 ≡ a'.entry_integers → h3 ≡ b'.entry_integers
    → g4 ≡ a'.entry_strings → h4 ≡ b'.entry_strings → g5 ≡ a'.fields → h5 ≡ b'.fields
    → vs ≡ a'.values → ws ≡ b'.values → not (beq a'.entry b'.entry) ≡ false → StackMaps is xs ys → FieldsMap is g1 h1 → FieldsMap is g2 h2 → FieldsMap is g3 h3
    → FieldsMap is g4 h4 → FieldsMap is g5 h5 → ValuesMap is vs ws → Within a b
within_parts a b a' b' is xs ys g1 h1 g2 h2 g3 h3 g4 h4 g5 h5 vs ws ea eb e1 e2 c1 d1 c2 d2 c3 d3 c4 d4 c5 d5 e5 e6 en st m1 m2 m3 m4 m5 vm =
    subst (λ (x : Abstract). Within x b) ea (subst (λ (x : Abstract). Within a' x) eb
    (within_is a' b' is (beq_same a'.entry b'.entry en) (subst (λ (l : List ℕ). StackMaps is l b'.stack) e1 (subst (λ (l : List ℕ). StackMaps is xs l) e2 st))
    (record {
      global_integers = both g1 h1 c1 d1 m1;
      global_strings = both g2 h2 c2 d2 m2;
      entry_integers = both g3 h3 c3 d3 m3;
      entry_strings =
          both g4 h4 c4 d4 m4;
      fields = both g5 h5 c5 d5 m5;
    })
    (subst (λ (l : List Value). ValuesMap is l b'.values) e5 (subst (λ (l : List Value). ValuesMap is vs l) e6 vm))))
  where
    both : (g h : List (Option ℕ)) {g' h' : List (Option ℕ)} → g ≡ g' → h ≡ h' → FieldsMap is g h → FieldsMap is g' h'
    both g h {g'} {h'} c d m = subst (λ (l : List (Option ℕ)). FieldsMap is l h') c (subst (λ (l : List (Option ℕ)). FieldsMap is g l) d m)

-- ---- a state of which nothing is known

pub starts_of : (a : Abstract) → a.stack ≡ [] → a.values ≡ [] → ((i : ℕ) → get_or a.global_integers i None ≡ None)
    → ((i : ℕ) → get_or a.global_strings i None ≡ None) → ((i : ℕ) → get_or a.entry_integers i None ≡ None)
    → ((i : ℕ) → get_or a.entry_strings i None ≡ None) → ((i : ℕ) → get_or a.fields i None ≡ None) → Starts a
starts_of a s v e1 e2 e3 e4 e5 = record { stack = s; values = v; names = λ f. none f }
  where
    none : (f : Callee) → slot a f ≡ None
    none (callee.GlobalInteger i) = e1 i
    none (callee.GlobalString i) = e2 i
    none (callee.EntryInteger i) = e3 i
    none (callee.EntryString i) = e4 i
    none (callee.Field i) = e5 i
    none (callee.BuiltIn b) = refl
    none (callee.User i) = refl
