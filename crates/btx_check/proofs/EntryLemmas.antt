-- What is known of an entry, beside what is known of the global variables.
use Rattle.std.proofs.Common.{◌≡◌, ℕ, zero, suc, ◌+◌, ◌<◌, List, [], ◌∷◌, ◌++◌, length, Option, None, Some, true, take, get_or, refl, sym, ap, subst, ◌∙◌}
use Rattle.std.proofs.Common.{arith, inl, inr}
use Rattle.std.specs.Prelude.{◌⊎◌}
use Rattle.btx_bst.specs.declared.callee.Callee.{Callee}
use Rattle.btx_bst.specs.declared.callee.Callee.TheVariants as callee
use Rattle.btx_stack.specs.declared.literal.Literal.{Literal}
use Rattle.btx_step.specs.language.Jobs.{Job}
use Rattle.btx_step.specs.language.Stores.{Store}
use Rattle.btx_check.specs.declared.description.Value.{Value}
use Rattle.btx_check.specs.States.{Abstract, values_in, slot, named, at, Fits, Stack, Stands, In, Among}
use Rattle.btx_check.specs.Running.{Each}
use Rattle.btx_check.specs.Between.{IsLocal, where_entry, Joint, IsShifted, Combines}
use Rattle.btx_check.proofs.AddLemmas.{among_left, among_right}
use Rattle.btx_check.proofs.RunLemmas.{taking}

pub local_of : (a : Abstract) → a.stack ≡ [] → ((i : ℕ) → get_or a.global_integers i None ≡ None) → ((i : ℕ) → get_or a.global_strings i None ≡ None)
    → IsLocal a
local_of a s e1 e2 = record { stack = s; global_integers = e1; global_strings = e2 }

pub each_more : (P : Abstract → Type 0) (xs : List Abstract) (a : Abstract) → Each P xs → P a → Each P (xs ++ a ∷ [])
each_more P [] a h p = (p, tt)
each_more P (x ∷ xs) a h p = (h.0, each_more P xs a h.1 p)

pub each_pushed : (P : Abstract → Type 0) (xs ys : List Abstract) (a : Abstract) → ys ≡ xs ++ a ∷ [] → Each P xs → P a → Each P ys
each_pushed P xs ys a e h p = subst (λ (zs : List Abstract). Each P zs) (sym e) (each_more P xs a h p)

-- ---- numbers that are greater

-- what holds at each place of a list holds with an element more
push_all : (P : ℕ → Option ℕ → Type 0) → ((f : ℕ) → P f None) → (g : List (Option ℕ)) (o : Option ℕ) → ((f : ℕ) → P f (get_or g f None)) → P (length g) o
    → (f : ℕ) → P f (get_or (g ++ o ∷ []) f None)
push_all P none [] o h q zero = q
push_all P none [] o h q (suc f) = none (suc f)
push_all P none (x ∷ g) o h q zero = h zero
push_all P none (x ∷ g) o h q (suc f) = push_all (λ k. P (suc k)) (λ k. none (suc k)) g o (λ k. h (suc k)) q f

same_default : (xs : List (Option ℕ)) (k : ℕ) (d e : Option ℕ) → k < length xs → get_or xs k d ≡ get_or xs k e
same_default [] k d e l = absurd (omega (arith, l))
same_default (x ∷ xs) zero d e l = refl
same_default (x ∷ xs) (suc k) d e l = same_default xs k d e (omega (arith, l))

pub shifted_step : (n : ℕ) (xs ys zs : List (Option ℕ)) (k : ℕ) (d o : Option ℕ) → k < length xs → IsShifted n (get_or xs k d) o → length ys ≡ k
    → ((f : ℕ) → IsShifted n (get_or xs f None) (get_or ys f None)) → zs ≡ ys ++ o ∷ [] → (f : ℕ) → IsShifted n (get_or xs f None) (get_or zs f None)
shifted_step n xs ys zs k d o l h w g p f =
    let here : IsShifted n (get_or xs (length ys) None) o = subst (λ (j : ℕ). IsShifted n (get_or xs j None) o) (sym w)
    (subst (λ (y : Option ℕ). IsShifted n y o) (same_default xs k d None l) h) in
    subst (λ (us : List (Option ℕ)). IsShifted n (get_or xs f None) (get_or us f None)) (sym p)
    (push_all (λ j y. IsShifted n (get_or xs j None) y) (λ j. tt) ys o g here f)

pub length_pushed : (ys zs : List (Option ℕ)) (o : Option ℕ) (k : ℕ) → zs ≡ ys ++ o ∷ [] → length ys ≡ k → length zs ≡ k + 1
length_pushed ys zs o k e h = ap (λ (us : List (Option ℕ)). length us) e ∙ (one_more ys ∙ ap (λ (m : ℕ). m + 1) h)
  where
    one_more : (us : List (Option ℕ)) → length (us ++ o ∷ []) ≡ length us + 1
    one_more [] = refl
    one_more (u ∷ us) = let q = one_more us in omega (arith, q)

-- ---- both together

at_left : (v w : List Literal) (i : ℕ) (x : Literal) → at v i ≡ Some x → at (v ++ w) i ≡ Some x
at_left [] w i x e = cc
at_left (y ∷ v) w zero x e = e
at_left (y ∷ v) w (suc i) x e = at_left v w i x e

at_right : (v w : List Literal) (i j : ℕ) (x : Literal) → at w i ≡ Some x → j ≡ i + length v → at (v ++ w) j ≡ Some x
at_right [] w i j x e q = let k : i ≡ j = omega (arith, q) in subst (λ (z : ℕ). at w z ≡ Some x) k e
at_right (y ∷ v) w i zero x e q = let k : zero ≡ i + suc (length v) = q in absurd (omega (arith, k))
at_right (y ∷ v) w i (suc j) x e q = let k : suc j ≡ i + suc (length v) = q in at_right v w i j x e (omega (arith, k))

fits_both : (left : ℕ) (ds es : List Value) (v w : List Literal) → Fits left ds v → Fits left es w → Fits left (ds ++ es) (v ++ w)
fits_both left [] es [] w f g = g
fits_both left [] es (x ∷ v) w f g = absurd f
fits_both left (d ∷ ds) es [] w f g = absurd f
fits_both left (d ∷ ds) es (x ∷ v) w f g = (f.0, fits_both left ds es v w f.1 g)

fits_length : (left : ℕ) (ds : List Value) (v : List Literal) → Fits left ds v → length v ≡ length ds
fits_length left [] [] f = refl
fits_length left [] (x ∷ v) f = absurd f
fits_length left (d ∷ ds) [] f = absurd f
fits_length left (d ∷ ds) (x ∷ v) f = ap suc (fits_length left ds v f.1)

stack_left : (v w : List Literal) (is : List ℕ) (xs : List Literal) → Stack v is xs → Stack (v ++ w) is xs
stack_left v w [] [] h = tt
stack_left v w [] (x ∷ xs) h = absurd h
stack_left v w (i ∷ is) [] h = absurd h
stack_left v w (i ∷ is) (x ∷ xs) h = (at_left v w i x h.0, stack_left v w is xs h.1)

stands_left : (v w : List Literal) (o : Option ℕ) (x : Literal) → Stands v o x → Stands (v ++ w) o x
stands_left v w None x h = tt
stands_left v w (Some i) x h = at_left v w i x h

stands_right : (v w : List Literal) (n : ℕ) (o g : Option ℕ) (x : Literal) → length v ≡ n → IsShifted n o g → Stands w o x → Stands (v ++ w) g x
stands_right v w n o None x l s h = tt
stands_right v w n o (Some j) x l s h =
    let sum : j ≡ s.i + length v = s.sum ∙ ap (λ (m : ℕ). s.i + m) (sym l) in
    at_right v w s.i j x (subst (λ (y : Option ℕ). Stands w y x) s.is h) sum

combined_in : (g e b : Abstract) → Combines g e b → (job : Job) (left : ℕ) (s : Store) → In job left (where_entry true g) s → In job left e s → In job left b s
combined_in g e b h job left s i j = (
  i.0 ++ j.0,
  record {
    steps = i.1.steps;
    values = subst (λ (ds : List Value). Fits left ds (i.0 ++ j.0)) (sym h.values) (fits_both left g.values e.values i.0 j.0 i.1.values j.1.values);
    stack = subst (λ (is : List ℕ). Stack (i.0 ++ j.0) is s.literals) (sym h.stack) (stack_left i.0 j.0 g.stack s.literals i.1.stack);
    names = names;
    entry = i.1.entry ∙ sym h.current;
  },
)
  where
    count : length i.0 ≡ length g.values
    count = fits_length left g.values i.0 i.1.values

    names : (f : Callee) (x : Literal) → named job (values_in s) f ≡ Some x → Stands (i.0 ++ j.0) (slot b f) x
    names (callee.GlobalInteger k) x q = subst (λ (ns : List (Option ℕ)). Stands (i.0 ++ j.0) (get_or ns k None) x) (sym h.global_integers)
        (stands_left i.0 j.0 (get_or g.global_integers k None) x (i.1.names (callee.GlobalInteger k) x q))
    names (callee.GlobalString k) x q = subst (λ (ns : List (Option ℕ)). Stands (i.0 ++ j.0) (get_or ns k None) x) (sym h.global_strings)
        (stands_left i.0 j.0 (get_or g.global_strings k None) x (i.1.names (callee.GlobalString k) x q))
    names (callee.EntryInteger k) x q = stands_right i.0 j.0 (length g.values) (get_or e.entry_integers k None) (get_or b.entry_integers k None) x count
        (h.entry_integers.each k) (j.1.names (callee.EntryInteger k) x q)
    names (callee.EntryString k) x q = stands_right i.0 j.0 (length g.values) (get_or e.entry_strings k None) (get_or b.entry_strings k None) x count
        (h.entry_strings.each k) (j.1.names (callee.EntryString k) x q)
    names (callee.Field k) x q = stands_right i.0 j.0 (length g.values) (get_or e.fields k None) (get_or b.fields k None) x count
        (h.fields.each k) (j.1.names (callee.Field k) x q)
    names (callee.BuiltIn k) x q = tt
    names (callee.User k) x q = tt

pub joint_none : (a : Abstract) → Joint a [] []
joint_none a = record { joint = λ job left s i j. absurd j }

among_parts : (xs : List Abstract) (a : Abstract) (job : Job) (left : ℕ) (s : Store) → Among job left (xs ++ a ∷ []) s → Among job left xs s ⊎ In job left a s
among_parts [] a job left s (inl h) = inr h
among_parts [] a job left s (inr h) = absurd h
among_parts (x ∷ xs) a job left s (inl h) = inl (inl h)
among_parts (x ∷ xs) a job left s (inr h) = elim (among_parts xs a job left s h) [ inl k ↦ inl (inr k) | inr k ↦ inr k ]

joint_more : (g e b : Abstract) (es xs : List Abstract) → Combines g e b → Joint (where_entry true g) es xs
    → Joint (where_entry true g) (es ++ e ∷ []) (xs ++ b ∷ [])
joint_more g e b es xs h k = record {
  joint = λ job left s i j. elim (among_parts es e job left s j) [
    | inl m ↦ among_left xs (b ∷ []) job left s (k.joint job left s i m)
    | inr m ↦ among_right xs (b ∷ []) job left s (inl (combined_in g e b h job left s i m))
  ];
}

pub joint_step : (g e b : Abstract) (es xs ys : List Abstract) (k : ℕ) → k < length es → e ≡ get_or es k e → Combines g e b → ys ≡ xs ++ b ∷ []
    → Joint (where_entry true g) (take k es) xs → Joint (where_entry true g) (take (k + 1) es) ys
joint_step g e b es xs ys k l q h p j =
    subst (λ (us : List Abstract). Joint (where_entry true g) us ys) (sym (taking es k e l q))
    (subst (λ (us : List Abstract). Joint (where_entry true g) (take k es ++ e ∷ []) us) (sym p) (joint_more g e b (take k es) xs h j))
