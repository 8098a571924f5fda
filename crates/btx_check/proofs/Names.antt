-- Fields and variables, executed: their values are pushed.
use Rattle.std.proofs.Common.{◌≡◌, ℕ, zero, suc, ◌<◌, List, [], ◌∷◌, ◌++◌, length, Option, None, Some, Bool, true, false, cond, get_or, refl, sym, ap, subst}
use Rattle.std.proofs.Common.{◌∙◌, arith}
use Rattle.std.specs.Prelude.{slice_set}
use Rattle.std.specs.List.{list_all}
use Rattle.std.specs.Option.{is_some, option_map_or}
use Rattle.btx_text.specs.language.Class.{is_white}
use Rattle.btx_bst.specs.declared.callee.Callee.{Callee}
use Rattle.btx_bst.specs.declared.callee.Callee.TheVariants as callee
use Rattle.btx_stack.specs.declared.literal.Literal.{Literal}
use Rattle.btx_stack.specs.declared.literal.Literal.TheVariants.{Text, Missing}
use Rattle.btx_step.specs.declared.said.StepOutput.TheVariants.{Nothing}
use Rattle.btx_bib.specs.language.Library.{entry_value}
use Rattle.btx_step.specs.language.Entries.{entry_of}
use Rattle.btx_step.specs.language.Jobs.{Job}
use Rattle.btx_step.specs.language.Stores.{Store}
use Rattle.btx_step.specs.language.Answers.{with_literals, pushed}
use Rattle.btx_step.specs.language.Variables.{in_entry}
use Rattle.btx_step.specs.language.Steps.{function_run}
use Rattle.btx_check.specs.declared.description.Value.TheVariants as value
use Rattle.btx_check.specs.Descriptions.{White, Full, allows, Is, any_field}
use Rattle.btx_check.specs.States.{Abstract, Values, values_in, slot, named, at, Stack, Stands, In, pushing, recalling_field}
use Rattle.btx_check.specs.Inclusion.{Into}
use Rattle.btx_check.specs.Running.{Leads, RuleNow}
use Rattle.btx_check.proofs.Holding.{at-last, stack-length, restack, fresh}
use Rattle.btx_check.proofs.RowLemmas.{pushes_leads}

pub room_for : (a : Abstract) (v ls : List Literal) → length a.stack < 1000 → Stack v a.stack ls → length ls < 1000
room_for a v ls l k = let n = stack-length v a.stack ls k in omega (arith, l, n)

-- a name whose number is known pushes that number: for all five kinds of names at once
pub known_leads : (job : Job) (left : ℕ) (a : Abstract) (s : Store) (h : In job left a s) (f : Callee) (i : ℕ) (y : Literal) (to : List Abstract)
    → length a.stack < 1000 → named job (values_in s) f ≡ Some y → slot a f ≡ Some i → Into (pushing i a) to
    → Leads job left to s (pushed y s)
known_leads job left a s h f i y to l n e go =
    pushes_leads job left to s s Nothing y tt refl (λ z. z) (room_for a h.0 s.literals l h.1.stack)
    (go.into job left (with_literals (y ∷ s.literals) s) (
      h.0,
      restack job left a (values_in s) h.0 (i ∷ a.stack) s.literals (y ∷ s.literals) (
        subst (λ (o : Option ℕ). Stands h.0 o y) e (h.1.names f y n),
        h.1.stack,
      ) h.1,
    ))

-- a name of entries, where an entry is current
entry_leads : (job : Job) (left : ℕ) (to : List Abstract) (s : Store) (go : ℕ → Literal) (o : Option ℕ) → s.current ≡ o → is_some o ≡ true
    → ((entry : ℕ) → s.current ≡ Some entry → Leads job left to s (pushed (go entry) s))
    → Leads job left to s (in_entry (λ entry. pushed (go entry)) o s)
entry_leads job left to s go None c k h = absurd (cc)
entry_leads job left to s go (Some entry) c k h = h entry c

-- the value of a name of entries
entry_named : {A : Type 0} (o : Option ℕ) (entry : ℕ) (g : ℕ → A) → o ≡ Some entry → option_map_or (λ (e : ℕ). Some (g e)) o None ≡ Some (g entry)
entry_named None entry g e = absurd (cc)
entry_named (Some x) entry g e = let q : x ≡ entry = cc in ap (λ z. Some (g z)) q

pub rule_field_known : (f i : ℕ) (a : Abstract) (to : List Abstract) → a.entry ≡ true → length a.stack < 1000 → slot a (callee.Field f) ≡ Some i
    → Into (pushing i a) to → RuleNow (callee.Field f) a to
unfolding function_run
rule_field_known f i a to en l e go job g g' left s h =
    entry_leads job left to s (λ entry. option_map_or Text (entry_value f (entry_of job entry)) Missing) s.current refl (h.1.entry ∙ en)
    (λ entry c. known_leads job left a s h (callee.Field f) i (option_map_or Text (entry_value f (entry_of job entry)) Missing) to l
    (entry_named s.current entry (λ (e : ℕ). option_map_or Text (entry_value f (entry_of job e)) Missing) c) e go)

pub rule_global_integer_known : (f i : ℕ) (a : Abstract) (to : List Abstract) → length a.stack < 1000 → slot a (callee.GlobalInteger f) ≡ Some i
    → Into (pushing i a) to → RuleNow (callee.GlobalInteger f) a to
unfolding function_run
rule_global_integer_known f i a to l e go job g g' left s h = known_leads job left a s h (callee.GlobalInteger f) i _ to l refl e go

pub rule_global_string_known : (f i : ℕ) (a : Abstract) (to : List Abstract) → length a.stack < 1000 → slot a (callee.GlobalString f) ≡ Some i
    → Into (pushing i a) to → RuleNow (callee.GlobalString f) a to
unfolding function_run
rule_global_string_known f i a to l e go job g g' left s h = known_leads job left a s h (callee.GlobalString f) i _ to l refl e go

-- ---- a field of which nothing was known

pub any_field_is : (left : ℕ) (o : Option (List ℕ)) → Is left (value.Text any_field) (option_map_or Text o Missing)
any_field_is left None = refl
any_field_is left (Some t) = go t
  where
    go : (t : List ℕ) → Is left (value.Text any_field) (Text t)
    go [] = refl
    go (x ∷ t) = both (list_all is_white (x ∷ t))
      where
        both : (b : Bool) → allows any_field (cond b White Full) ≡ true
        both true = refl
        both false = refl

set_stands : (os : List (Option ℕ)) (f i n : ℕ) (P : ℕ → Option ℕ → Type 0) → P f (Some n) → P i (get_or os i None)
    → P i (get_or (slice_set os f (Some n)) i None)
set_stands [] f i n P new old = old
set_stands (o ∷ os) zero zero n P new old = new
set_stands (o ∷ os) zero (suc i) n P new old = old
set_stands (o ∷ os) (suc f) zero n P new old = old
set_stands (o ∷ os) (suc f) (suc i) n P new old = set_stands os f i n (λ k. P (suc k)) new old

-- the names, once a field has a number
recalled : (job : Job) (left : ℕ) (a : Abstract) (n : Values) (f : ℕ) (y : Literal) (v : List Literal) → at v (length a.values) ≡ Some y
    → named job n (callee.Field f) ≡ Some y
    → ((g : Callee) (x : Literal) → named job n g ≡ Some x → Stands v (slot a g) x) → (g : Callee) (x : Literal) → named job n g ≡ Some x
    → Stands v (slot (recalling_field f a) g) x
recalled job left a n f y v e q h (callee.Field i) x p =
    set_stands a.fields f i (length a.values) (λ k o. (x : Literal) → named job n (callee.Field k) ≡ Some x → Stands v o x)
    (λ x p. let same : y ≡ x = some_same y x (sym q ∙ p) in subst (λ z. at v (length a.values) ≡ Some z) same e) (λ x p. h (callee.Field i) x p) x p
  where
    some_same : (y x : Literal) → Some y ≡ Some x → y ≡ x
    some_same y x e = cc
recalled job left a n f y v e q h (callee.GlobalInteger i) x p = h (callee.GlobalInteger i) x p
recalled job left a n f y v e q h (callee.GlobalString i) x p = h (callee.GlobalString i) x p
recalled job left a n f y v e q h (callee.EntryInteger i) x p = h (callee.EntryInteger i) x p
recalled job left a n f y v e q h (callee.EntryString i) x p = h (callee.EntryString i) x p
recalled job left a n f y v e q h (callee.BuiltIn b) x p = tt
recalled job left a n f y v e q h (callee.User i) x p = tt

pub rule_field_new : (f : ℕ) (a : Abstract) (to : List Abstract) → a.entry ≡ true → length a.stack < 1000 → Into (recalling_field f a) to
    → RuleNow (callee.Field f) a to
unfolding function_run
rule_field_new f a to en l go job g g' left s h =
    entry_leads job left to s (λ entry. option_map_or Text (entry_value f (entry_of job entry)) Missing) s.current refl (h.1.entry ∙ en)
    (λ entry c. let y = option_map_or Text (entry_value f (entry_of job entry)) Missing in
    let w = fresh job left a (values_in s) h.0 s.literals (value.Text any_field) y (any_field_is left (entry_value f (entry_of job entry))) h.1 in
    pushes_leads job left to s s Nothing y tt refl (λ z. z) (room_for a h.0 s.literals l h.1.stack)
    (go.into job left (with_literals (y ∷ s.literals) s) (
      h.0 ++ y ∷ [],
      record {
        values = w.values;
        stack = w.stack;
        steps = w.steps;
        entry = w.entry;
        names = recalled job left a (values_in s) f y (h.0 ++ y ∷ []) (at-last left a.values h.0 y h.1.values)
            (entry_named s.current entry (λ (e : ℕ). option_map_or Text (entry_value f (entry_of job e)) Missing) c) w.names;
      },
    )))
