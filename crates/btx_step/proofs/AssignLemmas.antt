-- What an assignment leaves.
use Rattle.std.proofs.Common.{◌≡◌, ◌≢◌, ℕ, zero, suc, List, [], ◌∷◌, drop, take, slice_get, slice_set, Option, Some, None, refl, ap, arith}
use Rattle.btx_step.proofs.Common.{Callee, Literal, Integer, Text, Function, StepOutput, Job, Store, EntryVariables, Answer, says, with_literals, on_operands, row}
use Rattle.btx_bst.specs.declared.built_in.BuiltIn.TheVariants as built_in
use Rattle.btx_bst.specs.declared.callee.Callee.TheVariants as callee
use Rattle.btx_step.specs.laws.Leaves.{StandUnder, IsOther}
use Rattle.btx_step.specs.language.Variables as variables

-- the literals `below` stand, the current entry is `current`, all entries but `changed` are as in `entries`, and `deepest` bodies were open at once
pub record Leaves (below : List Literal) (current : Option ℕ) (entries : List EntryVariables) (deepest : ℕ) (changed : Option ℕ) (a : Answer) : Type 0 where
  pub stand : StandUnder below a.store.literals
  pub stays : a.store.current ≡ current
  pub deep : a.store.deepest ≡ deepest
  pub others : (entry : ℕ) → IsOther changed entry → slice_get a.store.entries entry ≡ slice_get entries entry

-- what was written to one place is read at no other
pub read_other : {X : Type 0} (xs : List X) (i j : ℕ) (v : X) → j ≢ i → slice_get (slice_set xs i v) j ≡ slice_get xs j
read_other [] i j v apart = refl
read_other (x ∷ xs) zero zero v apart = absurd (apart refl)
read_other (x ∷ xs) zero (suc j) v apart = refl
read_other (x ∷ xs) (suc i) zero v apart = refl
read_other (x ∷ xs) (suc i) (suc j) v apart = read_other xs i j v (λ e. apart (ap suc e))

nothing_above : (below : List Literal) → StandUnder below below
nothing_above below = record { results = []; few = omega arith; above = refl }

-- entries are as they were
untouched : (changed : Option ℕ) (words : StepOutput) (s : Store) → Leaves s.literals s.current s.entries s.deepest changed (says words s)
untouched changed words s = record { stand = nothing_above s.literals; stays = refl; deep = refl; others = λ entry apart. refl }

entry_integer : (i entry : ℕ) (v : Literal) (s : Store)
    → Leaves s.literals s.current s.entries s.deepest (Some entry) (variables.stores_integer (variables.with_entry_integer entry i) v s)
entry_integer i entry (Integer n) s =
    record { stand = nothing_above s.literals; stays = refl; deep = refl; others = λ other apart. read_other s.entries entry other _ apart }
entry_integer i entry v s = untouched (Some entry) _ s

entry_string : (most i entry : ℕ) (v : Literal) (s : Store)
    → Leaves s.literals s.current s.entries s.deepest (Some entry) (variables.stores_string most (variables.with_entry_string entry i) v s)
entry_string most i entry (Text text) s =
    record { stand = nothing_above s.literals; stays = refl; deep = refl; others = λ other apart. read_other s.entries entry other _ apart }
entry_string most i entry v s = untouched (Some entry) _ s

in_entry : (go : ℕ → Store → Answer) (current : Option ℕ) (s : Store)
    → ((entry : ℕ) → Leaves s.literals s.current s.entries s.deepest (Some entry) (go entry s))
    → Leaves s.literals s.current s.entries s.deepest current (variables.in_entry go current s)
in_entry go None s h = untouched None _ s
in_entry go (Some entry) s h = h entry

global_integer : (i : ℕ) (changed : Option ℕ) (v : Literal) (s : Store)
    → Leaves s.literals s.current s.entries s.deepest changed (variables.stores_integer (variables.with_global_integer i) v s)
global_integer i changed (Integer n) s = untouched changed _ (variables.with_global_integer i n s)
global_integer i changed v s = untouched changed _ s

global_string : (most i : ℕ) (changed : Option ℕ) (v : Literal) (s : Store)
    → Leaves s.literals s.current s.entries s.deepest changed (variables.stores_string most (variables.with_global_string i) v s)
global_string most i changed (Text text) s = untouched changed _ (variables.with_global_string i (take most text) s)
global_string most i changed v s = untouched changed _ s

assigned_to : (job : Job) (f : Callee) (v : Literal) (s : Store) → Leaves s.literals s.current s.entries s.deepest s.current (variables.assigns job f v s)
assigned_to job (callee.GlobalInteger i) v s = global_integer i s.current v s
assigned_to job (callee.GlobalString i) v s = global_string job.global_max i s.current v s
assigned_to job (callee.EntryInteger i) v s =
    in_entry (λ entry. variables.stores_integer (variables.with_entry_integer entry i) v) s.current s (λ entry. entry_integer i entry v s)
assigned_to job (callee.EntryString i) v s =
    in_entry (λ entry. variables.stores_string job.entry_max (variables.with_entry_string entry i) v) s.current s
    (λ entry. entry_string job.entry_max i entry v s)
assigned_to job f v s = untouched s.current _ s

pub assigned : (job : Job) (xs : List Literal) (s : Store)
    → Leaves (drop 2 xs) s.current s.entries s.deepest s.current
    (on_operands (row built_in.Assign).operands (row built_in.Assign).default (variables.assigns job) xs s)
assigned job [] s = untouched s.current _ (with_literals [] s)
assigned job (Function f ∷ []) s = untouched s.current _ (with_literals [] s)
assigned job (x ∷ []) s = untouched s.current _ (with_literals [] s)
assigned job (Function f ∷ v ∷ xs) s = assigned_to job f v (with_literals xs s)
assigned job (x ∷ v ∷ xs) s = untouched s.current _ (with_literals xs s)
