-- From functions to commands, and to whole runs.
use Rattle.std.proofs.Common.{◌≡◌, ℕ, zero, suc, ◌+◌, ◌≤◌, ◌<◌, ℤ, pos, List, [], ◌∷◌, ◌++◌, length, map, reverse, Option, None, Some, Bool, true, false}
use Rattle.std.proofs.Common.{take, get_or, refl, sym, ap, subst, ◌∙◌, arith, inl, inr}
use Rattle.std.specs.Prelude.{slice_set, slice_get, unwrap_or, ◌≢◌, replicate}
use Rattle.std.specs.List.{range_with_len}
use Rattle.std.proofs.lemmas.List.{reverse-reverse, length-set, length-replicate, take_more, take_all}
use Rattle.btx_step.specs.language.Starts.{first_store}
use Rattle.btx_step.specs.language.Sorting.{sorted}
use Rattle.btx_step.specs.language.Variables.{string_of, values_of}
use Rattle.std.specs.Option.{is_some, option_map_or}
use Rattle.btx_text.specs.declared.limits.Limit.{Limit as Kind}
use Rattle.btx_bst.specs.language.Style.{Style}
use Rattle.btx_bst.specs.declared.item.Item.{Item as Declared}
use Rattle.btx_bst.specs.refinement.Views.{item_view, items_view}
use Rattle.btx_bst.specs.language.Items.{Item}
use Rattle.btx_bst.specs.language.Items as item
use Rattle.btx_bst.specs.declared.callee.Callee.{Callee}
use Rattle.btx_bst.specs.declared.callee.Callee.TheVariants as callee
use Rattle.btx_bst.specs.declared.token.Token.TheVariants as token
use Rattle.btx_bib.specs.declared.end.End.{End as LibraryEnd}
use Rattle.btx_bib.specs.declared.end.End.TheVariants as library
use Rattle.btx_bib.specs.language.MessageTexts.{message_line}
use Rattle.btx_stack.specs.declared.literal.Literal.{Literal}
use Rattle.btx_stack.specs.declared.literal.Literal.TheVariants.{Integer, Text, Function, Missing}
use Rattle.std.proofs.lemmas.Int.{ints}
use Rattle.btx_step.specs.language.Jobs.{Job}
use Rattle.btx_step.specs.language.Stores.{Store, EntryVariables}
use Rattle.btx_machine.specs.declared.command.Command.{Command}
use Rattle.btx_machine.specs.declared.command.Command.TheVariants as command
use Rattle.btx_machine.specs.language.States.{State, Outcome, Done, Stopped, Limit}
use Rattle.btx_machine.specs.language.Saying.{logging}
use Rattle.btx_machine.specs.language.Meaning.{then_do}
use Rattle.btx_machine.specs.language.MeaningBySteps.{meaning, act}
use Rattle.btx_machine.specs.language.Commands.{in_order, cleared, visit}
use Rattle.btx_machine.specs.language.Items.{read_limit, do_item, do_items, list_after}
use Rattle.btx_step.specs.laws.Leaves.{IsOther}
use Rattle.btx_check.specs.declared.description.Upper.{Upper}
use Rattle.btx_check.specs.declared.description.Upper.TheVariants as upper
use Rattle.btx_check.specs.declared.description.Value.{Value}
use Rattle.btx_check.specs.declared.description.Value.TheVariants as value
use Rattle.btx_check.specs.Descriptions.{Below, Is}
use Rattle.btx_bst.specs.language.MessageTexts.{complaint_line}
use Rattle.btx_check.specs.Calm.{AfterDone, CalmAct, CalmVisit, CalmInOrder, CalmItem, CalmItems}
use Rattle.btx_check.specs.Promise.{Promised, IsOf, StyleIsClean, most_steps, first_state}
use Rattle.btx_check.specs.States.{Abstract, Values, values_in, slot, named, Fits, Stack, Stands, In, Among}
use Rattle.btx_check.specs.Inclusion.{Sub}
use Rattle.btx_check.specs.Running.{Sized, Sound, Good, Passes, Starts, Each, IsEmpty}
use Rattle.btx_check.specs.Between.{IsGlobal, IsLocal, Facts, where_entry, Stays, Clear, Describe, Ended, Visited, FoundOnce, FoundForEach, Forgotten}
use Rattle.btx_check.specs.Between.{ItemFound, AllFound, Begins, FoundIsClean}
use Rattle.btx_check.proofs.Orders.{All, all_map, all_both, all_reverse, all_range, all_sorted, Apart, Distinct, turned_round, distinct_reverse, distinct_range}
use Rattle.btx_check.proofs.Orders.{distinct_sorted}
use Rattle.btx_check.proofs.Spared.{Keeps, act_keeps}
use Rattle.btx_check.proofs.RunLemmas.{taking}

start_in : (a : Abstract) → Starts a → (job : Job) (left : ℕ) (s : Store) → left ≤ most_steps → s.literals ≡ [] → is_some s.current ≡ a.entry → In job left a s
start_in a h job left s few e c = (
  [],
  record {
    steps = few;
    values = subst (λ ds. Fits left ds []) (sym h.values) tt;
    stack = subst (λ is. Stack [] is s.literals) (sym h.stack) (subst (λ ls. Stack [] [] ls) (sym e) tt);
    names = λ f x q. subst (λ o. Stands [] o x) (sym (h.names f)) tt;
    entry = c;
  },
)

pub starts_global : (a : Abstract) → Starts a → IsGlobal a
starts_global a h = record {
  stack = h.stack;
  entry_integers = λ i. h.names (callee.EntryInteger i);
  entry_strings = λ i. h.names (callee.EntryString i);
  fields = λ i. h.names (callee.Field i);
}

starts_where : (a : Abstract) → Starts a → (b : Bool) → Starts (where_entry b a)
starts_where a h b = record { stack = h.stack; values = h.values; names = names }
  where
    names : (f : Callee) → slot (where_entry b a) f ≡ None
    names (callee.GlobalInteger k) = h.names (callee.GlobalInteger k)
    names (callee.GlobalString k) = h.names (callee.GlobalString k)
    names (callee.EntryInteger k) = h.names (callee.EntryInteger k)
    names (callee.EntryString k) = h.names (callee.EntryString k)
    names (callee.Field k) = h.names (callee.Field k)
    names (callee.BuiltIn k) = refl
    names (callee.User k) = refl

-- a description of global variables stands for the store whichever entry is current
switched : (g : Abstract) → IsGlobal g → (b : Bool) (job : Job) (left : ℕ) (s : Store) → In job left (where_entry b g) s → (entry : Option ℕ) (c : Bool)
    → is_some entry ≡ c → In job left (where_entry c g) (record s { current = entry })
switched g h b job left s i entry c e = (
  i.0,
  record {
    steps = i.1.steps;
    values = i.1.values;
    stack = i.1.stack;
    names = names;
    entry = e;
  },
)
  where
    names : (f : Callee) (x : Literal) → named job (values_in (record s { current = entry })) f ≡ Some x → Stands i.0 (slot (where_entry c g) f) x
    names (callee.GlobalInteger k) x q = i.1.names (callee.GlobalInteger k) x q
    names (callee.GlobalString k) x q = i.1.names (callee.GlobalString k) x q
    names (callee.EntryInteger k) x q = subst (λ o. Stands i.0 o x) (sym (h.entry_integers k)) tt
    names (callee.EntryString k) x q = subst (λ o. Stands i.0 o x) (sym (h.entry_strings k)) tt
    names (callee.Field k) x q = subst (λ o. Stands i.0 o x) (sym (h.fields k)) tt
    names (callee.BuiltIn b) x q = tt
    names (callee.User k) x q = tt

stack_none : (v : List Literal) (ls : List Literal) → Stack v [] ls → ls ≡ []
stack_none v [] h = refl
stack_none v (x ∷ ls) h = absurd h

none_left : (job : Job) (left : ℕ) (xs : List Abstract) (s : Store) → Each IsEmpty xs → Among job left xs s → s.literals ≡ []
none_left job left [] s h i = absurd i
none_left job left (a ∷ xs) s h (inl i) = stack_none i.0 s.literals (subst (λ is. Stack i.0 is s.literals) h.0 i.1.stack)
none_left job left (a ∷ xs) s h (inr i) = none_left job left xs s h.1 i

only : (job : Job) (left : ℕ) (a : Abstract) (s : Store) → Among job left (a ∷ []) s → In job left a s
only job left a s (inl h) = h
only job left a s (inr h) = absurd h

-- ---- what is known of an entry

-- a literal is described with fewer steps left, too
below_fewer : (left less : ℕ) (high : Upper) (n : ℤ) → less ≤ left → Below left high n → Below less high n
below_fewer left less (upper.Number None) n l h = tt
below_fewer left less (upper.Number (Some high)) n l h = h
below_fewer left less upper.Counter n l h = omega (arith, ints, h, l)

is_fewer : (left less : ℕ) (d : Value) (x : Literal) → less ≤ left → Is left d x → Is less d x
is_fewer left less value.Any x l h = tt
is_fewer left less (value.Integer low high) (Integer n) l h = (h.0, below_fewer left less high n l h.1)
is_fewer left less (value.Integer low high) (Text t) l h = absurd h
is_fewer left less (value.Integer low high) (Function f) l h = absurd h
is_fewer left less (value.Integer low high) Missing l h = absurd h
is_fewer left less (value.Text m) (Integer n) l h = absurd h
is_fewer left less (value.Text m) (Text t) l h = h
is_fewer left less (value.Text m) (Function f) l h = absurd h
is_fewer left less (value.Text m) Missing l h = h
is_fewer left less (value.Function f) (Integer n) l h = absurd h
is_fewer left less (value.Function f) (Text t) l h = absurd h
is_fewer left less (value.Function f) (Function g) l h = h
is_fewer left less (value.Function f) Missing l h = absurd h

fits_fewer : (left less : ℕ) (ds : List Value) (v : List Literal) → less ≤ left → Fits left ds v → Fits less ds v
fits_fewer left less [] [] l h = tt
fits_fewer left less [] (x ∷ v) l h = absurd h
fits_fewer left less (d ∷ ds) [] l h = absurd h
fits_fewer left less (d ∷ ds) (x ∷ v) l h = (is_fewer left less d x l h.0, fits_fewer left less ds v l h.1)

-- an entry as where it is current, and nothing is on the stack
abbrev pub with_current : Store → ℕ → Store
with_current s entry = record s { literals = []; current = Some entry }

abbrev no_values : EntryVariables
no_values = record { integers = []; strings = [] }

-- a description of an entry stands for it as long as its variables stay
local_stays : (job : Job) (left less : ℕ) (s t : Store) (entry : ℕ) (a : Abstract) → IsLocal a → less ≤ left → slice_get t.entries entry
    ≡ slice_get s.entries entry
    → In job left a (with_current s entry) → In job less a (with_current t entry)
local_stays job left less s t entry a k l e i = (
  i.0,
  record {
    steps = let few = i.1.steps in omega (arith, l, few);
    values = fits_fewer left less a.values i.0 l i.1.values;
    stack = i.1.stack;
    names = names;
    entry = i.1.entry;
  },
)
  where
    names : (f : Callee) (x : Literal) → named job (values_in (with_current t entry)) f ≡ Some x → Stands i.0 (slot a f) x
    names (callee.GlobalInteger k1) x q = subst (λ o. Stands i.0 o x) (sym (k.global_integers k1)) tt
    names (callee.GlobalString k1) x q = subst (λ o. Stands i.0 o x) (sym (k.global_strings k1)) tt
    names (callee.EntryInteger k1) x q = i.1.names (callee.EntryInteger k1) x
        (subst (λ (o : Option EntryVariables). Some (Integer (unwrap_or (slice_get (unwrap_or o no_values).integers k1) (pos 0))) ≡ Some x) e q)
    names (callee.EntryString k1) x q = i.1.names (callee.EntryString k1) x
        (subst (λ (o : Option EntryVariables). Some (Text (unwrap_or (slice_get (unwrap_or o no_values).strings k1) [])) ≡ Some x) e q)
    names (callee.Field k1) x q = i.1.names (callee.Field k1) x q
    names (callee.BuiltIn b) x q = tt
    names (callee.User k1) x q = tt

describe_stays : (job : Job) (left less : ℕ) (s t : Store) (entry : ℕ) (xs : List Abstract) → Each IsLocal xs → less ≤ left
    → slice_get t.entries entry ≡ slice_get s.entries entry → Describe job left xs s entry → Describe job less xs t entry
describe_stays job left less s t entry [] k l e i = absurd i
describe_stays job left less s t entry (a ∷ xs) k l e (inl i) = inl (local_stays job left less s t entry a k.0 l e i)
describe_stays job left less s t entry (a ∷ xs) k l e (inr i) = inr (describe_stays job left less s t entry xs k.1 l e i)

-- ---- one visit

-- after a visit: nothing is on the stack, one of its ends stands for the store, and the variables of other entries are those of `s`
pub record Went (job : Job) (ends : List Abstract) (entry : Option ℕ) (most : ℕ) (s : Store) (left : ℕ) (t : State) : Type 0 where
  pub literals : t.store.literals ≡ []
  pub ends_in : Among job left ends (record t.store { literals = []; current = entry })
  pub fewer : left ≤ most
  pub others : (e : ℕ) → IsOther entry e → slice_get t.store.entries e ≡ slice_get s.entries e

end_in : (job : Job) (left : ℕ) (ends : List Abstract) (s : Store) (entry : Option ℕ) → s.literals ≡ [] → s.current ≡ entry → Among job left ends s
    → Among job left ends (record s { literals = []; current = entry })
end_in job left ends s entry e c i = subst (λ (k : Option ℕ). Among job left ends (record s { literals = []; current = k })) c
    (subst (λ (k : List Literal). Among job left ends (record s { literals = k })) e i)

went : (job : Job) (m : ℕ) (word : Command) (entry : Option ℕ) (most : ℕ) (s : Store) (ends : List Abstract) (calm : Type 0) (o : Outcome)
    → Each IsEmpty ends → Passes calm (Good job m ends o) → Keeps (record s { current = entry }) most o
    → Passes (calm × AfterDone o (λ left t. t.store.literals ≡ []))
    (Ended job m (Went job ends entry most s) (then_do o (λ left t. Done (cleared job word t) left)))
went job m word entry most s ends calm (Done t left) h g k =
    let sound = g.ends_so.0 in
    let none = none_left job left ends t.store h g.ends_so.1 in
    let was : Went job ends entry most s left (cleared job word t) = record {
      literals = refl;
      ends_in = end_in job left ends t.store entry none k.0.current g.ends_so.1;
      fewer = k.1;
      others = k.0.others;
    } in
    record { is_calm = (g.is_calm, none); ends_so = (sound, was) }
went job m word entry most s ends calm (Stopped t) h g k = record { is_calm = (g.is_calm, tt); ends_so = g.ends_so }
went job m word entry most s ends calm (Limit kind t left) h g k = record { is_calm = (g.is_calm, tt); ends_so = g.ends_so }

sized_at : (job : Job) (n : Values) (entry : Option ℕ) → ((e : ℕ) → entry ≡ Some e → e < length job.library.entries) → Sized job n
    → Sized job (record n { current = entry })
sized_at job n entry there z = let k = z.entries in record {
  integers = z.integers;
  strings = z.strings;
  entries = z.entries;
  entry_integers = z.entry_integers;
  entry_strings = z.entry_strings;
  current = λ e q. let l = there e q in omega (arith, k, l);
}

visit_went : (style : Style) (allowed : List ℕ) (f : Callee) (m : ℕ) (starts ends : List Abstract) → Visited style allowed f m starts ends → m ≤ 4096
    → (job : Job) → IsOf style allowed job → (word : Command) (entry : Option ℕ)
    → ((e : ℕ) → entry ≡ Some e → e < length job.library.entries) → (left : ℕ) (s : State)
    → Among job left starts (record s.store { current = entry }) → Sound job m s
    → Passes (CalmVisit job f entry left s) (Ended job m (Went job ends entry left s.store) (visit job word f entry left s))
unfolding visit meaning
visit_went style allowed f m starts ends h lm job of word entry there left s i fine =
    let now = record s { store = record s.store { current = entry } } in
    let z : Sized job (values_in now.store) = sized_at job (values_in s.store) entry there fine.1 in
    went job m word entry left s.store ends (CalmAct job (suc left) (token.Run f) 0 0 left now) (act job (suc left) (token.Run f) 0 0 left now) h.empty
    (h.runs job of (suc left) m 0 0 left now i (fine.0, z) (omega arith) lm (omega arith))
    (act_keeps job (suc left) (token.Run f) 0 0 left now)

-- what is known of global variables after a visit
clear_after : (job : Job) (b : Bool) (ends : List Abstract) (entry : Option ℕ) (most : ℕ) (s : Store) (g : Abstract) → IsGlobal g
    → Sub ends (where_entry b g ∷ []) → (left : ℕ) (t : State) → Went job ends entry most s left t → Clear job g left t
clear_after job b ends entry most s g k kept left t w =
    let now = record t.store { literals = []; current = entry } in (
      w.literals,
      subst (λ (ls : List Literal). In job left (where_entry false g) (record t.store { literals = ls; current = None })) (sym w.literals)
          (switched g k b job left now (only job left (where_entry b g) now (kept job left now w.ends_in)) None false refl),
    )

ended_then : (job : Job) (m : ℕ) (Q R : ℕ → State → Type 0) (first : Type 0) (o : Outcome) (go : ℕ → State → Outcome) (calm : ℕ → State → Type 0)
    → Passes first (Ended job m Q o) → ((left : ℕ) (t : State) → Q left t → Sound job m t → Passes (calm left t) (Ended job m R (go left t)))
    → Passes (first × AfterDone o calm) (Ended job m R (then_do o go))
ended_then job m Q R first (Done s left) go calm h k =
    let rest = k left s h.ends_so.1 h.ends_so.0 in record { is_calm = (h.is_calm, rest.is_calm); ends_so = rest.ends_so }
ended_then job m Q R first (Stopped s) go calm h k = record { is_calm = (h.is_calm, tt); ends_so = h.ends_so }
ended_then job m Q R first (Limit kind s left) go calm h k = record { is_calm = (h.is_calm, tt); ends_so = h.ends_so }

ended_so : (job : Job) (m : ℕ) (Q R : ℕ → State → Type 0) (o : Outcome) → Ended job m Q o → ((left : ℕ) (t : State) → Q left t → R left t) → Ended job m R o
ended_so job m Q R (Done s left) h k = (h.0, k left s h.1)
ended_so job m Q R (Stopped s) h k = h
ended_so job m Q R (Limit kind s left) h k = h

ended_map : (job : Job) (m : ℕ) (Q R : ℕ → State → Type 0) (calm : Type 0) (o : Outcome) → Passes calm (Ended job m Q o)
    → ((left : ℕ) (t : State) → Q left t → R left t) → Passes calm (Ended job m R o)
ended_map job m Q R calm o h k = record { is_calm = h.is_calm; ends_so = ended_so job m Q R o h.ends_so k }

-- ---- whole commands

-- each entry of the list is one of the library
abbrev pub AllBelow : Job → List ℕ → Type 0
AllBelow job list = All (λ e. e < length job.library.entries) list

-- each entry of the list is described
abbrev pub AllDescribed : Job → ℕ → List Abstract → Store → List ℕ → Type 0
AllDescribed job left entries s list = All (Describe job left entries s) list

-- what is known between commands
pub record Full (job : Job) (k : Facts) (list : List ℕ) (left : ℕ) (s : State) : Type 0 where
  pub clear : Clear job k.globals left s
  pub entries : AllDescribed job left k.entries s.store list

some_is : (x y : ℕ) → Some x ≡ Some y → x ≡ y
some_is x y e = cc

execute_clean : (style : Style) (allowed : List ℕ) (f : Callee) (m : ℕ) (g h : Facts) → FoundOnce style allowed f m g h → Each IsLocal g.entries → (job : Job)
    → IsOf style allowed job → (list : List ℕ) (left : ℕ) (s : State) → Full job g list left s → Sound job m s
    → Passes (CalmVisit job f None left s) (Ended job m (Full job h list) (visit job command.Execute f None left s))
execute_clean style allowed f m g h found k job of list left s i fine =
    let x = found.found in
    ended_map job m (Went job x.ends None left s.store) (Full job h list) (CalmVisit job f None left s) (visit job command.Execute f None left s)
    (visit_went style allowed f m (where_entry false g.globals ∷ []) x.ends x.visited x.few_bodies job of command.Execute None
    (λ e q. absurd (cc)) left s (inl i.clear.1) fine)
    (λ l t w. record {
      clear = clear_after job false x.ends None left s.store h.globals x.after_is x.kept l t w;
      entries = subst (λ (xs : List Abstract). AllDescribed job l xs t.store list) (sym found.entries)
          (all_map (Describe job left g.entries s.store) (Describe job l g.entries t.store)
          (λ e d. describe_stays job left l s.store t.store e g.entries k w.fewer (w.others e tt) d) list i.entries);
    })

-- after the visits of some entries: each of them is described anew, and the variables of others are those of `s`
pub record Came (job : Job) (k : Facts) (list : List ℕ) (most : ℕ) (s : Store) (left : ℕ) (t : State) : Type 0 where
  pub full : Full job k list left t
  pub fewer : left ≤ most
  pub others : (e : ℕ) → Apart e list → slice_get t.store.entries e ≡ slice_get s.entries e

module _ (style : Style) (allowed : List ℕ) (f : Callee) (m : ℕ) (g h : Facts) (found : FoundForEach style allowed f m g h) (k : Each IsLocal g.entries)
    (job : Job) (of : IsOf style allowed job) (word : Command) where
  abbrev CalmEach : List ℕ → ℕ → State → Type 0
  CalmEach = CalmInOrder (λ entry. visit job word f (Some entry)) (λ entry. CalmVisit job f (Some entry))

  one_went : (x left : ℕ) (s : State) → x < length job.library.entries → Clear job h.globals left s → Describe job left g.entries s.store x
      → Sound job m s
      → Passes (CalmVisit job f (Some x) left s) (Ended job m (Went job found.ends (Some x) left s.store) (visit job word f (Some x) left s))
  one_went x left s l c d fine =
      let now = record s.store { current = Some x } in
      let global : In job left (where_entry true h.globals) now = switched h.globals found.global false job left (record s.store { current = None }) c.1
      (Some x) true refl in
      let local : Among job left g.entries now = subst (λ (ls : List Literal). Among job left g.entries (record s.store { literals = ls; current = Some x }))
      (sym c.0) d in
      visit_went style allowed f m found.starts found.ends found.visited found.few_bodies job of word (Some x)
      (λ y q. subst (λ (z : ℕ). z < length job.library.entries) (some_is x y q) l) left s (found.joint.joint job left now global local) fine

  visits_came : (xs : List ℕ) (left : ℕ) (s : State) → AllBelow job xs → Distinct xs → Clear job h.globals left s → AllDescribed job left g.entries s.store xs
      → Sound job m s → Passes (CalmEach xs left s) (Ended job m (Came job h xs left s.store) (in_order (λ entry. visit job word f (Some entry)) xs left s))
  visits_came [] left s b d c i fine = record {
    is_calm = tt;
    ends_so = (fine, record { full = record { clear = c; entries = tt }; fewer = omega arith; others = λ e apart. refl });
  }
  visits_came (x ∷ xs) left s b d c i fine =
      ended_then job m (Went job found.ends (Some x) left s.store) (Came job h (x ∷ xs) left s.store) (CalmVisit job f (Some x) left s)
      (visit job word f (Some x) left s) (in_order (λ entry. visit job word f (Some entry)) xs) (CalmEach xs) (one_went x left s b.0 c i.0 fine)
      (λ l t w fine1. ended_map job m (Came job h xs l t.store) (Came job h (x ∷ xs) left s.store) (CalmEach xs l t)
      (in_order (λ entry. visit job word f (Some entry)) xs l t)
      (visits_came xs l t b.1 d.1 (clear_after job true found.ends (Some x) left s.store h.globals found.global found.closes.kept l t w)
      (all_both (λ y. y ≢ x) (Describe job left g.entries s.store) (Describe job l g.entries t.store)
      (λ y a q. describe_stays job left l s.store t.store y g.entries k w.fewer (w.others y a) q) xs d.0 i.1) fine1)
      (λ l2 u v. record {
        full = record {
          clear = v.full.clear;
          entries = (describe_stays job l l2 t.store u.store x h.entries found.local v.fewer (v.others x d.0) (described l t w), v.full.entries);
        };
        fewer = let p = w.fewer in let q = v.fewer in omega (arith, p, q);
        others = λ e apart. v.others e apart.1 ∙ w.others e (turned_round x e apart.0);
      }))
    where
      described : (l : ℕ) (t : State) → Went job found.ends (Some x) left s.store l t → Describe job l h.entries t.store x
      described l t w = found.closes.into job l (with_current t.store x) w.ends_in

  each_clean : (list : List ℕ) (left : ℕ) (s : State) → AllBelow job list → Distinct list → Full job g list left s → Sound job m s
      → Passes (CalmEach list left s) (Ended job m (Full job h list) (in_order (λ entry. visit job word f (Some entry)) list left s))
  each_clean list left s b d i fine =
      ended_map job m (Came job h list left s.store) (Full job h list) (CalmEach list left s)
      (in_order (λ entry. visit job word f (Some entry)) list left s)
      (visits_came list left s b d (i.clear.0, found.closes.weaker.within job left (record s.store { current = None }) i.clear.1) i.entries fine)
      (λ l t c. c.full)

full_reverse : (job : Job) (k : Facts) (list : List ℕ) (left : ℕ) (s : State) → Full job k list left s → Full job k (reverse list) left s
full_reverse job k list left s i = record { clear = i.clear; entries = all_reverse (Describe job left k.entries s.store) list i.entries }

full_back : (job : Job) (k : Facts) (list : List ℕ) (left : ℕ) (s : State) → Full job k (reverse list) left s → Full job k list left s
full_back job k list left s i = subst (λ (xs : List ℕ). Full job k xs left s) (reverse-reverse list) (full_reverse job k (reverse list) left s i)

-- READ: of each entry of the library nothing is known
forgotten_full : (job : Job) (g : Abstract) (k : Facts) → Forgotten g k → (list : List ℕ) (left : ℕ) (s : State) → Clear job g left s → Full job k list left s
forgotten_full job g k h list left s c = record {
  clear = subst (λ (a : Abstract). Clear job a left s) (sym h.globals_are) c;
  entries = subst (λ (xs : List Abstract). AllDescribed job left xs s.store list) (sym h.entries)
      (all_map (λ e. Unit {0}) (Describe job left (h.unknown ∷ []) s.store) (λ e u. inl (start_in h.unknown h.starts job left (with_current s.store e)
      c.1.1.steps refl (sym h.current))) list (anything list));
}
  where
    anything : (xs : List ℕ) → All (λ e. Unit {0}) xs
    anything [] = tt
    anything (x ∷ xs) = (tt, anything xs)

read_clean : (job : Job) (m : ℕ) (k : Facts) (list : List ℕ) (left : ℕ) (s : State) → Full job k list left s → Sound job m s
    → (ending : LibraryEnd) → Ended job m (Full job k list) (option_map_or (λ (kind : Kind). Limit kind s left) (read_limit ending) (Done s left))
read_clean job m k list left s i f library.Whole = (f, i)
read_clean job m k list left s i f library.FileLimit = (f, tt)
read_clean job m k list left s i f library.StringLimit = (f, tt)

full_same : (job : Job) (g h : Facts) (list : List ℕ) (left : ℕ) (s : State) → g ≡ h → Full job g list left s → Full job h list left s
full_same job g h list left s k i = subst (λ (x : Facts). Full job x list left s) k i

item_clean : (style : Style) (allowed : List ℕ) (m : ℕ) (x : Item) (g h : Facts) → ItemFound style allowed m x g h → Each IsLocal g.entries → (job : Job)
    → IsOf style allowed job → (list : List ℕ) (left : ℕ) (s : State) → AllBelow job list → Distinct list
    → Full job g list left s → Sound job m s
    → Passes (CalmItem job list x left s) (Ended job m (Full job h (list_after job x list s.store)) (do_item job list x left s))
unfolding do_item
item_clean style allowed m (item.Message complaint line) g h k local job of list left s b d i f =
    record { is_calm = tt; ends_so = (f, full_logged (full_same job g h list left s k i)) }
  where
    full_logged : Full job h list left s → Full job h list left (logging (complaint_line complaint line job.style.file ∷ []) s)
    full_logged j = record { clear = j.clear; entries = j.entries }
item_clean style allowed m item.Read g h k local job of list left s b d i f =
    let read = logging (map message_line job.library.messages) s in
    let all = range_with_len 0 (length job.library.entries) in
    record {
      is_calm = tt;
      ends_so = read_clean job m h all left read (forgotten_full job g.globals h k all left read i.clear) f job.library.ending;
    }
item_clean style allowed m (item.Execute c) g h k local job of list left s b d i f = execute_clean style allowed c m g h k local job of list left s i f
item_clean style allowed m (item.Iterate c) g h k local job of list left s b d i f =
    each_clean style allowed c m g h k local job of command.Iterate list left s b d i f
item_clean style allowed m (item.Reverse c) g h k local job of list left s b d i f =
    ended_map job m (Full job h (reverse list)) (Full job h list) (CalmItem job list (item.Reverse c) left s)
    (in_order (λ entry. visit job command.Reverse c (Some entry)) (reverse list) left s)
    (each_clean style allowed c m g h k local job of command.Reverse (reverse list) left s (all_reverse (λ e. e < length job.library.entries) list b)
    (distinct_reverse list d) (full_reverse job g list left s i) f) (λ l t j. full_back job h list l t j)
item_clean style allowed m item.Sort g h k local job of list left s b d i f =
    let full : Full job h (sorted (λ (entry : ℕ). string_of s.store.entries entry 0) list) left s = record {
      clear = (full_same job g h list left s k i).clear;
      entries = all_sorted (Describe job left h.entries s.store) (λ (entry : ℕ). string_of s.store.entries entry 0) list
          (full_same job g h list left s k i).entries;
    } in
    record { is_calm = tt; ends_so = (f, full) }
item_clean style allowed m _ g h k local job of list left s b d i f = record { is_calm = tt; ends_so = (f, full_same job g h list left s k i) }

list_below : (job : Job) (x : Item) (list : List ℕ) (s : Store) → AllBelow job list → AllBelow job (list_after job x list s)
list_below job item.Read list s b = all_range (λ e. e < length job.library.entries) 0 (length job.library.entries) (λ x l g. omega (arith, g))
list_below job item.Sort list s b = all_sorted (λ e. e < length job.library.entries) (λ (entry : ℕ). string_of s.entries entry 0) list b
list_below job _ list s b = b

list_distinct : (job : Job) (x : Item) (list : List ℕ) (s : Store) → Distinct list → Distinct (list_after job x list s)
list_distinct job item.Read list s d = distinct_range 0 (length job.library.entries)
list_distinct job item.Sort list s d = distinct_sorted (λ (entry : ℕ). string_of s.entries entry 0) list d
list_distinct job _ list s d = d

starts_local : (a : Abstract) → Starts a → IsLocal a
starts_local a h = record {
  stack = h.stack;
  global_integers = λ i. h.names (callee.GlobalInteger i);
  global_strings = λ i. h.names (callee.GlobalString i);
}

forgotten_local : (g : Abstract) (h : Facts) → Forgotten g h → Each IsLocal h.entries
forgotten_local g h k = subst (λ (xs : List Abstract). Each IsLocal xs) (sym k.entries) (starts_local k.unknown k.starts, tt)

item_local : (style : Style) (allowed : List ℕ) (m : ℕ) (x : Item) (g h : Facts) → ItemFound style allowed m x g h → Each IsLocal g.entries
    → Each IsLocal h.entries
item_local style allowed m (item.Execute c) g h k l = subst (λ (xs : List Abstract). Each IsLocal xs) (sym k.entries) l
item_local style allowed m (item.Iterate c) g h k l = k.local
item_local style allowed m (item.Reverse c) g h k l = k.local
item_local style allowed m item.Read g h k l = forgotten_local g.globals h k
item_local style allowed m _ g h k l = subst (λ (x : Facts). Each IsLocal x.entries) k l

items_clean : (style : Style) (allowed : List ℕ) (m : ℕ) (g : Facts) (xs : List Item) (h : Facts) → AllFound style allowed m g xs h → Each IsLocal g.entries
    → (job : Job) → IsOf style allowed job → (list : List ℕ) (left : ℕ) (s : State) → AllBelow job list → Distinct list → Full job g list left s
    → Sound job m s → Passes (CalmItems job xs list left s) (Ended job m (λ l t. Unit {0}) (do_items job xs list left s))
unfolding do_items
items_clean style allowed m g [] h k local job of list left s b d i f = record { is_calm = tt; ends_so = (f, tt) }
items_clean style allowed m g (x ∷ xs) h k local job of list left s b d i f =
    let after = list_after job x list s.store in
    ended_then job m (Full job k.0 after) (λ l t. Unit {0}) (CalmItem job list x left s) (do_item job list x left s) (do_items job xs after)
    (CalmItems job xs after) (item_clean style allowed m x g k.0 k.1.0 local job of list left s b d i f)
    (λ l t e1 f1. items_clean style allowed m k.0 xs h k.1.1 (item_local style allowed m x g k.0 k.1.0 local) job of after l t
    (list_below job x list s.store b) (list_distinct job x list s.store d) e1 f1)

promised : (job : Job) (m : ℕ) (Q : ℕ → State → Type 0) (o : Outcome) → Ended job m Q o → Promised m o
promised job m Q (Done s left) h = h.0.0
promised job m Q (Stopped s) h = h.0
promised job m Q (Limit kind s left) h = (h.0.0, h.1)

-- the first store
values_at : (n entry : ℕ) (x : EntryVariables) → entry < n → values_of (replicate n x) entry ≡ x
values_at zero entry x l = absurd (omega (arith, l))
values_at (suc n) zero x l = refl
values_at (suc n) (suc entry) x l = values_at n entry x (omega (arith, l))

first_sized : (job : Job) → Sized job (values_in (first_store job))
first_sized job =
    let names = job.style.names in
    let n = length job.library.entries in
    let own : EntryVariables = record { integers = replicate (length names.entry_integers) (pos 0); strings = replicate (length names.entry_strings) [] } in
    let li = length-replicate (length names.entry_integers) (pos 0) in
    record {
      integers = length-set (slice_set (replicate (length names.global_integers) (pos 0)) 0 (pos job.entry_max)) 1 (pos job.global_max)
          ∙ (length-set (replicate (length names.global_integers) (pos 0)) 0 (pos job.entry_max) ∙ length-replicate (length names.global_integers) (pos 0));
      strings = length-replicate (length names.global_strings) _;
      entries = length-replicate n own;
      entry_integers = λ entry l. ap (λ (v : EntryVariables). length v.integers) (values_at n entry own (subst (λ k. entry < k) (length-replicate n own) l))
          ∙ li;
      entry_strings = λ entry l. ap (λ (v : EntryVariables). length v.strings) (values_at n entry own (subst (λ k. entry < k) (length-replicate n own) l))
          ∙ length-replicate (length names.entry_strings) _;
      current = λ e q. absurd (cc);
    }

pub found_clean : FoundIsClean
found_clean style allowed m after h job of counts budget few =
    let q : AllFound style allowed m h.first job.style.items after = subst (λ (st : Style). AllFound style allowed m h.first st.items after) (sym of.same)
    h.found in
    let z : Stays job budget h.globals (first_store job) = start_in (where_entry false h.globals) (starts_where h.globals h.starts false) job budget
    (record (first_store job) { current = None }) few refl refl in
    let run = items_clean style allowed m h.first job.style.items after q (forgotten_local h.globals h.first h.forgotten) job of [] budget
    (first_state job counts) tt tt (forgotten_full job h.globals h.first h.forgotten [] budget (first_state job counts) (refl, z))
    (omega arith, first_sized job) in
    (run.is_calm, promised job m (λ l t. Unit {0}) (do_items job job.style.items [] budget (first_state job counts)) run.ends_so)

-- ---- in the form in which the code meets them

pub empty_more : (xs : List Abstract) (k : ℕ) (a : Abstract) → k < length xs → a ≡ get_or xs k a → a.stack ≡ [] → Each IsEmpty (take k xs)
    → Each IsEmpty (take (k + 1) xs)
empty_more xs k a l e h g = subst (λ (ys : List Abstract). Each IsEmpty ys) (sym (taking xs k a l e)) (snoc (take k xs) g)
  where
    snoc : (ys : List Abstract) → Each IsEmpty ys → Each IsEmpty (ys ++ a ∷ [])
    snoc [] g = (h, tt)
    snoc (y ∷ ys) g = (g.0, snoc ys g.1)

found_snoc : (style : Style) (allowed : List ℕ) (m : ℕ) (x : Declared) (g : Facts) (ys : List Declared) (h k : Facts)
    → AllFound style allowed m g (items_view ys) h → ItemFound style allowed m (item_view x) h k
    → AllFound style allowed m g (items_view (ys ++ x ∷ [])) k
found_snoc style allowed m x g [] h k e i = (k, (subst (λ (y : Facts). ItemFound style allowed m (item_view x) y k) (sym e) i, refl))
found_snoc style allowed m x g (y ∷ ys) h k e i = (e.0, (e.1.0, found_snoc style allowed m x e.0 ys h k e.1.1 i))

pub begins : (style : Style) (allowed : List ℕ) (m : ℕ) (a : Abstract) (k : Facts) → Starts a → Forgotten a k → Begins style allowed m [] k
begins style allowed m a k h i = record { globals = a; starts = h; first = k; forgotten = i; found = refl }

pub found_more : (style : Style) (allowed : List ℕ) (m : ℕ) (xs : List Declared) (n : ℕ) (d : Declared) (h k : Facts) → n < length xs
    → ItemFound style allowed m (item_view (get_or xs n d)) h k → Begins style allowed m (items_view (take n xs)) h
    → Begins style allowed m (items_view (take (n + 1) xs)) k
found_more style allowed m xs n d h k l i g =
    subst (λ (ys : List Declared). Begins style allowed m (items_view ys) k) (sym (take_more xs n d l))
    (record {
      globals = g.globals;
      starts = g.starts;
      first = g.first;
      forgotten = g.forgotten;
      found =
          found_snoc style allowed m (get_or xs n d) g.first (take n xs) h k g.found i;
    })

pub found_all : (style : Style) (allowed : List ℕ) (m n : ℕ) (xs : List Declared) (h : Facts) → length xs ≤ n → items_view xs ≡ style.items
    → Begins style allowed m (items_view (take n xs)) h → StyleIsClean style allowed m
found_all style allowed m n xs h l e g =
    found_clean style allowed m h (subst (λ (zs : List Item). Begins style allowed m zs h) e
    (subst (λ (ys : List Declared). Begins style allowed m (items_view ys) h) (take_all n xs l) g))
