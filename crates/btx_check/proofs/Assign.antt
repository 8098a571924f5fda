-- `:=`: of all four kinds of variables.
use Rattle.std.proofs.Common.{◌≡◌, ℕ, zero, suc, ◌<◌, ◌≤◌, ℤ, pos, List, [], ◌∷◌, ◌++◌, length, take, Option, None, Some, Bool, true, false, cond, get_or, refl}
use Rattle.std.proofs.Common.{sym, ap, subst, ◌∙◌, arith, nat_lt, inl, inr}
use Rattle.std.proofs.lemmas.List.{length-set}
use Rattle.std.proofs.lemmas.Bool.{cases_eq}
use Rattle.std.specs.Prelude.{slice_get, slice_set, unwrap_or, ◌||◌, ◌&&◌}
use Rattle.std.specs.List.{list_all}
use Rattle.std.specs.Option.{is_some, option_map_or}
use Rattle.btx_text.specs.language.Class.{is_white}
use Rattle.btx_text.specs.language.Lists.{only_if}
use Rattle.btx_bst.specs.language.Style.{Style}
use Rattle.btx_bst.specs.declared.built_in.BuiltIn.TheVariants as built_in
use Rattle.btx_bst.specs.declared.callee.Callee.{Callee}
use Rattle.btx_bst.specs.declared.callee.Callee.TheVariants as callee
use Rattle.btx_stack.specs.declared.literal.Literal.{Literal}
use Rattle.btx_stack.specs.declared.literal.Literal.TheVariants.{Integer, Text, Function, Missing}
use Rattle.btx_step.specs.declared.said.Note.TheVariants as note
use Rattle.btx_step.specs.declared.said.StepOutput.{StepOutput}
use Rattle.btx_step.specs.declared.said.StepOutput.TheVariants as step_output
use Rattle.btx_step.specs.language.Jobs.{Job}
use Rattle.btx_step.specs.language.Stores.{Store, EntryVariables}
use Rattle.btx_step.specs.language.Answers.{Answer, noted, says, with_literals}
use Rattle.btx_step.specs.declared.literal.OperandKind.TheVariants as wanted
use Rattle.btx_step.specs.declared.operands.Operand.TheVariants.{Of}
use Rattle.btx_step.specs.language.Table.{row}
use Rattle.btx_step.specs.language.Variables.{values_of, integer_of, string_of, with_global_integer, with_global_string, with_entry_integer, with_entry_string}
use Rattle.btx_step.specs.language.Variables.{assigns, in_entry, stores_integer, stores_string}
use Rattle.btx_step.specs.language.Steps.{built_in_run, function_run}
use Rattle.btx_check.specs.declared.description.Mask.{Mask}
use Rattle.btx_check.specs.declared.description.Value.{Value}
use Rattle.btx_check.specs.declared.description.Value.TheVariants as value
use Rattle.btx_check.specs.declared.description.Upper.{Upper}
use Rattle.btx_check.specs.Calm.{Calm}
use Rattle.btx_check.specs.Descriptions.{White, Full, class_of, allows, Is, cut}
use Rattle.btx_check.specs.States.{Abstract, Values, values_in, named, slot, at, Fits, Stack, Stands, Holds, In, with_stack, keeping, putting, putting_text}
use Rattle.btx_check.specs.Inclusion.{Into}
use Rattle.btx_check.specs.Running.{Sized, Leads, StyleRule}
use Rattle.btx_check.specs.Answers.{OpFits, TopsFit}
use Rattle.btx_check.proofs.Holding.{at-last, numbered}
use Rattle.btx_check.proofs.Known.{OnKnown, OnwardAt, row_known}

-- ---- lists in which one element was set

get_set : {X : Type 0} → (xs : List X) (k : ℕ) (x : X) → k < length xs → slice_get (slice_set xs k x) k ≡ Some x
get_set [] k x l = absurd (omega (arith, l))
get_set (y ∷ xs) zero x l = refl
get_set (y ∷ xs) (suc k) x l = get_set xs k x (omega (arith, l))

get_other : {X : Type 0} → (xs : List X) (k j : ℕ) (x : X) → (j ≡ k → ⊥) → slice_get (slice_set xs k x) j ≡ slice_get xs j
get_other [] k j x n = refl
get_other (y ∷ xs) zero zero x n = absurd (n refl)
get_other (y ∷ xs) zero (suc j) x n = refl
get_other (y ∷ xs) (suc k) zero x n = refl
get_other (y ∷ xs) (suc k) (suc j) x n = get_other xs k j x (λ e. n (ap suc e))

set_slots : (os : List (Option ℕ)) (k j n : ℕ) (Q : ℕ → Option ℕ → Type 0) → Q k (Some n) → ((m : ℕ) → Q m None) → ((j ≡ k → ⊥) → Q j (get_or os j None))
    → Q j (get_or (slice_set os k (Some n)) j None)
set_slots [] k j n Q new none old = none j
set_slots (o ∷ os) zero zero n Q new none old = new
set_slots (o ∷ os) zero (suc j) n Q new none old = old (λ e. omega (arith, e))
set_slots (o ∷ os) (suc k) zero n Q new none old = old (λ e. omega (arith, e))
set_slots (o ∷ os) (suc k) (suc j) n Q new none old = set_slots os k j n (λ m. Q (suc m)) new (λ m. none (suc m)) (λ ne. old (λ e. ne (omega (arith, e))))

-- the same of the slots of one kind of names
set_kind : (make : ℕ → Callee) (os : List (Option ℕ)) (k j n : ℕ) (P : Callee → Option ℕ → Type 0) → (make j ≡ make k → j ≡ k) → P (make k) (Some n)
    → ((g : Callee) → P g None) → ((make j ≡ make k → ⊥) → P (make j) (get_or os j None)) → P (make j) (get_or (slice_set os k (Some n)) j None)
set_kind make os k j n P same new none old = set_slots os k j n (λ m. P (make m)) new (λ m. none (make m)) (λ ne. old (λ e. ne (same e)))

abbrev pub IsVariable : Callee → Type 0
IsVariable (callee.GlobalInteger k) = Unit {0}
IsVariable (callee.GlobalString k) = Unit {0}
IsVariable (callee.EntryInteger k) = Unit {0}
IsVariable (callee.EntryString k) = Unit {0}
IsVariable (callee.Field k) = Unit {0}
IsVariable _ = ⊥

slot_put : (a : Abstract) (n : ℕ) (f : Callee) → IsVariable f → (P : Callee → Option ℕ → Type 0) → P f (Some n) → ((g : Callee) → P g None)
    → ((g : Callee) → (g ≡ f → ⊥) → P g (slot a g)) → (g : Callee) → P g (slot (putting f n a) g)
slot_put a n (callee.BuiltIn b) v P new none old g = absurd v
slot_put a n (callee.User i) v P new none old g = absurd v
slot_put a n (callee.GlobalInteger k) v P new none old (callee.GlobalInteger j) =
    set_kind callee.GlobalInteger a.global_integers k j n P (λ e. cc) new none (old (callee.GlobalInteger j))
slot_put a n (callee.GlobalString k) v P new none old (callee.GlobalString j) =
    set_kind callee.GlobalString a.global_strings k j n P (λ e. cc) new none (old (callee.GlobalString j))
slot_put a n (callee.EntryInteger k) v P new none old (callee.EntryInteger j) =
    set_kind callee.EntryInteger a.entry_integers k j n P (λ e. cc) new none (old (callee.EntryInteger j))
slot_put a n (callee.EntryString k) v P new none old (callee.EntryString j) =
    set_kind callee.EntryString a.entry_strings k j n P (λ e. cc) new none (old (callee.EntryString j))
slot_put a n (callee.Field k) v P new none old (callee.Field j) =
    set_kind callee.Field a.fields k j n P (λ e. cc) new none (old (callee.Field j))
slot_put a n f v P new none old g = old g (λ e. absurd (cc))

-- the names after an assignment
pub put_names : (job : Job) (left : ℕ) (a : Abstract) (n m : Values) (f : Callee) (i : ℕ) (x : Literal) (v : List Literal) → IsVariable f
    → named job m f ≡ Some x → at v i ≡ Some x → ((g : Callee) → (g ≡ f → ⊥) → named job m g ≡ named job n g)
    → ((g : Callee) (y : Literal) → named job n g ≡ Some y → Stands v (slot a g) y) → (g : Callee) (y : Literal) → named job m g ≡ Some y
    → Stands v (slot (putting f i a) g) y
put_names job left a n m f i x v var e k others h g =
    slot_put a i f var (λ g o. (y : Literal) → named job m g ≡ Some y → Stands v o y) (λ y q. let same : Some x ≡ Some y = sym e ∙ q in k ∙ same) (λ g y q. tt)
    (λ g ne y q. h g y (sym (others g ne) ∙ q)) g

-- ---- strings that are cut

white_more : (n x : ℕ) (t : List ℕ) → (list_all is_white t ≡ true → list_all is_white (take n t) ≡ true) → (b : Bool) → is_white x ≡ b
    → (b && list_all is_white t) ≡ true
    → (is_white x && list_all is_white (take n t)) ≡ true
white_more n x t ih true q w = subst (λ c. (c && list_all is_white (take n t)) ≡ true) (sym q) (ih w)
white_more n x t ih false q w = absurd (cc)

take_white : (n : ℕ) (t : List ℕ) → list_all is_white t ≡ true → list_all is_white (take n t) ≡ true
take_white zero t e = refl
take_white (suc n) [] e = refl
take_white (suc n) (x ∷ t) e = white_more n x t (take_white n t) (is_white x) refl e

or_right : (a b : Bool) → b ≡ true → (a || b) ≡ true
or_right true b e = refl
or_right false b e = e

or_left : (a b : Bool) → a ≡ true → (a || b) ≡ true
or_left true b e = refl
or_left false b e = absurd (cc)

-- the first bytes of a string, at least one: what isn't empty stays so
cut_is : (left : ℕ) (m : Mask) (most : ℕ) (t : List ℕ) → 1 ≤ most → allows m (class_of t) ≡ true → Is left (value.Text (cut m)) (Text (take most t))
cut_is left m zero t l h = absurd (omega (arith, l))
cut_is left m (suc n) [] l h = h
cut_is left m (suc n) (x ∷ t) l h = go (list_all is_white (x ∷ t)) refl (list_all is_white (x ∷ take n t)) refl h
  where
    go : (b : Bool) → list_all is_white (x ∷ t) ≡ b → (c : Bool) → list_all is_white (x ∷ take n t) ≡ c → allows m (cond b White Full) ≡ true
        → allows (cut m) (cond c White Full) ≡ true
    go true p true q w = or_left m.white m.full w
    go false p true q w = or_right m.white m.full w
    go false p false q w = w
    go true p false q w = let e = take_white (suc n) (x ∷ t) p in absurd (cc)

-- ---- global variables

integer_others : (job : Job) (left : ℕ) (s : Store) (k : ℕ) (n : ℤ) (g : Callee) → (g ≡ callee.GlobalInteger k → ⊥)
    → named job (values_in (with_global_integer k n s)) g ≡ named job (values_in s) g
integer_others job left s k n (callee.GlobalInteger j) ne =
    ap (λ (o : Option ℤ). Some (Integer (unwrap_or o (pos 0)))) (get_other s.integers k j n (λ e. ne (ap callee.GlobalInteger e)))
integer_others job left s k n _ ne = refl

string_others : (job : Job) (left : ℕ) (s : Store) (k : ℕ) (t : List ℕ) (g : Callee) → (g ≡ callee.GlobalString k → ⊥)
    → named job (values_in (with_global_string k t s)) g ≡ named job (values_in s) g
string_others job left s k t (callee.GlobalString j) ne =
    ap (λ (o : Option (List ℕ)). Some (Text (unwrap_or o []))) (get_other s.strings k j t (λ e. ne (ap callee.GlobalString e)))
string_others job left s k t _ ne = refl

-- the row, from what `assigns` does for the one variable
assign_row : (job : Job) (left : ℕ) (f : Callee) (j i : ℕ) (d : Value) (a : Abstract) (below : List ℕ) (to : List Abstract) (s : Store)
    → a.stack ≡ j ∷ i ∷ below → get_or a.values j value.Any ≡ value.Function f → get_or a.values i value.Any ≡ d
    → (h : In job left a s) → ((x : Literal) → at h.0 i ≡ Some x → Is left d x → OnwardAt job left left a h.0 below to s (assigns job f x))
    → Leads job left to s (function_run job (callee.BuiltIn built_in.Assign) s)
unfolding built_in_run
assign_row job left f j i d a below to s e df di h stored = row_known job left left built_in.Assign a below to s refl
    (subst (λ (is : List ℕ). TopsFit a.values (row built_in.Assign).operands is below) (sym e)
    (subst (λ (c : Value). OpFits (Of wanted.Function) c) (sym df) tt, (tt, refl))) h
    (subst (λ (is : List ℕ). OnKnown left (OnwardAt job left left a h.0 below to s) h.0 a.values (row built_in.Assign).operands is
    ((row built_in.Assign).does job)) (sym e)
    (λ w q o x q2 o2. let same : f ≡ w = subst (λ (c : Value). Is left c (Function w)) df o in
    subst (λ (g : Callee). OnwardAt job left left a h.0 below to s (assigns job g x)) same (stored x q2 (subst (λ (c : Value). Is left c x) di o2))))

-- the parts of a description that it keeps where a name's value has another number
put_keeps : (P : List Value → List ℕ → Bool → Type 0) (f : Callee) (i : ℕ) (a : Abstract) → P a.values a.stack a.entry
    → P (putting f i a).values (putting f i a).stack (putting f i a).entry
put_keeps P (callee.GlobalInteger k) i a h = h
put_keeps P _ i a h = h

-- what follows where a variable has another value in `t` than in `s`: the literal `x`, whose number is `i`; `words` are written or logged
assigned : (job : Job) (left : ℕ) (f : Callee) (i : ℕ) (x : Literal) (a : Abstract) (to : List Abstract) (s t : Store) (v : List Literal) (words : StepOutput)
    → IsVariable f → Calm words → t.deepest ≡ s.deepest → (Sized job (values_in s) → Sized job (values_in t)) → t.current ≡ s.current
    → Into (putting f i a) to → Holds job left a (values_in s) t.literals v → at v i ≡ Some x → named job (values_in t) f ≡ Some x
    → ((g : Callee) → (g ≡ f → ⊥) → named job (values_in t) g ≡ named job (values_in s) g) → Leads job left to s (says words t)
assigned job left f i x a to s t v words var calm deepest sized current go w k e others =
    let keeps : Fits left (putting f i a).values v × Stack v (putting f i a).stack t.literals × (is_some t.current ≡ (putting f i a).entry) =
    put_keeps (λ ds is entry. Fits left ds v × Stack v is t.literals × (is_some t.current ≡ entry)) f i a
    (w.values, w.stack, ap (λ (o : Option ℕ). is_some o) current ∙ w.entry) in
    record {
      calm = calm;
      deepest = deepest;
      sized = sized;
      goes = go.into job left t (
        v,
        record {
          values = keeps.0;
          stack = keeps.1;
          steps = w.steps;
          entry = keeps.2;
          names = put_names job left a (values_in s) (values_in t) f i x v var e k others w.names;
        },
      );
    }

cut_calm : (b : Bool) (n most : ℕ) → Calm (noted (only_if b (note.Cut n most)))
cut_calm true n most = refl
cut_calm false n most = tt

-- .. where it is the first bytes of a string, at most `most`, which get a number of their own
assigned_text : (job : Job) (left : ℕ) (f : Callee) (m : Mask) (most : ℕ) (text : List ℕ) (a : Abstract) (to : List Abstract) (s t : Store) (v : List Literal)
    → IsVariable f → 1 ≤ most → allows m (class_of text) ≡ true → t.deepest ≡ s.deepest → (Sized job (values_in s) → Sized job (values_in t))
    → t.current ≡ s.current → Into (putting_text f m a) to → Holds job left a (values_in s) t.literals v
    → named job (values_in t) f ≡ Some (Text (take most text)) → ((g : Callee) → (g ≡ f → ⊥) → named job (values_in t) g ≡ named job (values_in s) g)
    → Leads job left to s (says (noted (only_if (nat_lt most (length text)) (note.Cut (length text) most))) t)
assigned_text job left f m most text a to s t v var l o deepest sized current go w e others =
    let y = Text (take most text) in
    assigned job left f (length a.values) y (keeping m a) to s t (v ++ y ∷ []) (noted (only_if (nat_lt most (length text)) (note.Cut (length text) most))) var
    (cut_calm (nat_lt most (length text)) (length text) most) deepest sized current go
    (numbered job left a (values_in s) v t.literals (value.Text (cut m)) y (cut_is left m most text l o) w) (at-last left a.values v y w.values) e others

-- a variable that there is
declared : (style : Style) (job : Job) (left : ℕ) (k n : ℕ) (count : Style → ℕ) → job.style ≡ style → k < count style → n ≡ count job.style → k < n
declared style job left k n count e l q = let m = ap count e in omega (arith, l, m, q)

pub rule_assign_global_integer : (style : Style) (allowed : List ℕ) (k j i : ℕ) (lo : Option ℤ) (hi : Upper) (a : Abstract) (below : List ℕ)
    (to : List Abstract) → k < length style.names.global_integers → a.stack ≡ j ∷ i ∷ below
    → get_or a.values j value.Any ≡ value.Function (callee.GlobalInteger k) → get_or a.values i value.Any ≡ value.Integer lo hi
    → Into (putting (callee.GlobalInteger k) i (with_stack below a)) to
    → StyleRule style allowed (callee.BuiltIn built_in.Assign) a to
rule_assign_global_integer style allowed k j i lo hi a below to lk e df di go job of left s z h =
    assign_row job left (callee.GlobalInteger k) j i (value.Integer lo hi) a below to s e df di h stored
  where
    size : k < length s.integers
    size = declared style job left k (length s.integers) (λ st. length st.names.global_integers) of.same lk z.integers

    stored : (x : Literal) → at h.0 i ≡ Some x → Is left (value.Integer lo hi) x
        → OnwardAt job left left a h.0 below to s (assigns job (callee.GlobalInteger k) x)
    stored (Text t) q o under w = absurd o
    stored (Function g) q o under w = absurd o
    stored Missing q o under w = absurd o
    stored (Integer n) q o under w = assigned job left (callee.GlobalInteger k) i (Integer n) (with_stack below a) to (with_literals under s)
        (with_global_integer k n (with_literals under s)) h.0 step_output.Nothing tt tt refl (λ y. record {
          integers = length-set s.integers k n ∙ y.integers;
          strings = y.strings;
          entries = y.entries;
          entry_integers = y.entry_integers;
          entry_strings = y.entry_strings;
          current = y.current;
        }) refl go w q (ap (λ (o : Option ℤ). Some (Integer (unwrap_or o (pos 0)))) (get_set s.integers k n size)) (integer_others job left s k n)

pub rule_assign_global_string : (style : Style) (allowed : List ℕ) (k j i : ℕ) (m : Mask) (a : Abstract) (below : List ℕ) (to : List Abstract)
    → k < length style.names.global_strings → a.stack ≡ j ∷ i ∷ below
    → get_or a.values j value.Any ≡ value.Function (callee.GlobalString k) → get_or a.values i value.Any ≡ value.Text m → m.missing ≡ false
    → Into (putting_text (callee.GlobalString k) m (with_stack below a)) to
    → StyleRule style allowed (callee.BuiltIn built_in.Assign) a to
rule_assign_global_string style allowed k j i m a below to lk e df di there go job of left s z h =
    assign_row job left (callee.GlobalString k) j i (value.Text m) a below to s e df di h stored
  where
    size : k < length s.strings
    size = declared style job left k (length s.strings) (λ st. length st.names.global_strings) of.same lk z.strings

    stored : (x : Literal) → at h.0 i ≡ Some x → Is left (value.Text m) x → OnwardAt job left left a h.0 below to s (assigns job (callee.GlobalString k) x)
    stored (Integer n) q o under w = absurd o
    stored (Function g) q o under w = absurd o
    stored Missing q o under w = absurd (cc)
    stored (Text t) q o under w = assigned_text job left (callee.GlobalString k) m job.global_max t (with_stack below a) to (with_literals under s)
        (with_global_string k (take job.global_max t) (with_literals under s)) h.0 tt of.global_max o refl (λ y. record {
          integers = y.integers;
          strings = length-set s.strings k (take job.global_max t) ∙ y.strings;
          entries = y.entries;
          entry_integers = y.entry_integers;
          entry_strings = y.entry_strings;
          current = y.current;
        }) refl go w (ap (λ (o : Option (List ℕ)). Some (Text (unwrap_or o []))) (get_set s.strings k (take job.global_max t) size))
        (string_others job left s k (take job.global_max t))

-- ---- variables of entries

values_set : (es : List EntryVariables) (entry : ℕ) (x : EntryVariables) → entry < length es → values_of (slice_set es entry x) entry ≡ x
values_set es entry x l = ap (λ (o : Option EntryVariables). unwrap_or o (record { integers = []; strings = [] })) (get_set es entry x l)

values_other : (es : List EntryVariables) (entry e : ℕ) (x : EntryVariables) → (e ≡ entry → ⊥) → values_of (slice_set es entry x) e ≡ values_of es e
values_other es entry e x n = ap (λ (o : Option EntryVariables). unwrap_or o (record { integers = []; strings = [] })) (get_other es entry e x n)

map_same : (o : Option ℕ) (entry : ℕ) (f g : ℕ → Literal) → o ≡ Some entry → f entry ≡ g entry → option_map_or (λ (e : ℕ). Some (f e)) o None
    ≡ option_map_or (λ (e : ℕ). Some (g e)) o None
map_same None entry f g c e = refl
map_same (Some x) entry f g c e = let q : entry ≡ x = cc in subst (λ z. Some (f z) ≡ Some (g z)) q (ap {B = Option Literal} Some e)

pub map_at : (o : Option ℕ) (entry : ℕ) (f : ℕ → Literal) (x : Literal) → o ≡ Some entry → f entry ≡ x → option_map_or (λ (e : ℕ). Some (f e)) o None ≡ Some x
map_at None entry f x c e = absurd (cc)
map_at (Some y) entry f x c e = let q : entry ≡ y = cc in subst (λ z. Some (f z) ≡ Some x) q (ap {B = Option Literal} Some e)

pub entry_goes : (job : Job) (left : ℕ) (to : List Abstract) (s : Store) (go : ℕ → Store → Answer) (o : Option ℕ) → s.current ≡ o → is_some o ≡ true
    → ((entry : ℕ) → s.current ≡ Some entry → Leads job left to s (go entry s)) → Leads job left to s (in_entry go o s)
entry_goes job left to s go None c k h = absurd (cc)
entry_goes job left to s go (Some entry) c k h = h entry c

-- the sizes after an entry's variables were set to as many
set_sized : (job : Job) (n : Values) (entry : ℕ) (x : EntryVariables) → entry < length n.entries
    → length x.integers ≡ length (values_of n.entries entry).integers → length x.strings ≡ length (values_of n.entries entry).strings
    → Sized job n → Sized job (record n { entries = slice_set n.entries entry x })
set_sized job n entry x l ei es z =
    let size = length-set n.entries entry x in
    record {
      integers = z.integers;
      strings = z.strings;
      entries = size ∙ z.entries;
      entry_integers = λ e le. elim (cases_eq e entry) [
        | inl q ↦ ap (λ (v : EntryVariables). length v.integers)
            (subst (λ k. values_of (slice_set n.entries entry x) k ≡ x) (sym q) (values_set n.entries entry x l)) ∙ (ei ∙ z.entry_integers entry l)
        | inr q ↦ ap (λ (v : EntryVariables). length v.integers) (values_other n.entries entry e x q) ∙ z.entry_integers e (omega (arith, le, size))
      ];
      entry_strings = λ e le. elim (cases_eq e entry) [
        | inl q ↦ ap (λ (v : EntryVariables). length v.strings)
            (subst (λ k. values_of (slice_set n.entries entry x) k ≡ x) (sym q) (values_set n.entries entry x l)) ∙ (es ∙ z.entry_strings entry l)
        | inr q ↦ ap (λ (v : EntryVariables). length v.strings) (values_other n.entries entry e x q) ∙ z.entry_strings e (omega (arith, le, size))
      ];
      current = λ e q. let k = z.current e q in omega (arith, k, size);
    }

entry_integer_others : (job : Job) (left : ℕ) (s : Store) (entry k : ℕ) (n : ℤ) → s.current ≡ Some entry → entry < length s.entries → (g : Callee)
    → (g ≡ callee.EntryInteger k → ⊥) → named job (values_in (with_entry_integer entry k n s)) g ≡ named job (values_in s) g
entry_integer_others job left s entry k n c l (callee.EntryInteger j) ne =
    let own = values_of s.entries entry in
    let new : EntryVariables = record own { integers = slice_set own.integers k n } in
    map_same s.current entry (λ e. Integer (integer_of (slice_set s.entries entry new) e j)) (λ e. Integer (integer_of s.entries e j)) c
    (ap (λ (v : EntryVariables). Integer (unwrap_or (slice_get v.integers j) (pos 0))) (values_set s.entries entry new l)
    ∙ ap (λ (o : Option ℤ). Integer (unwrap_or o (pos 0))) (get_other own.integers k j n (λ e. ne (ap callee.EntryInteger e))))
entry_integer_others job left s entry k n c l (callee.EntryString j) ne =
    let own = values_of s.entries entry in
    let new : EntryVariables = record own { integers = slice_set own.integers k n } in
    map_same s.current entry (λ e. Text (string_of (slice_set s.entries entry new) e j)) (λ e. Text (string_of s.entries e j)) c
    (ap (λ (v : EntryVariables). Text (unwrap_or (slice_get v.strings j) [])) (values_set s.entries entry new l))
entry_integer_others job left s entry k n c l _ ne = refl

entry_string_others : (job : Job) (left : ℕ) (s : Store) (entry k : ℕ) (t : List ℕ) → s.current ≡ Some entry → entry < length s.entries → (g : Callee)
    → (g ≡ callee.EntryString k → ⊥) → named job (values_in (with_entry_string entry k t s)) g ≡ named job (values_in s) g
entry_string_others job left s entry k t c l (callee.EntryString j) ne =
    let own = values_of s.entries entry in
    let new : EntryVariables = record own { strings = slice_set own.strings k t } in
    map_same s.current entry (λ e. Text (string_of (slice_set s.entries entry new) e j)) (λ e. Text (string_of s.entries e j)) c
    (ap (λ (v : EntryVariables). Text (unwrap_or (slice_get v.strings j) [])) (values_set s.entries entry new l)
    ∙ ap (λ (o : Option (List ℕ)). Text (unwrap_or o [])) (get_other own.strings k j t (λ e. ne (ap callee.EntryString e))))
entry_string_others job left s entry k t c l (callee.EntryInteger j) ne =
    let own = values_of s.entries entry in
    let new : EntryVariables = record own { strings = slice_set own.strings k t } in
    map_same s.current entry (λ e. Integer (integer_of (slice_set s.entries entry new) e j)) (λ e. Integer (integer_of s.entries e j)) c
    (ap (λ (v : EntryVariables). Integer (unwrap_or (slice_get v.integers j) (pos 0))) (values_set s.entries entry new l))
entry_string_others job left s entry k t c l _ ne = refl

pub rule_assign_entry_integer : (style : Style) (allowed : List ℕ) (k j i : ℕ) (lo : Option ℤ) (hi : Upper) (a : Abstract) (below : List ℕ) (to : List Abstract)
    → a.entry ≡ true → k < length style.names.entry_integers → a.stack ≡ j ∷ i ∷ below
    → get_or a.values j value.Any ≡ value.Function (callee.EntryInteger k) → get_or a.values i value.Any ≡ value.Integer lo hi
    → Into (putting (callee.EntryInteger k) i (with_stack below a)) to
    → StyleRule style allowed (callee.BuiltIn built_in.Assign) a to
rule_assign_entry_integer style allowed k j i lo hi a below to en lk e df di go job of left s z h =
    assign_row job left (callee.EntryInteger k) j i (value.Integer lo hi) a below to s e df di h stored
  where
    size : (entry : ℕ) → s.current ≡ Some entry → k < length (values_of s.entries entry).integers
    size entry c = declared style job left k (length (values_of s.entries entry).integers) (λ st. length st.names.entry_integers) of.same lk
        (z.entry_integers entry (z.current entry c))

    one : (n : ℤ) → at h.0 i ≡ Some (Integer n) → (under : List Literal) → Holds job left (with_stack below a) (values_in s) under h.0 → (entry : ℕ)
        → s.current ≡ Some entry
        → Leads job left to (with_literals under s) (stores_integer (with_entry_integer entry k) (Integer n) (with_literals under s))
    one n q under w entry c =
        let own = values_of s.entries entry in
        let new : EntryVariables = record own { integers = slice_set own.integers k n } in
        assigned job left (callee.EntryInteger k) i (Integer n) (with_stack below a) to (with_literals under s)
        (with_entry_integer entry k n (with_literals under s)) h.0 step_output.Nothing tt tt refl
        (λ y. set_sized job (values_in s) entry new (z.current entry c) (length-set own.integers k n) refl y) refl go w q
        (map_at s.current entry (λ e. Integer (integer_of (slice_set s.entries entry new) e k)) (Integer n) c
        (ap (λ (v : EntryVariables). Integer (unwrap_or (slice_get v.integers k) (pos 0))) (values_set s.entries entry new (z.current entry c))
        ∙ ap (λ (o : Option ℤ). Integer (unwrap_or o (pos 0))) (get_set own.integers k n (size entry c))))
        (entry_integer_others job left s entry k n c (z.current entry c))

    stored : (x : Literal) → at h.0 i ≡ Some x → Is left (value.Integer lo hi) x
        → OnwardAt job left left a h.0 below to s (assigns job (callee.EntryInteger k) x)
    stored (Text t) q o under w = absurd o
    stored (Function g) q o under w = absurd o
    stored Missing q o under w = absurd o
    stored (Integer n) q o under w = entry_goes job left to (with_literals under s) (λ entry. stores_integer (with_entry_integer entry k) (Integer n)) s.current
        refl (h.1.entry ∙ en) (λ entry c. one n q under w entry c)

pub rule_assign_entry_string : (style : Style) (allowed : List ℕ) (k j i : ℕ) (m : Mask) (a : Abstract) (below : List ℕ) (to : List Abstract) → a.entry ≡ true
    → k < length style.names.entry_strings → a.stack ≡ j ∷ i ∷ below
    → get_or a.values j value.Any ≡ value.Function (callee.EntryString k) → get_or a.values i value.Any ≡ value.Text m → m.missing ≡ false
    → Into (putting_text (callee.EntryString k) m (with_stack below a)) to
    → StyleRule style allowed (callee.BuiltIn built_in.Assign) a to
rule_assign_entry_string style allowed k j i m a below to en lk e df di full go job of left s z h =
    assign_row job left (callee.EntryString k) j i (value.Text m) a below to s e df di h stored
  where
    size : (entry : ℕ) → s.current ≡ Some entry → k < length (values_of s.entries entry).strings
    size entry c = declared style job left k (length (values_of s.entries entry).strings) (λ st. length st.names.entry_strings) of.same lk
        (z.entry_strings entry (z.current entry c))

    one : (t : List ℕ) → Is left (value.Text m) (Text t) → (under : List Literal) → Holds job left (with_stack below a) (values_in s) under h.0 → (entry : ℕ)
        → s.current ≡ Some entry
        → Leads job left to (with_literals under s) (stores_string job.entry_max (with_entry_string entry k) (Text t) (with_literals under s))
    one t o under w entry c =
        let kept = take job.entry_max t in
        let own = values_of s.entries entry in
        let new : EntryVariables = record own { strings = slice_set own.strings k kept } in
        assigned_text job left (callee.EntryString k) m job.entry_max t (with_stack below a) to (with_literals under s)
        (with_entry_string entry k kept (with_literals under s)) h.0 tt of.entry_max o refl
        (λ y. set_sized job (values_in s) entry new (z.current entry c) refl (length-set own.strings k kept) y) refl go w
        (map_at s.current entry (λ e. Text (string_of (slice_set s.entries entry new) e k)) (Text kept) c
        (ap (λ (v : EntryVariables). Text (unwrap_or (slice_get v.strings k) [])) (values_set s.entries entry new (z.current entry c))
        ∙ ap (λ (o : Option (List ℕ)). Text (unwrap_or o [])) (get_set own.strings k kept (size entry c))))
        (entry_string_others job left s entry k kept c (z.current entry c))

    stored : (x : Literal) → at h.0 i ≡ Some x → Is left (value.Text m) x → OnwardAt job left left a h.0 below to s (assigns job (callee.EntryString k) x)
    stored (Integer n) q o under w = absurd o
    stored (Function g) q o under w = absurd o
    stored Missing q o under w = absurd (cc)
    stored (Text t) q o under w = entry_goes job left to (with_literals under s) (λ entry. stores_string job.entry_max (with_entry_string entry k) (Text t))
        s.current refl (h.1.entry ∙ en) (λ entry c. one t o under w entry c)
