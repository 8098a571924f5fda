-- What a certificate claims of variables, and what is known of the literals on top of the stack, are so.
use Rattle.std.proofs.Common.{◌≡◌, ℕ, zero, suc, ◌≤◌, ℤ, pos, negsuc, List, [], ◌∷◌, length, take, Option, Some, None, refl, arith, sym, ap, subst, ◌∙◌}
use Rattle.std.specs.Prelude.{slice_get, slice_set, slice_index_or, unwrap_or}
use Rattle.std.proofs.lemmas.List.{length-take}
use Rattle.btx_bst.specs.declared.built_in.BuiltIn.TheVariants as built_in
use Rattle.btx_bst.specs.declared.callee.Callee.{Callee}
use Rattle.btx_bst.specs.declared.callee.Callee.TheVariants as callee
use Rattle.btx_bst.specs.declared.token.Token.TheVariants.{Run}
use Rattle.btx_stack.specs.declared.literal.Literal.{Literal}
use Rattle.btx_stack.specs.declared.literal.Literal.TheVariants as literal
use Rattle.btx_names.specs.language.NameLists.{names_of}
use Rattle.btx_names.proofs.NameLemmas.{length-pieces_from}
use Rattle.btx_step.specs.language.Answers.{Answer, with_literals}
use Rattle.btx_step.specs.language.Jobs.{Job}
use Rattle.btx_step.specs.language.Operands.{on_operands}
use Rattle.btx_step.specs.language.Steps.{step_of, function_run, built_in_run}
use Rattle.btx_step.specs.language.Stores.{Store}
use Rattle.btx_step.specs.language.Table.{row}
use Rattle.btx_step.specs.language.Variables as variables
use Rattle.btx_machine.specs.language.States.{State}
use Rattle.btx_ends.specs.declared.known.Known.{Known}
use Rattle.btx_ends.specs.declared.known.Known.TheVariants as known
use Rattle.btx_ends.specs.Counters.{above_zero}
use Rattle.btx_ends.specs.Certificates.{Claims, AssignsWithin, ValueWithin}
use Rattle.btx_ends.proofs.CounterLemmas.{SameVariables}

-- ---- claims on variables

abbrev pub value_of : List ℤ → ℕ → ℤ
value_of xs v = unwrap_or (slice_get xs v) (pos 0)

abbrev pub text_of : List (List ℕ) → ℕ → List ℕ
text_of xs i = unwrap_or (slice_get xs i) []

-- no variable is greater than is claimed, and no string is longer; and all variables are there
abbrev pub FineOf : Claims → List ℤ → List (List ℕ) → Type 0
FineOf claims integers strings =
    ((v n : ℕ) → slice_index_or claims.bounds v 0 ≡ suc n → above_zero (value_of integers v) ≤ n)
    × (((i : ℕ) → length (text_of strings i) ≤ claims.kept) × (claims.integers ≤ length integers))

abbrev pub FineIn : Claims → Store → Type 0
FineIn claims r = FineOf claims r.integers r.strings

abbrev pub Fine : Claims → State → Type 0
Fine claims s = FineIn claims s.store

pub fine_same : (claims : Claims) (r : Store) (t : State) → SameVariables r t → FineIn claims r → Fine claims t
fine_same claims r t same h =
    subst (λ (xs : List ℤ). FineOf claims xs t.store.strings) (sym same.0) (subst (λ (ys : List (List ℕ)). FineOf claims r.integers ys) (sym same.1) h)

-- ---- what is known of literals

abbrev pub IsKnown : Claims → Known → Literal → Type 0
IsKnown claims known.Anything y = Unit {0}
IsKnown claims (known.Function f) y = y ≡ literal.Function f
IsKnown claims (known.Integer n) y = y ≡ literal.Integer n
IsKnown claims (known.AtMost most) y = (n : ℤ) × ((y ≡ literal.Integer n) × (above_zero n ≤ most))
IsKnown claims known.Kept y = (text : List ℕ) × ((y ≡ literal.Text text) × (length text ≤ claims.kept))

-- .. of the one at a place, if it is there; nothing is asked of what nothing is known of
abbrev pub KnownAt : Claims → Known → Option Literal → Type 0
KnownAt claims known.Anything o = Unit {0}
KnownAt claims k None = ⊥
KnownAt claims k (Some y) = IsKnown claims k y

-- what is known of the literal on top and of the one below it is so
abbrev pub Stands : Claims → Known → Known → List Literal → Type 0
Stands claims top below xs = KnownAt claims top (slice_get xs 0) × KnownAt claims below (slice_get xs 1)

pub known_at : (claims : Claims) (k : Known) (y : Literal) → IsKnown claims k y → KnownAt claims k (Some y)
known_at claims known.Anything y h = tt
known_at claims (known.Function f) y h = h
known_at claims (known.Integer n) y h = h
known_at claims (known.AtMost most) y h = h
known_at claims known.Kept y h = h

-- a literal was pushed
pub pushed_on : (claims : Claims) (top below k : Known) (y : Literal) (xs zs : List Literal) → zs ≡ y ∷ xs → IsKnown claims k y → Stands claims top below xs
    → Stands claims k top zs
pushed_on claims top below k y xs zs e h st = subst (λ (ls : List Literal). Stands claims k top ls) (sym e) (known_at claims k y h, st.0)

-- ---- names

pub names_few : (text : List ℕ) (most : ℕ) → length text ≤ most → length (names_of text) ≤ suc most
unfolding names_of
names_few [] most l = omega arith
names_few (b ∷ bs) most l = let h = length-pieces_from 0 0 (b ∷ bs) in omega (arith, h, l)

-- ---- assignments

pub length-slice_set : (xs : List ℤ) (v : ℕ) (n : ℤ) → length (slice_set xs v n) ≡ length xs
length-slice_set [] v n = refl
length-slice_set (x ∷ xs) zero n = refl
length-slice_set (x ∷ xs) (suc v) n = ap suc (length-slice_set xs v n)

pub put_value : (xs : List ℤ) (w v : ℕ) (m : ℤ) (n : ℕ) → above_zero (value_of xs v) ≤ n → (w ≡ v → above_zero m ≤ n) → above_zero (value_of (slice_set xs w m) v) ≤ n
put_value [] w v m n h k = h
put_value (x ∷ xs) zero zero m n h k = k refl
put_value (x ∷ xs) zero (suc v) m n h k = h
put_value (x ∷ xs) (suc w) zero m n h k = h
put_value (x ∷ xs) (suc w) (suc v) m n h k = put_value xs w v m n h (λ e. k (ap suc e))

put_text : (xs : List (List ℕ)) (w i : ℕ) (text : List ℕ) (n : ℕ) → length (text_of xs i) ≤ n → length text ≤ n → length (text_of (slice_set xs w text) i) ≤ n
put_text [] w i text n h k = h
put_text (x ∷ xs) zero zero text n h k = k
put_text (x ∷ xs) zero (suc i) text n h k = h
put_text (x ∷ xs) (suc w) zero text n h k = h
put_text (x ∷ xs) (suc w) (suc i) text n h k = put_text xs w i text n h k

-- what is assigned to a variable is no greater than is claimed
abbrev IsSmall : Claims → Callee → Literal → Type 0
IsSmall claims (callee.GlobalInteger v) (literal.Integer m) = (n : ℕ) → slice_index_or claims.bounds v 0 ≡ suc n → above_zero m ≤ n
IsSmall claims f y = Unit {0}

taken_few : (most kept : ℕ) (text : List ℕ) → most ≤ kept → length (take most text) ≤ kept
taken_few most kept text l = let e = length-take most text in omega (arith, e, l)

integer_fine : (claims : Claims) (v : ℕ) (y : Literal) (s : Store) → IsSmall claims (callee.GlobalInteger v) y → FineIn claims s
    → FineIn claims (variables.stores_integer (variables.with_global_integer v) y s).store
integer_fine claims v (literal.Integer m) s small h = (
  λ u n e. put_value s.integers v u m n (h.0 u n e) (λ q. small n (ap (λ i. slice_index_or claims.bounds i 0) q ∙ e)),
  (h.1.0, subst (λ k. claims.integers ≤ k) (sym (length-slice_set s.integers v m)) h.1.1),
)
integer_fine claims v y s small h = h

string_fine : (claims : Claims) (most i : ℕ) (y : Literal) (s : Store) → most ≤ claims.kept → FineIn claims s
    → FineIn claims (variables.stores_string most (variables.with_global_string i) y s).store
string_fine claims most i (literal.Text text) s l h =
    (h.0, (λ j. put_text s.strings i j (take most text) claims.kept (h.1.0 j) (taken_few most claims.kept text l), h.1.1))
string_fine claims most i y s l h = h

entry_integer_fine : (claims : Claims) (entry i : ℕ) (y : Literal) (s : Store) → FineIn claims s
    → FineIn claims (variables.stores_integer (variables.with_entry_integer entry i) y s).store
entry_integer_fine claims entry i (literal.Integer m) s h = h
entry_integer_fine claims entry i y s h = h

entry_string_fine : (claims : Claims) (most entry i : ℕ) (y : Literal) (s : Store) → FineIn claims s
    → FineIn claims (variables.stores_string most (variables.with_entry_string entry i) y s).store
entry_string_fine claims most entry i (literal.Text text) s h = h
entry_string_fine claims most entry i y s h = h

in_entry_fine : (claims : Claims) (go : ℕ → Store → Answer) (current : Option ℕ) (s : Store) → ((entry : ℕ) → FineIn claims (go entry s).store) → FineIn claims s
    → FineIn claims (variables.in_entry go current s).store
in_entry_fine claims go None s f h = h
in_entry_fine claims go (Some entry) s f h = f entry

assigns_fine : (claims : Claims) (job : Job) (f : Callee) (y : Literal) (s : Store) → job.global_max ≤ claims.kept → IsSmall claims f y → FineIn claims s
    → FineIn claims (variables.assigns job f y s).store
assigns_fine claims job (callee.GlobalInteger v) y s l small h = integer_fine claims v y s small h
assigns_fine claims job (callee.GlobalString i) y s l small h = string_fine claims job.global_max i y s l h
assigns_fine claims job (callee.EntryInteger i) y s l small h =
    in_entry_fine claims (λ entry. variables.stores_integer (variables.with_entry_integer entry i) y) s.current s
    (λ entry. entry_integer_fine claims entry i y s h) h
assigns_fine claims job (callee.EntryString i) y s l small h =
    in_entry_fine claims (λ entry. variables.stores_string job.entry_max (variables.with_entry_string entry i) y) s.current s
    (λ entry. entry_string_fine claims job.entry_max entry i y s h) h
assigns_fine claims job f y s l small h = h

-- .. of the literals on the stack
abbrev AreSmall : Claims → List Literal → Type 0
AreSmall claims (literal.Function f ∷ y ∷ ys) = IsSmall claims f y
AreSmall claims xs = Unit {0}

taken_fine : (claims : Claims) (job : Job) (xs : List Literal) (s : Store) → job.global_max ≤ claims.kept → AreSmall claims xs → FineIn claims s
    → FineIn claims (on_operands (row built_in.Assign).operands (row built_in.Assign).default (variables.assigns job) xs s).store
taken_fine claims job [] s l small h = h
taken_fine claims job (literal.Function f ∷ []) s l small h = h
taken_fine claims job (literal.Function f ∷ y ∷ ys) s l small h = assigns_fine claims job f y (with_literals ys s) l small h
taken_fine claims job (x ∷ []) s l small h = h
taken_fine claims job (x ∷ y ∷ ys) s l small h = h

abbrev integer_of : Literal → ℤ
integer_of (literal.Integer n) = n
integer_of y = pos 0

abbrev function_of : Literal → Callee
function_of (literal.Function f) = f
function_of y = callee.Field 0

no_bound : (bounds : List ℕ) (v n : ℕ) → length bounds ≡ 0 → slice_index_or bounds v 0 ≡ suc n → ⊥
no_bound [] v n l e = omega (arith, e)
no_bound (b ∷ bs) v n l e = omega (arith, l)

value_small : (claims : Claims) (v : ℕ) (value : Known) (y : Literal) → ValueWithin (slice_index_or claims.bounds v 0) value → KnownAt claims value (Some y)
    → IsSmall claims (callee.GlobalInteger v) y
value_small claims v value (literal.Integer m) w k = λ n e. by n value (subst (λ c. ValueWithin c value) e w) k
  where
    by : (n : ℕ) (value : Known) → ValueWithin (suc n) value → KnownAt claims value (Some (literal.Integer m)) → above_zero m ≤ n
    by n (known.AtMost most) w k = let e = ap integer_of k.1.0 in let q = ap above_zero e in let small = k.1.1 in omega (arith, q, small, w)
    by n (known.Integer (pos i)) w k = let q = ap above_zero (ap integer_of k) in omega (arith, q, w)
    by n (known.Integer (negsuc i)) w k = let q = ap above_zero (ap integer_of k) in omega (arith, q)
    by n known.Anything w k = absurd w
    by n (known.Function f) w k = absurd w
    by n known.Kept w k = absurd w
value_small claims v value y w k = tt

all_small : (claims : Claims) (top below : Known) (xs : List Literal) → AssignsWithin claims top below → Stands claims top below xs → AreSmall claims xs
all_small claims top below [] a st = tt
all_small claims top below (literal.Function f ∷ []) a st = tt
all_small claims top below (literal.Function f ∷ y ∷ ys) a st = by top a st.0
  where
    none : length claims.bounds ≡ 0 → (f : Callee) → IsSmall claims f y
    none e (callee.GlobalInteger v) = unclaimed v y
      where
        unclaimed : (v : ℕ) (y : Literal) → IsSmall claims (callee.GlobalInteger v) y
        unclaimed v (literal.Integer m) = λ n q. absurd (no_bound claims.bounds v n e q)
        unclaimed v y = tt
    none e f = tt

    other : (g : Callee) → AssignsWithin claims (known.Function g) below → IsSmall claims g y
    other (callee.GlobalInteger v) a = value_small claims v below y a st.1
    other g a = tt

    by : (top : Known) → AssignsWithin claims top below → KnownAt claims top (Some (literal.Function f)) → IsSmall claims f y
    by (known.Function g) a k = subst (λ (h : Callee). IsSmall claims h y) (sym (ap function_of k)) (other g a)
    by known.Anything a k = none a f
    by (known.Integer n) a k = none a f
    by (known.AtMost n) a k = none a f
    by known.Kept a k = none a f
all_small claims top below (x ∷ []) a st = tt
all_small claims top below (x ∷ y ∷ ys) a st = tt

-- `:=` keeps the claims
pub fine_assigned : (claims : Claims) (job : Job) (top below : Known) (s : Store) → job.global_max ≤ claims.kept → AssignsWithin claims top below
    → Stands claims top below s.literals → FineIn claims s → FineIn claims (step_of job (Run (callee.BuiltIn built_in.Assign)) s).store
unfolding step_of function_run built_in_run
fine_assigned claims job top below s l a st h = taken_fine claims job s.literals s l (all_small claims top below s.literals a st) h
