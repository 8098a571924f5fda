-- `if$`, `while$`, and what is left of a loop's test.
use Rattle.std.proofs.Common.{◌≡◌, ℕ, zero, suc, ℤ, List, [], ◌∷◌, Option, Some, Bool, true, false, cond, get_or, refl, sym, ap, subst, ◌∙◌, nat_lt, inl}
use Rattle.std.specs.Prelude.{if◌then◌else◌}
use Rattle.btx_bst.specs.language.Style.{Style}
use Rattle.btx_bst.specs.declared.built_in.BuiltIn.{BuiltIn}
use Rattle.btx_bst.specs.declared.built_in.BuiltIn.TheVariants as built_in
use Rattle.btx_bst.specs.declared.callee.Callee.{Callee}
use Rattle.btx_bst.specs.declared.callee.Callee.TheVariants as callee
use Rattle.btx_bst.specs.declared.token.Token.TheVariants as token
use Rattle.btx_stack.specs.declared.literal.Literal.{Literal}
use Rattle.btx_stack.specs.declared.literal.Literal.TheVariants.{Integer, Text, Function, Missing}
use Rattle.btx_step.specs.declared.next.Next.{Next}
use Rattle.btx_step.specs.declared.next.Next.TheVariants.{Run, Loop}
use Rattle.btx_step.specs.language.Jobs.{Job}
use Rattle.btx_step.specs.language.Stores.{Store}
use Rattle.btx_step.specs.language.Answers.{Answer, quiet, with_literals}
use Rattle.btx_step.specs.language.Control.{is_positive, tested}
use Rattle.btx_step.specs.language.Operands.{on_operands}
use Rattle.btx_step.specs.language.Table.{row}
use Rattle.btx_step.specs.language.Steps.{built_in_run, function_run, step_of}
use Rattle.btx_machine.specs.language.States.{State, state, Outcome}
use Rattle.btx_machine.specs.language.Saying.{said_on}
use Rattle.btx_machine.specs.language.Steps.{executed_by, token_effect}
use Rattle.btx_machine.specs.language.MeaningBySteps.{follow, act}
use Rattle.btx_check.specs.declared.description.Value.{Value}
use Rattle.btx_check.specs.declared.description.Value.TheVariants as value
use Rattle.btx_check.specs.declared.description.Upper.{Upper}
use Rattle.btx_check.specs.Calm.{Calm, CalmAct, CalmFollow}
use Rattle.btx_check.specs.Descriptions.{Is}
use Rattle.btx_check.specs.States.{Abstract, values_in, at, Stack, Holds, In, knowing, with_stack}
use Rattle.btx_check.specs.Inclusion.{Into}
use Rattle.btx_check.specs.Bounds.{Splits}
use Rattle.btx_check.specs.Running.{Sized, Good, Passes, RunsFrom, TurnsTo, Turned, Closed}
use Rattle.btx_check.proofs.Later.{in_later}
use Rattle.btx_check.proofs.Holding.{restack, known}
use Rattle.btx_check.proofs.RowLemmas.{top_of, stack_at}
use Rattle.btx_check.proofs.Covering.{loop_good, one_of}

-- the execution of a function that answers so, where a step is left
abbrev pub after : Job → ℕ → Callee → Answer → State → ℕ → ℕ → ℕ → Outcome
after job n f a s bodies running left =
    follow job (act job n) n a.next (state a.store (said_on job (executed_by job.style.names (token.Run f)) a.store.current a.said s.out)) bodies running left

-- .. and what is asked of it
abbrev pub CalmAfter : Job → ℕ → Callee → Answer → State → ℕ → ℕ → ℕ → Type 0
CalmAfter job n f a s bodies running left = Calm a.said
    × CalmFollow job (act job n) (CalmAct job n) n a.next
    (state a.store (said_on job (executed_by job.style.names (token.Run f)) a.store.current a.said s.out)) bodies running left

-- it is without a fault, and good
abbrev pub PassesAfter : Job → ℕ → ℕ → List Abstract → Callee → Answer → State → ℕ → ℕ → ℕ → Type 0
PassesAfter job n m to f a s bodies running left = Passes (CalmAfter job n f a s bodies running left) (Good job m to (after job n f a s bodies running left))

pub act_passes : (job : Job) (n m : ℕ) (to : List Abstract) (f : Callee) (bodies running left : ℕ) (s : State)
    → PassesAfter job n m to f (function_run job f s.store) s bodies running left
    → Passes (CalmAct job (suc n) (token.Run f) bodies running (suc left) s) (Good job m to (act job (suc n) (token.Run f) bodies running (suc left) s))
unfolding token_effect step_of
act_passes job n m to f bodies running left s h = record { is_calm = (h.is_calm.0, h.is_calm.1); ends_so = h.ends_so }

-- a row's answer, where these literals stand on the stack
row_is : (job : Job) (f : BuiltIn) (s : Store) (ls : List Literal) (a : Answer) → built_in_run job f s ≡ on_operands (row f).operands (row f).default
    ((row f).does job) s.literals s → s.literals ≡ ls
    → on_operands (row f).operands (row f).default ((row f).does job) ls s ≡ a → function_run job (callee.BuiltIn f) s ≡ a
unfolding function_run
row_is job f s ls a b e h = b ∙ (ap (λ (k : List Literal). on_operands (row f).operands (row f).default ((row f).does job) k s) e ∙ h)

pub quiet_passes : (job : Job) (n m : ℕ) (to : List Abstract) (f : Callee) (next : Next) (store : Store) (s : State) (bodies running left : ℕ)
    → Passes (CalmFollow job (act job n) (CalmAct job n) n next (record s { store = store }) bodies running left)
    (Good job m to (follow job (act job n) n next (record s { store = store }) bodies running left))
    → PassesAfter job n m to f (quiet next store) s bodies running left
unfolding said_on
quiet_passes job n m to f next store s bodies running left h = record { is_calm = (tt, h.is_calm); ends_so = h.ends_so }

quiet_good : (job : Job) (n m : ℕ) (to : List Abstract) (f : BuiltIn) (ls : List Literal) (next : Next) (store : Store) (bodies running left : ℕ) (s : State)
    → built_in_run job f s.store ≡ on_operands (row f).operands (row f).default ((row f).does job) s.store.literals s.store → s.store.literals ≡ ls
    → on_operands (row f).operands (row f).default ((row f).does job) ls s.store ≡ quiet next store
    → Passes (CalmFollow job (act job n) (CalmAct job n) n next (record s { store = store }) bodies running left)
    (Good job m to (follow job (act job n) n next (record s { store = store }) bodies running left))
    → Passes (CalmAct job (suc n) (token.Run (callee.BuiltIn f)) bodies running (suc left) s)
    (Good job m to (act job (suc n) (token.Run (callee.BuiltIn f)) bodies running (suc left) s))
quiet_good job n m to f ls next store bodies running left s b e h g =
    act_passes job n m to (callee.BuiltIn f) bodies running left s
    (subst (λ a. PassesAfter job n m to (callee.BuiltIn f) a s bodies running left) (sym (row_is job f s.store ls (quiet next store) b e h))
    (quiet_passes job n m to (callee.BuiltIn f) next store s bodies running left g))

-- ---- what a description says of a literal

function_is : (left : ℕ) (f : Callee) (x : Literal) → Is left (value.Function f) x → x ≡ Function f
function_is left f (Integer n) h = absurd h
function_is left f (Text t) h = absurd h
function_is left f (Function g) h = ap Function (sym h)
function_is left f Missing h = absurd h

integer_is : (left : ℕ) (lo : Option ℤ) (hi : Upper) (x : Literal) → Is left (value.Integer lo hi) x → (n : ℤ) × (x ≡ Integer n)
integer_is left lo hi (Integer n) h = (n, refl)
integer_is left lo hi (Text t) h = absurd h
integer_is left lo hi (Function g) h = absurd h
integer_is left lo hi Missing h = absurd h

-- the literals on top
record Tops (left : ℕ) (v : List Literal) (a : Abstract) (d : Value) (i : ℕ) (is : List ℕ) (literals : List Literal) : Type 0 where
  x : Literal
  xs : List Literal
  literals_are : literals ≡ x ∷ xs
  stands : at v i ≡ Some x
  below : Stack v is xs
  is_so : Is left d x

tops : (job : Job) (left : ℕ) (a : Abstract) (s : Store) (h : In job left a s) (i : ℕ) (is : List ℕ) (d : Value) (ls : List Literal) → Stack h.0 (i ∷ is) ls
    → get_or a.values i value.Any ≡ d → Tops left h.0 a d i is ls
tops job left a s h i is d ls k e =
    let t = top_of left a.values h.0 i is ls h.1.values k in
    record { x = t.x; xs = t.xs; literals_are = t.literals_are; stands = t.stands; below = t.below; is_so = subst (λ (c : Value). Is left c t.x) e t.is_so }

-- the literals that `if$` needs
record Three (left : ℕ) (v : List Literal) (i : ℕ) (is : List ℕ) (d : Value) (f g : Callee) (literals : List Literal) : Type 0 where
  n : ℤ
  xs : List Literal
  literals_are : literals ≡ Function g ∷ Function f ∷ Integer n ∷ xs
  stands : at v i ≡ Some (Integer n)
  below : Stack v is xs
  is_so : Is left d (Integer n)

three : (job : Job) (left : ℕ) (a : Abstract) (s : Store) (h : In job left a s) (k j i : ℕ) (is : List ℕ) (f g : Callee) (lo : Option ℤ) (hi : Upper)
    → a.stack ≡ k ∷ j ∷ i ∷ is → get_or a.values k value.Any ≡ value.Function g
    → get_or a.values j value.Any ≡ value.Function f → get_or a.values i value.Any ≡ value.Integer lo hi
    → Three left h.0 i is (value.Integer lo hi) f g s.literals
three job left a s h k j i is f g lo hi e dk dj di =
    let t = tops job left a s h k (j ∷ i ∷ is) (value.Function g) s.literals (stack_at a h.0 s.literals k (j ∷ i ∷ is) e h.1.stack) dk in
    let u = tops job left a s h j (i ∷ is) (value.Function f) t.xs t.below dj in
    let w = tops job left a s h i is (value.Integer lo hi) u.xs u.below di in
    let p = integer_is left lo hi w.x w.is_so in
    let q : w.x ≡ Integer p.0 = p.1 in
    let a1 : t.x ≡ Function g = function_is left g t.x t.is_so in
    let a2 : u.x ≡ Function f = function_is left f u.x u.is_so in
    let e1 = t.literals_are in
    let e2 = u.literals_are in
    let e3 = w.literals_are in
    record {
      n = p.0;
      xs = w.xs;
      literals_are = cc;
      stands = subst (λ (x : Literal). at h.0 i ≡ Some x) q w.stands;
      below = w.below;
      is_so =
          subst (λ (x : Literal). Is left (value.Integer lo hi) x) q w.is_so;
    }

known_in : (job : Job) (left : ℕ) (a : Abstract) (s : Store) (i : ℕ) (is : List ℕ) (v xs : List Literal) (x : Literal) (d : Value) → Stack v is xs
    → Holds job left a (values_in s) s.literals v
    → at v i ≡ Some x → Is left d x → In job left (knowing i d (with_stack is a)) (with_literals xs s)
known_in job left a s i is v xs x d k h e p =
    (v, known job left (with_stack is a) (values_in s) v xs i d x e p (restack job left a (values_in s) v is s.literals xs k h))

-- ---- `if$`

pub if_runs : (style : Style) (allowed : List ℕ) (a : Abstract) (k j i : ℕ) (is : List ℕ) (f g : Callee) (lo : Option ℤ) (hi : Upper) (c d : Value) (r w : ℕ)
    (to : List Abstract) → a.stack ≡ k ∷ j ∷ i ∷ is → get_or a.values k value.Any ≡ value.Function g
    → get_or a.values j value.Any ≡ value.Function f → get_or a.values i value.Any ≡ value.Integer lo hi → Splits (value.Integer lo hi) c d
    → RunsFrom style allowed (token.Run f) (knowing i c (with_stack is a) ∷ []) r w to
    → RunsFrom style allowed (token.Run g) (knowing i d (with_stack is a) ∷ []) r w to
    → RunsFrom style allowed (token.Run (callee.BuiltIn built_in.If)) (a ∷ []) r w to
unfolding built_in_run
if_runs style allowed a k j i is f g lo hi c d r w to e dk dj di splits p q job of zero m bodies running left s hs fine l1 l2 l3 =
    record { is_calm = tt; ends_so = fine }
if_runs style allowed a k j i is f g lo hi c d r w to e dk dj di splits p q job of (suc n) m bodies running zero s hs fine l1 l2 l3 =
    record { is_calm = tt; ends_so = fine }
if_runs style allowed a k j i is f g lo hi c d r w to e dk dj di splits p q job of (suc n) m bodies running (suc left) s hs fine l1 l2 l3 =
    quiet_good job n m to built_in.If (Function g ∷ Function f ∷ Integer t.n ∷ t.xs) (Run (if is_positive t.n then f else g)) (with_literals t.xs s.store)
    bodies running left s refl t.literals_are refl
    (goes (is_positive t.n) (splits left t.n t.is_so))
  where
    h : In job left a s.store
    h = in_later job left a s.store (one_of job (suc left) a s.store hs)

    t : Three left h.0 i is (value.Integer lo hi) f g s.store.literals
    t = three job left a s.store h k j i is f g lo hi e dk dj di

    goes : (b : Bool) → Is left (cond b c d) (Integer t.n)
        → Passes (CalmAct job n (token.Run (cond b f g)) bodies running left (record s { store = with_literals t.xs s.store }))
        (Good job m to (act job n (token.Run (cond b f g)) bodies running left (record s { store = with_literals t.xs s.store })))
    goes true o = p job of n m bodies running left (record s { store = with_literals t.xs s.store })
        (inl (known_in job left a s.store i is h.0 t.xs (Integer t.n) c t.below h.1 t.stands o)) fine l1 l2 l3
    goes false o = q job of n m bodies running left (record s { store = with_literals t.xs s.store })
        (inl (known_in job left a s.store i is h.0 t.xs (Integer t.n) d t.below h.1 t.stands o)) fine l1 l2 l3

-- ---- `while$`

pub while_runs : (style : Style) (allowed : List ℕ) (a : Abstract) (j i : ℕ) (is : List ℕ) (f g : Callee) (r w : ℕ) (heads tests again ends : List Abstract)
    → a.stack ≡ j ∷ i ∷ is → get_or a.values j value.Any ≡ value.Function g
    → get_or a.values i value.Any ≡ value.Function f → Into (with_stack is a) heads → Closed style allowed heads f g r w tests again ends
    → RunsFrom style allowed (token.Run (callee.BuiltIn built_in.While)) (a ∷ []) r (suc w) ends
unfolding built_in_run
while_runs style allowed a j i is f g r w heads tests again ends e dj di go c job of zero m bodies running left s hs fine l1 l2 l3 =
    record { is_calm = tt; ends_so = fine }
while_runs style allowed a j i is f g r w heads tests again ends e dj di go c job of (suc n) m bodies running zero s hs fine l1 l2 l3 =
    record { is_calm = tt; ends_so = fine }
while_runs style allowed a j i is f g r w heads tests again ends e dj di go c job of (suc n) m bodies running (suc left) s hs fine l1 l2 l3 =
    let h = in_later job left a s.store (one_of job (suc left) a s.store hs) in
    let t = tops job left a s.store h j (i ∷ is) (value.Function g) s.store.literals (stack_at a h.0 s.store.literals j (i ∷ is) e h.1.stack) dj in
    let u = tops job left a s.store h i is (value.Function f) t.xs t.below di in
    let a1 : t.x ≡ Function g = function_is left g t.x t.is_so in
    let a2 : u.x ≡ Function f = function_is left f u.x u.is_so in
    let e1 = t.literals_are in
    let e2 = u.literals_are in
    let ls : s.store.literals ≡ Function g ∷ Function f ∷ u.xs = cc in
    quiet_good job n m ends built_in.While (Function g ∷ Function f ∷ u.xs) (Loop f g) (with_literals u.xs s.store) bodies running left s refl ls refl
    (loop_good style allowed heads f g r w tests again ends c job of n n m bodies running left (record s { store = with_literals u.xs s.store })
    (go.into job left (with_literals u.xs s.store) (h.0, restack job left a (values_in s.store) h.0 is s.store.literals u.xs u.below h.1)) fine l1 l2 l3
    (nat_lt running 4096) refl)

pub turned : (a : Abstract) (i : ℕ) (is : List ℕ) (lo : Option ℤ) (hi : Upper) (c d : Value) (again ends : List Abstract) → a.stack ≡ i ∷ is
    → get_or a.values i value.Any ≡ value.Integer lo hi → Splits (value.Integer lo hi) c d
    → Into (knowing i c (with_stack is a)) again → Into (knowing i d (with_stack is a)) ends → Turned (a ∷ []) again ends
turned a i is lo hi c d again ends e di splits go stop =
    record {
      calm = λ job left s h. calm job left s (one_of job left a s h);
      deepest = λ job left s h. deepest job left s (one_of job left a s h);
      sized =
          λ job left s h. sized job left s (one_of job left a s h);
      goes = λ job left s h. goes job left s (one_of job left a s h);
    }
  where
    t : (job : Job) (left : ℕ) (s : Store) (h : In job left a s) → Tops left h.0 a (value.Integer lo hi) i is s.literals
    t job left s h = tops job left a s h i is (value.Integer lo hi) s.literals (stack_at a h.0 s.literals i is e h.1.stack) di

    are : (job : Job) (left : ℕ) (s : Store) (h : In job left a s) → (n : ℤ) × (s.literals ≡ Integer n ∷ (t job left s h).xs) × (at h.0 i ≡ Some (Integer n))
        × Is left (value.Integer lo hi) (Integer n)
    are job left s h =
        let p = integer_is left lo hi (t job left s h).x (t job left s h).is_so in (
          p.0,
          (t job left s h).literals_are ∙ ap (λ (x : Literal). x ∷ (t job left s h).xs) p.1,
          subst (λ (x : Literal). at h.0 i ≡ Some x) p.1 (t job left s h).stands,
          subst (λ (x : Literal). Is left (value.Integer lo hi) x) p.1 (t job left s h).is_so,
        )

    calm : (job : Job) (left : ℕ) (s : Store) → In job left a s → Calm (tested s.literals s).said
    calm job left s h = subst (λ (ls : List Literal). Calm (tested ls s).said) (sym (are job left s h).1) tt

    deepest : (job : Job) (left : ℕ) (s : Store) → In job left a s → (tested s.literals s).store.deepest ≡ s.deepest
    deepest job left s h = subst (λ (ls : List Literal). (tested ls s).store.deepest ≡ s.deepest) (sym (are job left s h).1) refl

    sized : (job : Job) (left : ℕ) (s : Store) → In job left a s → Sized job (values_in s) → Sized job (values_in (tested s.literals s).store)
    sized job left s h = subst (λ (ls : List Literal). Sized job (values_in s) → Sized job (values_in (tested ls s).store)) (sym (are job left s h).1) (λ z. z)

    split : (job : Job) (left : ℕ) (s : Store) (h : In job left a s) (n : ℤ) (xs : List Literal) → Stack h.0 is xs → at h.0 i ≡ Some (Integer n) → (b : Bool)
        → Is left (cond b c d) (Integer n) → TurnsTo job left again ends b (with_literals xs s)
    split job left s h n xs k st true o = go.into job left (with_literals xs s) (known_in job left a s i is h.0 xs (Integer n) c k h.1 st o)
    split job left s h n xs k st false o = stop.into job left (with_literals xs s) (known_in job left a s i is h.0 xs (Integer n) d k h.1 st o)

    goes : (job : Job) (left : ℕ) (s : Store) → In job left a s → TurnsTo job left again ends (tested s.literals s).again (tested s.literals s).store
    goes job left s h = subst (λ (ls : List Literal). TurnsTo job left again ends (tested ls s).again (tested ls s).store) (sym (are job left s h).1)
        (split job left s h (are job left s h).0 (t job left s h).xs (t job left s h).below (are job left s h).2 (is_positive (are job left s h).0)
        (splits left (are job left s h).0 (are job left s h).3))
