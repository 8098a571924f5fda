-- One lemma for each row of the table that executes nothing further.
use Rattle.std.proofs.Common.{◌≡◌, ℕ, suc, ◌<◌, pos, List, [], ◌∷◌, ◌++◌, length, Some, Bool, true, false, cond, get_or, refl, sym, ap, subst, ◌∙◌, arith}
use Rattle.std.proofs.Common.{nat_lt}
use Rattle.std.proofs.lemmas.Bool.{lt-ltb}
use Rattle.std.proofs.lemmas.Int.{ints}
use Rattle.std.specs.List.{list_all}
use Rattle.btx_text.specs.language.Class.{is_white}
use Rattle.btx_text.specs.language.Limits.{greatest_string}
use Rattle.btx_text.specs.declared.limits.Limit.TheVariants.{Literals, String}
use Rattle.btx_bst.specs.declared.built_in.BuiltIn.{BuiltIn}
use Rattle.btx_bst.specs.declared.built_in.BuiltIn.TheVariants as built_in
use Rattle.btx_bst.specs.declared.callee.Callee.TheVariants as callee
use Rattle.btx_stack.specs.declared.literal.Literal.{Literal}
use Rattle.btx_stack.specs.declared.literal.Literal.TheVariants.{Integer, Text, Function, Missing}
use Rattle.btx_step.specs.declared.next.Next.TheVariants.{End}
use Rattle.btx_step.specs.declared.said.StepOutput.{StepOutput}
use Rattle.btx_step.specs.declared.said.StepOutput.TheVariants.{Nothing}
use Rattle.btx_step.specs.language.Jobs.{Job}
use Rattle.btx_step.specs.language.Stores.{Store}
use Rattle.btx_step.specs.language.Answers.{answer, with_literals, pushes, pushes_text, truth, says, quiet}
use Rattle.btx_step.specs.language.Operands.{on_operands}
use Rattle.btx_step.specs.language.Table.{row}
use Rattle.btx_step.specs.language.Steps.{built_in_run, function_run}
use Rattle.btx_check.specs.declared.description.Mask.{Mask}
use Rattle.btx_check.specs.declared.description.Value.{Value}
use Rattle.btx_check.specs.declared.description.Value.TheVariants as value
use Rattle.btx_check.specs.Calm.{Calm}
use Rattle.btx_check.specs.Descriptions.{White, Full, class_of, allows, Is, exactly, blank, filled}
use Rattle.btx_check.specs.States.{Abstract, values_in, at, Fits, Stack, Holds, In, Among, pushing, pushing_new, knowing, with_stack}
use Rattle.btx_check.specs.Inclusion.{Into}
use Rattle.btx_check.specs.Running.{Sized, Leads, RuleNow}
use Rattle.btx_check.proofs.Holding.{fits-at, stack-length, restack, fresh, known}

-- ---- pushing

pub pushes_leads : (job : Job) (left : ℕ) (xs : List Abstract) (s0 s : Store) (words : StepOutput) (y : Literal) → Calm words → s.deepest ≡ s0.deepest
    → (Sized job (values_in s0) → Sized job (values_in s)) → length s.literals < 1000
    → Among job left xs (with_literals (y ∷ s.literals) s) → Leads job left xs s0 (pushes words y s)
pushes_leads job left xs s0 s words y calm d z l h = go (nat_lt (length s.literals) 1000) (lt-ltb (length s.literals) 1000 l)
  where
    go : (yes : Bool) → yes ≡ true → Leads job left xs s0 (cond yes (says words (with_literals (y ∷ s.literals) s)) (answer (End Literals) words s))
    go true e = record { calm = calm; deepest = d; sized = z; goes = h }
    go false e = absurd (cc)

pub pushes_text_leads : (job : Job) (left : ℕ) (xs : List Abstract) (s0 s : Store) (words : StepOutput) (text : List ℕ) → Calm words → s.deepest ≡ s0.deepest
    → (Sized job (values_in s0) → Sized job (values_in s)) → length s.literals < 1000
    → Among job left xs (with_literals (Text text ∷ s.literals) s) → Leads job left xs s0 (pushes_text words text s)
pushes_text_leads job left xs s0 s words text calm d z l h = go (nat_lt greatest_string (length text))
  where
    go : (yes : Bool) → Leads job left xs s0 (cond yes (quiet (End String) s) (pushes words (Text text) s))
    go true = record { calm = tt; deepest = d; sized = z; goes = tt }
    go false = pushes_leads job left xs s0 s words (Text text) calm d z l h

-- the step of a built-in function, by what stands on the stack
pub run_row : (job : Job) (left : ℕ) (f : BuiltIn) (xs : List Abstract) (s : Store) (ls : List Literal)
    → built_in_run job f s ≡ on_operands (row f).operands (row f).default ((row f).does job) s.literals s → s.literals ≡ ls
    → Leads job left xs s (on_operands (row f).operands (row f).default ((row f).does job) ls s)
    → Leads job left xs s (function_run job (callee.BuiltIn f) s)
unfolding function_run
run_row job left f xs s ls b e h = subst (Leads job left xs s) (sym b)
    (subst (λ (k : List Literal). Leads job left xs s (on_operands (row f).operands (row f).default ((row f).does job) k s)) (sym e) h)

-- what stands on top
pub record Top (left : ℕ) (v : List Literal) (i : ℕ) (is : List ℕ) (d : Value) (literals : List Literal) : Type 0 where
  pub x : Literal
  pub xs : List Literal
  pub literals_are : literals ≡ x ∷ xs
  pub stands : at v i ≡ Some x
  pub below : Stack v is xs
  pub is_so : Is left d x

pub top_of : (left : ℕ) (ds : List Value) (v : List Literal) (i : ℕ) (is : List ℕ) (literals : List Literal) → Fits left ds v → Stack v (i ∷ is) literals
    → Top left v i is (get_or ds i value.Any) literals
top_of left ds v i is [] f h = absurd h
top_of left ds v i is (x ∷ xs) f h = record { x = x; xs = xs; literals_are = refl; stands = h.0; below = h.1; is_so = fits-at left ds v i x f h.0 }

pub one_is : (left : ℕ) → Is left (exactly (pos 1)) (Integer (pos 1))
one_is left = (omega (arith, ints), omega (arith, ints))

pub zero_is : (left : ℕ) → Is left (exactly (pos 0)) (Integer (pos 0))
zero_is left = (omega (arith, ints), omega (arith, ints))

-- ---- the stack

pub stack_at : (a : Abstract) (v : List Literal) (ls : List Literal) (i : ℕ) (is : List ℕ) → a.stack ≡ i ∷ is → Stack v a.stack ls → Stack v (i ∷ is) ls
stack_at a v ls i is e h = subst (λ (k : List ℕ). Stack v k ls) e h

pub room : (a : Abstract) (v : List Literal) (i : ℕ) (is : List ℕ) (xs : List Literal) → a.stack ≡ i ∷ is → length a.stack < 1000 → Stack v is xs
    → suc (length xs) < 1000
room a v i is xs e l k = let n = ap {B = ℕ} length e in let m = stack-length v is xs k in omega (arith, l, n, m)

pub rule_duplicate : (a : Abstract) (i : ℕ) (is : List ℕ) (to : List Abstract) → a.stack ≡ i ∷ is → length a.stack < 1000 → Into (pushing i a) to
    → RuleNow (callee.BuiltIn built_in.Duplicate) a to
unfolding built_in_run
rule_duplicate a i is to e l go job g g' left s h =
    let t = top_of left a.values h.0 i is s.literals h.1.values (stack_at a h.0 s.literals i is e h.1.stack) in
    run_row job left built_in.Duplicate to s (t.x ∷ t.xs) refl t.literals_are
    (pushes_leads job left to s (with_literals (t.x ∷ t.xs) s) Nothing t.x tt refl (λ z. z) (room a h.0 i is t.xs e l t.below)
    (go.into job left (with_literals (t.x ∷ t.x ∷ t.xs) s) (
      h.0,
      restack job left a (values_in s) h.0 (i ∷ a.stack) s.literals (t.x ∷ t.x ∷ t.xs)
          (t.stands, subst (λ (k : List ℕ). Stack h.0 k (t.x ∷ t.xs)) (sym e) (t.stands, t.below)) h.1,
    )))

pub rule_pop : (a : Abstract) (i : ℕ) (is : List ℕ) (to : List Abstract) → a.stack ≡ i ∷ is → Into (with_stack is a) to
    → RuleNow (callee.BuiltIn built_in.Pop) a to
unfolding built_in_run
rule_pop a i is to e go job g g' left s h =
    let t = top_of left a.values h.0 i is s.literals h.1.values (stack_at a h.0 s.literals i is e h.1.stack) in
    run_row job left built_in.Pop to s (t.x ∷ t.xs) refl t.literals_are
    (record {
      calm = tt;
      deepest = refl;
      sized = λ z. z;
      goes =
          go.into job left (with_literals t.xs s) (h.0, restack job left a (values_in s) h.0 is s.literals t.xs t.below h.1);
    })

pub rule_skip : (a : Abstract) (to : List Abstract) → Into a to → RuleNow (callee.BuiltIn built_in.Skip) a to
unfolding built_in_run
rule_skip a to go job g g' left s h =
    run_row job left built_in.Skip to s s.literals refl refl (record { calm = tt; deepest = refl; sized = λ z. z; goes = go.into job left s h })

pub rule_swap : (a : Abstract) (i j : ℕ) (is : List ℕ) (to : List Abstract) → a.stack ≡ i ∷ j ∷ is → Into (with_stack (j ∷ i ∷ is) a) to
    → RuleNow (callee.BuiltIn built_in.Swap) a to
unfolding built_in_run
rule_swap a i j is to e go job g g' left s h =
    let t = top_of left a.values h.0 i (j ∷ is) s.literals h.1.values (stack_at a h.0 s.literals i (j ∷ is) e h.1.stack) in
    let u = top_of left a.values h.0 j is t.xs h.1.values t.below in
    run_row job left built_in.Swap to s (t.x ∷ u.x ∷ u.xs) refl (t.literals_are ∙ ap (λ (k : List Literal). t.x ∷ k) u.literals_are)
    (record {
      calm = tt;
      deepest = refl;
      sized = λ z. z;
      goes =
          go.into job left (with_literals (u.x ∷ t.x ∷ u.xs) s)
          (h.0, restack job left a (values_in s) h.0 (j ∷ i ∷ is) s.literals (u.x ∷ t.x ∷ u.xs) (u.stands, (t.stands, u.below)) h.1);
    })

-- ---- `write$`

-- an abstract string that is certainly there
abbrev pub IsText : Mask → Type 0
IsText m = m.missing ≡ false

module _ (job : Job) (left : ℕ) (a : Abstract) (s : Store) (i : ℕ) (is : List ℕ) (m : Mask) (to : List Abstract) (v : List Literal) (xs : List Literal)
    (k : Stack v is xs) (h : Holds job left a (values_in s) s.literals v) (there : IsText m) where
  write_on : (x : Literal) → Is left (value.Text m) x → Into (with_stack is a) to
      → Leads job left to s (on_operands (row built_in.Write).operands (row built_in.Write).default ((row built_in.Write).does job) (x ∷ xs) s)
  write_on (Integer n) o go = absurd o
  write_on (Function f) o go = absurd o
  write_on Missing o go = absurd (cc)
  write_on (Text t) o go = record {
    calm = tt;
    deepest = refl;
    sized = λ z. z;
    goes =
        go.into job left (with_literals xs s) (v, restack job left a (values_in s) v is s.literals xs k h);
  }

pub rule_write : (a : Abstract) (i : ℕ) (is : List ℕ) (m : Mask) (to : List Abstract) → a.stack ≡ i ∷ is → get_or a.values i value.Any ≡ value.Text m → IsText m
    → Into (with_stack is a) to
    → RuleNow (callee.BuiltIn built_in.Write) a to
unfolding built_in_run
rule_write a i is m to e d there go job g g' left s h =
    let t = top_of left a.values h.0 i is s.literals h.1.values (stack_at a h.0 s.literals i is e h.1.stack) in
    run_row job left built_in.Write to s (t.x ∷ t.xs) refl t.literals_are
    (write_on job left a s i is m to h.0 t.xs t.below h.1 there t.x (subst (λ (c : Value). Is left c t.x) d t.is_so) go)

-- ---- `empty$`

blank_is : (m : Mask) (t : List ℕ) → list_all is_white t ≡ true → allows m (class_of t) ≡ true → allows (blank m) (class_of t) ≡ true
blank_is m [] w h = h
blank_is m (x ∷ t) w h = go (list_all is_white (x ∷ t)) w h
  where
    go : (yes : Bool) → yes ≡ true → allows m (cond yes White Full) ≡ true → allows (blank m) (cond yes White Full) ≡ true
    go true w h = h
    go false w h = absurd (cc)

filled_is : (m : Mask) (t : List ℕ) → list_all is_white t ≡ false → allows m (class_of t) ≡ true → allows (filled m) (class_of t) ≡ true
filled_is m [] w h = absurd (cc)
filled_is m (x ∷ t) w h = go (list_all is_white (x ∷ t)) w h
  where
    go : (yes : Bool) → yes ≡ false → allows m (cond yes White Full) ≡ true → allows (filled m) (cond yes White Full) ≡ true
    go true w h = absurd (cc)
    go false w h = h

-- the state after a test of number i: what is known of it then, and the result
abbrev pub found : Value → Value → ℕ → List ℕ → Abstract → Abstract
found result d i is a = pushing_new result (knowing i d (with_stack is a))

pub found_in : (job : Job) (left : ℕ) (a : Abstract) (s : Store) (i : ℕ) (is : List ℕ) (v xs : List Literal) (x y : Literal) (d r : Value) → Stack v is xs
    → Holds job left a (values_in s) s.literals v
    → at v i ≡ Some x → Is left d x → Is left r y → In job left (found r d i is a) (with_literals (y ∷ xs) s)
found_in job left a s i is v xs x y d r k h e p q = (
  v ++ y ∷ [],
  fresh job left (knowing i d (with_stack is a)) (values_in s) v xs r y q
      (known job left (with_stack is a) (values_in s) v xs i d x e p (restack job left a (values_in s) v is s.literals xs k h)),
)

module _ (job : Job) (left : ℕ) (a : Abstract) (s : Store) (i : ℕ) (is : List ℕ) (m : Mask) (to : List Abstract) (v : List Literal) (xs : List Literal)
    (k : Stack v is xs) (h : Holds job left a (values_in s) s.literals v) (l : suc (length xs) < 1000)
    (yes : Into (found (exactly (pos 1)) (value.Text (blank m)) i is a) to) (no : Into (found (exactly (pos 0)) (value.Text (filled m)) i is a) to) where
  empty_on : (x : Literal) → Is left (value.Text m) x → at v i ≡ Some x
      → Leads job left to s (on_operands (row built_in.Empty).operands (row built_in.Empty).default ((row built_in.Empty).does job) (x ∷ xs) s)
  empty_on (Integer n) o e = absurd o
  empty_on (Function f) o e = absurd o
  empty_on Missing o e =
      pushes_leads job left to s (with_literals xs s) Nothing (Integer (pos 1)) tt refl (λ z. z) (omega (arith, l))
      (yes.into job left (with_literals (Integer (pos 1) ∷ xs) s)
      (found_in job left a s i is v xs Missing (Integer (pos 1)) (value.Text (blank m)) (exactly (pos 1)) k h e o (one_is left)))
  empty_on (Text t) o e = go (list_all is_white t) refl
    where
      go : (b : Bool) → list_all is_white t ≡ b → Leads job left to s (pushes Nothing (truth b) (with_literals xs s))
      go true w = pushes_leads job left to s (with_literals xs s) Nothing (Integer (pos 1)) tt refl (λ z. z) (omega (arith, l))
          (yes.into job left (with_literals (Integer (pos 1) ∷ xs) s)
          (found_in job left a s i is v xs (Text t) (Integer (pos 1)) (value.Text (blank m)) (exactly (pos 1)) k h e (blank_is m t w o) (one_is left)))
      go false w = pushes_leads job left to s (with_literals xs s) Nothing (Integer (pos 0)) tt refl (λ z. z) (omega (arith, l))
          (no.into job left (with_literals (Integer (pos 0) ∷ xs) s)
          (found_in job left a s i is v xs (Text t) (Integer (pos 0)) (value.Text (filled m)) (exactly (pos 0)) k h e (filled_is m t w o) (zero_is left)))

pub rule_empty : (a : Abstract) (i : ℕ) (is : List ℕ) (m : Mask) (to : List Abstract) → a.stack ≡ i ∷ is → get_or a.values i value.Any ≡ value.Text m
    → length a.stack < 1000
    → Into (found (exactly (pos 1)) (value.Text (blank m)) i is a) to → Into (found (exactly (pos 0)) (value.Text (filled m)) i is a) to
    → RuleNow (callee.BuiltIn built_in.Empty) a to
unfolding built_in_run
rule_empty a i is m to e d l if_so if_not job g g' left s h =
    let t = top_of left a.values h.0 i is s.literals h.1.values (stack_at a h.0 s.literals i is e h.1.stack) in
    run_row job left built_in.Empty to s (t.x ∷ t.xs) refl t.literals_are
    (empty_on job left a s i is m to h.0 t.xs t.below h.1 (room a h.0 i is t.xs e l t.below) if_so if_not t.x (subst (λ (c : Value). Is left c t.x) d t.is_so)
    t.stands)
