-- Rows in the form that a checker needs: comparisons that say something of their operands, sums with bounds, and how many names a string has.
use Rattle.std.proofs.Common.{◌≡◌, ℕ, zero, suc, ◌<◌, ◌≤◌, ℤ, pos, List, [], ◌∷◌, ◌++◌, length, Option, Some, Bool, true, false, cond, get_or, refl, sym}
use Rattle.std.proofs.Common.{subst, append-nil}
use Rattle.std.proofs.Common.{arith}
use Rattle.std.proofs.lemmas.Bool.{and_from, or_left, or_right}
use Rattle.std.proofs.lemmas.Int.{ints}
use Rattle.std.proofs.lemmas.List.Folds.{list_all-append}
use Rattle.std.specs.Prelude.{◌+ℤ◌, ◌-ℤ◌, int_lt, ◌==◌, ◌&&◌}
use Rattle.btx_bst.specs.declared.built_in.BuiltIn.{BuiltIn}
use Rattle.btx_bst.specs.declared.built_in.BuiltIn.TheVariants as built_in
use Rattle.btx_bst.specs.declared.callee.Callee.TheVariants as callee
use Rattle.btx_stack.specs.declared.literal.Literal.{Literal}
use Rattle.btx_stack.specs.declared.literal.Literal.TheVariants.{Integer, Text, Function, Missing}
use Rattle.btx_step.specs.declared.literal.OperandKind.TheVariants as wanted
use Rattle.btx_step.specs.declared.said.Note.TheVariants as note
use Rattle.btx_step.specs.declared.said.StepOutput.TheVariants as step_output
use Rattle.btx_step.specs.declared.stand_in.StandIn.TheVariants.{Zero}
use Rattle.btx_step.specs.language.Jobs.{Job}
use Rattle.btx_step.specs.language.Stores.{Store}
use Rattle.btx_step.specs.language.Answers.{with_literals, pushed, pushed_text, truth, complains}
use Rattle.std.specs.Ordering.{int_eq}
use Rattle.btx_step.specs.language.Arithmetic.{fits, result_of, equals}
use Rattle.btx_step.specs.declared.operands.Operand.TheVariants.{Of}
use Rattle.btx_step.specs.language.Operands.{on_operands}
use Rattle.btx_step.specs.language.Table.{row}
use Rattle.btx_step.specs.language.Steps.{built_in_run, function_run}
use Rattle.btx_names.specs.language.NameLists.{names_of, pieces_from, is_separator}
use Rattle.std.specs.List.{list_all}
use Rattle.btx_text.specs.language.Class.{is_white}
use Rattle.std.specs.List.{onto_first}
use Rattle.btx_text.specs.language.Elements.{depth_after}
use Rattle.btx_check.specs.declared.description.Mask.{Mask}
use Rattle.btx_check.specs.declared.description.Value.{Value}
use Rattle.btx_check.specs.declared.description.Value.TheVariants as value
use Rattle.btx_check.specs.declared.description.Upper.{Upper}
use Rattle.btx_check.specs.Descriptions.{White, Full, class_of, allows, Is, exactly, followed, nothing, open_end, something}
use Rattle.btx_check.specs.States.{Abstract, In, values_in, at, pushing_new, knowing, with_stack}
use Rattle.btx_check.specs.Inclusion.{Into}
use Rattle.btx_check.specs.Bounds.{SumIs, Narrows, Matches}
use Rattle.btx_check.specs.Running.{Leads, RuleNow, Rule}
use Rattle.btx_check.specs.Answers.{OpFits, TopsFit}
use Rattle.btx_check.proofs.Holding.{stack-length, fresh, known}
use Rattle.btx_check.proofs.RowLemmas.{pushes_leads, pushes_text_leads, one_is, zero_is}
use Rattle.btx_check.proofs.Known.{OnwardAt, OnKnown, row_known}
use Rattle.btx_check.proofs.Later.{holds_later}

-- the two operands of `>`, `<`, `+` and `-`: integers
two_integers : (a : Abstract) (j i : ℕ) (below : List ℕ) (lo : Option ℤ) (hi : Upper) (lo2 : Option ℤ) (hi2 : Upper) → a.stack ≡ j ∷ i ∷ below
    → get_or a.values j value.Any ≡ value.Integer lo hi → get_or a.values i value.Any ≡ value.Integer lo2 hi2
    → TopsFit a.values (Of wanted.Integer ∷ Of wanted.Integer ∷ []) a.stack below
two_integers a j i below lo hi lo2 hi2 st dj di = subst (λ (is : List ℕ). TopsFit a.values (Of wanted.Integer ∷ Of wanted.Integer ∷ []) is below) (sym st)
    (subst (λ (c : Value). OpFits (Of wanted.Integer) c) (sym dj) tt, (subst (λ (c : Value). OpFits (Of wanted.Integer) c) (sym di) tt, refl))

module _ (a : Abstract) (j i : ℕ) (below : List ℕ) (lo : Option ℤ) (hi : Upper) (lo2 : Option ℤ) (hi2 : Upper) (c d c' d' : Value) (to : List Abstract)
    (st : a.stack ≡ j ∷ i ∷ below) (l : length below < 1000)
    (dj : get_or a.values j value.Any ≡ value.Integer lo hi) (di : get_or a.values i value.Any ≡ value.Integer lo2 hi2)
    (if_so : Into (pushing_new (exactly (pos 1)) (knowing j d (knowing i c (with_stack below a)))) to)
    (if_not : Into (pushing_new (exactly (pos 0)) (knowing j d' (knowing i c' (with_stack below a)))) to) where
  -- an answer that says this of both integers
  answered : (answer : ℤ) (e f : Value) → ((left : ℕ) → Is left (exactly answer) (Integer answer))
      → Into (pushing_new (exactly answer) (knowing j f (knowing i e (with_stack below a)))) to
      → (job : Job) (left : ℕ) (v : List Literal) (s : Store) (n m : ℤ) → at v j ≡ Some (Integer n) → at v i ≡ Some (Integer m)
      → Is left e (Integer m) × Is left f (Integer n) → OnwardAt job left left a v below to s (λ t. pushed (Integer answer) t)
  answered answer e f said_so go job left v s n m ej ei q under w =
      let k = stack-length v below under w.stack in
      pushes_leads job left to (with_literals under s) (with_literals under s) step_output.Nothing (Integer answer) tt refl (λ z. z) (omega (arith, l, k))
      (go.into job left (with_literals (Integer answer ∷ under) s) (
        v ++ Integer answer ∷ [],
        fresh job left (knowing j f (knowing i e (with_stack below a))) (values_in s) v under (exactly answer) (Integer answer) (said_so left)
            (known job left (knowing i e (with_stack below a)) (values_in s) v under j f (Integer n) ej q.1
            (known job left (with_stack below a) (values_in s) v under i e (Integer m) ei q.0 w)),
      ))

  compared : (job : Job) (left : ℕ) (v : List Literal) (s : Store) (b : Bool) (n m : ℤ) → at v j ≡ Some (Integer n) → at v i ≡ Some (Integer m)
      → (b ≡ true → Is left c (Integer m) × Is left d (Integer n)) → (b ≡ false → Is left c' (Integer m) × Is left d' (Integer n))
      → OnwardAt job left left a v below to s (λ t. pushed (truth b) t)
  compared job left v s true n m ej ei up down = answered (pos 1) c d one_is if_so job left v s n m ej ei (up refl)
  compared job left v s false n m ej ei up down = answered (pos 0) c' d' zero_is if_not job left v s n m ej ei (down refl)

  -- a function of the two integers on top, by its row
  by_row : (f : BuiltIn) (job : Job) (left : ℕ) (s : Store)
      → built_in_run job f s ≡ on_operands (row f).operands (row f).default ((row f).does job) s.literals s
      → TopsFit a.values (row f).operands a.stack below → (h : In job left a s)
      → OnKnown left (OnwardAt job left left a h.0 below to s) h.0 a.values (row f).operands (j ∷ i ∷ below) ((row f).does job)
      → Leads job left to s (function_run job (callee.BuiltIn f) s)
  by_row f job left s runs fit h known = row_known job left left f a below to s runs fit h
      (subst (λ (is : List ℕ). OnKnown left (OnwardAt job left left a h.0 below to s) h.0 a.values (row f).operands is ((row f).does job)) (sym st) known)

  -- the integer below is greater than that on top
  pub rule_greater_known : Narrows true (value.Integer lo2 hi2) (value.Integer lo hi) c d → Narrows false (value.Integer lo2 hi2) (value.Integer lo hi) c' d'
      → RuleNow (callee.BuiltIn built_in.Greater) a to
  unfolding built_in_run
  rule_greater_known up down job g g' left s h = by_row built_in.Greater job left s refl (two_integers a j i below lo hi lo2 hi2 st dj di) h
      (λ n ej o m ei p. let o2 = subst (λ (x : Value). Is left x (Integer n)) dj o in let p2 = subst (λ (x : Value). Is left x (Integer m)) di p in
      compared job left h.0 s (int_lt n m) n m ej ei (λ e. up left m n p2 o2 e) (λ e. down left m n p2 o2 e))

  -- it is less
  pub rule_less_known : Narrows true (value.Integer lo hi) (value.Integer lo2 hi2) d c → Narrows false (value.Integer lo hi) (value.Integer lo2 hi2) d' c'
      → RuleNow (callee.BuiltIn built_in.Less) a to
  unfolding built_in_run
  rule_less_known up down job g g' left s h = by_row built_in.Less job left s refl (two_integers a j i below lo hi lo2 hi2 st dj di) h
      (λ n ej o m ei p. let o2 = subst (λ (x : Value). Is left x (Integer n)) dj o in let p2 = subst (λ (x : Value). Is left x (Integer m)) di p in
      compared job left h.0 s (int_lt m n) n m ej ei (λ e. let q = up left n m o2 p2 e in (q.1, q.0)) (λ e. let q = down left n m o2 p2 e in (q.1, q.0)))

  equal_integers : Matches true (value.Integer lo2 hi2) (value.Integer lo hi) c d → Matches false (value.Integer lo2 hi2) (value.Integer lo hi) c' d'
      → (job : Job) (left : ℕ) (v : List Literal) (s : Store) (y x : Literal) → at v j ≡ Some y → at v i ≡ Some x
      → Is left (value.Integer lo hi) y → Is left (value.Integer lo2 hi2) x → OnwardAt job left left a v below to s (equals y x)
  equal_integers same other job left v s (Integer n) (Integer m) ej ei o p = compared job left v s (int_eq m n) n m ej ei (λ e. same left m n p o e)
      (λ e. other left m n p o e)
  equal_integers same other job left v s (Integer n) (Text t) ej ei o p = absurd p
  equal_integers same other job left v s (Integer n) (Function f) ej ei o p = absurd p
  equal_integers same other job left v s (Integer n) Missing ej ei o p = absurd p
  equal_integers same other job left v s (Text t) x ej ei o p = absurd o
  equal_integers same other job left v s (Function f) x ej ei o p = absurd o
  equal_integers same other job left v s Missing x ej ei o p = absurd o

  -- it is the same
  pub rule_equals_integers : Matches true (value.Integer lo2 hi2) (value.Integer lo hi) c d → Matches false (value.Integer lo2 hi2) (value.Integer lo hi) c' d'
      → RuleNow (callee.BuiltIn built_in.Equals) a to
  unfolding built_in_run
  rule_equals_integers same other job g g' left s h = by_row built_in.Equals job left s refl
      (subst (λ (is : List ℕ). TopsFit a.values (row built_in.Equals).operands is below) (sym st) (tt, (tt, refl))) h
      (λ y ej o x ei p. equal_integers same other job left h.0 s y x ej ei (subst (λ (z : Value). Is left z y) dj o) (subst (λ (z : Value). Is left z x) di p))

-- ---- sums and differences

module _ (a : Abstract) (j i : ℕ) (below : List ℕ) (lo : Option ℤ) (hi : Upper) (lo2 : Option ℤ) (hi2 : Upper) (r : Value) (to : List Abstract)
    (st : a.stack ≡ j ∷ i ∷ below) (l : length below < 1000)
    (dj : get_or a.values j value.Any ≡ value.Integer lo hi) (di : get_or a.values i value.Any ≡ value.Integer lo2 hi2)
    (go : Into (pushing_new r (with_stack below a)) to) where
  summed : (job : Job) (left : ℕ) (v : List Literal) (s : Store) (n : ℤ) → Is left r (Integer (cond (fits n) n (pos 0)))
      → OnwardAt job (suc left) left a v below to s (result_of n)
  summed job left v s n o under w = both (fits n) o
    where
      room : length under < 1000
      room = let k = stack-length v below under w.stack in omega (arith, l, k)

      both : (b : Bool) → Is left r (Integer (cond b n (pos 0)))
          → Leads job left to (with_literals under s)
          (cond b (pushed (Integer n) (with_literals under s)) (complains note.Overflow Zero (with_literals under s)))
      both true o = pushes_leads job left to (with_literals under s) (with_literals under s) step_output.Nothing (Integer n) tt refl (λ z. z) room
          (go.into job left (with_literals (Integer n ∷ under) s) (
            v ++ Integer n ∷ [],
            fresh job left (with_stack below a) (values_in s) v under r (Integer n) o
                (holds_later job left (with_stack below a) (values_in s) under v w),
          ))
      both false o = pushes_leads job left to (with_literals under s) (with_literals under s) (step_output.Noted (note.Overflow ∷ [])) (Integer (pos 0)) refl refl
          (λ z. z) room
          (go.into job left (with_literals (Integer (pos 0) ∷ under) s) (
            v ++ Integer (pos 0) ∷ [],
            fresh job left (with_stack below a) (values_in s) v under r (Integer (pos 0)) o
                (holds_later job left (with_stack below a) (values_in s) under v w),
          ))

  pub rule_plus_known : SumIs (λ x y. x +ℤ y) (value.Integer lo2 hi2) (value.Integer lo hi) r → Rule (callee.BuiltIn built_in.Plus) a to
  unfolding built_in_run
  rule_plus_known sum job g g' left s h = row_known job (suc left) left built_in.Plus a below to s refl (two_integers a j i below lo hi lo2 hi2 st dj di) h
      (subst (λ (is : List ℕ). OnKnown (suc left) (OnwardAt job (suc left) left a h.0 below to s) h.0 a.values (row built_in.Plus).operands is
      ((row built_in.Plus).does job)) (sym st)
      (λ n ej o m ei p. summed job left h.0 s (m +ℤ n)
      (sum left h.1.steps m n (subst (λ (x : Value). Is (suc left) x (Integer m)) di p) (subst (λ (x : Value). Is (suc left) x (Integer n)) dj o))))

  pub rule_minus_known : SumIs (λ x y. x -ℤ y) (value.Integer lo2 hi2) (value.Integer lo hi) r → Rule (callee.BuiltIn built_in.Minus) a to
  unfolding built_in_run
  rule_minus_known sum job g g' left s h = row_known job (suc left) left built_in.Minus a below to s refl (two_integers a j i below lo hi lo2 hi2 st dj di) h
      (subst (λ (is : List ℕ). OnKnown (suc left) (OnwardAt job (suc left) left a h.0 below to s) h.0 a.values (row built_in.Minus).operands is
      ((row built_in.Minus).does job)) (sym st)
      (λ n ej o m ei p. summed job left h.0 s (m -ℤ n)
      (sum left h.1.steps m n (subst (λ (x : Value). Is (suc left) x (Integer m)) di p) (subst (λ (x : Value). Is (suc left) x (Integer n)) dj o))))

-- ---- names: a string that isn't empty has one or more

some_pieces : (skip depth : ℕ) (t : List ℕ) → 1 ≤ length (pieces_from skip depth t)
unfolding pieces_from
some_pieces zero depth [] = omega arith
some_pieces (suc skip) depth [] = omega arith
some_pieces (suc skip) depth (b ∷ bs) = some_pieces skip depth bs
some_pieces zero depth (b ∷ bs) = pick (depth == 0 && is_separator (b ∷ bs)) (pieces_from 3 0 bs) (pieces_from 0 (depth_after depth b) bs)
  where
    onto : (xs : List (List ℕ)) → 1 ≤ length (onto_first b xs)
    onto [] = omega arith
    onto (x ∷ xs) = omega arith

    pick : (c : Bool) (xs ys : List (List ℕ)) → 1 ≤ length (cond c ((b ∷ []) ∷ xs) (onto_first b ys))
    pick true xs ys = omega arith
    pick false xs ys = onto ys

abbrev pub some_names : Value
some_names = value.Integer (Some (pos 1)) open_end

names_is : (left : ℕ) (b : ℕ) (t : List ℕ) → Is left some_names (Integer (pos (length (names_of (b ∷ t)))))
unfolding names_of
names_is left b t = let k = some_pieces 0 0 (b ∷ t) in (omega (arith, ints, k), tt)

no_names : length (names_of []) ≡ 0
unfolding names_of
no_names = refl

module _ (a : Abstract) (i : ℕ) (below : List ℕ) (m : Mask) (to : List Abstract) (st : a.stack ≡ i ∷ below) (l : length below < 1000)
    (di : get_or a.values i value.Any ≡ value.Text m) (there : m.missing ≡ false)
    (if_none : Into (pushing_new (exactly (pos 0)) (knowing i (value.Text (nothing m)) (with_stack below a))) to)
    (if_some : Into (pushing_new some_names (knowing i (value.Text (something m)) (with_stack below a))) to) where
  counted : (job : Job) (left : ℕ) (v : List Literal) (s : Store) (t : List ℕ) → at v i ≡ Some (Text t) → Is left (value.Text m) (Text t)
      → OnwardAt job left left a v below to s (λ s. pushed (Integer (pos (length (names_of t)))) s)
  counted job left v s [] e o under w =
      let k = stack-length v below under w.stack in
      subst (λ (n : ℕ). Leads job left to (with_literals under s) (pushed (Integer (pos n)) (with_literals under s))) (sym no_names)
      (pushes_leads job left to (with_literals under s) (with_literals under s) step_output.Nothing (Integer (pos 0)) tt refl (λ z. z) (omega (arith, l, k))
      (if_none.into job left (with_literals (Integer (pos 0) ∷ under) s) (
        v ++ Integer (pos 0) ∷ [],
        fresh job left (knowing i (value.Text (nothing m)) (with_stack below a)) (values_in s) v under (exactly (pos 0)) (Integer (pos 0)) (zero_is left)
            (known job left (with_stack below a) (values_in s) v under i (value.Text (nothing m)) (Text []) e o w),
      )))
  counted job left v s (b ∷ t) e o under w =
      let k = stack-length v below under w.stack in
      let y = Integer (pos (length (names_of (b ∷ t)))) in
      pushes_leads job left to (with_literals under s) (with_literals under s) step_output.Nothing y tt refl (λ z. z) (omega (arith, l, k))
      (if_some.into job left (with_literals (y ∷ under) s) (
        v ++ y ∷ [],
        fresh job left (knowing i (value.Text (something m)) (with_stack below a)) (values_in s) v under some_names y (names_is left b t)
            (known job left (with_stack below a) (values_in s) v under i (value.Text (something m)) (Text (b ∷ t)) e (full (list_all is_white (b ∷ t)) o) w),
      ))
    where
      full : (c : Bool) → allows m (cond c White Full) ≡ true → allows (something m) (cond c White Full) ≡ true
      full true o = o
      full false o = o

  pub rule_num_names_known : RuleNow (callee.BuiltIn built_in.NumNames) a to
  unfolding built_in_run
  rule_num_names_known job g g' left s h = row_known job left left built_in.NumNames a below to s refl
      (subst (λ (is : List ℕ). TopsFit a.values (row built_in.NumNames).operands is below) (sym st)
      (subst (λ (c : Value). OpFits (Of wanted.Text) c) (sym di) there, refl)) h
      (subst (λ (is : List ℕ). OnKnown left (OnwardAt job left left a h.0 below to s) h.0 a.values (row built_in.NumNames).operands is
      ((row built_in.NumNames).does job)) (sym st)
      (λ t e o. counted job left h.0 s t e (subst (λ (c : Value). Is left c (Text t)) di o)))

-- ---- `*`: of which class a string is that comes after another

followed_tests : (m n : Mask) (c d : Bool) → allows m (cond c White Full) ≡ true → allows n (cond d White Full) ≡ true
    → allows (followed m n) (cond (c && d) White Full) ≡ true
followed_tests m n true true h g = and_from _ _ (and_from _ _ (or_right m.empty m.white h) (or_right n.empty n.white g)) (or_left m.white n.white h)
followed_tests m n true false h g = or_right m.full n.full g
followed_tests m n false true h g = or_left m.full n.full h
followed_tests m n false false h g = or_left m.full n.full h

followed_is : (m n : Mask) (xs ys : List ℕ) → allows m (class_of xs) ≡ true → allows n (class_of ys) ≡ true → allows (followed m n) (class_of (xs ++ ys)) ≡ true
followed_is m n [] [] h g = and_from m.empty n.empty h g
followed_is m n [] (y ∷ ys) h g = second (list_all is_white (y ∷ ys)) g
  where
    second : (d : Bool) → allows n (cond d White Full) ≡ true → allows (followed m n) (cond d White Full) ≡ true
    second true g = and_from _ _ (and_from _ _ (or_left m.empty m.white h) (or_right n.empty n.white g)) (or_right m.white n.white g)
    second false g = or_right m.full n.full g
followed_is m n (x ∷ xs) [] h g = subst (λ (zs : List ℕ). allows (followed m n) (class_of zs) ≡ true) (sym (append-nil (x ∷ xs)))
    (first (list_all is_white (x ∷ xs)) h)
  where
    first : (c : Bool) → allows m (cond c White Full) ≡ true → allows (followed m n) (cond c White Full) ≡ true
    first true h = and_from _ _ (and_from _ _ (or_right m.empty m.white h) (or_left n.empty n.white g)) (or_left m.white n.white h)
    first false h = or_left m.full n.full h
followed_is m n (x ∷ xs) (y ∷ ys) h g = subst (λ (b : Bool). allows (followed m n) (cond b White Full) ≡ true)
    (sym (list_all-append is_white (x ∷ xs) (y ∷ ys)))
    (followed_tests m n (list_all is_white (x ∷ xs)) (list_all is_white (y ∷ ys)) h g)

module _ (a : Abstract) (j i : ℕ) (below : List ℕ) (m n : Mask) (to : List Abstract) (st : a.stack ≡ j ∷ i ∷ below) (l : length below < 1000)
    (dj : get_or a.values j value.Any ≡ value.Text m) (di : get_or a.values i value.Any ≡ value.Text n) (mj : m.missing ≡ false) (ni : n.missing ≡ false)
    (go : Into (pushing_new (value.Text (followed n m)) (with_stack below a)) to) where
  written : (job : Job) (left : ℕ) (v : List Literal) (s : Store) (first last : List ℕ) → Is left (value.Text n) (Text first)
      → Is left (value.Text m) (Text last) → OnwardAt job left left a v below to s (λ t. pushed_text (first ++ last) t)
  written job left v s first last p o under w =
      let k = stack-length v below under w.stack in
      let y = Text (first ++ last) in
      pushes_text_leads job left to (with_literals under s) (with_literals under s) step_output.Nothing (first ++ last) tt refl (λ z. z) (omega (arith, l, k))
      (go.into job left (with_literals (y ∷ under) s) (
        v ++ y ∷ [],
        fresh job left (with_stack below a) (values_in s) v under (value.Text (followed n m)) y (followed_is n m first last p o) w,
      ))

  pub rule_concatenate_known : RuleNow (callee.BuiltIn built_in.Concatenate) a to
  unfolding built_in_run
  rule_concatenate_known job g g' left s h = row_known job left left built_in.Concatenate a below to s refl
      (subst (λ (is : List ℕ). TopsFit a.values (row built_in.Concatenate).operands is below) (sym st)
      (subst (λ (c : Value). OpFits (Of wanted.Text) c) (sym dj) mj, (subst (λ (c : Value). OpFits (Of wanted.Text) c) (sym di) ni, refl))) h
      (subst (λ (is : List ℕ). OnKnown left (OnwardAt job left left a h.0 below to s) h.0 a.values (row built_in.Concatenate).operands is
      ((row built_in.Concatenate).does job)) (sym st)
      (λ last ej o first ei p. written job left h.0 s first last (subst (λ (c : Value). Is left c (Text first)) di p)
      (subst (λ (c : Value). Is left c (Text last)) dj o)))
