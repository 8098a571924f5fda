-- The rows that are left: tokens that push, names of which nothing is known, `=`, `missing$`, `stack$` and `call.type$`.
use Rattle.std.proofs.Common.{◌≡◌, ℕ, ◌<◌, ℤ, pos, List, [], ◌∷◌, ◌++◌, length, map, Option, None, Some, Bool, true, false, get_or, refl, sym, ap}
use Rattle.std.proofs.Common.{subst, ◌∙◌, arith}
use Rattle.std.proofs.lemmas.Int.{ints}
use Rattle.std.specs.Prelude.{slice_index_or, unwrap_or, slice_get}
use Rattle.std.specs.List.{list_any}
use Rattle.std.specs.Option.{is_some, option_map_or}
use Rattle.std.specs.Ordering.{int_eq}
use Rattle.std.specs.Str.{bytes_eq}
use Rattle.btx_bst.specs.language.Style.{Style}
use Rattle.btx_bst.specs.declared.built_in.BuiltIn.TheVariants as built_in
use Rattle.btx_bst.specs.declared.callee.Callee.{Callee}
use Rattle.btx_bst.specs.declared.callee.Callee.TheVariants as callee
use Rattle.btx_bst.specs.declared.token.Token.TheVariants as token
use Rattle.btx_stack.specs.declared.literal.Literal.{Literal}
use Rattle.btx_stack.specs.declared.literal.Literal.TheVariants.{Integer, Text, Function, Missing}
use Rattle.btx_step.specs.declared.literal.OperandKind.TheVariants as wanted
use Rattle.btx_step.specs.declared.said.Note.TheVariants as note
use Rattle.btx_step.specs.declared.said.StepOutput.TheVariants as step_output
use Rattle.btx_step.specs.language.Jobs.{Job}
use Rattle.btx_step.specs.language.Stores.{Store}
use Rattle.btx_step.specs.language.Entries.{finds_missing}
use Rattle.btx_step.specs.language.Answers.{with_literals, pushed, truth}
use Rattle.btx_step.specs.language.Arithmetic.{equals}
use Rattle.btx_step.specs.declared.operands.Operand.TheVariants.{Of}
use Rattle.btx_step.specs.language.Operands.{on_operands}
use Rattle.btx_step.specs.language.Table.{row, runs_missing}
use Rattle.btx_step.specs.language.Variables.{integer_of, string_of}
use Rattle.btx_step.specs.language.Steps.{built_in_run, function_run, step_of}
use Rattle.btx_step.specs.laws.Applied.{operand_literal}
use Rattle.btx_check.specs.declared.description.Mask.{Mask}
use Rattle.btx_check.specs.declared.description.Value.{Value}
use Rattle.btx_check.specs.declared.description.Value.TheVariants as value
use Rattle.btx_check.specs.Calm.{is_fault}
use Rattle.btx_check.specs.Descriptions.{Is, exactly, any_text, gone, open_end, present}
use Rattle.btx_check.specs.States.{Abstract, values_in, named, slot, at, Stands, Holds, In, pushing, pushing_new, knowing, with_stack, putting}
use Rattle.btx_check.specs.Inclusion.{Into}
use Rattle.btx_check.specs.Running.{Leads, RuleNow, RunsFrom}
use Rattle.btx_check.specs.Answers.{OpFits, TopsFit, Comparable}
use Rattle.btx_check.proofs.Holding.{at-last, stack-length, restack, fresh, known}
use Rattle.btx_check.proofs.RowLemmas.{pushes_leads, pushes_text_leads, one_is, zero_is}
use Rattle.btx_check.proofs.Names.{room_for, known_leads}
use Rattle.btx_check.proofs.Generic.{any_text_is}
use Rattle.btx_check.proofs.Known.{OnwardAt, OnKnown, row_known}
use Rattle.btx_check.proofs.Assign.{IsVariable, put_names, entry_goes, map_at}
use Rattle.btx_check.proofs.Covering.{token_runs, one_of}

-- ---- tokens that push

push_in : (job : Job) (left : ℕ) (a : Abstract) (s : Store) (d : Value) (y : Literal) → Is left d y → In job left a s
    → In job left (pushing_new d a) (with_literals (y ∷ s.literals) s)
push_in job left a s d y o h = (h.0 ++ y ∷ [], fresh job left a (values_in s) h.0 s.literals d y o h.1)

pub text_runs : (style : Style) (allowed : List ℕ) (i : ℕ) (d : Value) (a : Abstract) (r w : ℕ) (to : List Abstract) → length a.stack < 1000
    → ((left : ℕ) → Is left d (Text (slice_index_or style.texts i []))) → Into (pushing_new d a) to
    → RunsFrom style allowed (token.Text i) (a ∷ []) r w to
unfolding step_of
text_runs style allowed i d a r w to l o go = token_runs style allowed (token.Text i) (a ∷ []) r w to (λ job of left s z hs.
    let h = one_of job left a s hs in
    let text = slice_index_or job.style.texts i [] in
    let p : Is left d (Text text) = subst (λ (st : Style). Is left d (Text (slice_index_or st.texts i []))) (sym of.same) (o left) in
    pushes_text_leads job left to s s step_output.Nothing text tt refl (λ z. z) (room_for a h.0 s.literals l h.1.stack)
    (go.into job left (with_literals (Text text ∷ s.literals) s) (push_in job left a s d (Text text) p h)))

pub integer_runs : (style : Style) (allowed : List ℕ) (n : ℤ) (a : Abstract) (r w : ℕ) (to : List Abstract) → length a.stack < 1000
    → Into (pushing_new (exactly n) a) to → RunsFrom style allowed (token.Integer n) (a ∷ []) r w to
unfolding step_of
integer_runs style allowed n a r w to l go = token_runs style allowed (token.Integer n) (a ∷ []) r w to (λ job of left s z hs.
    let h = one_of job left a s hs in
    pushes_leads job left to s s step_output.Nothing (Integer n) tt refl (λ z. z) (room_for a h.0 s.literals l h.1.stack)
    (go.into job left (with_literals (Integer n ∷ s.literals) s) (push_in job left a s (exactly n) (Integer n) (omega (arith, ints), omega (arith, ints)) h)))

pub quote_runs : (style : Style) (allowed : List ℕ) (f : Callee) (a : Abstract) (r w : ℕ) (to : List Abstract) → length a.stack < 1000
    → Into (pushing_new (value.Function f) a) to → RunsFrom style allowed (token.Quote f) (a ∷ []) r w to
unfolding step_of
quote_runs style allowed f a r w to l go = token_runs style allowed (token.Quote f) (a ∷ []) r w to (λ job of left s z hs.
    let h = one_of job left a s hs in
    pushes_leads job left to s s step_output.Nothing (Function f) tt refl (λ z. z) (room_for a h.0 s.literals l h.1.stack)
    (go.into job left (with_literals (Function f ∷ s.literals) s) (push_in job left a s (value.Function f) (Function f) refl h)))

-- ---- a name of which nothing is known: it gets a number

new_leads : (job : Job) (left : ℕ) (a : Abstract) (s : Store) (h : In job left a s) (f : Callee) (d : Value) (y : Literal) (to : List Abstract) → IsVariable f
    → length a.stack < 1000 → named job (values_in s) f ≡ Some y → Is left d y
    → Into (putting f (length a.values) (pushing_new d a)) to → Leads job left to s (pushed y s)
new_leads job left a s h f d y to v l e o go =
    let w = fresh job left a (values_in s) h.0 s.literals d y o h.1 in
    pushes_leads job left to s s step_output.Nothing y tt refl (λ z. z) (room_for a h.0 s.literals l h.1.stack)
    (go.into job left (with_literals (y ∷ s.literals) s) (
      h.0 ++ y ∷ [],
      kept f v (λ g x p. put_names job left (pushing_new d a) (values_in s) (values_in s) f (length a.values) y (h.0 ++ y ∷ []) v e
          (at-last left a.values h.0 y h.1.values) (λ g ne. refl) w.names g x p) w,
    ))
  where
    kept : (f : Callee) → IsVariable f → ((g : Callee) (x : Literal) → named job (values_in s) g ≡ Some x
        → Stands (h.0 ++ y ∷ []) (slot (putting f (length a.values) (pushing_new d a)) g) x)
        → Holds job left (pushing_new d a) (values_in s) (y ∷ s.literals) (h.0 ++ y ∷ [])
        → Holds job left (putting f (length a.values) (pushing_new d a)) (values_in s) (y ∷ s.literals) (h.0 ++ y ∷ [])
    kept (callee.GlobalInteger k) v n w = record { values = w.values; stack = w.stack; names = n; steps = w.steps; entry = w.entry }
    kept (callee.GlobalString k) v n w = record { values = w.values; stack = w.stack; names = n; steps = w.steps; entry = w.entry }
    kept (callee.EntryInteger k) v n w = record { values = w.values; stack = w.stack; names = n; steps = w.steps; entry = w.entry }
    kept (callee.EntryString k) v n w = record { values = w.values; stack = w.stack; names = n; steps = w.steps; entry = w.entry }
    kept (callee.Field k) v n w = record { values = w.values; stack = w.stack; names = n; steps = w.steps; entry = w.entry }
    kept (callee.BuiltIn k) v n w = absurd v
    kept (callee.User k) v n w = absurd v

pub rule_global_integer_new : (k : ℕ) (a : Abstract) (to : List Abstract) → length a.stack < 1000
    → Into (putting (callee.GlobalInteger k) (length a.values) (pushing_new (value.Integer None open_end) a)) to → RuleNow (callee.GlobalInteger k) a to
unfolding function_run
rule_global_integer_new k a to l go job g g' left s h = new_leads job left a s h (callee.GlobalInteger k) (value.Integer None open_end) _ to tt l refl (tt, tt)
    go

pub rule_global_string_new : (k : ℕ) (a : Abstract) (to : List Abstract) → length a.stack < 1000
    → Into (putting (callee.GlobalString k) (length a.values) (pushing_new (value.Text any_text) a)) to → RuleNow (callee.GlobalString k) a to
unfolding function_run
rule_global_string_new k a to l go job g g' left s h = new_leads job left a s h (callee.GlobalString k) (value.Text any_text) _ to tt l refl
    (any_text_is left (unwrap_or (slice_get s.strings k) [])) go

pub rule_entry_integer_new : (k : ℕ) (a : Abstract) (to : List Abstract) → a.entry ≡ true → length a.stack < 1000
    → Into (putting (callee.EntryInteger k) (length a.values) (pushing_new (value.Integer None open_end) a)) to → RuleNow (callee.EntryInteger k) a to
unfolding function_run
rule_entry_integer_new k a to en l go job g g' left s h = entry_goes job left to s (λ entry. pushed (Integer (integer_of s.entries entry k))) s.current refl
    (h.1.entry ∙ en)
    (λ entry c. new_leads job left a s h (callee.EntryInteger k) (value.Integer None open_end) (Integer (integer_of s.entries entry k)) to tt l
    (map_at s.current entry (λ e. Integer (integer_of s.entries e k)) _ c refl) (tt, tt) go)

pub rule_entry_string_new : (k : ℕ) (a : Abstract) (to : List Abstract) → a.entry ≡ true → length a.stack < 1000
    → Into (putting (callee.EntryString k) (length a.values) (pushing_new (value.Text any_text) a)) to → RuleNow (callee.EntryString k) a to
unfolding function_run
rule_entry_string_new k a to en l go job g g' left s h = entry_goes job left to s (λ entry. pushed (Text (string_of s.entries entry k))) s.current refl
    (h.1.entry ∙ en)
    (λ entry c. new_leads job left a s h (callee.EntryString k) (value.Text any_text) (Text (string_of s.entries entry k)) to tt l
    (map_at s.current entry (λ e. Text (string_of s.entries e k)) _ c refl) (any_text_is left (string_of s.entries entry k)) go)

-- ---- `=`

module _ (a : Abstract) (j i : ℕ) (below : List ℕ) (to : List Abstract) (st : a.stack ≡ j ∷ i ∷ below) (l : length below < 1000)
    (if_so : Into (pushing_new (exactly (pos 1)) (with_stack below a)) to) (if_not : Into (pushing_new (exactly (pos 0)) (with_stack below a)) to) where
  truth_onward : (job : Job) (left : ℕ) (v : List Literal) (s : Store) (b : Bool) → OnwardAt job left left a v below to s (λ t. pushed (truth b) t)
  truth_onward job left v s b under w = go b
    where
      room : length under < 1000
      room = let n = stack-length v below under w.stack in omega (arith, l, n)

      go : (b : Bool) → Leads job left to (with_literals under s) (pushed (truth b) (with_literals under s))
      go true = pushes_leads job left to (with_literals under s) (with_literals under s) step_output.Nothing (Integer (pos 1)) tt refl (λ z. z) room
          (if_so.into job left (with_literals (Integer (pos 1) ∷ under) s)
          (v ++ Integer (pos 1) ∷ [], fresh job left (with_stack below a) (values_in s) v under (exactly (pos 1)) (Integer (pos 1)) (one_is left) w))
      go false = pushes_leads job left to (with_literals under s) (with_literals under s) step_output.Nothing (Integer (pos 0)) tt refl (λ z. z) room
          (if_not.into job left (with_literals (Integer (pos 0) ∷ under) s)
          (v ++ Integer (pos 0) ∷ [], fresh job left (with_stack below a) (values_in s) v under (exactly (pos 0)) (Integer (pos 0)) (zero_is left) w))

  compared : (job : Job) (left : ℕ) (v : List Literal) (s : Store) (d c : Value) → Comparable d c → (y x : Literal) → Is left d y → Is left c x
      → OnwardAt job left left a v below to s (equals y x)
  compared job left v s (value.Integer lo hi) (value.Integer lo2 hi2) k (Integer n) (Integer m) o p = truth_onward job left v s (int_eq m n)
  compared job left v s (value.Integer lo hi) (value.Integer lo2 hi2) k (Integer n) (Text t) o p = absurd p
  compared job left v s (value.Integer lo hi) (value.Integer lo2 hi2) k (Integer n) (Function f) o p = absurd p
  compared job left v s (value.Integer lo hi) (value.Integer lo2 hi2) k (Integer n) Missing o p = absurd p
  compared job left v s (value.Integer lo hi) (value.Integer lo2 hi2) k (Text t) x o p = absurd o
  compared job left v s (value.Integer lo hi) (value.Integer lo2 hi2) k (Function f) x o p = absurd o
  compared job left v s (value.Integer lo hi) (value.Integer lo2 hi2) k Missing x o p = absurd o
  compared job left v s (value.Text m) (value.Text n) k (Text t) (Text u) o p = truth_onward job left v s (bytes_eq u t)
  compared job left v s (value.Text m) (value.Text n) k (Text t) (Integer u) o p = absurd p
  compared job left v s (value.Text m) (value.Text n) k (Text t) (Function u) o p = absurd p
  compared job left v s (value.Text m) (value.Text n) k (Text t) Missing o p = let k1 = k.1 in absurd (cc)
  compared job left v s (value.Text m) (value.Text n) k (Integer t) x o p = absurd o
  compared job left v s (value.Text m) (value.Text n) k (Function t) x o p = absurd o
  compared job left v s (value.Text m) (value.Text n) k Missing x o p = let k0 = k.0 in absurd (cc)
  compared job left v s _ _ k y x o p = absurd k

  pub rule_equals : Comparable (get_or a.values j value.Any) (get_or a.values i value.Any) → RuleNow (callee.BuiltIn built_in.Equals) a to
  unfolding built_in_run
  rule_equals k job g g' left s h = row_known job left left built_in.Equals a below to s refl
      (subst (λ (is : List ℕ). TopsFit a.values (row built_in.Equals).operands is below) (sym st) (tt, (tt, refl))) h
      (subst (λ (is : List ℕ). OnKnown left (OnwardAt job left left a h.0 below to s) h.0 a.values (row built_in.Equals).operands is
      ((row built_in.Equals).does job)) (sym st)
      (λ y q o x q2 o2. compared job left h.0 s (get_or a.values j value.Any) (get_or a.values i value.Any) k y x o o2))

-- ---- `stack$`

shown_calm : (xs : List Literal) → list_any is_fault (map note.Shown xs) ≡ false
shown_calm [] = refl
shown_calm (x ∷ xs) = shown_calm xs

pub rule_stack : (a : Abstract) (to : List Abstract) → Into (with_stack [] a) to → RuleNow (callee.BuiltIn built_in.Stack) a to
unfolding function_run built_in_run
rule_stack a to go job g g' left s h = record {
  calm = shown_calm s.literals;
  deepest = refl;
  sized = λ z. z;
  goes = go.into job left (with_literals [] s) (h.0, restack job left a (values_in s) h.0 [] s.literals [] tt h.1);
}

-- ---- `missing$`

missing_is : (job : Job) (left : ℕ) (s : Store) (o : Option ℕ) → s.current ≡ o → is_some o ≡ true → built_in_run job built_in.Missing s
    ≡ on_operands (row built_in.Missing).operands (row built_in.Missing).default ((row built_in.Missing).does job) s.literals s
unfolding built_in_run
missing_is job left s None c k = absurd (cc)
missing_is job left s (Some entry) c k = ap (λ (o : Option ℕ). runs_missing o s) c

module _ (a : Abstract) (i : ℕ) (below : List ℕ) (m : Mask) (to : List Abstract) (st : a.stack ≡ i ∷ below) (d : get_or a.values i value.Any ≡ value.Text m)
    (l : length below < 1000)
    (if_so : Into (pushing_new (exactly (pos 1)) (knowing i (value.Text (gone m)) (with_stack below a))) to)
    (if_not : Into (pushing_new (exactly (pos 0)) (knowing i (value.Text (present m)) (with_stack below a))) to) where
  absence : (job : Job) (left : ℕ) (v : List Literal) (s : Store) (o : Option (List ℕ)) (x : Literal) → x ≡ option_map_or Text o Missing → at v i ≡ Some x
      → Is left (value.Text m) x → OnwardAt job left left a v below to s (finds_missing o)
  absence job left v s None x e q k under w =
      let q2 : at v i ≡ Some Missing = q ∙ ap Some e in
      let n = stack-length v below under w.stack in
      pushes_leads job left to (with_literals under s) (with_literals under s) step_output.Nothing (Integer (pos 1)) tt refl (λ z. z) (omega (arith, l, n))
      (if_so.into job left (with_literals (Integer (pos 1) ∷ under) s) (
        v ++ Integer (pos 1) ∷ [],
        fresh job left (knowing i (value.Text (gone m)) (with_stack below a)) (values_in s) v under (exactly (pos 1))
            (Integer (pos 1)) (one_is left)
            (known job left (with_stack below a) (values_in s) v under i (value.Text (gone m)) Missing q2
            (subst (λ (y : Literal). Is left (value.Text m) y) e k)
            w),
      ))
  absence job left v s (Some t) x e q k under w =
      let q2 : at v i ≡ Some (Text t) = q ∙ ap Some e in
      let k2 : Is left (value.Text m) (Text t) = subst (λ (y : Literal). Is left (value.Text m) y) e k in
      let n = stack-length v below under w.stack in
      pushes_leads job left to (with_literals under s) (with_literals under s) step_output.Nothing (Integer (pos 0)) tt refl (λ z. z) (omega (arith, l, n))
      (if_not.into job left (with_literals (Integer (pos 0) ∷ under) s) (
        v ++ Integer (pos 0) ∷ [],
        fresh job left (knowing i (value.Text (present m)) (with_stack below a)) (values_in s) v under (exactly (pos 0))
            (Integer (pos 0)) (zero_is left) (known job left (with_stack below a) (values_in s) v under i (value.Text (present m))
            (Text t) q2 (there m t k2) w),
      ))
    where
      there : (m : Mask) (t : List ℕ) → Is left (value.Text m) (Text t) → Is left (value.Text (present m)) (Text t)
      there m t k = k

  pub rule_missing : a.entry ≡ true → RuleNow (callee.BuiltIn built_in.Missing) a to
  rule_missing en job g g' left s h = row_known job left left built_in.Missing a below to s (missing_is job left s s.current refl (h.1.entry ∙ en))
      (subst (λ (is : List ℕ). TopsFit a.values (row built_in.Missing).operands is below) (sym st)
      (subst (λ (c : Value). OpFits (Of wanted.TextOrMissing) c) (sym d) tt, refl)) h
      (subst (λ (is : List ℕ). OnKnown left (OnwardAt job left left a h.0 below to s) h.0 a.values (row built_in.Missing).operands is
      ((row built_in.Missing).does job)) (sym st) found)
    where
      found : (o : Option (List ℕ)) → at h.0 i ≡ Some (operand_literal (Of wanted.TextOrMissing) o)
          → Is left (get_or a.values i value.Any) (operand_literal (Of wanted.TextOrMissing) o) → OnwardAt job left left a h.0 below to s (finds_missing o)
      found None q k = absence job left h.0 s None Missing refl q (subst (λ (c : Value). Is left c Missing) d k)
      found (Some t) q k = absence job left h.0 s (Some t) (Text t) refl q (subst (λ (c : Value). Is left c (Text t)) d k)

-- ---- variables of entries whose numbers are known

pub rule_entry_integer_known : (k i : ℕ) (a : Abstract) (to : List Abstract) → a.entry ≡ true → length a.stack < 1000 → slot a (callee.EntryInteger k) ≡ Some i
    → Into (pushing i a) to → RuleNow (callee.EntryInteger k) a to
unfolding function_run
rule_entry_integer_known k i a to en l e go job g g' left s h = entry_goes job left to s (λ entry. pushed (Integer (integer_of s.entries entry k))) s.current
    refl (h.1.entry ∙ en)
    (λ entry c. known_leads job left a s h (callee.EntryInteger k) i (Integer (integer_of s.entries entry k)) to l
    (map_at s.current entry (λ e. Integer (integer_of s.entries e k)) _ c refl) e go)

pub rule_entry_string_known : (k i : ℕ) (a : Abstract) (to : List Abstract) → a.entry ≡ true → length a.stack < 1000 → slot a (callee.EntryString k) ≡ Some i
    → Into (pushing i a) to → RuleNow (callee.EntryString k) a to
unfolding function_run
rule_entry_string_known k i a to en l e go job g g' left s h = entry_goes job left to s (λ entry. pushed (Text (string_of s.entries entry k))) s.current refl
    (h.1.entry ∙ en)
    (λ entry c. known_leads job left a s h (callee.EntryString k) i (Text (string_of s.entries entry k)) to l
    (map_at s.current entry (λ e. Text (string_of s.entries e k)) _ c refl) e go)
