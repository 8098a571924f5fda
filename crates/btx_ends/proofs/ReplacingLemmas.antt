-- Loops over a text that stands on top of the stack: their test is true only where it isn't empty, and each turn puts a shorter one in its place.
use Rattle.std.proofs.Common.{◌≡◌, ℕ, zero, suc, ◌+◌, ◌-◌, ◌≤◌, ◌<◌, ℤ, pos, negsuc, Bool, true, false, not, cond, List, [], ◌∷◌, ◌++◌, length, take, drop}
use Rattle.std.proofs.Common.{refl, arith, sym, ap, subst, ◌∙◌, ◌⊎◌, inl, inr}
use Rattle.std.proofs.lemmas.List.{length-take, length-drop}
use Rattle.std.proofs.lemmas.Bool.{ltb-false}
use Rattle.std.proofs.lemmas.Int.{ints}
use Rattle.std.specs.Prelude.{slice_get, slice_set, unwrap_or, int_lt, ◌≤ℤ◌}
use Rattle.std.specs.Str.{bytes_eq}
use Rattle.btx_bst.specs.declared.built_in.BuiltIn.TheVariants as built_in
use Rattle.btx_bst.specs.declared.callee.Callee.TheVariants as callee
use Rattle.btx_bst.specs.declared.token.Token.{Token}
use Rattle.btx_bst.specs.declared.token.Token.TheVariants as token
use Rattle.btx_bst.specs.declared.token.Token.TheVariants.{Quote, Run}
use Rattle.btx_stack.specs.declared.literal.Literal.{Literal}
use Rattle.btx_stack.specs.declared.literal.Literal.TheVariants as literal
use Rattle.btx_strings.specs.language.Positions.{substring_of}
use Rattle.btx_step.proofs.AppliedLemmas.{applied_or_reported}
use Rattle.btx_step.specs.declared.said.Note.{Note}
use Rattle.btx_step.specs.declared.said.StepOutput.TheVariants as step_output
use Rattle.btx_step.specs.language.Answers.{with_literals, truth}
use Rattle.btx_step.specs.language.Control.{is_positive, tested}
use Rattle.btx_step.specs.language.Jobs.{Job}
use Rattle.btx_step.specs.language.Operands.{on_operands}
use Rattle.btx_step.specs.language.Steps.{step_of, function_run, built_in_run}
use Rattle.btx_step.specs.language.Stores.{Store}
use Rattle.btx_step.specs.language.Table.{row}
use Rattle.btx_step.specs.language.Variables as variables
use Rattle.btx_step.specs.laws.Applied.{IsApplied, IsReported}
use Rattle.btx_step.specs.refinement.Control as kept_control
use Rattle.btx_machine.specs.language.States.{State, state, Outcome, Done, Stopped, Limit}
use Rattle.btx_machine.specs.language.Steps.{turn_of}
use Rattle.btx_machine.specs.language.MeaningBySteps.{in_turn, act}
use Rattle.btx_ends.specs.declared.held.Held.{Held}
use Rattle.btx_ends.specs.declared.held.Held.TheVariants as held
use Rattle.btx_ends.specs.declared.held.Pile.{Pile}
use Rattle.btx_ends.specs.declared.measures.Effect.{Effect}
use Rattle.btx_ends.specs.declared.measures.Kind.{Kind}
use Rattle.btx_ends.specs.declared.measures.Replacement.{Replacement}
use Rattle.btx_ends.specs.Counters.{value_in}
use Rattle.btx_ends.specs.Keeping.{IfDone}
use Rattle.btx_ends.specs.Shortening.{text_in, word_of, body_of, KindsHold, EffectsHold}
use Rattle.btx_ends.specs.Descending.{nothing_held, push, is_integer, is_apart, pile_through}
use Rattle.btx_ends.specs.Replacing.{top_test, TellsTop, only_late, over_whole, text_measure, TextStays, choice_of, kept_in, below_two, rest_tokens, LeavesNothing, LeavesRest}
use Rattle.btx_ends.specs.Replacing.{EndsBelowTwo, LeavesLess, IsChoice, Splits, IsNumber, Gives, Replaces}
use Rattle.btx_ends.proofs.CounterLemmas.{SameVariables, quote_step, integer_step, string_step, variable_step, in_turn_both, turn_again}
use Rattle.btx_ends.proofs.DoneLemmas.{if_then, if_weaker, Leaves, LeavesIn, AnswerSo, one_to, pushes_so, text_so, pushed_to, text_to, word_step, equals_step, so_by, not_to, number_to, call_to, choose_to, truth_number, number_of, number_positive}
use Rattle.btx_ends.proofs.HeldLemmas.{built_in_is, IsHeld, Stands, On, LeftIn, pushed_on, lacking_on, nothing_on, there, integer_there, integer_is, through_done}
use Rattle.btx_ends.proofs.ShorterLemmas.{both_if, stays_done, put_short}
use Rattle.btx_ends.proofs.WalkLemmas.{some_left}
use Rattle.btx_ends.proofs.DescendingLemmas.{least, least_few, least_over}

-- ---- what stands on top

-- a text of at most n bytes
abbrev pub TextOn : ℕ → List Literal → Type 0
TextOn n ys = (z : List ℕ) × ((zs : List Literal) × ((ys ≡ literal.Text z ∷ zs) × (length z ≤ n)))

abbrev pub TextTop : ℕ → State → Type 0
TextTop n t = TextOn n t.store.literals

-- an integer from which on no part of a text is the whole of it, if it is an integer
abbrev ApartOn : List Literal → Type 0
ApartOn [] = Unit {0}
ApartOn (y ∷ ys) = IsHeld 0 held.Apart y

abbrev LateOn : List Literal → Type 0
LateOn [] = Unit {0}
LateOn (y ∷ ys) = IsHeld 0 held.Late y

late_on : (ys : List Literal) → LateOn ys → On 0 only_late ys
late_on [] h = lacking_on 0 held.Late nothing_held tt (nothing_on 0 [])
late_on (y ∷ ys) h = pushed_on 0 held.Late nothing_held y ys h (nothing_on 0 ys)

apart_is : (h : Held) (y : Literal) → is_apart h ≡ true → IsHeld 0 h y → IsHeld 0 held.Apart y
apart_is held.Apart y e g = g
apart_is held.Late y e g = λ n q. inr (g n q)
apart_is h y e g = absurd (cc)

apart_on : (p : Pile) (ys : List Literal) → is_apart p.first ≡ true → On 0 p ys → ApartOn ys
apart_on p [] e w = tt
apart_on p (y ∷ ys) e w = apart_is p.first y e w.0

-- an integer, and below it a text
record Chosen (k : ℕ) (ls : List Literal) : Type 0 where
  integer : ℤ
  text : List ℕ
  below : List Literal
  is : ls ≡ literal.Integer integer ∷ literal.Text text ∷ below
  short : length text ≤ k

chosen_on : (k : ℕ) (p : Pile) (ls : List Literal) → IsChoice p → On k p ls → Chosen k ls
chosen_on k p ls c w =
    let a = there k p.first (p.second ∷ p.third ∷ p.fourth ∷ p.fifth ∷ p.sixth ∷ p.seventh ∷ p.eighth ∷ []) ls (integer_there k p.first c.0) w in
    let v = subst (λ (h : Held). Stands k (h ∷ p.third ∷ p.fourth ∷ p.fifth ∷ p.sixth ∷ p.seventh ∷ p.eighth ∷ []) a.others) c.1 a.below in
    let b = there k held.Whole (p.third ∷ p.fourth ∷ p.fifth ∷ p.sixth ∷ p.seventh ∷ p.eighth ∷ []) a.others refl v in
    let i = integer_is k p.first a.first c.0 a.holds in
    record {
      integer = i.0;
      text = b.holds.0;
      below = b.others;
      is = a.is ∙ ap (λ (y : Literal). y ∷ a.others) i.1 ∙ ap (λ (ys : List Literal). literal.Integer i.0 ∷ ys) (b.is ∙ ap (λ (y : Literal). y ∷ b.others) b.holds.1.0);
      short = b.holds.1.1;
    }

over_on : (k : ℕ) (n : ℤ) (ys ls : List Literal) → ls ≡ literal.Integer n ∷ ys → TextOn k ys → On k over_whole ls
over_on k n ys ls e w =
    subst (On k over_whole) (sym (e ∙ ap (λ (xs : List Literal). literal.Integer n ∷ xs) w.1.1.0))
    (pushed_on k held.Anything (push held.Whole nothing_held) (literal.Integer n) (literal.Text w.0 ∷ w.1.0) tt
    (pushed_on k held.Whole nothing_held (literal.Text w.0) w.1.0 (w.0, (refl, w.1.1.1)) (nothing_on k w.1.0)))

any_state : (o : Outcome) → IfDone (λ t. Unit {0}) o
any_state (Done t rest) = tt
any_state (Stopped t) = tt
any_state (Limit kind t rest) = tt

same_texts : (i : ℕ) (r q : Store) → q.strings ≡ r.strings → unwrap_or (slice_get q.strings i) [] ≡ unwrap_or (slice_get r.strings i) []
same_texts i r q e = ap (λ (ts : List (List ℕ)). unwrap_or (slice_get ts i) []) e

-- ---- the empty text

module _ (job : Job) where
  nothing_done : (d number n : ℕ) → LeavesNothing job.style (body_of job.style number) → (bodies loops left : ℕ) (s : State)
      → IfDone (TextTop n) (act job d (Run (callee.User number)) bodies loops left s)
  nothing_done d number n w bodies loops left s =
      call_to job d number (w.0 ++ token.Text w.1.0 ∷ []) (TextTop n) bodies loops left s w.1.1.0
      (λ e less t q. subst (λ (o : Outcome). IfDone (TextTop n) o) (sym (in_turn_both (act job e) w.0 (token.Text w.1.0 ∷ []) (bodies + 1) loops less t))
      (if_then (λ u. Unit {0}) (TextTop n) _ _ (any_state (in_turn (act job e) w.0 (bodies + 1) loops less t))
      (λ less1 u v. if_then (LeavesIn (literal.Text (word_of job.style w.1.0) ∷ u.store.literals) u.store) (TextTop n) _ _
      (text_to job e (token.Text w.1.0) (word_of job.style w.1.0) u.store.literals (bodies + 1) loops less1 u (word_step job w.1.0 u.store))
      (λ less2 x p. (word_of job.style w.1.0, (u.store.literals, (p.0, (let l = w.1.1.1 in omega (arith, l)))))))))

  -- ---- the rest of a text

  -- a text below what stood on top, if something did
  abbrev swapped : List ℕ → List Literal → List Literal
  swapped z [] = literal.Text z ∷ []
  swapped z (y ∷ ys) = y ∷ literal.Text z ∷ ys

  swap_at : (z : List ℕ) (ys : List Literal) (s : Store)
      → AnswerSo (λ r. (r.literals ≡ swapped z ys) × (r.strings ≡ s.strings))
      (on_operands (row built_in.Swap).operands (row built_in.Swap).default ((row built_in.Swap).does job) (literal.Text z ∷ ys) s)
  swap_at z [] s = (refl, refl)
  swap_at z (y ∷ ys) s = (refl, refl)

  swap_so : (z : List ℕ) (ys : List Literal) (s : Store) → s.literals ≡ literal.Text z ∷ ys
      → AnswerSo (λ r. (r.literals ≡ swapped z ys) × (r.strings ≡ s.strings)) (step_of job (Run (callee.BuiltIn built_in.Swap)) s)
  unfolding step_of function_run built_in_run
  swap_so z ys s e =
      subst (λ xs. AnswerSo (λ r. (r.literals ≡ swapped z ys) × (r.strings ≡ s.strings))
      (on_operands (row built_in.Swap).operands (row built_in.Swap).default ((row built_in.Swap).does job) xs s)) (sym e) (swap_at z ys s)

  part_less : (z : List ℕ) (start size : ℤ) → (start ≡ pos 0) ⊎ (pos 2 ≤ℤ start) → length (substring_of z start size) ≤ length z - 1
  part_less z start (negsuc n) h = omega arith
  part_less z (pos zero) (pos n) h = omega arith
  part_less z (pos (suc zero)) (pos n) (inl e) = absurd (cc)
  part_less z (pos (suc zero)) (pos n) (inr l) = absurd (omega (arith, ints, l))
  part_less z (pos (suc (suc k))) (pos n) h =
      let a = length-take n (drop (suc (suc k) - 1) z) in let b = length-drop (suc (suc k) - 1) z in omega (arith, a, b)
  part_less z (negsuc k) (pos n) (inl e) = absurd (cc)
  part_less z (negsuc k) (pos n) (inr l) = absurd (omega (arith, ints, l))

  -- the part that `substring$` takes of it
  rest_so : (z : List ℕ) (size : ℤ) (ys : List Literal) (s : Store) → ApartOn ys → s.literals ≡ literal.Integer size ∷ swapped z ys
      → AnswerSo (λ r. TextOn (length z - 1) r.literals) (step_of job (Run (callee.BuiltIn built_in.Substring)) s)
  rest_so z size ys s apart e = so_by P _ _ (built_in_is job built_in.Substring s) (by (applied_or_reported job built_in.Substring s tt))
    where
      P : Store → Type 0
      P r = TextOn (length z - 1) r.literals

      part : (ys : List Literal) (size start n : ℤ) (x : List ℕ) (below : List Literal) → ApartOn ys
          → literal.Integer size ∷ swapped z ys ≡ literal.Integer n ∷ literal.Integer start ∷ literal.Text x ∷ below
          → length (substring_of x start n) ≤ length z - 1
      part [] size start n x below a q = absurd (cc)
      part (y ∷ ys) size start n x below a q =
          let is_start : y ≡ literal.Integer start = cc in
          let is_text : x ≡ z = cc in
          subst (λ (c : List ℕ). length (substring_of x start n) ≤ length c - 1) is_text (part_less x start n (a start is_start))

      by : IsApplied job built_in.Substring s ⊎ IsReported job built_in.Substring s → AnswerSo P (built_in_run job built_in.Substring s)
      by (inl a) =
          let x = substring_of a.values.1.1.0 a.values.1.0 a.values.0 in
          so_by P _ _ a.is
          (text_so P x (with_literals a.below s)
          (x, (a.below, (refl, part ys size a.values.1.0 a.values.0 a.values.1.1.0 a.below apart (sym e ∙ a.taken)))))
      by (inr r) =
          so_by P _ _ r.is
          (pushes_so P (step_output.Noted r.notes) (literal.Text []) (with_literals (drop 3 s.literals) s)
          ([], (drop 3 s.literals, (refl, omega arith))))

  -- `t swap$ n substring$`
  rest_done : (e t n most : ℕ) (bodies loops left : ℕ) (s : State) → ApartOn s.store.literals → length (text_in t s) ≤ most
      → IfDone (TextTop (most - 1)) (in_turn (act job e) (rest_tokens t n) bodies loops left s)
  rest_done e t n most bodies loops left s apart few =
      if_then (LeavesIn (literal.Text (text_in t s) ∷ s.store.literals) s.store) (TextTop (most - 1)) _ _
      (pushed_to job e (Run (callee.GlobalString t)) (literal.Text (text_in t s)) s.store.literals bodies loops left s (string_step job t s.store))
      (λ less1 t1 q1. if_then (λ u. (u.store.literals ≡ swapped (text_in t s) s.store.literals) × (u.store.strings ≡ t1.store.strings)) (TextTop (most - 1)) _ _
      (one_to job e (Run (callee.BuiltIn built_in.Swap)) (λ r. (r.literals ≡ swapped (text_in t s) s.store.literals) × (r.strings ≡ t1.store.strings)) bodies loops less1 t1
      (swap_so (text_in t s) s.store.literals t1.store q1.0))
      (λ less2 t2 q2. if_then (LeavesIn (literal.Integer (value_in n t2) ∷ t2.store.literals) t2.store) (TextTop (most - 1)) _ _
      (pushed_to job e (Run (callee.GlobalInteger n)) (literal.Integer (value_in n t2)) t2.store.literals bodies loops less2 t2 (variable_step job n t2.store))
      (λ less3 t3 q3. if_then (TextTop (length (text_in t s) - 1)) (TextTop (most - 1)) _ _
      (one_to job e (Run (callee.BuiltIn built_in.Substring)) (λ r. TextOn (length (text_in t s) - 1) r.literals) bodies loops less3 t3
      (rest_so (text_in t s) (value_in n t2) s.store.literals t3.store apart
      (q3.0 ∙ ap (λ (ys : List Literal). literal.Integer (value_in n t2) ∷ ys) q2.0)))
      (λ less4 t4 q4. (q4.0, (q4.1.0, (q4.1.1.0, (let l = q4.1.1.1 in omega (arith, few, l)))))))))

  -- ---- `duplicate$ #2 <`

  abbrev doubled : List Literal → List Literal
  doubled [] = []
  doubled (y ∷ ys) = y ∷ y ∷ ys

  double_at : (ys : List Literal) (s : Store)
      → AnswerSo (λ r. r.literals ≡ doubled ys)
      (on_operands (row built_in.Duplicate).operands (row built_in.Duplicate).default ((row built_in.Duplicate).does job) ys s)
  double_at [] s = refl
  double_at (y ∷ ys) s = pushes_so (λ r. r.literals ≡ y ∷ y ∷ ys) step_output.Nothing y (with_literals (y ∷ ys) s) refl

  double_so : (s : Store) → AnswerSo (λ r. r.literals ≡ doubled s.literals) (step_of job (Run (callee.BuiltIn built_in.Duplicate)) s)
  unfolding step_of function_run built_in_run
  double_so s = double_at s.literals s

  -- an integer that isn't above 0 where the one below it is at least 2, if it is one
  abbrev Below : List Literal → List Literal → Type 0
  Below ys ls = (n : ℤ) × ((ls ≡ literal.Integer n ∷ ys) × (is_positive n ≡ false → LateOn ys))

  not_below : (n : ℤ) → int_lt n (pos 2) ≡ false → pos 2 ≤ℤ n
  not_below (pos k) e = let l = ltb-false k 2 e in omega (arith, ints, l)
  not_below (negsuc k) e = absurd (cc)

  below_truth : (n : ℤ) (ys : List Literal) → Below (literal.Integer n ∷ ys) (truth (int_lt n (pos 2)) ∷ literal.Integer n ∷ ys)
  below_truth n ys = by (int_lt n (pos 2)) refl
    where
      by : (b : Bool) → int_lt n (pos 2) ≡ b → Below (literal.Integer n ∷ ys) (truth b ∷ literal.Integer n ∷ ys)
      by true e = (pos 1, (refl, λ q. absurd (cc)))
      by false e = (pos 0, (refl, λ q i r. let same : n ≡ i = cc in subst (λ (j : ℤ). pos 2 ≤ℤ j) same (not_below n e)))

  less_at : (ys : List Literal) (s : Store)
      → AnswerSo (λ r. Below ys r.literals)
      (on_operands (row built_in.Less).operands (row built_in.Less).default ((row built_in.Less).does job) (literal.Integer (pos 2) ∷ doubled ys) s)
  less_at [] s = (pos 0, (refl, λ e. tt))
  less_at (literal.Integer n ∷ ys) s =
      pushes_so (λ r. Below (literal.Integer n ∷ ys) r.literals) step_output.Nothing (truth (int_lt n (pos 2))) (with_literals (literal.Integer n ∷ ys) s)
      (below_truth n ys)
  less_at (literal.Text z ∷ ys) s =
      pushes_so (λ r. Below (literal.Text z ∷ ys) r.literals) (step_output.Noted _) (literal.Integer (pos 0)) (with_literals (literal.Text z ∷ ys) s)
      (pos 0, (refl, λ e n q. absurd (cc)))
  less_at (literal.Function f ∷ ys) s =
      pushes_so (λ r. Below (literal.Function f ∷ ys) r.literals) (step_output.Noted _) (literal.Integer (pos 0)) (with_literals (literal.Function f ∷ ys) s)
      (pos 0, (refl, λ e n q. absurd (cc)))
  less_at (literal.Missing ∷ ys) s =
      pushes_so (λ r. Below (literal.Missing ∷ ys) r.literals) (step_output.Noted _) (literal.Integer (pos 0)) (with_literals (literal.Missing ∷ ys) s)
      (pos 0, (refl, λ e n q. absurd (cc)))

  less_so : (ys : List Literal) (s : Store) → s.literals ≡ literal.Integer (pos 2) ∷ doubled ys
      → AnswerSo (λ r. Below ys r.literals) (step_of job (Run (callee.BuiltIn built_in.Less)) s)
  unfolding step_of function_run built_in_run
  less_so ys s e =
      subst (λ xs. AnswerSo (λ r. Below ys r.literals)
      (on_operands (row built_in.Less).operands (row built_in.Less).default ((row built_in.Less).does job) xs s)) (sym e) (less_at ys s)

  below_two_done : (e : ℕ) (bodies loops left : ℕ) (s : State)
      → IfDone (λ t. Below s.store.literals t.store.literals) (in_turn (act job e) below_two bodies loops left s)
  below_two_done e bodies loops left s =
      let ys = s.store.literals in
      if_then (λ u. u.store.literals ≡ doubled ys) (λ t. Below ys t.store.literals) _ _
      (one_to job e (Run (callee.BuiltIn built_in.Duplicate)) (λ r. r.literals ≡ doubled ys) bodies loops left s (double_so s.store))
      (λ less1 t1 q1. if_then (LeavesIn (literal.Integer (pos 2) ∷ t1.store.literals) t1.store) (λ t. Below ys t.store.literals) _ _
      (pushed_to job e (token.Integer (pos 2)) (literal.Integer (pos 2)) t1.store.literals bodies loops less1 t1 (integer_step job (pos 2) t1.store))
      (λ less2 t2 q2. if_then (λ t. Below ys t.store.literals) (λ t. Below ys t.store.literals) _ _
      (one_to job e (Run (callee.BuiltIn built_in.Less)) (λ r. Below ys r.literals) bodies loops less2 t2
      (less_so ys t2.store (q2.0 ∙ ap (λ (xs : List Literal). literal.Integer (pos 2) ∷ xs) q1)))
      (λ less3 t3 q3. q3)))

  -- ---- choices and assignments

  choice_done : (e f g : ℕ) (n : ℤ) (ys : List Literal) (Q : State → Type 0) (bodies loops left : ℕ) (s : State) → s.store.literals ≡ literal.Integer n ∷ ys
      → ((d less : ℕ) (t : State) → Leaves ys s.store t.store
      → IfDone Q (act job d (Run (kept_control.chosen (is_positive n) (callee.User f) (callee.User g))) bodies loops less t))
      → IfDone Q (in_turn (act job e) (choice_of f g) bodies loops left s)
  choice_done e f g n ys Q bodies loops left s is h =
      if_then (LeavesIn (literal.Function (callee.User f) ∷ s.store.literals) s.store) Q _ _
      (pushed_to job e (Quote (callee.User f)) (literal.Function (callee.User f)) s.store.literals bodies loops left s (quote_step job (callee.User f) s.store))
      (λ less1 t1 q1. if_then (LeavesIn (literal.Function (callee.User g) ∷ t1.store.literals) t1.store) Q _ _
      (pushed_to job e (Quote (callee.User g)) (literal.Function (callee.User g)) t1.store.literals bodies loops less1 t1 (quote_step job (callee.User g) t1.store))
      (λ less2 t2 q2. if_then Q Q _ _
      (choose_to job e (callee.User f) (callee.User g) n ys Q bodies loops less2 t2
      (q2.0 ∙ ap (λ (xs : List Literal). literal.Function (callee.User g) ∷ xs) (q1.0 ∙ ap (λ (xs : List Literal). literal.Function (callee.User f) ∷ xs) is))
      (λ d less3 t3 q3. h d less3 t3 (q3.0, (q3.1.0 ∙ q2.1.0 ∙ q1.1.0, q3.1.1 ∙ q2.1.1 ∙ q1.1.1))))
      (λ less4 t4 q4. q4)))

  assigned_at : (i most : ℕ) (z : List ℕ) (ys : List Literal) (s : Store) → length z ≤ most
      → AnswerSo (λ r. length (unwrap_or (slice_get r.strings i) []) ≤ most)
      (on_operands (row built_in.Assign).operands (row built_in.Assign).default (variables.assigns job) (literal.Function (callee.GlobalString i) ∷ literal.Text z ∷ ys) s)
  assigned_at i most z ys s l =
      let a = put_short s.strings i (take job.global_max z) in let b = length-take job.global_max z in omega (arith, a, b, l)

  assigned_so : (i most : ℕ) (z : List ℕ) (ys : List Literal) (s : Store) → length z ≤ most → s.literals ≡ literal.Function (callee.GlobalString i) ∷ literal.Text z ∷ ys
      → AnswerSo (λ r. length (unwrap_or (slice_get r.strings i) []) ≤ most) (step_of job (Run (callee.BuiltIn built_in.Assign)) s)
  unfolding step_of function_run built_in_run
  assigned_so i most z ys s l e =
      subst (λ xs. AnswerSo (λ r. length (unwrap_or (slice_get r.strings i) []) ≤ most)
      (on_operands (row built_in.Assign).operands (row built_in.Assign).default (variables.assigns job) xs s)) (sym e) (assigned_at i most z ys s l)

  -- `'t :=`
  kept_done : (e i most : ℕ) (bodies loops left : ℕ) (s : State) → TextTop most s
      → IfDone (λ t. length (text_in i t) ≤ most) (in_turn (act job e) (kept_in i) bodies loops left s)
  kept_done e i most bodies loops left s w =
      if_then (LeavesIn (literal.Function (callee.GlobalString i) ∷ s.store.literals) s.store) (λ t. length (text_in i t) ≤ most) _ _
      (pushed_to job e (Quote (callee.GlobalString i)) (literal.Function (callee.GlobalString i)) s.store.literals bodies loops left s
      (quote_step job (callee.GlobalString i) s.store))
      (λ less1 t1 q1. if_then (λ t. length (text_in i t) ≤ most) (λ t. length (text_in i t) ≤ most) _ _
      (one_to job e (Run (callee.BuiltIn built_in.Assign)) (λ r. length (unwrap_or (slice_get r.strings i) []) ≤ most) bodies loops less1 t1
      (assigned_so i most w.0 w.1.0 t1.store w.1.1.1 (q1.0 ∙ ap (λ (xs : List Literal). literal.Function (callee.GlobalString i) ∷ xs) w.1.1.0)))
      (λ less2 t2 q2. q2))

  -- an integer is pushed
  number_done : (e : ℕ) (x : Token) → IsNumber job.style x → (bodies loops left : ℕ) (s : State)
      → IfDone (λ t. (n : ℤ) × (t.store.literals ≡ literal.Integer n ∷ s.store.literals)) (act job e x bodies loops left s)
  number_done e (token.Integer n) w bodies loops left s =
      if_weaker (LeavesIn (literal.Integer n ∷ s.store.literals) s.store) (λ t. (n : ℤ) × (t.store.literals ≡ literal.Integer n ∷ s.store.literals)) _
      (pushed_to job e (token.Integer n) (literal.Integer n) s.store.literals bodies loops left s (integer_step job n s.store)) (λ t q. (n, q.0))
  number_done e (Run (callee.GlobalInteger v)) w bodies loops left s =
      if_weaker (LeavesIn (literal.Integer (value_in v s) ∷ s.store.literals) s.store) (λ t. (n : ℤ) × (t.store.literals ≡ literal.Integer n ∷ s.store.literals)) _
      (pushed_to job e (Run (callee.GlobalInteger v)) (literal.Integer (value_in v s)) s.store.literals bodies loops left s (variable_step job v s.store))
      (λ t q. (value_in v s, q.0))
  number_done e (Run (callee.User number)) w bodies loops left s =
      if_weaker (LeavesIn (literal.Integer w.0 ∷ s.store.literals) s.store) (λ t. (n : ℤ) × (t.store.literals ≡ literal.Integer n ∷ s.store.literals)) _
      (number_to job e number w.0 bodies loops left s w.1) (λ t q. (w.0, q.0))
  number_done e x w bodies loops left s = absurd w

  -- ---- functions that leave less than a text

  module _ (kinds : ℕ → Kind) (kinds_hold : KindsHold job.style kinds) (i : ℕ) (effects : ℕ → Effect)
      (effects_hold : EffectsHold job.style (text_measure i) kinds effects) where
    stays : (e : ℕ) (xs : List Token) → TextStays job.style i kinds effects xs → (bodies loops left : ℕ) (s : State)
        → IfDone (λ t. text_in i t ≡ text_in i s) (in_turn (act job e) xs bodies loops left s)
    stays e xs w bodies loops left s =
        if_weaker _ (λ t. text_in i t ≡ text_in i s) _
        (stays_done job (text_measure i) kinds effects kinds_hold effects_hold e xs w bodies loops left s (omega arith)) (λ t k. k.0)

    later_done : (d number most : ℕ) → LeavesRest job.style i kinds effects (body_of job.style number) → (bodies loops left : ℕ) (s : State)
        → LateOn s.store.literals → length (text_in i s) ≤ most → IfDone (TextTop (most - 1)) (act job d (Run (callee.User number)) bodies loops left s)
    later_done d number most w bodies loops left s late few =
        call_to job d number (w.0 ++ rest_tokens i w.1.0) (TextTop (most - 1)) bodies loops left s w.1.1.0
        (λ e less t q. subst (λ (o : Outcome). IfDone (TextTop (most - 1)) o) (sym (in_turn_both (act job e) w.0 (rest_tokens i w.1.0) (bodies + 1) loops less t))
        (if_then (λ u. (text_in i u ≡ text_in i t) × LeftIn 0 (pile_through kinds only_late w.0) u) (TextTop (most - 1)) _ _
        (both_if (λ u. text_in i u ≡ text_in i t) (LeftIn 0 (pile_through kinds only_late w.0)) (in_turn (act job e) w.0 (bodies + 1) loops less t)
        (stays e w.0 w.1.1.1.0 (bodies + 1) loops less t)
        (through_done 0 job kinds kinds_hold e w.0 only_late (bodies + 1) loops less t (late_on t.store.literals (subst LateOn (sym q.0) late))))
        (λ less1 u v. rest_done e i w.1.0 most (bodies + 1) loops less1 u (apart_on (pile_through kinds only_late w.0) u.store.literals w.1.1.1.1 v.1)
        (let same : length (text_in i u) ≡ length (text_in i s) = ap (λ (z : List ℕ). length z) (v.0 ∙ same_texts i s.store t.store q.1.1) in omega (arith, same, few)))))

    -- whatever stands there, an integer that tells where the one below it is at least 2
    ends_below_done : (e : ℕ) (xs : List Token) → EndsBelowTwo xs → (bodies loops left : ℕ) (s : State)
        → IfDone (λ t. (ys : List Literal) × Below ys t.store.literals) (in_turn (act job e) xs bodies loops left s)
    ends_below_done e xs w bodies loops left s =
        subst (λ (ts : List Token). IfDone (λ t. (ys : List Literal) × Below ys t.store.literals) (in_turn (act job e) ts bodies loops left s)) (sym w.1)
        (subst (λ (o : Outcome). IfDone (λ t. (ys : List Literal) × Below ys t.store.literals) o) (sym (in_turn_both (act job e) w.0 below_two bodies loops left s))
        (if_then (λ u. Unit {0}) (λ t. (ys : List Literal) × Below ys t.store.literals) _ _ (any_state (in_turn (act job e) w.0 bodies loops left s))
        (λ less u v. if_weaker (λ t. Below u.store.literals t.store.literals) (λ t. (ys : List Literal) × Below ys t.store.literals) _
        (below_two_done e bodies loops less u) (λ t b. (u.store.literals, b)))))

    less_done : (d number most : ℕ) → LeavesLess job.style i kinds effects (body_of job.style number) → (bodies loops left : ℕ) (s : State) → TextTop most s
        → IfDone (TextTop (most - 1)) (act job d (Run (callee.User number)) bodies loops left s)
    less_done d number most w bodies loops left s top =
        call_to job d number (kept_in i ++ (others ++ choice_of low late)) (TextTop (most - 1)) bodies loops left s w.1.1.1.0
        (λ e less t q. subst (λ (o : Outcome). IfDone (TextTop (most - 1)) o) (sym (in_turn_both (act job e) (kept_in i) (others ++ choice_of low late) (bodies + 1) loops less t))
        (if_then (λ u. length (text_in i u) ≤ most) (TextTop (most - 1)) _ _
        (kept_done e i most (bodies + 1) loops less t (subst (TextOn most) (sym q.0) top))
        (λ less1 u few. subst (λ (o : Outcome). IfDone (TextTop (most - 1)) o) (sym (in_turn_both (act job e) others (choice_of low late) (bodies + 1) loops less1 u))
        (if_then (λ v. (text_in i v ≡ text_in i u) × ((ys : List Literal) × Below ys v.store.literals)) (TextTop (most - 1)) _ _
        (both_if (λ v. text_in i v ≡ text_in i u) (λ v. (ys : List Literal) × Below ys v.store.literals) (in_turn (act job e) others (bodies + 1) loops less1 u)
        (stays e others w.1.1.1.1.1.0 (bodies + 1) loops less1 u) (ends_below_done e others w.1.1.1.1.0 (bodies + 1) loops less1 u))
        (λ less2 v b. choice_done e low late b.1.1.0 b.1.0 (TextTop (most - 1)) (bodies + 1) loops less2 v b.1.1.1.0
        (λ d3 less3 x p. by d3 (bodies + 1) loops less3 x (is_positive b.1.1.0)
        (λ e2. subst LateOn (sym p.0) (b.1.1.1.1 e2))
        (let same : length (text_in i x) ≡ length (text_in i u) = ap (λ (z : List ℕ). length z) (same_texts i v.store x.store p.1.1 ∙ b.0) in omega (arith, same, few))))))))
      where
        others : List Token
        others = w.0

        low : ℕ
        low = w.1.0

        late : ℕ
        late = w.1.1.0

        by : (d bodies loops left : ℕ) (s : State) (c : Bool) → (c ≡ false → LateOn s.store.literals) → length (text_in i s) ≤ most
            → IfDone (TextTop (most - 1)) (act job d (Run (kept_control.chosen c (callee.User low) (callee.User late))) bodies loops left s)
        by d bodies loops left s true h few = nothing_done d low (most - 1) w.1.1.1.1.1.1.0 bodies loops left s
        by d bodies loops left s false h few = later_done d late most w.1.1.1.1.1.1.1 bodies loops left s (h refl) few

    splits_done : (d number most : ℕ) → Splits job.style i kinds effects (body_of job.style number) → (bodies loops left : ℕ) (s : State)
        → On most over_whole s.store.literals → IfDone (TextTop (most - 1)) (act job d (Run (callee.User number)) bodies loops left s)
    splits_done d number most w bodies loops left s st =
        call_to job d number (w.0 ++ choice_of none less) (TextTop (most - 1)) bodies loops left s w.1.1.1.0
        (λ e less0 t q. subst (λ (o : Outcome). IfDone (TextTop (most - 1)) o) (sym (in_turn_both (act job e) w.0 (choice_of none less) (bodies + 1) loops less0 t))
        (if_then (LeftIn most p) (TextTop (most - 1)) _ _
        (through_done most job kinds kinds_hold e w.0 over_whole (bodies + 1) loops less0 t (subst (On most over_whole) (sym q.0) st))
        (λ less1 u v.
        let a = chosen_on most p u.store.literals w.1.1.1.1.0 v in
        choice_done e none less a.integer (literal.Text a.text ∷ a.below) (TextTop (most - 1)) (bodies + 1) loops less1 u a.is
        (λ d3 less3 x r. by d3 (bodies + 1) loops less3 x (is_positive a.integer) (a.text, (a.below, (r.0, a.short)))))))
      where
        none : ℕ
        none = w.1.0

        less : ℕ
        less = w.1.1.0

        p : Pile
        p = pile_through kinds over_whole w.0

        by : (d bodies loops left : ℕ) (s : State) (c : Bool) → TextTop most s
            → IfDone (TextTop (most - 1)) (act job d (Run (kept_control.chosen c (callee.User none) (callee.User less))) bodies loops left s)
        by d bodies loops left s true top = nothing_done d none (most - 1) w.1.1.1.1.1.0 bodies loops left s
        by d bodies loops left s false top = less_done d less most w.1.1.1.1.1.1 bodies loops left s top

  -- ---- bodies of loops

  -- a text of a variable stands on top
  abbrev pub Given : ℕ → State → Type 0
  Given i t = (ys : List Literal) × (t.store.literals ≡ literal.Text (text_in i t) ∷ ys)

  string_done : (e i : ℕ) (bodies loops left : ℕ) (s : State) → IfDone (λ t. Given i t × (text_in i t ≡ text_in i s)) (in_turn (act job e) (Run (callee.GlobalString i) ∷ []) bodies loops left s)
  string_done e i bodies loops left s =
      if_then (LeavesIn (literal.Text (text_in i s) ∷ s.store.literals) s.store) (λ t. Given i t × (text_in i t ≡ text_in i s)) _ _
      (pushed_to job e (Run (callee.GlobalString i)) (literal.Text (text_in i s)) s.store.literals bodies loops left s (string_step job i s.store))
      (λ less t q.
      let same : text_in i t ≡ text_in i s = same_texts i s.store t.store q.1.1 in
      ((s.store.literals, q.0 ∙ ap (λ (z : List ℕ). literal.Text z ∷ s.store.literals) (sym same)), same))

  module _ (r : Replacement) (kinds : ℕ → Kind) (texts givens : ℕ → Effect) (kinds_hold : KindsHold job.style kinds)
      (texts_hold : EffectsHold job.style (text_measure r.text) kinds texts) (givens_hold : EffectsHold job.style (text_measure r.given) kinds givens) where
    gives_done : (e most : ℕ) (xs : List Token) → Gives job.style r.given kinds givens xs → (bodies loops left : ℕ) (s : State) → TextTop most s
        → IfDone (λ t. Given r.given t × (length (text_in r.given t) ≤ most)) (in_turn (act job e) xs bodies loops left s)
    gives_done e most xs w bodies loops left s top =
        subst (λ (ts : List Token). IfDone Q (in_turn (act job e) ts bodies loops left s)) (sym w.1.0)
        (subst (λ (o : Outcome). IfDone Q o) (sym (in_turn_both (act job e) (kept_in r.given) (w.0 ++ last) bodies loops left s))
        (if_then (λ t. length (text_in r.given t) ≤ most) Q _ _ (kept_done e r.given most bodies loops left s top)
        (λ less1 t few. subst (λ (o : Outcome). IfDone Q o) (sym (in_turn_both (act job e) w.0 last bodies loops less1 t))
        (if_then (λ u. text_in r.given u ≡ text_in r.given t) Q _ _ (stays kinds kinds_hold r.given givens givens_hold e w.0 w.1.1 bodies loops less1 t)
        (λ less2 u same. if_weaker (λ v. Given r.given v × (text_in r.given v ≡ text_in r.given u)) Q _ (string_done e r.given bodies loops less2 u)
        (λ v g. (g.0, (let long : length (text_in r.given v) ≡ length (text_in r.given t) = ap (λ (z : List ℕ). length z) (g.1 ∙ same) in omega (arith, long, few)))))))))
      where
        last : List Token
        last = Run (callee.GlobalString r.given) ∷ []

        Q : State → Type 0
        Q t = Given r.given t × (length (text_in r.given t) ≤ most)

    -- whatever stood on the stack, a text of the variable stands there after a turn
    gives_any : (e : ℕ) (xs : List Token) → Gives job.style r.given kinds givens xs → (bodies loops left : ℕ) (s : State)
        → IfDone (Given r.given) (in_turn (act job e) xs bodies loops left s)
    gives_any e xs w bodies loops left s =
        subst (λ (ts : List Token). IfDone (Given r.given) (in_turn (act job e) ts bodies loops left s)) (sym w.1.0)
        (subst (λ (o : Outcome). IfDone (Given r.given) o) (sym (in_turn_both (act job e) (kept_in r.given) (w.0 ++ last) bodies loops left s))
        (if_then (λ t. Unit {0}) (Given r.given) _ _ (any_state (in_turn (act job e) (kept_in r.given) bodies loops left s))
        (λ less1 t k. subst (λ (o : Outcome). IfDone (Given r.given) o) (sym (in_turn_both (act job e) w.0 last bodies loops less1 t))
        (if_then (λ u. Unit {0}) (Given r.given) _ _ (any_state (in_turn (act job e) w.0 bodies loops less1 t))
        (λ less2 u l. if_weaker (λ v. Given r.given v × (text_in r.given v ≡ text_in r.given u)) (Given r.given) _ (string_done e r.given bodies loops less2 u)
        (λ v g. g.0))))))
      where
        last : List Token
        last = Run (callee.GlobalString r.given) ∷ []

    pub given_done : (d number : ℕ) → Replaces job.style r kinds texts givens (body_of job.style number) → (bodies loops left : ℕ) (s : State)
        → IfDone (Given r.given) (act job d (Run (callee.User number)) bodies loops left s)
    given_done d number w bodies loops left s =
        call_to job d number (w.0 ∷ Run (callee.User w.1.0) ∷ w.1.1.0) (Given r.given) bodies loops left s w.1.1.1.0
        (λ e less t q. if_then (λ u. Unit {0}) (Given r.given) _ _ (any_state (act job e w.0 (bodies + 1) loops less t))
        (λ less1 u k. if_then (λ v. Unit {0}) (Given r.given) _ _ (any_state (act job e (Run (callee.User w.1.0)) (bodies + 1) loops less1 u))
        (λ less2 v l. gives_any e w.1.1.0 w.1.1.1.1.1.0 (bodies + 1) loops less2 v)))

    -- .. and where a text stood there, it is shorter
    pub replaces_done : (d number most : ℕ) → Replaces job.style r kinds texts givens (body_of job.style number) → (bodies loops left : ℕ) (s : State)
        → TextTop most s
        → IfDone (λ t. Given r.given t × (length (text_in r.given t) ≤ most - 1)) (act job d (Run (callee.User number)) bodies loops left s)
    replaces_done d number most w bodies loops left s top =
        call_to job d number (w.0 ∷ Run (callee.User w.1.0) ∷ w.1.1.0) Q bodies loops left s w.1.1.1.0
        (λ e less t q. if_then (λ u. (n : ℤ) × (u.store.literals ≡ literal.Integer n ∷ t.store.literals)) Q _ _
        (number_done e w.0 w.1.1.1.1.0 (bodies + 1) loops less t)
        (λ less1 u k. if_then (TextTop (most - 1)) Q _ _
        (splits_done kinds kinds_hold r.text texts texts_hold e w.1.0 most w.1.1.1.1.1.1 (bodies + 1) loops less1 u
        (over_on most k.0 t.store.literals u.store.literals k.1 (subst (TextOn most) (sym q.0) top)))
        (λ less2 v l. gives_done e (most - 1) w.1.1.0 w.1.1.1.1.1.0 (bodies + 1) loops less2 v l)))
      where
        Q : State → Type 0
        Q t = Given r.given t × (length (text_in r.given t) ≤ most - 1)

  -- ---- the test

  turned_to : (b : Bool) (ys : List Literal) (u : State) → u.store.literals ≡ truth b ∷ ys → (turn_of job u).state.store.literals ≡ ys
  unfolding turn_of
  turned_to b ys u e = ap (λ (zs : List Literal). (tested zs u.store).store.literals) e ∙ at b
    where
      at : (b : Bool) → (tested (truth b ∷ ys) u.store).store.literals ≡ ys
      at true = refl
      at false = refl

  -- the text still stands there after the test, and the loop goes on only where it isn't empty
  abbrev pub Filled : List ℕ → List Literal → State → Type 0
  Filled z ys t = ((turn_of job t).state.store.literals ≡ literal.Text z ∷ ys) × ((turn_of job t).again ≡ true → 0 < length z)

  pub tells_top_done : (d number : ℕ) (z : List ℕ) (ys : List Literal) → TellsTop job.style (body_of job.style number) → (bodies loops left : ℕ) (s : State)
      → s.store.literals ≡ literal.Text z ∷ ys → IfDone (Filled z ys) (act job d (Run (callee.User number)) bodies loops left s)
  tells_top_done d number z ys w bodies loops left s top =
      call_to job d number (top_test word negation) (Filled z ys) bodies loops left s w.1.1.0
      (λ e less t q. if_then (λ u. u.store.literals ≡ literal.Text z ∷ literal.Text z ∷ ys) (Filled z ys) _ _
      (one_to job e (Run (callee.BuiltIn built_in.Duplicate)) (λ r. r.literals ≡ literal.Text z ∷ literal.Text z ∷ ys) (bodies + 1) loops less t
      (subst (λ (xs : List Literal). AnswerSo (λ r. r.literals ≡ doubled xs) (step_of job (Run (callee.BuiltIn built_in.Duplicate)) t.store)) (q.0 ∙ top) (double_so t.store)))
      (λ less1 t1 q1. if_then (LeavesIn (literal.Text (word_of job.style word) ∷ t1.store.literals) t1.store) (Filled z ys) _ _
      (text_to job e (token.Text word) (word_of job.style word) t1.store.literals (bodies + 1) loops less1 t1 (word_step job word t1.store))
      (λ less2 t2 q2. if_then (LeavesIn (truth told ∷ literal.Text z ∷ ys) t2.store) (Filled z ys) _ _
      (pushed_to job e (Run (callee.BuiltIn built_in.Equals)) (truth told) (literal.Text z ∷ ys) (bodies + 1) loops less2 t2
      (equals_step job (word_of job.style word) z (literal.Text z ∷ ys) t2.store
      (q2.0 ∙ ap (λ (xs : List Literal). literal.Text (word_of job.style word) ∷ xs) q1)))
      (λ less3 t3 q3. if_then (LeavesIn (truth (not (is_positive (number_of told))) ∷ literal.Text z ∷ ys) t3.store) (Filled z ys) _ _
      (not_to job e negation w.1.1.1.1.0 w.1.1.1.1.1.0 w.1.1.1.1.1.1 (number_of told) (literal.Text z ∷ ys) (bodies + 1) loops less3 t3
      (q3.0 ∙ ap (λ (y : Literal). y ∷ literal.Text z ∷ ys) (truth_number told)))
      (λ less4 t4 q4. (
        turned_to (not (is_positive (number_of told))) (literal.Text z ∷ ys) t4 q4.0,
        λ goes. some_left z (word_of job.style word) w.1.1.1.0
            (ap not (sym (number_positive told)) ∙ sym (turn_again job (not (is_positive (number_of told))) (literal.Text z ∷ ys) t4 q4.0) ∙ goes),
      ))))))
    where
      word : ℕ
      word = w.0

      negation : ℕ
      negation = w.1.0

      told : Bool
      told = bytes_eq z (word_of job.style word)

-- ---- how many turns there may be

-- a text on top as long as it is, but at most one more than a variable keeps; and that where there is none
abbrev pub texts_on : ℕ → List Literal → ℕ
texts_on kept (literal.Text z ∷ ys) = least (length z) (suc kept)
texts_on kept ys = suc kept

pub texts_few : (kept : ℕ) (ys : List Literal) → texts_on kept ys ≤ suc kept
texts_few kept [] = omega arith
texts_few kept (literal.Text z ∷ ys) = (least_few (length z) (suc kept)).1
texts_few kept (y ∷ ys) = omega arith

pub given_few : (kept : ℕ) (z : List ℕ) (ls ys : List Literal) → ls ≡ literal.Text z ∷ ys → length z ≤ kept → texts_on kept ls < suc kept
given_few kept z ls ys e few =
    let l = (least_few (length z) (suc kept)).0 in subst (λ (xs : List Literal). texts_on kept xs < suc kept) (sym e) (omega (arith, l, few))

pub given_less : (kept k : ℕ) (z : List ℕ) (ls ys : List Literal) → ls ≡ literal.Text z ∷ ys → length z ≤ kept → length z ≤ k - 1 → 0 < k
    → texts_on kept ls < least k (suc kept)
given_less kept k z ls ys e few less some =
    subst (λ (xs : List Literal). texts_on kept xs < least k (suc kept)) (sym e) (least_over (length z) k (suc kept) (omega (arith, few)) less some)

-- either there may be as many turns as can be, or a text stands on top
abbrev pub SeenText : ℕ → List Literal → ℕ → Type 0
SeenText kept ys j = (suc kept ≤ j) ⊎ ((z : List ℕ) × ((zs : List Literal) × ((ys ≡ literal.Text z ∷ zs) × (least (length z) (suc kept) ≡ j))))

pub seen_text : (kept : ℕ) (ys : List Literal) (j : ℕ) → texts_on kept ys ≡ j → SeenText kept ys j
seen_text kept [] j e = inl (omega (arith, e))
seen_text kept (literal.Text z ∷ ys) j e = inr (z, (ys, (refl, e)))
seen_text kept (literal.Integer n ∷ ys) j e = inl (omega (arith, e))
seen_text kept (literal.Function f ∷ ys) j e = inl (omega (arith, e))
seen_text kept (literal.Missing ∷ ys) j e = inl (omega (arith, e))
