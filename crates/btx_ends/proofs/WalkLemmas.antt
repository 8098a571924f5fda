-- Loops that walk along a text: their test is true only where the place is in the text, and each turn moves it on.
use Rattle.std.proofs.Common.{◌≡◌, ◌≢◌, ℕ, zero, suc, ◌+◌, ◌-◌, ◌*◌, ◌≤◌, ◌<◌, ℤ, pos, negsuc, Bool, true, false, not, cond, nat_lt, List, [], ◌∷◌, ◌++◌, length, take, drop}
use Rattle.std.proofs.Common.{refl, arith, sym, ap, subst, ◌∙◌, ◌⊎◌, inl, inr, true≢false}
use Rattle.std.proofs.lemmas.List.{length-take, length-drop}
use Rattle.std.proofs.lemmas.Bool.{ltb-true, lt-ltb}
use Rattle.std.proofs.lemmas.Int.{ints}
use Rattle.std.specs.Prelude.{slice_get, slice_set, unwrap_or, ◌+ℤ◌, ◌≤ℤ◌}
use Rattle.std.specs.Str.{bytes_eq}
use Rattle.btx_bst.specs.declared.built_in.BuiltIn.TheVariants as built_in
use Rattle.btx_bst.specs.declared.callee.Callee.{Callee}
use Rattle.btx_bst.specs.declared.callee.Callee.TheVariants as callee
use Rattle.btx_bst.specs.declared.token.Token.{Token}
use Rattle.btx_bst.specs.declared.token.Token.TheVariants as token
use Rattle.btx_bst.specs.declared.token.Token.TheVariants.{Quote, Run}
use Rattle.btx_stack.specs.declared.literal.Literal.{Literal}
use Rattle.btx_stack.specs.declared.literal.Literal.TheVariants as literal
use Rattle.btx_strings.specs.language.Positions.{substring_of}
use Rattle.btx_step.specs.declared.said.Note.{Note}
use Rattle.btx_step.specs.declared.said.Note.TheVariants as note
use Rattle.btx_step.specs.declared.said.StepOutput.TheVariants as step_output
use Rattle.btx_step.specs.declared.stand_in.StandIn.TheVariants as stand_in
use Rattle.btx_step.specs.language.Answers.{truth, with_literals, pushed, complained}
use Rattle.btx_step.specs.language.Arithmetic.{fits, result_of}
use Rattle.btx_step.specs.language.Control.{is_positive}
use Rattle.btx_step.specs.language.Jobs.{Job}
use Rattle.btx_step.specs.language.Operands.{on_operands}
use Rattle.btx_step.specs.language.Steps.{step_of, function_run, built_in_run}
use Rattle.btx_step.specs.language.Stores.{Store}
use Rattle.btx_step.specs.language.Table.{row}
use Rattle.btx_step.specs.refinement.Control as kept_control
use Rattle.btx_machine.specs.language.States.{State, Outcome}
use Rattle.btx_machine.specs.language.Steps.{turn_of}
use Rattle.btx_machine.specs.language.MeaningBySteps.{in_turn, act}
use Rattle.btx_ends.specs.declared.measures.Walk.{Walk}
use Rattle.btx_ends.specs.declared.measures.Effect.{Effect}
use Rattle.btx_ends.specs.declared.measures.Kind.{Kind}
use Rattle.btx_ends.specs.Counters.{value_in}
use Rattle.btx_ends.specs.Keeping.{IfDone}
use Rattle.btx_ends.specs.Shortening.{text_in, word_of, body_of, NotOf, KindsHold, EffectsHold}
use Rattle.btx_ends.specs.Walking.{turns_from, turns_in, part_test, TellsPart, IsStride, move_by, compared_choice, place_measure, size_measure, TokensStay, MovesLast, MovesEither, Moves, MovesHold}
use Rattle.btx_ends.proofs.CounterLemmas.{SameVariables, variable_step, quote_step, integer_step, string_step, opens_to, turn_again, turn_same, in_turn_both, assign_step}
use Rattle.btx_ends.proofs.DoneLemmas.{if_then, if_weaker, Leaves, LeavesIn, AnswerSo, one_to, pushes_so, pushed_to, text_to, word_step, substring_step, equals_step, not_to, call_to, so_by}
use Rattle.btx_ends.proofs.FineLemmas.{length-slice_set}
use Rattle.btx_ends.proofs.ShorterLemmas.{both_if, stays_done, choose_at, set_there}

-- ---- places

-- a place at which a text has a part is in the text
pub part_turns : (text : List ℕ) (p n : ℤ) → 0 < length (substring_of text p n) → 0 < turns_from p (length text)
part_turns text p (negsuc n) l = absurd (omega (arith, l))
part_turns text (pos zero) (pos n) l = absurd (omega (arith, l))
part_turns text (pos (suc k)) (pos n) l =
    let a = length-take n (drop (suc k - 1) text) in let b = length-drop (suc k - 1) text in omega (arith, a, b, l)
part_turns text (negsuc k) (pos n) l = by (nat_lt k (length text)) inside
  where
    front : List ℕ
    front = take (length text - (suc k - 1)) text

    inside : nat_lt k (length text) ≡ true
    inside =
        let a = length-take (length text - (suc k - 1)) text in
        let b = length-drop (length front - n) front in lt-ltb k (length text) (omega (arith, a, b, l))

    by : (b : Bool) → b ≡ true → 0 < cond b (length text + suc k) 0
    by true e = omega arith
    by false e = absurd (cc)

-- .. and the part isn't shorter than 1
pub part_long : (text : List ℕ) (p n : ℤ) → 0 < length (substring_of text p n) → pos 1 ≤ℤ n
part_long text p (negsuc n) l = absurd (omega (arith, l))
part_long text (pos zero) (pos n) l = absurd (omega (arith, l))
part_long text (pos (suc k)) (pos n) l =
    let a = length-take n (drop (suc k - 1) text) in omega (arith, ints, a, l)
part_long text (negsuc k) (pos n) l =
    let front = take (length text - (suc k - 1)) text in
    let b = length-drop (length front - n) front in omega (arith, ints, b, l)

-- at most twice as many turns as a text has bytes
pub walk_few : (p : ℤ) (size : ℕ) → turns_from p size ≤ 2 * size
walk_few (pos zero) size = omega arith
walk_few (pos (suc k)) size = omega arith
walk_few (negsuc k) size = by (nat_lt k size) refl
  where
    by : (b : Bool) → nat_lt k size ≡ b → cond b (size + suc k) 0 ≤ 2 * size
    by true e = let h = ltb-true k size e in omega (arith, h)
    by false e = omega arith

-- a place further on leaves fewer turns
pub further : (p q : ℤ) (size : ℕ) → 0 < turns_from p size → (p +ℤ pos 1) ≤ℤ q → turns_from q size ≤ turns_from p size - 1
further (pos zero) q size l h = absurd (omega (arith, l))
further (pos (suc a)) (pos zero) size l h = omega arith
further (pos (suc a)) (pos (suc b)) size l h = let k : suc a < suc b = omega (arith, ints, h) in omega (arith, k, l)
further (pos (suc a)) (negsuc b) size l h = absurd (omega (arith, ints, h))
further (negsuc a) q size l h = by (nat_lt a size) refl l q h
  where
    near : (b : ℕ) (c : Bool) → b < a → cond c (size + suc b) 0 ≤ (size + suc a) - 1
    near b true k = omega (arith, k)
    near b false k = omega arith

    by : (c : Bool) → nat_lt a size ≡ c → 0 < cond c (size + suc a) 0 → (q : ℤ) → (negsuc a +ℤ pos 1) ≤ℤ q → turns_from q size ≤ cond c (size + suc a) 0 - 1
    by false e l q h = absurd (omega (arith, l))
    by true e l (pos zero) h = omega arith
    by true e l (pos (suc b)) h = omega arith
    by true e l (negsuc b) h = near b (nat_lt b size) (omega (arith, ints, h))

-- ---- the test

-- the variables are those of `s`, and the loop goes on only where the text has a part from the place on
abbrev pub PartTold : Job → Walk → State → State → Type 0
PartTold job walk s u = SameVariables s.store u
    × ((turn_of job u).again ≡ true → 0 < length (substring_of (text_in walk.text s) (value_in walk.place s) (value_in walk.size s)))

-- 1 or 0
record Truth (b : Bool) : Type 0 where
  integer : ℤ
  is : truth b ≡ literal.Integer integer
  positive : is_positive integer ≡ b

truth_of : (b : Bool) → Truth b
truth_of true = record { integer = pos 1; is = refl; positive = refl }
truth_of false = record { integer = pos 0; is = refl; positive = refl }

pub some_left : (z w : List ℕ) → length w ≡ 0 → not (bytes_eq z w) ≡ true → 0 < length z
some_left (b ∷ z) w l e = omega arith
some_left [] [] l e = absurd (cc)
some_left [] (c ∷ w) l e = absurd (omega (arith, l))

pub same_part : (walk : Walk) (r q : Store) → q.integers ≡ r.integers → q.strings ≡ r.strings
    → substring_of (unwrap_or (slice_get q.strings walk.text) []) (unwrap_or (slice_get q.integers walk.place) (pos 0)) (unwrap_or (slice_get q.integers walk.size) (pos 0))
    ≡ substring_of (unwrap_or (slice_get r.strings walk.text) []) (unwrap_or (slice_get r.integers walk.place) (pos 0)) (unwrap_or (slice_get r.integers walk.size) (pos 0))
same_part walk r q e k =
    ap (λ (ts : List (List ℕ)). substring_of (unwrap_or (slice_get ts walk.text) []) (unwrap_or (slice_get q.integers walk.place) (pos 0)) (unwrap_or (slice_get q.integers walk.size) (pos 0))) k
    ∙ ap (λ (xs : List ℤ). substring_of (unwrap_or (slice_get r.strings walk.text) []) (unwrap_or (slice_get xs walk.place) (pos 0)) (unwrap_or (slice_get xs walk.size) (pos 0))) e

pub part_to : (job : Job) (d test : ℕ) (walk : Walk) → TellsPart job.style walk (body_of job.style test) → (bodies loops left : ℕ) (s : State)
    → IfDone (PartTold job walk s) (act job d (Run (callee.User test)) bodies loops left s)
part_to job d test walk w bodies loops left s =
    call_to job d test (part_test walk word negation) (PartTold job walk s) bodies loops left s w.1.1.0
    (λ e less u q. if_then (LeavesIn (literal.Text (text_in walk.text u) ∷ u.store.literals) u.store) (PartTold job walk s) _ _
    (pushed_to job e (Run (callee.GlobalString walk.text)) (literal.Text (text_in walk.text u)) u.store.literals (bodies + 1) loops less u (string_step job walk.text u.store))
    (λ less1 t1 q1. if_then (LeavesIn (literal.Integer (value_in walk.place t1) ∷ t1.store.literals) t1.store) (PartTold job walk s) _ _
    (pushed_to job e (Run (callee.GlobalInteger walk.place)) (literal.Integer (value_in walk.place t1)) t1.store.literals (bodies + 1) loops less1 t1 (variable_step job walk.place t1.store))
    (λ less2 t2 q2. if_then (LeavesIn (literal.Integer (value_in walk.size t2) ∷ t2.store.literals) t2.store) (PartTold job walk s) _ _
    (pushed_to job e (Run (callee.GlobalInteger walk.size)) (literal.Integer (value_in walk.size t2)) t2.store.literals (bodies + 1) loops less2 t2 (variable_step job walk.size t2.store))
    (λ less3 t3 q3.
    let part = substring_of (text_in walk.text u) (value_in walk.place t1) (value_in walk.size t2) in
    if_then (LeavesIn (literal.Text part ∷ u.store.literals) t3.store) (PartTold job walk s) _ _
    (text_to job e (Run (callee.BuiltIn built_in.Substring)) part u.store.literals (bodies + 1) loops less3 t3
    (substring_step job (value_in walk.size t2) (value_in walk.place t1) (text_in walk.text u) u.store.literals t3.store
    (q3.0 ∙ ap (λ (ys : List Literal). literal.Integer (value_in walk.size t2) ∷ ys) (q2.0 ∙ ap (λ (ys : List Literal). literal.Integer (value_in walk.place t1) ∷ ys) q1.0))))
    (λ less4 t4 q4. if_then (LeavesIn (literal.Text (word_of job.style word) ∷ t4.store.literals) t4.store) (PartTold job walk s) _ _
    (text_to job e (token.Text word) (word_of job.style word) t4.store.literals (bodies + 1) loops less4 t4 (word_step job word t4.store))
    (λ less5 t5 q5.
    let told = bytes_eq part (word_of job.style word) in
    if_then (LeavesIn (truth told ∷ u.store.literals) t5.store) (PartTold job walk s) _ _
    (pushed_to job e (Run (callee.BuiltIn built_in.Equals)) (truth told) u.store.literals (bodies + 1) loops less5 t5
    (equals_step job (word_of job.style word) part u.store.literals t5.store
    (q5.0 ∙ ap (λ (ys : List Literal). literal.Text (word_of job.style word) ∷ ys) q4.0)))
    (λ less6 t6 q6.
    let i = truth_of told in
    if_then (LeavesIn (truth (not (is_positive i.integer)) ∷ u.store.literals) t6.store) (PartTold job walk s) _ _
    (not_to job e negation w.1.1.1.1.0 w.1.1.1.1.1.0 w.1.1.1.1.1.1 i.integer u.store.literals (bodies + 1) loops less6 t6
    (q6.0 ∙ ap (λ (y : Literal). y ∷ u.store.literals) i.is))
    (λ less7 t7 q7. (
      (
        q7.1.0 ∙ q6.1.0 ∙ q5.1.0 ∙ q4.1.0 ∙ q3.1.0 ∙ q2.1.0 ∙ q1.1.0 ∙ q.1.0,
        q7.1.1 ∙ q6.1.1 ∙ q5.1.1 ∙ q4.1.1 ∙ q3.1.1 ∙ q2.1.1 ∙ q1.1.1 ∙ q.1.1,
      ),
      λ goes.
          let so : not told ≡ true = ap not (sym i.positive) ∙ sym (turn_again job (not (is_positive i.integer)) u.store.literals t7 q7.0) ∙ goes in
          let some = some_left part (word_of job.style word) w.1.1.1.0 so in
          let here : part ≡ substring_of (text_in walk.text s) (value_in walk.place s) (value_in walk.size s) =
          ap (λ (xs : List ℤ). substring_of (text_in walk.text u) (value_in walk.place t1) (unwrap_or (slice_get xs walk.size) (pos 0))) (q2.1.0 ∙ q1.1.0)
          ∙ ap (λ (xs : List ℤ). substring_of (text_in walk.text u) (unwrap_or (slice_get xs walk.place) (pos 0)) (value_in walk.size u)) q1.1.0
          ∙ same_part walk s.store u.store q.1.0 q.1.1 in
          subst (λ (z : List ℕ). 0 < length z) here some,
    )))))))))
  where
    word : ℕ
    word = w.0

    negation : ℕ
    negation = w.1.0

-- ---- single tokens

pub plus_step : (job : Job) (b a : ℤ) (ys : List Literal) (s : Store) → s.literals ≡ literal.Integer b ∷ literal.Integer a ∷ ys
    → step_of job (Run (callee.BuiltIn built_in.Plus)) s ≡ result_of (a +ℤ b) (with_literals ys s)
unfolding step_of function_run built_in_run
plus_step job b a ys s e =
    ap (λ xs. on_operands (row built_in.Plus).operands (row built_in.Plus).default ((row built_in.Plus).does job) xs s) e

-- an integer was pushed
abbrev Numbered : Store → Store → Type 0
Numbered s r = (i : ℤ) × ((ys : List Literal) × Leaves (literal.Integer i ∷ ys) s r)

number_so : (notes : List Note) (ys : List Literal) (s : Store) → AnswerSo (Numbered s) (complained notes stand_in.Zero (with_literals ys s))
number_so notes ys s =
    pushes_so (Numbered s) (step_output.Noted notes) (literal.Integer (pos 0)) (with_literals ys s) (pos 0, (ys, (refl, (refl, refl))))

truth_so : (b : Bool) (ys : List Literal) (s : Store) → AnswerSo (Numbered s) (pushed (truth b) (with_literals ys s))
truth_so true ys s = pushes_so (Numbered s) step_output.Nothing (literal.Integer (pos 1)) (with_literals ys s) (pos 1, (ys, (refl, (refl, refl))))
truth_so false ys s = pushes_so (Numbered s) step_output.Nothing (literal.Integer (pos 0)) (with_literals ys s) (pos 0, (ys, (refl, (refl, refl))))

equals_on : (job : Job) (xs : List Literal) (s : Store)
    → AnswerSo (Numbered s) (on_operands (row built_in.Equals).operands (row built_in.Equals).default ((row built_in.Equals).does job) xs s)
equals_on job [] s = number_so (note.EmptyStack ∷ note.EmptyStack ∷ []) [] s
equals_on job (y ∷ []) s = number_so (note.EmptyStack ∷ []) [] s
equals_on job (literal.Integer b ∷ literal.Integer a ∷ ys) s = truth_so _ ys s
equals_on job (literal.Integer b ∷ literal.Text a ∷ ys) s = number_so _ ys s
equals_on job (literal.Integer b ∷ literal.Function a ∷ ys) s = number_so _ ys s
equals_on job (literal.Integer b ∷ literal.Missing ∷ ys) s = number_so _ ys s
equals_on job (literal.Text b ∷ literal.Text a ∷ ys) s = truth_so _ ys s
equals_on job (literal.Text b ∷ literal.Integer a ∷ ys) s = number_so _ ys s
equals_on job (literal.Text b ∷ literal.Function a ∷ ys) s = number_so _ ys s
equals_on job (literal.Text b ∷ literal.Missing ∷ ys) s = number_so _ ys s
equals_on job (literal.Function b ∷ y ∷ ys) s = number_so _ ys s
equals_on job (literal.Missing ∷ y ∷ ys) s = number_so _ ys s

equals_so : (job : Job) (s : Store) → AnswerSo (Numbered s) (step_of job (Run (callee.BuiltIn built_in.Equals)) s)
unfolding step_of function_run built_in_run
equals_so job s = equals_on job s.literals s

-- ---- the body

module _ (job : Job) (walk : Walk) (kinds : ℕ → Kind) (places sizes : ℕ → Effect) (moves : ℕ → Bool) (kinds_hold : KindsHold job.style kinds)
    (places_hold : EffectsHold job.style (place_measure walk) kinds places) (sizes_hold : EffectsHold job.style (size_measure walk) kinds sizes)
    (movers_hold : MovesHold job.style walk kinds places sizes moves) (x : List ℕ) (p n : ℤ) (turns : 0 < turns_from p (length x)) (long : pos 1 ≤ℤ n) where
  -- the text, the place and the size have these values, and the variables are there
  abbrev pub Ready : State → Type 0
  Ready s = (text_in walk.text s ≡ x) × ((value_in walk.place s ≡ p) × ((value_in walk.size s ≡ n)
      × ((suc walk.place ≤ length s.store.integers) × (suc walk.size ≤ length s.store.integers))))

  -- fewer turns are left
  abbrev pub Moved : State → Type 0
  Moved t = turns_in walk t ≤ turns_from p (length x) - 1

  ready_same : (s t : State) → SameVariables s.store t → Ready s → Ready t
  ready_same s t e r = (
    ap (λ (ts : List (List ℕ)). unwrap_or (slice_get ts walk.text) []) e.1 ∙ r.0,
    (
      ap (λ (xs : List ℤ). unwrap_or (slice_get xs walk.place) (pos 0)) e.0 ∙ r.1.0,
      (
        ap (λ (xs : List ℤ). unwrap_or (slice_get xs walk.size) (pos 0)) e.0 ∙ r.1.1.0,
        (
          subst (λ (xs : List ℤ). suc walk.place ≤ length xs) (sym e.0) r.1.1.1.0,
          subst (λ (xs : List ℤ). suc walk.size ≤ length xs) (sym e.0) r.1.1.1.1,
        ),
      ),
    ),
  )

  stays : (d : ℕ) (xs : List Token) → TokensStay job.style walk kinds places sizes xs → (bodies loops left : ℕ) (s : State) → Ready s
      → IfDone Ready (in_turn (act job d) xs bodies loops left s)
  stays d xs w bodies loops left s r =
      if_weaker (λ t. _ × _) Ready _
      (both_if _ _ (in_turn (act job d) xs bodies loops left s)
      (stays_done job (place_measure walk) kinds places kinds_hold places_hold d xs w.0 bodies loops left s r.1.1.1.0)
      (stays_done job (size_measure walk) kinds sizes kinds_hold sizes_hold d xs w.1 bodies loops left s r.1.1.1.1))
      (λ t k. (k.0.0 ∙ r.0, (k.0.1.0 ∙ r.1.0, (k.1.1.0 ∙ r.1.1.0, (k.0.1.1, k.1.1.1)))))

  -- a stride is pushed
  abbrev Strode : State → State → Type 0
  Strode s t = (z : ℤ) × ((pos 1 ≤ℤ z) × LeavesIn (literal.Integer z ∷ s.store.literals) s.store t)

  stride_to : (d : ℕ) (y : Token) → IsStride walk y → (bodies loops left : ℕ) (s : State) → Ready s → IfDone (Strode s) (act job d y bodies loops left s)
  stride_to d (Run (callee.GlobalInteger v)) w bodies loops left s r =
      if_weaker (LeavesIn (literal.Integer (value_in v s) ∷ s.store.literals) s.store) (Strode s) _
      (pushed_to job d (Run (callee.GlobalInteger v)) (literal.Integer (value_in v s)) s.store.literals bodies loops left s (variable_step job v s.store))
      (λ t q. (value_in v s, (subst (λ (i : ℤ). pos 1 ≤ℤ i) (sym (ap (λ i. value_in i s) w ∙ r.1.1.0)) long, q)))
  stride_to d (token.Integer (pos (suc k))) w bodies loops left s r =
      if_weaker (LeavesIn (literal.Integer (pos (suc k)) ∷ s.store.literals) s.store) (Strode s) _
      (pushed_to job d (token.Integer (pos (suc k))) (literal.Integer (pos (suc k))) s.store.literals bodies loops left s (integer_step job (pos (suc k)) s.store))
      (λ t q. (pos (suc k), (omega (arith, ints), q)))
  stride_to d y w bodies loops left s r = absurd w

  -- a place with fewer turns is pushed
  abbrev Sooner : List Literal → Store → Store → Type 0
  Sooner ys r q = (i : ℤ) × ((turns_from i (length x) ≤ turns_from p (length x) - 1) × Leaves (literal.Integer i ∷ ys) r q)

  sum_so : (z : ℤ) (ys : List Literal) (s : Store) → pos 1 ≤ℤ z → AnswerSo (Sooner ys s) (result_of (p +ℤ z) (with_literals ys s))
  sum_so z ys s h = by (fits (p +ℤ z))
    where
      by : (b : Bool) → AnswerSo (Sooner ys s)
          (cond b (pushed (literal.Integer (p +ℤ z)) (with_literals ys s)) (complained (note.Overflow ∷ []) stand_in.Zero (with_literals ys s)))
      by true = pushes_so (Sooner ys s) step_output.Nothing (literal.Integer (p +ℤ z)) (with_literals ys s)
          (p +ℤ z, (further p (p +ℤ z) (length x) turns (omega (arith, ints, h)), (refl, (refl, refl))))
      by false = pushes_so (Sooner ys s) (step_output.Noted (note.Overflow ∷ [])) (literal.Integer (pos 0)) (with_literals ys s)
          (pos 0, (omega arith, (refl, (refl, refl))))

  -- `:=` puts the place into its variable
  put_so : (i : ℤ) (ys : List Literal) (s : State) → Ready s → turns_from i (length x) ≤ turns_from p (length x) - 1
      → s.store.literals ≡ literal.Function (callee.GlobalInteger walk.place) ∷ literal.Integer i ∷ ys
      → AnswerSo (λ r. turns_from (unwrap_or (slice_get r.integers walk.place) (pos 0)) (length (unwrap_or (slice_get r.strings walk.text) [])) ≤ turns_from p (length x) - 1)
      (step_of job (Run (callee.BuiltIn built_in.Assign)) s.store)
  put_so i ys s r l top =
      let P = λ (r : Store). turns_from (unwrap_or (slice_get r.integers walk.place) (pos 0)) (length (unwrap_or (slice_get r.strings walk.text) [])) ≤ turns_from p (length x) - 1 in
      so_by P _ _ (assign_step job walk.place i ys s.store top)
      (subst (λ (z : List ℕ). turns_from (unwrap_or (slice_get (slice_set s.store.integers walk.place i) walk.place) (pos 0)) (length z) ≤ turns_from p (length x) - 1) (sym r.0)
      (subst (λ (j : ℤ). turns_from j (length x) ≤ turns_from p (length x) - 1) (sym (set_there s.store.integers walk.place i (let k = r.1.1.1.0 in omega (arith, k)))) l))

  move_done : (d : ℕ) (y : Token) → IsStride walk y → (bodies loops left : ℕ) (s : State) → Ready s
      → IfDone Moved (in_turn (act job d) (move_by walk.place y) bodies loops left s)
  move_done d y w bodies loops left s r =
      if_then (LeavesIn (literal.Integer (value_in walk.place s) ∷ s.store.literals) s.store) Moved _ _
      (pushed_to job d (Run (callee.GlobalInteger walk.place)) (literal.Integer (value_in walk.place s)) s.store.literals bodies loops left s (variable_step job walk.place s.store))
      (λ less1 t1 q1.
      let r1 = ready_same s t1 q1.1 r in
      if_then (Strode t1) Moved _ _
      (stride_to d y w bodies loops less1 t1 r1)
      (λ less2 t2 q2.
      let r2 = ready_same t1 t2 q2.1.1.1 r1 in
      if_then (λ t. Sooner s.store.literals t2.store t.store) Moved _ _
      (one_to job d (Run (callee.BuiltIn built_in.Plus)) (Sooner s.store.literals t2.store) bodies loops less2 t2
      (so_by (Sooner s.store.literals t2.store) _ _
      (plus_step job q2.0 p s.store.literals t2.store
      (q2.1.1.0 ∙ ap (λ (ys : List Literal). literal.Integer q2.0 ∷ ys) (q1.0 ∙ ap (λ (i : ℤ). literal.Integer i ∷ s.store.literals) r.1.0)))
      (sum_so q2.0 s.store.literals t2.store q2.1.0)))
      (λ less3 t3 q3.
      let r3 = ready_same t2 t3 q3.1.1.1 r2 in
      if_then (LeavesIn (literal.Function (callee.GlobalInteger walk.place) ∷ t3.store.literals) t3.store) Moved _ _
      (pushed_to job d (Quote (callee.GlobalInteger walk.place)) (literal.Function (callee.GlobalInteger walk.place)) t3.store.literals bodies loops less3 t3
      (quote_step job (callee.GlobalInteger walk.place) t3.store))
      (λ less4 t4 q4.
      if_then Moved Moved _ _
      (one_to job d (Run (callee.BuiltIn built_in.Assign)) _ bodies loops less4 t4
      (put_so q3.0 s.store.literals t4 (ready_same t3 t4 q4.1 r3) q3.1.0
      (q4.0 ∙ ap (λ (ys : List Literal). literal.Function (callee.GlobalInteger walk.place) ∷ ys) q3.1.1.0)))
      (λ less5 t5 q5. q5)))))

  abbrev Called : ℕ → Type 0
  Called d = (number : ℕ) → moves number ≡ true → (bodies loops left : ℕ) (s : State) → Ready s
      → IfDone Moved (act job d (Run (callee.User number)) bodies loops left s)

  -- .. with two executions fewer inside one another
  abbrev Lower : ℕ → Type 0
  Lower zero = Unit {0}
  Lower (suc d) = Called d

  chosen_done : (d : ℕ) → Lower d → (f g : ℕ) → moves f ≡ true → moves g ≡ true → (i : ℤ) (ys : List Literal) (bodies loops left : ℕ) (s : State) → Ready s
      → s.store.literals ≡ literal.Function (callee.User g) ∷ literal.Function (callee.User f) ∷ literal.Integer i ∷ ys
      → IfDone Moved (act job d (Run (callee.BuiltIn built_in.If)) bodies loops left s)
  chosen_done zero low f g mf mg i ys bodies loops left s r top = tt
  chosen_done (suc d) low f g mf mg i ys bodies loops left s r top =
      choose_at job (place_measure walk) kinds places kinds_hold places_hold d (callee.User f) (callee.User g) i ys Moved bodies loops left s top
      (λ less t same. by (is_positive i) less t same)
    where
      by : (b : Bool) (less : ℕ) (t : State) → SameVariables s.store t
          → IfDone Moved (act job d (Run (kept_control.chosen b (callee.User f) (callee.User g))) bodies loops less t)
      by true less t same = low f mf bodies loops less t (ready_same s t same r)
      by false less t same = low g mg bodies loops less t (ready_same s t same r)

  choice_done : (d : ℕ) → Lower d → (f g : ℕ) → moves f ≡ true → moves g ≡ true → (bodies loops left : ℕ) (s : State) → Ready s
      → IfDone Moved (in_turn (act job d) (compared_choice f g) bodies loops left s)
  choice_done d low f g mf mg bodies loops left s r =
      if_then (λ t. Numbered s.store t.store) Moved _ _
      (one_to job d (Run (callee.BuiltIn built_in.Equals)) (Numbered s.store) bodies loops left s (equals_so job s.store))
      (λ less1 t1 q1.
      let r1 = ready_same s t1 q1.1.1.1 r in
      if_then (LeavesIn (literal.Function (callee.User f) ∷ t1.store.literals) t1.store) Moved _ _
      (pushed_to job d (Quote (callee.User f)) (literal.Function (callee.User f)) t1.store.literals bodies loops less1 t1 (quote_step job (callee.User f) t1.store))
      (λ less2 t2 q2.
      let r2 = ready_same t1 t2 q2.1 r1 in
      if_then (LeavesIn (literal.Function (callee.User g) ∷ t2.store.literals) t2.store) Moved _ _
      (pushed_to job d (Quote (callee.User g)) (literal.Function (callee.User g)) t2.store.literals bodies loops less2 t2 (quote_step job (callee.User g) t2.store))
      (λ less3 t3 q3.
      if_then Moved Moved _ _
      (chosen_done d low f g mf mg q1.0 q1.1.0 bodies loops less3 t3 (ready_same t2 t3 q3.1 r2)
      (q3.0 ∙ ap (λ (ys : List Literal). literal.Function (callee.User g) ∷ ys)
      (q2.0 ∙ ap (λ (ys : List Literal). literal.Function (callee.User f) ∷ ys) q1.1.1.0)))
      (λ less4 t4 q4. q4))))

  -- tokens that keep all three, and then these
  after : (d : ℕ) (others last body : List Token) → body ≡ others ++ last → TokensStay job.style walk kinds places sizes others
      → ((bodies loops left : ℕ) (s : State) → Ready s → IfDone Moved (in_turn (act job d) last bodies loops left s))
      → (bodies loops left : ℕ) (s : State) → Ready s → IfDone Moved (in_turn (act job d) body bodies loops left s)
  after d others last body is w f bodies loops left s r =
      subst (λ (xs : List Token). IfDone Moved (in_turn (act job d) xs bodies loops left s)) (sym is)
      (subst (λ (o : Outcome). IfDone Moved o) (sym (in_turn_both (act job d) others last bodies loops left s))
      (if_then Ready Moved (in_turn (act job d) others bodies loops left s) (in_turn (act job d) last bodies loops) (stays d others w bodies loops left s r)
      (λ less t k. f bodies loops less t k)))

  body_done : (d : ℕ) → Lower d → (body : List Token) → Moves job.style walk kinds places sizes moves body → (bodies loops left : ℕ) (s : State) → Ready s
      → IfDone Moved (in_turn (act job d) body bodies loops left s)
  body_done d low body (inl w) = after d w.0 (move_by walk.place w.1.0) body w.1.1.0 w.1.1.1.1 (move_done d w.1.0 w.1.1.1.0)
  body_done d low body (inr w) =
      after d w.0 (compared_choice w.1.0 w.1.1.0) body w.1.1.1.0 w.1.1.1.1.1 (choice_done d low w.1.0 w.1.1.0 w.1.1.1.1.0.0 w.1.1.1.1.0.1)

  call_done : (d : ℕ) → Lower d → Called (suc d)
  call_done d low number e bodies loops zero s r = tt
  call_done d low number e bodies loops (suc left) s r =
      opens_to job number s d bodies loops left Moved
      (λ t same. body_done d low (body_of job.style number) (movers_hold number e) (bodies + 1) loops left t (ready_same s t same r))

  -- a call of a function that moves the place on
  pub moves_done : (d : ℕ) → Called d
  moves_done zero = λ number e bodies loops left s r. tt
  moves_done (suc zero) = call_done zero tt
  moves_done (suc (suc d)) = call_done (suc d) (moves_done d)
