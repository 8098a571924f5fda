-- Loops that count a variable up to a limit: their test is true only where the place is below the limit, and each turn raises the place.
use Rattle.std.proofs.Common.{◌≡◌, ◌≢◌, ℕ, zero, suc, ◌+◌, ◌-◌, ◌^◌, ◌≤◌, ◌<◌, ℤ, pos, negsuc, Bool, true, false, cond, nat_lt, List, [], ◌∷◌, ◌++◌, length, take}
use Rattle.std.proofs.Common.{refl, arith, sym, ap, subst, ◌∙◌, ◌⊎◌, inl, inr}
use Rattle.std.proofs.lemmas.Bool.{ltb-true, ltb-false}
use Rattle.std.proofs.lemmas.List.Sums.{count_by-le-length}
use Rattle.std.proofs.lemmas.Int.{ints}
use Rattle.std.specs.Prelude.{slice_get, slice_set, slice_index_or, unwrap_or, int_lt, ◌+ℤ◌, ◌-ℤ◌, ◌≤ℤ◌}
use Rattle.btx_text.specs.declared.element_kind.TextMode.{TextMode}
use Rattle.btx_text.specs.language.Elements.{Element, depth_after, kind_at, extent, elements_from, elements_of, is_character}
use Rattle.btx_bst.specs.declared.built_in.BuiltIn.TheVariants as built_in
use Rattle.btx_bst.specs.declared.callee.Callee.TheVariants as callee
use Rattle.btx_bst.specs.declared.token.Token.{Token}
use Rattle.btx_bst.specs.declared.token.Token.TheVariants as token
use Rattle.btx_bst.specs.declared.token.Token.TheVariants.{Quote, Run}
use Rattle.btx_stack.specs.declared.literal.Literal.{Literal}
use Rattle.btx_stack.specs.declared.literal.Literal.TheVariants as literal
use Rattle.btx_strings.specs.language.Lengths.{text_length_of}
use Rattle.btx_step.specs.declared.said.Note.TheVariants as note
use Rattle.btx_step.specs.declared.said.StepOutput.TheVariants as step_output
use Rattle.btx_step.specs.declared.stand_in.StandIn.TheVariants as stand_in
use Rattle.btx_step.specs.language.Answers.{truth, with_literals, pushed, complained}
use Rattle.btx_step.specs.language.Arithmetic.{fits, result_of}
use Rattle.btx_step.specs.language.Control.{is_positive}
use Rattle.btx_step.specs.language.Jobs.{Job}
use Rattle.btx_step.specs.language.Operands.{on_operands}
use Rattle.btx_step.specs.language.Steps.{step_of, function_run, built_in_run}
use Rattle.btx_step.specs.language.Stores.{Store}
use Rattle.btx_step.specs.language.Table.{row}
use Rattle.btx_machine.specs.language.States.{State, Outcome}
use Rattle.btx_machine.specs.language.Steps.{turn_of}
use Rattle.btx_machine.specs.language.MeaningBySteps.{in_turn, act}
use Rattle.btx_ends.specs.declared.measures.Walk.{Walk}
use Rattle.btx_ends.specs.declared.measures.Limit.{Limit}
use Rattle.btx_ends.specs.declared.measures.Limit.TheVariants as limit
use Rattle.btx_ends.specs.declared.measures.Climb.{Climb}
use Rattle.btx_ends.specs.declared.measures.Effect.{Effect}
use Rattle.btx_ends.specs.declared.measures.Kind.{Kind}
use Rattle.btx_ends.specs.Counters.{value_in, above_zero}
use Rattle.btx_ends.specs.Keeping.{IfDone}
use Rattle.btx_ends.specs.Certificates.{Claims, LimitWithin}
use Rattle.btx_ends.specs.Shortening.{text_in, body_of, KindsHold, EffectsHold}
use Rattle.btx_ends.specs.Walking.{place_measure, size_measure, move_by, TokensStay}
use Rattle.btx_ends.specs.Climbing.{limit_of, limit_in, climbs_from, climbs_in, limit_tokens, less_test, greater_test, IsBelow, also_test, TellsBelow, Raises}
use Rattle.btx_ends.proofs.CounterLemmas.{SameVariables, variable_step, quote_step, integer_step, string_step, greater_step, turn_again, in_turn_both, assign_step, at_most_above}
use Rattle.btx_ends.proofs.DoneLemmas.{if_then, if_weaker, Leaves, LeavesIn, AnswerSo, one_to, pushes_so, pushed_to, and_to, call_to, so_by, lower_if, number_of, truth_number, lower_positive}
use Rattle.btx_ends.proofs.FineLemmas.{Fine, value_of, text_of, length-slice_set}
use Rattle.btx_ends.proofs.ShorterLemmas.{both_if, stays_done, set_there, set_elsewhere}
use Rattle.btx_ends.proofs.TellLemmas.{again_of}
use Rattle.btx_ends.proofs.WalkLemmas.{plus_step}

-- ---- the length of a text

few_elements : (mode : TextMode) (skip start depth : ℕ) (text : List ℕ) → length (elements_from mode skip start depth text) ≤ length text
unfolding elements_from
few_elements mode skip start depth [] = omega arith
few_elements mode (suc skip) start depth (b ∷ bs) = let h = few_elements mode skip (start + 1) (depth_after depth b) bs in omega (arith, h)
few_elements mode zero start depth (b ∷ bs) =
    let h = few_elements mode (length (take (extent (kind_at mode depth (b ∷ bs)) (b ∷ bs)) (b ∷ bs)) - 1) (start + 1) (depth_after depth b) bs in omega (arith, h)

few_characters : (mode : TextMode) (text : List ℕ) → text_length_of mode text ≤ length text
unfolding elements_of
few_characters mode text =
    let a = count_by-le-length (λ (part : Element). is_character part.kind) (elements_from mode 0 0 0 text) in
    let b = few_elements mode 0 0 0 text in omega (arith, a, b)

-- ---- what gets less

above_least : (i : ℤ) → i ≤ℤ pos (above_zero i)
above_least (pos n) = omega (arith, ints)
above_least (negsuc n) = omega (arith, ints)

one_less : (most p q : ℤ) → (p +ℤ pos 1) ≤ℤ most → (p +ℤ pos 1) ≤ℤ q → above_zero (most -ℤ q) ≤ above_zero (most -ℤ p) - 1
one_less most p q l h =
    let a = above_least (most -ℤ p) in at_most_above (most -ℤ q) (above_zero (most -ℤ p) - 1) (omega (arith, ints, a, l, h))

nearer : (most : ℤ) (n : ℕ) → above_zero (most -ℤ pos n) ≤ above_zero most
nearer most n = let a = above_least most in at_most_above (most -ℤ pos n) (above_zero most) (omega (arith, ints, a))

not_far : (most : ℤ) (n : ℕ) → n < 2 ^ 31 → above_zero (most -ℤ negsuc n) ≤ above_zero most + 2 ^ 31
not_far most n l = let a = above_least most in at_most_above (most -ℤ negsuc n) (above_zero most + 2 ^ 31) (omega (arith, ints, a, l))

-- a place further on leaves fewer turns, if it has a value that a sum has
fewer : (p q most : ℤ) → (p +ℤ pos 1) ≤ℤ most → (p +ℤ pos 1) ≤ℤ q → fits q ≡ true → climbs_from q most ≤ climbs_from p most - 1
fewer (pos a) (pos b) most l h e = one_less most (pos a) (pos b) l h
fewer (pos a) (negsuc b) most l h e = absurd (omega (arith, ints, h))
fewer (negsuc a) (pos b) most l h e = by (nat_lt a (2 ^ 31))
  where
    by : (c : Bool) → above_zero (most -ℤ pos b) ≤ cond c (above_zero (most -ℤ negsuc a)) (above_zero most + 2 ^ 31 + 1) - 1
    by true = one_less most (negsuc a) (pos b) l h
    by false = let k = nearer most b in omega (arith, k)
fewer (negsuc a) (negsuc b) most l h e =
    subst (λ (c : Bool). cond c (above_zero (most -ℤ negsuc b)) (above_zero most + 2 ^ 31 + 1) ≤ climbs_from (negsuc a) most - 1) (sym e) (by (nat_lt a (2 ^ 31)))
  where
    by : (c : Bool) → above_zero (most -ℤ negsuc b) ≤ cond c (above_zero (most -ℤ negsuc a)) (above_zero most + 2 ^ 31 + 1) - 1
    by true = one_less most (negsuc a) (negsuc b) l h
    by false = let k = not_far most b (ltb-true b (2 ^ 31) e) in omega (arith, k)

pub climbs_few : (p most : ℤ) → above_zero most < 2 ^ 31 → climbs_from p most ≤ 2 ^ 32
climbs_few (pos n) most l = let k = nearer most n in omega (arith, k, l)
climbs_few (negsuc n) most l = by (nat_lt n (2 ^ 31)) refl
  where
    by : (c : Bool) → nat_lt n (2 ^ 31) ≡ c → cond c (above_zero (most -ℤ negsuc n)) (above_zero most + 2 ^ 31 + 1) ≤ 2 ^ 32
    by true e = let k = not_far most n (ltb-true n (2 ^ 31) e) in omega (arith, k, l)
    by false e = omega (arith, l)

-- below the limit there is one
pub climbs_some : (p most : ℤ) → int_lt p most ≡ true → 0 < climbs_from p most
climbs_some (pos n) most e = let a = above_least (most -ℤ pos n) in omega (arith, ints, a, e)
climbs_some (negsuc n) most e = by (nat_lt n (2 ^ 31))
  where
    by : (c : Bool) → 0 < cond c (above_zero (most -ℤ negsuc n)) (above_zero most + 2 ^ 31 + 1)
    by true = let a = above_least (most -ℤ negsuc n) in omega (arith, ints, a, e)
    by false = omega arith

-- a sum that isn't above the limit and doesn't fit is below 0
not_fits : (i most : ℤ) → i ≤ℤ most → above_zero most < 2 ^ 31 → fits i ≡ false → i ≤ℤ pos 0
not_fits (pos n) most h l e = absurd (let a = above_least most in let k = ltb-false n (2 ^ 31) e in omega (arith, ints, a, h, l, k))
not_fits (negsuc n) most h l e = omega (arith, ints)

-- ---- the limit

pub limit_low : (claims : Claims) (mode : TextMode) (walk : Walk) (to : Limit) (s : State) → LimitWithin claims walk to → Fine claims s
    → above_zero (limit_of mode to (value_in walk.size s) (text_in walk.text s)) < 2 ^ 31
limit_low claims mode walk limit.Size s w h = by (slice_index_or claims.bounds walk.size 0) refl w.0 w.1.0
  where
    by : (claim : ℕ) → slice_index_or claims.bounds walk.size 0 ≡ claim → 0 < claim → claim ≤ 2 ^ 31 → above_zero (value_in walk.size s) < 2 ^ 31
    by zero e some l = absurd (omega (arith, some))
    by (suc most) e some l = let k = h.0 walk.size most e in omega (arith, k, l)
limit_low claims mode walk limit.Length s w h =
    let a = few_characters mode (text_in walk.text s) in let b = h.1.0 walk.text in omega (arith, a, b, w)
limit_low claims mode walk (limit.Number n) s w h = let k = at_most_above n (2 ^ 30) w in omega (arith, k)

-- a variable that is the limit isn't the place
abbrev pub Apart : Limit → Walk → Type 0
Apart limit.Size walk = walk.size ≢ walk.place
Apart limit.Length walk = Unit {0}
Apart (limit.Number n) walk = Unit {0}

pub limit_apart : (claims : Claims) (walk : Walk) (to : Limit) → LimitWithin claims walk to → Apart to walk
limit_apart claims walk limit.Size w = w.1.1
limit_apart claims walk limit.Length w = tt
limit_apart claims walk (limit.Number n) w = tt

pub same_limit : (mode : TextMode) (climb : Climb) (s t : State) → t.store.integers ≡ s.store.integers → t.store.strings ≡ s.store.strings
    → limit_in mode climb t ≡ limit_in mode climb s
same_limit mode climb s t e k =
    ap (λ (xs : List ℤ). limit_of mode climb.limit (unwrap_or (slice_get xs climb.walk.size) (pos 0)) (text_in climb.walk.text t)) e
    ∙ ap (λ (ts : List (List ℕ)). limit_of mode climb.limit (value_in climb.walk.size s) (unwrap_or (slice_get ts climb.walk.text) [])) k

pub same_place : (v : ℕ) (s t : State) → t.store.integers ≡ s.store.integers → value_in v t ≡ value_in v s
same_place v s t e = ap (λ (xs : List ℤ). unwrap_or (slice_get xs v) (pos 0)) e

-- ---- the test

-- the place is below the limit
abbrev pub is_below : TextMode → Climb → State → Bool
is_below mode climb s = int_lt (value_in climb.walk.place s) (limit_in mode climb s)

pub below_same : (mode : TextMode) (climb : Climb) (s t : State) → t.store.integers ≡ s.store.integers → t.store.strings ≡ s.store.strings
    → is_below mode climb t ≡ is_below mode climb s
below_same mode climb s t e k =
    ap (λ (i : ℤ). int_lt i (limit_in mode climb t)) (same_place climb.walk.place s t e)
    ∙ ap (λ (i : ℤ). int_lt (value_in climb.walk.place s) i) (same_limit mode climb s t e k)

-- the variables are those of `s`, and the loop goes on only where the place is below the limit
abbrev pub BelowTold : Job → Climb → State → State → Type 0
BelowTold job climb s u = SameVariables s.store u × ((turn_of job u).again ≡ true → is_below job.mode climb s ≡ true)

less_step : (job : Job) (b a : ℤ) (ys : List Literal) (s : Store) → s.literals ≡ literal.Integer b ∷ literal.Integer a ∷ ys
    → step_of job (Run (callee.BuiltIn built_in.Less)) s ≡ pushed (truth (int_lt a b)) (with_literals ys s)
unfolding step_of function_run built_in_run
less_step job b a ys s e = ap (λ xs. on_operands (row built_in.Less).operands (row built_in.Less).default ((row built_in.Less).does job) xs s) e

length_step : (job : Job) (text : List ℕ) (ys : List Literal) (s : Store) → s.literals ≡ literal.Text text ∷ ys
    → step_of job (Run (callee.BuiltIn built_in.TextLength)) s ≡ pushed (literal.Integer (pos (text_length_of job.mode text))) (with_literals ys s)
unfolding step_of function_run built_in_run
length_step job text ys s e =
    ap (λ xs. on_operands (row built_in.TextLength).operands (row built_in.TextLength).default ((row built_in.TextLength).does job) xs s) e

-- the tokens of the limit, and then others
limit_to : (job : Job) (to : Limit) (walk : Walk) (e : ℕ) (rest : List Token) (bodies loops left : ℕ) (s : State) (Q : State → Type 0)
    → ((less : ℕ) (u : State) → Leaves (literal.Integer (limit_of job.mode to (value_in walk.size s) (text_in walk.text s)) ∷ s.store.literals) s.store u.store
    → IfDone Q (in_turn (act job e) rest bodies loops less u))
    → IfDone Q (in_turn (act job e) (limit_tokens to walk ++ rest) bodies loops left s)
limit_to job limit.Size walk e rest bodies loops left s Q f =
    if_then (LeavesIn (literal.Integer (value_in walk.size s) ∷ s.store.literals) s.store) Q _ _
    (pushed_to job e (Run (callee.GlobalInteger walk.size)) (literal.Integer (value_in walk.size s)) s.store.literals bodies loops left s (variable_step job walk.size s.store))
    (λ less t q. f less t q)
limit_to job limit.Length walk e rest bodies loops left s Q f =
    let n = pos (text_length_of job.mode (text_in walk.text s)) in
    if_then (LeavesIn (literal.Text (text_in walk.text s) ∷ s.store.literals) s.store) Q _ _
    (pushed_to job e (Run (callee.GlobalString walk.text)) (literal.Text (text_in walk.text s)) s.store.literals bodies loops left s (string_step job walk.text s.store))
    (λ less1 t1 q1. if_then (LeavesIn (literal.Integer n ∷ s.store.literals) t1.store) Q _ _
    (pushed_to job e (Run (callee.BuiltIn built_in.TextLength)) (literal.Integer n) s.store.literals bodies loops less1 t1
    (length_step job (text_in walk.text s) s.store.literals t1.store q1.0))
    (λ less2 t2 q2. f less2 t2 (q2.0, (q2.1.0 ∙ q1.1.0, q2.1.1 ∙ q1.1.1))))
limit_to job (limit.Number n) walk e rest bodies loops left s Q f =
    if_then (LeavesIn (literal.Integer n ∷ s.store.literals) s.store) Q _ _
    (pushed_to job e (token.Integer n) (literal.Integer n) s.store.literals bodies loops left s (integer_step job n s.store))
    (λ less t q. f less t q)

abbrev on : Literal → List Literal → List Literal
on y ys = y ∷ ys

-- the tokens `p limit <`, or `limit p >`
below_to : (job : Job) (climb : Climb) (xs : List Token) → IsBelow climb xs → (e bodies loops left : ℕ) (s : State)
    → IfDone (LeavesIn (truth (is_below job.mode climb s) ∷ s.store.literals) s.store) (in_turn (act job e) xs bodies loops left s)
below_to job climb xs (inl is) e bodies loops left s =
    let Q = LeavesIn (truth (is_below job.mode climb s) ∷ s.store.literals) s.store in
    let p = value_in climb.walk.place s in
    subst (λ (ts : List Token). IfDone Q (in_turn (act job e) ts bodies loops left s)) (sym is)
    (if_then (LeavesIn (literal.Integer p ∷ s.store.literals) s.store) Q _ _
    (pushed_to job e (Run (callee.GlobalInteger climb.walk.place)) (literal.Integer p) s.store.literals bodies loops left s (variable_step job climb.walk.place s.store))
    (λ less1 t1 q1. limit_to job climb.limit climb.walk e (Run (callee.BuiltIn built_in.Less) ∷ []) bodies loops less1 t1 Q
    (λ less2 t2 q2.
    let most = limit_in job.mode climb t1 in
    if_then (LeavesIn (truth (int_lt p most) ∷ s.store.literals) t2.store) Q _ _
    (pushed_to job e (Run (callee.BuiltIn built_in.Less)) (truth (int_lt p most)) s.store.literals bodies loops less2 t2
    (less_step job most p s.store.literals t2.store (q2.0 ∙ ap (on (literal.Integer most)) q1.0)))
    (λ less3 t3 q3. (
      q3.0 ∙ ap (λ (i : ℤ). truth (int_lt p i) ∷ s.store.literals) (same_limit job.mode climb s t1 q1.1.0 q1.1.1),
      (q3.1.0 ∙ q2.1.0 ∙ q1.1.0, q3.1.1 ∙ q2.1.1 ∙ q1.1.1),
    )))))
below_to job climb xs (inr is) e bodies loops left s =
    let Q = LeavesIn (truth (is_below job.mode climb s) ∷ s.store.literals) s.store in
    let most = limit_in job.mode climb s in
    subst (λ (ts : List Token). IfDone Q (in_turn (act job e) ts bodies loops left s)) (sym is)
    (limit_to job climb.limit climb.walk e (Run (callee.GlobalInteger climb.walk.place) ∷ Run (callee.BuiltIn built_in.Greater) ∷ []) bodies loops left s Q
    (λ less1 t1 q1.
    let p = value_in climb.walk.place t1 in
    if_then (LeavesIn (literal.Integer p ∷ t1.store.literals) t1.store) Q _ _
    (pushed_to job e (Run (callee.GlobalInteger climb.walk.place)) (literal.Integer p) t1.store.literals bodies loops less1 t1 (variable_step job climb.walk.place t1.store))
    (λ less2 t2 q2. if_then (LeavesIn (truth (int_lt p most) ∷ s.store.literals) t2.store) Q _ _
    (pushed_to job e (Run (callee.BuiltIn built_in.Greater)) (truth (int_lt p most)) s.store.literals bodies loops less2 t2
    (greater_step job p most s.store.literals t2.store (q2.0 ∙ ap (on (literal.Integer p)) q1.0)))
    (λ less3 t3 q3. (
      q3.0 ∙ ap (λ (i : ℤ). truth (int_lt i most) ∷ s.store.literals) (same_place climb.walk.place s t1 q1.1.0),
      (q3.1.0 ∙ q2.1.0 ∙ q1.1.0, q3.1.1 ∙ q2.1.1 ∙ q1.1.1),
    )))))

pub tells_below_to : (job : Job) (d test : ℕ) (climb : Climb) → TellsBelow job.style climb (body_of job.style test) → (bodies loops left : ℕ) (s : State)
    → IfDone (BelowTold job climb s) (act job d (Run (callee.User test)) bodies loops left s)
tells_below_to job d test climb (inl w) bodies loops left s =
    call_to job d test (body_of job.style test) (BelowTold job climb s) bodies loops left s refl
    (λ e less u q. if_weaker (LeavesIn (truth (is_below job.mode climb u) ∷ u.store.literals) u.store) (BelowTold job climb s) _
    (below_to job climb (body_of job.style test) w e (bodies + 1) loops less u)
    (λ t k. (
      (k.1.0 ∙ q.1.0, k.1.1 ∙ q.1.1),
      λ goes. sym (below_same job.mode climb s u q.1.0 q.1.1) ∙ sym (turn_again job (is_below job.mode climb u) u.store.literals t k.0) ∙ goes,
    )))
tells_below_to job d test climb (inr w) bodies loops left s =
    call_to job d test (w.0 ++ also_test v r conjunction) Q bodies loops left s w.1.1.1.1.0
    (λ e less u q.
    let b = is_below job.mode climb u in
    subst (λ (o : Outcome). IfDone Q o) (sym (in_turn_both (act job e) w.0 (also_test v r conjunction) (bodies + 1) loops less u))
    (if_then (LeavesIn (truth b ∷ u.store.literals) u.store) Q _ _
    (below_to job climb w.0 w.1.1.1.1.1.0 e (bodies + 1) loops less u)
    (λ less1 t1 q1. if_then (LeavesIn (literal.Integer (value_in v t1) ∷ t1.store.literals) t1.store) Q _ _
    (pushed_to job e (Run (callee.GlobalInteger v)) (literal.Integer (value_in v t1)) t1.store.literals (bodies + 1) loops less1 t1 (variable_step job v t1.store))
    (λ less2 t2 q2. if_then (LeavesIn (literal.Integer (value_in r t2) ∷ t2.store.literals) t2.store) Q _ _
    (pushed_to job e (Run (callee.GlobalInteger r)) (literal.Integer (value_in r t2)) t2.store.literals (bodies + 1) loops less2 t2 (variable_step job r t2.store))
    (λ less3 t3 q3.
    let c = int_lt (value_in r t2) (value_in v t1) in
    if_then (LeavesIn (truth c ∷ t1.store.literals) t3.store) Q _ _
    (pushed_to job e (Run (callee.BuiltIn built_in.Greater)) (truth c) t1.store.literals (bodies + 1) loops less3 t3
    (greater_step job (value_in r t2) (value_in v t1) t1.store.literals t3.store (q3.0 ∙ ap (on (literal.Integer (value_in r t2))) q2.0)))
    (λ less4 t4 q4.
    let n = lower_if (is_positive (number_of c)) (number_of b) in
    if_then (LeavesIn (literal.Integer n ∷ u.store.literals) t4.store) Q _ _
    (and_to job e conjunction w.1.1.1.1.1.1.0 w.1.1.1.1.1.1.1 (number_of c) (number_of b) u.store.literals (bodies + 1) loops less4 t4
    (q4.0 ∙ ap (λ (y : Literal). y ∷ t1.store.literals) (truth_number c) ∙ ap (on (literal.Integer (number_of c)))
    (q1.0 ∙ ap (λ (y : Literal). y ∷ u.store.literals) (truth_number b))))
    (λ less5 t5 q5. (
      (q5.1.0 ∙ q4.1.0 ∙ q3.1.0 ∙ q2.1.0 ∙ q1.1.0 ∙ q.1.0, q5.1.1 ∙ q4.1.1 ∙ q3.1.1 ∙ q2.1.1 ∙ q1.1.1 ∙ q.1.1),
      λ goes. sym (below_same job.mode climb s u q.1.0 q.1.1) ∙ (lower_positive c b (sym (again_of job n u.store.literals t5 q5.0) ∙ goes)).0,
    ))))))))
  where
    Q : State → Type 0
    Q = BelowTold job climb s

    v : ℕ
    v = w.1.0

    r : ℕ
    r = w.1.1.0

    conjunction : ℕ
    conjunction = w.1.1.1.0

-- ---- the body

module _ (job : Job) (climb : Climb) (kinds : ℕ → Kind) (places sizes : ℕ → Effect) (kinds_hold : KindsHold job.style kinds)
    (places_hold : EffectsHold job.style (place_measure climb.walk) kinds places) (sizes_hold : EffectsHold job.style (size_measure climb.walk) kinds sizes)
    (apart : Apart climb.limit climb.walk) (x : List ℕ) where
  -- the place and the size have these values, the text is `x`, and the variables are there
  abbrev ReadyIn : ℤ → ℤ → Store → Type 0
  ReadyIn p n r = (text_of r.strings climb.walk.text ≡ x) × ((value_of r.integers climb.walk.place ≡ p) × ((value_of r.integers climb.walk.size ≡ n)
      × ((suc climb.walk.place ≤ length r.integers) × (suc climb.walk.size ≤ length r.integers))))

  abbrev pub Ready : ℤ → ℤ → State → Type 0
  Ready p n s = ReadyIn p n s.store

  ready_same : (p n : ℤ) (s t : State) → SameVariables s.store t → Ready p n s → Ready p n t
  ready_same p n s t e r = (
    ap (λ (ts : List (List ℕ)). text_of ts climb.walk.text) e.1 ∙ r.0,
    (
      ap (λ (xs : List ℤ). value_of xs climb.walk.place) e.0 ∙ r.1.0,
      (
        ap (λ (xs : List ℤ). value_of xs climb.walk.size) e.0 ∙ r.1.1.0,
        (
          subst (λ (xs : List ℤ). suc climb.walk.place ≤ length xs) (sym e.0) r.1.1.1.0,
          subst (λ (xs : List ℤ). suc climb.walk.size ≤ length xs) (sym e.0) r.1.1.1.1,
        ),
      ),
    ),
  )

  stays : (p n : ℤ) (d : ℕ) (xs : List Token) → TokensStay job.style climb.walk kinds places sizes xs → (bodies loops left : ℕ) (s : State) → Ready p n s
      → IfDone (Ready p n) (in_turn (act job d) xs bodies loops left s)
  stays p n d xs w bodies loops left s r =
      if_weaker (λ t. _ × _) (Ready p n) _
      (both_if _ _ (in_turn (act job d) xs bodies loops left s)
      (stays_done job (place_measure climb.walk) kinds places kinds_hold places_hold d xs w.0 bodies loops left s r.1.1.1.0)
      (stays_done job (size_measure climb.walk) kinds sizes kinds_hold sizes_hold d xs w.1 bodies loops left s r.1.1.1.1))
      (λ t k. (k.0.0 ∙ r.0, (k.0.1.0 ∙ r.1.0, (k.1.1.0 ∙ r.1.1.0, (k.0.1.1, k.1.1.1)))))

  module _ (p n : ℤ) (low : above_zero (limit_of job.mode climb.limit n x) < 2 ^ 31) (below : int_lt p (limit_of job.mode climb.limit n x) ≡ true) where
    abbrev most : ℤ
    most = limit_of job.mode climb.limit n x

    next : (p +ℤ pos 1) ≤ℤ most
    next = omega (arith, ints, below)

    -- a place with fewer turns is pushed
    abbrev Sooner : List Literal → Store → Store → Type 0
    Sooner ys r q = (i : ℤ) × ((climbs_from i most ≤ climbs_from p most - 1) × Leaves (literal.Integer i ∷ ys) r q)

    sum_so : (ys : List Literal) (s : Store) → AnswerSo (Sooner ys s) (result_of (p +ℤ pos 1) (with_literals ys s))
    sum_so ys s = by (fits (p +ℤ pos 1)) refl
      where
        by : (b : Bool) → fits (p +ℤ pos 1) ≡ b → AnswerSo (Sooner ys s)
            (cond b (pushed (literal.Integer (p +ℤ pos 1)) (with_literals ys s)) (complained (note.Overflow ∷ []) stand_in.Zero (with_literals ys s)))
        by true e = pushes_so (Sooner ys s) step_output.Nothing (literal.Integer (p +ℤ pos 1)) (with_literals ys s)
            (p +ℤ pos 1, (fewer p (p +ℤ pos 1) most next (omega (arith, ints)) e, (refl, (refl, refl))))
        by false e = pushes_so (Sooner ys s) (step_output.Noted (note.Overflow ∷ [])) (literal.Integer (pos 0)) (with_literals ys s)
            (pos 0, (fewer p (pos 0) most next (not_fits (p +ℤ pos 1) most next low e) refl, (refl, (refl, refl))))

    -- the place leaves fewer turns below the same limit
    abbrev RaisedIn : Store → Type 0
    RaisedIn r = (i : ℤ) × ((j : ℤ) × (ReadyIn i j r × ((limit_of job.mode climb.limit j x ≡ most) × (climbs_from i most ≤ climbs_from p most - 1))))

    -- assigning to the place leaves the limit
    limit_kept : (to : Limit) → Apart to climb.walk → (xs : List ℤ) (i : ℤ) → value_of xs climb.walk.size ≡ n
        → limit_of job.mode to (value_of (slice_set xs climb.walk.place i) climb.walk.size) x ≡ limit_of job.mode to n x
    limit_kept limit.Size other xs i e =
        ap (λ o. unwrap_or o (pos 0)) (set_elsewhere xs climb.walk.place climb.walk.size i (λ q. other (sym q))) ∙ e
    limit_kept limit.Length other xs i e = refl
    limit_kept (limit.Number k) other xs i e = refl

    put_so : (i : ℤ) (ys : List Literal) (s : Store) → ReadyIn p n s → climbs_from i most ≤ climbs_from p most - 1
        → s.literals ≡ literal.Function (callee.GlobalInteger climb.walk.place) ∷ literal.Integer i ∷ ys
        → AnswerSo RaisedIn (step_of job (Run (callee.BuiltIn built_in.Assign)) s)
    put_so i ys s r l top =
        so_by RaisedIn _ _ (assign_step job climb.walk.place i ys s top) (
          i,
          (
            value_of (slice_set s.integers climb.walk.place i) climb.walk.size,
            (
              (
                r.0,
                (
                  set_there s.integers climb.walk.place i (let k = r.1.1.1.0 in omega (arith, k)),
                  (
                    refl,
                    (
                      subst (λ k. suc climb.walk.place ≤ k) (sym (length-slice_set s.integers climb.walk.place i)) r.1.1.1.0,
                      subst (λ k. suc climb.walk.size ≤ k) (sym (length-slice_set s.integers climb.walk.place i)) r.1.1.1.1,
                    ),
                  ),
                ),
              ),
              (limit_kept climb.limit apart s.integers i r.1.1.0, l),
            ),
          ),
        )

    abbrev Raised : State → Type 0
    Raised t = RaisedIn t.store

    up_done : (d bodies loops left : ℕ) (s : State) → Ready p n s
        → IfDone Raised (in_turn (act job d) (move_by climb.walk.place (token.Integer (pos 1))) bodies loops left s)
    up_done d bodies loops left s r =
        if_then (LeavesIn (literal.Integer (value_in climb.walk.place s) ∷ s.store.literals) s.store) Raised _ _
        (pushed_to job d (Run (callee.GlobalInteger climb.walk.place)) (literal.Integer (value_in climb.walk.place s)) s.store.literals bodies loops left s (variable_step job climb.walk.place s.store))
        (λ less1 t1 q1.
        let r1 = ready_same p n s t1 q1.1 r in
        if_then (LeavesIn (literal.Integer (pos 1) ∷ t1.store.literals) t1.store) Raised _ _
        (pushed_to job d (token.Integer (pos 1)) (literal.Integer (pos 1)) t1.store.literals bodies loops less1 t1 (integer_step job (pos 1) t1.store))
        (λ less2 t2 q2.
        let r2 = ready_same p n t1 t2 q2.1 r1 in
        if_then (λ t. Sooner s.store.literals t2.store t.store) Raised _ _
        (one_to job d (Run (callee.BuiltIn built_in.Plus)) (Sooner s.store.literals t2.store) bodies loops less2 t2
        (so_by (Sooner s.store.literals t2.store) _ _
        (plus_step job (pos 1) p s.store.literals t2.store
        (q2.0 ∙ ap (on (literal.Integer (pos 1))) (q1.0 ∙ ap (λ (i : ℤ). literal.Integer i ∷ s.store.literals) r.1.0)))
        (sum_so s.store.literals t2.store)))
        (λ less3 t3 q3.
        let r3 = ready_same p n t2 t3 q3.1.1.1 r2 in
        if_then (LeavesIn (literal.Function (callee.GlobalInteger climb.walk.place) ∷ t3.store.literals) t3.store) Raised _ _
        (pushed_to job d (Quote (callee.GlobalInteger climb.walk.place)) (literal.Function (callee.GlobalInteger climb.walk.place)) t3.store.literals bodies loops less3 t3
        (quote_step job (callee.GlobalInteger climb.walk.place) t3.store))
        (λ less4 t4 q4.
        if_then Raised Raised _ _
        (one_to job d (Run (callee.BuiltIn built_in.Assign)) RaisedIn bodies loops less4 t4
        (put_so q3.0 s.store.literals t4.store (ready_same p n t3 t4 q4.1 r3) q3.1.0
        (q4.0 ∙ ap (on (literal.Function (callee.GlobalInteger climb.walk.place))) q3.1.1.0)))
        (λ less5 t5 q5. q5)))))

    -- fewer turns are left
    abbrev pub Less : State → Type 0
    Less t = climbs_in job.mode climb t ≤ climbs_from p most - 1

    less_by : (t : State) (i j : ℤ) → Ready i j t → limit_of job.mode climb.limit j x ≡ most → climbs_from i most ≤ climbs_from p most - 1 → Less t
    less_by t i j r e l =
        subst (λ (text : List ℕ). climbs_from (value_in climb.walk.place t) (limit_of job.mode climb.limit (value_in climb.walk.size t) text) ≤ climbs_from p most - 1) (sym r.0)
        (subst (λ (k : ℤ). climbs_from (value_in climb.walk.place t) (limit_of job.mode climb.limit k x) ≤ climbs_from p most - 1) (sym r.1.1.0)
        (subst (λ (k : ℤ). climbs_from k (limit_of job.mode climb.limit j x) ≤ climbs_from p most - 1) (sym r.1.0)
        (subst (λ (k : ℤ). climbs_from i k ≤ climbs_from p most - 1) (sym e) l)))

    -- a call of a function that raises the place
    pub raises_done : (d number : ℕ) → Raises job.style climb kinds places sizes (body_of job.style number) → (bodies loops left : ℕ) (s : State) → Ready p n s
        → IfDone Less (act job d (Run (callee.User number)) bodies loops left s)
    raises_done d number w bodies loops left s r =
        call_to job d number (others ++ (up ++ rest)) Less bodies loops left s w.1.1.0
        (λ e less u q. subst (λ (o : Outcome). IfDone Less o) (sym (in_turn_both (act job e) others (up ++ rest) (bodies + 1) loops less u))
        (if_then (Ready p n) Less (in_turn (act job e) others (bodies + 1) loops less u) (in_turn (act job e) (up ++ rest) (bodies + 1) loops)
        (stays p n e others w.1.1.1.0 (bodies + 1) loops less u (ready_same p n s u q.1 r))
        (λ less1 t1 r1. subst (λ (o : Outcome). IfDone Less o) (sym (in_turn_both (act job e) up rest (bodies + 1) loops less1 t1))
        (if_then Raised Less (in_turn (act job e) up (bodies + 1) loops less1 t1) (in_turn (act job e) rest (bodies + 1) loops)
        (up_done e (bodies + 1) loops less1 t1 r1)
        (λ less2 t2 q2. if_weaker (Ready q2.0 q2.1.0) Less (in_turn (act job e) rest (bodies + 1) loops less2 t2)
        (stays q2.0 q2.1.0 e rest w.1.1.1.1 (bodies + 1) loops less2 t2 q2.1.1.0)
        (λ t3 r3. less_by t3 q2.0 q2.1.0 r3 q2.1.1.1.0 q2.1.1.1.1))))))
      where
        others : List Token
        others = w.0

        rest : List Token
        rest = w.1.0

        up : List Token
        up = move_by climb.walk.place (token.Integer (pos 1))
