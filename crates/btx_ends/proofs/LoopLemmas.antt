-- Loops of each kind end within what a certificate claims of them, and keep what is claimed of variables.
use Rattle.std.proofs.Common.{◌≡◌, ℕ, zero, suc, ◌+◌, ◌-◌, ◌*◌, ◌^◌, ◌≤◌, ◌<◌, ◌⊎◌, ℤ, pos, Bool, true, false, List, [], length}
use Rattle.std.proofs.Common.{refl, arith, sym, ap, subst, ◌∙◌, inl, inr}
use Rattle.std.specs.Prelude.{slice_get, slice_index_or, unwrap_or, int_lt}
use Rattle.btx_bst.specs.declared.callee.Callee.TheVariants as callee
use Rattle.btx_bst.specs.declared.token.Token.TheVariants.{Run}
use Rattle.btx_stack.specs.declared.literal.Literal.{Literal}
use Rattle.btx_step.specs.language.Jobs.{Job}
use Rattle.btx_step.specs.language.Stores.{Store}
use Rattle.btx_machine.specs.language.States.{State}
use Rattle.btx_machine.specs.language.Steps.{turn_of}
use Rattle.btx_machine.specs.language.MeaningBySteps.{turns_if, act}
use Rattle.btx_ends.specs.Costs.{Ended, EndsIn}
use Rattle.btx_ends.specs.Counters.{value_in, above_zero}
use Rattle.btx_ends.specs.Certificates.{Claims, CalleeWithin, CountedWithin, ShortenedWithin, WalkedWithin, ClimbedWithin, LoweredWithin, TurnsWithin}
use Rattle.btx_ends.specs.declared.measures.Measure.{Measure}
use Rattle.btx_ends.specs.declared.measures.Effect.{Effect}
use Rattle.btx_ends.specs.declared.measures.Effect.TheVariants as effect
use Rattle.btx_ends.specs.declared.measures.Kind.{Kind}
use Rattle.btx_ends.specs.Shortening.{text_in, flag_in, left_in, Tells, KindsHold, EffectsHold}
use Rattle.btx_ends.specs.declared.measures.Walk.{Walk}
use Rattle.btx_ends.specs.Walking.{turns_from, turns_in, TellsPart}
use Rattle.btx_ends.specs.Certificates.{PartHolds, MoveHolds, MovesBy, WalksHold}
use Rattle.btx_ends.specs.declared.measures.Climb.{Climb}
use Rattle.btx_ends.specs.Climbing.{TellsBelow, climbs_from, limit_in, climbs_in}
use Rattle.btx_ends.specs.Certificates.{LimitWithin, LimitHolds, RaiseHolds, RaisesBy, ClimbsHold}
use Rattle.btx_ends.specs.Certificates.{AskHolds, LowerHolds, DescendingHolds}
use Rattle.btx_ends.specs.Descending.{only_same, Asks, Lowers}
use Rattle.btx_ends.specs.Certificates.{EndHolds, ShortenHolds, TextsHold, TestsHold, CountsHold, TestHolds, CountHolds}
use Rattle.btx_ends.proofs.EndLemmas.{at_most, loops_end_in}
use Rattle.btx_ends.proofs.CounterLemmas.{SameVariables, Tested, in_store, weaker, test_ends, turn_again, turn_same, above}
use Rattle.btx_ends.proofs.LowerLemmas.{both_ended, call_lowers, AtMost}
use Rattle.btx_ends.proofs.ShorterLemmas.{flag_same, text_same, left_same, shortens_done}
use Rattle.btx_ends.proofs.TellLemmas.{Told, tells_to, left_few}
use Rattle.btx_ends.proofs.DescendingLemmas.{Asked, IsSmall, Lessened, least, turns_on, turns_few_on, small_few, least_less, seen_on, small_done, lowers_done, asks_done}
use Rattle.btx_ends.proofs.HeldLemmas.{On}
use Rattle.btx_ends.proofs.WalkLemmas.{PartTold, part_to, part_turns, part_long, walk_few, same_part, moves_done}
use Rattle.btx_ends.proofs.ClimbLemmas.{BelowTold, tells_below_to, is_below, below_same, same_limit, same_place, climbs_few, climbs_some, limit_low, limit_apart, raises_done}
use Rattle.btx_strings.specs.language.Positions.{substring_of}
use Rattle.btx_ends.proofs.FineLemmas.{Fine, FineIn, fine_same}
use Rattle.btx_ends.specs.declared.measures.Replacement.{Replacement}
use Rattle.btx_ends.specs.Certificates.{FilledHolds, ReplaceHolds, ReplacesBy, ReplacedWithin, ReplacingHolds}
use Rattle.btx_ends.specs.Replacing.{TellsTop}
use Rattle.btx_ends.proofs.LevelLemmas.{Level, call_within}
use Rattle.btx_ends.proofs.ReplacingLemmas.{Given, Filled, tells_top_done, given_done, replaces_done, texts_on, texts_few, given_few, given_less, SeenText, seen_text}

-- what isn't 0
some_more : (n : ℕ) → 0 < n → (m : ℕ) × (n ≡ suc m)
some_more zero h = absurd (omega (arith, h))
some_more (suc m) h = (m, refl)

turns_some : (m c : ℕ) → 0 < c → suc m ≤ suc m * c
turns_some zero c l = omega (arith, l)
turns_some (suc m) c l = let h = turns_some m c l in omega (arith, h, l)

turn_few : (m c : ℕ) → c ≤ suc m * c
turn_few m c = omega arith

-- a turn takes a step at least
turns_few : (m c : ℕ) → suc m ≤ suc m * (4 + c)
turns_few zero c = omega arith
turns_few (suc m) c = let h = turns_few m c in omega (arith, h)

-- after the test of a loop that counts, where the measure was this
record Between (claims : Claims) (v k : ℕ) (t : State) : Type 0 where
  before : Store
  fine : FineIn claims before
  tested : Tested v before t
  is : above_zero (in_store v before) ≡ k

-- after the test of a loop that makes a text shorter, where k was left before it
record LeftBefore (job : Job) (claims : Claims) (m : Measure) (k : ℕ) (t : State) : Type 0 where
  turned : Fine claims (turn_of job t).state
  is : left_in m (turn_of job t).state ≡ k
  goes_on : (turn_of job t).again ≡ true → 0 < k

-- after the test of a loop that walks along a text, where k turns were left before it
record WalkBefore (job : Job) (claims : Claims) (walk : Walk) (k : ℕ) (t : State) : Type 0 where
  turned : Fine claims (turn_of job t).state
  is : turns_in walk (turn_of job t).state ≡ k
  goes_on : (turn_of job t).again ≡ true
      → 0 < length (substring_of (text_in walk.text (turn_of job t).state) (value_in walk.place (turn_of job t).state) (value_in walk.size (turn_of job t).state))

-- after the test of a loop that counts up, where k turns were left before it
record ClimbBefore (job : Job) (claims : Claims) (climb : Climb) (k : ℕ) (t : State) : Type 0 where
  turned : Fine claims (turn_of job t).state
  is : climbs_in job.mode climb (turn_of job t).state ≡ k
  goes_on : (turn_of job t).again ≡ true → is_below job.mode climb (turn_of job t).state ≡ true

-- after the test of a loop that counts an integer down which stands on top of the stack, where j turns were left before it; nothing is known of the stack
-- where these are as many as there can be
record LowerBefore (job : Job) (claims : Claims) (j : ℕ) (t : State) : Type 0 where
  turned : Fine claims (turn_of job t).state
  goes_on : (2 ^ 31 ≤ j) ⊎ ((k : ℕ) × ((least k (2 ^ 31) ≡ j) × (On k only_same (turn_of job t).state.store.literals × ((turn_of job t).again ≡ true → 0 < k))))

-- after the test of a loop over a text on top of the stack, where j turns were left before it; nothing is known of the stack where these are as many as there
-- can be
record ReplaceBefore (job : Job) (claims : Claims) (j : ℕ) (t : State) : Type 0 where
  turned : Fine claims (turn_of job t).state
  goes_on : (suc claims.kept ≤ j) ⊎ ((z : List ℕ) × ((ys : List Literal) × ((least (length z) (suc claims.kept) ≡ j) × Filled job z ys t)))

module _ (job : Job) (claims : Claims)
    (tests_hold : TestsHold claims.tests job.style) (counts_hold : CountsHold claims.counts job.style) (texts_hold : TextsHold claims job.style)
    (walks_hold : WalksHold claims job.style) (climbs_hold : ClimbsHold claims job.style) (descending_holds : DescendingHolds claims job.style)
    (replacing_holds : ReplacingHolds claims job.style) where
  -- ---- loops

  turned_fine : (before : Store) (t : State) → SameVariables before t → FineIn claims before → Fine claims (turn_of job t).state
  turned_fine before t same h = fine_same claims t.store (turn_of job t).state (turn_same job t) (fine_same claims before t same h)

  loop_by : (n : ℕ) → Level job claims n → (test body v most cost bound : ℕ) → slice_index_or claims.tests test 0 ≡ suc v → slice_index_or claims.counts body 0 ≡ suc v
      → slice_index_or claims.bounds v 0 ≡ suc most → CalleeWithin claims cost (callee.User body) → suc most * (4 + cost) ≤ bound → bound < n
      → (yes : Bool) (bodies loops left : ℕ) (s : State) → Fine claims s → bound ≤ left
      → Ended bound (Fine claims) left (turns_if job yes n (act job n (Run (callee.User test))) (act job n (Run (callee.User body))) bodies loops left s)
  loop_by n p test body v most cost bound et ec eb w le lt false bodies loops left s h l = omega arith
  loop_by n p test body v most cost bound et ec eb w le lt true bodies loops left s h l =
      at_most (suc most * (4 + cost)) bound left (Fine claims) _ le
      (loops_end_in job (act job n (Run (callee.User test))) (act job n (Run (callee.User body))) (Fine claims) (Fine claims) (Between claims v)
      (λ t. above_zero (value_in v t)) 4 cost tests again (λ k t b no. turned_fine b.before t b.tested.same b.fine)
      most n bodies (loops + 1) left s h (h.0 v most eb) few (omega (arith, le, l)))
    where
      few : most < n
      few = let q = turns_few most cost in omega (arith, q, le, lt)

      is_test : TestHolds (suc v) (slice_index_or job.style.bodies test [])
      is_test = subst (λ c. TestHolds c (slice_index_or job.style.bodies test [])) et (tests_hold test)

      counted : CountHolds job.style (suc v) (slice_index_or job.style.bodies body [])
      counted = subst (λ c. CountHolds job.style c (slice_index_or job.style.bodies body [])) ec (counts_hold body)

      tests : (k : ℕ) → EndsIn 4 (λ t. Fine claims t × (above_zero (value_in v t) ≡ k)) (act job n (Run (callee.User test))) (Between claims v k)
      tests k bodies loops left t g e =
          weaker 4 left (Tested v t.store) (Between claims v k) _ (λ u q. record { before = t.store; fine = g.0; tested = q; is = g.1 })
          (test_ends job test v n is_test (omega (arith, le, lt)) bodies loops left t e)

      again : (k : ℕ) (t : State) → Between claims v k t → (turn_of job t).again ≡ true
          → EndsIn cost (λ u. u ≡ (turn_of job t).state) (act job n (Run (callee.User body))) (λ u. Fine claims u × (above_zero (value_in v u) < k))
      again k t b goes bodies loops left u eu e =
          let more = above (in_store v b.before) (sym (turn_again job (int_lt (pos 0) (in_store v b.before)) b.tested.below t b.tested.top) ∙ goes) in
          let same = turn_same job t in
          let fine : Fine claims u = subst (Fine claims) (sym eu) (turned_fine b.before t b.tested.same b.fine) in
          let here : value_in v u ≡ pos (suc more.0) =
          ap (value_in v) eu ∙ ap (λ (xs : List ℤ). unwrap_or (slice_get xs v) (pos 0)) (same.0 ∙ b.tested.same.0) ∙ more.1 in
          let size : suc more.0 ≡ k = sym (ap above_zero more.1) ∙ b.is in
          weaker cost left (λ q. Fine claims q × AtMost v more.0 q) (λ q. Fine claims q × (above_zero (value_in v q) < k)) _
          (λ q g. (g.0, (let a = g.1 in omega (arith, size, a))))
          (both_ended cost left (Fine claims) (AtMost v more.0) _
          (call_within job claims n p (callee.User body) cost w (omega (arith, le, lt)) bodies loops left u fine e)
          (call_lowers job counted.0 body v more.0 counted.1.0 counted.1.1 n bodies loops left u (let a = ap above_zero here in omega (arith, a))))

  loop_within : (n : ℕ) → Level job claims n → (test body cost : ℕ) → CountedWithin claims (suc cost) body test → cost < n → (yes : Bool) (bodies loops left : ℕ) (s : State)
      → Fine claims s → cost ≤ left
      → Ended cost (Fine claims) left (turns_if job yes n (act job n (Run (callee.User test))) (act job n (Run (callee.User body))) bodies loops left s)
  loop_within n p test body cost w lt more bodies loops left s h l =
      let v = some_more (slice_index_or claims.tests test 0) w.0 in
      let at : slice_index_or claims.tests test 0 - 1 ≡ v.0 = (let e = v.1 in omega (arith, e)) in
      let m = some_more (slice_index_or claims.bounds (slice_index_or claims.tests test 0 - 1) 0) w.1.1.0 in
      let eb : slice_index_or claims.bounds v.0 0 ≡ suc m.0 = ap (λ i. slice_index_or claims.bounds i 0) (sym at) ∙ m.1 in
      let le : suc m.0 * (4 + slice_index_or claims.costs body 0) ≤ cost =
      subst (λ k. k * (4 + slice_index_or claims.costs body 0) ≤ cost) m.1 (let q = w.1.1.1.1 in omega (arith, q)) in
      loop_by n p test body v.0 m.0 (slice_index_or claims.costs body 0) cost v.1 (w.1.0 ∙ v.1) eb (w.1.1.1.0, omega arith) le lt more bodies loops left s h l

  -- ---- loops that make a text shorter

  shortened_by : (n : ℕ) → Level job claims n → (test body : ℕ) (m : Measure) (kinds : ℕ → Kind) (effects : ℕ → Effect) → KindsHold job.style kinds
      → EffectsHold job.style m kinds effects → effects body ≡ effect.Shortens → Tells job.style m.text m.flag (slice_index_or job.style.bodies test [])
      → m.flag ≤ claims.integers → (of_test of_body cost : ℕ) → CalleeWithin claims of_test (callee.User test) → CalleeWithin claims of_body (callee.User body)
      → 0 < of_test → suc claims.kept * (of_test + of_body) ≤ cost → cost < n → (yes : Bool) (bodies loops left : ℕ) (s : State) → Fine claims s → cost ≤ left
      → Ended cost (Fine claims) left (turns_if job yes n (act job n (Run (callee.User test))) (act job n (Run (callee.User body))) bodies loops left s)
  shortened_by n p test body m kinds effects kh eh es tell flagged ct cb cost wt wb some le lt false bodies loops left s h l = omega arith
  shortened_by n p test body m kinds effects kh eh es tell flagged ct cb cost wt wb some le lt true bodies loops left s h l =
      at_most (suc claims.kept * (ct + cb)) cost left (Fine claims) _ le
      (loops_end_in job (act job n (Run (callee.User test))) (act job n (Run (callee.User body))) (Fine claims) (Fine claims) After (left_in m) ct cb tests again
      (λ k t b no. b.turned) claims.kept n bodies (loops + 1) left s h few_left few (omega (arith, le, l)))
    where
      After : ℕ → State → Type 0
      After k t = LeftBefore job claims m k t

      few : claims.kept < n
      few = let q = turns_some claims.kept (ct + cb) (omega (arith, some)) in omega (arith, q, le, lt)

      few_left : left_in m s ≤ claims.kept
      few_left = let a = left_few (flag_in m.flag s) (text_in m.text s) in let b = h.1.0 m.text in omega (arith, a, b)

      cheap : (ct ≤ cost) × (cb ≤ cost)
      cheap = let q = turn_few claims.kept (ct + cb) in (omega (arith, q, le), omega (arith, q, le))

      tests : (k : ℕ) → EndsIn ct (λ t. Fine claims t × (left_in m t ≡ k)) (act job n (Run (callee.User test))) (After k)
      tests k bodies loops left t g e =
          weaker ct left (λ u. Fine claims u × Told job m.text m.flag t u) (After k) _
          (λ u q.
          let same : SameVariables t.store (turn_of job u).state = ((turn_same job u).0 ∙ q.1.0.0, (turn_same job u).1 ∙ q.1.0.1) in
          record {
            turned = fine_same claims u.store (turn_of job u).state (turn_same job u) q.0;
            is = left_same m t (turn_of job u).state (flag_same m.flag t (turn_of job u).state same.0) (text_same m.text t (turn_of job u).state same.1) ∙ g.1;
            goes_on = λ yes. subst (λ j. 0 < j) g.1 (q.1.1 yes);
          })
          (both_ended ct left (Fine claims) (Told job m.text m.flag t) (act job n (Run (callee.User test)) bodies loops left t)
          (call_within job claims n p (callee.User test) ct wt (omega (arith, cheap.0, lt)) bodies loops left t g.0 e)
          (tells_to job n test m.text m.flag tell bodies loops left t))

      again : (k : ℕ) (t : State) → After k t → (turn_of job t).again ≡ true
          → EndsIn cb (λ u. u ≡ (turn_of job t).state) (act job n (Run (callee.User body))) (λ u. Fine claims u × (left_in m u < k))
      again k t b goes bodies loops left u eu e =
          let fine : Fine claims u = subst (Fine claims) (sym eu) b.turned in
          let size : left_in m u ≡ k = ap (left_in m) eu ∙ b.is in
          weaker cb left (λ q. Fine claims q × (left_in m q ≤ left_in m u - 1)) (λ q. Fine claims q × (left_in m q < k)) _
          (λ q g. (g.0, (let a = g.1 in let z = b.goes_on goes in omega (arith, size, a, z))))
          (both_ended cb left (Fine claims) (λ q. left_in m q ≤ left_in m u - 1) (act job n (Run (callee.User body)) bodies loops left u)
          (call_within job claims n p (callee.User body) cb wb (omega (arith, cheap.1, lt)) bodies loops left u fine e)
          (shortens_done job m kinds effects kh eh n body es bodies loops left u (let a = fine.1.1 in omega (arith, a, flagged))))

  shortened_within : (n : ℕ) → Level job claims n → (test body cost : ℕ) → ShortenedWithin claims (suc cost) body test → cost < n → (yes : Bool) (bodies loops left : ℕ) (s : State)
      → Fine claims s → cost ≤ left
      → Ended cost (Fine claims) left (turns_if job yes n (act job n (Run (callee.User test))) (act job n (Run (callee.User body))) bodies loops left s)
  shortened_within n p test body cost w lt more bodies loops left s h l =
      let measures = texts_hold.0 in
      let k = some_more (slice_index_or claims.ends test 0) w.0 in
      let ends : EndHolds job.style measures (suc k.0) test = subst (λ c. EndHolds job.style measures c test) k.1 (texts_hold.1.0 test) in
      let short : ShortenHolds job.style measures (suc k.0) body =
      subst (λ c. ShortenHolds job.style measures c body) (w.1.0 ∙ k.1) (texts_hold.1.1.0 body) in
      let le : suc claims.kept * (slice_index_or claims.costs test 0 + slice_index_or claims.costs body 0) ≤ cost =
      (let q = w.1.1.1.1 in let r : claims.kept + 1 ≡ suc claims.kept = omega arith in
      subst (λ j. j * (slice_index_or claims.costs test 0 + slice_index_or claims.costs body 0) ≤ cost) r (omega (arith, q))) in
      shortened_by n p test body (measures k.0) short.0 short.1.0 short.1.1.0 short.1.1.1.0 short.1.1.1.1 ends (texts_hold.1.1.1.0 k.0)
      (slice_index_or claims.costs test 0) (slice_index_or claims.costs body 0) cost (w.1.1.0, omega arith) (w.1.1.1.0, omega arith) w.1.1.0 le lt
      more bodies loops left s h l

  -- ---- loops that walk along a text

  walked_by : (n : ℕ) → Level job claims n → (test body : ℕ) (walk : Walk) (kinds : ℕ → Kind) (places sizes : ℕ → Effect) (moves : ℕ → Bool)
      → MovesBy job.style walk kinds places sizes moves body → TellsPart job.style walk (slice_index_or job.style.bodies test [])
      → walk.place < claims.integers → walk.size < claims.integers → (of_test of_body cost : ℕ) → CalleeWithin claims of_test (callee.User test)
      → CalleeWithin claims of_body (callee.User body) → 0 < of_test → suc (2 * claims.kept) * (of_test + of_body) ≤ cost → cost < n → (yes : Bool)
      (bodies loops left : ℕ) (s : State) → Fine claims s → cost ≤ left
      → Ended cost (Fine claims) left (turns_if job yes n (act job n (Run (callee.User test))) (act job n (Run (callee.User body))) bodies loops left s)
  walked_by n p test body walk kinds places sizes moves by tell place_there size_there ct cb cost wt wb some le lt false bodies loops left s h l = omega arith
  walked_by n p test body walk kinds places sizes moves by tell place_there size_there ct cb cost wt wb some le lt true bodies loops left s h l =
      at_most (suc (2 * claims.kept) * (ct + cb)) cost left (Fine claims) _ le
      (loops_end_in job (act job n (Run (callee.User test))) (act job n (Run (callee.User body))) (Fine claims) (Fine claims) After (turns_in walk) ct cb tests again
      (λ k t b no. b.turned) (2 * claims.kept) n bodies (loops + 1) left s h few_left few (omega (arith, le, l)))
    where
      After : ℕ → State → Type 0
      After k t = WalkBefore job claims walk k t

      few : 2 * claims.kept < n
      few = let q = turns_some (2 * claims.kept) (ct + cb) (omega (arith, some)) in omega (arith, q, le, lt)

      few_left : turns_in walk s ≤ 2 * claims.kept
      few_left = let a = walk_few (value_in walk.place s) (length (text_in walk.text s)) in let b = h.1.0 walk.text in omega (arith, a, b)

      cheap : (ct ≤ cost) × (cb ≤ cost)
      cheap = let q = turn_few (2 * claims.kept) (ct + cb) in (omega (arith, q, le), omega (arith, q, le))

      turns_same : (r q : Store) → q.integers ≡ r.integers → q.strings ≡ r.strings
          → turns_from (unwrap_or (slice_get q.integers walk.place) (pos 0)) (length (unwrap_or (slice_get q.strings walk.text) []))
          ≡ turns_from (unwrap_or (slice_get r.integers walk.place) (pos 0)) (length (unwrap_or (slice_get r.strings walk.text) []))
      turns_same r q e k =
          ap (λ (xs : List ℤ). turns_from (unwrap_or (slice_get xs walk.place) (pos 0)) (length (unwrap_or (slice_get q.strings walk.text) []))) e
          ∙ ap (λ (ts : List (List ℕ)). turns_from (unwrap_or (slice_get r.integers walk.place) (pos 0)) (length (unwrap_or (slice_get ts walk.text) []))) k

      tests : (k : ℕ) → EndsIn ct (λ t. Fine claims t × (turns_in walk t ≡ k)) (act job n (Run (callee.User test))) (After k)
      tests k bodies loops left t g e =
          weaker ct left (λ u. Fine claims u × PartTold job walk t u) (After k) _
          (λ u q.
          let same : SameVariables t.store (turn_of job u).state = ((turn_same job u).0 ∙ q.1.0.0, (turn_same job u).1 ∙ q.1.0.1) in
          record {
            turned = fine_same claims u.store (turn_of job u).state (turn_same job u) q.0;
            is = turns_same t.store (turn_of job u).state.store same.0 same.1 ∙ g.1;
            goes_on = λ yes. subst (λ (z : List ℕ). 0 < length z) (sym (same_part walk t.store (turn_of job u).state.store same.0 same.1)) (q.1.1 yes);
          })
          (both_ended ct left (Fine claims) (PartTold job walk t) (act job n (Run (callee.User test)) bodies loops left t)
          (call_within job claims n p (callee.User test) ct wt (omega (arith, cheap.0, lt)) bodies loops left t g.0 e)
          (part_to job n test walk tell bodies loops left t))

      again : (k : ℕ) (t : State) → After k t → (turn_of job t).again ≡ true
          → EndsIn cb (λ u. u ≡ (turn_of job t).state) (act job n (Run (callee.User body))) (λ u. Fine claims u × (turns_in walk u < k))
      again k t b goes bodies loops left u eu e =
          let fine : Fine claims u = subst (Fine claims) (sym eu) b.turned in
          let size : turns_in walk u ≡ k = ap (turns_in walk) eu ∙ b.is in
          let part : 0 < length (substring_of (text_in walk.text u) (value_in walk.place u) (value_in walk.size u)) =
          subst (λ (v : State). 0 < length (substring_of (text_in walk.text v) (value_in walk.place v) (value_in walk.size v))) (sym eu) (b.goes_on goes) in
          let some_turns = part_turns (text_in walk.text u) (value_in walk.place u) (value_in walk.size u) part in
          let long = part_long (text_in walk.text u) (value_in walk.place u) (value_in walk.size u) part in
          weaker cb left (λ q. Fine claims q × (turns_in walk q ≤ turns_in walk u - 1)) (λ q. Fine claims q × (turns_in walk q < k)) _
          (λ q g. (g.0, (let a = g.1 in omega (arith, size, a, some_turns))))
          (both_ended cb left (Fine claims) (λ q. turns_in walk q ≤ turns_in walk u - 1) (act job n (Run (callee.User body)) bodies loops left u)
          (call_within job claims n p (callee.User body) cb wb (omega (arith, cheap.1, lt)) bodies loops left u fine e)
          (moves_done job walk kinds places sizes moves by.0 by.1.0.0 by.1.0.1 by.1.1.0 (text_in walk.text u) (value_in walk.place u) (value_in walk.size u) some_turns long
          n body by.1.1.1 bodies loops left u
          (refl, (refl, (refl, ((let a = fine.1.1 in omega (arith, a, place_there)), (let a = fine.1.1 in omega (arith, a, size_there))))))))

  walked_within : (n : ℕ) → Level job claims n → (test body cost : ℕ) → WalkedWithin claims (suc cost) body test → cost < n → (yes : Bool) (bodies loops left : ℕ) (s : State)
      → Fine claims s → cost ≤ left
      → Ended cost (Fine claims) left (turns_if job yes n (act job n (Run (callee.User test))) (act job n (Run (callee.User body))) bodies loops left s)
  walked_within n p test body cost w lt more bodies loops left s h l =
      let walks = walks_hold.0 in
      let k = some_more (slice_index_or claims.parts test 0) w.0 in
      let part : PartHolds job.style walks claims.integers (suc k.0) test =
      subst (λ c. PartHolds job.style walks claims.integers c test) k.1 (walks_hold.1.0 test) in
      let move : MoveHolds job.style walks (suc k.0) body = subst (λ c. MoveHolds job.style walks c body) (w.1.0 ∙ k.1) (walks_hold.1.1 body) in
      let le : suc (2 * claims.kept) * (slice_index_or claims.costs test 0 + slice_index_or claims.costs body 0) ≤ cost =
      (let q = w.1.1.1.1 in let r : 2 * claims.kept + 1 ≡ suc (2 * claims.kept) = omega arith in
      subst (λ j. j * (slice_index_or claims.costs test 0 + slice_index_or claims.costs body 0) ≤ cost) r (omega (arith, q))) in
      walked_by n p test body (walks k.0) move.0 move.1.0 move.1.1.0 move.1.1.1.0 move.1.1.1.1 part.0 part.1.0 part.1.1
      (slice_index_or claims.costs test 0) (slice_index_or claims.costs body 0) cost (w.1.1.0, omega arith) (w.1.1.1.0, omega arith) w.1.1.0 le lt
      more bodies loops left s h l

  -- ---- loops that count up

  climbed_by : (n : ℕ) → Level job claims n → (test body : ℕ) (climb : Climb) (kinds : ℕ → Kind) (places sizes : ℕ → Effect)
      → RaisesBy job.style climb kinds places sizes body → TellsBelow job.style climb (slice_index_or job.style.bodies test [])
      → climb.walk.place < claims.integers → climb.walk.size < claims.integers → LimitWithin claims climb.walk climb.limit → (of_test of_body cost : ℕ)
      → CalleeWithin claims of_test (callee.User test) → CalleeWithin claims of_body (callee.User body) → 0 < of_test
      → suc (2 ^ 32) * (of_test + of_body) ≤ cost → cost < n → (yes : Bool) (bodies loops left : ℕ) (s : State) → Fine claims s → cost ≤ left
      → Ended cost (Fine claims) left (turns_if job yes n (act job n (Run (callee.User test))) (act job n (Run (callee.User body))) bodies loops left s)
  climbed_by n p test body climb kinds places sizes by tell place_there size_there within ct cb cost wt wb some le lt false bodies loops left s h l = omega arith
  climbed_by n p test body climb kinds places sizes by tell place_there size_there within ct cb cost wt wb some le lt true bodies loops left s h l =
      at_most (suc (2 ^ 32) * (ct + cb)) cost left (Fine claims) _ le
      (loops_end_in job (act job n (Run (callee.User test))) (act job n (Run (callee.User body))) (Fine claims) (Fine claims) After (climbs_in job.mode climb) ct cb tests
      again (λ k t b no. b.turned) (2 ^ 32) n bodies (loops + 1) left s h few_left few (omega (arith, le, l)))
    where
      After : ℕ → State → Type 0
      After k t = ClimbBefore job claims climb k t

      few : 2 ^ 32 < n
      few = let q = turns_some (2 ^ 32) (ct + cb) (omega (arith, some)) in omega (arith, q, le, lt)

      few_left : climbs_in job.mode climb s ≤ 2 ^ 32
      few_left = climbs_few (value_in climb.walk.place s) (limit_in job.mode climb s) (limit_low claims job.mode climb.walk climb.limit s within h)

      cheap : (ct ≤ cost) × (cb ≤ cost)
      cheap = let q = turn_few (2 ^ 32) (ct + cb) in (omega (arith, q, le), omega (arith, q, le))

      climbs_same : (t u : State) → SameVariables t.store u → climbs_in job.mode climb u ≡ climbs_in job.mode climb t
      climbs_same t u same =
          ap (λ (i : ℤ). climbs_from i (limit_in job.mode climb u)) (same_place climb.walk.place t u same.0)
          ∙ ap (λ (i : ℤ). climbs_from (value_in climb.walk.place t) i) (same_limit job.mode climb t u same.0 same.1)

      tests : (k : ℕ) → EndsIn ct (λ t. Fine claims t × (climbs_in job.mode climb t ≡ k)) (act job n (Run (callee.User test))) (After k)
      tests k bodies loops left t g e =
          weaker ct left (λ u. Fine claims u × BelowTold job climb t u) (After k) _
          (λ u q.
          let same : SameVariables t.store (turn_of job u).state = ((turn_same job u).0 ∙ q.1.0.0, (turn_same job u).1 ∙ q.1.0.1) in
          record {
            turned = fine_same claims u.store (turn_of job u).state (turn_same job u) q.0;
            is = climbs_same t (turn_of job u).state same ∙ g.1;
            goes_on = λ yes. below_same job.mode climb t (turn_of job u).state same.0 same.1 ∙ q.1.1 yes;
          })
          (both_ended ct left (Fine claims) (BelowTold job climb t) (act job n (Run (callee.User test)) bodies loops left t)
          (call_within job claims n p (callee.User test) ct wt (omega (arith, cheap.0, lt)) bodies loops left t g.0 e)
          (tells_below_to job n test climb tell bodies loops left t))

      again : (k : ℕ) (t : State) → After k t → (turn_of job t).again ≡ true
          → EndsIn cb (λ u. u ≡ (turn_of job t).state) (act job n (Run (callee.User body))) (λ u. Fine claims u × (climbs_in job.mode climb u < k))
      again k t b goes bodies loops left u eu e =
          let fine : Fine claims u = subst (Fine claims) (sym eu) b.turned in
          let size : climbs_in job.mode climb u ≡ k = ap (climbs_in job.mode climb) eu ∙ b.is in
          let below : is_below job.mode climb u ≡ true = ap (is_below job.mode climb) eu ∙ b.goes_on goes in
          let some_turns = climbs_some (value_in climb.walk.place u) (limit_in job.mode climb u) below in
          weaker cb left (λ q. Fine claims q × (climbs_in job.mode climb q ≤ climbs_in job.mode climb u - 1)) (λ q. Fine claims q × (climbs_in job.mode climb q < k)) _
          (λ q g. (g.0, (let a = g.1 in omega (arith, size, a, some_turns))))
          (both_ended cb left (Fine claims) (λ q. climbs_in job.mode climb q ≤ climbs_in job.mode climb u - 1) (act job n (Run (callee.User body)) bodies loops left u)
          (call_within job claims n p (callee.User body) cb wb (omega (arith, cheap.1, lt)) bodies loops left u fine e)
          (raises_done job climb kinds places sizes by.0 by.1.0.0 by.1.0.1 (limit_apart claims climb.walk climb.limit within) (text_in climb.walk.text u)
          (value_in climb.walk.place u) (value_in climb.walk.size u) (limit_low claims job.mode climb.walk climb.limit u within fine) below n body by.1.1 bodies loops left u
          (refl, (refl, (refl, ((let a = fine.1.1 in omega (arith, a, place_there)), (let a = fine.1.1 in omega (arith, a, size_there))))))))

  climbed_within : (n : ℕ) → Level job claims n → (test body cost : ℕ) → ClimbedWithin claims (suc cost) body test → cost < n → (yes : Bool) (bodies loops left : ℕ) (s : State)
      → Fine claims s → cost ≤ left
      → Ended cost (Fine claims) left (turns_if job yes n (act job n (Run (callee.User test))) (act job n (Run (callee.User body))) bodies loops left s)
  climbed_within n p test body cost w lt more bodies loops left s h l =
      let climbs = climbs_hold.0 in
      let k = some_more (slice_index_or claims.limits test 0) w.0 in
      let part : LimitHolds claims job.style climbs (suc k.0) test =
      subst (λ c. LimitHolds claims job.style climbs c test) k.1 (climbs_hold.1.0 test) in
      let raise : RaiseHolds job.style climbs (suc k.0) body = subst (λ c. RaiseHolds job.style climbs c body) (w.1.0 ∙ k.1) (climbs_hold.1.1 body) in
      let le : suc (2 ^ 32) * (slice_index_or claims.costs test 0 + slice_index_or claims.costs body 0) ≤ cost =
      (let q = w.1.1.1.1 in let r : 2 ^ 32 + 1 ≡ suc (2 ^ 32) = omega arith in
      subst (λ j. j * (slice_index_or claims.costs test 0 + slice_index_or claims.costs body 0) ≤ cost) r (omega (arith, q))) in
      climbed_by n p test body (climbs k.0) raise.0 raise.1.0 raise.1.1.0 raise.1.1.1 part.0 part.1.0 part.1.1.0 part.1.1.1
      (slice_index_or claims.costs test 0) (slice_index_or claims.costs body 0) cost (w.1.1.0, omega arith) (w.1.1.1.0, omega arith) w.1.1.0 le lt
      more bodies loops left s h l

  -- ---- loops that count an integer down which stands on top of the stack

  lowered_by : (n : ℕ) → Level job claims n → (test body many : ℕ) (kinds : ℕ → Kind) → many ≡ 2 ^ 31 → KindsHold job.style kinds
      → Asks kinds (slice_index_or job.style.bodies test []) → Lowers kinds (slice_index_or job.style.bodies body [])
      → (of_test of_body cost : ℕ) → CalleeWithin claims of_test (callee.User test) → CalleeWithin claims of_body (callee.User body)
      → 0 < of_test → suc many * (of_test + of_body) ≤ cost → cost < n → (yes : Bool) (bodies loops left : ℕ) (s : State) → Fine claims s → cost ≤ left
      → Ended cost (Fine claims) left (turns_if job yes n (act job n (Run (callee.User test))) (act job n (Run (callee.User body))) bodies loops left s)
  lowered_by n p test body many kinds is_many kh ask low ct cb cost wt wb some le lt false bodies loops left s h l = omega arith
  lowered_by n p test body many kinds is_many kh ask low ct cb cost wt wb some le lt true bodies loops left s h l =
      at_most (suc many * (ct + cb)) cost left (Fine claims) _ le
      (loops_end_in job (act job n (Run (callee.User test))) (act job n (Run (callee.User body))) (Fine claims) (Fine claims) After
      (λ t. turns_on t.store.literals) ct cb tests again
      (λ j t b no. b.turned) many n bodies (loops + 1) left s h few_left few (omega (arith, le, l)))
    where
      After : ℕ → State → Type 0
      After j t = LowerBefore job claims j t

      few : many < n
      few = let q = turns_some many (ct + cb) (omega (arith, some)) in omega (arith, q, le, lt)

      few_left : turns_on s.store.literals ≤ many
      few_left = subst (λ m. turns_on s.store.literals ≤ m) (sym is_many) (turns_few_on s.store.literals)

      cheap : (ct ≤ cost) × (cb ≤ cost)
      cheap = let q = turn_few many (ct + cb) in (omega (arith, q, le), omega (arith, q, le))

      unknown : (j : ℕ) (t : State) → Fine claims t → 2 ^ 31 ≤ j → (bodies loops left : ℕ) → ct ≤ left
          → Ended ct (After j) left (act job n (Run (callee.User test)) bodies loops left t)
      unknown j t g big bodies loops left e =
          weaker ct left (Fine claims) (After j) _
          (λ u q. record { turned = fine_same claims u.store (turn_of job u).state (turn_same job u) q; goes_on = inl big })
          (call_within job claims n p (callee.User test) ct wt (omega (arith, cheap.0, lt)) bodies loops left t g e)

      known_top : (j k : ℕ) (t : State) → Fine claims t → least k (2 ^ 31) ≡ j → On k only_same t.store.literals → (bodies loops left : ℕ) → ct ≤ left
          → Ended ct (After j) left (act job n (Run (callee.User test)) bodies loops left t)
      known_top j k t g size st bodies loops left e =
          weaker ct left (λ u. Fine claims u × Asked job kinds kh k u) (After j) _
          (λ u q. record { turned = fine_same claims u.store (turn_of job u).state (turn_same job u) q.0; goes_on = inr (k, (size, q.1)) })
          (both_ended ct left (Fine claims) (Asked job kinds kh k) (act job n (Run (callee.User test)) bodies loops left t)
          (call_within job claims n p (callee.User test) ct wt (omega (arith, cheap.0, lt)) bodies loops left t g e)
          (asks_done job kinds kh n test k ask bodies loops left t st))

      tests : (j : ℕ) → EndsIn ct (λ t. Fine claims t × (turns_on t.store.literals ≡ j)) (act job n (Run (callee.User test))) (After j)
      tests j bodies loops left t g e = by (seen_on t.store.literals j g.1)
        where
          by : (2 ^ 31 ≤ j) ⊎ ((k : ℕ) × ((least k (2 ^ 31) ≡ j) × On k only_same t.store.literals))
              → Ended ct (After j) left (act job n (Run (callee.User test)) bodies loops left t)
          by (inl big) = unknown j t g.0 big bodies loops left e
          by (inr w) = known_top j w.0 t g.0 w.1.0 w.1.1 bodies loops left e

      again : (j : ℕ) (t : State) → After j t → (turn_of job t).again ≡ true
          → EndsIn cb (λ u. u ≡ (turn_of job t).state) (act job n (Run (callee.User body))) (λ u. Fine claims u × (turns_on u.store.literals < j))
      again j t b goes bodies loops left u eu e = by b.goes_on
        where
          fine : Fine claims u
          fine = subst (Fine claims) (sym eu) b.turned

          within : Ended cb (Fine claims) left (act job n (Run (callee.User body)) bodies loops left u)
          within = call_within job claims n p (callee.User body) cb wb (omega (arith, cheap.1, lt)) bodies loops left u fine e

          by : (2 ^ 31 ≤ j) ⊎ ((k : ℕ) × ((least k (2 ^ 31) ≡ j) × (On k only_same (turn_of job t).state.store.literals × ((turn_of job t).again ≡ true → 0 < k))))
              → Ended cb (λ v. Fine claims v × (turns_on v.store.literals < j)) left (act job n (Run (callee.User body)) bodies loops left u)
          by (inl big) =
              weaker cb left (λ v. Fine claims v × IsSmall v) (λ v. Fine claims v × (turns_on v.store.literals < j)) _
              (λ v q. (q.0, (let a = small_few v.store.literals q.1.0 q.1.1 in omega (arith, a, big))))
              (both_ended cb left (Fine claims) IsSmall (act job n (Run (callee.User body)) bodies loops left u) within
              (small_done job kinds kh n body low bodies loops left u))
          by (inr w) =
              weaker cb left (λ v. Fine claims v × Lessened w.0 v.store.literals) (λ v. Fine claims v × (turns_on v.store.literals < j)) _
              (λ v q. (q.0, subst (λ m. turns_on v.store.literals < m) w.1.0 (least_less v.store.literals w.0 (w.1.1.1 goes) q.1)))
              (both_ended cb left (Fine claims) (λ v. Lessened w.0 v.store.literals) (act job n (Run (callee.User body)) bodies loops left u) within
              (lowers_done job kinds kh n body w.0 low bodies loops left u
              (subst (λ (v : State). On w.0 only_same v.store.literals) (sym eu) w.1.1.0)))

  lowered_within : (n : ℕ) → Level job claims n → (test body cost : ℕ) → LoweredWithin claims (suc cost) body test → cost < n → (yes : Bool) (bodies loops left : ℕ) (s : State)
      → Fine claims s → cost ≤ left
      → Ended cost (Fine claims) left (turns_if job yes n (act job n (Run (callee.User test))) (act job n (Run (callee.User body))) bodies loops left s)
  lowered_within n p test body cost w lt more bodies loops left s h l =
      by (2 ^ 31) refl (let q = w.1.1.1.1 in omega (arith, q))
    where
      of_test : ℕ
      of_test = slice_index_or claims.costs test 0

      of_body : ℕ
      of_body = slice_index_or claims.costs body 0

      a : (k : ℕ) × (slice_index_or claims.asks test 0 ≡ suc k)
      a = some_more (slice_index_or claims.asks test 0) w.0

      b : (k : ℕ) × (slice_index_or claims.lowers body 0 ≡ suc k)
      b = some_more (slice_index_or claims.lowers body 0) w.1.0

      ask : AskHolds descending_holds.0 (suc a.0) (slice_index_or job.style.bodies test [])
      ask = subst (λ c. AskHolds descending_holds.0 c (slice_index_or job.style.bodies test [])) a.1 (descending_holds.1.1.0 test)

      low : LowerHolds descending_holds.0 (suc b.0) (slice_index_or job.style.bodies body [])
      low = subst (λ c. LowerHolds descending_holds.0 c (slice_index_or job.style.bodies body [])) b.1 (descending_holds.1.1.1 body)

      by : (many : ℕ) → many ≡ 2 ^ 31 → (many + 1) * (of_test + of_body) ≤ cost
          → Ended cost (Fine claims) left (turns_if job more n (act job n (Run (callee.User test))) (act job n (Run (callee.User body))) bodies loops left s)
      by many e q =
          let r : many + 1 ≡ suc many = omega arith in
          lowered_by n p test body many descending_holds.0 e descending_holds.1.0 ask low of_test of_body cost (w.1.1.0, omega arith) (w.1.1.1.0, omega arith) w.1.1.0
          (subst (λ j. j * (of_test + of_body) ≤ cost) r q) lt more bodies loops left s h l

  -- ---- loops over a text that stands on top of the stack

  replaced_by : (n : ℕ) → Level job claims n → (test body : ℕ) (r : Replacement) (kinds : ℕ → Kind) (texts givens : ℕ → Effect)
      → ReplacesBy job.style r kinds texts givens body → TellsTop job.style (slice_index_or job.style.bodies test [])
      → (of_test of_body cost : ℕ) → CalleeWithin claims of_test (callee.User test) → CalleeWithin claims of_body (callee.User body)
      → 0 < of_test → suc (suc claims.kept) * (of_test + of_body) ≤ cost → cost < n → (yes : Bool) (bodies loops left : ℕ) (s : State) → Fine claims s → cost ≤ left
      → Ended cost (Fine claims) left (turns_if job yes n (act job n (Run (callee.User test))) (act job n (Run (callee.User body))) bodies loops left s)
  replaced_by n p test body r kinds texts givens cuts tell ct cb cost wt wb some le lt false bodies loops left s h l = omega arith
  replaced_by n p test body r kinds texts givens cuts tell ct cb cost wt wb some le lt true bodies loops left s h l =
      at_most (suc (suc claims.kept) * (ct + cb)) cost left (Fine claims) _ le
      (loops_end_in job (act job n (Run (callee.User test))) (act job n (Run (callee.User body))) (Fine claims) (Fine claims) After
      (λ t. texts_on claims.kept t.store.literals) ct cb tests again
      (λ j t b no. b.turned) (suc claims.kept) n bodies (loops + 1) left s h (texts_few claims.kept s.store.literals) few (omega (arith, le, l)))
    where
      After : ℕ → State → Type 0
      After j t = ReplaceBefore job claims j t

      few : suc claims.kept < n
      few = let q = turns_some (suc claims.kept) (ct + cb) (omega (arith, some)) in omega (arith, q, le, lt)

      cheap : (ct ≤ cost) × (cb ≤ cost)
      cheap = let q = turn_few (suc claims.kept) (ct + cb) in (omega (arith, q, le), omega (arith, q, le))

      tests : (j : ℕ) → EndsIn ct (λ t. Fine claims t × (texts_on claims.kept t.store.literals ≡ j)) (act job n (Run (callee.User test))) (After j)
      tests j bodies loops left t g e = by (seen_text claims.kept t.store.literals j g.1)
        where
          ended : Ended ct (Fine claims) left (act job n (Run (callee.User test)) bodies loops left t)
          ended = call_within job claims n p (callee.User test) ct wt (omega (arith, cheap.0, lt)) bodies loops left t g.0 e

          by : SeenText claims.kept t.store.literals j → Ended ct (After j) left (act job n (Run (callee.User test)) bodies loops left t)
          by (inl big) =
              weaker ct left (Fine claims) (After j) _
              (λ u q. record { turned = fine_same claims u.store (turn_of job u).state (turn_same job u) q; goes_on = inl big }) ended
          by (inr w) =
              weaker ct left (λ u. Fine claims u × Filled job w.0 w.1.0 u) (After j) _
              (λ u q. record { turned = fine_same claims u.store (turn_of job u).state (turn_same job u) q.0; goes_on = inr (w.0, (w.1.0, (w.1.1.1, q.1))) })
              (both_ended ct left (Fine claims) (Filled job w.0 w.1.0) (act job n (Run (callee.User test)) bodies loops left t) ended
              (tells_top_done job n test w.0 w.1.0 tell bodies loops left t w.1.1.0))

      again : (j : ℕ) (t : State) → After j t → (turn_of job t).again ≡ true
          → EndsIn cb (λ u. u ≡ (turn_of job t).state) (act job n (Run (callee.User body))) (λ u. Fine claims u × (texts_on claims.kept u.store.literals < j))
      again j t b goes bodies loops left u eu e = by b.goes_on
        where
          fine : Fine claims u
          fine = subst (Fine claims) (sym eu) b.turned

          ended : Ended cb (Fine claims) left (act job n (Run (callee.User body)) bodies loops left u)
          ended = call_within job claims n p (callee.User body) cb wb (omega (arith, cheap.1, lt)) bodies loops left u fine e

          by : (suc claims.kept ≤ j) ⊎ ((z : List ℕ) × ((ys : List Literal) × ((least (length z) (suc claims.kept) ≡ j) × Filled job z ys t)))
              → Ended cb (λ v. Fine claims v × (texts_on claims.kept v.store.literals < j)) left (act job n (Run (callee.User body)) bodies loops left u)
          by (inl big) =
              weaker cb left (λ v. Fine claims v × Given job r.given v) (λ v. Fine claims v × (texts_on claims.kept v.store.literals < j)) _
              (λ v q. (
                q.0,
                (let a = given_few claims.kept (text_in r.given v) v.store.literals q.1.0 q.1.1 (q.0.1.0 r.given) in omega (arith, a, big)),
              ))
              (both_ended cb left (Fine claims) (Given job r.given) (act job n (Run (callee.User body)) bodies loops left u) ended
              (given_done job r kinds texts givens cuts.0 cuts.1.0 cuts.1.1.0 n body cuts.1.1.1 bodies loops left u))
          by (inr w) =
              weaker cb left (λ v. Fine claims v × (Given job r.given v × (length (text_in r.given v) ≤ length w.0 - 1)))
              (λ v. Fine claims v × (texts_on claims.kept v.store.literals < j)) _
              (λ v q. (
                q.0,
                subst (λ m. texts_on claims.kept v.store.literals < m) w.1.1.0
                    (given_less claims.kept (length w.0) (text_in r.given v) v.store.literals q.1.0.0 q.1.0.1 (q.0.1.0 r.given) q.1.1 (w.1.1.1.1 goes)),
              ))
              (both_ended cb left (Fine claims) (λ v. Given job r.given v × (length (text_in r.given v) ≤ length w.0 - 1))
              (act job n (Run (callee.User body)) bodies loops left u) ended
              (replaces_done job r kinds texts givens cuts.0 cuts.1.0 cuts.1.1.0 n body (length w.0) cuts.1.1.1 bodies loops left u
              (w.0, (w.1.0, (ap (λ (v : State). v.store.literals) eu ∙ w.1.1.1.0, omega arith)))))

  replaced_within : (n : ℕ) → Level job claims n → (test body cost : ℕ) → ReplacedWithin claims (suc cost) body test → cost < n → (yes : Bool) (bodies loops left : ℕ) (s : State)
      → Fine claims s → cost ≤ left
      → Ended cost (Fine claims) left (turns_if job yes n (act job n (Run (callee.User test))) (act job n (Run (callee.User body))) bodies loops left s)
  replaced_within n p test body cost w lt more bodies loops left s h l =
      let replacements = replacing_holds.0 in
      let a = some_more (slice_index_or claims.filled test 0) w.0 in
      let b = some_more (slice_index_or claims.replaces body 0) w.1.0 in
      let tell : FilledHolds job.style (suc a.0) test = subst (λ c. FilledHolds job.style c test) a.1 (replacing_holds.1.0 test) in
      let replace : ReplaceHolds job.style replacements (suc b.0) body =
      subst (λ c. ReplaceHolds job.style replacements c body) b.1 (replacing_holds.1.1 body) in
      let le : suc (suc claims.kept) * (slice_index_or claims.costs test 0 + slice_index_or claims.costs body 0) ≤ cost =
      (let q = w.1.1.1.1 in let r : claims.kept + 2 ≡ suc (suc claims.kept) = omega arith in
      subst (λ j. j * (slice_index_or claims.costs test 0 + slice_index_or claims.costs body 0) ≤ cost) r (omega (arith, q))) in
      replaced_by n p test body (replacements b.0) replace.0 replace.1.0 replace.1.1.0 replace.1.1.1 tell
      (slice_index_or claims.costs test 0) (slice_index_or claims.costs body 0) cost (w.1.1.0, omega arith) (w.1.1.1.0, omega arith) w.1.1.0 le lt
      more bodies loops left s h l

  pub either_within : (n : ℕ) → Level job claims n → (test body cost : ℕ) → TurnsWithin claims (suc cost) body test → cost < n → (yes : Bool) (bodies loops left : ℕ) (s : State)
      → Fine claims s → cost ≤ left
      → Ended cost (Fine claims) left (turns_if job yes n (act job n (Run (callee.User test))) (act job n (Run (callee.User body))) bodies loops left s)
  either_within n p test body cost (inl w) lt more bodies loops left s h l = loop_within n p test body cost w lt more bodies loops left s h l
  either_within n p test body cost (inr (inl w)) lt more bodies loops left s h l = shortened_within n p test body cost w lt more bodies loops left s h l
  either_within n p test body cost (inr (inr (inl w))) lt more bodies loops left s h l = walked_within n p test body cost w lt more bodies loops left s h l
  either_within n p test body cost (inr (inr (inr (inl w)))) lt more bodies loops left s h l = climbed_within n p test body cost w lt more bodies loops left s h l
  either_within n p test body cost (inr (inr (inr (inr (inl w))))) lt more bodies loops left s h l = lowered_within n p test body cost w lt more bodies loops left s h l
  either_within n p test body cost (inr (inr (inr (inr (inr w))))) lt more bodies loops left s h l = replaced_within n p test body cost w lt more bodies loops left s h l
