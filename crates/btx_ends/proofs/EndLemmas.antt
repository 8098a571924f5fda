-- The rules of what ends.
use Rattle.std.proofs.Common.{◌≡◌, ℕ, zero, suc, ◌+◌, ◌*◌, List, ◌≤◌, ◌<◌, Bool, true, false, refl, arith}
use Rattle.btx_bst.specs.declared.token.Token.{Token}
use Rattle.btx_step.specs.language.Jobs.{Job}
use Rattle.btx_machine.specs.language.States.{State, Outcome, Done, Stopped, Limit}
use Rattle.btx_machine.specs.language.Steps.{token_effect, turn_of}
use Rattle.btx_machine.specs.language.Meaning.{Action, then_do, after_test}
use Rattle.btx_machine.specs.language.MeaningBySteps.{in_turn, turns, body_if, follow, act}
use Rattle.btx_ends.specs.Costs.{Ended, EndsIn, So, TokensEnd, StepsEnd, LoopsEnd}

-- it ended within more steps, counted from an earlier place
widened : (first others left rest : ℕ) (goal : State → Type 0) (o : Outcome) → left ≤ rest + first → Ended others goal rest o → Ended (first + others) goal left o
widened first others left rest goal (Done u end) l h = (h.0, (let e = h.1 in omega (arith, l, e)))
widened first others left rest goal (Stopped u) l h = h
widened first others left rest goal (Limit kind u end) l h = omega (arith, l, h)

-- what ended, and then what follows it
pub then_ends : (first others left : ℕ) (between goal : State → Type 0) (o : Outcome) (go : ℕ → State → Outcome) → Ended first between left o
    → first + others ≤ left
    → ((rest : ℕ) (t : State) → between t → others ≤ rest → Ended others goal rest (go rest t))
    → Ended (first + others) goal left (then_do o go)
then_ends first others left between goal (Done t rest) go h l g =
    widened first others left rest goal (go rest t) h.1 (g rest t h.0 (let e = h.1 in omega (arith, l, e)))
then_ends first others left between goal (Stopped t) go h l g = h
then_ends first others left between goal (Limit kind t rest) go h l g = omega (arith, h)

-- fewer steps than the bound are within it
pub at_most : (less cost left : ℕ) (goal : State → Type 0) (o : Outcome) → less ≤ cost → Ended less goal left o → Ended cost goal left o
at_most less cost left goal (Done u end) l h = (h.0, (let e = h.1 in omega (arith, l, e)))
at_most less cost left goal (Stopped u) l h = h
at_most less cost left goal (Limit kind u end) l h = omega (arith, l, h)

pub tokens_end : TokensEnd
tokens_end go x rest from between goal first others f g bodies loops left s h l =
    then_ends first others left (So between) (So goal) (go x bodies loops left s) (in_turn go rest bodies loops)
    (f bodies loops left s h (omega (arith, l))) l (λ fewer t b m. g bodies loops fewer t b m)

-- ---- loops

-- after the test of a loop
after_ends : (cost left : ℕ) (goal : State → Type 0) (more : Bool) (t : State) (go : ℕ → State → Outcome)
    → (more ≡ true → Ended cost goal left (go left t)) → (more ≡ false → goal t) → Ended cost goal left (after_test more t left go)
after_ends cost left goal true t go f g = f refl
after_ends cost left goal false t go f g = (g refl, omega (arith))

module _ (job : Job) (test body : Action) (head goal : State → Type 0) (between : ℕ → State → Type 0) (measure : State → ℕ) (ct cb : ℕ)
    (tests : (n : ℕ) → EndsIn ct (λ s. head s × (measure s ≡ n)) test (between n))
    (again : (n : ℕ) (t : State) → between n t → (turn_of job t).again ≡ true
    → EndsIn cb (λ u. u ≡ (turn_of job t).state) body (λ v. head v × (measure v < n)))
    (ends : (n : ℕ) (t : State) → between n t → (turn_of job t).again ≡ false → goal (turn_of job t).state) where
  pub loops_end_in : (n most bodies loops left : ℕ) (s : State) → head s → measure s ≤ n → n < most → suc n * (ct + cb) ≤ left
      → Ended (suc n * (ct + cb)) goal left (turns job most test body bodies loops left s)
  loops_end_in n zero bodies loops left s h k l r = absurd (omega (arith, l))
  loops_end_in zero (suc most) bodies loops left s h k l r =
      at_most (ct + cb) _ left goal _ (omega (arith)) (then_ends ct cb left (between (measure s)) goal (test bodies loops left s) _
      (tests (measure s) bodies loops left s (h, refl) (omega (arith, r))) (omega (arith, r))
      (λ rest t b e. after_ends cb rest goal (turn_of job t).again (turn_of job t).state _
      (λ yes. at_most (cb + 0) cb rest goal _ (omega (arith)) (then_ends cb 0 rest _ goal (body bodies loops rest (turn_of job t).state) _
      (again (measure s) t b yes bodies loops rest (turn_of job t).state refl e) (omega (arith, e))
      (λ rest1 v hv e1. let small = hv.1 in absurd (omega (arith, small, k)))))
      (λ no. ends (measure s) t b no)))
  loops_end_in (suc n) (suc most) bodies loops left s h k l r =
      at_most (ct + (cb + suc n * (ct + cb))) _ left goal _ (omega (arith)) (then_ends ct (cb + suc n * (ct + cb)) left (between (measure s)) goal
      (test bodies loops left s) _
      (tests (measure s) bodies loops left s (h, refl) (omega (arith, r))) (omega (arith, r))
      (λ rest t b e. after_ends (cb + suc n * (ct + cb)) rest goal (turn_of job t).again (turn_of job t).state _
      (λ yes. then_ends cb (suc n * (ct + cb)) rest _ goal (body bodies loops rest (turn_of job t).state) _
      (again (measure s) t b yes bodies loops rest (turn_of job t).state refl (omega (arith, e))) e
      (λ rest1 v hv e1. let small = hv.1 in
      loops_end_in n most bodies loops rest1 v hv.0 (omega (arith, small, k)) (omega (arith, l)) e1))
      (λ no. ends (measure s) t b no)))

pub loops_end : LoopsEnd
loops_end job test body head goal between measure ct cb f g h =
    loops_end_in job test body (So head) (So goal) (λ n. So (between n)) measure ct cb f g h

-- ---- steps and bodies

-- a step more, before what ended
shifted : (cost left : ℕ) (goal : State → Type 0) (o : Outcome) → Ended cost goal left o → Ended (cost + 1) goal (suc left) o
shifted cost left goal (Done u end) h = (h.0, (let e = h.1 in omega (arith, e)))
shifted cost left goal (Stopped u) h = h
shifted cost left goal (Limit kind u end) h = omega (arith, h)

-- a token takes a step, and then what follows
pub step_ends : (job : Job) (n : ℕ) (x : Token) (goal : State → Type 0) (cost bodies loops left : ℕ) (s : State)
    → ((less : ℕ) → cost ≤ less
    → Ended cost goal less (follow job (act job n) n (token_effect job x s).next (token_effect job x s).state bodies loops less))
    → cost + 1 ≤ left → Ended (cost + 1) goal left (act job (suc n) x bodies loops left s)
step_ends job n x goal cost bodies loops zero s f l = absurd (omega (arith, l))
step_ends job n x goal cost bodies loops (suc left) s f l = shifted cost left goal _ (f left (omega (arith, l)))

pub steps_end : StepsEnd
steps_end job n x from goal cost f bodies loops left s h l =
    step_ends job n x (So goal) cost bodies loops left s (λ less k. f bodies loops less s h k) l

-- a body, where one more may be open or the run ends at a limit
pub body_ends : (go : Token → Action) (xs : List Token) (goal : State → Type 0) (cost : ℕ) (more : Bool) (bodies loops left : ℕ) (s : State)
    → ((t : State) → Ended cost goal left (in_turn go xs (bodies + 1) loops left t)) → Ended cost goal left (body_if more go xs bodies loops left s)
body_ends go xs goal cost true bodies loops left s f = f _
body_ends go xs goal cost false bodies loops left s f = omega (arith)
