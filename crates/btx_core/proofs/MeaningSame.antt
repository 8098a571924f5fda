-- If each step does in names what it does with numbers, then so does each word, body and loop: both meanings go in step.
use Rattle.std.proofs.Common.{◌≡◌, ℕ, zero, suc, ◌+◌, max, nat_lt, Bool, true, false, if◌then◌else◌, List, [], ◌∷◌, slice_index_or, sym, ap, subst, ◌∙◌, refl}
use Rattle.std.proofs.Common.{true≢false}
use Rattle.btx_bst.specs.declared.callee.Callee.{Callee}
use Rattle.btx_bst.specs.declared.token.Token.{Token}
use Rattle.btx_bst.specs.declared.token.Token.TheVariants as token
use Rattle.btx_step.specs.declared.next.Next.{Next}
use Rattle.btx_step.specs.declared.next.Next.TheVariants as next
use Rattle.btx_step.specs.language.Jobs.{Job as NumberedJob}
use Rattle.btx_machine.specs.declared.marks.TheConstants.{MOST_BODIES, MOST_LOOPS}
use Rattle.btx_machine.specs.language.States.{State as Store, Outcome as Came, Done as CameDone, Stopped as CameStopped, Limit as CameLimit}
use Rattle.btx_machine.specs.language.Steps.{token_effect, turn_of}
use Rattle.btx_machine.specs.language.Meaning.{Action as Acts, after_test, then_do as then_act}
use Rattle.btx_machine.specs.language.MeaningBySteps as by_steps
use Rattle.btx_core.specs.language.Styles.{Body, Empty, Then, StyleToken, Run, Function, Job, State}
use Rattle.btx_core.specs.language.Divisions.{Divisions}
use Rattle.btx_core.specs.language.Functions.{Effect, Leaves, Meets, Runs, Opens, Loops, token_effect as named_effect, test_result}
use Rattle.btx_core.specs.language.Meanings.{Action, Outcome, Done, Stopped, Limited, then_do, deeper}
use Rattle.btx_core.proofs.MeaningLemmas as named

-- `same` relates a state with numbers and one in names; `known` are the tokens whose functions the style has; `word` and `of` name tokens and functions
module _ (job : NumberedJob) (divisions : Divisions) (here : Job) (word : Token → StyleToken) (of : Callee → Function)
    (runs : (f : Callee) → word (token.Run f) ≡ Run (of f))
    (same : Store → State → Type 0) (known : Token → Type 0) where
  -- the tree of a body
  abbrev pub tree : List Token → Body
  tree [] = Empty
  tree (x ∷ xs) = Then (word x) (tree xs)

  abbrev pub AllKnown : List Token → Type 0
  AllKnown [] = true ≡ true
  AllKnown (x ∷ xs) = known x × AllKnown xs

  -- the tokens of a function
  abbrev pub tokens_of : ℕ → List Token
  tokens_of i = slice_index_or job.style.bodies i []

  -- what follows a step is the same
  abbrev pub SameEffect : Next → Store → Effect → Type 0
  SameEffect next.Nothing S (Leaves t) = same S t
  SameEffect (next.End kind) S (Meets limit t) = (kind ≡ limit) × same S t
  SameEffect (next.Run f) S (Runs h t) = (of f ≡ h) × (known (token.Run f) × same S t)
  SameEffect (next.Open i) S (Opens b t) = (tree (tokens_of i) ≡ b) × (AllKnown (tokens_of i) × same S t)
  SameEffect (next.Loop f g) S (Loops u v t) = (of f ≡ u) × ((of g ≡ v) × (known (token.Run f) × (known (token.Run g) × same S t)))
  SameEffect nx S e = true ≡ false

  -- what an execution comes to is the same, and the same number of steps is left
  abbrev pub SameOutcome : Came → Outcome → Type 0
  SameOutcome (CameDone S b) (Done s c) = same S s × (b ≡ c)
  SameOutcome (CameStopped S) (Stopped s) = same S s
  SameOutcome (CameLimit kind S b) (Limited limit s c) = same S s × ((kind ≡ limit) × (b ≡ c))
  SameOutcome o p = true ≡ false

  abbrev pub SameActs : Acts → Action → Type 0
  SameActs go go' = (d w b : ℕ) (S : Store) (s : State) → same S s → SameOutcome (go d w b S) (go' d w b s)

  pub then_same : (o : Came) (p : Outcome) → SameOutcome o p → (go : ℕ → Store → Came) (go' : ℕ → State → Outcome)
      → ((b : ℕ) (S : Store) (s : State) → same S s → SameOutcome (go b S) (go' b s))
      → SameOutcome (then_act o go) (then_do p go')
  then_same (CameDone S b) (Done s c) h go go' k = subst (λ c. SameOutcome (go b S) (go' c s)) h.1 (k b S s h.0)
  then_same (CameStopped S) (Stopped s) h go go' k = h
  then_same (CameLimit kind S b) (Limited limit s c) h go go' k = h
  then_same (CameDone S b) (Stopped s) h go go' k = absurd (true≢false h)
  then_same (CameDone S b) (Limited limit s c) h go go' k = absurd (true≢false h)
  then_same (CameStopped S) (Done s c) h go go' k = absurd (true≢false h)
  then_same (CameStopped S) (Limited limit s c) h go go' k = absurd (true≢false h)
  then_same (CameLimit kind S b) (Done s c) h go go' k = absurd (true≢false h)
  then_same (CameLimit kind S b) (Stopped s) h go go' k = absurd (true≢false h)

  module _ (steps : (x : Token) (S : Store) (s : State) → known x → same S s → SameEffect (token_effect job x S).next (token_effect job x S).state
      (named_effect divisions here (word x) s))
      (tests : (S : Store) (s : State) → same S s → ((turn_of job S).again ≡ (test_result s).0) × same (turn_of job S).state (test_result s).1)
      (deepens : (S : Store) (s : State) (d : ℕ) → same S s → same (record S { store = record S.store { deepest = max S.store.deepest d } }) (deeper d s)) where
    in_turn_same : (go : Token → Acts) (go' : StyleToken → Action) → ((x : Token) → known x → SameActs (go x) (go' (word x))) → (xs : List Token) → AllKnown xs
        → SameActs (by_steps.in_turn go xs) (named.in_turn divisions here go' (tree xs))
    in_turn_same go go' ih [] k d w b S s r = (r, refl)
    in_turn_same go go' ih (x ∷ xs) k d w b S s r = then_same (go x d w b S) (go' (word x) d w b s) (ih x k.0 d w b S s r) (by_steps.in_turn go xs d w)
        (named.in_turn divisions here go' (tree xs) d w) (in_turn_same go go' ih xs k.1 d w)

    after_same : (a c : Bool) (S : Store) (s : State) → a ≡ c → same S s → (b : ℕ) (go : ℕ → Store → Came) (go' : ℕ → State → Outcome)
        → ((b : ℕ) (S : Store) (s : State) → same S s → SameOutcome (go b S) (go' b s))
        → SameOutcome (after_test a S b go) (if c then go' b s else Done s b)
    after_same true true S s e r b go go' k = k b S s r
    after_same false false S s e r b go go' k = (r, refl)
    after_same true false S s e r b go go' k = absurd (true≢false e)
    after_same false true S s e r b go go' k = absurd (true≢false (sym e))

    turns_same : (n : ℕ) (f g : Acts) (f' g' : Action) → SameActs f f' → SameActs g g' → SameActs (by_steps.turns job n f g) (named.turns divisions here n f' g')
    turns_same zero f g f' g' hf hg d w b S s r = r
    turns_same (suc n) f g f' g' hf hg d w b S s r =
        then_same (f d w b S) (f' d w b s) (hf d w b S s r) _ _ (λ b T t r.
        let h = tests T t r in
        after_same (turn_of job T).again (test_result t).0 (turn_of job T).state (test_result t).1 h.0 h.1 b _ _ (λ b U u r.
        then_same (g d w b U) (g' d w b u) (hg d w b U u r) _ _ (turns_same n f g f' g' hf hg d w)))

    body_same : (z : Bool) (go : Token → Acts) (go' : StyleToken → Action) → ((x : Token) → known x → SameActs (go x) (go' (word x))) → (xs : List Token)
        → AllKnown xs → SameActs (by_steps.body_if z go xs) (named.body_if divisions here z go' (tree xs))
    body_same true go go' ih xs k d w b S s r = in_turn_same go go' ih xs k (d + 1) w b _ _ (deepens S s (d + 1) r)
    body_same false go go' ih xs k d w b S s r = (r, (refl, refl))

    loop_same : (z : Bool) (n : ℕ) (f g : Acts) (f' g' : Action) → SameActs f f' → SameActs g g'
        → SameActs (by_steps.turns_if job z n f g) (named.turns_if divisions here z n f' g')
    loop_same true n f g f' g' hf hg d w b S s r = turns_same n f g f' g' hf hg d (w + 1) b S s r
    loop_same false n f g f' g' hf hg d w b S s r = (r, (refl, refl))

    run_same : (go : Token → Acts) (go' : StyleToken → Action) → ((x : Token) → known x → SameActs (go x) (go' (word x))) → (f : Callee) (h : Function) → of f ≡ h
        → known (token.Run f) → SameActs (go (token.Run f)) (go' (Run h))
    run_same go go' ih f h e k = subst (λ u. SameActs (go (token.Run f)) (go' u)) (runs f ∙ ap Run e) (ih (token.Run f) k)

    follow_same : (n : ℕ) (go : Token → Acts) (go' : StyleToken → Action) → ((x : Token) → known x → SameActs (go x) (go' (word x)))
        → (nx : Next) (S : Store) (e : Effect) → SameEffect nx S e
        → (d w b : ℕ) → SameOutcome (by_steps.follow job go n nx S d w b) (named.follow divisions here go' n e d w b)
    follow_same n go go' ih next.Nothing S (Leaves t) h d w b = (h, refl)
    follow_same n go go' ih (next.End kind) S (Meets limit t) h d w b = (h.1, (h.0, refl))
    follow_same n go go' ih (next.Run f) S (Runs h t) k d w b = run_same go go' ih f h k.0 k.1.0 d w b S t k.1.1
    follow_same n go go' ih (next.Open i) S (Opens c t) h d w b =
        subst (λ body. SameOutcome (by_steps.follow job go n (next.Open i) S d w b) (named.body_if divisions here (nat_lt d MOST_BODIES) go' body d w b t)) h.0
        (body_same (nat_lt d MOST_BODIES) go go' ih (tokens_of i) h.1.0 d w b S t h.1.1)
    follow_same n go go' ih (next.Loop f g) S (Loops u v t) h d w b =
        loop_same (nat_lt w MOST_LOOPS) n _ _ _ _ (run_same go go' ih f u h.0 h.1.1.0) (run_same go go' ih g v h.1.0 h.1.1.1.0) d w b S t h.1.1.1.1
    follow_same n go go' ih next.Nothing S (Meets limit t) apart d w b = absurd (true≢false apart)
    follow_same n go go' ih next.Nothing S (Runs h t) apart d w b = absurd (true≢false apart)
    follow_same n go go' ih next.Nothing S (Opens c t) apart d w b = absurd (true≢false apart)
    follow_same n go go' ih next.Nothing S (Loops u v t) apart d w b = absurd (true≢false apart)
    follow_same n go go' ih (next.End kind) S (Leaves t) apart d w b = absurd (true≢false apart)
    follow_same n go go' ih (next.End kind) S (Runs h t) apart d w b = absurd (true≢false apart)
    follow_same n go go' ih (next.End kind) S (Opens c t) apart d w b = absurd (true≢false apart)
    follow_same n go go' ih (next.End kind) S (Loops u v t) apart d w b = absurd (true≢false apart)
    follow_same n go go' ih (next.Run f) S (Leaves t) apart d w b = absurd (true≢false apart)
    follow_same n go go' ih (next.Run f) S (Meets limit t) apart d w b = absurd (true≢false apart)
    follow_same n go go' ih (next.Run f) S (Opens c t) apart d w b = absurd (true≢false apart)
    follow_same n go go' ih (next.Run f) S (Loops u v t) apart d w b = absurd (true≢false apart)
    follow_same n go go' ih (next.Open i) S (Leaves t) apart d w b = absurd (true≢false apart)
    follow_same n go go' ih (next.Open i) S (Meets limit t) apart d w b = absurd (true≢false apart)
    follow_same n go go' ih (next.Open i) S (Runs h t) apart d w b = absurd (true≢false apart)
    follow_same n go go' ih (next.Open i) S (Loops u v t) apart d w b = absurd (true≢false apart)
    follow_same n go go' ih (next.Loop f g) S (Leaves t) apart d w b = absurd (true≢false apart)
    follow_same n go go' ih (next.Loop f g) S (Meets limit t) apart d w b = absurd (true≢false apart)
    follow_same n go go' ih (next.Loop f g) S (Runs h t) apart d w b = absurd (true≢false apart)
    follow_same n go go' ih (next.Loop f g) S (Opens c t) apart d w b = absurd (true≢false apart)

    acts_same : (n : ℕ) (x : Token) → known x → SameActs (by_steps.act job n x) (named.act divisions here n (word x))
    acts_same zero x k d w b S s r = r
    acts_same (suc n) x k d w zero S s r = r
    acts_same (suc n) x k d w (suc b) S s r =
        follow_same n (by_steps.act job n) (named.act divisions here n) (acts_same n) (token_effect job x S).next (token_effect job x S).state
        (named_effect divisions here (word x) s) (steps x S s k r) d w b

    -- what a token does with numbers, its word does in names
    pub meaning_same : (x : Token) → known x → SameActs (by_steps.meaning job x) (named.word_means divisions here (word x))
    unfolding by_steps.meaning
    meaning_same x k d w b S s r = acts_same (suc b) x k d w b S s r
