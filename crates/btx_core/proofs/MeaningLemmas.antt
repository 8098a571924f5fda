-- Two meanings of a style are the same (the proof of btx_machine's UniqueLemmas, in names and trees).
use Rattle.std.proofs.Common.{◌≡◌, ℕ, zero, suc, ◌+◌, ◌<◌, ◌≤◌, sym, ap, subst, ◌∙◌, arith, Bool, true, false, nat_lt, refl}
use Rattle.std.proofs.lemmas.Bool.{ltb-true, ltb-false, lt-ltb, le-ltb}
use Rattle.btx_text.specs.declared.limits.Limit.TheVariants as limit
use Rattle.btx_machine.specs.declared.marks.TheConstants.{MOST_BODIES, MOST_LOOPS}
use Rattle.btx_core.specs.language.Styles.{Body, Empty, Then, StyleToken, Run, Function, Job, State}
use Rattle.btx_core.specs.language.Divisions.{Divisions}
use Rattle.btx_core.specs.language.Functions.{Effect, Leaves, Meets, Runs, Opens, Loops, token_effect, test_result}
use Rattle.btx_core.specs.language.Meanings.{Action, Outcome, Done, Stopped, Limited, then_do, if_so, deeper, Meaning, IsMeaning}

-- of b steps at least e were taken where it is done, and one where it met a limit
abbrev Spent : ℕ → ℕ → Outcome → Type 0
Spent e b (Done s c) = c + e ≤ b
Spent e b (Stopped s) = Unit {0}
Spent e b (Limited kind s c) = c < b

less : (e e' b b' : ℕ) (o : Outcome) → e' + b ≤ b' + e → b ≤ b' → Spent e b o → Spent e' b' o
less e e' b b' (Done s c) le le' h = omega (arith, le, h)
less e e' b b' (Stopped s) le le' h = tt
less e e' b b' (Limited kind s c) le le' h = omega (arith, le', h)

abbrev Agrees : ℕ → ℕ → Outcome → Outcome → Type 0
Agrees e b o o' = (o ≡ o') × Spent e b o

weaker : (e e' b b' : ℕ) (o o' : Outcome) → e' + b ≤ b' + e → b ≤ b' → Agrees e b o o' → Agrees e' b' o o'
weaker e e' b b' o o' le le' h = (h.0, less e e' b b' o le le' h.1)

both : (e b : ℕ) (o o' p p' : Outcome) → o ≡ p → o' ≡ p' → Agrees e b p p' → Agrees e b o o'
both e b o o' p p' g g' h = (g ∙ h.0 ∙ sym g', subst (Spent e b) (sym g) h.1)

then_agrees : (e b : ℕ) (o o' : Outcome) (go go' : ℕ → State → Outcome) → Agrees e b o o' → ((c : ℕ) (s : State) → c + e ≤ b → Agrees 0 c (go c s) (go' c s))
    → Agrees e b (then_do o go) (then_do o' go')
then_agrees e b (Done s c) o' go go' h g =
    subst (λ o'. Agrees e b (go c s) (then_do o' go')) h.0 (weaker 0 e c b (go c s) (go' c s) (omega (arith, h.1)) (omega (arith, h.1)) (g c s h.1))
then_agrees e b (Stopped s) o' go go' h g = subst (λ o'. Agrees e b (Stopped s) (then_do o' go')) h.0 (refl, tt)
then_agrees e b (Limited kind s c) o' go go' h g = subst (λ o'. Agrees e b (Limited kind s c) (then_do o' go')) h.0 (refl, h.1)

test_agrees : (again : Bool) (t : State) (c : ℕ) (go go' : ℕ → State → Outcome) → ((u : State) → Agrees 0 c (go c u) (go' c u))
    → Agrees 0 c (if_so (again, t) c go) (if_so (again, t) c go')
test_agrees true t c go go' h = h t
test_agrees false t c go go' h = (refl, omega arith)

module _ (divisions : Divisions) (job : Job) (one other : Meaning) (is : IsMeaning divisions job one) (also : IsMeaning divisions job other) where
  abbrev WordsAgree : ℕ → Type 0
  WordsAgree n = (x : StyleToken) (d w b : ℕ) (s : State) → b < n → Agrees 1 b (one.token x d w b s) (other.token x d w b s)

  bodies_agree : (n : ℕ) → WordsAgree n → (ts : Body) (d w b : ℕ) (s : State) → b < n → Agrees 0 b (one.body ts d w b s) (other.body ts d w b s)
  bodies_agree n h Empty d w b s lt = both 0 b _ _ (Done s b) (Done s b) (is d w b s).empty (also d w b s).empty (refl, omega arith)
  bodies_agree n h (Then t ts) d w b s lt =
      both 0 b _ _ _ _ ((is d w b s).in_turn t ts) ((also d w b s).in_turn t ts)
      (weaker 1 0 b b _ _ (omega arith) (omega arith)
      (then_agrees 1 b (one.token t d w b s) (other.token t d w b s) (one.body ts d w) (other.body ts d w) (h t d w b s lt)
      (λ c u le. bodies_agree n h ts d w c u (omega (arith, le, lt)))))

  loops_agree : (n : ℕ) → WordsAgree n → (k : ℕ) (f g : Function) (d w b : ℕ) (s : State) → b < k → k ≤ n
      → Agrees 0 b (one.loop f g d w b s) (other.loop f g d w b s)
  loops_agree n h zero f g d w b s lt le = absurd (omega (arith, lt))
  loops_agree n h (suc k) f g d w b s lt le =
      both 0 b _ _ _ _ ((is d w b s).turn f g) ((also d w b s).turn f g)
      (weaker 1 0 b b _ _ (omega arith) (omega arith)
      (then_agrees 1 b (one.token (Run f) d w b s) (other.token (Run f) d w b s) _ _ (h (Run f) d w b s (omega (arith, lt, le)))
      (λ c t fewer. test_agrees (test_result t).0 (test_result t).1 c (λ e v. then_do (one.token (Run g) d w e v) (one.loop f g d w))
      (λ e v. then_do (other.token (Run g) d w e v) (other.loop f g d w))
      (λ u. weaker 1 0 c c _ _ (omega arith) (omega arith)
      (then_agrees 1 c (one.token (Run g) d w c u) (other.token (Run g) d w c u) (one.loop f g d w) (other.loop f g d w)
      (h (Run g) d w c u (omega (arith, lt, le, fewer)))
      (λ a v fewest. loops_agree n h k f g d w a v (omega (arith, lt, le, fewer, fewest)) (omega (arith, le))))))))

  opened_agrees : (n : ℕ) → WordsAgree n → (x : StyleToken) (d w b : ℕ) (i : Body) (s t : State) → b < n → token_effect divisions job x s ≡ Opens i t → (yes : Bool)
      → nat_lt d MOST_BODIES ≡ yes → Agrees 1 (b + 1) (one.token x d w (b + 1) s) (other.token x d w (b + 1) s)
  opened_agrees n h x d w b i s t lt e true room =
      let free = ltb-true d MOST_BODIES room in
      both 1 (b + 1) _ _ _ _ ((is d w b s).opened x i t e free) ((also d w b s).opened x i t e free)
      (weaker 0 1 b (b + 1) _ _ (omega arith) (omega arith) (bodies_agree n h i (d + 1) w b (deeper (d + 1) t) lt))
  opened_agrees n h x d w b i s t lt e false room =
      let none = ltb-false d MOST_BODIES room in
      both 1 (b + 1) _ _ _ _ ((is d w b s).calls_limit x i t e none) ((also d w b s).calls_limit x i t e none) (refl, omega arith)

  looped_agrees : (n : ℕ) → WordsAgree n → (x : StyleToken) (d w b : ℕ) (f g : Function) (s t : State) → b < n → token_effect divisions job x s ≡ Loops f g t → (yes : Bool)
      → nat_lt w MOST_LOOPS ≡ yes → Agrees 1 (b + 1) (one.token x d w (b + 1) s) (other.token x d w (b + 1) s)
  looped_agrees n h x d w b f g s t lt e true room =
      let free = ltb-true w MOST_LOOPS room in
      both 1 (b + 1) _ _ _ _ ((is d w b s).looped x f g t e free) ((also d w b s).looped x f g t e free)
      (weaker 0 1 b (b + 1) _ _ (omega arith) (omega arith) (loops_agree n h n f g d (w + 1) b t lt (omega arith)))
  looped_agrees n h x d w b f g s t lt e false room =
      let none = ltb-false w MOST_LOOPS room in
      both 1 (b + 1) _ _ _ _ ((is d w b s).loops_limit x f g t e none) ((also d w b s).loops_limit x f g t e none) (refl, omega arith)

  stepped_agrees : (n : ℕ) → WordsAgree n → (x : StyleToken) (d w b : ℕ) (s : State) → b < n → (after : Effect) → token_effect divisions job x s ≡ after
      → Agrees 1 (b + 1) (one.token x d w (b + 1) s) (other.token x d w (b + 1) s)
  stepped_agrees n h x d w b s lt (Leaves t) e =
      both 1 (b + 1) _ _ _ _ ((is d w b s).done x t e) ((also d w b s).done x t e) (refl, omega arith)
  stepped_agrees n h x d w b s lt (Meets kind t) e =
      both 1 (b + 1) _ _ _ _ ((is d w b s).own_limit x kind t e) ((also d w b s).own_limit x kind t e) (refl, omega arith)
  stepped_agrees n h x d w b s lt (Runs f t) e =
      both 1 (b + 1) _ _ _ _ ((is d w b s).chosen x f t e) ((also d w b s).chosen x f t e)
      (weaker 1 1 b (b + 1) _ _ (omega arith) (omega arith) (h (Run f) d w b t lt))
  stepped_agrees n h x d w b s lt (Opens i t) e = opened_agrees n h x d w b i s t lt e (nat_lt d MOST_BODIES) refl
  stepped_agrees n h x d w b s lt (Loops f g t) e = looped_agrees n h x d w b f g s t lt e (nat_lt w MOST_LOOPS) refl

  words_agree : (n : ℕ) → WordsAgree n
  words_agree zero x d w b s lt = absurd (omega (arith, lt))
  words_agree (suc n) x d w zero s lt =
      both 1 0 _ _ (Stopped s) (Stopped s) ((is d w 0 s).stopped x) ((also d w 0 s).stopped x) (refl, tt)
  words_agree (suc n) x d w (suc b) s lt =
      let z : b + 1 ≡ suc b = omega arith in
      subst (λ c. Agrees 1 c (one.token x d w c s) (other.token x d w c s)) z
      (stepped_agrees n (words_agree n) x d w b s (omega (arith, lt)) (token_effect divisions job x s) refl)

  -- the meanings of words are one
  same_words : one.token ≡ other.token
  same_words = λ i x d w b s. (words_agree (suc b) x d w b s (omega arith)).0 i

  same_bodies : one.body ≡ other.body
  same_bodies = λ i ts d w b s. (bodies_agree (suc b) (words_agree (suc b)) ts d w b s (omega arith)).0 i

  same_loops : one.loop ≡ other.loop
  same_loops = λ i f g d w b s. (loops_agree (suc b) (words_agree (suc b)) (suc b) f g d w b s (omega arith) (omega arith)).0 i

  -- there is one meaning
  pub one_meaning : one ≡ other
  one_meaning = λ i. record { token = same_words i; body = same_bodies i; loop = same_loops i }

-- ---- and there is one

module _ (divisions : Divisions) (job : Job) where
  abbrev pub in_turn : (StyleToken → Action) → Body → Action
  in_turn go Empty d w b s = Done s b
  in_turn go (Then x more) d w b s = then_do (go x d w b s) (in_turn go more d w)

  abbrev pub turns : ℕ → Action → Action → Action
  turns zero test body d w b s = Stopped s
  turns (suc n) test body d w b s = then_do (test d w b s) (λ c t. if_so (test_result t) c (λ c u. then_do (body d w c u) (turns n test body d w)))

  abbrev pub body_if : Bool → (StyleToken → Action) → Body → Action
  body_if true go body d w b t = in_turn go body (d + 1) w b (deeper (d + 1) t)
  body_if false go body d w b t = Limited limit.Calls t b

  abbrev pub turns_if : Bool → ℕ → Action → Action → Action
  turns_if true n test body d w b t = turns n test body d (w + 1) b t
  turns_if false n test body d w b t = Limited limit.Loops t b

  abbrev pub follow : (StyleToken → Action) → ℕ → Effect → ℕ → ℕ → ℕ → Outcome
  follow go n (Leaves t) d w b = Done t b
  follow go n (Meets kind t) d w b = Limited kind t b
  follow go n (Runs f t) d w b = go (Run f) d w b t
  follow go n (Opens body t) d w b = body_if (nat_lt d MOST_BODIES) go body d w b t
  follow go n (Loops f g t) d w b = turns_if (nat_lt w MOST_LOOPS) n (go (Run f)) (go (Run g)) d w b t

  abbrev pub act : ℕ → StyleToken → Action
  act zero x d w b s = Stopped s
  act (suc n) x d w zero s = Stopped s
  act (suc n) x d w (suc b) s = follow (act n) n (token_effect divisions job x s) d w b

  -- actions that agree where at most `b` steps are left
  abbrev AgreeTo : ℕ → Action → Action → Type 0
  AgreeTo b go go' = (d w c : ℕ) (s : State) → c ≤ b → Agrees 1 c (go d w c s) (go' d w c s)

  turn_agrees : (b : ℕ) (go go' : StyleToken → Action) → ((x : StyleToken) → AgreeTo b (go x) (go' x)) → (body : Body) (d w c : ℕ) (s : State) → c ≤ b
      → Agrees 0 c (in_turn go body d w c s) (in_turn go' body d w c s)
  turn_agrees b go go' h Empty d w c s le = (refl, omega arith)
  turn_agrees b go go' h (Then x more) d w c s le =
      weaker 1 0 c c _ _ (omega arith) (omega arith)
      (then_agrees 1 c (go x d w c s) (go' x d w c s) (in_turn go more d w) (in_turn go' more d w) (h x d w c s le)
      (λ a u less. turn_agrees b go go' h more d w a u (omega (arith, le, less))))

  turns_agree : (b : ℕ) (test test' body body' : Action) → AgreeTo b test test' → AgreeTo b body body' → (n m d w c : ℕ) (s : State) → c ≤ b → c < n → c < m
      → Agrees 0 c (turns n test body d w c s) (turns m test' body' d w c s)
  turns_agree b test test' body body' h k zero m d w c s le lt lt' = absurd (omega (arith, lt))
  turns_agree b test test' body body' h k (suc n) zero d w c s le lt lt' = absurd (omega (arith, lt'))
  turns_agree b test test' body body' h k (suc n) (suc m) d w c s le lt lt' =
      weaker 1 0 c c _ _ (omega arith) (omega arith) (then_agrees 1 c (test d w c s) (test' d w c s) _ _ (h d w c s le)
      (λ a t less. test_agrees (test_result t).0 (test_result t).1 a (λ e v. then_do (body d w e v) (turns n test body d w))
      (λ e v. then_do (body' d w e v) (turns m test' body' d w))
      (λ u. weaker 1 0 a a _ _ (omega arith) (omega arith)
      (then_agrees 1 a (body d w a u) (body' d w a u) (turns n test body d w) (turns m test' body' d w) (k d w a u (omega (arith, le, less)))
      (λ e v fewer. turns_agree b test test' body body' h k n m d w e v (omega (arith, le, less, fewer)) (omega (arith, lt, less, fewer))
      (omega (arith, lt', less, fewer)))))))

  body_if_agrees : (yes : Bool) (b : ℕ) (go go' : StyleToken → Action) → ((x : StyleToken) → AgreeTo b (go x) (go' x)) → (body : Body) (d w : ℕ) (t : State)
      → Agrees 1 (suc b) (body_if yes go body d w b t) (body_if yes go' body d w b t)
  body_if_agrees true b go go' h body d w t =
      weaker 0 1 b (suc b) _ _ (omega arith) (omega arith) (turn_agrees b go go' h body (d + 1) w b (deeper (d + 1) t) (omega arith))
  body_if_agrees false b go go' h body d w t = (refl, omega arith)

  turns_if_agrees : (yes : Bool) (b n m : ℕ) (test test' body body' : Action) → AgreeTo b test test' → AgreeTo b body body' → b < n → b < m
      → (d w : ℕ) (t : State)
      → Agrees 1 (suc b) (turns_if yes n test body d w b t) (turns_if yes m test' body' d w b t)
  turns_if_agrees true b n m test test' body body' h k lt lt' d w t =
      weaker 0 1 b (suc b) _ _ (omega arith) (omega arith) (turns_agree b test test' body body' h k n m d (w + 1) b t (omega arith) lt lt')
  turns_if_agrees false b n m test test' body body' h k lt lt' d w t = (refl, omega arith)

  follow_agrees : (b n m : ℕ) (go go' : StyleToken → Action) → ((x : StyleToken) → AgreeTo b (go x) (go' x)) → b < n → b < m → (e : Effect) (d w : ℕ)
      → Agrees 1 (suc b) (follow go n e d w b) (follow go' m e d w b)
  follow_agrees b n m go go' h lt lt' (Leaves t) d w = (refl, omega arith)
  follow_agrees b n m go go' h lt lt' (Meets kind t) d w = (refl, omega arith)
  follow_agrees b n m go go' h lt lt' (Runs f t) d w = weaker 1 1 b (suc b) _ _ (omega arith) (omega arith) (h (Run f) d w b t (omega arith))
  follow_agrees b n m go go' h lt lt' (Opens body t) d w = body_if_agrees (nat_lt d MOST_BODIES) b go go' h body d w t
  follow_agrees b n m go go' h lt lt' (Loops f g t) d w = turns_if_agrees (nat_lt w MOST_LOOPS) b n m (go (Run f)) (go' (Run f)) (go (Run g)) (go' (Run g))
      (h (Run f)) (h (Run g)) lt lt' d w t

  -- with more executions inside one another than steps are left, their number is no matter
  acts_agree : (n m : ℕ) (x : StyleToken) (d w b : ℕ) (s : State) → b < n → b < m → Agrees 1 b (act n x d w b s) (act m x d w b s)
  acts_agree zero m x d w b s lt lt' = absurd (omega (arith, lt))
  acts_agree (suc n) zero x d w b s lt lt' = absurd (omega (arith, lt'))
  acts_agree (suc n) (suc m) x d w zero s lt lt' = (refl, tt)
  acts_agree (suc n) (suc m) x d w (suc b) s lt lt' =
      follow_agrees b n m (act n) (act m) (λ x d w c s le. acts_agree n m x d w c s (omega (arith, le, lt)) (omega (arith, le, lt'))) (omega (arith, lt))
      (omega (arith, lt')) (token_effect divisions job x s) d w

  abbrev pub word_means : StyleToken → Action
  word_means x d w b s = act (suc b) x d w b s

  abbrev pub by_steps : Meaning
  by_steps = record { token = word_means; body = in_turn word_means; loop = λ f g d w b s. turns (suc b) (word_means (Run f)) (word_means (Run g)) d w b s }

  -- within the steps that are left, a bounded action is the meaning
  bounded : (b : ℕ) (x : StyleToken) → AgreeTo b (act (suc b) x) (word_means x)
  bounded b x d w c s le = acts_agree (suc b) (suc c) x d w c s (omega (arith, le)) (omega arith)

  itself : (b : ℕ) (x : StyleToken) → AgreeTo b (word_means x) (word_means x)
  itself b x d w c s le = acts_agree (suc c) (suc c) x d w c s (omega arith) (omega arith)

  -- one step, and what follows it
  stepped : (x : StyleToken) (d w b : ℕ) (s : State) (e : Effect) → token_effect divisions job x s ≡ e → word_means x d w (b + 1) s ≡ follow (act (suc b)) (suc b) e d w b
  stepped x d w b s e h =
      let z : b + 1 ≡ suc b = omega arith in
      ap (λ c. act (suc c) x d w c s) z ∙ ap (λ f. follow (act (suc b)) (suc b) f d w b) h

  body_if_true : (d w b : ℕ) (body : Body) (t : State) (yes : Bool) → yes ≡ true → body_if yes (act (suc b)) body d w b t
      ≡ in_turn word_means body (d + 1) w b (deeper (d + 1) t)
  body_if_true d w b body t is h =
      ap (λ y. body_if y (act (suc b)) body d w b t) h
      ∙ (turn_agrees b (act (suc b)) word_means (bounded b) body (d + 1) w b (deeper (d + 1) t) (omega arith)).0

  turns_if_true : (d w b : ℕ) (f g : Function) (t : State) (yes : Bool) → yes ≡ true
      → turns_if yes (suc b) (act (suc b) (Run f)) (act (suc b) (Run g)) d w b t ≡ turns (suc b) (word_means (Run f)) (word_means (Run g)) d (w + 1) b t
  turns_if_true d w b f g t is h =
      ap (λ y. turns_if y (suc b) (act (suc b) (Run f)) (act (suc b) (Run g)) d w b t) h
      ∙ (turns_agree b (act (suc b) (Run f)) (word_means (Run f)) (act (suc b) (Run g)) (word_means (Run g)) (bounded b (Run f)) (bounded b (Run g)) (suc b)
      (suc b) d (w + 1) b t (omega arith) (omega arith) (omega arith)).0

  loop_turns : (f g : Function) (d w b : ℕ) (s : State) → by_steps.loop f g d w b s
      ≡ then_do (word_means (Run f) d w b s) (λ c t. if_so (test_result t) c (λ c u. then_do (word_means (Run g) d w c u) (by_steps.loop f g d w)))
  loop_turns f g d w b s =
      (then_agrees 1 b (word_means (Run f) d w b s) (word_means (Run f) d w b s) _ _ (itself b (Run f) d w b s (omega arith))
      (λ c t less. test_agrees (test_result t).0 (test_result t).1 c
      (λ e v. then_do (word_means (Run g) d w e v) (turns b (word_means (Run f)) (word_means (Run g)) d w))
      (λ e v. then_do (word_means (Run g) d w e v) (by_steps.loop f g d w))
      (λ u. weaker 1 0 c c _ _ (omega arith) (omega arith)
      (then_agrees 1 c (word_means (Run g) d w c u) (word_means (Run g) d w c u) _ _ (itself c (Run g) d w c u (omega arith))
      (λ e v fewer. turns_agree b (word_means (Run f)) (word_means (Run f)) (word_means (Run g)) (word_means (Run g)) (itself b (Run f)) (itself b (Run g)) b
      (suc e) d w e v (omega (arith, less, fewer)) (omega (arith, less, fewer)) (omega arith)))))).0

  pub there_is_meaning : IsMeaning divisions job by_steps
  there_is_meaning d w b s = record {
    empty = refl;
    in_turn = λ x more. refl;
    stopped = λ x. refl;
    done = λ x t e. stepped x d w b s (Leaves t) e;
    own_limit = λ x kind t e. stepped x d w b s (Meets kind t) e;
    chosen = λ x f t e. stepped x d w b s (Runs f t) e;
    opened = λ x body t e lt. stepped x d w b s (Opens body t) e ∙ body_if_true d w b body t (nat_lt d MOST_BODIES) (lt-ltb d MOST_BODIES lt);
    calls_limit = λ x body t e le. stepped x d w b s (Opens body t) e ∙ ap (λ yes. body_if yes (act (suc b)) body d w b t) (le-ltb d MOST_BODIES le);
    looped = λ x f g t e lt. stepped x d w b s (Loops f g t) e ∙ turns_if_true d w b f g t (nat_lt w MOST_LOOPS) (lt-ltb w MOST_LOOPS lt);
    loops_limit = λ x f g t e le. stepped x d w b s (Loops f g t) e ∙ ap (λ yes. turns_if yes (suc b) (act (suc b) (Run f)) (act (suc b) (Run g)) d w b t)
        (le-ltb w MOST_LOOPS le);
    turn = λ f g. loop_turns f g d w b s;
  }
