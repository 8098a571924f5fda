-- Bodies that make a text shorter, or set a flag, do.
use Rattle.std.proofs.Common.{◌≡◌, ◌≢◌, ℕ, zero, suc, ◌+◌, ◌-◌, ◌≤◌, ◌<◌, ℤ, pos, Bool, true, false, not, ◌&&◌, ◌||◌, cond, nat_eq, nat_lt, List, [], ◌∷◌, length, take}
use Rattle.std.proofs.Common.{Option, Some, None, refl, arith, sym, ap, subst, ◌∙◌, ◌⊎◌, inl, inr, true≢false}
use Rattle.std.proofs.lemmas.List.{length-take}
use Rattle.std.proofs.lemmas.Bool.{eqb-true}
use Rattle.std.specs.Prelude.{slice_get, slice_set, unwrap_or}
use Rattle.btx_bst.specs.declared.built_in.BuiltIn.{BuiltIn}
use Rattle.btx_bst.specs.declared.built_in.BuiltIn.TheVariants as built_in
use Rattle.btx_bst.specs.declared.callee.Callee.{Callee}
use Rattle.btx_bst.specs.declared.callee.Callee.TheVariants as callee
use Rattle.btx_bst.specs.declared.token.Token.{Token}
use Rattle.btx_bst.specs.declared.token.Token.TheVariants as token
use Rattle.btx_bst.specs.declared.token.Token.TheVariants.{Quote, Run}
use Rattle.btx_stack.specs.declared.literal.Literal.{Literal}
use Rattle.btx_stack.specs.declared.literal.Literal.TheVariants as literal
use Rattle.btx_step.specs.declared.next.Next.{Next}
use Rattle.btx_step.specs.declared.next.Next.TheVariants as next
use Rattle.btx_step.specs.language.Answers.{Answer, quiet, with_literals, truth}
use Rattle.btx_step.specs.language.Control.{is_positive}
use Rattle.btx_step.specs.language.Jobs.{Job}
use Rattle.btx_step.specs.language.Operands.{on_operands}
use Rattle.btx_step.specs.language.Steps.{step_of, function_run, built_in_run}
use Rattle.btx_step.specs.language.Stores.{Store}
use Rattle.btx_step.specs.language.Table.{row}
use Rattle.btx_step.specs.language.Variables as variables
use Rattle.btx_step.specs.laws.Leaves.{is_assignment}
use Rattle.btx_step.specs.refinement.Control as kept_control
use Rattle.btx_machine.specs.language.States.{State, state, Outcome, Done, Stopped, Limit}
use Rattle.btx_machine.specs.language.Saying.{said_on}
use Rattle.btx_machine.specs.language.Steps.{executed_by, token_effect, turn_of}
use Rattle.btx_machine.specs.language.Meaning.{Action, most_loops, after_test}
use Rattle.btx_machine.specs.language.MeaningBySteps.{in_turn, turns, turns_if, follow, act}
use Rattle.btx_ends.specs.declared.measures.Measure.{Measure}
use Rattle.btx_ends.specs.declared.measures.Effect.{Effect}
use Rattle.btx_ends.specs.declared.measures.Effect.TheVariants as effect
use Rattle.btx_ends.specs.declared.measures.Kind.{Kind}
use Rattle.btx_ends.specs.declared.measures.Kind.TheVariants as kind
use Rattle.btx_ends.specs.declared.measures.Seen.{Seen}
use Rattle.btx_ends.specs.declared.measures.Seen.TheVariants as seen
use Rattle.btx_ends.specs.declared.measures.Tops.{Tops}
use Rattle.btx_ends.specs.Counters.{value_in}
use Rattle.btx_ends.specs.Keeping.{IfDone}
use Rattle.btx_ends.specs.Shortening.{text_in, flag_in, left_of, left_in, begins, word_of, body_of, begins_test, KindHolds, KindsHold, tops_of, nothing_seen, is_number, is_begins}
use Rattle.btx_ends.specs.Shortening.{built_in_seen, called_seen, string_seen, tops_after, effect_of, lessens, CalleeThrough, ChosenThrough, NeitherThrough, ChoiceThrough, IsBeginsTest, LoopThrough, IsLess, AssignThrough}
use Rattle.btx_ends.specs.Shortening.{StepThrough, TokensThrough, EffectHolds, EffectsHold}
use Rattle.btx_ends.proofs.CounterLemmas.{SameVariables, variable_step, quote_step, integer_step, string_step, opens_to, turn_again, turn_same}
use Rattle.btx_ends.proofs.DoneLemmas.{if_then, if_weaker, LeavesIn, AnswerSo, one_to, pushed_to, text_to, word_step, begins_to, not_to, or_to, one_if, so_by}
use Rattle.btx_ends.proofs.FineLemmas.{length-slice_set}
use Rattle.btx_ends.proofs.QuietLemmas.{IsSingleToken, OneOf, choice_next}
use Rattle.btx_step.proofs.LeaveLemmas.{variables_stay}
use Rattle.btx_ends.proofs.StackLemmas.{IsSeen, Stands, On, is_known, there, stands_on, nothing_on, pushed_on, SeenIn, single_so, substring_so, compared_so, doubled_so, swapped_so}
use Rattle.btx_ends.proofs.StackLemmas.{number_is, known_value, value_number, and_both, padded_two}

or_false : (b : Bool) → (b || false) ≡ b
or_false true = refl
or_false false = refl

and_true : (b : Bool) → (b && true) ≡ b
and_true true = refl
and_true false = refl

or_cases : (b c : Bool) → (b || c) ≡ true → (b ≡ true) ⊎ (c ≡ true)
or_cases true c e = inl refl
or_cases false c e = inr e

pub both_if : (P Q : State → Type 0) (o : Outcome) → IfDone P o → IfDone Q o → IfDone (λ t. P t × Q t) o
both_if P Q (Done t left) h k = (h, k)
both_if P Q (Stopped t) h k = tt
both_if P Q (Limit kind t left) h k = tt

-- ---- variables

pub flag_same : (k : ℕ) (s t : State) → t.store.integers ≡ s.store.integers → flag_in k t ≡ flag_in k s
flag_same zero s t e = refl
flag_same (suc v) s t e = ap (λ (xs : List ℤ). unwrap_or (slice_get xs v) (pos 0)) e

pub text_same : (i : ℕ) (s t : State) → t.store.strings ≡ s.store.strings → text_in i t ≡ text_in i s
text_same i s t e = ap (λ (ts : List (List ℕ)). unwrap_or (slice_get ts i) []) e

pub left_same : (m : Measure) (s t : State) → flag_in m.flag t ≡ flag_in m.flag s → text_in m.text t ≡ text_in m.text s → left_in m t ≡ left_in m s
left_same m s t e q = ap (λ (g : ℤ). left_of g (text_in m.text t)) e ∙ ap (λ (x : List ℕ). left_of (flag_in m.flag s) x) q

pub set_elsewhere : (xs : List ℤ) (w v : ℕ) (n : ℤ) → w ≢ v → slice_get (slice_set xs w n) v ≡ slice_get xs v
set_elsewhere [] w v n h = refl
set_elsewhere (x ∷ xs) zero zero n h = absurd (h refl)
set_elsewhere (x ∷ xs) zero (suc v) n h = refl
set_elsewhere (x ∷ xs) (suc w) zero n h = refl
set_elsewhere (x ∷ xs) (suc w) (suc v) n h = set_elsewhere xs w v n (λ e. h (ap suc e))

put_elsewhere : (xs : List (List ℕ)) (w v : ℕ) (n : List ℕ) → w ≢ v → slice_get (slice_set xs w n) v ≡ slice_get xs v
put_elsewhere [] w v n h = refl
put_elsewhere (x ∷ xs) zero zero n h = absurd (h refl)
put_elsewhere (x ∷ xs) zero (suc v) n h = refl
put_elsewhere (x ∷ xs) (suc w) zero n h = refl
put_elsewhere (x ∷ xs) (suc w) (suc v) n h = put_elsewhere xs w v n (λ e. h (ap suc e))

-- a variable that is there gets the value
pub set_there : (xs : List ℤ) (v : ℕ) (n : ℤ) → v < length xs → unwrap_or (slice_get (slice_set xs v n) v) (pos 0) ≡ n
set_there [] v n l = absurd (omega (arith, l))
set_there (x ∷ xs) zero n l = refl
set_there (x ∷ xs) (suc v) n l = set_there xs v n (omega (arith, l))

-- .. and one that isn't stays empty
pub put_short : (xs : List (List ℕ)) (i : ℕ) (z : List ℕ) → length (unwrap_or (slice_get (slice_set xs i z) i) []) ≤ length z
put_short [] i z = omega arith
put_short (x ∷ xs) zero z = omega arith
put_short (x ∷ xs) (suc i) z = put_short xs i z

-- a shorter text leaves less
shorter_left : (g : ℤ) (x z : List ℕ) → length z ≤ length x - 1 → left_of g z ≤ left_of g x - 1
shorter_left g x z l = by (is_positive g)
  where
    by : (b : Bool) → cond b 0 (length z) ≤ cond b 0 (length x) - 1
    by true = omega arith
    by false = l

set_left : (g : ℤ) (z : List ℕ) (n : ℕ) → is_positive g ≡ true → left_of g z ≤ n
set_left g z n e = let q : left_of g z ≡ 0 = ap (λ (b : Bool). cond b 0 (length z)) e in omega (arith, q)

module _ (job : Job) (m : Measure) (kinds : ℕ → Kind) (effects : ℕ → Effect) (kinds_hold : KindsHold job.style kinds)
    (effects_hold : EffectsHold job.style m kinds effects) where
  -- since the text and the flag had these values, nothing was changed, or less is left
  abbrev pub Since : List ℕ → ℤ → Bool → State → Type 0
  Since x f false s = (text_in m.text s ≡ x) × (flag_in m.flag s ≡ f)
  Since x f true s = left_in m s ≤ left_of f x - 1

  -- the flag is a variable that is there
  abbrev pub Ranged : State → Type 0
  Ranged s = m.flag ≤ length s.store.integers

  abbrev pub Plain : List ℕ → ℤ → Bool → State → Type 0
  Plain x f before s = Since x f before s × Ranged s

  abbrev pub Here : List ℕ → ℤ → Bool → Tops → State → Type 0
  Here x f before tops s = Plain x f before s × On job.style m (text_in m.text s) tops s.store.literals

  abbrev word : List ℕ
  word = word_of job.style m.word

  since_same : (x : List ℕ) (f : ℤ) (before : Bool) (s t : State) → SameVariables s.store t → Since x f before s → Since x f before t
  since_same x f false s t e h = (text_same m.text s t e.1 ∙ h.0, flag_same m.flag s t e.0 ∙ h.1)
  since_same x f true s t e h =
      subst (λ n. n ≤ left_of f x - 1) (sym (left_same m s t (flag_same m.flag s t e.0) (text_same m.text s t e.1))) h

  plain_same : (x : List ℕ) (f : ℤ) (before : Bool) (s t : State) → SameVariables s.store t → Plain x f before s → Plain x f before t
  plain_same x f before s t e h = (since_same x f before s t e h.0, subst (λ (xs : List ℤ). m.flag ≤ length xs) (sym e.0) h.1)

  -- from one place to the next
  joined : (x : List ℕ) (f : ℤ) (before less : Bool) (s t : State) → Since x f before s → Since (text_in m.text s) (flag_in m.flag s) less t
      → Since x f (before || less) t
  joined x f false false s t h k = (k.0 ∙ h.0, k.1 ∙ h.1)
  joined x f false true s t h k =
      subst (λ (y : List ℕ). left_in m t ≤ left_of f y - 1) h.0 (subst (λ (g : ℤ). left_in m t ≤ left_of g (text_in m.text s) - 1) h.1 k)
  joined x f true false s t h k = subst (λ n. n ≤ left_of f x - 1) (sym (left_same m s t k.1 k.0)) h
  joined x f true true s t h k = omega (arith, h, k)

  lowered : (x : List ℕ) (f : ℤ) (before : Bool) (s : State) (n : ℕ) → Since x f before s → n ≤ left_in m s - 1 → n ≤ left_of f x - 1
  lowered x f false s n h l =
      subst (λ (y : List ℕ). n ≤ left_of f y - 1) h.0 (subst (λ (g : ℤ). n ≤ left_of g (text_in m.text s) - 1) h.1 l)
  lowered x f true s n h l = omega (arith, h, l)

  abbrev pub Level : ℕ → Type 0
  Level n = (x : List ℕ) (f : ℤ) (begun before after : Bool) (tops : Tops) (t : Token) → (begun ≡ true → begins word x ≡ true)
      → StepThrough job.style m effects begun before tops t after → (bodies loops left : ℕ) (s : State) → Here x f before tops s
      → IfDone (Here x f after (tops_after job.style m kinds tops t)) (act job n t bodies loops left s)

  tokens_done : (n : ℕ) → Level n → (xs : List Token) (x : List ℕ) (f : ℤ) (begun before after : Bool) (tops : Tops) → (begun ≡ true → begins word x ≡ true)
      → TokensThrough job.style m kinds effects begun before tops xs after → (bodies loops left : ℕ) (s : State) → Here x f before tops s
      → IfDone (Plain x f after) (in_turn (act job n) xs bodies loops left s)
  tokens_done n p [] x f begun before after tops g w bodies loops left s h = subst (λ b. Plain x f b s) (sym w) h.0
  tokens_done n p (t ∷ xs) x f begun before after tops g w bodies loops left s h =
      if_then (Here x f w.0 (tops_after job.style m kinds tops t)) (Plain x f after) (act job n t bodies loops left s) (in_turn (act job n) xs bodies loops)
      (p x f begun before w.0 tops t g w.1.0 bodies loops left s h)
      (λ rest u k. tokens_done n p xs x f begun w.0 after (tops_after job.style m kinds tops t) g w.1.1 bodies loops rest u k)

  -- ---- functions, by their names alone

  callee_step : (f : Callee) (begun less : Bool) → lessens begun (effect_of effects f) ≡ Some less
      → StepThrough job.style m effects begun false nothing_seen (Run f) less
  callee_step (callee.BuiltIn built_in.If) begun less e = absurd (cc)
  callee_step (callee.BuiltIn built_in.While) begun less e = absurd (cc)
  callee_step (callee.BuiltIn built_in.Assign) begun less e = absurd (cc)
  callee_step (callee.BuiltIn b) begun less e =
      (less, (subst (λ c. lessens c (effect_of effects (callee.BuiltIn b)) ≡ Some less) (sym (and_true begun)) e, refl))
  callee_step f begun less e = (less, (subst (λ c. lessens c (effect_of effects f) ≡ Some less) (sym (and_true begun)) e, refl))

  callee_done : (n : ℕ) → Level n → (f : Callee) (begun less : Bool) → lessens begun (effect_of effects f) ≡ Some less → (bodies loops left : ℕ) (s : State)
      → (begun ≡ true → begins word (text_in m.text s) ≡ true) → Ranged s
      → IfDone (Plain (text_in m.text s) (flag_in m.flag s) less) (act job n (Run f) bodies loops left s)
  callee_done n p f begun less e bodies loops left s g r =
      if_weaker (Here (text_in m.text s) (flag_in m.flag s) less (tops_after job.style m kinds nothing_seen (Run f)))
      (Plain (text_in m.text s) (flag_in m.flag s) less) (act job n (Run f) bodies loops left s)
      (p (text_in m.text s) (flag_in m.flag s) begun false less nothing_seen (Run f) g (callee_step f begun less e) bodies loops left s
      (((refl, refl), r), nothing_on job.style m (text_in m.text s) s.store.literals))
      (λ t h. h.0)

  -- .. from a place since which something may have happened
  through_done : (n : ℕ) → Level n → (f : Callee) (begun before after : Bool) → CalleeThrough effects begun before f after → (bodies loops left : ℕ) (s : State)
      → (begun ≡ true → begins word (text_in m.text s) ≡ true) → (x : List ℕ) (g : ℤ) → Plain x g before s
      → IfDone (Plain x g after) (act job n (Run f) bodies loops left s)
  through_done n p f begun before after w bodies loops left s e x g h =
      if_weaker (Plain (text_in m.text s) (flag_in m.flag s) w.0) (Plain x g after) (act job n (Run f) bodies loops left s)
      (callee_done n p f begun w.0 w.1.0 bodies loops left s e h.1)
      (λ t k. (subst (λ b. Since x g b t) (sym w.1.1) (joined x g before w.0 s t h.0 k.0), k.1))

  -- the text begins with the word as long as nothing was changed
  begun_now : (x : List ℕ) (f : ℤ) (begun before : Bool) (s : State) → (begun ≡ true → begins word x ≡ true) → Since x f before s
      → (begun && not before) ≡ true → begins word (text_in m.text s) ≡ true
  begun_now x f true false s g h e = ap (begins word) h.0 ∙ g refl
  begun_now x f true true s g h e = absurd (cc)
  begun_now x f false before s g h e = absurd (cc)

  -- nothing more is known of the stack
  plainly : (x : List ℕ) (f : ℤ) (b : Bool) (o : Outcome) → IfDone (Plain x f b) o → IfDone (Here x f b nothing_seen) o
  plainly x f b o h = if_weaker (Plain x f b) (Here x f b nothing_seen) o h (λ t k. (k, nothing_on job.style m (text_in m.text t) t.store.literals))

  -- ---- tokens that change no variable

  abbrev Kept : Tops → State → State → Type 0
  Kept tops s t = SeenIn job.style m (text_in m.text s) tops s.store t.store

  kept_done : (x : List ℕ) (f : ℤ) (before after : Bool) (tops : Tops) (s : State) (o : Outcome) → after ≡ before → Plain x f before s
      → IfDone (λ t. Kept tops s t) o → IfDone (Here x f after tops) o
  kept_done x f before after tops s o e h k =
      if_weaker (λ t. Kept tops s t) (Here x f after tops) o k
      (λ t q. (
        subst (λ b. Plain x f b t) (sym e) (plain_same x f before s t q.0 h),
        subst (λ (y : List ℕ). On job.style m y tops t.store.literals) (sym (text_same m.text s t q.0.1)) q.1,
      ))

  -- a literal was pushed
  pushed_done : (x : List ℕ) (f : ℤ) (before after : Bool) (tops : Tops) (k : Seen) (y : Literal) (s : State) (o : Outcome) → after ≡ before
      → Here x f before tops s → IsSeen job.style m (text_in m.text s) k y → IfDone (LeavesIn (y ∷ s.store.literals) s.store) o
      → IfDone (Here x f after (tops_of k tops.top tops.below tops.third)) o
  pushed_done x f before after tops k y s o e h is done =
      kept_done x f before after (tops_of k tops.top tops.below tops.third) s o e h.0
      (if_weaker (LeavesIn (y ∷ s.store.literals) s.store) (λ t. Kept (tops_of k tops.top tops.below tops.third) s t) o done
      (λ t q. (
        q.1,
        subst (λ (ys : List Literal). On job.style m (text_in m.text s) (tops_of k tops.top tops.below tops.third) ys) (sym q.0)
            (pushed_on job.style m (text_in m.text s) k tops y s.store.literals is h.1),
      )))

  -- what keeps by its name keeps
  keeps_after : (begun before after : Bool) (f : Callee) → effect_of effects f ≡ effect.Keeps → CalleeThrough effects begun before f after → after ≡ before
  keeps_after begun before after f k w =
      let e : Some false ≡ Some w.0 = ap (lessens begun) (sym k) ∙ w.1.0 in
      let q : w.0 ≡ false = cc in w.1.1 ∙ ap (λ b. before || b) q ∙ or_false before

  single_done : (n : ℕ) (x : List ℕ) (f : ℤ) (before after : Bool) (t : Token) → IsSingleToken t → is_assignment t ≡ false → after ≡ before
      → (bodies loops left : ℕ) (s : State) → Plain x f before s → IfDone (Here x f after nothing_seen) (act job n t bodies loops left s)
  single_done n x f before after t single a e bodies loops left s h =
      kept_done x f before after nothing_seen s _ e h
      (one_to job n t (SeenIn job.style m (text_in m.text s) nothing_seen s.store) bodies loops left s (single_so job.style m (text_in m.text s) job t s.store single a))

  built_in_done : (n : ℕ) (x : List ℕ) (f : ℤ) (before after : Bool) (tops : Tops) (b : BuiltIn) → after ≡ before → (bodies loops left : ℕ) (s : State)
      → Here x f before tops s → AnswerSo (SeenIn job.style m (text_in m.text s) (built_in_seen job.style m tops b) s.store) (step_of job (Run (callee.BuiltIn b)) s.store)
      → IfDone (Here x f after (built_in_seen job.style m tops b)) (act job n (Run (callee.BuiltIn b)) bodies loops left s)
  built_in_done n x f before after tops b e bodies loops left s h so =
      kept_done x f before after (built_in_seen job.style m tops b) s _ e h.0
      (one_to job n (Run (callee.BuiltIn b)) (SeenIn job.style m (text_in m.text s) (built_in_seen job.style m tops b) s.store) bodies loops left s so)

  -- ---- functions of the style

  -- what is said of a function is so of its tokens
  effect_tokens : (e : Effect) (body : List Token) (begun less : Bool) → EffectHolds job.style m kinds effects e body → lessens begun e ≡ Some less
      → (b : Bool) × ((b ≡ true → begun ≡ true) × TokensThrough job.style m kinds effects b false nothing_seen body less)
  effect_tokens effect.Other body begun less h e = absurd (cc)
  effect_tokens effect.Keeps body begun less h e =
      let q : false ≡ less = cc in (false, (λ k. absurd (cc), subst (λ l. TokensThrough job.style m kinds effects false false nothing_seen body l) q h))
  effect_tokens effect.Shortens body begun less h e =
      let q : true ≡ less = cc in (false, (λ k. absurd (cc), subst (λ l. TokensThrough job.style m kinds effects false false nothing_seen body l) q h))
  effect_tokens effect.ShortensIfBegun body true less h e =
      let q : true ≡ less = cc in (true, (λ k. refl, subst (λ l. TokensThrough job.style m kinds effects true false nothing_seen body l) q h))
  effect_tokens effect.ShortensIfBegun body false less h e = absurd (cc)

  user_done : (n : ℕ) → Level n → (number : ℕ) (begun less : Bool) → lessens begun (effects number) ≡ Some less → (bodies loops left : ℕ) (s : State)
      → (begun ≡ true → begins word (text_in m.text s) ≡ true) → Ranged s
      → IfDone (Plain (text_in m.text s) (flag_in m.flag s) less) (act job (suc n) (Run (callee.User number)) bodies loops left s)
  user_done n p number begun less e bodies loops zero s g r = tt
  user_done n p number begun less e bodies loops (suc left) s g r =
      let w = effect_tokens (effects number) (body_of job.style number) begun less (effects_hold number) e in
      opens_to job number s n bodies loops left (Plain (text_in m.text s) (flag_in m.flag s) less)
      (λ t same. tokens_done n p (body_of job.style number) (text_in m.text s) (flag_in m.flag s) w.0 false less nothing_seen (λ b. g (w.1.0 b)) w.1.1
      (bodies + 1) loops left t (
        ((text_same m.text s t same.1, flag_same m.flag s t same.0), subst (λ (xs : List ℤ). m.flag ≤ length xs) (sym same.0) r),
        nothing_on job.style m (text_in m.text t) t.store.literals,
      ))

  -- .. and what it leaves on the stack
  called_done : (n : ℕ) (number : ℕ) (top below third fourth : Seen) (k : Kind) → KindHolds job.style k number → (bodies loops left : ℕ) (s : State)
      → Stands job.style m (text_in m.text s) (top ∷ below ∷ third ∷ fourth ∷ []) s.store.literals
      → IfDone (λ t. On job.style m (text_in m.text t) (called_seen k (tops_of top below third fourth)) t.store.literals)
      (act job n (Run (callee.User number)) bodies loops left s)
  called_done n number top below third fourth k h bodies loops left s st = by k h
    where
      Q : Tops → State → Type 0
      Q tops t = On job.style m (text_in m.text t) tops t.store.literals

      o : Outcome
      o = act job n (Run (callee.User number)) bodies loops left s

      anything : (o : Outcome) → IfDone (Q nothing_seen) o
      anything (Done t rest) = nothing_on job.style m (text_in m.text t) t.store.literals
      anything (Stopped t) = tt
      anything (Limit kind t rest) = tt

      truth_is : (b : Bool) → (i : ℤ) × (truth b ≡ literal.Integer i)
      truth_is true = (pos 1, refl)
      truth_is false = (pos 0, refl)

      negated : KindHolds job.style kind.Not number → (b : Bool) → is_number top ≡ b
          → IfDone (Q (cond b (tops_of seen.Number below third fourth) nothing_seen)) o
      negated h false e = anything o
      negated h true e =
          let a = there job.style m (text_in m.text s) top (below ∷ third ∷ fourth ∷ []) s.store.literals
          (known_value job.style m (text_in m.text s) top (value_number top e)) st in
          let i = number_is job.style m (text_in m.text s) top a.first e a.seen_so in
          if_weaker (LeavesIn (truth (not (is_positive i.0)) ∷ a.others) s.store) (Q (tops_of seen.Number below third fourth)) o
          (not_to job n number h.0 h.1.0 h.1.1 i.0 a.others bodies loops left s (a.is ∙ ap (λ (y : Literal). y ∷ a.others) i.1))
          (λ t q.
          subst (λ (y : List ℕ). On job.style m y (tops_of seen.Number below third fourth) t.store.literals) (sym (text_same m.text s t q.1.1))
          (subst (λ (ys : List Literal). On job.style m (text_in m.text s) (tops_of seen.Number below third fourth) ys) (sym q.0)
          (stands_on job.style m (text_in m.text s) seen.Number (below ∷ third ∷ fourth ∷ []) (truth (not (is_positive i.0))) a.others
          (truth_is (not (is_positive i.0))) a.below)))

      either : KindHolds job.style kind.Or number → (b : Bool) → (is_number top && is_number below) ≡ b
          → IfDone (Q (cond b (tops_of seen.Number third fourth seen.Anything) nothing_seen)) o
      either h false e = anything o
      either h true e =
          let both = and_both (is_number top) (is_number below) e in
          let a = there job.style m (text_in m.text s) top (below ∷ third ∷ fourth ∷ []) s.store.literals
          (known_value job.style m (text_in m.text s) top (value_number top both.0)) st in
          let b = there job.style m (text_in m.text s) below (third ∷ fourth ∷ []) a.others
          (known_value job.style m (text_in m.text s) below (value_number below both.1)) a.below in
          let i = number_is job.style m (text_in m.text s) top a.first both.0 a.seen_so in
          let j = number_is job.style m (text_in m.text s) below b.first both.1 b.seen_so in
          if_weaker (LeavesIn (literal.Integer (one_if (is_positive i.0) j.0) ∷ b.others) s.store) (Q (tops_of seen.Number third fourth seen.Anything)) o
          (or_to job n number h.0 h.1 i.0 j.0 b.others bodies loops left s
          (a.is ∙ ap (λ (y : Literal). y ∷ a.others) i.1
          ∙ ap (λ (ys : List Literal). literal.Integer i.0 ∷ ys) (b.is ∙ ap (λ (y : Literal). y ∷ b.others) j.1)))
          (λ t q.
          subst (λ (y : List ℕ). On job.style m y (tops_of seen.Number third fourth seen.Anything) t.store.literals) (sym (text_same m.text s t q.1.1))
          (subst (λ (ys : List Literal). On job.style m (text_in m.text s) (tops_of seen.Number third fourth seen.Anything) ys) (sym q.0)
          (stands_on job.style m (text_in m.text s) seen.Number (third ∷ fourth ∷ seen.Anything ∷ []) (literal.Integer (one_if (is_positive i.0) j.0)) b.others
          (one_if (is_positive i.0) j.0, refl) (padded_two job.style m (text_in m.text s) third fourth b.others b.below))))

      by : (k : Kind) → KindHolds job.style k number → IfDone (Q (called_seen k (tops_of top below third fourth))) o
      by kind.Other h = anything o
      by kind.And h = anything o
      by kind.Not h = negated h (is_number top) refl
      by kind.Or h = either h (is_number top && is_number below) refl

  call_done : (n : ℕ) → Level n → (x : List ℕ) (f : ℤ) (begun before after : Bool) (tops : Tops) (number : ℕ) → (begun ≡ true → begins word x ≡ true)
      → CalleeThrough effects (begun && not before) before (callee.User number) after → (bodies loops left : ℕ) (s : State) → Here x f before tops s
      → IfDone (Here x f after (called_seen (kinds number) tops)) (act job (suc n) (Run (callee.User number)) bodies loops left s)
  call_done n p x f begun before after tops number g w bodies loops left s h =
      both_if (Plain x f after) (λ t. On job.style m (text_in m.text t) (called_seen (kinds number) tops) t.store.literals)
      (act job (suc n) (Run (callee.User number)) bodies loops left s)
      (if_weaker (Plain (text_in m.text s) (flag_in m.flag s) w.0) (Plain x f after) (act job (suc n) (Run (callee.User number)) bodies loops left s)
      (user_done n p number (begun && not before) w.0 w.1.0 bodies loops left s (begun_now x f begun before s g h.0.0) h.0.1)
      (λ t k. (subst (λ b. Since x f b t) (sym w.1.1) (joined x f before w.0 s t h.0.0 k.0), k.1)))
      (called_done (suc n) number tops.top tops.below tops.third tops.fourth (kinds number) (kinds_hold number) bodies loops left s h.1)

  -- ---- choices

  choice_step : (f g : Callee) (i : ℤ) (ys : List Literal) (s : Store) → s.literals ≡ literal.Function g ∷ literal.Function f ∷ literal.Integer i ∷ ys
      → step_of job (Run (callee.BuiltIn built_in.If)) s ≡ quiet (next.Run (kept_control.chosen (is_positive i) f g)) (with_literals ys s)
  unfolding step_of function_run built_in_run
  choice_step f g i ys s e = ap (λ xs. on_operands (row built_in.If).operands (row built_in.If).default kept_control.chooses xs s) e

  pub choose_at : (e : ℕ) (f g : Callee) (i : ℤ) (ys : List Literal) (Q : State → Type 0) (bodies loops left : ℕ) (s : State)
      → s.store.literals ≡ literal.Function g ∷ literal.Function f ∷ literal.Integer i ∷ ys
      → ((less : ℕ) (t : State) → SameVariables s.store t → IfDone Q (act job e (Run (kept_control.chosen (is_positive i) f g)) bodies loops less t))
      → IfDone Q (act job (suc e) (Run (callee.BuiltIn built_in.If)) bodies loops left s)
  unfolding token_effect
  choose_at e f g i ys Q bodies loops zero s is h = tt
  choose_at e f g i ys Q bodies loops (suc left) s is h =
      by (step_of job (Run (callee.BuiltIn built_in.If)) s.store) (choice_step f g i ys s.store is)
    where
      by : (a : Answer) → a ≡ quiet (next.Run (kept_control.chosen (is_positive i) f g)) (with_literals ys s.store)
          → IfDone Q (follow job (act job e) e a.next
          (state a.store (said_on job (executed_by job.style.names (Run (callee.BuiltIn built_in.If))) a.store.current a.said s.out)) bodies loops left)
      by a e2 = subst (λ (b : Answer). IfDone Q (follow job (act job e) e b.next
          (state b.store (said_on job (executed_by job.style.names (Run (callee.BuiltIn built_in.If))) b.store.current b.said s.out)) bodies loops left)) (sym e2)
          (h left _ (refl, refl))

  begins_seen : (third : Seen) (y : Literal) (i : ℤ) (text : List ℕ) → is_begins third ≡ true → y ≡ literal.Integer i → IsSeen job.style m text third y
      → is_positive i ≡ true → begins word text ≡ true
  begins_seen seen.Begins y i text e q h so = let k : h.0 ≡ i = cc (q, h.1.0) in h.1.1 (ap is_positive k ∙ so)
  begins_seen seen.Anything y i text e q h so = absurd (cc)
  begins_seen (seen.Function f) y i text e q h so = absurd (cc)
  begins_seen (seen.Integer n) y i text e q h so = absurd (cc)
  begins_seen seen.Number y i text e q h so = absurd (cc)
  begins_seen seen.Text y i text e q h so = absurd (cc)
  begins_seen (seen.Word w) y i text e q h so = absurd (cc)
  begins_seen seen.Whole y i text e q h so = absurd (cc)
  begins_seen seen.Start y i text e q h so = absurd (cc)
  begins_seen seen.Shorter y i text e q h so = absurd (cc)

  chosen_done : (n : ℕ) → Level n → (x : List ℕ) (v : ℤ) (begun before after : Bool) (g f : Callee) (third fourth : Seen)
      → (begun ≡ true → begins word x ≡ true) → ChosenThrough effects (begun && not before) before g f third after
      → (bodies loops left : ℕ) (s : State) → Plain x v before s
      → Stands job.style m (text_in m.text s) (seen.Function g ∷ seen.Function f ∷ third ∷ fourth ∷ []) s.store.literals
      → IfDone (Here x v after nothing_seen) (act job (suc n) (Run (callee.BuiltIn built_in.If)) bodies loops left s)
  chosen_done n p x v begun before after g f third fourth known w bodies loops left s h st =
      let text = text_in m.text s in
      let a = there job.style m text (seen.Function g) (seen.Function f ∷ third ∷ fourth ∷ []) s.store.literals refl st in
      let b = there job.style m text (seen.Function f) (third ∷ fourth ∷ []) a.others refl a.below in
      let c = there job.style m text third (fourth ∷ []) b.others (known_value job.style m text third (value_number third w.0)) b.below in
      let i = number_is job.style m text third c.first w.0 c.seen_so in
      let top : s.store.literals ≡ literal.Function g ∷ literal.Function f ∷ literal.Integer i.0 ∷ c.others =
      a.is ∙ ap (λ (y : Literal). y ∷ a.others) a.seen_so
      ∙ ap (λ (ys : List Literal). literal.Function g ∷ ys) (b.is ∙ ap (λ (y : Literal). y ∷ b.others) b.seen_so
      ∙ ap (λ (ys : List Literal). literal.Function f ∷ ys) (c.is ∙ ap (λ (y : Literal). y ∷ c.others) i.1)) in
      plainly x v after (act job (suc n) (Run (callee.BuiltIn built_in.If)) bodies loops left s)
      (choose_at n f g i.0 c.others (Plain x v after) bodies loops left s top
      (λ less t same. chosen (is_positive i.0) (λ q.
      elim (or_cases (begun && not before) (is_begins third) q)
      [ inl k ↦ λ so. begun_now x v begun before s known h.0 k | inr k ↦ λ so. begins_seen third c.first i.0 text k i.1 c.seen_so so ]) less t same))
    where
      chosen : (b : Bool) → (((begun && not before) || is_begins third) ≡ true → b ≡ true → begins word (text_in m.text s) ≡ true) → (less : ℕ) (t : State)
          → SameVariables s.store t → IfDone (Plain x v after) (act job n (Run (kept_control.chosen b f g)) bodies loops less t)
      chosen true e less t same =
          through_done n p f ((begun && not before) || is_begins third) before after w.1.0 bodies loops less t
          (λ q. ap (begins word) (text_same m.text s t same.1) ∙ e q refl) x v (plain_same x v before s t same h)
      chosen false e less t same =
          through_done n p g (begun && not before) before after w.1.1 bodies loops less t
          (λ q. ap (begins word) (text_same m.text s t same.1) ∙ begun_now x v begun before s known h.0 q) x v (plain_same x v before s t same h)

  -- whatever the literal below them is, one of the two is executed or neither
  choose_any : (e : ℕ) (f g : Callee) (ys : List Literal) (Q : State → Type 0) (bodies loops left : ℕ) (s : State)
      → s.store.literals ≡ literal.Function g ∷ literal.Function f ∷ ys → ((t : State) → SameVariables s.store t → Q t)
      → ((h : Callee) → (h ≡ f) ⊎ (h ≡ g) → (less : ℕ) (t : State) → SameVariables s.store t → IfDone Q (act job e (Run h) bodies loops less t))
      → IfDone Q (act job (suc e) (Run (callee.BuiltIn built_in.If)) bodies loops left s)
  unfolding token_effect
  choose_any e f g ys Q bodies loops zero s is q k = tt
  choose_any e f g ys Q bodies loops (suc left) s is q k =
      by (step_of job (Run (callee.BuiltIn built_in.If)) s.store).next _ (choice_next job f g ys s.store is) (
        ap (λ (r : Store). r.integers) (variables_stay job (Run (callee.BuiltIn built_in.If)) s.store refl),
        ap (λ (r : Store). r.strings) (variables_stay job (Run (callee.BuiltIn built_in.If)) s.store refl),
      )
    where
      by : (after : Next) (u : State) → OneOf f g after → SameVariables s.store u → IfDone Q (follow job (act job e) e after u bodies loops left)
      by next.Nothing u o same = q u same
      by (next.End limit) u o same = tt
      by (next.Run h) u o same = k h o left u same
      by (next.Open number) u o same = absurd o
      by (next.Loop a b) u o same = absurd o

  neither_done : (n : ℕ) → Level n → (x : List ℕ) (v : ℤ) (begun before after : Bool) (g f : Callee) (third fourth : Seen)
      → (begun ≡ true → begins word x ≡ true) → NeitherThrough effects (begun && not before) before g f after
      → (bodies loops left : ℕ) (s : State) → Plain x v before s
      → Stands job.style m (text_in m.text s) (seen.Function g ∷ seen.Function f ∷ third ∷ fourth ∷ []) s.store.literals
      → IfDone (Here x v after nothing_seen) (act job (suc n) (Run (callee.BuiltIn built_in.If)) bodies loops left s)
  neither_done n p x v begun before after g f third fourth known w bodies loops left s h st =
      let text = text_in m.text s in
      let a = there job.style m text (seen.Function g) (seen.Function f ∷ third ∷ fourth ∷ []) s.store.literals refl st in
      let b = there job.style m text (seen.Function f) (third ∷ fourth ∷ []) a.others refl a.below in
      plainly x v after (act job (suc n) (Run (callee.BuiltIn built_in.If)) bodies loops left s)
      (choose_any n f g b.others (Plain x v after) bodies loops left s
      (a.is ∙ ap (λ (y : Literal). y ∷ a.others) a.seen_so
      ∙ ap (λ (ys : List Literal). literal.Function g ∷ ys) (b.is ∙ ap (λ (y : Literal). y ∷ b.others) b.seen_so))
      (λ t same. subst (λ c. Plain x v c t) (sym w.0) (plain_same x v before s t same h))
      (λ k o less t same. executed k o less t same))
    where
      through : (k : Callee) → CalleeThrough effects (begun && not before) before k after → (less : ℕ) (t : State) → SameVariables s.store t
          → IfDone (Plain x v after) (act job n (Run k) bodies loops less t)
      through k c less t same =
          through_done n p k (begun && not before) before after c bodies loops less t
          (λ q. ap (begins word) (text_same m.text s t same.1) ∙ begun_now x v begun before s known h.0 q) x v (plain_same x v before s t same h)

      executed : (k : Callee) → (k ≡ f) ⊎ (k ≡ g) → (less : ℕ) (t : State) → SameVariables s.store t
          → IfDone (Plain x v after) (act job n (Run k) bodies loops less t)
      executed k (inl e) less t same = through k (subst (λ c. CalleeThrough effects (begun && not before) before c after) (sym e) w.1.0) less t same
      executed k (inr e) less t same = through k (subst (λ c. CalleeThrough effects (begun && not before) before c after) (sym e) w.1.1) less t same

  choice_done : (n : ℕ) → Level n → (x : List ℕ) (v : ℤ) (begun before after : Bool) (top below third fourth : Seen)
      → (begun ≡ true → begins word x ≡ true) → ChoiceThrough effects (begun && not before) before top below third after
      → (bodies loops left : ℕ) (s : State) → Plain x v before s
      → Stands job.style m (text_in m.text s) (top ∷ below ∷ third ∷ fourth ∷ []) s.store.literals
      → IfDone (Here x v after nothing_seen) (act job (suc n) (Run (callee.BuiltIn built_in.If)) bodies loops left s)
  choice_done n p x v begun before after (seen.Function g) (seen.Function f) third fourth known (inl w) bodies loops left s h st =
      chosen_done n p x v begun before after g f third fourth known w bodies loops left s h st
  choice_done n p x v begun before after (seen.Function g) (seen.Function f) third fourth known (inr w) bodies loops left s h st =
      neither_done n p x v begun before after g f third fourth known w bodies loops left s h st
  choice_done n p x v begun before after (seen.Function g) below third fourth known w bodies loops left s h st = absurd w
  choice_done n p x v begun before after top below third fourth known w bodies loops left s h st = absurd w

  -- ---- loops

  loop_step : (f g : Callee) (ys : List Literal) (s : Store) → s.literals ≡ literal.Function g ∷ literal.Function f ∷ ys
      → step_of job (Run (callee.BuiltIn built_in.While)) s ≡ quiet (next.Loop f g) (with_literals ys s)
  unfolding step_of function_run built_in_run
  loop_step f g ys s e = ap (λ xs. on_operands (row built_in.While).operands (row built_in.While).default kept_control.loops xs s) e

  loop_at : (e : ℕ) (f g : Callee) (ys : List Literal) (Q : State → Type 0) (bodies loops left : ℕ) (s : State)
      → s.store.literals ≡ literal.Function g ∷ literal.Function f ∷ ys
      → ((less : ℕ) (t : State) → SameVariables s.store t → IfDone Q (turns job e (act job e (Run f)) (act job e (Run g)) bodies (loops + 1) less t))
      → IfDone Q (act job (suc e) (Run (callee.BuiltIn built_in.While)) bodies loops left s)
  unfolding token_effect
  loop_at e f g ys Q bodies loops zero s is h = tt
  loop_at e f g ys Q bodies loops (suc left) s is h =
      by (step_of job (Run (callee.BuiltIn built_in.While)) s.store) (loop_step f g ys s.store is)
    where
      turned : (more : Bool) (t : State) → SameVariables s.store t → IfDone Q (turns_if job more e (act job e (Run f)) (act job e (Run g)) bodies loops left t)
      turned true t same = h left t same
      turned false t same = tt

      by : (a : Answer) → a ≡ quiet (next.Loop f g) (with_literals ys s.store)
          → IfDone Q (follow job (act job e) e a.next
          (state a.store (said_on job (executed_by job.style.names (Run (callee.BuiltIn built_in.While))) a.store.current a.said s.out)) bodies loops left)
      by a e2 = subst (λ (b : Answer). IfDone Q (follow job (act job e) e b.next
          (state b.store (said_on job (executed_by job.style.names (Run (callee.BuiltIn built_in.While))) b.store.current b.said s.out)) bodies loops left)) (sym e2)
          (turned (nat_lt loops most_loops) _ (refl, refl))

  after_done : (Q : State → Type 0) (again : Bool) (t : State) (left : ℕ) (go : ℕ → State → Outcome) → (again ≡ false → Q t) → IfDone Q (go left t)
      → IfDone Q (after_test again t left go)
  after_done Q true t left go h f = f
  after_done Q false t left go h f = h refl

  -- turns of which each keeps something keep it
  turns_done : (x : List ℕ) (v : ℤ) (b : Bool) (test body : Action)
      → ((bodies loops left : ℕ) (s : State) → Plain x v b s → IfDone (Plain x v b) (test bodies loops left s))
      → ((bodies loops left : ℕ) (s : State) → Plain x v b s → IfDone (Plain x v b) (body bodies loops left s)) → (most bodies loops left : ℕ) (s : State)
      → Plain x v b s → IfDone (Plain x v b) (turns job most test body bodies loops left s)
  turns_done x v b test body f g zero bodies loops left s h = tt
  turns_done x v b test body f g (suc most) bodies loops left s h =
      if_then (Plain x v b) (Plain x v b) (test bodies loops left s) _ (f bodies loops left s h)
      (λ rest t k. let u = plain_same x v b t (turn_of job t).state (turn_same job t) k in
      after_done (Plain x v b) (turn_of job t).again (turn_of job t).state rest _ (λ e. u)
      (if_then (Plain x v b) (Plain x v b) (body bodies loops rest (turn_of job t).state) (turns job most test body bodies loops)
      (g bodies loops rest (turn_of job t).state u)
      (λ rest1 w k1. turns_done x v b test body f g most bodies loops rest1 w k1)))

  -- .. by the name of a function that keeps, or shortens where less is left already
  name_done : (n : ℕ) → Level n → (x : List ℕ) (v : ℤ) (before less : Bool) (f : Callee) → lessens false (effect_of effects f) ≡ Some less
      → (bodies loops left : ℕ) (s : State) → Plain x v before s → IfDone (Plain x v (before || less)) (act job n (Run f) bodies loops left s)
  name_done n p x v before less f e bodies loops left s h =
      through_done n p f false before (before || less) (less, (e, refl)) bodies loops left s (λ q. absurd (cc)) x v h

  first_turn : (n : ℕ) → Level n → (x : List ℕ) (v : ℤ) (number : ℕ) (body : Callee) → lessens false (effect_of effects (callee.User number)) ≡ Some false
      → lessens false (effect_of effects body) ≡ Some true → (w : ℕ) → body_of job.style number ≡ begins_test m.text w
      → word_of job.style w ≡ word → begins word x ≡ true → (most bodies loops left : ℕ) (s : State) → Plain x v false s
      → IfDone (Plain x v true) (turns job most (act job n (Run (callee.User number))) (act job n (Run body)) bodies loops left s)
  first_turn n p x v number body et eb w is same known zero bodies loops left s h = tt
  first_turn n p x v number body et eb w is same known (suc most) bodies loops left s h =
      let test = act job n (Run (callee.User number)) in
      let told = begins (word_of job.style w) (text_in m.text s) in
      if_then (λ t. Plain x v false t × LeavesIn (truth told ∷ s.store.literals) s.store t) (Plain x v true) (test bodies loops left s) _
      (both_if (Plain x v false) (LeavesIn (truth told ∷ s.store.literals) s.store) (test bodies loops left s)
      (name_done n p x v false false (callee.User number) et bodies loops left s h)
      (begins_to job n number m.text w is bodies loops left s))
      (λ rest t k.
      let u = plain_same x v false t (turn_of job t).state (turn_same job t) k.0 in
      let so : told ≡ true = ap (λ (ws : List ℕ). begins ws (text_in m.text s)) same ∙ ap (begins word) h.0.0 ∙ known in
      after_done (Plain x v true) (turn_of job t).again (turn_of job t).state rest _
      (λ e. absurd (let q = sym (turn_again job told s.store.literals t k.1.0) ∙ e in true≢false (sym so ∙ q)))
      (if_then (Plain x v true) (Plain x v true) (act job n (Run body) bodies loops rest (turn_of job t).state) (turns job most test (act job n (Run body)) bodies loops)
      (name_done n p x v false true body eb bodies loops rest (turn_of job t).state u)
      (λ rest1 z k1. turns_done x v true test (act job n (Run body)) (λ bs ls l s1 h1. name_done n p x v true false (callee.User number) et bs ls l s1 h1)
      (λ bs ls l s1 h1. name_done n p x v true true body eb bs ls l s1 h1) most bodies loops rest1 z k1)))

  keeps_lessens : (f : Callee) → effect_of effects f ≡ effect.Keeps → lessens false (effect_of effects f) ≡ Some false
  keeps_lessens f e = ap (lessens false) e

  shortens_lessens : (f : Callee) → effect_of effects f ≡ effect.Shortens → lessens false (effect_of effects f) ≡ Some true
  shortens_lessens f e = ap (lessens false) e

  turned_done : (n : ℕ) → Level n → (x : List ℕ) (v : ℤ) (begun before after : Bool) (body test : Callee) (third fourth : Seen)
      → (begun ≡ true → begins word x ≡ true) → LoopThrough job.style m effects (begun && not before) before (seen.Function body) (seen.Function test) after
      → (bodies loops left : ℕ) (s : State) → Plain x v before s
      → Stands job.style m (text_in m.text s) (seen.Function body ∷ seen.Function test ∷ third ∷ fourth ∷ []) s.store.literals
      → IfDone (Here x v after nothing_seen) (act job (suc n) (Run (callee.BuiltIn built_in.While)) bodies loops left s)
  turned_done n p x v begun before after body test third fourth known w bodies loops left s h st =
      let text = text_in m.text s in
      let a = there job.style m text (seen.Function body) (seen.Function test ∷ third ∷ fourth ∷ []) s.store.literals refl st in
      let b = there job.style m text (seen.Function test) (third ∷ fourth ∷ []) a.others refl a.below in
      plainly x v after (act job (suc n) (Run (callee.BuiltIn built_in.While)) bodies loops left s)
      (loop_at n test body b.others (Plain x v after) bodies loops left s
      (a.is ∙ ap (λ (y : Literal). y ∷ a.others) a.seen_so
      ∙ ap (λ (ys : List Literal). literal.Function body ∷ ys) (b.is ∙ ap (λ (y : Literal). y ∷ b.others) b.seen_so))
      (λ less t same. turning w.1 less t same))
    where
      begun_test : (f : Callee) → IsBeginsTest job.style m f → effect_of effects f ≡ effect.Keeps → effect_of effects body ≡ effect.Shortens
          → begins word (text_in m.text s) ≡ true → begun ≡ true → before ≡ false → (less : ℕ) (t : State) → SameVariables s.store t
          → IfDone (Plain x v true) (turns job n (act job n (Run f)) (act job n (Run body)) bodies (loops + 1) less t)
      begun_test (callee.User number) i et eb so bg bf less t same =
          first_turn n p x v number body (keeps_lessens (callee.User number) et) (shortens_lessens body eb) i.0 i.1.0 i.1.1 (known bg) n bodies (loops + 1) less t
          (subst (λ c. Plain x v c t) bf (plain_same x v before s t same h))
      begun_test (callee.BuiltIn f) i et eb so bg bf less t same = absurd i
      begun_test (callee.Field f) i et eb so bg bf less t same = absurd i
      begun_test (callee.EntryInteger f) i et eb so bg bf less t same = absurd i
      begun_test (callee.EntryString f) i et eb so bg bf less t same = absurd i
      begun_test (callee.GlobalInteger f) i et eb so bg bf less t same = absurd i
      begun_test (callee.GlobalString f) i et eb so bg bf less t same = absurd i

      nothing_before : (b c : Bool) → (b && not c) ≡ true → (b ≡ true) × (c ≡ false)
      nothing_before true false e = (refl, refl)
      nothing_before true true e = absurd (cc)
      nothing_before false c e = absurd (cc)

      same_after : (less : ℕ) (t : State) → SameVariables s.store t → effect_of effects test ≡ effect.Keeps → effect_of effects body ≡ effect.Keeps
          → IfDone (Plain x v before) (turns job n (act job n (Run test)) (act job n (Run body)) bodies (loops + 1) less t)
      same_after less t same et eb =
          turns_done x v before (act job n (Run test)) (act job n (Run body))
          (λ bs ls l s1 h1. subst (λ c. IfDone (Plain x v c) (act job n (Run test) bs ls l s1)) (or_false before)
          (name_done n p x v before false test (keeps_lessens test et) bs ls l s1 h1))
          (λ bs ls l s1 h1. subst (λ c. IfDone (Plain x v c) (act job n (Run body) bs ls l s1)) (or_false before)
          (name_done n p x v before false body (keeps_lessens body eb) bs ls l s1 h1))
          n bodies (loops + 1) less t (plain_same x v before s t same h)

      -- where less is left already, each turn leaves it so
      less_after : (less : ℕ) (t : State) → SameVariables s.store t → before ≡ true → effect_of effects test ≡ effect.Keeps → effect_of effects body ≡ effect.Shortens
          → IfDone (Plain x v true) (turns job n (act job n (Run test)) (act job n (Run body)) bodies (loops + 1) less t)
      less_after less t same bt et eb =
          turns_done x v true (act job n (Run test)) (act job n (Run body))
          (λ bs ls l s1 h1. name_done n p x v true false test (keeps_lessens test et) bs ls l s1 h1)
          (λ bs ls l s1 h1. name_done n p x v true true body (shortens_lessens body eb) bs ls l s1 h1)
          n bodies (loops + 1) less t (subst (λ c. Plain x v c t) bt (plain_same x v before s t same h))

      turning : ((effect_of effects body ≡ effect.Keeps) × (after ≡ before))
          ⊎ ((effect_of effects body ≡ effect.Shortens) × ((after ≡ true) × ((before ≡ true) ⊎ (IsBeginsTest job.style m test × ((begun && not before) ≡ true)))))
          → (less : ℕ) (t : State) → SameVariables s.store t
          → IfDone (Plain x v after) (turns job n (act job n (Run test)) (act job n (Run body)) bodies (loops + 1) less t)
      turning (inl k) less t same =
          subst (λ c. IfDone (Plain x v c) (turns job n (act job n (Run test)) (act job n (Run body)) bodies (loops + 1) less t)) (sym k.1)
          (same_after less t same w.0 k.0)
      turning (inr k) less t same =
          subst (λ c. IfDone (Plain x v c) (turns job n (act job n (Run test)) (act job n (Run body)) bodies (loops + 1) less t)) (sym k.1.0)
          (elim k.1.1 [
            | inl bt ↦ less_after less t same bt w.0 k.0
            | inr i ↦ (let q = nothing_before begun before i.1 in begun_test test i.0 w.0 k.0 (begun_now x v begun before s known h.0 i.1) q.0 q.1 less t same)
          ])

  loop_done : (n : ℕ) → Level n → (x : List ℕ) (v : ℤ) (begun before after : Bool) (top below third fourth : Seen)
      → (begun ≡ true → begins word x ≡ true) → LoopThrough job.style m effects (begun && not before) before top below after
      → (bodies loops left : ℕ) (s : State) → Plain x v before s
      → Stands job.style m (text_in m.text s) (top ∷ below ∷ third ∷ fourth ∷ []) s.store.literals
      → IfDone (Here x v after nothing_seen) (act job (suc n) (Run (callee.BuiltIn built_in.While)) bodies loops left s)
  loop_done n p x v begun before after (seen.Function body) (seen.Function test) third fourth known w bodies loops left s h st =
      turned_done n p x v begun before after body test third fourth known w bodies loops left s h st
  loop_done n p x v begun before after (seen.Function body) below third fourth known w bodies loops left s h st = absurd w
  loop_done n p x v begun before after top below third fourth known w bodies loops left s h st = absurd w

  -- ---- assignments

  -- the text and the flag are as in `s`, and no variable is gone
  abbrev Unchanged : State → Store → Type 0
  Unchanged s r = (text_in m.text (state r s.out) ≡ text_in m.text s)
      × ((flag_in m.flag (state r s.out) ≡ flag_in m.flag s) × (length r.integers ≡ length s.store.integers))

  unchanged_plain : (x : List ℕ) (v : ℤ) (before : Bool) (s t : State) → Unchanged s t.store → Plain x v before s → Plain x v before t
  unchanged_plain x v before s t q h =
      let e : flag_in m.flag t ≡ flag_in m.flag s = flag_same m.flag (state t.store s.out) t refl ∙ q.1.0 in
      (by before e h.0, subst (λ n. m.flag ≤ n) (sym q.1.1) h.1)
    where
      by : (before : Bool) → flag_in m.flag t ≡ flag_in m.flag s → Since x v before s → Since x v before t
      by false e k = (q.0 ∙ k.0, e ∙ k.1)
      by true e k = subst (λ n. n ≤ left_of v x - 1) (sym (left_same m s t e q.0)) k

  -- a variable that is neither
  abbrev NotOurs : Callee → Type 0
  NotOurs (callee.GlobalInteger w) = suc w ≢ m.flag
  NotOurs (callee.GlobalString i) = i ≢ m.text
  NotOurs f = Unit {0}

  flag_elsewhere : (k w : ℕ) (n : ℤ) (s : State) (ys : List Literal) → suc w ≢ k
      → flag_in k (state (variables.with_global_integer w n (with_literals ys s.store)) s.out) ≡ flag_in k s
  flag_elsewhere zero w n s ys h = refl
  flag_elsewhere (suc v) w n s ys h = ap (λ (o : Option ℤ). unwrap_or o (pos 0)) (set_elsewhere s.store.integers w v n (λ e. h (ap suc e)))

  -- the same, whatever the literals
  flag_stays : (k : ℕ) (s : State) (r : Store) → r.integers ≡ s.store.integers → flag_in k (state r s.out) ≡ flag_in k s
  flag_stays k s r e = flag_same k s (state r s.out) e

  stays : (s : State) (r : Store) → r.integers ≡ s.store.integers → r.strings ≡ s.store.strings → Unchanged s r
  stays s r e q =
      (ap (λ (ts : List (List ℕ)). unwrap_or (slice_get ts m.text) []) q, (flag_stays m.flag s r e, ap (λ (xs : List ℤ). length xs) e))

  integer_stays : (w : ℕ) (y : Literal) (ys : List Literal) (s : State) → suc w ≢ m.flag
      → AnswerSo (Unchanged s) (variables.stores_integer (variables.with_global_integer w) y (with_literals ys s.store))
  integer_stays w (literal.Integer n) ys s h = (refl, (flag_elsewhere m.flag w n s ys h, length-slice_set s.store.integers w n))
  integer_stays w (literal.Text z) ys s h = stays s (with_literals ys s.store) refl refl
  integer_stays w (literal.Function f) ys s h = stays s (with_literals ys s.store) refl refl
  integer_stays w literal.Missing ys s h = stays s (with_literals ys s.store) refl refl

  string_stays : (most i : ℕ) (y : Literal) (ys : List Literal) (s : State) → i ≢ m.text
      → AnswerSo (Unchanged s) (variables.stores_string most (variables.with_global_string i) y (with_literals ys s.store))
  string_stays most i (literal.Text z) ys s h = (
    ap (λ (o : Option (List ℕ)). unwrap_or o []) (put_elsewhere s.store.strings i m.text (take most z) h),
    (flag_stays m.flag s (variables.with_global_string i (take most z) (with_literals ys s.store)) refl, refl),
  )
  string_stays most i (literal.Integer n) ys s h = stays s (with_literals ys s.store) refl refl
  string_stays most i (literal.Function f) ys s h = stays s (with_literals ys s.store) refl refl
  string_stays most i literal.Missing ys s h = stays s (with_literals ys s.store) refl refl

  entry_integer_stays : (current : Option ℕ) (w : ℕ) (y : Literal) (ys : List Literal) (s : State)
      → AnswerSo (Unchanged s) (variables.in_entry (λ entry. variables.stores_integer (variables.with_entry_integer entry w) y) current (with_literals ys s.store))
  entry_integer_stays None w y ys s = stays s (with_literals ys s.store) refl refl
  entry_integer_stays (Some entry) w (literal.Integer n) ys s = stays s (variables.with_entry_integer entry w n (with_literals ys s.store)) refl refl
  entry_integer_stays (Some entry) w (literal.Text z) ys s = stays s (with_literals ys s.store) refl refl
  entry_integer_stays (Some entry) w (literal.Function f) ys s = stays s (with_literals ys s.store) refl refl
  entry_integer_stays (Some entry) w literal.Missing ys s = stays s (with_literals ys s.store) refl refl

  entry_string_stays : (most : ℕ) (current : Option ℕ) (w : ℕ) (y : Literal) (ys : List Literal) (s : State)
      → AnswerSo (Unchanged s)
      (variables.in_entry (λ entry. variables.stores_string most (variables.with_entry_string entry w) y) current (with_literals ys s.store))
  entry_string_stays most None w y ys s = stays s (with_literals ys s.store) refl refl
  entry_string_stays most (Some entry) w (literal.Text z) ys s = stays s (variables.with_entry_string entry w (take most z) (with_literals ys s.store)) refl refl
  entry_string_stays most (Some entry) w (literal.Integer n) ys s = stays s (with_literals ys s.store) refl refl
  entry_string_stays most (Some entry) w (literal.Function f) ys s = stays s (with_literals ys s.store) refl refl
  entry_string_stays most (Some entry) w literal.Missing ys s = stays s (with_literals ys s.store) refl refl

  assigned_stays : (f : Callee) → NotOurs f → (y : Literal) (ys : List Literal) (s : State)
      → AnswerSo (Unchanged s) (variables.assigns job f y (with_literals ys s.store))
  assigned_stays (callee.GlobalInteger w) h y ys s = integer_stays w y ys s h
  assigned_stays (callee.GlobalString i) h y ys s = string_stays job.global_max i y ys s h
  assigned_stays (callee.EntryInteger w) h y ys s = entry_integer_stays s.store.current w y ys s
  assigned_stays (callee.EntryString w) h y ys s = entry_string_stays job.entry_max s.store.current w y ys s
  assigned_stays (callee.BuiltIn b) h y ys s = stays s (with_literals ys s.store) refl refl
  assigned_stays (callee.User i) h y ys s = stays s (with_literals ys s.store) refl refl
  assigned_stays (callee.Field i) h y ys s = stays s (with_literals ys s.store) refl refl

  taken_stays : (f : Callee) → NotOurs f → (ls : List Literal) (s : State)
      → AnswerSo (Unchanged s) (on_operands (row built_in.Assign).operands (row built_in.Assign).default (variables.assigns job) (literal.Function f ∷ ls) s.store)
  taken_stays f h [] s = stays s (with_literals [] s.store) refl refl
  taken_stays f h (y ∷ ys) s = assigned_stays f h y ys s

  assign_step : (ls : List Literal) (s : Store) → s.literals ≡ ls
      → step_of job (Run (callee.BuiltIn built_in.Assign)) s
      ≡ on_operands (row built_in.Assign).operands (row built_in.Assign).default (variables.assigns job) ls s
  unfolding step_of function_run built_in_run
  assign_step ls s e = ap (λ xs. on_operands (row built_in.Assign).operands (row built_in.Assign).default (variables.assigns job) xs s) e

  other_assigned : (n : ℕ) (x : List ℕ) (v : ℤ) (before after : Bool) (f : Callee) (ls : List Literal) → NotOurs f → after ≡ before
      → (bodies loops left : ℕ) (s : State) → Plain x v before s → s.store.literals ≡ literal.Function f ∷ ls
      → IfDone (Here x v after nothing_seen) (act job n (Run (callee.BuiltIn built_in.Assign)) bodies loops left s)
  other_assigned n x v before after f ls ours e bodies loops left s h top =
      plainly x v after _
      (if_weaker (λ t. Unchanged s t.store) (Plain x v after) (act job n (Run (callee.BuiltIn built_in.Assign)) bodies loops left s)
      (one_to job n (Run (callee.BuiltIn built_in.Assign)) (Unchanged s) bodies loops left s
      (so_by (Unchanged s) _ _ (assign_step (literal.Function f ∷ ls) s.store top) (taken_stays f ours ls s)))
      (λ t q. subst (λ b. Plain x v b t) (sym e) (unchanged_plain x v before s t q h)))

  -- less is left, and no variable is gone
  abbrev Lessened : List ℕ → ℤ → State → Store → Type 0
  Lessened x v s r = (left_in m (state r s.out) ≤ left_of v x - 1) × (length r.integers ≡ length s.store.integers)

  lessened_done : (n : ℕ) (x : List ℕ) (v : ℤ) (after : Bool) → after ≡ true → (bodies loops left : ℕ) (s : State) → Ranged s
      → AnswerSo (Lessened x v s) (step_of job (Run (callee.BuiltIn built_in.Assign)) s.store)
      → IfDone (Here x v after nothing_seen) (act job n (Run (callee.BuiltIn built_in.Assign)) bodies loops left s)
  lessened_done n x v after e bodies loops left s r so =
      plainly x v after _
      (if_weaker (λ t. Lessened x v s t.store) (Plain x v after) (act job n (Run (callee.BuiltIn built_in.Assign)) bodies loops left s)
      (one_to job n (Run (callee.BuiltIn built_in.Assign)) (Lessened x v s) bodies loops left s so)
      (λ t q. (
        subst (λ b. Since x v b t) (sym e)
            (subst (λ k. k ≤ left_of v x - 1) (sym (left_same m (state t.store s.out) t (flag_same m.flag (state t.store s.out) t refl) refl)) q.0),
        subst (λ k. m.flag ≤ k) (sym q.1) r,
      )))

  string_assigned : (n : ℕ) (x : List ℕ) (v : ℤ) (before after : Bool) (i : ℕ) (value third fourth : Seen)
      → ((i ≢ m.text) × (after ≡ before)) ⊎ ((i ≡ m.text) × (IsLess job.style value × (after ≡ true)))
      → (bodies loops left : ℕ) (s : State) → Plain x v before s → (ls : List Literal)
      → s.store.literals ≡ literal.Function (callee.GlobalString i) ∷ ls → Stands job.style m (text_in m.text s) (value ∷ third ∷ fourth ∷ []) ls
      → IfDone (Here x v after nothing_seen) (act job n (Run (callee.BuiltIn built_in.Assign)) bodies loops left s)
  string_assigned n x v before after i value third fourth (inl w) bodies loops left s h ls top st =
      other_assigned n x v before after (callee.GlobalString i) ls w.0 w.1 bodies loops left s h top
  string_assigned n x v before after i value third fourth (inr w) bodies loops left s h ls top st =
      let text = text_in m.text s in
      let a = there job.style m text value (third ∷ fourth ∷ []) ls (less_known value w.1.0) st in
      let so = less_text value a.first w.1.0 a.seen_so in
      let is : s.store.literals ≡ literal.Function (callee.GlobalString i) ∷ literal.Text so.0 ∷ a.others =
      top ∙ ap (λ (ys : List Literal). literal.Function (callee.GlobalString i) ∷ ys) (a.is ∙ ap (λ (y : Literal). y ∷ a.others) so.1.0) in
      lessened_done n x v after w.1.1 bodies loops left s h.1
      (so_by (Lessened x v s) _ _ (assign_step (literal.Function (callee.GlobalString i) ∷ literal.Text so.0 ∷ a.others) s.store is)
      (put so.0 a.others so.1.1, refl))
    where
      less_known : (k : Seen) → IsLess job.style k → is_known job.style m (text_in m.text s) k ≡ true
      less_known seen.Shorter l = refl
      less_known (seen.Word w) l = refl
      less_known k l = absurd l

      less_text : (k : Seen) (y : Literal) → IsLess job.style k → IsSeen job.style m (text_in m.text s) k y
          → (z : List ℕ) × ((y ≡ literal.Text z) × (length z ≤ length (text_in m.text s) - 1))
      less_text seen.Shorter y l h = h
      less_text (seen.Word w) y l h = (word_of job.style w, (h, omega (arith, l)))
      less_text k y l h = absurd l

      put : (z : List ℕ) (ys : List Literal) → length z ≤ length (text_in m.text s) - 1
          → left_in m (state (variables.with_global_string i (take job.global_max z) (with_literals ys s.store)) s.out) ≤ left_of v x - 1
      put z ys l =
          let r = variables.with_global_string i (take job.global_max z) (with_literals ys s.store) in
          let short : length (text_in m.text (state r s.out)) ≤ length (text_in m.text s) - 1 =
          (let a = subst (λ j. length (unwrap_or (slice_get (slice_set s.store.strings i (take job.global_max z)) j) []) ≤ length (take job.global_max z)) w.0
          (put_short s.store.strings i (take job.global_max z)) in
          let b = length-take job.global_max z in omega (arith, a, b, l)) in
          let less = shorter_left (flag_in m.flag s) (text_in m.text s) (text_in m.text (state r s.out)) short in
          let same : left_in m (state r s.out) ≡ left_of (flag_in m.flag s) (text_in m.text (state r s.out)) =
          ap (λ (g : ℤ). left_of g (text_in m.text (state r s.out))) (flag_stays m.flag s r refl) in
          lowered x v before s (left_in m (state r s.out)) h.0 (omega (arith, less, same))

  integer_assigned : (n : ℕ) (x : List ℕ) (v : ℤ) (before after : Bool) (i : ℕ) (value third fourth : Seen)
      → ((suc i ≢ m.flag) × (after ≡ before)) ⊎ ((suc i ≡ m.flag) × ((value ≡ seen.Integer (pos 1)) × (after ≡ true)))
      → (bodies loops left : ℕ) (s : State) → Plain x v before s → (ls : List Literal)
      → s.store.literals ≡ literal.Function (callee.GlobalInteger i) ∷ ls → Stands job.style m (text_in m.text s) (value ∷ third ∷ fourth ∷ []) ls
      → IfDone (Here x v after nothing_seen) (act job n (Run (callee.BuiltIn built_in.Assign)) bodies loops left s)
  integer_assigned n x v before after i value third fourth (inl w) bodies loops left s h ls top st =
      other_assigned n x v before after (callee.GlobalInteger i) ls w.0 w.1 bodies loops left s h top
  integer_assigned n x v before after i value third fourth (inr w) bodies loops left s h ls top st =
      let text = text_in m.text s in
      let st2 = subst (λ k. Stands job.style m text (k ∷ third ∷ fourth ∷ []) ls) w.1.0 st in
      let a = there job.style m text (seen.Integer (pos 1)) (third ∷ fourth ∷ []) ls refl st2 in
      let is : s.store.literals ≡ literal.Function (callee.GlobalInteger i) ∷ literal.Integer (pos 1) ∷ a.others =
      top ∙ ap (λ (ys : List Literal). literal.Function (callee.GlobalInteger i) ∷ ys) (a.is ∙ ap (λ (y : Literal). y ∷ a.others) a.seen_so) in
      lessened_done n x v after w.1.1 bodies loops left s h.1
      (so_by (Lessened x v s) _ _ (assign_step (literal.Function (callee.GlobalInteger i) ∷ literal.Integer (pos 1) ∷ a.others) s.store is)
      (put a.others, length-slice_set s.store.integers i (pos 1)))
    where
      put : (ys : List Literal) → left_in m (state (variables.with_global_integer i (pos 1) (with_literals ys s.store)) s.out) ≤ left_of v x - 1
      put ys =
          let r = variables.with_global_integer i (pos 1) (with_literals ys s.store) in
          let l : i < length s.store.integers = (let e = w.0 in let k = h.1 in omega (arith, e, k)) in
          let is : flag_in m.flag (state r s.out) ≡ pos 1 =
          ap (λ k. flag_in k (state r s.out)) (sym w.0) ∙ set_there s.store.integers i (pos 1) l in
          set_left (flag_in m.flag (state r s.out)) (text_in m.text (state r s.out)) (left_of v x - 1) (ap is_positive is)

  assign_done : (n : ℕ) (x : List ℕ) (v : ℤ) (before after : Bool) (top below third fourth : Seen) → AssignThrough job.style m before top below after
      → (bodies loops left : ℕ) (s : State) → Plain x v before s
      → Stands job.style m (text_in m.text s) (top ∷ below ∷ third ∷ fourth ∷ []) s.store.literals
      → IfDone (Here x v after nothing_seen) (act job n (Run (callee.BuiltIn built_in.Assign)) bodies loops left s)
  assign_done n x v before after (seen.Function f) below third fourth w bodies loops left s h st =
      let a = there job.style m (text_in m.text s) (seen.Function f) (below ∷ third ∷ fourth ∷ []) s.store.literals refl st in
      by f w a.others (a.is ∙ ap (λ (y : Literal). y ∷ a.others) a.seen_so) a.below
    where
      by : (f : Callee) → AssignThrough job.style m before (seen.Function f) below after → (ls : List Literal) → s.store.literals ≡ literal.Function f ∷ ls
          → Stands job.style m (text_in m.text s) (below ∷ third ∷ fourth ∷ []) ls
          → IfDone (Here x v after nothing_seen) (act job n (Run (callee.BuiltIn built_in.Assign)) bodies loops left s)
      by (callee.GlobalString i) w ls e st2 = string_assigned n x v before after i below third fourth w bodies loops left s h ls e st2
      by (callee.GlobalInteger i) w ls e st2 = integer_assigned n x v before after i below third fourth w bodies loops left s h ls e st2
      by (callee.BuiltIn b) w ls e st2 = other_assigned n x v before after (callee.BuiltIn b) ls tt w bodies loops left s h e
      by (callee.User i) w ls e st2 = other_assigned n x v before after (callee.User i) ls tt w bodies loops left s h e
      by (callee.Field i) w ls e st2 = other_assigned n x v before after (callee.Field i) ls tt w bodies loops left s h e
      by (callee.EntryInteger i) w ls e st2 = other_assigned n x v before after (callee.EntryInteger i) ls tt w bodies loops left s h e
      by (callee.EntryString i) w ls e st2 = other_assigned n x v before after (callee.EntryString i) ls tt w bodies loops left s h e
  assign_done n x v before after top below third fourth w bodies loops left s h st = absurd w

  -- ---- all tokens

  whole_seen : (i : ℕ) (s : State) → IsSeen job.style m (text_in m.text s) (string_seen m i) (literal.Text (text_in i s))
  whole_seen i s = by (nat_eq i m.text) refl
    where
      by : (b : Bool) → nat_eq i m.text ≡ b → IsSeen job.style m (text_in m.text s) (cond b seen.Whole seen.Text) (literal.Text (text_in i s))
      by true e = let q : i ≡ m.text = eqb-true i m.text e in ap (λ j. literal.Text (text_in j s)) q
      by false e = (text_in i s, refl)

  level_next : (n : ℕ) → Level n → Level (suc n)
  level_next n p x v begun before after tops (token.Text i) g w bodies loops left s h =
      pushed_done x v before after tops (seen.Word i) (literal.Text (word_of job.style i)) s _ w h refl
      (text_to job (suc n) (token.Text i) (word_of job.style i) s.store.literals bodies loops left s (word_step job i s.store))
  level_next n p x v begun before after tops (token.Integer i) g w bodies loops left s h =
      pushed_done x v before after tops (seen.Integer i) (literal.Integer i) s _ w h refl
      (pushed_to job (suc n) (token.Integer i) (literal.Integer i) s.store.literals bodies loops left s (integer_step job i s.store))
  level_next n p x v begun before after tops (Quote f) g w bodies loops left s h =
      pushed_done x v before after tops (seen.Function f) (literal.Function f) s _ w h refl
      (pushed_to job (suc n) (Quote f) (literal.Function f) s.store.literals bodies loops left s (quote_step job f s.store))
  level_next n p x v begun before after tops (Run (callee.BuiltIn built_in.If)) g w bodies loops left s h =
      choice_done n p x v begun before after tops.top tops.below tops.third tops.fourth g w bodies loops left s h.0 h.1
  level_next n p x v begun before after tops (Run (callee.BuiltIn built_in.While)) g w bodies loops left s h =
      loop_done n p x v begun before after tops.top tops.below tops.third tops.fourth g w bodies loops left s h.0 h.1
  level_next n p x v begun before after tops (Run (callee.BuiltIn built_in.Assign)) g w bodies loops left s h =
      assign_done (suc n) x v before after tops.top tops.below tops.third tops.fourth w bodies loops left s h.0 h.1
  level_next n p x v begun before after tops (Run (callee.BuiltIn built_in.CallType)) g w bodies loops left s h =
      let e : None ≡ Some w.0 = w.1.0 in absurd (cc)
  level_next n p x v begun before after tops (Run (callee.BuiltIn built_in.Substring)) g w bodies loops left s h =
      built_in_done (suc n) x v before after tops built_in.Substring (keeps_after (begun && not before) before after (callee.BuiltIn built_in.Substring) refl w)
      bodies loops left s h (substring_so job.style m (text_in m.text s) job tops.top tops.below tops.third tops.fourth s.store h.1)
  level_next n p x v begun before after tops (Run (callee.BuiltIn built_in.Equals)) g w bodies loops left s h =
      built_in_done (suc n) x v before after tops built_in.Equals (keeps_after (begun && not before) before after (callee.BuiltIn built_in.Equals) refl w)
      bodies loops left s h (compared_so job.style m (text_in m.text s) job tops.top tops.below tops.third tops.fourth s.store h.1)
  level_next n p x v begun before after tops (Run (callee.BuiltIn built_in.Duplicate)) g w bodies loops left s h =
      built_in_done (suc n) x v before after tops built_in.Duplicate (keeps_after (begun && not before) before after (callee.BuiltIn built_in.Duplicate) refl w)
      bodies loops left s h (doubled_so job.style m (text_in m.text s) job tops.top tops.below tops.third tops.fourth s.store h.1)
  level_next n p x v begun before after tops (Run (callee.BuiltIn built_in.Swap)) g w bodies loops left s h =
      built_in_done (suc n) x v before after tops built_in.Swap (keeps_after (begun && not before) before after (callee.BuiltIn built_in.Swap) refl w)
      bodies loops left s h (swapped_so job.style m (text_in m.text s) job tops.top tops.below tops.third tops.fourth s.store h.1)
  level_next n p x v begun before after tops (Run (callee.BuiltIn b)) g w bodies loops left s h =
      single_done (suc n) x v before after (Run (callee.BuiltIn b)) tt refl (keeps_after (begun && not before) before after (callee.BuiltIn b) refl w)
      bodies loops left s h.0
  level_next n p x v begun before after tops (Run (callee.User number)) g w bodies loops left s h =
      call_done n p x v begun before after tops number g w bodies loops left s h
  level_next n p x v begun before after tops (Run (callee.GlobalInteger i)) g w bodies loops left s h =
      pushed_done x v before after tops seen.Number (literal.Integer (value_in i s)) s _
      (keeps_after (begun && not before) before after (callee.GlobalInteger i) refl w) h (value_in i s, refl)
      (pushed_to job (suc n) (Run (callee.GlobalInteger i)) (literal.Integer (value_in i s)) s.store.literals bodies loops left s (variable_step job i s.store))
  level_next n p x v begun before after tops (Run (callee.GlobalString i)) g w bodies loops left s h =
      pushed_done x v before after tops (string_seen m i) (literal.Text (text_in i s)) s _
      (keeps_after (begun && not before) before after (callee.GlobalString i) refl w) h (whole_seen i s)
      (pushed_to job (suc n) (Run (callee.GlobalString i)) (literal.Text (text_in i s)) s.store.literals bodies loops left s (string_step job i s.store))
  level_next n p x v begun before after tops (Run (callee.Field i)) g w bodies loops left s h =
      single_done (suc n) x v before after (Run (callee.Field i)) tt refl (keeps_after (begun && not before) before after (callee.Field i) refl w) bodies loops left s h.0
  level_next n p x v begun before after tops (Run (callee.EntryInteger i)) g w bodies loops left s h =
      single_done (suc n) x v before after (Run (callee.EntryInteger i)) tt refl (keeps_after (begun && not before) before after (callee.EntryInteger i) refl w)
      bodies loops left s h.0
  level_next n p x v begun before after tops (Run (callee.EntryString i)) g w bodies loops left s h =
      single_done (suc n) x v before after (Run (callee.EntryString i)) tt refl (keeps_after (begun && not before) before after (callee.EntryString i) refl w)
      bodies loops left s h.0

  level : (n : ℕ) → Level n
  level zero = λ x v begun before after tops t g w bodies loops left s h. tt
  level (suc n) = level_next n (level n)

  -- a call of a function that is said to shorten
  pub shortens_done : (n number : ℕ) → effects number ≡ effect.Shortens → (bodies loops left : ℕ) (s : State) → Ranged s
      → IfDone (λ t. left_in m t ≤ left_in m s - 1) (act job n (Run (callee.User number)) bodies loops left s)
  shortens_done n number e bodies loops left s r =
      if_weaker (Plain (text_in m.text s) (flag_in m.flag s) true) (λ t. left_in m t ≤ left_in m s - 1) (act job n (Run (callee.User number)) bodies loops left s)
      (callee_done n (level n) (callee.User number) false true (ap (lessens false) e) bodies loops left s (λ q. absurd (cc)) r)
      (λ t k. k.0)

  -- tokens that change neither the text nor the flag
  pub stays_done : (n : ℕ) (xs : List Token) → TokensThrough job.style m kinds effects false false nothing_seen xs false → (bodies loops left : ℕ) (s : State)
      → Ranged s → IfDone (λ t. (text_in m.text t ≡ text_in m.text s) × ((flag_in m.flag t ≡ flag_in m.flag s) × Ranged t)) (in_turn (act job n) xs bodies loops left s)
  stays_done n xs w bodies loops left s r =
      if_weaker (Plain (text_in m.text s) (flag_in m.flag s) false)
      (λ t. (text_in m.text t ≡ text_in m.text s) × ((flag_in m.flag t ≡ flag_in m.flag s) × Ranged t)) (in_turn (act job n) xs bodies loops left s)
      (tokens_done n (level n) xs (text_in m.text s) (flag_in m.flag s) false false false nothing_seen (λ q. absurd (cc)) w bodies loops left s
      (((refl, refl), r), nothing_on job.style m (text_in m.text s) s.store.literals))
      (λ t k. (k.0.0, (k.0.1, k.1)))
