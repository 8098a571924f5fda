-- What a certificate claims is so: tokens, bodies and functions end within their bounds, and keep what is claimed of variables.
use Rattle.std.proofs.Common.{◌≡◌, ℕ, zero, suc, ◌+◌, ◌-◌, ◌≤◌, ◌<◌, ℤ, pos, negsuc, false, nat_lt, List, [], ◌∷◌, length, Some}
use Rattle.std.proofs.Common.{refl, arith, sym, ap, subst, ◌∙◌, inl, inr}
use Rattle.std.specs.Prelude.{slice_index_or, ◌-ℤ◌}
use Rattle.std.proofs.lemmas.Int.{ints}
use Rattle.btx_bst.specs.declared.built_in.BuiltIn.TheVariants as built_in
use Rattle.btx_bst.specs.declared.callee.Callee.{Callee}
use Rattle.btx_bst.specs.declared.callee.Callee.TheVariants as callee
use Rattle.btx_bst.specs.declared.token.Token.{Token}
use Rattle.btx_bst.specs.declared.token.Token.TheVariants as token
use Rattle.btx_bst.specs.declared.token.Token.TheVariants.{Quote, Run}
use Rattle.btx_bib.specs.language.Library.{entry_type}
use Rattle.btx_names.specs.language.NameLists.{names_of}
use Rattle.btx_stack.specs.declared.literal.Literal.{Literal}
use Rattle.btx_stack.specs.declared.literal.Literal.TheVariants as literal
use Rattle.btx_step.specs.declared.next.Next.{Next}
use Rattle.btx_step.specs.declared.next.Next.TheVariants as next
use Rattle.btx_step.specs.language.Answers.{with_literals, pushed}
use Rattle.btx_step.specs.language.Jobs.{Job}
use Rattle.btx_step.specs.language.Stores.{Store}
use Rattle.btx_step.specs.language.Entries.{entry_of}
use Rattle.btx_step.specs.language.Steps as on_store
use Rattle.btx_step.specs.refinement.Entries.{runner_of}
use Rattle.btx_step.specs.laws.Leaves.{is_assignment}
use Rattle.btx_step.proofs.LeaveLemmas.{variables_stay}
use Rattle.btx_machine.specs.language.States.{State}
use Rattle.btx_machine.specs.language.Steps.{token_effect}
use Rattle.btx_machine.specs.language.Meaning.{most_bodies, most_loops}
use Rattle.btx_machine.specs.language.MeaningBySteps.{follow, act}
use Rattle.btx_ends.specs.declared.known.Known.{Known}
use Rattle.btx_ends.specs.declared.known.Known.TheVariants as known
use Rattle.btx_ends.specs.Costs.{Ended}
use Rattle.btx_ends.specs.Counters.{above_zero}
use Rattle.btx_ends.specs.Certificates.{Claims, CalleeWithin, ChoiceWithin, LoopWithin, TurnsWithin, AssignsWithin, TokensWithin, BodyWithin}
use Rattle.btx_ends.specs.Certificates.{WalksHold}
use Rattle.btx_ends.specs.Certificates.{ClimbsHold}
use Rattle.btx_ends.specs.Certificates.{DescendingHolds}
use Rattle.btx_ends.specs.Certificates.{TextsHold, TestsHold, CountsHold, known_value, known_names, known_sum, known_difference}
use Rattle.btx_ends.proofs.EndLemmas.{at_most, step_ends}
use Rattle.btx_ends.proofs.QuietLemmas.{IsQuiet, IsSingleToken, OneOf, OfType, step_quiet, choice_next, type_next}
use Rattle.btx_ends.proofs.CounterLemmas.{Pushed, in_store, weaker, push_ends, minus_done, Small, variable_step}
use Rattle.btx_ends.proofs.CounterLemmas.{quote_step, names_step, string_step, integer_step, at_most_above, opens}
use Rattle.btx_ends.proofs.KeepLemmas.{LoopOf, loop_next}
use Rattle.btx_ends.proofs.LowerLemmas.{both_ended}
use Rattle.btx_ends.proofs.DoneLemmas.{AnswerSo, one_to}
use Rattle.btx_ends.proofs.SumLemmas.{Summed, small_at, plus_so, minus_so}
use Rattle.btx_ends.proofs.FineLemmas.{Fine, FineIn, IsKnown, Stands, fine_same, fine_assigned, names_few, pushed_on, text_of}
use Rattle.btx_ends.specs.Certificates.{ReplacingHolds}
use Rattle.btx_ends.proofs.LevelLemmas.{Here, Level, plainly, tokens_within, call_within}
use Rattle.btx_ends.proofs.LoopLemmas.{either_within}

next_so : (P : Next → Type 0) (job : Job) (x : Token) (s : State) → P (on_store.step_of job x s.store).next → P (token_effect job x s).next
unfolding token_effect
next_so P job x s h = h

fine_so : (claims : Claims) (job : Job) (x : Token) (s : State) → FineIn claims (on_store.step_of job x s.store).store → Fine claims (token_effect job x s).state
unfolding token_effect
fine_so claims job x s h = h

-- ---- literals on top of the stack

functions_on : (claims : Claims) (g f : Callee) (xs : List Literal) → Stands claims (known.Function g) (known.Function f) xs
    → (ys : List Literal) × (xs ≡ literal.Function g ∷ literal.Function f ∷ ys)
functions_on claims g f [] st = absurd st.0
functions_on claims g f (x ∷ []) st = absurd st.1
functions_on claims g f (x ∷ y ∷ ys) st =
    (ys, ap (λ (z : Literal). z ∷ y ∷ ys) st.0 ∙ ap (λ (z : Literal). literal.Function g ∷ z ∷ ys) st.1)

-- an integer that isn't below 0, and below it one that is at most so great
record Subtracted (n most : ℕ) (xs : List Literal) : Type 0 where
  from : ℤ
  below : List Literal
  is : xs ≡ literal.Integer (pos n) ∷ literal.Integer from ∷ below
  small : above_zero from ≤ most

integers_on : (claims : Claims) (n most : ℕ) (xs : List Literal) → Stands claims (known.Integer (pos n)) (known.AtMost most) xs → Subtracted n most xs
integers_on claims n most [] st = absurd st.0
integers_on claims n most (x ∷ []) st = absurd st.1
integers_on claims n most (x ∷ y ∷ ys) st = record {
  from = st.1.0;
  below = ys;
  is = ap (λ (z : Literal). z ∷ y ∷ ys) st.0 ∙ ap (λ (z : Literal). literal.Integer (pos n) ∷ z ∷ ys) st.1.1.0;
  small = st.1.1.1;
}

record Kept (kept : ℕ) (xs : List Literal) : Type 0 where
  text : List ℕ
  below : List Literal
  is : xs ≡ literal.Text text ∷ below
  short : length text ≤ kept

text_on : (claims : Claims) (below : Known) (xs : List Literal) → Stands claims known.Kept below xs → Kept claims.kept xs
text_on claims below [] st = absurd st.0
text_on claims below (x ∷ xs) st = record { text = st.0.0; below = xs; is = ap (λ (z : Literal). z ∷ xs) st.0.1.0; short = st.0.1.1 }

less_above : (a : ℤ) (n most : ℕ) → above_zero a ≤ most → above_zero (a -ℤ pos n) ≤ most
less_above (pos k) n most h = at_most_above (pos k -ℤ pos n) most (omega (arith, ints, h))
less_above (negsuc k) n most h = at_most_above (negsuc k -ℤ pos n) most (omega (arith, ints))

step_fine : (claims : Claims) (job : Job) (x : Token) (s : Store) → is_assignment x ≡ false → FineIn claims s → FineIn claims (on_store.step_of job x s).store
step_fine claims job x s a h = subst (λ (r : Store). FineIn claims r) (sym (variables_stay job x s a)) h

module _ (job : Job) (claims : Claims)
    (bodies_hold : (number : ℕ) → BodyWithin claims (slice_index_or job.style.bodies number []) (slice_index_or claims.costs number 0))
    (types_hold : (entry number : ℕ) → runner_of job (entry_type (entry_of job entry)) ≡ Some number → CalleeWithin claims claims.types (callee.User number))
    (tests_hold : TestsHold claims.tests job.style) (counts_hold : CountsHold claims.counts job.style) (texts_hold : TextsHold claims job.style)
    (walks_hold : WalksHold claims job.style) (climbs_hold : ClimbsHold claims job.style) (descending_holds : DescendingHolds claims job.style)
    (replacing_holds : ReplacingHolds claims job.style)
    (kept_holds : job.global_max ≤ claims.kept) where
  -- what follows a step takes at most `cost` steps
  abbrev NextWithin : ℕ → Next → Type 0
  NextWithin cost next.Nothing = Unit {0}
  NextWithin cost (next.End limit) = Unit {0}
  NextWithin cost (next.Run f) = CalleeWithin claims cost f
  NextWithin cost (next.Open number) = TokensWithin claims known.Anything known.Anything (slice_index_or job.style.bodies number []) cost
  NextWithin cost (next.Loop (callee.User test) (callee.User body)) = TurnsWithin claims (suc cost) body test
  NextWithin cost (next.Loop f g) = ⊥

  -- ---- what follows

  follow_within : (n : ℕ) → Level job claims n → (after : Next) (cost : ℕ) → NextWithin cost after → cost < n → (bodies loops left : ℕ) (s : State) → Fine claims s → cost ≤ left
      → Ended cost (Fine claims) left (follow job (act job n) n after s bodies loops left)
  follow_within n p next.Nothing cost w lt bodies loops left s h l = (h, omega (arith))
  follow_within n p (next.End limit) cost w lt bodies loops left s h l = omega (arith)
  follow_within n p (next.Run f) cost w lt bodies loops left s h l = call_within job claims n p f cost w lt bodies loops left s h l
  follow_within n p (next.Open number) cost w lt bodies loops left s h l =
      opens job number s n bodies loops left (Fine claims) cost
      (λ t same. tokens_within job claims n p (slice_index_or job.style.bodies number []) known.Anything known.Anything cost w lt (bodies + 1) loops left t
      (fine_same claims s.store t same h, (tt, tt)) l)
      (nat_lt bodies most_bodies)
  follow_within n p (next.Loop (callee.User test) (callee.User body)) cost w lt bodies loops left s h l =
      either_within job claims tests_hold counts_hold texts_hold walks_hold climbs_hold descending_holds replacing_holds n p test body cost w lt (nat_lt loops most_loops) bodies loops left s h l
  follow_within n p (next.Loop (callee.User test) g) cost w lt bodies loops left s h l = absurd w
  follow_within n p (next.Loop f g) cost w lt bodies loops left s h l = absurd w

  -- a token whose step leads to this
  stepped : (n : ℕ) → Level job claims n → (x : Token) (less cost : ℕ) (s : State) → NextWithin less (on_store.step_of job x s.store).next
      → FineIn claims (on_store.step_of job x s.store).store → less < cost → cost < suc n
      → (bodies loops left : ℕ) → cost ≤ left → Ended cost (Here job claims known.Anything known.Anything) left (act job (suc n) x bodies loops left s)
  stepped n p x less cost s w h lt k bodies loops left l =
      plainly job claims cost left _
      (at_most (less + 1) cost left (Fine claims) _ (omega (arith, lt))
      (step_ends job n x (Fine claims) less bodies loops left s
      (λ rest m. follow_within n p (token_effect job x s).next less (next_so (NextWithin less) job x s w) (omega (arith, lt, k)) bodies loops rest
      (token_effect job x s).state (fine_so claims job x s h) m)
      (omega (arith, lt, l))))

  -- ---- the kinds of tokens

  quiet_within : (after : Next) → IsQuiet after → NextWithin 0 after
  quiet_within next.Nothing h = tt
  quiet_within (next.End limit) h = tt
  quiet_within (next.Run f) h = absurd h
  quiet_within (next.Open number) h = absurd h
  quiet_within (next.Loop test body) h = absurd h

  choice_within : (cost : ℕ) (f g : Callee) (after : Next) → OneOf f g after → CalleeWithin claims cost f → CalleeWithin claims cost g → NextWithin cost after
  choice_within cost f g next.Nothing h wf wg = tt
  choice_within cost f g (next.End limit) h wf wg = tt
  choice_within cost f g (next.Run k) (inl e) wf wg = subst (CalleeWithin claims cost) (sym e) wf
  choice_within cost f g (next.Run k) (inr e) wf wg = subst (CalleeWithin claims cost) (sym e) wg
  choice_within cost f g (next.Open number) h wf wg = absurd h
  choice_within cost f g (next.Loop test body) h wf wg = absurd h

  type_within : (after : Next) → OfType job after → NextWithin claims.types after
  type_within next.Nothing h = tt
  type_within (next.End limit) h = tt
  type_within (next.Run k) h = subst (CalleeWithin claims claims.types) (sym h.1.1.0) (types_hold h.0 h.1.0 h.1.1.1)
  type_within (next.Open number) h = absurd h
  type_within (next.Loop test body) h = absurd h

  turns_within : (less test body : ℕ) (after : Next) → LoopOf (callee.User test) (callee.User body) after → TurnsWithin claims (suc less) body test
      → NextWithin less after
  turns_within less test body next.Nothing h w = tt
  turns_within less test body (next.End limit) h w = tt
  turns_within less test body (next.Run k) h w = absurd h
  turns_within less test body (next.Open number) h w = absurd h
  turns_within less test body (next.Loop f g) h w =
      subst (λ (a : Callee). NextWithin less (next.Loop a g)) (sym h.0)
      (subst (λ (b : Callee). NextWithin less (next.Loop (callee.User test) b)) (sym h.1) w)

  user_within : (body : List Token) (claim : ℕ) → BodyWithin claims body claim → 0 < claim
      → (less : ℕ) × ((claim ≡ suc less) × TokensWithin claims known.Anything known.Anything body less)
  user_within body zero w h = absurd (omega (arith, h))
  user_within body (suc less) w h = (less, (refl, w))

  single_ends : (n : ℕ) → Level job claims n → (x : Token) → IsSingleToken x → is_assignment x ≡ false → (cost : ℕ) → 1 ≤ cost → cost < suc n
      → (bodies loops left : ℕ) (s : State) → Fine claims s → cost ≤ left
      → Ended cost (Here job claims known.Anything known.Anything) left (act job (suc n) x bodies loops left s)
  single_ends n p x single a cost one lt bodies loops left s h l =
      stepped n p x 0 cost s (quiet_within (on_store.step_of job x s.store).next (step_quiet job x s.store single)) (step_fine claims job x s.store a h)
      (omega (arith, one)) lt bodies loops left l

  -- a token that pushes a literal of which this is known
  push_known : (n cost : ℕ) → 1 ≤ cost → (x : Token) (y : Literal) (k top below : Known) (bodies loops left : ℕ) (s : State)
      → on_store.step_of job x s.store ≡ pushed y s.store → IsKnown claims k y → Here job claims top below s → cost ≤ left
      → Ended cost (Here job claims k top) left (act job (suc n) x bodies loops left s)
  push_known n cost one x y k top below bodies loops left s e is h l =
      at_most 1 cost left (Here job claims k top) _ one
      (weaker 1 left (Pushed y s.store) (Here job claims k top) _
      (λ t q. (fine_same claims s.store t q.1 h.0, pushed_on claims top below k y s.store.literals t.store.literals q.0 is h.1))
      (push_ends job x y n s s.store e bodies loops left (omega (arith, one, l))))

  -- .. that takes literals off, so that this is left of the store
  result_known : (n cost : ℕ) → 1 ≤ cost → (x : Token) (y : Literal) (k : Known) (ys : List Literal) (bodies loops left : ℕ) (s : State)
      → on_store.step_of job x s.store ≡ pushed y (with_literals ys s.store) → IsKnown claims k y → Fine claims s → cost ≤ left
      → Ended cost (Here job claims k known.Anything) left (act job (suc n) x bodies loops left s)
  result_known n cost one x y k ys bodies loops left s e is h l =
      at_most 1 cost left (Here job claims k known.Anything) _ one
      (weaker 1 left (Pushed y (with_literals ys s.store)) (Here job claims k known.Anything) _
      (λ t q. (fine_same claims s.store t q.1 h, pushed_on claims known.Anything known.Anything k y ys t.store.literals q.0 is (tt, tt)))
      (push_ends job x y n s (with_literals ys s.store) e bodies loops left (omega (arith, one, l))))

  known_claim : (v : ℕ) (r : Store) (claim : ℕ) → FineIn claims r → slice_index_or claims.bounds v 0 ≡ claim
      → IsKnown claims (known_value claim) (literal.Integer (in_store v r))
  known_claim v r zero h e = tt
  known_claim v r (suc most) h e = (in_store v r, (refl, h.0 v most e))

  names_end : (n : ℕ) → Level job claims n → (top below : Known) (cost : ℕ) → 1 ≤ cost → cost < suc n → (bodies loops left : ℕ) (s : State) → Here job claims top below s → cost ≤ left
      → Ended cost (Here job claims (known_names claims.kept top) known.Anything) left (act job (suc n) (Run (callee.BuiltIn built_in.NumNames)) bodies loops left s)
  names_end n p known.Kept below cost one lt bodies loops left s h l =
      let on = text_on claims below s.store.literals h.1 in
      result_known n cost one (Run (callee.BuiltIn built_in.NumNames)) (literal.Integer (pos (length (names_of on.text)))) (known.AtMost (suc claims.kept)) on.below
      bodies loops left s (names_step job on.text on.below s.store on.is) (pos (length (names_of on.text)), (refl, names_few on.text claims.kept on.short)) h.0 l
  names_end n p top below cost one lt bodies loops left s h l =
      single_ends n p (Run (callee.BuiltIn built_in.NumNames)) tt refl cost one lt bodies loops left s h.0 l

  -- a token after which an integer of 32 bits is on top
  sum_ends : (n : ℕ) → Level job claims n → (x : Token) → IsSingleToken x → is_assignment x ≡ false → ((r : Store) → AnswerSo (Summed r) (on_store.step_of job x r))
      → (cost : ℕ) → 1 ≤ cost → cost < suc n → (bodies loops left : ℕ) (s : State) → Fine claims s → cost ≤ left
      → Ended cost (Here job claims known_sum known.Anything) left (act job (suc n) x bodies loops left s)
  sum_ends n p x single a so cost one lt bodies loops left s h l =
      weaker cost left (λ t. Here job claims known.Anything known.Anything t × Summed s.store t.store) (Here job claims known_sum known.Anything) _
      (λ t q. (q.0.0, (small_at claims t.store.literals q.1.1, tt)))
      (both_ended cost left (Here job claims known.Anything known.Anything) (λ t. Summed s.store t.store) (act job (suc n) x bodies loops left s)
      (single_ends n p x single a cost one lt bodies loops left s h l) (one_to job (suc n) x (Summed s.store) bodies loops left s (so s.store)))

  minus_end : (n : ℕ) → Level job claims n → (top below : Known) (cost : ℕ) → 1 ≤ cost → cost < suc n → (bodies loops left : ℕ) (s : State) → Here job claims top below s → cost ≤ left
      → Ended cost (Here job claims (known_difference top below) known.Anything) left (act job (suc n) (Run (callee.BuiltIn built_in.Minus)) bodies loops left s)
  minus_end n p (known.Integer (pos k)) (known.AtMost most) cost one lt bodies loops left s h l =
      let on = integers_on claims k most s.store.literals h.1 in
      at_most 1 cost left (Here job claims (known.AtMost most) known.Anything) _ one
      (weaker 1 left (Small most (with_literals on.below s.store)) (Here job claims (known.AtMost most) known.Anything) _
      (λ t q. (
        fine_same claims s.store t q.same h.0,
        pushed_on claims known.Anything known.Anything (known.AtMost most) (literal.Integer q.integer) on.below t.store.literals q.top (q.integer, (refl, q.small)) (tt, tt),
      ))
      (minus_done job most n s (pos k) on.from on.below (less_above on.from k most on.small) on.is bodies loops left (omega (arith, one, l))))
  minus_end n p top below cost one lt bodies loops left s h l =
      sum_ends n p (Run (callee.BuiltIn built_in.Minus)) tt refl (minus_so job) cost one lt bodies loops left s h.0 l

  assign_ends : (n : ℕ) → Level job claims n → (top below : Known) (cost : ℕ) → AssignsWithin claims top below → 1 ≤ cost → cost < suc n → (bodies loops left : ℕ) (s : State)
      → Here job claims top below s → cost ≤ left
      → Ended cost (Here job claims known.Anything known.Anything) left (act job (suc n) (Run (callee.BuiltIn built_in.Assign)) bodies loops left s)
  assign_ends n p top below cost a one lt bodies loops left s h l =
      stepped n p (Run (callee.BuiltIn built_in.Assign)) 0 cost s
      (quiet_within (on_store.step_of job (Run (callee.BuiltIn built_in.Assign)) s.store).next (step_quiet job (Run (callee.BuiltIn built_in.Assign)) s.store tt))
      (fine_assigned claims job top below s.store kept_holds a h.1 h.0) (omega (arith, one)) lt bodies loops left l

  choice_ends : (n : ℕ) → Level job claims n → (top below : Known) (cost : ℕ) → ChoiceWithin claims cost top below → cost < suc n
      → (bodies loops left : ℕ) (s : State) → Here job claims top below s → cost ≤ left
      → Ended cost (Here job claims known.Anything known.Anything) left (act job (suc n) (Run (callee.BuiltIn built_in.If)) bodies loops left s)
  choice_ends n p (known.Function g) (known.Function f) cost w lt bodies loops left s h l =
      let on = functions_on claims g f s.store.literals h.1 in
      stepped n p (Run (callee.BuiltIn built_in.If)) w.0 cost s
      (choice_within w.0 f g (on_store.step_of job (Run (callee.BuiltIn built_in.If)) s.store).next (choice_next job f g on.0 s.store on.1) w.1.1.1 w.1.1.0)
      (step_fine claims job (Run (callee.BuiltIn built_in.If)) s.store refl h.0) w.1.0 lt bodies loops left l
  choice_ends n p (known.Function g) below cost w lt bodies loops left s h l = absurd w
  choice_ends n p top below cost w lt bodies loops left s h l = absurd w

  turns_some_cost : (body test : ℕ) → TurnsWithin claims 0 body test → ⊥
  turns_some_cost body test (inl w) = absurd (let e = w.1.1.1.1 in omega (arith, e))
  turns_some_cost body test (inr (inl w)) = absurd (let e = w.1.1.1.1 in omega (arith, e))
  turns_some_cost body test (inr (inr (inl w))) = absurd (let e = w.1.1.1.1 in omega (arith, e))
  turns_some_cost body test (inr (inr (inr (inl w)))) = absurd (let e = w.1.1.1.1 in omega (arith, e))
  turns_some_cost body test (inr (inr (inr (inr (inl w))))) = absurd (let e = w.1.1.1.1 in omega (arith, e))
  turns_some_cost body test (inr (inr (inr (inr (inr w))))) = absurd (let e = w.1.1.1.1 in omega (arith, e))

  counted_ends : (n : ℕ) → Level job claims n → (body test cost : ℕ) → TurnsWithin claims cost body test → cost < suc n → (bodies loops left : ℕ) (s : State)
      → Here job claims (known.Function (callee.User body)) (known.Function (callee.User test)) s → cost ≤ left
      → Ended cost (Here job claims known.Anything known.Anything) left (act job (suc n) (Run (callee.BuiltIn built_in.While)) bodies loops left s)
  counted_ends n p body test zero w lt bodies loops left s h l = absurd (turns_some_cost body test w)
  counted_ends n p body test (suc less) w lt bodies loops left s h l =
      let on = functions_on claims (callee.User body) (callee.User test) s.store.literals h.1 in
      stepped n p (Run (callee.BuiltIn built_in.While)) less (suc less) s
      (turns_within less test body (on_store.step_of job (Run (callee.BuiltIn built_in.While)) s.store).next
      (loop_next job (callee.User test) (callee.User body) on.0 s.store on.1) w)
      (step_fine claims job (Run (callee.BuiltIn built_in.While)) s.store refl h.0) (omega arith) lt bodies loops left l

  loop_ends : (n : ℕ) → Level job claims n → (top below : Known) (cost : ℕ) → LoopWithin claims cost top below → cost < suc n
      → (bodies loops left : ℕ) (s : State) → Here job claims top below s → cost ≤ left
      → Ended cost (Here job claims known.Anything known.Anything) left (act job (suc n) (Run (callee.BuiltIn built_in.While)) bodies loops left s)
  loop_ends n p (known.Function (callee.User body)) (known.Function (callee.User test)) cost w lt bodies loops left s h l =
      counted_ends n p body test cost w lt bodies loops left s h l
  loop_ends n p (known.Function (callee.User body)) (known.Function f) cost w lt bodies loops left s h l = absurd w
  loop_ends n p (known.Function (callee.User body)) below cost w lt bodies loops left s h l = absurd w
  loop_ends n p (known.Function g) below cost w lt bodies loops left s h l = absurd w
  loop_ends n p top below cost w lt bodies loops left s h l = absurd w

  opened : (number : ℕ) (less : ℕ) (s : State) → TokensWithin claims known.Anything known.Anything (slice_index_or job.style.bodies number []) less
      → NextWithin less (on_store.step_of job (Run (callee.User number)) s.store).next
  unfolding on_store.step_of on_store.function_run
  opened number less s w = w

  user_ends : (n : ℕ) → Level job claims n → (number cost : ℕ) → CalleeWithin claims cost (callee.User number) → cost < suc n
      → (bodies loops left : ℕ) (s : State) → Fine claims s → cost ≤ left
      → Ended cost (Here job claims known.Anything known.Anything) left (act job (suc n) (Run (callee.User number)) bodies loops left s)
  user_ends n p number cost w lt bodies loops left s h l =
      let u = user_within (slice_index_or job.style.bodies number []) (slice_index_or claims.costs number 0) (bodies_hold number) w.0 in
      let e = u.1.0 in
      let le = w.1 in
      stepped n p (Run (callee.User number)) u.0 cost s (opened number u.0 s u.1.1) (step_fine claims job (Run (callee.User number)) s.store refl h)
      (omega (arith, e, le)) lt bodies loops left l

  type_ends : (n : ℕ) → Level job claims n → (cost : ℕ) → claims.types < cost → cost < suc n → (bodies loops left : ℕ) (s : State) → Fine claims s → cost ≤ left
      → Ended cost (Here job claims known.Anything known.Anything) left (act job (suc n) (Run (callee.BuiltIn built_in.CallType)) bodies loops left s)
  type_ends n p cost less lt bodies loops left s h l =
      stepped n p (Run (callee.BuiltIn built_in.CallType)) claims.types cost s
      (type_within (on_store.step_of job (Run (callee.BuiltIn built_in.CallType)) s.store).next (type_next job s.store))
      (step_fine claims job (Run (callee.BuiltIn built_in.CallType)) s.store refl h) less lt bodies loops left l

  level_next : (n : ℕ) → Level job claims n → Level job claims (suc n)
  level_next n p top below (token.Text i) cost w lt bodies loops left s h l = single_ends n p (token.Text i) tt refl cost w lt bodies loops left s h.0 l
  level_next n p top below (token.Integer i) cost w lt bodies loops left s h l =
      push_known n cost w (token.Integer i) (literal.Integer i) (known.Integer i) top below bodies loops left s (integer_step job i s.store) refl h l
  level_next n p top below (Quote f) cost w lt bodies loops left s h l =
      push_known n cost w (Quote f) (literal.Function f) (known.Function f) top below bodies loops left s (quote_step job f s.store) refl h l
  level_next n p top below (Run (callee.BuiltIn built_in.If)) cost w lt bodies loops left s h l = choice_ends n p top below cost w lt bodies loops left s h l
  level_next n p top below (Run (callee.BuiltIn built_in.While)) cost w lt bodies loops left s h l = loop_ends n p top below cost w lt bodies loops left s h l
  level_next n p top below (Run (callee.BuiltIn built_in.Assign)) cost w lt bodies loops left s h l =
      assign_ends n p top below cost w.0 w.1 lt bodies loops left s h l
  level_next n p top below (Run (callee.BuiltIn built_in.CallType)) cost w lt bodies loops left s h l = type_ends n p cost w lt bodies loops left s h.0 l
  level_next n p top below (Run (callee.BuiltIn built_in.Plus)) cost w lt bodies loops left s h l =
      sum_ends n p (Run (callee.BuiltIn built_in.Plus)) tt refl (plus_so job) cost w lt bodies loops left s h.0 l
  level_next n p top below (Run (callee.BuiltIn built_in.Minus)) cost w lt bodies loops left s h l = minus_end n p top below cost w lt bodies loops left s h l
  level_next n p top below (Run (callee.BuiltIn built_in.NumNames)) cost w lt bodies loops left s h l = names_end n p top below cost w lt bodies loops left s h l
  level_next n p top below (Run (callee.BuiltIn f)) cost w lt bodies loops left s h l =
      single_ends n p (Run (callee.BuiltIn f)) tt refl cost w lt bodies loops left s h.0 l
  level_next n p top below (Run (callee.User number)) cost w lt bodies loops left s h l = user_ends n p number cost w lt bodies loops left s h.0 l
  level_next n p top below (Run (callee.GlobalInteger v)) cost w lt bodies loops left s h l =
      push_known n cost w (Run (callee.GlobalInteger v)) (literal.Integer (in_store v s.store)) (known_value (slice_index_or claims.bounds v 0)) top below
      bodies loops left s (variable_step job v s.store) (known_claim v s.store (slice_index_or claims.bounds v 0) h.0 refl) h l
  level_next n p top below (Run (callee.GlobalString i)) cost w lt bodies loops left s h l =
      push_known n cost w (Run (callee.GlobalString i)) (literal.Text (text_of s.store.strings i)) known.Kept top below
      bodies loops left s (string_step job i s.store) (text_of s.store.strings i, (refl, h.0.1.0 i)) h l
  level_next n p top below (Run f) cost w lt bodies loops left s h l = single_ends n p (Run f) tt refl cost w lt bodies loops left s h.0 l

  pub level : (n : ℕ) → Level job claims n
  level zero = λ top below x cost w lt. absurd (omega (arith, lt))
  level (suc n) = level_next n (level n)
