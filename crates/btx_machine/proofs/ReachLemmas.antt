-- How far a run has come, item by item.
use Rattle.std.proofs.Common.{◌≡◌, ℕ, zero, suc, ◌+◌, sym, ap, subst, ◌∙◌, refl, arith}
use Rattle.btx_machine.proofs.Common.{Ending, Work, Out, State, state, Outcome, Done, Stopped, Limit, final_state, outcome_of, then_do, Starts, Comes, Runs}
use Rattle.btx_machine.proofs.Common.{Reached, RunEnded, Doing}
use Rattle.btx_machine.specs.declared.ending.Ending.TheVariants as ends
use Rattle.btx_machine.proofs.Goings.{starts_trans}
use Rattle.btx_machine.proofs.Tracks.{Tracks}
use Rattle.btx_machine.proofs.OrderLemmas.{Lasts, Grows}
use Rattle.btx_machine.proofs.WithinLemmas.{ends_stay}
use Rattle.btx_machine.proofs.VisitLemmas.{end_code}
use Rattle.btx_machine.specs.refinement.Progress.{StoppedAt, StoppedBefore}

-- the steps left, by which an outcome with more steps is known from one with none left
abbrev left_in : Outcome → ℕ
left_in (Done s left) = left
left_in (Stopped s) = 0
left_in (Limit kind s left) = left

pub none_left : (end : Ending) (t : State) → left_in (outcome_of end t 0) ≡ 0
none_left ends.Finished t = refl
none_left ends.Stopped t = refl
none_left (ends.Limit kind) t = refl

pub end_is : (end : Ending) (t : State) (n : ℕ) → final_state (outcome_of end t n) ≡ t
end_is ends.Finished t n = refl
end_is ends.Stopped t n = refl
end_is (ends.Limit kind) t n = refl

pub not_stopped : ends.Finished ≡ ends.Stopped → ⊥
not_stopped z = let y : 0 ≡ 1 = ap end_code z in omega (arith, y)

before_as : (whole : Doing) (n : ℕ) (end : Ending) (s0 t : State) (o longer : Outcome) → whole n s0 ≡ o → Tracks 0 1 n o longer → outcome_of end t 0 ≡ longer
    → StoppedAt whole n s0 t
before_as whole n end s0 t (Done s c) longer is h e = let z : c + 1 ≡ 0 = sym (ap left_in h.1) ∙ sym (ap left_in e) ∙ none_left end t in
    absurd (omega (arith, z))
before_as whole n end s0 t (Stopped s) longer is h e =
    record { least = s; stopped = is; starts = subst (λ (u : State). Starts s.out u.out) (ap final_state (sym e) ∙ end_is end t 0) h.0 }
before_as whole n end s0 t (Limit kind s c) longer is h e = let z : c + 1 ≡ 0 = sym (ap left_in h.1) ∙ sym (ap left_in e) ∙ none_left end t in
    absurd (omega (arith, z))

-- a run that took all its steps is stopped with one step less
pub ended_before : (whole : Doing) (taken : ℕ) (end : Ending) (s t : State) → Lasts 1 whole → outcome_of end t 0 ≡ whole taken s → StoppedBefore whole taken s t
ended_before whole taken end s t lasts e n is =
    let z : suc n ≡ n + 1 = omega arith in
    before_as whole n end s t (whole n s) (whole (n + 1) s) refl (lasts n s) (e ∙ ap (λ b. whole b s) (is ∙ z))

-- a piece of work that runs in what remains
module _ (whole rest next : Doing) (go : ℕ → State → Outcome) (s t : State) (k : ℕ) (r : Reached whole rest k s t)
    (split : (n : ℕ) → rest n t ≡ then_do (next n t) go) (lasts : Lasts 1 next) (grows : Grows next) where
  first_none : (taken : ℕ) (end : Ending) (t' : State) → Runs next taken end t t' → outcome_of end t' 0 ≡ next taken t
  first_none taken end t' runs = let z : 0 + taken ≡ taken = omega arith in runs 0 (λ e. refl) ∙ ap (λ b. next b t) z

  pub later_starts : (taken : ℕ) (end : Ending) (t' : State) → Runs next taken end t t' → Starts t.out t'.out
  later_starts taken end t' runs = subst (λ (u : State). Starts t.out u.out) (ap final_state (sym (first_none taken end t' runs)) ∙ end_is end t' 0)
      (grows taken t)

  pub later_before : (taken k' : ℕ) (end : Ending) (t' : State) → k' ≡ k + taken → Runs next taken end t t' → StoppedBefore whole k' s t'
  later_before zero k' end t' e runs n is =
      let old = r.before n (omega (arith, e, is)) in
      record { least = old.least; stopped = old.stopped; starts = starts_trans old.least.out t.out t'.out old.starts (later_starts zero end t' runs) }
  later_before (suc m) k' end t' e runs n is =
      let new = ended_before next (suc m) end t t' lasts (first_none (suc m) end t' runs) m refl in
      let z : n ≡ m + k = omega (arith, e, is) in
      record { least = new.least; stopped = ap (λ b. whole b s) z ∙ sym (r.goes_on m) ∙ split m ∙ ap (λ o. then_do o go) new.stopped; starts = new.starts }

  pub later_reached : (taken k' : ℕ) (t' : State) → k' ≡ k + taken → Runs next taken ends.Finished t t' → Reached whole go k' s t'
  later_reached taken k' t' e runs = record {
    goes_on = λ n. let z : n + taken + k ≡ n + k' = omega (arith, e) in
        ap (λ o. then_do o go) (runs n (λ z. absurd (not_stopped z))) ∙ sym (split (n + taken)) ∙ r.goes_on (n + taken) ∙ ap (λ b. whole b s) z;
    before = later_before taken k' ends.Finished t' e runs;
    adds = starts_trans s.out t.out t'.out r.adds (later_starts taken ends.Finished t' runs);
  }

  pub later_ended : (taken k' : ℕ) (end : Ending) (t' : State) → k' ≡ k + taken → (end ≡ ends.Finished → ⊥) → Runs next taken end t t'
      → RunEnded whole k' end s t'
  later_ended taken k' end t' e not runs = record {
    runs = λ n h. let z : n + taken + k ≡ n + k' = omega (arith, e) in
        sym (ends_stay end t' n go not) ∙ ap (λ o. then_do o go) (runs n h) ∙ sym (split (n + taken)) ∙ r.goes_on (n + taken) ∙ ap (λ b. whole b s) z;
    before = later_before taken k' end t' e runs;
  }

-- ---- as the code does them

module _ (whole rest next : Doing) (go : ℕ → State → Outcome) (old mid new : Work) (k taken k' : ℕ) (e : k' ≡ k + taken)
    (split : (n : ℕ) (out : Out) → rest n (state mid.store out) ≡ then_do (next n (state mid.store out)) go) (lasts : Lasts 1 next) (grows : Grows next)
    (first : Comes old mid (Reached whole rest k)) where
  -- what holds after the first part and of the second one holds of both
  joined : (second both : State → State → Type 0)
      → ((s u : State) (out : Out) → Reached whole rest k s (state mid.store out) → second (state mid.store out) u → both s u)
      → Comes mid new second → Comes old new both
  joined second both join comes start out h =
      let l = first start out h in
      let m = comes start l.out l.stands in
      record { out = m.out; stands = m.stands; is = join (state old.store out) (state new.store m.out) l.out l.is m.is }

  pub reached_on : Comes mid new (Runs next taken ends.Finished) → Comes old new (Reached whole go k')
  reached_on =
      joined (Runs next taken ends.Finished) (Reached whole go k')
      (λ s u out r runs. later_reached whole rest next go s (state mid.store out) k r (λ n. split n out) lasts grows taken k' u e runs)

  pub reached_ends : (end : Ending) → (end ≡ ends.Finished → ⊥) → Comes mid new (Runs next taken end) → Comes old new (RunEnded whole k' end)
  reached_ends end not =
      joined (Runs next taken end) (RunEnded whole k' end)
      (λ s u out r runs. later_ended whole rest next go s (state mid.store out) k r (λ n. split n out) lasts grows taken k' end u e not runs)

pub reached_all : (whole rest : Doing) (old new : Work) (k : ℕ) → ((n : ℕ) (s : State) → rest n s ≡ Done s n) → Comes old new (Reached whole rest k)
    → Comes old new (RunEnded whole k ends.Finished)
reached_all whole rest old new k all first start out h =
    let l = first start out h in
    record { out = l.out; stands = l.stands; is = record { runs = λ n z. sym (all n (state new.store l.out)) ∙ l.is.goes_on n; before = l.is.before } }
