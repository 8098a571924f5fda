-- What a failure leaves, of a run within runs.
use Rattle.std.proofs.Common.{◌≡◌, ℕ, zero, suc, ◌+◌, ◌≤◌, ◌⊎◌, inl, inr, sym, ap, subst, ◌∙◌, refl, arith}
use Rattle.btx_machine.proofs.Common.{Outputs, Work, Out, State, state, Outcome, final_state, then_do, Between, FailsWithin, Fails, Comes, Start, Reached}
use Rattle.btx_machine.proofs.Common.{FailsInStep, Doing}
use Rattle.btx_machine.specs.refinement.Written.{Within}
use Rattle.btx_machine.proofs.Goings.{starts_self}
use Rattle.btx_machine.proofs.OutLemmas.{wider}
use Rattle.btx_machine.proofs.Adds.{Adds, adds_self}
use Rattle.btx_machine.proofs.Tracks.{then_appends}

-- a step failed
pub in_step : (old : Work) (budget : ℕ) (c : Outputs) (run : Doing) → FailsWithin old budget c run → FailsInStep old budget c run
in_step old budget c run fails start out h = inr (fails start out h)

-- something failed that takes no step, and that a run without a step does
pub without_step : (old : Work) (budget : ℕ) (c : Outputs) (run : Doing) (f : State → State) → ((s : State) → Adds (f s) (final_state (run 0 s)))
    → Fails old c f → FailsInStep old budget c run
without_step old budget c run f adds fails start out h =
    let s = state old.store out in
    inl (wider start c out out (f s).out (final_state (run 0 s)).out (starts_self out) (fails start out h) (adds s))

module _ (whole rest next : Doing) (go : ℕ → State → Outcome) (old mid : Work) (c : Outputs) (k left budget : ℕ) (e : left + k ≡ budget)
    (split : (n : ℕ) (out : Out) → rest n (state mid.store out) ≡ then_do (next n (state mid.store out)) go)
    (grows : (n : ℕ) (s : State) → Adds s (final_state (go n s))) where
  -- with n more steps, the whole run begins with what the next does
  starts_later : (s t : State) (out : Out) (n m : ℕ) → t ≡ state mid.store out → m ≡ n + k → Reached whole rest k s t
      → Adds (final_state (next n t)) (final_state (whole m s))
  starts_later s t out n m is f r =
      subst (λ o. Adds (final_state (next n t)) (final_state o)) (sym (subst (λ t. rest n t ≡ then_do (next n t) go) (sym is) (split n out)) ∙ r.goes_on n
      ∙ ap (λ b. whole b s) (sym f))
      (then_appends (final_state (next n t)) (next n t) go (adds_self (final_state (next n t))) grows)

  at_once : (start : Start) (s t : State) (out : Out) (m : ℕ) → m ≡ k → t ≡ state mid.store out → Reached whole rest k s t
      → Between start c t.out (final_state (next 0 t)).out → m ≤ budget
      → Between start c s.out (final_state (whole 0 s)).out ⊎ Within start c budget (λ n. whole n s)
  at_once start s t out zero z is r between le =
      inl (wider start c s.out t.out (final_state (next 0 t)).out (final_state (whole 0 s)).out r.adds between
      (starts_later s t out 0 0 is (omega (arith, z)) r))
  at_once start s t out (suc m) z is r between le =
      let old = r.before m (sym z) in
      inr (record {
        taken = m;
        fewer = omega (arith, le);
        least = old.least;
        stopped = old.stopped;
        between = wider start c old.least.out t.out (final_state (next 0 t)).out (final_state (whole (m + 1) s)).out old.starts between
            (starts_later s t out 0 (m + 1) is (omega (arith, z)) r);
      })

  later : (start : Start) (s t : State) (out : Out) → t ≡ state mid.store out → Reached whole rest k s t → Between start c t.out (final_state (next 0 t)).out
      ⊎ Within start c left (λ n. next n t)
      → Between start c s.out (final_state (whole 0 s)).out ⊎ Within start c budget (λ n. whole n s)
  later start s t out is r (inl between) = at_once start s t out k refl is r between (omega (arith, e))
  later start s t out is r (inr w) =
      let o : w.taken + k + 1 ≡ w.taken + 1 + k = omega arith in
      inr (record {
        taken = w.taken + k;
        fewer = omega (arith, w.fewer, e);
        least = w.least;
        stopped = sym (r.goes_on w.taken) ∙ subst (λ t. rest w.taken t ≡ then_do (next w.taken t) go) (sym is) (split w.taken out)
            ∙ ap (λ o. then_do o go) w.stopped;
        between = wider start c w.least.out w.least.out (final_state (next (w.taken + 1) t)).out (final_state (whole (w.taken + k + 1) s)).out
            (starts_self w.least.out) w.between (starts_later s t out (w.taken + 1) (w.taken + k + 1) is o r);
      })

  -- the next piece of work failed
  pub reached_fails : Comes old mid (Reached whole rest k) → FailsInStep mid left c next → FailsInStep old budget c whole
  reached_fails first fails start out h =
      let l = first start out h in
      later start (state old.store out) (state mid.store l.out) l.out refl l.is (fails start l.out l.stands)
