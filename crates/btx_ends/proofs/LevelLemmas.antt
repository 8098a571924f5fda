-- Tokens one after another, and a function by its name, end within their bounds where single tokens do.
use Rattle.std.proofs.Common.{ℕ, ◌+◌, ◌-◌, ◌≤◌, ◌<◌, List, [], ◌∷◌}
use Rattle.std.proofs.Common.{arith}
use Rattle.btx_bst.specs.declared.built_in.BuiltIn.TheVariants as built_in
use Rattle.btx_bst.specs.declared.callee.Callee.{Callee}
use Rattle.btx_bst.specs.declared.callee.Callee.TheVariants as callee
use Rattle.btx_bst.specs.declared.token.Token.{Token}
use Rattle.btx_bst.specs.declared.token.Token.TheVariants.{Run}
use Rattle.btx_step.specs.language.Jobs.{Job}
use Rattle.btx_machine.specs.language.States.{State, Outcome}
use Rattle.btx_machine.specs.language.MeaningBySteps.{in_turn, act}
use Rattle.btx_ends.specs.declared.known.Known.{Known}
use Rattle.btx_ends.specs.declared.known.Known.TheVariants as known
use Rattle.btx_ends.specs.Costs.{Ended, EndsIn}
use Rattle.btx_ends.specs.Certificates.{Claims, CalleeWithin, StepWithin, TokensWithin}
use Rattle.btx_ends.specs.Certificates.{top_after, below_after}
use Rattle.btx_ends.proofs.EndLemmas.{then_ends, at_most}
use Rattle.btx_ends.proofs.CounterLemmas.{weaker}
use Rattle.btx_ends.proofs.FineLemmas.{Fine, Stands}

-- what is executed under a name takes as many steps as a token
pub callee_step : (claims : Claims) (most : ℕ) (f : Callee) → CalleeWithin claims most f → StepWithin claims known.Anything known.Anything (Run f) most
callee_step claims most (callee.BuiltIn built_in.If) h = absurd h
callee_step claims most (callee.BuiltIn built_in.While) h = absurd h
callee_step claims most (callee.BuiltIn f) h = h
callee_step claims most f h = h

module _ (job : Job) (claims : Claims) where
  -- what is claimed of variables, and what is known of the literals on top of the stack
  abbrev pub Here : Known → Known → State → Type 0
  Here top below s = Fine claims s × Stands claims top below s.store.literals

  -- with at most `n` executions inside one another, each token ends within its bound
  abbrev pub Level : ℕ → Type 0
  Level n = (top below : Known) (x : Token) (cost : ℕ) → StepWithin claims top below x cost → cost < n
      → EndsIn cost (Here top below) (act job n x) (Here (top_after claims top below x) (below_after top x))

  -- nothing more is known of the stack
  pub fine_only : (cost left : ℕ) (top below : Known) (o : Outcome) → Ended cost (Here top below) left o → Ended cost (Fine claims) left o
  fine_only cost left top below o h = weaker cost left (Here top below) (Fine claims) o (λ t g. g.0) h

  pub plainly : (cost left : ℕ) (o : Outcome) → Ended cost (Fine claims) left o → Ended cost (Here known.Anything known.Anything) left o
  plainly cost left o h = weaker cost left (Fine claims) (Here known.Anything known.Anything) o (λ t g. (g, (tt, tt))) h

  pub tokens_within : (n : ℕ) → Level n → (xs : List Token) (top below : Known) (cost : ℕ) → TokensWithin claims top below xs cost → cost < n
      → EndsIn cost (Here top below) (in_turn (act job n) xs) (Fine claims)
  tokens_within n p [] top below cost w lt bodies loops left s h l = (h.0, omega (arith))
  tokens_within n p (x ∷ xs) top below cost w lt bodies loops left s h l =
      let first = w.0 in
      let others = w.1.0 in
      let le : first + others ≤ cost = w.1.1.1.0 in
      at_most (first + others) cost left (Fine claims) _ le
      (then_ends first others left (Here (top_after claims top below x) (below_after top x)) (Fine claims) (act job n x bodies loops left s)
      (in_turn (act job n) xs bodies loops)
      (p top below x first w.1.1.0 (omega (arith, lt, le)) bodies loops left s h (omega (arith, l, le))) (omega (arith, l, le))
      (λ rest t b m. tokens_within n p xs (top_after claims top below x) (below_after top x) others w.1.1.1.1 (omega (arith, lt, le)) bodies loops rest t b m))

  -- a function, by its name alone
  pub call_within : (n : ℕ) → Level n → (f : Callee) (cost : ℕ) → CalleeWithin claims cost f → cost < n → (bodies loops left : ℕ) (s : State) → Fine claims s → cost ≤ left
      → Ended cost (Fine claims) left (act job n (Run f) bodies loops left s)
  call_within n p f cost w lt bodies loops left s h l =
      fine_only cost left _ _ _ (p known.Anything known.Anything (Run f) cost (callee_step claims cost f w) lt bodies loops left s (h, (tt, tt)) l)
