-- With fewer steps left, a description still stands for the store.
use Rattle.std.proofs.Common.{ℕ, suc, ◌≤◌, ℤ, List, [], ◌∷◌, None, Some, arith, inl, inr}
use Rattle.std.proofs.lemmas.Int.{ints}
use Rattle.btx_bst.specs.declared.callee.Callee.{Callee}
use Rattle.btx_stack.specs.declared.literal.Literal.{Literal}
use Rattle.btx_stack.specs.declared.literal.Literal.TheVariants.{Integer, Text, Function, Missing}
use Rattle.btx_step.specs.language.Jobs.{Job}
use Rattle.btx_step.specs.language.Stores.{Store}
use Rattle.btx_check.specs.declared.description.Upper.{Upper}
use Rattle.btx_check.specs.declared.description.Upper.TheVariants as upper
use Rattle.btx_check.specs.declared.description.Value.{Value}
use Rattle.btx_check.specs.declared.description.Value.TheVariants as value
use Rattle.btx_check.specs.Promise.{most_steps}
use Rattle.btx_check.specs.Descriptions.{Below, Is}
use Rattle.btx_check.specs.States.{Abstract, Fits, In, Among, Holds, Values, values_in}
use Rattle.btx_check.specs.Running.{Rule, RuleNow}

below_later : (left : ℕ) (high : Upper) (n : ℤ) → Below (suc left) high n → Below left high n
below_later left (upper.Number None) n h = tt
below_later left (upper.Number (Some high)) n h = h
below_later left upper.Counter n h = omega (arith, ints, h)

is_later : (left : ℕ) (d : Value) (x : Literal) → Is (suc left) d x → Is left d x
is_later left value.Any x h = tt
is_later left (value.Integer low high) (Integer n) h = (h.0, below_later left high n h.1)
is_later left (value.Integer low high) (Text t) h = absurd h
is_later left (value.Integer low high) (Function f) h = absurd h
is_later left (value.Integer low high) Missing h = absurd h
is_later left (value.Text m) (Integer n) h = absurd h
is_later left (value.Text m) (Text t) h = h
is_later left (value.Text m) (Function f) h = absurd h
is_later left (value.Text m) Missing h = h
is_later left (value.Function f) (Integer n) h = absurd h
is_later left (value.Function f) (Text t) h = absurd h
is_later left (value.Function f) (Function g) h = h
is_later left (value.Function f) Missing h = absurd h

fits_later : (left : ℕ) (ds : List Value) (v : List Literal) → Fits (suc left) ds v → Fits left ds v
fits_later left [] [] h = tt
fits_later left [] (x ∷ v) h = absurd h
fits_later left (d ∷ ds) [] h = absurd h
fits_later left (d ∷ ds) (x ∷ v) h = (is_later left d x h.0, fits_later left ds v h.1)

few_later : (left : ℕ) → suc left ≤ most_steps → left ≤ most_steps
few_later left h = omega (arith, h)

pub holds_later : (job : Job) (left : ℕ) (a : Abstract) (n : Values) (literals v : List Literal) → Holds job (suc left) a n literals v
    → Holds job left a n literals v
holds_later job left a n literals v h = record {
  steps = few_later left h.steps;
  values = fits_later left a.values v h.values;
  stack = h.stack;
  names = h.names;
  entry = h.entry;
}

pub in_later : (job : Job) (left : ℕ) (a : Abstract) (s : Store) → In job (suc left) a s → In job left a s
in_later job left a s h = (h.0, holds_later job left a (values_in s) s.literals h.0 h.1)

pub among_later : (job : Job) (left : ℕ) (xs : List Abstract) (s : Store) → Among job (suc left) xs s → Among job left xs s
among_later job left [] s h = absurd h
among_later job left (a ∷ xs) s (inl h) = inl (in_later job left a s h)
among_later job left (a ∷ xs) s (inr h) = inr (among_later job left xs s h)

-- the steps that are left where something is described
pub steps_left : (job : Job) (left : ℕ) (xs : List Abstract) (s : Store) → Among job left xs s → left ≤ most_steps
steps_left job left [] s h = absurd h
steps_left job left (a ∷ xs) s (inl h) = h.1.steps
steps_left job left (a ∷ xs) s (inr h) = steps_left job left xs s h

-- a rule that needs no step less
pub later : (f : Callee) (a : Abstract) (to : List Abstract) → RuleNow f a to → Rule f a to
later f a to rule job g g' left s h = rule job g g' left s (in_later job left a s h)
