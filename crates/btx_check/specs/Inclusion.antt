-- One description says no less than another: what is tested wherever descriptions are joined.
use Rattle.std.specs.Prelude.{◌≡◌, ℕ, ◌<◌, ◌≤◌, List, length, Option, None, Some, slice_index_or}
use Rattle.btx_stack.specs.declared.literal.Literal.{Literal}
use Rattle.btx_step.specs.language.Jobs.{Job}
use Rattle.btx_step.specs.language.Stores.{Store}
use Rattle.btx_check.specs.declared.description.Value.{Value}
use Rattle.btx_check.specs.declared.description.Value.TheVariants as value
use Rattle.btx_check.specs.Promise.{most_steps}
use Rattle.btx_check.specs.Descriptions.{Is}
use Rattle.btx_check.specs.States.{Abstract, In, Among}

-- each store that `a` stands for is one that `b` stands for
pub record Within (a b : Abstract) : Type 0 where
  pub within : (job : Job) (left : ℕ) (s : Store) → In job left a s → In job left b s

-- .. that one of the descriptions stands for
pub record Into (a : Abstract) (states : List Abstract) : Type 0 where
  pub into : (job : Job) (left : ℕ) (s : Store) → In job left a s → Among job left states s

-- each store that one of `xs` stands for is one that one of `ys` stands for
abbrev pub Sub : List Abstract → List Abstract → Type 0
Sub xs ys = (job : Job) (left : ℕ) (s : Store) → Among job left xs s → Among job left ys s

-- no store is described
pub record IsImpossible (a : Abstract) : Type 0 where
  pub impossible : (job : Job) (left : ℕ) (s : Store) → In job left a s → ⊥

-- ---- by a list of numbers: the number of `a` for each number of `b`

-- each literal that `c` stands for is one that `d` stands for
abbrev pub ValueWithin : Value → Value → Type 0
ValueWithin c d = (left : ℕ) → left ≤ most_steps → (x : Literal) → Is left c x → Is left d x

-- the stacks are equal, number for number
pub record StackMaps (numbers xs ys : List ℕ) : Type 0 where
  pub lengths : length xs ≡ length ys
  pub each : (k : ℕ) → k < length ys → (slice_index_or ys k 0 < length numbers) × (slice_index_or numbers (slice_index_or ys k 0) 0 ≡ slice_index_or xs k 0)

-- a name that has a number in `b` has that one's in `a`
abbrev pub NameMaps : List ℕ → Option ℕ → Option ℕ → Type 0
NameMaps numbers o None = Unit {0}
NameMaps numbers o (Some j) = (j < length numbers) × (o ≡ Some (slice_index_or numbers j 0))

-- the same for each name of a kind
pub record FieldsMap (numbers : List ℕ) (xs ys : List (Option ℕ)) : Type 0 where
  pub each : (f : ℕ) → f < length ys → NameMaps numbers (slice_index_or xs f None) (slice_index_or ys f None)

-- of each number of `b`, no less is known in `a`
pub record ValuesMap (numbers : List ℕ) (cs ds : List Value) : Type 0 where
  pub lengths : length numbers ≡ length ds
  pub each : (j : ℕ) → j < length ds → (slice_index_or numbers j 0 < length cs) × ValueWithin (slice_index_or cs (slice_index_or numbers j 0) value.Any)
      (slice_index_or ds j value.Any)
