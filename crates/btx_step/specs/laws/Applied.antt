-- What the rule of operands comes to: either all are there and fit, and the function is done on them; or something is logged, and the default
-- follows.
use Rattle.std.specs.Prelude.{◌≡◌, ◌≢◌, ◌≤◌, ◌+◌, ◌⊎◌, ℕ, List, [], ◌∷◌, ◌++◌, length, take, drop, replicate, slice_get, Option, None, Some}
use Rattle.btx_bst.specs.declared.built_in.BuiltIn.{BuiltIn}
use Rattle.btx_bst.specs.declared.built_in.BuiltIn.TheVariants as built_in
use Rattle.btx_stack.specs.declared.literal.Literal.{Literal}
use Rattle.btx_stack.specs.declared.literal.Literal.TheVariants as literal
use Rattle.btx_step.specs.declared.literal.OperandKind.{OperandKind}
use Rattle.btx_step.specs.declared.literal.OperandKind.TheVariants as wanted
use Rattle.btx_step.specs.declared.said.Note.{Note}
use Rattle.btx_step.specs.declared.said.Note.TheVariants as note
use Rattle.btx_step.specs.language.Jobs.{Job}
use Rattle.btx_step.specs.language.Stores.{Store}
use Rattle.btx_step.specs.declared.stand_in.StandIn.TheVariants as stand_in
use Rattle.btx_step.specs.language.Answers.{Answer, with_literals, complained}
use Rattle.btx_step.specs.declared.operands.Operand.{Operand}
use Rattle.btx_step.specs.declared.operands.Operand.TheVariants.{Any, Of}
use Rattle.btx_step.specs.declared.operands.Default.{Default}
use Rattle.btx_step.specs.declared.operands.Default.TheVariants.{Push, Back}
use Rattle.btx_step.specs.language.Operands.{Value, Does}
use Rattle.btx_step.specs.language.Table.{row}
use Rattle.btx_step.specs.language.Steps.{built_in_run}

-- ---- operands that fit

-- a value of an operand, as the literal that stands for it on the stack
abbrev pub operand_literal : (operand : Operand) → Value operand → Literal
operand_literal Any x = x
operand_literal (Of wanted.Integer) n = literal.Integer n
operand_literal (Of wanted.Text) text = literal.Text text
operand_literal (Of wanted.Function) f = literal.Function f
operand_literal (Of wanted.TextOrMissing) None = literal.Missing
operand_literal (Of wanted.TextOrMissing) (Some text) = literal.Text text

-- one value for each operand, that of the top one first
abbrev pub OperandValues : List Operand → Type 0
OperandValues [] = Unit {0}
OperandValues (operand ∷ more) = Value operand × OperandValues more

-- the values of all operands, as the literals that stand for them, the top one first
abbrev pub operand_literals : (operands : List Operand) → OperandValues operands → List Literal
operand_literals [] values = []
operand_literals (operand ∷ more) values = operand_literal operand values.0 ∷ operand_literals more values.1

-- what a function does, given a value for each of its operands
abbrev pub done_on : (operands : List Operand) → Does operands → OperandValues operands → Store → Answer
done_on [] does values = does
done_on (operand ∷ more) does values = done_on more (does values.0) values.1

-- a built-in function was done: its operands stood on top of the stack, they went, and it did what its row says, above the literals `below`
pub record IsApplied (job : Job) (f : BuiltIn) (s : Store) : Type 0 where
  pub values : OperandValues (row f).operands
  pub below : List Literal
  pub taken : s.literals ≡ operand_literals (row f).operands values ++ below
  pub is : built_in_run job f s ≡ done_on (row f).operands ((row f).does job) values (with_literals below s)

-- ---- operands that are missing or wrong

-- some of the operands aren't on the stack, and `notes` say so, once for each
pub record AreMissing (operands : List Operand) (xs : List Literal) (notes : List Note) : Type 0 where
  pub missing : ℕ
  pub some : 1 ≤ missing
  pub others : missing + length xs ≡ length operands
  pub logged : notes ≡ replicate missing note.EmptyStack

-- all operands are on the stack, and the one at `place` is of a wrong kind while those above it fit; the one note is about it
pub record IsWrong (operands : List Operand) (xs : List Literal) (notes : List Note) : Type 0 where
  pub place : ℕ
  pub kind : OperandKind
  pub x : Literal
  pub there : length operands ≤ length xs
  pub asked : slice_get operands place ≡ Some (Of kind)
  pub found : slice_get xs place ≡ Some x
  pub misfits : (value : Value (Of kind)) → x ≢ operand_literal (Of kind) value
  pub above : OperandValues (take place operands)
  pub fit : take place xs ≡ operand_literals (take place operands) above
  pub logged : notes ≡ note.WrongKind x kind ∷ []

-- what happens if operands are missing or don't fit: the notes are logged, and the default is pushed above the literals `below` the operands;
-- or, for `swap$`, the literals `seen` stay
abbrev pub by_default : Default → List Note → List Literal → List Literal → Store → Answer
by_default (Push instead) notes seen below s = complained notes instead (with_literals below s)
by_default Back notes seen below s = complained notes stand_in.Nothing (with_literals seen s)

-- a built-in function wasn't done: the notes say what is wrong with its operands, and its default follows
pub record IsReported (job : Job) (f : BuiltIn) (s : Store) : Type 0 where
  pub notes : List Note
  pub why : AreMissing (row f).operands s.literals notes ⊎ IsWrong (row f).operands s.literals notes
  pub is : built_in_run job f s ≡ by_default (row f).default notes s.literals (drop (length (row f).operands) s.literals) s

-- ---- the law

-- the function goes by the rule of operands: each does, but `missing$` without an entry, which takes its operand whatever it is
abbrev pub FollowsRule : BuiltIn → Option ℕ → Type 0
FollowsRule built_in.Missing None = ⊥
FollowsRule f current = Unit {0}

-- each built-in function does on its operands what its row of the table says, or logs what is wrong with them and follows its default
abbrev pub AppliedOrReported : Type 0
AppliedOrReported = (job : Job) (f : BuiltIn) (s : Store) → FollowsRule f s.current → IsApplied job f s ⊎ IsReported job f s
