-- What holds of a function by the rule of operands, from what holds of it on operands that fit.
use Rattle.std.proofs.Common.{List, [], ◌∷◌, length, drop, Option, Some, None}
use Rattle.btx_step.proofs.Common.{Literal, Note, StandIn, Store, Answer, with_literals, Operand, Any, Of, Default, Push, Back, Does, applied, or_default}
use Rattle.btx_step.proofs.Common.{on_operands}
use Rattle.btx_stack.specs.declared.literal.Literal.TheVariants as literal
use Rattle.btx_step.specs.declared.literal.OperandKind.TheVariants as wanted
use Rattle.btx_step.specs.declared.stand_in.StandIn.TheVariants as stand_in
use Rattle.btx_step.specs.language.Answers.{complained}
use Rattle.btx_step.specs.language.Operands.{Value}
use Rattle.btx_step.specs.laws.Applied.{operand_literal}
use Rattle.btx_step.specs.refinement.Operands.{complaints}

-- Q of the literals that are taken, R of those below them, and P of the store that a function begins with and its answer
module _ (Q : Literal → Type 0) (R : List Literal → Type 0) (P : Store → Answer → Type 0) where
  -- so it is of a function on all operands
  abbrev pub Each : (operands : List Operand) → Does operands → Type 0
  Each [] does = (s : Store) → R s.literals → P s (does s)
  Each (operand ∷ more) does = (value : Value operand) → Q (operand_literal operand value) → Each more (does value)

  -- the literals of a stack are so
  abbrev pub Taken : List Operand → List Literal → Type 0
  Taken [] xs = R xs
  Taken (operand ∷ more) [] = Unit {0}
  Taken (operand ∷ more) (x ∷ xs) = Q x × Taken more xs

  abbrev pub IfApplied : Option (Store → Answer) → Type 0
  IfApplied None = Unit {0}
  IfApplied (Some go) = (s : Store) → R s.literals → P s (go s)

  if_applied : (operands : List Operand) (does : Does operands) → Each operands does → (xs : List Literal) → Taken operands xs
      → IfApplied (applied operands does xs)
  if_applied [] does h xs t = h
  if_applied (operand ∷ more) does h [] t = tt
  if_applied (Any ∷ more) does h (x ∷ xs) t = if_applied more (does x) (h x t.0) xs t.1
  if_applied (Of wanted.Integer ∷ more) does h (literal.Integer n ∷ xs) t = if_applied more (does n) (h n t.0) xs t.1
  if_applied (Of wanted.Text ∷ more) does h (literal.Text text ∷ xs) t = if_applied more (does text) (h text t.0) xs t.1
  if_applied (Of wanted.Function ∷ more) does h (literal.Function f ∷ xs) t = if_applied more (does f) (h f t.0) xs t.1
  if_applied (Of wanted.TextOrMissing ∷ more) does h (literal.Text text ∷ xs) t = if_applied more (does (Some text)) (h (Some text) t.0) xs t.1
  if_applied (Of wanted.TextOrMissing ∷ more) does h (literal.Missing ∷ xs) t = if_applied more (does None) (h None t.0) xs t.1
  if_applied (operand ∷ more) does h (x ∷ xs) t = tt

  below_taken : R [] → (operands : List Operand) (xs : List Literal) → Taken operands xs → R (drop (length operands) xs)
  below_taken none [] xs t = t
  below_taken none (operand ∷ more) [] t = none
  below_taken none (operand ∷ more) (x ∷ xs) t = below_taken none more xs t.1

  answered : (o : Option (Store → Answer)) (instead : StandIn) (notes : List Note) (seen below : List Literal) (s : Store) → IfApplied o
      → ((s : Store) → R s.literals → P s (complained notes instead s)) → R below → P (with_literals below s) (or_default o (Push instead) notes seen below s)
  answered None instead notes seen below s h fails r = fails (with_literals below s) r
  answered (Some go) instead notes seen below s h fails r = h (with_literals below s) r

  -- so it is by the rule
  pub by_rule : R [] → ((notes : List Note) (instead : StandIn) (s : Store) → R s.literals → P s (complained notes instead s))
      → (operands : List Operand) (instead : StandIn) (does : Does operands) → Each operands does → (xs : List Literal) (s : Store) → Taken operands xs
      → P (with_literals (drop (length operands) xs) s) (on_operands operands (Push instead) does xs s)
  by_rule none fails operands instead does h xs s t =
      answered (applied operands does xs) instead (complaints operands xs) xs (drop (length operands) xs) s (if_applied operands does h xs t)
      (fails (complaints operands xs) instead) (below_taken none operands xs t)

-- what a default pushes
abbrev pub pushed_by : Default → StandIn
pushed_by (Push instead) = instead
pushed_by Back = stand_in.Nothing
