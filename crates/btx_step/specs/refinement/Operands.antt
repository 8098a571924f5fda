-- What is logged of operands, as proofs have it.
use Rattle.std.specs.Prelude.{◌≡◌, ◌<◌, List, [], ◌∷◌, ℕ, Bool, true, false, length, drop, Option, is_some}
use Rattle.std.specs.Option.{option_map_or}
use Rattle.btx_bst.specs.declared.built_in.BuiltIn.{BuiltIn}
use Rattle.btx_step.specs.language.Stores.{Store}
use Rattle.btx_step.specs.language.Table.{row}
use Rattle.btx_stack.specs.declared.literal.Literal.TheVariants as literal
use Rattle.btx_stack.specs.refinement.Stacks.{below_top, has_function, has_text, integer_on}
use Rattle.btx_step.specs.declared.literal.OperandKind.{OperandKind}
use Rattle.btx_step.specs.declared.literal.OperandKind.TheVariants as wanted
use Rattle.btx_step.specs.declared.operands.Operand.TheVariants.{Any, Of}
use Rattle.btx_step.specs.declared.said.Note.{Note}
use Rattle.btx_step.specs.declared.said.Note.TheVariants as note
use Rattle.btx_stack.specs.declared.literal.Literal.{Literal}
use Rattle.btx_step.specs.declared.operands.Operand.{Operand}
use Rattle.btx_step.specs.language.Operands.{absent, wrong, or_else}

-- the note, if the literal doesn't fit the operand; else the notes on the operands below
abbrev pub misfit_notes : {A : Type 0} → Option A → Note → List Note → List Note
misfit_notes value note more = option_map_or (λ value. more) value (note ∷ [])

-- what is logged of operands: that some are missing, or else the first one of a wrong kind
abbrev pub complaints : List Operand → List Literal → List Note
complaints operands xs = or_else (absent operands xs) (wrong operands xs)

-- the top literal is a string or the value of a missing field
abbrev pub has_text_or_missing : List Literal → Bool
has_text_or_missing (literal.Text text ∷ xs) = true
has_text_or_missing (literal.Missing ∷ xs) = true
has_text_or_missing xs = false

-- the top literal is there and of a kind
abbrev pub stands : OperandKind → List Literal → Bool
stands wanted.Integer xs = is_some (integer_on xs)
stands wanted.Text xs = has_text xs
stands wanted.Function xs = has_function xs
stands wanted.TextOrMissing xs = has_text_or_missing xs

-- the top literal is there and fits an operand
abbrev pub Stands : Operand → List Literal → Type 0
Stands Any xs = 0 < length xs
Stands (Of kind) xs = stands kind xs ≡ true

-- a literal for each operand is there and fits it
abbrev pub Fitting : List Operand → List Literal → Type 0
Fitting [] xs = Unit {0}
Fitting (operand ∷ more) xs = Stands operand xs × Fitting more (below_top xs)

-- the operands of a function are all on the stack, and fit
abbrev pub Fit : BuiltIn → Store → Type 0
Fit f s = Fitting (row f).operands s.literals

-- the operand at a place is of the first wrong kind: what is logged of it
abbrev pub WrongAt : ℕ → OperandKind → List Operand → List Literal → Type 0
WrongAt place kind operands xs = (place < length operands)
    × ((x : Literal) (ys : List Literal) → drop place xs ≡ x ∷ ys → wrong operands xs ≡ note.WrongKind x kind ∷ [])
