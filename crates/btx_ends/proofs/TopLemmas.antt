-- Literals that are known to stand on top of the stack, by the tokens that pushed them.
use Rattle.std.proofs.Common.{◌≡◌, List, ◌∷◌, Option, Some, None, refl, ap}
use Rattle.btx_bst.specs.declared.token.Token.{Token}
use Rattle.btx_bst.specs.declared.token.Token.TheVariants as token
use Rattle.btx_stack.specs.declared.literal.Literal.{Literal}
use Rattle.btx_stack.specs.declared.literal.Literal.TheVariants as literal
use Rattle.btx_machine.specs.language.States.{State}

-- the literal that a token pushes by itself; of any other token nothing is said
abbrev pub literal_of : Token → Literal
literal_of (token.Quote f) = literal.Function f
literal_of (token.Integer n) = literal.Integer n
literal_of x = literal.Missing

-- what these tokens push stands on top of the stack, and below that
abbrev pub OnTop : Option Token → Option Token → List Literal → Type 0
OnTop None below xs = Unit {0}
OnTop (Some x) None xs = (ys : List Literal) × (xs ≡ literal_of x ∷ ys)
OnTop (Some x) (Some y) xs = (ys : List Literal) × (xs ≡ literal_of x ∷ literal_of y ∷ ys)

abbrev pub Tops : Option Token → Option Token → State → Type 0
Tops top below s = OnTop top below s.store.literals

pub pushed_on : (top below : Option Token) (x : Token) (xs : List Literal) → OnTop top below xs → OnTop (Some x) top (literal_of x ∷ xs)
pushed_on None below x xs h = (xs, refl)
pushed_on (Some y) None x xs h = (h.0, ap (λ (ys : List Literal). literal_of x ∷ ys) h.1)
pushed_on (Some y) (Some z) x xs h = (literal_of z ∷ h.0, ap (λ (ys : List Literal). literal_of x ∷ ys) h.1)
