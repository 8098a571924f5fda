-- The literals, from what the slots hold and from the long strings, those of the top slot last.
use Rattle.std.specs.Prelude.{ℕ, List, [], ◌∷◌, ◌≡◌, ◌+◌, take, get_or}
use Rattle.btx_stack.specs.refinement.Content.{Content}
use Rattle.btx_stack.specs.refinement.Content as content
use Rattle.btx_stack.specs.declared.literal.Literal.{Literal}
use Rattle.btx_stack.specs.declared.literal.Literal.TheVariants as literal

-- the literal of a slot, with the long strings up to it
abbrev pub shown_literal : Content → List (List ℕ) → Literal
shown_literal (content.Integer n) large = literal.Integer n
shown_literal (content.Text text) large = literal.Text text
shown_literal (content.Function f) large = literal.Function f
shown_literal content.Missing large = literal.Missing
shown_literal (content.Large i) large = literal.Text (get_or large i [])

-- the long strings below it
abbrev pub before : Content → List (List ℕ) → List (List ℕ)
before (content.Integer n) large = large
before (content.Text text) large = large
before (content.Function f) large = large
before content.Missing large = large
before (content.Large i) large = take i large

abbrev pub filled : List Content → List (List ℕ) → List Literal
filled [] large = []
filled (x ∷ xs) large = shown_literal x large ∷ filled xs (before x large)

-- these slots have `n` long strings, and the index of each is how many are below it
abbrev pub Owns : List Content → ℕ → Type 0
Owns [] n = n ≡ 0
Owns (content.Integer m ∷ xs) n = Owns xs n
Owns (content.Text text ∷ xs) n = Owns xs n
Owns (content.Function f ∷ xs) n = Owns xs n
Owns (content.Missing ∷ xs) n = Owns xs n
Owns (content.Large i ∷ xs) n = (n ≡ i + 1) × Owns xs i
