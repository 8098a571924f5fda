-- How many functions a style has, and how many stand before READ, by its items: a FUNCTION has the number of its function, and the nameless
-- functions of its body have those just below.
use Rattle.std.specs.Prelude.{◌≡◌, ℕ, suc, Bool, true, false, List, [], ◌∷◌, length, fold, Option, None, Some, if◌then◌else◌}
use Rattle.btx_bst.specs.language.Items.{Item, Function, Read}
use Rattle.btx_bst.specs.language.StyleText.{style_of}

-- how many functions there are after an item, given how many there were before it
abbrev pub functions_behind : ℕ → Item → ℕ
functions_behind count (Function number) = suc number
functions_behind count _ = count

-- how many functions there are after these items
abbrev pub functions_in : List Item → ℕ
functions_in items = fold functions_behind 0 items

-- the item is a READ
abbrev pub is_read : Item → Bool
is_read Read = true
is_read _ = false

-- how many functions stand before the first READ, given how many there were before these items
unfoldable pub before_read_in : ℕ → List Item → Option ℕ
before_read_in count [] = None
before_read_in count (item ∷ items) = if is_read item then Some count else before_read_in (functions_behind count item) items

-- The functions of a style are those up to the number of its last FUNCTION.
abbrev pub CountLaw : Type 0
CountLaw = (file text : List ℕ) → length (style_of file text).bodies ≡ functions_in (style_of file text).items

-- The functions that may be types are those that stand before READ.
abbrev pub BeforeReadLaw : Type 0
BeforeReadLaw = (file text : List ℕ) → (style_of file text).before_read ≡ before_read_in 0 (style_of file text).items
