-- The order of a style's commands.
use Rattle.std.specs.Prelude.{◌≡◌, ℕ, ◌<◌, List, Option, None, Some, slice_get}
use Rattle.btx_bst.specs.language.Items.{Item, Entry, Read, Execute, Iterate, Reverse, Sort, Macro}
use Rattle.btx_bst.specs.language.StyleText.{style_of}

-- the item is an ENTRY or a READ, each of which takes effect once
abbrev pub IsOnce : Item → Type 0
IsOnce Entry = Unit {0}
IsOnce Read = Unit {0}
IsOnce _ = ⊥

-- the command that must stand somewhere before this item, if there is one
abbrev pub needs : Item → Option Item
needs Read = Some Entry
needs (Execute callee) = Some Read
needs (Iterate callee) = Some Read
needs (Reverse callee) = Some Read
needs Sort = Some Read
needs _ = None

-- ENTRY and READ take effect at most once.
abbrev pub OnceLaw : Type 0
OnceLaw = (file text : List ℕ) (item : Item) (j k : ℕ) → IsOnce item → slice_get (style_of file text).items j ≡ Some item
    → slice_get (style_of file text).items k ≡ Some item → j ≡ k

-- READ takes effect only after ENTRY, and what is executed only after READ.
abbrev pub OrderLaw : Type 0
OrderLaw = (file text : List ℕ) (item first : Item) (k : ℕ) → slice_get (style_of file text).items k ≡ Some item → needs item ≡ Some first
    → (j : ℕ) × (j < k) × (slice_get (style_of file text).items j ≡ Some first)

-- MACRO takes effect only before READ.
abbrev pub MacroLaw : Type 0
MacroLaw = (file text : List ℕ) (j k : ℕ) → slice_get (style_of file text).items j ≡ Some Macro → slice_get (style_of file text).items k ≡ Some Read → j < k
