-- The names that the program means by a number keep their numbers: whatever a style declares, it declares after them.
use Rattle.std.specs.Prelude.{◌≡◌, ℕ, List, Some, codes}
use Rattle.btx_bst.specs.declared.callee.Callee.TheVariants.{Field, EntryString, GlobalInteger}
use Rattle.btx_bst.specs.language.Names.{Names, named_lower}
use Rattle.btx_bst.specs.language.StyleText.{style_of}

-- `crossref` names field 0, by which an entry names its parent; `sort.key$` entry string 0, by which SORT orders the list; `entry.max$` and
-- `global.max$` the integers 0 and 1, which have the two limits of strings when the style begins to run
pub record HaveFirstNames (names : Names) : Type 0 where
  pub parent : named_lower names (codes "crossref") ≡ Some (Field 0)
  pub sort_key : named_lower names (codes "sort.key$") ≡ Some (EntryString 0)
  pub entry_limit : named_lower names (codes "entry.max$") ≡ Some (GlobalInteger 0)
  pub global_limit : named_lower names (codes "global.max$") ≡ Some (GlobalInteger 1)

-- the style of every text has these four names, by these numbers
abbrev pub FirstNamesLaw : Type 0
FirstNamesLaw = (file text : List ℕ) → HaveFirstNames (style_of file text).names
