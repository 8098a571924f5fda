-- What a step reads and never changes.
use Rattle.std.specs.Prelude.{ℕ}
use Rattle.btx_text.specs.declared.element_kind.TextMode.{TextMode}
use Rattle.btx_bst.specs.language.Style.{Style}
use Rattle.btx_bib.specs.language.Library.{Library}

-- what the steps of a run read and never change: the style, the library, how text is read, and how many bytes of a string a variable of an entry
-- keeps, and a global one
pub record Job : Type 0 where
  pub style : Style
  pub library : Library
  pub mode : TextMode
  pub entry_max : ℕ
  pub global_max : ℕ
