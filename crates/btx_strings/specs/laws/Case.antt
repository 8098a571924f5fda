-- Where a title keeps the case of an element: after a colon and whitespace.
use Rattle.std.specs.Prelude.{◌≡◌, ◌<◌, List, ◌∷◌, ◌++◌, length, IsTrue, ◌==◌, ◌&&◌, Bool, codes}
use Rattle.std.specs.List.{list_all}
use Rattle.btx_text.specs.language.Elements.{Element}
use Rattle.btx_strings.specs.language.Case.{is_white_text}
use Rattle.std.specs.Str.{bytes_eq}

-- what `begins_title` asks of the elements before, nearest first, stated without computing: they are whitespace, at least one byte of it, then a
-- colon at depth 0, then any others
pub record EndInColonAndWhite (before : List Element) : Type 0 where
  pub white : List Element
  pub colon : Element
  pub others : List Element
  pub parts : before ≡ white ++ colon ∷ others
  pub some : 0 < length white
  pub all_white : IsTrue (list_all (λ part. is_white_text part.text) white)
  pub is_colon : IsTrue (colon.depth == 0 && bytes_eq colon.text (codes ":"))
