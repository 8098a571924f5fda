-- What is read of a name of a list.
use Rattle.std.specs.Prelude.{◌≡◌, ℕ, List, drop}
use Rattle.std.specs.List.{All}
use Rattle.btx_names.specs.language.NameParts as spec
use Rattle.btx_names.specs.refinement.NameTokens.{Hold}
use Rattle.btx_names.specs.refinement.Places.{bytes_at}
use Rattle.btx_names.specs.refinement.Steps.{first_name_len}
use Rattle.btx_names.specs.refinement.TokenLists.{IsListOf}
use Rattle.btx_names.specs.declared.name_reading.ReadName.{ReadName}

-- it is the name that begins at a place of the list: its bytes, its tokens, and its commas
pub record IsNameAt (names : List ℕ) (from : ℕ) (read : ReadName) : Type 0 where
  pub begins : read.place.from ≡ from
  pub len : read.place.len ≡ first_name_len 0 (drop from names)
  pub list : IsListOf names read.list (spec.sections_of (bytes_at names read.place))
  pub held : All (Hold names) read.list.tokens.items
  pub ending : read.ends_in_comma ≡ spec.ends_in_comma (bytes_at names read.place)
  pub third : read.has_third_comma ≡ spec.has_third_comma (spec.sections_of (bytes_at names read.place))
