-- Where the abbreviation of a token begins.
use Rattle.std.specs.Prelude.{ℕ, List, [], ◌∷◌, if◌then◌else◌}
use Rattle.btx_names.specs.language.FormattedNames.{begins_initial}

-- a token's text from where its abbreviation begins; nothing where it has none
unfoldable pub from_abbreviation : List ℕ → List ℕ
from_abbreviation [] = []
from_abbreviation (b ∷ bs) = if begins_initial (b ∷ bs) then b ∷ bs else from_abbreviation bs
