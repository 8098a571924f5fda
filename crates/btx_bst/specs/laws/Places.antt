-- Places of which laws speak.
use Rattle.std.specs.Prelude.{ℕ, List, []}
use Rattle.btx_text.specs.language.Lines.{lines_of}
use Rattle.btx_bst.specs.language.Places.{Place, place_at}

-- the place before the first line of a text, with line number 0
abbrev pub beginning : List ℕ → Place
beginning text = place_at 0 [] (lines_of text)
