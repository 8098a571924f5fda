-- Lines are counted by their line feeds.
use Rattle.std.specs.Prelude.{ℕ, suc, ◌==◌, List, [], ◌∷◌, if◌then◌else◌, ◌-◌, length}
use Rattle.btx_text.specs.laws.Bytes.{line_feed}
use Rattle.btx_bib.specs.language.Grammar.PlaceLines.{lines_begun}

-- the line number of the byte with which `rest` begins
abbrev pub line_at : List ℕ → List ℕ → ℕ
line_at text rest = lines_begun (suc (length text - length rest)) text

-- the line number of the last byte before `rest`
abbrev pub line_before : List ℕ → List ℕ → ℕ
line_before text rest = lines_begun (length text - length rest) text

-- how many line feeds a text has
abbrev pub feeds_in : List ℕ → ℕ
feeds_in [] = 0
feeds_in (b ∷ bs) = if b == line_feed then suc (feeds_in bs) else feeds_in bs
