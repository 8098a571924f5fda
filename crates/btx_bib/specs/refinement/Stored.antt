-- Parts of definitions by their names.
use Rattle.std.specs.Prelude.{ℕ, List, [], Option, is_some, if◌then◌else◌}
use Rattle.btx_bib.specs.language.Request.{Request}
use Rattle.btx_bib.specs.language.Entries.{Given}
use Rattle.btx_bib.specs.language.Stored.{parents_in}

-- the references that count for the list: the parents of stored entries; none with `*`
abbrev pub references_by : Option ℕ → Request → List Given → List (List ℕ)
references_by all wanted entries = if is_some all then [] else parents_in wanted entries
