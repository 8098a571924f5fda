-- Names of parts of a place of the list.
use Rattle.std.specs.Prelude.{ℕ, List, nat_le, ◌||◌, Bool, count_by, is_some}
use Rattle.std.specs.Option.{option_or, option_map, unwrap_or}
use Rattle.btx_aux.specs.language.Names.{listed_as, is_same_key}
use Rattle.btx_bib.specs.language.Request.{Request}
use Rattle.btx_bib.specs.language.Entries.{Given}
use Rattle.btx_bib.specs.language.Stored.{entry_with_key, references}

-- the spelling of a key in the list: as it was cited; else as its entry has it; else as it is given
abbrev pub spelled : Request → List Given → List ℕ → List ℕ
spelled wanted stored key = unwrap_or (option_or (listed_as wanted.cited key) (option_map (λ (given : Given). given.key) (entry_with_key stored key))) key

-- a key stays in the list: it was cited, or at least `wanted.fewest` stored entries name it as their `crossref`. With `*` that number is 0, so every
-- key stays
abbrev pub stays : Request → List Given → List ℕ → Bool
stays wanted stored key = is_some (listed_as wanted.cited key) || nat_le wanted.fewest (count_by (is_same_key key) (references wanted stored))
