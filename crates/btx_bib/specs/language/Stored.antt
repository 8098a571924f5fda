-- Which entries of the databases are stored. An entry is stored if `*` or its key is cited, or if it is the parent of an entry stored
-- before it; but no entry is stored whose key an entry stored before it has. Keys are compared without case (btxdoc, section 3).
use Rattle.std.specs.Prelude.{ℕ, ◌||◌, Bool, List, [], ◌++◌, Option, is_some, option_to_list, if◌then◌else◌}
use Rattle.std.specs.List.{find, list_any, flat_map}
use Rattle.btx_aux.specs.language.Names.{is_same_key}
use Rattle.btx_bib.specs.language.Request.{Request}
use Rattle.btx_bib.specs.language.Entries.{Given, parent_in, field_values}

-- the first of some entries whose key equals `key` without case
abbrev pub entry_with_key : List Given → List ℕ → Option Given
entry_with_key entries key = find (λ (given : Given). is_same_key key given.key) entries

-- the keys that these entries have as their `crossref`, one for each entry that has a parent
abbrev pub parents_in : Request → List Given → List (List ℕ)
parents_in wanted entries = flat_map (λ (given : Given). option_to_list (parent_in (field_values wanted given.fields))) entries

-- the parents that stored entries name, one for each child; none with `*`, which lists every entry anyway
abbrev pub references : Request → List Given → List (List ℕ)
references wanted entries = if is_some wanted.all then [] else parents_in wanted entries

-- an entry with the key `key` is to be stored: `*` was cited, or the key was, or one of the stored entries names it as its parent
abbrev pub is_wanted : Request → List Given → List ℕ → Bool
is_wanted wanted stored key = is_some wanted.all || list_any (is_same_key key) (wanted.cited ++ references wanted stored)
