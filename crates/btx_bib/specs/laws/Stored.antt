-- Names of keys of which laws speak.
use Rattle.std.specs.Prelude.{ℕ, Bool, List, map}
use Rattle.std.specs.List.{list_any}
use Rattle.btx_aux.specs.language.Names.{is_same_key}
use Rattle.btx_bib.specs.language.Entries.{Given}

-- a key is one of some keys, where case is ignored
abbrev pub is_any_key : List (List ℕ) → List ℕ → Bool
is_any_key keys key = list_any (is_same_key key) keys

-- the keys of these entries, in order
abbrev pub keys_in : List Given → List (List ℕ)
keys_in entries = map (λ (given : Given). given.key) entries
