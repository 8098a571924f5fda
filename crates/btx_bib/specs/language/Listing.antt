-- The list: the cited keys in order, and after them the parents that their entries name, each once. With `*` the keys cited before
-- it, then all entries in the order of the databases, then the other cited keys (btxdoc, section 2, and its rules for `crossref`).
use Rattle.std.specs.Prelude.{ℕ, nat_le, ◌||◌, Bool, List, [], ◌++◌, map, fold, take, drop, count_by, Option, None, Some, is_some}
use Rattle.std.specs.Option.{option_or, option_map, unwrap_or}
use Rattle.btx_aux.specs.language.Names.{is_same_key, listed_as, with_key}
use Rattle.btx_bib.specs.declared.slots.Body.{Body}
use Rattle.btx_bib.specs.language.Request.{Request}
use Rattle.btx_bib.specs.language.Entries.{Given, body_of}
use Rattle.btx_bib.specs.language.Stored.{entry_with_key, parents_in, references}

-- a place of the list: its key, as the list spells it, whether its entry stays in the list, and its entry, if there is one
pub record Slot : Type 0 where
  pub key : List ℕ
  pub stays : Bool
  pub body : Option Body

-- the cited keys at the front of the list: with `*` those cited before it, else all
abbrev pub first_cited : Option ℕ → List (List ℕ) → List (List ℕ)
first_cited None cited = cited
first_cited (Some place) cited = take place cited

-- the keys that are added last, if the list doesn't have them yet: with `*` those that were cited after it, else none
abbrev pub last_cited : Option ℕ → List (List ℕ) → List (List ℕ)
last_cited None cited = []
last_cited (Some place) cited = drop place cited

-- the keys that stored entries add to the list: with `*` their own keys, else their parents'
abbrev pub added : Option ℕ → Request → List Given → List (List ℕ)
added None wanted stored = parents_in wanted stored
added (Some place) wanted stored = map (λ (given : Given). given.key) stored

-- the keys of the list, each once, in the list's order: without `*` the cited keys and then the parents; with `*` the keys cited before it, then all
-- entries, and at the end those keys cited after it for which no database has an entry
abbrev pub list_keys : Request → List Given → List (List ℕ)
list_keys wanted stored =
    fold with_key
    (fold with_key [] (first_cited wanted.all wanted.cited
    ++ added wanted.all wanted stored))
    (last_cited wanted.all wanted.cited)

-- the place of the list for a key, with its entry, if one is stored. The key is spelled as it was cited; else as its entry has it; else as it is given.
-- The place stays in the list if its key was cited, or if at least `wanted.fewest` stored entries name it as their `crossref`. With `*` that number is 0,
-- so every place stays
unfoldable pub slot_of : Request → List Given → List ℕ → Slot
slot_of wanted stored key =
    let listed = listed_as wanted.cited key in
    let entry = entry_with_key stored key in
    let children = count_by (is_same_key key) (references wanted stored) in
    record {
      key = unwrap_or (option_or listed (option_map (λ (given : Given). given.key) entry)) key;
      stays = is_some listed || nat_le wanted.fewest children;
      body = option_map (body_of wanted) entry;
    }

-- the list, with a place for each of its keys, before the two passes of cross-references
abbrev pub slots_of : Request → List Given → List Slot
slots_of wanted stored = map (slot_of wanted stored) (list_keys wanted stored)
