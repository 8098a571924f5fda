-- The list, and cross-references (btxdoc, section 2, at `\nocite{*}`, and section 3.2 at `crossref`).
use Rattle.btx_aux.specs.language.Names.{is_same_key, listed_as, with_key}
use Rattle.btx_bib.specs.language.Messages.{Database}
use Rattle.btx_core.specs.language.Databases.{AreRead, DatabaseState, Request, Stored, parents_named, stored_with, with_macros}
use Rattle.btx_core.specs.language.Styles.{Entry, Function, Library, set}
use Rattle.btx_text.specs.declared.limits.Limit.{Limit}
use Rattle.btx_text.specs.declared.log_line.LineKind.TheVariants.{Error, Warning}
use Rattle.btx_text.specs.language.Keys.{folded}
use Rattle.btx_text.specs.language.Lists.{only_if}
use Rattle.btx_text.specs.language.LogLines.{Line, message}
use Rattle.std.specs.List.{flat_map, range_with_len}
use Rattle.std.specs.Option.{option_map, option_map_or, option_or}
use Rattle.std.specs.Prelude.{Bool, List, None, Option, Some, [], codes, count_by, drop, false, fold, if◌then◌else◌, is_none, is_some, length, map, nat_le}
use Rattle.std.specs.Prelude.{nat_lt, not, option_and_then, position, slice_get, take, unwrap_or, ℕ, ◌&&◌, ◌++◌, ◌||◌, ◌∷◌, ◌≡◌}

-- ---- which keys are listed

-- each key once: the cited keys, and then the parents that stored entries name; with `*` the keys cited before it, all stored ones, and the other cited ones
abbrev pub listed_keys : Request → List Stored → List (List ℕ)
listed_keys request stored = fold with_key [] (option_map_or
    (λ (place : ℕ). take place request.cited ++ map (λ (entry : Stored). entry.key) stored ++ drop place request.cited)
    request.all (request.cited ++ parents_named stored))

-- a key of the list: as it was cited, else as its entry has it, else as it was named; whether it stays, as a cited key does, and one that at least `fewest`
-- stored entries name; and its entry, if one is stored
pub record ListedKey : Type 0 where
  pub key : List ℕ
  pub stays : Bool
  pub entry : Option Stored

-- what the list has of a key
abbrev pub listed_key : Request → List Stored → List ℕ → ListedKey
listed_key request stored key =
    let listed = listed_as request.cited key in
    let entry = stored_with stored key in
    record {
      key = unwrap_or (option_or listed (option_map (λ (entry : Stored). entry.key) entry)) key;
      stays = is_some listed || nat_le request.fewest (count_by (is_same_key key) (parents_named stored));
      entry = entry;
    }

-- the list, in order; a place in it is a number, from 0
abbrev pub list_of : Request → List Stored → List ListedKey
list_of request stored = map (listed_key request stored) (listed_keys request stored)

-- ---- who the parent is, and what it gives

-- an entry refers to a parent of which no entry is stored, since the databases have none, or since it isn't cited and stands before all that name it: an error
abbrev pub bad_reference : List ℕ → List ℕ → Line
bad_reference child parent =
    message Error (codes "A bad cross reference--entry \"" ++ child ++ codes "\" refers to entry \"" ++ parent ++ codes "\", which doesn't exist")

-- an entry refers to a parent that has a parent itself: a warning
abbrev pub nested_reference : List ℕ → List ℕ → Line
nested_reference child parent =
    message Warning (codes "you've nested cross references--entry \"" ++ child ++ codes "\" refers to entry \"" ++ parent ++ codes "\"")

module _ (list : List ListedKey) where
  -- the value that the entry at a place has of its own
  abbrev pub own_value : ℕ → List ℕ → Option (List ℕ)
  own_value i name = option_and_then (λ (listed : ListedKey). option_and_then (λ (entry : Stored). entry.value name) listed.entry) (slice_get list i)

  -- the place of a key in the list, if it is listed
  abbrev pub place_of : List ℕ → Option ℕ
  place_of key = position (λ (listed : ListedKey). is_same_key key listed.key) list

  -- the place of the parent of the entry at a place, if its key is listed (with `*` the original may take another entry for a parent that is cited and has no entry)
  abbrev pub parent_place : ℕ → Option ℕ
  parent_place i = option_and_then place_of (own_value i (codes "crossref"))

  -- the key at a place, as the list spells it
  abbrev pub key_at : ℕ → List ℕ
  key_at i = option_map_or (λ (listed : ListedKey). listed.key) (slice_get list i) []

  -- the parent's key: as the list spells it, if it is listed
  abbrev pub parent_key : ℕ → Option (List ℕ)
  parent_key i = option_map (λ key. option_map_or key_at (place_of key) key) (own_value i (codes "crossref"))

  -- there is an entry at a place
  abbrev pub has_entry : ℕ → Bool
  has_entry i = option_map_or (λ (listed : ListedKey). is_some listed.entry) (slice_get list i) false

  -- there is an entry at a place, and it stays in the list
  abbrev pub is_kept_at : ℕ → Bool
  is_kept_at i = has_entry i && option_map_or (λ (listed : ListedKey). listed.stays) (slice_get list i) false

  -- What an entry has is its own value; else its parent's. Entries take what they lack in the order of the list: of a parent that stands before it an
  -- entry takes also what that has taken, of one that comes after it only what is that one's own. `value` gives what each has then
  abbrev pub IsInherited : (ℕ → List ℕ → Option (List ℕ)) → Type 0
  IsInherited value = (i : ℕ) (name : List ℕ) →
      value i name ≡ option_or (own_value i name) (option_and_then (λ j. if nat_lt j i then value j name else own_value j name) (parent_place i))

  -- the entry at a place keeps its `crossref`: its parent has an entry, and that stays
  abbrev pub keeps_parent : ℕ → Bool
  keeps_parent i = option_map_or is_kept_at (parent_place i) false

  -- what is wrong with the parent of the entry at a place: it has no entry; or it has a parent itself. A parent that stands before the entry counts as having
  -- one only if it keeps its `crossref`: if its own parent has an entry and stays (with `*` see `parent_place`)
  abbrev pub parent_messages : ℕ → List Line
  parent_messages i = option_map_or (λ key.
      option_map_or (λ j. if not (has_entry j) then bad_reference (key_at i) key ∷ []
      else only_if (is_some (parent_key j) && (nat_le i j || keeps_parent j)) (nested_reference (key_at i) key))
      (parent_place i) (bad_reference (key_at i) key ∷ [])) (parent_key i) []

  -- the entry of the library at a place, if one is there and stays: its values with what it inherits, and its `crossref` as the list spells it, if it keeps it
  abbrev pub entry_at : (List ℕ → Option Function) → (ℕ → List ℕ → Option (List ℕ)) → ℕ → ListedKey → List Entry
  entry_at types value i listed = option_map_or (λ (entry : Stored).
      let kept : Entry = record {
        key = listed.key;
        kind = types (folded entry.kind);
        value = set (codes "crossref") (if keeps_parent i then parent_key i else None) (value i);
      } in
      only_if listed.stays kept) listed.entry []

  -- all places, in order
  abbrev pub places_of_list : List ℕ
  places_of_list = range_with_len 0 (length list)

-- ---- the library

-- a key of the list of which no entry is stored: a warning, in the original's words
abbrev pub no_entry_line : List ℕ → Line
no_entry_line key = message Warning (codes "I didn't find a database entry for \"" ++ key ++ codes "\"")

-- what the databases give, from what is known at their end; where a limit was met only the log until then
abbrev pub IsLibraryAtEnd : Option Limit → Request → DatabaseState → Library → Type 0
IsLibraryAtEnd (Some limit) request known library = library ≡ record { entries = []; preamble = []; log = known.log; limit = Some limit }
IsLibraryAtEnd None request known library =
    (list : List ListedKey) × (list ≡ list_of request known.stored) × (value : ℕ → List ℕ → Option (List ℕ)) × IsInherited list value
    × (library ≡ record {
      entries = flat_map (λ i. option_map_or (entry_at list request.types value i) (slice_get list i) []) (places_of_list list);
      preamble = known.preamble;
      log = known.log ++ flat_map (parent_messages list) (places_of_list list)
          ++ flat_map (λ (listed : ListedKey). only_if (is_none listed.entry) (no_entry_line listed.key)) list;
      limit = None;
    })

-- the library that databases give to a job, whose style has these macros
abbrev pub IsLibrary : Request → List (List ℕ × List ℕ) → List Database → Library → Type 0
IsLibrary request macros databases library =
    (known : DatabaseState) × AreRead request (with_macros macros) databases known × IsLibraryAtEnd known.limit request known library
