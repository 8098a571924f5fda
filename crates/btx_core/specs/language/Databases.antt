-- What databases give: their items one after another. How an item is spelled, and what is wrong in one, `IsReading` says (Grammar, further below).
use Rattle.btx_aux.specs.language.Names.{is_same_key}
use Rattle.btx_bib.specs.declared.grammar.commands.Expected.{Expected}
use Rattle.btx_bib.specs.declared.grammar.commands.Expected.TheVariants.{Item}
use Rattle.btx_bib.specs.declared.grammar.slip.SyntaxError.{SyntaxError}
use Rattle.btx_bib.specs.declared.grammar.value_ends.Ends.TheVariants.{Kept, Trimmed}
use Rattle.btx_bib.specs.declared.message.SourcePosition.{SourcePosition}
use Rattle.btx_bib.specs.language.Grammar.Fields.{Field}
use Rattle.btx_bib.specs.language.Grammar.Items.{Comment, Definition, ItemEnd, Event, FieldOf, StoredKeys, Placed, Preamble, Wrong}
use Rattle.btx_bib.specs.language.Grammar.ValueTexts.{squeezed, value_text}
use Rattle.btx_bib.specs.language.Grammar.Values.{Named, Part}
use Rattle.btx_bib.specs.language.MessageTexts.{slip_text}
use Rattle.btx_bib.specs.language.Messages.{Database, position_at, position_before}
use Rattle.btx_bib.specs.laws.Grammar.Reading.{HasNoAt, IsEventOf, Stands}
use Rattle.btx_core.specs.language.Styles.{Function, set}
use Rattle.btx_text.specs.declared.limits.Limit.{Limit}
use Rattle.btx_text.specs.declared.log_line.LineKind.{LineKind}
use Rattle.btx_text.specs.declared.log_line.LineKind.TheVariants.{Error, Warning}
use Rattle.btx_text.specs.language.Keys.{folded}
use Rattle.btx_text.specs.language.Limits.{greatest_string, is_too_long}
use Rattle.btx_text.specs.language.Lists.{only_if}
use Rattle.btx_text.specs.language.LogLines.{Line, message, place_text}
use Rattle.std.specs.List.{find, flat_map, list_any}
use Rattle.std.specs.Option.{option_map_or}
use Rattle.std.specs.Prelude.{Bool, List, None, Option, Result, Some, [], codes, false, fold, if◌then◌else◌, is_none, is_some, length, nat_lt, not}
use Rattle.std.specs.Prelude.{option_to_list, true, ℕ, ◌++◌, ◌||◌, ◌∷◌, ◌≡◌}
use Rattle.btx_text.specs.declared.limits.Limit.TheVariants as limit
use Rattle.btx_bib.specs.language.Grammar.Items.{Entry as EntryHead}

-- what a job and its style ask: the cited keys; with `*` how many of them stand before it (`all`); which names are fields; the functions for types; and how
-- many entries have to name an uncited parent for it to stay (`--min-crossrefs`, and 0 with `*`)
pub record Request : Type 0 where
  pub cited : List (List ℕ)
  pub all : Option ℕ
  pub is_field : List ℕ → Bool
  pub types : List ℕ → Option Function
  pub fewest : ℕ

-- an entry that is stored: the word of its type, its key, and its values, by the names of fields
pub record Stored : Type 0 where
  pub kind : List ℕ
  pub key : List ℕ
  pub value : List ℕ → Option (List ℕ)

-- what is known: the value of each string that is defined, the entries that are stored, the one of them that is being read, all `@preamble`s joined, the
-- log, and the limit that ended the reading, if one did
pub record DatabaseState : Type 0 where
  pub strings : List ℕ → Option (List ℕ)
  pub stored : List Stored
  pub current : Option Stored
  pub preamble : List ℕ
  pub log : List Line
  pub limit : Option Limit

-- the stored entries, the one that is being read among them
abbrev pub all_stored : DatabaseState → List Stored
all_stored known = known.stored ++ option_to_list known.current

-- the entry that is being read is at its end
abbrev pub entry_closed : DatabaseState → DatabaseState
entry_closed known = record known { stored = all_stored known; current = None }

-- a string of this text has been made: one that is too long ends the reading with what is known so far; else `next` is known
abbrev pub if_fits : List ℕ → DatabaseState → DatabaseState → DatabaseState
if_fits text known next = if nat_lt greatest_string (length text) then record known { limit = Some limit.String } else next

-- ---- which entries are stored

-- the stored entry of a key
abbrev pub stored_with : List Stored → List ℕ → Option Stored
stored_with stored key = find (λ (entry : Stored). is_same_key key entry.key) stored

-- the keys that entries name as their `crossref`
abbrev pub parents_named : List Stored → List (List ℕ)
parents_named stored = flat_map (λ (entry : Stored). option_to_list (entry.value (codes "crossref"))) stored

-- an entry of this key is to be stored: `*` is cited, or the key is, or a stored entry names it as its parent; so a parent that
-- isn't cited has to come after a child
abbrev pub is_asked : Request → List Stored → List ℕ → Bool
is_asked request stored key = is_some request.all || list_any (is_same_key key) (request.cited ++ parents_named stored)

-- ---- item by item

-- a line of the log about a database: what is wrong, and where
abbrev pub at_position : LineKind → List ℕ → SourcePosition → Line
at_position kind text spot = message kind (text ++ place_text spot.line spot.file)

-- the string that a name in a value stands for; `own` is the name that is being defined, which stands for none in its own value
abbrev pub meaning_of : DatabaseState → Option (List ℕ) → List ℕ → Option (List ℕ)
meaning_of known own name = if option_map_or (λ (defined : List ℕ). is_same_key defined name) own false then None else known.strings (folded name)

-- a name in a value that stands for no string is a warning, and so is one in its own value (the original warns of values that aren't stored, too)
abbrev pub part_messages : Database → DatabaseState → Option (List ℕ) → Part → List Line
part_messages database known own (Named string) =
    let warned : List ℕ → List Line = λ text. at_position Warning (codes "string name \"" ++ string.name ++ text) (position_at database string.rest) ∷ [] in
    if option_map_or (λ (defined : List ℕ). is_same_key defined string.name) own false then warned (codes "\" is used in its own definition")
    else if is_none (known.strings (folded string.name)) then warned (codes "\" is undefined") else []
part_messages database known own _ = []

-- lines are logged
abbrev pub saying : List Line → DatabaseState → DatabaseState
saying lines known = record known { log = known.log ++ lines }

-- a field is read: the entry keeps its first value of each field that the style declares
abbrev pub field_read : Request → Database → DatabaseState → Stored → Field → List ℕ → DatabaseState
field_read request database known entry field rest =
    let name = folded field.name in
    let text = value_text Trimmed (meaning_of known None) field.value in
    let ignored = at_position Warning (codes "I'm ignoring " ++ entry.key ++ codes "'s extra \"" ++ field.name ++ codes "\" field") (position_before database rest) in
    if not (request.is_field name) then known
    else if is_some (entry.value name) then saying (ignored ∷ []) known
    else
    (let said = saying (flat_map (part_messages database known None) field.value) known in
    if_fits text said (record said { current = Some (record entry { value = set name (Some text) entry.value }) }))

-- an entry begins: it is stored if it is asked for, and its type should be one that the style has
abbrev pub entry_begun : Request → Database → DatabaseState → List ℕ → List ℕ → List ℕ → DatabaseState
entry_begun request database known kind key rest =
    let entry : Stored = record { kind = kind; key = key; value = λ name. None } in
    let unknown = at_position Warning (codes "entry type for \"" ++ key ++ codes "\" isn't style-file defined") (position_at database rest) in
    if not (is_asked request known.stored key) then known
    else saying (only_if (is_none (request.types (folded kind))) unknown) (record known { current = Some entry })

-- what is known after an event of a database; `rest` is the text after it. A comment ends with its word, so the next item may stand in it. A second
-- `@string` of a name takes the place of the first, and nothing is logged (in the original a string whose definition is faulty stands for its own name)
abbrev pub known_after_event : Request → Database → DatabaseState → Event → List ℕ → DatabaseState
known_after_event request database known Comment rest = known
known_after_event request database known (Preamble value) rest =
    let whole = known.preamble ++ value_text Kept (meaning_of known None) value in
    let said = saying (flat_map (part_messages database known None) value) known in
    if_fits whole said (record said { preamble = whole })
known_after_event request database known (Definition name value) rest =
    let text = value_text Kept (meaning_of known (Some name)) value in
    let said = saying (flat_map (part_messages database known (Some name)) value) known in
    if_fits text said (record said { strings = set (folded name) (Some text) known.strings })
known_after_event request database known (EntryHead kind key) rest = entry_begun request database (entry_closed known) kind key rest
known_after_event request database known (FieldOf field) rest =
    option_map_or (λ (entry : Stored). field_read request database known entry field rest) known.current known
known_after_event request database known ItemEnd rest = known
known_after_event request database known (Wrong slip) rest = saying (at_position Error (slip_text slip) (position_at database rest) ∷ []) known

-- the state after an event and the text after it; once a limit was met nothing changes any more
abbrev pub known_after : Request → Database → DatabaseState → Placed → DatabaseState
known_after request database known placed = if is_some known.limit then known else known_after_event request database known placed.event placed.rest

-- ---- databases, one after another

-- the key of an entry that is stored already makes it a repeated one, which is an error
abbrev pub stored_keys : StoredKeys DatabaseState
stored_keys = record { is_stored = λ known key. is_some (stored_with (all_stored known) key); after = λ known event. known }

-- these are the events of a text from where `expected` stands first, and `last` is what is known after them: each event is what its front of the text spells,
-- or what is wrong at its end; and after the last no `@` is left (the original doesn't read an item that follows another one on the last line)
abbrev pub AreEvents : Request → Database → DatabaseState → Expected → List ℕ → List Placed → DatabaseState → Type 0
AreEvents request database known expected text [] last = (expected ≡ Item) × HasNoAt text × (last ≡ known)
AreEvents request database known expected text (placed ∷ others) last =
    (spelled : Result (Event × Expected) SyntaxError) × (next : Expected) × (front : List ℕ) × (front ++ placed.rest ≡ text)
    × Stands expected spelled front placed.rest × IsEventOf stored_keys known placed.event next spelled
    × AreEvents request database (known_after request database known placed) next placed.rest others last

-- a database is read: all of it, unless a limit was met before it, or its file is too long, which is one
abbrev pub IsReadBy : Bool → Bool → Request → DatabaseState → Database → DatabaseState → Type 0
IsReadBy true too_long request known database next = next ≡ known
IsReadBy false true request known database next = next ≡ record known { limit = Some limit.File }
IsReadBy false false request known database next =
    (events : List Placed) × (last : DatabaseState) × AreEvents request database known Item database.text events last × (next ≡ entry_closed last)

-- databases are read, one after another
abbrev pub AreRead : Request → DatabaseState → List Database → DatabaseState → Type 0
AreRead request known [] last = last ≡ known
AreRead request known (database ∷ databases) last =
    (next : DatabaseState) × IsReadBy (is_some known.limit) (is_too_long database.text) request known database next × AreRead request next databases last

-- what is known before the first database: each macro of the style is a string
abbrev pub with_macros : List (List ℕ × List ℕ) → DatabaseState
with_macros macros =
    let nothing : DatabaseState = record { strings = λ name. None; stored = []; current = None; preamble = []; log = []; limit = None } in
    fold (λ (known : DatabaseState) (macro : List ℕ × List ℕ).
    if is_some known.limit then known
    else if_fits (squeezed macro.1) known (record known { strings = set (folded macro.0) (Some (squeezed macro.1)) known.strings })) nothing macros
