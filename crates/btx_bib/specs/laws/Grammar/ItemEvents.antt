-- The events that an item comes to.
use Rattle.std.specs.Prelude.{◌≡◌, ℕ, Bool, false, List, [], ◌∷◌, ◌++◌, map, fold, Ok, Err}
use Rattle.btx_bib.specs.declared.grammar.commands.Expected.{Expected}
use Rattle.btx_bib.specs.declared.grammar.commands.Expected.TheVariants as wanted
use Rattle.btx_bib.specs.language.Grammar.Tokens.{Parsed}
use Rattle.btx_bib.specs.language.Grammar.Items.{Event, Comment, Preamble, Definition, Entry, FieldOf, ItemEnd, Wrong, Placed, StoredKeys, events_from}
use Rattle.btx_bib.specs.laws.Grammar.WholeItems.{WholeItem, CommentItem, PreambleItem, StringItem, EntryItem}

-- the events of an item: a field is one, and so is the end
abbrev pub item_events : WholeItem → List Event
item_events CommentItem = Comment ∷ []
item_events (PreambleItem value) = Preamble value ∷ ItemEnd ∷ []
item_events (StringItem name value) = Definition name value ∷ ItemEnd ∷ []
item_events (EntryItem kind key fields) = Entry kind key ∷ (map FieldOf fields ++ ItemEnd ∷ [])

-- what reading an item gave, with the events that the item comes to
abbrev pub read_events : Parsed WholeItem → Parsed (List Event)
read_events (Ok got) = Ok (item_events got.0, got.1)
read_events (Err wrong) = Err wrong

-- events without their places
abbrev pub bare_events : List Placed → List Event
bare_events events = map (λ placed. placed.event) events

-- the events of a text are the events that were read and then those of the rest; or, if an error was met, the events of what was right before it,
-- the error, and the events from its place on
abbrev pub GivesEvents : {S : Type 0} → StoredKeys S → S → Expected → List ℕ → Parsed (List Event) → Type 0
GivesEvents stored_keys state next text (Ok got) =
    bare_events (events_from stored_keys state next text) ≡ got.0 ++ bare_events (events_from stored_keys (fold stored_keys.after state got.0) wanted.Item got.1)
GivesEvents stored_keys state next text (Err wrong) = (begun : List Event) ×
    (bare_events (events_from stored_keys state next text) ≡
    begun ++ Wrong wrong.0 ∷ bare_events (events_from stored_keys (fold stored_keys.after state (begun ++ Wrong wrong.0 ∷ [])) wanted.Item wrong.1))

-- if an entry was read, its key isn't stored yet
abbrev pub IsNew : (List ℕ → Bool) → Parsed (Event × Expected) → Type 0
IsNew is_stored read = (kind key rest : List ℕ) (next : Expected) → read ≡ Ok ((Entry kind key, next), rest) → is_stored key ≡ false
