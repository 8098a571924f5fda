-- What databases define and store, in the words of their subject.
use Rattle.std.specs.Prelude.{◌≡◌, ℕ, nat_lt, ◌||◌, ◌&&◌, not, Bool, true, false, List, [], ◌∷◌, ◌++◌, length, Some, is_some, if◌then◌else◌}
use Rattle.std.specs.List.{list_any}
use Rattle.btx_text.specs.language.Limits.{greatest_string}
use Rattle.btx_aux.specs.language.Names.{is_same_key}
use Rattle.btx_bib.specs.declared.grammar.commands.Expected.{Expected as Next}
use Rattle.btx_bib.specs.declared.grammar.value_ends.Ends.TheVariants.{Kept}
use Rattle.btx_bib.specs.language.Grammar.Items.{Event, Definition, Entry, Placed, as_known}
use Rattle.btx_bib.specs.language.Grammar.Values.{Part}
use Rattle.btx_bib.specs.language.Grammar.ValueTexts.{squeezed, value_text}
use Rattle.btx_bib.specs.language.Request.{Request}
use Rattle.btx_bib.specs.language.Strings.{string_value, other_value}
use Rattle.btx_bib.specs.language.Entries.{Given}
use Rattle.btx_bib.specs.language.Stored.{parents_in}
use Rattle.btx_bib.specs.language.Known.{Known, goes_on, stored_in, known_after, stored_keys}
use Rattle.btx_bib.specs.laws.Known.{after_all}
use Rattle.btx_bib.specs.language.Databases.{with_macro}
use Rattle.btx_bib.specs.laws.Databases.{with_macros}
use Rattle.btx_bib.specs.laws.Stored.{is_any_key, keys_in}

-- ---- strings

-- a `@string` gives this name a value; the case of names is ignored
abbrev pub defines : List ℕ → Event → Bool
defines name (Definition other value) = is_same_key name other
defines name _ = false

-- one of some events is a `@string` that gives a name a value
abbrev pub is_defined_in : List ℕ → List Placed → Bool
is_defined_in name events = list_any (λ (placed : Placed). defines name placed.event) events

-- a name that is defined has the value of its last definition, in which the strings have the values that they had before it, and the name
-- itself has none
abbrev pub LastDefinitionCounts : Type 0
LastDefinitionCounts = (wanted : Request) (known : Known) (before behind : List Placed) (name own rest : List ℕ) (value : List Part)
    → is_same_key name own ≡ true → is_defined_in name behind ≡ false
    → (let ended = after_all wanted known (before ++ record { event = Definition own value; rest = rest } ∷ behind) in goes_on ended.ending ≡ true
    → string_value ended.strings name ≡ Some (value_text Kept (other_value (after_all wanted known before).strings own) value))

-- a name that isn't defined keeps the value that it had, or that it had none
abbrev pub OthersKeepTheirs : Type 0
OthersKeepTheirs = (wanted : Request) (known : Known) (events : List Placed) (name : List ℕ)
    → is_defined_in name events ≡ false → string_value (after_all wanted known events).strings name ≡ string_value known.strings name

-- one of some macros has a name, whose case is ignored
abbrev pub is_macro_in : List ℕ → List (List ℕ × List ℕ) → Bool
is_macro_in name macros = list_any (λ (macro : List ℕ × List ℕ). is_same_key name macro.0) macros

-- before the first database, a name that macros of the style have stands for the text of the last of them, with its whitespace squeezed
abbrev pub LastMacroCounts : Type 0
LastMacroCounts = (before behind : List (List ℕ × List ℕ)) (name own text : List ℕ) → is_same_key name own ≡ true → is_macro_in name behind ≡ false
    → (let known = with_macros (before ++ (own, text) ∷ behind) in goes_on known.ending ≡ true → string_value known.strings name ≡ Some (squeezed text))

-- a macro of the style ends the reading exactly where its text is too long for a string once its whitespace is squeezed, however long it is before
abbrev pub MacrosGoOn : Type 0
MacrosGoOn = (known : Known) (own text : List ℕ) → goes_on known.ending ≡ true
    → goes_on (with_macro known (own, text)).ending ≡ not (nat_lt greatest_string (length (squeezed text)))

-- ---- entries

-- an entry of this key is wanted: all entries are, or it was cited, or an entry that is stored refers to it
abbrev pub is_asked_for : Request → List Given → List ℕ → Bool
is_asked_for wanted stored key = is_some wanted.all || (is_any_key wanted.cited key || is_any_key (parents_in wanted stored) key)

-- an entry that is read is stored, after the others and without a field yet, exactly if it is wanted and no stored one has its key
abbrev pub WantedNewAreStored : Type 0
WantedNewAreStored = (wanted : Request) (known : Known) (kind key : List ℕ) (next : Next) → goes_on known.ending ≡ true
    → (let stored = stored_in known in let read = as_known ((stored_keys wanted).is_stored known) (Entry kind key, next) in
    stored_in (known_after wanted known read.0) ≡
    (if is_asked_for wanted stored key && not (is_any_key (keys_in stored) key) then stored ++ record { kind = kind; key = key; fields = [] } ∷ [] else stored))

-- the event is the type and the key of an entry
abbrev pub is_entry : Event → Bool
is_entry (Entry kind key) = true
is_entry _ = false

-- an event that isn't the key of an entry changes no stored entry's key, and stores none
abbrev pub OthersStoreNone : Type 0
OthersStoreNone = (wanted : Request) (known : Known) (event : Event) → is_entry event ≡ false
    → keys_in (stored_in (known_after wanted known event)) ≡ keys_in (stored_in known)
