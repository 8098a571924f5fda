-- What an entry that is read adds to the stored ones.
use Rattle.std.proofs.Common.{◌≡◌, ℕ, nat_lt, Bool, true, false, not, ◌||◌, ◌&&◌, if◌then◌else◌, List, [], ◌∷◌, ◌++◌, length, Option, None, Some, is_some, refl}
use Rattle.std.proofs.Common.{sym, ap, ◌∙◌, append-nil}
use Rattle.btx_text.specs.language.Limits.{greatest_string}
use Rattle.btx_aux.specs.language.Names.{is_same_key}
use Rattle.btx_bib.specs.declared.end.End.TheVariants as end
use Rattle.btx_bib.specs.declared.grammar.commands.Expected.{Expected as Next}
use Rattle.btx_bib.specs.declared.grammar.commands.Expected.TheVariants.{Item}
use Rattle.btx_bib.specs.declared.grammar.slip.SyntaxError.TheVariants.{Repeated}
use Rattle.btx_bib.specs.declared.grammar.value_ends.Ends.TheVariants.{Kept, Trimmed}
use Rattle.btx_bib.specs.language.Grammar.Fields.{Field}
use Rattle.btx_bib.specs.language.Grammar.Items.{Event, Comment, Preamble, Definition, Entry, FieldOf, ItemEnd as Close, Wrong}
use Rattle.btx_bib.specs.language.Grammar.ValueTexts.{value_text}
use Rattle.btx_bib.specs.language.Request.{Request}
use Rattle.btx_bib.specs.language.Strings.{string_value, other_value, defined}
use Rattle.btx_bib.specs.language.Entries.{Given}
use Rattle.btx_bib.specs.language.Stored.{entry_with_key, is_wanted, parents_in}
use Rattle.btx_bib.specs.language.Known.{Known, goes_on, stored_in, with_current_stored, if_fits, after_field, after_event, known_after, stored_keys}
use Rattle.btx_bib.specs.laws.Storing.{is_asked_for, is_entry, WantedNewAreStored, OthersStoreNone}
use Rattle.btx_bib.proofs.ListedKeyLemmas.{is_any_key-append}
use Rattle.std.specs.Prelude.{option_to_list}
use Rattle.btx_bib.specs.refinement.Known.{keeps_field, after_key, with_field}
use Rattle.btx_bib.specs.laws.Stored.{is_any_key, keys_in}
use Rattle.btx_bib.specs.refinement.Stored.{references_by}

-- ---- an entry

pub is_stored-any : (stored : List Given) (key : List ℕ) → is_some (entry_with_key stored key) ≡ is_any_key (keys_in stored) key
is_stored-any [] key = refl
is_stored-any (given ∷ stored) key = by_test (is_same_key key given.key) (is_stored-any stored key) where
  by_test : (b : Bool) → is_some (entry_with_key stored key) ≡ is_any_key (keys_in stored) key → is_some (if b then Some given else entry_with_key stored key)
      ≡ (b || is_any_key (keys_in stored) key)
  by_test true rest = refl
  by_test false rest = rest

wanted-asked : (wanted : Request) (stored : List Given) (key : List ℕ) → is_wanted wanted stored key ≡ is_asked_for wanted stored key
wanted-asked wanted stored key = by_all wanted.all where
  by_all : (all : Option ℕ) → (is_some all || is_any_key (wanted.cited ++ references_by all wanted stored) key)
      ≡ (is_some all || (is_any_key wanted.cited key || is_any_key (parents_in wanted stored) key))
  by_all (Some place) = refl
  by_all None = is_any_key-append wanted.cited (parents_in wanted stored) key

and-false : (a : Bool) → (a && false) ≡ false
and-false true = refl
and-false false = refl

and-true : (a : Bool) → (a && true) ≡ a
and-true true = refl
and-true false = refl

-- the keys that are stored are those of the entries, with the one that is being read
abbrev pub KnowsStored : Type 0
KnowsStored = (wanted : Request) (known : Known) (key : List ℕ) → (stored_keys wanted).is_stored known key ≡ is_any_key (keys_in (stored_in known)) key

pub wanted-new-are-stored : KnowsStored → WantedNewAreStored
wanted-new-are-stored knows wanted known kind key next on = by_stored ((stored_keys wanted).is_stored known key) (knows wanted known key) where
  stored : List Given
  stored = stored_in known

  given : Given
  given = record { kind = kind; key = key; fields = [] }

  asked : Bool
  asked = is_asked_for wanted stored key

  wrong-stored : stored_in (known_after wanted known (Wrong Repeated)) ≡ stored
  wrong-stored = ap (λ (b : Bool). stored_in (if b then known else known)) on

  by_wanted : (b : Bool) → stored_in (if b then record (with_current_stored known) { current = Some given } else with_current_stored known)
      ≡ (if b then stored ++ given ∷ [] else stored)
  by_wanted true = refl
  by_wanted false = append-nil stored

  entry-stored : stored_in (known_after wanted known (Entry kind key)) ≡ (if asked then stored ++ given ∷ [] else stored)
  entry-stored =
      ap (λ (b : Bool). stored_in (if b then after_key wanted (with_current_stored known) kind key else known)) on
      ∙ by_wanted (is_wanted wanted stored key)
      ∙ ap (λ (b : Bool). if b then stored ++ given ∷ [] else stored) (wanted-asked wanted stored key)

  by_stored : (there : Bool) → there ≡ is_any_key (keys_in stored) key
      → (let read : Event × Next = if there then (Wrong Repeated, Item) else (Entry kind key, next) in stored_in (known_after wanted known read.0))
      ≡ (if asked && not (is_any_key (keys_in stored) key) then stored ++ given ∷ [] else stored)
  by_stored true is = wrong-stored ∙ ap (λ (b : Bool). if b then stored ++ given ∷ [] else stored)
      (sym (ap (λ (b : Bool). asked && not b) (sym is) ∙ and-false asked))
  by_stored false is = entry-stored ∙ ap (λ (b : Bool). if b then stored ++ given ∷ [] else stored)
      (sym (ap (λ (b : Bool). asked && not b) (sym is) ∙ and-true asked))

-- ---- what is no entry

abbrev keys_of : Known → List (List ℕ)
keys_of known = keys_in (stored_in known)

fits-keys : (text : List ℕ) (known next : Known) → keys_of next ≡ keys_of known → keys_of (if_fits text known next) ≡ keys_of known
fits-keys text known next same = by_test (nat_lt greatest_string (length text)) where
  by_test : (b : Bool) → keys_of (if b then record known { ending = end.StringLimit } else next) ≡ keys_of known
  by_test true = refl
  by_test false = same

keys-behind : (stored : List Given) (one other : Given) → one.key ≡ other.key → keys_in (stored ++ one ∷ []) ≡ keys_in (stored ++ other ∷ [])
keys-behind [] one other same = ap (λ (key : List ℕ). key ∷ []) same
keys-behind (given ∷ stored) one other same = ap (λ (keys : List (List ℕ)). given.key ∷ keys) (keys-behind stored one other same)

field-keys : (wanted : Request) (known : Known) (current : Option Given) (field : Field) → current ≡ known.current
    → keys_of (after_field wanted known current field) ≡ keys_of known
field-keys wanted known None field is = refl
field-keys wanted known (Some given) field is = by_test (keeps_field wanted given field.name) where
  text : List ℕ
  text = value_text Trimmed (string_value known.strings) field.value

  taken : keys_of (record known { current = Some (with_field given field.name text) }) ≡ keys_of known
  taken =
      keys-behind known.stored (with_field given field.name text) given refl
      ∙ ap (λ (current : Option Given). keys_in (known.stored ++ option_to_list current)) is

  by_test : (b : Bool) → keys_of (if b then if_fits text known (record known { current = Some (with_field given field.name text) }) else known) ≡ keys_of known
  by_test true = fits-keys text known (record known { current = Some (with_field given field.name text) }) taken
  by_test false = refl

event-keys : (wanted : Request) (known : Known) (event : Event) → is_entry event ≡ false → keys_of (after_event wanted known event) ≡ keys_of known
event-keys wanted known Comment none = refl
event-keys wanted known (Preamble value) none =
    let whole = known.preamble ++ value_text Kept (string_value known.strings) value in fits-keys whole known (record known { preamble = whole }) refl
event-keys wanted known (Definition name value) none =
    let text = value_text Kept (other_value known.strings name) value in fits-keys text known (record known { strings = defined known.strings name text }) refl
event-keys wanted known (Entry kind key) none = cc
event-keys wanted known (FieldOf field) none = field-keys wanted known known.current field refl
event-keys wanted known Close none = refl
event-keys wanted known (Wrong slip) none = refl

pub others-store-none : OthersStoreNone
others-store-none wanted known event none = by_end (goes_on known.ending) where
  by_end : (b : Bool) → keys_of (if b then after_event wanted known event else known) ≡ keys_of known
  by_end true = event-keys wanted known event none
  by_end false = refl
