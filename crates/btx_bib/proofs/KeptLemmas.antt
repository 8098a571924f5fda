-- What is kept while databases are read is what is known of them.
use Rattle.std.proofs.Common.{◌≡◌, ℕ, arith, Bool, true, false, not, ◌&&◌, ◌||◌, if◌then◌else◌, List, [], ◌∷◌, ◌++◌, length, Option, None, Some, is_some, refl}
use Rattle.std.proofs.Common.{sym, ap, subst, ◌∙◌, append-nil}
use Rattle.std.specs.Prelude.{nat_lt, slice_get, option_to_list}
use Rattle.std.specs.Option.{option_map}
use Rattle.btx_text.specs.language.Keys.{folded}
use Rattle.btx_text.specs.language.Limits.{greatest_string}
use Rattle.btx_aux.specs.language.Names.{is_same_key}
use Rattle.btx_bib.specs.declared.draft.ListBuilder.{ListBuilder}
use Rattle.btx_bib.specs.declared.draft.StoreDecision.{StoreDecision}
use Rattle.btx_bib.specs.declared.draft.StoreDecision.TheVariants as decision
use Rattle.btx_bib.specs.declared.end.End.TheVariants.{StringLimit}
use Rattle.btx_bib.specs.declared.gathering.Gathering.{Gathering}
use Rattle.btx_bib.specs.declared.gathering.Pending.{Pending}
use Rattle.btx_bib.specs.declared.grammar.value_ends.Ends.TheVariants.{Kept, Trimmed}
use Rattle.btx_bib.specs.declared.message.Message.TheVariants as message
use Rattle.btx_bib.specs.language.Grammar.Fields.{Field}
use Rattle.btx_bib.specs.language.Grammar.Items.{Event, Comment, Preamble, Definition, Entry, FieldOf, ItemEnd, Wrong, is_repeated}
use Rattle.btx_bib.specs.language.Grammar.ValueTexts.{value_text}
use Rattle.btx_bib.specs.language.Known.{Known, with_current_stored, after_event, after_field, if_fits, stored_in}
use Rattle.btx_bib.specs.language.Messages.{Database, event_messages, field_messages, position_at, position_before, value_messages}
use Rattle.btx_bib.specs.language.Request.{Request}
use Rattle.btx_bib.specs.language.Entries.{Given, body_of, field_values}
use Rattle.btx_bib.specs.refinement.Finding.{changed_at}
use Rattle.btx_bib.specs.language.Stored.{entry_with_key, is_wanted}
use Rattle.btx_bib.specs.language.Strings.{defined, other_value, string_value}
use Rattle.btx_bib.specs.language.Values.{field_value}
use Rattle.btx_bib.specs.refinement.Drafts.{has_body, has_entry, new_standing, place_in, standing_at}
use Rattle.btx_bib.specs.refinement.Gatherings.{begun, begun_by, closed, closed_by, ended_if, entered, fielded_by, is_kept, is_pending, kept_after, taken_at}
use Rattle.btx_bib.specs.refinement.Gatherings.{messages_of, messages_of_current, messages_of_entry, messages_of_number, messages_of_standing, with_field_text}
use Rattle.btx_bib.proofs.FillingLemmas.{values_from-none, values_from-push, with_value-new}
use Rattle.btx_bib.proofs.SlotLemmas.{entry_of-new}
use Rattle.btx_bib.proofs.StoringLemmas.{draft, Covered, Covered-stored, none-of, standing-draft, standing_of, stored_at-draft}
use Rattle.btx_bib.specs.refinement.Known.{keeps_field, after_key, with_field}
use Rattle.btx_bib.specs.refinement.Filling.{value_by}
use Rattle.btx_bib.specs.refinement.Messages.{type_messages}
use Rattle.btx_bib.specs.refinement.Strings.{Strings}

module _ (wanted : Request) where
  -- the entry that is being read, as it is kept
  abbrev pub pending_of : Given → Pending
  pending_of given = record { key = given.key; body = body_of wanted given }

  -- what is kept of what is known
  abbrev pub kept_of : Known → Gathering
  kept_of known = record {
    draft = draft wanted known.stored;
    strings = known.strings;
    current = option_map pending_of known.current;
    preamble = known.preamble;
    ending = known.ending;
  }

  -- the entry that is being read is wanted and new
  abbrev pub IsNew : List Given → Option Given → Type 0
  IsNew stored None = Unit {0}
  IsNew stored (Some given) = (is_wanted wanted stored given.key ≡ true) × (entry_with_key stored given.key ≡ None)

  abbrev pub Sound : Known → Type 0
  Sound known = Covered wanted known.stored × IsNew known.stored known.current

  closed-by : (known : Known) (current : Option Given) → Covered wanted known.stored → IsNew known.stored current
      → closed_by wanted (kept_of (record known { current = current })) (option_map pending_of current)
      ≡ kept_of (record known { stored = known.stored ++ option_to_list current; current = None })
  closed-by known None covered new = ap (λ (stored : List Given). kept_of (record known { stored = stored; current = None })) (sym (append-nil known.stored))
  closed-by known (Some given) covered new = ap (λ (d : ListBuilder). record (kept_of known) { draft = d; current = None })
      (stored_at-draft wanted known.stored given new.1 covered new.0)

  pub closed-kept : (known : Known) → Sound known → closed wanted (kept_of known) ≡ kept_of (with_current_stored known)
  closed-kept known sound = closed-by known known.current sound.0 sound.1

  covered-by : (stored : List Given) (current : Option Given) → Covered wanted stored → IsNew stored current → Covered wanted (stored ++ option_to_list current)
  covered-by stored None covered new = subst (λ (s : List Given). Covered wanted s) (sym (append-nil stored)) covered
  covered-by stored (Some given) covered new = Covered-stored wanted stored given covered new.0 new.1

  pub closed-sound : (known : Known) → Sound known → Sound (with_current_stored known)
  closed-sound known sound = (covered-by known.stored known.current sound.0 sound.1, tt)

  -- ---- which keys are stored

  is_repeated_standing : StoreDecision → Bool
  is_repeated_standing decision.Unwanted = false
  is_repeated_standing decision.Expected = false
  is_repeated_standing decision.Repeated = true

  new-standing : (all : Option ℕ) → is_repeated_standing (new_standing all) ≡ false
  unfolding is_repeated_standing
  new-standing None = refl
  new-standing (Some place) = refl

  standing-has : (d : ListBuilder) (o : Option ℕ) → is_repeated_standing (standing_at wanted d o) ≡ has_entry d o
  unfolding is_repeated_standing
  standing-has d None = new-standing wanted.all
  standing-has d (Some place) = at (has_body (slice_get d.slots place)) where
    at : (b : Bool) → is_repeated_standing (if b then decision.Repeated else decision.Expected) ≡ b
    at true = refl
    at false = refl

  standing-is : (repeated asks : Bool) → is_repeated_standing (standing_of wanted repeated asks) ≡ repeated
  unfolding is_repeated_standing
  standing-is true asks = refl
  standing-is false true = refl
  standing-is false false = refl

  has_entry-draft : (stored : List Given) (key : List ℕ) → Covered wanted stored → has_entry (draft wanted stored) (place_in (draft wanted stored) key)
      ≡ is_some (entry_with_key stored key)
  has_entry-draft stored key covered =
      sym (standing-has (draft wanted stored) (place_in (draft wanted stored) key))
      ∙ ap is_repeated_standing (standing-draft wanted stored key covered)
      ∙ standing-is (is_some (entry_with_key stored key)) (is_wanted wanted stored key)

  stored-by : (stored : List Given) (current : Option Given) (key : List ℕ) → Covered wanted stored → IsNew stored current
      → (is_pending (option_map pending_of current) key || has_entry (draft wanted stored) (place_in (draft wanted stored) key))
      ≡ is_some (entry_with_key (stored ++ option_to_list current) key)
  stored-by stored None key covered new = has_entry-draft stored key covered ∙ ap (λ (s : List Given). is_some (entry_with_key s key)) (sym (append-nil stored))
  stored-by stored (Some given) key covered new =
      ap (λ (b : Bool). is_same_key given.key key || b) (has_entry-draft stored key covered)
      ∙ at (is_same_key given.key key)
      ∙ ap (λ (o : Option Given). is_some o) (sym (entry_of-new stored given key new.1)) where
        at : (b : Bool) → (b || is_some (entry_with_key stored key)) ≡ is_some (if b then Some given else entry_with_key stored key)
        at true = refl
        at false = refl

  pub stored-kept : (known : Known) (key : List ℕ) → Sound known → is_kept (kept_of known) key ≡ is_some (entry_with_key (stored_in known) key)
  stored-kept known key sound = stored-by known.stored known.current key sound.0 sound.1

  -- ---- an entry's type and key

  begun-kept : (known : Known) (kind key : List ℕ) → begun wanted (kept_of known) (wanted.kind (folded kind)) key
      ≡ kept_of (record known { current = Some (record { kind = kind; key = key; fields = [] }) })
  unfolding body_of
  begun-kept known kind key = ap (λ (values : List (Option (List ℕ))). record
      (kept_of known) { current = Some (record { key = key; body = record { kind = wanted.kind (folded kind); values = values } }) })
      (values_from-none wanted 0 wanted.count)

  begun-by : (known : Known) (kind key : List ℕ) (asks : Bool) → begun_by wanted (kept_of known) kind key (standing_of wanted false asks)
      ≡ kept_of (if asks then record known { current = Some (record { kind = kind; key = key; fields = [] }) } else known)
  begun-by known kind key true = begun-kept known kind key
  begun-by known kind key false = refl

  -- how an entry stands that isn't a repeated one
  standing-new : (known : Known) (key : List ℕ) → Sound known → is_some (entry_with_key (stored_in known) key) ≡ false
      → standing_at wanted (closed wanted (kept_of known)).draft (place_in (closed wanted (kept_of known)).draft key)
      ≡ standing_of wanted false (is_wanted wanted (stored_in known) key)
  standing-new known key sound new =
      ap (λ (kept : Gathering). standing_at wanted kept.draft (place_in kept.draft key)) (closed-kept known sound)
      ∙ standing-draft wanted (stored_in known) key (closed-sound known sound).0
      ∙ ap (λ (b : Bool). standing_of wanted b (is_wanted wanted (stored_in known) key)) new

  entered-kept : (known : Known) (kind key : List ℕ) → Sound known → is_some (entry_with_key (stored_in known) key) ≡ false
      → entered wanted (kept_of known) kind key ≡ kept_of (after_key wanted (with_current_stored known) kind key)
  entered-kept known kind key sound new =
      ap (begun_by wanted (closed wanted (kept_of known)) kind key) (standing-new known key sound new)
      ∙ ap (λ (kept : Gathering). begun_by wanted kept kind key (standing_of wanted false (is_wanted wanted (stored_in known) key))) (closed-kept known sound)
      ∙ begun-by (with_current_stored known) kind key (is_wanted wanted (stored_in known) key)

  entered-logged : (database : Database) (known : Known) (kind key rest : List ℕ) → Sound known → is_some (entry_with_key (stored_in known) key) ≡ false
      → messages_of_entry wanted database (kept_of known) kind key rest ≡ event_messages wanted database known (Entry kind key) rest
  entered-logged database known kind key rest sound new = ap (messages_of_standing wanted database kind key rest) (standing-new known key sound new)
      ∙ at (is_wanted wanted (stored_in known) key) where
        at : (asks : Bool) → messages_of_standing wanted database kind key rest (standing_of wanted false asks)
            ≡ (if asks then type_messages key (wanted.kind (folded kind)) (position_at database rest) else [])
        at true = refl
        at false = refl

  entered-sound : (known : Known) (kind key : List ℕ) → Sound known → is_some (entry_with_key (stored_in known) key) ≡ false
      → Sound (after_key wanted (with_current_stored known) kind key)
  entered-sound known kind key sound new = at (is_wanted wanted (stored_in known) key) refl where
    at : (asks : Bool) → is_wanted wanted (stored_in known) key ≡ asks
        → Sound (if asks then record (with_current_stored known) { current = Some (record { kind = kind; key = key; fields = [] }) } else with_current_stored
        known)
    at true is = ((closed-sound known sound).0, (is, none-of (entry_with_key (stored_in known) key) new))
    at false is = closed-sound known sound

  -- ---- a field

  -- an entry with one more field, which is declared and new
  field-values : (given : Given) (name text : List ℕ) (number : ℕ) → wanted.field (folded name) ≡ Some number
      → is_some (field_value number (field_values wanted given.fields)) ≡ false
      → changed_at number (λ (old : Option (List ℕ)). Some text) (field_values wanted given.fields) ≡ field_values wanted (with_field given name text).fields
  field-values given name text number is new =
      with_value-new (field_values wanted given.fields) number text new
      ∙ values_from-push wanted given.fields (record { name = name; value = text }) number 0 wanted.count number is (omega arith)

  -- what becomes of it
  abbrev after_text : Known → Given → Field → Known
  after_text known given field =
      let text = value_text Trimmed (string_value known.strings) field.value in
      if_fits text known (record known { current = Some (with_field given field.name text) })

  fitting : (known : Known) (given : Given) (field : Field) (number : ℕ) → known.current ≡ Some given → wanted.field (folded field.name) ≡ Some number
      → is_some (field_value number (field_values wanted given.fields)) ≡ false → (long : Bool)
      → let text = value_text Trimmed (string_value known.strings) field.value in
      let taken : Pending × Bool = if long then (pending_of given, false) else (with_field_text (pending_of given) number text, true) in
      ended_if taken.1 (record (kept_of known) { current = Some taken.0 })
      ≡ kept_of (if long then record known { ending = StringLimit } else record known { current = Some (with_field given field.name text) })
  unfolding body_of
  fitting known given field number current is new true =
      ap (λ (o : Option Given). record (kept_of known) { current = option_map pending_of o; ending = StringLimit }) (sym current)
  fitting known given field number current is new false =
      let text = value_text Trimmed (string_value known.strings) field.value in
      ap (λ (values : List (Option (List ℕ))). record
      (kept_of known) { current = Some (record (pending_of given) { body = record (body_of wanted given) { values = values } }) })
      (field-values given field.name text number is new)

  same-current : (known : Known) (given : Given) → known.current ≡ Some given → record (kept_of known) { current = Some (pending_of given) } ≡ kept_of known
  same-current known given is = ap (λ (o : Option Given). record (kept_of known) { current = option_map pending_of o }) (sym is)

  field-by : (known : Known) (given : Given) (field : Field) → known.current ≡ Some given → (o : Option ℕ) → wanted.field (folded field.name) ≡ o
      → let taken = taken_at known.strings (pending_of given) field o in
      ended_if taken.1 (record (kept_of known) { current = Some taken.0 })
      ≡ kept_of (if is_some o && not (is_some (value_by o (field_values wanted given.fields))) then after_text known given field else known)
  unfolding body_of
  field-by known given field current None is = same-current known given current
  field-by known given field current (Some number) is = at (is_some (field_value number (field_values wanted given.fields))) refl where
    at : (b : Bool) → is_some (field_value number (field_values wanted given.fields)) ≡ b
        → let text = value_text Trimmed (string_value known.strings) field.value in
        let taken : Pending × Bool = if b then (pending_of given, true) else
        (if nat_lt greatest_string (length text) then (pending_of given, false) else (with_field_text (pending_of given) number text, true)) in
        ended_if taken.1 (record (kept_of known) { current = Some taken.0 }) ≡ kept_of (if true && not b then after_text known given field else known)
    at true has = same-current known given current
    at false new = fitting known given field number current is new
        (nat_lt greatest_string (length (value_text Trimmed (string_value known.strings) field.value)))

  fielded-kept : (known : Known) (field : Field) (current : Option Given) → known.current ≡ current
      → fielded_by wanted (kept_of known) field (option_map pending_of current) ≡ kept_of (after_field wanted known current field)
  fielded-kept known field None is = ap (λ (o : Option Given). record (kept_of known) { current = option_map pending_of o }) (sym is)
  fielded-kept known field (Some given) is = field-by known given field is (wanted.field (folded field.name)) refl

  fielded-logged : (database : Database) (strings : Strings) (field : Field) (rest : List ℕ) (current : Option Given)
      → messages_of_current wanted database strings field rest (option_map pending_of current) ≡ field_messages wanted database strings current field rest
  unfolding body_of
  fielded-logged database strings field rest None = refl
  fielded-logged database strings field rest (Some given) = at (wanted.field (folded field.name)) where
    at : (o : Option ℕ) → messages_of_number database strings (pending_of given) field rest o
        ≡ (if is_some (value_by o (field_values wanted given.fields)) then message.ExtraField given.key field.name (position_before database rest)
        ∷ [] else if is_some o then value_messages database strings None field.value else [])
    at None = refl
    at (Some number) = refl

  fielded-sound : (known : Known) (field : Field) (current : Option Given) → known.current ≡ current → Sound known
      → Sound (after_field wanted known current field)
  fielded-sound known field None is sound = sound
  fielded-sound known field (Some given) is sound =
      at (keeps_field wanted given field.name) (nat_lt greatest_string (length (value_text Trimmed (string_value known.strings) field.value))) where
        new : IsNew known.stored (Some given)
        new = subst (IsNew known.stored) is sound.1

        at : (b long : Bool) → let text = value_text Trimmed (string_value known.strings) field.value in
            Sound (if b then (if long then record known { ending = StringLimit } else record known { current = Some (with_field given field.name text) }) else
            known)
        at false long = sound
        at true true = sound
        at true false = (sound.0, new)

  -- ---- one event

  fits : (long : Bool) (known next : Known) → (if long then record (kept_of known) { ending = StringLimit } else kept_of next)
      ≡ kept_of (if long then record known { ending = StringLimit } else next)
  fits true known next = refl
  fits false known next = refl

  sound-fits : (long : Bool) (known next : Known) → Sound known → Sound next → Sound (if long then record known { ending = StringLimit } else next)
  sound-fits true known next sound also = sound
  sound-fits false known next sound also = also

  abbrev pub IsFresh : Known → Event → Type 0
  IsFresh known event = is_repeated (λ (key : List ℕ). is_some (entry_with_key (stored_in known) key)) event ≡ false

  pub event-kept : (known : Known) (event : Event) → Sound known → IsFresh known event → kept_after wanted (kept_of known) event
      ≡ kept_of (after_event wanted known event)
  event-kept known Comment sound fresh = refl
  event-kept known (Preamble value) sound fresh =
      let whole = known.preamble ++ value_text Kept (string_value known.strings) value in
      fits (nat_lt greatest_string (length whole)) known (record known { preamble = whole })
  event-kept known (Definition name value) sound fresh =
      let text = value_text Kept (other_value known.strings name) value in
      fits (nat_lt greatest_string (length text)) known (record known { strings = defined known.strings name text })
  event-kept known (Entry kind key) sound fresh = entered-kept known kind key sound fresh
  event-kept known (FieldOf field) sound fresh = fielded-kept known field known.current refl
  event-kept known ItemEnd sound fresh = refl
  event-kept known (Wrong slip) sound fresh = refl

  pub event-said : (database : Database) (known : Known) (event : Event) (rest : List ℕ) → Sound known → IsFresh known event
      → messages_of wanted database (kept_of known) event rest ≡ event_messages wanted database known event rest
  event-said database known Comment rest sound fresh = refl
  event-said database known (Preamble value) rest sound fresh = refl
  event-said database known (Definition name value) rest sound fresh = refl
  event-said database known (Entry kind key) rest sound fresh = entered-logged database known kind key rest sound fresh
  event-said database known (FieldOf field) rest sound fresh = fielded-logged database known.strings field rest known.current
  event-said database known ItemEnd rest sound fresh = refl
  event-said database known (Wrong slip) rest sound fresh = refl

  pub event-sound : (known : Known) (event : Event) → Sound known → IsFresh known event → Sound (after_event wanted known event)
  event-sound known Comment sound fresh = sound
  event-sound known (Preamble value) sound fresh =
      let whole = known.preamble ++ value_text Kept (string_value known.strings) value in
      sound-fits (nat_lt greatest_string (length whole)) known (record known { preamble = whole }) sound sound
  event-sound known (Definition name value) sound fresh =
      let text = value_text Kept (other_value known.strings name) value in
      sound-fits (nat_lt greatest_string (length text)) known (record known { strings = defined known.strings name text }) sound sound
  event-sound known (Entry kind key) sound fresh = entered-sound known kind key sound fresh
  event-sound known (FieldOf field) sound fresh = fielded-sound known field known.current refl sound
  event-sound known ItemEnd sound fresh = sound
  event-sound known (Wrong slip) sound fresh = sound
