-- The last definition of a name counts.
use Rattle.std.proofs.Common.{◌≡◌, ℕ, nat_lt, Bool, true, false, ◌||◌, cond, if◌then◌else◌, List, [], ◌∷◌, ◌++◌, fold, length, Option, None, Some, refl, sym}
use Rattle.std.proofs.Common.{ap, ◌∙◌}
use Rattle.std.specs.Str.{bytes_eq}
use Rattle.std.specs.Map.{lookup}
use Rattle.std.proofs.lemmas.Cmp.{nat_list_eq_equiv}
use Rattle.std.proofs.lemmas.Slice.Eq.{bytes_eq-Decides}
use Rattle.std.proofs.lemmas.Grind.{fold-append}
use Rattle.indexmap.specs.IndexMap.{insert_entry}
use Rattle.btx_text.specs.language.Limits.{greatest_string}
use Rattle.btx_aux.specs.language.Names.{is_same_key}
use Rattle.btx_bib.specs.declared.end.End.TheVariants as end
use Rattle.btx_bib.specs.declared.grammar.value_ends.Ends.TheVariants.{Kept, Trimmed}
use Rattle.btx_bib.specs.language.Grammar.Fields.{Field}
use Rattle.btx_bib.specs.language.Grammar.Items.{Event, Comment, Preamble, Definition, Entry, FieldOf, ItemEnd as Close, Wrong, Placed}
use Rattle.btx_bib.specs.language.Grammar.ValueTexts.{squeezed, value_text}
use Rattle.btx_bib.specs.language.Request.{Request}
use Rattle.btx_bib.specs.language.Strings.{string_value, other_value, defined}
use Rattle.btx_bib.specs.language.Entries.{Given}
use Rattle.btx_bib.specs.language.Stored.{is_wanted}
use Rattle.btx_bib.specs.language.Known.{Known, goes_on, if_fits, after_field, after_event, known_after, with_current_stored}
use Rattle.btx_bib.specs.laws.Known.{after_all}
use Rattle.btx_bib.specs.language.Databases.{with_macro}
use Rattle.btx_bib.specs.laws.Storing.{defines, is_defined_in, LastDefinitionCounts, OthersKeepTheirs, is_macro_in, LastMacroCounts}
use Rattle.btx_bib.specs.refinement.Known.{keeps_field, with_field}
use Rattle.btx_bib.specs.laws.Databases.{nothing, with_macros}
use Rattle.btx_bib.specs.refinement.Strings.{Strings}

-- ---- a table with one more definition

pub lookup-own : (strings : Strings) (name value : List ℕ) → lookup (bytes_eq name) (insert_entry bytes_eq strings name value) ≡ Some value
lookup-own [] name value = ap (λ (b : Bool). cond b (Some value) None) (nat_list_eq_equiv.refl name)
lookup-own (e ∷ strings) name value = by_test (bytes_eq name e.0) refl (lookup-own strings name value) where
  by_test : (b : Bool) → bytes_eq name e.0 ≡ b → lookup (bytes_eq name) (insert_entry bytes_eq strings name value) ≡ Some value
      → lookup (bytes_eq name) (if b then (e.0, value) ∷ strings else e ∷ insert_entry bytes_eq strings name value) ≡ Some value
  by_test true same rest = ap (λ (b : Bool). cond b (Some value) (lookup (bytes_eq name) strings)) same
  by_test false apart rest = ap (λ (b : Bool). cond b (Some e.1) (lookup (bytes_eq name) (insert_entry bytes_eq strings name value))) apart ∙ rest

pub lookup-other : (strings : Strings) (name other value : List ℕ) → bytes_eq name other ≡ false
    → lookup (bytes_eq name) (insert_entry bytes_eq strings other value) ≡ lookup (bytes_eq name) strings
lookup-other [] name other value apart = ap (λ (b : Bool). cond b (Some value) None) apart
lookup-other (e ∷ strings) name other value apart = by_test (bytes_eq other e.0) refl (lookup-other strings name other value apart) where
  by_test : (b : Bool) → bytes_eq other e.0 ≡ b → lookup (bytes_eq name) (insert_entry bytes_eq strings other value) ≡ lookup (bytes_eq name) strings
      → lookup (bytes_eq name) (if b then (e.0, value) ∷ strings else e ∷ insert_entry bytes_eq strings other value) ≡ lookup (bytes_eq name) (e ∷ strings)
  by_test true same rest =
      let here : bytes_eq name e.0 ≡ false = ap (bytes_eq name) (sym ((bytes_eq-Decides other e.0).0 same)) ∙ apart in
      ap (λ (b : Bool). cond b (Some value) (lookup (bytes_eq name) strings)) here
      ∙ sym (ap (λ (b : Bool). cond b (Some e.1) (lookup (bytes_eq name) strings)) here)
  by_test false other_there rest = ap (cond (bytes_eq name e.0) (Some e.1)) rest

-- ---- neither of two

or-none : (a b : Bool) → (a || b) ≡ false → (a ≡ false) × (b ≡ false)
or-none true b h = cc
or-none false b h = (refl, h)

-- ---- definitions that give what was defined, and nothing else

abbrev pub GivesOwn : Type 0
GivesOwn = (strings : Strings) (name own value : List ℕ) → is_same_key name own ≡ true → string_value (defined strings own value) name ≡ Some value

abbrev pub LeavesOthers : Type 0
LeavesOthers = (strings : Strings) (name own value : List ℕ) → is_same_key name own ≡ false → string_value (defined strings own value) name
    ≡ string_value strings name

abbrev value_of : Known → List ℕ → Option (List ℕ)
value_of known name = string_value known.strings name

module _ (gives : GivesOwn) (leaves : LeavesOthers) where
  -- ---- one event

  fits-value : (text : List ℕ) (known next : Known) (name : List ℕ) → value_of next name ≡ value_of known name → value_of (if_fits text known next) name
      ≡ value_of known name
  fits-value text known next name same = by_test (nat_lt greatest_string (length text)) where
    by_test : (b : Bool) → value_of (if b then record known { ending = end.StringLimit } else next) name ≡ value_of known name
    by_test true = refl
    by_test false = same

  field-value : (wanted : Request) (known : Known) (current : Option Given) (field : Field) (name : List ℕ)
      → value_of (after_field wanted known current field) name ≡ value_of known name
  field-value wanted known None field name = refl
  field-value wanted known (Some given) field name = by_test (keeps_field wanted given field.name) where
    text : List ℕ
    text = value_text Trimmed (string_value known.strings) field.value

    by_test : (b : Bool) → value_of (if b then if_fits text known (record known { current = Some (with_field given field.name text) }) else known) name
        ≡ value_of known name
    by_test true = fits-value text known (record known { current = Some (with_field given field.name text) }) name refl
    by_test false = refl

  key-value : (known : Known) (kind key name : List ℕ) (b : Bool)
      → value_of (if b then record known { current = Some (record { kind = kind; key = key; fields = [] }) } else known) name ≡ value_of known name
  key-value known kind key name true = refl
  key-value known kind key name false = refl

  event-value : (wanted : Request) (known : Known) (event : Event) (name : List ℕ) → defines name event ≡ false → value_of (after_event wanted known event) name
      ≡ value_of known name
  event-value wanted known Comment name other = refl
  event-value wanted known (Preamble value) name other =
      let whole = known.preamble ++ value_text Kept (string_value known.strings) value in fits-value whole known (record known { preamble = whole }) name refl
  event-value wanted known (Definition own value) name other =
      let text = value_text Kept (other_value known.strings own) value in
      fits-value text known (record known { strings = defined known.strings own text }) name (leaves known.strings name own text other)
  event-value wanted known (Entry kind key) name other =
      key-value (with_current_stored known) kind key name (is_wanted wanted (with_current_stored known).stored key)
  event-value wanted known (FieldOf field) name other = field-value wanted known known.current field name
  event-value wanted known Close name other = refl
  event-value wanted known (Wrong slip) name other = refl

  next-value : (wanted : Request) (known : Known) (event : Event) (name : List ℕ) → defines name event ≡ false → value_of (known_after wanted known event) name
      ≡ value_of known name
  next-value wanted known event name other = by_end (goes_on known.ending) where
    by_end : (b : Bool) → value_of (if b then after_event wanted known event else known) name ≡ value_of known name
    by_end true = event-value wanted known event name other
    by_end false = refl

  -- ---- all events

  pub others-keep-theirs : OthersKeepTheirs
  others-keep-theirs wanted known [] name none = refl
  others-keep-theirs wanted known (placed ∷ events) name none =
      let neither = or-none (defines name placed.event) (is_defined_in name events) none in
      others-keep-theirs wanted (known_after wanted known placed.event) events name neither.1 ∙ next-value wanted known placed.event name neither.0

  -- a reading that goes on went on before
  stuck : (wanted : Request) (known : Known) (events : List Placed) → goes_on known.ending ≡ false → after_all wanted known events ≡ known
  stuck wanted known [] ended = refl
  stuck wanted known (placed ∷ events) ended =
      ap (λ (b : Bool). after_all wanted (if b then after_event wanted known placed.event else known) events) ended ∙ stuck wanted known events ended

  went-on : (wanted : Request) (known : Known) (events : List Placed) → goes_on (after_all wanted known events).ending ≡ true → goes_on known.ending ≡ true
  went-on wanted known events on = by_end (goes_on known.ending) refl where
    by_end : (b : Bool) → goes_on known.ending ≡ b → goes_on known.ending ≡ true
    by_end true here = here
    by_end false over = sym (ap (λ (k : Known). goes_on k.ending) (stuck wanted known events over)) ∙ on

  -- a definition that fits gives its value
  fitting-value : (known : Known) (name own text : List ℕ) → is_same_key name own ≡ true
      → goes_on (if_fits text known (record known { strings = defined known.strings own text })).ending ≡ true
      → value_of (if_fits text known (record known { strings = defined known.strings own text })) name ≡ Some text
  fitting-value known name own text same on = by_test (nat_lt greatest_string (length text)) on where
    by_test : (b : Bool) → goes_on (if b then record known { ending = end.StringLimit } else record known { strings = defined known.strings own text }).ending
        ≡ true
        → value_of (if b then record known { ending = end.StringLimit } else record known { strings = defined known.strings own text }) name ≡ Some text
    by_test true over = cc
    by_test false fits = gives known.strings name own text same

  pub last-definition-counts : LastDefinitionCounts
  last-definition-counts wanted known before behind name own rest value same none on =
      let middle = after_all wanted known before in
      let placed : Placed = record { event = Definition own value; rest = rest } in
      let text = value_text Kept (other_value middle.strings own) value in
      let next = known_after wanted middle placed.event in
      let split : after_all wanted known (before ++ placed ∷ behind) ≡ after_all wanted next behind =
      fold-append (λ (k : Known) (p : Placed). known_after wanted k p.event) known before (placed ∷ behind) in
      let on_next : goes_on next.ending ≡ true = went-on wanted next behind (sym (ap (λ (k : Known). goes_on k.ending) split) ∙ on) in
      let on_middle : goes_on middle.ending ≡ true = went-on wanted middle (placed ∷ []) on_next in
      let fitted : next ≡ if_fits text middle (record middle { strings = defined middle.strings own text }) =
      ap (λ (b : Bool). if b then after_event wanted middle placed.event else middle) on_middle in
      ap (λ (k : Known). value_of k name) split
      ∙ others-keep-theirs wanted next behind name none
      ∙ ap (λ (k : Known). value_of k name) fitted
      ∙ fitting-value middle name own text same (sym (ap (λ (k : Known). goes_on k.ending) fitted) ∙ on_next)

  -- ---- macros

  macro-fits : (known : Known) (macro : List ℕ × List ℕ) → goes_on known.ending ≡ true
      → with_macro known macro ≡ if_fits (squeezed macro.1) known (record known { strings = defined known.strings macro.0 (squeezed macro.1) })
  macro-fits known macro on =
      ap (λ (b : Bool). if b then if_fits (squeezed macro.1) known (record known { strings = defined known.strings macro.0 (squeezed macro.1) }) else known) on

  macro-value : (known : Known) (macro : List ℕ × List ℕ) (name : List ℕ) → is_same_key name macro.0 ≡ false → value_of (with_macro known macro) name
      ≡ value_of known name
  macro-value known macro name other = by_end (goes_on known.ending) where
    text : List ℕ
    text = squeezed macro.1

    by_end : (b : Bool) → value_of (if b then if_fits text known (record known { strings = defined known.strings macro.0 text }) else known) name
        ≡ value_of known name
    by_end true = fits-value text known (record known { strings = defined known.strings macro.0 text }) name (leaves known.strings name macro.0 text other)
    by_end false = refl

  macros-value : (known : Known) (macros : List (List ℕ × List ℕ)) (name : List ℕ) → is_macro_in name macros ≡ false
      → value_of (fold with_macro known macros) name ≡ value_of known name
  macros-value known [] name none = refl
  macros-value known (macro ∷ macros) name none =
      let neither = or-none (is_same_key name macro.0) (is_macro_in name macros) none in
      macros-value (with_macro known macro) macros name neither.1 ∙ macro-value known macro name neither.0

  macros-stuck : (known : Known) (macros : List (List ℕ × List ℕ)) → goes_on known.ending ≡ false → fold with_macro known macros ≡ known
  macros-stuck known [] over = refl
  macros-stuck known (macro ∷ macros) over =
      ap (λ (b : Bool). fold with_macro (if b then if_fits (squeezed macro.1) known
      (record known { strings = defined known.strings macro.0 (squeezed macro.1) }) else known) macros) over
      ∙ macros-stuck known macros over

  macros-went-on : (known : Known) (macros : List (List ℕ × List ℕ)) → goes_on (fold with_macro known macros).ending ≡ true → goes_on known.ending ≡ true
  macros-went-on known macros on = by_end (goes_on known.ending) refl where
    by_end : (b : Bool) → goes_on known.ending ≡ b → goes_on known.ending ≡ true
    by_end true here = here
    by_end false over = sym (ap (λ (k : Known). goes_on k.ending) (macros-stuck known macros over)) ∙ on

  pub last-macro-counts : LastMacroCounts
  last-macro-counts before behind name own text same none on =
      let middle = fold with_macro nothing before in
      let next = with_macro middle (own, text) in
      let split : with_macros (before ++ (own, text) ∷ behind) ≡ fold with_macro next behind = fold-append with_macro nothing before ((own, text) ∷ behind) in
      let on_next : goes_on next.ending ≡ true = macros-went-on next behind (sym (ap (λ (k : Known). goes_on k.ending) split) ∙ on) in
      let on_middle : goes_on middle.ending ≡ true = macros-went-on middle ((own, text) ∷ []) on_next in
      let fitted = macro-fits middle (own, text) on_middle in
      ap (λ (k : Known). value_of k name) split
      ∙ macros-value next behind name none
      ∙ ap (λ (k : Known). value_of k name) fitted
      ∙ fitting-value middle name own (squeezed text) same (sym (ap (λ (k : Known). goes_on k.ending) fitted) ∙ on_next)
