-- What is known along databases is the same with numbers of fields and with their names.
use Rattle.std.proofs.Common.{◌≡◌, ℕ, zero, suc, ◌+◌, ◌<◌, Bool, true, false, cond, not, if◌then◌else◌, List, [], ◌∷◌, ◌++◌, length, Option, None, Some, Result}
use Rattle.std.proofs.Common.{Ok, Err, is_some, is_none, option_map, option_and_then, option_to_list, nat_lt, sym, ap, ap₂, subst, ◌∙◌, refl, arith, append-nil}
use Rattle.std.proofs.Common.{true≢false}
use Rattle.std.specs.List.{find, flat_map, list_any, fold}
use Rattle.std.specs.Map.{lookup}
use Rattle.std.specs.Option.{option_map_or, option_or}
use Rattle.std.specs.Prelude.{codes, map, nat_eq, ◌||◌, ◌&&◌}
use Rattle.std.specs.Str.{bytes_eq}
use Rattle.std.proofs.lemmas.Slice.Eq.{bytes_eq-Decides}
use Rattle.std.proofs.lemmas.Bool.{eqb-true, eq-eqb}
use Rattle.btx_aux.specs.language.Names.{is_same_key}
use Rattle.btx_bib.specs.declared.end.End.{End}
use Rattle.btx_bib.specs.declared.end.End.TheVariants as end
use Rattle.btx_bib.specs.declared.grammar.commands.Expected.{Expected}
use Rattle.btx_bib.specs.declared.grammar.commands.Expected.TheVariants.{Item}
use Rattle.btx_bib.specs.declared.grammar.slip.SyntaxError.{SyntaxError}
use Rattle.btx_bib.specs.declared.grammar.value_ends.Ends.TheVariants.{Kept, Trimmed}
use Rattle.btx_bib.specs.declared.message.Message.{Message}
use Rattle.btx_bib.specs.declared.message.Message.TheVariants as message
use Rattle.btx_bib.specs.language.Databases.{read_one, with_macro}
use Rattle.btx_bib.specs.language.Entries.{KeptField, Given, value_in, values_from, field_values, parent_in}
use Rattle.btx_bib.specs.language.Grammar.Fields.{Field}
use Rattle.btx_bib.specs.language.Grammar.Items.{Comment, Definition, Event, FieldOf, Placed, Preamble, Wrong, as_known, events_from}
use Rattle.btx_bib.specs.language.Grammar.Items.{Entry as EntryHead}
use Rattle.btx_bib.specs.language.Grammar.Items as items
use Rattle.btx_bib.specs.language.Grammar.ValueTexts.{squeezed, value_text}
use Rattle.btx_bib.specs.language.Grammar.Values.{Part, Named, Braced, Quoted, Digits}
use Rattle.btx_bib.specs.language.Known as numbered
use Rattle.btx_bib.specs.language.Known.{goes_on, stored_in, has_value}
use Rattle.btx_bib.specs.language.MessageTexts.{message_line, message_text}
use Rattle.btx_text.specs.declared.log_line.LineKind.TheVariants as line
use Rattle.btx_text.specs.language.LogLines.{Line, mark_of}
use Rattle.btx_bib.specs.language.Messages.{Database, Reading, event_messages, field_messages, value_messages, name_messages, read_next, position_at, position_before}
use Rattle.btx_bib.specs.language.Stored.{entry_with_key, parents_in, is_wanted}
use Rattle.btx_bib.specs.language.Strings.{string_value, other_value, defined}
use Rattle.btx_bib.specs.language.Values.{field_value}
use Rattle.btx_bib.specs.language.Request.{Request as NumberedRequest}
use Rattle.btx_bib.specs.laws.Databases.{with_macros as macros_known, nothing}
use Rattle.btx_bib.specs.laws.Grammar.Reading.{IsEventOf, IsReading}
use Rattle.btx_bib.proofs.DefinitionLemmas.{lookup-own, lookup-other}
use Rattle.btx_bib.proofs.GrammarLemmas.ReadingLemmas.{is_reading}
use Rattle.btx_bst.specs.declared.callee.Callee.TheVariants as callee
use Rattle.btx_core.specs.language.Databases.{Request, Stored, DatabaseState, all_stored, entry_closed, if_fits, stored_with, parents_named, is_asked, meaning_of}
use Rattle.btx_core.specs.language.Databases.{part_messages, saying, field_read, known_after_event, known_after, stored_keys, AreEvents, IsReadBy, AreRead, with_macros}
use Rattle.btx_core.specs.language.Databases.{at_position}
use Rattle.btx_core.specs.laws.SameLibraries.{limit_met, value_named}
use Rattle.btx_core.specs.laws.SameStyles.{IsMeant, Numbers}
use Rattle.btx_core.specs.language.Styles.{Function, set}
use Rattle.btx_text.specs.declared.limits.Limit.TheVariants as limit
use Rattle.btx_text.specs.language.Keys.{folded}
use Rattle.btx_text.specs.language.Limits.{greatest_string, is_too_long}
use Rattle.btx_text.specs.language.Lists.{only_if}

-- what is asked, in both ways: a number is that of one name at most, and the first field is `crossref`
pub record SameRequest (numbers : Numbers) (R : NumberedRequest) (Q : Request) : Type 0 where
  pub cited : Q.cited ≡ R.cited
  pub all : Q.all ≡ R.all
  pub fewest : Q.fewest ≡ R.fewest
  pub fields : (name : List ℕ) → Q.is_field name ≡ is_some (R.field name)
  pub types : (name : List ℕ) → IsMeant numbers (option_map callee.User (R.kind name)) (Q.types name)
  pub within : (name : List ℕ) (n : ℕ) → R.field name ≡ Some n → n < R.count
  pub one_name : (a b : List ℕ) (n : ℕ) → R.field a ≡ Some n → R.field b ≡ Some n → a ≡ b
  pub parent : R.field (codes "crossref") ≡ Some 0
  pub starred : is_some R.all ≡ true → R.fewest ≡ 0

-- ---- values of an entry

-- the value of a name among fields that are kept
abbrev pub kept_value : NumberedRequest → List KeptField → List ℕ → Option (List ℕ)
kept_value R fields name = option_and_then (λ (n : ℕ). value_in R fields n) (R.field name)

values_at : (R : NumberedRequest) (fields : List KeptField) (first count n : ℕ) → n < count → field_value n (values_from R fields first count)
    ≡ value_in R fields (first + n)
values_at R fields first zero n lt = absurd (omega (arith, lt))
values_at R fields first (suc count) zero lt = ap (value_in R fields) (let e : first ≡ first + 0 = omega arith in e)
values_at R fields first (suc count) (suc n) lt =
    values_at R fields (suc first) count n (omega (arith, lt)) ∙ ap (value_in R fields) (let e : suc first + n ≡ first + suc n = omega arith in e)

pub values_length : (R : NumberedRequest) (fields : List KeptField) (first count : ℕ) → length (values_from R fields first count) ≡ count
values_length R fields first zero = refl
values_length R fields first (suc count) = ap suc (values_length R fields (suc first) count)

-- a value by its name, among all values and among those that are kept
pub value_kept : (numbers : Numbers) (R : NumberedRequest) (Q : Request) → SameRequest numbers R Q → (fields : List KeptField) (name : List ℕ)
    → value_named R.field (field_values R fields) name ≡ kept_value R fields name
value_kept numbers R Q h fields name = by (R.field name) refl where
  by : (o : Option ℕ) → R.field name ≡ o → option_and_then (λ (n : ℕ). field_value n (field_values R fields)) o
      ≡ option_and_then (λ (n : ℕ). value_in R fields n) o
  by None e = refl
  by (Some n) e = values_at R fields 0 R.count n (h.within name n e) ∙ ap (value_in R fields) (let z : 0 + n ≡ n = omega arith in z)

parent_is : (values : List (Option (List ℕ))) → parent_in values ≡ field_value 0 values
parent_is [] = refl
parent_is (v ∷ values) = refl

-- the parent is the value of `crossref`
pub parent_named : (numbers : Numbers) (R : NumberedRequest) (Q : Request) → SameRequest numbers R Q → (values : List (Option (List ℕ)))
    → parent_in values ≡ value_named R.field values (codes "crossref")
parent_named numbers R Q h values = parent_is values ∙ sym (ap (option_and_then (λ (n : ℕ). field_value n values)) h.parent)

find_both : {A : Type 0} (test : A → Bool) (xs : List A) (y : A) → find test (xs ++ y ∷ []) ≡ option_or (find test xs) (if test y then Some y else None)
find_both test [] y = refl
find_both test (x ∷ xs) y = by (test x) (find_both test xs y) where
  by : (t : Bool) → find test (xs ++ y ∷ []) ≡ option_or (find test xs) (if test y then Some y else None)
      → cond t (Some x) (find test (xs ++ y ∷ [])) ≡ option_or (cond t (Some x) (find test xs)) (if test y then Some y else None)
  by true h = refl
  by false h = h

abbrev has_number : NumberedRequest → ℕ → KeptField → Bool
has_number R n field = option_map_or (λ (other : ℕ). nat_eq other n) (R.field (folded field.name)) false

-- a field of a name that has no value yet gives that name one, and changes no other
one_more_value : (numbers : Numbers) (R : NumberedRequest) (Q : Request) → SameRequest numbers R Q → (fields : List KeptField) (name text : List ℕ) (n : ℕ)
    → R.field (folded name) ≡ Some n → kept_value R fields (folded name) ≡ None
    → (m : List ℕ) → kept_value R (fields ++ record { name = name; value = text } ∷ []) m ≡ set (folded name) (Some text) (kept_value R fields) m
one_more_value numbers R Q h fields name text n e none m = by (bytes_eq m (folded name)) refl (R.field m) refl where
  new : KeptField
  new = record { name = name; value = text }

  found : (k : ℕ) → value_in R (fields ++ new ∷ []) k ≡ option_map (λ (field : KeptField). field.value)
      (option_or (find (has_number R k) fields) (if has_number R k new then Some new else None))
  found k = ap (option_map (λ (field : KeptField). field.value)) (find_both (has_number R k) fields new)

  without : (o : Option KeptField) → option_map (λ (field : KeptField). field.value) o ≡ None
      → option_map (λ (field : KeptField). field.value) (option_or o (Some new)) ≡ Some text
  without None k = refl
  without (Some f) k = absurd (cc)

  plain : (o : Option KeptField) → option_or o None ≡ o
  plain None = refl
  plain (Some f) = refl

  by : (t : Bool) → bytes_eq m (folded name) ≡ t → (o : Option ℕ) → R.field m ≡ o
      → option_and_then (λ (k : ℕ). value_in R (fields ++ new ∷ []) k) o ≡ (if t then Some text else option_and_then (λ (k : ℕ). value_in R fields k) o)
  by true is None f =
      let same : m ≡ folded name = (bytes_eq-Decides m (folded name)).0 is in
      let no : None ≡ Some n = sym f ∙ ap R.field same ∙ e in
      absurd (cc)
  by true is (Some k) f =
      let same : m ≡ folded name = (bytes_eq-Decides m (folded name)).0 is in
      let number : Some k ≡ Some n = sym f ∙ ap R.field same ∙ e in
      let one : k ≡ n = cc in
      let test : has_number R k new ≡ true = ap (λ (o : Option ℕ). option_map_or (λ (other : ℕ). nat_eq other k) o false) e ∙ eq-eqb n k (sym one) in
      let before : value_in R fields k ≡ None = ap (value_in R fields) one ∙ sym (ap (option_and_then (λ (k : ℕ). value_in R fields k)) e) ∙ none in
      found k ∙ ap (λ (z : Bool). option_map (λ (field : KeptField). field.value) (option_or (find (has_number R k) fields) (if z then Some new else None)))
      test ∙ without (find (has_number R k) fields) before
  by false is None f = refl
  by false is (Some k) f = differs (nat_eq n k) refl where
    differs : (z : Bool) → nat_eq n k ≡ z → value_in R (fields ++ new ∷ []) k ≡ value_in R fields k
    differs true same =
        let number : R.field m ≡ Some n = f ∙ ap Some (sym (eqb-true n k same)) in
        let one : m ≡ folded name = h.one_name m (folded name) n number e in
        absurd (true≢false (sym ((bytes_eq-Decides m (folded name)).1 one) ∙ is))
    differs false other =
        let test : has_number R k new ≡ false = ap (λ (o : Option ℕ). option_map_or (λ (other : ℕ). nat_eq other k) o false) e ∙ other in
        found k ∙ ap (λ (z : Bool). option_map (λ (field : KeptField). field.value) (option_or (find (has_number R k) fields) (if z then Some new else None)))
        test
        ∙ ap (option_map (λ (field : KeptField). field.value)) (plain (find (has_number R k) fields))

-- ---- entries

pub record SameGiven (R : NumberedRequest) (g : Given) (e : Stored) : Type 0 where
  pub kind : e.kind ≡ g.kind
  pub key : e.key ≡ g.key
  pub value : (name : List ℕ) → e.value name ≡ kept_value R g.fields name

abbrev pub AreSameGiven : NumberedRequest → List Given → List Stored → Type 0
AreSameGiven R [] [] = Unit {0}
AreSameGiven R (g ∷ gs) (e ∷ es) = SameGiven R g e × AreSameGiven R gs es
AreSameGiven R gs es = ⊥

abbrev pub IsSameCurrent : NumberedRequest → Option Given → Option Stored → Type 0
IsSameCurrent R None None = Unit {0}
IsSameCurrent R (Some g) (Some e) = SameGiven R g e
IsSameCurrent R g e = ⊥

given_both : (R : NumberedRequest) (gs hs : List Given) (es fs : List Stored) → AreSameGiven R gs es → AreSameGiven R hs fs
    → AreSameGiven R (gs ++ hs) (es ++ fs)
given_both R [] hs [] fs h k = k
given_both R [] hs (e ∷ es) fs h k = absurd h
given_both R (g ∷ gs) hs [] fs h k = absurd h
given_both R (g ∷ gs) hs (e ∷ es) fs h k = (h.0, given_both R gs hs es fs h.1 k)

current_list : (R : NumberedRequest) (g : Option Given) (e : Option Stored) → IsSameCurrent R g e → AreSameGiven R (option_to_list g) (option_to_list e)
current_list R None None h = tt
current_list R (Some g) (Some e) h = (h, tt)
current_list R None (Some e) h = absurd h
current_list R (Some g) None h = absurd h

-- the first entry of a key
abbrev pub IsSameFound : NumberedRequest → Option Given → Option Stored → Type 0
IsSameFound = IsSameCurrent

pub found_same : (R : NumberedRequest) (gs : List Given) (es : List Stored) → AreSameGiven R gs es → (key : List ℕ)
    → IsSameFound R (entry_with_key gs key) (stored_with es key)
found_same R [] [] h key = tt
found_same R [] (e ∷ es) h key = absurd h
found_same R (g ∷ gs) [] h key = absurd h
found_same R (g ∷ gs) (e ∷ es) h key =
    subst (λ k. IsSameFound R (cond (is_same_key key g.key) (Some g) (entry_with_key gs key)) (cond (is_same_key key k) (Some e) (stored_with es key)))
    (sym h.0.key)
    (by (is_same_key key g.key) (found_same R gs es h.1 key)) where
      by : (t : Bool) → IsSameFound R (entry_with_key gs key) (stored_with es key)
          → IsSameFound R (cond t (Some g) (entry_with_key gs key)) (cond t (Some e) (stored_with es key))
      by true rest = h.0
      by false rest = rest

is_found : (R : NumberedRequest) (g : Option Given) (e : Option Stored) → IsSameFound R g e → is_some e ≡ is_some g
is_found R None None h = refl
is_found R (Some g) (Some e) h = refl
is_found R None (Some e) h = absurd h
is_found R (Some g) None h = absurd h

pub parents_same : (numbers : Numbers) (R : NumberedRequest) (Q : Request) → SameRequest numbers R Q → (gs : List Given) (es : List Stored)
    → AreSameGiven R gs es → parents_named es ≡ parents_in R gs
parents_same numbers R Q h [] [] k = refl
parents_same numbers R Q h [] (e ∷ es) k = absurd k
parents_same numbers R Q h (g ∷ gs) [] k = absurd k
parents_same numbers R Q h (g ∷ gs) (e ∷ es) k =
    ap₂ (λ (o : Option (List ℕ)) (rest : List (List ℕ)). option_to_list o ++ rest)
    (k.0.value (codes "crossref") ∙ sym (value_kept numbers R Q h g.fields (codes "crossref")) ∙ sym (parent_named numbers R Q h (field_values R g.fields)))
    (parents_same numbers R Q h gs es k.1)

asked_same : (numbers : Numbers) (R : NumberedRequest) (Q : Request) → SameRequest numbers R Q → (gs : List Given) (es : List Stored) → AreSameGiven R gs es
    → (key : List ℕ) → is_asked Q es key ≡ is_wanted R gs key
asked_same numbers R Q h gs es k key =
    ap₂ (λ (o : Option ℕ) (cited : List (List ℕ)). is_some o || list_any (is_same_key key) (cited ++ parents_named es)) h.all h.cited
    ∙ ap (λ (ps : List (List ℕ)). is_some R.all || list_any (is_same_key key) (R.cited ++ ps)) (parents_same numbers R Q h gs es k)
    ∙ by (is_some R.all) where
      by : (t : Bool) → (t || list_any (is_same_key key) (R.cited ++ parents_in R gs))
          ≡ (t || list_any (is_same_key key) (R.cited ++ (if t then [] else parents_in R gs)))
      by true = refl
      by false = refl

-- ---- what is known

-- the reading with numbers has come as far as the one in names
pub record SameReading (R : NumberedRequest) (reading : Reading) (known : DatabaseState) : Type 0 where
  pub strings : (name : List ℕ) → known.strings name ≡ lookup (bytes_eq name) reading.known.strings
  pub stored : AreSameGiven R reading.known.stored known.stored
  pub current : IsSameCurrent R reading.known.current known.current
  pub preamble : known.preamble ≡ reading.known.preamble
  pub messages : known.log ≡ map message_line reading.messages
  pub limit : known.limit ≡ limit_met reading.known.ending

all_stored_same : (R : NumberedRequest) (reading : Reading) (known : DatabaseState) → SameReading R reading known
    → AreSameGiven R (stored_in reading.known) (all_stored known)
all_stored_same R reading known h = given_both R reading.known.stored (option_to_list reading.known.current) known.stored (option_to_list known.current)
    h.stored (current_list R reading.known.current known.current h.current)

closed_same : (R : NumberedRequest) (reading : Reading) (known : DatabaseState) → SameReading R reading known
    → SameReading R (record reading { known = numbered.with_current_stored reading.known }) (entry_closed known)
closed_same R reading known h = record {
  strings = h.strings;
  stored = all_stored_same R reading known h;
  current = tt;
  preamble = h.preamble;
  messages =
      h.messages;
  limit = h.limit;
}

-- the lines of messages
pub lines_more : (xs ys : List Message) → map message_line (xs ++ ys) ≡ map message_line xs ++ map message_line ys
lines_more [] ys = refl
lines_more (x ∷ xs) ys = ap (λ (lines : List Line). message_line x ∷ lines) (lines_more xs ys)

-- messages are added to both
says_same : (R : NumberedRequest) (reading : Reading) (known : DatabaseState) (said : List Message) → SameReading R reading known
    → SameReading R (record reading { messages = reading.messages ++ said }) (saying (map message_line said) known)
says_same R reading known said h = record {
  strings = h.strings;
  stored = h.stored;
  current = h.current;
  preamble = h.preamble;
  messages = ap (λ (lines : List Line). lines ++ map message_line said) h.messages ∙ sym (lines_more reading.messages said);
  limit = h.limit;
}

no_messages : (R : NumberedRequest) (reading : Reading) (known : DatabaseState) → SameReading R reading known
    → SameReading R (record reading { messages = reading.messages ++ [] }) known
no_messages R reading known h = record {
  strings = h.strings;
  stored = h.stored;
  current = h.current;
  preamble = h.preamble;
  messages = h.messages ∙ ap (map message_line) (sym (append-nil reading.messages));
  limit = h.limit;
}

-- a string that fits, and one that doesn't
fits_same : (R : NumberedRequest) (text : List ℕ) (a : numbered.Known) (b : numbered.Known) (messages : List Message) (k l : DatabaseState)
    → SameReading R (record { known = a; messages = messages }) k → SameReading R (record { known = b; messages = messages }) l
    → SameReading R (record { known = numbered.if_fits text a b; messages = messages }) (if_fits text k l)
fits_same R text a b messages k l h g = by (nat_lt greatest_string (length text)) where
  by : (t : Bool) → SameReading R (record { known = if t then record a { ending = end.StringLimit } else b; messages = messages })
      (if t then record k { limit = Some limit.String } else l)
  by true = record { strings = h.strings; stored = h.stored; current = h.current; preamble = h.preamble; messages = h.messages; limit = refl }
  by false = g

-- ---- strings

-- what a name stands for, where the strings are the same
value_same : (R : NumberedRequest) (reading : Reading) (known : DatabaseState) → SameReading R reading known
    → meaning_of known None ≡ string_value reading.known.strings
value_same R reading known h = λ i name. h.strings (folded name) i

other_same : (R : NumberedRequest) (reading : Reading) (known : DatabaseState) (own : List ℕ) → SameReading R reading known → meaning_of known (Some own)
    ≡ other_value reading.known.strings own
other_same R reading known own h = λ i name. by (is_same_key own name) name i where
  by : (t : Bool) (name : List ℕ) → (if t then None else known.strings (folded name)) ≡ (if t then None else string_value reading.known.strings name)
  by true name = refl
  by false name = h.strings (folded name)

part_same : (R : NumberedRequest) (database : Database) (reading : Reading) (known : DatabaseState) (own : Option (List ℕ)) (part : Part) → SameReading R reading known
    → part_messages database known own part ≡ map message_line (name_messages database reading.known.strings own part)
unfolding message_text mark_of
part_same R database reading known own (Braced text) h = refl
part_same R database reading known own (Quoted text) h = refl
part_same R database reading known own (Digits text) h = refl
part_same R database reading known own (Named string) h =
    by (option_map_or (λ (defined : List ℕ). is_same_key defined string.name) own false) (is_none (known.strings (folded string.name)))
    ∙ ap (λ (o : Option (List ℕ)). map message_line (if option_map_or (λ (defined : List ℕ). is_same_key defined string.name) own false then message.OwnString
    string.name (position_at database string.rest) ∷ [] else if is_none o then message.UndefinedString string.name (position_at database string.rest) ∷ [] else []))
    (h.strings (folded string.name)) where
      warned : List ℕ → List Line
      warned text = at_position line.Warning (codes "string name \"" ++ string.name ++ text) (position_at database string.rest) ∷ []

      by : (own none : Bool) → (if own then warned (codes "\" is used in its own definition") else if none then warned (codes "\" is undefined") else [])
          ≡ map message_line (if own then message.OwnString string.name (position_at database string.rest) ∷ [] else if none then message.UndefinedString
          string.name (position_at database string.rest) ∷ [] else [])
      by true none = refl
      by false true = refl
      by false false = refl

parts_same : (R : NumberedRequest) (database : Database) (reading : Reading) (known : DatabaseState) (own : Option (List ℕ)) (value : List Part)
    → SameReading R reading known
    → flat_map (part_messages database known own) value ≡ map message_line (value_messages database reading.known.strings own value)
parts_same R database reading known own [] h = refl
parts_same R database reading known own (part ∷ value) h =
    ap₂ (λ (ms ns : List Line). ms ++ ns) (part_same R database reading known own part h) (parts_same R database reading known own value h)
    ∙ sym (lines_more (name_messages database reading.known.strings own part) (value_messages database reading.known.strings own value))

-- a string gets a value
defined_same : (strings : List (List ℕ × List ℕ)) (known : List ℕ → Option (List ℕ)) (name text : List ℕ)
    → ((m : List ℕ) → known m ≡ lookup (bytes_eq m) strings)
    → (m : List ℕ) → set (folded name) (Some text) known m ≡ lookup (bytes_eq m) (defined strings name text)
defined_same strings known name text h m = by (bytes_eq m (folded name)) refl where
  by : (t : Bool) → bytes_eq m (folded name) ≡ t → (if t then Some text else known m) ≡ lookup (bytes_eq m) (defined strings name text)
  by true e =
      let same : m ≡ folded name = (bytes_eq-Decides m (folded name)).0 e in
      sym (ap (λ (x : List ℕ). lookup (bytes_eq x) (defined strings name text)) same ∙ lookup-own strings (folded name) text)
  by false e = h m ∙ sym (lookup-other strings m (folded name) text e)

-- ---- events

module _ (numbers : Numbers) (R : NumberedRequest) (Q : Request) (h : SameRequest numbers R Q) where
  abbrev Same : Reading → DatabaseState → Type 0
  Same = SameReading R

  -- a further event, where no limit was met
  abbrev next_reading : Database → Reading → Event → List ℕ → Reading
  next_reading database reading event rest = record {
    known = numbered.after_event R reading.known event;
    messages = reading.messages ++ event_messages R database reading.known event rest;
  }

  preamble_same : (database : Database) (reading : Reading) (known : DatabaseState) (value : List Part) (rest : List ℕ) → Same reading known
      → Same (next_reading database reading (Preamble value) rest) (known_after_event Q database known (Preamble value) rest)
  preamble_same database reading known value rest k =
      let said = value_messages database reading.known.strings None value in
      let lines = map message_line said in
      let whole = reading.known.preamble ++ value_text Kept (string_value reading.known.strings) value in
      let whole' = known.preamble ++ value_text Kept (meaning_of known None) value in
      let same : whole' ≡ whole =
      ap (λ (p : List ℕ). p ++ value_text Kept (meaning_of known None) value) k.preamble
      ∙ ap (λ (m : List ℕ → Option (List ℕ)). reading.known.preamble ++ value_text Kept m value) (value_same R reading known k) in
      let added = says_same R reading known said k in
      let begun : SameReading R (record { known = record reading.known { preamble = whole }; messages = reading.messages ++ said })
      (record (saying lines known) { preamble = whole' }) =
      record {
        strings = added.strings;
        stored = added.stored;
        current = added.current;
        preamble = same;
        messages = added.messages;
        limit =
            added.limit;
      } in
      let of_text : SameReading R (next_reading database reading (Preamble value) rest)
      (if_fits whole' (saying lines known) (record (saying lines known) { preamble = whole' })) =
      subst (λ (text : List ℕ). SameReading R (next_reading database reading (Preamble value) rest)
      (if_fits text (saying lines known) (record (saying lines known) { preamble = whole' }))) (sym same)
      (fits_same R whole reading.known (record reading.known { preamble = whole }) (reading.messages ++ said) (saying lines known)
      (record (saying lines known) { preamble = whole' }) added begun) in
      subst (λ (ms : List Line). SameReading R (next_reading database reading (Preamble value) rest)
      (if_fits whole' (saying ms known) (record (saying ms known) { preamble = whole' })))
      (sym (parts_same R database reading known None value k)) of_text

  definition_same : (database : Database) (reading : Reading) (known : DatabaseState) (name : List ℕ) (value : List Part) (rest : List ℕ) → Same reading known
      → Same (next_reading database reading (Definition name value) rest) (known_after_event Q database known (Definition name value) rest)
  definition_same database reading known name value rest k =
      let said = value_messages database reading.known.strings (Some name) value in
      let lines = map message_line said in
      let text = value_text Kept (other_value reading.known.strings name) value in
      let text' = value_text Kept (meaning_of known (Some name)) value in
      let same : text ≡ text' = ap (λ (m : List ℕ → Option (List ℕ)). value_text Kept m value) (sym (other_same R reading known name k)) in
      let added = says_same R reading known said k in
      let begun : SameReading R (record {
        known = record reading.known { strings = defined reading.known.strings name text };
        messages =
            reading.messages ++ said;
      }) (record (saying lines known) { strings = set (folded name) (Some text) known.strings }) =
      record {
        strings = defined_same reading.known.strings known.strings name text k.strings;
        stored = added.stored;
        current = added.current;
        preamble = added.preamble;
        messages = added.messages;
        limit = added.limit;
      } in
      let of_text : SameReading R (next_reading database reading (Definition name value) rest)
      (if_fits text' (saying lines known) (record (saying lines known) { strings = set (folded name) (Some text') known.strings })) =
      subst (λ (t : List ℕ). SameReading R (next_reading database reading (Definition name value) rest)
      (if_fits t (saying lines known) (record (saying lines known) { strings = set (folded name) (Some t) known.strings }))) same
      (fits_same R text reading.known (record reading.known { strings = defined reading.known.strings name text }) (reading.messages ++ said)
      (saying lines known)
      (record (saying lines known) { strings = set (folded name) (Some text) known.strings }) added begun) in
      subst (λ (ms : List Line). SameReading R (next_reading database reading (Definition name value) rest)
      (if_fits text' (saying ms known) (record (saying ms known) { strings = set (folded name) (Some text') known.strings })))
      (sym (parts_same R database reading known (Some name) value k)) of_text

  is_none_of : (n : Option ℕ) (f : Option Function) → IsMeant numbers (option_map callee.User n) f → is_none f ≡ is_none n
  is_none_of None f k = ap is_none k
  is_none_of (Some n) f k = ap is_none k.2

  entry_same : (database : Database) (reading : Reading) (known : DatabaseState) (kind key rest : List ℕ) → Same reading known
      → Same (next_reading database reading (EntryHead kind key) rest) (known_after_event Q database known (EntryHead kind key) rest)
  unfolding message_text mark_of
  entry_same database reading known kind key rest k =
      let shut = closed_same R reading known k in
      by (is_wanted R (stored_in reading.known) key) (asked_same numbers R Q h (stored_in reading.known) (all_stored known) shut.stored key) shut where
        before : numbered.Known
        before = numbered.with_current_stored reading.known

        warned : List Message
        warned = if is_none (R.kind (folded kind)) then message.UnknownKind key (position_at database rest) ∷ [] else []

        new : Stored
        new = record { kind = kind; key = key; value = λ name. None }

        unknown : Line
        unknown = at_position line.Warning (codes "entry type for \"" ++ key ++ codes "\" isn't style-file defined") (position_at database rest)

        warned' : List Line
        warned' = only_if (is_none (Q.types (folded kind))) unknown

        as_line : (b : Bool) → only_if b unknown ≡ map message_line (if b then message.UnknownKind key (position_at database rest) ∷ [] else [])
        as_line true = refl
        as_line false = refl

        same_warned : warned' ≡ map message_line warned
        same_warned =
            ap (λ (b : Bool). only_if b unknown) (is_none_of (R.kind (folded kind)) (Q.types (folded kind)) (h.types (folded kind)))
            ∙ as_line (is_none (R.kind (folded kind)))

        no_value : (name : List ℕ) → None ≡ kept_value R [] name
        no_value name = empty (R.field name) where
          empty : (o : Option ℕ) → None ≡ option_and_then (λ (n : ℕ). value_in R [] n) o
          empty None = refl
          empty (Some n) = refl

        by : (t : Bool) → is_asked Q (all_stored known) key ≡ t → SameReading R (record reading { known = before }) (entry_closed known)
            → SameReading R (record {
              known = if t then record before { current = Some (record { kind = kind; key = key; fields = [] }) } else before;
              messages = reading.messages ++ (if t then warned else []);
            })
            (if not (is_asked Q (all_stored known) key) then entry_closed known else saying warned' (record (entry_closed known) { current = Some new }))
        by false e shut =
            subst (λ (b : Bool). SameReading R (record { known = before; messages = reading.messages ++ [] })
            (if not b then entry_closed known else saying warned' (record (entry_closed known) { current = Some new }))) (sym e)
            (no_messages R (record reading { known = before }) (entry_closed known) shut)
        by true e shut =
            subst (λ (b : Bool). SameReading R (record {
              known = record before { current = Some (record { kind = kind; key = key; fields = [] }) };
              messages =
                  reading.messages ++ warned;
            })
            (if not b then entry_closed known else saying warned' (record (entry_closed known) { current = Some new }))) (sym e)
            (record {
              strings = shut.strings;
              stored = shut.stored;
              current = record { kind = refl; key = refl; value = no_value };
              preamble = shut.preamble;
              messages = ap₂ (λ (ms ns : List Line). ms ++ ns) shut.messages same_warned ∙ sym (lines_more reading.messages warned);
              limit = shut.limit;
            })

  -- whether a field is declared, and whether the entry has a value for it
  has_same : (g : Given) (e : Stored) → SameGiven R g e → (name : List ℕ) → is_some (e.value (folded name)) ≡ has_value R g name
  has_same g e k name = ap is_some (k.value (folded name) ∙ sym (value_kept numbers R Q h g.fields (folded name)))

  -- a field of the entry that is being read
  field_same : (database : Database) (reading : Reading) (known : DatabaseState) (field : Field) (rest : List ℕ) → Same reading known
      → Same (next_reading database reading (FieldOf field) rest) (known_after_event Q database known (FieldOf field) rest)
  unfolding message_text mark_of
  field_same database reading known field rest k = of_current reading.known.current refl known.current refl k.current where
    strings : List ℕ → Option (List ℕ)
    strings = string_value reading.known.strings

    of_current : (c : Option Given) → reading.known.current ≡ c → (d : Option Stored) → known.current ≡ d → IsSameCurrent R c d
        → Same (record {
          known = numbered.after_field R reading.known c field;
          messages = reading.messages ++ field_messages R database reading.known.strings c
              field rest;
        })
        (option_map_or (λ (entry : Stored). field_read Q database known entry field rest) d known)
    of_current None e None f c = no_messages R reading known k
    of_current (Some g) e None f c = absurd c
    of_current None e (Some x) f c = absurd c
    of_current (Some g) e (Some x) f c = of_field (R.field (folded field.name)) refl (has_value R g field.name) refl where
      name : List ℕ
      name = folded field.name

      text : List ℕ
      text = value_text Trimmed strings field.value

      text' : List ℕ
      text' = value_text Trimmed (meaning_of known None) field.value

      said : List Message
      said = value_messages database reading.known.strings None field.value

      lines : List Line
      lines = map message_line said

      said' : List Line
      said' = flat_map (part_messages database known None) field.value

      extra : Message
      extra = message.ExtraField g.key field.name (position_before database rest)

      ignored : List ℕ → Line
      ignored key = at_position line.Warning (codes "I'm ignoring " ++ key ++ codes "'s extra \"" ++ field.name ++ codes "\" field") (position_before database rest)

      more : Given
      more = record g { fields = g.fields ++ record { name = field.name; value = text } ∷ [] }

      left : Bool → Bool → Reading
      left declared has = record {
        known = if declared && not has then numbered.if_fits text reading.known (record reading.known { current = Some more }) else reading.known;
        messages = reading.messages ++ (if has then extra ∷ [] else if declared then said else []);
      }

      right : Bool → Bool → DatabaseState
      right declared has =
          if not declared then known else if has then saying (ignored x.key ∷ []) known
          else if_fits text' (saying said' known) (record (saying said' known) { current = Some (record x { value = set name (Some text') x.value }) })

      no_number : R.field name ≡ None → has_value R g field.name ≡ false
      no_number e = ap (λ (o : Option ℕ). is_some (option_and_then (λ (place : ℕ). field_value place (field_values R g.fields)) o)) e

      by : (o : Option ℕ) → R.field name ≡ o → (has : Bool) → has_value R g field.name ≡ has → Same (left (is_some o) has) (right (is_some o) has)
      by None e true p = absurd (true≢false (sym p ∙ no_number e))
      by None e false p = no_messages R reading known k
      by (Some n) e true p =
          subst (λ key. Same (left true true) (saying (ignored key ∷ []) known)) (sym c.key) (says_same R reading known (extra ∷ []) k)
      by (Some n) e false p =
          let same : text' ≡ text = ap (λ (m : List ℕ → Option (List ℕ)). value_text Trimmed m field.value) (value_same R reading known k) in
          let none : kept_value R g.fields name ≡ None = absent (kept_value R g.fields name) (sym (ap is_some (value_kept numbers R Q h g.fields name)) ∙ p) in
          let added = says_same R reading known said k in
          let values : (m : List ℕ) → set name (Some text) x.value m ≡ kept_value R more.fields m = λ m.
          ap (λ (v : List ℕ → Option (List ℕ)). set name (Some text) v m) (λ i m. c.value m i)
          ∙ sym (one_more_value numbers R Q h g.fields field.name text n e none m) in
          let begun : SameReading R (record { known = record reading.known { current = Some more }; messages = reading.messages ++ said })
          (record (saying lines known) { current = Some (record x { value = set name (Some text) x.value }) }) =
          record {
            strings = added.strings;
            stored = added.stored;
            current = record { kind = c.kind; key = c.key; value = values };
            preamble = added.preamble;
            messages = added.messages;
            limit = added.limit;
          } in
          let of_text : Same (left true false) (if_fits text' (saying lines known)
          (record (saying lines known) { current = Some (record x { value = set name (Some text') x.value }) })) =
          subst (λ (t : List ℕ). Same (left true false)
          (if_fits t (saying lines known) (record (saying lines known) { current = Some (record x { value = set name (Some t) x.value }) }))) (sym same)
          (fits_same R text reading.known (record reading.known { current = Some more }) (reading.messages ++ said) (saying lines known)
          (record (saying lines known) { current = Some (record x { value = set name (Some text) x.value }) }) added begun) in
          subst (λ (ms : List Line). Same (left true false)
          (if_fits text' (saying ms known) (record (saying ms known) { current = Some (record x { value = set name (Some text') x.value }) })))
          (sym (parts_same R database reading known None field.value k)) of_text where
            absent : (o : Option (List ℕ)) → is_some o ≡ false → o ≡ None
            absent None f = refl
            absent (Some v) f = absurd (true≢false f)

      of_field : (o : Option ℕ) → R.field name ≡ o → (has : Bool) → has_value R g field.name ≡ has
          → Same (record {
            known = numbered.after_field R reading.known (Some g) field;
            messages =
                reading.messages ++ field_messages R database reading.known.strings (Some g) field rest;
          }) (field_read Q database known x field rest)
      of_field o e has p =
          subst (λ (b : Bool). Same (left b (has_value R g field.name))
          (if not (Q.is_field name) then known else if is_some (x.value name) then saying (ignored x.key ∷ []) known
          else if_fits text' (saying said' known) (record (saying said' known) { current = Some (record x { value = set name (Some text') x.value }) })))
          (sym (ap is_some e))
          (subst (λ (b : Bool). Same (left (is_some o) (has_value R g field.name))
          (if not b then known else if is_some (x.value name) then saying (ignored x.key ∷ []) known
          else if_fits text' (saying said' known) (record (saying said' known) { current = Some (record x { value = set name (Some text') x.value }) })))
          (sym (h.fields name ∙ ap is_some e))
          (subst (λ (b : Bool). Same (left (is_some o) (has_value R g field.name)) (right (is_some o) b)) (sym (has_same g x c field.name ∙ p))
          (subst (λ (b : Bool). Same (left (is_some o) b) (right (is_some o) has)) (sym p) (by o e has p))))

  -- a further event
  event_same : (database : Database) (reading : Reading) (known : DatabaseState) (event : Event) (rest : List ℕ) → Same reading known
      → Same (next_reading database reading event rest) (known_after_event Q database known event rest)
  unfolding message_text mark_of
  event_same database reading known Comment rest k = no_messages R reading known k
  event_same database reading known (Preamble value) rest k = preamble_same database reading known value rest k
  event_same database reading known (Definition name value) rest k = definition_same database reading known name value rest k
  event_same database reading known (EntryHead kind key) rest k = entry_same database reading known kind key rest k
  event_same database reading known (FieldOf field) rest k = field_same database reading known field rest k
  event_same database reading known items.ItemEnd rest k = no_messages R reading known k
  event_same database reading known (Wrong slip) rest k = says_same R reading known (message.Wrong slip (position_at database rest) ∷ []) k

  goes_same : (reading : Reading) (known : DatabaseState) → Same reading known → is_some known.limit ≡ not (goes_on reading.known.ending)
  goes_same reading known k = ap is_some k.limit ∙ by reading.known.ending where
    by : (e : End) → is_some (limit_met e) ≡ not (goes_on e)
    by end.Whole = refl
    by end.FileLimit = refl
    by end.StringLimit = refl

  next_same : (database : Database) (reading : Reading) (known : DatabaseState) (placed : Placed) → Same reading known
      → Same (read_next R database reading placed) (known_after Q database known placed)
  next_same database reading known placed k = by (goes_on reading.known.ending) (goes_same reading known k) where
    by : (goes : Bool) → is_some known.limit ≡ not goes
        → Same (record {
          known = if goes then numbered.after_event R reading.known placed.event else reading.known;
          messages =
              reading.messages ++ (if goes then event_messages R database reading.known placed.event placed.rest else []);
        })
        (known_after Q database known placed)
    by true e = subst (λ (b : Bool). Same (next_reading database reading placed.event placed.rest)
        (if b then known else known_after_event Q database known placed.event placed.rest)) (sym e) (event_same database reading known placed.event placed.rest k)
    by false e = subst (λ (b : Bool). Same (record reading { messages = reading.messages ++ [] })
        (if b then known else known_after_event Q database known placed.event placed.rest)) (sym e) (no_messages R reading known k)

  -- which keys are stored
  stored_same : (reading : Reading) (known : DatabaseState) → Same reading known → stored_keys.is_stored known ≡ (numbered.stored_keys R).is_stored reading.known
  stored_same reading known k = λ i key. is_found R (entry_with_key (stored_in reading.known) key) (stored_with (all_stored known) key)
      (found_same R (stored_in reading.known) (all_stored known) (all_stored_same R reading known k) key) i

  outcome_same : (reading : Reading) (known : DatabaseState) → Same reading known → (event : Event) (next : Expected) (o : Result (Event × Expected) SyntaxError)
      → IsEventOf (numbered.stored_keys R) reading.known event next o → IsEventOf stored_keys known event next o
  outcome_same reading known k event next (Ok got) g = (
    subst (λ stored. event ≡ (as_known stored got).0) (sym (stored_same reading known k)) g.0,
    subst (λ stored. next ≡ (as_known stored got).1) (sym (stored_same reading known k)) g.1,
  )
  outcome_same reading known k event next (Err slip) g = g

  -- the events of a text
  events_same : (database : Database) (events : List Placed) (reading : Reading) (known : DatabaseState) (wanted : Expected) (text : List ℕ) → Same reading known
      → IsReading (numbered.stored_keys R) reading.known wanted text events
      → (last : DatabaseState) × AreEvents Q database known wanted text events last × Same (fold (read_next R database) reading events) last
  events_same database [] reading known wanted text k g = (known, (g.0, g.1, refl), k)
  events_same database (placed ∷ events) reading known wanted text k g =
      let next = next_same database reading known placed k in
      let more = events_same database events (read_next R database reading placed) (known_after Q database known placed) g.1 placed.rest next g.6 in
      (more.0, (g.0, g.1, g.2, g.3, g.5, outcome_same reading known k placed.event g.1 g.0 g.4, more.1), more.2)

  -- ---- databases

  database_same : (database : Database) (reading : Reading) (known : DatabaseState) → Same reading known
      → (next : DatabaseState) × IsReadBy (is_some known.limit) (is_too_long database.text) Q known database next × Same (read_one R reading database) next
  database_same database reading known k = by (goes_on reading.known.ending) (is_too_long database.text) (goes_same reading known k) where
    read : (goes too_long : Bool) → Reading
    read goes too_long =
        if not goes then reading
        else if too_long then record reading { known = record reading.known { ending = end.FileLimit } }
        else
        let last = fold (read_next R database) reading (events_from (numbered.stored_keys R) reading.known Item database.text) in
        record last { known = numbered.with_current_stored last.known }

    by : (goes too_long : Bool) → is_some known.limit ≡ not goes → (next : DatabaseState) × IsReadBy (is_some known.limit) too_long Q known database next
        × Same (read goes too_long) next
    by false too_long e = (known, subst (λ b. IsReadBy b too_long Q known database known) (sym e) refl, k)
    by true true e =
        let next : DatabaseState = record known { limit = Some limit.File } in (
          next,
          subst (λ b. IsReadBy b true Q known database next) (sym e) refl,
          record { strings = k.strings; stored = k.stored; current = k.current; preamble = k.preamble; messages = k.messages; limit = refl },
        )
    by true false e =
        let events = events_from (numbered.stored_keys R) reading.known Item database.text in
        let r = events_same database events reading known Item database.text k (is_reading (numbered.stored_keys R) reading.known Item database.text) in (
          entry_closed r.0,
          subst (λ b. IsReadBy b false Q known database (entry_closed r.0)) (sym e) (events, r.0, r.1, refl),
          closed_same R (fold (read_next R database) reading events) r.0 r.2,
        )

  pub databases_same : (databases : List Database) (reading : Reading) (known : DatabaseState) → Same reading known → (last : DatabaseState) × AreRead Q known databases last
      × Same (fold (read_one R) reading databases) last
  databases_same [] reading known k = (known, refl, k)
  databases_same (database ∷ databases) reading known k =
      let next = database_same database reading known k in
      let more = databases_same databases (read_one R reading database) next.0 next.2 in
      (more.0, (next.0, next.1, more.1), more.2)

  -- the macros of a style
  abbrev with_one : DatabaseState → List ℕ × List ℕ → DatabaseState
  with_one known macro =
      if is_some known.limit then known
      else if_fits (squeezed macro.1) known (record known { strings = set (folded macro.0) (Some (squeezed macro.1)) known.strings })

  macro_same : (k : numbered.Known) (known : DatabaseState) (macro : List ℕ × List ℕ) → Same (record { known = k; messages = [] }) known
      → Same (record { known = with_macro k macro; messages = [] }) (with_one known macro)
  macro_same k known macro s = by (goes_on k.ending) (goes_same (record { known = k; messages = [] }) known s) where
    text : List ℕ
    text = squeezed macro.1

    next : DatabaseState
    next = record known { strings = set (folded macro.0) (Some text) known.strings }

    by : (goes : Bool) → is_some known.limit ≡ not goes
        → Same (record { known = if goes then numbered.if_fits text k (record k { strings = defined k.strings macro.0 text }) else k; messages = [] })
        (if is_some known.limit then known else if_fits text known next)
    by false e = subst (λ b. Same (record { known = k; messages = [] }) (if b then known else if_fits text known next)) (sym e) s
    by true e =
        subst (λ b. Same (record { known = numbered.if_fits text k (record k { strings = defined k.strings macro.0 text }); messages = [] })
        (if b then known else if_fits text known next)) (sym e)
        (fits_same R text k (record k { strings = defined k.strings macro.0 text }) [] known next s
        (record {
          strings = defined_same k.strings known.strings macro.0 text s.strings;
          stored = s.stored;
          current = s.current;
          preamble = s.preamble;
          messages = s.messages;
          limit = s.limit;
        }))

  all_macros : (macros : List (List ℕ × List ℕ)) (k : numbered.Known) (known : DatabaseState) → Same (record { known = k; messages = [] }) known
      → Same (record { known = fold with_macro k macros; messages = [] }) (fold with_one known macros)
  all_macros [] k known s = s
  all_macros (macro ∷ macros) k known s = all_macros macros (with_macro k macro) (with_one known macro) (macro_same k known macro s)

  pub macros_same : (macros : List (List ℕ × List ℕ)) → Same (record { known = macros_known macros; messages = [] }) (with_macros macros)
  macros_same macros = all_macros macros nothing _
      (record { strings = λ name. refl; stored = tt; current = tt; preamble = refl; messages = refl; limit = refl })
