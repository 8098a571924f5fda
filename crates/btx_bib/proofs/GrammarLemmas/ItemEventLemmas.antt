-- The events of a reading are those of its items.
use Rattle.std.proofs.Common.{◌≡◌, ℕ, zero, suc, ◌<◌, false, List, [], ◌∷◌, ◌++◌, map, length, refl, sym, ◌∙◌, ap, subst, arith, Ok, Err, Some, None, Option}
use Rattle.btx_bib.specs.declared.grammar.byte_sets.Delimiter.{Delimiter}
use Rattle.btx_bib.specs.declared.grammar.commands.DatabaseCommand.{DatabaseCommand}
use Rattle.btx_bib.specs.declared.grammar.commands.DatabaseCommand.TheVariants as command
use Rattle.btx_bib.specs.declared.grammar.commands.Expected.{Expected}
use Rattle.btx_bib.specs.declared.grammar.commands.Expected.TheVariants as wanted
use Rattle.btx_bib.specs.declared.grammar.slip.SyntaxError.{SyntaxError}
use Rattle.btx_bib.specs.declared.grammar.slip.SyntaxError.TheVariants.{NoEquals, NoClosing}
use Rattle.btx_bib.specs.language.Grammar.Tokens.{Parsed, followed_by, name_at, open_at, sign_at, key_at, closing_delimiter}
use Rattle.btx_bib.specs.language.Grammar.Values.{Part, value_at}
use Rattle.btx_bib.specs.language.Grammar.Fields.{Field}
use Rattle.btx_bib.specs.language.Grammar.Items.{Event, Comment, Preamble, Definition, Entry, FieldOf, ItemEnd, Wrong, StoredKeys, is_repeated, Step, step_by}
use Rattle.btx_bib.specs.language.Grammar.Items.{field_event, expected_step, next_step, behind_at, command_of, head_of, head_at, events_from}
use Rattle.btx_bib.specs.laws.Grammar.WholeItems.{PreambleItem, StringItem, EntryItem, other_fields, fields_at, whole_item, whole_item_at}
use Rattle.btx_bib.specs.laws.Grammar.ItemEvents.{read_events, bare_events, GivesEvents, IsNew}
use Rattle.btx_bib.proofs.GrammarLemmas.LengthLemmas.{Shrinks, events-some}
use Rattle.btx_bib.proofs.GrammarLemmas.WholeItemLemmas.{more-shrinks, fields_at-step}
use Rattle.btx_bib.specs.refinement.Grammar.Items.{item_end, known_step}
use Rattle.btx_bib.specs.laws.Grammar.Fields.{more_at}

-- ---- one step

abbrev step_to : Event → Expected → List ℕ → Step
step_to event next rest = record { event = event; wanted = next; rest = rest }

events-step : {S : Type 0} (stored_keys : StoredKeys S) (state : S) (w : Expected) (s : List ℕ) (event : Event) (next : Expected) (rest : List ℕ)
    → expected_step w s ≡ Some (step_to event next rest) → is_repeated (stored_keys.is_stored state) event ≡ false →
    bare_events (events_from stored_keys state w s) ≡ event ∷ bare_events (events_from stored_keys (stored_keys.after state event) next rest)
events-step stored_keys state w s event next rest e new =
    let known : next_step (stored_keys.is_stored state) w s ≡ Some (step_to event next rest) = ap (known_step (stored_keys.is_stored state)) e ∙ rw new refl in
    ap bare_events (events-some stored_keys state w s (step_to event next rest) known)

-- an event before those that are read
abbrev with_event : Event → Parsed (List Event) → Parsed (List Event)
with_event event (Ok got) = Ok (event ∷ got.0, got.1)
with_event event (Err wrong) = Err wrong

gives-more : {S : Type 0} (stored_keys : StoredKeys S) (state : S) (w : Expected) (s : List ℕ) (event : Event) (next : Expected) (rest : List ℕ) (r : Parsed (List Event))
    → expected_step w s ≡ Some (step_to event next rest) → is_repeated (stored_keys.is_stored state) event ≡ false →
    GivesEvents stored_keys (stored_keys.after state event) next rest r → GivesEvents stored_keys state w s (with_event event r)
gives-more stored_keys state w s event next rest (Ok got) e new h = events-step stored_keys state w s event next rest e new ∙ ap (λ xs. event ∷ xs) h
gives-more stored_keys state w s event next rest (Err wrong) e new h =
    (event ∷ h.0, events-step stored_keys state w s event next rest e new ∙ ap (λ xs. event ∷ xs) h.1)

gives-one : {S : Type 0} (stored_keys : StoredKeys S) (state : S) (w : Expected) (s : List ℕ) (event : Event) (rest : List ℕ)
    → expected_step w s ≡ Some (step_to event wanted.Item rest) → is_repeated (stored_keys.is_stored state) event ≡ false →
    GivesEvents stored_keys state w s (Ok (event ∷ [], rest))
gives-one stored_keys state w s event rest e new = events-step stored_keys state w s event wanted.Item rest e new

gives-wrong : {S : Type 0} (stored_keys : StoredKeys S) (state : S) (w : Expected) (s : List ℕ) (wrong : SyntaxError × List ℕ)
    → expected_step w s ≡ Some (step_to (Wrong wrong.0) wanted.Item wrong.1) → GivesEvents stored_keys state w s (Err wrong)
gives-wrong stored_keys state w s wrong e = ([], events-step stored_keys state w s (Wrong wrong.0) wanted.Item wrong.1 e refl)

-- ---- the end of an item, and the fields of an entry

abbrev end_events : Parsed (Unit {0}) → Parsed (List Event)
end_events (Ok got) = Ok (ItemEnd ∷ [], got.1)
end_events (Err wrong) = Err wrong

closing-by : {S : Type 0} (stored_keys : StoredKeys S) (state : S) (d : Delimiter) (s : List ℕ) (r : Parsed (Unit {0})) → expected_step (wanted.Closing d) s
    ≡ Some (step_by (item_end r)) → GivesEvents stored_keys state (wanted.Closing d) s (end_events r)
closing-by stored_keys state d s (Ok got) e = gives-one stored_keys state (wanted.Closing d) s ItemEnd got.1 e refl
closing-by stored_keys state d s (Err wrong) e = gives-wrong stored_keys state (wanted.Closing d) s wrong e

closing-gives : {S : Type 0} (stored_keys : StoredKeys S) (state : S) (d : Delimiter) (s : List ℕ)
    → GivesEvents stored_keys state (wanted.Closing d) s (end_events (sign_at (closing_delimiter d) (NoClosing d) s))
unfolding expected_step
closing-gives stored_keys state d s = closing-by stored_keys state d s (sign_at (closing_delimiter d) (NoClosing d) s) refl

abbrev field_events : Parsed (List Field) → Parsed (List Event)
field_events (Ok got) = Ok (map FieldOf got.0 ++ ItemEnd ∷ [], got.1)
field_events (Err wrong) = Err wrong

one-more-event : (field : Field) (r : Parsed (List Field)) → with_event (FieldOf field) (field_events r)
    ≡ field_events (followed_by r (λ fields end. Ok (field ∷ fields, end)))
one-more-event field (Ok got) = refl
one-more-event field (Err wrong) = refl

fields-by : {S : Type 0} (stored_keys : StoredKeys S) (state : S) (d : Delimiter) (s : List ℕ) (r : Parsed (Option Field)) → Shrinks (length s) r
    → expected_step (wanted.Fields d) s ≡ Some (step_by (field_event d r)) →
    ((q : S) (t : List ℕ) → length t < length s → GivesEvents stored_keys q (wanted.Fields d) t (field_events (fields_at d t)))
    → GivesEvents stored_keys state (wanted.Fields d) s (field_events (followed_by r (other_fields (fields_at d))))
fields-by stored_keys state d s (Ok (None, rest)) l e others = gives-one stored_keys state (wanted.Fields d) s ItemEnd rest e refl
fields-by stored_keys state d s (Ok (Some field, rest)) l e others =
    subst (GivesEvents stored_keys state (wanted.Fields d) s) (one-more-event field (fields_at d rest))
    (gives-more stored_keys state (wanted.Fields d) s (FieldOf field) (wanted.Fields d) rest (field_events (fields_at d rest)) e refl
    (others (stored_keys.after state (FieldOf field)) rest (omega arith)))
fields-by stored_keys state d s (Err wrong) l e others = gives-wrong stored_keys state (wanted.Fields d) s wrong e

fields-step : (d : Delimiter) (s : List ℕ) → expected_step (wanted.Fields d) s ≡ Some (step_by (field_event d (more_at d s)))
unfolding expected_step
fields-step d s = refl

fields-within : {S : Type 0} (stored_keys : StoredKeys S) (m : ℕ) (state : S) (d : Delimiter) (s : List ℕ) → length s < m
    → GivesEvents stored_keys state (wanted.Fields d) s (field_events (fields_at d s))
fields-within stored_keys zero state d s lt = absurd (omega arith)
fields-within stored_keys (suc m) state d s lt =
    subst (λ r. GivesEvents stored_keys state (wanted.Fields d) s (field_events r)) (sym (fields_at-step d s))
    (fields-by stored_keys state d s (more_at d s) (more-shrinks d s) (fields-step d s) (λ q t less. fields-within stored_keys m q d t (omega arith)))

fields-gives : {S : Type 0} (stored_keys : StoredKeys S) (state : S) (d : Delimiter) (s : List ℕ)
    → GivesEvents stored_keys state (wanted.Fields d) s (field_events (fields_at d s))
fields-gives stored_keys state d s = fields-within stored_keys (suc (length s)) state d s (omega arith)

-- ---- items

-- what is read first is wrong, and so is the whole
abbrev StepIs : List ℕ → Parsed (Event × Expected) → Type 0
StepIs s r = expected_step wanted.Item s ≡ Some (step_by r)

preamble-value : {S : Type 0} (stored_keys : StoredKeys S) (state : S) (s : List ℕ) (d : Delimiter) (r : Parsed (List Part))
    → StepIs s (followed_by r (λ value rest. Ok ((Preamble value, wanted.Closing d), rest))) →
    GivesEvents stored_keys state wanted.Item s
    (read_events (followed_by r (λ value behind. followed_by (sign_at (closing_delimiter d) (NoClosing d) behind)
    (λ sign rest. Ok (PreambleItem value, rest)))))
preamble-value stored_keys state s d (Err wrong) e = gives-wrong stored_keys state wanted.Item s wrong e
preamble-value {S} stored_keys state s d (Ok got) e =
    at (sign_at (closing_delimiter d) (NoClosing d) got.1)
    (gives-more stored_keys state wanted.Item s (Preamble got.0) (wanted.Closing d) got.1 (end_events (sign_at (closing_delimiter d) (NoClosing d) got.1)) e
    refl (closing-gives stored_keys (stored_keys.after state (Preamble got.0)) d got.1)) where
      at : (r : Parsed (Unit {0})) → GivesEvents stored_keys state wanted.Item s (with_event (Preamble got.0) (end_events r))
          → GivesEvents stored_keys state wanted.Item s (read_events (followed_by r (λ sign rest. Ok (PreambleItem got.0, rest))))
      at (Ok sign) h = h
      at (Err wrong) h = h

preamble-gives : {S : Type 0} (stored_keys : StoredKeys S) (state : S) (s : List ℕ) (r : Parsed Delimiter)
    → StepIs s (followed_by r (λ d behind. followed_by (value_at behind) (λ value rest. Ok ((Preamble value, wanted.Closing d), rest)))) →
    GivesEvents stored_keys state wanted.Item s
    (read_events (followed_by r (λ d behind. followed_by (value_at behind)
    (λ value after. followed_by (sign_at (closing_delimiter d) (NoClosing d) after) (λ sign rest. Ok (PreambleItem value, rest))))))
preamble-gives stored_keys state s (Err wrong) e = gives-wrong stored_keys state wanted.Item s wrong e
preamble-gives stored_keys state s (Ok got) e = preamble-value stored_keys state s got.0 (value_at got.1) e

string-value : {S : Type 0} (stored_keys : StoredKeys S) (state : S) (s : List ℕ) (d : Delimiter) (name : List ℕ) (r : Parsed (List Part))
    → StepIs s (followed_by r (λ value rest. Ok ((Definition name value, wanted.Closing d), rest))) →
    GivesEvents stored_keys state wanted.Item s
    (read_events (followed_by r (λ value behind. followed_by (sign_at (closing_delimiter d) (NoClosing d) behind)
    (λ sign rest. Ok (StringItem name value, rest)))))
string-value stored_keys state s d name (Err wrong) e = gives-wrong stored_keys state wanted.Item s wrong e
string-value {S} stored_keys state s d name (Ok got) e =
    at (sign_at (closing_delimiter d) (NoClosing d) got.1)
    (gives-more stored_keys state wanted.Item s (Definition name got.0) (wanted.Closing d) got.1
    (end_events (sign_at (closing_delimiter d) (NoClosing d) got.1)) e refl
    (closing-gives stored_keys (stored_keys.after state (Definition name got.0)) d got.1)) where
      at : (r : Parsed (Unit {0})) → GivesEvents stored_keys state wanted.Item s (with_event (Definition name got.0) (end_events r))
          → GivesEvents stored_keys state wanted.Item s (read_events (followed_by r (λ sign rest. Ok (StringItem name got.0, rest))))
      at (Ok sign) h = h
      at (Err wrong) h = h

string-sign : {S : Type 0} (stored_keys : StoredKeys S) (state : S) (s : List ℕ) (d : Delimiter) (name : List ℕ) (r : Parsed (Unit {0}))
    → StepIs s (followed_by r (λ sign behind. followed_by (value_at behind) (λ value rest. Ok ((Definition name value, wanted.Closing d), rest)))) →
    GivesEvents stored_keys state wanted.Item s
    (read_events (followed_by r (λ sign behind. followed_by (value_at behind)
    (λ value after. followed_by (sign_at (closing_delimiter d) (NoClosing d) after) (λ end rest. Ok (StringItem name value, rest))))))
string-sign stored_keys state s d name (Err wrong) e = gives-wrong stored_keys state wanted.Item s wrong e
string-sign stored_keys state s d name (Ok got) e = string-value stored_keys state s d name (value_at got.1) e

string-name : {S : Type 0} (stored_keys : StoredKeys S) (state : S) (s : List ℕ) (d : Delimiter) (r : Parsed (List ℕ)) →
    StepIs s (followed_by r (λ name behind. followed_by (sign_at 61 NoEquals behind)
    (λ sign after. followed_by (value_at after) (λ value rest. Ok ((Definition name value, wanted.Closing d), rest))))) →
    GivesEvents stored_keys state wanted.Item s
    (read_events (followed_by r (λ name behind. followed_by (sign_at 61 NoEquals behind) (λ sign after. followed_by (value_at after) (λ value later.
    followed_by (sign_at (closing_delimiter d) (NoClosing d) later) (λ end rest. Ok (StringItem name value, rest)))))))
string-name stored_keys state s d (Err wrong) e = gives-wrong stored_keys state wanted.Item s wrong e
string-name stored_keys state s d (Ok got) e = string-sign stored_keys state s d got.0 (sign_at 61 NoEquals got.1) e

string-gives : {S : Type 0} (stored_keys : StoredKeys S) (state : S) (s : List ℕ) (r : Parsed Delimiter) →
    StepIs s (followed_by r (λ d inner. followed_by (name_at inner)
    (λ name behind. followed_by (sign_at 61 NoEquals behind)
    (λ sign after. followed_by (value_at after) (λ value rest. Ok ((Definition name value, wanted.Closing d), rest)))))) →
    GivesEvents stored_keys state wanted.Item s
    (read_events (followed_by r (λ d inner. followed_by (name_at inner)
    (λ name behind. followed_by (sign_at 61 NoEquals behind) (λ sign after. followed_by (value_at after) (λ value later.
    followed_by (sign_at (closing_delimiter d) (NoClosing d) later) (λ end rest. Ok (StringItem name value, rest))))))))
string-gives stored_keys state s (Err wrong) e = gives-wrong stored_keys state wanted.Item s wrong e
string-gives stored_keys state s (Ok got) e = string-name stored_keys state s got.0 (name_at got.1) e

entry-key : {S : Type 0} (stored_keys : StoredKeys S) (state : S) (s : List ℕ) (name : List ℕ) (d : Delimiter) (r : Parsed (List ℕ))
    → IsNew (stored_keys.is_stored state) (followed_by r (λ key rest. Ok ((Entry name key, wanted.Fields d), rest)))
    → StepIs s (followed_by r (λ key rest. Ok ((Entry name key, wanted.Fields d), rest))) →
    GivesEvents stored_keys state wanted.Item s
    (read_events (followed_by r (λ key behind. followed_by (fields_at d behind) (λ fields rest. Ok (EntryItem name key fields, rest)))))
entry-key stored_keys state s name d (Err wrong) new e = gives-wrong stored_keys state wanted.Item s wrong e
entry-key {S} stored_keys state s name d (Ok got) new e =
    at (fields_at d got.1) (gives-more stored_keys state wanted.Item s (Entry name got.0) (wanted.Fields d) got.1 (field_events (fields_at d got.1)) e
    (new name got.0 got.1 (wanted.Fields d) refl) (fields-gives stored_keys (stored_keys.after state (Entry name got.0)) d got.1)) where
      at : (r : Parsed (List Field)) → GivesEvents stored_keys state wanted.Item s (with_event (Entry name got.0) (field_events r))
          → GivesEvents stored_keys state wanted.Item s (read_events (followed_by r (λ fields rest. Ok (EntryItem name got.0 fields, rest))))
      at (Ok fields) h = h
      at (Err wrong) h = h

entry-gives : {S : Type 0} (stored_keys : StoredKeys S) (state : S) (s : List ℕ) (name : List ℕ) (r : Parsed Delimiter)
    → IsNew (stored_keys.is_stored state) (followed_by r (λ d inner. followed_by (key_at d inner) (λ key rest. Ok ((Entry name key, wanted.Fields d), rest)))) →
    StepIs s (followed_by r (λ d inner. followed_by (key_at d inner) (λ key rest. Ok ((Entry name key, wanted.Fields d), rest)))) →
    GivesEvents stored_keys state wanted.Item s
    (read_events (followed_by r (λ d inner. followed_by (key_at d inner)
    (λ key behind. followed_by (fields_at d behind) (λ fields rest. Ok (EntryItem name key fields, rest))))))
entry-gives stored_keys state s name (Err wrong) new e = gives-wrong stored_keys state wanted.Item s wrong e
entry-gives stored_keys state s name (Ok got) new e = entry-key stored_keys state s name got.0 (key_at got.0 got.1) new e

item_of-gives : {S : Type 0} (stored_keys : StoredKeys S) (state : S) (s : List ℕ) (c : DatabaseCommand) (name t : List ℕ) → IsNew (stored_keys.is_stored state) (head_of c name t)
    → StepIs s (head_of c name t) → GivesEvents stored_keys state wanted.Item s (read_events (whole_item c name t))
unfolding head_of whole_item
item_of-gives stored_keys state s command.Comment name t new e = gives-one stored_keys state wanted.Item s Comment t e refl
item_of-gives stored_keys state s command.Preamble name t new e = preamble-gives stored_keys state s (open_at t) e
item_of-gives stored_keys state s command.Definition name t new e = string-gives stored_keys state s (open_at t) e
item_of-gives stored_keys state s command.Entry name t new e = entry-gives stored_keys state s name (open_at t) new e

named-gives : {S : Type 0} (stored_keys : StoredKeys S) (state : S) (s : List ℕ) (r : Parsed (List ℕ))
    → IsNew (stored_keys.is_stored state) (followed_by r (λ name rest. head_of (command_of name) name rest))
    → StepIs s (followed_by r (λ name rest. head_of (command_of name) name rest)) →
    GivesEvents stored_keys state wanted.Item s (read_events (followed_by r (λ name rest. whole_item (command_of name) name rest)))
named-gives stored_keys state s (Err wrong) new e = gives-wrong stored_keys state wanted.Item s wrong e
named-gives stored_keys state s (Ok got) new e = item_of-gives stored_keys state s (command_of got.0) got.0 got.1 new e

pub item-gives : {S : Type 0} (stored_keys : StoredKeys S) (state : S) (s t : List ℕ) → behind_at s ≡ Some t → IsNew (stored_keys.is_stored state) (head_at t)
    → GivesEvents stored_keys state wanted.Item s (read_events (whole_item_at t))
unfolding whole_item_at head_at expected_step
item-gives stored_keys state s t e new = named-gives stored_keys state s (name_at t) new (rw e refl)
