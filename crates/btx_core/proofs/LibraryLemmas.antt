-- Databases give one library.
use Rattle.std.proofs.Common.{◌≡◌, ℕ, ◌++◌, List, [], ◌∷◌, Bool, true, false, Option, None, Some, Result, Ok, Err, sym, ap, subst, ◌∙◌, refl, zero, suc, ◌<◌}
use Rattle.std.proofs.Common.{length, arith}
use Rattle.btx_bib.specs.declared.grammar.commands.Expected.{Expected}
use Rattle.btx_bib.specs.declared.grammar.commands.Expected.TheVariants.{Item}
use Rattle.btx_bib.specs.declared.grammar.slip.SyntaxError.{SyntaxError}
use Rattle.btx_bib.specs.language.Grammar.Items.{Event, Placed, Step, as_known, expected_step, step_by}
use Rattle.btx_bib.specs.language.Messages.{Database}
use Rattle.btx_bib.specs.laws.Grammar.Spelling.{read_as}
use Rattle.btx_bib.specs.laws.Grammar.Reading.{HasNoAt, IsEventOf, Stands}
use Rattle.btx_text.specs.declared.limits.Limit.{Limit}
use Rattle.btx_text.specs.declared.limits.Limit.TheVariants as limit
use Rattle.btx_text.specs.language.Limits.{is_too_long}
use Rattle.std.specs.Prelude.{is_some}
use Rattle.btx_core.specs.language.Styles.{Library}
use Rattle.btx_core.specs.language.Databases.{Request, DatabaseState, stored_keys, known_after, entry_closed, AreEvents, IsReadBy, AreRead, with_macros}
use Rattle.btx_core.specs.language.Lists.{ListedKey, IsInherited, no_entry_line, entry_at, places_of_list, parent_messages, list_of, IsLibraryAtEnd, IsLibrary}
use Rattle.btx_bib.proofs.GrammarLemmas.ReadingLemmas.{stands-step, nothing-step, step-stands, known-outcome, OptionStands}
use Rattle.btx_bib.proofs.GrammarLemmas.LengthLemmas.{StepsTo, next-leaves}
use Rattle.btx_bib.specs.refinement.Grammar.Items.{known_step}
use Rattle.btx_bib.specs.refinement.Grammar.Reads.{left}
use Rattle.btx_core.proofs.PartLemmas.{there_is_inheritance, upto}
use Rattle.btx_core.proofs.PartLemmas.{one_inheritance}
use Rattle.std.specs.List.{flat_map}
use Rattle.std.specs.Option.{option_map_or}
use Rattle.std.specs.Prelude.{slice_get, is_none}
use Rattle.btx_text.specs.language.Lists.{only_if}

-- the event of a step, and what is wanted after it, where the keys of stored entries are known
abbrev known_pair : DatabaseState → Step → Event × Expected
known_pair known step = as_known (stored_keys.is_stored known) (step.event, step.wanted)

outcome_is : (known : DatabaseState) (event : Event) (next : Expected) (o : Result (Event × Expected) SyntaxError) (rest : List ℕ) → IsEventOf stored_keys known event next o
    → (event, next) ≡ known_pair known (step_by (read_as o rest))
outcome_is known event next (Ok got) rest h = λ i. (h.0 i, h.1 i)
outcome_is known event next (Err slip) rest h = λ i. (h.0 i, h.1 i)

step_rest : (o : Result (Event × Expected) SyntaxError) (rest : List ℕ) → (step_by (read_as o rest)).rest ≡ rest
step_rest (Ok got) rest = refl
step_rest (Err slip) rest = refl

some_step : (a b : Step) → Some a ≡ Some b → a ≡ b
some_step a b e = cc

-- two events that stand at one place are one
same_step : (w : Expected) (text : List ℕ) (o o' : Result (Event × Expected) SyntaxError) (front front' rest rest' : List ℕ) → front ++ rest ≡ text
    → front' ++ rest' ≡ text
    → Stands w o front rest → Stands w o' front' rest' → step_by (read_as o rest) ≡ step_by (read_as o' rest')
same_step w text o o' front front' rest rest' e e' h h' =
    some_step (step_by (read_as o rest)) (step_by (read_as o' rest'))
    (sym (stands-step w o front rest h) ∙ ap (expected_step w) (e ∙ sym e') ∙ stands-step w o' front' rest' h')

no_step : (step : Step) → None ≡ Some step → ⊥
no_step step e = absurd (cc)

nothing_stands : (w : Expected) (text : List ℕ) (o : Result (Event × Expected) SyntaxError) (front rest : List ℕ) → w ≡ Item → HasNoAt text → front ++ rest ≡ text
    → Stands w o front rest → ⊥
nothing_stands w text o front rest is none e h =
    no_step (step_by (read_as o rest)) (sym (nothing-step w text is none) ∙ ap (expected_step w) (sym e) ∙ stands-step w o front rest h)

events_one : (asked : Request) (database : Database) (events events' : List Placed) (known : DatabaseState) (w : Expected) (text : List ℕ) (last last' : DatabaseState)
    → AreEvents asked database known w text events last → AreEvents asked database known w text events' last' → last ≡ last'
events_one asked database [] [] known w text last last' h k = h.2 ∙ sym k.2
events_one asked database [] (p ∷ ps) known w text last last' h k = absurd (nothing_stands w text k.0 k.2 p.rest h.0 h.1 k.3 k.4)
events_one asked database (p ∷ ps) [] known w text last last' h k = absurd (nothing_stands w text h.0 h.2 p.rest k.0 k.1 h.3 h.4)
events_one asked database (p ∷ ps) (q ∷ qs) known w text last last' h k =
    let step = same_step w text h.0 k.0 h.2 k.2 p.rest q.rest h.3 k.3 h.4 k.4 in
    let rests : p.rest ≡ q.rest = sym (step_rest h.0 p.rest) ∙ ap (λ (s : Step). s.rest) step ∙ step_rest k.0 q.rest in
    let pairs : (p.event, h.1) ≡ (q.event, k.1) = outcome_is known p.event h.1 h.0 p.rest h.5 ∙ ap (known_pair known) step
    ∙ sym (outcome_is known q.event k.1 k.0 q.rest k.5) in
    let placed : p ≡ q = λ i. record { event = (pairs i).0; rest = rests i } in
    let moved : AreEvents asked database (known_after asked database known q) k.1 q.rest ps last =
    subst (λ (t : List ℕ). AreEvents asked database (known_after asked database known q) k.1 t ps last) rests
    (subst (λ (v : Expected). AreEvents asked database (known_after asked database known q) v p.rest ps last) (ap (λ (x : Event × Expected). x.1) pairs)
    (subst (λ (x : Placed). AreEvents asked database (known_after asked database known x) h.1 p.rest ps last) placed h.6)) in
    events_one asked database ps qs (known_after asked database known q) k.1 q.rest last last' moved k.6

read_by_one : (a b : Bool) (asked : Request) (known : DatabaseState) (database : Database) (next next' : DatabaseState) → IsReadBy a b asked known database next
    → IsReadBy a b asked known database next' → next ≡ next'
read_by_one true b asked known database next next' h k = h ∙ sym k
read_by_one false true asked known database next next' h k = h ∙ sym k
read_by_one false false asked known database next next' h k = h.3 ∙ ap entry_closed (events_one asked database h.0 k.0 known Item database.text h.1 k.1 h.2 k.2)
    ∙ sym k.3

read_one : (asked : Request) (databases : List Database) (known last last' : DatabaseState) → AreRead asked known databases last → AreRead asked known databases last'
    → last ≡ last'
read_one asked [] known last last' h k = h ∙ sym k
read_one asked (database ∷ databases) known last last' h k =
    let same = read_by_one (is_some known.limit) (is_too_long database.text) asked known database h.0 k.0 h.1 k.1 in
    read_one asked databases k.0 last last' (subst (λ n. AreRead asked n databases last) same h.2) k.2

-- the library of what is known, with what entries inherit
abbrev gathered : Request → DatabaseState → List ListedKey → (ℕ → List ℕ → Option (List ℕ)) → Library
gathered asked known slots value = record {
  entries = flat_map (λ i. option_map_or (entry_at slots asked.types value i) (slice_get slots i) []) (places_of_list slots);
  preamble = known.preamble;
  log = known.log ++ flat_map (parent_messages slots) (places_of_list slots) ++ flat_map (λ (slot : ListedKey). only_if (is_none slot.entry) (no_entry_line slot.key)) slots;
  limit = None;
}

gathered_one : (limit : Option Limit) (asked : Request) (known : DatabaseState) (a b : Library) → IsLibraryAtEnd limit asked known a → IsLibraryAtEnd limit asked known b
    → a ≡ b
gathered_one (Some limit) asked known a b h k = h ∙ sym k
gathered_one None asked known a b h k =
    let slots = h.1 ∙ sym k.1 in
    let is = subst (λ s. IsInherited s h.2) slots h.3 in
    h.4 ∙ ap (λ s. gathered asked known s h.2) slots ∙ ap (gathered asked known k.0) (one_inheritance k.0 h.2 k.2 is k.3) ∙ sym k.4

pub library_one : (asked : Request) (macros : List (List ℕ × List ℕ)) (databases : List Database) (a b : Library) → IsLibrary asked macros databases a
    → IsLibrary asked macros databases b → a ≡ b
library_one asked macros databases a b h k =
    let same = read_one asked databases (with_macros macros) h.0 k.0 h.1 k.1 in
    gathered_one k.0.limit asked k.0 a b (subst (λ (known : DatabaseState). IsLibraryAtEnd known.limit asked known a) same h.2) k.2

-- ---- and there is one

abbrev Events : Request → Database → DatabaseState → Expected → List ℕ → Type 0
Events asked database known w text = (events : List Placed) × (last : DatabaseState) × AreEvents asked database known w text events last

unfoldable pub events_by : (asked : Request) (database : Database) (known : DatabaseState) (w : Expected) (text : List ℕ) (o : Option Step) → OptionStands w text o
    → StepsTo (left w (length text)) (known_step (stored_keys.is_stored known) o)
    → ((q : DatabaseState) (v : Expected) (t : List ℕ) → left v (length t) < left w (length text) → Events asked database q v t) → Events asked database known w text
events_by asked database known w text None h less others = ([], known, (h.0, h.1, refl))
events_by asked database known w text (Some step) h less others =
    let got = as_known (stored_keys.is_stored known) (step.event, step.wanted) in
    let placed : Placed = record { event = got.0; rest = step.rest } in
    let more = others (known_after asked database known placed) got.1 step.rest less in
    (placed ∷ more.0, more.1, (h.0, got.1, h.1, h.2, h.4, known-outcome stored_keys known step.event step.wanted h.0 h.3, more.2))

unfoldable pub events_there : (m : ℕ) (asked : Request) (database : Database) (known : DatabaseState) (w : Expected) (text : List ℕ) → left w (length text) < m
    → Events asked database known w text
events_there zero asked database known w text lt = absurd (omega (arith, lt))
events_there (suc m) asked database known w text lt =
    events_by asked database known w text (expected_step w text) (step-stands w text) (next-leaves (stored_keys.is_stored known) w text)
    (λ q v t less. events_there m asked database q v t (omega (arith, lt, less)))

unfoldable pub there_is_reading : (a b : Bool) (asked : Request) (known : DatabaseState) (database : Database) → (next : DatabaseState) × IsReadBy a b asked known database next
there_is_reading true b asked known database = (known, refl)
there_is_reading false true asked known database = (record known { limit = Some limit.File }, refl)
there_is_reading false false asked known database =
    let h = events_there (suc (left Item (length database.text))) asked database known Item database.text (omega arith) in
    (entry_closed h.1, (h.0, h.1, h.2, refl))

unfoldable pub all_read : (asked : Request) (databases : List Database) (known : DatabaseState) → (last : DatabaseState) × AreRead asked known databases last
all_read asked [] known = (known, refl)
all_read asked (database ∷ databases) known =
    let h = there_is_reading (is_some known.limit) (is_too_long database.text) asked known database in
    let more = all_read asked databases h.0 in
    (more.0, (h.0, h.1, more.1))

unfoldable pub gathering : (l : Option Limit) (asked : Request) (known : DatabaseState) → (library : Library) × IsLibraryAtEnd l asked known library
gathering (Some l) asked known = (record { entries = []; preamble = []; log = known.log; limit = Some l }, refl)
gathering None asked known =
    let slots = list_of asked known.stored in
    let value : ℕ → List ℕ → Option (List ℕ) = λ i name. upto slots (suc i) i name in
    (gathered asked known slots value, (slots, refl, value, there_is_inheritance slots, refl))

unfoldable pub there_is_library : (asked : Request) (macros : List (List ℕ × List ℕ)) (databases : List Database)
    → (library : Library) × IsLibrary asked macros databases library
there_is_library asked macros databases =
    let h = all_read asked databases (with_macros macros) in
    let g = gathering h.0.limit asked h.0 in
    (g.0, (h.0, h.1, g.1))
