-- What is kept and logged along databases is what is known and logged of them.
use Rattle.std.proofs.Common.{◌≡◌, ℕ, zero, suc, ◌+◌, ◌<◌, arith, Bool, true, false, if◌then◌else◌, List, [], ◌∷◌, ◌++◌, drop, get_or, length, Option, None}
use Rattle.std.proofs.Common.{Some, is_some, refl, sym, ap, subst, ◌∙◌, append_assoc}
use Rattle.std.proofs.lemmas.List.{at_drop_more}
use Rattle.btx_bib.specs.declared.end.End.TheVariants.{FileLimit}
use Rattle.btx_bib.specs.declared.gathering.Gathering.{Gathering}
use Rattle.btx_bib.specs.declared.grammar.commands.Expected.{Expected as Next}
use Rattle.btx_bib.specs.declared.grammar.commands.Expected.TheVariants.{Item}
use Rattle.btx_bib.specs.declared.grammar.slip.SyntaxError.TheVariants.{Repeated}
use Rattle.btx_bib.specs.declared.message.Message.{Message}
use Rattle.btx_bib.specs.language.Grammar.Items.{Event, Comment, Preamble, Definition, Entry, FieldOf, ItemEnd, Wrong, Placed, Step, events_from, is_repeated}
use Rattle.btx_bib.specs.language.Grammar.Items.{next_step, expected_step}
use Rattle.btx_bib.specs.language.Known.{Known, known_after, after_event, with_current_stored, goes_on, stored_keys, stored_in}
use Rattle.btx_bib.specs.laws.Known.{after_all}
use Rattle.btx_bib.specs.language.Stored.{entry_with_key}
use Rattle.btx_bib.specs.language.Messages.{Database, event_messages}
use Rattle.btx_bib.specs.language.Request.{Request}
use Rattle.btx_bib.specs.refinement.Gatherings.{closed, events_with, is_kept, kept_after, kept_along, kept_messages}
use Rattle.btx_bib.specs.refinement.Pairs.{BorrowedPair, database_of_pair, databases_of_pairs}
use Rattle.btx_bib.specs.refinement.Readings.{kept_by_all, kept_one, messages_of_all, messages_of_one}
use Rattle.btx_bib.proofs.ApartLemmas.{known_all, known_one, messages_from_all, messages_along, messages_one}
use Rattle.btx_bib.proofs.GrammarLemmas.LengthLemmas.{events-none, events-some, events-less}
use Rattle.btx_bib.specs.refinement.Grammar.Reads.{left}
use Rattle.btx_bib.proofs.GatheringLemmas.{ended-along, ended-logged, none-along, none-logged, turn-along, turn-logged}
use Rattle.btx_bib.proofs.KeptLemmas.{IsFresh, Sound, closed-kept, closed-sound, event-kept, event-said, event-sound, kept_of, stored-kept}
use Rattle.btx_text.specs.language.Limits.{is_too_long}
use Rattle.btx_bib.specs.refinement.Grammar.Items.{known_step}

-- ---- one database, and the others

module _ (wanted : Request) (pairs : List BorrowedPair) (place : ℕ) (d : BorrowedPair) (before now : Gathering) (within : place < length pairs)
    (is : now ≡ kept_one wanted before (database_of_pair (get_or pairs place d))) where
  pub all-next : kept_by_all wanted now (databases_of_pairs (drop (place + 1) pairs)) ≡ kept_by_all wanted before (databases_of_pairs (drop place pairs))
  all-next =
      ap (λ (k : Gathering). kept_by_all wanted k (databases_of_pairs (drop (place + 1) pairs))) is
      ∙ sym (at_drop_more (λ (ss : List BorrowedPair). kept_by_all wanted before (databases_of_pairs ss)) pairs place d within)

  pub all-logged-next : (messages messages' : List Message) → messages' ≡ messages ++ messages_of_one wanted before (database_of_pair (get_or pairs place d))
      → messages' ++ messages_of_all wanted now (databases_of_pairs (drop (place + 1) pairs)) ≡ messages
      ++ messages_of_all wanted before (databases_of_pairs (drop place pairs))
  all-logged-next messages messages' logs =
      let one = messages_of_one wanted before (database_of_pair (get_or pairs place d)) in
      ap (λ (ms : List Message). ms ++ messages_of_all wanted now (databases_of_pairs (drop (place + 1) pairs))) logs
      ∙ append_assoc messages one (messages_of_all wanted now (databases_of_pairs (drop (place + 1) pairs)))
      ∙ ap (λ (k : Gathering). messages ++ (one ++ messages_of_all wanted k (databases_of_pairs (drop (place + 1) pairs)))) is
      ∙ ap (λ (ms : List Message). messages ++ ms)
      (sym (at_drop_more (λ (ss : List BorrowedPair). messages_of_all wanted before (databases_of_pairs ss)) pairs place d within))

-- ---- repeated entries

repeated-same : (f g : List ℕ → Bool) → ((key : List ℕ) → f key ≡ g key) → (event : Event) → is_repeated f event ≡ is_repeated g event
repeated-same f g same Comment = refl
repeated-same f g same (Preamble value) = refl
repeated-same f g same (Definition name value) = refl
repeated-same f g same (Entry kind key) = same key
repeated-same f g same (FieldOf field) = refl
repeated-same f g same ItemEnd = refl
repeated-same f g same (Wrong slip) = refl

-- by whether it is repeated, an event stays or is wrong
abbrev by_repeated : Step → Bool → Option Step
by_repeated step b = let got : Event × Next = if b then (Wrong Repeated, Item) else (step.event, step.wanted) in
    Some (record { event = got.0; wanted = got.1; rest = step.rest })

next-same : (f g : List ℕ → Bool) → ((key : List ℕ) → f key ≡ g key) → (w : Next) (s : List ℕ) → next_step f w s ≡ next_step g w s
next-same f g same w s = at (expected_step w s) where
  at : (o : Option Step) → known_step f o ≡ known_step g o
  at None = refl
  at (Some step) = ap (by_repeated step) (repeated-same f g same step.event)

next-fresh : (f : List ℕ → Bool) (w : Next) (s : List ℕ) (step : Step) → next_step f w s ≡ Some step → is_repeated f step.event ≡ false
next-fresh f w s step e = by_step (expected_step w s) e where
  by_step : (o : Option Step) → known_step f o ≡ Some step → is_repeated f step.event ≡ false
  by_step None e = cc
  by_step (Some read) e = at (is_repeated f read.event) refl e where
    at : (b : Bool) → is_repeated f read.event ≡ b → by_repeated read b ≡ Some step → is_repeated f step.event ≡ false
    at true is h = let same : step ≡ record { event = Wrong Repeated; wanted = Item; rest = read.rest } = cc in ap (λ (x : Step). is_repeated f x.event) same
    at false is h = let same : step ≡ record { event = read.event; wanted = read.wanted; rest = read.rest } = cc in
        ap (λ (x : Step). is_repeated f x.event) same ∙ is

module _ (wanted : Request) where
  -- ---- at a limit nothing more is known or logged

  next-ended : (known : Known) (event : Event) → goes_on known.ending ≡ false → known_after wanted known event ≡ known
  next-ended known event ended = ap (λ (b : Bool). if b then after_event wanted known event else known) ended

  all-ended : (known : Known) (events : List Placed) → goes_on known.ending ≡ false → after_all wanted known events ≡ known
  all-ended known [] ended = refl
  all-ended known (p ∷ ps) ended = ap (λ (k : Known). after_all wanted k ps) (next-ended known p.event ended) ∙ all-ended known ps ended

  logged-ended : (database : Database) (known : Known) (events : List Placed) → goes_on known.ending ≡ false → messages_along wanted database known events ≡ []
  logged-ended database known [] ended = refl
  logged-ended database known (p ∷ ps) ended =
      ap (λ (b : Bool). (if b then event_messages wanted database known p.event p.rest else [])
      ++ messages_along wanted database (known_after wanted known p.event) ps) ended
      ∙ ap (λ (k : Known). messages_along wanted database k ps) (next-ended known p.event ended)
      ∙ logged-ended database known ps ended

  -- ---- along a database

  module _ (database : Database) where
    abbrev known_events : Known → Next → List ℕ → List Placed
    known_events known w s = events_from (stored_keys wanted) known w s

    -- what is kept and logged of a text is what is known and logged of it
    abbrev Agrees : Known → Next → List ℕ → Type 0
    Agrees known w s =
        (kept_along wanted (kept_of wanted known) (events_with wanted (kept_of wanted known) w s)
        ≡ kept_of wanted (after_all wanted known (known_events known w s))) ×
        (kept_messages wanted database (kept_of wanted known) (events_with wanted (kept_of wanted known) w s)
        ≡ messages_along wanted database known (known_events known w s)) ×
        Sound wanted (after_all wanted known (known_events known w s))

    ended-agrees : (known : Known) (w : Next) (s : List ℕ) → Sound wanted known → goes_on known.ending ≡ false → Agrees known w s
    ended-agrees known w s sound ended = (
      ended-along wanted (kept_of wanted known) (events_with wanted (kept_of wanted known) w s) ended
          ∙ ap (kept_of wanted) (sym (all-ended known (known_events known w s) ended)),
      ended-logged wanted database (kept_of wanted known) (events_with wanted (kept_of wanted known) w s) ended
          ∙ sym (logged-ended database known (known_events known w s) ended),
      subst (Sound wanted) (sym (all-ended known (known_events known w s) ended)) sound,
    )

    abbrev stored : Known → List ℕ → Bool
    stored known key = is_some (entry_with_key (stored_in known) key)

    step-agrees : (known : Known) (w : Next) (s : List ℕ) (o : Option Step) → next_step (stored known) w s ≡ o → Sound wanted known
        → goes_on known.ending ≡ true
        → ((q : Known) (v : Next) (t : List ℕ) → left v (length t) < left w (length s) → Sound wanted q → Agrees q v t) → Agrees known w s
    step-agrees known w s None e sound whole others =
        let kept : next_step (is_kept (kept_of wanted known)) w s ≡ None =
        next-same (is_kept (kept_of wanted known)) (stored known) (λ key. stored-kept wanted known key sound) w s ∙ e in
        let none : known_events known w s ≡ [] = events-none (stored_keys wanted) known w s e in (
          none-along wanted (kept_of wanted known) w s kept ∙ ap (λ (es : List Placed). kept_of wanted (after_all wanted known es)) (sym none),
          none-logged wanted (kept_of wanted known) w s database kept ∙ ap (messages_along wanted database known) (sym none),
          subst (λ (es : List Placed). Sound wanted (after_all wanted known es)) (sym none) sound,
        )
    step-agrees known w s (Some step) e sound whole others =
        let kept : next_step (is_kept (kept_of wanted known)) w s ≡ Some step =
        next-same (is_kept (kept_of wanted known)) (stored known) (λ key. stored-kept wanted known key sound) w s ∙ e in
        let fresh : IsFresh wanted known step.event = next-fresh (stored known) w s step e in
        let next : Known = after_event wanted known step.event in
        let same : kept_of wanted next ≡ kept_after wanted (kept_of wanted known) step.event = sym (event-kept wanted known step.event sound fresh) in
        let rest : Agrees next step.wanted step.rest = others next step.wanted step.rest (events-less (stored known) w s step e)
        (event-sound wanted known step.event sound fresh) in
        let goes : next ≡ known_after wanted known step.event = ap (λ (b : Bool). if b then after_event wanted known step.event else known) (sym whole) in
        let some = sym (events-some (stored_keys wanted) known w s step e) in
        let all : after_all wanted next (known_events next step.wanted step.rest) ≡ after_all wanted known (known_events known w s) =
        ap (λ (k : Known). after_all wanted k (known_events k step.wanted step.rest)) goes ∙ ap (after_all wanted known) some in
        let said = event_messages wanted database known step.event step.rest in (
          sym (turn-along wanted (kept_of wanted known) w s step (kept_of wanted next) whole kept same) ∙ rest.0 ∙ ap (kept_of wanted) all,
          sym (turn-logged wanted (kept_of wanted known) w s step (kept_of wanted next) whole kept same database)
              ∙ ap (λ (ms : List Message). ms ++ kept_messages wanted database (kept_of wanted next)
              (events_with wanted (kept_of wanted next) step.wanted step.rest)) (event-said wanted database known step.event step.rest sound fresh)
              ∙ ap (λ (ms : List Message). said ++ ms) rest.1
              ∙ ap (λ (k : Known). said ++ messages_along wanted database k (known_events k step.wanted step.rest)) goes
              ∙ ap (λ (b : Bool). (if b then said else []) ++ messages_along wanted database (known_after wanted known step.event)
              (known_events (known_after wanted known step.event) step.wanted step.rest)) (sym whole)
              ∙ ap (messages_along wanted database known) some,
          subst (Sound wanted) all rest.2,
        )

    agrees-within : (m : ℕ) (known : Known) (w : Next) (s : List ℕ) → left w (length s) < m → Sound wanted known → Agrees known w s
    agrees-within zero known w s lt sound = absurd (omega arith)
    agrees-within (suc m) known w s lt sound = at (goes_on known.ending) refl (λ q v t less also. agrees-within m q v t (omega arith) also) where
      at : (b : Bool) → goes_on known.ending ≡ b → ((q : Known) (v : Next) (t : List ℕ) → left v (length t) < left w (length s) → Sound wanted q → Agrees q v t)
          → Agrees known w s
      at true whole others = step-agrees known w s (next_step (stored known) w s) refl sound whole others
      at false ended others = ended-agrees known w s sound ended

    agrees : (known : Known) (w : Next) (s : List ℕ) → Sound wanted known → Agrees known w s
    agrees known w s sound = agrees-within (suc (left w (length s))) known w s (omega arith) sound

    -- ---- a whole database

    pub one-kept : (known : Known) → Sound wanted known → kept_one wanted (kept_of wanted known) database ≡ kept_of wanted (known_one wanted known database)
    one-kept known sound = at (goes_on known.ending) (is_too_long database.text) where
      along : Agrees known Item database.text
      along = agrees known Item database.text sound

      at : (b long : Bool) → (if b then (if long then record (kept_of wanted known) { ending = FileLimit } else closed wanted
          (kept_along wanted (kept_of wanted known) (events_with wanted (kept_of wanted known) Item database.text))) else kept_of wanted known)
          ≡ kept_of wanted (if b then (if long then record known { ending = FileLimit } else with_current_stored
          (after_all wanted known (known_events known Item database.text))) else known)
      at false long = refl
      at true true = refl
      at true false = ap (closed wanted) along.0 ∙ closed-kept wanted (after_all wanted known (known_events known Item database.text)) along.2

    pub one-logged : (known : Known) → Sound wanted known → messages_of_one wanted (kept_of wanted known) database ≡ messages_one wanted known database
    one-logged known sound = ap (λ (ms : List Message). if goes_on known.ending then (if is_too_long database.text then [] else ms) else [])
        (agrees known Item database.text sound).1

    pub one-sound : (known : Known) → Sound wanted known → Sound wanted (known_one wanted known database)
    one-sound known sound = at (goes_on known.ending) (is_too_long database.text) where
      at : (b long : Bool) → Sound wanted
          (if b then (if long then record known { ending = FileLimit } else with_current_stored
          (after_all wanted known (known_events known Item database.text))) else known)
      at false long = sound
      at true true = sound
      at true false = closed-sound wanted (after_all wanted known (known_events known Item database.text)) (agrees known Item database.text sound).2

  -- ---- all databases

  pub all-kept : (databases : List Database) (known : Known) → Sound wanted known → kept_by_all wanted (kept_of wanted known) databases
      ≡ kept_of wanted (known_all wanted known databases)
  all-kept [] known sound = refl
  all-kept (d ∷ ds) known sound = ap (λ (k : Gathering). kept_by_all wanted k ds) (one-kept d known sound)
      ∙ all-kept ds (known_one wanted known d) (one-sound d known sound)

  pub all-logged : (databases : List Database) (known : Known) → Sound wanted known → messages_of_all wanted (kept_of wanted known) databases
      ≡ messages_from_all wanted known databases
  all-logged [] known sound = refl
  all-logged (d ∷ ds) known sound =
      ap (λ (ms : List Message). ms ++ messages_of_all wanted (kept_one wanted (kept_of wanted known) d) ds) (one-logged d known sound)
      ∙ ap (λ (k : Gathering). messages_one wanted known d ++ messages_of_all wanted k ds) (one-kept d known sound)
      ∙ ap (λ (ms : List Message). messages_one wanted known d ++ ms) (all-logged ds (known_one wanted known d) (one-sound d known sound))

  pub all-sound : (databases : List Database) (known : Known) → Sound wanted known → Sound wanted (known_all wanted known databases)
  all-sound [] known sound = sound
  all-sound (d ∷ ds) known sound = all-sound ds (known_one wanted known d) (one-sound d known sound)
