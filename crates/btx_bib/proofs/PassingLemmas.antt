-- What isn't stored is passed over: nothing is kept of it, and nothing logged.
use Rattle.std.proofs.Common.{◌≡◌, ℕ, ◌<◌, Bool, true, false, if◌then◌else◌, ◌||◌, List, [], ◌++◌, length, Option, None, Some, refl, sym, ap, ◌∙◌, arith}
use Rattle.btx_bib.specs.declared.draft.StoreDecision.TheVariants as decision
use Rattle.btx_bib.specs.declared.gathering.Gathering.{Gathering}
use Rattle.btx_bib.specs.declared.gathering.Pending.{Pending}
use Rattle.btx_bib.specs.declared.grammar.commands.Expected.{Expected as Next}
use Rattle.btx_bib.specs.declared.grammar.commands.Expected.TheVariants.{Item}
use Rattle.btx_bib.specs.declared.grammar.item_readers.EntryHead.{EntryHead}
use Rattle.btx_bib.specs.declared.grammar.slip.SyntaxError.TheVariants.{Repeated}
use Rattle.btx_bib.specs.declared.message.Message.{Message}
use Rattle.btx_bib.specs.language.Grammar.Items.{Event, ItemEnd, FieldOf, Wrong, Step, expected_step, next_step}
use Rattle.btx_bib.specs.language.Known.{goes_on}
use Rattle.btx_bib.specs.language.Messages.{Database}
use Rattle.btx_bib.specs.language.Request.{Request}
use Rattle.btx_bib.specs.refinement.Drafts.{has_entry, place_in, standing_at}
use Rattle.btx_bib.specs.refinement.Gatherings.{GoesOn, all_messages, begun_by, closed, closed_by, fielded_by, is_kept, is_pending, kept_after, messages_of}
use Rattle.btx_bib.specs.refinement.Gatherings.{messages_of_current, messages_of_standing}
use Rattle.btx_bib.specs.refinement.Grammar.Items.{known_step}
use Rattle.btx_bib.specs.refinement.Grammar.PassedFields.{IsFieldNext}
use Rattle.btx_bib.specs.refinement.Grammar.PlainFields.{IsLeft, entry_step}
use Rattle.btx_bib.specs.refinement.Grammar.Reads.{left}
use Rattle.btx_bib.proofs.GatheringLemmas.{turn-along, turn-logged}
use Rattle.btx_bib.proofs.GrammarLemmas.LengthLemmas.{events-less}

-- an entry that isn't wanted isn't stored
unwanted_unstored : (wanted : Request) (kept : Gathering) (place : Option ℕ) → standing_at wanted kept.draft place ≡ decision.Unwanted
    → has_entry kept.draft place ≡ false
unwanted_unstored wanted kept None h = refl
unwanted_unstored wanted kept (Some place) h = at (has_entry kept.draft (Some place)) h where
  at : (t : Bool) → (if t then decision.Repeated else decision.Expected) ≡ decision.Unwanted → t ≡ false
  at true h = cc
  at false h = refl

-- what the reader reads where a field stands
abbrev field_step : (place : Next × List ℕ) (rest : List ℕ) → IsFieldNext place rest → Step
field_step place rest next = record { event = FieldOf next.field; wanted = place.0; rest = rest }

pub field-less : (is_stored : List ℕ → Bool) (place : Next × List ℕ) (rest : List ℕ) → IsFieldNext place rest
    → left place.0 (length rest) < left place.0 (length place.1)
field-less is_stored place rest next = events-less is_stored place.0 place.1 (field_step place rest next) (ap (known_step is_stored) next.stands)

module _ (wanted : Request) (kept : Gathering) where
  pub goes-none : (place : Next × List ℕ) → GoesOn wanted kept place place
  goes-none place = record { state = refl; logged = λ database. refl; shorter = omega arith }

  pub goes-further : (from by to : Next × List ℕ) → GoesOn wanted kept from by → GoesOn wanted kept by to → GoesOn wanted kept from to
  goes-further from by to first second = record {
    state = second.state ∙ first.state;
    logged = λ database. second.logged database ∙ first.logged database;
    shorter = omega (arith, first.shorter, second.shorter);
  }

  module _ (whole : goes_on kept.ending ≡ true) where
    -- an event of which nothing is kept and nothing logged
    goes-turn : (place : Next × List ℕ) (step : Step) → next_step (is_kept kept) place.0 place.1 ≡ Some step → kept ≡ kept_after wanted kept step.event →
        ((database : Database) → messages_of wanted database kept step.event step.rest ≡ []) → GoesOn wanted kept place (step.wanted, step.rest)
    goes-turn place step next same silent = record {
      state = turn-along wanted kept place.0 place.1 step kept whole next same;
      logged = λ database.
          ap (λ (ms : List Message). ms ++ all_messages wanted database kept (step.wanted, step.rest)) (sym (silent database))
          ∙ turn-logged wanted kept place.0 place.1 step kept whole next same database;
      shorter = omega (arith, events-less (is_kept kept) place.0 place.1 step next);
    }

    module _ (none : kept.current ≡ None) where
      none-current : kept ≡ record kept { current = None }
      none-current = ap (λ (c : Option Pending). record kept { current = c }) none

      none-closed : closed wanted kept ≡ kept
      none-closed = ap (closed_by wanted kept) none ∙ sym none-current

      -- a field
      pub goes-field : (place : Next × List ℕ) (rest : List ℕ) → IsFieldNext place rest → GoesOn wanted kept place (place.0, rest)
      goes-field place rest next =
          goes-turn place (field_step place rest next) (ap (known_step (is_kept kept)) next.stands)
          (none-current ∙ sym (ap (fielded_by wanted kept next.field) none))
          (λ database. ap (messages_of_current wanted database kept.strings next.field rest) none)

      -- the end of an entry, or nothing
      pub goes-end : (left : Bool) (from to : Next × List ℕ) → IsLeft left from to → GoesOn wanted kept from to
      goes-end true from to h =
          let step : Step = record { event = ItemEnd; wanted = Item; rest = to.1 } in
          let goes = goes-turn from step (ap (known_step (is_kept kept)) h.0) refl (λ database. refl) in
          rw h.1 goes
      goes-end false from to h = rw h (goes-none from)

      module _ (place : Next × List ℕ) (head : EntryHead) (stands : expected_step place.0 place.1 ≡ Some (entry_step head))
          (unwanted : standing_at wanted kept.draft (place_in kept.draft head.key.now) ≡ decision.Unwanted) where
        unkept : is_kept kept head.key.now ≡ false
        unkept = ap (λ (c : Option Pending). is_pending c head.key.now || has_entry kept.draft (place_in kept.draft head.key.now)) none
            ∙ unwanted_unstored wanted kept (place_in kept.draft head.key.now) unwanted

        entry-next : next_step (is_kept kept) place.0 place.1 ≡ Some (entry_step head)
        entry-next =
            ap (known_step (is_kept kept)) stands
            ∙ ap (λ (t : Bool). Some (let got : Event × Next = (if t then (Wrong Repeated, Item) else ((entry_step head).event, (entry_step head).wanted)) in
            record { event = got.0; wanted = got.1; rest = head.rest.now })) unkept

        -- the type and the key of an entry that isn't wanted
        pub goes-entry : GoesOn wanted kept place ((entry_step head).wanted, head.rest.now)
        goes-entry =
            goes-turn place (entry_step head) entry-next
            (sym (ap (λ (before : Gathering). begun_by wanted before head.kind.now head.key.now
            (standing_at wanted before.draft (place_in before.draft head.key.now))) none-closed
            ∙ ap (begun_by wanted kept head.kind.now head.key.now) unwanted))
            (λ database.
            ap (λ (before : Gathering). messages_of_standing wanted database head.kind.now head.key.now head.rest.now
            (standing_at wanted before.draft (place_in before.draft head.key.now))) none-closed
            ∙ ap (messages_of_standing wanted database head.kind.now head.key.now head.rest.now) unwanted)

        pub entry-less : left (entry_step head).wanted (length head.rest.now) < left place.0 (length place.1)
        entry-less = events-less (is_kept kept) place.0 place.1 (entry_step head) entry-next
