-- What is kept while a database is read, event by event.
use Rattle.std.proofs.Common.{◌≡◌, ℕ, Bool, true, false, not, if◌then◌else◌, List, [], ◌∷◌, ◌++◌, None, Some, refl, sym, ap, ◌∙◌}
use Rattle.btx_bib.specs.declared.gathering.Gathering.{Gathering}
use Rattle.btx_bib.specs.declared.grammar.commands.Expected.{Expected as Next}
use Rattle.btx_bib.specs.language.Grammar.Items.{Event, Placed, Step, next_step}
use Rattle.btx_bib.specs.language.Known.{goes_on}
use Rattle.btx_bib.specs.language.Messages.{Database}
use Rattle.btx_bib.specs.language.Request.{Request}
use Rattle.btx_bib.specs.refinement.Gatherings.{events_with, is_kept, kept_after, kept_along, kept_next, kept_messages, keeping_kept, messages_of}
use Rattle.btx_bib.proofs.GrammarLemmas.LengthLemmas.{events-none, events-some}

-- ---- at a limit nothing more is kept or logged

module _ (wanted : Request) where
  ended-next : (kept : Gathering) (event : Event) → goes_on kept.ending ≡ false → kept_next wanted kept event ≡ kept
  ended-next kept event ended = ap (λ (b : Bool). if b then kept_after wanted kept event else kept) ended

  pub ended-along : (kept : Gathering) (events : List Placed) → goes_on kept.ending ≡ false → kept_along wanted kept events ≡ kept
  ended-along kept [] ended = refl
  ended-along kept (p ∷ ps) ended = ap (λ (k : Gathering). kept_along wanted k ps) (ended-next kept p.event ended) ∙ ended-along kept ps ended

  pub ended-logged : (database : Database) (kept : Gathering) (events : List Placed) → goes_on kept.ending ≡ false → kept_messages wanted database kept events
      ≡ []
  ended-logged database kept [] ended = refl
  ended-logged database kept (p ∷ ps) ended =
      ap (λ (b : Bool). (if b then messages_of wanted database kept p.event p.rest else []) ++ kept_messages wanted database (kept_next wanted kept p.event) ps)
      ended
      ∙ ap (λ (k : Gathering). kept_messages wanted database k ps) (ended-next kept p.event ended)
      ∙ ended-logged database kept ps ended

  -- ---- one event, and the others

  module _ (kept : Gathering) (w : Next) (s : List ℕ) where
    -- nothing is left
    pub none-along : next_step (is_kept kept) w s ≡ None → kept_along wanted kept (events_with wanted kept w s) ≡ kept
    none-along e = ap (kept_along wanted kept) (events-none (keeping_kept wanted) kept w s e)

    pub none-logged : (database : Database) → next_step (is_kept kept) w s ≡ None → kept_messages wanted database kept (events_with wanted kept w s) ≡ []
    none-logged database e = ap (kept_messages wanted database kept) (events-none (keeping_kept wanted) kept w s e)

    module _ (step : Step) (after : Gathering) (whole : goes_on kept.ending ≡ true) (e : next_step (is_kept kept) w s ≡ Some step)
        (is : after ≡ kept_after wanted kept step.event) where
      next-is : kept_next wanted kept step.event ≡ after
      next-is = ap (λ (b : Bool). if b then kept_after wanted kept step.event else kept) whole ∙ sym is

      pub turn-along : kept_along wanted after (events_with wanted after step.wanted step.rest) ≡ kept_along wanted kept (events_with wanted kept w s)
      turn-along =
          ap (λ (k : Gathering). kept_along wanted k (events_with wanted k step.wanted step.rest)) (sym next-is)
          ∙ ap (kept_along wanted kept) (sym (events-some (keeping_kept wanted) kept w s step e))

      pub turn-logged : (database : Database) → messages_of wanted database kept step.event step.rest
          ++ kept_messages wanted database after (events_with wanted after step.wanted step.rest)
          ≡ kept_messages wanted database kept (events_with wanted kept w s)
      turn-logged database =
          ap (λ (k : Gathering). messages_of wanted database kept step.event step.rest
          ++ kept_messages wanted database k (events_with wanted k step.wanted step.rest)) (sym next-is)
          ∙ ap (λ (b : Bool). (if b then messages_of wanted database kept step.event step.rest else [])
          ++ kept_messages wanted database (kept_next wanted kept step.event) (events_with wanted (kept_next wanted kept step.event) step.wanted step.rest))
          (sym whole)
          ∙ ap (kept_messages wanted database kept) (sym (events-some (keeping_kept wanted) kept w s step e))

pub ended-if : (b : Bool) → not b ≡ true → b ≡ false
ended-if true h = cc
ended-if false h = refl

pub goes-if : (b : Bool) → not b ≡ false → b ≡ true
goes-if true h = refl
goes-if false h = cc
