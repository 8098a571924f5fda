-- The notes of events, one after another.
use Rattle.std.proofs.Common.{◌≡◌, ℕ, List, [], ◌∷◌, ◌++◌, Option, None, Some, IfSome, length, sym, ap, subst, ◌∙◌, refl, append_assoc}
use Rattle.std.proofs.lemmas.List.{append-nil}
use Rattle.std.specs.List.{flat_map}
use Rattle.btx_bst.specs.language.Style.{Style}
use Rattle.btx_bst.specs.laws.StylePlaces.{StylePlaces}
use Rattle.btx_step.specs.language.Jobs.{Job}
use Rattle.btx_machine.specs.declared.report.LogCounts.{LogCounts}
use Rattle.btx_where.specs.Events.{AreNotesOf, Explains, GrowsBy, IsNoteOf, head_note, steps_before}
use Rattle.btx_where.specs.Lines.{token_line}
use Rattle.btx_where.specs.Notes.{found_note, since_note}
use Rattle.btx_where.specs.Scenes.{IsScene}
use Rattle.btx_where.specs.declared.course.Event.{Event}
use Rattle.btx_where.specs.declared.place.Place.{Place}
use Rattle.btx_where.specs.declared.scene.StoppedState.{StoppedState}

-- the notes so far are such that with those of the events that are left they are those of all
pub record NotedSoFar (style : Style) (job : Job) (counts : LogCounts) (places : StylePlaces) (left all : List Event) (old new : List ℕ) : Type 0 where
  pub text : List ℕ
  pub behind : new ≡ old ++ text
  pub completes : (rest : List ℕ) → AreNotesOf style job counts places left rest → AreNotesOf style job counts places all (text ++ rest)

module _ (style : Style) (job : Job) (counts : LogCounts) (places : StylePlaces) where
  -- an event, part by part
  pub one_noted : (event : Event) (since : List (Option Place)) (began : Option Place) (found : Option StoppedState) (old head left new : List ℕ)
      → length since ≡ length event.since.items
      → IfSome found (λ scene. IsScene job counts (steps_before event.word event.moment.steps) scene)
      → IfSome found (λ scene. scene.item ≡ event.item)
      → head ≡ old ++ head_note style places event → left ≡ head ++ flat_map (since_note style (token_line places)) since
      → new ≡ left ++ found_note style job (token_line places) event.word began found
      → GrowsBy (IsNoteOf style job counts places event) old new
  one_noted event since began found old head left new as_many of_run of_item first second third =
      let a = head_note style places event in
      let b = flat_map (since_note style (token_line places)) since in
      let d = found_note style job (token_line places) event.word began found in
      record {
        text = a ++ b ++ d;
        behind = third ∙ ap (λ t. t ++ d) (second ∙ ap (λ t. t ++ b) first ∙ append_assoc old a b) ∙ append_assoc old (a ++ b) d;
        is = record { since = since; as_many = as_many; began = began; found = found; of_run = of_run; of_item = of_item; is = refl };
      }

  -- no event so far
  pub none_noted : (left all : List Event) (old : List ℕ) → left ≡ all → NotedSoFar style job counts places left all old old
  none_noted left all old is = record {
    text = [];
    behind = sym (append-nil old);
    completes = λ rest notes. subst (λ events. AreNotesOf style job counts places events rest) is notes;
  }

  -- one event more
  pub one_more_noted : (event : Event) (left more all : List Event) (old mid new : List ℕ) → left ≡ event ∷ more
      → NotedSoFar style job counts places left all old mid → GrowsBy (IsNoteOf style job counts places event) mid new
      → NotedSoFar style job counts places more all old new
  one_more_noted event left more all old mid new is so_far one = record {
    text = so_far.text ++ one.text;
    behind = one.behind ∙ ap (λ t. t ++ one.text) so_far.behind ∙ append_assoc old so_far.text one.text;
    completes = λ rest notes. subst (λ t. AreNotesOf style job counts places all t) (sym (append_assoc so_far.text one.text rest))
        (so_far.completes (one.text ++ rest)
        (subst (λ events. AreNotesOf style job counts places events (one.text ++ rest)) (sym is) (one.text, rest, refl, one.is, notes)));
  }

  -- all events
  pub all_noted : (left all : List Event) (old new : List ℕ) → left ≡ [] → NotedSoFar style job counts places left all old new
      → GrowsBy (AreNotesOf style job counts places all) old new
  all_noted left all old new none so_far = record {
    text = so_far.text ++ [];
    behind = so_far.behind ∙ ap (λ t. old ++ t) (sym (append-nil so_far.text));
    is = so_far.completes [] (subst (λ events. AreNotesOf style job counts places events []) (sym none) refl);
  }

-- what holds of a scene holds of it where it is kept
pub still_holds : (found kept : Option StoppedState) (P : StoppedState → Type 0) → IfSome found P → IfSome kept (λ scene. found ≡ Some scene) → IfSome kept P
still_holds found None P holds same = tt
still_holds found (Some scene) P holds same = subst (λ (found : Option StoppedState). IfSome found P) same holds

-- a run without an event
pub nothing_explained : (job : Job) (counts : LogCounts) (places : StylePlaces) (old : List ℕ) → Explains job counts places old old
nothing_explained job counts places old = record {
  events = [];
  notes = record { text = []; behind = sym (append-nil old); is = refl };
}

-- a run with these events
pub explained : (style : Style) (job : Job) (counts : LogCounts) (places : StylePlaces) (events : List Event) (old new : List ℕ) → style ≡ job.style
    → GrowsBy (AreNotesOf style job counts places events) old new → Explains job counts places old new
explained style job counts places events old new is notes = record {
  events = events;
  notes = subst (λ style. GrowsBy (AreNotesOf style job counts places events) old new) is notes;
}
