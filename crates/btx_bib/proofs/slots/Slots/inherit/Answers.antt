use Rattle.std.proofs.Common.{rules, ◌≡◌, ◌∙◌, ap, sym, Option, Some, None, ℕ, List}
use Rattle.std.specs.Prelude.{slice_get}
use Rattle.btx_text.specs.language.Limits.{greatest_string}
use Rattle.btx_bib.specs.declared.slots.Body.{Body}
use Rattle.btx_bib.specs.language.Listing.{Slot}
use Rattle.btx_bib.specs.refinement.Drafts.{settled, settled_all}
use Rattle.btx_bib.specs.refinement.Finding.{changed_at}
use Rattle.btx_bib.specs.refinement.Passes.{with_body}
use Rattle.btx_bib.proofs.PassLemmas.{away, away-short, body_in, given_by, given-back, given-none}
use Rattle.btx_bib.proofs.slots.Slots.inherit.Goals.{in-Some-at+in_ok-give_values, in_default-at}
use Rattle.btx_bib.proofs.slots.Slots.inherit.Goals as goal

pub returns-in_default : goal.returns-in_default
returns-in_default c =
    let slots = settled_all c.args.self.now in
    let none : None ≡ body_in (slice_get slots c.args.place) = search rules in
    c.take_body.ensures.slots ∙ given-none slots c.args.place c.args.parent none

pub give_values-requires : goal.give_values-requires
give_values-requires c =
    let slots = settled_all c.args.self.now in
    let slot = settled c.in-Some-at.slot.now in
    let found : slice_get (settled_all c.take_body.new.self) c.args.parent ≡ Some slot = search rules in
    let there : slice_get (changed_at c.args.place away slots) c.args.parent ≡ Some slot =
    ap (λ (ts : List Slot). slice_get ts c.args.parent) (sym c.take_body.ensures.slots) ∙ found in
    away-short slots c.args.place c.args.parent slot greatest_string c.requires there

pub returns : goal.returns
returns c =
    let slots = settled_all c.args.self.now in
    let taken = settled_all c.take_body.new.self in
    let place = c.args.place in
    let parent = c.args.parent in
    let body = c.in-Some.body in
    let there : Some body ≡ body_in (slice_get slots place) = search rules in
    let given : c.match-at.body ≡ record body { values = given_by (slice_get taken parent) body.values } = elim c.match-at.branch [
      | in-Some-at+in_ok-give_values w ↦ (let found : Some (settled w.in-Some-at.slot.now) ≡ slice_get taken parent = search rules in
          w.body-is ∙ ap (λ (values : List (Option (List ℕ))). record body { values = values })
          (w.in_ok-give_values.ensures ∙ ap (λ (o : Option Slot). given_by o body.values) found))
      | in_default-at w ↦ (let found : None ≡ slice_get taken parent = search rules in
          w.body-is ∙ ap (λ (o : Option Slot). record body { values = given_by o body.values }) found)
    ] in
    c.put_body.ensures
    ∙ ap (λ (b : Body). changed_at place (λ (slot : Slot). with_body slot (Some b)) taken) given
    ∙ ap (λ (ts : List Slot). changed_at place (λ (slot : Slot). with_body slot (Some (record body { values = given_by (slice_get ts parent) body.values })))
    ts) c.take_body.ensures.slots
    ∙ given-back slots place parent body there
