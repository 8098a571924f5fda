use Rattle.std.proofs.Common.{arith, ◌≡◌, ◌∙◌, sym, ap, refl, length, ℕ, List, Option, Some}
use Rattle.std.proofs.lemmas.List.{length-map}
use Rattle.btx_bib.specs.refinement.Values.{text_at}
use Rattle.btx_bib.proofs.PlaceLemmas.{changed_at-past}
use Rattle.btx_bib.proofs.TextLemmas.{texts-put}
use Rattle.btx_bib.proofs.values.Values.put.Goals as goal

pub returns-in_ok-set : goal.returns-in_ok-set
returns-in_ok-set c = rw (c.in_ok-set.ensures.ok, ← c.self.view_is)
    (texts-put _ _ _ _ _ _ c.in_ok-place.ensures.added c.self.inside.places c.args.field c.self.invariant)

pub returns-else-field-len : goal.returns-else-field-len
returns-else-field-len c =
    let texts = c.self.inside.texts in
    let count : length c.self.inside.places ≡ length c.args.self.now = sym (length-map c.self.inside.places (text_at texts.lent.items texts.made.items))
    ∙ ap length c.self.view_is in
    changed_at-past c.args.self.now c.args.self.now c.args.field (λ (old : Option (List ℕ)). Some c.args.value) refl (omega arith)
