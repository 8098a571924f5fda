use Rattle.std.proofs.Common.{◌∙◌, ap, map, subst}
use Rattle.std.specs.List.{IsDistinct}
use Rattle.std.specs.Str.{bytes_eq}
use Rattle.btx_text.specs.language.Keys.{folded}
use Rattle.btx_aux.specs.refinement.Entries.{Bytes}
use Rattle.btx_aux.proofs.DistinctLemmas.{distinct-map, distinct-unmap}
use Rattle.btx_aux.proofs.keys.Keys.differ.Goals as goal

pub returns : goal.returns
returns c =
    let lowered = distinct-map bytes_eq (λ (b : Bytes). b.items) c.self.inside.lowered.keys c.as_slice-names.ensures.unique in
    let table = c.self.invariant ∙ ap (map folded) c.self.view_is in
    distinct-unmap bytes_eq folded c.args.self.now (subst (IsDistinct bytes_eq) table lowered)
