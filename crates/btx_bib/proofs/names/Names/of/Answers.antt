use Rattle.std.proofs.Common.{◌≡◌, ◌∙◌, ◌++◌, ap, sym, subst, append-nil, map, take, List, ℕ}
use Rattle.std.specs.List.{take-map}
use Rattle.btx_text.specs.language.Keys.{folded}
use Rattle.btx_aux.specs.refinement.Entries.{Bytes, texts_of}
use Rattle.btx_bib.specs.refinement.Marks.{AreMarked}
use Rattle.btx_bib.proofs.names.Names.of.Goals as goal

pub invariant_of-result-2 : goal.invariant_of-result-2
invariant_of-result-2 c =
    let count = c.args.count in
    let keys = c.keys.result.now in
    let is : map folded (texts_of (take count keys)) ≡ take count (map folded c.args.job.now.keys) ++ c.new.result =
    sym (take-map folded count (texts_of keys) ∙ ap (map folded) (take-map (λ (b : Bytes). b.items) count keys))
    ∙ ap (λ (names : List (List ℕ)). take count (map folded names)) c.keys.ensures
    ∙ sym (append-nil (take count (map folded c.args.job.now.keys)))
    ∙ ap (λ (more : List (List ℕ)). take count (map folded c.args.job.now.keys) ++ more) (sym c.new.ensures) in
    subst (AreMarked c.in_ok-marks.marks) is c.in_ok-marks.ensures
