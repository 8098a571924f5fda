use Rattle.std.proofs.Common.{◌∙◌, ◌++◌, ap, sym, subst, List, Bool}
use Rattle.btx_bib.specs.refinement.Marks.{AreMarked, marked}
use Rattle.btx_bib.proofs.NameMarkLemmas.{either, marked-added}
use Rattle.btx_bib.proofs.names.Names.add.Goals as goal

pub invariant_of-self : goal.invariant_of-self
invariant_of-self c =
    let names = c.self.inside.cited in
    let after = c.add-2.new.self in
    subst (λ (marks : List Bool). AreMarked marks (names ++ after)) (sym (c.add.ensures.added ∙ ap (marked c.self.inside.marks) c.as_bytes.ensures))
    (marked-added c.self.inside.marks c.args.name names c.self.inside.more after c.add.ensures.room c.self.invariant
    (either c.add-2.result c.add-2.ensures.ok c.add-2.ensures.err))
