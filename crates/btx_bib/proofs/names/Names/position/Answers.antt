use Rattle.std.proofs.Common.{◌≡◌, ◌∙◌, ◌+◌, ◌++◌, ap, refl, sym, Some, ℕ, false}
use Rattle.std.specs.Str.{bytes_eq}
use Rattle.btx_bib.specs.refinement.Finding.{first_place}
use Rattle.btx_bib.specs.refinement.Marks.{is_marked}
use Rattle.btx_bib.proofs.JoinedNameLemmas.{place-append}
use Rattle.btx_bib.proofs.NameMarkLemmas.{unmarked}
use Rattle.btx_bib.proofs.names.Names.position.Goals as goal

pub returns-in-Some : goal.returns-in-Some
returns-in-Some c = place-append (bytes_eq c.args.name.now) c.self.inside.cited c.self.inside.more c.args.self.now c.self.view_is _
    (first_place (bytes_eq c.args.name.now) c.self.inside.more) c.in-Some.ensures refl

pub returns-in-Some-position : goal.returns-in-Some-position
returns-in-Some-position c =
    ap (λ (n : ℕ). Some (n + c.in-Some-position.place)) c.len.ensures.count
    ∙ place-append (bytes_eq c.args.name.now) c.self.inside.cited c.self.inside.more c.args.self.now c.self.view_is _ _ c.in-None.ensures
    c.in-Some-position.ensures.place

pub returns-in-None-position : goal.returns-in-None-position
returns-in-None-position c = place-append (bytes_eq c.args.name.now) c.self.inside.cited c.self.inside.more c.args.self.now c.self.view_is _ _ c.in-None.ensures
    c.in-None-position.ensures.place

pub returns-then-not-has : goal.returns-then-not-has
returns-then-not-has c =
    let marks = c.self.inside.marks in
    let lacks : is_marked marks c.args.name.now ≡ false = sym c.has.ensures ∙ c.if-not-has.true in
    unmarked marks c.args.name.now (c.self.inside.cited ++ c.self.inside.more) c.self.invariant lacks
    ∙ ap (first_place (bytes_eq c.args.name.now)) c.self.view_is
