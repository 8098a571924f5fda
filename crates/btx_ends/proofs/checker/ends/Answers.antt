use Rattle.std.proofs.Common.{rules, List, subst}
use Rattle.btx_bst.specs.language.Items.{Item}
use Rattle.btx_bst.specs.refinement.Views.{items_view}
use Rattle.btx_ends.specs.Ends.{StyleEnds}
use Rattle.btx_ends.specs.Certificates.{ItemsWithin}
use Rattle.btx_ends.specs.Views.{claims_of}
use Rattle.btx_ends.proofs.CodeLemmas.{some_map}
use Rattle.btx_ends.proofs.StyleLemmas.{claims_end}
use Rattle.btx_ends.proofs.checker.ends.Goals as goal

pub returns : goal.returns
returns c =
    some_map c.items_cost.result
    (λ bound. ItemsWithin (claims_of c.claims-claims.result) (items_view c.items.result.now) bound.once bound.each)
    (λ bound. StyleEnds c.args.style.now c.args.allowed.now c.args.certificate.now.kept bound.once bound.each)
    (λ bound w. subst (λ k. StyleEnds c.args.style.now c.args.allowed.now k bound.once bound.each) c.claims-claims.ensures
    (claims_end c.args.style.now c.args.allowed.now (claims_of c.claims-claims.result) bound.once bound.each
    (c.functions_hold.ensures (search (rules, c.if-not-functions_hold.false))) (c.loops_hold.ensures (search (rules, c.if-not-loops_hold.false)))
    (subst (λ (xs : List Item). ItemsWithin (claims_of c.claims-claims.result) xs bound.once bound.each) c.items.ensures w)))
    c.items_cost.ensures
