use Rattle.std.proofs.Common.{◌∙◌, ◌<◌, ℕ, List, length, ap, sym, arith}
use Rattle.btx_bib.specs.declared.grammar.commands.Expected.{Expected as Next}
use Rattle.btx_bib.specs.refinement.Grammar.Reads.{left}
use Rattle.btx_bib.specs.refinement.Requests.{wanted}
use Rattle.btx_bib.proofs.PassingLemmas.{entry-less, goes-entry, goes-further}
use Rattle.btx_bib.proofs.gathering.Gathering.pass_unwanted.Goals as goal

pub loop-head-preserved : goal.loop-head-preserved
loop-head-preserved c =
    let asked = wanted c.args.request.now in
    let kept = c.args.self.now in
    let place = c.loop-head.reader in
    let stands = rw c.in-Some.is at c.entry_head.ensures in
    let entered = goes-entry asked kept c.requires.whole c.requires.none place c.in-Some.head stands (sym c.in_ok-standing.ensures ∙ c.in-Unwanted.is) in
    goes-further asked kept _ place _ c.loop-head.invariant (goes-further asked kept place _ _ (rw c.enter.ensures entered) c.pass_fields-in-Some.ensures)

pub loop-head-smaller : goal.loop-head-smaller
loop-head-smaller c =
    let place = c.loop-head.reader in
    let after = c.pass_fields-in-Some.new.reader in
    let stands = rw c.in-Some.is at c.entry_head.ensures in
    let less = entry-less (wanted c.args.request.now) c.args.self.now c.requires.whole c.requires.none place c.in-Some.head stands
    (sym c.in_ok-standing.ensures ∙ c.in-Unwanted.is) in
    let same = ap (λ (r : Next × List ℕ). left r.0 (length r.1)) c.enter.ensures in
    let smaller : left after.0 (length after.1) < left place.0 (length place.1) = omega (arith, less, same, c.pass_fields-in-Some.ensures.shorter) in
    smaller
