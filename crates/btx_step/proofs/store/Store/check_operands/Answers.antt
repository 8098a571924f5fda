use Rattle.std.proofs.Common.{◌≡◌, drop, rules, length, ◌≤◌, ◌∷◌}
use Rattle.btx_step.proofs.Common.{below_top, row}
use Rattle.btx_step.specs.refinement.Operands.{WrongAt}
use Rattle.btx_step.proofs.OperandLemmas.{by_kind}
use Rattle.btx_step.proofs.store.Store.check_operands.Goals as goal

pub returns-in_ok-notes-in-Some-clause-some : goal.returns-in_ok-notes-in-Some-clause-some
returns-in_ok-notes-in-Some-clause-some c = λ does.
    let xs = c.args.self.now.literals in
    let place = c.in-Some.place in
    let there : length (row c.args.function).operands ≤ length xs = search rules in
    let wrong : WrongAt place c.in-Some.wanted (row c.args.function).operands xs = search rules in
    let top : drop place xs ≡ c.in_ok-value-in-Some.value ∷ below_top (drop place xs) = search rules in
    by_kind c.args.function does place c.in-Some.wanted c.in_ok-value-in-Some.value (below_top (drop place xs)) _ c.args.self.now there wrong top (search rules)
