use Rattle.std.proofs.Common.{rules, arith, ◌≡◌, ◌∙◌, ap, sym, true}
use Rattle.std.proofs.lemmas.Bool.Decides.{nat_tests}
use denote.Enum.Bare.{same_true}
use Rattle.btx_code.specs.contracts.op.Op.{the_type}
use Rattle.btx_code.specs.refinement.Ops.{callee_of}
use Rattle.btx_where.proofs.calls.is_same_function.Goals as goal

pub returns-then-eq : goal.returns-then-eq
returns-then-eq c = λ same.
    let first = c.function_of-first.result in
    let second = c.function_of-second.result in
    let op : first.op ≡ second.op = same_true the_type (search rules) _ _ (sym c.eq.ensures ∙ c.if-eq.true) in
    let number : first.number ≡ second.number = grind (arith, nat_tests) in
    sym c.function_of-first.ensures.is ∙ ap (λ op. callee_of op first.number) op ∙ ap (callee_of second.op) number ∙ c.function_of-second.ensures.is
