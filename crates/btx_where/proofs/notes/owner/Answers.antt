use Rattle.std.proofs.Common.{◌≡◌, ◌<◌, ◌∙◌, arith, length, sym, true, codes}
use Rattle.std.specs.Str.{bytes_eq}
use Rattle.btx_where.specs.Notes.{function_name}
use Rattle.btx_where.proofs.NoteLemmas.{named_later}
use Rattle.btx_where.proofs.notes.owner.Goals as goal

pub loop-number-preserved : goal.loop-number-preserved
loop-number-preserved c =
    let style = c.args.style.now in
    let within : c.loop-number.number < length style.bodies = omega (arith, c.functions-number-end.ensures, c.loop-number-test.true) in
    let nameless : bytes_eq (function_name style c.loop-number.number) (codes "{}") ≡ true = grind arith in
    sym (named_later style c.args.function c.loop-number.number (length style.bodies) within nameless) ∙ c.loop-number.invariant
