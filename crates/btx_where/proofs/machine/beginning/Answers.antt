use Rattle.std.proofs.Common.{◌∙◌, ap, []}
use Rattle.btx_bst.specs.declared.token.Token.TheVariants.{Run}
use Rattle.btx_machine.specs.refinement.Frames.{with_frames}
use Rattle.btx_machine.specs.refinement.Positions.{quoted_before}
use Rattle.btx_machine.proofs.Moves.{alone}
use Rattle.btx_machine.proofs.PlaceLemmas.{run_token}
use Rattle.btx_where.proofs.machine.beginning.Goals as goal

pub returns-clause-means : goal.returns-clause-means
returns-clause-means c = λ job n s.
    let f = c.function_of-first.result in
    let before = quoted_before c.args.code.now c.end.result in
    ap (λ x. with_frames job x [] n s) (run_token f.op before f.number c.function_of-first.ensures.runs ∙ ap Run c.function_of-first.ensures.is)
    ∙ alone job (Run c.args.function) n s
