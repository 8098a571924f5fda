use Rattle.std.proofs.Common.{sym, subst, map}
use Rattle.std.specs.Prelude.{string_bytes}
use Rattle.btx_command.specs.Ends.{ComesTo, EndsFor}
use Rattle.btx_text.specs.language.Counts.{Change}
use Rattle.btx_run.specs.language.Answered.{Given}
use Rattle.btx_command.specs.Spelling.{hint_of}
use Rattle.btx_command.proofs.program.end_of.Goals as goal

-- the words are those that were read
pub returns-in-Ok : goal.returns-in-Ok
returns-in-Ok g c =
    let files = g.S.System.content c.args.system in
    let given : Given = (c.args.history.now, c.answer.new.history) in
    let found : Change = (g.S.System.failures c.args.system, g.S.System.failures c.answer.result.0) in
    let state = g.O.List.EmptiedFile.state in
    let before = g.O.Outputs.acts c.args.outputs.now in
    let after = g.O.Outputs.acts c.answer.new.outputs in
    subst (λ read. EndsFor files given found state read before after c.answer.result.1) (sym c.in-Ok.is)
    (subst (λ items. ComesTo files given found state (map (λ word. string_bytes word) items)
    (hint_of items) before after c.answer.result.1) c.as_slice.ensures.value
    c.answer.ensures)
