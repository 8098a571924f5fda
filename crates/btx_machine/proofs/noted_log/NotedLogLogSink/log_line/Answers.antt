use Rattle.btx_machine.proofs.NotebookLemmas.{has_noted_now}
use Rattle.btx_machine.proofs.noted_log.NotedLogLogSink.log_line.Goals as goal

pub invariant_of-self : goal.invariant_of-self
invariant_of-self g c = has_noted_now c.self.inside.since.at _ _ _ _ c.self.inside.wholeness _ c.args.line.now c.text.result.now c.line-answer.result c.is_err.result
    c.text.ensures c.is_err.ensures.value c.after-self-inside.ensures c.note.ensures.noted c.line-answer.ensures.ok c.line-answer.ensures.err c.self.invariant
