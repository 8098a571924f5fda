use Rattle.btx_c.proofs.NeedsLemmas.{ends_with, needs_no_other, reads_whole}
use Rattle.btx_c.proofs.needs.needed.Goals as goal

pub returns-in-Ok-clause-complete : goal.returns-in-Ok-clause-complete
returns-in-Ok-clause-complete c = λ none.
    needs_no_other c.args.files.now c.args.name.now c.in-Ok.job (rw c.in_ok-index.ensures at c.in-Ok.ensures)
    (λ whole. rw c.in_ok-index.ensures at c.in_ok-after_aux_files-in-Ok.ensures.named none)

pub returns-in-Ok-clause-whole : goal.returns-in-Ok-clause-whole
returns-in-Ok-clause-whole c = λ none.
    reads_whole c.args.files.now c.args.name.now c.in-Ok.job (rw c.in_ok-index.ensures at c.in-Ok.ensures) (c.in_ok-after_aux_files-in-Ok.ensures.whole none)

pub returns-in-Ok-clause-ended : goal.returns-in-Ok-clause-ended
returns-in-Ok-clause-ended c = λ ends.
    needs_no_other c.args.files.now c.args.name.now c.in-Ok.job (rw c.in_ok-index.ensures at c.in-Ok.ensures)
    (λ whole. absurd (c.in_ok-after_aux_files-in-Ok.ensures.ends ends whole))

pub returns-in-Ok-clause-ends : goal.returns-in-Ok-clause-ends
returns-in-Ok-clause-ends c = λ ends.
    ends_with c.args.files.now c.args.name.now c.in-Ok.job (rw c.in_ok-index.ensures at c.in-Ok.ensures) (c.in_ok-after_aux_files-in-Ok.ensures.ends ends)
