use Rattle.std.proofs.Common.{◌∙◌, ap}
use Rattle.btx_aux.specs.refinement.Entries.{pairs_in}
use Rattle.btx_aux.specs.refinement.Pairs.{first_file}
use Rattle.btx_aux.proofs.TableLemmas.{first_file-insert_entry}
use Rattle.btx_aux.proofs.memory.put.Goals as goal

pub returns : goal.returns
returns c = λ other.
    ap (λ es. first_file (pairs_in es) other) c.in_ok-insert.ensures.entries
    ∙ rw (← c.in_ok-name.ensures.items, ← c.in_ok-bytes.ensures.items) (first_file-insert_entry _ _ _ other)
