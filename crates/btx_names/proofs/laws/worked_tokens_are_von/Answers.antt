use Rattle.btx_names.proofs.TokenRows.{von-worked, others-worked}
use Rattle.btx_names.proofs.laws.worked_tokens_are_von.Goals as goal

pub returns : goal.returns
returns c = record { von = von-worked; others = others-worked }
