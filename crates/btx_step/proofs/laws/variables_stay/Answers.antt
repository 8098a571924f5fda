use Rattle.btx_step.proofs.LeaveLemmas.{variables_stay, other_entries_stay, current_stays, deepest_stays}
use Rattle.btx_step.proofs.laws.variables_stay.Goals as goal

pub returns : goal.returns
returns c = record { variables = variables_stay; others = other_entries_stay; current = current_stays; deepest = deepest_stays }
