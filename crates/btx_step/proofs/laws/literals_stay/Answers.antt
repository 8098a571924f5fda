use Rattle.btx_step.proofs.LeaveLemmas.{lower_literals_stay, listing_empties}
use Rattle.btx_step.proofs.laws.literals_stay.Goals as goal

pub returns : goal.returns
returns c = record { lower = lower_literals_stay; listing = listing_empties }
