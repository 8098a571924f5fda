use Rattle.btx_ends.proofs.StyleLemmas.{claims_end, reports_no_stop}
use Rattle.btx_ends.proofs.laws.claims_end.Goals as goal

pub returns-clause-claims : goal.returns-clause-claims
returns-clause-claims c = claims_end

pub returns-clause-reports : goal.returns-clause-reports
returns-clause-reports c = reports_no_stop
