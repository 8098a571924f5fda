use Rattle.btx_machine.proofs.Tracks as tokens
use Rattle.btx_machine.proofs.LawLemmas as runs
use Rattle.btx_machine.proofs.law.budget_law.Goals as goal

pub returns-clause-tokens : goal.returns-clause-tokens
returns-clause-tokens c = tokens.holds

pub returns-clause-runs : goal.returns-clause-runs
returns-clause-runs c = runs.holds
