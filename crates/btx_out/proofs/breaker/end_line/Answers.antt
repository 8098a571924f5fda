use Rattle.std.proofs.Common.{arith}
use Rattle.btx_out.proofs.KeptLemmas.{kept_within, kept_line, kept_rest}
use Rattle.btx_out.proofs.breaker.end_line.Goals as goal

pub bounds-text-kept : goal.bounds-text-kept
bounds-text-kept c = omega (arith, kept_within _ _ _ c.requires c.without_trailing_white-kept.ensures)

pub returns-clause-line : goal.returns-clause-line
returns-clause-line c = kept_line _ _ _ c.requires c.without_trailing_white-kept.ensures c.else-kept-eq0.either

pub returns-clause-within : goal.returns-clause-within
returns-clause-within c = omega (arith, kept_within _ _ _ c.requires c.without_trailing_white-kept.ensures)

pub returns-clause-rest : goal.returns-clause-rest
returns-clause-rest c = kept_rest _ _ _ c.requires c.without_trailing_white-kept.ensures
