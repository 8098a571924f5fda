use Rattle.std.proofs.Common.{◌≤◌, refl, arith}
use Rattle.btx_out.proofs.BreakLemmas.{cut_short, cut_long, table_ends, table_more}
use Rattle.btx_out.proofs.breaking.table.Goals as goal

pub returns-clause-short : goal.returns-clause-short
returns-clause-short c line_length t range h = rw (cut_short line_length t h) (refl, refl, refl)

pub returns-clause-ends : goal.returns-clause-ends
returns-clause-ends c line_length t head past range long is = table_ends line_length t head past (omega arith) long is

pub returns-clause-goes_on : goal.returns-clause-goes_on
returns-clause-goes_on c line_length t head rest b past range long is = table_more line_length t head rest b past (omega arith) long is

pub returns-clause-unbroken : goal.returns-clause-unbroken
returns-clause-unbroken c line_length t range long is =
    let wide : 3 ≤ line_length = omega arith in
    rw (cut_long line_length t wide long, is) (refl, refl, refl)
