use Rattle.std.proofs.Common.{◌∙◌, sym, List, ℕ, length, ap, arith}
use Rattle.std.proofs.lemmas.List.{take_rest}
use Rattle.btx_names.proofs.NameLemmas.{name_len-le, pieces_more, pieces_last}
use Rattle.btx_names.proofs.name_list.NamesIterator.next.Goals as goal

pub split_at-requires : goal.split_at-requires
split_at-requires c = rw c.name_len.ensures (name_len-le 0 c.self.inside.rest.now)

pub returns-in-len3-up-clause-steps : goal.returns-in-len3-up-clause-steps
returns-in-len3-up-clause-steps c =
    let s = c.self.inside.rest.now in
    let after = c.split_at.result.1.now in
    let back = rw c.name_len.ensures at c.split_at.ensures.back in
    sym c.self.view_is ∙ rw (c.if-self.false, c.split_at.ensures.front, c.name_len.ensures, take_rest after 3)
    (pieces_more s after back c.in-len3-up.len_at_least)

pub returns-in-len3-up-clause-goes : goal.returns-in-len3-up-clause-goes
returns-in-len3-up-clause-goes c =
    let len = ap (λ (names : List (List ℕ)). length names) (returns-in-len3-up-clause-steps c) in
    record { on = λ _. (tt, tt, omega (arith, len)); keeps = tt; rests = λ _. tt }

pub returns-clause-steps : goal.returns-clause-steps
returns-clause-steps c =
    let s = c.self.inside.rest.now in
    let back = rw c.name_len.ensures at c.split_at.ensures.back in
    sym c.self.view_is ∙ rw (c.if-self.false, c.split_at.ensures.front, c.name_len.ensures) (pieces_last s c.split_at.result.1.now back c.in_default.len_below)

pub returns-clause-goes : goal.returns-clause-goes
returns-clause-goes c =
    let len = ap (λ (names : List (List ℕ)). length names) (returns-clause-steps c) in
    record { on = λ _. (tt, tt, omega (arith, len)); keeps = tt; rests = λ _. tt }
