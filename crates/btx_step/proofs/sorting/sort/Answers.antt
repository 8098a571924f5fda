use Rattle.std.proofs.Common.{rules}
use Rattle.std.proofs.lemmas.Fn.{always_returns_same}
use Rattle.btx_step.proofs.Common.{by_key}
use Rattle.btx_step.proofs.Ascent.{by_key_order, stable_sort_is}
use Rattle.btx_step.proofs.sorting.sort.Goals as goal
use Rattle.btx_step.specs.refinement.Sorting.{sort_key}

pub returns-clause-ok : goal.returns-clause-ok
returns-clause-ok c =
    let key = sort_key c.args.store.now c.args.variable in
    let lt = by_key key in
    let answers = always_returns_same _ _ _ (λ a r q k. search rules) in
    stable_sort_is lt (by_key_order key) _ _ (c.in_ok-sort_by.ensures.sorted lt (by_key_order key) answers)
    (c.in_ok-sort_by.ensures.stable lt (by_key_order key) answers)
