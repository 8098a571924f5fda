use Rattle.std.proofs.Common.{◌≡◌, ◌<◌, ◌∙◌, sym, List, ◌∷◌, length, ap, arith, rules}
use Rattle.std.proofs.lemmas.List.{take_rest}
use Rattle.btx_names.specs.language.Formats.{FormatItem}
use Rattle.btx_names.proofs.FormatLemmas.{items_of-group}
use Rattle.btx_names.proofs.format_items.ItemsIterator.next.Goals as goal

pub returns-clause-steps : goal.returns-clause-steps
returns-clause-steps c =
    let after = c.split_at-2.result.1.now in
    let others = c.in_ok-first.others.now in
    let is : c.self.inside.rest.now ≡ c.in_ok-first.first ∷ others = search rules in
    let brace : c.in_ok-first.first ≡ 123 = omega arith in
    let back = rw c.run_len-2.ensures.value at c.split_at-2.ensures.back in
    let some : 0 < length after = grind arith in
    sym c.self.view_is
    ∙ rw (c.inside_item.ensures, c.split_at-2.ensures.front, c.run_len-2.ensures.value, take_rest after 1)
    (items_of-group c.self.inside.rest.now others after c.in_ok-first.first is brace back some)

pub returns-clause-goes : goal.returns-clause-goes
returns-clause-goes c =
    let len = ap (λ (items : List FormatItem). length items) (returns-clause-steps c) in
    record { on = λ _. (tt, tt, omega (arith, len)); keeps = tt; rests = λ _. tt }
