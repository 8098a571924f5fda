use Rattle.std.proofs.Common.{◌∙◌, sym, List, length, ap, arith}
use Rattle.btx_text.specs.language.Elements.{Element}
use Rattle.btx_text.proofs.ElementLemmas.{elements_from-step}
use Rattle.btx_text.proofs.string_elements.ElementsIterator.next.Goals as goal

pub returns-clause-steps : goal.returns-clause-steps
returns-clause-steps c =
    let i = c.self.inside in
    let step = elements_from-step i.mode i.start i.depth c.in_ok-first.field-0-0.now i.rest.now c.in_ok-first.field-0-1.now (c.in_ok-first.ensures.cases.0) in
    sym c.self.view_is ∙ rw (c.split_at.ensures.front, c.split_at.ensures.back, c.depth_past-self-inside.ensures, c.extent.ensures, c.kind_at-kind.ensures) step

pub returns-clause-goes : goal.returns-clause-goes
returns-clause-goes c =
    let len = ap (λ (parts : List Element). length parts) (returns-clause-steps c) in
    record { on = λ _. (tt, tt, omega (arith, len)); keeps = tt; rests = λ _. tt }
