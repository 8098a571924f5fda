use Rattle.std.proofs.Common.{arith, ◌≡◌, ℕ, ◌+◌, List, length}
use Rattle.btx_c.specs.declared.noted.Events.{Events}
use Rattle.btx_c.proofs.EventLemmas.{counted, kept}
use Rattle.btx_c.proofs.noted.Events.with.Goals.{then-len-self+then-self+in_ok-ok, else-len-self}
use Rattle.btx_c.proofs.noted.Events.with.Goals as goal

pub returns : goal.returns
returns c = λ lines are.
    let before = c.args.self in
    let line = c.args.line.now in
    let after : Events = record { first = c.if-len-self.first; most = before.most; count = c.in_ok-count.count; next = c.in_ok-next.next } in
    let count : after.count ≡ before.count + 1 = grind (arith, c.in_ok-count.ensures, c.in_ok-count.is) in
    let next : after.next ≡ before.next + length line.text + 1 =
    grind (arith, c.in_ok-next.ensures, c.in_ok-next.is, c.in_ok-checked_add.ensures, c.in_ok-checked_add.is, c.text.ensures) in
    elim c.if-len-self.branch [
      | then-len-self+then-self+in_ok-ok w ↦ kept lines line before after are count next w.event_of.result (grind (arith, w.if-len-self)) (grind (
        arith,
        w.first-is,
        w.push.ensures,
      )) (grind (arith, w.event_of.ensures.at, w.event_of.ensures.len, w.event_of.ensures.kind))
      | else-len-self w ↦ counted lines line before after are count next (grind (arith, w.first-is))
    ]
