use Rattle.std.proofs.Common.{◌≡◌, ◌++◌, ◌∙◌, OnOk, ap, append_assoc, codes, List, ℕ, ℤ, subst, w32}
use Rattle.std.proofs.lemmas.Int.{to_z-of_z}
use Rattle.std.specs.Fmt.{signed_decimal}
use Rattle.btx_step.proofs.lines.push_no_such_name.Goals as goal

pub returns : goal.returns
returns c =
    let rest : ℤ → List ℕ = λ (z : ℤ). signed_decimal z ++ codes " in \"" ++ c.args.names.now ++ codes "\"" in
    let P : ℤ → Type 0 = λ (z : ℤ). OnOk c.push_numbered.result (c.push_numbered.new.text.items ≡ c.extend_from_slice.new.self.items ++ rest z) in
    let pushed : P c.args.number = subst P (to_z-of_z w32 c.args.number c.ranges.number) c.push_numbered.ensures in
    subst (λ (l : List ℕ). OnOk c.push_numbered.result (c.push_numbered.new.text.items ≡ l)) (ap (λ (l : List ℕ). l ++ rest c.args.number)
    c.in_ok-extend_from_slice.ensures.items
    ∙ append_assoc c.args.text.now.items (codes "There is no name number ") (rest c.args.number)) pushed
