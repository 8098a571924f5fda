use Rattle.std.proofs.Common.{◌≡◌, ◌++◌, OnOk, ℤ, codes, subst, w32}
use Rattle.std.proofs.lemmas.Int.{to_z-of_z}
use Rattle.std.specs.Fmt.{signed_decimal}
use Rattle.btx_step.proofs.lines.push_not_ascii.Goals as goal

pub returns : goal.returns
returns c =
    let P : ℤ → Type 0 = λ (z : ℤ). OnOk c.push_integer_before.result (c.push_integer_before.new.text.items ≡ c.args.text.now.items
    ++ (signed_decimal z ++ codes " isn't an ASCII code")) in
    subst P (to_z-of_z w32 c.args.number c.ranges.number) c.push_integer_before.ensures
