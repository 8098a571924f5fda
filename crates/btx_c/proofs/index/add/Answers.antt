use Rattle.std.proofs.Common.{arith, ◌≡◌, false, is_some, refl, sym, subst}
use Rattle.btx_c.specs.Known.{AddsFile}
use Rattle.btx_c.proofs.IndexLemmas.{Entries, adds_new, file_of_name}
use Rattle.btx_c.proofs.index.add.Goals as goal

pub returns-in_ok-insert : goal.returns-in_ok-insert
returns-in_ok-insert c =
    let es = c.args.by_name.now.entries in
    let file = c.args.file in
    let none : is_some (file_of_name es file.now.name.now) ≡ false = grind (arith, c.contains_key.ensures, c.if-not-contains_key.true) in
    subst (λ (after : Entries). AddsFile es after file.now) (sym c.in_ok-insert.ensures.entries) (adds_new es file.now.name file refl none)
