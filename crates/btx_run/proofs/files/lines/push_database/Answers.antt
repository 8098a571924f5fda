use Rattle.std.proofs.Common.{◌∙◌, ◌++◌, List, ℕ, ap, sym, append_assoc}
use Rattle.std.specs.Prelude.{codes, decimal}
use Rattle.std.proofs.lemmas.Result.{on_ok_weaker}
use Rattle.btx_run.proofs.files.lines.push_database.Goals as goal

pub returns : goal.returns
returns c =
    let old = c.args.text.now.items in
    let name = c.args.name.now in
    let number = codes "Database file #" ++ decimal c.args.number in
    on_ok_weaker c.push_two.result (λ e.
    e
    ∙ ap (λ (text : List ℕ). text ++ (codes ": " ++ name)) c.in_ok-push_number.ensures
    ∙ append_assoc old number (codes ": " ++ name)
    ∙ ap (λ (text : List ℕ). old ++ text) (sym (append_assoc number (codes ": ") name))) c.push_two.ensures
