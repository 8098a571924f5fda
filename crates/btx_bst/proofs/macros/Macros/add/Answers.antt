use Rattle.std.proofs.Common.{◌∙◌, ap, ◌∷◌, ◌++◌, [], ℕ, List}
use Rattle.std.proofs.lemmas.List.{map-append}
use Rattle.indexmap.proofs.CallerLemmas.{insert_entry-new}
use Rattle.btx_bst.specs.refinement.NameTables.{macros_view}
use Rattle.btx_bst.proofs.TableLemmas.{lookup-macros, unmapped, same_name}
use Rattle.btx_bst.proofs.macros.Macros.add.Goals as goal
use Rattle.btx_bst.specs.laws.Names.{macro_lower}
use Rattle.btx_bst.specs.refinement.Names.{Macros}

pub returns : goal.returns
returns c =
    let es = c.self.inside.table.entries in
    let key = c.in_ok-key.key in
    let e = c.in_ok-key.ensures.items ∙ c.as_bytes.ensures in
    let absent = unmapped _ (lookup-macros es key.items ∙ ap (λ (macros : Macros). macro_lower macros key.items) c.self.view_is
    ∙ ap (macro_lower c.args.self.now) e ∙ c.requires) in
    let entries = c.in_ok-insert.ensures.entries ∙ insert_entry-new same_name c.self.inside.table key c.args.text absent in
    ap macros_view entries ∙ map-append _ es ((key, c.args.text) ∷ []) ∙ ap (λ (macros : Macros). macros ++ (key.items, c.args.text.now) ∷ []) c.self.view_is
    ∙ ap (λ (name : List ℕ). c.args.self.now ++ (name, c.args.text.now) ∷ []) e
