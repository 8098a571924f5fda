use Rattle.std.proofs.Common.{◌≡◌, ◌∙◌, ap, ℕ, List, Bool, ◌++◌, ◌∷◌, [], if◌then◌else◌}
use Rattle.std.specs.Str.{bytes_eq}
use Rattle.std.specs.List.{list_any}
use Rattle.btx_aux.specs.refinement.Entries.{texts_of}
use Rattle.btx_bib.proofs.TableNameLemmas.{any-texts, texts_of-push}
use Rattle.btx_bib.proofs.names.MoreNames.add.Goals as goal

pub returns-clause-ok : goal.returns-clause-ok
returns-clause-ok c =
    let names = c.self.inside.set.keys in
    let bytes = c.in_ok-bytes.bytes in
    let is : bytes.items ≡ c.args.name = c.in_ok-bytes.ensures in
    let absent =
    any-texts names bytes.items
    ∙ ap (λ (names : List (List ℕ)). list_any (bytes_eq bytes.items) names) c.self.view_is
    ∙ ap (λ (name : List ℕ). list_any (bytes_eq name) c.args.self.now) is
    ∙ c.requires in
    ap texts_of (c.in_ok-insert.ensures.keys ∙ ap (λ (b : Bool). if b then names else names ++ bytes ∷ []) absent)
    ∙ texts_of-push names bytes
    ∙ ap (λ (names : List (List ℕ)). names ++ bytes.items ∷ []) c.self.view_is
    ∙ ap (λ (name : List ℕ). c.args.self.now ++ name ∷ []) is
