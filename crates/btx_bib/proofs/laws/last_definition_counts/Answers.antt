use Rattle.std.proofs.Common.{◌∙◌, ap, List, ℕ}
use Rattle.std.specs.Str.{bytes_eq}
use Rattle.std.specs.Map.{lookup}
use Rattle.indexmap.specs.IndexMap.{insert_entry}
use Rattle.btx_text.specs.language.Keys.{folded}
use Rattle.btx_bib.proofs.ListedKeyLemmas.{folded-same}
use Rattle.btx_bib.proofs.DefinitionLemmas.{GivesOwn, LeavesOthers, last-definition-counts, last-macro-counts, lookup-other, lookup-own, others-keep-theirs}
use Rattle.btx_bib.proofs.laws.last_definition_counts.Goals as goal

gives : GivesOwn
gives strings name own value same =
    ap (λ (f : List ℕ). lookup (bytes_eq f) (insert_entry bytes_eq strings (folded own) value)) (folded-same name own same)
    ∙ lookup-own strings (folded own) value

leaves : LeavesOthers
leaves strings name own value other = lookup-other strings (folded name) (folded own) value other

pub returns : goal.returns
returns c = record { last = last-definition-counts gives leaves; others = others-keep-theirs gives leaves; macros = last-macro-counts gives leaves }
