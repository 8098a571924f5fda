use Rattle.std.proofs.Common.{◌∙◌, ap, List, ℕ}
use Rattle.btx_aux.specs.refinement.Entries.{texts_of}
use Rattle.btx_aux.specs.language.Names.{with_name_once}
use Rattle.btx_aux.proofs.NameLemmas.{with_name-texts_of}
use Rattle.btx_aux.proofs.name_set.NameSet.add.Goals as goal

pub returns : goal.returns
returns c =
    ap texts_of c.in_ok-insert.ensures.keys
    ∙ with_name-texts_of c.self.inside.names.keys c.args.name
    ∙ ap (λ (names : List (List ℕ)). with_name_once names c.args.name.items) c.self.view_is
