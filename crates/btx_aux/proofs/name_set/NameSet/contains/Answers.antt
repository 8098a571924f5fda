use Rattle.std.proofs.Common.{◌∙◌, ap, List, ℕ}
use Rattle.btx_aux.proofs.NameLemmas.{is_among-texts_of}
use Rattle.btx_aux.proofs.name_set.NameSet.contains.Goals as goal
use Rattle.btx_text.specs.language.Lists.{is_among}

pub returns : goal.returns
returns c =
    c.contains.ensures
    ∙ is_among-texts_of c.self.inside.names.keys c.args.name.now
    ∙ ap (λ (names : List (List ℕ)). is_among names c.args.name.now) c.self.view_is
