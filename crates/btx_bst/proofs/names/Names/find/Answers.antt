use Rattle.std.proofs.Common.{◌∙◌, ap}
use Rattle.btx_bst.specs.language.Names.{Names, named_lower}
use Rattle.btx_bst.proofs.names.Names.find.Goals as goal

pub returns : goal.returns
returns c =
    c.copied.ensures ∙ c.get.ensures.value ∙ c.self.invariant c.args.lowered.now
    ∙ ap (λ (names : Names). named_lower names c.args.lowered.now) c.self.view_is
