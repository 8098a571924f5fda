use Rattle.std.proofs.Common.{◌∙◌, ap, option_copied}
use Rattle.btx_bst.proofs.TableLemmas.{lookup-macros}
use Rattle.btx_bst.proofs.macros.Macros.text.Goals as goal
use Rattle.btx_bst.specs.laws.Names.{macro_lower}
use Rattle.btx_bst.specs.refinement.Names.{Macros}

pub returns : goal.returns
returns c =
    ap option_copied (c.copied.ensures ∙ c.get.ensures.value) ∙ lookup-macros c.self.inside.table.entries c.args.lowered.now
    ∙ ap (λ (macros : Macros). macro_lower macros c.args.lowered.now) c.self.view_is
