use Rattle.std.proofs.Common.{◌∙◌, ap, false}
use Rattle.btx_bib.specs.refinement.Grammar.Squeezing.{is_squeezed}
use Rattle.btx_bib.proofs.GrammarLemmas.SqueezeLemmas.{squeezed-squeezed}
use Rattle.btx_read.proofs.known_strings.add_string.Goals as goal

pub define-requires : goal.define-requires
define-requires c = ap (is_squeezed false) c.in-Ok.ensures.0 ∙ squeezed-squeezed _
