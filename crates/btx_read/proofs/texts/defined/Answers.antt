use Rattle.std.proofs.Common.{◌∙◌, ap, sym, false}
use Rattle.btx_bib.specs.refinement.Grammar.Squeezing.{is_squeezed}
use Rattle.btx_read.proofs.RecordLemmas.{fitting-squeezed}
use Rattle.btx_read.proofs.texts.defined.Goals as goal

pub define-requires : goal.define-requires
define-requires c = ap (is_squeezed false) c.in_ok-copy.ensures ∙ fitting-squeezed _ c.in-Some.text (sym c.in-Some.is ∙ c.in_ok-text.ensures)
