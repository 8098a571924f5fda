use Rattle.std.proofs.Common.{◌∙◌, sym, ℕ, List}
use Rattle.btx_bib.specs.declared.grammar.slip.SyntaxError.{SyntaxError}
use Rattle.btx_bib.proofs.GrammarLemmas.ValueLemmas.{value-wrong}
use Rattle.btx_bib.proofs.grammar.values.end_of_value.Goals as goal

pub returns-in-Err : goal.returns-in-Err
returns-in-Err c =
    let wrong : SyntaxError × List ℕ = (c.in-Err.slip, c.in-Err.place.now) in
    sym (value-wrong c.loop-after.rest.now wrong (sym c.in-Err.ensures.value)) ∙ c.loop-after.invariant
