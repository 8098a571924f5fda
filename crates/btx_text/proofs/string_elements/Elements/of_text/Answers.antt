use Rattle.btx_text.specs.language.Elements.{elements_of}
use Rattle.btx_text.proofs.DivisionLemmas.{elements_of-divides}
use Rattle.btx_text.proofs.string_elements.Elements.of_text.Goals as goal

pub returns-clause-joined : goal.returns-clause-joined
unfolding elements_of
returns-clause-joined c = (elements_of-divides c.args.mode c.args.string.now).joined
