use Rattle.std.proofs.Common.{refl, sym, subst, Ok}
use Rattle.std.proofs.lemmas.Iterator.{items_from_collect}
use Rattle.std.proofs.lemmas.Iterator.Adapters.{YieldsList-from_vec}
use Rattle.btx_command.specs.Ends.{AreWordsOf}
use Rattle.btx_command.proofs.program.words.Goals as goal

-- the words are all that the system's iterator has left
pub returns : goal.returns
returns c =
    let args = c.in_ok-args.field-0 in
    let words = c.in_ok-words.words in
    subst (λ found. AreWordsOf found (Ok words)) (sym c.in_ok-args.was)
    (items_from_collect {E = Unit {0}} (Ok words) c.in_ok-words.ensures.ran (YieldsList-from_vec {s = args} args.rest.items refl args.rest.ok.0))
