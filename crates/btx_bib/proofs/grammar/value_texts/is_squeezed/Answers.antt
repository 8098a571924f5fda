use Rattle.btx_bib.proofs.GrammarLemmas.PieceLemmas.{whole-piece}
use Rattle.btx_bib.proofs.grammar.value_texts.is_squeezed.Goals as goal

pub returns : goal.returns
returns c =
    let kept = c.kept_len.ensures in
    whole-piece c.args.was_white c.args.text.now c.kept_len.result kept.kept kept.bound kept.ended
