use Rattle.std.proofs.Common.{length, drop}
use Rattle.std.proofs.lemmas.List.Elements.{All-append, All-drop, All-take}
use Rattle.btx_names.specs.refinement.NameTokens.{Hold}
use Rattle.btx_names.proofs.token_list.TokenList.of.Goals as goal

pub returns-clause-held : goal.returns-clause-held
returns-clause-held c = λ bytes held.
    let counted = c.count_bare.new.tokens in
    let others = drop (length counted) c.args.tokens.items in
    let kept = c.count_bare.ensures.held bytes (rw c.deref_mut.ensures.value held) in
    All-take (Hold bytes) c.args.tokens.len _ (All-append (Hold bytes) counted others kept (All-drop (Hold bytes) (length counted) c.args.tokens.items held))
