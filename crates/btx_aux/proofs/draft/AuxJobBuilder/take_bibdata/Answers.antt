use Rattle.std.proofs.Common.{rules, ◌≡◌, ◌∙◌, false, true}
use Rattle.std.proofs.lemmas.Result.{on_ok_weaker}
use Rattle.btx_aux.specs.language.Grammar.{pieces_of}
use Rattle.btx_aux.proofs.DraftLemmas.{learned-bibdata}
use Rattle.btx_aux.proofs.draft.AuxJobBuilder.take_bibdata.Goals as goal

pub returns : goal.returns
returns c =
    let first : c.args.self.now.has_bibdata ≡ false = search rules in
    let learns = learned-bibdata c.args.place.file.now c.args.place.line c.args.self.now (pieces_of true c.args.argument.now) c.new.result c.new.ensures
    first in
    on_ok_weaker c.take_databases.result (λ e. e ∙ learns) c.take_databases.ensures
