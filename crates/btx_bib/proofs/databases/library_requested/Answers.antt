use Rattle.std.proofs.Common.{◌∙◌, ◌++◌, List, ap}
use Rattle.std.proofs.lemmas.Result.{IfOk-weaker}
use Rattle.btx_bib.specs.declared.gathering.Gathering.{Gathering}
use Rattle.btx_bib.specs.declared.message.Message.{Message}
use Rattle.btx_bib.specs.refinement.Pairs.{databases_of_pairs}
use Rattle.btx_bib.specs.refinement.Readings.{kept_by_all, messages_of_all}
use Rattle.btx_bib.specs.refinement.Requests.{wanted}
use Rattle.btx_bib.proofs.WholeLemmas.{is-listed, library-is}
use Rattle.btx_bib.proofs.databases.library_requested.Goals as goal

pub library-requires : goal.library-requires
library-requires c =
    let w = wanted c.args.request.now in
    let databases = databases_of_pairs c.args.databases.now in
    is-listed w c.args.macros.now databases c.read_all.new.self
    (c.in_ok-read_all.ensures.state ∙ ap (λ (k : Gathering). kept_by_all w k databases) c.in_ok-gathering.ensures)

pub returns : goal.returns
returns c =
    let w = wanted c.args.request.now in
    let databases = databases_of_pairs c.args.databases.now in
    let start = c.in_ok-gathering.ensures in
    let kept = c.in_ok-read_all.ensures.state ∙ ap (λ (k : Gathering). kept_by_all w k databases) start in
    let logs =
    c.in_ok-read_all.ensures.logged
    ∙ ap (λ (ms : List Message). ms ++ messages_of_all w c.in_ok-gathering.gathering databases) c.new-messages.ensures
    ∙ ap (λ (k : Gathering). messages_of_all w k databases) start in
    let whole = library-is w c.args.macros.now databases c.read_all.new.self kept c.read_all.new.messages logs in
    IfOk-weaker c.library.result _ _ (λ library is. is ∙ whole) c.library.ensures
