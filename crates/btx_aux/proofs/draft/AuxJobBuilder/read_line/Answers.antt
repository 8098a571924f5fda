use Rattle.std.proofs.Common.{◌∙◌, ap}
use Rattle.std.proofs.lemmas.Result.{on_ok_weaker}
use Rattle.btx_aux.specs.declared.draft.AuxJobBuilder.{AuxJobBuilder}
use Rattle.std.proofs.Common.{true}
use Rattle.btx_aux.specs.language.Grammar.{pieces_of}
use Rattle.btx_aux.specs.refinement.Pieces.{piece_from}
use Rattle.btx_aux.proofs.ReadLemmas.{cites_whole, bibdata_whole, bibstyle_whole, include_whole}
use Rattle.btx_aux.proofs.draft.AuxJobBuilder.read_line.Goals as goal

pub returns-in_ok-cite_each-in-Citation-clause-ending : goal.returns-in_ok-cite_each-in-Citation-clause-ending
returns-in_ok-cite_each-in-Citation-clause-ending c = ap (λ (d : AuxJobBuilder). d.ending) c.in_ok-cite_each-in-Citation.ensures
    ∙ cites_whole c.args.place.file.now c.args.place.line c.args.self.now (pieces_of true c.in-Some.argument.now)

pub returns-in_ok-take_bibdata-in-Bibdata-clause-ending : goal.returns-in_ok-take_bibdata-in-Bibdata-clause-ending
returns-in_ok-take_bibdata-in-Bibdata-clause-ending c = ap (λ (d : AuxJobBuilder). d.ending) c.in_ok-take_bibdata-in-Bibdata.ensures
    ∙ bibdata_whole c.args.place.file.now c.args.place.line c.args.self.now (pieces_of true c.in-Some.argument.now)

pub returns-in_ok-take_bibstyle-in-Bibstyle-clause-ending : goal.returns-in_ok-take_bibstyle-in-Bibstyle-clause-ending
returns-in_ok-take_bibstyle-in-Bibstyle-clause-ending c = ap (λ (d : AuxJobBuilder). d.ending) c.in_ok-take_bibstyle-in-Bibstyle.ensures
    ∙ bibstyle_whole c.args.place.file.now c.args.place.line c.args.self.now (piece_from c.only_piece.result)

pub returns-in-Input-clause-ending : goal.returns-in-Input-clause-ending
returns-in-Input-clause-ending c = on_ok_weaker c.include.result (λ e. ap (λ (d : AuxJobBuilder). d.ending) e
    ∙ include_whole c.args.place.file.now c.args.place.line c.args.self.now (piece_from c.only_piece-in-Input.result)) c.include.ensures.draft
