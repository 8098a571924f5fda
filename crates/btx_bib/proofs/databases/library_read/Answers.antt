use Rattle.std.proofs.Common.{◌∙◌, ap}
use Rattle.std.proofs.lemmas.Result.{IfOk-weaker}
use Rattle.std.specs.Prelude.{List, ℕ}
use Rattle.btx_bib.specs.language.Databases.{library_of}
use Rattle.btx_bib.specs.language.Request.{Request}
use Rattle.btx_bib.specs.refinement.Requests.{wanted}
use Rattle.btx_bib.specs.refinement.Pairs.{databases_of_pairs}
use Rattle.btx_bib.proofs.databases.library_read.Goals as goal

pub returns : goal.returns
returns c =
    let databases = databases_of_pairs c.args.databases.now in
    let of_macros = ap (λ (macros : List (List ℕ × List ℕ)). library_of (wanted c.in_ok-request.request) macros databases) c.macros.ensures in
    let of_request = ap (λ (asks : Request). library_of asks c.args.style.now.macros databases) c.in_ok-request.ensures in
    IfOk-weaker c.library_requested.result _ _ (λ library is. is ∙ of_macros ∙ of_request) c.library_requested.ensures
