use Rattle.std.proofs.Common.{◌∙◌, ap, map}
use Rattle.btx_bib.specs.refinement.Values.{text_at}
use Rattle.btx_bib.proofs.TextLemmas.{texts-missing}
use Rattle.btx_bib.proofs.values.Values.missing.Goals as goal

pub returns : goal.returns
returns c =
    let lent = c.in_ok-with_capacity.field-0.items in
    let made = c.new.result.items in
    ap (map (text_at lent made)) c.in_ok-missing.ensures ∙ texts-missing lent made c.args.count
