use Rattle.std.proofs.lemmas.Option.{IfSome_then}
use Rattle.btx_bib.proofs.GrammarLemmas.WindowLemmas.{field-stands}
use Rattle.btx_bib.proofs.grammar.passed_fields.behind_field.Goals as goal

pub returns : goal.returns
returns c =
    IfSome_then c.behind_last_part.result c.behind_last_part.ensures
    (λ rest ends. field-stands c.args.text.now c.in-Some.place rest.now c.in-Some.ensures.value ends)
