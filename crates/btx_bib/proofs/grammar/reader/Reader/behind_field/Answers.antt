use Rattle.std.proofs.Common.{sym}
use Rattle.std.proofs.lemmas.Option.{IfSome_then}
use Rattle.btx_bib.proofs.GrammarLemmas.WindowLemmas.{field-next}
use Rattle.btx_bib.proofs.grammar.reader.Reader.behind_field.Goals as goal

pub returns-in-Fields : goal.returns-in-Fields
returns-in-Fields c =
    IfSome_then c.behind_field.result c.behind_field.ensures
    (λ rest field.
    field-next c.args.self.now c.self.inside.wanted c.in-Fields.field-0 c.self.inside.rest.now rest.now (sym c.self.view_is) c.in-Fields.is field)
