use Rattle.btx_bib.specs.refinement.Grammar.PlainFields.{plain_field_view}
use Rattle.btx_bib.proofs.grammar.passed_fields.behind_any_field.Goals as goal

pub returns-in-Some : goal.returns-in-Some
returns-in-Some c = record { field = plain_field_view c.in-Some.field; stands = λ delimiter. c.in-Some.ensures.field delimiter }
