use Rattle.btx_bib.specs.refinement.Grammar.PlainFields.{part_in_view}
use Rattle.btx_bib.proofs.grammar.passed_fields.behind_last_part.Goals as goal

pub returns-then-begins_with_comma : goal.returns-then-begins_with_comma
returns-then-begins_with_comma c = record {
  part = part_in_view c.in_ok-value.value;
  stands = c.in_ok-value.ensures.value;
  last = c.begins_with_comma.ensures c.if-begins_with_comma.true;
}
