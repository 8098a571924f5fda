use Rattle.btx_bst.proofs.ItemSpellingLemmas.{given, giving, skipped-lines, skipped-to_end}
use Rattle.btx_bst.proofs.laws.styles_are_spelled.Goals as goal

pub returns : goal.returns
returns c = record { given = given; giving = giving; skipped = skipped-lines; skipped_to_end = skipped-to_end }
