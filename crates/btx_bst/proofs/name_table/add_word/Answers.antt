use Rattle.std.proofs.Common.{◌∙◌}
use Rattle.btx_bst.proofs.TableLemmas.{word-added}
use Rattle.btx_bst.proofs.name_table.add_word.Goals as goal

pub returns : goal.returns
returns c = word-added _ _ c.in_ok-word.word c.args.built_in (c.in_ok-word.ensures.items ∙ c.word.ensures) c.in_ok-insert.ensures.entries
