use Rattle.btx_bst.proofs.WordSpellingLemmas.{tokens}
use Rattle.btx_bst.proofs.CommandSpellingLemmas.{style-read, one-reading}
use Rattle.btx_bst.proofs.laws.styles_have_one_reading.Goals as goal

pub returns : goal.returns
returns c = record { tokens = tokens; reading = style-read; one = one-reading }
