-- The pieces of a message's text in the code.
use Rattle.std.specs.Prelude.{ℕ, List, ◌++◌}
use Rattle.btx_bib.specs.declared.message_texts.Wording.{Wording}

-- the text
abbrev pub wording_text : Wording → List ℕ
wording_text wording = wording.before.now ++ wording.first.now ++ wording.between.now ++ wording.second.now ++ wording.after.now
