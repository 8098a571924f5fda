use Rattle.std.proofs.Common.{rules}
use Rattle.btx_step.specs.language.Notes.{note_text}
use Rattle.btx_step.proofs.lines.push_note.Goals as goal

pub returns-in-LeftOver : goal.returns-in-LeftOver
unfolding note_text
returns-in-LeftOver c = rw c.in-LeftOver.is (search rules)
