use Rattle.std.proofs.Common.{◌∙◌}
use Rattle.std.specs.IoError.{error_kind}
use Rattle.btx_command.proofs.EndLemmas.{unread_text}
use Rattle.btx_command.proofs.program.report_unread.Goals as goal

-- the words are no text
pub returns-in_default : goal.returns-in_default
returns-in_default g c = unread_text (error_kind c.args.error.now) _ _ (λ is. c.in_default.not-OutOfMemory (c.kind.ensures ∙ is)) c.report_text.ensures
