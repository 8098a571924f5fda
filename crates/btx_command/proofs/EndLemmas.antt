-- The end for words that can't be read.
use Rattle.std.proofs.Common.{◌≡◌, [], ◌∷◌, codes, refl}
use Rattle.std.specs.declared.io.ErrorKind.{ErrorKind}
use Rattle.std.specs.declared.io.ErrorKind.TheVariants.{OutOfMemory}
use Rattle.btx_command.specs.Acts.{Done, ReportedText, WereDone}
use Rattle.btx_command.specs.Ends.{IsUnread}
use Rattle.btx_command.specs.declared.outcome.Exit.TheVariants as exit

-- words that can't be read for another reason than want of memory are reported as no text
pub unread_text : {W : Type 0} (kind : ErrorKind) (before after : Done W) → (kind ≡ OutOfMemory → ⊥)
    → WereDone before after (ReportedText (codes "error: invalid UTF-8 was detected in one or more arguments\n") [] ∷ [])
    → IsUnread kind before after exit.Refused
unread_text OutOfMemory before after isnt done = absurd (isnt refl)
unread_text _ before after isnt done = (done, refl)
