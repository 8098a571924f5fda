-- The texts of log lines.
use Rattle.std.proofs.Common.{append_assoc, ◌≡◌, ◌++◌, refl}
use Rattle.std.proofs.lemmas.Result.{IfOk-equal}
use Rattle.btx_bst.specs.language.Complaints.{Complaint, NoCommand, NotCommand, NoOpen, NoClose, NoName, Defined, Unknown, BadInteger, TextAfter, NoQuoteEnd}
use Rattle.btx_bst.specs.language.Complaints.{Another, BeforeRead, BeforeEntry, AfterRead, NoQuote, EndOfFile}
use Rattle.btx_bst.specs.language.MessageTexts.{complaint_text}
use Rattle.btx_bst.specs.refinement.MessageTexts.{before_shown, shown_of, after_shown}

pub ruleset line_steps = (append_assoc, IfOk-equal)

-- the text of a complaint is the three pieces that the code writes
pub complaint_pieces : (complaint : Complaint) → complaint_text complaint ≡ before_shown complaint ++ (shown_of complaint ++ after_shown complaint)
unfolding complaint_text before_shown shown_of after_shown
complaint_pieces NoCommand = refl
complaint_pieces (NotCommand name) = refl
complaint_pieces NoOpen = refl
complaint_pieces NoClose = refl
complaint_pieces NoName = refl
complaint_pieces (Defined name) = refl
complaint_pieces (Unknown name) = refl
complaint_pieces BadInteger = refl
complaint_pieces TextAfter = refl
complaint_pieces NoQuoteEnd = refl
complaint_pieces (Another command) = refl
complaint_pieces (BeforeRead command) = refl
complaint_pieces BeforeEntry = refl
complaint_pieces AfterRead = refl
complaint_pieces NoQuote = refl
complaint_pieces EndOfFile = refl

pub ruleset complaint_steps = (append_assoc, IfOk-equal, complaint_pieces)
