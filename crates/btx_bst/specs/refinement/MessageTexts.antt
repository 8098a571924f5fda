-- The three pieces in which the code writes the text of a complaint.
use Rattle.std.specs.Prelude.{ℕ, List, [], codes}
use Rattle.btx_bst.specs.language.Complaints.{Complaint, NoCommand, NotCommand, NoOpen, NoClose, NoName, Defined, Unknown, BadInteger, TextAfter, NoQuoteEnd}
use Rattle.btx_bst.specs.language.Complaints.{Another, BeforeRead, BeforeEntry, AfterRead, NoQuote, EndOfFile}
use Rattle.btx_bst.specs.language.CommandWords.{command_word_of}

-- what stands before the name or the command that is shown, or the whole text
unfoldable pub before_shown : Complaint → List ℕ
before_shown NoCommand = codes "I was expecting a command"
before_shown (NotCommand name) = []
before_shown NoOpen = codes "I was expecting a {"
before_shown NoClose = codes "I was expecting a }"
before_shown NoName = codes "I was expecting a name"
before_shown (Defined name) = []
before_shown (Unknown name) = []
before_shown BadInteger = codes "Illegal integer"
before_shown TextAfter = codes "Illegal text after a literal"
before_shown NoQuoteEnd = codes "No \" to end string literal"
before_shown (Another command) = codes "Illegal, another "
before_shown (BeforeRead command) = codes "Illegal, "
before_shown BeforeEntry = codes "Illegal, READ command before ENTRY"
before_shown AfterRead = codes "Illegal, MACRO command after READ"
before_shown NoQuote = codes "I was expecting a \""
before_shown EndOfFile = codes "Illegal end of style file"

-- the name or the command that the text of a complaint shows; nothing if it shows none
unfoldable pub shown_of : Complaint → List ℕ
shown_of (NotCommand name) = name
shown_of (Defined name) = name
shown_of (Unknown name) = name
shown_of (Another command) = command_word_of command
shown_of (BeforeRead command) = command_word_of command
shown_of _ = []

-- what comes after the name or the command that is shown
unfoldable pub after_shown : Complaint → List ℕ
after_shown (NotCommand name) = codes " isn't a command"
after_shown (Defined name) = codes " is already defined"
after_shown (Unknown name) = codes " is an unknown function"
after_shown (Another command) = codes " command"
after_shown (BeforeRead command) = codes " command before READ"
after_shown _ = []
