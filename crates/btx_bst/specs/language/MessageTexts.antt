-- The texts of what is wrong in a style. Names stand as the style spells them, commands in capitals (the texts are this project's own).
use Rattle.std.specs.Prelude.{ℕ, List, ◌++◌, codes}
use Rattle.btx_text.specs.declared.log_line.LineKind.TheVariants.{Error}
use Rattle.btx_text.specs.language.LogLines.{Line, message, place_text}
use Rattle.btx_bst.specs.language.Complaints.{Complaint, NoCommand, NotCommand, NoOpen, NoClose, NoName, Defined, Unknown, BadInteger, TextAfter, NoQuoteEnd}
use Rattle.btx_bst.specs.language.Complaints.{Another, BeforeRead, BeforeEntry, AfterRead, NoQuote, EndOfFile}
use Rattle.btx_bst.specs.language.CommandWords.{command_word_of}

-- the text of a complaint, as the log shows it between the mark of an error and the place
unfoldable pub complaint_text : Complaint → List ℕ
complaint_text NoCommand = codes "I was expecting a command"
complaint_text (NotCommand name) = name ++ codes " isn't a command"
complaint_text NoOpen = codes "I was expecting a {"
complaint_text NoClose = codes "I was expecting a }"
complaint_text NoName = codes "I was expecting a name"
complaint_text (Defined name) = name ++ codes " is already defined"
complaint_text (Unknown name) = name ++ codes " is an unknown function"
complaint_text BadInteger = codes "Illegal integer"
complaint_text TextAfter = codes "Illegal text after a literal"
complaint_text NoQuoteEnd = codes "No \" to end string literal"
complaint_text (Another command) = codes "Illegal, another " ++ command_word_of command ++ codes " command"
complaint_text (BeforeRead command) = codes "Illegal, " ++ command_word_of command ++ codes " command before READ"
complaint_text BeforeEntry = codes "Illegal, READ command before ENTRY"
complaint_text AfterRead = codes "Illegal, MACRO command after READ"
complaint_text NoQuote = codes "I was expecting a \""
complaint_text EndOfFile = codes "Illegal end of style file"

-- the line of the log for what is wrong in a style: an error, with the number of its line and the name of the style's file
abbrev pub complaint_line : Complaint → ℕ → List ℕ → Line
complaint_line complaint line file = message Error (complaint_text complaint ++ place_text line file)
