-- What can be wrong in a style's text.
use Rattle.std.specs.Prelude.{ℕ, List}
use Rattle.btx_bst.specs.declared.command.Command.{Command}

-- what can be wrong in a style's text; each complaint is an error of the log, with its line
pub data Complaint : Type 0 where
  -- a command is missing
  NoCommand : Complaint
  -- a word is no command
  NotCommand : (name : List ℕ) → Complaint
  -- a `{`, a `}` or a name is missing
  NoOpen : Complaint
  NoClose : Complaint
  NoName : Complaint
  -- a name is defined already
  Defined : (name : List ℕ) → Complaint
  -- a name names nothing, or no function where one must stand
  Unknown : (name : List ℕ) → Complaint
  -- an integer has no digits, or doesn't fit 32 bits
  BadInteger : Complaint
  -- something stands directly after a string or an integer
  TextAfter : Complaint
  -- a string has no end on its line
  NoQuoteEnd : Complaint
  -- a command that may stand once stands again
  Another : (command : Command) → Complaint
  -- a command stands before READ
  BeforeRead : (command : Command) → Complaint
  -- READ stands before ENTRY, and MACRO after READ
  BeforeEntry : Complaint
  AfterRead : Complaint
  -- a quote of a macro's text is missing
  NoQuote : Complaint
  -- the file ends within a command
  EndOfFile : Complaint
