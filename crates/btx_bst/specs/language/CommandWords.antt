-- The words of the commands, as messages show them.
use Rattle.std.specs.Prelude.{ℕ, List, codes}
use Rattle.btx_bst.specs.declared.command.Command.{Command}
use Rattle.btx_bst.specs.declared.command.Command.TheVariants.{Entry, Function, Read, Execute, Iterate, Reverse, Sort, Integers, Strings, Macro}

-- the word of a command, in capitals
abbrev pub command_word_of : Command → List ℕ
command_word_of Entry = codes "ENTRY"
command_word_of Function = codes "FUNCTION"
command_word_of Read = codes "READ"
command_word_of Execute = codes "EXECUTE"
command_word_of Iterate = codes "ITERATE"
command_word_of Reverse = codes "REVERSE"
command_word_of Sort = codes "SORT"
command_word_of Integers = codes "INTEGERS"
command_word_of Strings = codes "STRINGS"
command_word_of Macro = codes "MACRO"
