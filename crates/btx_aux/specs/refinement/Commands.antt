-- Commands as the program has them.
use Rattle.std.specs.Prelude.{ℕ, List, [], Option, None, Some}
use Rattle.std.specs.Borrow.{Bor}
use Rattle.btx_aux.specs.declared.command.Command.{Command}
use Rattle.btx_aux.specs.language.Grammar.{EventKind, words_of_command}

-- what a command says with its argument, if there is one
abbrev pub words_from : Option (Command × Bor (List ℕ)) → List EventKind
words_from None = []
words_from (Some line) = words_of_command (Some line.0) line.1.now
