-- The answers that a history holds.
use Rattle.std.specs.Prelude.{List, map}
use Rattle.btx_aux.specs.language.Files.{file_of}
use Rattle.btx_aux.specs.language.Answers.{FinderAnswer}
use Rattle.btx_aux.specs.declared.history.Noted.{Noted}

abbrev pub answers_of : List Noted → List FinderAnswer
answers_of noted = map (λ (answer : Noted). record { name = answer.name.value.items; bytes = file_of answer.found.value answer.bytes.value.items }) noted
