-- Names of parts of the notes' definitions.
use Rattle.btx_text.specs.language.LogLines.{Line, message}
use Rattle.btx_aux.specs.language.Notes.{AuxNote, aux_note_text, aux_note_kind}
use Rattle.std.specs.Prelude.{ℕ, List, codes}
use Rattle.btx_aux.specs.declared.command.Slip.{Slip}
use Rattle.btx_aux.specs.declared.command.Slip.TheVariants.{WhiteSpace, Unclosed, StuffAfter}

-- the line of a note
abbrev pub aux_note_line : AuxNote → Line
aux_note_line note = message (aux_note_kind note) (aux_note_text note)

-- the text of an error in the argument of a line
abbrev pub aux_slip_text : Slip → List ℕ
aux_slip_text WhiteSpace = codes "White space in argument"
aux_slip_text Unclosed = codes "No \"}\""
aux_slip_text StuffAfter = codes "Stuff after \"}\""
