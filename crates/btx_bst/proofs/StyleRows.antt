-- Worked styles, computed from the definition.
use Rattle.std.proofs.Common.{refl}
use Rattle.btx_text.specs.language.Lines.{line_pieces, trimmed}
use Rattle.btx_bst.specs.language.BuiltIns.{built_ins, built_in_of}
use Rattle.btx_bst.specs.language.Names.{named_lower}
use Rattle.btx_bst.specs.language.Places.{behind_white, ink_from, skipped_from, lines_size, size}
use Rattle.btx_bst.specs.language.Fronts.{len_till}
use Rattle.btx_bst.specs.language.Words.{digits_value, signed, integer_at, word_front}
use Rattle.btx_bst.specs.language.Turns.{turns_within}
use Rattle.btx_bst.specs.language.Lists.{list_turn, list_end}
use Rattle.btx_bst.specs.language.BodyText.{body_turn, body_end}
use Rattle.btx_bst.specs.language.Commands.{command_named, entry_command, function_command, read_command, run_command, sort_command, declare, macro_command}
use Rattle.btx_bst.specs.language.StyleText.{item_turn, style_from, style_of}
use Rattle.btx_bst.specs.laws.WorkedStyles.{commands, faults, bodies, words, complaint_texts, AreRead, AreBodies, AreWords, AreTexts}
use Rattle.btx_bst.specs.language.MessageTexts.{complaint_text}

-- the rows of styles, computed
styles-worked : AreRead commands × AreRead faults × AreBodies bodies × AreWords words
unfolding style_of style_from item_turn turns_within behind_white ink_from skipped_from size lines_size len_till digits_value signed integer_at word_front
    list_turn list_end body_turn body_end command_named entry_command function_command read_command run_command sort_command declare macro_command named_lower
    built_in_of built_ins line_pieces trimmed
styles-worked = (refl, refl, refl, refl)

pub commands-worked : AreRead commands
commands-worked = styles-worked.0

pub faults-worked : AreRead faults
faults-worked = styles-worked.1

pub bodies-worked : AreBodies bodies
bodies-worked = styles-worked.2

pub words-worked : AreWords words
words-worked = styles-worked.3

pub messages-worked : AreTexts complaint_texts
unfolding complaint_text
messages-worked = refl

pub ruleset worked_rows = (commands-worked, faults-worked, bodies-worked, words-worked, messages-worked)
