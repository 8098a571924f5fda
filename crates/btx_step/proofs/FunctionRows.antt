-- Worked functions, computed from the definition: each row holds by `refl`, which the search finds in tables of up to 200 rows.
use Rattle.std.proofs.Common.{[]}
use Rattle.std.specs.Fmt.{digits}
use Rattle.btx_step.proofs.Common.{built_in_run, function_run}
use Rattle.btx_text.specs.declared.element_kind.TextMode.TheVariants.{Bytes, Utf8}
use Rattle.btx_text.specs.language.Class.{class_of}
use Rattle.btx_text.specs.language.Elements.{kind_at, group_len, elements_from, elements_of}
use Rattle.btx_text.specs.language.LogLines.{mark_of}
use Rattle.btx_text.specs.language.Sequences.{sequence_size, second_fits, is_sequence, begins_sequence}
use Rattle.btx_strings.specs.language.Case.{cased_parts, cased_control}
use Rattle.btx_strings.specs.language.Controls.{control_name, glyphs_from, glyphs_of, letters_of, without_white}
use Rattle.btx_strings.specs.language.Lengths.{take_characters}
use Rattle.btx_strings.specs.language.Width.{control_width}
use Rattle.btx_names.specs.language.NameLists.{is_separator, pieces_from, names_of}
use Rattle.btx_names.specs.language.Runs.{run_len}
use Rattle.btx_names.specs.language.Tokens.{tokens_from, tokens_of}
use Rattle.btx_names.specs.language.VonTokens.{is_lower_special, first_is_lower, is_von}
use Rattle.btx_names.specs.language.NameParts.{split_at_comma, sections_of, ends_in_comma, before_final, up_to_last, before_first}
use Rattle.btx_names.specs.language.Formats.{part_named, piece_item, inside_item, group_item, items_from, items_of}
use Rattle.btx_names.specs.language.FormattedNames.{initial_of, between_text, with_tokens, finished, piece_text}
use Rattle.btx_names.specs.language.Answered.{names_before, nth_name, one_name_text, one_name_complaints}
use Rattle.btx_bst.specs.language.BuiltIns.{built_ins, built_in_of}
use Rattle.btx_bst.specs.language.Names.{named_lower}
use Rattle.btx_step.specs.language.Notes.{form_of, place_of, note_text, note_kind, has_place, note_line}
use Rattle.btx_step.specs.laws.WorkedFunctions as row
use Rattle.btx_step.specs.laws.WorkedFunctions.{AreSo}
use Rattle.btx_step.specs.laws.WorkedAssignments as assigned
use Rattle.btx_step.specs.laws.WorkedAssignments.{AreAssigned, AreTested}
use Rattle.btx_step.specs.laws.WorkedStores.{job, job_without_default, outside_entries, in_knuth, in_lamport, one_below}

-- where no entry is current
pub outside-worked : AreSo (job Bytes) outside_entries one_below row.comparisons
    × AreSo (job Bytes) outside_entries one_below row.integers
    × AreSo (job Bytes) outside_entries one_below row.stack
    × AreSo (job Bytes) outside_entries one_below row.choices
    × AreSo (job Bytes) outside_entries one_below row.wrong_operands
    × AreSo (job Bytes) outside_entries [] row.whole_stacks
    × AreSo (job Bytes) outside_entries one_below row.no_entry
unfolding named_lower built_in_of built_ins function_run built_in_run form_of place_of note_text note_kind has_place note_line mark_of digits
outside-worked = (search parts 200, search parts 200, search parts 200, search parts 200, search parts 200, search parts 200, search parts 200)

-- in an entry; assignments, and what the test of a loop leaves
pub within-worked : AreSo (job Bytes) in_knuth one_below row.of_knuth
    × AreSo (job Bytes) in_lamport one_below row.of_lamport
    × AreSo job_without_default in_lamport one_below row.of_lamport_without_default
    × AreAssigned outside_entries assigned.assignments
    × AreAssigned in_knuth assigned.assignments_of_knuth
    × AreAssigned in_lamport assigned.assignments_of_lamport
    × AreTested assigned.loop_tests
unfolding named_lower built_in_of built_ins function_run built_in_run form_of place_of note_text note_kind has_place note_line mark_of digits
within-worked = (search parts 200, search parts 200, search parts 200, search parts 200, search parts 200, search parts 200, search parts 200)

pub strings-worked : AreSo (job Bytes) outside_entries one_below row.strings
unfolding named_lower built_in_of built_ins function_run built_in_run form_of place_of note_text note_kind has_place note_line mark_of digits elements_of
    elements_from kind_at group_len class_of control_name glyphs_from glyphs_of letters_of without_white cased_parts cased_control take_characters control_width
strings-worked = search parts 200

pub names-worked : AreSo (job Bytes) outside_entries one_below row.names
unfolding named_lower built_in_of built_ins function_run built_in_run form_of place_of note_text note_kind has_place note_line mark_of digits elements_of
    elements_from kind_at group_len is_separator pieces_from names_of run_len tokens_from tokens_of letters_of is_lower_special first_is_lower is_von
    split_at_comma sections_of ends_in_comma before_final up_to_last before_first part_named piece_item inside_item group_item items_from items_of initial_of
    between_text with_tokens finished piece_text names_before nth_name one_name_text one_name_complaints
names-worked = search parts 200

pub bytes_characters-worked : AreSo (job Bytes) outside_entries one_below row.bytes_characters
unfolding named_lower built_in_of built_ins function_run built_in_run form_of place_of note_text note_kind has_place note_line mark_of digits elements_of
    elements_from kind_at group_len take_characters
bytes_characters-worked = search parts 200

pub utf8_characters-worked : AreSo (job Utf8) outside_entries one_below row.utf8_characters
unfolding named_lower built_in_of built_ins function_run built_in_run form_of place_of note_text note_kind has_place note_line mark_of digits elements_of
    elements_from kind_at group_len take_characters sequence_size second_fits is_sequence begins_sequence
utf8_characters-worked = search parts 200

pub ruleset worked_rows = (outside-worked, within-worked, strings-worked, names-worked, bytes_characters-worked, utf8_characters-worked)
