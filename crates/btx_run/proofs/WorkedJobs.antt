-- Worked jobs, computed from the definition.
use Rattle.std.specs.Prelude.{refl}
use Rattle.std.specs.Fmt.{digits}
use Rattle.btx_text.specs.language.Lines.{line_pieces, trimmed}
use Rattle.btx_text.specs.language.LogLines.{mark_of, place_text}
use Rattle.btx_aux.specs.language.Events.{job_events, said}
use Rattle.btx_aux.specs.language.Grammar.{aux_command_named, pieces_of, words_of}
use Rattle.btx_aux.specs.language.Job.{job_of_files}
use Rattle.btx_aux.specs.language.Notes.{aux_complaint_text, aux_note_kind, aux_note_text}
use Rattle.btx_out.specs.language.Breaking.{break_of, cut_of, cut_within, from_white, last_white, skip_white, till_white}
use Rattle.btx_bst.specs.language.BodyText.{body_end, body_turn}
use Rattle.btx_bst.specs.language.BuiltIns.{built_in_of, built_ins}
use Rattle.btx_bst.specs.language.Commands.{command_named, declare, entry_command, function_command, macro_command, read_command, run_command, sort_command}
use Rattle.btx_bst.specs.language.Fronts.{len_till}
use Rattle.btx_bst.specs.language.Lists.{list_end, list_turn}
use Rattle.btx_bst.specs.language.Names.{named_lower}
use Rattle.btx_bst.specs.language.Places.{behind_white, ink_from, lines_size, size, skipped_from}
use Rattle.btx_bst.specs.language.StyleText.{item_turn, style_from, style_of}
use Rattle.btx_bst.specs.language.Turns.{turns_within}
use Rattle.btx_bst.specs.language.Words.{integer_at, signed, digits_value, word_front}
use Rattle.btx_bib.specs.language.Databases.{library_of}
use Rattle.btx_bib.specs.language.Entries.{body_of}
use Rattle.btx_bib.specs.language.Grammar.ByteSets.{enclosed_len, longest_run_len}
use Rattle.btx_bib.specs.refinement.Grammar.ByteSets.{unmarked_len}
use Rattle.btx_bib.specs.language.Grammar.Fields.{after_comma, field_at, more_in}
use Rattle.btx_bib.specs.language.Grammar.Items.{behind_at, command_of, events_from, events_within, head_at, head_of, expected_step}
use Rattle.btx_bib.specs.language.Grammar.PlaceLines.{lines_begun}
use Rattle.btx_bib.specs.language.Grammar.Tokens.{key_here, name_here, open_in, sign_in}
use Rattle.btx_bib.specs.language.Grammar.ValueTexts.{squeezed}
use Rattle.btx_bib.specs.language.Grammar.Values.{part_in, value_at, value_within}
use Rattle.btx_bib.specs.language.Listing.{slot_of}
use Rattle.btx_bib.specs.language.MessageTexts.{slip_text, message_text}
use Rattle.btx_bib.specs.language.Passes.{check_messages, checked, entries_of, inherited, reference_messages}
use Rattle.btx_step.specs.language.Notes.{form_of, has_place, note_kind, note_line, place_of, note_text}
use Rattle.btx_step.specs.language.Sorting.{sorted_by}
use Rattle.btx_step.specs.language.Steps.{built_in_run, function_run, step_of}
use Rattle.btx_machine.specs.language.Commands.{command_word, visit}
use Rattle.btx_machine.specs.language.Items.{do_item, do_items}
use Rattle.btx_machine.specs.language.MeaningBySteps.{meaning}
use Rattle.btx_machine.specs.laws.MeaningBySteps.{loop_of}
use Rattle.btx_machine.specs.language.Reports.{last_line, end_word}
use Rattle.btx_machine.specs.language.Saying.{lines_logged, said_on}
use Rattle.btx_machine.specs.language.Steps.{token_effect, turn_of}
use Rattle.btx_core.specs.language.Files.Lines.{database_line, no_database_line, no_style_line, style_line}
use Rattle.btx_core.specs.refinement.Files.Readings.{after_job, style_named, style_read}
use Rattle.btx_run.specs.refinement.Files.Readings.{after_style}
use Rattle.btx_core.specs.laws.WorkedJobs as jobs
use Rattle.btx_core.specs.laws.WorkedJobs.{JobsAreSo, IsSo}
use Rattle.btx_bst.specs.language.MessageTexts.{complaint_text}

-- opens each definition that the rows compute with
computes : Unit {0}
unfolding digits line_pieces trimmed mark_of place_text said job_events pieces_of aux_command_named words_of job_of_files aux_complaint_text aux_note_text
    aux_note_kind skip_white till_white from_white last_white break_of cut_within cut_of body_turn body_end built_ins built_in_of command_named entry_command
    function_command read_command run_command sort_command declare macro_command len_till list_turn list_end complaint_text named_lower behind_white ink_from
    skipped_from lines_size size item_turn style_from style_of turns_within digits_value signed integer_at word_front library_of body_of longest_run_len
    enclosed_len unmarked_len field_at after_comma more_in command_of head_of head_at behind_at expected_step events_within events_from lines_begun name_here
    open_in sign_in key_here squeezed part_in value_within value_at slot_of slip_text message_text inherited checked check_messages entries_of
    reference_messages form_of place_of note_text note_kind has_place note_line sorted_by built_in_run function_run step_of command_word visit do_item do_items
    meaning loop_of end_word last_line lines_logged said_on token_effect turn_of style_line no_style_line database_line no_database_line after_style style_read
    style_named after_job
computes = tt

a_citation : IsSo jobs.a_citation
unfolding computes
a_citation = refl

cross_references : IsSo jobs.cross_references
unfolding computes
cross_references = refl

fewer_references : IsSo jobs.fewer_references
unfolding computes
fewer_references = refl

all_entries : IsSo jobs.all_cited
unfolding computes
all_entries = refl

sorted_entries : IsSo jobs.sorted_entries
unfolding computes
sorted_entries = refl

reversed_entries : IsSo jobs.reversed_entries
unfolding computes
reversed_entries = refl

macros : IsSo jobs.macros
unfolding computes
macros = refl

broken_lines : IsSo jobs.broken_lines
unfolding computes
broken_lines = refl

no_top_file : IsSo jobs.no_top_file
unfolding computes
no_top_file = refl

no_style : IsSo jobs.no_style
unfolding computes
no_style = refl

missing_database : IsSo jobs.missing_database
unfolding computes
missing_database = refl

undefined_key : IsSo jobs.undefined_key
unfolding computes
undefined_key = refl

error_of_a_style : IsSo jobs.error_of_a_style
unfolding computes
error_of_a_style = refl

error_of_a_database : IsSo jobs.error_of_a_database
unfolding computes
error_of_a_database = refl

messages_in_order : IsSo jobs.messages_in_order
unfolding computes
messages_in_order = refl

leftover : IsSo jobs.literal_left
unfolding computes
leftover = refl

warned : IsSo jobs.warned
unfolding computes
warned = refl

stopped : IsSo jobs.stopped
unfolding computes
stopped = refl

too_deep : IsSo jobs.too_deep
unfolding computes
too_deep = refl

too_many_literals : IsSo jobs.too_many_literals
unfolding computes
too_many_literals = refl

too_many_open : IsSo jobs.too_many_open
unfolding computes
too_many_open = refl

pub holds : JobsAreSo jobs.worked_jobs
holds = (
  a_citation,
  (
    cross_references,
    (
      fewer_references,
      (
        all_entries,
        (
          sorted_entries,
          (
            reversed_entries,
            (
              macros,
              (
                broken_lines,
                (
                  no_top_file,
                  (
                    no_style,
                    (
                      missing_database,
                      (
                        undefined_key,
                        (
                          error_of_a_style,
                          (
                            error_of_a_database,
                            (messages_in_order, (leftover, (warned, (stopped, (too_deep, (too_many_literals, (too_many_open, tt))))))),
                          ),
                        ),
                      ),
                    ),
                  ),
                ),
              ),
            ),
          ),
        ),
      ),
    ),
  ),
)
