-- The worked jobs of btx_run, computed for the one product that stands in the relation.
use Rattle.std.proofs.Common.{List, [], ◌∷◌, codes, refl, ap, ◌∙◌, ◌≡◌, ◌≤◌, arith}
use Rattle.btx_core.proofs.ThereIsProduct.{behind_there, goes_there, come_there, executed_there, styled_there, found_there, named_there, asked_there}
use Rattle.btx_core.proofs.ThereIsProduct.{behind_files_there, holds}
use Rattle.btx_core.proofs.RuleLemmas.{behind_by}
use Rattle.btx_core.proofs.StyleThere.{next_has, opened_has, closed_has, named_has, text_has, where_has, makes_has, missing_both, gap_same, names_within}
use Rattle.btx_core.proofs.StyleThere.{lists_has, met-less, met-most, plain-less, spells-less, breaks-most, body_has, some_function, executes_has, behind_has}
use Rattle.btx_bst.proofs.CommandSpellingLemmas.{full_lines, full_more, its_word, named_word}
use Rattle.btx_core.proofs.StyleThere.{no_word, word_has, skips_met, skips-most, follows_by, begun, gap_again}
use Rattle.btx_core.proofs.StyleThere.{commands_by, commands_within, there_is_style, plain_divided, rest_divided, open_divided, word_divided, divided_within}
use Rattle.btx_core.proofs.StyleThere.{divided}
use Rattle.btx_core.proofs.LibraryLemmas.{events_by, events_there, there_is_reading, all_read, gathering, there_is_library}
use Rattle.btx_core.proofs.SortLemmas.{there_is_order}
use Rattle.std.specs.Fmt.{digits}
use Rattle.btx_text.specs.language.Lines.{line_pieces, trimmed}
use Rattle.btx_text.specs.language.LogLines.{mark_of, place_text}
use Rattle.btx_aux.specs.language.Events.{job_events, said}
use Rattle.btx_aux.specs.refinement.Drafts.{learned}
use Rattle.btx_aux.specs.refinement.Reads.{included, opened_by, run, within}
use Rattle.btx_aux.specs.language.Grammar.{aux_command_named, pieces_of, words_of}
use Rattle.btx_aux.specs.language.Job.{job_of_files}
use Rattle.btx_aux.specs.language.Notes.{aux_complaint_text, aux_note_kind, aux_note_text}
use Rattle.btx_out.specs.language.Breaking.{break_of, cut_of, cut_within, from_white, last_white, skip_white, till_white}
use Rattle.btx_bst.specs.language.BodyText.{body_end, body_turn}
use Rattle.btx_bst.specs.language.BuiltIns.{built_in_of, built_ins}
use Rattle.btx_bst.specs.language.Commands.{command_named, declare, entry_command, function_command, macro_command, read_command, run_command, sort_command}
use Rattle.btx_bst.specs.language.Fronts.{len_till}
use Rattle.btx_bst.specs.language.Lists.{list_end, list_turn}
use Rattle.btx_bst.specs.language.Names.{named_lower}
use Rattle.btx_bst.specs.language.Places.{behind_white, ink_from, lines_size, size, skipped_from}
use Rattle.btx_bst.specs.language.StyleText.{item_turn, style_from, style_of}
use Rattle.btx_bst.specs.language.Turns.{turns_within}
use Rattle.btx_bst.specs.language.Words.{integer_at, signed, digits_value, word_front}
use Rattle.btx_bib.specs.language.Databases.{library_of}
use Rattle.btx_bib.specs.language.Entries.{body_of}
use Rattle.btx_bib.specs.language.Grammar.ByteSets.{enclosed_len, longest_run_len}
use Rattle.btx_bib.specs.refinement.Grammar.ByteSets.{unmarked_len}
use Rattle.btx_bib.specs.language.Grammar.Fields.{after_comma, field_at, more_in}
use Rattle.btx_bib.specs.language.Grammar.Items.{behind_at, command_of, events_from, events_within, head_at, head_of, expected_step}
use Rattle.btx_bib.specs.language.Grammar.PlaceLines.{lines_begun}
use Rattle.btx_bib.specs.language.Grammar.Tokens.{key_here, name_here, open_in, sign_in}
use Rattle.btx_bib.specs.language.Grammar.ValueTexts.{squeezed}
use Rattle.btx_bib.specs.language.Grammar.Values.{part_in, value_at, value_within}
use Rattle.btx_bib.specs.language.Listing.{slot_of}
use Rattle.btx_bib.specs.language.MessageTexts.{slip_text, message_text}
use Rattle.btx_bib.specs.language.Passes.{check_messages, checked, entries_of, inherited, reference_messages}
use Rattle.btx_step.specs.language.Notes.{form_of, has_place, note_kind, note_line, place_of, note_text}
use Rattle.btx_step.specs.language.Sorting.{sorted_by}
use Rattle.btx_step.specs.language.Steps.{built_in_run, function_run, step_of}
use Rattle.btx_machine.specs.language.Commands.{command_word, visit}
use Rattle.btx_machine.specs.language.Items.{do_item, do_items}
use Rattle.btx_machine.specs.language.MeaningBySteps.{meaning}
use Rattle.btx_machine.specs.laws.MeaningBySteps.{loop_of}
use Rattle.btx_machine.specs.language.Reports.{last_line, end_word}
use Rattle.btx_machine.specs.language.Saying.{lines_logged, said_on}
use Rattle.btx_machine.specs.language.Steps.{token_effect, turn_of}
use Rattle.btx_core.specs.language.Files.Lines.{database_line, no_database_line, no_style_line, style_line}
use Rattle.btx_core.specs.refinement.Files.Readings.{after_job, style_named, style_read}
use Rattle.btx_core.specs.laws.WorkedJobs as jobs
use Rattle.btx_core.specs.laws.WorkedJobs.{WorkedJob, outputs_shown}
use Rattle.btx_core.specs.laws.ProductLaws.{AreWorked, IsWorked, WorkedProducts}
use Rattle.btx_core.proofs.ProductLemmas as only
use Rattle.btx_aux.specs.laws.Pairs.{files_of_pairs}
use Rattle.btx_bst.specs.language.MessageTexts.{complaint_text}

-- opens each definition that the rows compute with
unfoldable pub computes : Unit {0}
unfolding digits line_pieces trimmed mark_of place_text said learned included opened_by run within job_events pieces_of aux_command_named words_of job_of_files
    aux_complaint_text aux_note_text aux_note_kind skip_white till_white from_white last_white break_of cut_within cut_of body_turn body_end built_ins
    built_in_of command_named entry_command function_command read_command run_command sort_command declare macro_command len_till list_turn list_end
    complaint_text named_lower behind_white ink_from skipped_from lines_size size item_turn style_from style_of turns_within digits_value signed integer_at
    word_front library_of body_of longest_run_len enclosed_len unmarked_len field_at after_comma more_in command_of head_of head_at behind_at expected_step
    events_within events_from lines_begun name_here open_in sign_in key_here squeezed part_in value_within value_at slot_of slip_text message_text inherited
    checked check_messages entries_of reference_messages form_of place_of note_text note_kind has_place note_line sorted_by built_in_run function_run step_of
    command_word visit do_item do_items meaning loop_of end_word last_line lines_logged said_on token_effect turn_of style_line no_style_line database_line
    no_database_line style_read style_named after_job behind_there goes_there come_there executed_there styled_there found_there named_there asked_there
    behind_files_there holds next_has opened_has closed_has named_has text_has where_has makes_has missing_both gap_same names_within lists_has met-less
    met-most plain-less spells-less breaks-most body_has some_function executes_has behind_by behind_has its_word named_word no_word word_has full_more
    full_lines skips_met skips-most follows_by begun gap_again commands_by commands_within there_is_style plain_divided rest_divided open_divided word_divided
    divided_within divided events_by events_there there_is_reading all_read gathering there_is_library there_is_order
computes = tt

-- the product that stands in the relation comes to what is said
abbrev pub IsTheOne : (job : WorkedJob) → 3 ≤ job.options.line → Type 0
IsTheOne job wide = outputs_shown (holds (files_of_pairs job.files) (codes "job") job.options wide).0 ≡ (job.list, job.log, job.status)

by_the_one : (job : WorkedJob) (wide : 3 ≤ job.options.line) → IsTheOne job wide → IsWorked job
by_the_one job wide is product stands =
    let one = holds (files_of_pairs job.files) (codes "job") job.options wide in
    ap outputs_shown (only.holds (files_of_pairs job.files) (codes "job") job.options wide product one.0 stands one.1) ∙ is

-- of each of these jobs
abbrev pub AreTheOnes : List WorkedJob → Type 0
AreTheOnes [] = Unit {0}
AreTheOnes (job ∷ jobs) = ((wide : 3 ≤ job.options.line) × IsTheOne job wide) × AreTheOnes jobs

pub all_by_the_one : (jobs : List WorkedJob) → AreTheOnes jobs → AreWorked jobs
all_by_the_one [] are = tt
all_by_the_one (job ∷ jobs) (is, are) = (by_the_one job is.0 is.1, all_by_the_one jobs are)

infixr 5 ◌⨾◌
pub ◌⨾◌ : {A B : Type 0} → A → B → A × B
here ⨾ behind = (here, behind)

a_citation_is : IsTheOne jobs.a_citation (omega arith)
unfolding computes
a_citation_is = refl

cross_references_is : IsTheOne jobs.cross_references (omega arith)
unfolding computes
cross_references_is = refl

fewer_references_is : IsTheOne jobs.fewer_references (omega arith)
unfolding computes
fewer_references_is = refl

all_cited_is : IsTheOne jobs.all_cited (omega arith)
unfolding computes
all_cited_is = refl

sorted_entries_is : IsTheOne jobs.sorted_entries (omega arith)
unfolding computes
sorted_entries_is = refl

reversed_entries_is : IsTheOne jobs.reversed_entries (omega arith)
unfolding computes
reversed_entries_is = refl

macros_is : IsTheOne jobs.macros (omega arith)
unfolding computes
macros_is = refl

broken_lines_is : IsTheOne jobs.broken_lines (omega arith)
unfolding computes
broken_lines_is = refl

no_top_file_is : IsTheOne jobs.no_top_file (omega arith)
unfolding computes
no_top_file_is = refl

no_style_is : IsTheOne jobs.no_style (omega arith)
unfolding computes
no_style_is = refl

missing_database_is : IsTheOne jobs.missing_database (omega arith)
unfolding computes
missing_database_is = refl

undefined_key_is : IsTheOne jobs.undefined_key (omega arith)
unfolding computes
undefined_key_is = refl

error_of_a_style_is : IsTheOne jobs.error_of_a_style (omega arith)
unfolding computes
error_of_a_style_is = refl

error_of_a_database_is : IsTheOne jobs.error_of_a_database (omega arith)
unfolding computes
error_of_a_database_is = refl

messages_in_order_is : IsTheOne jobs.messages_in_order (omega arith)
unfolding computes
messages_in_order_is = refl

literal_left_is : IsTheOne jobs.literal_left (omega arith)
unfolding computes
literal_left_is = refl

warned_is : IsTheOne jobs.warned (omega arith)
unfolding computes
warned_is = refl

stopped_is : IsTheOne jobs.stopped (omega arith)
unfolding computes
stopped_is = refl

too_deep_is : IsTheOne jobs.too_deep (omega arith)
unfolding computes
too_deep_is = refl

too_many_literals_is : IsTheOne jobs.too_many_literals (omega arith)
unfolding computes
too_many_literals_is = refl

too_many_open_is : IsTheOne jobs.too_many_open (omega arith)
unfolding computes
too_many_open_is = refl

pub worked : WorkedProducts
worked =
    all_by_the_one jobs.worked_jobs
    ((omega arith, a_citation_is) ⨾ (omega arith, cross_references_is) ⨾ (omega arith, fewer_references_is) ⨾ (omega arith, all_cited_is)
    ⨾ (omega arith, sorted_entries_is) ⨾ (omega arith, reversed_entries_is) ⨾ (omega arith, macros_is) ⨾ (omega arith, broken_lines_is)
    ⨾ (omega arith, no_top_file_is) ⨾ (omega arith, no_style_is) ⨾ (omega arith, missing_database_is) ⨾ (omega arith, undefined_key_is)
    ⨾ (omega arith, error_of_a_style_is) ⨾ (omega arith, error_of_a_database_is) ⨾ (omega arith, messages_in_order_is) ⨾ (omega arith, literal_left_is)
    ⨾ (omega arith, warned_is) ⨾ (omega arith, stopped_is) ⨾ (omega arith, too_deep_is) ⨾ (omega arith, too_many_literals_is)
    ⨾ (omega arith, too_many_open_is) ⨾ tt)
