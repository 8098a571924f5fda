-- Worked rows, computed from the definitions.
use Rattle.std.proofs.Common.{refl}
use Rattle.btx_text.specs.language.Lines.{line_pieces}
use Rattle.btx_bib.specs.language.Entries.{body_of}
use Rattle.btx_bib.specs.language.Grammar.ByteSets.{longest_run_len, enclosed_len}
use Rattle.btx_bib.specs.language.Grammar.Fields.{field_at, after_comma, more_in}
use Rattle.btx_bib.specs.language.Grammar.Items.{command_of, head_of, head_at, behind_at, expected_step, events_within, events_from}
use Rattle.btx_bib.specs.language.Grammar.PlaceLines.{lines_begun}
use Rattle.btx_bib.specs.language.Grammar.Tokens.{name_here, open_in, sign_in, key_here}
use Rattle.btx_bib.specs.language.Grammar.Values.{part_in, value_within, value_at}
use Rattle.btx_bib.specs.language.Grammar.ValueTexts.{squeezed}
use Rattle.btx_bib.specs.language.Listing.{slot_of}
use Rattle.btx_bib.specs.language.Passes.{inherited, checked, entries_of}
use Rattle.btx_read.specs.Records.{records_of}
use Rattle.btx_read.specs.Errors.{errors_from_records, errors_within}
use Rattle.btx_read.specs.Libraries.{library_from_records, taken_within}
use Rattle.btx_read.specs.WorkedLibraries.{AreMade, worked_parts}
use Rattle.btx_read.specs.WorkedRecords.{HasWorkedRecords}

pub parts-worked : AreMade worked_parts
unfolding library_from_records taken_within errors_from_records errors_within records_of events_from events_within expected_step behind_at head_at head_of command_of more_in after_comma
    field_at value_at value_within part_in name_here open_in sign_in key_here longest_run_len enclosed_len squeezed slot_of body_of inherited checked entries_of
    lines_begun line_pieces
parts-worked = (refl, refl, (refl, refl, (refl, refl, (refl, refl, (refl, refl, tt)))))

pub places-worked : HasWorkedRecords
unfolding records_of events_from events_within expected_step behind_at head_at head_of command_of more_in after_comma
    field_at value_at value_within part_in name_here open_in sign_in key_here longest_run_len enclosed_len squeezed lines_begun line_pieces
places-worked = refl
