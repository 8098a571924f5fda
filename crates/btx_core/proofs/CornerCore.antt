-- What the corners come to in the relation, computed from end to end.
use Rattle.std.proofs.Common.{refl, arith}
use Rattle.btx_text.specs.language.Class.{class_of}
use Rattle.btx_text.specs.language.Elements.{elements_from, elements_of, group_len, kind_at}
use Rattle.btx_text.specs.language.Sequences.{begins_sequence, is_sequence, second_fits, sequence_size}
use Rattle.btx_strings.specs.language.Case.{cased_control}
use Rattle.btx_strings.specs.language.Controls.{control_name, glyphs_from, glyphs_of, letters_of, without_white}
use Rattle.btx_strings.specs.language.Lengths.{take_characters}
use Rattle.btx_strings.specs.language.Width.{control_width}
use Rattle.btx_names.specs.language.Answered.{names_before}
use Rattle.btx_names.specs.language.Formats.{group_item, inside_item, items_from, items_of, part_named, piece_item}
use Rattle.btx_names.specs.language.NameLists.{is_separator, names_of, pieces_from}
use Rattle.btx_names.specs.language.NameParts.{before_final, before_first, ends_in_comma, sections_of, split_at_comma, up_to_last}
use Rattle.btx_names.specs.language.Runs.{run_len}
use Rattle.btx_names.specs.language.Tokens.{tokens_from, tokens_of}
use Rattle.btx_names.specs.language.VonTokens.{first_is_lower, is_lower_special, is_von}
use Rattle.btx_core.proofs.WorkedCore.{AreTheOnes, ◌⨾◌, all_by_the_one, computes}
use Rattle.btx_core.specs.laws.CornerJobs as corners
use Rattle.btx_core.specs.laws.ProductLaws.{CornerProducts}

-- opens what divides strings and names, too
divides : Unit {0}
unfolding class_of elements_from elements_of group_len kind_at begins_sequence is_sequence second_fits sequence_size cased_control control_name glyphs_from
    glyphs_of letters_of without_white take_characters control_width names_before group_item inside_item items_from items_of part_named piece_item is_separator
    names_of pieces_from before_final before_first ends_in_comma sections_of split_at_comma up_to_last run_len tokens_from tokens_of first_is_lower
    is_lower_special is_von
divides = tt

aux_corners-worked : AreTheOnes corners.aux_corners
unfolding computes divides
aux_corners-worked =
    (omega arith, refl) ⨾ (omega arith, refl) ⨾ (omega arith, refl) ⨾ (omega arith, refl) ⨾ (omega arith, refl) ⨾ (omega arith, refl) ⨾ tt

database_corners-worked : AreTheOnes corners.database_corners
unfolding computes divides
database_corners-worked =
    (omega arith, refl) ⨾ (omega arith, refl) ⨾ (omega arith, refl) ⨾ (omega arith, refl) ⨾ (omega arith, refl) ⨾ (omega arith, refl) ⨾ (omega arith, refl)
    ⨾ (omega arith, refl) ⨾ (omega arith, refl) ⨾ tt

reference_corners-worked : AreTheOnes corners.reference_corners
unfolding computes divides
reference_corners-worked =
    (omega arith, refl) ⨾ (omega arith, refl) ⨾ (omega arith, refl) ⨾ (omega arith, refl) ⨾ (omega arith, refl) ⨾ (omega arith, refl) ⨾ (omega arith, refl)
    ⨾ (omega arith, refl) ⨾ (omega arith, refl) ⨾ (omega arith, refl) ⨾ tt

style_corners-worked : AreTheOnes corners.style_corners
unfolding computes divides
style_corners-worked =
    (omega arith, refl) ⨾ (omega arith, refl) ⨾ (omega arith, refl) ⨾ (omega arith, refl) ⨾ tt

execution_corners-worked : AreTheOnes corners.execution_corners
unfolding computes divides
execution_corners-worked =
    (omega arith, refl) ⨾ (omega arith, refl) ⨾ (omega arith, refl) ⨾ (omega arith, refl) ⨾ (omega arith, refl) ⨾ (omega arith, refl) ⨾ (omega arith, refl)
    ⨾ (omega arith, refl) ⨾ (omega arith, refl) ⨾ (omega arith, refl) ⨾ (omega arith, refl) ⨾ (omega arith, refl) ⨾ (omega arith, refl) ⨾ tt

name_corners-worked : AreTheOnes corners.name_corners
unfolding computes divides
name_corners-worked =
    (omega arith, refl) ⨾ (omega arith, refl) ⨾ (omega arith, refl) ⨾ (omega arith, refl) ⨾ (omega arith, refl) ⨾ (omega arith, refl) ⨾ (omega arith, refl)
    ⨾ (omega arith, refl) ⨾ (omega arith, refl) ⨾ (omega arith, refl) ⨾ (omega arith, refl) ⨾ (omega arith, refl) ⨾ (omega arith, refl) ⨾ tt

line_corners-worked : AreTheOnes corners.line_corners
unfolding computes divides
line_corners-worked =
    (omega arith, refl) ⨾ (omega arith, refl) ⨾ (omega arith, refl) ⨾ (omega arith, refl) ⨾ (omega arith, refl) ⨾ (omega arith, refl) ⨾ (omega arith, refl) ⨾ tt

pub worked : CornerProducts
worked = (
  all_by_the_one corners.aux_corners aux_corners-worked,
  all_by_the_one corners.database_corners database_corners-worked,
  all_by_the_one corners.reference_corners reference_corners-worked,
  all_by_the_one corners.style_corners style_corners-worked,
  all_by_the_one corners.execution_corners execution_corners-worked,
  all_by_the_one corners.name_corners name_corners-worked,
  all_by_the_one corners.line_corners line_corners-worked,
)
