use Rattle.btx_check.proofs.CalmLemmas.{pop_is_seen, pop_in_body_is_seen, later_pop_is_seen, chosen_pop_is_seen, lack_of_test_is_seen}
use Rattle.btx_check.proofs.CalmLemmas.{body_of_loop_is_seen, later_turn_is_seen, pop_in_reverse_is_seen, lack_of_entry_is_seen}
use Rattle.btx_check.proofs.CalmLemmas.{wrong_kind_is_seen, incomparable_is_seen, lack_of_variable_is_seen, left_over_is_seen}
use Rattle.btx_check.proofs.CalmLemmas.{later_entry_is_asked}
use Rattle.btx_check.proofs.laws.faults_are_seen.Goals as goal

pub returns : goal.returns
returns c = record {
  pop = pop_is_seen;
  pop_in_body = pop_in_body_is_seen;
  later_pop = later_pop_is_seen;
  chosen_pop = chosen_pop_is_seen;
  lack_of_test = lack_of_test_is_seen;
  body_of_loop = body_of_loop_is_seen;
  later_turn = later_turn_is_seen;
  pop_in_reverse = pop_in_reverse_is_seen;
  lack_of_entry = lack_of_entry_is_seen;
  wrong_kind = wrong_kind_is_seen;
  incomparable = incomparable_is_seen;
  lack_of_variable = lack_of_variable_is_seen;
  left_over = left_over_is_seen;
  later_entry = later_entry_is_asked;
}
