use Rattle.std.proofs.Common.{refl}
use Rattle.btx_bst.specs.language.Predefined.{predefined}
use Rattle.btx_bst.proofs.FirstNameLemmas.{StandFirst, first-names}
use Rattle.btx_bst.proofs.laws.predefined_names_keep_their_numbers.Goals as goal

pub returns : goal.returns
returns c = let first : StandFirst predefined = record { parent = refl; sort_key = refl; entry_limit = refl; global_limit = refl } in first-names first
