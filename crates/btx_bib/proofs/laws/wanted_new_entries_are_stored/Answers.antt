use Rattle.btx_bib.specs.language.Known.{stored_in}
use Rattle.btx_bib.proofs.StoredLemmas.{KnowsStored, is_stored-any, others-store-none, wanted-new-are-stored}
use Rattle.btx_bib.proofs.laws.wanted_new_entries_are_stored.Goals as goal

knows : KnowsStored
knows wanted known key = is_stored-any (stored_in known) key

pub returns : goal.returns
returns c = record { entry = wanted-new-are-stored knows; others = others-store-none }
