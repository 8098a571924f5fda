use Rattle.btx_text.proofs.EncodingLemmas.{is_sequence-encode, is_sequence-encoded}
use Rattle.btx_text.proofs.laws.sequences_are_characters.Goals as goal

pub returns : goal.returns
returns c = record { encodes = is_sequence-encode; encoded = is_sequence-encoded }
