use Rattle.btx_strings.proofs.ReadingLemmas.{glyphs_of-reads, glyphs_of-only}
use Rattle.btx_strings.proofs.laws.one_reading.Goals as goal

pub returns : goal.returns
returns c = record { reads = glyphs_of-reads; only = glyphs_of-only }
