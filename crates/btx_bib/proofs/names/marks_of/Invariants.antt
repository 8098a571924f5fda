use Rattle.std.proofs.Common.{map, take}
use Rattle.btx_text.specs.language.Keys.{folded}
use Rattle.btx_aux.specs.refinement.Entries.{texts_of}
use Rattle.btx_bib.specs.refinement.Marks.{AreMarked}
use Rattle.btx_bib.proofs.names.marks_of.Given as goal

abbrev pub invariant-loop-key : goal.invariant-loop-key
invariant-loop-key l = AreMarked l.marks (map folded (texts_of (take l.key-index l.keys)))
