use Rattle.btx_text.specs.language.Elements.{elements_of}
use Rattle.btx_strings.specs.language.Lengths.{take_characters}
use Rattle.btx_strings.proofs.LengthLemmas.{IsFront}
use Rattle.btx_strings.proofs.prefixes.front.Given as goal
use Rattle.btx_text.specs.laws.Elements.{text_of}

abbrev pub invariant-loop-element : goal.invariant-loop-element
invariant-loop-element l = IsFront l.string l.end l.left l.element-iterator (text_of (take_characters l.count (elements_of l.fn.mode l.string)))
