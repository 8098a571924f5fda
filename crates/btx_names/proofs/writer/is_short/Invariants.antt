use Rattle.std.proofs.Common.{◌≡◌, ◌+◌, ◌<◌, count_by}
use Rattle.btx_text.specs.language.Elements.{is_character}
use Rattle.btx_strings.specs.language.Lengths.{text_length_of}
use Rattle.btx_names.proofs.writer.is_short.Given as goal

abbrev pub invariant-loop-element : goal.invariant-loop-element
invariant-loop-element l =
    (l.count + count_by (λ part. is_character part.kind) l.element-iterator ≡ text_length_of l.fn.mode l.text) × (l.count < 3)
