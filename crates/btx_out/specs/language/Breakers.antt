-- What is written of a pending text at the very end.
use Rattle.std.specs.Prelude.{ℕ, List, [], ◌∷◌}
use Rattle.btx_out.specs.language.Breaking.{wrap}

-- what is written of a pending text at the very end: its lines, and nothing where it is empty
abbrev pub written_at_end : ℕ → List ℕ → List ℕ
written_at_end line_length [] = []
written_at_end line_length (b ∷ bs) = wrap line_length (b ∷ bs)
