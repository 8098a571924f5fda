-- The field after a comma, as proofs name it.
use Rattle.std.specs.Prelude.{Option, Some, Ok}
use Rattle.btx_bib.specs.language.Grammar.Tokens.{Parsed, followed_by}
use Rattle.btx_bib.specs.language.Grammar.Fields.{Field}

-- a field that was read, as one further field of its entry
abbrev pub one_more : Parsed Field → Parsed (Option Field)
one_more parsed = followed_by parsed (λ field behind. Ok (Some field, behind))
