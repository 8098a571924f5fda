-- What the code has read, as the definitions have it.
use Rattle.std.specs.Prelude.{ℕ, List, Result, Ok, Err}
use Rattle.std.specs.Borrow.{Bor}
use Rattle.btx_bib.specs.declared.grammar.slip.SyntaxError.{SyntaxError}
use Rattle.btx_bib.specs.language.Grammar.Tokens.{Parsed}

-- what the code has read, without where it lies in memory
abbrev pub seen : {A B : Type 0} → (A → B) → Result (A × Bor (List ℕ)) (SyntaxError × Bor (List ℕ)) → Parsed B
seen view (Ok got) = Ok (view got.0, got.1.now)
seen view (Err wrong) = Err (wrong.0, wrong.1.now)
