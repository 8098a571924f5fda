-- The fields of an entry.
use Rattle.std.specs.Prelude.{ℕ, ◌==◌, List, drop, Option, None, Some, Ok, if◌then◌else◌}
use Rattle.std.specs.Str.{byte}
use Rattle.btx_bib.specs.declared.grammar.byte_sets.Delimiter.{Delimiter}
use Rattle.btx_bib.specs.declared.grammar.byte_sets.ByteSet.TheVariants.{Gap}
use Rattle.btx_bib.specs.declared.grammar.slip.SyntaxError.TheVariants.{NoComma, NoEquals}
use Rattle.btx_bib.specs.language.Grammar.ByteSets.{begins, past}
use Rattle.btx_bib.specs.language.Grammar.Tokens.{Parsed, followed_by, wrong_at, name_at, sign_at, closing_delimiter}
use Rattle.btx_bib.specs.language.Grammar.Values.{Part, value_at}

-- a field: its name and its value
pub record Field : Type 0 where
  pub name : List ℕ
  pub value : List Part

-- a field: a name, `=` and a value
unfoldable pub field_at : List ℕ → Parsed Field
field_at text =
    followed_by (name_at text) (λ name behind_name.
    followed_by (sign_at (byte "=") NoEquals behind_name) (λ sign behind_sign.
    followed_by (value_at behind_sign) (λ value rest. Ok (record { name = name; value = value }, rest))))

-- after a comma: the closing delimiter ends the entry, else a field follows
unfoldable pub after_comma : Delimiter → List ℕ → Parsed (Option Field)
after_comma delimiter rest =
    if begins (λ b. b == closing_delimiter delimiter) rest then Ok (None, drop 1 rest)
    else followed_by (field_at rest) (λ field behind. Ok (Some field, behind))

-- after a key or a field: the closing delimiter, which ends the entry, or a comma and then a field or the closing delimiter; else an error
unfoldable pub more_in : Delimiter → List ℕ → Parsed (Option Field)
more_in delimiter rest =
    let comma = byte "," in
    if begins (λ b. b == closing_delimiter delimiter) rest then Ok (None, drop 1 rest)
    else if begins (λ b. b == comma) rest then after_comma delimiter (past Gap (drop 1 rest)) else wrong_at (NoComma delimiter) rest
