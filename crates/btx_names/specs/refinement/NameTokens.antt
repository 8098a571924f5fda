-- What the code keeps of the tokens of a name, and what clauses see of it.
use Rattle.std.specs.Prelude.{◌≡◌, ◌≤◌, ℕ, ◌+◌, List, [], ◌∷◌, length, map, take}
use Rattle.btx_names.specs.refinement.Lettered.{from_abbreviation}
use Rattle.btx_names.specs.refinement.Places.{bytes_at}
use Rattle.btx_names.specs.language.Tokens.{NameToken as Token}
use Rattle.btx_names.specs.declared.name_token.NameToken.{NameToken}

-- a token of a name, by the bytes of the list of names
abbrev pub token_of : List ℕ → NameToken → Token
token_of bytes token = record { text = bytes_at bytes token.text; joint = token.joint }

abbrev pub tokens_in : List ℕ → List NameToken → List Token
tokens_in bytes tokens = map (token_of bytes) tokens

-- these bytes hold a token, and what its abbreviation begins
abbrev pub Hold : List ℕ → NameToken → Type 0
Hold bytes token =
    (token.text.from + token.text.len ≤ length bytes)
    × (token.lettered.from + token.lettered.len ≤ length bytes)
    × (bytes_at bytes token.lettered ≡ from_abbreviation (bytes_at bytes token.text))

-- how many bytes there are from where the abbreviations of some tokens begin: none exactly where none has one
unfoldable pub lettered_in : List NameToken → ℕ
lettered_in [] = 0
lettered_in (token ∷ tokens) = token.lettered.len + lettered_in tokens

-- the same of the tokens that are said to have no abbreviation, those counted after each token
unfoldable pub lettered_of_bare : List NameToken → ℕ
lettered_of_bare [] = 0
lettered_of_bare (token ∷ tokens) = lettered_in (take token.bare_behind tokens) + lettered_of_bare tokens
