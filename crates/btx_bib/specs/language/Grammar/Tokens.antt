-- The words and signs of an item: what a text begins with after whitespace, or what is wrong there.
use Rattle.std.specs.Prelude.{ℕ, ◌==◌, List, [], ◌∷◌, drop, Result, Ok, Err, if◌then◌else◌}
use Rattle.std.specs.Str.{byte}
use Rattle.btx_text.specs.language.Class.{begins_name}
use Rattle.btx_bib.specs.declared.grammar.byte_sets.Delimiter.{Delimiter}
use Rattle.btx_bib.specs.declared.grammar.byte_sets.Delimiter.TheVariants.{Braces, Parens}
use Rattle.btx_bib.specs.declared.grammar.byte_sets.ByteSet.TheVariants.{Gap, NameByte, KeyByte}
use Rattle.btx_bib.specs.declared.grammar.slip.SyntaxError.{SyntaxError}
use Rattle.btx_bib.specs.declared.grammar.slip.SyntaxError.TheVariants.{NoName, NoDelimiter, EndOfFile}
use Rattle.btx_bib.specs.language.Grammar.ByteSets.{begins, longest_run, past}

-- what was read and the text after it, or what is wrong and the text from its place on
abbrev pub Parsed : Type 0 → Type 0
Parsed A = Result (A × List ℕ) (SyntaxError × List ℕ)

-- reads one thing and then another; an error of the first is the error of both
abbrev pub followed_by : {A B : Type 0} → Parsed A → (A → List ℕ → Parsed B) → Parsed B
followed_by (Ok got) next = next got.0 got.1
followed_by (Err wrong) next = Err wrong

-- the error if something expected isn't here; at the end of the file it is that the file ends
abbrev pub slip_at : SyntaxError → List ℕ → SyntaxError
slip_at slip [] = EndOfFile
slip_at slip (b ∷ bs) = slip

-- the result if something expected isn't here: the error, and the text from here on
abbrev pub wrong_at : {A : Type 0} → SyntaxError → List ℕ → Parsed A
wrong_at slip text = Err (slip_at slip text, text)

-- the name that a text begins with, or what is wrong where it begins with none
unfoldable pub name_here : List ℕ → Parsed (List ℕ)
name_here rest = if begins begins_name rest then Ok (longest_run NameByte rest, past NameByte rest) else wrong_at NoName rest

-- the name that stands next, after whitespace
abbrev pub name_at : List ℕ → Parsed (List ℕ)
name_at text = name_here (past Gap text)

-- the opening delimiter that a text begins with, `{` or `(`, or what is wrong where it begins with neither
unfoldable pub open_in : List ℕ → Parsed Delimiter
open_in rest =
    let brace = byte "{" in
    let parenthesis = byte "(" in
    if begins (λ b. b == brace) rest then Ok (Braces, drop 1 rest)
    else if begins (λ b. b == parenthesis) rest then Ok (Parens, drop 1 rest) else wrong_at NoDelimiter rest

-- the opening delimiter that stands next, after whitespace
abbrev pub open_at : List ℕ → Parsed Delimiter
open_at text = open_in (past Gap text)

-- the delimiter that closes an item: `}` for `{`, and `)` for `(`
abbrev pub closing_delimiter : Delimiter → ℕ
closing_delimiter Braces = byte "}"
closing_delimiter Parens = byte ")"

-- the sign that a text begins with, or what is wrong where it begins with another byte
unfoldable pub sign_in : ℕ → SyntaxError → List ℕ → Parsed (Unit {0})
sign_in sign slip rest = if begins (λ b. b == sign) rest then Ok (tt, drop 1 rest) else wrong_at slip rest

-- the sign that stands next, after whitespace
abbrev pub sign_at : ℕ → SyntaxError → List ℕ → Parsed (Unit {0})
sign_at sign slip text = sign_in sign slip (past Gap text)

-- reads a key, which may be empty; at the end of the file it is an error
unfoldable pub key_here : Delimiter → List ℕ → Parsed (List ℕ)
key_here delimiter [] = Err (EndOfFile, [])
key_here delimiter (b ∷ bs) = Ok (longest_run (KeyByte delimiter) (b ∷ bs), past (KeyByte delimiter) (b ∷ bs))

-- the key of an entry that stands next, after whitespace
abbrev pub key_at : Delimiter → List ℕ → Parsed (List ℕ)
key_at delimiter text = key_here delimiter (past Gap text)
