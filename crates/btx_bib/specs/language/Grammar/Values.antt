-- Values: parts joined by `#`.
use Rattle.std.specs.Prelude.{ℕ, zero, suc, ◌==◌, List, [], ◌∷◌, length, take, drop, Option, None, Some, Ok, Err, if◌then◌else◌}
use Rattle.btx_text.specs.language.Class.{begins_name}
use Rattle.btx_bib.specs.declared.grammar.byte_sets.ByteSet.TheVariants.{Gap, NameByte, Digit}
use Rattle.btx_bib.specs.declared.grammar.byte_sets.Enclosure.{Enclosure}
use Rattle.btx_bib.specs.declared.grammar.byte_sets.Enclosure.TheVariants.{Group, Quotes}
use Rattle.btx_bib.specs.declared.grammar.slip.SyntaxError.TheVariants.{NoValue, Unbalanced, EndOfFile}
use Rattle.btx_bib.specs.language.Grammar.ByteSets.{longest_run, past, enclosed_len}
use Rattle.btx_bib.specs.language.Grammar.Tokens.{Parsed, followed_by}
use Rattle.std.specs.Char.{is_ascii_digit}
use Rattle.std.specs.Str.{byte}
use Rattle.std.specs.Option.{option_map_or}

-- the name of a string where it stands in a value. `rest` is the text after it, which shows its place: how much of the file is left.
pub record StringName : Type 0 where
  pub name : List ℕ
  pub rest : List ℕ

-- a part of a value, without its delimiters: a group in braces, a quoted text, digits, or the name of a string
pub data Part : Type 0 where
  Braced : (text : List ℕ) → Part
  Quoted : (text : List ℕ) → Part
  Digits : (text : List ℕ) → Part
  Named : (string : StringName) → Part

-- an enclosed part whose text is `text`, and the rest after it, given what follows that: the end of the file is an error, and in quotes a `}`,
-- too
abbrev pub closed_part : Enclosure → List ℕ → List ℕ → Parsed Part
closed_part enclosure text [] = Err (EndOfFile, [])
closed_part Group text (b ∷ bs) = Ok (Braced text, bs)
closed_part Quotes text (b ∷ bs) = if b == byte "\"" then Ok (Quoted text, bs) else Err (Unbalanced, b ∷ bs)

-- a group or a text in quotes, from after the byte that opens it to where it ends at depth 0
abbrev pub enclosed_in : Enclosure → List ℕ → Parsed Part
enclosed_in enclosure rest = closed_part enclosure (take (enclosed_len enclosure 0 rest) rest) (drop (enclosed_len enclosure 0 rest) rest)

-- the part of a value with which a text begins, and the text after it; or what is wrong: the file ends, or no part begins with this byte
unfoldable pub part_in : List ℕ → Parsed Part
part_in [] = Err (EndOfFile, [])
part_in (b ∷ bs) =
    if b == byte "{" then enclosed_in Group bs
    else if b == byte "\"" then enclosed_in Quotes bs
    else if is_ascii_digit b then Ok (Digits (longest_run Digit (b ∷ bs)), past Digit (b ∷ bs))
    else if begins_name b then Ok (Named (record { name = longest_run NameByte (b ∷ bs); rest = past NameByte (b ∷ bs) }), past NameByte (b ∷ bs))
    else Err (NoValue, b ∷ bs)

-- the part of a value that stands next, after whitespace
abbrev pub part_at : List ℕ → Parsed Part
part_at text = part_in (past Gap text)

-- the text after a `#`
abbrev pub behind_hash : List ℕ → Option (List ℕ)
behind_hash [] = None
behind_hash (b ∷ bs) = if b == byte "#" then Some bs else None

-- the text after the `#` that joins another part, where one stands after whitespace
abbrev pub next_part : List ℕ → Option (List ℕ)
next_part rest = behind_hash (past Gap rest)

-- reads a value of at most `turns` parts: a part, and the others if a `#` comes after it. The bound is never reached, since each part takes a byte
-- at least
unfoldable pub value_within : ℕ → List ℕ → Parsed (List Part)
value_within zero text = Err (EndOfFile, [])
value_within (suc turns) text =
    followed_by (part_at text) (λ part rest.
    let others : List ℕ → Parsed (List Part) = λ behind.
    followed_by (value_within turns behind) (λ parts end. Ok (part ∷ parts, end)) in
    option_map_or others (next_part rest) (Ok (part ∷ [], rest)))

-- the value that stands next: its parts, which `#` joins, or what is wrong in it
unfoldable pub value_at : List ℕ → Parsed (List Part)
value_at text = value_within (suc (length text)) text
