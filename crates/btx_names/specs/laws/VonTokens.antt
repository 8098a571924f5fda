-- What an element says of its token, of which laws speak.
use Rattle.std.specs.Prelude.{Bool, Option, ℕ, List, length, nat_lt, false, find}
use Rattle.btx_text.specs.language.Elements.{Element}
use Rattle.btx_names.specs.language.VonTokens.{casing_of}
use Rattle.btx_strings.specs.language.Controls.{letters_of}
use Rattle.std.specs.Option.{option_map_or}
use Rattle.std.specs.Char.{is_ascii_alphabetic, is_ascii_lowercase}

-- a control sequence is a foreign letter, as `\oe` and `\L`: it stands for one or two letters when a string is purified
abbrev pub is_foreign : List ℕ → Bool
is_foreign name = nat_lt 0 (length (letters_of name))

-- a text's first letter is there and in lower case
abbrev pub begins_lower : List ℕ → Bool
begins_lower text = option_map_or is_ascii_lowercase (find is_ascii_alphabetic text) false

-- what an element says of its token: lower case, upper case, or nothing
abbrev pub casing : Element → Option Bool
casing element = casing_of element.kind element.depth element.text
