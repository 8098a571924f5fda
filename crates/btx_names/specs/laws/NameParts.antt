-- The parts of a name as a whole: in order, they are the tokens of the name.
use Rattle.std.specs.Prelude.{◌≡◌, ◌++◌, slice_get, ℕ, ◌-◌, List, [], Option, length, Bool}
use Rattle.btx_names.specs.language.Tokens.{NameToken}
use Rattle.btx_names.specs.language.NameParts.{Sections, One, Two, Three, NameParts, sections_of, parts_by}
use Rattle.std.specs.List.{list_all}
use Rattle.btx_names.specs.language.Runs.{is_break}

-- the text has no token: only whitespace, `~`, `-` and commas
abbrev pub is_all_breaks : List ℕ → Bool
is_all_breaks text = list_all is_break text

-- the parts of a name: First, von, Last and Jr, each as tokens
abbrev pub parts_of : List ℕ → NameParts
parts_of name = parts_by (sections_of name)

-- the parts in the order in which a name of a form has them
abbrev pub parts_in_order : Sections → NameParts → List NameToken
parts_in_order (One name) parts = parts.first ++ parts.von ++ parts.last
parts_in_order (Two surname first) parts = parts.von ++ parts.last ++ parts.first
parts_in_order (Three surname jr first) parts = parts.von ++ parts.last ++ parts.jr ++ parts.first

-- only a name of the third form, with two commas, has a Jr
abbrev pub HasJrByForm : Sections → NameParts → Type 0
HasJrByForm (Three surname jr first) parts = Unit {0}
HasJrByForm _ parts = parts.jr ≡ []

-- the section that von and Last stand in
abbrev pub surname_of : Sections → List ℕ
surname_of (One name) = name
surname_of (Two surname first) = surname
surname_of (Three surname jr first) = surname

-- of the section that von and Last stand in: the tokens before Last
abbrev pub before_last : Sections → NameParts → List NameToken
before_last (One name) parts = parts.first ++ parts.von
before_last _ parts = parts.von

-- the final token of a list, if it has one
abbrev pub final_of : List NameToken → Option NameToken
final_of tokens = slice_get tokens (length tokens - 1)
