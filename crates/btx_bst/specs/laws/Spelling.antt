-- How bodies are spelled. A body is parts, one after another, and its `}`; a part is a word, or a nameless function in its braces. A text
-- that begins with no body breaks off: at a string that doesn't end, or at the end of the file.
use Rattle.std.specs.Prelude.{ℕ, ◌≡◌, ◌⊎◌, List, [], ◌∷◌, ◌++◌, length, Option, None, Some}
use Rattle.btx_bst.specs.declared.callee.Callee.{Callee}
use Rattle.btx_bst.specs.declared.callee.Callee.TheVariants.{User}
use Rattle.btx_bst.specs.language.Places.{Place}
use Rattle.btx_bst.specs.language.Complaints.{Complaint, Unknown, NoQuoteEnd, EndOfFile}
use Rattle.btx_bst.specs.declared.token.Token.{Token}
use Rattle.btx_bst.specs.declared.token.Token.TheVariants.{Text, Quote, Run}
use Rattle.btx_bst.specs.declared.token.Token.TheVariants as token
use Rattle.btx_bst.specs.language.Items.{Item, Message}
use Rattle.btx_bst.specs.language.Words.{BodyWord, Open, Close, String, Integer, Quoted, Name, Faulty, Unended, Ended, met, met_at}
use Rattle.btx_bst.specs.language.Names.{Names, named}
use Rattle.btx_bst.specs.language.BodyText.{Inside, BodyEnd, Whole, Broken, body_end}

-- the parts of a body: `Plain`, a word with the number of its line, or `Group`, the parts of a nameless function, and then more; `Nothing` at the end.
-- (Other types have a case `Plain` of their own, as lines of the log do)
pub data Parts : Type 0 where
  Nothing : Parts
  Plain : (line : ℕ) (word : BodyWord) (more : Parts) → Parts
  Group : (inside more : Parts) → Parts

-- a word that is a part by itself
abbrev pub IsPlain : BodyWord → Type 0
IsPlain Open = ⊥
IsPlain Close = ⊥
IsPlain Unended = ⊥
IsPlain Ended = ⊥
IsPlain _ = Unit {0}

-- these parts and then a `}` stand between `from` and `to`, where the words are those that a reader meets (`met_at`); `AreParts` says it without a
-- reader
abbrev pub Spells : Parts → Place → Place → Type 0
Spells Nothing from to = met_at from ≡ met Close to
Spells (Plain line word more) from to = (next : Place) × (met_at from ≡ met word next) × (line ≡ next.number) × IsPlain word × Spells more next to
Spells (Group inside more) from to = (first : Place) × (second : Place) × (met_at from ≡ met Open first) × Spells inside first second × Spells more second to

-- parts that break off: where the word that breaks them stands, or inside a nameless function, or later
pub data Fragment : Type 0 where
  Here : (complaint : Complaint) → Fragment
  After : (line : ℕ) (word : BodyWord) (more : Fragment) → Fragment
  AfterGroup : (inside : Parts) (more : Fragment) → Fragment
  Inner : (inside : Fragment) → Fragment

-- the complaint of a word that breaks a body off
abbrev pub breaks : BodyWord → Option Complaint
breaks Unended = Some NoQuoteEnd
breaks Ended = Some EndOfFile
breaks _ = None

-- the text from `from` on breaks off as the fragment says, where the words are those that a reader meets; `BreakOff` says it without a reader
abbrev pub Breaks : Fragment → Place → Place → Type 0
Breaks (Here complaint) from to = (word : BodyWord) × (met_at from ≡ met word to) × (breaks word ≡ Some complaint)
Breaks (After line word more) from to = (next : Place) × (met_at from ≡ met word next) × (line ≡ next.number) × IsPlain word × Breaks more next to
Breaks (AfterGroup inside more) from to = (first : Place) × (second : Place) × (met_at from ≡ met Open first) × Spells inside first second
    × Breaks more second to
Breaks (Inner inside) from to = (first : Place) × (met_at from ≡ met Open first) × Breaks inside first to

-- what parts come to: the tokens of their function, and, of the whole style so far, the bodies of the functions, the strings and the items
pub record Made : Type 0 where
  pub tokens : List Token
  pub bodies : List (List Token)
  pub texts : List (List ℕ)
  pub items : List Item

-- a name, as a token or as a message that it is unknown
abbrev pub made_named : (Callee → Token) → ℕ → List ℕ → Option Callee → Made → Made
made_named token line name None made = record made { items = made.items ++ Message (Unknown name) line ∷ [] }
made_named token line name (Some callee) made = record made { tokens = made.tokens ++ token callee ∷ [] }

-- what a word of a body adds to what its parts came to so far: a token, a string with its token, or a message
abbrev pub made_word : Names → ℕ → BodyWord → Made → Made
made_word names line (String text) made = record made { tokens = made.tokens ++ Text (length made.texts) ∷ []; texts = made.texts ++ text ∷ [] }
made_word names line (Integer value) made = record made { tokens = made.tokens ++ token.Integer value ∷ [] }
made_word names line (Quoted name) made = made_named Quote line name (named names name) made
made_word names line (Name name) made = made_named Run line name (named names name) made
made_word names line (Faulty complaint) made = record made { items = made.items ++ Message complaint line ∷ [] }
made_word names line _ made = made

-- a `{`: the nameless function inside begins without a token
abbrev pub nameless_begun : Made → Made
nameless_begun made = record made { tokens = [] }

-- a `}`: the nameless function is defined by the next number, and stands as a literal in the function round it
abbrev pub nameless_defined : List Token → Made → Made
nameless_defined outer inner = record {
  tokens = outer ++ Quote (User (length inner.bodies)) ∷ [];
  bodies = inner.bodies ++ inner.tokens ∷ [];
  texts = inner.texts;
  items = inner.items;
}

-- what parts of a body add to what is made of it so far
unfoldable pub made_by : Names → Parts → Made → Made
made_by names Nothing made = made
made_by names (Plain line word more) made = made_by names more (made_word names line word made)
made_by names (Group inside more) made = made_by names more (nameless_defined made.tokens (made_by names inside (nameless_begun made)))

-- the complaint that breaks parts off
abbrev pub complaint_in : Fragment → Complaint
complaint_in (Here complaint) = complaint
complaint_in (After line word more) = complaint_in more
complaint_in (AfterGroup inside more) = complaint_in more
complaint_in (Inner inside) = complaint_in inside

-- what parts came to, up to the word that breaks them off
unfoldable pub made_till : Names → Fragment → Made → Made
made_till names (Here complaint) made = made
made_till names (After line word more) made = made_till names more (made_word names line word made)
made_till names (AfterGroup inside more) made = made_till names more (nameless_defined made.tokens (made_by names inside (nameless_begun made)))
made_till names (Inner inside) made = made_till names inside (nameless_begun made)

-- every text begins with a body or breaks off
abbrev pub Division : Place → Type 0
Division from = ((parts : Parts) × (to : Place) × Spells parts from to) ⊎ ((fragment : Fragment) × (to : Place) × Breaks fragment from to)

-- the inside of a function at a place, with the functions round it
abbrev pub inside_made : Place → List (List Token) → Made → Inside
inside_made place around made = record { place = place; tokens = made.tokens; around = around; bodies = made.bodies; texts = made.texts; items = made.items }

-- a body that is spelled is read as what its parts come to
abbrev pub SpelledLaw : Type 0
SpelledLaw = (names : Names) (parts : Parts) (from to : Place) (made : Made) → Spells parts from to
    → body_end names (inside_made from [] made) ≡ Whole (inside_made to [] (made_by names parts made))

-- the complaint, the place and the items of the end of a body that broke off
abbrev pub IsBroken : Complaint → Place → List Item → BodyEnd → Type 0
IsBroken complaint place items (Whole inside) = ⊥
IsBroken complaint place items (Broken other inside) = (other ≡ complaint) × (inside.place ≡ place) × (inside.items ≡ items)

-- a body that breaks off is read as far as it goes
abbrev pub BrokenLaw : Type 0
BrokenLaw = (names : Names) (fragment : Fragment) (from to : Place) (made : Made) → Breaks fragment from to
    → IsBroken (complaint_in fragment) to (made_till names fragment made).items (body_end names (inside_made from [] made))

-- every text begins with a body or breaks off
abbrev pub DividedLaw : Type 0
DividedLaw = (from : Place) → Division from
