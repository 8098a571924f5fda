-- How bodies are read (btxhak, section 5.1). A function's tokens stand up to its `}`; a `{` begins a nameless function, which is defined at
-- its own `}`, before the function round it, and stands there as a literal. Functions are numbered in the order in which they are defined.
use Rattle.std.specs.Prelude.{ℕ, suc, List, [], ◌∷◌, ◌++◌, length, Option, None, Some}
use Rattle.btx_bst.specs.declared.callee.Callee.TheVariants.{User}
use Rattle.btx_bst.specs.declared.callee.Callee.{Callee}
use Rattle.btx_bst.specs.declared.token.Token.{Token}
use Rattle.btx_bst.specs.declared.token.Token.TheVariants.{Text, Quote, Run}
use Rattle.btx_bst.specs.declared.token.Token.TheVariants as token
use Rattle.btx_bst.specs.language.Places.{Place, size}
use Rattle.btx_bst.specs.language.Complaints.{Complaint, Unknown, NoQuoteEnd, EndOfFile}
use Rattle.btx_bst.specs.language.Items.{Item, Message}
use Rattle.btx_bst.specs.language.Words.{BodyWord, Open, Close, String, Integer, Quoted, Name, Faulty, Unended, Ended, met_at}
use Rattle.btx_bst.specs.language.Names.{Names, named}
use Rattle.btx_bst.specs.language.Turns.{Turn, Again, Ends, turns_within}

-- what is known inside a body: the place; the tokens of the innermost function so far (`tokens`), and those of the functions round it (`around`); and, of
-- the whole style so far, the bodies of the functions that are defined, the strings and the items
pub record Inside : Type 0 where
  pub place : Place
  pub tokens : List Token
  pub around : List (List Token)
  pub bodies : List (List Token)
  pub texts : List (List ℕ)
  pub items : List Item

-- how a body ends: whole, with its tokens, or broken off by a complaint
pub data BodyEnd : Type 0 where
  Whole : (inside : Inside) → BodyEnd
  Broken : (complaint : Complaint) (inside : Inside) → BodyEnd

-- one more token, at the end of the innermost function
abbrev pub with_token : Token → Inside → Inside
with_token token inside = record inside { tokens = inside.tokens ++ token ∷ [] }

-- one more message, at the line of the place
abbrev pub with_message : Complaint → Inside → Inside
with_message complaint inside = record inside { items = inside.items ++ Message complaint inside.place.number ∷ [] }

-- a `}` ends the innermost function: a nameless one is defined, and stands as a literal in the one round it; the outermost one ends the body
abbrev pub closed_inside : Inside → List (List Token) → Turn Inside BodyEnd
closed_inside inside [] = Ends (Whole inside)
closed_inside inside (outer ∷ around) =
    Again (record inside { tokens = outer ++ Quote (User (length inside.bodies)) ∷ []; around = around; bodies = inside.bodies ++ inside.tokens ∷ [] })

-- a name in a body: a token if it names something, else an error
abbrev pub with_named : (Callee → Token) → List ℕ → Inside → Option Callee → Inside
with_named token name inside None = with_message (Unknown name) inside
with_named token name inside (Some callee) = with_token (token callee) inside

-- how a word of a body changes what is known inside it, or ends the body. A `{` begins a nameless function, which has no token yet, inside the innermost
-- one; a string gets a number, and the token has that
abbrev pub word_turn : Names → Inside → BodyWord → Turn Inside BodyEnd
word_turn names inside Open = Again (record inside { tokens = []; around = inside.tokens ∷ inside.around })
word_turn names inside Close = closed_inside inside inside.around
word_turn names inside (String text) = Again (record inside { tokens = inside.tokens ++ Text (length inside.texts) ∷ []; texts = inside.texts ++ text ∷ [] })
word_turn names inside (Integer value) = Again (with_token (token.Integer value) inside)
word_turn names inside (Quoted name) = Again (with_named Quote name inside (named names name))
word_turn names inside (Name name) = Again (with_named Run name inside (named names name))
word_turn names inside (Faulty complaint) = Again (with_message complaint inside)
word_turn names inside Unended = Ends (Broken NoQuoteEnd inside)
word_turn names inside Ended = Ends (Broken EndOfFile inside)

-- the word that stands next is read: it changes what is known inside the body, or ends the body
unfoldable pub body_turn : Names → Inside → Turn Inside BodyEnd
body_turn names inside = word_turn names (record inside { place = (met_at inside.place).place }) (met_at inside.place).word

-- the words up to the end of the body. The bound on turns is never reached: each turn but the last one reads a byte at least
unfoldable pub body_end : Names → Inside → BodyEnd
body_end names inside = turns_within (body_turn names) (Broken EndOfFile) (suc (size inside.place)) inside
