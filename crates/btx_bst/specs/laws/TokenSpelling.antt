-- How the words of a style are spelled: relations between a place `from` and what is read there. `Took x to` holds where an x stands at `from` and
-- the text goes on at the place `to`; `Mistake complaint to` holds where the complaint is met, at the place `to`.
use Rattle.std.specs.Prelude.{ℕ, ◌+◌, ◌≡◌, ◌==◌, ◌||◌, ◌⊎◌, Bool, true, false, not, List, [], ◌∷◌, ◌++◌}
use Rattle.btx_text.specs.language.Class.{is_white, begins_name}
use Rattle.btx_bst.specs.language.Places.{Place, place_at, further}
use Rattle.btx_bst.specs.language.Complaints.{Complaint, NoCommand, NoName, NoQuote, EndOfFile}
use Rattle.btx_bst.specs.language.Reads.{Read, Took, Mistake}
use Rattle.btx_bst.specs.laws.Fronts.{is_no_letter, ends_name, is_quote}
use Rattle.btx_text.specs.laws.Bytes.{double_quote, percent}

-- how something is spelled: a relation between the place where it begins and what is read from there on, which is a value and the place after it,
-- or a complaint and its place
abbrev pub StyleGrammar : Type 0 → Type 1
StyleGrammar A = Place → Read A → Type 0

-- ---- runs of bytes

-- no byte of a text passes `test`
abbrev pub NoneIn : (ℕ → Bool) → List ℕ → Type 0
NoneIn test [] = Unit {0}
NoneIn test (b ∷ bs) = (test b ≡ false) × NoneIn test bs

-- a text has a first byte, and that passes `test`
abbrev pub Begins : (ℕ → Bool) → List ℕ → Type 0
Begins test [] = ⊥
Begins test (b ∷ bs) = test b ≡ true

-- a text has no byte, or its first one passes `test`
abbrev pub EndsBefore : (ℕ → Bool) → List ℕ → Type 0
EndsBefore test [] = Unit {0}
EndsBefore test (b ∷ bs) = test b ≡ true

-- `line` is `text`, which goes up to the first byte that passes `test`, and then `rest`
pub record IsUpTo (test : ℕ → Bool) (text line rest : List ℕ) : Type 0 where
  pub joined : line ≡ text ++ rest
  pub none : NoneIn test text
  pub ends : EndsBefore test rest

-- ---- whitespace and comments

-- a line has nothing but whitespace, and perhaps a comment, which goes from a `%` to its end
abbrev pub IsBlank : List ℕ → Type 0
IsBlank [] = Unit {0}
IsBlank (b ∷ bs) = (b ≡ percent) ⊎ ((is_white b ≡ true) × IsBlank bs)

-- whitespace, or the `%` that begins a comment
abbrev pub is_blank : ℕ → Bool
is_blank b = is_white b || b == percent

-- neither whitespace nor the `%` of a comment
abbrev pub ends_gap : ℕ → Bool
ends_gap b = not (is_blank b)

-- the text is nothing but whitespace
abbrev pub AllWhite : List ℕ → Type 0
AllWhite [] = Unit {0}
AllWhite (b ∷ bs) = (is_white b ≡ true) × AllWhite bs

-- after whitespace something stands in the line that is no comment, and `to` is the place before it
abbrev pub InkIn : ℕ → List ℕ → List (List ℕ) → Place → Type 0
InkIn number line after to = (white : List ℕ) × (rest : List ℕ) × AllWhite white × (line ≡ white ++ rest) × Begins ends_gap rest
    × (to ≡ place_at number rest after)

-- something that is no comment stands in this line or, after lines without such a thing, in a later one, and `to` is the place before it; or
-- nothing does, and `to` is the end of the text, in its last line
abbrev pub GapFrom : ℕ → List ℕ → List (List ℕ) → Place → Type 0
GapFrom number line [] to = InkIn number line [] to ⊎ (IsBlank line × (to ≡ place_at number [] []))
GapFrom number line (next ∷ after) to = InkIn number line (next ∷ after) to ⊎ (IsBlank line × GapFrom (number + 1) next after to)

-- whitespace, comments and ends of lines stand between two places, and something else or the end of the text at the second
abbrev pub Gap : Place → Place → Type 0
Gap from to = GapFrom from.number from.line from.after to

-- what `R` spells, with all the whitespace and all the comments that stand before it
abbrev pub BehindGap : {A : Type 0} → StyleGrammar A → StyleGrammar A
BehindGap R from o = (ink : Place) × Gap from ink × R ink o

-- ---- what arguments are made of

-- what is wrong where the line doesn't begin with a byte that passes the test: `wrong`, or, where nothing is left of the text, that the file ends
abbrev pub IsMissing : (ℕ → Bool) → Complaint → Complaint → List ℕ → Type 0
IsMissing test wrong complaint [] = complaint ≡ EndOfFile
IsMissing test wrong complaint (b ∷ bs) = (test b ≡ false) × (complaint ≡ wrong)

-- the byte `sign` stands here, or the complaint is `wrong`. A sign has no value of its own: `none` is `tt`, and not the `None` of an option
abbrev pub StyleSignHere : ℕ → Complaint → StyleGrammar (Unit {0})
StyleSignHere sign wrong from (Took none to) = (rest : List ℕ) × (from.line ≡ sign ∷ rest) × (to ≡ further from rest)
StyleSignHere sign wrong from (Mistake complaint to) = (to ≡ from) × IsMissing (λ b. b == sign) wrong complaint from.line

-- a name stands here, which goes on up to the first byte that no name has; or there is none
abbrev pub StyleNameHere : StyleGrammar (List ℕ)
StyleNameHere from (Took name to) = (rest : List ℕ) × IsUpTo ends_name name from.line rest × Begins begins_name name × (to ≡ further from rest)
StyleNameHere from (Mistake complaint to) = (to ≡ from) × IsMissing begins_name NoName complaint from.line

-- what is wrong where no text in quotes stands: no quote begins it, none ends it on its line, or the file ends
abbrev pub IsNoText : Complaint → List ℕ → Type 0
IsNoText complaint [] = complaint ≡ EndOfFile
IsNoText complaint (b ∷ bs) = (complaint ≡ NoQuote) × ((is_quote b ≡ false) ⊎ NoneIn is_quote bs)

-- a text stands here between quotes, on one line; or there is none
abbrev pub TextHere : StyleGrammar (List ℕ)
TextHere from (Took text to) = (rest : List ℕ) × (from.line ≡ double_quote ∷ (text ++ double_quote ∷ rest)) × NoneIn is_quote text × (to ≡ further from rest)
TextHere from (Mistake complaint to) = (to ≡ from) × IsNoText complaint from.line

-- the word of a command stands here, up to the first byte that is no letter; or the complaint is that a command is missing
abbrev pub LettersHere : StyleGrammar (List ℕ)
LettersHere from (Took word to) = (rest : List ℕ) × IsUpTo is_no_letter word from.line rest × (word ≡ [] → ⊥) × (to ≡ further from rest)
LettersHere from (Mistake complaint to) = (to ≡ from) × (complaint ≡ NoCommand) × EndsBefore is_no_letter from.line
