-- The grammar of a database, as relations between a front of a text and the rest after it: the front spells a thing, or something is wrong at its
-- end. `P (Ok a) front rest` says that `front` spells an a as `P` has it, and `P (Err slip) front rest` that `slip` is wrong where `rest` begins.
use Rattle.std.specs.Prelude.{◌≡◌, ℕ, zero, suc, ◌==◌, ◌||◌, Bool, true, false, List, [], ◌∷◌, ◌++◌, ◌⊎◌, Result, Ok, Err}
use Rattle.btx_text.specs.language.Class.{begins_name}
use Rattle.btx_text.specs.language.Elements.{depth_after, depth_of}
use Rattle.btx_bib.specs.declared.grammar.byte_sets.ByteSet.{ByteSet}
use Rattle.btx_bib.specs.declared.grammar.byte_sets.ByteSet.TheVariants.{Gap, NameByte, Digit}
use Rattle.btx_bib.specs.declared.grammar.byte_sets.Enclosure.{Enclosure}
use Rattle.btx_bib.specs.declared.grammar.byte_sets.Enclosure.TheVariants.{Group, Quotes}
use Rattle.btx_bib.specs.declared.grammar.slip.SyntaxError.{SyntaxError}
use Rattle.btx_bib.specs.declared.grammar.slip.SyntaxError.TheVariants.{NoName, NoEquals, NoValue, Unbalanced, EndOfFile}
use Rattle.btx_bib.specs.language.Grammar.ByteSets.{is_in, begins, ends_enclosed}
use Rattle.btx_bib.specs.language.Grammar.Tokens.{Parsed, slip_at}
use Rattle.btx_bib.specs.language.Grammar.Values.{Part, Braced, Quoted, Digits, Named}
use Rattle.btx_bib.specs.language.Grammar.Fields.{Field}
use Rattle.std.specs.Char.{is_ascii_digit}
use Rattle.btx_text.specs.laws.Bytes.{close_brace, double_quote, equals_sign, hash, open_brace}

-- how something is spelled: a relation between what was read or is wrong, a front of a text, and the rest. The front spells the first, or it is
-- wrong where the rest begins
abbrev pub Grammar : Type 0 → Type 1
Grammar A = Result A SyntaxError → List ℕ → List ℕ → Type 0

-- ---- how grammars are made

-- the empty front spells `a`; nothing can be wrong
abbrev pub Gives : {A : Type 0} → A → Grammar A
Gives a (Ok b) front rest = (front ≡ []) × (b ≡ a)
Gives a (Err slip) front rest = ⊥

-- of two things one after the other, the first is wrong
abbrev pub FirstFails : {A B : Type 0} → Grammar A → Grammar B
FirstFails R (Ok b) front rest = ⊥
FirstFails R (Err slip) front rest = R (Err slip) front rest

-- of two things one after the other, the first is spelled, and `next` says what its value has to be followed by, or what is wrong in that
abbrev pub Both : {A B : Type 0} → Grammar A → (A → Grammar B) → Grammar B
Both {A} R next o front rest = (a : A) × (first : List ℕ) × (second : List ℕ) × (front ≡ first ++ second) × R (Ok a) first (second ++ rest)
    × next a o second rest

-- a thing as `R` has it, and after it one as `next` has it, or what is wrong in the first or the second
abbrev pub Then : {A B : Type 0} → Grammar A → (A → Grammar B) → Grammar B
Then R next o front rest = FirstFails R o front rest ⊎ Both R next o front rest

-- ---- words and signs

-- all bytes of the text are in the set
abbrev pub AllIn : ByteSet → List ℕ → Type 0
AllIn set [] = Unit {0}
AllIn set (b ∷ bs) = (is_in set b ≡ true) × AllIn set bs

-- `text` is bytes of the set, and `rest` doesn't begin with one: the run is as long as possible
pub record IsRun (set : ByteSet) (text rest : List ℕ) : Type 0 where
  pub all : AllIn set text
  pub longest : begins (is_in set) rest ≡ false

-- all the whitespace that stands here, possibly of no byte. It has no value of its own: `none` is `tt`, and not the `None` of an option
abbrev pub White : Grammar (Unit {0})
White (Ok none) front rest = IsRun Gap front rest
White (Err slip) front rest = ⊥

-- a thing as `R` has it, with all the whitespace before it
abbrev pub Spaced : {A : Type 0} → Grammar A → Grammar A
Spaced R = Then White (λ none. R)

-- a word: a longest run of a set, with a first byte that passes
pub record IsWord (set : ByteSet) (first : ℕ → Bool) (word front rest : List ℕ) : Type 0 where
  pub spelled : front ≡ word
  pub begins_well : begins first word ≡ true
  pub run : IsRun set word rest

-- `slip` is what is wrong where nothing has been read; at the end of the text it is that the file ends
pub record IsWrongHere (slip met : SyntaxError) (front rest : List ℕ) : Type 0 where
  pub nothing : front ≡ []
  pub slip_is : met ≡ slip_at slip rest

-- a name, or the error that none stands here
abbrev pub NameHere : Grammar (List ℕ)
NameHere (Ok name) front rest = IsWord NameByte begins_name name front rest
NameHere (Err slip) front rest = (begins begins_name rest ≡ false) × IsWrongHere NoName slip front rest

-- the byte `sign`, or the error `wrong` where another byte stands; a sign has no value of its own, so `none` is `tt`
abbrev pub SignHere : ℕ → SyntaxError → Grammar (Unit {0})
SignHere sign wrong (Ok none) front rest = front ≡ sign ∷ []
SignHere sign wrong (Err slip) front rest = (begins (λ b. b == sign) rest ≡ false) × IsWrongHere wrong slip front rest

-- ---- values

-- a text in which no byte at depth 0 ends what is enclosed
abbrev pub IsInside : Enclosure → ℕ → List ℕ → Type 0
IsInside enclosure depth [] = Unit {0}
IsInside enclosure depth (b ∷ bs) = (depth ≡ 0 → ends_enclosed enclosure b ≡ false) × IsInside enclosure (depth_after depth b) bs

-- a text that can stand inside braces or quotes: no byte at depth 0 ends it, and its braces are balanced
abbrev pub IsEnclosed : Enclosure → List ℕ → Type 0
IsEnclosed enclosure text = IsInside enclosure 0 text × (depth_of text ≡ 0)

-- a byte with which a part of a value begins: `{`, `"`, a digit, or a byte with which a name begins
abbrev pub begins_part : ℕ → Bool
begins_part b = b == open_brace || b == double_quote || is_ascii_digit b || begins_name b

-- what is wrong where a part of a value is wanted: no part begins with the next byte, a `}` in quotes closes nothing, or the file ends
abbrev pub IsWrongPart : SyntaxError → List ℕ → List ℕ → Type 0
IsWrongPart NoValue front rest = (front ≡ []) × (b : ℕ) × (bs : List ℕ) × (rest ≡ b ∷ bs) × (begins_part b ≡ false)
IsWrongPart Unbalanced front rest = (text : List ℕ) × (bs : List ℕ) × (front ≡ double_quote ∷ text) × (rest ≡ close_brace ∷ bs) × IsEnclosed Quotes text
IsWrongPart EndOfFile front rest = (rest ≡ []) ×
    ((front ≡ []) ⊎ (((text : List ℕ) × (front ≡ open_brace ∷ text) × IsInside Group 0 text)
    ⊎ ((text : List ℕ) × (front ≡ double_quote ∷ text) × IsInside Quotes 0 text)))
IsWrongPart _ front rest = ⊥

-- a part of a value: a text in braces, a text in quotes, digits, or the name of a string; or what is wrong
abbrev pub PartHere : Grammar Part
PartHere (Ok (Braced text)) front rest = (front ≡ open_brace ∷ (text ++ close_brace ∷ [])) × IsEnclosed Group text
PartHere (Ok (Quoted text)) front rest = (front ≡ double_quote ∷ (text ++ double_quote ∷ [])) × IsEnclosed Quotes text
PartHere (Ok (Digits text)) front rest = IsWord Digit is_ascii_digit text front rest
PartHere (Ok (Named string)) front rest = IsWord NameByte begins_name string.name front rest × (string.rest ≡ rest)
PartHere (Err slip) front rest = IsWrongPart slip front rest

-- a value ends with this part: no `#` comes after the whitespace that follows
abbrev pub EndsThere : Part → Grammar (List Part)
EndsThere part (Ok parts) front rest = (front ≡ []) × (parts ≡ part ∷ []) ×
    (gap : List ℕ) × (behind : List ℕ) × (rest ≡ gap ++ behind) × IsRun Gap gap behind × (begins (λ b. b == hash) behind ≡ false)
EndsThere part (Err slip) front rest = ⊥

-- a value goes on after this part: a `#` comes after whitespace, and `others` follow
abbrev pub OthersFollow : Grammar (List Part) → Part → Grammar (List Part)
OthersFollow others part = Both (Spaced (SignHere hash NoValue)) (λ none. Then others (λ parts. Gives (part ∷ parts)))

-- a value of this number of parts, or what is wrong in the last of them
abbrev pub ValueOf : ℕ → Grammar (List Part)
ValueOf zero o front rest = ⊥
ValueOf (suc n) o front rest = Then (Spaced PartHere) (λ part o front rest. EndsThere part o front rest
    ⊎ OthersFollow (ValueOf n) part o front rest) o front rest

-- a value: parts with `#` between them, or what is wrong in the last of them
abbrev pub ValueSpelling : Grammar (List Part)
ValueSpelling o front rest = (n : ℕ) × ValueOf n o front rest

-- ---- fields

-- a field: a name, an `=` and a value, or what is wrong
abbrev pub FieldSpelling : Grammar Field
FieldSpelling =
    Then (Spaced NameHere) (λ name.
    Then (Spaced (SignHere equals_sign NoEquals)) (λ sign.
    Then ValueSpelling (λ value. Gives (record { name = name; value = value }))))

-- ---- the function that reads as a grammar says

-- the text is a front and a rest: the front spells what was read, and reading ended at the rest; or the error that was met is the one at the front's
-- end
abbrev pub Splits : {A : Type 0} → Grammar A → List ℕ → Parsed A → Type 0
Splits R text (Ok got) = (front : List ℕ) × (front ++ got.1 ≡ text) × R (Ok got.0) front got.1
Splits R text (Err wrong) = (front : List ℕ) × (front ++ wrong.1 ≡ text) × R (Err wrong.0) front wrong.1

-- what was read, or what is wrong, together with the rest of the text
abbrev pub read_as : {A : Type 0} → Result A SyntaxError → List ℕ → Parsed A
read_as (Ok a) rest = Ok (a, rest)
read_as (Err slip) rest = Err (slip, rest)
