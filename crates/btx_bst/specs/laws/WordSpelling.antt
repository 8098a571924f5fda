-- How the words of a body are spelled, and bodies of them.
use Rattle.std.specs.Prelude.{ℕ, zero, suc, ◌^◌, ◌<◌, ◌≤◌, ◌≡◌, ◌==◌, ◌||◌, ◌⊎◌, ℤ, pos, negsuc, if◌then◌else◌, Bool, true, false, not, List, [], ◌∷◌, ◌++◌}
use Rattle.std.specs.Prelude.{Some}
use Rattle.btx_bst.specs.language.Places.{Place, further}
use Rattle.btx_bst.specs.language.Complaints.{BadInteger, TextAfter}
use Rattle.btx_bst.specs.language.Fronts.{ends_word}
use Rattle.btx_bst.specs.language.Words.{BodyWord, Open, Close, String, Integer, Quoted, Name, Faulty, Unended, Ended, digits_value, met, met_at}
use Rattle.btx_bst.specs.laws.Spelling.{Parts, Nothing, Plain, Group, IsPlain, Fragment, Here, After, AfterGroup, Inner, breaks}
use Rattle.btx_bst.specs.laws.TokenSpelling.{NoneIn, Begins, IsUpTo, Gap}
use Rattle.btx_bst.specs.laws.Fronts.{is_no_digit, is_quote}
use Rattle.btx_text.specs.laws.Bytes.{double_quote, hash, single_quote, open_brace, close_brace}

-- `-`
abbrev pub minus_sign : ℕ
minus_sign = 45

-- a word goes up to whitespace, `}`, `%` or the end of its line
abbrev pub IsBodyWord : List ℕ → List ℕ → List ℕ → Type 0
IsBodyWord = IsUpTo ends_word

-- `word` is a minus, if `minus` says so, then `digits`, at least one and as many as stand there, and then `more`
pub record IsNumeral (minus : Bool) (digits more word : List ℕ) : Type 0 where
  pub unsigned : List ℕ
  pub signed : if◌then◌else◌ minus (minus_sign ∷ unsigned) unsigned ≡ word
  pub digits_first : IsUpTo is_no_digit digits unsigned more
  pub some : digits ≡ [] → ⊥

-- a number, with a minus before it if the first argument is true, fits 32 bits (one that doesn't wraps in the original)
abbrev pub Fits : Bool → ℕ → Type 0
Fits false n = n < 2 ^ 31
Fits true n = n ≤ 2 ^ 31

-- the integer `n`, or `-n` with a minus
abbrev pub number_of : Bool → ℕ → ℤ
number_of false n = pos n
number_of true zero = pos 0
number_of true (suc n) = negsuc n

-- the word after a `#` is the integer `value`: perhaps a minus, then digits and nothing else, of a number of 32 bits
abbrev pub IsInteger : ℤ → List ℕ → Type 0
IsInteger value word = (minus : Bool) × (digits : List ℕ) × IsNumeral minus digits [] word × Fits minus (digits_value digits)
    × (value ≡ number_of minus (digits_value digits))

-- the word after a `#` is an integer of 32 bits with something directly after it
abbrev pub IsOverlong : List ℕ → Type 0
IsOverlong word = (minus : Bool) × (digits : List ℕ) × (more : List ℕ) × IsNumeral minus digits more word × Fits minus (digits_value digits) × (more ≡ [] → ⊥)

-- the word after a `#` doesn't begin with an integer of 32 bits: it has no digits, or its number is too great
abbrev pub IsNoInteger : List ℕ → Type 0
IsNoInteger word = (minus : Bool) (digits more : List ℕ) → IsNumeral minus digits more word → Fits minus (digits_value digits) → ⊥

-- `line` is the string `text` in its quotes, then `more`, which stands directly after it up to the end of a word, and then `rest`
abbrev pub IsString : List ℕ → List ℕ → List ℕ → List ℕ → Type 0
IsString text more line rest = (behind : List ℕ) × (line ≡ double_quote ∷ (text ++ double_quote ∷ behind)) × NoneIn is_quote text × IsBodyWord more behind rest

-- `line` is a `#`, a word of which `Is` holds, and then `rest`
abbrev pub HasNumber : (List ℕ → Type 0) → List ℕ → List ℕ → Type 0
HasNumber Is line rest = (word : List ℕ) × (behind : List ℕ) × (line ≡ hash ∷ behind) × IsBodyWord word behind rest × Is word

-- the byte begins no string, integer, quoted name or nameless function: it is no `{`, `"`, `#` or `'`
abbrev pub begins_plainly : ℕ → Bool
begins_plainly b = not (b == open_brace || b == double_quote || b == hash || b == single_quote)

-- a word of a body at the front of `line`, which doesn't begin with whitespace, and then `rest`
abbrev pub IsToken : BodyWord → List ℕ → List ℕ → Type 0
IsToken Open line rest = line ≡ open_brace ∷ rest
IsToken Close line rest = line ≡ close_brace ∷ rest
IsToken (String text) line rest = IsString text [] line rest
IsToken (Integer value) line rest = HasNumber (IsInteger value) line rest
IsToken (Quoted name) line rest = (behind : List ℕ) × (line ≡ single_quote ∷ behind) × IsBodyWord name behind rest
IsToken (Name name) line rest = IsBodyWord name line rest × Begins begins_plainly name
IsToken (Faulty BadInteger) line rest = HasNumber IsNoInteger line rest
IsToken (Faulty TextAfter) line rest = ((text : List ℕ) × (more : List ℕ) × IsString text more line rest × (more ≡ [] → ⊥)) ⊎ HasNumber IsOverlong line rest
IsToken (Faulty _) line rest = ⊥
IsToken Unended line rest = (line ≡ double_quote ∷ rest) × NoneIn is_quote rest
IsToken Ended line rest = (line ≡ []) × (rest ≡ [])

-- the next word of a body from the place `from` on is `word`, and `to` is the place after it
abbrev pub NextWord : BodyWord → Place → Place → Type 0
NextWord word from to = (ink : Place) × (rest : List ℕ) × Gap from ink × IsToken word ink.line rest × (to ≡ further ink rest)

-- ---- bodies

-- these parts and a `}` are spelled between two places. `Spells` says the same of the words that a reader meets
abbrev pub AreParts : Parts → Place → Place → Type 0
AreParts Nothing from to = NextWord Close from to
AreParts (Plain line word more) from to = (next : Place) × NextWord word from next × (line ≡ next.number) × IsPlain word × AreParts more next to
AreParts (Group inside more) from to = (first : Place) × (second : Place) × NextWord Open from first × AreParts inside first second × AreParts more second to

-- a text breaks off as a fragment says, from the first place to the second, where it breaks. `Breaks` says the same of the words that a reader
-- meets
abbrev pub BreakOff : Fragment → Place → Place → Type 0
BreakOff (Here complaint) from to = (word : BodyWord) × NextWord word from to × (breaks word ≡ Some complaint)
BreakOff (After line word more) from to = (next : Place) × NextWord word from next × (line ≡ next.number) × IsPlain word × BreakOff more next to
BreakOff (AfterGroup inside more) from to = (first : Place) × (second : Place) × NextWord Open from first × AreParts inside first second
    × BreakOff more second to
BreakOff (Inner inside) from to = (first : Place) × NextWord Open from first × BreakOff inside first to

-- ---- the law

-- A word is met in a body where it is spelled, and nowhere else.
abbrev pub TokensLaw : Type 0
TokensLaw = (word : BodyWord) (from to : Place) → (NextWord word from to → met_at from ≡ met word to) × (met_at from ≡ met word to → NextWord word from to)
