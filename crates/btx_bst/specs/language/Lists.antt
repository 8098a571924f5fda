-- Arguments of commands: braces, names and lists of names. A list of names, as ENTRY and INTEGERS have, is read in turns, a name each time:
-- `Listing` is what is known before a turn, `Listed` what the whole list came to, and `listing` and `listed` make the two of their parts.
-- `list_turn` is one turn, `list_end` all turns, `list_read` begins them after the `{`, and `list_at`, which commands use, reads the `{` too.
use Rattle.std.specs.Prelude.{ℕ, zero, suc, ◌==◌, List, [], ◌∷◌, take, drop, Option, None, Some, if◌then◌else◌, not, is_some}
use Rattle.btx_text.specs.language.Keys.{folded}
use Rattle.btx_bst.specs.declared.callee.Kind.{Kind}
use Rattle.btx_bst.specs.language.Places.{Place, ink, further, size}
use Rattle.btx_bst.specs.language.Complaints.{Complaint, NoOpen, NoClose, NoName, NoCommand, NoQuote, Defined, EndOfFile}
use Rattle.btx_bst.specs.language.Reads.{Read, Took, Mistake}
use Rattle.btx_bst.specs.language.Fronts.{name_len, quote_len, len_till}
use Rattle.btx_bst.specs.language.Names.{Names, named, with_name}
use Rattle.btx_bst.specs.language.Turns.{Turn, Again, Ends, turns_within}
use Rattle.std.specs.Char.{is_ascii_alphabetic}
use Rattle.std.specs.Str.{byte}

-- reads the byte `brace` at a place that isn't in whitespace or a comment, or says what is wrong: `complaint`, or that the file ends. What is read has
-- no value of its own, so it is `tt`
abbrev pub brace_in : ℕ → Complaint → Place → List ℕ → Read (Unit {0})
brace_in brace complaint place [] = Mistake EndOfFile place
brace_in brace complaint place (b ∷ bs) = if b == brace then Took tt (further place bs) else Mistake complaint place

-- the `{` that stands next, after whitespace and comments, or the complaint that it is missing
abbrev pub opening : Place → Read (Unit {0})
opening place = brace_in (byte "{") NoOpen (ink place) (ink place).line

-- the `}` that stands next, after whitespace and comments, or the complaint that it is missing
abbrev pub closing : Place → Read (Unit {0})
closing place = brace_in (byte "}") NoClose (ink place) (ink place).line

-- the first `n` bytes of a line, and the place after them; the complaint if `n` is 0
abbrev pub front_of : Complaint → Place → List ℕ → ℕ → Read (List ℕ)
front_of complaint place line zero = Mistake complaint place
front_of complaint place line (suc n) = Took (take (suc n) line) (further place (drop (suc n) line))

-- the name at a place that isn't in whitespace or a comment, whose line goes on as the bytes given; or the complaint that there is none
abbrev pub name_in : Place → List ℕ → Read (List ℕ)
name_in place [] = Mistake EndOfFile place
name_in place (b ∷ bs) = front_of NoName place (b ∷ bs) (name_len (b ∷ bs))

-- the name that stands next, after whitespace and comments, or the complaint that there is none
abbrev pub next_name : Place → Read (List ℕ)
next_name place = name_in (ink place) (ink place).line

-- the letters at a place that isn't in whitespace or a comment, as a command's word has them; or the complaint that there are none
abbrev pub letters_at : Place → Read (List ℕ)
letters_at place = front_of NoCommand place place.line (len_till (λ b. not (is_ascii_alphabetic b)) place.line)

-- the text of a quoted string, and the place after the quote that ends it; or the complaint that its line has no such quote
abbrev pub quoted_text : Place → List ℕ → List ℕ → Read (List ℕ)
quoted_text place text [] = Mistake NoQuote place
quoted_text place text (quote ∷ rest) = Took text (further place rest)

-- the text in quotes at a place that isn't in whitespace or a comment; or the complaint that a quote is missing
abbrev pub quoted_in : Place → List ℕ → Read (List ℕ)
quoted_in place [] = Mistake EndOfFile place
quoted_in place (b ∷ bs) = if b == byte "\"" then quoted_text place (take (quote_len bs) bs) (drop (quote_len bs) bs) else Mistake NoQuote place

-- the text in quotes that stands next, after whitespace and comments, or the complaint that a quote is missing
abbrev pub quoted_at : Place → Read (List ℕ)
quoted_at place = quoted_in (ink place) (ink place).line

-- how far the reading of a list of names has come: the names that are known so far, those of the list among them, and the place
pub record Listing : Type 0 where
  pub names : Names
  pub place : Place

-- a list that is being read, of the names that are known so far and the place
abbrev pub listing : Names → Place → Listing
listing names place = record { names = names; place = place }

-- how a list ends: with its `}`, or with a complaint; the names so far stay
pub record Listed : Type 0 where
  pub complaint : Option Complaint
  pub listing : Listing

-- the end of a list, of the complaint if there is one, the names that are known then, and the place
abbrev pub listed : Option Complaint → Names → Place → Listed
listed complaint names place = record { complaint = complaint; listing = listing names place }

-- declares the next name of a list. If there is no name, or it names something already, that is an error, which ends the list
abbrev pub name_turn : Kind → Names → Read (List ℕ) → Turn Listing Listed
name_turn kind names (Mistake complaint place) = Ends (listed (Some complaint) names place)
name_turn kind names (Took name place) =
    if is_some (named names name) then Ends (listed (Some (Defined name)) names place) else Again (listing (with_name kind (folded name) names) place)

-- given whether a `}` stands next, which ends the list; else the next name is read, and if there is none its own complaint is logged
abbrev pub list_turn_in : Kind → Names → Read (Unit {0}) → Turn Listing Listed
list_turn_in kind names (Took _ behind) = Ends (listed None names behind)
list_turn_in kind names (Mistake complaint before) = name_turn kind names (next_name before)

-- reads the next name of a list, or its `}`
unfoldable pub list_turn : Kind → Listing → Turn Listing Listed
list_turn kind listing = list_turn_in kind listing.names (closing listing.place)

-- the names up to the `}` of a list. The bound on turns is never reached, since each turn reads a byte at least
unfoldable pub list_end : Kind → Listing → Listed
list_end kind listing =
    turns_within (list_turn kind)
    (λ (so_far : Listing). listed (Some EndOfFile) so_far.names so_far.place)
    (suc (size listing.place)) listing

-- a list of names in braces
abbrev pub list_read : Kind → Names → Read (Unit {0}) → Listed
list_read kind names (Mistake complaint place) = listed (Some complaint) names place
list_read kind names (Took _ place) = list_end kind (listing names place)

-- the list of names in braces that stands next: each of its names is declared, as a field or a variable of the kind
abbrev pub list_at : Kind → Names → Place → Listed
list_at kind names place = list_read kind names (opening place)
