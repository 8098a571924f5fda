-- A database that is cut in two where no item is open.
use Rattle.std.specs.Prelude.{◌≡◌, ◌<◌, ◌⊎◌, ℕ, false, List, [], ◌∷◌, ◌++◌, length}
use Rattle.btx_text.specs.language.Class.{is_name_byte}
use Rattle.btx_bib.specs.language.Grammar.ByteSets.{begins}
use Rattle.btx_bib.specs.language.Grammar.Items.{Comment, ItemEnd, Placed}
use Rattle.btx_bib.specs.language.Request.{Request}
use Rattle.btx_bib.specs.language.Library.{Library}
use Rattle.btx_bib.specs.language.Known.{Known}
use Rattle.btx_bib.specs.language.Messages.{Database}
use Rattle.btx_bib.specs.language.Databases.{library_of}
use Rattle.btx_text.specs.language.Limits.{is_too_long}
use Rattle.btx_bib.specs.laws.Databases.{database_events, read_all}

-- the text doesn't begin with a byte that would make a name in front of it longer
abbrev pub EndsName : List ℕ → Type 0
EndsName text = begins is_name_byte text ≡ false

-- in front of this text a reading ends outside any item: the last that was read is the end of an item, or something comes after it, or it
-- is an `@comment`, and the text doesn't go on with its name
abbrev pub EndsOutside : List Placed → List ℕ → Type 0
EndsOutside [] text = Unit {0}
EndsOutside (placed ∷ []) text = (placed.event ≡ ItemEnd) ⊎ ((0 < length placed.rest) ⊎ ((placed.event ≡ Comment) × EndsName text))
EndsOutside (placed ∷ next ∷ events) text = EndsOutside (next ∷ events) text

-- two databases are one that was cut where no item is open
abbrev pub IsCutBetweenItems : Request → Known → Database → Database → Database → Type 0
IsCutBetweenItems wanted known whole first second = (whole.text ≡ first.text ++ second.text) × EndsOutside (database_events wanted known first) second.text

-- a library has the entries, the preamble and the end of another
abbrev pub GivesTheSame : Library → Library → Type 0
GivesTheSame one other = (one.entries ≡ other.entries) × (one.preamble ≡ other.preamble) × (one.ending ≡ other.ending)

-- a database that is no longer than a file may be gives the same entries, preamble and end if it is cut in two where no item is open
abbrev pub CutGivesTheSame : Type 0
CutGivesTheSame = (wanted : Request) (macros : List (List ℕ × List ℕ)) (before after : List Database) (whole first second : Database)
    → IsCutBetweenItems wanted (read_all wanted macros before).known whole first second → is_too_long whole.text ≡ false
    → GivesTheSame (library_of wanted macros (before ++ first ∷ second ∷ after)) (library_of wanted macros (before ++ whole ∷ after))
