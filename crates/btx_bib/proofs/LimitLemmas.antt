-- What the library has where the reading ends at a limit.
use Rattle.std.proofs.Common.{◌≡◌, Bool, true, false, not, if◌then◌else◌, List, [], ◌∷◌, ◌++◌, fold, length, refl, ap, ◌∙◌}
use Rattle.std.specs.Prelude.{nat_lt}
use Rattle.std.proofs.lemmas.Bool.{true≢false, false≢true}
use Rattle.std.proofs.lemmas.Grind.{fold-append}
use Rattle.btx_text.specs.language.Limits.{greatest_string}
use Rattle.btx_bib.specs.declared.end.End.{End}
use Rattle.btx_bib.specs.declared.end.End.TheVariants as end
use Rattle.btx_bib.specs.declared.message.Message.{Message}
use Rattle.btx_bib.specs.language.Databases.{library_by, library_of, read_one}
use Rattle.btx_bib.specs.language.Grammar.ValueTexts.{squeezed}
use Rattle.btx_bib.specs.language.Known.{Known, goes_on}
use Rattle.btx_bib.specs.language.Messages.{Database, Reading}
use Rattle.btx_bib.specs.language.Strings.{defined}
use Rattle.btx_bib.specs.language.Request.{Request}
use Rattle.btx_bib.specs.laws.Databases.{LongDatabaseEnds, MessagesStay, read_all, with_macros}
use Rattle.btx_bib.specs.laws.Storing.{MacrosGoOn}

-- a macro whose squeezed text fits leaves the reading going on, and no other does
pub macros_go_on : MacrosGoOn
macros_go_on known own text on = at (goes_on known.ending) (nat_lt greatest_string (length (squeezed text))) on where
  at : (goes long : Bool) → goes ≡ true
      → goes_on (if goes then (if long then record known { ending = end.StringLimit } else record known { strings = defined known.strings own (squeezed text) })
      else known).ending ≡ not long
  at true true is = refl
  at true false is = on
  at false long is = absurd (false≢true is)

-- the library of an ending at a limit has the messages that it is given
by_ending : (ending : End) (wanted : Request) (known : Known) (messages : List Message) → goes_on ending ≡ false
    → (library_by ending wanted known messages).messages ≡ messages
by_ending end.Whole wanted known messages is = absurd (true≢false is)
by_ending end.FileLimit wanted known messages is = refl
by_ending end.StringLimit wanted known messages is = refl

pub messages-stay : MessagesStay
unfolding library_of
messages-stay wanted macros databases is =
    by_ending (read_all wanted macros databases).known.ending wanted (read_all wanted macros databases).known (read_all wanted macros databases).messages is

-- once the reading has ended, no database changes it
ended-stays : (wanted : Request) (databases : List Database) (reading : Reading) → goes_on reading.known.ending ≡ false
    → fold (read_one wanted) reading databases ≡ reading
ended-stays wanted [] reading is = refl
ended-stays wanted (database ∷ databases) reading is =
    let same : read_one wanted reading database ≡ reading = rw is refl in
    ap (λ (r : Reading). fold (read_one wanted) r databases) same ∙ ended-stays wanted databases reading is

pub long_database_ends : LongDatabaseEnds
long_database_ends wanted macros before database behind on long =
    let reading = read_all wanted macros before in
    let ended : Reading = record reading { known = record reading.known { ending = end.FileLimit } } in
    let first : read_one wanted reading database ≡ ended = rw (on, long) refl in
    let start : Reading = record { known = with_macros macros; messages = [] } in
    let all : read_all wanted macros (before ++ database ∷ behind) ≡ ended =
    fold-append (read_one wanted) start before (database ∷ behind)
    ∙ ap (λ (r : Reading). fold (read_one wanted) r behind) first
    ∙ ended-stays wanted behind ended refl in
    messages-stay wanted macros (before ++ database ∷ behind) (ap (λ (r : Reading). goes_on r.known.ending) all)
    ∙ ap (λ (r : Reading). r.messages) all
