-- The errors that a run logs while it reads a job's databases, made from the records of these. Each is the message of a record that tells what is wrong, or
-- of an entry with a repeated key.
use Rattle.std.specs.Prelude.{ℕ, zero, suc, ◌*◌, Bool, true, false, List, [], ◌∷◌, ◌++◌, length, drop, Result, Ok, Err, if◌then◌else◌}
use Rattle.std.specs.Option.{option_map_or}
use Rattle.btx_text.specs.language.Limits.{is_too_long}
use Rattle.btx_bib.specs.declared.end.End.{End}
use Rattle.btx_bib.specs.declared.grammar.slip.SyntaxError.TheVariants.{Repeated}
use Rattle.btx_bib.specs.declared.message.Message.{Message}
use Rattle.btx_bib.specs.declared.message.Message.TheVariants as message
use Rattle.btx_bib.specs.language.Messages.{Database, position_at}
use Rattle.btx_bib.specs.language.Request.{Request}
use Rattle.btx_read.specs.declared.content.Content.{Content}
use Rattle.btx_read.specs.declared.content.Content.TheVariants.{Wrong}
use Rattle.btx_read.specs.declared.record.Record.{Record}
use Rattle.btx_read.specs.Libraries.{Taken, contents, is_repeated, taken_by, taken_from_macros, with_database}
use Rattle.btx_read.specs.Records.{records_of}

-- the message says what is wrong at a place of a database
abbrev pub is_wrong : Message → Bool
is_wrong (message.Wrong slip spot) = true
is_wrong _ = false

-- the error that a record tells of, where `rest` is the text of the database after it; only a record of what is wrong tells of one
abbrev pub error_of : Database → List ℕ → Content → List Message
error_of database rest (Wrong slip) = message.Wrong slip (position_at database rest) ∷ []
error_of database rest _ = []

-- the errors of these records of a text with which the database ends, up to the limit at which the run may end. At an entry with a repeated key that is an
-- error, and what is left of the text after that key has errors of its own (`read_on`)
abbrev pub errors_along : (Taken → List ℕ → List Message) → Request → Database → List ℕ → Taken → List Record → List Message
errors_along read_on wanted database text taken [] = []
errors_along read_on wanted database text taken (one ∷ others) =
    let rest = drop one.end text in
    if is_repeated taken.stored one.content then error_of database rest (Wrong Repeated) ++ read_on taken rest
    else error_of database rest one.content
    ++ option_map_or (λ (next : Taken). errors_along read_on wanted database text next others) (taken_by wanted taken one.content (contents others)) []

-- the errors of a text that is read at most `turns` times, from another place each time. The bound is that of `errors_of_one`, and is never reached
unfoldable pub errors_within : ℕ → Request → Database → Taken → List ℕ → List Message
errors_within zero wanted database taken text = []
errors_within (suc turns) wanted database taken text =
    errors_along (errors_within turns wanted database) wanted database text taken (records_of taken.strings text)

-- the errors of a database, where this was taken before it; none if it is too long, or if the run has ended
abbrev pub errors_of_one : Request → Result Taken End → Database → List Message
errors_of_one wanted (Err ended) database = []
errors_of_one wanted (Ok taken) database =
    if is_too_long database.text then [] else errors_within (suc (2 * length database.text)) wanted database taken database.text

-- the errors of databases, one after another
abbrev pub errors_of_all : Request → Result Taken End → List Database → List Message
errors_of_all wanted before [] = []
errors_of_all wanted before (database ∷ databases) =
    errors_of_one wanted before database ++ errors_of_all wanted (with_database wanted before database) databases

-- the errors of a job's databases, made from their records; `macros` are those of its style
unfoldable pub errors_from_records : Request → List (List ℕ × List ℕ) → List Database → List Message
errors_from_records wanted macros databases = errors_of_all wanted (taken_from_macros wanted macros) databases
