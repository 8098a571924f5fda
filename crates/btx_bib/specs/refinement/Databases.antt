-- Names of parts of what databases give.
use Rattle.std.specs.Prelude.{fold}
use Rattle.btx_bib.specs.declared.grammar.commands.Expected.TheVariants.{Item}
use Rattle.btx_bib.specs.language.Grammar.Items.{events_from}
use Rattle.btx_bib.specs.language.Request.{Request}
use Rattle.btx_bib.specs.language.Known.{with_current_stored, stored_keys}
use Rattle.btx_bib.specs.language.Messages.{Database, Reading, read_next}

-- a database is read event by event; at its end the entry that is being read is at its end too
abbrev pub read_whole : Request → Reading → Database → Reading
read_whole wanted reading database =
    let last = fold (read_next wanted database) reading (events_from (stored_keys wanted) reading.known Item database.text) in
    record last { known = with_current_stored last.known }
