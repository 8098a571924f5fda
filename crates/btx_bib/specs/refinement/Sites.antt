-- The code's place in a database, and what is reported while one is read.
use Rattle.std.specs.Prelude.{List, ◌++◌}
use Rattle.btx_bib.specs.declared.message.Message.{Message}
use Rattle.btx_bib.specs.declared.reading.Reading.{Reading}
use Rattle.btx_bib.specs.declared.site.LineSource.{LineSource}
use Rattle.btx_bib.specs.language.Messages.{Database}
use Rattle.btx_bib.specs.language.Request.{Request}
use Rattle.btx_bib.specs.refinement.Requests.{wanted}

-- the database of a place
abbrev pub site_database : LineSource → Database
site_database site = record { file = site.file; text = site.lines }

-- what the databases are asked for in a reading
abbrev pub asked_in : Reading → Request
asked_in reading = wanted reading.request.now

-- the database that is read
abbrev pub database_read : Reading → Database
database_read reading = site_database reading.site

-- the reading with these messages after its own
abbrev pub reported : Reading → List Message → Reading
reported reading messages = record reading { messages = reading.messages ++ messages }
