-- What is known after some events of a database.
use Rattle.std.specs.Prelude.{List, fold}
use Rattle.btx_bib.specs.language.Grammar.Items.{Placed}
use Rattle.btx_bib.specs.language.Request.{Request}
use Rattle.btx_bib.specs.language.Known.{Known, known_after}

-- what is known after these events, one after another
abbrev pub after_all : Request → Known → List Placed → Known
after_all wanted known events = fold (λ (known : Known) (placed : Placed). known_after wanted known placed.event) known events
