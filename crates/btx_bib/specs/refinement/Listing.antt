-- Names of parts of the list of keys.
use Rattle.std.specs.Prelude.{ℕ, List, [], ◌++◌, fold}
use Rattle.btx_aux.specs.language.Names.{with_key}
use Rattle.btx_bib.specs.language.Request.{Request}
use Rattle.btx_bib.specs.language.Entries.{Given}
use Rattle.btx_bib.specs.language.Listing.{first_cited, added}

-- the keys of the list, each once, but for those that were cited after `*`: without `*` the cited keys and then the parents; with `*` the keys cited
-- before it and then all entries
abbrev pub first_keys : Request → List Given → List (List ℕ)
first_keys wanted stored = fold with_key [] (first_cited wanted.all wanted.cited ++ added wanted.all wanted stored)
