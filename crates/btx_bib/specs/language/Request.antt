-- What is asked of the databases.
use Rattle.std.specs.Prelude.{ℕ, List, Option}

-- what a job and its style ask of the databases. The cited keys (`cited`); if the document cites `*`, which lists every entry, how many keys it cites
-- before that (`all`). The fields that the style declares: the number of a field by its name in lower case (`field`), and how many there are
-- (`count`). The number of the style's function for an entry type, which is given in lower case (`kind`). How many stored entries have to name an
-- uncited parent for it to stay in the list (`fewest`): `--min-crossrefs`, or 0 with `*`.
pub record Request : Type 0 where
  pub cited : List (List ℕ)
  pub all : Option ℕ
  pub field : List ℕ → Option ℕ
  pub count : ℕ
  pub kind : List ℕ → Option ℕ
  pub fewest : ℕ
