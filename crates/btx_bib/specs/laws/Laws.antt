-- Laws of libraries, in the words of their subject.
use Rattle.std.specs.Prelude.{◌≡◌, ℕ, nat_le, ◌||◌, ◌&&◌, Bool, List, map, count_by, is_some}
use Rattle.std.specs.List.{filter, IsDistinct}
use Rattle.btx_aux.specs.language.Job.{AuxJob}
use Rattle.btx_aux.specs.language.Names.{is_same_key, listed_as}
use Rattle.btx_bst.specs.language.Style.{Style}
use Rattle.btx_bib.specs.declared.end.End.TheVariants.{Whole}
use Rattle.btx_bib.specs.declared.entry.Entry.{Entry}
use Rattle.btx_bib.specs.language.Entries.{Given}
use Rattle.btx_bib.specs.language.Stored.{entry_with_key, parents_in}
use Rattle.btx_bib.specs.language.Listing.{list_keys}
use Rattle.btx_bib.specs.language.Library.{Library}
use Rattle.btx_bib.specs.language.Requests.{asked}
use Rattle.btx_bib.specs.language.Request.{Request}
use Rattle.btx_bib.specs.language.Messages.{Database}
use Rattle.btx_bib.specs.language.Databases.{library_of}
use Rattle.btx_bib.specs.laws.Listing.{spelled, stays}
use Rattle.btx_bib.specs.laws.Databases.{read_all}

-- the keys of a library, in the order of the list
abbrev pub list_of : Library → List (List ℕ)
list_of library = map (λ (entry : Entry). entry.key) library.entries

-- no two entries of a list have one key, whose case is ignored
abbrev pub KeysDiffer : Type 0
KeysDiffer = (wanted : Request) (macros : List (List ℕ × List ℕ)) (databases : List Database)
    → IsDistinct is_same_key (list_of (library_of wanted macros databases))

-- the entries that some databases store
abbrev pub stored_by : Request → List (List ℕ × List ℕ) → List Database → List Given
stored_by wanted macros databases = (read_all wanted macros databases).known.stored

-- an entry stays: `*` was cited, or its key was, or at least `least` stored entries refer to it
abbrev pub StarredCitedOrReferred : Type 0
StarredCitedOrReferred = (style : Style) (job : AuxJob) (least : ℕ) (stored : List Given) (key : List ℕ)
    → (let wanted = asked style job least in
    stays wanted stored key ≡ (is_some job.all || (is_some (listed_as job.keys key) || nat_le least (count_by (is_same_key key) (parents_in wanted stored)))))

-- a key has a stored entry, and the entry stays
abbrev pub keeps_entry : Request → List Given → List ℕ → Bool
keeps_entry wanted stored key = is_some (entry_with_key stored key) && stays wanted stored key

-- the entries of a library whose databases were read to their ends are those of the list's keys that have an entry and stay, in the order of the
-- list, each with its key as the list spells it
abbrev pub ListIsKept : Type 0
ListIsKept = (wanted : Request) (macros : List (List ℕ × List ℕ)) (databases : List Database) → (read_all wanted macros databases).known.ending ≡ Whole
    → (let stored = stored_by wanted macros databases in
    list_of (library_of wanted macros databases) ≡ map (spelled wanted stored) (filter (keeps_entry wanted stored) (list_keys wanted stored)))
