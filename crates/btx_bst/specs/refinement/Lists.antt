-- Names of parts of what a list of names is.
use Rattle.std.specs.Prelude.{Some, ℕ, List, Option, is_some, if◌then◌else◌}
use Rattle.btx_bst.specs.language.Complaints.{EndOfFile, Defined}
use Rattle.btx_bst.specs.language.Lists.{Listing, listing, Listed, listed}
use Rattle.btx_text.specs.language.Keys.{folded}
use Rattle.btx_bst.specs.declared.callee.Callee.{Callee}
use Rattle.btx_bst.specs.declared.callee.Kind.{Kind}
use Rattle.btx_bst.specs.language.Places.{Place}
use Rattle.btx_bst.specs.language.Names.{Names, with_name}
use Rattle.btx_bst.specs.language.Turns.{Turn, Again, Ends}

-- declares a name of a list; if it names something already, that is an error and ends the list
abbrev pub with_new : Kind → Names → List ℕ → Place → Option Callee → Turn Listing Listed
with_new kind names name place other =
    if is_some other then Ends (listed (Some (Defined name)) names place) else Again (listing (with_name kind (folded name) names) place)

-- the result if the bound on turns is reached. It never is, since each turn reads a byte at least
abbrev pub unlisted : Listing → Listed
unlisted listing = listed (Some EndOfFile) listing.names listing.place
