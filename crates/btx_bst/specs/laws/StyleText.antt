-- A style before anything of it is read, of which laws speak.
use Rattle.std.specs.Prelude.{ℕ, false, List, [], None}
use Rattle.btx_bst.specs.language.Style.{Style}
use Rattle.btx_bst.specs.language.Names.{Names}

-- a style of which nothing has been read: it has the name of its file, and the names that are known before it
abbrev pub unread_style : List ℕ → Names → Style
unread_style file names = record { file = file; items = []; names = names; macros = []; bodies = []; texts = []; has_entry = false; before_read = None }
