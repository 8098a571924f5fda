-- What the databases give to a job.
use Rattle.std.specs.Prelude.{ℕ, List, [], Option, None, Some}
use Rattle.btx_bib.specs.declared.end.End.{End}
use Rattle.btx_bib.specs.declared.entry.Entry.{Entry}
use Rattle.btx_bib.specs.declared.message.Message.{Message}
use Rattle.btx_bib.specs.language.Values.{field_value}

-- what the databases give: the entries in the order of the list, the values of all `@preamble`s joined, the messages in order, and how the reading
-- ended
pub record Library : Type 0 where
  pub entries : List Entry
  pub preamble : List ℕ
  pub messages : List Message
  pub ending : End

-- the key of an entry, if there is one
abbrev pub key_of : Option Entry → List ℕ
key_of None = []
key_of (Some entry) = entry.key

-- the number of the style's function for the type of an entry, if there is one
abbrev pub entry_type : Option Entry → Option ℕ
entry_type None = None
entry_type (Some entry) = entry.kind

-- the value of a field of an entry, if there is one
abbrev pub entry_value : ℕ → Option Entry → Option (List ℕ)
entry_value field None = None
entry_value field (Some entry) = field_value field entry.values
