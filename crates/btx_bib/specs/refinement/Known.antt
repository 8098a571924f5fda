-- What becomes of a field and of a key, as proofs name it.
use Rattle.std.specs.Prelude.{ℕ, not, ◌&&◌, Bool, List, is_some, [], Some, if◌then◌else◌, ◌∷◌, ◌++◌}
use Rattle.btx_text.specs.language.Keys.{folded}
use Rattle.btx_bib.specs.language.Request.{Request}
use Rattle.btx_bib.specs.language.Entries.{Given}
use Rattle.btx_bib.specs.language.Known.{has_value, Known}
use Rattle.btx_bib.specs.language.Stored.{is_wanted}

-- an entry with one more field, its name and its text, after the others
abbrev pub with_field : Given → List ℕ → List ℕ → Given
with_field given name text = record given { fields = given.fields ++ record { name = name; value = text } ∷ [] }

-- an entry keeps a further field `name`: the style declares the field, and the entry has no value for it yet
abbrev pub keeps_field : Request → Given → List ℕ → Bool
keeps_field wanted given name = is_some (wanted.field (folded name)) && not (has_value wanted given name)

-- what is known after the type and the key of an entry: if the entry is wanted, it is the one that is being read, without a field yet; else nothing
-- changes
abbrev pub after_key : Request → Known → List ℕ → List ℕ → Known
after_key wanted known kind key =
    if is_wanted wanted known.stored key then record known { current = Some (record { kind = kind; key = key; fields = [] }) } else known
