-- Places in bytes that are kept.
use Rattle.std.specs.Prelude.{ℕ, List, take, drop}
use Rattle.btx_names.specs.declared.place.Place.{Place}

-- the bytes at a place
abbrev pub bytes_at : List ℕ → Place → List ℕ
bytes_at bytes place = take place.len (drop place.from bytes)
