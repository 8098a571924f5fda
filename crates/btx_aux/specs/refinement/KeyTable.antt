-- Keys, and a table of their lowered forms.
use Rattle.std.specs.Prelude.{◌≡◌, ℕ, List, map, Option, None, Some}
use Rattle.std.specs.declared.vec.Vec.{Vec}
use Rattle.std.specs.declared.alloc.Global.{Global}
use Rattle.std.specs.Str.{bytes_eq}
use Rattle.std.specs.List.{find}
use Rattle.btx_text.specs.language.Keys.{folded}
use Rattle.btx_aux.specs.refinement.Entries.{Bytes, texts_of}

-- the table has the lowered form of each key, in the order of the keys
abbrev pub IsTableOf : List Bytes → List Bytes → Type 0
IsTableOf lowered keys = texts_of lowered ≡ map folded (texts_of keys)

-- the keys as they are spelled: their lowered forms, unless others are kept
abbrev pub spelled_in : Option (Vec Bytes Global) → List Bytes → List Bytes
spelled_in None lowered = lowered
spelled_in (Some spelled) lowered = spelled.items

-- the first key of this lowered form
abbrev pub listed_by : List (List ℕ) → List ℕ → Option (List ℕ)
listed_by keys lowered = find (λ (other : List ℕ). bytes_eq lowered (folded other)) keys
