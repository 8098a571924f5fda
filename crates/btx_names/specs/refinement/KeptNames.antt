-- What clauses see of the name that is kept.
use Rattle.std.specs.Prelude.{◌≡◌, ℕ, List, Option, Some, None, slice_get, MatchOption}
use Rattle.btx_names.specs.language.NameLists.{names_of}
use Rattle.btx_names.specs.language.NameParts.{NameParts}
use Rattle.btx_names.specs.laws.NameParts.{parts_of}
use Rattle.btx_names.specs.refinement.Places.{bytes_at}
use Rattle.btx_names.specs.declared.kept_name.KeptName.{KeptName}

-- its bytes
abbrev pub kept_bytes : KeptName → List ℕ
kept_bytes kept = bytes_at kept.names.items kept.place

-- its parts
abbrev pub kept_parts : KeptName → NameParts
kept_parts kept = parts_of (kept_bytes kept)

-- what is found is the name of a list that `before` names precede; nothing is found where there is no such name
abbrev pub IsFound : List ℕ → ℕ → Option KeptName → Type 0
IsFound names before found = MatchOption found (slice_get (names_of names) before ≡ None) (λ kept. slice_get (names_of names) before ≡ Some (kept_bytes kept))
