-- The sections of a name, as clauses speak of them.
use Rattle.std.specs.Prelude.{ℕ, Bool, true, false, List, []}
use Rattle.btx_names.specs.language.NameParts as spec

-- commas part a name
abbrev pub has_commas : spec.Sections → Bool
has_commas (spec.One name) = false
has_commas _ = true

-- the section of a Jr, nothing in a name without one
abbrev pub jr_of : spec.Sections → List ℕ
jr_of (spec.Three surname jr first) = jr
jr_of _ = []

-- the section of First after a comma, nothing in a name without one
abbrev pub first_section : spec.Sections → List ℕ
first_section (spec.One name) = []
first_section (spec.Two surname first) = first
first_section (spec.Three surname jr first) = first
