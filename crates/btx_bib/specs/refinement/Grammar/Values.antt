-- A value that was read in pieces: its parts, and where it ends.
use Rattle.std.specs.Prelude.{List, [], Ok, Err, ℕ, ◌∷◌, Option}
use Rattle.btx_bib.specs.language.Grammar.Tokens.{Parsed, followed_by}
use Rattle.btx_bib.specs.language.Grammar.Values.{Part}
use Rattle.std.specs.Option.{option_map_or}

-- the parts of a value from this one on: `others` reads those after a `#`
abbrev pub joined : (List ℕ → Parsed (List Part)) → Part → List ℕ → Option (List ℕ) → Parsed (List Part)
joined others part rest next =
    option_map_or (λ (behind : List ℕ). followed_by (others behind) (λ parts end. Ok (part ∷ parts, end))) next (Ok (part ∷ [], rest))

-- the parts of a value that was read
abbrev pub parts_read : Parsed (List Part) → List Part
parts_read (Ok got) = got.0
parts_read (Err wrong) = []

-- a value was read
abbrev pub IsWhole : Parsed (List Part) → Type 0
IsWhole (Ok got) = Unit {0}
IsWhole (Err wrong) = ⊥

-- where a value ends, or what is wrong in it
abbrev pub value_end : Parsed (List Part) → Parsed (Unit {0})
value_end (Ok got) = Ok (tt, got.1)
value_end (Err wrong) = Err wrong
