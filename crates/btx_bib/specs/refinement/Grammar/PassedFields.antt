-- A field that is passed over: where it ends, whatever its name and its value are.
use Rattle.std.specs.Prelude.{◌≡◌, ◌+◌, ◌/◌, ◌^◌, not, ℕ, List, [], ◌∷◌, map, take, drop, Some, None, Ok}
use Rattle.std.specs.Int.{is_in_range}
use Rattle.std.specs.Simd.Lanes.{mask_l}
use Rattle.btx_bib.specs.declared.grammar.byte_sets.Delimiter.{Delimiter}
use Rattle.btx_bib.specs.declared.grammar.commands.Expected.{Expected}
use Rattle.btx_bib.specs.language.Grammar.ByteSets.{is_gap}
use Rattle.btx_bib.specs.language.Grammar.Fields.{Field}
use Rattle.btx_bib.specs.language.Grammar.Items.{FieldOf, expected_step}
use Rattle.btx_bib.specs.language.Grammar.Values.{Part, next_part, part_in}
use Rattle.btx_bib.specs.laws.Grammar.Fields.{more_at}
use Rattle.btx_bib.specs.refinement.Grammar.Squeezing.{lanes_before}

-- ---- the block after the first byte of a text, as bits

-- the bytes that are no whitespace
abbrev pub solid_bits : List ℕ → ℕ
solid_bits text = mask_l (map (λ b. not (is_gap b)) (take 16 (drop 1 text)))

-- the bytes that are no lower-case letters
abbrev pub unlike_letter_bits : List ℕ → ℕ
unlike_letter_bits text = mask_l (map (λ b. not (is_in_range 97 122 b)) (take 16 (drop 1 text)))

-- the place of the first bit that is set, from a place on; one after the block, if none is
abbrev pub first_from : ℕ → ℕ → ℕ
first_from bits place = place + lanes_before (bits / 2 ^ place)

-- ---- a field

-- the last part of a value stands here, and this text is left after it
pub record IsLastPart (text rest : List ℕ) : Type 0 where
  pub part : Part
  pub stands : part_in text ≡ Ok (part, rest)
  pub last : next_part rest ≡ None

-- a comma, a name and `=` stand here, and at a place after them the value begins: if it has one part, the field has this name and this part
pub record IsValuePlace (text : List ℕ) (place : ℕ) : Type 0 where
  pub name : List ℕ
  pub field : (delimiter : Delimiter) (part : Part) (rest : List ℕ) → part_in (drop place text) ≡ Ok (part, rest) → next_part rest ≡ None →
      more_at delimiter text ≡ Ok (Some (record { name = name; value = part ∷ [] }), rest)

-- a comma and a field stand here, whatever delimiter the entry has, and this text is left after it
pub record IsField (text rest : List ℕ) : Type 0 where
  pub field : Field
  pub stands : (delimiter : Delimiter) → more_at delimiter text ≡ Ok (Some field, rest)

-- where the reader stands, it reads a field, after which it wants the same as before it
pub record IsFieldNext (place : Expected × List ℕ) (rest : List ℕ) : Type 0 where
  pub field : Field
  pub stands : expected_step place.0 place.1 ≡ Some (record { event = FieldOf field; wanted = place.0; rest = rest })
