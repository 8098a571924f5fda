-- The prefix of a string, stated: the shortest that is long enough.
use Rattle.std.specs.Prelude.{◌≡◌, ℕ, ◌<◌, ◌⊎◌, List, ◌++◌, length, count_by}
use Rattle.btx_text.specs.language.Elements.{Element, is_character}

-- how many characters of text elements have
abbrev pub characters_of : List Element → ℕ
characters_of parts = count_by (λ part. is_character part.kind) parts

-- `front` is the shortest prefix of the elements that has `n` characters of text; or all of them, if they have fewer
pub record IsShortest (n : ℕ) (parts front : List Element) : Type 0 where
  pub begins : (rest : List Element) × (parts ≡ front ++ rest)
  pub enough : (characters_of front ≡ n) ⊎ (front ≡ parts)
  pub shortest : (left right : List Element) → front ≡ left ++ right → 0 < length right → characters_of left < n
