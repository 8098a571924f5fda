-- The division of a string into elements, stated: relations that say when parts are its division.
use Rattle.std.specs.Prelude.{◌≡◌, ℕ, ◌+◌, ◌<◌, Bool, true, false, List, [], ◌∷◌, ◌++◌, length, take, ◌⊎◌, IsTrue}
use Rattle.btx_text.specs.declared.element_kind.Kind.{Kind}
use Rattle.btx_text.specs.declared.element_kind.Kind.TheVariants.{Special, Wide}
use Rattle.btx_text.specs.declared.element_kind.TextMode.{TextMode}
use Rattle.btx_text.specs.language.Sequences.{is_sequence}
use Rattle.btx_text.specs.language.Elements.{depth_of, Element, kind_at}
use Rattle.std.specs.List.{flat_map}

-- the texts of elements, joined
abbrev pub text_of : List Element → List ℕ
text_of parts = flat_map (λ part. part.text) parts

-- ---- the division, as a relation

-- the text of a special character, and what follows: inside it the depth is above 0, and it ends at depth 0 or at the end of the string
pub record IsSpecial (text after : List ℕ) : Type 0 where
  pub inside : (n : ℕ) → 0 < n → n < length text → 0 < depth_of (take n text)
  pub ends : (depth_of text ≡ 0) ⊎ (after ≡ [])
  pub some : 0 < length text

-- where an element of a kind ends, if `text` is the element and `after` what follows it: a special character as `IsSpecial` says, a wide element
-- after one sequence of UTF-8, and any other after one byte
abbrev pub Reaches : Kind → List ℕ → List ℕ → Type 0
Reaches Special text after = IsSpecial text after
Reaches Wide text after = IsTrue (is_sequence text)
Reaches _ text after = length text ≡ 1

-- `part` is the element that the rules give between the texts `before` and `after`: it has the start, the depth, the kind and the end that they say
pub record IsElement (mode : TextMode) (before : List ℕ) (part : Element) (after : List ℕ) : Type 0 where
  pub start : part.start ≡ length before
  pub depth : part.depth ≡ depth_of before
  pub kind : part.kind ≡ kind_at mode part.depth (part.text ++ after)
  pub reaches : Reaches part.kind part.text after

-- the parts joined are the string, and each is the element of its place
pub record IsDivision (mode : TextMode) (string : List ℕ) (parts : List Element) : Type 0 where
  pub joined : text_of parts ≡ string
  pub each : (left : List Element) (part : Element) (right : List Element) → parts ≡ left ++ part ∷ right → IsElement mode (text_of left) part (text_of right)

-- ---- wide elements

-- a character of more than one byte
abbrev pub is_wide : Kind → Bool
is_wide Wide = true
is_wide _ = false
