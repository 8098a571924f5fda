-- The look back at the elements before, as a place that is carried on.
use Rattle.std.proofs.Common.{◌≡◌, ℕ, Bool, true, false, cond, ◌&&◌, List, [], ◌∷◌, ◌++◌, refl, ap}
use Rattle.btx_text.specs.language.Elements.{Element}
use Rattle.btx_strings.specs.declared.conversions.Conversion.{Conversion}
use Rattle.btx_strings.specs.declared.case_change.Place.{Place}
use Rattle.btx_strings.specs.declared.case_change.Place.TheVariants.{First, Colon, ColonAndWhite, Inside}
use Rattle.btx_strings.specs.language.Case.{is_white_text, after_colon, begins_title, cased_as, cased_part, cased_parts, is_title}
use Rattle.btx_strings.specs.refinement.CaseState.{is_after_colon, is_beginning}
use Rattle.btx_strings.specs.refinement.Case.{is_colon}

-- the place after one more element
abbrev pub place_after : Place → Element → Place
place_after place part = cond (is_white_text part.text) (cond (is_after_colon place) ColonAndWhite Inside) (cond (is_colon part) Colon Inside)

-- the place after the elements before, nearest first
abbrev pub place_of : List Element → Place
place_of [] = First
place_of (part ∷ before) = place_after (place_of before) part

is_after_colon-place_of : (before : List Element) → is_after_colon (place_of before) ≡ after_colon before
is_after_colon-place_of [] = refl
is_after_colon-place_of (part ∷ before) = at (is_white_text part.text) (is_colon part) (is_after_colon (place_of before)) (is_after_colon-place_of before) where
  at : (white colon after : Bool) → after ≡ after_colon before → is_after_colon (cond white (cond after ColonAndWhite Inside) (cond colon Colon Inside))
      ≡ cond white (after_colon before) colon
  at true colon true is = is
  at true colon false is = is
  at false true after is = refl
  at false false after is = refl

is_beginning-place_of : (before : List Element) → is_beginning (place_of before) ≡ begins_title before
is_beginning-place_of [] = refl
is_beginning-place_of (part ∷ before) = at (is_white_text part.text) (is_colon part) (is_after_colon (place_of before)) (is_after_colon-place_of before) where
  at : (white colon after : Bool) → after ≡ after_colon before → is_beginning (cond white (cond after ColonAndWhite Inside) (cond colon Colon Inside))
      ≡ (white && after_colon before)
  at true colon true is = is
  at true colon false is = is
  at false true after is = refl
  at false false after is = refl

-- the same text, by a place
abbrev pub cased_from : Conversion → Place → List Element → List ℕ
cased_from conversion place [] = []
cased_from conversion place (part ∷ parts) = cased_part conversion (is_beginning place) part ++ cased_from conversion (place_after place part) parts

cased_parts-carried : (conversion : Conversion) (before parts : List Element) → cased_parts conversion before parts ≡ cased_from conversion (place_of before)
    parts
unfolding cased_parts
cased_parts-carried conversion before [] = refl
cased_parts-carried conversion before (part ∷ parts) =
    rw (is_beginning-place_of before) (ap (λ xs. cased_part conversion (begins_title before) part ++ xs) (cased_parts-carried conversion (part ∷ before) parts))

-- from the first element on
pub cased_from-first : (conversion : Conversion) (parts : List Element) → cased_parts conversion [] parts ≡ cased_from conversion First parts
cased_from-first conversion parts = cased_parts-carried conversion [] parts

-- where no title is made, it does not matter what stands before
pub cased_from-anywhere : (conversion : Conversion) (place other : Place) (parts : List Element) → is_title conversion ≡ false
    → cased_from conversion place parts ≡ cased_from conversion other parts
cased_from-anywhere conversion place other [] none = refl
cased_from-anywhere conversion place other (part ∷ parts) none =
    rw none (ap (λ xs. cased_as conversion part.kind part.depth part.text ++ xs)
    (cased_from-anywhere conversion (place_after place part) (place_after other part) parts none))
