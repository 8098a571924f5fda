-- What is known by a finder's answers, and the names of `.aux` files that it is asked for.
use Rattle.std.specs.Prelude.{◌≡◌, ◌⊎◌, ℕ, true, List, [], ◌∷◌, ◌++◌, Option, IfSome, codes}
use Rattle.std.specs.List.{AllByRecursion, IsDistinct}
use Rattle.std.specs.Str.{bytes_eq}
use Rattle.btx_aux.specs.language.Answers.{Agree, FinderAnswer, names_asked}
use Rattle.btx_aux.specs.language.Files.{Files}
use Rattle.btx_aux.specs.language.Names.{has_ending}

-- a finder of this content gave some answers more than it had given: to names of which this is known, and by its content, if it shows it; and this claim
-- holds of all files that answer so
pub record ByAnswers (content : Option Files) (before after : List FinderAnswer) (Asks : List (List ℕ) → Type 0) (Claim : Files → Type 0) : Type 0 where
  pub answers : List FinderAnswer
  pub given : after ≡ before ++ answers
  pub shown : IfSome content (λ files. Agree files answers)
  pub asks : Asks (names_asked answers)
  pub holds : (files : Files) → Agree files answers → Claim files

-- a finder of this content gave some answers more, to names of which this is known
abbrev pub Answered : Option Files → List FinderAnswer → List FinderAnswer → (List (List ℕ) → Type 0) → Type 0
Answered content before after Asks = ByAnswers content before after Asks (λ files. Unit {0})

-- the names end in `.aux`
abbrev pub EndInAux : List (List ℕ) → Type 0
EndInAux names = AllByRecursion (λ name. has_ending (codes ".aux") name ≡ true) names

-- the `.aux` files of a job were asked for: the top one first, then others, whose names end in `.aux`, and none twice
pub record AsksTop (top : List ℕ) (names : List (List ℕ)) : Type 0 where
  pub later : List (List ℕ)
  pub is : names ≡ top ∷ later
  pub once : IsDistinct bytes_eq names
  pub endings : EndInAux later

-- no file was asked for, or the `.aux` files of a job were, as far as the reading came
abbrev pub AsksTopAtMost : List ℕ → List (List ℕ) → Type 0
AsksTopAtMost top names = (names ≡ []) ⊎ AsksTop top names
