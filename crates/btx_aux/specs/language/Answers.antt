-- What a finder was asked for, and what it answered. Of a finder that doesn't show its content, as one over the files of a disk, nothing is known but its
-- answers; what is said of files is then said of all files that agree with them.
use Rattle.std.specs.Prelude.{◌≡◌, ℕ, Bool, List, [], ◌∷◌, ◌++◌, Option, Result, Ok, Err, map}
use Rattle.std.specs.List.{AllByRecursion}
use Rattle.btx_aux.specs.language.Files.{Files, file_of}

-- an answer of a finder: what it was asked for, and the bytes of that file, or that there is no such file
pub record FinderAnswer : Type 0 where
  pub name : List ℕ
  pub bytes : Option (List ℕ)

-- the answers that a finder has given after a fetch of the file `name`, which left `bytes`: one more than before it, or the same if the fetch failed
abbrev pub answers_after : {E : Type 0} → Result Bool E → List ℕ → List ℕ → List FinderAnswer → List FinderAnswer
answers_after (Ok found) name bytes before = before ++ record { name = name; bytes = file_of found bytes } ∷ []
answers_after (Err fault) name bytes before = before

-- the names that were asked for
abbrev pub names_asked : List FinderAnswer → List (List ℕ)
names_asked answers = map (λ (given : FinderAnswer). given.name) answers

-- the files agree with the answers: each was of what they have
abbrev pub Agree : Files → List FinderAnswer → Type 0
Agree files answers = AllByRecursion (λ given. files given.name ≡ given.bytes) answers
