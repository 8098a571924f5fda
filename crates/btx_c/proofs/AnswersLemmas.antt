-- A reading that has asked for no file of which nothing was said is the same whatever these files are. For it may be that each of them is longer than any
-- text that memory holds; and each text that the reading was given was held in memory.
use Rattle.std.proofs.Common.{arith, ◌≡◌, ◌⊎◌, inl, inr, ℕ, ◌<◌, ◌^◌, List, [], ◌∷◌, Option, Some, length, sym, ◌∙◌, subst}
use Rattle.std.specs.Prelude.{IfSome}
use Rattle.std.proofs.Math.ListN.{replicate}
use Rattle.std.proofs.lemmas.List.{length-replicate}
use Rattle.btx_aux.specs.language.Answers.{Agree, FinderAnswer}
use Rattle.btx_aux.specs.language.Files.{Files}
use Rattle.btx_aux.specs.language.Job.{AuxJob}
use Rattle.btx_aux.specs.refinement.Answers.{ByAnswers}
use Rattle.btx_core.specs.refinement.Files.Readings.{job_named}
use Rattle.btx_c.specs.declared.handed.BtxFile.{BtxFile}
use Rattle.btx_c.specs.CallerFiles.{OtherFiles, WereHeld, beside, file_in}
use Rattle.btx_c.specs.Needs.{SaysAlways}
use Rattle.btx_c.proofs.HandedLemmas.{same_or_other}

-- a text of this length
pub text_of_length : ℕ → List ℕ
text_of_length n = replicate n 0

no_shorter : (n : ℕ) → length (text_of_length n) < n → ⊥
unfolding text_of_length
no_shorter n short = let len = length-replicate {A = ℕ} n 0 in grind (arith, short, len)

-- files that are all longer than any that memory holds
abbrev pub all_huge : OtherFiles
all_huge = ([], Some (text_of_length (2 ^ 64)))

not_held : IfSome (Some (text_of_length (2 ^ 64))) (λ text. length text < 2 ^ 64) → ⊥
not_held held = no_shorter (2 ^ 64) held

-- an answer that was held is right whatever the other files are
module _ (files : List BtxFile) (others : Files) where
  abbrev IsRight : Files → FinderAnswer → Type 0
  IsRight files given = files given.name ≡ given.bytes

  right : (given : FinderAnswer) → IfSome given.bytes (λ text. length text < 2 ^ 64) → IsRight (beside files (file_in all_huge)) given
      → IsRight (beside files others) given
  right given held is = by_case (same_or_other files (file_in all_huge) others given.name) where
    by_case : (beside files others given.name ≡ beside files (file_in all_huge) given.name)
        ⊎ (beside files (file_in all_huge) given.name ≡ file_in all_huge given.name) → IsRight (beside files others) given
    by_case (inl same) = same ∙ is
    by_case (inr other) = absurd (not_held (subst (λ (bytes : Option (List ℕ)). IfSome bytes (λ text. length text < 2 ^ 64)) (sym is ∙ other) held))

  agree : (answers : List FinderAnswer) → WereHeld answers → Agree (beside files (file_in all_huge)) answers → Agree (beside files others) answers
  agree [] held is = tt
  agree (given ∷ answers) held is = (right given held.0 is.0, agree answers held.1 is.1)

-- so what was read by such answers is said whatever the other files are
pub says_always : (files : List BtxFile) (name : List ℕ) (job : AuxJob) (after : List FinderAnswer) {Asks : List (List ℕ) → Type 0}
    → ByAnswers (Some (beside files (file_in all_huge))) [] after Asks (λ files. job ≡ job_named files name) → WereHeld after → SaysAlways files name job
says_always files name job after part held others =
    part.holds (beside files others) (agree files others part.answers (subst WereHeld part.given held) part.shown)
