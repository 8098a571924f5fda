-- A job that needs no other file.
use Rattle.std.proofs.Common.{arith, not, ◌≡◌, ℕ, Bool, true, false, List, [], ◌∷◌, ◌++◌, Option, None, Some, if◌then◌else◌, refl, sym, ap, ◌∙◌}
use Rattle.std.specs.List.{AllByRecursion, flat_map}
use Rattle.std.specs.Str.{bytes_eq}
use Rattle.std.proofs.lemmas.Slice.Eq.{bytes_eq-Decides}
use Rattle.btx_text.specs.language.LogLines.{Line}
use Rattle.btx_aux.specs.declared.end.End.{End}
use Rattle.btx_aux.specs.declared.end.End.TheVariants as end
use Rattle.btx_aux.specs.language.Files.{Files}
use Rattle.btx_aux.specs.language.Job.{AuxJob}
use Rattle.btx_machine.specs.language.Product.{Product, log_of}
use Rattle.btx_machine.specs.language.Saying.{ended_line}
use Rattle.btx_core.specs.declared.found.FilesRead.{FilesRead}
use Rattle.btx_core.specs.declared.options.Options.{Options}
use Rattle.btx_core.specs.language.Files.Counts.{counts_of}
use Rattle.btx_core.specs.language.Files.Found.{NamedFile, file_at}
use Rattle.btx_core.specs.language.Files.Databases.{databases_logged, files_found}
use Rattle.btx_core.specs.refinement.Files.Readings.{Logged, after_job, behind, reading_of, style_named, style_read}
use Rattle.btx_core.specs.refinement.ComputedProduct.{product, product_of_files, product_with}
use Rattle.btx_c.specs.declared.handed.BtxFile.{BtxFile}
use Rattle.btx_c.specs.CallerFiles.{beside, is_known, known}
use Rattle.btx_c.specs.Needs.{EndsWithAuxFiles, NeedsAnother, NeedsNoOther, ReadsAuxFiles, SaysAlways, empty_files, is_absent, line_for, lines_for, lines_named}
use Rattle.btx_c.specs.Needs.{no_files}
use Rattle.btx_c.proofs.HandedLemmas.{beside_known, known_same}

-- ---- lines

-- nothing is in two lists that are nothing together
parts_none : (xs ys : List ℕ) → xs ++ ys ≡ [] → (xs ≡ []) × (ys ≡ [])
parts_none [] ys none = (refl, none)
parts_none (x ∷ xs) ys none = cc

-- where there is no line, something was said of the file
line_none : (files : List BtxFile) (name : List ℕ) → line_for files name ≡ [] → is_known files name ≡ true
line_none files name none = by_test (is_known files name) refl none where
  by_test : (b : Bool) → is_known files name ≡ b → (if b then [] else name ++ 10 ∷ []) ≡ [] → is_known files name ≡ true
  by_test true is none = is
  by_test false is none = let parts = parts_none name (10 ∷ []) none in cc

lines_none : (files : List BtxFile) (names : List (List ℕ)) → lines_for files names ≡ [] → AllByRecursion (λ name. is_known files name ≡ true) names
lines_none files [] none = tt
lines_none files (name ∷ names) none =
    let parts = parts_none (line_for files name) (lines_for files names) none in
    (line_none files name parts.0, lines_none files names parts.1)

-- ---- the run

module _ (files : List BtxFile) (others : Files) where
  abbrev AllKnown : List (List ℕ) → Type 0
  AllKnown names = AllByRecursion (λ name. is_known files name ≡ true) names

  at-same : (name : List ℕ) → is_known files name ≡ true → file_at (beside files others) name ≡ file_at (beside files no_files) name
  at-same name is = rw (known_same files others no_files name is) refl

  found-same : (names : List (List ℕ)) → AllKnown names → files_found (beside files others) names ≡ files_found (beside files no_files) names
  found-same [] known = refl
  found-same (name ∷ names) known = rw (at-same name known.0, found-same names known.1) refl

  logged-same : (earlier names : List (List ℕ)) → AllKnown earlier → AllKnown names → databases_logged (beside files others) earlier names
      ≡ databases_logged (beside files no_files) earlier names
  logged-same earlier [] before known = refl
  logged-same earlier (name ∷ names) before known =
      rw (at-same name known.0, found-same earlier before, logged-same (earlier ++ name ∷ []) names (more earlier before) known.1) refl where
        more : (earlier : List (List ℕ)) → AllByRecursion (λ name. is_known files name ≡ true) earlier
            → AllByRecursion (λ name. is_known files name ≡ true) (earlier ++ name ∷ [])
        more [] before = (known.0, tt)
        more (x ∷ xs) before = (before.0, more xs before.1)

  read-same : (job : AuxJob) (name : List ℕ) (found : Option NamedFile) → AllKnown job.databases → style_read (beside files others) job name found
      ≡ style_read (beside files no_files) job name found
  unfolding style_read
  read-same job name None known = refl
  read-same job name (Some style) known = rw (logged-same [] job.databases tt known, found-same job.databases known) refl

  read-absent : (job : AuxJob) (name : List ℕ) → style_read (beside files others) job name None ≡ style_read (beside files no_files) job name None
  unfolding style_read
  read-absent job name = refl

  named-same : (job : AuxJob) (style : Option (List ℕ)) → lines_named files style job.databases ≡ [] → style_named (beside files others) job style
      ≡ style_named (beside files no_files) job style
  unfolding style_named
  named-same job None none = refl
  named-same job (Some name) none = by_case (known files name) refl none where
    all_said : (line_for files name ≡ []) × (lines_for files job.databases ≡ [])
        → style_read (beside files others) job name (file_at (beside files others) name) ≡ style_read (beside files no_files) job name
        (file_at (beside files no_files) name)
    all_said parts = rw (at-same name (line_none files name parts.0))
        (read-same job name (file_at (beside files no_files) name) (lines_none files job.databases parts.1))

    -- it was said that there is no style, or of each file something was said
    by_case : (said : Option (Option (List ℕ))) → known files name ≡ said
        → (if is_absent said then [] else line_for files name ++ lines_for files job.databases) ≡ []
        → style_read (beside files others) job name (file_at (beside files others) name) ≡ style_read (beside files no_files) job name
        (file_at (beside files no_files) name)
    by_case None is none = all_said (parts_none (line_for files name) (lines_for files job.databases) none)
    by_case (Some None) is none = rw (beside_known files others name None is, beside_known files no_files name None is) (read-absent job name)
    by_case (Some (Some bytes)) is none = all_said (parts_none (line_for files name) (lines_for files job.databases) none)

  after-same : (job : AuxJob) (ending : End) → (ending ≡ end.Whole → lines_named files job.style job.databases ≡ [])
      → after_job (beside files others) job ending ≡ after_job (beside files no_files) job ending
  unfolding after_job
  after-same job end.Whole none = named-same job job.style (none refl)
  after-same job end.TooManyOpen none = refl
  after-same job end.TopMissing none = refl
  after-same job end.FileLimit none = refl

-- the product of what the reading of the files gives
abbrev made : AuxJob → Logged FilesRead → Options → ℕ → Product
made job read options budget =
    let rest = product_of_files job read.gives options (counts_of read.lines) budget in
    record rest { log_so_far = flat_map (λ (line : Line). ended_line line.text) read.lines ++ rest.log_so_far }

-- a job whose `.aux` files say this, whatever other files there are
module _ (files : List BtxFile) (name : List ℕ) (job : AuxJob) (says : SaysAlways files name job) where
  reading-is : (others : Files) → reading_of (beside files others) name ≡ behind job.log (after_job (beside files others) job job.ending)
  reading-is others = ap (λ (job : AuxJob). behind job.log (after_job (beside files others) job job.ending)) (sym (says others))

  product-is : (others : Files) (options : Options) (budget : ℕ) → product_with (beside files others) name options budget
      ≡ made job (behind job.log (after_job (beside files others) job job.ending)) options budget
  product-is others options budget =
      ap (λ (job : AuxJob). made job (reading_of (beside files others) name) options budget) (sym (says others))
      ∙ ap (λ (read : Logged FilesRead). made job read options budget) (reading-is others)

  -- needs no other file if its reading isn't whole, or if there are no lines for its style and its databases
  pub needs_no_other : (job.ending ≡ end.Whole → lines_named files job.style job.databases ≡ []) → NeedsNoOther files name
  needs_no_other none others options budget =
      product-is others options budget
      ∙ ap (λ (rest : Logged FilesRead). made job (behind job.log rest) options budget) (after-same files others job job.ending none)
      ∙ sym (product-is no_files options budget)

  -- ends with them if its reading isn't whole
  pub ends_with : (job.ending ≡ end.Whole → ⊥) → EndsWithAuxFiles files name
  ends_with ends others whole = ends (ap (λ (job : AuxJob). job.ending) (says others) ∙ whole)

  -- reads them to their ends if its reading is whole
  pub reads_whole : job.ending ≡ end.Whole → ReadsAuxFiles files name
  reads_whole whole others = ap (λ (job : AuxJob). job.ending) (sym (says others)) ∙ whole

-- ---- a job that needs another file

-- what two runs wrote, one without the other files and one where each is empty, differs
pub another_of : (files : List BtxFile) (job : List ℕ) (options : Options) (absent empty : List ℕ)
    → absent ≡ log_of (product (beside files (empty_files false)) job options)
    → empty ≡ log_of (product (beside files (empty_files true)) job options) → not (bytes_eq absent empty) ≡ true → NeedsAnother files job
another_of files job options absent empty is_absent is_empty differ =
    record {
      some = empty_files false;
      others = empty_files true;
      options = options;
      budget = options.budget;
      differ = λ same. contradicts (is_absent ∙ ap log_of same ∙ sym is_empty);
    } where
      contradicts : absent ≡ empty → ⊥
      contradicts same = let equal : bytes_eq absent empty ≡ true = (bytes_eq-Decides absent empty).1 same in grind (arith, differ, equal)
