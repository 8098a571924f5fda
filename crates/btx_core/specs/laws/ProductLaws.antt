-- What is proved of the relation in names.
use Rattle.btx_aux.specs.language.Files.{Files}
use Rattle.btx_aux.specs.laws.Pairs.{files_of_pairs}
use Rattle.btx_core.specs.language.Product.{IsProduct}
use Rattle.btx_machine.specs.declared.report.End.{End}
use Rattle.btx_machine.specs.language.Product.{Product}
use Rattle.btx_core.specs.declared.found.FilesRead.TheVariants.{Ends}
use Rattle.btx_core.specs.declared.options.Options.{Options}
use Rattle.btx_core.specs.refinement.Files.Readings.{reading_of}
use Rattle.btx_core.specs.refinement.ComputedProduct.{product}
use Rattle.btx_core.specs.laws.CornerJobs.{aux_corners, database_corners, execution_corners, line_corners, name_corners, reference_corners, style_corners}
use Rattle.btx_core.specs.laws.WorkedJobs.{WorkedJob, outputs_shown, worked_jobs}
use Rattle.std.specs.Prelude.{List, [], codes, ℕ, ◌∷◌, ◌↔◌, ◌≡◌, ◌≤◌}

-- two products of a job are the same. (A line has 20 bytes at least, so that 3 is no condition)
abbrev pub OneProduct : Type 0
OneProduct = (files : Files) (name : List ℕ) (options : Options) → 3 ≤ options.line → (one other : Product) →
    IsProduct files name options one → IsProduct files name options other → one ≡ other

-- where no style is executed, what `product` computes is a product of the job
abbrev pub EarlyEnds : Type 0
EarlyEnds = (files : Files) (name : List ℕ) (options : Options) (ending : End) → (reading_of files name).gives ≡ Ends ending →
    IsProduct files name options (product files name options)

-- each job has a product
abbrev pub SomeProduct : Type 0
SomeProduct = (files : Files) (name : List ℕ) (options : Options) → 3 ≤ options.line → (product : Product) × IsProduct files name options product

-- what a job comes to in the relation is what `product` computes, and nothing else
abbrev pub SameProduct : Type 0
SameProduct = (files : Files) (name : List ℕ) (options : Options) → 3 ≤ options.line → (one : Product) → IsProduct files name options one
    ↔ (one ≡ product files name options)

-- what stands in the relation for a worked job of the tree (a list, a log and a status that were worked without any definition) is what is said there
abbrev pub IsWorked : WorkedJob → Type 0
IsWorked job = (product : Product) → IsProduct (files_of_pairs job.files) (codes "job") job.options product
    → outputs_shown product ≡ (job.list, job.log, job.status)

-- each of these jobs is one of which that holds
abbrev pub AreWorked : List WorkedJob → Type 0
AreWorked [] = Unit {0}
AreWorked (job ∷ jobs) = IsWorked job × AreWorked jobs

-- the 21 worked jobs
abbrev pub WorkedProducts : Type 0
WorkedProducts = AreWorked worked_jobs

-- and those of the corners of the rules: of `.aux` files, of databases, of cross-references, of styles, of their execution, of names and of lines
abbrev pub CornerProducts : Type 0
CornerProducts =
    AreWorked aux_corners × AreWorked database_corners × AreWorked reference_corners × AreWorked style_corners × AreWorked execution_corners
    × AreWorked name_corners × AreWorked line_corners
