-- What holds of a run with a direct style.
use Rattle.std.specs.Prelude.{ℕ, length}
use Rattle.btx_bst.specs.language.Direct.{IsDirect}
use Rattle.btx_core.specs.declared.found.FilesRead.{FilesRead}
use Rattle.btx_core.specs.declared.found.FilesRead.TheVariants.{Ends, Found}
use Rattle.btx_core.specs.refinement.Contents.{style_in}

-- if a style was found and is direct, `claim` holds of the number of its functions
abbrev pub WhereDirect : FilesRead → (ℕ → Type 0) → Type 0
WhereDirect (Ends end) claim = Unit {0}
WhereDirect (Found found) claim = IsDirect (style_in found) → claim (length (style_in found).bodies)
