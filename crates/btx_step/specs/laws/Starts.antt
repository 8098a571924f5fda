-- Whatever a style says, the predefined integers begin with the job's limits.
use Rattle.std.specs.Prelude.{◌≡◌, ℕ, pos, List, slice_get, Some, codes}
use Rattle.btx_bst.specs.declared.callee.Callee.TheVariants.{GlobalInteger}
use Rattle.btx_bst.specs.language.Names.{named_lower}
use Rattle.btx_bst.specs.language.StyleText.{style_of}
use Rattle.btx_step.specs.language.Jobs.{Job}
use Rattle.btx_step.specs.language.Starts.{first_store}

-- a name is that of a global integer variable, whose first value is this number of bytes
pub record BeginsWith (job : Job) (name : List ℕ) (bytes : ℕ) : Type 0 where
  pub place : ℕ
  pub named : named_lower job.style.names name ≡ Some (GlobalInteger place)
  pub begins : slice_get (first_store job).integers place ≡ Some (pos bytes)

-- whatever the style of a job says, `entry.max$` begins with the number of bytes that a string variable of an entry keeps, and `global.max$` with
-- that of a global one
pub record BeginWithLimits (job : Job) : Type 0 where
  pub entry_limit : BeginsWith job (codes "entry.max$") job.entry_max
  pub global_limit : BeginsWith job (codes "global.max$") job.global_max

-- in a job whose style is that of a text the two limits begin so, whatever the text says
abbrev pub FirstLimitsLaw : Type 0
FirstLimitsLaw = (file text : List ℕ) (job : Job) → job.style ≡ style_of file text → BeginWithLimits job
