-- Where the lines are met that reading a job's files logs.
use Rattle.std.specs.Prelude.{◌≡◌, List, Contains}
use Rattle.btx_text.specs.language.LogLines.{Line}
use Rattle.btx_machine.specs.declared.notebook.About.TheVariants as about
use Rattle.btx_machine.specs.refinement.Met.{Met}
use Rattle.btx_machine.specs.refinement.Outputs.{Journal}
use Rattle.btx_machine.specs.refinement.Places.{Hands, shown}

-- one of these lines, met in the `.aux` files of a job, or where its style and its databases are looked for
pub record MetInFiles (lines : List Line) (m : Met) : Type 0 where
  pub about_it : m.about ≡ about.Files
  pub is_said : Contains lines m.line

-- from one moment to another a notebook was handed some of these lines, each as one that was met there, and nothing else
abbrev pub HandsOf : Journal → Journal → List Line → Type 0
HandsOf old new lines = Hands (shown old) (shown new) (MetInFiles lines)
