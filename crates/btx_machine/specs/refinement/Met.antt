-- What a notebook is handed: lines, each with where it was met.
use Rattle.std.specs.Prelude.{◌≡◌, List, ◌++◌, Option, None, Some}
use Rattle.btx_text.specs.language.LogLines.{Line}
use Rattle.btx_machine.specs.declared.notebook.About.{About}

-- a line of the log, and where it was met
pub record Met : Type 0 where
  pub line : Line
  pub about : About

-- a line that was met there
abbrev pub met : Line → About → Met
met line about = record { line = line; about = about }

-- a notebook was handed these, one after another. One that shows what it was handed may stop to show it, and then shows nothing any more
abbrev pub AddsMet : Option (List Met) → Option (List Met) → List Met → Type 0
AddsMet None None mets = Unit {0}
AddsMet None (Some ys) mets = ⊥
AddsMet (Some xs) None mets = Unit {0}
AddsMet (Some xs) (Some ys) mets = ys ≡ xs ++ mets
