-- What a call that reads a style answers.
use Rattle.std.specs.Prelude.{ℕ, ◌≡◌, ◌<◌, ◌≤◌, List, length, Result, Ok, Err}
use Rattle.btx_text.specs.declared.fault.Fault.{Fault}
use Rattle.btx_text.specs.declared.fault.Fault.TheVariants.{Memory, Device, FileLimit, StringLimit}
use Rattle.btx_text.specs.language.Limits.{greatest_file}
use Rattle.btx_bst.specs.language.Style.{Style}
use Rattle.btx_bst.specs.language.StyleText.{style_of}
use Rattle.btx_bst.specs.declared.style.PlacedStyle.{PlacedStyle}

-- the style of the file, or that memory was refused, where its text is no longer than a file may be; or that it is longer
abbrev pub Reads : Result Style Fault → List ℕ → List ℕ → Type 0
Reads (Ok style) file text = (style ≡ style_of file text) × (length text ≤ greatest_file)
Reads (Err Memory) file text = length text ≤ greatest_file
Reads (Err FileLimit) file text = greatest_file < length text
Reads (Err Device) file text = ⊥
Reads (Err StringLimit) file text = ⊥

-- the style of a reading that answers places too
abbrev pub style_in : Result PlacedStyle Fault → Result Style Fault
style_in (Ok placed) = Ok placed.style
style_in (Err fault) = Err fault
