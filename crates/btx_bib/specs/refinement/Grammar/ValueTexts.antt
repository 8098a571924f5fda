-- What calls answer that make the text of a value.
use Rattle.std.specs.Prelude.{◌≡◌, ◌<◌, ◌≤◌, ℕ, List, length, Result, Ok, Err, Option}
use Rattle.std.specs.declared.alloc.Global.{Global}
use Rattle.std.specs.declared.vec.Vec.{Vec}
use Rattle.btx_text.specs.language.Limits.{greatest_string}
use Rattle.btx_text.specs.declared.fault.Fault.{Fault}
use Rattle.btx_text.specs.declared.fault.Fault.TheVariants.{Memory, StringLimit}
use Rattle.std.specs.List.{flat_map}
use Rattle.btx_bib.specs.language.Grammar.Values.{Part}
use Rattle.btx_bib.specs.language.Grammar.ValueTexts.{text_of_part}

-- the values of strings by their names, where they have one
abbrev pub StringValues : Type 0
StringValues = List ℕ → Option (List ℕ)

-- this text, where it is within the limit of strings; the fault of the limit exactly where it is longer; want of memory says nothing
abbrev pub MakesText : Result (List ℕ) Fault → List ℕ → Type 0
MakesText (Ok made) text = (made ≡ text) × (length text ≤ greatest_string)
MakesText (Err Memory) text = Unit {0}
MakesText (Err StringLimit) text = greatest_string < length text
MakesText (Err _) text = ⊥

-- the same within this limit, while it is gathered
abbrev pub GathersWithin : ℕ → Result (Vec ℕ Global) Fault → List ℕ → Type 0
GathersWithin most (Ok made) text = (made.items ≡ text) × (length text ≤ most)
GathersWithin most (Err Memory) text = Unit {0}
GathersWithin most (Err StringLimit) text = most < length text
GathersWithin most (Err _) text = ⊥

-- the texts of a value's parts, joined, before whitespace is squeezed
abbrev pub joined_text : StringValues → List Part → List ℕ
joined_text strings parts = flat_map (text_of_part strings) parts
