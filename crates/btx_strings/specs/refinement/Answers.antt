-- What calls answer that make a string.
use Rattle.std.specs.Prelude.{◌≡◌, ℕ, ◌<◌, ◌≤◌, List, length, Result, Ok, Err, true}
use Rattle.btx_text.specs.declared.fault.Fault.{Fault}
use Rattle.btx_text.specs.declared.fault.Fault.TheVariants.{Memory, StringLimit}
use Rattle.btx_text.specs.language.Limits.{greatest_string}
use Rattle.btx_strings.specs.declared.answers.Answer.{Answer}
use Rattle.btx_strings.specs.declared.answers.Complaints.{Complaints}
use Rattle.btx_strings.specs.language.Answers.{no_complaints}

-- the conversion of `change.case$` is none of the letters `t`, `l` and `u`
abbrev pub wrong_conversion : Complaints
wrong_conversion = record no_complaints { x9 = true }

-- this text with these complaints, where the text is within the limit; the fault of the limit exactly where it is longer; want of
-- memory says nothing
abbrev pub Answers : Result Answer Fault → List ℕ → Complaints → Type 0
Answers (Ok answer) text complaints = (answer.text.items ≡ text) × (answer.complaints ≡ complaints) × (length text ≤ greatest_string)
Answers (Err Memory) text complaints = Unit {0}
Answers (Err StringLimit) text complaints = greatest_string < length text
Answers (Err _) text complaints = ⊥
