-- What `format.name$` answers, in the parts that proofs and the code's clauses name.
use Rattle.std.specs.Prelude.{ℕ, Bool, true, not, List, [], Option}
use Rattle.std.specs.Option.{option_map_or}
use Rattle.btx_text.specs.declared.element_kind.TextMode.{TextMode}
use Rattle.btx_strings.specs.declared.answers.Complaints.{Complaints}
use Rattle.btx_strings.specs.language.Answers.{no_complaints}
use Rattle.btx_names.specs.language.Answered.{one_name_text, one_name_complaints}

-- the errors of `format.name$`: a comma at the name's end, a third comma, an illegal format
abbrev pub complaints_with : Bool → Bool → Bool → Complaints
complaints_with ends_in_comma has_third_comma is_legal =
    record no_complaints { x11 = ends_in_comma; x12 = has_third_comma; x13 = not is_legal }

-- the text of `format.name$`, given the name, if there is one; empty if there is none
abbrev pub text_of_answer : TextMode → Option (List ℕ) → List ℕ → List ℕ
text_of_answer mode name format = option_map_or (λ (name : List ℕ). one_name_text mode name format) name []

-- the errors of `format.name$`, given the name, if there is one; or that there is none
abbrev pub complaints_of_answer : Option (List ℕ) → List ℕ → Complaints
complaints_of_answer name format = option_map_or (λ (name : List ℕ). one_name_complaints name format) name (record no_complaints { x10 = true })
