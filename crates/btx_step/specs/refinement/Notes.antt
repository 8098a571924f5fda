-- The place after a message as the code's clauses have it.
use Rattle.std.specs.Prelude.{ℕ, Bool, List, [], Option, if◌then◌else◌}
use Rattle.btx_step.specs.language.Notes.{place_of}

-- the end of a message: the function that is executed and the key of the entry, if the message has a place
abbrev pub place_if : Bool → List ℕ → Option (List ℕ) → List ℕ
place_if follows executed key = if follows then place_of executed key else []
