-- What a breaker of long lines is and does.
use Rattle.std.specs.Prelude.{◌≡◌, ℕ, Bool, true, false, List, [], ◌++◌, Option, None, Some}
use Rattle.std.specs.Io.KnownBytes.{Appends}
use Rattle.btx_out.specs.language.Pieces.{AppendsPrefix}
use Rattle.btx_out.specs.language.Breaking.{committed, wrap}
use Rattle.btx_out.specs.laws.Breaking.{Left, Collecting, left}
use Rattle.btx_out.specs.language.Breakers.{written_at_end}

-- a breaker: the greatest length of a line, and what is left of the pending line; None after a failed write
pub record Held : Type 0 where
  pub line_length : ℕ
  pub pending : Option Left

-- a breaker of lines up to a length, with this left of the pending line
abbrev pub holding : ℕ → Left → Held
holding line_length state = record { line_length = line_length; pending = Some state }

-- a breaker of lines up to a length that has failed
abbrev pub failed : ℕ → Held
failed line_length = record { line_length = line_length; pending = None }

-- known bytes grow from one text to a longer one that it begins
pub record AppendsRest (old new : Option (List ℕ)) (done whole : List ℕ) : Type 0 where
  pub written : List ℕ
  pub joined : done ++ written ≡ whole
  pub received : Appends old new written

-- known bytes grow from one text to a prefix of a longer one that it begins
pub record AppendsPartOfRest (old new : Option (List ℕ)) (done whole : List ℕ) : Type 0 where
  pub written : List ℕ
  pub joined : done ++ written ≡ whole
  pub received : AppendsPrefix old new written

-- What comes of a pending line: for every text of which the breaker holds what is left, it then holds what is left of the text and
-- the new bytes together, and their sure bytes were written, those of the text before and the rest now.
abbrev pub Puts : Held → Held → List ℕ → Option (List ℕ) → Option (List ℕ) → Type 0
Puts old new bytes before after = (text : List ℕ) → old.pending ≡ Some (left old.line_length text) →
    (new ≡ holding old.line_length (left old.line_length (text ++ bytes)))
    × AppendsRest before after (committed old.line_length text) (committed old.line_length (text ++ bytes))

-- At a failure a prefix of those bytes was written.
abbrev pub PutsPart : Held → List ℕ → Option (List ℕ) → Option (List ℕ) → Type 0
PutsPart old bytes before after = (text : List ℕ) → old.pending ≡ Some (left old.line_length text) →
    AppendsPartOfRest before after (committed old.line_length text) (committed old.line_length (text ++ bytes))

-- What comes of a pending line that ends in these lines: for every text of which the breaker holds what is left, the lines of that text
-- were written, what of them was sure before and the rest now.
abbrev pub EndsAs : (ℕ → List ℕ → List ℕ) → Held → Option (List ℕ) → Option (List ℕ) → Type 0
EndsAs lines_of old before after = (text : List ℕ) → old.pending ≡ Some (left old.line_length text) →
    AppendsRest before after (committed old.line_length text) (lines_of old.line_length text)

-- At a failure a prefix of that was written.
abbrev pub EndsPartAs : (ℕ → List ℕ → List ℕ) → Held → Option (List ℕ) → Option (List ℕ) → Type 0
EndsPartAs lines_of old before after = (text : List ℕ) → old.pending ≡ Some (left old.line_length text) →
    AppendsPartOfRest before after (committed old.line_length text) (lines_of old.line_length text)

-- a line that ends
abbrev pub Ends : Held → Option (List ℕ) → Option (List ℕ) → Type 0
Ends old before after = EndsAs wrap old before after

abbrev pub EndsPart : Held → Option (List ℕ) → Option (List ℕ) → Type 0
EndsPart old before after = EndsPartAs wrap old before after

-- the same at the very end, where an empty line isn't written
abbrev pub Finishes : Held → Option (List ℕ) → Option (List ℕ) → Type 0
Finishes old before after = EndsAs written_at_end old before after

abbrev pub FinishesPart : Held → Option (List ℕ) → Option (List ℕ) → Type 0
FinishesPart old before after = EndsPartAs written_at_end old before after

-- nothing is pending
abbrev pub is_fresh : Option Left → Bool
is_fresh (Some (Collecting [])) = true
is_fresh _ = false
