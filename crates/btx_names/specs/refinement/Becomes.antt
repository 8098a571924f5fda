-- What becomes of a text that is added to.
use Rattle.std.specs.Prelude.{◌≡◌, ℕ, ◌<◌, Bool, true, false, List, length, Result, Ok, Err}
use Rattle.btx_text.specs.declared.fault.Fault.{Fault}
use Rattle.btx_text.specs.declared.fault.Fault.TheVariants.{Memory, StringLimit}

-- it is now what was wanted; or that is longer than a limit; or memory was refused, which says nothing
abbrev pub Becomes : ℕ → Result (Unit {0}) Fault → List ℕ → List ℕ → Type 0
Becomes limit (Ok done) new wanted = new ≡ wanted
Becomes limit (Err Memory) new wanted = Unit {0}
Becomes limit (Err StringLimit) new wanted = limit < length wanted
Becomes limit (Err _) new wanted = ⊥

-- a text is written in a format that is legal or not, as far as the first item that is illegal: it is what was wanted; or such an item was
-- met; or what was wanted is longer than a limit; or memory was refused, which says nothing
abbrev pub WritesUntilIllegal : ℕ → Bool → Result Bool Fault → List ℕ → List ℕ → Type 0
WritesUntilIllegal limit is_legal (Ok true) text wanted = (is_legal ≡ true) × (text ≡ wanted)
WritesUntilIllegal limit is_legal (Ok false) text wanted = is_legal ≡ false
WritesUntilIllegal limit is_legal (Err Memory) text wanted = Unit {0}
WritesUntilIllegal limit is_legal (Err StringLimit) text wanted = limit < length wanted
WritesUntilIllegal limit is_legal (Err _) text wanted = ⊥

-- a text is written in a format: where that is legal, it is what was wanted, or that is longer than a limit; where not, the answer says so; or
-- memory was refused, which says nothing
abbrev pub WritesLegal : ℕ → Bool → Result Bool Fault → List ℕ → List ℕ → Type 0
WritesLegal limit is_legal (Ok true) text wanted = (is_legal ≡ true) × (text ≡ wanted)
WritesLegal limit is_legal (Ok false) text wanted = is_legal ≡ false
WritesLegal limit is_legal (Err Memory) text wanted = Unit {0}
WritesLegal limit is_legal (Err StringLimit) text wanted = (is_legal ≡ true) × (limit < length wanted)
WritesLegal limit is_legal (Err _) text wanted = ⊥
