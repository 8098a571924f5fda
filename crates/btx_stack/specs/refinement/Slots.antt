-- How literals lie in memory: small slots, top first, and one pool of bytes, in which the strings that were made lie one after another, those of
-- the top slot at the end.
use Rattle.std.specs.Prelude.{◌≡◌, ◌≤◌, ◌-◌, ℕ, Bool, true, false, List, [], ◌∷◌, length, take, drop, if◌then◌else◌}
use Rattle.btx_text.specs.declared.limits.TheConstants.{MOST_LITERALS}
use Rattle.btx_text.specs.language.Limits.{greatest_string}
use Rattle.btx_code.specs.refinement.Ops.{callee_of, Runs}
use Rattle.btx_stack.specs.refinement.Content.{Content}
use Rattle.btx_stack.specs.refinement.Content as content
use Rattle.btx_stack.specs.declared.slot.SlotKind.{SlotKind}
use Rattle.btx_stack.specs.declared.slot.SlotKind.TheVariants as kind
use Rattle.btx_stack.specs.declared.slot.Slot.{Slot}

-- the greatest number of literals
abbrev pub greatest_stack : ℕ
greatest_stack = MOST_LITERALS

-- the greatest length of a string that was made and whose bytes are in the pool
abbrev pub greatest_short : ℕ
greatest_short = 1024

-- what a slot of a kind holds, whose bytes of the pool are `made`
abbrev pub content_as : SlotKind → Slot → List ℕ → Content
content_as kind.Integer v made = content.Integer v.integer
content_as kind.Function v made = content.Function (callee_of v.op v.number)
content_as kind.Missing v made = content.Missing
content_as kind.Lent v made = content.Text v.bytes.now
content_as kind.Made v made = content.Text made
content_as kind.Large v made = content.Large v.number

abbrev pub content_of : Slot → List ℕ → Content
content_of v made = content_as v.kind v made

-- what the slots hold, top first: each has the pool's bytes from its start on, and those below it have what stands before
abbrev pub contents_of : List Slot → List ℕ → List Content
contents_of [] pool = []
contents_of (v ∷ below) pool = content_of v (drop v.start pool) ∷ contents_of below (take v.start pool)

-- how many bytes of the pool a slot of a kind has: no kind but `Made` has any; a string of a file has at most a million bytes, and a function has an
-- op that runs it
abbrev pub HasBytes : SlotKind → Slot → ℕ → Type 0
HasBytes kind.Integer v n = n ≡ 0
HasBytes kind.Function v n = (n ≡ 0) × Runs v.op
HasBytes kind.Missing v n = n ≡ 0
HasBytes kind.Lent v n = (n ≡ 0) × (length v.bytes.now ≤ greatest_string)
HasBytes kind.Made v n = n ≤ greatest_short
HasBytes kind.Large v n = n ≡ 0

-- a slot fits on a pool whose bytes up to `size` are those of the slot and of what is below it
pub record SlotFits (v : Slot) (size : ℕ) : Type 0 where
  pub start : v.start ≤ size
  pub bytes : HasBytes v.kind v (size - v.start)

-- slots, top first, to which `size` bytes of the pool belong, and no more: with the last slot the last byte is gone
abbrev pub Stand : List Slot → ℕ → Type 0
Stand [] size = size ≡ 0
Stand (v ∷ below) size = SlotFits v size × Stand below v.start

-- a slot without bytes of the pool that begins at `from` and holds `shown`
pub record IsPlainSlot (v : Slot) (from : ℕ) (shown : Content) : Type 0 where
  pub begins : v.start ≡ from
  pub content : (made : List ℕ) → content_of v made ≡ shown
  pub bytes : HasBytes v.kind v 0

-- a string that was made, whose bytes begin at `from` in the pool
pub record IsMade (v : Slot) (from : ℕ) : Type 0 where
  pub begins : v.start ≡ from
  pub kind : v.kind ≡ kind.Made

-- a string whose bytes the slot or the pool knows
abbrev pub is_text_kind : SlotKind → Bool
is_text_kind kind.Lent = true
is_text_kind kind.Made = true
is_text_kind _ = false

-- a long string
abbrev pub is_large_kind : SlotKind → Bool
is_large_kind kind.Large = true
is_large_kind _ = false

abbrev pub are_large_kinds : SlotKind → SlotKind → Bool
are_large_kinds a b = if is_large_kind a then is_large_kind b else false

-- the bytes of such a string
abbrev pub text_as : SlotKind → Slot → List ℕ → List ℕ
text_as kind.Integer v made = []
text_as kind.Function v made = []
text_as kind.Missing v made = []
text_as kind.Lent v made = v.bytes.now
text_as kind.Made v made = made
text_as kind.Large v made = []

abbrev pub slot_text : Slot → List ℕ → List ℕ
slot_text v made = text_as v.kind v made
