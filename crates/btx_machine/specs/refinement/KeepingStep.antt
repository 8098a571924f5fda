-- What holds after a fault, part by part.
use Rattle.std.specs.Prelude.{◌⊎◌, ℕ}
use Rattle.std.specs.Io.KnownBytes.{Appends}
use Rattle.btx_out.specs.language.Pieces.{AppendsPrefix}
use Rattle.btx_machine.specs.language.Product.{Product}
use Rattle.btx_machine.specs.language.KeepingStep.{Received, BothBegin, WithinOneStep}

-- the log's last line comes only after the whole list: the list was written to its end, or nothing of that line was written
abbrev pub LastLineBehindList : Received → Received → Product → Type 0
LastLineBehindList before after product = Appends before.0 after.0 product.bbl ⊎ AppendsPrefix before.1 after.1 product.log_so_far

-- the two outputs keep step: both are prefixes of what a run without a step writes, or both broke off within the same step
abbrev pub KeepsStep : Received → Received → (ℕ → Product) → ℕ → Type 0
KeepsStep before after make budget = BothBegin before after (make 0) ⊎ WithinOneStep before after make budget
