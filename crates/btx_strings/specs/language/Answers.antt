-- What a string function answers beside its string: a `Complaints` has a Boolean for each thing that can be wrong with the operands. `x9`: the
-- conversion of `change.case$` isn't `t`, `l` or `u`. The others are of `format.name$`. `x10`: there is no name of this number. `x11`: the name has a
-- comma at its end. `x12`: it has a third comma. `x13`: the format is illegal. What of it is logged, and how, `changes_case` and `formats_name` say, in
-- `btx_step`.
use Rattle.std.specs.Prelude.{false}
use Rattle.btx_strings.specs.declared.answers.Complaints.{Complaints}

-- nothing was wrong with the operands
abbrev pub no_complaints : Complaints
no_complaints = record { x9 = false; x10 = false; x11 = false; x12 = false; x13 = false }
