use Rattle.std.proofs.Common.{◌≡◌, ℕ, List, drop}
use Rattle.std.specs.Option.{option_or}
use Rattle.btx_c.specs.CallerFiles.{known}
use Rattle.btx_c.specs.Known.{said_in}
use Rattle.btx_c.proofs.index.Index.new.Given as goal

-- what the table says of a name, or else the files that are still to come, is what all files say
abbrev pub invariant-loop-file : goal.invariant-loop-file
invariant-loop-file l = (name : List ℕ) → option_or (said_in l.by_name.entries name) (known (drop l.file-index l.files) name) ≡ known l.files name
