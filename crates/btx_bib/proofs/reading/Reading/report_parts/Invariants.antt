use Rattle.std.proofs.Common.{◌≡◌, option_copied}
use Rattle.btx_bib.specs.refinement.Sites.{database_read, reported}
use Rattle.btx_bib.specs.language.Messages.{value_messages}
use Rattle.btx_bib.proofs.reading.Reading.report_parts.Given as goal

-- the parts that are left give the rest
abbrev pub invariant-loop-part : goal.invariant-loop-part
invariant-loop-part l =
    reported l.self (value_messages (database_read l.self) l.strings (option_copied l.own) l.part-iterator)
    ≡ reported l.initial.self (value_messages (database_read l.initial.self) l.strings (option_copied l.own) l.initial.part-iterator)
