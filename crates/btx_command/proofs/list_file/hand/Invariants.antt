use Rattle.std.specs.Prelude.{length}
use Rattle.btx_out.specs.language.Writes.{is_failed_write}
use Rattle.btx_command.specs.Acts.{taken}
use Rattle.btx_command.proofs.list_file.hand.Given as goal

abbrev pub ghost-and : goal.ghost-and
ghost-and g a = taken a.seen.now.1.now a.seen.now.0.now

abbrev pub ghost-and-2 : goal.ghost-and-2
ghost-and-2 g a = is_failed_write a.seen.now.1.now (length a.seen.now.0.now)
