use Rattle.std.specs.Prelude.{is_err}
use Rattle.btx_command.proofs.list_file.SystemFileEmptiedFile.empty.Given as goal

abbrev pub ghost-and : goal.ghost-and
ghost-and g a = is_err a.seen.now
