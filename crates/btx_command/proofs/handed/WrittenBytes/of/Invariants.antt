use Rattle.btx_command.proofs.handed.WrittenBytes.of.Given as goal

abbrev pub ghost-and : goal.ghost-and
ghost-and a = a.seen.now.now
