use Rattle.btx_machine.proofs.journal.counted_since.Given as goal

abbrev pub ghost-of : goal.ghost-of
ghost-of g a = record { noted = g.L.LogSink.noted a.seen.now.0.now; counts = a.seen.now.1 }
