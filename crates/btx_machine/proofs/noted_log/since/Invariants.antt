use Rattle.btx_machine.proofs.noted_log.since.Given as goal

abbrev pub ghost-of : goal.ghost-of
ghost-of g a = record { received = g.L.Sink.received a.seen.now.0.now; noted = g.N.Notebook.noted a.seen.now.1.now }
