use Rattle.btx_out.proofs.breaker.take_some.Goals as goal

pub returns-in-Swallowing-clause-fits : goal.returns-in-Swallowing-clause-fits
returns-in-Swallowing-clause-fits g c = c.drop_leading_whitespace.ensures.fits c.args.line_length c.requires.range c.requires.kept
