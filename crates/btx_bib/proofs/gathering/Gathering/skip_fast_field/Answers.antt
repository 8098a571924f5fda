use Rattle.btx_bib.proofs.gathering.Gathering.skip_fast_field.Goals as goal

pub returns-clause-state : goal.returns-clause-state
returns-clause-state c = c.in_ok-pass_unwanted.ensures.state

pub returns-clause-logged : goal.returns-clause-logged
returns-clause-logged c = c.in_ok-pass_unwanted.ensures.logged

pub returns-clause-shorter : goal.returns-clause-shorter
returns-clause-shorter c = c.in_ok-pass_unwanted.ensures.shorter
