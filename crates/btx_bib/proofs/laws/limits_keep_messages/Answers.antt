use Rattle.btx_bib.proofs.LimitLemmas.{long_database_ends, macros_go_on, messages-stay}
use Rattle.btx_bib.proofs.laws.limits_keep_messages.Goals as goal

pub returns : goal.returns
returns c = record { macros = macros_go_on; messages = messages-stay; databases = long_database_ends }
