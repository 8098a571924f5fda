use Rattle.std.proofs.Common.{[], ◌∷◌, ◌++◌}
use Rattle.btx_c.proofs.noted.lines_with.Given as goal

abbrev pub ghost-of : goal.ghost-of
ghost-of a = a.seen.now.0.now.list ++ a.seen.now.1.now ∷ []
