use Rattle.std.proofs.Common.{◌≡◌, ◌++◌, drop}
use Rattle.btx_bib.specs.refinement.Pairs.{databases_of_pairs}
use Rattle.btx_bib.specs.refinement.Readings.{kept_by_all, messages_of_all}
use Rattle.btx_bib.specs.refinement.Requests.{wanted}
use Rattle.btx_bib.proofs.gathering.Gathering.read_all.Given as goal

-- the databases that are left do the rest
abbrev pub invariant-loop-database : goal.invariant-loop-database
invariant-loop-database l =
    let asked = wanted l.request in
    record {
      state : kept_by_all asked l.self (databases_of_pairs (drop l.database-index l.databases)) ≡ kept_by_all asked l.initial.self (databases_of_pairs l.databases);
      logged : l.messages ++ messages_of_all asked l.self (databases_of_pairs (drop l.database-index l.databases)) ≡ l.initial.messages
          ++ messages_of_all asked l.initial.self (databases_of_pairs l.databases);
    }
