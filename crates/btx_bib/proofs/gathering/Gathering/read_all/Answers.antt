use Rattle.std.proofs.Common.{◌≡◌, ◌∙◌, ◌++◌, ap, sym, drop, [], List, append-nil}
use Rattle.std.proofs.lemmas.List.{drop_all}
use Rattle.btx_bib.specs.refinement.Pairs.{BorrowedPair, databases_of_pairs}
use Rattle.btx_bib.specs.refinement.Readings.{kept_by_all, messages_of_all}
use Rattle.btx_bib.specs.refinement.Requests.{wanted}
use Rattle.btx_bib.proofs.AlongLemmas.{all-next, all-logged-next}
use Rattle.btx_bib.proofs.gathering.Gathering.read_all.Goals as goal

pub loop-database-preserved : goal.loop-database-preserved
loop-database-preserved c =
    let asked = wanted c.args.request.now in
    let pairs = c.args.databases.now in
    let place = c.loop-database.database-index in
    record {
      state = all-next asked pairs place _ c.loop-database.self c.read_one.new.self c.loop-database-test.true c.in_ok-read_one.ensures.state
          ∙ c.loop-database.invariant.state;
      logged = all-logged-next asked pairs place _ c.loop-database.self c.read_one.new.self c.loop-database-test.true c.in_ok-read_one.ensures.state
          c.loop-database.messages c.read_one.new.messages c.in_ok-read_one.ensures.logged ∙ c.loop-database.invariant.logged;
    }

pub returns-clause-state : goal.returns-clause-state
returns-clause-state c =
    let asked = wanted c.args.request.now in
    let none : drop c.loop-database.database-index c.args.databases.now ≡ [] = drop_all c.loop-database.database-index c.args.databases.now c.loop-database-test.false in
    ap (λ (ss : List BorrowedPair). kept_by_all asked c.loop-database.self (databases_of_pairs ss)) (sym none) ∙ c.loop-database.invariant.state

pub returns-clause-logged : goal.returns-clause-logged
returns-clause-logged c =
    let asked = wanted c.args.request.now in
    let none : drop c.loop-database.database-index c.args.databases.now ≡ [] = drop_all c.loop-database.database-index c.args.databases.now c.loop-database-test.false in
    sym (append-nil c.loop-database.messages)
    ∙ ap (λ (ss : List BorrowedPair). c.loop-database.messages ++ messages_of_all asked c.loop-database.self (databases_of_pairs ss)) (sym none)
    ∙ c.loop-database.invariant.logged
