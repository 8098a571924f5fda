use Rattle.std.proofs.Common.{rules, ◌∙◌, ◌+◌, [], List, refl, subst}
use Rattle.std.proofs.lemmas.List.{take_all}
use Rattle.btx_aux.specs.refinement.Answers.{ByAnswers}
use Rattle.btx_aux.specs.refinement.Entries.{Bytes, texts_of}
use Rattle.btx_aux.proofs.AnswerLemmas.{by_both, by_none}
use Rattle.btx_run.specs.refinement.Files.Counts.{counts_at}
use Rattle.btx_run.specs.refinement.Files.Asked.{AreAmong}
use Rattle.btx_run.specs.refinement.Files.Readings.{IsRead, databases_read}
use Rattle.btx_run.proofs.AskedLemmas.{among-all, among-more, among-none}
use Rattle.btx_run.proofs.ReadingLemmas.{databases_begin, databases_more, no_database, reads_failing}
use Rattle.btx_run.specs.refinement.Files.Places.{HandsOf}
use Rattle.btx_run.proofs.MetLemmas.{by_with, database_met, databases_met, hands_nothing}
use Rattle.btx_run.proofs.files.databases.find_databases.Goals as goal

pub returns-in_err-add_database-clause-reads : goal.returns-in_err-add_database-clause-reads
returns-in_err-add_database-clause-reads g c =
    by_both c.loop-name.invariant.stays c.loop-name.invariant.read c.in_err-add_database.ensures.adds
    (among-all c.args.names.now c.loop-name.name-index c.name-item.result c.as_slice.result.now c.loop-name-test.true c.name-item.is c.as_slice.ensures.value)
    (λ files read part. reads_failing c.from_residual.result _ _ _ _ _ (search rules)
    (databases_begin files c.args.names.now c.loop-name.name-index c.name-item.result c.as_slice.result.now _ _ _ _ _ _ c.loop-name-test.true c.name-item.is
    c.as_slice.ensures.value read part))

pub returns-clause-reads : goal.returns-clause-reads
returns-clause-reads g c =
    let finder = g.F.Finder in
    subst (λ (names : List Bytes). ByAnswers (finder.content c.args.finder.now) (finder.answers c.args.finder.now) (finder.answers c.loop-name.finder)
    (λ asked. AreAmong asked (texts_of names)) (λ files.
    IsRead c.loop-name.found (counts_at c.args.journal.now, counts_at c.loop-name.journal) (c.args.journal.now.sink.received, c.loop-name.journal.sink.received)
    (databases_read files (texts_of names))))
    (take_all c.loop-name.name-index c.args.names.now c.loop-name-test.false) c.loop-name.invariant.read

pub loop-name-init : goal.loop-name-init
loop-name-init g c = record {
  read = by_none refl (among-none []) (λ files. no_database files c.new-found.result _ _ c.new-found.ensures);
  met = by_none refl (among-none []) (λ files. hands_nothing c.args.journal.now _);
  stays = refl;
  fetches = refl;
  sink = refl;
  writes = refl;
  joined = refl;
  wholeness = refl;
}

pub loop-name-preserved : goal.loop-name-preserved
loop-name-preserved g c = record {
  read =
      by_both c.loop-name.invariant.stays c.loop-name.invariant.read c.in_ok-add_database.ensures.adds
      (among-more c.args.names.now c.loop-name.name-index c.name-item.result c.as_slice.result.now c.loop-name-test.true c.name-item.is
      c.as_slice.ensures.value)
      (λ files read added. databases_more files c.args.names.now c.loop-name.name-index c.name-item.result c.as_slice.result.now _ _ _ _ _ _ _ _
      c.loop-name-test.true c.name-item.is c.as_slice.ensures.value read added);
  met =
      by_both c.loop-name.invariant.stays (by_with c.loop-name.invariant.read c.loop-name.invariant.met) c.add_database.ensures.met
      (among-more c.args.names.now c.loop-name.name-index c.name-item.result c.as_slice.result.now c.loop-name-test.true c.name-item.is c.as_slice.ensures.value)
      (λ files so_far next. database_met files c.args.names.now c.loop-name.name-index c.name-item.result c.as_slice.result.now c.loop-name.found
      c.args.journal.now c.loop-name.journal c.add_database.new.journal c.loop-name-test.true c.name-item.is c.as_slice.ensures.value so_far.0.gives so_far.1 next);
  stays = c.add_database.ensures.stays ∙ c.loop-name.invariant.stays;
  fetches = search rules;
  sink = c.add_database.ensures.counts.0 ∙ c.loop-name.invariant.sink;
  writes = search rules;
  joined = c.add_database.ensures.counts.2 ∙ c.loop-name.invariant.joined;
  wholeness = search rules;
}

pub returns-in_err-add_database-clause-met : goal.returns-in_err-add_database-clause-met
returns-in_err-add_database-clause-met g c =
    by_both c.loop-name.invariant.stays (by_with c.loop-name.invariant.read c.loop-name.invariant.met) c.add_database.ensures.met
    (among-all c.args.names.now c.loop-name.name-index c.name-item.result c.as_slice.result.now c.loop-name-test.true c.name-item.is c.as_slice.ensures.value)
    (λ files so_far next. databases_met files c.args.names.now (c.loop-name.name-index + 1) c.args.journal.now c.add_database.new.journal
    (database_met files c.args.names.now c.loop-name.name-index c.name-item.result c.as_slice.result.now c.loop-name.found
    c.args.journal.now c.loop-name.journal c.add_database.new.journal c.loop-name-test.true c.name-item.is c.as_slice.ensures.value so_far.0.gives so_far.1 next))

pub returns-clause-met : goal.returns-clause-met
returns-clause-met g c =
    let finder = g.F.Finder in
    subst (λ (names : List Bytes). ByAnswers (finder.content c.args.finder.now) (finder.answers c.args.finder.now) (finder.answers c.loop-name.finder)
    (λ asked. AreAmong asked (texts_of names)) (λ files. HandsOf c.args.journal.now c.loop-name.journal (databases_read files (texts_of names)).lines))
    (take_all c.loop-name.name-index c.args.names.now c.loop-name-test.false) c.loop-name.invariant.met
