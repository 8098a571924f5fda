use Rattle.std.proofs.Common.{refl, rules, ◌≡◌, None, Some}
use Rattle.btx_aux.specs.declared.end.End.TheVariants as aux
use Rattle.btx_aux.proofs.AnswerLemmas.{by_map, by_none}
use Rattle.btx_run.specs.refinement.Files.Counts.{counts_at}
use Rattle.btx_run.specs.refinement.Files.Asked.{names_in}
use Rattle.btx_run.proofs.AskedLemmas.{among-named, among-none}
use Rattle.btx_run.proofs.ReadingLemmas.{after_long, after_many, after_named, after_none, after_unnamed, reads_is}
use Rattle.btx_run.proofs.MetLemmas.{hands_nothing, part_same}
use Rattle.btx_run.proofs.files.reading.after_job.Goals as goal

pub returns-in-Some-clause-reads : goal.returns-in-Some-clause-reads
returns-in-Some-clause-reads g c =
    let whole : c.args.job.now.ending ≡ aux.Whole = search rules in
    let is : c.args.job.now.style ≡ Some c.in-Some.name.now = search (rules, c.in-Some.ensures) in
    by_map c.find_style.ensures.reads (among-named c.args.job.now c.in-Some.name.now is)
    (λ files read. reads_is c.find_style.result (counts_at c.args.journal.now, counts_at c.find_style.new.journal) (
      c.args.journal.now.sink.received,
      c.find_style.new.journal.sink.received,
    ) _ _
    (after_named files c.args.job.now c.args.job.now.ending c.in-Some.name.now whole is) read)

pub returns-in-None-clause-reads : goal.returns-in-None-clause-reads
returns-in-None-clause-reads g c =
    let whole : c.args.job.now.ending ≡ aux.Whole = search rules in
    let is : c.args.job.now.style ≡ None = search (rules, c.in-None.ensures) in
    by_none refl (among-none (names_in c.args.job.now))
    (λ files. after_unnamed files c.args.job.now c.args.job.now.ending (counts_at c.args.journal.now) c.args.journal.now.sink.received whole is)

pub returns-in-TooManyOpen-clause-reads : goal.returns-in-TooManyOpen-clause-reads
returns-in-TooManyOpen-clause-reads g c =
    let is : c.args.job.now.ending ≡ aux.TooManyOpen = search rules in
    by_none refl (among-none (names_in c.args.job.now))
    (λ files. after_many files c.args.job.now c.args.job.now.ending (counts_at c.args.journal.now) c.args.journal.now.sink.received is)

pub returns-in-TopMissing-clause-reads : goal.returns-in-TopMissing-clause-reads
returns-in-TopMissing-clause-reads g c =
    let is : c.args.job.now.ending ≡ aux.TopMissing = search rules in
    by_none refl (among-none (names_in c.args.job.now))
    (λ files. after_none files c.args.job.now c.args.job.now.ending (counts_at c.args.journal.now) c.args.journal.now.sink.received is)

pub returns-in-FileLimit-clause-reads : goal.returns-in-FileLimit-clause-reads
returns-in-FileLimit-clause-reads g c =
    let is : c.args.job.now.ending ≡ aux.FileLimit = search rules in
    by_none refl (among-none (names_in c.args.job.now))
    (λ files. after_long files c.args.job.now c.args.job.now.ending (counts_at c.args.journal.now) c.args.journal.now.sink.received is)

pub returns-in-Some-clause-met : goal.returns-in-Some-clause-met
returns-in-Some-clause-met g c =
    let whole : c.args.job.now.ending ≡ aux.Whole = search rules in
    let is : c.args.job.now.style ≡ Some c.in-Some.name.now = search (rules, c.in-Some.ensures) in
    by_map c.find_style.ensures.met (among-named c.args.job.now c.in-Some.name.now is)
    (λ files hands. part_same c.args.journal.now c.find_style.new.journal _ _
    (after_named files c.args.job.now c.args.job.now.ending c.in-Some.name.now whole is) hands)

pub returns-in-None-clause-met : goal.returns-in-None-clause-met
returns-in-None-clause-met g c = by_none refl (among-none (names_in c.args.job.now)) (λ files. hands_nothing c.args.journal.now _)

pub returns-in-TooManyOpen-clause-met : goal.returns-in-TooManyOpen-clause-met
returns-in-TooManyOpen-clause-met g c = by_none refl (among-none (names_in c.args.job.now)) (λ files. hands_nothing c.args.journal.now _)

pub returns-in-TopMissing-clause-met : goal.returns-in-TopMissing-clause-met
returns-in-TopMissing-clause-met g c = by_none refl (among-none (names_in c.args.job.now)) (λ files. hands_nothing c.args.journal.now _)

pub returns-in-FileLimit-clause-met : goal.returns-in-FileLimit-clause-met
returns-in-FileLimit-clause-met g c = by_none refl (among-none (names_in c.args.job.now)) (λ files. hands_nothing c.args.journal.now _)
