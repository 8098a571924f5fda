use Rattle.std.proofs.Common.{rules, ◌≡◌, ◌∙◌, ◌++◌, ◌∷◌, [], List, None, Option, Some, ap, append-nil, sym}
use Rattle.btx_aux.proofs.AnswerLemmas.{by_map}
use Rattle.btx_core.specs.language.Files.Found.{NamedFile}
use Rattle.btx_run.specs.refinement.Files.Readings.{database_read}
use Rattle.btx_run.proofs.ReadingLemmas.{adds_begun, adds_found}
use Rattle.btx_run.proofs.LoggingLemmas.{logged_begins}
use Rattle.btx_run.proofs.files.databases.add_database.Goals as goal
use Rattle.std.specs.Prelude.{option_to_list}

kept_none : (before : List NamedFile) (found : Option NamedFile) → found ≡ None → before ≡ before ++ option_to_list found
kept_none before found none = sym (ap (λ found. before ++ option_to_list found) none ∙ append-nil before)

kept_one : (before after : List NamedFile) (found : Option NamedFile) (file : NamedFile) → found ≡ Some file → after ≡ before ++ file ∷ []
    → after ≡ before ++ option_to_list found
kept_one before after found file one is = is ∙ sym (ap (λ found. before ++ option_to_list found) one)

pub returns-in_err-database-clause-adds : goal.returns-in_err-database-clause-adds
returns-in_err-database-clause-adds g c =
    by_map c.in_err-database.ensures.reads (λ names among. among)
    (λ files part. adds_begun files c.args.found.now c.args.found.now c.next_number-number.result c.args.name.now c.from_residual.result _ _ _ _ (search rules)
    c.next_number-number.ensures part)

pub returns-in_err-push-in-Some-clause-adds : goal.returns-in_err-push-in-Some-clause-adds
returns-in_err-push-in-Some-clause-adds g c =
    by_map c.in_ok-database.ensures.reads (λ names among. among)
    (λ files read. adds_begun files c.args.found.now c.push.new.self c.next_number-number.result c.args.name.now c.from_residual-in_err-push-in-Some.result _ _
    _ _ (search rules) c.next_number-number.ensures
    (logged_begins _ _ _ _ (database_read files c.next_number-number.result c.args.name.now).lines [] read.logs))

pub returns-in_ok-push-in-Some-clause-adds : goal.returns-in_ok-push-in-Some-clause-adds
returns-in_ok-push-in-Some-clause-adds g c =
    by_map c.in_ok-database.ensures.reads (λ names among. among)
    (λ files read. adds_found files c.args.found.now c.push.new.self c.next_number-number.result c.args.name.now c.in_ok-database.field-0 _ _ _ _
    c.next_number-number.ensures
    (kept_one c.args.found.now c.push.new.self c.in_ok-database.field-0 c.in-Some.database c.in-Some.is c.in_ok-push-in-Some.ensures) read)

pub returns-in-None-clause-adds : goal.returns-in-None-clause-adds
returns-in-None-clause-adds g c =
    by_map c.in_ok-database.ensures.reads (λ names among. among)
    (λ files read. adds_found files c.args.found.now c.args.found.now c.next_number-number.result c.args.name.now c.in_ok-database.field-0 _ _ _ _
    c.next_number-number.ensures
    (kept_none c.args.found.now c.in_ok-database.field-0 c.in-None.is) read)
