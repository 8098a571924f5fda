use Rattle.std.proofs.Common.{◌∙◌, ◌++◌, List, ℕ, length, ap, sym, arith}
use Rattle.btx_bib.specs.declared.grammar.commands.Expected.{Expected as Next}
use Rattle.btx_bib.specs.declared.message.Message.{Message}
use Rattle.btx_bib.specs.refinement.Gatherings.{all_kept, all_messages, is_kept}
use Rattle.btx_bib.specs.refinement.Grammar.PlainFields.{plain_step}
use Rattle.btx_bib.specs.language.Known.{goes_on}
use Rattle.btx_bib.specs.refinement.Grammar.Reads.{left}
use Rattle.btx_bib.specs.refinement.Requests.{wanted}
use Rattle.btx_bib.proofs.GrammarLemmas.PlainLemmas.{plain-next, plain-shorter}
use Rattle.btx_bib.proofs.GatheringLemmas.{turn-along, turn-logged}
use Rattle.btx_bib.proofs.gathering.Gathering.take_plain_fields.Goals as goal

pub loop-field-preserved : goal.loop-field-preserved
loop-field-preserved c =
    let asked = wanted c.args.request.now in
    let inv = c.loop-field.invariant in
    let kept = c.loop-field.self in
    let place = c.loop-field.reader in
    let field = c.in-Some.field in
    let after = c.take_fast_field.new.self in
    let stands = rw c.in-Some.is at c.plain_field.ensures.field in
    let taken = rw c.if-not-taken.false at c.in_ok-taken.ensures.state in
    let silent = c.in_ok-taken.ensures.logged c.if-not-taken.false in
    let next = plain-next (is_kept kept) place.0 place.1 field stands in
    let less = plain-shorter (is_kept kept) place.0 place.1 field stands in
    let same = ap (λ (r : Next × List ℕ). left r.0 (length r.1)) c.pass.ensures in
    record {
      whole = ap goes_on c.in_ok-taken.ensures.same ∙ inv.whole;
      state = ap (all_kept asked after) c.pass.ensures ∙ turn-along asked kept place.0 place.1 (plain_step place.0 field) after inv.whole next taken
          ∙ inv.state;
      logged = λ database.
          ap (all_messages asked database after) c.pass.ensures
          ∙ ap (λ (ms : List Message). ms ++ all_messages asked database after (place.0, field.value.rest.now)) (sym (silent database field.value.rest.now))
          ∙ turn-logged asked kept place.0 place.1 (plain_step place.0 field) after inv.whole next taken database
          ∙ inv.logged database;
      shorter = omega (arith, same, less, inv.shorter);
    }

pub loop-field-smaller : goal.loop-field-smaller
loop-field-smaller c =
    let stands = rw c.in-Some.is at c.plain_field.ensures.field in
    rw c.pass.ensures (plain-shorter (is_kept c.loop-field.self) c.loop-field.reader.0 c.loop-field.reader.1 c.in-Some.field stands)
