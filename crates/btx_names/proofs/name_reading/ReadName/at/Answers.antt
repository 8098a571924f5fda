use Rattle.std.proofs.Common.{◌≡◌, ◌<◌, ◌+◌, ◌-◌, ◌∙◌, false, true, get_or, length, drop, sym, arith}
use Rattle.std.proofs.lemmas.Bool.{ne_eqb}
use Rattle.std.proofs.lemmas.List.{take_rest}
use Rattle.std.proofs.lemmas.List.Elements.{All-nil}
use Rattle.btx_names.specs.declared.runs.Stop.TheVariants.{Break}
use Rattle.btx_names.specs.language.NameLists.{is_separator}
use Rattle.btx_names.specs.language.Runs.{is_break, run_len}
use Rattle.btx_names.specs.refinement.NameTokens.{Hold, tokens_in}
use Rattle.btx_names.proofs.PartLemmas.{tokens_counted}
use Rattle.btx_names.proofs.ReadingLemmas.{read_ordered, reads_nothing, reads_break, reads_comma, reads_token, reads_separator, reads_all, token_is_some}
use Rattle.btx_names.proofs.ReadingLemmas.{token_is_inside, name_is_read}
use Rattle.btx_names.proofs.name_reading.ReadName.at.Goals as goal
use Rattle.btx_names.proofs.name_reading.ReadName.at.Goals.{then-names-place-eq44, else-names-place-eq44}

pub loop-place-init : goal.loop-place-init
loop-place-init c =
    let draft = c.new-draft.result in
    record {
      reads = rw (c.new-draft.ensures.tokens, c.new-draft.ensures.commas, c.new-draft.ensures.followed)
          (reads_nothing c.args.names.now c.args.from draft.before_first draft.before_second c.requires);
      held = rw c.new-draft.ensures.tokens (All-nil (Hold c.args.names.now));
    }

pub overflow_add-place : goal.overflow_add-place
overflow_add-place c =
    let names = c.args.names.now in
    let place = c.loop-place.place in
    let is : c.in_ok-place.field-0 ≡ run_len Break 0 (drop place names) = c.in_ok-place.ensures.len in
    let inside = token_is_inside names place c.loop-place.invariant.reads.inside in
    omega (arith, is, inside)

pub loop-place-smaller-then-not-is_break : goal.loop-place-smaller-then-not-is_break
loop-place-smaller-then-not-is_break c =
    let names = c.args.names.now in
    let place = c.loop-place.place in
    let none : is_break (get_or names place 0) ≡ false = sym c.is_break.ensures ∙ c.if-not-is_break.true in
    let is : c.in_ok-place.field-0 ≡ run_len Break 0 (drop place names) = c.in_ok-place.ensures.len in
    let some = token_is_some names place c.loop-place-test.true none in
    let smaller : length names - (place + c.in_ok-place.field-0) < length names - place = omega (arith, is, some, c.loop-place-test.true) in
    smaller

pub loop-place-preserved-then-not-is_break : goal.loop-place-preserved-then-not-is_break
loop-place-preserved-then-not-is_break c =
    let names = c.args.names.now in
    let place = c.loop-place.place in
    let draft = c.loop-place.draft in
    let none : is_break (get_or names place 0) ≡ false = sym c.is_break.ensures ∙ c.if-not-is_break.true in
    let more = reads_token names c.args.from place c.in_ok-place.field-0 (tokens_in names draft.tokens.items) draft.commas draft.followed draft.before_first
    draft.before_second
    c.loop-place-test.true none c.in_ok-place.ensures.len c.loop-place.invariant.reads in
    record {
      reads = rw (c.in_ok-place.ensures.tokens, c.in_ok-place.ensures.followed) more;
      held = c.in_ok-place.ensures.held;
    }

pub ended-requires-clause-ordered : goal.ended-requires-clause-ordered
ended-requires-clause-ordered c =
    let reads = c.loop-place.invariant.reads in
    read_ordered _ _ _ _ _ _ _ reads.is

pub returns-then-separates : goal.returns-then-separates
returns-then-separates c =
    let names = c.args.names.now in
    let place = c.loop-place.place in
    let draft = c.loop-place.draft in
    let breaks : is_break (get_or names place 0) ≡ true = sym c.is_break.ensures ∙ c.if-not-is_break.false in
    let separator : is_separator (drop place names) ≡ true = sym (rw (take_rest names place) at c.separates.ensures) ∙ c.if-separates.true in
    let end = reads_separator names c.args.from place (tokens_in names draft.tokens.items) draft.commas draft.followed draft.before_first draft.before_second
    c.loop-place-test.true breaks separator c.loop-place.invariant.reads in
    let ended = c.ended.ensures in
    name_is_read names c.args.from (place + 1) draft.tokens.items draft.commas draft.followed draft.before_first draft.before_second c.ended.result
    end.0 end.1 c.loop-place.invariant.held ended.place ended.tokens ended.held ended.commas ended.surname ended.jr ended.ending ended.third

pub loop-place-preserved : goal.loop-place-preserved
loop-place-preserved c =
    let names = c.args.names.now in
    let place = c.loop-place.place in
    let draft = c.loop-place.draft in
    let reads = c.loop-place.invariant.reads in
    let breaks : is_break (get_or names place 0) ≡ true = sym c.is_break.ensures ∙ c.if-not-is_break.false in
    let none : is_separator (drop place names) ≡ false = sym (rw (take_rest names place) at c.separates.ensures) ∙ c.if-separates.false in
    elim c.if-names-place-eq44.branch [
      | then-names-place-eq44 w ↦ record {
        reads = rw (w.draft-is, w.comma.ensures) (reads_comma names c.args.from place (tokens_in names draft.tokens.items) (length draft.tokens.items)
            draft.commas draft.followed draft.before_first draft.before_second
            c.loop-place-test.true none w.if-names-place-eq44.true (tokens_counted names draft.tokens.items) reads);
        held = rw (w.draft-is, w.comma.ensures) c.loop-place.invariant.held;
      }
      | else-names-place-eq44 w ↦ record {
        reads = rw w.draft-is (reads_break names c.args.from place (tokens_in names draft.tokens.items) draft.commas draft.followed draft.before_first
            draft.before_second
            c.loop-place-test.true breaks none (ne_eqb _ _ w.if-names-place-eq44.false) reads);
        held = rw w.draft-is c.loop-place.invariant.held;
      }
    ]

pub ended-requires-2-clause-ordered : goal.ended-requires-2-clause-ordered
ended-requires-2-clause-ordered c =
    let reads = c.loop-place.invariant.reads in
    read_ordered _ _ _ _ _ _ _ reads.is

pub returns : goal.returns
returns c =
    let names = c.args.names.now in
    let place = c.loop-place.place in
    let draft = c.loop-place.draft in
    let end = reads_all names c.args.from place (tokens_in names draft.tokens.items) draft.commas draft.followed draft.before_first draft.before_second
    c.loop-place-test.false c.loop-place.invariant.reads in
    let ended = c.ended-2.ensures in
    name_is_read names c.args.from (length names) draft.tokens.items draft.commas draft.followed draft.before_first draft.before_second c.ended-2.result
    end.0 end.1 c.loop-place.invariant.held ended.place ended.tokens ended.held ended.commas ended.surname ended.jr ended.ending ended.third
