use Rattle.std.proofs.Common.{◌≡◌, ◌++◌, ◌+◌, ◌-◌, ◌∙◌, ℕ, List, sym, ap, arith, min, length, get_or, drop, append_assoc}
use Rattle.std.specs.List.{flat_map}
use Rattle.btx_names.specs.language.FormattedNames.{initial_of}
use Rattle.btx_names.specs.refinement.NameTokens.{tokens_in}
use Rattle.btx_names.specs.refinement.Places.{bytes_at}
use Rattle.btx_names.proofs.PartLemmas.{held_at, no_token, one_turn_more}
use Rattle.btx_names.proofs.pieces.push_initials.Goals as goal

pub initial_of-requires : goal.initial_of-requires
initial_of-requires c = held_at c.args.part.bytes.now c.args.part.tokens.now c.loop-place.place no_token c.loop-place-test.true c.args.part.held

pub loop-place-preserved : goal.loop-place-preserved
loop-place-preserved c =
    let mode = c.args.writer.now.mode in
    let bytes = c.args.part.bytes.now in
    let tokens = c.args.part.tokens.now in
    let place = c.loop-place.place in
    let next = place + (1 + c.min.result) in
    let token = get_or tokens place no_token in
    let kept = c.loop-place.invariant in
    let old = c.loop-place.writer.text.items in
    let rest = flat_map (λ token. initial_of mode token.text) (tokens_in bytes (drop next tokens)) in
    let added : c.push.new.self.text.items ≡ old ++ initial_of mode (bytes_at bytes token.text) =
    rw (c.initial_of.ensures, c.mode.ensures, kept.mode) at c.in_ok-push.ensures.text in
    let passed : next ≡ place + (1 + min token.bare_behind (length tokens - 1 - place)) =
    ap (λ n. place + (1 + n)) c.min.ensures in
    let turn = one_turn_more mode bytes tokens place next no_token c.loop-place-test.true c.args.part.held c.args.part.counted passed in
    record {
      inside = omega (arith, passed);
      start = c.in_ok-push.ensures.start ∙ kept.start;
      mode = c.in_ok-push.ensures.mode ∙ kept.mode;
      text = ap (λ (t : List ℕ). t ++ rest) added ∙ append_assoc old (initial_of mode (bytes_at bytes token.text)) rest
          ∙ ap (λ (t : List ℕ). old ++ t) (sym turn) ∙ kept.text;
    }
