use Rattle.std.proofs.Common.{◌≡◌, ◌-◌, ◌<◌, ◌≤◌, ◌∙◌, ℕ, List, length, drop, get_or, set, refl, arith}
use Rattle.std.specs.List.{All}
use Rattle.std.proofs.lemmas.List.{length-set}
use Rattle.std.proofs.lemmas.List.Elements.{All-set}
use Rattle.btx_names.specs.refinement.NameTokens.{Hold, tokens_in, lettered_of_bare}
use Rattle.btx_names.specs.declared.name_token.NameToken.{NameToken}
use Rattle.btx_names.proofs.PartLemmas.{no_token, held_at, set_same, one_counted, one_bare_more, none_counted, none_bare}
use Rattle.btx_names.proofs.token_list.count_bare.Goals as goal
use Rattle.btx_names.proofs.token_list.count_bare.Goals.{In-loop-place}

pub loop-place-init : goal.loop-place-init
loop-place-init c =
    record {
      inside = omega arith;
      same = λ bytes. refl;
      held = λ bytes held. held;
      counted = none_counted c.args.tokens.now;
      bare = none_bare;
    }

-- the token before, with the count of those after it
abbrev counted : In-loop-place → NameToken
counted c = record (get_or c.loop-place.tokens (c.loop-place.place - 1) no_token) { bare_behind = c.loop-place.bare }

-- the tokens with it
abbrev more : In-loop-place → List NameToken
more c = set c.loop-place.tokens (c.loop-place.place - 1) (counted c)

-- they are the same tokens, and are held as before; those from there on are counted
one_more : (c : In-loop-place) → ((bytes : List ℕ) → tokens_in bytes (more c) ≡ tokens_in bytes c.args.tokens.now)
    × ((bytes : List ℕ) → All (Hold bytes) c.args.tokens.now → All (Hold bytes) (more c))
    × (lettered_of_bare (drop (c.loop-place.place - 1) (more c)) ≡ 0)
one_more c =
    let kept = c.loop-place.invariant in
    let tokens = c.loop-place.tokens in
    let place = c.loop-place.place - 1 in
    let le : c.loop-place.place ≤ length tokens = omega arith in
    let lt : place < length tokens = omega arith in (
      λ bytes. set_same bytes tokens place no_token (counted c) lt refl ∙ kept.same bytes,
      λ bytes held. All-set (Hold bytes) tokens place (counted c) (held_at bytes tokens place no_token lt (kept.held bytes held)) (kept.held bytes held),
      one_counted tokens c.loop-place.place c.loop-place.bare (counted c) c.loop-place-test.true le refl kept.counted kept.bare,
    )

pub loop-place-preserved-then-tokens-place-eq0 : goal.loop-place-preserved-then-tokens-place-eq0
loop-place-preserved-then-tokens-place-eq0 c =
    let turn = (goal.at.loop-place-preserved-then-tokens-place-eq0 c).In-loop-place in
    let counts = one_more turn in
    let le : c.loop-place.place ≤ length c.loop-place.tokens = omega arith in
    let bare = one_bare_more c.loop-place.tokens c.loop-place.place c.loop-place.bare (counted turn) no_token c.loop-place-test.true le
    c.if-tokens-place-eq0.true c.loop-place.invariant.bare in
    record { inside = omega (arith, length-set {A = NameToken}); same = counts.0; held = counts.1; counted = counts.2; bare = bare }

pub loop-place-preserved : goal.loop-place-preserved
loop-place-preserved c =
    let counts = one_more (goal.at.loop-place-preserved c).In-loop-place in
    record { inside = omega (arith, length-set {A = NameToken}); same = counts.0; held = counts.1; counted = counts.2; bare = none_bare }
