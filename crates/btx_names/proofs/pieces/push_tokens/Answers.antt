use Rattle.std.proofs.Common.{◌≡◌, ◌≤◌, ◌+◌, ◌-◌, ◌++◌, ◌∷◌, ◌∙◌, ℕ, List, sym, length, get_or, take, drop, arith}
use Rattle.std.proofs.lemmas.Result.{err_from_is_err_and}
use Rattle.btx_names.specs.language.FormattedNames.{with_tokens, between_text}
use Rattle.btx_names.specs.language.Tokens.{NameToken as Token}
use Rattle.btx_names.specs.refinement.ItemViews.{piece_view}
use Rattle.btx_names.specs.refinement.NameTokens.{token_of, tokens_in}
use Rattle.btx_names.specs.refinement.PartViews.{part_tokens}
use Rattle.btx_names.proofs.PartLemmas.{no_token, held_at, tokens_at, tokens_left, no_tokens_left}
use Rattle.btx_names.proofs.PieceLemmas.{one_token_more, shown_too_long, between_too_long, tokens_done, nothing_between, initials_joined, fails_too}
use Rattle.btx_names.proofs.pieces.push_tokens.Goals as goal
use Rattle.btx_names.proofs.pieces.push_tokens.Goals.{In-loop-token, After-push_between}
use Rattle.btx_names.specs.laws.FormattedNames.{shown}

pub returns-then-has_nothing_between-clause-text : goal.returns-then-has_nothing_between-clause-text
returns-then-has_nothing_between-clause-text c =
    let piece = piece_view c.args.piece in
    let is = nothing_between piece (sym c.has_nothing_between.ensures ∙ c.if-has_nothing_between.true) in
    rw (initials_joined c.args.writer.now.mode piece c.args.writer.now.start c.args.writer.now.text.items (part_tokens c.args.part) is.0 is.1)
    c.push_initials.ensures.text

pub push_shown-requires : goal.push_shown-requires
push_shown-requires c = held_at c.args.part.bytes.now c.args.part.tokens.now c.loop-token.token-index no_token (omega arith) c.args.part.held

-- the text before the piece
abbrev before : In-loop-token → List ℕ
before c = take c.args.writer.now.start c.args.writer.now.text.items

-- the piece with all its tokens
abbrev wanted : In-loop-token → List ℕ
wanted c = with_tokens c.args.writer.now.mode (piece_view c.args.piece) (drop c.args.writer.now.start c.args.writer.now.text.items) (part_tokens c.args.part)

-- the tokens that are left, the first of them, and those after it
abbrev left : In-loop-token → List Token
left c = tokens_in c.args.part.bytes.now (drop c.loop-token.token-index c.args.part.tokens.now)

abbrev first : In-loop-token → Token
first c = token_of c.args.part.bytes.now (get_or c.args.part.tokens.now c.loop-token.token-index no_token)

abbrev others : In-loop-token → List Token
others c = tokens_in c.args.part.bytes.now (drop (c.loop-token.token-index + 1) c.args.part.tokens.now)

inside : (c : In-loop-token) → c.args.writer.now.start ≤ length c.loop-token.writer.text.items
inside c = rw c.loop-token.invariant.start at c.loop-token.writer.begun

split : (c : In-loop-token) → left c ≡ first c ∷ others c
split c = tokens_at c.args.part.bytes.now c.args.part.tokens.now c.loop-token.token-index no_token (omega arith)

count : (c : In-loop-token) → c.loop-token.left - 1 ≡ length (others c)
count c = omega (arith, c.loop-token.invariant.counted, tokens_left c.args.part.bytes.now c.args.part.tokens.now (c.loop-token.token-index + 1))

-- the text with the first of them
with_first : (c : After-push_between) → c.push_shown.new.writer.text.items ≡ c.loop-token.writer.text.items
    ++ shown c.args.writer.now.mode c.args.piece.is_full (token_of c.args.part.bytes.now (get_or c.args.part.tokens.now c.loop-token.token-index no_token)).text
with_first c = rw c.loop-token.invariant.mode at c.in_ok-push_shown.ensures.text

pub returns-in_err-push_shown-clause-text : goal.returns-in_err-push_shown-clause-text
returns-in_err-push_shown-clause-text c =
    let turn = (goal.at.returns-in_err-push_shown-clause-text c).In-loop-token in
    let kept = c.loop-token.invariant in
    let p = err_from_is_err_and c.from_residual.result c.from_residual.ensures.1 in
    rw (p.1, p.2)
    (fails_too 1000001 1000001 c.in_err-push_shown.field-0.0 _ _ _ _
    (λ long. shown_too_long c.args.writer.now.mode (piece_view c.args.piece) c.args.writer.now.start 1000001 c.loop-token.writer.text.items (before turn)
    (wanted turn) (first turn) (others turn) (left turn) (inside turn) kept.before (split turn) kept.rest (rw kept.mode at long))
    c.in_err-push_shown.ensures.text)

pub returns-in_err-push_between-clause-text : goal.returns-in_err-push_between-clause-text
returns-in_err-push_between-clause-text c =
    let turn = (goal.at.returns-in_err-push_between-clause-text c).In-loop-token in
    let now = (goal.at.returns-in_err-push_between-clause-text c).After-push_between in
    let kept = c.loop-token.invariant in
    let p = err_from_is_err_and c.from_residual-in_err-push_between.result c.from_residual-in_err-push_between.ensures.1 in
    rw (p.1, p.2)
    (fails_too 1000001 1000001 c.in_err-push_between.field-0.0 _ _ _ _
    (λ long. between_too_long c.args.writer.now.mode (piece_view c.args.piece) c.args.writer.now.start 1000001 c.loop-token.writer.text.items
    c.push_shown.new.writer.text.items (before turn) (wanted turn) (first turn) (others turn) (left turn) (inside turn) kept.before (split turn) kept.rest
    (with_first now) (rw (c.in_ok-push_shown.ensures.mode, kept.mode, c.in_ok-push_shown.ensures.start, kept.start, count turn) at long))
    c.in_err-push_between.ensures.text)

pub loop-token-preserved : goal.loop-token-preserved
loop-token-preserved c =
    let turn = (goal.at.loop-token-preserved c).In-loop-token in
    let now = (goal.at.loop-token-preserved c).After-push_between in
    let mode = c.args.writer.now.mode in
    let start = c.args.writer.now.start in
    let piece = piece_view c.args.piece in
    let kept = c.loop-token.invariant in
    let mid = c.push_shown.new.writer.text.items in
    let new = c.push_between.new.writer.text.items in
    let second : new ≡ mid ++ between_text mode piece (drop start mid) (first turn).joint (length (others turn)) =
    rw (c.in_ok-push_shown.ensures.mode, kept.mode, c.in_ok-push_shown.ensures.start, kept.start, count turn) at c.in_ok-push_between.ensures.text in
    let more = one_token_more mode piece start c.loop-token.writer.text.items mid new (before turn) (first turn) (others turn) (left turn) (inside turn)
    kept.before (with_first now) second (split turn) in
    record {
      counted = omega (arith, kept.counted);
      start = c.in_ok-push_between.ensures.start ∙ c.in_ok-push_shown.ensures.start ∙ kept.start;
      mode = c.in_ok-push_between.ensures.mode ∙ c.in_ok-push_shown.ensures.mode ∙ kept.mode;
      before = more.1;
      rest = more.2 ∙ kept.rest;
    }

pub returns-clause-text : goal.returns-clause-text
returns-clause-text c =
    let bytes = c.args.part.bytes.now in
    let items = c.args.part.tokens.now in
    let kept = c.loop-token.invariant in
    tokens_done c.args.writer.now.mode (piece_view c.args.piece) c.args.writer.now.start c.loop-token.writer.text.items
    (take c.args.writer.now.start c.args.writer.now.text.items)
    (with_tokens c.args.writer.now.mode (piece_view c.args.piece) (drop c.args.writer.now.start c.args.writer.now.text.items) (part_tokens c.args.part))
    (tokens_in bytes (drop c.loop-token.token-index items)) kept.before (no_tokens_left bytes items c.loop-token.token-index (omega arith)) kept.rest
