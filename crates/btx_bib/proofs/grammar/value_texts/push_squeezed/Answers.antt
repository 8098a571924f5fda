use Rattle.std.proofs.Common.{rules, ◌≡◌, ◌∙◌, ◌<◌, ◌++◌, length, take, drop, sym, ap, refl, arith}
use Rattle.btx_bib.specs.declared.grammar.byte_sets.ByteSet.TheVariants.{Gap}
use Rattle.btx_bib.specs.language.Grammar.ByteSets.{past}
use Rattle.btx_bib.specs.refinement.Grammar.Squeezing.{squeezed_after, white_after}
use Rattle.btx_bib.proofs.GrammarLemmas.PieceLemmas.{piece-shorter, piece-text, piece-white}
use Rattle.btx_bib.proofs.grammar.value_texts.push_squeezed.Goals as goal

pub loop-rest-smaller : goal.loop-rest-smaller
loop-rest-smaller c =
    let rest = c.loop-rest.rest.now in
    let kept = c.kept_len.ensures in
    let less = piece-shorter c.loop-rest.white rest c.kept_len.result (search rules) kept.bound kept.ended in
    let left : c.past-rest.result.now ≡ past Gap (drop c.kept_len.result rest) = c.past-rest.ensures ∙ ap (past Gap) c.split_at.ensures.back in
    omega (arith, less, ap length left)

pub loop-rest-preserved : goal.loop-rest-preserved
loop-rest-preserved c =
    let rest = c.loop-rest.rest.now in
    let white = c.loop-rest.white in
    let n = c.kept_len.result in
    let front : c.split_at.result.0.now ≡ take n rest = c.split_at.ensures.front in
    let back : c.split_at.result.1.now ≡ drop n rest = c.split_at.ensures.back in
    let left = c.past-rest.ensures in
    let behind = c.white_behind.ensures ∙ ap (white_after white) front in (
      piece-text white c.in_ok-white.white rest c.past-rest.result.now c.loop-rest.text.items c.push_gap.new.text.items _ n c.kept_len.ensures.kept
          (ap (λ t. c.push_gap.new.text.items ++ squeezed_after c.in_ok-white.white t) left ∙ c.in_ok-white.ensures.text
          ∙ rw (c.in_ok-extend_from_slice.ensures.items, front, back, behind) refl)
          c.loop-rest.invariant.0,
      piece-white white c.in_ok-white.white _ rest c.past-rest.result.now n
          (ap (white_after c.in_ok-white.white) left ∙ c.in_ok-white.ensures.white ∙ rw (back, behind) refl) c.loop-rest.invariant.1,
    )
