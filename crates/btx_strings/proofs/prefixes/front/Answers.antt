use Rattle.std.proofs.Common.{refl, sym, ◌∙◌}
use Rattle.btx_strings.proofs.LengthLemmas.{IsFront-more, IsFront-done, IsFront-all}
use Rattle.btx_strings.proofs.prefixes.front.Goals as goal

pub returns-then-left-eq0 : goal.returns-then-left-eq0
returns-then-left-eq0 c =
    let kept = c.loop-element.invariant in
    IsFront-done _ _ _ _ (rw c.if-left-eq0.true at kept)

pub loop-element-preserved-then-is_character : goal.loop-element-preserved-then-is_character
loop-element-preserved-then-is_character c =
    IsFront-more _ _ _ _ _ _ _ _ c.loop-element.invariant c.in-Some.ensures.steps c.if-left-eq0.false
    (rw (sym c.is_character.ensures ∙ c.if-is_character.true) refl)

pub loop-element-preserved : goal.loop-element-preserved
loop-element-preserved c =
    IsFront-more _ _ _ _ _ _ _ _ c.loop-element.invariant c.in-Some.ensures.steps c.if-left-eq0.false
    (rw (sym c.is_character.ensures ∙ c.if-is_character.false) refl)

pub returns : goal.returns
returns c =
    let kept = c.loop-element.invariant in
    IsFront-all _ _ _ _ (rw c.in-None.ensures.steps.0 at kept)
