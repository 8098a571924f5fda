use Rattle.std.proofs.Common.{◌≡◌, ◌∙◌, ◌++◌, [], sym, ap, length, arith, refl}
use Rattle.std.proofs.lemmas.List.{append-nil}
use Rattle.btx_bib.specs.refinement.Grammar.PartViews.{part_view}
use Rattle.btx_bib.specs.refinement.Grammar.Squeezing.{squeezed_after}
use Rattle.btx_bib.specs.language.Grammar.ValueTexts.{text_of_part}
use Rattle.btx_bib.proofs.GrammarLemmas.SqueezeLemmas.{part-goes, part-long}
use Rattle.btx_bib.proofs.grammar.value_texts.gathered.Goals as goal
use Rattle.btx_bib.specs.refinement.Grammar.ValueTexts.{joined_text}

pub returns-then-len-most : goal.returns-then-len-most
returns-then-len-most g c =
    let strings = g.S.Strings.values c.args.strings.now in
    let part = part_view c.in-Some.part in
    let total = squeezed_after c.args.was_white (joined_text strings c.args.value.now) in
    let goes = part-goes strings c.loop-part.text.items c.push_part.new.text.items (text_of_part strings part) total c.loop-part.white c.in_ok-white.white part
    c.loop-part.part-iterator c.next.new.self c.in-Some.ensures.steps refl c.in_ok-white.ensures.text c.in_ok-white.ensures.white c.loop-part.invariant.0 in
    part-long c.args.most strings c.push_part.new.text.items total c.in_ok-white.white c.next.new.self goes (omega arith)

pub loop-part-preserved : goal.loop-part-preserved
loop-part-preserved g c =
    let strings = g.S.Strings.values c.args.strings.now in
    let part = part_view c.in-Some.part in
    let total = squeezed_after c.args.was_white (joined_text strings c.args.value.now) in (
      part-goes strings c.loop-part.text.items c.push_part.new.text.items (text_of_part strings part) total c.loop-part.white c.in_ok-white.white part
          c.loop-part.part-iterator c.next.new.self c.in-Some.ensures.steps refl c.in_ok-white.ensures.text c.in_ok-white.ensures.white c.loop-part.invariant.0,
      omega arith,
    )

pub returns : goal.returns
returns g c =
    let strings = g.S.Strings.values c.args.strings.now in
    let text = c.loop-part.text.items in
    let total = squeezed_after c.args.was_white (joined_text strings c.args.value.now) in
    let none : c.loop-part.part-iterator ≡ [] = c.in-None.ensures.steps.0 in
    let nothing_more : text ++ squeezed_after c.loop-part.white (joined_text strings []) ≡ total =
    ap (λ ps. text ++ squeezed_after c.loop-part.white (joined_text strings ps)) (sym none) ∙ c.loop-part.invariant.0 in
    let whole : text ≡ total = sym (append-nil text) ∙ nothing_more in
    let len = ap length whole in
    (whole, omega (arith, c.loop-part.invariant.1))
