use Rattle.std.proofs.Common.{◌≡◌, ◌∙◌, ◌+◌, ◌-◌, ◌/◌, ◌^◌, eqb, sym, ap, map, take, drop, length, length-drop, arith, w8}
use Rattle.std.proofs.lemmas.List.{drop-drop, drop-map, drop-take, length-take}
use Rattle.std.proofs.lemmas.Simd.{bitmask_splat, ones-mask_l}
use Rattle.std.specs.Int.Count.{ones}
use lib.Lanes.{mask_l}
use Rattle.btx_bib.specs.refinement.Grammar.PlaceLines.{feeds_in}
use Rattle.btx_bib.proofs.GrammarLemmas.PlaceLemmas.{feeds-count}
use Rattle.btx_bib.proofs.GrammarLemmas.WindowLemmas.{shifted}
use Rattle.btx_bib.proofs.grammar.line_counter.feeds_at_end.Goals as goal

pub returns : goal.returns
returns c =
    let text = c.args.text.now in
    let place = c.args.end - 32 in
    let before = c.args.start - place in
    let len = c.args.end - c.args.start in
    let behind = drop place text in
    let block = take 32 behind in
    let long : length block ≡ 32 = omega (arith, length-take 32 behind, length-drop place text, c.requires.block, c.requires.within) in
    let lanes : before + len ≡ 32 = omega (arith, c.requires.block, c.requires.order, c.requires.reach) in
    let there : place + before ≡ c.args.start = omega (arith, c.requires.block, c.requires.order, c.requires.reach) in
    let whole : drop before (take (before + len) behind) ≡ take len (drop before behind) = drop-take before len behind in
    let cut = rw lanes at whole in
    let left : drop before block ≡ take len (drop c.args.start text) = cut ∙ ap (take len) (drop-drop before place text ∙ ap (λ n. drop n text) there) in
    ap (λ bits. ones (bits / 2 ^ before)) (bitmask_splat w8 eqb block 32 10 long (omega arith))
    ∙ ap ones (shifted (map (λ b. eqb b 10) block) before) ∙ ap (λ l. ones (mask_l l)) (drop-map (λ b. eqb b 10) before block)
    ∙ ones-mask_l (λ b. eqb b 10) (drop before block) ∙ sym (feeds-count (drop before block)) ∙ ap feeds_in left
