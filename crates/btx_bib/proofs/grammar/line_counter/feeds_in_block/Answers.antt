use Rattle.std.proofs.Common.{◌≡◌, ◌∙◌, eqb, sym, ap, take, drop, length, length-drop, arith, w8}
use Rattle.std.proofs.lemmas.List.{length-take}
use Rattle.std.proofs.lemmas.Simd.{bitmask_splat, ones-mask_l}
use Rattle.std.specs.Int.Count.{ones}
use Rattle.btx_bib.proofs.GrammarLemmas.PlaceLemmas.{feeds-count}
use Rattle.btx_bib.proofs.grammar.line_counter.feeds_in_block.Goals as goal

pub returns : goal.returns
returns c =
    let behind = drop c.args.place c.args.text.now in
    let block = take 32 behind in
    let long : length block ≡ 32 = omega (arith, length-take 32 behind, length-drop c.args.place c.args.text.now, c.requires.within) in
    ap ones (bitmask_splat w8 eqb block 32 10 long (omega arith)) ∙ ones-mask_l (λ b. eqb b 10) block ∙ sym (feeds-count block)
