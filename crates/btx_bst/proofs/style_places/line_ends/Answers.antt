use Rattle.std.proofs.Common.{◌-◌, arith, refl, length, drop}
use Rattle.std.proofs.lemmas.List.{length-take, length-drop}
use Rattle.std.proofs.lemmas.Bool.Decides.{nat_tests}
use Rattle.btx_bst.proofs.StylePlaceLemmas.{ends-step, ends-last, ends-none}
use Rattle.btx_bst.proofs.style_places.line_ends.Goals as goal

pub loop-rest-preserved : goal.loop-rest-preserved
loop-rest-preserved c =
    let inv = c.loop-rest.invariant in
    record {
      goes =
          ends-step c.loop-rest.ends.items _ _ c.loop-rest.start c.line_len-len.result c.loop-rest.rest.now _ _ c.split_at.result.1.now _
          c.line_len-len.ensures.value c.split_at.ensures.front c.split_at.ensures.back c.in-len1-up.len_at_least refl
          c.without_trailing_white.ensures c.in_ok-push.ensures.items inv.goes;
      within = let after = c.split_at.result.1.now in
          omega (arith, length-take (length after - 1) (drop 1 after), length-drop 1 after, c.split_at.ensures.back_len, c.line_len-len.ensures.bound, inv.within);
    }

pub returns-in-empty : goal.returns-in-empty
returns-in-empty c =
    ends-last c.loop-rest.ends.items _ _ c.loop-rest.start c.line_len-len.result c.loop-rest.rest.now _ _ c.split_at.result.1.now (grind (arith, nat_tests))
    c.line_len-len.ensures.value c.line_len-len.ensures.bound c.split_at.ensures.front c.split_at.ensures.back c.in-empty.len_below
    c.without_trailing_white.ensures c.in_ok-push.ensures.items c.loop-rest.invariant.goes

pub returns : goal.returns
returns c = ends-none c.loop-rest.ends.items _ c.loop-rest.start c.loop-rest.rest.now (grind (arith, nat_tests)) c.loop-rest.invariant.goes
