use Rattle.std.proofs.Common.{refl}
use Rattle.btx_check.proofs.CodeLemmas.{tested_at}
use Rattle.btx_check.proofs.known_rules.add_compared.Goals as goal

pub returns : goal.returns
returns c = record {
  between = c.add_tested.new.out.items;
  so = tested_at _ _ _ _ _ _ _ _ _ _ c.in_ok-copy.ensures c.one.ensures c.in_ok-add_tested.ensures;
  other = tested_at _ _ _ _ _ _ _ _ _ _ refl c.zero.ensures c.in_ok-add_tested-2.ensures;
}
