-- Lists that grow at their end.
use Rattle.std.proofs.Common.{◌≡◌, ◌++◌, ◌∙◌, List, ap}
use Rattle.std.proofs.lemmas.List.{append_assoc}

-- a growth after another
pub one_after_another : {T : Type 0} (known mid after first second : List T) → mid ≡ known ++ first → after ≡ mid ++ second → after ≡ known ++ (first ++ second)
one_after_another known mid after first second is_mid is_after = is_after ∙ ap (λ (it : List _). it ++ second) is_mid ∙ append_assoc known first second
