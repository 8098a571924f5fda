-- `new` makes no beginning. Assumes `Logic`.
use Rattle.std.proofs.Common.{◌≡◌, refl}
use Rattle.btx_machine.specs.refinement.Counting.{no_start}
use Rattle.btx_machine.proofs.MadeLemmas.{met}
use Rattle.btx_machine.specs.contracts.counted_since.CountedSince.{the_row}
use Rattle.btx_machine.specs.contracts.counted_since.CountedSince.new.Key.{name as key}
use Rattle.btx_machine.proofs.counted_since.CountedSince.new.Statement as stated
use Rattle.btx_machine.proofs.counted_since.CountedSince.new.Code as code

pub new_spec : {M : Type 1} → stated.statement M
new_spec 𝓤 𝓛 𝓜 𝓡 wired =
    met the_row _ (Unit {0}) (λ _ made. made.at ≡ no_start) (λ _. record { at = no_start }) (λ _. refl) (λ _. ((λ vss. (tt, tt)), tt))
    (λ _. ((tt, (refl, tt)), tt)) 𝓛 𝓜 𝓡 key (code.unfolded 𝓤 𝓛.H 𝓜 𝓡 wired)
