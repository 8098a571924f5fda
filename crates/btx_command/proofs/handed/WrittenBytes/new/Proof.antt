-- `new` makes no byte. Assumes `Logic`.
use Rattle.std.proofs.Common.{◌≡◌, [], refl}
use Rattle.btx_machine.proofs.MadeLemmas.{met}
use Rattle.btx_command.specs.contracts.handed.WrittenBytes.{the_row}
use Rattle.btx_command.specs.contracts.handed.WrittenBytes.new.Key.{name as key}
use Rattle.btx_command.proofs.handed.WrittenBytes.new.Statement as stated
use Rattle.btx_command.proofs.handed.WrittenBytes.new.Code as code

pub new_spec : {M : Type 1} → stated.statement M
new_spec 𝓤 𝓛 𝓜 𝓡 wired =
    met the_row _ (Unit {0}) (λ _ made. made.bytes ≡ []) (λ _. record { bytes = [] }) (λ _. refl) (λ _. ((λ vss. (tt, tt)), tt)) (λ _. ((tt, (refl, tt)), tt)) 𝓛
    𝓜 𝓡 key (code.unfolded 𝓤 𝓛.H 𝓜 𝓡 wired)
