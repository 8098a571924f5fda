-- `none` makes no line. Assumes `Logic`.
use Rattle.std.proofs.Common.{◌≡◌, [], refl}
use Rattle.btx_machine.proofs.MadeLemmas.{met}
use Rattle.btx_c.specs.contracts.lines.Lines.{the_row}
use Rattle.btx_c.specs.contracts.lines.Lines.none.Key.{name as key}
use Rattle.btx_c.proofs.lines.Lines.none.Statement as stated
use Rattle.btx_c.proofs.lines.Lines.none.Code as code

pub none_spec : {M : Type 1} → stated.statement M
none_spec 𝓤 𝓛 𝓜 𝓡 wired =
    met the_row _ (Unit {0}) (λ _ made. made.list ≡ []) (λ _. record { list = [] }) (λ _. refl) (λ _. ((λ vss. (tt, tt)), tt))
    (λ _. ((tt, (refl, tt)), tt)) 𝓛 𝓜 𝓡 key (code.unfolded 𝓤 𝓛.H 𝓜 𝓡 wired)
