-- `any` makes any files. Assumes `Logic`.
use Rattle.std.proofs.Common.{◌≡◌, refl}
use Rattle.btx_c.specs.CallerFiles.{OtherFiles}
use Rattle.btx_machine.proofs.MadeLemmas.{met}
use Rattle.btx_c.specs.contracts.others.UnnamedFiles.{the_row}
use Rattle.btx_c.specs.contracts.others.UnnamedFiles.any.Key.{name as key}
use Rattle.btx_c.proofs.others.UnnamedFiles.any.Statement as stated
use Rattle.btx_c.proofs.others.UnnamedFiles.any.Code as code

pub any_spec : {M : Type 1} → stated.statement M
any_spec 𝓤 𝓛 𝓜 𝓡 wired =
    met the_row _ OtherFiles (λ files made. made.files ≡ files) (λ files. record { files = files }) (λ files. refl) (λ files. ((λ vss. (tt, tt)), tt))
    (λ files. ((tt, (refl, tt)), tt)) 𝓛 𝓜 𝓡 key (code.unfolded 𝓤 𝓛.H 𝓜 𝓡 wired)
