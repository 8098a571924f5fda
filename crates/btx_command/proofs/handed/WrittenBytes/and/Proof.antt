-- `and` makes any bytes after those that there are. Assumes `Logic`.
use Rattle.std.proofs.Common.{◌≡◌, ◌++◌, List, ℕ, [], ◌∷◌, refl}
use mir.Syntax.{a_type}
use denote.Param.{layouts}
use Rattle.btx_machine.proofs.MadeLemmas.{met_behind}
use Rattle.btx_command.specs.contracts.handed.WrittenBytes.{the_row}
use Rattle.btx_command.specs.contracts.handed.WrittenBytes.and as of
use Rattle.btx_command.specs.contracts.handed.WrittenBytes.and.Key.{name as key}
use Rattle.btx_command.proofs.handed.WrittenBytes.and.Statement as stated
use Rattle.btx_command.proofs.handed.WrittenBytes.and.Code as code

pub and_spec : {M : Type 1} → stated.statement M
and_spec 𝓤 𝓛 𝓜 𝓡 wired T LT =
    met_behind the_row tt _ (List ℕ) (λ more before made. made.bytes ≡ before.bytes ++ more) (λ more before. record { bytes = before.bytes ++ more })
    (λ more before. refl)
    (λ more before. ((λ vss. (tt, tt)), tt)) (λ more before. ((tt, (refl, tt)), tt)) T (of.signature T).outlives 𝓛
    (λ κs a. (of.clauses T 𝓛 𝓜.mem 𝓡.returns κs a).requires)
    𝓜 𝓡 (key (layouts (a_type ∷ []) (T, tt))) (code.unfolded 𝓤 𝓛.H 𝓜 𝓡 wired (T, tt))
