-- `of` makes any beginning. Assumes `Logic`.
use Rattle.std.proofs.Common.{◌≡◌, [], ◌∷◌, refl}
use mir.Syntax.{a_type}
use denote.Param.{layouts}
use Rattle.btx_machine.specs.refinement.Counting.{CountingStart}
use Rattle.btx_machine.proofs.MadeLemmas.{met_behind}
use Rattle.btx_machine.specs.contracts.counted_since.CountedSince.{the_row}
use Rattle.btx_machine.specs.contracts.counted_since.CountedSince.of as its
use Rattle.btx_machine.specs.contracts.counted_since.CountedSince.of.Key.{name as key}
use Rattle.btx_machine.proofs.counted_since.CountedSince.of.Statement as stated
use Rattle.btx_machine.proofs.counted_since.CountedSince.of.Code as code

pub of_spec : {M : Type 1} → stated.statement M
of_spec 𝓤 𝓛 𝓜 𝓡 wired T LT =
    met_behind the_row tt _ CountingStart (λ at before made. made.at ≡ at) (λ at before. record { at = at }) (λ at before. refl)
    (λ at before. ((λ vss. (tt, tt)), tt)) (λ at before. ((tt, (refl, tt)), tt)) T (its.signature T).outlives 𝓛
    (λ κs a. (its.clauses T 𝓛 𝓜.mem 𝓡.returns κs a).requires)
    𝓜 𝓡 (key (layouts (a_type ∷ []) (T, tt))) (code.unfolded 𝓤 𝓛.H 𝓜 𝓡 wired (T, tt))
