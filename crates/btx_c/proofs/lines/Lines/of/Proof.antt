-- `of` makes any lines. Assumes `Logic`.
use Rattle.std.proofs.Common.{◌≡◌, List, [], ◌∷◌, refl}
use mir.Syntax.{a_type}
use denote.Param.{layouts}
use Rattle.btx_text.specs.language.LogLines.{Line}
use Rattle.btx_machine.proofs.MadeLemmas.{met_behind}
use Rattle.btx_c.specs.contracts.lines.Lines.{the_row}
use Rattle.btx_c.specs.contracts.lines.Lines.of as its
use Rattle.btx_c.specs.contracts.lines.Lines.of.Key.{name as key}
use Rattle.btx_c.proofs.lines.Lines.of.Statement as stated
use Rattle.btx_c.proofs.lines.Lines.of.Code as code

pub of_spec : {M : Type 1} → stated.statement M
of_spec 𝓤 𝓛 𝓜 𝓡 wired T LT =
    met_behind the_row tt _ (List Line) (λ list before made. made.list ≡ list) (λ list before. record { list = list }) (λ list before. refl)
    (λ list before. ((λ vss. (tt, tt)), tt)) (λ list before. ((tt, (refl, tt)), tt)) T (its.signature T).outlives 𝓛
    (λ κs a. (its.clauses T 𝓛 𝓜.mem 𝓡.returns κs a).requires)
    𝓜 𝓡 (key (layouts (a_type ∷ []) (T, tt))) (code.unfolded 𝓤 𝓛.H 𝓜 𝓡 wired (T, tt))
