use Rattle.std.proofs.Common.{◌∙◌, ◌+◌, ap, sym, add-one, drop}
use Rattle.std.specs.Option.{option_map}
use Rattle.btx_bst.specs.refinement.NameTables.{macro_pair}
use Rattle.btx_bib.specs.declared.gathering.Gathering.{Gathering}
use Rattle.btx_bib.specs.refinement.Readings.{kept_macros}
use Rattle.btx_bib.proofs.WholeLemmas.{macro-next, macro-none}
use Rattle.btx_bib.proofs.gathering.Gathering.define_macros.Goals as goal
use Rattle.btx_bib.proofs.gathering.Gathering.define_macros.Goals.{in-Some+in_ok-define_macro, in_default}

pub loop-index-preserved : goal.loop-index-preserved
loop-index-preserved c =
    let macros = c.args.macros.now in
    let index = c.loop-index.index in
    elim c.match-get.branch [
      | in-Some+in_ok-define_macro w ↦
          macro-next macros index (index + 1) _ c.loop-index.self c.match-get.self (add-one index) (sym c.get.ensures ∙ ap (option_map macro_pair) w.in-Some.is)
          (w.self-is ∙ w.in_ok-define_macro.ensures) ∙ c.loop-index.invariant
      | in_default w ↦
          ap (λ (k : Gathering). kept_macros k (drop (index + 1) macros)) w.self-is
          ∙ macro-none macros index (index + 1) c.loop-index.self (add-one index) (sym c.get.ensures ∙ ap (option_map macro_pair) w.in_default.is)
          ∙ c.loop-index.invariant
    ]
