use Rattle.std.proofs.Common.{◌≡◌, refl, ap, ap₂, ◌∙◌, [], ◌∷◌, Some, codes}
use Rattle.clap.specs.Words.{Rule, rule_of}
use Rattle.btx_command.proofs.options.text_option.Goals as goal

-- each call changes one field of the rule
pub returns-clause-rule : goal.returns-clause-rule
returns-clause-rule c =
    let given = c.value_parser.ensures.given in
    let named : rule_of c.value_name.result ≡ _ = ap rule_of c.value_name.ensures
    ∙ ap (λ (r : Rule). record r { value_names = 1 })
    (ap rule_of c.long.ensures ∙ ap (λ (r : Rule). record r { long = Some (codes "text") }) c.new.ensures.rule) in
    let parsed = ap rule_of c.value_parser.ensures.others
    ∙ ap₂ (λ (r : Rule) p. record r { parser = p }) named (given.1 ∙ ap (λ p. Some p) given.2) in (
      _,
      refl,
      ap rule_of c.help.ensures ∙ (ap rule_of c.default_value.ensures ∙ ap (λ (r : Rule). record r { defaults = codes "bytes" ∷ [] }) parsed),
    )
