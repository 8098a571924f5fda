use Rattle.std.proofs.Common.{◌≡◌, ap, ap₂, ◌∙◌, true, false, List, ℕ, Option}
use Rattle.std.specs.Borrow.{Bor}
use Rattle.std.proofs.lemmas.Result.{IfOk-weaker}
use Rattle.clap.specs.Simple.{app_of_fields}
use Rattle.clap.specs.Words.{App, Rule, rule_of, with_rule}
use Rattle.clap.specs.declared.builder.arg.Arg.{Arg}
use Rattle.btx_command.specs.CommandLine.{bibtex_command}
use Rattle.btx_command.proofs.options.bibtex_command.Goals as goal

-- the text of an option's help changes nothing of its rule
helped : (a b : Arg) (text : Option (Bor (List ℕ))) (rule : Rule) → b ≡ record a { help = text } → rule_of a ≡ rule → a.global ≡ false
    → (rule_of b ≡ rule) × (b.global ≡ false)
helped a b text rule same is local = (ap rule_of same ∙ is, ap (λ (x : Arg). x.global) same ∙ local)

-- the texts change nothing of the command, and each call of `arg` adds a rule at the end
pub returns : goal.returns
unfolding bibtex_command
returns c =
    let start = ap app_of_fields c.after_help.ensures ∙ (ap app_of_fields c.about.ensures ∙ (ap app_of_fields c.version.ensures
    ∙ ap (λ (a : App). record a { top = record a.top { has_version = true } }) c.new.ensures.app)) in
    let crossrefs = helped c.number_option.result _ _ _ c.help.ensures c.number_option.ensures.rule c.number_option.ensures.local in
    let one = c.in_ok-arg.ensures.shape crossrefs.1 ∙ ap₂ with_rule start crossrefs.0 in
    let budget = helped c.number_option-2.result _ _ _ c.help-2.ensures c.number_option-2.ensures.rule c.number_option-2.ensures.local in
    let two = c.in_ok-arg-2.ensures.shape budget.1 ∙ ap₂ with_rule one budget.0 in
    let three = c.in_ok-arg-3.ensures.shape c.directory_option.ensures.local ∙ ap₂ with_rule two c.directory_option.ensures.rule in
    let four = c.in_ok-arg-4.ensures.shape c.terse_flag.ensures.local ∙ ap₂ with_rule three c.terse_flag.ensures.rule in
    let text = c.text_option.ensures.rule in
    let five = c.in_ok-arg-5.ensures.shape c.text_option.ensures.local ∙ ap₂ with_rule four text.2 in
    let line = helped c.number_option-3.result _ _ _ c.help-3.ensures c.number_option-3.ensures.rule c.number_option-3.ensures.local in
    let six = c.in_ok-arg-6.ensures.shape line.1 ∙ ap₂ with_rule five line.0 in
    let entry_max = helped c.number_option-4.result _ _ _ c.help-4.ensures c.number_option-4.ensures.rule c.number_option-4.ensures.local in
    let seven = c.in_ok-arg-7.ensures.shape entry_max.1 ∙ ap₂ with_rule six entry_max.0 in
    let global_max = helped c.number_option-5.result _ _ _ c.help-5.ensures c.number_option-5.ensures.rule c.number_option-5.ensures.local in
    let eight = c.in_ok-arg-8.ensures.shape global_max.1 ∙ ap₂ with_rule seven global_max.0 in
    IfOk-weaker c.arg-9.result _ _
    (λ command added. (text.0, text.1, added.shape c.job_word.ensures.local ∙ ap₂ with_rule eight c.job_word.ensures.rule)) c.arg-9.ensures
