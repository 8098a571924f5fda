-- The rules of all commands of a style: what holds of a rule however it is made holds of them.
use Rattle.std.proofs.Common.{ℕ, Bool, List}
use Rattle.btx_bst.specs.declared.callee.Kind.{Kind}
use Rattle.btx_bst.specs.declared.callee.Kind.TheVariants as kind
use Rattle.btx_bst.specs.declared.command.Command.{Command as CommandName}
use Rattle.btx_bst.specs.declared.command.Command.TheVariants as command
use Rattle.btx_bst.specs.language.Complaints.{Complaint}
use Rattle.btx_bst.specs.laws.TokenSpelling.{StyleNameHere, TextHere}
use Rattle.btx_core.specs.language.Styles.{Command, Execute, Function, Iterate, Reverse}
use Rattle.btx_core.specs.language.StyleTexts.{Arguments, Closed, Executes, HasBody, Lists, HasEffect, Next, Opened, Rule, SoFar, Requires}

module _ (P : Rule → Type 0) (opened : (rest : Rule) → P rest → P (Opened rest)) (closed : (rest : Rule) → P rest → P (Closed rest))
    (named : (rest : List ℕ → Rule) → ((name : List ℕ) → P (rest name)) → P (Next StyleNameHere rest))
    (text_next : (rest : List ℕ → Rule) → ((text : List ℕ) → P (rest text)) → P (Next TextHere rest))
    (where_so : (test : SoFar → Bool) (wrong : Complaint) (rest : Rule) → P rest → P (Requires test wrong rest))
    (makes : (change : SoFar → SoFar) → P (HasEffect change)) (lists : (k : Kind) (rest : Rule) → P rest → P (Lists k rest))
    (has_body : (name : List ℕ) → P (HasBody name))
    (executes : (command : CommandName) (made : Function → Command) → P (Executes command made)) where
  unfoldable pub behind_by : (c : CommandName) → P (Arguments c)
  behind_by command.Entry = where_so _ _ _ (lists kind.Field _ (lists kind.EntryInteger _ (lists kind.EntryString _ (makes _))))
  behind_by command.Function = opened _ (named _ (λ name. where_so _ _ _ (closed _ (opened _ (has_body name)))))
  behind_by command.Read = where_so _ _ _ (where_so _ _ _ (makes _))
  behind_by command.Execute = executes command.Execute Execute
  behind_by command.Iterate = executes command.Iterate Iterate
  behind_by command.Reverse = executes command.Reverse Reverse
  behind_by command.Sort = where_so _ _ _ (makes _)
  behind_by command.Integers = lists kind.GlobalInteger _ (makes _)
  behind_by command.Strings = lists kind.GlobalString _ (makes _)
  behind_by command.Macro = where_so _ _ _ (opened _ (named _ (λ name. where_so _ _ _ (closed _ (opened _ (text_next _ (λ text. closed _ (makes _))))))))
