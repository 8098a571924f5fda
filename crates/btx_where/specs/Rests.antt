-- What a stopped run still does after the function that it stands in: in the words of the definition of commands and items.
use Rattle.std.specs.Prelude.{◌≡◌, ℕ, ◌+◌, List, [], Some, drop, slice_get}
use Rattle.btx_bst.specs.declared.callee.Callee.{Callee}
use Rattle.btx_bst.specs.language.Items.{Item}
use Rattle.btx_bst.specs.language.Items as item
use Rattle.btx_code.specs.refinement.Codes.{Coded}
use Rattle.btx_step.specs.language.Jobs.{Job}
use Rattle.btx_machine.specs.declared.command.Command.{Command}
use Rattle.btx_machine.specs.declared.command.Command.TheVariants as command
use Rattle.btx_machine.specs.declared.machine.Position.{Position}
use Rattle.btx_machine.specs.language.Commands.{cleared, in_order, visit}
use Rattle.btx_machine.specs.language.Items.{do_items}
use Rattle.btx_machine.specs.language.Meaning.{then_do}
use Rattle.btx_machine.specs.language.States.{State, Done}
use Rattle.btx_machine.specs.refinement.Commands.{Doing}
use Rattle.btx_machine.specs.refinement.Marks.{Open}
use Rattle.btx_machine.specs.refinement.Positions.{execute_at}

-- a command in the midst of which a run stands: its function, and the entries for which it is executed next
pub record Midst : Type 0 where
  pub command : Command
  pub function : Callee
  pub entries : List ℕ

-- it is a command of this name, which executes this function
abbrev pub Executes : Command → Callee → Midst → Type 0
Executes name function m = (m.command ≡ name) × (m.function ≡ function)

-- It is the command of an item. EXECUTE executes its function once, so there are no other entries
abbrev pub IsCommandOf : Item → Midst → Type 0
IsCommandOf (item.Execute function) m = Executes command.Execute function m × (m.entries ≡ [])
IsCommandOf (item.Iterate function) m = Executes command.Iterate function m
IsCommandOf (item.Reverse function) m = Executes command.Reverse function m
IsCommandOf _ m = ⊥

-- after its function: the stack is emptied, and the function is executed for the other entries
abbrev pub rest_of_command : Job → Midst → Doing
rest_of_command job m left s = in_order (λ entry. visit job m.command m.function (Some entry)) m.entries left (cleared job m.command s)

-- a style in the midst of which a run stands: the command, the items after it, and the order of the entries
pub record MidstOfStyle : Type 0 where
  pub command : Midst
  pub items : List Item
  pub list : List ℕ

-- it is the midst of the style of these items, in the item of this number: the command is that item's, and the items after it are the other ones
abbrev pub IsMidstOf : List Item → ℕ → MidstOfStyle → Type 0
IsMidstOf all number m = (this : Item) × (slice_get all number ≡ Some this) × (m.items ≡ drop (number + 1) all) × IsCommandOf this m.command

-- after the function: the rest of the command, and then the other items
abbrev pub rest_of_style : Job → MidstOfStyle → Doing
rest_of_style job m left s = then_do (rest_of_command job m.command left s) (do_items job m.items m.list)

-- A run of `whole` has taken this number of steps, and stands at a token. Whatever further steps there are, what is still done is this: the token is executed,
-- then what is open goes on, and then `rest` is done
abbrev pub Stands : Job → Coded → Position → List Open → Doing → Doing → ℕ → State → State → Type 0
Stands job code at opens rest whole taken s t = (n : ℕ) → whole (n + taken) s ≡ then_do (execute_at job code at opens n t) rest

-- so it is in a function, after which the stack is emptied
abbrev pub StandsInFunction : Job → Command → Coded → Position → List Open → Doing → ℕ → State → State → Type 0
StandsInFunction job command code at opens whole taken s t = Stands job code at opens (λ left u. Done (cleared job command u) left) whole taken s t

-- so it is in a command of which `IsOf` holds, in the execution of this function
abbrev pub StandsInCommand : (Midst → Type 0) → Callee → Job → Coded → Position → List Open → Doing → ℕ → State → State → Type 0
StandsInCommand IsOf function job code at opens whole taken s t =
    (m : Midst) × IsOf m × (m.function ≡ function) × Stands job code at opens (rest_of_command job m) whole taken s t

-- so it is in the style of these items, in the item of this number, in the execution of this function
abbrev pub StandsInStyle : List Item → ℕ → Callee → Job → Coded → Position → List Open → Doing → ℕ → State → State → Type 0
StandsInStyle all number function job code at opens whole taken s t =
    (m : MidstOfStyle) × IsMidstOf all number m × (m.command.function ≡ function) × Stands job code at opens (rest_of_style job m) whole taken s t
