-- What the scene of a stopped run shows.
use Rattle.std.specs.Prelude.{◌≡◌, ℕ, ◌+◌, length, take}
use Rattle.btx_step.specs.language.Jobs.{Job}
use Rattle.btx_machine.specs.declared.report.LogCounts.{LogCounts}
use Rattle.btx_machine.specs.language.Meaning.{then_do}
use Rattle.btx_machine.specs.language.States.{State, Stopped}
use Rattle.btx_machine.specs.refinement.Frames.{with_frames}
use Rattle.btx_machine.specs.refinement.Product.{executed}
use Rattle.btx_where.specs.Calls.{AreCalls}
use Rattle.btx_where.specs.Rests.{IsMidstOf, MidstOfStyle, rest_of_style}
use Rattle.btx_where.specs.Shown.{frames_shown}
use Rattle.btx_where.specs.declared.course.TheConstants.{MOST_LITERALS}
use Rattle.btx_where.specs.declared.scene.StoppedState.{StoppedState}

-- A scene shows where the run of a job's style stands that is stopped after `budget` steps. By the definition it is stopped in a state, of which the scene
-- shows the current entry, the number of literals, and those on top. And whatever further steps there are, what is still done from that state is what the scene
-- shows: the token that comes next is executed, what is open goes on, each body after the token where it stands, and then the command and the style go on. The
-- command is that of an item of the style, whose number the scene shows, and the items after it are the style's. What is open are calls that lead to the token
-- that comes next: each body stands at the token that called what is open inside it, and round all is the function of the command
pub record IsScene (job : Job) (counts : LogCounts) (budget : ℕ) (scene : StoppedState) : Type 0 where
  pub state : State
  pub stopped : executed job counts budget ≡ Stopped state
  pub midst : MidstOfStyle
  pub of_style : IsMidstOf job.style.items scene.item midst
  pub goes_on : (n : ℕ) → executed job counts (n + budget) ≡ then_do (with_frames job scene.next (frames_shown job.style scene.levels.items) n state)
      (rest_of_style job midst)
  pub calls : AreCalls job scene.entry midst.command.function scene.levels.items scene.next
  pub entry : scene.entry ≡ state.store.current
  pub depth : scene.depth ≡ length state.store.literals
  pub literals : scene.literals.items ≡ take MOST_LITERALS state.store.literals
