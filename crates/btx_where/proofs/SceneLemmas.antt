-- The scene of a stopped run.
use Rattle.std.proofs.Common.{◌≡◌, ℕ, ◌+◌, List, [], length, take, Option, None, Some, IfSome, sym, ap, subst, ◌∙◌, refl, arith}
use Rattle.btx_bst.specs.declared.callee.Callee.{Callee}
use Rattle.btx_out.specs.laws.Breaking.{Collecting}
use Rattle.btx_out.specs.laws.Lengths.{IsLineLength}
use Rattle.btx_out.specs.refinement.Breakers.{holding}
use Rattle.btx_code.specs.refinement.Codes.{Coded}
use Rattle.btx_step.specs.language.Jobs.{Job}
use Rattle.btx_step.specs.language.Starts.{first_store}
use Rattle.btx_step.specs.language.Stores.{Store}
use Rattle.btx_machine.specs.declared.machine.Position.{Position}
use Rattle.btx_machine.specs.declared.report.LogCounts.{LogCounts}
use Rattle.btx_machine.specs.language.Items.{do_items}
use Rattle.btx_machine.specs.language.Meaning.{then_do}
use Rattle.btx_machine.specs.language.States.{state}
use Rattle.btx_machine.specs.laws.Reports.{log_counts}
use Rattle.btx_machine.specs.refinement.Frames.{with_frames}
use Rattle.btx_machine.specs.refinement.Marks.{Open, frames_of}
use Rattle.btx_machine.specs.refinement.Outputs.{Work}
use Rattle.btx_machine.specs.refinement.Positions.{next_token}
use Rattle.btx_machine.specs.refinement.Product.{executed, no_out}
use Rattle.btx_machine.specs.refinement.Written.{Comes, received}
use Rattle.btx_machine.proofs.Moves.{stopped}
use Rattle.btx_machine.proofs.RunLemmas.{new_stands, start_at}
use Rattle.btx_where.specs.Calls.{AreCalls}
use Rattle.btx_where.specs.Rests.{IsMidstOf, StandsInStyle, rest_of_style}
use Rattle.btx_where.specs.Scenes.{IsScene}
use Rattle.btx_where.specs.Shown.{frames_shown}
use Rattle.btx_where.specs.declared.scene.StoppedState.{StoppedState}

module _ (job : Job) (code : Coded) (at : Position) (opens : List Open) (old new : Work) (budget taken : ℕ) (store' : Store) (same : new.store ≡ store')
    (number : ℕ) (running : Callee) where
  abbrev counts : LogCounts
  counts = log_counts old.outputs.log.warnings old.outputs.log.errors

  is_scene : (scene : StoppedState) → IsLineLength old.outputs.breaker.line_length → old.store ≡ first_store job
      → old.outputs.breaker ≡ holding old.outputs.breaker.line_length (Collecting []) → taken ≡ budget
      → Comes old new (StandsInStyle job.style.items number running job code at opens (do_items job job.style.items []) taken)
      → scene.next ≡ next_token code at → frames_shown job.style scene.levels.items ≡ frames_of code at.place opens
      → scene.entry ≡ store'.current → scene.depth ≡ length store'.literals → scene.literals.items ≡ take 8 store'.literals
      → AreCalls job scene.entry running scene.levels.items scene.next → scene.item ≡ number → IsScene job counts budget scene
  is_scene scene range store fresh e stands next levels entry depth literals calls item =
      let line_length = old.outputs.breaker.line_length in
      let l = stands (start_at line_length range (received old.outputs)) (no_out counts) (new_stands line_length range old.outputs fresh) in
      let t = state new.store l.out in
      let shown = frames_shown job.style scene.levels.items in
      let goes : (n : ℕ) → executed job counts (n + budget) ≡ then_do (with_frames job scene.next shown n t) (rest_of_style job l.is.0) =
      λ n. ap (λ store. do_items job job.style.items [] (n + budget) (state store (no_out counts))) (sym store)
      ∙ ap (λ b. do_items job job.style.items [] (n + b) (state old.store (no_out counts))) (sym e)
      ∙ l.is.3 n
      ∙ ap (λ x. then_do (with_frames job x (frames_of code at.place opens) n t) (rest_of_style job l.is.0)) (sym next)
      ∙ ap (λ frames. then_do (with_frames job scene.next frames n t) (rest_of_style job l.is.0)) (sym levels) in
      let z : 0 + budget ≡ budget = omega arith in
      record {
        state = t;
        stopped = sym (ap (executed job counts) z) ∙ goes 0 ∙ ap (λ o. then_do o (rest_of_style job l.is.0)) (stopped job scene.next shown 0 t refl);
        midst = l.is.0;
        of_style = subst (λ n. IsMidstOf job.style.items n l.is.0) (sym item) l.is.1;
        goes_on = goes;
        calls = subst (λ f. AreCalls job scene.entry f scene.levels.items scene.next) (sym l.is.2) calls;
        entry = entry ∙ sym (ap (λ (s : Store). s.current) same);
        depth = depth ∙ sym (ap (λ (s : Store). length s.literals) same);
        literals = literals ∙ sym (ap (λ (s : Store). take 8 s.literals) same);
      }

  -- what is shown, if anything is
  pub shows : (found : Option StoppedState) → IsLineLength old.outputs.breaker.line_length → old.store ≡ first_store job
      → old.outputs.breaker ≡ holding old.outputs.breaker.line_length (Collecting []) → taken ≡ budget
      → Comes old new (StandsInStyle job.style.items number running job code at opens (do_items job job.style.items []) taken)
      → IfSome found (λ scene. scene.next ≡ next_token code at)
      → IfSome found (λ scene. frames_shown job.style scene.levels.items ≡ frames_of code at.place opens)
      → IfSome found (λ scene. scene.entry ≡ store'.current) → IfSome found (λ scene. scene.depth ≡ length store'.literals)
      → IfSome found (λ scene. scene.literals.items ≡ take 8 store'.literals)
      → IfSome found (λ scene. AreCalls job scene.entry running scene.levels.items scene.next)
      → IfSome found (λ scene. scene.item ≡ number)
      → IfSome found (λ scene. IsScene job counts budget scene)
  shows None range store fresh e stands next levels entry depth literals calls item = tt
  shows (Some scene) range store fresh e stands next levels entry depth literals calls item =
      is_scene scene range store fresh e stands next levels entry depth literals calls item
