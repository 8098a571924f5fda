-- What a stopped run still does: a function in a command, a command in a style.
use Rattle.std.proofs.Common.{◌≡◌, ℕ, zero, suc, ◌+◌, List, [], ◌∷◌, None, Some, Result, Ok, Err, IfOk, reverse, drop, slice_get, sym, ap, subst, ◌∙◌, refl}
use Rattle.std.proofs.Common.{arith}
use Rattle.btx_bst.specs.declared.callee.Callee.{Callee}
use Rattle.btx_bst.specs.language.Items.{Item}
use Rattle.btx_bst.specs.language.Items as item
use Rattle.btx_code.specs.refinement.Codes.{Coded}
use Rattle.btx_step.specs.language.Jobs.{Job}
use Rattle.btx_machine.specs.declared.command.Command.{Command}
use Rattle.btx_machine.specs.declared.command.Command.TheVariants as command
use Rattle.btx_machine.specs.declared.machine.Position.{Position}
use Rattle.btx_machine.specs.language.Commands.{cleared, in_order, visit}
use Rattle.btx_machine.specs.language.Items.{do_item, do_items, list_after}
use Rattle.btx_machine.specs.language.Meaning.{then_do}
use Rattle.btx_machine.specs.language.States.{Outcome, Done, Stopped, Limit}
use Rattle.btx_machine.specs.refinement.Commands.{Doing, visits}
use Rattle.btx_machine.specs.refinement.Marks.{Open}
use Rattle.btx_machine.specs.refinement.Outputs.{Work}
use Rattle.btx_machine.specs.refinement.Positions.{execute_at}
use Rattle.btx_machine.specs.refinement.Progress.{Reached}
use Rattle.btx_machine.specs.refinement.Written.{Comes}
use Rattle.btx_machine.proofs.ComesLemmas.{comes_as, comes_then}
use Rattle.btx_machine.proofs.VisitLemmas.{Remains}
use Rattle.btx_where.proofs.ShownLemmas.{drop_more}
use Rattle.btx_where.specs.Rests.{Executes, IsCommandOf, StandsInFunction, StandsInCommand, StandsInStyle, rest_of_command}

-- two clauses on one result
pub ok_both : {T E : Type 0} (r : Result T E) {P Q R : T → Type 0} → ((x : T) → P x → Q x → R x) → IfOk r P → IfOk r Q → IfOk r R
ok_both (Ok x) f p q = f x p q
ok_both (Err e) f p q = tt

-- an element of a list is the first of those from it on
first_of_those : {A : Type 0} (n : ℕ) (xs : List A) → slice_get xs n ≡ slice_get (drop n xs) 0
first_of_those zero [] = refl
first_of_those zero (x ∷ xs) = refl
first_of_those (suc n) [] = refl
first_of_those (suc n) (x ∷ xs) = first_of_those n xs

-- one thing, then another, then a third
then_assoc : (o : Outcome) (f g : Doing) → then_do (then_do o f) g ≡ then_do o (λ n u. then_do (f n u) g)
then_assoc (Done s left) f g = refl
then_assoc (Stopped s) f g = refl
then_assoc (Limit kind s left) f g = refl

module _ (job : Job) (code : Coded) (at : Position) (opens : List Open) (old mid new : Work) (k taken k' : ℕ) (e : k' ≡ k + taken) where
  -- one entry of several
  pub one_stands : (c : Command) (f running : Callee) (x : ℕ) (rest xs all : List ℕ) → rest ≡ x ∷ xs → running ≡ f
      → Comes old mid (Remains (λ entry. visit job c f (Some entry)) rest all k)
      → Comes mid new (StandsInFunction job c code at opens (visit job c f (Some x)) taken)
      → Comes old new (StandsInCommand (Executes c f) running job code at opens (visits job c f all) k')
  one_stands c f running x rest xs all is same first second =
      let go = λ (entry : ℕ). visit job c f (Some entry) in
      comes_then old mid new (Remains go rest all k) (StandsInFunction job c code at opens (go x) taken)
      (StandsInCommand (Executes c f) running job code at opens (in_order go all) k')
      (λ s t u i r. (
        record { command = c; function = f; entries = xs },
        (refl, refl),
        sym same,
        λ n. let z : n + taken + k ≡ n + k' = omega (arith, e) in
            sym (ap (λ b. in_order go all b s) z) ∙ sym (i (n + taken)) ∙ ap (λ ys. in_order go ys (n + taken) t) is
            ∙ ap (λ o. then_do o (in_order go xs)) (r n) ∙ then_assoc (execute_at job code at opens n u) (λ left u. Done (cleared job c u) left)
            (in_order go xs),
      )) first second

  -- one item of several, the one of this number
  pub item_stands : (number : ℕ) (running : Callee) (x : Item) (rest xs all : List Item) (list : List ℕ) → rest ≡ x ∷ xs → drop number all ≡ rest
      → Comes old mid (Reached (do_items job all []) (do_items job rest list) k)
      → Comes mid new (StandsInCommand (IsCommandOf x) running job code at opens (do_item job list x) taken)
      → Comes old new (StandsInStyle all number running job code at opens (do_items job all []) k')
  unfolding do_items
  item_stands number running x rest xs all list is from first second =
      comes_then old mid new (Reached (do_items job all []) (do_items job rest list) k)
      (StandsInCommand (IsCommandOf x) running job code at opens (do_item job list x) taken)
      (StandsInStyle all number running job code at opens (do_items job all []) k')
      (λ s t u i r. (
        record { command = r.0; items = xs; list = list_after job x list t.store },
        (
          x,
          first_of_those number all ∙ ap (λ ys. slice_get ys 0) (from ∙ is),
          sym (drop_more x xs number all (from ∙ is)) ∙ (let z : suc number ≡ number + 1 = omega arith in ap (λ n. drop n all) z),
          r.1,
        ),
        r.2,
        λ n. let z : n + taken + k ≡ n + k' = omega (arith, e) in
            sym (ap (λ b. do_items job all [] b s) z) ∙ sym (i.goes_on (n + taken)) ∙ ap (λ ys. do_items job ys list (n + taken) t) is
            ∙ ap (λ o. then_do o (do_items job xs (list_after job x list t.store))) (r.3 n)
            ∙ then_assoc (execute_at job code at opens n u) (rest_of_command job r.0) (do_items job xs (list_after job x list t.store)),
      )) first second

-- ---- an item, by its command

module _ (job : Job) (code : Coded) (at : Position) (opens : List Open) (old new : Work) (k : ℕ) (list : List ℕ) (x : Item) (f running : Callee) where
  pub execute_stands : x ≡ item.Execute f → running ≡ f → Comes old new (StandsInFunction job command.Execute code at opens
      (visit job command.Execute f None) k)
      → Comes old new (StandsInCommand (IsCommandOf x) running job code at opens (do_item job list x) k)
  unfolding do_item
  execute_stands is same stands =
      subst (λ x. Comes old new (StandsInCommand (IsCommandOf x) running job code at opens (do_item job list x) k)) (sym is)
      (comes_as old new (StandsInFunction job command.Execute code at opens (visit job command.Execute f None) k)
      (StandsInCommand (IsCommandOf (item.Execute f)) running job code at opens (visit job command.Execute f None) k)
      (λ s t r. (record { command = command.Execute; function = f; entries = [] }, ((refl, refl), refl), sym same, r)) stands)

  pub iterate_stands : x ≡ item.Iterate f → (ys : List ℕ) → ys ≡ list → Comes old new (StandsInCommand (Executes command.Iterate f) running job code at opens
      (visits job command.Iterate f ys) k)
      → Comes old new (StandsInCommand (IsCommandOf x) running job code at opens (do_item job list x) k)
  unfolding do_item
  iterate_stands is ys e stands =
      subst (λ x. Comes old new (StandsInCommand (IsCommandOf x) running job code at opens (do_item job list x) k)) (sym is)
      (subst (λ zs. Comes old new (StandsInCommand (Executes command.Iterate f) running job code at opens (visits job command.Iterate f zs) k)) e stands)

  pub reverse_stands : x ≡ item.Reverse f → (ys : List ℕ) → ys ≡ reverse list
      → Comes old new (StandsInCommand (Executes command.Reverse f) running job code at opens (visits job command.Reverse f ys) k)
      → Comes old new (StandsInCommand (IsCommandOf x) running job code at opens (do_item job list x) k)
  unfolding do_item
  reverse_stands is ys e stands =
      subst (λ x. Comes old new (StandsInCommand (IsCommandOf x) running job code at opens (do_item job list x) k)) (sym is)
      (subst (λ zs. Comes old new (StandsInCommand (Executes command.Reverse f) running job code at opens (visits job command.Reverse f zs) k)) e stands)
