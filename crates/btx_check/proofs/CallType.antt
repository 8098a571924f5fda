-- `call.type$`: the function of the entry's type, or the style's default.
use Rattle.std.proofs.Common.{◌≡◌, ℕ, zero, suc, ◌+◌, ◌≤◌, List, [], ◌∷◌, Option, None, Some, true, refl, subst, ◌∙◌, inl, inr, codes}
use Rattle.std.specs.Prelude.{◌⊎◌}
use Rattle.std.specs.Option.{is_some, option_or, option_map_or}
use Rattle.btx_bst.specs.language.Style.{Style, type_of}
use Rattle.btx_bst.specs.declared.built_in.BuiltIn.TheVariants as built_in
use Rattle.btx_bst.specs.declared.callee.Callee.TheVariants as callee
use Rattle.btx_bst.specs.declared.token.Token.TheVariants as token
use Rattle.btx_bib.specs.language.Library.{entry_type}
use Rattle.btx_step.specs.declared.next.Next.TheVariants as next
use Rattle.btx_step.specs.language.Jobs.{Job}
use Rattle.btx_step.specs.language.Stores.{Store}
use Rattle.btx_step.specs.language.Entries.{entry_of}
use Rattle.btx_step.specs.language.Answers.{Answer, quiet, done}
use Rattle.btx_step.specs.language.Variables.{in_entry}
use Rattle.btx_step.specs.language.Steps.{built_in_run, function_run}
use Rattle.btx_machine.specs.language.States.{State}
use Rattle.btx_check.specs.Promise.{IsOf, is_among}
use Rattle.btx_check.specs.States.{Abstract, In}
use Rattle.btx_check.specs.Inclusion.{Into}
use Rattle.btx_check.specs.Running.{Sound, RunsFrom}
use Rattle.btx_check.proofs.Later.{in_later}
use Rattle.btx_check.proofs.Covering.{one_of}
use Rattle.btx_check.proofs.Choices.{PassesAfter, act_passes, quiet_passes}

-- the function of the style's default type
abbrev pub default_of : Style → Option ℕ
default_of style = type_of style (codes "default.type")

-- a function that an entry's type can be, or the style's default
abbrev pub Called : Style → List ℕ → ℕ → Type 0
Called style allowed number = (is_among allowed number ≡ true) ⊎ (default_of style ≡ Some number)

module _ (style : Style) (allowed : List ℕ) (a : Abstract) (r w : ℕ) (to : List Abstract) (each : (number : ℕ) → Called style allowed number
    → RunsFrom style allowed (token.Run (callee.User number)) (a ∷ []) r w to) (none : default_of style ≡ None → Into a to)
    (job : Job) (of : IsOf style allowed job) (n m bodies running left : ℕ) (s : State) (h : In job left a s.store) (fine : Sound job m s)
    (l1 : bodies + r ≤ m) (l2 : m ≤ 4096) (l3 : running + w ≤ 4096) where
  runner_good : (runner : Option ℕ) → ((number : ℕ) → runner ≡ Some number → Called style allowed number) → (runner ≡ None → default_of style ≡ None)
      → PassesAfter job n m to (callee.BuiltIn built_in.CallType)
      (option_map_or (λ (function : ℕ). quiet (next.Run (callee.User function))) runner done s.store) s bodies running left
  runner_good None c d = quiet_passes job n m to (callee.BuiltIn built_in.CallType) next.Nothing s.store s bodies running left
      (record { is_calm = tt; ends_so = (fine, (none (d refl)).into job left s.store h) })
  runner_good (Some number) c d =
      quiet_passes job n m to (callee.BuiltIn built_in.CallType) (next.Run (callee.User number)) s.store s bodies running left
      (each number (c number refl) job of n m bodies running left s (inl h) fine l1 l2 l3)

  or_cases : (own other : Option ℕ) → ((number : ℕ) → own ≡ Some number → Called style allowed number)
      → ((number : ℕ) → other ≡ Some number → Called style allowed number) → (number : ℕ) → option_or own other ≡ Some number → Called style allowed number
  or_cases None other f g number e = g number e
  or_cases (Some x) other f g number e = f number e

  or_none : (own other : Option ℕ) → option_or own other ≡ None → other ≡ None
  or_none None other e = e
  or_none (Some x) other e = absurd (cc)

  called : (entry number : ℕ) → option_or (entry_type (entry_of job entry)) (default_of job.style) ≡ Some number → Called style allowed number
  called entry = or_cases (entry_type (entry_of job entry)) (default_of job.style) (λ number e. inl (of.types entry number e))
      (λ number e. inr (subst (λ (st : Style). default_of st ≡ Some number) of.same e))

  not_called : (entry : ℕ) → option_or (entry_type (entry_of job entry)) (default_of job.style) ≡ None → default_of style ≡ None
  not_called entry e = subst (λ (st : Style). default_of st ≡ None) of.same (or_none (entry_type (entry_of job entry)) (default_of job.style) e)

  entry_good : (go : ℕ → Store → Answer) (o : Option ℕ) → is_some o ≡ true
      → ((entry : ℕ) → PassesAfter job n m to (callee.BuiltIn built_in.CallType) (go entry s.store) s bodies running left)
      → PassesAfter job n m to (callee.BuiltIn built_in.CallType) (in_entry go o s.store) s bodies running left
  entry_good go None k g = absurd (cc)
  entry_good go (Some entry) k g = g entry

pub call_type_runs : (style : Style) (allowed : List ℕ) (a : Abstract) (r w : ℕ) (to : List Abstract) → a.entry ≡ true
    → ((number : ℕ) → Called style allowed number → RunsFrom style allowed (token.Run (callee.User number)) (a ∷ []) r w to)
    → (default_of style ≡ None → Into a to)
    → RunsFrom style allowed (token.Run (callee.BuiltIn built_in.CallType)) (a ∷ []) r w to
unfolding function_run built_in_run
call_type_runs style allowed a r w to en each none job of zero m bodies running left s hs fine l1 l2 l3 = record { is_calm = tt; ends_so = fine }
call_type_runs style allowed a r w to en each none job of (suc n) m bodies running zero s hs fine l1 l2 l3 = record { is_calm = tt; ends_so = fine }
call_type_runs style allowed a r w to en each none job of (suc n) m bodies running (suc left) s hs fine l1 l2 l3 =
    let h = in_later job left a s.store (one_of job (suc left) a s.store hs) in
    act_passes job n m to (callee.BuiltIn built_in.CallType) bodies running left s
    (entry_good style allowed a r w to each none job of n m bodies running left s h fine l1 l2 l3
    (λ entry. option_map_or (λ (function : ℕ). quiet (next.Run (callee.User function))) (option_or (entry_type (entry_of job entry)) (default_of job.style))
    done) s.store.current (h.1.entry ∙ en)
    (λ entry. runner_good style allowed a r w to each none job of n m bodies running left s h fine l1 l2 l3
    (option_or (entry_type (entry_of job entry)) (default_of job.style))
    (λ number e. called style allowed a r w to each none job of n m bodies running left s h fine l1 l2 l3 entry number e)
    (λ e. not_called style allowed a r w to each none job of n m bodies running left s h fine l1 l2 l3 entry e)))
