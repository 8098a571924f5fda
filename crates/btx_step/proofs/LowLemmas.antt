-- Where no function of the style stands on the stack, a step leaves none there; and what it opens or executes comes of its token alone.
use Rattle.std.proofs.Common.{◌≡◌, ℕ, ℤ, ◌<◌, Bool, true, false, cond, nat_lt, List, [], ◌∷◌, length, take, Option, Some, None, refl, arith, sym}
use Rattle.std.proofs.Common.{subst}
use Rattle.std.specs.Prelude.{slice_get, slice_index_or}
use Rattle.btx_step.proofs.Common.{BuiltIn, Callee, Literal, OperandKind, Next, Note, StepOutput, StandIn, Job, Store, Answer, answer, quiet, says, with_literals, pushes}
use Rattle.btx_step.proofs.Common.{pushes_text, Operand, Push, Back, Does, on_operands, row, runs_missing, built_in_run, function_run, misses_entry}
use Rattle.btx_text.specs.language.Limits.{greatest_string}
use Rattle.btx_bst.specs.declared.built_in.BuiltIn.TheVariants as built_in
use Rattle.btx_bst.specs.declared.callee.Callee.TheVariants as callee
use Rattle.btx_bst.specs.declared.token.Token.{Token}
use Rattle.btx_bst.specs.declared.token.Token.TheVariants as token
use Rattle.btx_bst.specs.language.Direct.{is_choice}
use Rattle.btx_stack.specs.declared.literal.Literal.TheVariants as literal
use Rattle.btx_step.specs.declared.literal.OperandKind.TheVariants as wanted
use Rattle.btx_text.specs.declared.limits.Limit.TheVariants as limit
use Rattle.btx_step.specs.declared.next.Next.TheVariants as next
use Rattle.btx_step.specs.declared.said.Note.TheVariants as note
use Rattle.btx_step.specs.declared.said.StepOutput.TheVariants as step_output
use Rattle.btx_step.specs.declared.stand_in.StandIn.TheVariants as stand_in
use Rattle.btx_step.specs.language.Answers.{complains}
use Rattle.btx_step.proofs.RuleLemmas.{Each, Taken, by_rule, pushed_by}
use Rattle.btx_step.proofs.PlainLemmas as plain
use Rattle.btx_step.proofs.PlainLemmas.{OfPushes}
use Rattle.btx_step.specs.language.Control as control
use Rattle.btx_step.specs.refinement.Control as kept_control
use Rattle.btx_step.specs.language.Entries as entries
use Rattle.btx_step.specs.refinement.Stacks as stacks
use Rattle.btx_step.specs.language.Variables as variables
use Rattle.btx_step.specs.refinement.Variables as kept_variables
use Rattle.btx_step.specs.language.Steps.{step_of}
use Rattle.btx_step.specs.refinement.Answers.{outside, refuses}

-- it is so
abbrev pub So : Bool → Type 0
So true = Unit {0}
So false = ⊥

pub so : (b : Bool) → b ≡ true → So b
so b e = subst So (sym e) tt

-- a built-in function that executes no function of the style but one that stands on the stack
abbrev pub IsCalm : BuiltIn → Type 0
IsCalm built_in.CallType = ⊥
IsCalm _ = Unit {0}

-- one of the style's first `r` functions, or one that executes none by itself
abbrev pub Below : ℕ → Callee → Type 0
Below r (callee.BuiltIn f) = IsCalm f
Below r (callee.User i) = i < r
Below r _ = Unit {0}

-- a literal that is no other function
abbrev pub Under : ℕ → Literal → Type 0
Under r (literal.Function f) = Below r f
Under r _ = Unit {0}

-- literals of which none executes a function of the style
abbrev pub Free : List Literal → Type 0
Free [] = Unit {0}
Free (x ∷ xs) = Under 0 x × Free xs

-- what follows a step opens or executes one of the style's first functions alone, and meets no limit of calls
abbrev pub Follows : ℕ → Next → Type 0
Follows r next.Nothing = Unit {0}
Follows r (next.End limit.Calls) = ⊥
Follows r (next.End _) = Unit {0}
Follows r (next.Run f) = Below r f
Follows r (next.Open i) = i < r
Follows r (next.Loop f g) = Below r f × Below r g

abbrev pub Low : ℕ → Answer → Type 0
Low r a = Follows r a.next × Free a.store.literals

pub below_more : (r : ℕ) (f : Callee) → Below 0 f → Below r f
below_more r (callee.BuiltIn f) h = h
below_more r (callee.User i) h = absurd (omega (arith, h))
below_more r (callee.Field i) h = tt
below_more r (callee.EntryInteger i) h = tt
below_more r (callee.EntryString i) h = tt
below_more r (callee.GlobalInteger i) h = tt
below_more r (callee.GlobalString i) h = tt

pub under_more : (r : ℕ) (x : Literal) → Under 0 x → Under r x
under_more r (literal.Function f) h = below_more r f h
under_more r (literal.Integer n) h = tt
under_more r (literal.Text text) h = tt
under_more r literal.Missing h = tt

module _ (r : ℕ) where
  pick : (b : Bool) (x y : Answer) → Low r x → Low r y → Low r (cond b x y)
  pick true x y h k = h
  pick false x y h k = k

  pushes_low : (words : StepOutput) (v : Literal) (s : Store) → Under 0 v → Free s.literals → Low r (pushes words v s)
  pushes_low words v s u h = pick (nat_lt (length s.literals) 1000) (says words (with_literals (v ∷ s.literals) s)) (answer (next.End limit.Literals) words s)
      (tt, (u, h)) (tt, h)

  integer_low : (words : StepOutput) (n : ℤ) (s : Store) → Free s.literals → Low r (pushes words (literal.Integer n) s)
  integer_low words n s h = pushes_low words (literal.Integer n) s tt h

  string_low : (words : StepOutput) (text : List ℕ) (s : Store) → Free s.literals → Low r (pushes words (literal.Text text) s)
  string_low words text s h = pushes_low words (literal.Text text) s tt h

  text_low : (words : StepOutput) (text : List ℕ) (s : Store) → Free s.literals → Low r (pushes_text words text s)
  text_low words text s h = pick (nat_lt greatest_string (length text)) (quiet (next.End limit.String) s) (pushes words (literal.Text text) s) (tt, h)
      (string_low words text s h)

  abbrev Lowers : Store → Answer → Type 0
  Lowers s a = Low r a

  pushed_low : OfPushes Free Lowers
  pushed_low = record {
    words = λ words s h. (tt, h);
    integer = integer_low;
    string = string_low;
    text = text_low;
    missing = λ s h. pushes_low step_output.Nothing literal.Missing s tt h;
  }

  complains_low : (note : Note) (instead : StandIn) (s : Store) → Free s.literals → Low r (complains note instead s)
  complains_low note instead s h = plain.complains Free Lowers pushed_low (note ∷ []) instead s h

  refuses_low : (v : Literal) (wanted : OperandKind) (instead : StandIn) (s : Store) → Free s.literals → Low r (refuses v wanted instead s)
  refuses_low v wanted instead s h = complains_low (note.WrongKind v wanted) instead s h

  pub outside_low : (s : Store) → Free s.literals → Low r (outside s)
  outside_low s h = complains_low note.NoEntry stand_in.Nothing s h

  -- ---- operands

  -- of a function on operands that fit, all literals below r or none
  abbrev Each_low : (Literal → Type 0) → (operands : List Operand) → Does operands → Type 0
  Each_low Q operands does = Each Q Free Lowers operands does

  -- so it is by the rule of operands
  ruled_low : (Q : Literal → Type 0) (operands : List Operand) (instead : StandIn) (does : Does operands) → Each_low Q operands does
      → (xs : List Literal) (s : Store)
      → Taken Q Free Lowers operands xs → Low r (on_operands operands (Push instead) does xs s)
  ruled_low Q operands instead does h xs s t = by_rule Q Free Lowers tt (plain.complains Free Lowers pushed_low) operands instead does h xs s t

  free_taken : (operands : List Operand) (xs : List Literal) → Free xs → Taken (Under 0) Free Lowers operands xs
  free_taken [] xs f = f
  free_taken (operand ∷ more) [] f = tt
  free_taken (operand ∷ more) (x ∷ xs) f = (f.0, free_taken more xs f.1)

  -- ---- the functions

  stored_integer_low : (store : ℤ → Store → Store) → ((n : ℤ) (s : Store) → (store n s).literals ≡ s.literals) → (v : Literal) (s : Store) → Free s.literals
      → Low r (variables.stores_integer store v s)
  stored_integer_low store same (literal.Integer n) s h = (tt, subst Free (sym (same n s)) h)
  stored_integer_low store same v s h = refuses_low v wanted.Integer stand_in.Nothing s h

  stored_string_low : (most : ℕ) (store : List ℕ → Store → Store) → ((text : List ℕ) (s : Store) → (store text s).literals ≡ s.literals)
      → (v : Literal) (s : Store) → Free s.literals → Low r (variables.stores_string most store v s)
  stored_string_low most store same (literal.Text text) s h = (tt, subst Free (sym (same (take most text) s)) h)
  stored_string_low most store same v s h = refuses_low v wanted.Text stand_in.Nothing s h

  in_entry_low : (go : ℕ → Store → Answer) (current : Option ℕ) (s : Store) → Free s.literals → ((entry : ℕ) → Low r (go entry s))
      → Low r (variables.in_entry go current s)
  in_entry_low go None s h each = outside_low s h
  in_entry_low go (Some entry) s h each = each entry

  assigned_low : (job : Job) (f : Callee) (v : Literal) (s : Store) → Free s.literals → Low r (variables.assigns job f v s)
  assigned_low job (callee.GlobalInteger i) v s h = stored_integer_low (variables.with_global_integer i) (λ n s. refl) v s h
  assigned_low job (callee.GlobalString i) v s h = stored_string_low job.global_max (variables.with_global_string i) (λ text s. refl) v s h
  assigned_low job (callee.EntryInteger i) v s h =
      in_entry_low (λ entry. variables.stores_integer (variables.with_entry_integer entry i) v) s.current s h
      (λ entry. stored_integer_low (variables.with_entry_integer entry i) (λ n s. refl) v s h)
  assigned_low job (callee.EntryString i) v s h =
      in_entry_low (λ entry. variables.stores_string job.entry_max (variables.with_entry_string entry i) v) s.current s h
      (λ entry. stored_string_low job.entry_max (variables.with_entry_string entry i) (λ text s. refl) v s h)
  assigned_low job f v s h = complains_low (note.NotAssignable f) stand_in.Nothing s h

  without_entry : (xs : List Literal) (s : Store) → Free xs → Low r (misses_entry xs s)
  without_entry [] s f = (tt, tt)
  without_entry (x ∷ xs) s f = (tt, f.1)

  runs_missing_low : (current : Option ℕ) (s : Store) → Free s.literals → Low r (runs_missing current s)
  runs_missing_low None s h = without_entry s.literals s h
  runs_missing_low (Some entry) s h =
      ruled_low (Under 0) (row built_in.Missing).operands stand_in.Zero entries.finds_missing (λ field u s h. plain.absence Free Lowers pushed_low field s h)
      s.literals s
      (free_taken (row built_in.Missing).operands s.literals h)

  -- `swap$`, which puts the only literal of a stack back
  swaps_low : (xs : List Literal) (s : Store) → Free xs → Low r (on_operands (row built_in.Swap).operands Back stacks.swaps xs s)
  swaps_low [] s f = (tt, tt)
  swaps_low (x ∷ []) s f = (tt, f)
  swaps_low (x ∷ y ∷ xs) s f = (tt, (f.1.0, (f.0, f.1.1)))

  -- ---- choices and loops, whose two functions may be any of the first

  -- the two on top may be functions of the style
  abbrev pub TwoUnder : List Literal → Type 0
  TwoUnder [] = Unit {0}
  TwoUnder (x ∷ []) = Under r x
  TwoUnder (x ∷ y ∷ xs) = Under r x × Under r y × Free xs

  chosen_below : (b : Bool) (f g : Callee) → Below r f → Below r g → Below r (kept_control.chosen b f g)
  chosen_below true f g h k = h
  chosen_below false f g h k = k

  choice_taken : (xs : List Literal) → TwoUnder xs → Taken (Under r) Free Lowers (row built_in.If).operands xs
  choice_taken [] u = tt
  choice_taken (x ∷ []) u = (u, tt)
  choice_taken (x ∷ y ∷ []) u = (u.0, (u.1, tt))
  choice_taken (x ∷ y ∷ z ∷ xs) u = (u.0, (u.1, (under_more r z u.2.0, u.2.1)))

  loop_taken : (xs : List Literal) → TwoUnder xs → Taken (Under r) Free Lowers (row built_in.While).operands xs
  loop_taken [] u = tt
  loop_taken (x ∷ []) u = (u, tt)
  loop_taken (x ∷ y ∷ xs) u = (u.0, (u.1, u.2))

  -- ---- the table, where no function of the style stands on the stack

  row_low : (job : Job) (f : BuiltIn) → IsCalm f → Each_low (Under 0) (row f).operands ((row f).does job)
  row_low job built_in.Assign c = λ f u x v s h. assigned_low job f x s h
  row_low job built_in.CallType c = absurd c
  row_low job built_in.Duplicate c = λ x u s h. pushes_low step_output.Nothing x (with_literals (x ∷ s.literals) s) u (u, h)
  row_low job built_in.If c = λ f u g v n w s h. (chosen_below (control.is_positive n) g f (below_more r g v) (below_more r f u), h)
  row_low job built_in.Stack c = λ s h. (tt, tt)
  row_low job built_in.Swap c = λ x u y v s h. (tt, (v, (u, h)))
  row_low job built_in.While c = λ body u test v s h. ((below_more r test v, below_more r body u), h)
  row_low job f c = plain.plain_row Free Lowers pushed_low (Under 0) job f tt

  built_in_low : (job : Job) (f : BuiltIn) (s : Store) → IsCalm f → Free s.literals → Low r (built_in_run job f s)
  unfolding built_in_run
  built_in_low job built_in.Missing s c h = runs_missing_low s.current s h
  built_in_low job built_in.Swap s c h = swaps_low s.literals s h
  built_in_low job f s c h =
      ruled_low (Under 0) (row f).operands (pushed_by (row f).default) ((row f).does job) (row_low job f c) s.literals s
      (free_taken (row f).operands s.literals h)

  run_low : (job : Job) (f : Callee) (s : Store) → Below r f → Free s.literals → Low r (function_run job f s)
  unfolding function_run
  run_low job (callee.BuiltIn f) s b h = built_in_low job f s b h
  run_low job (callee.User i) s b h = (b, h)
  run_low job (callee.Field i) s b h = plain.field Free Lowers pushed_low job i s.current s h
  run_low job (callee.EntryInteger i) s b h = plain.entry_integer Free Lowers pushed_low i s.current s h
  run_low job (callee.EntryString i) s b h = plain.entry_string Free Lowers pushed_low i s.current s h
  run_low job (callee.GlobalInteger i) s b h = integer_low step_output.Nothing (kept_variables.integer_in (slice_get s.integers i)) s h
  run_low job (callee.GlobalString i) s b h = string_low step_output.Nothing (kept_variables.string_in (slice_get s.strings i)) s h

  -- an `if$` or a `while$`, over two of the first functions
  pub choice_low : (job : Job) (f : BuiltIn) (s : Store) → So (is_choice (Some (token.Run (callee.BuiltIn f)))) → TwoUnder s.literals
      → Low r (step_of job (token.Run (callee.BuiltIn f)) s)
  unfolding is_choice step_of function_run built_in_run
  choice_low job built_in.If s is u =
      ruled_low (Under r) (row built_in.If).operands stand_in.Nothing kept_control.chooses
      (λ f p g q n t s h. (chosen_below (control.is_positive n) g f q p, h)) s.literals s
      (choice_taken s.literals u)
  choice_low job built_in.While s is u =
      ruled_low (Under r) (row built_in.While).operands stand_in.Nothing kept_control.loops (λ body p test q s h. ((q, p), h)) s.literals s
      (loop_taken s.literals u)
  choice_low job f s is u = absurd is

  -- a token that stands alone: what it executes is one of the first functions, and what it quotes executes none
  abbrev pub Alone : Token → Type 0
  Alone (token.Text i) = Unit {0}
  Alone (token.Integer n) = Unit {0}
  Alone (token.Quote f) = Below 0 f
  Alone (token.Run f) = Below r f

  pub step_low : (job : Job) (x : Token) (s : Store) → Alone x → Free s.literals → Low r (step_of job x s)
  unfolding step_of
  step_low job (token.Text i) s a h = text_low step_output.Nothing (slice_index_or job.style.texts i []) s h
  step_low job (token.Integer n) s a h = integer_low step_output.Nothing n s h
  step_low job (token.Quote f) s a h = pushes_low step_output.Nothing (literal.Function f) s a h
  step_low job (token.Run f) s a h = run_low job f s a h

-- so is what a loop's test leaves
pub tested_free : (xs : List Literal) (s : Store) → Free xs → Free (control.tested xs s).store.literals
tested_free [] s f = tt
tested_free (literal.Integer n ∷ xs) s f = f.1
tested_free (x ∷ xs) s f = f.1
