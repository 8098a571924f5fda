-- What a step leaves, over all tokens.
use Rattle.std.proofs.Common.{◌≡◌, ℕ, true, false, length, drop, slice_get, Option, Some, None, refl, ap, true≢false, []}
use Rattle.btx_step.proofs.Common.{BuiltIn, Callee, Job, Store, with_literals, finds_missing, row, runs_missing, built_in_run, function_run}
use Rattle.btx_bst.specs.declared.built_in.BuiltIn.TheVariants as built_in
use Rattle.btx_bst.specs.declared.callee.Callee.TheVariants as callee
use Rattle.btx_bst.specs.declared.token.Token.{Token}
use Rattle.btx_bst.specs.declared.token.Token.TheVariants as token
use Rattle.btx_step.specs.declared.next.Next.TheVariants as next
use Rattle.btx_step.specs.declared.said.StepOutput.TheVariants as step_output
use Rattle.btx_step.specs.declared.stand_in.StandIn.TheVariants as stand_in
use Rattle.btx_step.specs.language.Steps.{step_of}
use Rattle.btx_step.specs.laws.Leaves.{is_assignment, is_listing, operands_taken, VariablesStay, OtherEntriesStay, CurrentStays, DeepestStays}
use Rattle.btx_step.specs.laws.Leaves.{LowerLiteralsStay, ListingEmpties}
use Rattle.btx_step.proofs.AssignLemmas.{assigned}
use Rattle.btx_step.proofs.RuleLemmas.{pushed_by}
use Rattle.btx_step.proofs.KeepLemmas as keep
use Rattle.btx_step.proofs.PlainLemmas as plain
use Rattle.btx_step.proofs.KeepLemmas.{Keeps}

no_step : {A : Type 0} → true ≡ false → A
no_step e = absurd (true≢false e)

missing_kept : (current : Option ℕ) (s : Store) → Keeps (with_literals [] s) (drop 1 s.literals) (runs_missing current s)
missing_kept None s = keep.without_entry s.literals s
missing_kept (Some entry) s = keep.by_operands (row built_in.Missing).operands stand_in.Zero finds_missing (λ field p s r. plain.absence keep.Any_below
    keep.Kept keep.plain field s tt) s.literals s

built_in_kept : (job : Job) (f : BuiltIn) (s : Store)
    → is_assignment (token.Run (callee.BuiltIn f)) ≡ false → is_listing (token.Run (callee.BuiltIn f)) ≡ false
    → Keeps (with_literals [] s) (drop (length (row f).operands) s.literals) (built_in_run job f s)
unfolding built_in_run
built_in_kept job built_in.Assign s a l = no_step a
built_in_kept job built_in.Stack s a l = no_step l
built_in_kept job built_in.Missing s a l = missing_kept s.current s
built_in_kept job built_in.Swap s a l = keep.swaps s.literals s
built_in_kept job f s a l = keep.by_operands (row f).operands (pushed_by (row f).default) ((row f).does job) (keep.row_kept job f tt) s.literals s

run_kept : (job : Job) (f : Callee) (s : Store) → is_assignment (token.Run f) ≡ false → is_listing (token.Run f) ≡ false
    → Keeps (with_literals [] s) (drop (operands_taken (token.Run f)) s.literals) (function_run job f s)
unfolding function_run
run_kept job (callee.BuiltIn f) s a l = built_in_kept job f s a l
run_kept job (callee.User i) s a l = keep.answered (next.Open i) step_output.Nothing s
run_kept job (callee.Field i) s a l = plain.field keep.Any_below keep.Kept keep.plain job i s.current s tt
run_kept job (callee.EntryInteger i) s a l = plain.entry_integer keep.Any_below keep.Kept keep.plain i s.current s tt
run_kept job (callee.EntryString i) s a l = plain.entry_string keep.Any_below keep.Kept keep.plain i s.current s tt
run_kept job (callee.GlobalInteger i) s a l = keep.pushing step_output.Nothing _ s
run_kept job (callee.GlobalString i) s a l = keep.pushing step_output.Nothing _ s

kept : (job : Job) (t : Token) (s : Store) → is_assignment t ≡ false → is_listing t ≡ false
    → Keeps (with_literals [] s) (drop (operands_taken t) s.literals) (step_of job t s)
unfolding step_of
kept job (token.Text i) s a l = keep.pushing_text step_output.Nothing _ s
kept job (token.Integer n) s a l = keep.pushing step_output.Nothing _ s
kept job (token.Quote f) s a l = keep.pushing step_output.Nothing _ s
kept job (token.Run f) s a l = run_kept job f s a l

-- ---- the laws

pub variables_stay : VariablesStay
unfolding step_of function_run built_in_run
variables_stay job (token.Run (callee.BuiltIn built_in.Stack)) s a = refl
variables_stay job t s a = (kept job t s a refl).rest

pub other_entries_stay : OtherEntriesStay
unfolding step_of function_run built_in_run
other_entries_stay job (token.Run (callee.BuiltIn built_in.Assign)) s entry apart = (assigned job s.literals s).others entry apart
other_entries_stay job t s entry apart = ap (λ (x : Store). slice_get x.entries entry) (variables_stay job t s refl)

pub current_stays : CurrentStays
unfolding step_of function_run built_in_run
current_stays job (token.Run (callee.BuiltIn built_in.Assign)) s = (assigned job s.literals s).stays
current_stays job t s = ap (λ (x : Store). x.current) (variables_stay job t s refl)

pub deepest_stays : DeepestStays
unfolding step_of function_run built_in_run
deepest_stays job (token.Run (callee.BuiltIn built_in.Assign)) s = (assigned job s.literals s).deep
deepest_stays job t s = ap (λ (x : Store). x.deepest) (variables_stay job t s refl)

pub lower_literals_stay : LowerLiteralsStay
unfolding step_of function_run built_in_run
lower_literals_stay job (token.Run (callee.BuiltIn built_in.Assign)) s l = (assigned job s.literals s).stand
lower_literals_stay job t s l = (kept job t s refl l).stand

pub listing_empties : ListingEmpties
unfolding step_of function_run built_in_run
listing_empties job s = refl
