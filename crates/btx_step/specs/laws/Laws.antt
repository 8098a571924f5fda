-- What holds of some steps in a row.
use Rattle.std.specs.Prelude.{◌≡◌, ◌<◌, ◌≤◌, ℕ, List, ◌∷◌, ◌++◌, length, Option, None, Some}
use Rattle.btx_bst.specs.declared.built_in.BuiltIn.TheVariants as built_in
use Rattle.btx_bst.specs.declared.callee.Callee.{Callee}
use Rattle.btx_bst.specs.declared.callee.Callee.TheVariants as callee
use Rattle.btx_stack.specs.declared.literal.Literal.{Literal}
use Rattle.btx_stack.specs.declared.literal.Literal.TheVariants.{Integer, Text, Function}
use Rattle.btx_text.specs.declared.limits.Limit.TheVariants as limit
use Rattle.btx_step.specs.declared.next.Next.TheVariants as next
use Rattle.btx_step.specs.language.Jobs.{Job}
use Rattle.btx_step.specs.language.Stores.{Store}
use Rattle.btx_step.specs.language.Answers.{done, quiet, with_literals}
use Rattle.btx_step.specs.language.Variables.{values_of}
use Rattle.btx_step.specs.language.Steps.{built_in_run, function_run}

-- ---- steps in a row

-- where two literals stand, `swap$ swap$` changes nothing
abbrev pub SwapTwice : Type 0
SwapTwice = (job : Job) (x y : Literal) (xs : List Literal) (s : Store) → s.literals ≡ x ∷ y ∷ xs →
    built_in_run job built_in.Swap (built_in_run job built_in.Swap s).store ≡ done s

-- where a literal stands and one more has room, `duplicate$ pop$` changes nothing
abbrev pub DuplicatePop : Type 0
DuplicatePop = (job : Job) (x : Literal) (xs : List Literal) (s : Store) → s.literals ≡ x ∷ xs → length s.literals < 1000 →
    built_in_run job built_in.Pop (built_in_run job built_in.Duplicate s).store ≡ done s

-- ---- variables

-- there is a current entry, and `P` holds of it
abbrev pub InEntry : Option ℕ → (ℕ → Type 0) → Type 0
InEntry None P = ⊥
InEntry (Some entry) P = P entry

-- a variable that is there takes a value uncut: one of an entry needs its entry to be the current one
abbrev pub Takes : Job → Store → Callee → Literal → Type 0
Takes job s (callee.GlobalInteger i) (Integer n) = i < length s.integers
Takes job s (callee.GlobalString i) (Text text) = (i < length s.strings) × (length text ≤ job.global_max)
Takes job s (callee.EntryInteger i) (Integer n) =
    InEntry s.current (λ entry. (entry < length s.entries) × (i < length (values_of s.entries entry).integers))
Takes job s (callee.EntryString i) (Text text) =
    InEntry s.current (λ entry. (entry < length s.entries) × (i < length (values_of s.entries entry).strings) × (length text ≤ job.entry_max))
Takes job s f v = ⊥

-- a variable that is executed after it was assigned a value pushes that value
abbrev pub ReadsBack : Type 0
ReadsBack = (job : Job) (f : Callee) (v : Literal) (xs : List Literal) (s : Store) → s.literals ≡ Function f ∷ v ∷ xs → length xs < 1000
    → Takes job s f v → (function_run job f (built_in_run job built_in.Assign s).store).store.literals ≡ v ∷ xs

-- ---- the limit of strings

-- what `*` makes of two strings, on the literals below them: with more than 1,000,000 bytes together they end the run at the limit of strings, however
-- many literals there are; with 1,000,000 or fewer they are joined, where a literal has room
pub record JoinsUpToLimit (job : Job) (last first : List ℕ) (below : List Literal) (s : Store) : Type 0 where
  pub too_long : 1000000 < length (first ++ last) → built_in_run job built_in.Concatenate s ≡ quiet (next.End limit.String) (with_literals below s)
  pub joined : length (first ++ last) ≤ 1000000 → length below < 1000 →
      built_in_run job built_in.Concatenate s ≡ done (with_literals (Text (first ++ last) ∷ below) s)

-- so it is wherever two strings stand on top
abbrev pub StringsEndAtLimit : Type 0
StringsEndAtLimit = (job : Job) (last first : List ℕ) (below : List Literal) (s : Store) → s.literals ≡ Text last ∷ Text first ∷ below →
    JoinsUpToLimit job last first below s
