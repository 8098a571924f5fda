-- What the steps that assign nothing leave: all but the literals, and the literals below their operands.
use Rattle.std.proofs.Common.{◌≡◌, ℕ, true, false, Bool, cond, nat_lt, List, [], ◌∷◌, length, drop, Option, Some, None, refl, arith}
use Rattle.btx_step.proofs.Common.{BuiltIn, Literal, Integer, Text, Missing, Next, StepOutput, StandIn, Job, Store, Answer, answer, with_literals, pushes}
use Rattle.btx_step.proofs.Common.{pushes_text, Operand, Push, Back, Does, on_operands, row, misses_entry}
use Rattle.btx_bst.specs.declared.built_in.BuiltIn.TheVariants as built_in
use Rattle.btx_step.specs.declared.next.Next.TheVariants as next
use Rattle.btx_text.specs.declared.limits.Limit.TheVariants as limit
use Rattle.btx_step.specs.declared.said.StepOutput.TheVariants as step_output
use Rattle.btx_step.specs.laws.Leaves.{StandUnder}
use Rattle.btx_step.specs.refinement.Entries as kept_entries
use Rattle.btx_step.specs.refinement.Stacks as stacks
use Rattle.btx_step.proofs.RuleLemmas.{Each, Taken, by_rule}
use Rattle.btx_step.proofs.PlainLemmas.{OfPushes, complains, plain_row}

-- a step left all but the literals of a store, and these literals below its results
pub record Keeps (all : Store) (below : List Literal) (a : Answer) : Type 0 where
  pub rest : with_literals [] a.store ≡ all
  pub stand : StandUnder below a.store.literals

-- ---- answers

-- no result
pub answered : (next : Next) (words : StepOutput) (s : Store) → Keeps (with_literals [] s) s.literals (answer next words s)
answered next words s = record { rest = refl; stand = record { results = []; few = omega arith; above = refl } }

-- one result
one_more : (next : Next) (words : StepOutput) (v : Literal) (s : Store) → Keeps (with_literals [] s) s.literals (answer next words (with_literals (v ∷ s.literals) s))
one_more next words v s = record { rest = refl; stand = record { results = v ∷ []; few = omega arith; above = refl } }

either : {all : Store} {below : List Literal} (b : Bool) (x y : Answer) → Keeps all below x → Keeps all below y → Keeps all below (cond b x y)
either true x y one other = one
either false x y one other = other

pub pushing : (words : StepOutput) (v : Literal) (s : Store) → Keeps (with_literals [] s) s.literals (pushes words v s)
pushing words v s = either (nat_lt (length s.literals) 1000) _ _ (one_more next.Nothing words v s) (answered (next.End limit.Literals) words s)

pub pushing_text : (words : StepOutput) (text : List ℕ) (s : Store) → Keeps (with_literals [] s) s.literals (pushes_text words text s)
pushing_text words text s = either (nat_lt 1000000 (length text)) _ _ (answered (next.End limit.String) step_output.Nothing s) (pushing words (Text text) s)

-- ---- operands

-- so it is of a function on operands that fit
abbrev pub Kept : Store → Answer → Type 0
Kept s a = Keeps (with_literals [] s) s.literals a

abbrev Any_taken : Literal → Type 0
Any_taken x = Unit {0}

abbrev pub Any_below : List Literal → Type 0
Any_below xs = Unit {0}

pub plain : OfPushes Any_below Kept
plain = record {
  words = λ words s r. answered next.Nothing words s;
  integer = λ words n s r. pushing words (Integer n) s;
  string = λ words text s r. pushing words (Text text) s;
  text = λ words text s r. pushing_text words text s;
  missing = λ s r. pushing step_output.Nothing Missing s;
}

abbrev pub KeepsEach : (operands : List Operand) → Does operands → Type 0
KeepsEach operands does = Each Any_taken Any_below Kept operands does

taken : (operands : List Operand) (xs : List Literal) → Taken Any_taken Any_below Kept operands xs
taken [] xs = tt
taken (operand ∷ more) [] = tt
taken (operand ∷ more) (x ∷ xs) = (tt, taken more xs)

-- so it is by the rule
pub by_operands : (operands : List Operand) (instead : StandIn) (does : Does operands) → KeepsEach operands does → (xs : List Literal) (s : Store)
    → Keeps (with_literals [] s) (drop (length operands) xs) (on_operands operands (Push instead) does xs s)
by_operands operands instead does h xs s =
    by_rule Any_taken Any_below Kept tt (complains Any_below Kept plain) operands instead does h xs s (taken operands xs)

-- ---- functions on operands that fit

duplicated : (v : Literal) (s : Store) → Kept s (stacks.duplicates v s)
duplicated v s =
    either (nat_lt (length (v ∷ s.literals)) 1000) _ _
    (record { rest = refl; stand = record { results = v ∷ v ∷ []; few = omega arith; above = refl } })
    (record { rest = refl; stand = record { results = v ∷ []; few = omega arith; above = refl } })

-- `swap$`, which puts the only literal of a stack back
pub swaps : (xs : List Literal) (s : Store) → Keeps (with_literals [] s) (drop 2 xs) (on_operands (row built_in.Swap).operands Back stacks.swaps xs s)
swaps [] s = answered next.Nothing _ (with_literals [] s)
swaps (x ∷ []) s = record { rest = refl; stand = record { results = x ∷ []; few = omega arith; above = refl } }
swaps (x ∷ y ∷ xs) s = record { rest = refl; stand = record { results = y ∷ x ∷ []; few = omega arith; above = refl } }

-- ---- entries and variables

type_run : (f : Option ℕ) (s : Store) → Keeps (with_literals [] s) s.literals (kept_entries.runs_type f s)
type_run None s = answered next.Nothing step_output.Nothing s
type_run (Some f) s = answered _ step_output.Nothing s

pub calls_type : (job : Job) (current : Option ℕ) (s : Store) → Keeps (with_literals [] s) s.literals (kept_entries.calls_type job current s)
calls_type job None s = answered next.Nothing _ s
calls_type job (Some entry) s = type_run _ s

-- `missing$`
pub without_entry : (xs : List Literal) (s : Store) → Keeps (with_literals [] s) (drop 1 xs) (misses_entry xs s)
without_entry xs s = answered next.Nothing _ (with_literals (drop 1 xs) s)

-- ---- the table

-- all but `:=`, which changes variables, and `stack$`, which takes all literals
abbrev pub TakesItsOwn : BuiltIn → Type 0
TakesItsOwn built_in.Assign = ⊥
TakesItsOwn built_in.Stack = ⊥
TakesItsOwn f = Unit {0}

pub row_kept : (job : Job) (f : BuiltIn) → TakesItsOwn f → KeepsEach (row f).operands ((row f).does job)
row_kept job built_in.Assign own = absurd own
row_kept job built_in.CallType own = λ s r. calls_type job s.current s
row_kept job built_in.Duplicate own = λ v p s r. duplicated v s
row_kept job built_in.If own = λ f p g q n t s r. answered _ step_output.Nothing s
row_kept job built_in.Stack own = absurd own
row_kept job built_in.Swap own = λ x p y q s r. record { rest = refl; stand = record { results = y ∷ x ∷ []; few = omega arith; above = refl } }
row_kept job built_in.While own = λ body p test q s r. answered _ step_output.Nothing s
row_kept job f own = plain_row Any_below Kept plain Any_taken job f tt
