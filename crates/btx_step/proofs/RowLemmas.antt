-- Steps in a row.
use Rattle.std.proofs.Common.{◌≡◌, ◌<◌, ◌≤◌, ℕ, ℤ, cond, List, ◌∷◌, ◌++◌, length, take, Option, Some, None, slice_get, slice_set, refl, sym, ap, subst, ◌∙◌}
use Rattle.std.proofs.lemmas.Bool.{le-ltb, lt-ltb}
use Rattle.std.proofs.lemmas.List.{take_all}
use Rattle.btx_step.proofs.Common.{Literal, Integer, Text, Job, Store, EntryVariables, Answer, answer, done, quiet, says, pushed, with_literals, on_operands}
use Rattle.btx_step.proofs.Common.{row, runs, built_in_run, function_run, duplicates}
use Rattle.btx_bst.specs.declared.built_in.BuiltIn.TheVariants as built_in
use Rattle.btx_bst.specs.declared.callee.Callee.TheVariants as callee
use Rattle.btx_text.specs.declared.limits.Limit.TheVariants as limit
use Rattle.btx_step.specs.declared.next.Next.TheVariants as next
use Rattle.btx_step.specs.declared.said.StepOutput.TheVariants as step_output
use Rattle.btx_step.specs.language.Answers.{pushed_text}
use Rattle.btx_step.specs.language.Variables as variables
use Rattle.btx_step.specs.refinement.Variables as kept_variables
use Rattle.btx_step.specs.laws.Laws.{SwapTwice, DuplicatePop, StringsEndAtLimit, InEntry, ReadsBack}
use Rattle.btx_step.proofs.ValueLemmas.{read_at}
use Rattle.btx_step.specs.refinement.Strings.{joins}
use Rattle.btx_step.specs.refinement.Stacks.{swaps}

pub swap_twice : SwapTwice
unfolding built_in_run
swap_twice job x y xs s e =
    let swap : List Literal → Store → Answer = on_operands (row built_in.Swap).operands (row built_in.Swap).default swaps in
    let again : Answer → Answer = λ a. swap a.store.literals a.store in
    ap (λ l. again (swap l s)) e ∙ ap (λ l. done (with_literals l s)) (sym e)

-- a literal that has room is pushed
pushed_done : (v : Literal) (s : Store) → length s.literals < 1000 → pushed v s ≡ done (with_literals (v ∷ s.literals) s)
pushed_done v s room =
    ap (λ b. cond b (says step_output.Nothing (with_literals (v ∷ s.literals) s)) (answer (next.End limit.Literals) step_output.Nothing s))
    (lt-ltb (length s.literals) 1000 room)

pub duplicate_pop : DuplicatePop
unfolding built_in_run
duplicate_pop job x xs s e room =
    let inside : length (x ∷ xs) < 1000 = subst (λ l. length l < 1000) e room in
    let after : Answer → Answer = λ a. runs built_in.Pop (λ v. done) a.store in
    ap after (ap (λ l. on_operands (row built_in.Duplicate).operands (row built_in.Duplicate).default duplicates l s) e
    ∙ pushed_done x (with_literals (x ∷ xs) s) inside)
    ∙ ap (λ l. done (with_literals l s)) (sym e)

-- ---- the limit of strings

-- a string that is too long ends the run
text_ended : (text : List ℕ) (s : Store) → 1000000 < length text → pushed_text text s ≡ quiet (next.End limit.String) s
text_ended text s long =
    ap (λ b. cond b (quiet (next.End limit.String) s) (pushed (Text text) s)) (lt-ltb 1000000 (length text) long)

-- and another one is pushed where it has room
text_done : (text : List ℕ) (s : Store) → length text ≤ 1000000 → length s.literals < 1000
    → pushed_text text s ≡ done (with_literals (Text text ∷ s.literals) s)
text_done text s short room =
    ap (λ b. cond b (quiet (next.End limit.String) s) (pushed (Text text) s)) (le-ltb 1000000 (length text) short) ∙ pushed_done (Text text) s room

pub strings_end : StringsEndAtLimit
unfolding built_in_run
strings_end job last first below s e =
    let join : List Literal → Answer = λ l. on_operands (row built_in.Concatenate).operands (row built_in.Concatenate).default joins l s in
    record {
      too_long = λ long. ap join e ∙ text_ended (first ++ last) (with_literals below s) long;
      joined = λ short room. ap join e ∙ text_done (first ++ last) (with_literals below s) short room;
    }

-- ---- variables

-- what is pushed stands on top
on_top : (v : Literal) (s : Store) → length s.literals < 1000 → (pushed v s).store.literals ≡ v ∷ s.literals
on_top v s room = ap (λ (a : Answer). a.store.literals) (pushed_done v s room)

all_kept : (most : ℕ) (text : List ℕ) → length text ≤ most → take most text ≡ text
all_kept most text short = take_all most text short

-- the values of an entry that was written
written_values : (entries : List EntryVariables) (entry : ℕ) (values : EntryVariables) → entry < length entries
    → variables.values_of (slice_set entries entry values) entry ≡ values
written_values entries entry values within = ap kept_variables.values_in (read_at entries entry values within)

entry_integer_back : (job : Job) (i : ℕ) (n : ℤ) (xs : List Literal) (s : Store) (entry : ℕ) → length xs < 1000
    → entry < length s.entries → i < length (variables.values_of s.entries entry).integers
    → (kept_variables.entry_integer i (Some entry) (variables.with_entry_integer entry i n (with_literals xs s))).store.literals ≡ Integer n ∷ xs
entry_integer_back job i n xs s entry room within inside =
    on_top _ (variables.with_entry_integer entry i n (with_literals xs s)) room
    ∙ ap (λ m. Integer m ∷ xs) (ap (λ (values : EntryVariables). kept_variables.integer_in (slice_get values.integers i))
    (written_values s.entries entry _ within)
    ∙ ap kept_variables.integer_in (read_at (variables.values_of s.entries entry).integers i n inside))

entry_string_back : (job : Job) (i : ℕ) (text : List ℕ) (xs : List Literal) (s : Store) (entry : ℕ) → length xs < 1000
    → entry < length s.entries → i < length (variables.values_of s.entries entry).strings
    → (kept_variables.entry_string i (Some entry) (variables.with_entry_string entry i text (with_literals xs s))).store.literals ≡ Text text ∷ xs
entry_string_back job i text xs s entry room within inside =
    on_top _ (variables.with_entry_string entry i text (with_literals xs s)) room
    ∙ ap (λ t. Text t ∷ xs) (ap (λ (values : EntryVariables). kept_variables.string_in (slice_get values.strings i)) (written_values s.entries entry _ within)
    ∙ ap kept_variables.string_in (read_at (variables.values_of s.entries entry).strings i text inside))

-- what is stored in a variable of an entry, by the current entry
integer_stored : ℕ → ℤ → List Literal → Store → Option ℕ → Store
integer_stored i n xs s current = (variables.in_entry (λ entry. variables.stores_integer (variables.with_entry_integer entry i) (Integer n)) current
    (with_literals xs s)).store

string_stored : ℕ → ℕ → List ℕ → List Literal → Store → Option ℕ → Store
string_stored most i text xs s current =
    (variables.in_entry (λ entry. variables.stores_string most (variables.with_entry_string entry i) (Text text)) current (with_literals xs s)).store

integer_back : (job : Job) (i : ℕ) (n : ℤ) (xs : List Literal) (s : Store) (entry : Option ℕ) → s.current ≡ entry → length xs < 1000
    → InEntry entry (λ entry. (entry < length s.entries) × (i < length (variables.values_of s.entries entry).integers))
    → (kept_variables.entry_integer i (integer_stored i n xs s s.current).current (integer_stored i n xs s s.current)).store.literals ≡ Integer n ∷ xs
unfolding integer_stored
integer_back job i n xs s None e room takes = absurd takes
integer_back job i n xs s (Some entry) e room takes =
    ap (λ c. (kept_variables.entry_integer i (integer_stored i n xs s c).current (integer_stored i n xs s c)).store.literals) e
    ∙ ap (λ c. (kept_variables.entry_integer i c (variables.with_entry_integer entry i n (with_literals xs s))).store.literals) e
    ∙ entry_integer_back job i n xs s entry room takes.0 takes.1

string_back : (job : Job) (i : ℕ) (text : List ℕ) (xs : List Literal) (s : Store) (entry : Option ℕ) → s.current ≡ entry → length xs < 1000
    → InEntry entry (λ entry. (entry < length s.entries) × (i < length (variables.values_of s.entries entry).strings) × (length text ≤ job.entry_max))
    → (kept_variables.entry_string i (string_stored job.entry_max i text xs s s.current).current
    (string_stored job.entry_max i text xs s s.current)).store.literals ≡ Text text ∷ xs
unfolding string_stored
string_back job i text xs s None e room takes = absurd takes
string_back job i text xs s (Some entry) e room takes =
    ap (λ c. (kept_variables.entry_string i (string_stored job.entry_max i text xs s c).current (string_stored job.entry_max i text xs s c)).store.literals) e
    ∙ ap (λ c. (kept_variables.entry_string i c (variables.with_entry_string entry i (take job.entry_max text) (with_literals xs s))).store.literals) e
    ∙ ap (λ t. (kept_variables.entry_string i (Some entry) (variables.with_entry_string entry i t (with_literals xs s))).store.literals)
    (all_kept job.entry_max text takes.2)
    ∙ entry_string_back job i text xs s entry room takes.0 takes.1

-- `:=` on these literals
abbrev assigning : Job → List Literal → Store → Answer
assigning job xs s = on_operands (row built_in.Assign).operands (row built_in.Assign).default (variables.assigns job) xs s

pub reads_back : ReadsBack
unfolding built_in_run function_run integer_stored string_stored
reads_back job (callee.GlobalInteger i) (Integer n) xs s e room takes =
    ap (λ l. (kept_variables.global_integer i (assigning job l s).store).store.literals) e
    ∙ on_top _ (variables.with_global_integer i n (with_literals xs s)) room
    ∙ ap (λ m. Integer m ∷ xs) (ap kept_variables.integer_in (read_at s.integers i n takes))
reads_back job (callee.GlobalString i) (Text text) xs s e room takes =
    ap (λ l. (kept_variables.global_string i (assigning job l s).store).store.literals) e
    ∙ on_top _ (variables.with_global_string i (take job.global_max text) (with_literals xs s)) room
    ∙ ap (λ t. Text t ∷ xs) (ap kept_variables.string_in (read_at s.strings i (take job.global_max text) takes.0) ∙ all_kept job.global_max text takes.1)
reads_back job (callee.EntryInteger i) (Integer n) xs s e room takes =
    ap (λ l. (kept_variables.entry_integer i (assigning job l s).store.current (assigning job l s).store).store.literals) e
    ∙ integer_back job i n xs s s.current refl room takes
reads_back job (callee.EntryString i) (Text text) xs s e room takes =
    ap (λ l. (kept_variables.entry_string i (assigning job l s).store.current (assigning job l s).store).store.literals) e
    ∙ string_back job i text xs s s.current refl room takes
reads_back job f v xs s e room takes = absurd takes
