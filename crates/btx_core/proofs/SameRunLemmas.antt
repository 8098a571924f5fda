-- What the commands of a style come to is the same, with numbers and in names.
use Rattle.std.proofs.Common.{◌≡◌, ℕ, zero, suc, ◌+◌, ◌<◌, ◌≤◌, ◌==◌, Bool, true, false, if◌then◌else◌, List, [], ◌∷◌, ◌++◌, length, map, filter, reverse}
use Rattle.std.proofs.Common.{Option, None, Some, option_map, sym, ap, ap₂, subst, ◌∙◌, refl, arith, append_assoc, true≢false, codes}
use mathlib.Core.List.{reverse-cons}
use Rattle.std.specs.List.{position, range_with_len}
use Rattle.std.specs.Option.{option_or, option_map_or}
use Rattle.std.specs.Prelude.{slice_get, slice_index_or}
use Rattle.std.specs.Str.{bytes_eq}
use Rattle.std.proofs.lemmas.List.{length-map}
use Rattle.std.proofs.lemmas.List.FromFn.{fill_by_all}
use Rattle.std.proofs.lemmas.List.Quantifiers.{position-Some}
use Rattle.std.proofs.lemmas.Option.{same_Some, unwrap_or-slice_get}
use Rattle.std.proofs.lemmas.Slice.Eq.{bytes_eq-Decides}
use Rattle.std.proofs.lemmas.Bool.{eqb-true}
use Rattle.btx_text.specs.declared.limits.Limit.{Limit}
use Rattle.btx_text.specs.language.LogLines.{Line}
use Rattle.btx_bst.specs.declared.built_in.BuiltIn.{BuiltIn}
use Rattle.btx_bst.specs.declared.callee.Callee.{Callee}
use Rattle.btx_bst.specs.declared.callee.Callee.TheVariants as callee
use Rattle.btx_bst.specs.declared.token.Token.{Token}
use Rattle.btx_bst.specs.declared.token.Token.TheVariants as token
use Rattle.btx_bst.specs.language.BuiltIns.{built_in_of}
use Rattle.btx_bst.specs.language.Items as item
use Rattle.btx_bst.specs.language.Items.{Item}
use Rattle.btx_bst.specs.language.MessageTexts.{complaint_line}
use Rattle.btx_bst.specs.laws.References.{IsFunction, IsKnownItem}
use Rattle.btx_bib.specs.declared.end.End.{End as LibraryEnd}
use Rattle.btx_bib.specs.declared.end.End.TheVariants as ending
use Rattle.btx_bib.specs.language.MessageTexts.{message_line}
use Rattle.btx_bst.specs.language.Names.{Names, named_lower}
use Rattle.btx_stack.specs.declared.literal.Literal.{Literal as Numbered}
use Rattle.btx_step.specs.declared.next.Next.TheVariants as next
use Rattle.btx_step.specs.declared.said.Note.TheVariants as note
use Rattle.btx_step.specs.declared.said.StepOutput.{StepOutput}
use Rattle.btx_step.specs.declared.said.StepOutput.TheVariants as step_output
use Rattle.btx_step.specs.language.Answers as answers
use Rattle.btx_step.specs.language.Answers.{with_literals}
use Rattle.btx_step.specs.language.Jobs.{Job as NumberedJob}
use Rattle.btx_step.specs.language.Notes.{note_text, note_kind, has_place}
use Rattle.btx_step.specs.language.Sorting.{inserted, sorted, sorted_by}
use Rattle.btx_step.specs.language.Stores.{Store}
use Rattle.btx_step.specs.language.Variables.{string_of}
use Rattle.btx_step.specs.laws.Orders as orders
use Rattle.btx_step.specs.laws.Orders.{comes_first}
use Rattle.btx_step.proofs.Orders.{sorted_once}
use Rattle.btx_machine.specs.declared.command.Command.{Command as Commanded}
use Rattle.btx_machine.specs.declared.command.Command.TheVariants as command
use Rattle.btx_machine.specs.language.Commands as numbered
use Rattle.btx_machine.specs.language.Commands.{in_order, visit, command_word}
use Rattle.btx_machine.specs.language.Items.{do_item, do_items, list_after, read_limit}
use Rattle.btx_machine.specs.language.Meaning.{then_do as then_act}
use Rattle.btx_machine.specs.language.MeaningBySteps as by_steps
use Rattle.btx_machine.specs.language.Saying.{logging}
use Rattle.btx_machine.specs.language.States.{State as NumberedState, Outcome as Came, Done as CameDone, Stopped as CameStopped, Limit as CameLimit}
use Rattle.btx_core.specs.language.Meanings.{Done, Limited, Meaning, Outcome, Stopped, then_do}
use Rattle.btx_core.specs.language.Notes.{error, shows}
use Rattle.btx_core.specs.language.Runs.{Ascends, CommandsCome, GoesOn, IsInOrder, IsListAfter, NoneBefore, with_empty_stack, command_does, sort_key, execute_once}
use Rattle.btx_core.specs.language.Runs.{execute_for_each}
use Rattle.btx_core.specs.laws.SameLibraries.{limit_met}
use Rattle.btx_core.specs.laws.SameStyles.{AreCommandsOf, commands_of, stands_for}
use Rattle.btx_core.specs.language.Styles.{Body, Command, Entry, Execute, Function, Iterate, Job, Library, Literal, Read, Reverse, Says, Sort, State, Style}
use Rattle.btx_core.specs.language.Styles.{StyleToken}
use Rattle.btx_core.proofs.ComputedLemmas.{computed}
use Rattle.btx_core.proofs.MeaningLemmas as named
use Rattle.btx_core.proofs.MeaningSame as meaning
use Rattle.btx_core.proofs.SameJobLemmas as of_job
use Rattle.btx_core.proofs.SameJobLemmas.{SameJob}
use Rattle.btx_core.proofs.SameStepLemmas as steps
use Rattle.btx_core.proofs.TableLemmas as table
use Rattle.btx_core.proofs.VariableLemmas.{by_name, item as item_at, value_at}

-- what the databases gave is logged, and a limit that their reading met ends the run
abbrev reads : Library → ℕ → State → Outcome
reads library left s =
    let read = record s { log = s.log ++ library.log } in
    option_map_or (λ (limit : Limit). Limited limit read left) library.limit (Done read left)

-- ---- the name of what a name names

skipped : {A : Type 0} (make : A → Callee) (o : Option A) (b : Option Callee) (c : Callee) → ((x : A) → make x ≡ c → ⊥) → option_or (option_map make o) b
    ≡ Some c → b ≡ Some c
skipped make None b c apart e = e
skipped make (Some x) b c apart e = absurd (apart x (same_Some (make x) c e))

not_made : {A : Type 0} (make : A → Callee) (o : Option A) (c : Callee) → ((x : A) → make x ≡ c → ⊥) → option_map make o ≡ Some c → ⊥
not_made make None c apart e = absurd (cc)
not_made make (Some x) c apart e = apart x (same_Some (make x) c e)

taken : {A : Type 0} (make : A → Callee) (o : Option A) (b : Option Callee) (i : A) → ((x y : A) → make x ≡ make y → x ≡ y) → (b ≡ Some (make i) → ⊥)
    → option_or (option_map make o) b ≡ Some (make i) → o ≡ Some i
taken make None b i one apart e = absurd (apart e)
taken make (Some x) b i one apart e = ap Some (one x i (same_Some (make x) (make i) e))

named_at : (n : List ℕ) (xs : List (List ℕ)) (i : ℕ) → position (bytes_eq n) xs ≡ Some i → slice_index_or xs i [] ≡ n
named_at n xs i e = sym ((bytes_eq-Decides n (slice_index_or xs i [])).0 (position-Some (bytes_eq n) xs i [] e).1)

-- what is no built-in function, no function of the style, no field and no integer of each entry is named after these
behind_entry_integers : (names : Names) (n : List ℕ) (c : Callee) → ((x : BuiltIn) → callee.BuiltIn x ≡ c → ⊥) → ((x : ℕ) → callee.User x ≡ c → ⊥)
    → ((x : ℕ) → callee.Field x ≡ c → ⊥) → ((x : ℕ) → callee.EntryInteger x ≡ c → ⊥) → named_lower names n ≡ Some c
    → option_or (option_map callee.EntryString (position (bytes_eq n) names.entry_strings))
    (option_or (option_map callee.GlobalInteger (position (bytes_eq n) names.global_integers))
    (option_map callee.GlobalString (position (bytes_eq n) names.global_strings))) ≡ Some c
unfolding named_lower
behind_entry_integers names n c built_in user field integer e =
    let is_called : Option (List ℕ) → Bool = λ other. option_map_or (bytes_eq n) other false in
    let h = skipped callee.BuiltIn (built_in_of n) _ c built_in e in
    let h1 = skipped callee.User (position is_called names.functions) _ c user h in
    let h2 = skipped callee.Field (position (bytes_eq n) names.fields) _ c field h1 in
    skipped callee.EntryInteger (position (bytes_eq n) names.entry_integers) _ c integer h2

pub entry_string_named : (names : Names) (n : List ℕ) (i : ℕ) → named_lower names n ≡ Some (callee.EntryString i) → slice_index_or names.entry_strings i [] ≡ n
entry_string_named names n i e =
    let c = callee.EntryString i in
    let h = behind_entry_integers names n c (λ x e. absurd (cc)) (λ x e. absurd (cc)) (λ x e. absurd (cc)) (λ x e. absurd (cc)) e in
    named_at n names.entry_strings i (taken callee.EntryString (position (bytes_eq n) names.entry_strings) _ i (λ x y e. cc)
    (λ e. not_made callee.GlobalString (position (bytes_eq n) names.global_strings) c (λ x e. absurd (cc))
    (skipped callee.GlobalInteger (position (bytes_eq n) names.global_integers) _ c (λ x e. absurd (cc)) e)) h)

pub global_integer_named : (names : Names) (n : List ℕ) (i : ℕ) → named_lower names n ≡ Some (callee.GlobalInteger i)
    → slice_index_or names.global_integers i [] ≡ n
global_integer_named names n i e =
    let c = callee.GlobalInteger i in
    let h = behind_entry_integers names n c (λ x e. absurd (cc)) (λ x e. absurd (cc)) (λ x e. absurd (cc)) (λ x e. absurd (cc)) e in
    let h1 = skipped callee.EntryString (position (bytes_eq n) names.entry_strings) _ c (λ x e. absurd (cc)) h in
    named_at n names.global_integers i (taken callee.GlobalInteger (position (bytes_eq n) names.global_integers) _ i (λ x y e. cc)
    (λ e. not_made callee.GlobalString (position (bytes_eq n) names.global_strings) c (λ x e. absurd (cc)) e) h1)

-- ---- commands

module _ (job : NumberedJob) (style : Style) (library : Library) (h : SameJob job style library) (before : List Line) where
  abbrev names : Names
  names = job.style.names

  abbrev here : Job
  here = steps.here job style library h before

  abbrev of : Callee → Function
  of = of_job.of job style library h

  abbrev body : ℕ → Body
  body = of_job.body job style library h

  abbrev entry : ℕ → Entry
  entry = of_job.entry job style library h

  abbrev naming : table.Naming job style library
  naming = steps.naming job style library h before

  abbrev word : Token → StyleToken
  word = steps.word job style library h before

  abbrev known : Token → Type 0
  known = steps.known job style library h before

  abbrev pub Same : NumberedState → State → Type 0
  Same = steps.SameState job style library h before

  abbrev pub SameCame : Came → Outcome → Type 0
  SameCame = meaning.SameOutcome job computed here word of (λ f. refl) Same known

  abbrev pub means : Meaning
  means = named.by_steps computed here

  means_same : (f : Callee) → known (token.Run f) → (d w b : ℕ) (S : NumberedState) (s : State) → Same S s
      → SameCame (by_steps.meaning job (token.Run f) d w b S) (means.token (word (token.Run f)) d w b s)
  means_same f k = meaning.meaning_same job computed here word of (λ f. refl) Same known (steps.step_same job style library h before)
      (steps.test_same job style library h before) (steps.deepens_same job style library h before) (token.Run f) k

  then_same : (o : Came) (p : Outcome) → SameCame o p → (go : ℕ → NumberedState → Came) (go' : ℕ → State → Outcome)
      → ((b : ℕ) (S : NumberedState) (s : State) → Same S s → SameCame (go b S) (go' b s))
      → SameCame (then_act o go) (then_do p go')
  then_same = meaning.then_same job computed here word of (λ f. refl) Same known

  -- ---- what a function left on the stack

  left_over_is : table.IsError job style library naming note.LeftOver (codes "The literal stack isn't empty")
  unfolding note_text note_kind has_place
  left_over_is = record { of_text = refl; of_kind = refl; of_place = refl }

  abbrev left_over : Bool → List Numbered → StepOutput
  left_over t xs = if t then step_output.Nothing else step_output.Noted (note.LeftOver ∷ map note.Shown xs)

  abbrev named_frame : State → List ℕ → State
  named_frame frame name = record frame { executed = name }

  abbrev saying : StepOutput → Option ℕ → State → State
  saying = steps.saying job style library h before

  abbrev stacked : State → Store → State
  stacked = steps.stacked job style library h before

  abbrev vars : State → Store → State
  vars = steps.vars job style library h before

  abbrev state_of : State → Store → State
  state_of = steps.state_of job style library h before

  abbrev lit : Numbered → Literal
  lit = steps.lit job style library h before

  abbrev cleared_if : Bool → List ℕ → State → State
  cleared_if t name s =
      if t then record s { executed = name }
      else record (shows s.literals (error (codes "The literal stack isn't empty") (record s { executed = name }))) { literals = [] }

  cleared_at : (t : Bool) (xs : List Numbered) → (length xs == 0) ≡ t → (name : List ℕ) (frame : State) (T : Store)
      → cleared_if t name (state_of frame (with_literals xs T)) ≡ stacked (saying (left_over t xs) T.current (vars (named_frame frame name) T))
      (with_literals [] T)
  cleared_at true [] e name frame T = refl
  cleared_at true (x ∷ xs) e name frame T = let no : suc (length xs) ≡ 0 = eqb-true (suc (length xs)) 0 e in absurd (omega (arith, no))
  cleared_at false xs e name frame T =
      let f = named_frame frame name in
      let S = with_literals xs T in
      ap (λ (t : State). record (shows (map lit xs) t) { literals = [] })
      (table.error_same job style library naming (vars f T) S note.LeftOver
      (codes "The literal stack isn't empty") left_over_is)
      ∙ ap (λ (t : State). record t { literals = [] })
      (table.shows_same job style library naming xs
      (saying (step_output.Noted (note.LeftOver ∷ [])) T.current (vars f T)) S)
      ∙ ap (λ (l : List Line). record (stacked (vars f T) (with_literals [] T)) { log = l })
      (append_assoc frame.log (table.line_of job style library naming f T.current note.LeftOver ∷ [])
      (map (table.line_of job style library naming f T.current) (map note.Shown xs)))

  cleared_same : (c : Commanded) (name : List ℕ) → name ≡ command_word c → (S : NumberedState) (s : State) → Same S s
      → Same (numbered.cleared job c S) (with_empty_stack name s)
  cleared_same c name named S s r =
      let T = S.store in
      let xs = T.literals in
      let words = left_over (length xs == 0) xs in
      let is : with_empty_stack name s ≡ stacked (saying words T.current (vars (named_frame s name) T)) (with_literals [] T) =
      ap (with_empty_stack name) r.is ∙ ap (λ n. cleared_if (n == 0) name (state_of s T)) (length-map xs lit) ∙ cleared_at (length xs == 0) xs refl name s T in
      subst (Same (numbered.cleared job c S)) (sym is)
      (steps.behind job style library h before T S.out (named_frame s name) (command_word c) (answers.answer next.Nothing words (with_literals [] T)) refl
      (tt, tt) r.whole named r.out)

  -- ---- the function of a command

  abbrev entries : ℕ
  entries = length job.library.entries

  at_entry : (e : Option ℕ) → ((i : ℕ) → e ≡ Some i → i < entries) → (S : NumberedState) (s : State) → Same S s
      → Same (record S { store = record S.store { current = e } }) (record s { entry = option_map entry e })
  at_entry e lt S s r =
      let w = r.whole in
      record {
        whole = record {
          literals = w.literals;
          integers = w.integers;
          strings = w.strings;
          entries = w.entries;
          entry_integers = w.entry_integers;
          entry_strings = w.entry_strings;
          current = λ i is. let less = lt i is in let size = w.entries in omega (arith, less, size);
        };
        is = ap (λ (u : State). record u { entry = option_map entry e }) r.is;
        out = r.out;
      }

  visit_same : (c : Commanded) (name : List ℕ) → name ≡ command_word c → (f : Callee) → known (token.Run f) → (e : Option ℕ)
      → ((i : ℕ) → e ≡ Some i → i < entries) → (left : ℕ) (S : NumberedState) (s : State) → Same S s
      → SameCame (visit job c f e left S) (execute_once means name (of f) (option_map entry e) left s)
  unfolding visit
  visit_same c name named f k e lt left S s r =
      then_same _ _ (means_same f k 0 0 left _ _ (at_entry e lt S s r)) _ _ (λ b T t r. (cleared_same c name named T t r, refl))

  abbrev pub AllIn : List ℕ → Type 0
  AllIn [] = Unit {0}
  AllIn (x ∷ xs) = (x < entries) × AllIn xs

  visits_same : (c : Commanded) (name : List ℕ) → name ≡ command_word c → (f : Callee) → known (token.Run f) → (xs : List ℕ) → AllIn xs
      → (left : ℕ) (S : NumberedState) (s : State) → Same S s
      → SameCame (in_order (λ e. visit job c f (Some e)) xs left S) (execute_for_each means name (of f) (map entry xs) left s)
  visits_same c name named f k [] all left S s r = (r, refl)
  visits_same c name named f k (x ∷ xs) all left S s r =
      then_same _ _ (visit_same c name named f k (Some x) (λ i is. subst (λ j. j < entries) (same_Some x i is) all.0) left S s r) _ _
      (visits_same c name named f k xs all.1)

  -- ---- the list of entries

  all_behind : (xs ys : List ℕ) → AllIn xs → AllIn ys → AllIn (xs ++ ys)
  all_behind [] ys k l = l
  all_behind (x ∷ xs) ys k l = (k.0, all_behind xs ys k.1 l)

  all_ranged : (a n : ℕ) → a + n ≤ entries → AllIn (range_with_len a n)
  all_ranged a zero le = tt
  all_ranged a (suc n) le = (omega (arith, le), all_ranged (a + 1) n (omega (arith, le)))

  entries_are : library.entries ≡ map entry (range_with_len 0 entries)
  entries_are = fill_by_all entry library.entries entries (of_job.no_one job style library h)
      (of_job.entries_length (of_job.numbers job style library h) _ job.library.entries library.entries h.same_library.entries)
      (λ k lt. sym (unwrap_or-slice_get library.entries k (of_job.no_one job style library h)))

  -- ---- SORT

  abbrev key_of : NumberedState → ℕ → List ℕ
  key_of S e = string_of S.store.entries e 0

  key_is : (S : NumberedState) (s : State) → Same S s → (e : ℕ) → e < entries → sort_key s (entry e) ≡ key_of S e
  key_is S s r e lt =
      let first = h.first.sort_key in
      let there : 0 < length names.entry_strings = h.refers.names (codes "sort.key$") (callee.EntryString 0) first in
      let name = entry_string_named names (codes "sort.key$") 0 first in
      let strings = S.store.entries in
      let es = steps.es job style library h before in
      let keys = steps.keys job style library h before in
      let none = steps.none job style library h before in
      ap (λ (u : State). u.entry_strings (entry e).key (codes "sort.key$")) r.is
      ∙ ap (λ (k : List ℕ). by_name keys (λ j. by_name es (item_at (item_at strings none j).strings []) []) (λ n. []) k (codes "sort.key$"))
      (of_job.key_names job style library h e)
      ∙ ap (λ (f : List ℕ → List ℕ). f (codes "sort.key$"))
      (value_at keys (λ j. by_name es (item_at (item_at strings none j).strings []) []) (λ n. []) e (of_job.key_number job style library h e lt))
      ∙ ap (by_name es (item_at (item_at strings none e).strings []) []) (sym name)
      ∙ value_at es (item_at (item_at strings none e).strings []) [] 0 (of_job.entry_string_number job style library h 0 there)

  none_before : (S : NumberedState) (s : State) → Same S s → (x : ℕ) (ys : List ℕ) → x < entries → AllIn ys → orders.NoneBefore (key_of S) x ys
      → NoneBefore (sort_key s) (entry x) (map entry ys)
  none_before S s r x [] lt all k = tt
  none_before S s r x (y ∷ ys) lt all k = (ap₂ comes_first (key_is S s r y all.0) (key_is S s r x lt) ∙ k.0, none_before S s r x ys lt all.1 k.1)

  ascends : (S : NumberedState) (s : State) → Same S s → (ys : List ℕ) → AllIn ys → orders.Ascends (key_of S) ys → Ascends (sort_key s) (map entry ys)
  ascends S s r [] all k = tt
  ascends S s r (y ∷ ys) all k = (none_before S s r y ys all.0 all.1 k.0, ascends S s r ys all.1 k.1)

  ties_in : (S : NumberedState) (s : State) → Same S s → (wanted : List ℕ) (ys : List ℕ) → AllIn ys
      → filter (λ x. bytes_eq (sort_key s x) wanted) (map entry ys) ≡ map entry (filter (λ x. bytes_eq (key_of S x) wanted) ys)
  ties_in S s r wanted [] all = refl
  ties_in S s r wanted (y ∷ ys) all =
      ap (λ (k : List ℕ). if bytes_eq k wanted then entry y ∷ filter (λ x. bytes_eq (sort_key s x) wanted) (map entry ys) else filter
      (λ x. bytes_eq (sort_key s x) wanted) (map entry ys)) (key_is S s r y all.0)
      ∙ ap (λ (zs : List Entry). if bytes_eq (key_of S y) wanted then entry y ∷ zs else zs) (ties_in S s r wanted ys all.1)
      ∙ by (bytes_eq (key_of S y) wanted) where
        by : (t : Bool) → (if t then entry y ∷ map entry (filter (λ x. bytes_eq (key_of S x) wanted) ys) else map entry
            (filter (λ x. bytes_eq (key_of S x) wanted) ys))
            ≡ map entry (if t then y ∷ filter (λ x. bytes_eq (key_of S x) wanted) ys else filter (λ x. bytes_eq (key_of S x) wanted) ys)
        by true = refl
        by false = refl

  all_sorted : (lt : ℕ → ℕ → Bool) (xs : List ℕ) → AllIn xs → AllIn (sorted_by lt xs)
  unfolding sorted_by
  all_sorted lt [] k = tt
  all_sorted lt (x ∷ xs) k = all_inserted (sorted_by lt xs) (all_sorted lt xs k.1) where
    all_inserted : (ys : List ℕ) → AllIn ys → AllIn (inserted lt x ys)
    all_inserted [] l = (k.0, tt)
    all_inserted (y ∷ ys) l = by (lt y x) (all_inserted ys l.1) where
      by : (t : Bool) → AllIn (inserted lt x ys) → AllIn (if t then y ∷ inserted lt x ys else x ∷ y ∷ ys)
      by true m = (l.0, m)
      by false m = (k.0, l)

  in_order_behind : (S : NumberedState) (s : State) → Same S s → (list : List ℕ) → AllIn list
      → IsInOrder (sort_key s) (map entry list) (map entry (sorted (key_of S) list))
  in_order_behind S s r list all =
      let sorted_is = (sorted_once (key_of S) list (sorted (key_of S) list)).1 refl in
      let all_in = all_sorted _ list all in
      record {
        ascends = ascends S s r (sorted (key_of S) list) all_in sorted_is.ascends;
        ties_kept = λ wanted. ties_in S s r wanted (sorted (key_of S) list) all_in ∙ ap (map entry) (sorted_is.ties_kept wanted)
            ∙ sym (ties_in S s r wanted list all);
      }

  -- ---- commands, one after another

  -- commands come to an outcome that is the one of the items
  pub record Comes (items : List Item) (commands : List Command) (list : List ℕ) (left : ℕ) (S : NumberedState) (s : State) : Type 0 where
    pub outcome : Outcome
    pub come : CommandsCome means library commands (map entry list) left s outcome
    pub same : SameCame (do_items job items list left S) outcome

  record Goes (p : Outcome) (Next : ℕ → State → Outcome → Type 0) (o : Came) : Type 0 where
    outcome : Outcome
    goes : GoesOn p Next outcome
    same : SameCame o outcome

  goes_same : (o : Came) (p : Outcome) → SameCame o p → (Next : ℕ → State → Outcome → Type 0) (go : ℕ → NumberedState → Came)
      → ((b : ℕ) (S : NumberedState) (s : State) → Same S s → (r : Outcome) × Next b s r × SameCame (go b S) r) → Goes p Next (then_act o go)
  goes_same (CameDone S b) (Done s c) k Next go n =
      let r = n b S s k.0 in
      record { outcome = r.0; goes = subst (λ c. Next c s r.0) k.1 r.1; same = r.2 }
  goes_same (CameStopped S) (Stopped s) k Next go n = record { outcome = Stopped s; goes = refl; same = k }
  goes_same (CameLimit kind S b) (Limited limit s c) k Next go n = record { outcome = Limited limit s c; goes = refl; same = k }
  goes_same (CameDone S b) (Stopped s) k Next go n = absurd (true≢false k)
  goes_same (CameDone S b) (Limited limit s c) k Next go n = absurd (true≢false k)
  goes_same (CameStopped S) (Done s c) k Next go n = absurd (true≢false k)
  goes_same (CameStopped S) (Limited limit s c) k Next go n = absurd (true≢false k)
  goes_same (CameLimit kind S b) (Done s c) k Next go n = absurd (true≢false k)
  goes_same (CameLimit kind S b) (Stopped s) k Next go n = absurd (true≢false k)

  logged_same : (lines : List Line) (S : NumberedState) (s : State) → Same S s → Same (logging lines S) (record s { log = s.log ++ lines })
  logged_same lines S s r = record {
    whole = r.whole;
    is = ap (λ (u : State). record u { log = s.log ++ lines }) r.is;
    out =
        steps.logs_same before lines S.out s r.out;
  }

  read_same : (left : ℕ) (S : NumberedState) (s : State) → Same S s
      → SameCame (option_map_or (λ (kind : Limit). CameLimit kind (logging (map message_line job.library.messages) S) left) (read_limit job.library.ending)
      (CameDone (logging (map message_line job.library.messages) S) left)) (reads library left s)
  read_same left S s r =
      let lines = map message_line job.library.messages in
      let read : State = record s { log = s.log ++ library.log } in
      let same : Same (logging lines S) read = subst (λ (l : List Line). Same (logging lines S) (record s { log = s.log ++ l })) (sym h.same_library.log)
      (logged_same lines S s r) in
      by job.library.ending library.limit h.same_library.limit read same where
        by : (end : LibraryEnd) (met : Option Limit) → met ≡ limit_met end → (read : State) → Same (logging (map message_line job.library.messages) S) read
            → SameCame (option_map_or (λ (kind : Limit). CameLimit kind (logging (map message_line job.library.messages) S) left) (read_limit end)
            (CameDone (logging (map message_line job.library.messages) S) left))
            (option_map_or (λ (limit : Limit). Limited limit read left) met (Done read left))
        by ending.Whole None e read k = (k, refl)
        by ending.FileLimit (Some limit) e read k = (k, (sym (same_Some limit _ e), refl))
        by ending.StringLimit (Some limit) e read k = (k, (sym (same_Some limit _ e), refl))
        by ending.Whole (Some limit) e read k = absurd (cc)
        by ending.FileLimit None e read k = absurd (cc)
        by ending.StringLimit None e read k = absurd (cc)

  executed_is : (make : Function → List Command) (c : Callee) (first : List Command) → option_map make (stands_for (of_job.numbers job style library h) c)
      ≡ Some first → first ≡ make (of c)
  executed_is make c first e = by (stands_for (of_job.numbers job style library h) c) refl e where
    by : (o : Option Function) → stands_for (of_job.numbers job style library h) c ≡ o → option_map make o ≡ Some first → first ≡ make (of c)
    by None g e = absurd (cc)
    by (Some f) g e = sym (same_Some (make f) first e) ∙ ap make (sym (of_job.stands_of job style library h c f g))

  function_known : (c : Callee) → IsFunction (length job.style.bodies) c → known (token.Run c)
  function_known (callee.BuiltIn b) k = tt
  function_known (callee.User n) k = k
  function_known (callee.Field n) k = absurd k
  function_known (callee.EntryInteger n) k = absurd k
  function_known (callee.EntryString n) k = absurd k
  function_known (callee.GlobalInteger n) k = absurd k
  function_known (callee.GlobalString n) k = absurd k

  reversed_in : (xs : List ℕ) → AllIn xs → AllIn (reverse xs)
  reversed_in [] k = tt
  reversed_in (x ∷ xs) k = subst AllIn (sym (reverse-cons x xs)) (all_behind (reverse xs) (x ∷ []) (reversed_in xs k.1) (k.0, tt))

  map_reverse : (xs : List ℕ) → map entry (reverse xs) ≡ reverse (map entry xs)
  map_reverse [] = refl
  map_reverse (x ∷ xs) = ap (map entry) (reverse-cons x xs) ∙ map_both (reverse xs) (x ∷ []) ∙ ap (λ (es : List Entry). es ++ entry x ∷ []) (map_reverse xs)
      ∙ sym (reverse-cons (entry x) (map entry xs)) where
        map_both : (xs ys : List ℕ) → map entry (xs ++ ys) ≡ map entry xs ++ map entry ys
        map_both [] ys = refl
        map_both (x ∷ xs) ys = ap (λ (es : List Entry). entry x ∷ es) (map_both xs ys)

  -- an item that is a command
  commanded : (x : Item) (items : List Item) (c : Command) (more : List Command) (list next : List ℕ) (left : ℕ) (S : NumberedState) (s : State)
      → list_after job x list S.store ≡ next
      → IsListAfter library c (map entry list) s (map entry next) → SameCame (do_item job list x left S) (command_does means library (map entry list) c left s)
      → ((b : ℕ) (T : NumberedState) (t : State) → Same T t → Comes items more next b T t) → Comes (x ∷ items) (c ∷ more) list left S s
  unfolding do_items
  commanded x items c more list next left S s e behind same rest =
      let g = goes_same (do_item job list x left S) (command_does means library (map entry list) c left s) same
      (CommandsCome means library more (map entry next)) (do_items job items next)
      (λ b T t r. let comes = rest b T t r in (comes.outcome, comes.come, comes.same)) in
      record {
        outcome = g.outcome;
        come = (map entry next, behind, g.goes);
        same = subst (λ (l : List ℕ). SameCame (then_act (do_item job list x left S) (do_items job items l)) g.outcome) (sym e) g.same;
      }

  abbrev Rest : List Item → List Command → Type 0
  Rest items more = (list : List ℕ) → AllIn list → (b : ℕ) (T : NumberedState) (t : State) → Same T t → Comes items more list b T t

  abbrev of_item : Item → Option (List Command)
  of_item x = commands_of (of_job.numbers job style library h) job.style.file x

  -- an item that is nothing there
  declared : (x : Item) (items : List Item) (more : List Command)
      → ((list : List ℕ) (left : ℕ) (S : NumberedState) → do_items job (x ∷ items) list left S ≡ do_items job items list left S) → Rest items more
      → (list : List ℕ) → AllIn list → (left : ℕ) (S : NumberedState) (s : State) → Same S s → Comes (x ∷ items) more list left S s
  declared x items more e rest list all left S s r =
      let comes = rest list all left S s r in
      record { outcome = comes.outcome; come = comes.come; same = subst (λ (o : Came). SameCame o comes.outcome) (sym (e list left S)) comes.same }

  item_same : (x : Item) (items : List Item) (more : List Command) (first : List Command) → of_item x ≡ Some first → IsKnownItem (length job.style.bodies) x
      → Rest items more
      → (list : List ℕ) → AllIn list → (left : ℕ) (S : NumberedState) (s : State) → Same S s → Comes (x ∷ items) (first ++ more) list left S s
  unfolding do_items do_item command_word
  item_same (item.Message complaint line) items more first e k rest list all left S s r =
      subst (λ f. Comes (item.Message complaint line ∷ items) (f ++ more) list left S s) (same_Some _ first e)
      (commanded (item.Message complaint line) items (Says (complaint_line complaint line job.style.file)) more list list left S s refl refl
      (logged_same (complaint_line complaint line job.style.file ∷ []) S s r, refl) (rest list all))
  item_same item.Read items more first e k rest list all left S s r =
      subst (λ f. Comes (item.Read ∷ items) (f ++ more) list left S s) (same_Some _ first e)
      (commanded item.Read items Read more list (range_with_len 0 entries) left S s refl (sym entries_are) (read_same left S s r)
      (rest (range_with_len 0 entries) (all_ranged 0 entries (omega arith))))
  item_same (item.Execute f) items more first e k rest list all left S s r =
      subst (λ cs. Comes (item.Execute f ∷ items) (cs ++ more) list left S s) (sym (executed_is (λ (f : Function). Execute f ∷ []) f first e))
      (commanded (item.Execute f) items (Execute (of f)) more list list left S s refl refl
      (visit_same command.Execute (codes "EXECUTE") refl f (function_known f k) None (λ i is. absurd (cc)) left S s r) (rest list all))
  item_same (item.Iterate f) items more first e k rest list all left S s r =
      subst (λ cs. Comes (item.Iterate f ∷ items) (cs ++ more) list left S s) (sym (executed_is (λ (f : Function). Iterate f ∷ []) f first e))
      (commanded (item.Iterate f) items (Iterate (of f)) more list list left S s refl refl
      (visits_same command.Iterate (codes "ITERATE") refl f (function_known f k) list all left S s r) (rest list all))
  item_same (item.Reverse f) items more first e k rest list all left S s r =
      subst (λ cs. Comes (item.Reverse f ∷ items) (cs ++ more) list left S s) (sym (executed_is (λ (f : Function). Reverse f ∷ []) f first e))
      (commanded (item.Reverse f) items (Reverse (of f)) more list list left S s refl refl
      (subst (λ (es : List Entry). SameCame (in_order (λ e. visit job command.Reverse f (Some e)) (reverse list) left S)
      (execute_for_each means (codes "REVERSE") (of f) es left s)) (map_reverse list)
      (visits_same command.Reverse (codes "REVERSE") refl f (function_known f k) (reverse list) (reversed_in list all) left S s r)) (rest list all))
  item_same item.Sort items more first e k rest list all left S s r =
      subst (λ f. Comes (item.Sort ∷ items) (f ++ more) list left S s) (same_Some _ first e)
      (commanded item.Sort items Sort more list (sorted (key_of S) list) left S s refl (in_order_behind S s r list all) (r, refl)
      (rest (sorted (key_of S) list) (all_sorted _ list all)))
  item_same item.Entry items more first e k rest list all left S s r =
      subst (λ f. Comes (item.Entry ∷ items) (f ++ more) list left S s) (same_Some _ first e)
      (declared item.Entry items more (λ list left S. refl) rest list all left S s r)
  item_same (item.Function n) items more first e k rest list all left S s r =
      subst (λ f. Comes (item.Function n ∷ items) (f ++ more) list left S s) (same_Some _ first e)
      (declared (item.Function n) items more (λ list left S. refl) rest list all left S s r)
  item_same item.Integers items more first e k rest list all left S s r =
      subst (λ f. Comes (item.Integers ∷ items) (f ++ more) list left S s) (same_Some _ first e)
      (declared item.Integers items more (λ list left S. refl) rest list all left S s r)
  item_same item.Strings items more first e k rest list all left S s r =
      subst (λ f. Comes (item.Strings ∷ items) (f ++ more) list left S s) (same_Some _ first e)
      (declared item.Strings items more (λ list left S. refl) rest list all left S s r)
  item_same item.Macro items more first e k rest list all left S s r =
      subst (λ f. Comes (item.Macro ∷ items) (f ++ more) list left S s) (same_Some _ first e)
      (declared item.Macro items more (λ list left S. refl) rest list all left S s r)

  abbrev AllKnown : List Item → Type 0
  AllKnown [] = Unit {0}
  AllKnown (x ∷ xs) = IsKnownItem (length job.style.bodies) x × AllKnown xs

  items_known : (xs : List Item) → ((place : ℕ) (x : Item) → slice_get xs place ≡ Some x → IsKnownItem (length job.style.bodies) x) → AllKnown xs
  items_known [] k = tt
  items_known (x ∷ xs) k = (k 0 x refl, items_known xs (λ place y e. k (suc place) y e))

  -- the commands come to what the items come to
  items_same : (items : List Item) (commands : List Command) → AreCommandsOf (of_job.numbers job style library h) job.style.file items commands → AllKnown items
      → Rest items commands
  unfolding do_items
  items_same [] commands is k list all left S s r = record {
    outcome = Done s left;
    come = subst (λ (cs : List Command). CommandsCome means library cs (map entry list) left s (Done s left)) (sym is) refl;
    same = (r, refl);
  }
  items_same (x ∷ items) commands is k list all left S s r =
      subst (λ (cs : List Command). Comes (x ∷ items) cs list left S s) (sym is.4)
      (item_same x items is.1 is.0 is.2 k.0 (items_same items is.1 is.3 k.1) list all left S s r)

  pub run_same : (left : ℕ) (S : NumberedState) (s : State) → Same S s → Comes job.style.items style.commands [] left S s
  run_same left S s r = items_same job.style.items style.commands h.same_style.commands (items_known job.style.items h.refers.commands) [] tt left S s r
