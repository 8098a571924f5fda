-- A state of a run with numbers and one in names stay the same, step by step.
use Rattle.std.proofs.Common.{◌≡◌, ℕ, ℤ, zero, suc, ◌+◌, ◌-◌, ◌<◌, ◌==◌, ◌^◌, max, min, Bool, true, false, if◌then◌else◌, List, [], ◌∷◌, ◌++◌, length, map}
use Rattle.std.proofs.Common.{count_by, nat_lt, replicate, take, Result, Option, None, Some, option_map, sym, ap, ap₂, subst, ◌∙◌, refl, arith, append_assoc}
use Rattle.std.proofs.Common.{append-nil}
use Rattle.std.specs.List.{flat_map}
use Rattle.std.specs.Prelude.{slice_get, slice_index_or, slice_set}
use Rattle.std.proofs.lemmas.List.Sums.{sum_by-append}
use Rattle.btx_text.specs.language.LogLines.{Line, is_warning, is_error}
use Rattle.btx_bib.specs.language.Library.{entry_type, entry_value, key_of}
use Rattle.btx_bst.specs.declared.built_in.BuiltIn.{BuiltIn}
use Rattle.btx_bst.specs.declared.built_in.BuiltIn.TheVariants as built_in
use Rattle.btx_bst.specs.declared.callee.Callee.{Callee}
use Rattle.btx_bst.specs.declared.callee.Callee.TheVariants as callee
use Rattle.btx_bst.specs.declared.callee.Kind.{Kind}
use Rattle.btx_bst.specs.declared.callee.Kind.TheVariants as kind
use Rattle.btx_bst.specs.declared.token.Token.{Token}
use Rattle.btx_bst.specs.declared.token.Token.TheVariants as token
use Rattle.btx_bst.specs.language.BuiltIns.{built_in_name}
use Rattle.btx_bst.specs.language.Names.{Names, name_of}
use Rattle.btx_bst.specs.laws.References.{IsKnown, Refers}
use Rattle.btx_stack.specs.declared.literal.Literal.{Literal as Numbered}
use Rattle.btx_stack.specs.declared.literal.Literal.TheVariants as literal
use Rattle.btx_step.specs.declared.next.Next.{Next}
use Rattle.btx_step.specs.declared.next.Next.TheVariants as next
use Rattle.btx_step.specs.declared.said.Note.TheVariants as note
use Rattle.btx_step.specs.declared.said.StepOutput.{StepOutput}
use Rattle.btx_step.specs.declared.said.StepOutput.TheVariants as step_output
use Rattle.btx_step.specs.language.Answers as answers
use Rattle.btx_step.specs.language.Answers.{Answer, pushes_text, pushes, with_literals}
use Rattle.btx_step.specs.language.Variables as variables
use Rattle.btx_step.specs.declared.literal.OperandKind.TheVariants as wanted
use Rattle.btx_step.specs.declared.stand_in.StandIn.TheVariants as stand_in
use Rattle.btx_text.specs.declared.limits.Limit.TheVariants as limit
use Rattle.btx_text.specs.declared.limits.TheConstants.{MOST_LITERALS}
use Rattle.btx_text.specs.language.Limits.{greatest_string}
use Rattle.btx_step.specs.language.Control as control
use Rattle.btx_step.specs.language.Entries.{entry_of}
use Rattle.btx_step.specs.language.Jobs.{Job as NumberedJob}
use Rattle.btx_step.specs.language.Notes.{note_line}
use Rattle.btx_step.specs.language.Steps.{step_of, function_run, built_in_run}
use Rattle.btx_step.specs.language.Stores.{Store, EntryVariables}
use Rattle.btx_step.specs.laws.Leaves.{is_assignment}
use Rattle.btx_step.proofs.LeaveLemmas.{variables_stay}
use Rattle.btx_machine.specs.language.Saying.{ended_line, counted_if, lines_logged, said_on}
use Rattle.btx_machine.specs.language.States.{Out, state}
use Rattle.btx_machine.specs.language.States.{State as NumberedState}
use Rattle.btx_machine.specs.language.Steps.{token_effect, turn_of}
use Rattle.btx_core.specs.language.Files.Counts.{counts_of}
use Rattle.btx_core.specs.language.Functions.{AFunction, AnyLiteral, Effect, Leaves, assigns, with_operands_checked, function_effect}
use Rattle.btx_core.specs.language.Functions.{wrong_operand_text, on_literals, or_else_default, push, push_default, push_text, row, test_result, test_on_literals, token_effect as named_effect}
use Rattle.btx_core.specs.language.Meanings.{deeper}
use Rattle.btx_core.specs.language.Notes.{empty_stack, error, errors}
use Rattle.btx_core.specs.language.Notes.{name_of as shown_name}
use Rattle.btx_core.specs.language.Styles.{Body, Declared, Entry, Function, Integer, Job, Library, Literal, Quoted, State, Style, Then, StyleToken}
use Rattle.btx_core.proofs.ComputedLemmas.{computed}
use Rattle.btx_core.proofs.KnownStoreLemmas.{Has, HasLiteral, HasAll, HasNext, Fine, step_fine, tested_fine}
use Rattle.btx_core.proofs.MeaningSame as meaning
use Rattle.btx_core.proofs.SameJobLemmas as of_job
use Rattle.btx_core.proofs.SameJobLemmas.{SameJob, listed}
use Rattle.btx_core.proofs.TableLemmas as table
use Rattle.btx_core.proofs.VariableLemmas.{Numbering, item, item_set}

-- ---- what is written and logged

-- lines of a log, as text
abbrev pub ended : List Line → List ℕ
ended lines = flat_map (λ (line : Line). ended_line line.text) lines

ended_both : (xs ys : List Line) → ended (xs ++ ys) ≡ ended xs ++ ended ys
ended_both [] ys = refl
ended_both (x ∷ xs) ys = ap (λ t. ended_line x.text ++ t) (ended_both xs ys) ∙ sym (append_assoc (ended_line x.text) (ended xs) (ended ys))

count_both : (test : Line → Bool) (xs : List Line) (y : Line) → count_by test (xs ++ y ∷ []) ≡ (if test y then count_by test xs + 1 else count_by test xs)
count_both test xs y = sum_by-append (λ x. if test x then 1 else 0) xs (y ∷ []) ∙ by (test y) where
  by : (t : Bool) → count_by test xs + (0 + (if t then 1 else 0)) ≡ (if t then count_by test xs + 1 else count_by test xs)
  by true = omega arith
  by false = omega arith

-- a count with one more line, at most the greatest of 64 bits
counted_more : (t : Bool) (n : ℕ) → counted_if t (min n (2 ^ 64 - 1)) ≡ min (if t then n + 1 else n) (2 ^ 64 - 1)
counted_more true n = omega arith
counted_more false n = refl

-- what was written and logged is the same, after the lines that were logged before
pub record SameWritten (before : List Line) (out : Out) (lines_ : List (List ℕ)) (pending_ : List ℕ) (log_ : List Line) : Type 0 where
  pub lines : lines_ ≡ out.lines
  pub pending : pending_ ≡ out.pending
  pub log : ended log_ ≡ ended before ++ out.log
  pub warnings : out.warnings ≡ (counts_of log_).warnings
  pub errors : out.errors ≡ (counts_of log_).errors

abbrev pub SameOut : List Line → Out → State → Type 0
SameOut before out s = SameWritten before out s.lines s.pending s.log

pub logs_same : (before : List Line) (lines : List Line) (out : Out) (s : State) → SameOut before out s
    → SameOut before (lines_logged lines out) (record s { log = s.log ++ lines })
unfolding lines_logged
logs_same before [] out s h = subst (λ (log : List Line). SameOut before out (record s { log = log })) (sym (append-nil s.log)) h
logs_same before (line ∷ lines) out s h =
    let next : State = record s { log = s.log ++ line ∷ [] } in
    let one : SameOut before (record out {
      log = out.log ++ ended_line line.text;
      warnings = counted_if (is_warning line.kind) out.warnings;
      errors =
          counted_if (is_error line.kind) out.errors;
    }) next = record {
      lines = h.lines;
      pending = h.pending;
      log = ended_both s.log (line ∷ []) ∙ ap₂ (λ (a b : List ℕ). a ++ b) h.log (append-nil (ended_line line.text))
          ∙ append_assoc (ended before) out.log (ended_line line.text);
      warnings = ap (counted_if (is_warning line.kind)) h.warnings
          ∙ counted_more (is_warning line.kind) (count_by (λ (line : Line). is_warning line.kind) s.log)
          ∙ ap (λ n. min n (2 ^ 64 - 1)) (sym (count_both (λ (line : Line). is_warning line.kind) s.log line));
      errors = ap (counted_if (is_error line.kind)) h.errors ∙ counted_more (is_error line.kind) (count_by (λ (line : Line). is_error line.kind) s.log)
          ∙ ap (λ n. min n (2 ^ 64 - 1)) (sym (count_both (λ (line : Line). is_error line.kind) s.log line));
    } in
    subst (λ (log : List Line). SameOut before
    (lines_logged lines (record out {
      log = out.log ++ ended_line line.text;
      warnings = counted_if (is_warning line.kind) out.warnings;
      errors =
          counted_if (is_error line.kind) out.errors;
    })) (record s { log = log }))
    (append_assoc s.log (line ∷ []) lines) (logs_same before lines _ next one)

-- ---- a state

module _ (job : NumberedJob) (style : Style) (library : Library) (h : SameJob job style library) (before : List Line) where
  abbrev pub names : Names
  names = job.style.names

  abbrev pub of : Callee → Function
  of = of_job.of job style library h

  abbrev pub body : ℕ → Body
  body = of_job.body job style library h

  abbrev pub entry : ℕ → Entry
  entry = of_job.entry job style library h

  abbrev pub naming : table.Naming job style library
  naming = record {
    of = of;
    body = body;
    entry = entry;
    named = of_job.named job style library h;
    keyed = of_job.keyed job style library h;
    typed = of_job.typed job style library h;
    default = of_job.default job style library h;
    preamble = h.same_library.preamble;
  }

  abbrev pub of_variables : table.Variables job style library naming
  of_variables = record {
    gi = listed names.global_integers;
    gs = listed names.global_strings;
    ei = listed names.entry_integers;
    es = listed names.entry_strings;
    keys = listed (of_job.key_list job style library h);
    user_name = λ i. name_of names (callee.User i);
    field_name = λ i. name_of names (callee.Field i);
    built = λ f. refl;
    users = λ i. refl;
    fields = λ i. refl;
    global_integers = λ i. refl;
    global_strings = λ i. refl;
    entry_integers = λ i. refl;
    entry_strings = λ i. refl;
    key_names = of_job.key_names job style library h;
  }

  abbrev pub gi : Numbering
  gi = of_variables.gi

  abbrev pub gs : Numbering
  gs = of_variables.gs

  abbrev pub ei : Numbering
  ei = of_variables.ei

  abbrev pub es : Numbering
  es = of_variables.es

  abbrev pub keys : Numbering
  keys = of_variables.keys

  abbrev pub none : EntryVariables
  none = table.none job style library naming of_variables

  abbrev pub here : Job
  here = table.here job style library naming

  abbrev pub lit : Numbered → Literal
  lit = table.lit job style library naming

  -- the values of variables by their names, and the rest of a state
  abbrev pub vars : State → Store → State
  vars = table.vars job style library naming of_variables

  -- and the stack and the current entry
  abbrev pub stacked : State → Store → State
  stacked = table.in_names job style library naming

  -- a store in names, and the rest of a state
  abbrev pub state_of : State → Store → State
  state_of frame s = stacked (vars frame s) s

  -- what the lists of a store have: a value for each variable, and no entry that isn't there
  pub record Fills (literals_ : List Numbered) (integers_ : List ℤ) (strings_ : List (List ℕ)) (entries_ : List EntryVariables) (current_ : Option ℕ)
      : Type 0 where
    pub literals : HasAll job h.refers literals_
    pub integers : length integers_ ≡ length names.global_integers
    pub strings : length strings_ ≡ length names.global_strings
    pub entries : length entries_ ≡ length job.library.entries
    pub entry_integers : (e : ℕ) → e < length entries_ → length (item entries_ none e).integers ≡ length names.entry_integers
    pub entry_strings : (e : ℕ) → e < length entries_ → length (item entries_ none e).strings ≡ length names.entry_strings
    pub current : (e : ℕ) → current_ ≡ Some e → e < length entries_

  abbrev pub Whole : Store → Type 0
  Whole s = Fills s.literals s.integers s.strings s.entries s.current

  pub record SameState (S : NumberedState) (s : State) : Type 0 where
    pub whole : Whole S.store
    pub is : s ≡ state_of s S.store
    pub out : SameOut before S.out s

  -- ---- what is said

  abbrev pub saying : StepOutput → Option ℕ → State → State
  saying = table.saying job style library naming

  said_same : (words : StepOutput) (executed : List ℕ) (current : Option ℕ) (out : Out) (s : State) → s.executed ≡ executed → SameOut before out s
      → SameOut before (said_on job executed current words out) (saying words current s)
  unfolding said_on
  said_same step_output.Nothing executed current out s e k = k
  said_same (step_output.Wrote text) executed current out s e k =
      record { lines = k.lines; pending = ap (λ (t : List ℕ). t ++ text) k.pending; log = k.log; warnings = k.warnings; errors = k.errors }
  said_same step_output.EndedLine executed current out s e k =
      record {
        lines = ap₂ (λ (ls : List (List ℕ)) (t : List ℕ). ls ++ t ∷ []) k.lines k.pending;
        pending = refl;
        log = k.log;
        warnings = k.warnings;
        errors =
            k.errors;
      }
  said_same (step_output.Noted notes) executed current out s e k =
      subst (λ (name : List ℕ). SameOut before (lines_logged (map (note_line job.style name (option_map (λ (e : ℕ). key_of (entry_of job e)) current)) notes)
      out)
      (saying (step_output.Noted notes) current s)) e
      (logs_same before (map (note_line job.style s.executed (option_map (λ (e : ℕ). key_of (entry_of job e)) current)) notes) out s k)

  -- what is said changes nothing of a store in names
  saying_of : (words : StepOutput) (current : Option ℕ) (frame : State) (s : Store) → stacked (saying words current (vars frame s)) s
      ≡ state_of (saying words current frame) s
  saying_of step_output.Nothing current frame s = refl
  saying_of (step_output.Wrote text) current frame s = refl
  saying_of step_output.EndedLine current frame s = refl
  saying_of (step_output.Noted notes) current frame s = refl

  -- ---- steps

  abbrev pub known : Token → Type 0
  known t = Refers names (length job.style.texts) (length job.style.bodies) t

  abbrev pub word : Token → StyleToken
  word = of_job.word job style library h

  abbrev pub SameEffect : Next → NumberedState → Effect → Type 0
  SameEffect = meaning.SameEffect job computed here word of (λ f. refl) SameState known

  -- each token of a function is known
  tokens_known : (i : ℕ) → i < length job.style.bodies → meaning.AllKnown job computed here word of (λ f. refl) SameState known
      (slice_index_or job.style.bodies i [])
  tokens_known i lt = all (slice_index_or job.style.bodies i []) (λ place t e. wider t (h.refers.bodies i place t e)) where
    wider_callee : (c : Callee) → IsKnown names i c → IsKnown names (length job.style.bodies) c
    wider_callee (callee.BuiltIn b) k = k
    wider_callee (callee.User n) k = omega (arith, k, lt)
    wider_callee (callee.Field n) k = k
    wider_callee (callee.EntryInteger n) k = k
    wider_callee (callee.EntryString n) k = k
    wider_callee (callee.GlobalInteger n) k = k
    wider_callee (callee.GlobalString n) k = k

    wider : (t : Token) → Refers names (length job.style.texts) i t → known t
    wider (token.Text n) k = k
    wider (token.Integer n) k = k
    wider (token.Quote c) k = wider_callee c k
    wider (token.Run c) k = wider_callee c k

    all : (ts : List Token) → ((place : ℕ) (t : Token) → slice_get ts place ≡ Some t → known t)
        → meaning.AllKnown job computed here word of (λ f. refl) SameState known ts
    all [] k = refl
    all (t ∷ ts) k = (k 0 t refl, all ts (λ place u e. k (suc place) u e))

  abbrev follows : Next → State → Effect
  follows = table.follows job style library naming

  -- what follows a step
  follows_same : (n : Next) → HasNext job h.refers n → (S : NumberedState) (t : State) → SameState S t → SameEffect n S (follows n t)
  follows_same next.Nothing k S t r = r
  follows_same (next.End kind) k S t r = (refl, r)
  follows_same (next.Run f) k S t r = (refl, (k, r))
  follows_same (next.Open i) k S t r = (tree_is i k, (tokens_known i k, r)) where
    tree_of : (ts : List Token) → meaning.tree job computed here word of (λ f. refl) SameState known ts ≡ of_job.words_of job style library h ts
    tree_of [] = refl
    tree_of (t ∷ ts) = ap (λ b. of_then t b) (tree_of ts) where
      of_then : Token → Body → Body
      of_then t b = Then (word t) b

    tree_is : (i : ℕ) → i < length job.style.bodies → meaning.tree job computed here word of (λ f. refl) SameState known (slice_index_or job.style.bodies i [])
        ≡ body i
    tree_is i lt = tree_of (slice_index_or job.style.bodies i []) ∙ of_job.body_is job style library h i lt
  follows_same (next.Loop f g) k S t r = (refl, (refl, (k.0, (k.1, r))))

  -- a store whose literals alone are others
  whole_other : (S T : Store) → with_literals [] T ≡ with_literals [] S → HasAll job h.refers T.literals → Whole S → Whole T
  whole_other S T e k w =
      let same : T ≡ with_literals T.literals S = ap (with_literals T.literals) e in
      subst Whole (sym same) (record {
        literals = k;
        integers = w.integers;
        strings = w.strings;
        entries = w.entries;
        entry_integers = w.entry_integers;
        entry_strings = w.entry_strings;
        current = w.current;
      })

  -- the state after a step that assigns nothing
  pub behind : (S : Store) (out : Out) (frame : State) (executed : List ℕ) (a : Answer) → with_literals [] a.store ≡ with_literals [] S → Fine job h.refers a
      → Whole S → frame.executed ≡ executed → SameOut before out frame
      → SameState (state a.store (said_on job executed a.store.current a.said out)) (stacked (saying a.said a.store.current (vars frame S)) a.store)
  behind S out frame executed a e k w named o =
      let rest = whole_other S a.store e k.0 w in
      let moved : stacked (saying a.said a.store.current (vars frame S)) a.store ≡ state_of (saying a.said a.store.current frame) a.store =
      ap (λ (T : Store). stacked (saying a.said a.store.current (vars frame T)) a.store) (sym (restored S a.store e))
      ∙ saying_of a.said a.store.current frame a.store in
      subst (SameState (state a.store (said_on job executed a.store.current a.said out))) (sym moved) (record {
        whole = rest;
        is = again a.said a.store.current frame a.store;
        out = said_same a.said executed a.store.current out frame named o;
      }) where
        -- variables are read from all but the literals
        restored : (S T : Store) → with_literals [] T ≡ with_literals [] S → with_literals S.literals T ≡ S
        restored S T e = ap (with_literals S.literals) e

        again : (words : StepOutput) (current : Option ℕ) (frame : State) (s : Store) → state_of (saying words current frame) s
            ≡ state_of (state_of (saying words current frame) s) s
        again words current frame s = refl

  -- a store in names, after an answer
  abbrev now : State → Answer → Effect
  now frame a = follows a.next (stacked (saying a.said a.store.current (vars frame a.store)) a.store)

  -- variables are read from all but the literals
  to_now : (S : Store) (frame : State) (a : Answer) → with_literals [] a.store ≡ with_literals [] S
      → follows a.next (stacked (saying a.said a.store.current (vars frame S)) a.store) ≡ now frame a
  to_now S frame a e = ap (λ (T : Store). follows a.next (stacked (saying a.said a.store.current (vars frame T)) a.store))
      (sym (ap (with_literals S.literals) e))

  now_same : (out : Out) (frame : State) (executed : List ℕ) (a : Answer) (e : Effect) → HasNext job h.refers a.next → Whole a.store → frame.executed ≡ executed
      → SameOut before out frame → e ≡ now frame a
      → SameEffect a.next (state a.store (said_on job executed a.store.current a.said out)) e
  now_same out frame executed a e k w named o is =
      let S = state a.store (said_on job executed a.store.current a.said out) in
      let t = state_of (saying a.said a.store.current frame) a.store in
      let same : SameState S t = record {
        whole = w;
        is = refl;
        out = said_same a.said executed a.store.current out frame named o;
      } in
      subst (SameEffect a.next S) (sym (is ∙ ap (follows a.next) (saying_of a.said a.store.current frame a.store))) (follows_same a.next k S t same)

  -- ---- literals

  silent : (x : Numbered) (s : Store) → (pushes step_output.Nothing x s).said ≡ step_output.Nothing
  silent x s = by (nat_lt (length s.literals) MOST_LITERALS) where
    by : (t : Bool) → (if t then answers.says step_output.Nothing (with_literals (x ∷ s.literals) s) else answers.answer (next.End limit.Literals) step_output.Nothing s).said
        ≡ step_output.Nothing
    by true = refl
    by false = refl

  silent_text : (text : List ℕ) (s : Store) → (pushes_text step_output.Nothing text s).said ≡ step_output.Nothing
  silent_text text s = by (nat_lt greatest_string (length text)) where
    by : (t : Bool) → (if t then answers.quiet (next.End limit.String) s else pushes step_output.Nothing (literal.Text text) s).said ≡ step_output.Nothing
    by true = refl
    by false = silent (literal.Text text) s

  nothing_said : (one other : List ℕ) (current : Option ℕ) (words : StepOutput) (out : Out) → words ≡ step_output.Nothing → said_on job one current words out
      ≡ said_on job other current words out
  unfolding said_on
  nothing_said one other current words out e = ap (λ w. said_on job one current w out) e ∙ sym (ap (λ w. said_on job other current w out) e)

  literal_same : (S : NumberedState) (s : State) (a : Answer) (e : Effect) → SameState S s → a.said ≡ step_output.Nothing → with_literals [] a.store
      ≡ with_literals [] S.store → Fine job h.refers a
      → e ≡ follows a.next (stacked (saying a.said a.store.current (vars s S.store)) a.store)
      → SameEffect a.next (state a.store (said_on job [] a.store.current a.said S.out)) e
  literal_same S s a e r quiet stay k is =
      subst (λ o. SameEffect a.next (state a.store o) e) (nothing_said s.executed [] a.store.current a.said S.out quiet)
      (now_same S.out s s.executed a e k.1 (whole_other S.store a.store stay k.0 r.whole) refl r.out (is ∙ to_now S.store s a stay))

  -- ---- `:=`

  abbrev table_known : Store → Callee → Type 0
  table_known = table.Known job style library naming of_variables

  -- a variable that the style has is in the store
  known_in : (s : Store) → Whole s → (c : Callee) → Has job h.refers c → table_known s c
  known_in s w (callee.GlobalInteger i) k = let e = w.integers in (of_job.global_integer_number job style library h i k, omega (arith, k, e))
  known_in s w (callee.GlobalString i) k = let e = w.strings in (of_job.global_string_number job style library h i k, omega (arith, k, e))
  known_in s w (callee.EntryInteger i) k = λ e is.
      let lt = w.current e is in
      let size = w.entries in
      let values = w.entry_integers e lt in
      (of_job.key_number job style library h e (omega (arith, lt, size)), (lt, (of_job.entry_integer_number job style library h i k, omega (arith, k, values))))
  known_in s w (callee.EntryString i) k = λ e is.
      let lt = w.current e is in
      let size = w.entries in
      let values = w.entry_strings e lt in
      (of_job.key_number job style library h e (omega (arith, lt, size)), (lt, (of_job.entry_string_number job style library h i k, omega (arith, k, values))))
  known_in s w (callee.BuiltIn f) k = refl
  known_in s w (callee.User f) k = refl
  known_in s w (callee.Field f) k = refl

  -- an assignment leaves as many values as there were
  whole_integers : (s : Store) (xs : List ℤ) → length xs ≡ length s.integers → Whole s → Whole (record s { integers = xs })
  whole_integers s xs e w = record {
    literals = w.literals;
    integers = e ∙ w.integers;
    strings = w.strings;
    entries = w.entries;
    entry_integers =
        w.entry_integers;
    entry_strings = w.entry_strings;
    current = w.current;
  }

  whole_strings : (s : Store) (xs : List (List ℕ)) → length xs ≡ length s.strings → Whole s → Whole (record s { strings = xs })
  whole_strings s xs e w = record {
    literals = w.literals;
    integers = w.integers;
    strings = e ∙ w.strings;
    entries = w.entries;
    entry_integers =
        w.entry_integers;
    entry_strings = w.entry_strings;
    current = w.current;
  }

  set_length : {A : Type 0} (xs : List A) (i : ℕ) (v : A) → length (slice_set xs i v) ≡ length xs
  set_length [] i v = refl
  set_length (x ∷ xs) zero v = refl
  set_length (x ∷ xs) (suc i) v = ap suc (set_length xs i v)

  whole_entry : (s : Store) (e : ℕ) (y : EntryVariables) → e < length s.entries → length y.integers ≡ length (item s.entries none e).integers
      → length y.strings ≡ length (item s.entries none e).strings
      → Whole s → Whole (record s { entries = slice_set s.entries e y })
  whole_entry s e y lt ints texts w = record {
    literals = w.literals;
    integers = w.integers;
    strings = w.strings;
    entries = set_length s.entries e y ∙ w.entries;
    entry_integers = λ j less. let same = set_length s.entries e y in ap (λ (f : ℕ → EntryVariables). length (f j).integers) (item_set s.entries none y e lt)
        ∙ of_integers j (j == e) refl (omega (arith, less, same));
    entry_strings = λ j less. let same = set_length s.entries e y in ap (λ (f : ℕ → EntryVariables). length (f j).strings) (item_set s.entries none y e lt)
        ∙ of_strings j (j == e) refl (omega (arith, less, same));
    current = λ j is. let same = set_length s.entries e y in let k = w.current j is in omega (arith, k, same);
  } where
    of_integers : (j : ℕ) (t : Bool) → (j == e) ≡ t → j < length s.entries → length (if t then y else item s.entries none j).integers
        ≡ length names.entry_integers
    of_integers j true f less = ints ∙ w.entry_integers e lt
    of_integers j false f less = w.entry_integers j less

    of_strings : (j : ℕ) (t : Bool) → (j == e) ≡ t → j < length s.entries → length (if t then y else item s.entries none j).strings ≡ length names.entry_strings
    of_strings j true f less = texts ∙ w.entry_strings e lt
    of_strings j false f less = w.entry_strings j less

  whole_assigned : (c : Callee) (v : Numbered) (s : Store) → Whole s → Whole (variables.assigns job c v s).store
  whole_assigned (callee.GlobalInteger i) (literal.Integer n) s w = whole_integers s (slice_set s.integers i n) (set_length s.integers i n) w
  whole_assigned (callee.GlobalInteger i) (literal.Text n) s w = w
  whole_assigned (callee.GlobalInteger i) (literal.Function n) s w = w
  whole_assigned (callee.GlobalInteger i) literal.Missing s w = w
  whole_assigned (callee.GlobalString i) (literal.Text text) s w = whole_strings s (slice_set s.strings i (take job.global_max text))
      (set_length s.strings i (take job.global_max text)) w
  whole_assigned (callee.GlobalString i) (literal.Integer n) s w = w
  whole_assigned (callee.GlobalString i) (literal.Function n) s w = w
  whole_assigned (callee.GlobalString i) literal.Missing s w = w
  whole_assigned (callee.EntryInteger i) v s w = by s.current refl v where
    by : (c : Option ℕ) → s.current ≡ c → (v : Numbered)
        → Whole (variables.in_entry (λ entry. variables.stores_integer (variables.with_entry_integer entry i) v) c s).store
    by None e v = w
    by (Some x) e (literal.Integer n) =
        let values = variables.values_of s.entries x in
        whole_entry s x (record values { integers = slice_set values.integers i n }) (w.current x e) (set_length values.integers i n) refl w
    by (Some x) e (literal.Text n) = w
    by (Some x) e (literal.Function n) = w
    by (Some x) e literal.Missing = w
  whole_assigned (callee.EntryString i) v s w = by s.current refl v where
    by : (c : Option ℕ) → s.current ≡ c → (v : Numbered)
        → Whole (variables.in_entry (λ entry. variables.stores_string job.entry_max (variables.with_entry_string entry i) v) c s).store
    by None e v = w
    by (Some x) e (literal.Text text) =
        let values = variables.values_of s.entries x in
        whole_entry s x (record values { strings = slice_set values.strings i (take job.entry_max text) }) (w.current x e) refl
        (set_length values.strings i (take job.entry_max text)) w
    by (Some x) e (literal.Integer n) = w
    by (Some x) e (literal.Function n) = w
    by (Some x) e literal.Missing = w
  whole_assigned (callee.BuiltIn f) v s w = w
  whole_assigned (callee.User f) v s w = w
  whole_assigned (callee.Field f) v s w = w

  whole_with : (s : Store) (xs : List Numbered) → HasAll job h.refers xs → Whole s → Whole (with_literals xs s)
  whole_with s xs k w = whole_other s (with_literals xs s) refl k w

  -- what `:=` does is the same, whatever stands on the stack; and the store stays whole
  record Assigned (frame : State) (s : Store) : Type 0 where
    same : with_operands_checked (row computed here built_in.Assign) (state_of frame s) ≡ now frame (built_in_run job built_in.Assign s)
    whole : Whole (built_in_run job built_in.Assign s).store

  -- this many literals are missing
  lacking : (n : ℕ) (frame : State) (s : Store) → push_default None (errors (replicate n empty_stack) (state_of frame (with_literals [] s)))
      ≡ now frame (answers.complained (replicate n note.EmptyStack) stand_in.Nothing (with_literals [] s))
  lacking n frame s = table.complained_same job style library naming (replicate n note.EmptyStack) (replicate n empty_stack)
      (table.errors_absent job style library naming n) stand_in.Nothing (vars frame s) (with_literals [] s)

  assigned : (xs : List Numbered) (frame : State) (s : Store) → HasAll job h.refers xs → Whole s → Assigned frame (with_literals xs s)
  unfolding built_in_run
  assigned [] frame s k w = record { same = lacking 2 frame s; whole = whole_with s [] tt w }
  assigned ((literal.Integer n) ∷ []) frame s k w = record { same = lacking 1 frame s; whole = whole_with s [] tt w }
  assigned ((literal.Text n) ∷ []) frame s k w = record { same = lacking 1 frame s; whole = whole_with s [] tt w }
  assigned ((literal.Function n) ∷ []) frame s k w = record { same = lacking 1 frame s; whole = whole_with s [] tt w }
  assigned (literal.Missing ∷ []) frame s k w = record { same = lacking 1 frame s; whole = whole_with s [] tt w }
  assigned (x ∷ y ∷ xs) frame s k w = of_top x k.0 where
    below : Store
    below = with_literals xs s

    whole_below : Whole below
    whole_below = whole_with s xs k.1.1 w

    taken : Literal → Result (State → Effect) (List ℕ)
    taken top = on_literals (AFunction ∷ AnyLiteral ∷ []) (assigns here) (top ∷ lit y ∷ map lit xs)

    ruled : (top : Numbered) → with_operands_checked (row computed here built_in.Assign) (state_of frame (with_literals (top ∷ y ∷ xs) s))
        ≡ or_else_default (taken (lit top)) None (state_of frame below)
    ruled top = ap (λ (t : Bool). if t then push_default None (errors (replicate (2 - suc (suc (length (map lit xs)))) empty_stack) (state_of frame below)) else
        or_else_default (taken (lit top)) None (state_of frame below))
        (table.at_least_two job style library naming (length (map lit xs)))

    wrong_kind : (top : Numbered) → Leaves (error (wrong_operand_text AFunction (lit top)) (state_of frame below))
        ≡ now frame (answers.complains (note.WrongKind top wanted.Function) stand_in.Nothing below)
    wrong_kind top = table.complains_same job style library naming (note.WrongKind top wanted.Function) (wrong_operand_text AFunction (lit top))
        (table.no_function job style library naming top) stand_in.Nothing (vars frame s) below

    of_top : (top : Numbered) → HasLiteral job h.refers top → Assigned frame (with_literals (top ∷ y ∷ xs) s)
    of_top (literal.Function c) has = record {
      same = ruled (literal.Function c) ∙ table.assigns_same job style library naming of_variables c y frame below (known_in below whole_below c has);
      whole = whole_assigned c y below whole_below;
    }
    of_top (literal.Integer n) has = record { same = ruled (literal.Integer n) ∙ wrong_kind (literal.Integer n); whole = whole_below }
    of_top (literal.Text n) has = record { same = ruled (literal.Text n) ∙ wrong_kind (literal.Text n); whole = whole_below }
    of_top literal.Missing has = record { same = ruled literal.Missing ∙ wrong_kind literal.Missing; whole = whole_below }

  -- ---- each step

  types : (e n : ℕ) → entry_type (entry_of job e) ≡ Some n → n < length job.style.bodies
  types = of_job.type_known job style library h

  fine_of : (t : Token) (S : NumberedState) (s : State) → known t → SameState S s → Fine job h.refers (step_of job t S.store)
  fine_of t S s k r = step_fine job h.refers types t S.store k r.whole.literals

  -- a function that is run, in the state in which it is named
  record Ran (frame : State) (c : Callee) (S : Store) : Type 0 where
    same : function_effect computed here (of c) (state_of frame S) ≡ now frame (function_run job c S)
    whole : Whole (function_run job c S).store

  plainly : (frame : State) (c : Callee) (S : Store) → is_assignment (token.Run c) ≡ false → Has job h.refers c → Whole S
      → function_effect computed here (of c) (state_of frame S) ≡ now frame (function_run job c S) → Ran frame c S
  unfolding step_of
  plainly frame c S plain has w e = record {
    same = e;
    whole = whole_other S (function_run job c S).store (variables_stay job (token.Run c) S plain)
        (step_fine job h.refers types (token.Run c) S has w.literals).0 w;
  }

  built_in_ran : (frame : State) (f : BuiltIn) (S : Store) → is_assignment (token.Run (callee.BuiltIn f)) ≡ false → (f ≡ built_in.Assign → ⊥) → Whole S
      → Ran frame (callee.BuiltIn f) S
  unfolding step_of function_run
  built_in_ran frame f S plain apart w =
      plainly frame (callee.BuiltIn f) S plain tt w
      (table.built_in_same job style library naming f apart (vars frame S) S
      ∙ to_now S frame (built_in_run job f S) (variables_stay job (token.Run (callee.BuiltIn f)) S plain))

  assignment_ran : (frame : State) (S : Store) → Whole S → Ran frame (callee.BuiltIn built_in.Assign) S
  unfolding function_run
  assignment_ran frame S w = let a = assigned S.literals frame S w.literals w in record { same = a.same; whole = a.whole }

  -- a field or variable
  value_ran : (c : Callee) → is_assignment (token.Run c) ≡ false
      → ((e i : ℕ) → c ≡ callee.Field i → (entry e).value (name_of names (callee.Field i)) ≡ entry_value i (entry_of job e))
      → (k : Kind) (name : List ℕ) → of c ≡ Declared k name → (frame : State) (S : Store) → Has job h.refers c → Whole S → Ran frame c S
  value_ran c plain valued k name is frame S has w =
      plainly frame c S plain has w (table.variable_same job style library naming of_variables c valued frame S (known_in S w c has) k name is)

  ran : (frame : State) (c : Callee) (S : Store) → Has job h.refers c → Whole S → Ran frame c S
  unfolding function_run
  ran frame (callee.BuiltIn built_in.Assign) S k w = assignment_ran frame S w
  ran frame (callee.BuiltIn f) S k w = built_in_ran frame f S refl (λ e. absurd (cc)) w
  ran frame (callee.User i) S k w = plainly frame (callee.User i) S refl k w refl
  ran frame (callee.Field i) S k w = value_ran (callee.Field i) refl
      (λ e j is. let same : i ≡ j = cc in of_job.valued job style library h e j (omega (arith, k, same))) kind.Field _ refl frame S k w
  ran frame (callee.EntryInteger i) S k w = value_ran (callee.EntryInteger i) refl (λ e j is. absurd (cc)) kind.EntryInteger _ refl frame S k w
  ran frame (callee.EntryString i) S k w = value_ran (callee.EntryString i) refl (λ e j is. absurd (cc)) kind.EntryString _ refl frame S k w
  ran frame (callee.GlobalInteger i) S k w = value_ran (callee.GlobalInteger i) refl (λ e j is. absurd (cc)) kind.GlobalInteger _ refl frame S k w
  ran frame (callee.GlobalString i) S k w = value_ran (callee.GlobalString i) refl (λ e j is. absurd (cc)) kind.GlobalString _ refl frame S k w

  -- what a token does with numbers, its word does in names
  pub step_same : (x : Token) (S : NumberedState) (s : State) → known x → SameState S s → SameEffect (token_effect job x S).next (token_effect job x S).state
      (named_effect computed here (word x) s)
  unfolding token_effect step_of
  step_same (token.Text n) S s k r =
      let text = slice_index_or job.style.texts n [] in
      literal_same S s (pushes_text step_output.Nothing text S.store) (push_text text s) r (silent_text text S.store) (variables_stay job (token.Text n) S.store refl)
      (fine_of (token.Text n) S s k r)
      (ap (push_text text) r.is ∙ table.text_same job style library naming step_output.Nothing text (vars s S.store) S.store)
  step_same (token.Integer n) S s k r =
      literal_same S s (pushes step_output.Nothing (literal.Integer n) S.store) (push (Integer n) s) r (silent (literal.Integer n) S.store)
      (variables_stay job (token.Integer n) S.store refl) (fine_of (token.Integer n) S s k r)
      (ap (push (Integer n)) r.is ∙ table.push_same job style library naming step_output.Nothing (literal.Integer n) (vars s S.store)
      S.store)
  step_same (token.Quote c) S s k r =
      literal_same S s (pushes step_output.Nothing (literal.Function c) S.store) (push (Quoted (of c)) s) r (silent (literal.Function c) S.store)
      (variables_stay job (token.Quote c) S.store refl) (fine_of (token.Quote c) S s k r)
      (ap (push (Quoted (of c))) r.is ∙ table.push_same job style library naming step_output.Nothing (literal.Function c) (vars s S.store)
      S.store)
  step_same (token.Run c) S s k r =
      let frame : State = record s { executed = shown_name (of c) } in
      let is : frame ≡ state_of frame S.store = ap (λ (u : State). record u { executed = shown_name (of c) }) r.is in
      let done = ran frame c S.store k r.whole in
      now_same S.out frame (name_of names c) (function_run job c S.store) (function_effect computed here (of c) frame) (fine_of (token.Run c) S s k r).1
      done.whole (of_job.named job style library h c)
      r.out (ap (function_effect computed here (of c)) is ∙ done.same)

  -- ---- tests of loops, and depths

  tested_whole : (xs : List Numbered) (s : Store) → with_literals [] (control.tested xs s).store ≡ with_literals [] s
  tested_whole [] s = refl
  tested_whole (literal.Integer n ∷ xs) s = refl
  tested_whole (literal.Text n ∷ xs) s = refl
  tested_whole (literal.Function n ∷ xs) s = refl
  tested_whole (literal.Missing ∷ xs) s = refl

  pub test_same : (S : NumberedState) (s : State) → SameState S s → ((turn_of job S).again ≡ (test_result s).0) × SameState (turn_of job S).state (test_result s).1
  unfolding turn_of
  test_same S s r =
      let name = built_in_name built_in.While in
      let frame : State = record s { executed = name } in
      let is : frame ≡ state_of frame S.store = ap (λ (u : State). record u { executed = name }) r.is in
      let test = control.tested S.store.literals S.store in
      let same : test_result s ≡ (test.again, stacked (saying test.said test.store.current (vars frame S.store)) test.store) =
      ap (λ (u : State). test_on_literals u.literals u) is ∙ table.tested_same job style library naming S.store.literals
      (vars frame S.store) S.store
      ∙ ap (λ c. (test.again, stacked (saying test.said c (vars frame S.store)) test.store)) (current_kept S.store.literals S.store) in (
        sym (ap (λ (p : Bool × State). p.0) same),
        subst (SameState (turn_of job S).state) (sym (ap (λ (p : Bool × State). p.1) same))
            (tested_state frame S test.said test.store (tested_whole S.store.literals S.store)
            (tested_fine job h.refers types S.store.literals S.store r.whole.literals) r.whole r.out),
      ) where
        current_kept : (xs : List Numbered) (s : Store) → s.current ≡ (control.tested xs s).store.current
        current_kept [] s = refl
        current_kept (literal.Integer n ∷ xs) s = refl
        current_kept (literal.Text n ∷ xs) s = refl
        current_kept (literal.Function n ∷ xs) s = refl
        current_kept (literal.Missing ∷ xs) s = refl

        tested_state : (frame : State) (S : NumberedState) (words : StepOutput) (store : Store) → with_literals [] store ≡ with_literals [] S.store
            → HasAll job h.refers store.literals → Whole S.store → SameOut before S.out frame
            → SameState (state store (said_on job frame.executed store.current words S.out)) (stacked (saying words store.current (vars frame S.store)) store)
        tested_state frame S words store e k w o = behind S.store S.out frame frame.executed (answers.answer next.Nothing words store) e (k, tt) w refl o

  pub deepens_same : (S : NumberedState) (s : State) (d : ℕ) → SameState S s
      → SameState (record S { store = record S.store { deepest = max S.store.deepest d } }) (deeper d s)
  deepens_same S s d r =
      let store : Store = record S.store { deepest = max S.store.deepest d } in
      record {
        whole = r.whole;
        is = ap (deeper d) r.is ∙ sym (ap (λ (u : State). state_of (record u { deepest = max u.deepest d }) store) r.is);
        out = r.out;
      }
