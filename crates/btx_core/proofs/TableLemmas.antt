-- The table of built-in functions, in names: what each does is what it does with numbers. Numbers of functions and of entries are named by `of` and `entry`.
use Rattle.std.proofs.Common.{◌≡◌, ℕ, ℤ, pos, negsuc, zero, suc, ◌-◌, ◌<◌, ◌≤◌, ◌==◌, Bool, true, false, not, List, [], ◌∷◌, ◌++◌, length, map, drop, take}
use Rattle.std.proofs.Common.{replicate, slice_set, decimal, Option, None, Some, Result, Ok, Err, option_map, option_and_then, is_none, if◌then◌else◌, nat_lt}
use Rattle.std.proofs.Common.{sym, ap, ap₂, subst, ◌∙◌, refl, arith, append_assoc, append-nil, true≢false, codes, int_eq}
use Rattle.std.specs.List.{list_all}
use Rattle.std.specs.Option.{option_or, option_map_or}
use Rattle.std.specs.Str.{bytes_eq}
use Rattle.std.proofs.lemmas.List.{length-map}
use Rattle.std.proofs.lemmas.Bool.{lt-ltb, ltb-true, ltb-false, eqb-true}
use Rattle.btx_text.specs.declared.log_line.LineKind.TheVariants as line
use Rattle.btx_text.specs.declared.limits.Limit.TheVariants as limit
use Rattle.btx_text.specs.declared.limits.TheConstants.{MOST_LITERALS}
use Rattle.btx_text.specs.language.Limits.{greatest_string}
use Rattle.btx_text.specs.language.Lists.{only_if}
use Rattle.btx_text.specs.language.LogLines.{Line, message}
use Rattle.btx_bst.specs.declared.built_in.BuiltIn.{BuiltIn}
use Rattle.btx_bst.specs.declared.built_in.BuiltIn.TheVariants as built_in
use Rattle.btx_bst.specs.declared.callee.Callee.{Callee}
use Rattle.btx_bst.specs.declared.callee.Callee.TheVariants as callee
use Rattle.btx_bst.specs.language.Names.{name_of as number_name}
use Rattle.btx_bst.specs.language.Style.{type_of}
use Rattle.btx_bib.specs.language.Library.{key_of, entry_type, entry_value}
use Rattle.btx_stack.specs.declared.literal.Literal.{Literal as Numbered}
use Rattle.btx_stack.specs.declared.literal.Literal.TheVariants as literal
use Rattle.btx_step.specs.declared.literal.OperandKind.TheVariants as wanted
use Rattle.btx_step.specs.declared.next.Next.{Next}
use Rattle.btx_step.specs.declared.next.Next.TheVariants as next
use Rattle.btx_step.specs.declared.said.Note.{Note}
use Rattle.btx_step.specs.declared.said.Note.TheVariants as note
use Rattle.btx_step.specs.declared.said.StepOutput.{StepOutput}
use Rattle.btx_step.specs.declared.said.StepOutput.TheVariants as step_output
use Rattle.btx_step.specs.declared.stand_in.StandIn.{StandIn}
use Rattle.btx_step.specs.declared.stand_in.StandIn.TheVariants as stand_in
use Rattle.btx_step.specs.language.Answers as answers
use Rattle.btx_step.specs.language.Answers.{Answer, pushes}
use Rattle.btx_step.specs.language.Entries.{entry_of}
use Rattle.btx_step.specs.language.Jobs.{Job as NumberedJob}
use Rattle.btx_step.specs.language.Notes.{note_line, note_text, place_of, note_kind, has_place, form_of}
use Rattle.btx_step.specs.language.Operands as operands
use Rattle.btx_step.specs.declared.operands.Default.TheVariants.{Push}
use Rattle.btx_step.specs.declared.operands.Operand.{Operand as Asked}
use Rattle.btx_step.specs.declared.operands.Operand.TheVariants.{Any, Of}
use Rattle.btx_step.specs.language.Stores.{Store, EntryVariables}
use Rattle.btx_core.specs.language.Styles.{set, Declared, Defined, Body, Entry, Function, Built, Integer, Text, Quoted, Missing, Job, Library, Literal, State}
use Rattle.btx_core.specs.language.Styles.{Style}
use Rattle.btx_core.specs.language.Notes.{cut_to, name_of, shown, logs, place, error, errors, shows, empty_stack, no_entry, not_ascii}
use Rattle.btx_core.specs.language.Functions.{Effect, Leaves, Meets, Runs, Opens, Loops, push, push_text_in, push_default, zero_default, empty_default, Operand}
use Rattle.btx_core.specs.language.Functions.{AnyLiteral, AnInteger, AString, AFunction, AStringOrMissing, Value, wrong_operand_text, Does, on_literals, or_else_default}
use Rattle.btx_core.specs.language.Functions.{with_operands_checked, takes}
use Rattle.std.specs.Fmt.{signed_decimal}
use Rattle.btx_core.specs.language.Functions.{function_effect, push_truth, push_text, in_entry, equals, push_result, code_of, character_of, changes_case}
use Rattle.btx_core.specs.language.Functions.{is_empty_field, is_positive, calls_type, row, built_in_effect, missing_without_entry, swaps, formats_name}
use Rattle.btx_core.specs.language.Functions.{assigns, test_on_literals}
use Rattle.btx_core.specs.language.Names.{sections, has_third, numbered_name}
use Rattle.btx_core.specs.language.Strings.{in_case}
use Rattle.btx_core.proofs.ComputedLemmas.{computed, in_case_same, formatted_same}
use Rattle.btx_text.specs.declared.element_kind.TextMode.TheVariants.{Bytes}
use Rattle.btx_text.specs.language.Class.{is_white}
use Rattle.btx_text.specs.language.Elements.{elements_of}
use Rattle.btx_strings.specs.declared.conversions.Conversion.{Conversion}
use Rattle.btx_strings.specs.language.Case.{cased_parts, conversion_of}
use Rattle.btx_step.specs.language.Arithmetic as arithmetic
use Rattle.btx_step.specs.language.Control as control
use Rattle.btx_step.specs.language.Entries as entries
use Rattle.btx_step.specs.language.Names as names
use Rattle.btx_step.specs.language.Strings as strings
use Rattle.btx_step.proofs.RuleLemmas.{pushed_by}
use Rattle.btx_step.specs.language.Table as table
use Rattle.btx_step.specs.language.Variables as variables
use Rattle.btx_strings.specs.language.Answers.{no_complaints}
use Rattle.btx_names.specs.language.Answered.{nth_name, one_name_complaints, format_name_complaints, format_name_text}
use Rattle.btx_names.specs.language.Formats.{FormatItem, is_legal, items_of}
use Rattle.btx_names.specs.language.NameParts.{Sections, One, Two, Three, cut_again, cut_first, sections_of, split_at_comma, has_third_comma, ends_in_comma}
use Rattle.btx_step.specs.language.Steps.{built_in_run, function_run}
use Rattle.btx_strings.specs.declared.answers.Complaints.{Complaints}
use Rattle.btx_bst.specs.declared.callee.Kind.TheVariants as kind
use Rattle.btx_core.proofs.VariableLemmas.{Numbering, by_name, item, set_item, set_both, kept, value_at}
use Rattle.btx_bst.specs.declared.callee.Kind.{Kind}

-- ---- texts of errors

-- `=` of an integer and a string, or of anything else
abbrev incomparable : List ℕ
incomparable = codes "= needs two integers or two strings"

-- a sum or a difference is no integer of 32 bits
abbrev overflow : List ℕ
overflow = codes "Integer overflow"

-- `chr.to.int$` of a string that isn't one character
abbrev not_one_character : List ℕ → List ℕ
not_one_character text = codes "\"" ++ text ++ codes "\" isn't a single character"

-- `change.case$` to no case that there is
abbrev no_conversion : List ℕ → List ℕ
no_conversion text = codes "\"" ++ text ++ codes "\" is an illegal case-conversion string"

-- `:=` to what is no variable
abbrev not_assignable : Function → List ℕ
not_assignable f = codes "You can't assign to " ++ name_of f

-- `format.name$` by an illegal format
abbrev illegal_format : List ℕ → List ℕ
illegal_format format = codes "The format string \"" ++ format ++ codes "\" is illegal"

-- `format.name$` of a name that isn't there
abbrev no_such_name : ℤ → List ℕ → List ℕ
no_such_name n names = codes "There is no name number " ++ signed_decimal n ++ codes " in \"" ++ names ++ codes "\""

-- a name ends in a comma
abbrev final_comma : ℤ → List ℕ → List ℕ
final_comma n names = codes "Name " ++ signed_decimal n ++ codes " in \"" ++ names ++ codes "\" has a comma at the end"

-- a name has more than two commas
abbrev too_many_commas : ℤ → List ℕ → List ℕ
too_many_commas n names = codes "Too many commas in name " ++ signed_decimal n ++ codes " of \"" ++ names ++ codes "\""

-- what the numbers of a job stand for in names: functions, their bodies, and entries; they have the names, keys and types that the numbers have
pub record Naming (job : NumberedJob) (style : Style) (library : Library) : Type 0 where
  pub of : Callee → Function
  pub body : ℕ → Body
  pub entry : ℕ → Entry
  pub named : (c : Callee) → name_of (of c) ≡ number_name job.style.names c
  pub keyed : (i : ℕ) → (entry i).key ≡ key_of (entry_of job i)
  pub typed : (i : ℕ) → (entry i).kind ≡ option_map (λ (f : ℕ). of (callee.User f)) (entry_type (entry_of job i))
  pub default : style.types (codes "default.type") ≡ option_map (λ (f : ℕ). of (callee.User f)) (type_of job.style (codes "default.type"))
  pub preamble : library.preamble ≡ job.library.preamble

-- the numbers of variables and keys, and the functions in names that callees are
pub record Variables (job : NumberedJob) (style : Style) (library : Library) (naming : Naming job style library) : Type 0 where
  pub gi : Numbering
  pub gs : Numbering
  pub ei : Numbering
  pub es : Numbering
  pub keys : Numbering
  pub user_name : ℕ → List ℕ
  pub field_name : ℕ → List ℕ
  pub built : (f : BuiltIn) → naming.of (callee.BuiltIn f) ≡ Built f
  pub users : (i : ℕ) → naming.of (callee.User i) ≡ Defined (user_name i) (naming.body i)
  pub fields : (i : ℕ) → naming.of (callee.Field i) ≡ Declared kind.Field (field_name i)
  pub global_integers : (i : ℕ) → naming.of (callee.GlobalInteger i) ≡ Declared kind.GlobalInteger (gi.name i)
  pub global_strings : (i : ℕ) → naming.of (callee.GlobalString i) ≡ Declared kind.GlobalString (gs.name i)
  pub entry_integers : (i : ℕ) → naming.of (callee.EntryInteger i) ≡ Declared kind.EntryInteger (ei.name i)
  pub entry_strings : (i : ℕ) → naming.of (callee.EntryString i) ≡ Declared kind.EntryString (es.name i)
  pub key_names : (e : ℕ) → (naming.entry e).key ≡ keys.name e

module _ (job : NumberedJob) (style : Style) (library : Library) (naming : Naming job style library) where
  open naming use {of, body, entry, named, keyed, typed, default, preamble}

  -- ---- the state with numbers, said in names

  abbrev pub here : Job
  here = record { style = style; library = library; mode = job.mode; entry_max = job.entry_max; global_max = job.global_max }

  abbrev pub lit : Numbered → Literal
  lit (literal.Integer n) = Integer n
  lit (literal.Text text) = Text text
  lit (literal.Function f) = Quoted (of f)
  lit literal.Missing = Missing

  -- the stack and the current entry in names, and the rest of a state
  abbrev pub in_names : State → Store → State
  in_names frame s = record frame { literals = map lit s.literals; entry = option_map entry s.current }

  abbrev pub key_now : Option ℕ → Option (List ℕ)
  key_now current = option_map (λ (e : ℕ). key_of (entry_of job e)) current

  abbrev pub line_of : State → Option ℕ → Note → Line
  line_of frame current n = note_line job.style frame.executed (key_now current) n

  -- what is said, in names
  abbrev pub saying : StepOutput → Option ℕ → State → State
  saying step_output.Nothing current frame = frame
  saying (step_output.Wrote text) current frame = record frame { pending = frame.pending ++ text }
  saying step_output.EndedLine current frame = record frame { lines = frame.lines ++ frame.pending ∷ []; pending = [] }
  saying (step_output.Noted notes) current frame = record frame { log = frame.log ++ map (line_of frame current) notes }

  abbrev pub follows : Next → State → Effect
  follows next.Nothing t = Leaves t
  follows (next.End kind) t = Meets kind t
  follows (next.Run f) t = Runs (of f) t
  follows (next.Open i) t = Opens (body i) t
  follows (next.Loop test loop_body) t = Loops (of test) (of loop_body) t

  abbrev pub answered : State → Answer → Effect
  answered frame a = follows a.next (in_names (saying a.said a.store.current frame) a.store)

  -- a function in names and one with numbers do the same
  abbrev pub Same : (State → Effect) → (Store → Answer) → Type 0
  Same does now = (frame : State) (s : Store) → does (in_names frame s) ≡ answered frame (now s)

  -- ---- notes

  place_by : (frame : State) (current : Option ℕ) → codes " while executing " ++ frame.executed
      ++ option_map_or (λ (entry : Entry). codes " for entry " ++ entry.key) (option_map entry current) [] ≡ place_of frame.executed (key_now current)
  unfolding place_of
  place_by frame None = append-nil (codes " while executing " ++ frame.executed)
  place_by frame (Some e) =
      sym (append_assoc (codes " while executing " ++ frame.executed) (codes " for entry ") (entry e).key)
      ∙ ap (λ k. codes " while executing " ++ frame.executed ++ codes " for entry " ++ k) (keyed e)

  -- an error with a place, whose text is that of a note
  pub record IsError (n : Note) (text : List ℕ) : Type 0 where
    pub of_text : text ≡ note_text job.style n
    pub of_kind : note_kind n ≡ line.Error
    pub of_place : has_place n ≡ true

  line_same : (frame : State) (s : Store) (n : Note) (text : List ℕ) → IsError n text → message line.Error (text ++ place (in_names frame s))
      ≡ line_of frame s.current n
  unfolding note_line
  line_same frame s n text h =
      ap (λ p. message line.Error (text ++ p)) (place_by frame s.current)
      ∙ ap (λ t. message line.Error (t ++ place_of frame.executed (key_now s.current))) h.of_text
      ∙ ap (λ k. message k (note_text job.style n ++ place_of frame.executed (key_now s.current))) (sym h.of_kind)
      ∙ ap (λ (z : Bool). message (note_kind n) (note_text job.style n ++ (if z then place_of frame.executed (key_now s.current) else []))) (sym h.of_place)

  pub error_same : (frame : State) (s : Store) (n : Note) (text : List ℕ) → IsError n text → error text (in_names frame s)
      ≡ in_names (saying (step_output.Noted (n ∷ [])) s.current frame) s
  error_same frame s n text h = ap (λ l. record (in_names frame s) { log = frame.log ++ l ∷ [] }) (line_same frame s n text h)

  abbrev pub AreErrors : List Note → List (List ℕ) → Type 0
  AreErrors [] [] = true ≡ true
  AreErrors (n ∷ ns) (t ∷ ts) = IsError n t × AreErrors ns ts
  AreErrors ns ts = true ≡ false

  pub errors_same : (ns : List Note) (ts : List (List ℕ)) → AreErrors ns ts → (frame : State) (s : Store) → errors ts (in_names frame s)
      ≡ in_names (saying (step_output.Noted ns) s.current frame) s
  errors_same [] [] h frame s = ap (λ l. record (in_names frame s) { log = l }) (sym (append-nil frame.log))
  errors_same (n ∷ ns) (t ∷ ts) (h, hs) frame s =
      ap (errors ts) (error_same frame s n t h)
      ∙ errors_same ns ts hs (saying (step_output.Noted (n ∷ [])) s.current frame) s
      ∙ ap (λ l. record (in_names frame s) { log = l }) (append_assoc frame.log (line_of frame s.current n ∷ []) (map (line_of frame s.current) ns))
  errors_same [] (t ∷ ts) h frame s = absurd (true≢false h)
  errors_same (n ∷ ns) [] h frame s = absurd (true≢false h)

  shown_same : (x : Numbered) → shown (lit x) ≡ form_of job.style x
  unfolding form_of
  shown_same (literal.Integer n) = refl
  shown_same (literal.Text text) = refl
  shown_same (literal.Function f) = ap (λ n. codes "'" ++ n) (named f)
  shown_same literal.Missing = refl

  shown_line : (frame : State) (current : Option ℕ) (x : Numbered) → message line.Plain (shown (lit x)) ≡ line_of frame current (note.Shown x)
  unfolding note_line note_text note_kind has_place
  shown_line frame current x = ap (message line.Plain) (shown_same x ∙ sym (append-nil (form_of job.style x)))

  warning_line : (frame : State) (current : Option ℕ) (text : List ℕ) → message line.Warning text ≡ line_of frame current (note.Warning text)
  unfolding note_line note_text note_kind has_place
  warning_line frame current text = ap (message line.Warning) (sym (append-nil text))

  pub shows_same : (xs : List Numbered) (frame : State) (s : Store) → shows (map lit xs) (in_names frame s)
      ≡ in_names (saying (step_output.Noted (map note.Shown xs)) s.current frame) s
  shows_same [] frame s = ap (λ l. record (in_names frame s) { log = l }) (sym (append-nil frame.log))
  shows_same (x ∷ xs) frame s =
      ap (λ l. shows (map lit xs) (record (in_names frame s) { log = frame.log ++ l ∷ [] })) (shown_line frame s.current x)
      ∙ shows_same xs (saying (step_output.Noted (note.Shown x ∷ [])) s.current frame) s
      ∙ ap (λ l. record (in_names frame s) { log = l })
      (append_assoc frame.log (line_of frame s.current (note.Shown x) ∷ []) (map (line_of frame s.current) (map note.Shown xs)))

  -- ---- results

  pub push_same : (words : StepOutput) (x : Numbered) (frame : State) (s : Store) → push (lit x) (in_names (saying words s.current frame) s)
      ≡ answered frame (pushes words x s)
  push_same words x frame s =
      ap (λ n. if nat_lt n MOST_LITERALS then Leaves (record t { literals = lit x ∷ map lit s.literals }) else Meets limit.Literals t)
      (length-map s.literals lit)
      ∙ choose (nat_lt (length s.literals) MOST_LITERALS) where
        t : State
        t = in_names (saying words s.current frame) s

        choose : (b : Bool) → (if b then Leaves (record t { literals = lit x ∷ map lit s.literals }) else Meets limit.Literals t)
            ≡ answered frame (if b then answers.says words (answers.with_literals (x ∷ s.literals) s) else answers.answer (next.End limit.Literals) words s)
        choose true = refl
        choose false = refl

  pub text_same : (words : StepOutput) (text : List ℕ) (frame : State) (s : Store) → push_text_in (in_names (saying words s.current frame) s) text (in_names frame s)
      ≡ answered frame (answers.pushes_text words text s)
  text_same words text frame s = choose (nat_lt greatest_string (length text)) where
    choose : (b : Bool) → (if b then Meets limit.String (in_names frame s) else push (Text text) (in_names (saying words s.current frame) s))
        ≡ answered frame (if b then answers.quiet (next.End limit.String) s else answers.pushes words (literal.Text text) s)
    choose true = refl
    choose false = push_same words (literal.Text text) frame s

  abbrev pub stand : StandIn → Option Literal
  stand stand_in.Nothing = None
  stand stand_in.Zero = zero_default
  stand stand_in.Empty = empty_default

  pub complained_same : (ns : List Note) (ts : List (List ℕ)) → AreErrors ns ts → (default : StandIn)
      → Same (λ s. push_default (stand default) (errors ts s)) (answers.complained ns default)
  complained_same ns ts h stand_in.Nothing frame s = ap Leaves (errors_same ns ts h frame s)
  complained_same ns ts h stand_in.Zero frame s = ap (push (Integer (pos 0))) (errors_same ns ts h frame s)
      ∙ push_same (step_output.Noted ns) (literal.Integer (pos 0)) frame s
  complained_same ns ts h stand_in.Empty frame s = ap (push (Text [])) (errors_same ns ts h frame s) ∙ push_same (step_output.Noted ns) (literal.Text []) frame s

  pub complains_same : (n : Note) (t : List ℕ) → IsError n t → (default : StandIn)
      → Same (λ s. push_default (stand default) (error t s)) (answers.complains n default)
  complains_same n t h default = complained_same (n ∷ []) (t ∷ []) (h, refl) default

  -- ---- operands

  abbrev asked : Operand → Asked
  asked AnyLiteral = Any
  asked AnInteger = Of wanted.Integer
  asked AString = Of wanted.Text
  asked AFunction = Of wanted.Function
  asked AStringOrMissing = Of wanted.TextOrMissing

  abbrev value : (o : Operand) → operands.Value (asked o) → Value o
  value AnyLiteral x = lit x
  value AnInteger n = n
  value AString text = text
  value AFunction f = of f
  value AStringOrMissing field_ = field_

  abbrev Related : (os : List Operand) → Does os → operands.Does (map asked os) → Type 0
  Related [] does now = Same does now
  Related (o ∷ os) does now = (v : operands.Value (asked o)) → Related os (does (value o v)) (now v)

  abbrev RelatedResult : Result (State → Effect) (List ℕ) → Option (Store → Answer) → List Note → Type 0
  RelatedResult (Ok does) (Some now) ns = Same does now
  RelatedResult (Err text) None (n ∷ []) = IsError n text
  RelatedResult r m ns = true ≡ false

  pub empty_is : IsError note.EmptyStack empty_stack
  unfolding note_text note_kind has_place
  empty_is = record { of_text = refl; of_kind = refl; of_place = refl }

  no_entry_is : IsError note.NoEntry no_entry
  unfolding note_text note_kind has_place
  no_entry_is = record { of_text = refl; of_kind = refl; of_place = refl }

  no_integer : (x : Numbered) → IsError (note.WrongKind x wanted.Integer) (wrong_operand_text AnInteger (lit x))
  unfolding note_text note_kind has_place
  no_integer x = record { of_text = ap (λ t. t ++ codes " is not an integer") (shown_same x); of_kind = refl; of_place = refl }

  no_string : (x : Numbered) → IsError (note.WrongKind x wanted.Text) (wrong_operand_text AString (lit x))
  unfolding note_text note_kind has_place
  no_string x = record { of_text = ap (λ t. t ++ codes " is not a string") (shown_same x); of_kind = refl; of_place = refl }

  pub no_function : (x : Numbered) → IsError (note.WrongKind x wanted.Function) (wrong_operand_text AFunction (lit x))
  unfolding note_text note_kind has_place
  no_function x = record { of_text = ap (λ t. t ++ codes " is not a function") (shown_same x); of_kind = refl; of_place = refl }

  no_field : (x : Numbered) → IsError (note.WrongKind x wanted.TextOrMissing) (wrong_operand_text AStringOrMissing (lit x))
  unfolding note_text note_kind has_place
  no_field x = record { of_text = ap (λ t. t ++ codes " is not a string or missing field") (shown_same x); of_kind = refl; of_place = refl }

  none_absent : (os : List Operand) (xs : List Numbered) → length os ≤ length xs → operands.absent (map asked os) xs ≡ []
  none_absent [] xs h = refl
  none_absent (o ∷ os) [] h = absurd (omega (arith, h))
  none_absent (o ∷ os) (x ∷ xs) h = none_absent os xs (omega (arith, h))

  enough : (os : List Operand) (does : Does os) (now : operands.Does (map asked os)) → Related os does now → (xs : List Numbered) → length os ≤ length xs
      → RelatedResult (on_literals os does (map lit xs)) (operands.applied (map asked os) now xs) (operands.wrong (map asked os) xs)
  enough [] does now rel xs h = rel
  enough (o ∷ os) does now rel [] h = absurd (omega (arith, h))
  enough (AnyLiteral ∷ os) does now rel (x ∷ xs) h = enough os (does (lit x)) (now x) (rel x) xs (omega (arith, h))
  enough (AnInteger ∷ os) does now rel (literal.Integer n ∷ xs) h = enough os (does n) (now n) (rel n) xs (omega (arith, h))
  enough (AnInteger ∷ os) does now rel (literal.Text t ∷ xs) h = no_integer (literal.Text t)
  enough (AnInteger ∷ os) does now rel (literal.Function f ∷ xs) h = no_integer (literal.Function f)
  enough (AnInteger ∷ os) does now rel (literal.Missing ∷ xs) h = no_integer literal.Missing
  enough (AString ∷ os) does now rel (literal.Text n ∷ xs) h = enough os (does n) (now n) (rel n) xs (omega (arith, h))
  enough (AString ∷ os) does now rel (literal.Integer t ∷ xs) h = no_string (literal.Integer t)
  enough (AString ∷ os) does now rel (literal.Function f ∷ xs) h = no_string (literal.Function f)
  enough (AString ∷ os) does now rel (literal.Missing ∷ xs) h = no_string literal.Missing
  enough (AFunction ∷ os) does now rel (literal.Function n ∷ xs) h = enough os (does (of n)) (now n) (rel n) xs (omega (arith, h))
  enough (AFunction ∷ os) does now rel (literal.Integer t ∷ xs) h = no_function (literal.Integer t)
  enough (AFunction ∷ os) does now rel (literal.Text f ∷ xs) h = no_function (literal.Text f)
  enough (AFunction ∷ os) does now rel (literal.Missing ∷ xs) h = no_function literal.Missing
  enough (AStringOrMissing ∷ os) does now rel (literal.Text n ∷ xs) h = enough os (does (Some n)) (now (Some n)) (rel (Some n)) xs (omega (arith, h))
  enough (AStringOrMissing ∷ os) does now rel (literal.Missing ∷ xs) h = enough os (does None) (now None) (rel None) xs (omega (arith, h))
  enough (AStringOrMissing ∷ os) does now rel (literal.Integer t ∷ xs) h = no_field (literal.Integer t)
  enough (AStringOrMissing ∷ os) does now rel (literal.Function f ∷ xs) h = no_field (literal.Function f)

  none_then : {A : Type 0} (m : Option A) (f : A → Option (Store → Answer)) → ((a : A) → f a ≡ None) → option_and_then f m ≡ None
  none_then None f h = refl
  none_then (Some a) f h = h a

  not_applied : (os : List Operand) (now : operands.Does (map asked os)) (xs : List Numbered) → length xs < length os → operands.applied (map asked os) now xs
      ≡ None
  not_applied [] now [] h = absurd (omega (arith, h))
  not_applied [] now (x ∷ xs) h = absurd (omega (arith, h))
  not_applied (o ∷ os) now [] h = refl
  not_applied (o ∷ os) now (x ∷ xs) h = none_then (operands.seen_as (asked o) x) (λ v. operands.applied (map asked os) (now v) xs)
      (λ v. not_applied os (now v) xs (omega (arith, h)))

  all_absent : (os : List Operand) → operands.absent (map asked os) [] ≡ replicate (length os) note.EmptyStack
  all_absent [] = refl
  all_absent (o ∷ os) = ap (λ ns. note.EmptyStack ∷ ns) (all_absent os)

  are_absent : (os : List Operand) (xs : List Numbered) (w : List Note) → length xs < length os → operands.or_else (operands.absent (map asked os) xs) w
      ≡ replicate (length os - length xs) note.EmptyStack
  are_absent [] [] w h = absurd (omega (arith, h))
  are_absent [] (x ∷ xs) w h = absurd (omega (arith, h))
  are_absent (o ∷ os) [] w h = let same : suc (length os) ≡ suc (length os) - 0 = omega arith in ap (λ ns. note.EmptyStack ∷ ns) (all_absent os)
      ∙ ap (λ k. replicate k note.EmptyStack) same
  are_absent (o ∷ os) (x ∷ xs) w h =
      let same : length os - length xs ≡ suc (length os) - suc (length xs) = omega arith in are_absent os xs w (omega (arith, h))
      ∙ ap (λ k. replicate k note.EmptyStack) same

  pub errors_absent : (k : ℕ) → AreErrors (replicate k note.EmptyStack) (replicate k empty_stack)
  errors_absent zero = refl
  errors_absent (suc k) = (empty_is, errors_absent k)

  drop_map : (k : ℕ) (xs : List Numbered) → drop k (map lit xs) ≡ map lit (drop k xs)
  drop_map zero xs = refl
  drop_map (suc k) [] = refl
  drop_map (suc k) (x ∷ xs) = drop_map k xs

  rule : (os : List Operand) (default : StandIn) (does : Does os) (now : operands.Does (map asked os)) → Related os does now
      → Same (with_operands_checked (takes os (stand default) does)) (λ s. operands.on_operands (map asked os) (Push default) now s.literals s)
  rule os default does now rel frame s =
      ap₂ side (length-map s.literals lit) (drop_map (length os) s.literals)
      ∙ by (nat_lt (length s.literals) (length os)) refl
      ∙ ap (λ k. answered frame (operands.or_default (operands.applied (map asked os) now s.literals) (Push default)
      (operands.or_else (operands.absent (map asked os) s.literals) (operands.wrong (map asked os) s.literals)) s.literals (drop k s.literals) s))
      (sym (length-map os asked)) where
        side : ℕ → List Literal → Effect
        side n ys = if nat_lt n (length os) then push_default (stand default)
            (errors (replicate (length os - n) empty_stack) (record (in_names frame s) { literals = ys }))
            else or_else_default (on_literals os does (map lit s.literals)) (stand default) (record (in_names frame s) { literals = ys })

        below : Store
        below = answers.with_literals (drop (length os) s.literals) s

        finish : (r : Result (State → Effect) (List ℕ)) (m : Option (Store → Answer)) (ns : List Note) → RelatedResult r m ns
            → or_else_default r (stand default) (in_names frame below)
            ≡ answered frame (operands.or_default m (Push default) ns s.literals (drop (length os) s.literals) s)
        finish (Ok does) (Some now) ns h = h frame below
        finish (Err text) None (n ∷ []) h = complains_same n text h default frame below
        finish (Ok does) None ns h = absurd (true≢false h)
        finish (Err text) (Some now) ns h = absurd (true≢false h)
        finish (Err text) None [] h = absurd (true≢false h)
        finish (Err text) None (n ∷ m ∷ ns) h = absurd (true≢false h)

        by : (b : Bool) → nat_lt (length s.literals) (length os) ≡ b → side (length s.literals) (map lit (drop (length os) s.literals))
            ≡ answered frame (operands.or_default (operands.applied (map asked os) now s.literals) (Push default)
            (operands.or_else (operands.absent (map asked os) s.literals) (operands.wrong (map asked os) s.literals)) s.literals (drop (length os) s.literals)
            s)
        by true h =
            ap (λ (z : Bool). if z then push_default (stand default) (errors (replicate (length os - length s.literals) empty_stack) (in_names frame below))
            else or_else_default (on_literals os does (map lit s.literals)) (stand default) (in_names frame below)) h
            ∙ complained_same (replicate (length os - length s.literals) note.EmptyStack) (replicate (length os - length s.literals) empty_stack)
            (errors_absent (length os - length s.literals)) default frame below
            ∙ sym (ap₂ (λ m ns. answered frame (operands.or_default m (Push default) ns s.literals (drop (length os) s.literals) s))
            (not_applied os now s.literals (ltb-true (length s.literals) (length os) h))
            (are_absent os s.literals (operands.wrong (map asked os) s.literals) (ltb-true (length s.literals) (length os) h)))
        by false h =
            ap (λ (z : Bool). if z then push_default (stand default) (errors (replicate (length os - length s.literals) empty_stack) (in_names frame below))
            else or_else_default (on_literals os does (map lit s.literals)) (stand default) (in_names frame below)) h
            ∙ finish (on_literals os does (map lit s.literals)) (operands.applied (map asked os) now s.literals) (operands.wrong (map asked os) s.literals)
            (enough os does now rel s.literals (ltb-false (length s.literals) (length os) h))
            ∙ sym (ap (λ ns. answered frame (operands.or_default (operands.applied (map asked os) now s.literals) (Push default)
            (operands.or_else ns (operands.wrong (map asked os) s.literals)) s.literals (drop (length os) s.literals) s))
            (none_absent os s.literals (ltb-false (length s.literals) (length os) h)))

  -- ---- rows

  not_zero : (left : ℕ) → (suc left == 0) ≡ false
  not_zero left = by (suc left == 0) refl where
    by : (t : Bool) → (suc left == 0) ≡ t → (suc left == 0) ≡ false
    by true h = let z = eqb-true (suc left) 0 h in absurd (omega (arith, z))
    by false h = h

  truth_same : (b : Bool) → Same (push_truth b) (answers.pushed (answers.truth b))
  truth_same true frame s = push_same step_output.Nothing (literal.Integer (pos 1)) frame s
  truth_same false frame s = push_same step_output.Nothing (literal.Integer (pos 0)) frame s

  pushed_same : (x : Numbered) → Same (push (lit x)) (answers.pushed x)
  pushed_same x frame s = push_same step_output.Nothing x frame s

  texts_same : (text : List ℕ) → Same (push_text text) (answers.pushed_text text)
  texts_same text frame s = text_same step_output.Nothing text frame s

  incomparable_is : IsError note.Incomparable incomparable
  unfolding note_text note_kind has_place
  incomparable_is = record { of_text = refl; of_kind = refl; of_place = refl }

  overflow_is : IsError note.Overflow overflow
  unfolding note_text note_kind has_place
  overflow_is = record { of_text = refl; of_kind = refl; of_place = refl }

  not_ascii_is : (n : ℤ) → IsError (note.NotAscii n) (not_ascii n)
  unfolding note_text note_kind has_place
  not_ascii_is n = record { of_text = refl; of_kind = refl; of_place = refl }

  not_one_is : (text : List ℕ) → IsError (note.NotOneCharacter text) (not_one_character text)
  unfolding note_text note_kind has_place
  not_one_is text = record { of_text = refl; of_kind = refl; of_place = refl }

  no_conversion_is : (letter : List ℕ) → IsError (note.NoConversion letter) (no_conversion letter)
  unfolding note_text note_kind has_place
  no_conversion_is letter = record { of_text = refl; of_kind = refl; of_place = refl }

  incomparables : Same (λ s. push_default zero_default (error incomparable s)) (answers.complains note.Incomparable stand_in.Zero)
  incomparables = complains_same note.Incomparable incomparable incomparable_is stand_in.Zero

  equals_same : (b a : Numbered) → Same (equals (lit b) (lit a)) (arithmetic.equals b a)
  equals_same (literal.Integer b) (literal.Integer a) = truth_same (int_eq a b)
  equals_same (literal.Text b) (literal.Text a) = truth_same (bytes_eq a b)
  equals_same (literal.Integer b) (literal.Text a) = incomparables
  equals_same (literal.Integer b) (literal.Function a) = incomparables
  equals_same (literal.Integer b) literal.Missing = incomparables
  equals_same (literal.Text b) (literal.Integer a) = incomparables
  equals_same (literal.Text b) (literal.Function a) = incomparables
  equals_same (literal.Text b) literal.Missing = incomparables
  equals_same (literal.Function b) a = incomparables
  equals_same literal.Missing a = incomparables

  result_same : (n : ℤ) → Same (push_result n) (arithmetic.result_of n)
  result_same n frame s = by (arithmetic.fits n) where
    by : (b : Bool) → (if b then push (Integer n) (in_names frame s) else push_default zero_default (error overflow (in_names frame s)))
        ≡ answered frame (if b then answers.pushed (literal.Integer n) s else answers.complains note.Overflow stand_in.Zero s)
    by true = pushed_same (literal.Integer n) frame s
    by false = complains_same note.Overflow overflow overflow_is stand_in.Zero frame s

  code_same : (text : List ℕ) → Same (code_of text) (arithmetic.gives_code text)
  code_same (b ∷ []) = pushed_same (literal.Integer (pos b))
  code_same [] = complains_same (note.NotOneCharacter []) (not_one_character []) (not_one_is []) stand_in.Zero
  code_same (a ∷ b ∷ c) = complains_same (note.NotOneCharacter (a ∷ b ∷ c)) (not_one_character (a ∷ b ∷ c)) (not_one_is (a ∷ b ∷ c)) stand_in.Zero

  character_same : (n : ℤ) → Same (character_of n) (arithmetic.gives_character n)
  character_same (pos n) frame s = by (nat_lt n 128) where
    by : (b : Bool) → (if b then push (Text (n ∷ [])) (in_names frame s) else push_default empty_default (error (not_ascii (pos n)) (in_names frame s)))
        ≡ answered frame (if b then answers.pushed (literal.Text (n ∷ [])) s else answers.complains (note.NotAscii (pos n)) stand_in.Empty s)
    by true = pushed_same (literal.Text (n ∷ [])) frame s
    by false = complains_same (note.NotAscii (pos n)) (not_ascii (pos n)) (not_ascii_is (pos n)) stand_in.Empty frame s
  character_same (negsuc n) frame s = complains_same (note.NotAscii (negsuc n)) (not_ascii (negsuc n)) (not_ascii_is (negsuc n)) stand_in.Empty frame s

  case_same : (letter text : List ℕ) → Same (changes_case computed here letter text) (strings.changes_case letter text)
  case_same letter text frame s = by (conversion_of letter) where
    by : (c : Option Conversion) → option_map_or (λ (to : Conversion). push_text (in_case computed to text) (in_names frame s)) c
        (push_text_in (error (no_conversion letter) (in_names frame s)) text (in_names frame s))
        ≡ answered frame (answers.pushes_text
        (answers.noted (only_if (option_map_or (λ (to : Conversion). no_complaints) c
        (record no_complaints { x9 = true })).x9 (note.NoConversion letter)))
        (option_map_or (λ (to : Conversion). cased_parts to [] (elements_of Bytes text)) c text) s)
    by None = ap (λ t. push_text_in t text (in_names frame s)) (error_same frame s (note.NoConversion letter) (no_conversion letter) (no_conversion_is letter))
        ∙ text_same (step_output.Noted (note.NoConversion letter ∷ [])) text frame s
    by (Some to) = ap (λ t. push_text t (in_names frame s)) (in_case_same to text) ∙ texts_same (cased_parts to [] (elements_of Bytes text)) frame s

  empty_same : (f : Option (List ℕ)) → Same (push_truth (is_empty_field f)) (strings.finds_empty f)
  empty_same None = truth_same true
  empty_same (Some text) = truth_same (list_all is_white text)

  missing_same : (f : Option (List ℕ)) → Same (push_truth (is_none f)) (entries.finds_missing f)
  missing_same None = truth_same true
  missing_same (Some text) = truth_same false

  in_entry_same : (does : Entry → State → Effect) (now : ℕ → Store → Answer)
      → ((i : ℕ) (frame : State) (s : Store) → s.current ≡ Some i → does (entry i) (in_names frame s) ≡ answered frame (now i s))
      → Same (in_entry does) (λ s. variables.in_entry now s.current s)
  in_entry_same does now h frame s = by s.current refl where
    by : (c : Option ℕ) → s.current ≡ c → option_map_or (λ (entry : Entry). does entry (in_names frame s)) (option_map entry c)
        (Leaves (error no_entry (in_names frame s))) ≡ answered frame (variables.in_entry now c s)
    by None e = complains_same note.NoEntry no_entry no_entry_is stand_in.Nothing frame s
    by (Some i) e = h i frame s e

  positive_same : (n : ℤ) → is_positive n ≡ control.is_positive n
  positive_same (pos zero) = refl
  positive_same (pos (suc n)) = lt-ltb 0 (suc n) (omega arith)
  positive_same (negsuc n) = refl

  calls_same : (own other : Option ℕ)
      → Same (λ s. option_map_or (λ (f : Function). Runs f s)
      (option_or (option_map (λ (f : ℕ). of (callee.User f)) own) (option_map (λ (f : ℕ). of (callee.User f)) other)) (Leaves s))
      (option_map_or (λ (function : ℕ). answers.quiet (next.Run (callee.User function))) (option_or own other) answers.done)
  calls_same None None frame s = refl
  calls_same None (Some f) frame s = refl
  calls_same (Some f) other frame s = refl

  type_same : (own : Option ℕ) → option_map_or name_of (option_map (λ (f : ℕ). of (callee.User f)) own) []
      ≡ option_map_or (λ (function : ℕ). number_name job.style.names (callee.User function)) own []
  type_same None = refl
  type_same (Some f) = named (callee.User f)

  -- ---- the table

  -- what a built-in function does by its row
  abbrev RowSame : BuiltIn → Type 0
  RowSame f = Same (with_operands_checked (row computed here f)) (table.runs f ((table.row f).does job))

  call_type_row : RowSame built_in.CallType
  call_type_row = rule [] stand_in.Nothing (in_entry (calls_type computed here)) ((table.row built_in.CallType).does job)
      (in_entry_same (calls_type computed here) _ (λ i frame s e.
      ap₂ (λ own other. option_map_or (λ (f : Function). Runs f (in_names frame s)) (option_or own other) (Leaves (in_names frame s))) (typed i) default
      ∙ calls_same (entry_type (entry_of job i)) (type_of job.style (codes "default.type")) frame s))

  cite_row : RowSame built_in.Cite
  cite_row = rule [] stand_in.Nothing (in_entry (λ entry. push_text entry.key)) ((table.row built_in.Cite).does job)
      (in_entry_same (λ entry. push_text entry.key) _ (λ i frame s e.
      ap (λ k. push_text k (in_names frame s)) (keyed i) ∙ texts_same (key_of (entry_of job i)) frame s))

  duplicate_row : RowSame built_in.Duplicate
  duplicate_row = rule (AnyLiteral ∷ []) stand_in.Nothing (λ x s. push x (record s { literals = x ∷ s.literals })) ((table.row built_in.Duplicate).does job)
      (λ v frame s. pushed_same v frame (answers.with_literals (v ∷ s.literals) s))

  if_row : RowSame built_in.If
  if_row = rule (AFunction ∷ AFunction ∷ AnInteger ∷ []) stand_in.Nothing (λ otherwise positive n. Runs (if is_positive n then positive else otherwise))
      ((table.row built_in.If).does job) is where
        choose : (b : Bool) (otherwise positive : Callee) → (if b then of positive else of otherwise) ≡ of (if b then positive else otherwise)
        choose true otherwise positive = refl
        choose false otherwise positive = refl

        is : (otherwise positive : Callee) (n : ℤ) → Same (Runs (if is_positive n then of positive else of otherwise))
            (answers.quiet (next.Run (if control.is_positive n then positive else otherwise)))
        is otherwise positive n frame s =
            ap (λ (b : Bool). Runs (if b then of positive else of otherwise) (in_names frame s)) (positive_same n)
            ∙ ap (λ f. Runs f (in_names frame s)) (choose (control.is_positive n) otherwise positive)

  -- `missing$` without an entry
  missing_none : (xs : List Numbered) (frame : State) (s : Store)
      → Leaves (error no_entry (if length (map lit xs) == 0 then error empty_stack (record (in_names frame s) { literals = drop 1 (map lit xs) }) else record
      (in_names frame s) { literals = drop 1 (map lit xs) }))
      ≡ answered frame (answers.complained (operands.absent (Any ∷ []) xs ++ note.NoEntry ∷ []) stand_in.Nothing (answers.with_literals (drop 1 xs) s))
  missing_none [] frame s = complained_same (note.EmptyStack ∷ note.NoEntry ∷ []) (empty_stack ∷ no_entry ∷ []) (empty_is, (no_entry_is, refl)) stand_in.Nothing
      frame (answers.with_literals [] s)
  missing_none (x ∷ xs) frame s =
      ap (λ (z : Bool). Leaves (error no_entry
      (if z then error empty_stack (record (in_names frame s) { literals = map lit xs }) else record (in_names frame s) { literals = map lit xs })))
      (not_zero (length (map lit xs)))
      ∙ complains_same note.NoEntry no_entry no_entry_is stand_in.Nothing frame (answers.with_literals xs s)

  missing_row : RowSame built_in.Missing
  missing_row = rule (AStringOrMissing ∷ []) stand_in.Zero (λ f. push_truth (is_none f)) entries.finds_missing missing_same

  preamble_row : RowSame built_in.Preamble
  preamble_row = rule [] stand_in.Nothing (push (Text library.preamble)) ((table.row built_in.Preamble).does job)
      (λ frame s. ap (λ t. push (Text t) (in_names frame s)) preamble ∙ pushed_same (literal.Text job.library.preamble) frame s)

  stack_row : RowSame built_in.Stack
  stack_row = rule [] stand_in.Nothing (λ s. Leaves (record (shows s.literals s) { literals = [] })) ((table.row built_in.Stack).does job)
      (λ frame s. ap (λ t. Leaves (record t { literals = [] })) (shows_same s.literals frame s))

  top_row : RowSame built_in.Top
  top_row = rule (AnyLiteral ∷ []) stand_in.Nothing (λ x s. Leaves (shows (x ∷ []) s)) ((table.row built_in.Top).does job)
      (λ v frame s. ap Leaves (shows_same (v ∷ []) frame s))

  type_row : RowSame built_in.Type
  type_row = rule [] stand_in.Nothing (in_entry (λ entry. push_text (option_map_or name_of entry.kind []))) ((table.row built_in.Type).does job)
      (in_entry_same (λ entry. push_text (option_map_or name_of entry.kind [])) _ (λ i frame s e.
      ap (λ k. push_text (option_map_or name_of k []) (in_names frame s)) (typed i)
      ∙ ap (λ t. push_text t (in_names frame s)) (type_same (entry_type (entry_of job i)))
      ∙ texts_same (option_map_or (λ (function : ℕ). number_name job.style.names (callee.User function)) (entry_type (entry_of job i)) []) frame s))

  warning_row : RowSame built_in.Warning
  warning_row = rule (AString ∷ []) stand_in.Nothing (λ text s. Leaves (logs line.Warning text s)) ((table.row built_in.Warning).does job)
      (λ text frame s. ap (λ l. Leaves (record (in_names frame s) { log = frame.log ++ l ∷ [] })) (warning_line frame s.current text))

  -- ---- `format.name$`

  third_same : (x : Sections) → has_third computed x ≡ has_third_comma x
  third_same (One a) = refl
  third_same (Two a b) = refl
  third_same (Three a b c) = refl

  sections_same : (name : List ℕ) → sections computed name ≡ sections_of name
  unfolding sections_of
  sections_same name = by (split_at_comma name) where
    by : (c : Option (List ℕ × List ℕ)) → option_map_or (λ (cut : List ℕ × List ℕ). cut_again cut.0 cut.1 (split_at_comma cut.1)) c (One name)
        ≡ cut_first name c
    by None = refl
    by (Some cut) = refl

  final_is : (number : ℤ) (string : List ℕ) → IsError (note.FinalComma number string) (final_comma number string)
  unfolding note_text note_kind has_place
  final_is number string = record { of_text = refl; of_kind = refl; of_place = refl }

  many_is : (number : ℤ) (string : List ℕ) → IsError (note.TooManyCommas number string) (too_many_commas number string)
  unfolding note_text note_kind has_place
  many_is number string = record { of_text = refl; of_kind = refl; of_place = refl }

  no_name_is : (number : ℤ) (string : List ℕ) → IsError (note.NoSuchName number string) (no_such_name number string)
  unfolding note_text note_kind has_place
  no_name_is number string = record { of_text = refl; of_kind = refl; of_place = refl }

  illegal_is : (format : List ℕ) → IsError (note.IllegalFormat format) (illegal_format format)
  unfolding note_text note_kind has_place
  illegal_is format = record { of_text = refl; of_kind = refl; of_place = refl }

  -- the notes of complaints
  abbrev notes_for : List ℕ → ℤ → List ℕ → Complaints → List Note
  notes_for format number string c =
      only_if c.x10 (note.NoSuchName number string) ++ only_if c.x11 (note.FinalComma number string)
      ++ only_if c.x12 (note.TooManyCommas number string) ++ only_if c.x13 (note.IllegalFormat format)

  by_found : (format : List ℕ) (number : ℤ) (string : List ℕ) (items : List FormatItem) (c m b : Bool)
      → AreErrors (notes_for format number string (record no_complaints { x11 = c; x12 = m; x13 = not b }))
      (only_if c (final_comma number string) ++ only_if m (too_many_commas number string) ++ only_if (is_none (if b then Some items else None))
      (illegal_format format))
  by_found format number string items true true true = (final_is number string, (many_is number string, refl))
  by_found format number string items true true false = (final_is number string, (many_is number string, (illegal_is format, refl)))
  by_found format number string items true false true = (final_is number string, refl)
  by_found format number string items true false false = (final_is number string, (illegal_is format, refl))
  by_found format number string items false true true = (many_is number string, refl)
  by_found format number string items false true false = (many_is number string, (illegal_is format, refl))
  by_found format number string items false false true = refl
  by_found format number string items false false false = (illegal_is format, refl)

  abbrev texts_for : List ℕ → ℤ → List ℕ → List ℕ → List (List ℕ)
  texts_for format number string name =
      only_if (ends_in_comma name) (final_comma number string) ++ only_if (has_third computed (sections computed name)) (too_many_commas number string)
      ++ only_if (is_none (computed.items format)) (illegal_format format)

  found_name : (format : List ℕ) (number : ℤ) (string name : List ℕ) → AreErrors (notes_for format number string (one_name_complaints name format))
      (texts_for format number string name)
  unfolding one_name_complaints
  found_name format number string name =
      subst (λ (m : Bool). AreErrors (notes_for format number string (one_name_complaints name format))
      (only_if (ends_in_comma name) (final_comma number string) ++ only_if m (too_many_commas number string)
      ++ only_if (is_none (computed.items format)) (illegal_format format)))
      (sym (ap (has_third computed) (sections_same name) ∙ third_same (sections_of name)))
      (by_found format number string (items_of format) (ends_in_comma name) (has_third_comma (sections_of name)) (is_legal format))

  name_notes : (format : List ℕ) (number : ℤ) (string : List ℕ) (n : Option (List ℕ))
      → AreErrors (notes_for format number string
      (option_map_or (λ (name : List ℕ). one_name_complaints name format) n (record no_complaints { x10 = true })))
      (option_map_or (texts_for format number string) n (no_such_name number string ∷ []))
  name_notes format number string None = (no_name_is number string, refl)
  name_notes format number string (Some name) = found_name format number string name

  noted_same : (ns : List Note) (ts : List (List ℕ)) → AreErrors ns ts → (frame : State) (s : Store) → errors ts (in_names frame s)
      ≡ in_names (saying (answers.noted ns) s.current frame) s
  noted_same [] [] h frame s = refl
  noted_same (n ∷ ns) (t ∷ ts) h frame s = errors_same (n ∷ ns) (t ∷ ts) h frame s
  noted_same [] (t ∷ ts) h frame s = absurd (true≢false h)
  noted_same (n ∷ ns) [] h frame s = absurd (true≢false h)

  nth_same : (number : ℤ) (string : List ℕ) → numbered_name computed number string ≡ nth_name string number
  unfolding nth_name
  nth_same number string = refl

  format_row : RowSame built_in.FormatName
  format_row = rule (AString ∷ AnInteger ∷ AString ∷ []) stand_in.Empty (formats_name computed here) (names.formats_name job) is where
    is : (format : List ℕ) (number : ℤ) (string : List ℕ) → Same (formats_name computed here format number string) (names.formats_name job format number string)
    is format number string frame s =
        ap₂ (λ t x. push_text_in t x (in_names frame s))
        (ap (λ n. errors (option_map_or (texts_for format number string) n (no_such_name number string ∷ [])) (in_names frame s)) (nth_same number string)
        ∙ noted_same (notes_for format number string (format_name_complaints string number format))
        (option_map_or (texts_for format number string) (nth_name string number) (no_such_name number string ∷ []))
        (name_notes format number string (nth_name string number)) frame s)
        (formatted_same job.mode format number string)
        ∙ text_same (answers.noted (notes_for format number string (format_name_complaints string number format)))
        (format_name_text job.mode string number format) frame s

  -- ---- `swap$`, and all together

  pub at_least_two : (k : ℕ) → nat_lt (suc (suc k)) 2 ≡ false
  at_least_two k = by (nat_lt (suc (suc k)) 2) refl where
    by : (t : Bool) → nat_lt (suc (suc k)) 2 ≡ t → nat_lt (suc (suc k)) 2 ≡ false
    by true h = let z = ltb-true (suc (suc k)) 2 h in absurd (omega (arith, z))
    by false h = h

  swap_with : (xs : List Numbered) (frame : State) (s : Store) → swaps computed here (in_names frame (answers.with_literals xs s))
      ≡ answered frame (table.runs built_in.Swap ((table.row built_in.Swap).does job) (answers.with_literals xs s))
  swap_with [] frame s = complained_same (note.EmptyStack ∷ note.EmptyStack ∷ []) (empty_stack ∷ empty_stack ∷ []) (empty_is, (empty_is, refl)) stand_in.Nothing
      frame (answers.with_literals [] s)
  swap_with (x ∷ []) frame s = complained_same (note.EmptyStack ∷ []) (empty_stack ∷ []) (empty_is, refl) stand_in.Nothing frame
      (answers.with_literals (x ∷ []) s)
  swap_with (x ∷ y ∷ xs) frame s =
      ap (λ (z : Bool). if z then Leaves (errors (replicate (2 - length (map lit (x ∷ y ∷ xs))) empty_stack)
      (in_names frame (answers.with_literals (x ∷ y ∷ xs) s)))
      else with_operands_checked (row computed here built_in.Swap) (in_names frame (answers.with_literals (x ∷ y ∷ xs) s))) (at_least_two (length (map lit xs)))
      ∙ ap (λ (z : Bool). if z then push_default None
      (errors (replicate (2 - length (map lit (x ∷ y ∷ xs))) empty_stack) (in_names frame (answers.with_literals xs s)))
      else Leaves (in_names frame (answers.with_literals (y ∷ x ∷ xs) s))) (at_least_two (length (map lit xs)))

  missing_with : (c : Option ℕ) (frame : State) (s : Store) → s.current ≡ c
      → option_map_or (λ (entry : Entry). with_operands_checked (row computed here built_in.Missing) (in_names frame s)) (option_map entry c)
      (missing_without_entry computed here (in_names frame s))
      ≡ answered frame (table.runs_missing c s)
  missing_with None frame s e = missing_none s.literals frame s
  missing_with (Some i) frame s e = missing_row frame s

  -- Each built-in function does in names what it does with numbers; of `:=` see `assigns_same`, which needs more: that what stands for the numbers
  -- of variables are different names.
  pub built_in_same : (f : BuiltIn) → (f ≡ built_in.Assign → ⊥) → Same (built_in_effect computed here f) (built_in_run job f)
  unfolding built_in_run
  built_in_same built_in.Assign apart = λ frame s. absurd (apart refl)
  built_in_same built_in.CallType apart = call_type_row
  built_in_same built_in.Cite apart = cite_row
  built_in_same built_in.Duplicate apart = duplicate_row
  built_in_same built_in.FormatName apart = format_row
  built_in_same built_in.If apart = if_row
  built_in_same built_in.Missing apart = λ frame s. missing_with s.current frame s refl
  built_in_same built_in.Preamble apart = preamble_row
  built_in_same built_in.Stack apart = stack_row
  built_in_same built_in.Swap apart = λ frame s. swap_with s.literals frame s
  built_in_same built_in.Top apart = top_row
  built_in_same built_in.Type apart = type_row
  built_in_same built_in.Warning apart = warning_row
  built_in_same f apart =
      rule (row computed here f).operands (pushed_by (table.row f).default) (row computed here f).does ((table.row f).does job)
      (search (pushed_same, texts_same, truth_same, result_same, equals_same, case_same, code_same, character_same, empty_same))

  -- ---- the test of a loop

  pub tested_same : (xs : List Numbered) (frame : State) (s : Store) → test_on_literals (map lit xs) (in_names frame (answers.with_literals xs s))
      ≡ ((control.tested xs s).again, in_names (saying (control.tested xs s).said s.current frame) (control.tested xs s).store)
  tested_same [] frame s = ap (λ (t : State). (false, t)) (error_same frame (answers.with_literals [] s) note.EmptyStack empty_stack empty_is)
  tested_same (literal.Integer n ∷ xs) frame s = ap (λ (b : Bool). (b, in_names frame (answers.with_literals xs s))) (positive_same n)
  tested_same (literal.Text x ∷ xs) frame s =
      ap (λ (t : State). (false, t)) (error_same frame (answers.with_literals xs s) (note.WrongKind (literal.Text x) wanted.Integer)
      (wrong_operand_text AnInteger (lit (literal.Text x))) (no_integer (literal.Text x)))
  tested_same (literal.Function x ∷ xs) frame s =
      ap (λ (t : State). (false, t)) (error_same frame (answers.with_literals xs s) (note.WrongKind (literal.Function x) wanted.Integer)
      (wrong_operand_text AnInteger (lit (literal.Function x))) (no_integer (literal.Function x)))
  tested_same (literal.Missing ∷ xs) frame s =
      ap (λ (t : State). (false, t)) (error_same frame (answers.with_literals xs s) (note.WrongKind literal.Missing wanted.Integer)
      (wrong_operand_text AnInteger Missing) (no_integer literal.Missing))

  -- ---- `:=`

  cut_line : (frame : State) (current : Option ℕ) (size most : ℕ)
      → message line.Warning (codes "string of " ++ decimal size ++ codes " bytes cut to " ++ decimal most
      ++ (codes " while executing " ++ frame.executed ++ option_map_or (λ (entry : Entry). codes " for entry " ++ entry.key) (option_map entry current) []))
      ≡ line_of frame current (note.Cut size most)
  unfolding note_line note_text note_kind has_place
  cut_line frame current size most = ap (λ p. message line.Warning (codes "string of " ++ decimal size ++ codes " bytes cut to " ++ decimal most ++ p))
      (place_by frame current)

  not_assignable_is : (c : Callee) → IsError (note.NotAssignable c) (not_assignable (of c))
  unfolding note_text note_kind has_place
  not_assignable_is c = record { of_text = ap (λ n. codes "You can't assign to " ++ n) (named c); of_kind = refl; of_place = refl }

  module _ (of_variables : Variables job style library naming) where
    open of_variables use {gi, gs, ei, es, keys, user_name, field_name, built, users, fields, global_integers, global_strings, entry_integers, entry_strings, key_names}

    abbrev pub none : EntryVariables
    none = record { integers = []; strings = [] }

    -- the values of variables in names, and the rest of a state
    abbrev pub vars : State → Store → State
    vars frame s = record frame {
      integers = by_name gi (item s.integers (pos 0)) (pos 0);
      strings = by_name gs (item s.strings []) [];
      entry_integers = by_name keys (λ j. by_name ei (item (item s.entries none j).integers (pos 0)) (pos 0)) (λ n. pos 0);
      entry_strings = by_name keys (λ j. by_name es (item (item s.entries none j).strings []) []) (λ n. []);
      deepest = s.deepest;
    }

    abbrev pub now_in_names : State → Store → State
    now_in_names frame s = in_names (vars frame s) s

    abbrev pub answers_now : State → Answer → Effect
    answers_now frame a = follows a.next (in_names (saying a.said a.store.current (vars frame a.store)) a.store)

    -- a callee that is a variable is one of the style's, and has its place in the store
    abbrev pub Known : Store → Callee → Type 0
    Known s (callee.GlobalInteger i) = (gi.find (gi.name i) ≡ Some i) × (i < length s.integers)
    Known s (callee.GlobalString i) = (gs.find (gs.name i) ≡ Some i) × (i < length s.strings)
    Known s (callee.EntryInteger i) = (e : ℕ) → s.current ≡ Some e → (keys.find (keys.name e) ≡ Some e)
        × ((e < length s.entries) × ((ei.find (ei.name i) ≡ Some i) × (i < length (item s.entries none e).integers)))
    Known s (callee.EntryString i) = (e : ℕ) → s.current ≡ Some e → (keys.find (keys.name e) ≡ Some e)
        × ((e < length s.entries) × ((es.find (es.name i) ≡ Some i) × (i < length (item s.entries none e).strings)))
    Known s c = true ≡ true

    pub complaint : (n : Note) (t : List ℕ) → IsError n t → (frame : State) (s : Store) → Leaves (error t (now_in_names frame s))
        ≡ answers_now frame (answers.complains n stand_in.Nothing s)
    complaint n t h frame s = complains_same n t h stand_in.Nothing (vars frame s) s

    -- `:=` of a value to a callee, which is this function, does in names what it does with numbers
    abbrev Assigned : Callee → Function → Numbered → Type 0
    Assigned c f v = (frame : State) (s : Store) → Known s c → assigns here f (lit v) (now_in_names frame s)
        ≡ answers_now frame (variables.assigns job c v s)

    cuts : (most : ℕ) (text : List ℕ) (frame : State) (s : Store) → Leaves (cut_to most text (now_in_names frame s))
        ≡ answers_now frame (answers.says (answers.noted (only_if (nat_lt most (length text)) (note.Cut (length text) most))) s)
    cuts most text frame s = choose (nat_lt most (length text)) where
      choose : (b : Bool) → Leaves (if b then logs line.Warning (codes "string of " ++ decimal (length text) ++ codes " bytes cut to " ++ decimal most
          ++ place (now_in_names frame s)) (now_in_names frame s) else now_in_names frame s)
          ≡ answers_now frame (answers.says (answers.noted (only_if b (note.Cut (length text) most))) s)
      choose true = ap (λ l. Leaves (record (now_in_names frame s) { log = frame.log ++ l ∷ [] })) (cut_line frame s.current (length text) most)
      choose false = refl

    entry_case : (does : Entry → State → Effect) (now : ℕ → Store → Answer) (frame : State) (s : Store)
        → ((e : ℕ) → s.current ≡ Some e → does (entry e) (now_in_names frame s) ≡ answers_now frame (now e s))
        → in_entry does (now_in_names frame s) ≡ answers_now frame (variables.in_entry now s.current s)
    entry_case does now frame s h = by s.current refl where
      by : (c : Option ℕ) → s.current ≡ c → option_map_or (λ (entry : Entry). does entry (now_in_names frame s)) (option_map entry c)
          (Leaves (error no_entry (now_in_names frame s))) ≡ answers_now frame (variables.in_entry now c s)
      by None e = complaint note.NoEntry no_entry no_entry_is frame s
      by (Some i) e = h i e

    complaint_in_entry : (n : Note) (t : List ℕ) → IsError n t → (frame : State) (s : Store)
        → in_entry (λ entry s. Leaves (error t s)) (now_in_names frame s)
        ≡ answers_now frame (variables.in_entry (λ e. answers.complains n stand_in.Nothing) s.current s)
    complaint_in_entry n t is frame s =
        entry_case (λ entry s. Leaves (error t s)) (λ e. answers.complains n stand_in.Nothing) frame s (λ e c. complaint n t is frame s)

    global_integer : (i : ℕ) (v : Numbered) → Assigned (callee.GlobalInteger i) (Declared kind.GlobalInteger (gi.name i)) v
    global_integer i (literal.Integer n) frame s k =
        ap (λ m. Leaves (record (now_in_names frame s) { integers = m })) (set_item gi s.integers (pos 0) n i k.0 k.1)
    global_integer i (literal.Text n) frame s k = complaint _ _ (no_integer (literal.Text n)) frame s
    global_integer i (literal.Function n) frame s k = complaint _ _ (no_integer (literal.Function n)) frame s
    global_integer i literal.Missing frame s k = complaint _ _ (no_integer literal.Missing) frame s

    global_string : (i : ℕ) (v : Numbered) → Assigned (callee.GlobalString i) (Declared kind.GlobalString (gs.name i)) v
    global_string i (literal.Text text) frame s k =
        ap (λ m. Leaves (cut_to job.global_max text (record (now_in_names frame s) { strings = m })))
        (set_item gs s.strings [] (take job.global_max text) i k.0 k.1)
        ∙ cuts job.global_max text frame (variables.with_global_string i (take job.global_max text) s)
    global_string i (literal.Integer n) frame s k = complaint _ _ (no_string (literal.Integer n)) frame s
    global_string i (literal.Function n) frame s k = complaint _ _ (no_string (literal.Function n)) frame s
    global_string i literal.Missing frame s k = complaint _ _ (no_string literal.Missing) frame s

    entry_integer : (i : ℕ) (v : Numbered) → Assigned (callee.EntryInteger i) (Declared kind.EntryInteger (ei.name i)) v
    entry_integer i (literal.Integer n) frame s k =
        entry_case (λ entry s. Leaves (record s { entry_integers = set entry.key (set (ei.name i) n (s.entry_integers entry.key)) s.entry_integers })) _ frame s
        (λ e c.
        let known = k e c in
        let y : EntryVariables = record (item s.entries none e) { integers = slice_set (item s.entries none e).integers i n } in
        ap (λ key. Leaves (record (now_in_names frame s) {
          entry_integers = set key (set (ei.name i) n ((now_in_names frame s).entry_integers key))
              (now_in_names frame s).entry_integers;
        })) (key_names e)
        ∙ ap₂ (λ m strings. Leaves (record (now_in_names frame s) { entry_integers = m; entry_strings = by_name keys strings (λ n. []) }))
        (set_both keys ei s.entries none (λ v. v.integers) (λ xs v. record v { integers = xs }) (λ xs v. refl) (pos 0) n e i known.0 known.1.0 known.1.1.0
        known.1.1.1)
        (kept s.entries none y e (λ v. by_name es (item v.strings []) []) known.1.0 refl))
    entry_integer i (literal.Text n) frame s k = complaint_in_entry _ _ (no_integer (literal.Text n)) frame s
    entry_integer i (literal.Function n) frame s k = complaint_in_entry _ _ (no_integer (literal.Function n)) frame s
    entry_integer i literal.Missing frame s k = complaint_in_entry _ _ (no_integer literal.Missing) frame s

    entry_string : (i : ℕ) (v : Numbered) → Assigned (callee.EntryString i) (Declared kind.EntryString (es.name i)) v
    entry_string i (literal.Text text) frame s k =
        entry_case (λ entry s. Leaves (cut_to job.entry_max text
        (record s { entry_strings = set entry.key (set (es.name i) (take job.entry_max text) (s.entry_strings entry.key)) s.entry_strings }))) _ frame s (λ e c.
        let known = k e c in
        let n : List ℕ = take job.entry_max text in
        let y : EntryVariables = record (item s.entries none e) { strings = slice_set (item s.entries none e).strings i n } in
        ap (λ key. Leaves (cut_to job.entry_max text
        (record (now_in_names frame s) {
          entry_strings = set key (set (es.name i) n ((now_in_names frame s).entry_strings key))
              (now_in_names frame s).entry_strings;
        }))) (key_names e)
        ∙ ap₂ (λ m integers. Leaves (cut_to job.entry_max text
        (record (now_in_names frame s) { entry_strings = m; entry_integers = by_name keys integers (λ n. pos 0) })))
        (set_both keys es s.entries none (λ v. v.strings) (λ xs v. record v { strings = xs }) (λ xs v. refl) [] n e i known.0 known.1.0 known.1.1.0 known.1.1.1)
        (kept s.entries none y e (λ v. by_name ei (item v.integers (pos 0)) (pos 0)) known.1.0 refl)
        ∙ cuts job.entry_max text frame (variables.with_entry_string e i n s))
    entry_string i (literal.Integer n) frame s k = complaint_in_entry _ _ (no_string (literal.Integer n)) frame s
    entry_string i (literal.Function n) frame s k = complaint_in_entry _ _ (no_string (literal.Function n)) frame s
    entry_string i literal.Missing frame s k = complaint_in_entry _ _ (no_string literal.Missing) frame s

    refused : (c : Callee) (f : Function) (v : Numbered) (frame : State) (s : Store) → of c ≡ f → Leaves (error (not_assignable f) (now_in_names frame s))
        ≡ answers_now frame (answers.complains (note.NotAssignable c) stand_in.Nothing s)
    refused c f v frame s e = ap (λ g. Leaves (error (not_assignable g) (now_in_names frame s))) (sym e)
        ∙ complaint (note.NotAssignable c) (not_assignable (of c)) (not_assignable_is c) frame s

    -- `:=` of a value to a function that the style has does in names what it does with numbers
    pub assigns_same : (c : Callee) (v : Numbered) (frame : State) (s : Store) → Known s c → assigns here (of c) (lit v) (now_in_names frame s)
        ≡ answers_now frame (variables.assigns job c v s)
    assigns_same (callee.GlobalInteger i) v frame s k = ap (λ f. assigns here f (lit v) (now_in_names frame s)) (global_integers i)
        ∙ global_integer i v frame s k
    assigns_same (callee.GlobalString i) v frame s k = ap (λ f. assigns here f (lit v) (now_in_names frame s)) (global_strings i) ∙ global_string i v frame s k
    assigns_same (callee.EntryInteger i) v frame s k = ap (λ f. assigns here f (lit v) (now_in_names frame s)) (entry_integers i) ∙ entry_integer i v frame s k
    assigns_same (callee.EntryString i) v frame s k = ap (λ f. assigns here f (lit v) (now_in_names frame s)) (entry_strings i) ∙ entry_string i v frame s k
    assigns_same (callee.BuiltIn i) v frame s k = ap (λ f. assigns here f (lit v) (now_in_names frame s)) (built i)
        ∙ refused (callee.BuiltIn i) _ v frame s (built i)
    assigns_same (callee.User i) v frame s k = ap (λ f. assigns here f (lit v) (now_in_names frame s)) (users i) ∙ refused (callee.User i) _ v frame s (users i)
    assigns_same (callee.Field i) v frame s k = ap (λ f. assigns here f (lit v) (now_in_names frame s)) (fields i)
        ∙ refused (callee.Field i) _ v frame s (fields i)

    -- ---- variables and fields that are run

    pub pushes_now : (x : Numbered) (frame : State) (s : Store) → push (lit x) (now_in_names frame s) ≡ answers_now frame (answers.pushed x s)
    pushes_now x frame s = push_same step_output.Nothing x (vars frame s) s ∙ choose (nat_lt (length s.literals) MOST_LITERALS) where
      choose : (b : Bool) → answered (vars frame s)
          (if b then answers.says step_output.Nothing (answers.with_literals (x ∷ s.literals) s) else answers.answer (next.End limit.Literals) step_output.Nothing s)
          ≡ answers_now frame (if b then answers.says step_output.Nothing (answers.with_literals (x ∷ s.literals) s) else answers.answer (next.End limit.Literals)
          step_output.Nothing s)
      choose true = refl
      choose false = refl

    field_literal : (x : Option (List ℕ)) → option_map_or Text x Missing ≡ lit (option_map_or literal.Text x literal.Missing)
    field_literal None = refl
    field_literal (Some text) = refl

    -- a field or variable that is run does in names what it does with numbers; `valued`: an entry has the values of fields that it has with numbers
    pub variable_same : (c : Callee) (valued : (e i : ℕ) → c ≡ callee.Field i → (entry e).value (field_name i) ≡ entry_value i (entry_of job e)) (frame : State)
        (s : Store) → Known s c
        → (kind_ : Kind) (name : List ℕ) → of c ≡ Declared kind_ name → function_effect computed here (of c) (now_in_names frame s)
        ≡ answers_now frame (function_run job c s)
    unfolding function_run
    variable_same (callee.Field i) valued frame s k kind_ name is =
        ap (λ f. function_effect computed here f (now_in_names frame s)) (fields i)
        ∙ entry_case (λ entry. push (option_map_or Text (entry.value (field_name i)) Missing)) _ frame s (λ e c.
        ap (λ x. push x (now_in_names frame s)) (ap (λ x. option_map_or Text x Missing) (valued e i refl) ∙ field_literal (entry_value i (entry_of job e)))
        ∙ pushes_now (option_map_or literal.Text (entry_value i (entry_of job e)) literal.Missing) frame s)
    variable_same (callee.GlobalInteger i) valued frame s k kind_ name is =
        ap (λ f. function_effect computed here f (now_in_names frame s)) (global_integers i)
        ∙ ap (λ n. push (Integer n) (now_in_names frame s)) (value_at gi (item s.integers (pos 0)) (pos 0) i k.0)
        ∙ pushes_now (literal.Integer (item s.integers (pos 0) i)) frame s
    variable_same (callee.GlobalString i) valued frame s k kind_ name is =
        ap (λ f. function_effect computed here f (now_in_names frame s)) (global_strings i)
        ∙ ap (λ n. push (Text n) (now_in_names frame s)) (value_at gs (item s.strings []) [] i k.0)
        ∙ pushes_now (literal.Text (item s.strings [] i)) frame s
    variable_same (callee.EntryInteger i) valued frame s k kind_ name is =
        ap (λ f. function_effect computed here f (now_in_names frame s)) (entry_integers i)
        ∙ entry_case (λ entry s. push (Integer (s.entry_integers entry.key (ei.name i))) s) _ frame s (λ e c.
        ap (λ key. push (Integer ((now_in_names frame s).entry_integers key (ei.name i))) (now_in_names frame s)) (key_names e)
        ∙ ap (λ (m : List ℕ → ℤ). push (Integer (m (ei.name i))) (now_in_names frame s))
        (value_at keys (λ j. by_name ei (item (item s.entries none j).integers (pos 0)) (pos 0)) (λ n. pos 0) e (k e c).0)
        ∙ ap (λ n. push (Integer n) (now_in_names frame s)) (value_at ei (item (item s.entries none e).integers (pos 0)) (pos 0) i (k e c).1.1.0)
        ∙ pushes_now (literal.Integer (item (item s.entries none e).integers (pos 0) i)) frame s)
    variable_same (callee.EntryString i) valued frame s k kind_ name is =
        ap (λ f. function_effect computed here f (now_in_names frame s)) (entry_strings i)
        ∙ entry_case (λ entry s. push (Text (s.entry_strings entry.key (es.name i))) s) _ frame s (λ e c.
        ap (λ key. push (Text ((now_in_names frame s).entry_strings key (es.name i))) (now_in_names frame s)) (key_names e)
        ∙ ap (λ (m : List ℕ → List ℕ). push (Text (m (es.name i))) (now_in_names frame s))
        (value_at keys (λ j. by_name es (item (item s.entries none j).strings []) []) (λ n. []) e (k e c).0)
        ∙ ap (λ n. push (Text n) (now_in_names frame s)) (value_at es (item (item s.entries none e).strings []) [] i (k e c).1.1.0)
        ∙ pushes_now (literal.Text (item (item s.entries none e).strings [] i)) frame s)
    variable_same (callee.User i) valued frame s k kind_ name is = ap (λ f. function_effect computed here f (now_in_names frame s)) (users i)
    variable_same (callee.BuiltIn f) valued frame s k kind_ name is = absurd (no (sym (built f) ∙ is)) where
      no : Built f ≡ Declared kind_ name → ⊥
      no e = cc
