-- All that stands on the stack of a run is known to its style: what a step pushes and runs is what the style has.
use Rattle.std.proofs.Common.{◌≡◌, ℕ, ℤ, pos, negsuc, zero, suc, ◌<◌, Bool, true, false, if◌then◌else◌, List, [], ◌∷◌, ◌++◌, length, drop, take, nat_lt, Option}
use Rattle.std.proofs.Common.{None, Some, option_and_then, sym, subst, refl, codes, int_eq}
use Rattle.std.specs.Option.{option_or, option_map_or}
use Rattle.std.specs.Str.{bytes_eq}
use Rattle.std.specs.List.{list_all}
use Rattle.btx_text.specs.declared.limits.TheConstants.{MOST_LITERALS}
use Rattle.btx_text.specs.language.Class.{is_white}
use Rattle.btx_text.specs.language.Limits.{greatest_string}
use Rattle.btx_bib.specs.language.Library.{entry_type, entry_value}
use Rattle.btx_bst.specs.declared.built_in.BuiltIn.{BuiltIn}
use Rattle.btx_bst.specs.declared.built_in.BuiltIn.TheVariants as built_in
use Rattle.btx_bst.specs.declared.callee.Callee.{Callee}
use Rattle.btx_bst.specs.declared.callee.Callee.TheVariants as callee
use Rattle.btx_bst.specs.declared.token.Token.{Token}
use Rattle.btx_bst.specs.declared.token.Token.TheVariants as token
use Rattle.btx_bst.specs.language.Style.{type_of}
use Rattle.btx_bst.specs.laws.References.{IsKnown, Refers, RefersWithin}
use Rattle.btx_stack.specs.declared.literal.Literal.{Literal}
use Rattle.btx_stack.specs.declared.literal.Literal.TheVariants as literal
use Rattle.btx_step.specs.declared.literal.OperandKind.TheVariants as wanted
use Rattle.btx_step.specs.declared.next.Next.{Next}
use Rattle.btx_step.specs.declared.next.Next.TheVariants as next
use Rattle.btx_step.specs.declared.said.Note.{Note}
use Rattle.btx_step.specs.declared.said.Note.TheVariants as note
use Rattle.btx_step.specs.declared.said.StepOutput.{StepOutput}
use Rattle.btx_step.specs.declared.said.StepOutput.TheVariants as step_output
use Rattle.btx_step.specs.declared.stand_in.StandIn.{StandIn}
use Rattle.btx_step.specs.declared.stand_in.StandIn.TheVariants as stand_in
use Rattle.btx_step.specs.language.Answers.{Answer, pushes, pushes_text, complained, done, quiet, truth, with_literals}
use Rattle.btx_step.specs.language.Arithmetic as arithmetic
use Rattle.btx_step.specs.language.Control as control
use Rattle.btx_step.specs.language.Entries as entries
use Rattle.btx_step.specs.language.Jobs.{Job}
use Rattle.btx_step.specs.declared.operands.Operand.{Operand}
use Rattle.btx_step.specs.declared.operands.Default.{Default}
use Rattle.btx_step.specs.declared.operands.Operand.TheVariants.{Any, Of}
use Rattle.btx_step.specs.declared.operands.Default.TheVariants.{Push, Back}
use Rattle.btx_step.specs.language.Operands.{Value, Does, seen_as, applied, absent, wrong, or_else, or_default}
use Rattle.btx_step.specs.language.Operands.{on_operands}
use Rattle.btx_step.specs.language.Steps.{built_in_run, function_run, step_of}
use Rattle.btx_step.specs.language.Stores.{Store}
use Rattle.btx_step.specs.language.Strings as strings
use Rattle.btx_step.specs.language.Table.{row, runs_missing}
use Rattle.btx_step.specs.language.Variables as variables

module _ (job : Job) (refers : RefersWithin job.style) where
  -- a built-in function, or one that the style has; a field or a variable of it
  abbrev pub Has : Callee → Type 0
  Has c = IsKnown job.style.names (length job.style.bodies) c

  abbrev pub HasLiteral : Literal → Type 0
  HasLiteral (literal.Function c) = Has c
  HasLiteral x = Unit {0}

  abbrev pub HasAll : List Literal → Type 0
  HasAll [] = Unit {0}
  HasAll (x ∷ xs) = HasLiteral x × HasAll xs

  abbrev pub HasNext : Next → Type 0
  HasNext (next.Run f) = Has f
  HasNext (next.Open i) = i < length job.style.bodies
  HasNext (next.Loop f g) = Has f × Has g
  HasNext n = Unit {0}

  abbrev pub Fine : Answer → Type 0
  Fine a = HasAll a.store.literals × HasNext a.next

  choose : (b : Bool) (x y : Answer) → Fine x → Fine y → Fine (if b then x else y)
  choose true x y h k = h
  choose false x y h k = k

  pushing : (words : StepOutput) (v : Literal) (s : Store) → HasLiteral v → HasAll s.literals → Fine (pushes words v s)
  pushing words v s h k = choose (nat_lt (length s.literals) MOST_LITERALS) _ _ ((h, k), tt) (k, tt)

  texting : (words : StepOutput) (text : List ℕ) (s : Store) → HasAll s.literals → Fine (pushes_text words text s)
  texting words text s k = choose (nat_lt greatest_string (length text)) _ _ (k, tt) (pushing words (literal.Text text) s tt k)

  complaining : (ns : List Note) (instead : StandIn) (s : Store) → HasAll s.literals → Fine (complained ns instead s)
  complaining ns stand_in.Nothing s k = (k, tt)
  complaining ns stand_in.Zero s k = pushing (step_output.Noted ns) _ s tt k
  complaining ns stand_in.Empty s k = pushing (step_output.Noted ns) _ s tt k

  -- ---- operands

  abbrev HasValue : (o : Operand) → Value o → Type 0
  HasValue Any x = HasLiteral x
  HasValue (Of wanted.Integer) n = Unit {0}
  HasValue (Of wanted.Text) text = Unit {0}
  HasValue (Of wanted.Function) c = Has c
  HasValue (Of wanted.TextOrMissing) field_ = Unit {0}

  abbrev IsFine : (os : List Operand) → Does os → Type 0
  IsFine [] does = (s : Store) → HasAll s.literals → Fine (does s)
  IsFine (o ∷ os) does = (v : Value o) → HasValue o v → IsFine os (does v)

  abbrev IsFineIf : Option (Store → Answer) → Type 0
  IsFineIf None = Unit {0}
  IsFineIf (Some go) = (s : Store) → HasAll s.literals → Fine (go s)

  fine_then : {A : Type 0} (m : Option A) (f : A → Option (Store → Answer)) → ((a : A) → m ≡ Some a → IsFineIf (f a)) → IsFineIf (option_and_then f m)
  fine_then None f h = tt
  fine_then (Some a) f h = h a refl

  seen_fine : (o : Operand) (x : Literal) (v : Value o) → HasLiteral x → seen_as o x ≡ Some v → HasValue o v
  seen_fine Any x v h e = let same : x ≡ v = cc in subst HasLiteral same h
  seen_fine (Of wanted.Integer) x v h e = tt
  seen_fine (Of wanted.Text) x v h e = tt
  seen_fine (Of wanted.Function) (literal.Function c) v h e = let same : c ≡ v = cc in subst Has same h
  seen_fine (Of wanted.Function) (literal.Integer n) v h e = absurd (cc)
  seen_fine (Of wanted.Function) (literal.Text n) v h e = absurd (cc)
  seen_fine (Of wanted.Function) literal.Missing v h e = absurd (cc)
  seen_fine (Of wanted.TextOrMissing) x v h e = tt

  apply_fine : (os : List Operand) (does : Does os) → IsFine os does → (xs : List Literal) → HasAll xs → IsFineIf (applied os does xs)
  apply_fine [] does h xs k = h
  apply_fine (o ∷ os) does h [] k = tt
  apply_fine (o ∷ os) does h (x ∷ xs) k =
      fine_then (seen_as o x) (λ v. applied os (does v) xs) (λ v e. apply_fine os (does v) (h v (seen_fine o x v k.0 e)) xs k.1)

  drop_fine : (n : ℕ) (xs : List Literal) → HasAll xs → HasAll (drop n xs)
  drop_fine zero xs k = k
  drop_fine (suc n) [] k = tt
  drop_fine (suc n) (x ∷ xs) k = drop_fine n xs k.1

  default_fine : (m : Option (Store → Answer)) → IsFineIf m → (default : Default) (ns : List Note) (seen below : List Literal) (s : Store) → HasAll seen
      → HasAll below → Fine (or_default m default ns seen below s)
  default_fine (Some go) h default ns seen below s k l = h (with_literals below s) l
  default_fine None h (Push instead) ns seen below s k l = complaining ns instead (with_literals below s) l
  default_fine None h Back ns seen below s k l = (k, tt)

  by_operands : (os : List Operand) (default : Default) (does : Does os) → IsFine os does → (xs : List Literal) (s : Store) → HasAll xs
      → Fine (on_operands os default does xs s)
  by_operands os default does h xs s k =
      default_fine (applied os does xs) (apply_fine os does h xs k) default (or_else (absent os xs) (wrong os xs)) xs (drop (length os) xs) s k
      (drop_fine (length os) xs k)

  -- ---- rows

  stores_integer_fine : (store : ℤ → Store → Store) → ((n : ℤ) (s : Store) → (store n s).literals ≡ s.literals) → (v : Literal) (s : Store) → HasAll s.literals
      → Fine (variables.stores_integer store v s)
  stores_integer_fine store same (literal.Integer n) s k = (subst HasAll (sym (same n s)) k, tt)
  stores_integer_fine store same (literal.Text n) s k = complaining (note.WrongKind (literal.Text n) wanted.Integer ∷ []) stand_in.Nothing s k
  stores_integer_fine store same (literal.Function n) s k = complaining (note.WrongKind (literal.Function n) wanted.Integer ∷ []) stand_in.Nothing s k
  stores_integer_fine store same literal.Missing s k = complaining (note.WrongKind literal.Missing wanted.Integer ∷ []) stand_in.Nothing s k

  stores_string_fine : (most : ℕ) (store : List ℕ → Store → Store) → ((t : List ℕ) (s : Store) → (store t s).literals ≡ s.literals) → (v : Literal) (s : Store)
      → HasAll s.literals → Fine (variables.stores_string most store v s)
  stores_string_fine most store same (literal.Text text) s k = (subst HasAll (sym (same (take most text) s)) k, tt)
  stores_string_fine most store same (literal.Integer n) s k = complaining (note.WrongKind (literal.Integer n) wanted.Text ∷ []) stand_in.Nothing s k
  stores_string_fine most store same (literal.Function n) s k = complaining (note.WrongKind (literal.Function n) wanted.Text ∷ []) stand_in.Nothing s k
  stores_string_fine most store same literal.Missing s k = complaining (note.WrongKind literal.Missing wanted.Text ∷ []) stand_in.Nothing s k

  in_entry_fine : (go : ℕ → Store → Answer) (current : Option ℕ) (s : Store) → HasAll s.literals → ((e : ℕ) → Fine (go e s))
      → Fine (variables.in_entry go current s)
  in_entry_fine go None s k h = complaining (note.NoEntry ∷ []) stand_in.Nothing s k
  in_entry_fine go (Some e) s k h = h e

  assigns_fine : (c : Callee) (v : Literal) (s : Store) → HasAll s.literals → Fine (variables.assigns job c v s)
  assigns_fine (callee.GlobalInteger i) v s k = stores_integer_fine (variables.with_global_integer i) (λ n s. refl) v s k
  assigns_fine (callee.GlobalString i) v s k = stores_string_fine job.global_max (variables.with_global_string i) (λ n s. refl) v s k
  assigns_fine (callee.EntryInteger i) v s k = in_entry_fine _ s.current s k (λ e. stores_integer_fine (variables.with_entry_integer e i) (λ n s. refl) v s k)
  assigns_fine (callee.EntryString i) v s k =
      in_entry_fine _ s.current s k (λ e. stores_string_fine job.entry_max (variables.with_entry_string e i) (λ n s. refl) v s k)
  assigns_fine (callee.BuiltIn f) v s k = complaining (note.NotAssignable (callee.BuiltIn f) ∷ []) stand_in.Nothing s k
  assigns_fine (callee.User f) v s k = complaining (note.NotAssignable (callee.User f) ∷ []) stand_in.Nothing s k
  assigns_fine (callee.Field f) v s k = complaining (note.NotAssignable (callee.Field f) ∷ []) stand_in.Nothing s k

  truth_fine : (t : Bool) → HasLiteral (truth t)
  truth_fine true = tt
  truth_fine false = tt

  truths : (t : Bool) (s : Store) → HasAll s.literals → Fine (pushes step_output.Nothing (truth t) s)
  truths t s k = pushing step_output.Nothing (truth t) s (truth_fine t) k

  unlike : (s : Store) → HasAll s.literals → Fine (complained (note.Incomparable ∷ []) stand_in.Zero s)
  unlike s k = complaining (note.Incomparable ∷ []) stand_in.Zero s k

  equals_fine : (y x : Literal) (s : Store) → HasAll s.literals → Fine (arithmetic.equals y x s)
  equals_fine (literal.Integer b) (literal.Integer a) s k = truths (int_eq a b) s k
  equals_fine (literal.Text b) (literal.Text a) s k = truths (bytes_eq a b) s k
  equals_fine (literal.Integer b) (literal.Text a) s k = unlike s k
  equals_fine (literal.Integer b) (literal.Function a) s k = unlike s k
  equals_fine (literal.Integer b) literal.Missing s k = unlike s k
  equals_fine (literal.Text b) (literal.Integer a) s k = unlike s k
  equals_fine (literal.Text b) (literal.Function a) s k = unlike s k
  equals_fine (literal.Text b) literal.Missing s k = unlike s k
  equals_fine (literal.Function b) a s k = unlike s k
  equals_fine literal.Missing a s k = unlike s k

  result_fine : (n : ℤ) (s : Store) → HasAll s.literals → Fine (arithmetic.result_of n s)
  result_fine n s k = choose (arithmetic.fits n) _ _ (pushing step_output.Nothing (literal.Integer n) s tt k) (complaining (note.Overflow ∷ []) stand_in.Zero s k)

  code_fine : (text : List ℕ) (s : Store) → HasAll s.literals → Fine (arithmetic.gives_code text s)
  code_fine (b ∷ []) s k = pushing step_output.Nothing _ s tt k
  code_fine [] s k = complaining _ stand_in.Zero s k
  code_fine (a ∷ b ∷ c) s k = complaining _ stand_in.Zero s k

  character_fine : (n : ℤ) (s : Store) → HasAll s.literals → Fine (arithmetic.gives_character n s)
  character_fine (pos n) s k = choose (nat_lt n 128) _ _ (pushing step_output.Nothing _ s tt k) (complaining _ stand_in.Empty s k)
  character_fine (negsuc n) s k = complaining _ stand_in.Empty s k

  empty_fine : (f : Option (List ℕ)) (s : Store) → HasAll s.literals → Fine (strings.finds_empty f s)
  empty_fine None s k = truths true s k
  empty_fine (Some text) s k = truths (list_all is_white text) s k

  missing_fine : (f : Option (List ℕ)) (s : Store) → HasAll s.literals → Fine (entries.finds_missing f s)
  missing_fine None s k = truths true s k
  missing_fine (Some text) s k = truths false s k

  type_fine : (o : Option ℕ) (s : Store) → ((n : ℕ) → o ≡ Some n → n < length job.style.bodies) → HasAll s.literals
      → Fine (option_map_or (λ (function : ℕ). quiet (next.Run (callee.User function))) o done s)
  type_fine None s h k = (k, tt)
  type_fine (Some n) s h k = (k, h n refl)

  if_fine : (b : Bool) (f g : Callee) → Has f → Has g → Has (if b then f else g)
  if_fine true f g h k = h
  if_fine false f g h k = k

  row_fine : (types : (e n : ℕ) → entry_type (entries.entry_of job e) ≡ Some n → n < length job.style.bodies) (f : BuiltIn)
      → IsFine (row f).operands ((row f).does job)
  row_fine types built_in.Assign = λ c p v q s k. assigns_fine c v s k
  row_fine types built_in.CallType = λ s k. in_entry_fine _ s.current s k (λ e. type_fine _ s (both e) k) where
    either : (own other : Option ℕ) → ((n : ℕ) → own ≡ Some n → n < length job.style.bodies) → ((n : ℕ) → other ≡ Some n → n < length job.style.bodies)
        → (n : ℕ) → option_or own other ≡ Some n → n < length job.style.bodies
    either None other h g n e = g n e
    either (Some m) other h g n e = h n e

    both : (e n : ℕ) → option_or (entry_type (entries.entry_of job e)) (type_of job.style (codes "default.type")) ≡ Some n → n < length job.style.bodies
    both e n is = either (entry_type (entries.entry_of job e)) (type_of job.style (codes "default.type")) (types e) (refers.types (codes "default.type")) n is
  row_fine types built_in.Cite = λ s k. in_entry_fine _ s.current s k (λ e. texting step_output.Nothing _ s k)
  row_fine types built_in.If = λ f p g q n r s k. (k, if_fine (control.is_positive n) g f q p)
  row_fine types built_in.Type = λ s k. in_entry_fine _ s.current s k (λ e. texting step_output.Nothing _ s k)
  row_fine types f = search (pushing, texting, truths, equals_fine, result_fine, code_fine, character_fine, empty_fine, missing_fine)

  field_fine : (o : Option (List ℕ)) (s : Store) → HasAll s.literals → Fine (pushes step_output.Nothing (option_map_or literal.Text o literal.Missing) s)
  field_fine None s k = pushing step_output.Nothing _ s tt k
  field_fine (Some t) s k = pushing step_output.Nothing _ s tt k

  module _ (types : (e n : ℕ) → entry_type (entries.entry_of job e) ≡ Some n → n < length job.style.bodies) where
    by_row : (f : BuiltIn) (s : Store) → HasAll s.literals → Fine (on_operands (row f).operands (row f).default ((row f).does job) s.literals s)
    by_row f s k = by_operands (row f).operands (row f).default ((row f).does job) (row_fine types f) s.literals s k

    missing_run : (c : Option ℕ) (s : Store) → HasAll s.literals → Fine (runs_missing c s)
    missing_run None s k = complaining (absent (Any ∷ []) s.literals ++ note.NoEntry ∷ []) stand_in.Nothing (with_literals (drop 1 s.literals) s)
        (drop_fine 1 s.literals k)
    missing_run (Some e) s k = by_row built_in.Missing s k

    pub built_in_fine : (f : BuiltIn) (s : Store) → HasAll s.literals → Fine (built_in_run job f s)
    unfolding built_in_run
    built_in_fine built_in.Missing s k = missing_run s.current s k
    built_in_fine f s k = by_row f s k

    pub function_fine : (c : Callee) (s : Store) → Has c → HasAll s.literals → Fine (function_run job c s)
    unfolding function_run
    function_fine (callee.BuiltIn f) s h k = built_in_fine f s k
    function_fine (callee.User i) s h k = (k, h)
    function_fine (callee.Field i) s h k = in_entry_fine _ s.current s k (λ e. field_fine (entry_value i (entries.entry_of job e)) s k)
    function_fine (callee.EntryInteger i) s h k = in_entry_fine _ s.current s k (λ e. pushing step_output.Nothing _ s tt k)
    function_fine (callee.EntryString i) s h k = in_entry_fine _ s.current s k (λ e. pushing step_output.Nothing _ s tt k)
    function_fine (callee.GlobalInteger i) s h k = pushing step_output.Nothing _ s tt k
    function_fine (callee.GlobalString i) s h k = pushing step_output.Nothing _ s tt k

    -- a step leaves what the style has, and what it runs the style has
    pub step_fine : (t : Token) (s : Store) → Refers job.style.names (length job.style.texts) (length job.style.bodies) t → HasAll s.literals
        → Fine (step_of job t s)
    unfolding step_of
    step_fine (token.Text i) s h k = texting step_output.Nothing _ s k
    step_fine (token.Integer n) s h k = pushing step_output.Nothing _ s tt k
    step_fine (token.Quote c) s h k = pushing step_output.Nothing (literal.Function c) s h k
    step_fine (token.Run c) s h k = function_fine c s h k

    pub tested_fine : (xs : List Literal) (s : Store) → HasAll xs → HasAll (control.tested xs s).store.literals
    tested_fine [] s k = tt
    tested_fine (literal.Integer n ∷ xs) s k = k.1
    tested_fine (literal.Text n ∷ xs) s k = k.1
    tested_fine (literal.Function n ∷ xs) s k = k.1
    tested_fine (literal.Missing ∷ xs) s k = k.1
