-- The two ways to say a style agree, rule by rule: what a command comes to with numbers, it comes to in names.
use Rattle.std.proofs.Common.{◌≡◌, ◌⊎◌, inl, inr, ℕ, zero, suc, ◌-◌, ◌<◌, ◌≤◌, Bool, true, false, cond, if◌then◌else◌, not, List, [], ◌∷◌, ◌++◌, length, map}
use Rattle.std.proofs.Common.{replicate, nat_lt, Option, None, Some, option_map, is_none, is_some, unwrap_or, sym, ap, subst, ◌∙◌, refl, arith, slice_index_or}
use Rattle.std.proofs.Common.{true≢false}
use Rattle.std.specs.Option.{option_or}
use Rattle.std.specs.Prelude.{codes, slice_get, option_and_then}
use Rattle.std.specs.Str.{bytes_eq}
use Rattle.std.specs.Map.{lookup}
use Rattle.std.proofs.lemmas.List.{length-append}
use Rattle.std.proofs.lemmas.Bool.{lt-ltb, ltb-true}
use Rattle.std.proofs.lemmas.Option.{slice_get_within}
use Rattle.std.proofs.lemmas.Slice.Eq.{bytes_eq-Decides}
use Rattle.btx_text.specs.language.Keys.{folded}
use Rattle.btx_text.specs.laws.Bytes.{close_brace, open_brace}
use Rattle.btx_bst.specs.declared.built_in.BuiltIn.{BuiltIn}
use Rattle.btx_bst.specs.declared.callee.Callee.{Callee}
use Rattle.btx_bst.specs.declared.callee.Callee.TheVariants as callee
use Rattle.btx_bst.specs.declared.callee.Kind.{Kind}
use Rattle.btx_bst.specs.declared.callee.Kind.TheVariants as kind
use Rattle.btx_bst.specs.declared.command.Command.{Command as CommandName}
use Rattle.btx_bst.specs.declared.command.Command.TheVariants as command
use Rattle.btx_bst.specs.declared.token.Token.{Token}
use Rattle.btx_bst.specs.language.BuiltIns.{built_in_of}
use Rattle.btx_bst.specs.language.Commands.{has_read, function_in}
use Rattle.btx_bst.specs.language.Complaints.{Complaint, NoClose, NoOpen, NotCommand, Unknown}
use Rattle.btx_bst.specs.language.Complaints.{Defined as NameTaken}
use Rattle.btx_bst.specs.language.Items as item
use Rattle.btx_bst.specs.language.Items.{Item}
use Rattle.btx_bst.specs.language.Lists.{Listed, listed}
use Rattle.btx_bst.specs.language.Names as named
use Rattle.btx_bst.specs.language.Names.{named_lower, with_name, with_function, name_of}
use Rattle.btx_bst.specs.language.Outcomes.{CommandOutcome, outcome, with_item}
use Rattle.btx_bst.specs.language.Places.{Place}
use Rattle.btx_bst.specs.language.Reads.{Took}
use Rattle.btx_bst.specs.language.Style.{as_field}
use Rattle.btx_bst.specs.language.Style.{as_type as type_number}
use Rattle.btx_bst.specs.language.Style.{Style as NumberedStyle}
use Rattle.btx_bst.specs.laws.CommandSpelling as numbered
use Rattle.btx_bst.specs.laws.Names.{macro_lower}
use Rattle.btx_bst.specs.laws.Spelling.{Parts, made_by, complaint_in}
use Rattle.btx_bst.specs.laws.TokenSpelling.{StyleGrammar, Gap, BehindGap, StyleSignHere, StyleNameHere, TextHere}
use Rattle.btx_bst.specs.laws.Written.{AreNew, declared, made_in, with_made_function}
use Rattle.btx_bst.specs.refinement.Names.{names_of_kind, padded}
use Rattle.btx_bst.proofs.FurtherLemmas.{further-function, further-field, further-entry_integer, further-entry_string, further-global_integer}
use Rattle.btx_bst.proofs.FurtherLemmas.{further-global_string, named-pad, padded-length}
use Rattle.btx_bst.proofs.TableLemmas.{IsFurther}
use Rattle.btx_core.specs.laws.SameStyles.{Numbers, numbers_of, stands_for, IsBodyOf, AreFunctionsOf, commands_of, AreCommandsOf, IsMeant}
use Rattle.btx_core.specs.language.Styles.{Body, Built, Command, Declared, Defined, Execute, Function, Iterate, Read, Reverse, Sort, set}
use Rattle.btx_core.specs.language.StyleTexts.{SoFar, meaning, and_name, and_command, and_says, CommandEnd, ended_at, Rule, Next, Opened, Closed, Requires, HasEffect}
use Rattle.btx_core.specs.language.StyleTexts.{Names, Lists, body_of, wrong_in, wrong_till, HasBody, is_function, as_type, is_read, Executes, Arguments}
use Rattle.btx_core.specs.language.StyleTexts as in_names
use Rattle.btx_core.proofs.SameNumberLemmas.{Kept, kept_push, kept_same, last_of, Extends, extends_both, extends_by, still_body, still_meant, still_functions}
use Rattle.btx_core.proofs.SameNumberLemmas.{still_commands}
use Rattle.btx_core.proofs.SameNumberLemmas.{SameNames, functions_length, one_more_function, more_commands, one_more_command, no_more_command}
use Rattle.btx_core.proofs.SameBodyLemmas.{MeanSame, item_of, said_of, messages_said, parts_items, fragment_items, numbers_at, Comes, parts_come}

-- ---- a style so far, in both ways

-- what a name of a style so far means, in lower case
abbrev pub lower_meaning : (List ℕ → Option Function) → List ℕ → Option Function
lower_meaning names name = option_or (option_map Built (built_in_of name)) (names name)

-- the functions that may be types: none before READ
abbrev pub SameTypes : Numbers → named.Names → Option ℕ → Option (List ℕ → Option Function) → Type 0
SameTypes numbers names None types = types ≡ None
SameTypes numbers names (Some count) types =
    (known : List ℕ → Option Function) × (types ≡ Some known)
    × ((name : List ℕ) → IsMeant numbers (option_map callee.User (type_number (Some count) (named_lower names name))) (known name))

-- READ comes after as many functions at most as there are
abbrev pub IsAfter : ℕ → Option ℕ → Type 0
IsAfter most None = Unit {0}
IsAfter most (Some count) = count ≤ most

-- the names of a style so far are the same, and none of them is that of a built-in function
pub record SameSoFar (s : NumberedStyle) (t : SoFar) : Type 0 where
  pub functions : List Function
  pub file : t.file ≡ s.file
  pub defined : AreFunctionsOf (numbers_of s functions) 0 s.bodies functions
  pub commands : AreCommandsOf (numbers_of s functions) s.file s.items t.commands
  pub names : (name : List ℕ) → IsMeant (numbers_of s functions) (named_lower s.names name) (lower_meaning t.names name)
  pub apart : (name : List ℕ) (f : BuiltIn) → built_in_of name ≡ Some f → t.names name ≡ None
  pub macros : t.macros ≡ s.macros
  pub has_entry : t.has_entry ≡ s.has_entry
  pub types : SameTypes (numbers_of s functions) s.names s.before_read t.types
  pub named_first : length s.names.functions ≤ length s.bodies
  pub behind : IsAfter (length s.bodies) s.before_read

pub record SameEnd (o : CommandOutcome) (e : CommandEnd) : Type 0 where
  pub wrong : e.wrong ≡ o.complaint
  pub style : SameSoFar o.style e.style
  pub place : e.place ≡ o.place

-- what is known of a style so far where a rule is met
abbrev pub Known : Type 1
Known = (s : NumberedStyle) (t : SoFar) → SameSoFar s t → Type 0

abbrev pub Always : Known
Always s t h = Unit {0}

-- what a rule with numbers gives, one in names gives
abbrev pub AgreeWhere : Known → numbered.Rule → Rule → Type 0
AgreeWhere P R Q = (s : NumberedStyle) (t : SoFar) (p : Place) (o : CommandOutcome) (h : SameSoFar s t) → P s t h → R s p o → (e : CommandEnd) × Q t p e
    × SameEnd o e

abbrev pub Agree : numbered.Rule → Rule → Type 0
Agree = AgreeWhere Always

ends : (wrong : Option Complaint) (s : NumberedStyle) (t : SoFar) (p : Place) (o : CommandOutcome) → SameSoFar s t → o ≡ outcome wrong s p
    → SameEnd o (ended_at wrong t p)
ends wrong s t p o h e = subst (λ (o : CommandOutcome). SameEnd o (ended_at wrong t p)) (sym e) (record { wrong = refl; style = h; place = refl })

-- ---- how rules are made

next_agree : {A : Type 0} (P : Known) (R : StyleGrammar A) (rest : A → numbered.Rule) (others : A → Rule) → ((a : A) → AgreeWhere P (rest a) (others a))
    → AgreeWhere P (numbered.AndThen (BehindGap R) rest) (Next R others)
next_agree P R rest others g s t p o h w (inl k) = let e = g k.0 s t k.1 o h w k.3 in (e.0, inl (k.0, k.1, k.2, e.1), e.2)
next_agree P R rest others g s t p o h w (inr k) = (ended_at (Some k.0) t k.1, inr (k.0, k.1, k.2, refl), ends (Some k.0) s t k.1 o h k.3)

opened_agree : (P : Known) (rest : numbered.Rule) (other : Rule) → AgreeWhere P rest other → AgreeWhere P (numbered.Opened rest) (Opened other)
opened_agree P rest other g = next_agree P (StyleSignHere open_brace NoOpen) (λ none. rest) (λ none. other) (λ none. g)

closed_agree : (P : Known) (rest : numbered.Rule) (other : Rule) → AgreeWhere P rest other → AgreeWhere P (numbered.Closed rest) (Closed other)
closed_agree P rest other g = next_agree P (StyleSignHere close_brace NoClose) (λ none. rest) (λ none. other) (λ none. g)

where_agree : (test : NumberedStyle → Bool) (test' : SoFar → Bool) (wrong : Complaint) (rest : numbered.Rule) (other : Rule)
    → ((s : NumberedStyle) (t : SoFar) → SameSoFar s t → test' t ≡ test s) → Agree rest other
    → Agree (numbered.Where test wrong rest) (Requires test' wrong other)
where_agree test test' wrong rest other same g s t p o h w (inl k) = let e = g s t p o h w k.1 in (e.0, inl (same s t h ∙ k.0, e.1), e.2)
where_agree test test' wrong rest other same g s t p o h w (inr k) = (ended_at (Some wrong) t p, inr (same s t h ∙ k.0, refl), ends (Some wrong) s t p o h k.1)

unless_agree : (test : NumberedStyle → Bool) (test' : SoFar → Bool) (wrong : Complaint) (rest : numbered.Rule) (other : Rule)
    → ((s : NumberedStyle) (t : SoFar) → SameSoFar s t → test' t ≡ not (test s)) → Agree rest other
    → Agree (numbered.Unless test wrong rest) (Requires test' wrong other)
unless_agree test test' wrong rest other same g s t p o h w (inl k) =
    (ended_at (Some wrong) t p, inr (same s t h ∙ ap not k.0, refl), ends (Some wrong) s t p o h k.1)
unless_agree test test' wrong rest other same g s t p o h w (inr k) = let e = g s t p o h w k.1 in (e.0, inl (same s t h ∙ ap not k.0, e.1), e.2)

new_agree : {A : Type 0} (means : NumberedStyle → Option A) (test : SoFar → Bool) (wrong : Complaint) (rest : numbered.Rule) (other : Rule)
    → ((s : NumberedStyle) (t : SoFar) → SameSoFar s t → test t ≡ is_none (means s))
    → AgreeWhere (λ s t h. means s ≡ None) rest other → Agree (numbered.New means wrong rest) (Requires test wrong other)
new_agree {A} means test wrong rest other same g s t p o h w (inl k) = let e = g s t p o h k.0 k.1 in (e.0, inl (same s t h ∙ ap is_none k.0, e.1), e.2)
new_agree {A} means test wrong rest other same g s t p o h w (inr k) =
    (ended_at (Some wrong) t p, inr (same s t h ∙ ap is_none k.1, refl), ends (Some wrong) s t p o h k.2)

makes_agree : (P : Known) (change : NumberedStyle → NumberedStyle) (other : SoFar → SoFar)
    → ((s : NumberedStyle) (t : SoFar) (h : SameSoFar s t) → P s t h → SameSoFar (change s) (other t))
    → AgreeWhere P (numbered.Makes change) (HasEffect other)
makes_agree P change other same s t p o h w k = (ended_at None (other t) p, refl, ends None (change s) (other t) p o (same s t h w) k)

-- ---- items

-- other items, macros and types: the names stay, and what they mean
with_parts : (s : NumberedStyle) (t : SoFar) (h : SameSoFar s t) (items : List Item) (commands : List Command) (macros said_macros : List (List ℕ × List ℕ))
    (entry said_entry : Bool) (before : Option ℕ) (types : Option (List ℕ → Option Function))
    → AreCommandsOf (numbers_of s h.functions) s.file items commands → said_macros ≡ macros → said_entry ≡ entry
    → SameTypes (numbers_of s h.functions) s.names before types → IsAfter (length s.bodies) before
    → SameSoFar (record s { items = items; macros = macros; has_entry = entry; before_read = before })
    (record t { commands = commands; macros = said_macros; has_entry = said_entry; types = types })
with_parts s t h items commands macros said_macros entry said_entry before types are same_macros same_entry same_types behind = record {
  functions = h.functions;
  file = h.file;
  defined = h.defined;
  commands = are;
  names = h.names;
  apart = h.apart;
  macros = same_macros;
  has_entry = same_entry;
  types = same_types;
  named_first = h.named_first;
  behind = behind;
}

-- other items alone
with_items : (s : NumberedStyle) (t : SoFar) (h : SameSoFar s t) (items : List Item) (commands : List Command)
    → AreCommandsOf (numbers_of s h.functions) s.file items commands → SameSoFar (record s { items = items }) (record t { commands = commands })
with_items s t h items commands are = with_parts s t h items commands s.macros t.macros s.has_entry t.has_entry s.before_read t.types are h.macros h.has_entry
    h.types h.behind

-- a further item, and the commands that it is
and_commands : (s : NumberedStyle) (t : SoFar) (x : Item) (more : List Command) (h : SameSoFar s t) → commands_of (numbers_of s h.functions) s.file x
    ≡ Some more
    → SameSoFar (with_item x s) (record t { commands = t.commands ++ more })
and_commands s t x more h e = with_items s t h (s.items ++ x ∷ []) (t.commands ++ more)
    (one_more_command (numbers_of s h.functions) s.file s.items t.commands x more h.commands e)

-- an item that is no command
no_command : (s : NumberedStyle) (t : SoFar) (x : Item) (h : SameSoFar s t) → commands_of (numbers_of s h.functions) s.file x ≡ Some []
    → SameSoFar (with_item x s) t
no_command s t x h e = with_items s t h (s.items ++ x ∷ []) t.commands
    (no_more_command (numbers_of s h.functions) s.file s.items t.commands x h.commands e)

-- messages, each of its line
pub and_messages : (s : NumberedStyle) (t : SoFar) (said : List (Complaint × ℕ)) → SameSoFar s t
    → SameSoFar (record s { items = s.items ++ map item_of said }) (and_says said t)
and_messages s t said h = with_items s t h (s.items ++ map item_of said) (t.commands ++ map (said_of t.file) said)
    (more_commands (numbers_of s h.functions) s.file s.items t.commands (map item_of said) (map (said_of t.file) said) h.commands
    (subst (λ file. AreCommandsOf (numbers_of s h.functions) s.file (map item_of said) (map (said_of file) said)) (sym h.file)
    (messages_said (numbers_of s h.functions) s.file said)))

-- ---- names

same_bytes : (name : List ℕ) → bytes_eq name name ≡ true
same_bytes name = (bytes_eq-Decides name name).1 refl

none_of_or : {A : Type 0} (a b : Option A) → option_or a b ≡ None → (a ≡ None) × (b ≡ None)
none_of_or None b e = (refl, e)
none_of_or (Some x) b e = absurd (cc)

unmapped : {A B : Type 0} (f : A → B) (o : Option A) → option_map f o ≡ None → o ≡ None
unmapped f None e = refl
unmapped f (Some a) e = absurd (cc)

or_nothing : {A : Type 0} (o : Option A) → option_or o None ≡ o
or_nothing None = refl
or_nothing (Some a) = refl

-- what has no meaning with numbers has none in names
pub no_meaning : (s : NumberedStyle) (t : SoFar) → SameSoFar s t → (name : List ℕ) → named_lower s.names name ≡ None → lower_meaning t.names name ≡ None
no_meaning s t h name e = subst (λ c. IsMeant (numbers_of s h.functions) c (lower_meaning t.names name)) e (h.names name)

is_none_same : (s : NumberedStyle) (t : SoFar) → SameSoFar s t → (name : List ℕ) → is_none (lower_meaning t.names name) ≡ is_none (named_lower s.names name)
is_none_same s t h name = by (named_lower s.names name) (h.names name) where
  by : (c : Option Callee) → IsMeant (numbers_of s h.functions) c (lower_meaning t.names name) → is_none (lower_meaning t.names name) ≡ is_none c
  by None k = ap is_none k
  by (Some c) k = ap is_none k.2

is_some_same : (s : NumberedStyle) (t : SoFar) → SameSoFar s t → (name : List ℕ) → is_some (lower_meaning t.names name) ≡ is_some (named_lower s.names name)
is_some_same s t h name = by (named_lower s.names name) (h.names name) where
  by : (c : Option Callee) → IsMeant (numbers_of s h.functions) c (lower_meaning t.names name) → is_some (lower_meaning t.names name) ≡ is_some c
  by None k = ap is_some k
  by (Some c) k = ap is_some k.2

-- names with a further one
names_further : (a b : Numbers) (old new : named.Names) (names : List ℕ → Option Function) (name : List ℕ) (c : Callee) (f : Function) → Extends a b
    → IsFurther old new name c → named_lower old name ≡ None → stands_for b c ≡ Some f
    → ((m : List ℕ) → IsMeant a (named_lower old m) (lower_meaning names m)) → (m : List ℕ)
    → IsMeant b (named_lower new m) (lower_meaning (set name (Some f) names) m)
names_further a b old new names name c f x further none stands h m =
    subst (λ o. IsMeant b o (lower_meaning (set name (Some f) names) m)) (sym (further m)) (by (bytes_eq m name) refl) where
      by : (t : Bool) → bytes_eq m name ≡ t → IsMeant b (option_or (named_lower old m) (cond t (Some c) None))
          (option_or (option_map Built (built_in_of m)) (cond t (Some f) (names m)))
      by false e = subst (λ o. IsMeant b o (lower_meaning names m)) (sym (or_nothing (named_lower old m)))
          (still_meant a b x (named_lower old m) (lower_meaning names m) (h m))
      by true e =
          let is : m ≡ name = (bytes_eq-Decides m name).0 e in
          let no : named_lower old m ≡ None = ap (named_lower old) is ∙ none in
          let meant : lower_meaning names m ≡ None = subst (λ o. IsMeant a o (lower_meaning names m)) no (h m) in
          let free : option_map Built (built_in_of m) ≡ None = (none_of_or (option_map Built (built_in_of m)) (names m) meant).0 in
          subst (λ o. IsMeant b o (option_or (option_map Built (built_in_of m)) (Some f))) (sym (ap (λ (o : Option Callee). option_or o (Some c)) no))
          (f, stands, ap (λ (o : Option Function). option_or o (Some f)) free)

apart_further : (names : List ℕ → Option Function) (name : List ℕ) (f : Function) → built_in_of name ≡ None
    → ((m : List ℕ) (g : BuiltIn) → built_in_of m ≡ Some g → names m ≡ None)
    → (m : List ℕ) (g : BuiltIn) → built_in_of m ≡ Some g → set name (Some f) names m ≡ None
apart_further names name f none h m g e = by (bytes_eq m name) refl where
  by : (t : Bool) → bytes_eq m name ≡ t → cond t (Some f) (names m) ≡ None
  by false k = h m g e
  by true k =
      let is : m ≡ name = (bytes_eq-Decides m name).0 k in
      let d : None ≡ Some g = sym none ∙ ap built_in_of (sym is) ∙ e in
      absurd (cc)

-- a further name is that of no type: it is no function, or it comes after READ
types_further : (a b : Numbers) (old new : named.Names) (name : List ℕ) (c : Callee) (before : Option ℕ) (types : Option (List ℕ → Option Function))
    → Extends a b → IsFurther old new name c → named_lower old name ≡ None
    → ((count : ℕ) → before ≡ Some count → type_number (Some count) (Some c) ≡ None) → SameTypes a old before types → SameTypes b new before types
types_further a b old new name c None types x further none past h = h
types_further a b old new name c (Some count) types x further none past h =
    (h.0, h.1, λ m. subst (λ o. IsMeant b (option_map callee.User (type_number (Some count) o)) (h.0 m)) (sym (further m)) (by m (bytes_eq m name) refl)) where
      by : (m : List ℕ) (t : Bool) → bytes_eq m name ≡ t
          → IsMeant b (option_map callee.User (type_number (Some count) (option_or (named_lower old m) (cond t (Some c) None)))) (h.0 m)
      by m false e =
          subst (λ o. IsMeant b (option_map callee.User (type_number (Some count) o)) (h.0 m)) (sym (or_nothing (named_lower old m)))
          (still_meant a b x (option_map callee.User (type_number (Some count) (named_lower old m))) (h.0 m) (h.2 m))
      by m true e =
          let is : m ≡ name = (bytes_eq-Decides m name).0 e in
          let no : named_lower old m ≡ None = ap (named_lower old) is ∙ none in
          let meant : h.0 m ≡ None = subst (λ o. IsMeant a (option_map callee.User (type_number (Some count) o)) (h.0 m)) no (h.2 m) in
          subst (λ o. IsMeant b (option_map callee.User (type_number (Some count) (option_or o (Some c)))) (h.0 m)) (sym no)
          (subst (λ o. IsMeant b (option_map callee.User o) (h.0 m)) (sym (past count refl)) meant)

-- ---- lists of names

-- the number of a further name of a kind: it stands for the name, which is that of no type
abbrev Further : Kind → named.Names → List ℕ → Type 0
Further k names name = (c : Callee) × IsFurther names (with_name k name names) name c
    × ((texts : List (List ℕ)) (functions : List Function) → stands_for (record { names = with_name k name names; texts = texts; functions = functions }) c
    ≡ Some (Declared k name))
    × ((count : ℕ) → type_number (Some count) (Some c) ≡ None)

-- it is that of the name's place, after the others of its kind
further_by : (k : Kind) (names : named.Names) (name : List ℕ) (others : List (List ℕ)) (c : Callee) → IsFurther names (with_name k name names) name c
    → ((texts : List (List ℕ)) (functions : List Function) → stands_for (record { names = with_name k name names; texts = texts; functions = functions }) c
    ≡ option_map (Declared k) (slice_get (others ++ name ∷ []) (length others)))
    → ((count : ℕ) → type_number (Some count) (Some c) ≡ None) → Further k names name
further_by k names name others c further stands no_type = (
  c,
  further,
  λ texts functions. stands texts functions ∙ ap (option_map (Declared k)) (last_of others name (length others) refl),
  no_type,
)

further_kind : (k : Kind) (names : named.Names) (name : List ℕ) → named_lower names name ≡ None → Further k names name
further_kind kind.Field names name e = further_by kind.Field names name names.fields (callee.Field (length names.fields))
    (further-field names name (length names.fields) refl e) (λ texts functions. refl) (λ count. refl)
further_kind kind.EntryInteger names name e = further_by kind.EntryInteger names name names.entry_integers (callee.EntryInteger (length names.entry_integers))
    (further-entry_integer names name (length names.entry_integers) refl e) (λ texts functions. refl) (λ count. refl)
further_kind kind.EntryString names name e = further_by kind.EntryString names name names.entry_strings (callee.EntryString (length names.entry_strings))
    (further-entry_string names name (length names.entry_strings) refl e) (λ texts functions. refl) (λ count. refl)
further_kind kind.GlobalInteger names name e = further_by kind.GlobalInteger names name names.global_integers
    (callee.GlobalInteger (length names.global_integers))
    (further-global_integer names name (length names.global_integers) refl e) (λ texts functions. refl) (λ count. refl)
further_kind kind.GlobalString names name e = further_by kind.GlobalString names name names.global_strings (callee.GlobalString (length names.global_strings))
    (further-global_string names name (length names.global_strings) refl e) (λ texts functions. refl) (λ count. refl)

-- the names of one kind get one more, and those of the others stay
with_name_kept : (k : Kind) (names : named.Names) (name : List ℕ) (other : Kind) → Kept (names_of_kind other names)
    (names_of_kind other (with_name k name names))
with_name_kept kind.Field names name kind.Field = kept_push names.fields (name ∷ [])
with_name_kept kind.EntryInteger names name kind.EntryInteger = kept_push names.entry_integers (name ∷ [])
with_name_kept kind.EntryString names name kind.EntryString = kept_push names.entry_strings (name ∷ [])
with_name_kept kind.GlobalInteger names name kind.GlobalInteger = kept_push names.global_integers (name ∷ [])
with_name_kept kind.GlobalString names name kind.GlobalString = kept_push names.global_strings (name ∷ [])
with_name_kept k names name other = λ n x e. e

with_name_extends : (k : Kind) (names : named.Names) (name : List ℕ) (texts : List (List ℕ)) (functions : List Function)
    → Extends (record { names = names; texts = texts; functions = functions }) (record { names = with_name k name names; texts = texts; functions = functions })
with_name_extends k names name texts functions =
    record { names = with_name_kept k names name; texts = kept_same texts; functions = kept_same functions }

-- the functions keep their names
functions_stay : (k : Kind) (name : List ℕ) (names : named.Names) → (with_name k name names).functions ≡ names.functions
functions_stay kind.Field name names = refl
functions_stay kind.EntryInteger name names = refl
functions_stay kind.EntryString name names = refl
functions_stay kind.GlobalInteger name names = refl
functions_stay kind.GlobalString name names = refl

-- a name that a style declares; it is new
pub declares : (k : Kind) (name : List ℕ) (s : NumberedStyle) (t : SoFar) → SameSoFar s t → named_lower s.names name ≡ None
    → SameSoFar (record s { names = with_name k name s.names }) (record t { names = set name (Some (Declared k name)) t.names })
declares k name s t h e =
    let names = with_name k name s.names in
    let a = numbers_of s h.functions in
    let b : Numbers = record { names = names; texts = s.texts; functions = h.functions } in
    let x : Extends a b = with_name_extends k s.names name s.texts h.functions in
    let new = further_kind k s.names name e in
    let free : built_in_of name ≡ None = unmapped Built (built_in_of name)
    (none_of_or (option_map Built (built_in_of name)) (t.names name) (no_meaning s t h name e)).0 in
    let stay = functions_stay k name s.names in
    record {
      functions = h.functions;
      file = h.file;
      defined = still_functions a b x (length s.bodies) 0 s.bodies h.functions
          (λ n lt. ap (λ (fs : List (Option (List ℕ))). unwrap_or (slice_index_or fs n None) (codes "{}")) (sym stay)) (omega arith) h.defined;
      commands = still_commands a b x s.file s.items t.commands h.commands;
      names = names_further a b s.names names t.names name new.0 (Declared k name) x new.1 e (new.2 s.texts h.functions) h.names;
      apart = apart_further t.names name (Declared k name) free h.apart;
      macros = h.macros;
      has_entry = h.has_entry;
      types = types_further a b s.names names name new.0 s.before_read t.types x new.1 e (λ count f. new.3 count) h.types;
      named_first = subst (λ (fs : List (Option (List ℕ))). length fs ≤ length s.bodies) (sym stay) h.named_first;
      behind = h.behind;
    }

-- after a list: the rest, or nothing where the list has a fault
abbrev After : Option Complaint → named.Names → Place → numbered.Rule → NumberedStyle → CommandOutcome → Type 0
After None names to rest s o = rest (record s { names = names }) to o
After (Some wrong) names to rest s o = o ≡ outcome (Some wrong) (record s { names = names }) to

names_agree : (k : Kind) (rest : numbered.Rule) (other : Rule) → Agree rest other → (names : List (List ℕ)) (s : NumberedStyle) (t : SoFar) (p end : Place)
    (wrong : Option Complaint) (known : named.Names) (to : Place) (o : CommandOutcome)
    → SameSoFar s t → numbered.AreNames names p end → AreNew k names s.names → numbered.EndsList (declared k names s.names) end (listed wrong known to)
    → After wrong known to rest s o
    → (e : CommandEnd) × Names k names other t p e × SameEnd o e
names_agree k rest other g [] s t p end wrong known to o h here new (inl closed) after =
    at wrong (ap (λ (l : Listed). l.complaint) closed.2) (ap (λ (l : Listed). l.listing.names) closed.2) (ap (λ (l : Listed). l.listing.place) closed.2)
    after where
      at : (wrong : Option Complaint) → wrong ≡ None → known ≡ s.names → to ≡ closed.0 → After wrong known to rest s o
          → (e : CommandEnd) × Names k [] other t p e × SameEnd o e
      at (Some c) e f place after = absurd (cc)
      at None e f place after =
          let same : rest s to o = subst (λ (names : named.Names). rest (record s { names = names }) to o) f after in
          let r = g s t to o h tt same in (
            r.0,
            inl (
              to,
              subst (λ q. BehindGap (StyleSignHere close_brace NoClose) q (Took tt to)) (sym here)
                  (subst (λ q. BehindGap (StyleSignHere close_brace NoClose) end (Took tt q)) (sym place) closed.1),
              r.1,
            ),
            r.2,
          )
names_agree k rest other g [] s t p end wrong known to o h here new (inr (inl missing)) after =
    at wrong (ap (λ (l : Listed). l.complaint) missing.4) (ap (λ (l : Listed). l.listing.names) missing.4) (ap (λ (l : Listed). l.listing.place) missing.4)
    after where
      at : (wrong : Option Complaint) → wrong ≡ Some missing.0 → known ≡ s.names → to ≡ missing.1 → After wrong known to rest s o
          → (e : CommandEnd) × Names k [] other t p e × SameEnd o e
      at None e f place after = absurd (cc)
      at (Some c) e f place after =
          let is : c ≡ missing.0 = cc in
          let ended : o ≡ outcome (Some c) s to = after ∙ ap (λ (names : named.Names). outcome (Some c) (record s { names = names }) to) f in (
            ended_at (Some missing.0) t missing.1,
            inr (inl (missing.0, missing.1, subst (λ q. Gap q missing.1) (sym here) missing.2, missing.3, refl)),
            ends (Some missing.0) s t missing.1 o h (ended ∙ ap (λ c. outcome (Some c) s to) is ∙ ap (outcome (Some missing.0) s) place),
          )
names_agree k rest other g [] s t p end wrong known to o h here new (inr (inr taken)) after =
    at wrong (ap (λ (l : Listed). l.complaint) taken.5) (ap (λ (l : Listed). l.listing.names) taken.5) (ap (λ (l : Listed). l.listing.place) taken.5)
    after where
      at : (wrong : Option Complaint) → wrong ≡ Some (NameTaken taken.0) → known ≡ s.names → to ≡ taken.1 → After wrong known to rest s o
          → (e : CommandEnd) × Names k [] other t p e × SameEnd o e
      at None e f place after = absurd (cc)
      at (Some c) e f place after =
          let is : c ≡ NameTaken taken.0 = cc in
          let ended : o ≡ outcome (Some c) s to = after ∙ ap (λ (names : named.Names). outcome (Some c) (record s { names = names }) to) f in
          let old : is_some (meaning t taken.0) ≡ true = is_some_same s t h (folded taken.0) ∙ ap is_some taken.4 in (
            ended_at (Some (NameTaken taken.0)) t taken.1,
            inr (inr (taken.0, taken.1, subst (λ q. BehindGap StyleNameHere q (Took taken.0 taken.1)) (sym here) taken.3, old, refl)),
            ends (Some (NameTaken taken.0)) s t taken.1 o h (ended ∙ ap (λ c. outcome (Some c) s to) is ∙ ap (outcome (Some (NameTaken taken.0)) s) place),
          )
names_agree k rest other g (name ∷ names) s t p end wrong known to o h here new ended after =
    let style : NumberedStyle = record s { names = with_name k (folded name) s.names } in
    let so_far = and_name name (Declared k (folded name)) t in
    let r = names_agree k rest other g names style so_far here.0 end wrong known to o (declares k (folded name) s t h new.0) here.2 new.1 ended
    (passed wrong after) in
    let fresh : is_some (meaning t name) ≡ false = is_some_same s t h (folded name) ∙ ap is_some new.0 in
    (r.0, (here.0, here.1, fresh, r.1), r.2) where
      passed : (wrong : Option Complaint) → After wrong known to rest s o → After wrong known to rest (record s { names = with_name k (folded name) s.names }) o
      passed None a = a
      passed (Some c) a = a

lists_agree : (k : Kind) (rest : numbered.Rule) (other : Rule) → Agree rest other → Agree (numbered.Lists k rest) (Lists k other)
lists_agree k rest other g = opened_agree Always _ _ inner where
  inner : Agree (λ style from o.
      ((known : named.Names) × (to : Place) × numbered.InList k style.names from (listed None known to) × rest (record style { names = known }) to o)
      ⊎ ((complaint : Complaint) × (known : named.Names) × (to : Place) × numbered.InList k style.names from (listed (Some complaint) known to)
      × (o ≡ outcome (Some complaint) (record style { names = known }) to))) (λ style from o. (names : List (List ℕ)) × Names k names other style from o)
  inner s t p o h w (inl l) = let r = names_agree k rest other g l.2.0 s t p l.2.1 None l.0 l.1 o h l.2.2 l.2.3 l.2.4 l.3 in (r.0, (l.2.0, r.1), r.2)
  inner s t p o h w (inr l) = let r = names_agree k rest other g l.3.0 s t p l.3.1 (Some l.0) l.1 l.2 o h l.3.2 l.3.3 l.3.4 l.4 in (r.0, (l.3.0, r.1), r.2)

-- ---- bodies

index_push : {A : Type 0} (xs ys : List A) (n : ℕ) (d : A) → n < length xs → slice_index_or (xs ++ ys) n d ≡ slice_index_or xs n d
index_push [] ys n d lt = absurd (omega (arith, lt))
index_push (x ∷ xs) ys zero d lt = refl
index_push (x ∷ xs) ys (suc n) d lt = index_push xs ys n d (omega (arith, lt))

index_last : {A : Type 0} (xs : List A) (y d : A) (n : ℕ) → n ≡ length xs → slice_index_or (xs ++ y ∷ []) n d ≡ y
index_last [] y d zero e = refl
index_last [] y d (suc n) e = absurd (omega arith)
index_last (x ∷ xs) y d zero e = absurd (omega arith)
index_last (x ∷ xs) y d (suc n) e = index_last xs y d n (omega arith)

index_none : {A : Type 0} (c n : ℕ) (d : A) → slice_index_or (replicate c d) n d ≡ d
index_none zero n d = refl
index_none (suc c) zero d = refl
index_none (suc c) (suc n) d = index_none c n d

index_pad : {A : Type 0} (xs : List A) (c n : ℕ) (d : A) → slice_index_or (xs ++ replicate c d) n d ≡ slice_index_or xs n d
index_pad [] c n d = index_none c n d
index_pad (x ∷ xs) c zero d = refl
index_pad (x ∷ xs) c (suc n) d = index_pad xs c n d

further_user : (names : named.Names) (n : ℕ) (name : List ℕ) → length names.functions ≤ n → named_lower names name ≡ None
    → IsFurther names (with_function n name names) name (callee.User n)
further_user names n name le none m =
    further-function (record names { functions = padded n names.functions }) name n (sym (padded-length n names.functions le))
    (named-pad names (n - length names.functions) name ∙ none) m
    ∙ ap (λ (o : Option Callee). option_or o (cond (bytes_eq m name) (Some (callee.User n)) None)) (named-pad names (n - length names.functions) m)

not_below : (n count : ℕ) → count ≤ n → nat_lt n count ≡ false
not_below n count le = by (nat_lt n count) refl where
  by : (t : Bool) → nat_lt n count ≡ t → nat_lt n count ≡ false
  by false e = e
  by true e = let lt = ltb-true n count e in absurd (omega (arith, lt, le))

still_behind : (m n : ℕ) (before : Option ℕ) → m ≤ n → IsAfter m before → IsAfter n before
still_behind m n None le h = h
still_behind m n (Some count) le h = omega (arith, le, h)

behind_count : (n : ℕ) (before : Option ℕ) (count : ℕ) → before ≡ Some count → IsAfter n before → count ≤ n
behind_count n None count e h = absurd (cc)
behind_count n (Some c) count e h = let same : c ≡ count = cc in subst (λ x. x ≤ n) same h

-- a function with a name leaves the names of each kind as they are
function_kept : (n : ℕ) (name : List ℕ) (names : named.Names) (k : Kind) → Kept (names_of_kind k names) (names_of_kind k (with_function n name names))
function_kept n name names kind.Field = kept_same names.fields
function_kept n name names kind.EntryInteger = kept_same names.entry_integers
function_kept n name names kind.EntryString = kept_same names.entry_strings
function_kept n name names kind.GlobalInteger = kept_same names.global_integers
function_kept n name names kind.GlobalString = kept_same names.global_strings

-- the function of a name that is new
defines : (name : List ℕ) (parts : Parts) (s : NumberedStyle) (t : SoFar) → SameSoFar s t → named_lower s.names (folded name) ≡ None
    → SameSoFar (with_made_function name (made_by s.names parts (made_in s)) s)
    (and_name name (Defined (folded name) (body_of (meaning t) parts)) (and_says (wrong_in (meaning t) parts) t))
defines name parts s t h e =
    let lowered = folded name in
    let body = body_of (meaning t) parts in
    let said = wrong_in (meaning t) parts in
    let m = made_by s.names parts (made_in s) in
    let n = length m.bodies in
    let mean : MeanSame (numbers_of s h.functions) s.names (meaning t) = λ name. h.names (folded name) in
    let comes : Comes s.names h.functions (made_in s) m body = parts_come s.names (meaning t) parts (made_in s) h.functions mean h.named_first h.defined in
    let all = comes.all ++ Defined lowered body ∷ [] in
    let names = with_function n lowered s.names in
    let first = numbers_of s h.functions in
    let made = numbers_at s.names m comes.all in
    let last : Numbers = record { names = names; texts = m.texts; functions = all } in
    let begun : Extends first made = extends_by s.names s.texts m.texts h.functions comes.all comes.texts comes.kept in
    let ended : Extends made last = record {
      names = function_kept n lowered s.names;
      texts = kept_same m.texts;
      functions = kept_push comes.all (Defined lowered body ∷ []);
    } in
    let whole : Extends first last = extends_both first made last begun ended in
    let grown : length s.bodies ≤ n = comes.grown in
    let few = h.named_first in
    let le : length s.names.functions ≤ n = omega (arith, grown, few) in
    let pad = padded-length n s.names.functions le in
    let names_stay : SameNames n made last = λ k lt.
    ap (λ (o : Option (List ℕ)). unwrap_or o (codes "{}"))
    (sym (index_push (padded n s.names.functions) (Some lowered ∷ []) k None (omega (arith, lt, pad))
    ∙ index_pad s.names.functions (n - length s.names.functions) k None)) in
    let named_so : name_of names (callee.User n) ≡ lowered =
    ap (λ (o : Option (List ℕ)). unwrap_or o (codes "{}")) (index_last (padded n s.names.functions) (Some lowered) None n (sym pad)) in
    let tokens : IsBodyOf last m.tokens body =
    still_body made last ended m.tokens body (subst (λ (ts : List Token). IsBodyOf made ts body) (sym comes.after) comes.is_body) in
    let items = parts_items first s.names (meaning t) mean parts (made_in s) in
    let commands : AreCommandsOf last s.file (s.items ++ map item_of said) (t.commands ++ map (said_of t.file) said) =
    more_commands last s.file s.items t.commands (map item_of said) (map (said_of t.file) said)
    (still_commands first last whole s.file s.items t.commands h.commands)
    (subst (λ file. AreCommandsOf last s.file (map item_of said) (map (said_of file) said)) (sym h.file) (messages_said last s.file said)) in
    let free : built_in_of lowered ≡ None =
    unmapped Built (built_in_of lowered) (none_of_or (option_map Built (built_in_of lowered)) (t.names lowered) (no_meaning s t h lowered e)).0 in
    let longer = length-append m.bodies (m.tokens ∷ []) in
    record {
      functions = all;
      file = h.file;
      defined = one_more_function last 0 n m.bodies comes.all m.tokens lowered body
          (still_functions made last ended n 0 m.bodies comes.all names_stay (omega arith) comes.defined) tokens (omega arith) named_so;
      commands = no_more_command last s.file m.items (t.commands ++ map (said_of t.file) said) (item.Function n)
          (subst (λ (is : List Item). AreCommandsOf last s.file is (t.commands ++ map (said_of t.file) said)) (sym items) commands) refl;
      names = names_further first last s.names names t.names lowered (callee.User n) (Defined lowered body) whole (further_user s.names n lowered le e) e
          (last_of comes.all (Defined lowered body) n (sym (functions_length made 0 m.bodies comes.all comes.defined))) h.names;
      apart = apart_further t.names lowered (Defined lowered body) free h.apart;
      macros = h.macros;
      has_entry = h.has_entry;
      types = types_further first last s.names names lowered (callee.User n) s.before_read t.types whole (further_user s.names n lowered le e) e
          (λ count f. ap (λ (z : Bool). if z then Some n else None)
          (not_below n count (let b = behind_count (length s.bodies) s.before_read count f h.behind in omega (arith, b, grown)))) h.types;
      named_first = omega (arith, length-append (padded n s.names.functions) (Some lowered ∷ []), pad, longer);
      behind = still_behind (length s.bodies) (length (m.bodies ++ m.tokens ∷ [])) s.before_read (omega (arith, longer, grown)) h.behind;
    }

body_agree : (name : List ℕ) → AgreeWhere (λ s t h. named_lower s.names (folded name) ≡ None) (numbered.HasBody name) (HasBody name)
body_agree name s t p o h new (inl k) =
    let e = ended_at None (and_name name (Defined (folded name) (body_of (meaning t) k.0)) (and_says (wrong_in (meaning t) k.0) t)) k.1 in
    (e, inl (k.0, k.1, k.2, refl), ends None _ e.style k.1 o (defines name k.0 s t h new) k.3)
body_agree name s t p o h new (inr k) =
    let said = wrong_till (meaning t) k.0 in
    let e = ended_at (Some (complaint_in k.0)) (and_says said t) k.1 in
    let items = fragment_items (numbers_of s h.functions) s.names (meaning t) (λ name. h.names (folded name)) k.0 (made_in s) in (
      e,
      inr (k.0, k.1, k.2, refl),
      ends (Some (complaint_in k.0)) (record s { items = s.items ++ map item_of said }) e.style k.1 o (and_messages s t said h)
          (k.3 ∙ ap (λ (is : List Item). outcome (Some (complaint_in k.0)) (record s { items = is }) k.1) items),
    )

-- ---- commands

-- each function of a style is one that it defines
pub all_defined : (a : Numbers) (n : ℕ) (bodies : List (List Token)) (functions : List Function) → AreFunctionsOf a n bodies functions → (k : ℕ) (f : Function)
    → slice_get functions k ≡ Some f
    → (name : List ℕ) × (body : Body) × (f ≡ Defined name body)
all_defined a n [] functions h k f e = let no : None ≡ Some f = sym (ap (λ (fs : List Function). slice_get fs k) h) ∙ e in absurd (cc)
all_defined a n (tokens ∷ bodies) functions h zero f e =
    let is : Some (Defined (name_of a.names (callee.User n)) h.0) ≡ Some f = sym (ap (λ (fs : List Function). slice_get fs zero) h.4) ∙ e in
    (name_of a.names (callee.User n), h.0, cc)
all_defined a n (tokens ∷ bodies) functions h (suc k) f e =
    all_defined a (suc n) bodies h.1 h.3 k f (sym (ap (λ (fs : List Function). slice_get fs (suc k)) h.4) ∙ e)

pub is_read_same : (s : NumberedStyle) (t : SoFar) → SameSoFar s t → is_read t ≡ has_read s
is_read_same s t h = by s.before_read h.types where
  by : (before : Option ℕ) → SameTypes (numbers_of s h.functions) s.names before t.types → is_some t.types ≡ is_some before
  by None k = ap is_some k
  by (Some count) k = ap is_some k.1

no_declared : (k : Kind) (o : Option (List ℕ)) (f : Function) → option_map (Declared k) o ≡ Some f → (name : List ℕ) × (f ≡ Declared k name)
no_declared k None f e = absurd (cc)
no_declared k (Some name) f e = (name, cc)

-- what is declared is no function
declared_no : (k : Kind) (o : Option (List ℕ)) (f : Function) → option_map (Declared k) o ≡ Some f → is_function f ≡ true → ⊥
declared_no k o f e i = let d = no_declared k o f e in absurd (true≢false (sym i ∙ ap is_function d.1))

-- a name that names a function with numbers does so in names
function_found : (s : NumberedStyle) (t : SoFar) (h : SameSoFar s t) (c : Option Callee) (m : Option Function) → IsMeant (numbers_of s h.functions) c m
    → (d : Callee) → function_in c ≡ Some d
    → (f : Function) × (m ≡ Some f) × (is_function f ≡ true) × (stands_for (numbers_of s h.functions) d ≡ Some f)
function_found s t h None m k d e = absurd (cc)
function_found s t h (Some (callee.User n)) m k d e =
    let is = all_defined (numbers_of s h.functions) 0 s.bodies h.functions h.defined n k.0 k.1 in
    let same : callee.User n ≡ d = cc in
    (k.0, k.2, ap is_function is.2, subst (λ d. stands_for (numbers_of s h.functions) d ≡ Some k.0) same k.1)
function_found s t h (Some (callee.BuiltIn b)) m k d e =
    let is : Built b ≡ k.0 = cc in
    let same : callee.BuiltIn b ≡ d = cc in
    (k.0, k.2, ap is_function (sym is), subst (λ d. stands_for (numbers_of s h.functions) d ≡ Some k.0) same k.1)
function_found s t h (Some (callee.Field n)) m k d e = absurd (cc)
function_found s t h (Some (callee.EntryInteger n)) m k d e = absurd (cc)
function_found s t h (Some (callee.EntryString n)) m k d e = absurd (cc)
function_found s t h (Some (callee.GlobalInteger n)) m k d e = absurd (cc)
function_found s t h (Some (callee.GlobalString n)) m k d e = absurd (cc)

some_same : (f g : Function) (m : Option Function) → m ≡ Some f → m ≡ Some g → f ≡ g
some_same f g m e k = let same : Some f ≡ Some g = sym e ∙ k in cc

no_function_found : (s : NumberedStyle) (t : SoFar) (h : SameSoFar s t) (c : Option Callee) (m : Option Function) → IsMeant (numbers_of s h.functions) c m
    → function_in c ≡ None
    → (f : Function) → m ≡ Some f → is_function f ≡ true → ⊥
no_function_found s t h None m k e f g i = let no : None ≡ Some f = sym k ∙ g in absurd (cc)
no_function_found s t h (Some (callee.User n)) m k e f g i = absurd (cc)
no_function_found s t h (Some (callee.BuiltIn b)) m k e f g i = absurd (cc)
no_function_found s t h (Some (callee.Field n)) m k e f g i =
    declared_no kind.Field (slice_get s.names.fields n) k.0 k.1 (ap is_function (some_same k.0 f m k.2 g) ∙ i)
no_function_found s t h (Some (callee.EntryInteger n)) m k e f g i = declared_no kind.EntryInteger (slice_get s.names.entry_integers n) k.0 k.1
    (ap is_function (some_same k.0 f m k.2 g) ∙ i)
no_function_found s t h (Some (callee.EntryString n)) m k e f g i = declared_no kind.EntryString (slice_get s.names.entry_strings n) k.0 k.1
    (ap is_function (some_same k.0 f m k.2 g) ∙ i)
no_function_found s t h (Some (callee.GlobalInteger n)) m k e f g i = declared_no kind.GlobalInteger (slice_get s.names.global_integers n) k.0 k.1
    (ap is_function (some_same k.0 f m k.2 g) ∙ i)
no_function_found s t h (Some (callee.GlobalString n)) m k e f g i = declared_no kind.GlobalString (slice_get s.names.global_strings n) k.0 k.1
    (ap is_function (some_same k.0 f m k.2 g) ∙ i)

executes_agree : (c : CommandName) (x : Callee → Item) (made : Function → Command)
    → ((a : Numbers) (file : List ℕ) (d : Callee) → commands_of a file (x d) ≡ option_map (λ (f : Function). made f ∷ []) (stands_for a d))
    → Agree (numbered.Executes c x) (Executes c made)
executes_agree c x made same = where_agree _ _ _ _ _ is_read_same (opened_agree Always _ _ (next_agree Always StyleNameHere _ _ by)) where
  by : (name : List ℕ) → Agree (numbered.HasMeaning (λ s. function_in (named.named s.names name)) (Unknown name)
      (λ d. numbered.Closed (numbered.Makes (with_item (x d))))) (λ style from o.
      ((f : Function) × (meaning style name ≡ Some f) × (is_function f ≡ true) × Closed (HasEffect (and_command (made f))) style from o)
      ⊎ (((f : Function) → meaning style name ≡ Some f → is_function f ≡ true → ⊥) × (o ≡ ended_at (Some (Unknown name)) style from)))
  by name s t p o h w (inl k) =
      let found = function_found s t h (named.named s.names name) (meaning t name) (h.names (folded name)) k.0 k.1 in
      let f = found.0 in
      let r = closed_agree (λ s t h. stands_for (numbers_of s h.functions) k.0 ≡ Some f) (numbered.Makes (with_item (x k.0))) (HasEffect (and_command (made f)))
      (makes_agree (λ s t h. stands_for (numbers_of s h.functions) k.0 ≡ Some f) (with_item (x k.0)) (and_command (made f))
      (λ s t h e. and_commands s t (x k.0) (made f ∷ []) h (same (numbers_of s h.functions) s.file k.0 ∙ ap (option_map (λ (f : Function). made f ∷ [])) e)))
      s t p o h found.3 k.2 in
      (r.0, inl (f, found.1, found.2, r.1), r.2)
  by name s t p o h w (inr k) = (
    ended_at (Some (Unknown name)) t p,
    inr (no_function_found s t h (named.named s.names name) (meaning t name) (h.names (folded name)) k.0, refl),
    ends (Some (Unknown name)) s t p o h k.1,
  )

-- the number of a function that a name names
abbrev pub user_in : Option Callee → Option ℕ
user_in (Some (callee.User n)) = Some n
user_in _ = None

-- what a name that a style has declared is among types and fields
pub record Own (numbers : Numbers) (c : Option Callee) (f : Option Function) : Type 0 where
  pub of_type : IsMeant numbers (option_map callee.User (user_in c)) (option_and_then as_type f)
  pub of_field : in_names.is_a_field f ≡ is_some (as_field c)

pub own : (s : NumberedStyle) (t : SoFar) (h : SameSoFar s t) (name : List ℕ) → Own (numbers_of s h.functions) (named_lower s.names name) (t.names name)
own s t h name = by (built_in_of name) refl (named_lower s.names name) (h.names name) where
  numbers : Numbers
  numbers = numbers_of s h.functions

  built : (b : BuiltIn) (c : Option Callee) → IsMeant numbers c (Some (Built b)) → Own numbers c None
  built b None k = absurd (cc)
  built b (Some (callee.BuiltIn d)) k = record { of_type = refl; of_field = refl }
  built b (Some (callee.User n)) k =
      let is = all_defined numbers 0 s.bodies h.functions h.defined n k.0 k.1 in
      let no : Some (Built b) ≡ Some (Defined is.0 is.1) = k.2 ∙ ap Some is.2 in
      absurd (cc)
  built b (Some (callee.Field n)) k = let is = no_declared kind.Field (slice_get s.names.fields n) k.0 k.1 in
      let no : Some (Built b) ≡ Some (Declared kind.Field is.0) = k.2 ∙ ap Some is.1 in absurd (cc)
  built b (Some (callee.EntryInteger n)) k = record { of_type = refl; of_field = refl }
  built b (Some (callee.EntryString n)) k = record { of_type = refl; of_field = refl }
  built b (Some (callee.GlobalInteger n)) k = record { of_type = refl; of_field = refl }
  built b (Some (callee.GlobalString n)) k = record { of_type = refl; of_field = refl }

  other : (k : Kind) (c : Callee) (o : Option (List ℕ)) (f : Function) (m : Option Function) → option_map (Declared k) o ≡ Some f → m ≡ Some f
      → user_in (Some c) ≡ None
      → ((n : List ℕ) → in_names.is_a_field (Some (Declared k n)) ≡ is_some (as_field (Some c))) → Own numbers (Some c) m
  other k c o f m e g u i =
      let is = no_declared k o f e in
      let same : m ≡ Some (Declared k is.0) = g ∙ ap Some is.1 in
      record {
        of_type = subst (λ n. IsMeant numbers (option_map callee.User n) (option_and_then as_type m)) (sym u) (ap (option_and_then as_type) same);
        of_field = ap in_names.is_a_field same ∙ i is.0;
      }

  free : (c : Option Callee) (m : Option Function) → IsMeant numbers c m → Own numbers c m
  free None m k = record { of_type = ap (option_and_then as_type) k; of_field = ap in_names.is_a_field k }
  free (Some (callee.BuiltIn b)) m k =
      let is : m ≡ Some (Built b) = cc in
      record { of_type = ap (option_and_then as_type) is; of_field = ap in_names.is_a_field is }
  free (Some (callee.User n)) m k =
      let is = all_defined numbers 0 s.bodies h.functions h.defined n k.0 k.1 in
      let same : m ≡ Some (Defined is.0 is.1) = k.2 ∙ ap Some is.2 in
      record { of_type = (k.0, k.1, ap (option_and_then as_type) same ∙ ap Some (sym is.2)); of_field = ap in_names.is_a_field same }
  free (Some (callee.Field n)) m k = other kind.Field (callee.Field n) (slice_get s.names.fields n) k.0 m k.1 k.2 refl (λ n. refl)
  free (Some (callee.EntryInteger n)) m k = other kind.EntryInteger (callee.EntryInteger n) (slice_get s.names.entry_integers n) k.0 m k.1 k.2 refl (λ n. refl)
  free (Some (callee.EntryString n)) m k = other kind.EntryString (callee.EntryString n) (slice_get s.names.entry_strings n) k.0 m k.1 k.2 refl (λ n. refl)
  free (Some (callee.GlobalInteger n)) m k = other kind.GlobalInteger (callee.GlobalInteger n) (slice_get s.names.global_integers n) k.0 m k.1 k.2 refl
      (λ n. refl)
  free (Some (callee.GlobalString n)) m k = other kind.GlobalString (callee.GlobalString n) (slice_get s.names.global_strings n) k.0 m k.1 k.2 refl (λ n. refl)

  by : (b : Option BuiltIn) → built_in_of name ≡ b → (c : Option Callee) → IsMeant numbers c (lower_meaning t.names name) → Own numbers c (t.names name)
  by None e c k = free c (t.names name) (subst (λ (o : Option BuiltIn). IsMeant numbers c (option_or (option_map Built o) (t.names name))) e k)
  by (Some b) e c k =
      subst (Own numbers c) (sym (h.apart name b e))
      (built b c (subst (λ (o : Option BuiltIn). IsMeant numbers c (option_or (option_map Built o) (t.names name))) e k))

below : (n m : ℕ) → n < m → nat_lt n m ≡ true
below n m lt = lt-ltb n m lt

-- the functions before READ
reads : (s : NumberedStyle) (t : SoFar) → SameSoFar s t
    → SameSoFar (with_item item.Read (record s { before_read = Some (length s.bodies) }))
    (and_command Read (record t { types = Some (λ name. option_and_then as_type (t.names name)) }))
reads s t h =
    with_parts s t h (s.items ++ item.Read ∷ []) (t.commands ++ Read ∷ []) s.macros t.macros s.has_entry t.has_entry (Some (length s.bodies))
    (Some (λ name. option_and_then as_type (t.names name)))
    (one_more_command (numbers_of s h.functions) s.file s.items t.commands item.Read (Read ∷ []) h.commands refl) h.macros h.has_entry types (omega arith) where
      all_before : (c : Option Callee) (m : Option Function) → IsMeant (numbers_of s h.functions) c m → user_in c ≡ type_number (Some (length s.bodies)) c
      all_before None m k = refl
      all_before (Some (callee.BuiltIn b)) m k = refl
      all_before (Some (callee.User n)) m k =
          let within = slice_get_within h.functions n k.0 k.1 in
          let same = functions_length (numbers_of s h.functions) 0 s.bodies h.functions h.defined in
          sym (ap (λ (z : Bool). if z then Some n else None) (below n (length s.bodies) (omega (arith, within, same))))
      all_before (Some (callee.Field n)) m k = refl
      all_before (Some (callee.EntryInteger n)) m k = refl
      all_before (Some (callee.EntryString n)) m k = refl
      all_before (Some (callee.GlobalInteger n)) m k = refl
      all_before (Some (callee.GlobalString n)) m k = refl

      types : SameTypes (numbers_of s h.functions) s.names (Some (length s.bodies)) (Some (λ name. option_and_then as_type (t.names name)))
      types = (
        λ name. option_and_then as_type (t.names name),
        refl,
        λ name.
            subst (λ n. IsMeant (numbers_of s h.functions) (option_map callee.User n) (option_and_then as_type (t.names name)))
            (all_before (named_lower s.names name) (lower_meaning t.names name) (h.names name)) (own s t h name).of_type,
      )

-- ENTRY has stood there
enters : (s : NumberedStyle) (t : SoFar) → SameSoFar s t → SameSoFar (with_item item.Entry (record s { has_entry = true })) (record t { has_entry = true })
enters s t h = with_parts s t h (s.items ++ item.Entry ∷ []) t.commands s.macros t.macros true true s.before_read t.types
    (no_more_command (numbers_of s h.functions) s.file s.items t.commands item.Entry h.commands refl) h.macros refl h.types h.behind

-- a further macro
adds_macro : (name text : List ℕ) (s : NumberedStyle) (t : SoFar) → SameSoFar s t
    → SameSoFar (with_item item.Macro (record s { macros = s.macros ++ (name, text) ∷ [] })) (record t { macros = t.macros ++ (name, text) ∷ [] })
adds_macro name text s t h =
    with_parts s t h (s.items ++ item.Macro ∷ []) t.commands (s.macros ++ (name, text) ∷ []) (t.macros ++ (name, text) ∷ []) s.has_entry t.has_entry
    s.before_read t.types (no_more_command (numbers_of s h.functions) s.file s.items t.commands item.Macro h.commands refl)
    (ap (λ (ms : List (List ℕ × List ℕ)). ms ++ (name, text) ∷ []) h.macros) h.has_entry h.types h.behind

pub behind_agree : (c : CommandName) → Agree (numbered.Behind c) (Arguments c)
behind_agree command.Entry =
    unless_agree _ _ _ _ _ (λ s t h. ap not h.has_entry)
    (lists_agree kind.Field _ _ (lists_agree kind.EntryInteger _ _ (lists_agree kind.EntryString _ _ (makes_agree Always _ _ (λ s t h w. enters s t h)))))
behind_agree command.Function = opened_agree Always _ _ (next_agree Always StyleNameHere _ _ (λ name.
    new_agree (λ s. named.named s.names name) (λ t. is_none (meaning t name)) (NameTaken name) _ _ (λ s t h. is_none_same s t h (folded name))
    (closed_agree (λ s t h. named_lower s.names (folded name) ≡ None) _ _
    (opened_agree (λ s t h. named_lower s.names (folded name) ≡ None) _ _ (body_agree name)))))
behind_agree command.Read =
    unless_agree _ _ _ _ _ (λ s t h. ap not (is_read_same s t h))
    (where_agree _ _ _ _ _ (λ s t h. h.has_entry) (makes_agree Always _ _ (λ s t h w. reads s t h)))
behind_agree command.Execute = executes_agree command.Execute item.Execute Execute (λ a file d. refl)
behind_agree command.Iterate = executes_agree command.Iterate item.Iterate Iterate (λ a file d. refl)
behind_agree command.Reverse = executes_agree command.Reverse item.Reverse Reverse (λ a file d. refl)
behind_agree command.Sort = where_agree _ _ _ _ _ is_read_same (makes_agree Always _ _ (λ s t h w. and_commands s t item.Sort (Sort ∷ []) h refl))
behind_agree command.Integers = lists_agree kind.GlobalInteger _ _ (makes_agree Always _ _ (λ s t h w. no_command s t item.Integers h refl))
behind_agree command.Strings = lists_agree kind.GlobalString _ _ (makes_agree Always _ _ (λ s t h w. no_command s t item.Strings h refl))
behind_agree command.Macro =
    unless_agree _ _ _ _ _ (λ s t h. ap not (is_read_same s t h)) (opened_agree Always _ _ (next_agree Always StyleNameHere _ _ (λ name.
    new_agree (λ s. macro_lower s.macros (folded name)) (λ t. is_none (lookup (bytes_eq (folded name)) t.macros)) (NameTaken name) _ _
    (λ s t h. ap (λ (ms : List (List ℕ × List ℕ)). is_none (lookup (bytes_eq (folded name)) ms)) h.macros)
    (closed_agree (λ s t h. macro_lower s.macros (folded name) ≡ None) _ _
    (opened_agree (λ s t h. macro_lower s.macros (folded name) ≡ None) _ _
    (next_agree (λ s t h. macro_lower s.macros (folded name) ≡ None) TextHere _ _ (λ text.
    closed_agree (λ s t h. macro_lower s.macros (folded name) ≡ None) _ _
    (makes_agree (λ s t h. macro_lower s.macros (folded name) ≡ None) _ _ (λ s t h w. adds_macro (folded name) text s t h)))))))))

-- a command by its word
pub word_agree : (letters : List ℕ) → Agree (numbered.Named letters) (in_names.CommandNamed letters)
word_agree letters s t p o h w (inl k) = let r = behind_agree k.0 s t p o h w k.2 in (r.0, inl (k.0, k.1, r.1), r.2)
word_agree letters s t p o h w (inr k) = (ended_at (Some (NotCommand letters)) t p, inr (k.0, refl), ends (Some (NotCommand letters)) s t p o h k.1)
