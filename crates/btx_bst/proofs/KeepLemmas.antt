-- What each command keeps, the style of a text has.
use Rattle.std.proofs.Common.{◌≡◌, ℕ, suc, Bool, true, false, cond, List, [], ◌∷◌, ◌++◌, length, refl, Option, Some, None}
use Rattle.btx_text.specs.language.Keys.{folded}
use Rattle.btx_bst.specs.declared.callee.Callee.{Callee}
use Rattle.btx_bst.specs.declared.callee.Kind.{Kind}
use Rattle.btx_bst.specs.declared.callee.Kind.TheVariants as kind
use Rattle.btx_bst.specs.declared.command.Command.{Command}
use Rattle.btx_bst.specs.declared.command.Command.TheVariants as command
use Rattle.btx_bst.specs.language.Places.{Place, ink, size}
use Rattle.btx_bst.specs.language.Complaints.{Complaint, Another, BeforeEntry, BeforeRead, AfterRead}
use Rattle.btx_bst.specs.language.Reads.{Read, Took, Mistake}
use Rattle.btx_bst.specs.language.Items.{Item}
use Rattle.btx_bst.specs.language.Items as item
use Rattle.btx_bst.specs.language.Names.{Names, named, with_name}
use Rattle.btx_bst.specs.language.Style.{Style}
use Rattle.btx_bst.specs.language.BodyText.{body_end}
use Rattle.btx_bst.specs.language.Turns.{Turn}
use Rattle.btx_bst.specs.language.Lists.{opening, closing, next_name, quoted_at, letters_at, list_at, Listing, listing, Listed, name_turn, list_turn_in}
use Rattle.btx_bst.specs.language.Lists.{list_turn, list_end}
use Rattle.btx_bst.specs.language.Lists.{list_read}
use Rattle.btx_bst.specs.language.Outcomes.{CommandOutcome, outcome, after_read, with_item}
use Rattle.btx_bst.specs.language.Commands.{after_list, entry_command, function_command, function_ended, has_read, read_command, run_command, run_of}
use Rattle.btx_bst.specs.language.Commands.{sort_command, declare, macro_command, function_in, command_at, command_named, after_listed, inside_at}
use Rattle.btx_bst.specs.language.StyleText.{StyleState, style_state, command_outcome, item_in, item_turn, style_from, style_of, resumed}
use Rattle.btx_bst.specs.language.Predefined.{predefined}
use Rattle.btx_bst.proofs.TurnLemmas.{OnTurn, turns-keep}
use Rattle.btx_bst.specs.refinement.Commands.{entry_lists, run_name, macro_name, function_of, macro_of}
use Rattle.btx_bst.specs.refinement.StyleText.{style_so_far, word_outcome}
use Rattle.btx_bst.specs.refinement.Lists.{unlisted, with_new}
use Rattle.btx_bst.specs.laws.StyleText.{unread_style}
use Rattle.btx_bst.specs.laws.Names.{macro_lower}
use Rattle.btx_bst.specs.laws.Places.{beginning}

-- kept by a further item
abbrev pub OnItem : (Style → Type 0) → Item → Type 0
OnItem P item = (s : Style) → P s → P (with_item item s)

-- kept by a further item that executes a function
abbrev pub OnRun : (Style → Type 0) → (Callee → Item) → Type 0
OnRun P make = (s : Style) (name : List ℕ) (c : Callee) → has_read s ≡ true → function_in (named s.names name) ≡ Some c → P s → P (with_item (make c) s)

-- kept by each change
pub record Keeps (P : Style → Type 0) : Type 0 where
  pub on_message : (c : Complaint) (line : ℕ) → OnItem P (item.Message c line)
  pub on_names : (s : Style) (kind : Kind) (p : Place) → P s → P (record s { names = (list_at kind s.names p).listing.names })
  pub on_entry : (s : Style) → s.has_entry ≡ false → P s → P (with_item item.Entry (record s { has_entry = true }))
  pub on_read : (s : Style) → s.has_entry ≡ true → has_read s ≡ false → P s → P (with_item item.Read (record s { before_read = Some (length s.bodies) }))
  pub on_function : (s : Style) (name : List ℕ) (p : Place) → named s.names name ≡ None → P s
      → P (function_ended s (folded name) (body_end s.names (inside_at s p))).style
  pub on_execute : OnRun P item.Execute
  pub on_iterate : OnRun P item.Iterate
  pub on_reverse : OnRun P item.Reverse
  pub on_sort : (s : Style) → has_read s ≡ true → P s → P (with_item item.Sort s)
  pub on_integers : OnItem P item.Integers
  pub on_strings : OnItem P item.Strings
  pub on_macro : (s : Style) (name text : List ℕ) → has_read s ≡ false → macro_lower s.macros (folded name) ≡ None → P s
      → P (with_item item.Macro (record s { macros = s.macros ++ (folded name, text) ∷ [] }))

after : {A : Type 0} (P : Style → Type 0) (s : Style) (r : Read A) (go : A → Place → CommandOutcome) → P s → ((x : A) (p : Place) → P (go x p).style)
    → P (after_read s r go).style
after P s (Took x p) go h k = k x p
after P s (Mistake c p) go h k = h

listed_after : (P : Style → Type 0) (c : Option Complaint) (s : Style) (p : Place) (go : Style → Place → CommandOutcome) → P s → P (go s p).style
    → P (after_listed c s p go).style
listed_after P None s p go h k = k
listed_after P (Some c) s p go h k = h

list_after : (P : Style → Type 0) → Keeps P → (s : Style) (kind : Kind) (p : Place) (go : Style → Place → CommandOutcome) → P s
    → ((t : Style) (q : Place) → t.has_entry ≡ s.has_entry → P t → P (go t q).style) → P (after_list s (list_at kind s.names p) go).style
list_after P keeps s kind p go h k =
    let l = list_at kind s.names p in
    let t : Style = record s { names = l.listing.names } in
    let f : P t = keeps.on_names s kind p h in
    listed_after P l.complaint t l.listing.place go f (k t l.listing.place refl f)

kept_entry : (P : Style → Type 0) → Keeps P → (s : Style) (p : Place) → P s → P (entry_command s p).style
unfolding entry_command
kept_entry P keeps s p h = at s.has_entry refl where
  at : (t : Bool) → s.has_entry ≡ t → P (cond t (outcome (Some (Another command.Entry)) s p) (entry_lists s p)).style
  at true e = h
  at false e =
      list_after P keeps s kind.Field p _ h (λ t q a f.
      list_after P keeps t kind.EntryInteger q _ f (λ u r b g.
      list_after P keeps u kind.EntryString r _ g (λ v z c i.
      keeps.on_entry v (rw (c, b, a) e) i)))

kept_function_of : (P : Style → Type 0) → Keeps P → (s : Style) (name : List ℕ) (p : Place) (o : Option Callee) → named s.names name ≡ o → P s
    → P (function_of s name p o).style
kept_function_of P keeps s name p (Some other) e h = h
kept_function_of P keeps s name p None e h =
    after P s (closing p) _ h (λ x q.
    after P s (opening q) _ h (λ x r. keeps.on_function s name r e h))

kept_function : (P : Style → Type 0) → Keeps P → (s : Style) (p : Place) → P s → P (function_command s p).style
unfolding function_command
kept_function P keeps s p h =
    after P s (opening p) _ h (λ x q.
    after P s (next_name q) _ h (λ name r. kept_function_of P keeps s name r (named s.names name) refl h))

kept_read : (P : Style → Type 0) → Keeps P → (s : Style) (p : Place) → P s → P (read_command s p).style
unfolding read_command
kept_read P keeps s p h = at (has_read s) s.has_entry refl refl where
  at : (t u : Bool) → has_read s ≡ t → s.has_entry ≡ u
      → P (cond t (outcome (Some (Another command.Read)) s p)
      (cond u (outcome None (with_item item.Read (record s { before_read = Some (length s.bodies) })) p) (outcome (Some BeforeEntry) s p))).style
  at true u e f = h
  at false true e f = keeps.on_read s f e h
  at false false e f = h

kept_run_of : (P : Style → Type 0) (make : Callee → Item) → OnRun P make → (s : Style) (name : List ℕ) (p : Place) (o : Option Callee) → has_read s ≡ true
    → function_in (named s.names name) ≡ o → P s → P (run_of make s name p o).style
kept_run_of P make each s name p None r e h = h
kept_run_of P make each s name p (Some c) r e h = after P s (closing p) _ h (λ x q. each s name c r e h)

kept_run : (P : Style → Type 0) (c : Command) (make : Callee → Item) → OnRun P make → (s : Style) (p : Place) → P s → P (run_command c make s p).style
unfolding run_command
kept_run P c make each s p h = at (has_read s) refl where
  at : (t : Bool) → has_read s ≡ t → P (cond t (run_name make s p) (outcome (Some (BeforeRead c)) s p)).style
  at true e =
      after P s (opening p) _ h (λ x q.
      after P s (next_name q) _ h (λ name r. kept_run_of P make each s name r (function_in (named s.names name)) e refl h))
  at false e = h

kept_sort : (P : Style → Type 0) → Keeps P → (s : Style) (p : Place) → P s → P (sort_command s p).style
unfolding sort_command
kept_sort P keeps s p h = at (has_read s) refl where
  at : (t : Bool) → has_read s ≡ t → P (cond t (outcome None (with_item item.Sort s) p) (outcome (Some (BeforeRead command.Sort)) s p)).style
  at true e = keeps.on_sort s e h
  at false e = h

kept_declare : (P : Style → Type 0) → Keeps P → (kind : Kind) (i : Item) → OnItem P i → (s : Style) (p : Place) → P s → P (declare kind i s p).style
unfolding declare
kept_declare P keeps kind i each s p h = list_after P keeps s kind p _ h (λ t q e f. each t f)

kept_macro_of : (P : Style → Type 0) → Keeps P → (s : Style) (name : List ℕ) (p : Place) (o : Option (List ℕ)) → has_read s ≡ false
    → macro_lower s.macros (folded name) ≡ o → P s → P (macro_of s name p o).style
kept_macro_of P keeps s name p (Some other) unread e h = h
kept_macro_of P keeps s name p None unread e h =
    after P s (closing p) _ h (λ x q.
    after P s (opening q) _ h (λ x r.
    after P s (quoted_at r) _ h (λ text t.
    after P s (closing t) _ h (λ x u. keeps.on_macro s name text unread e h))))

kept_macro : (P : Style → Type 0) → Keeps P → (s : Style) (p : Place) → P s → P (macro_command s p).style
unfolding macro_command
kept_macro P keeps s p h = at (has_read s) refl where
  at : (t : Bool) → has_read s ≡ t → P (cond t (outcome (Some AfterRead) s p) (macro_name s p)).style
  at true e = h
  at false e =
      after P s (opening p) _ h (λ x q.
      after P s (next_name q) _ h (λ name r. kept_macro_of P keeps s name r (macro_lower s.macros (folded name)) e refl h))

kept_command : (P : Style → Type 0) → Keeps P → (c : Command) (s : Style) (p : Place) → P s → P (command_at c s p).style
kept_command P keeps command.Entry s p h = kept_entry P keeps s p h
kept_command P keeps command.Function s p h = kept_function P keeps s p h
kept_command P keeps command.Read s p h = kept_read P keeps s p h
kept_command P keeps command.Execute s p h = kept_run P command.Execute item.Execute keeps.on_execute s p h
kept_command P keeps command.Iterate s p h = kept_run P command.Iterate item.Iterate keeps.on_iterate s p h
kept_command P keeps command.Reverse s p h = kept_run P command.Reverse item.Reverse keeps.on_reverse s p h
kept_command P keeps command.Sort s p h = kept_sort P keeps s p h
kept_command P keeps command.Integers s p h = kept_declare P keeps kind.GlobalInteger item.Integers keeps.on_integers s p h
kept_command P keeps command.Strings s p h = kept_declare P keeps kind.GlobalString item.Strings keeps.on_strings s p h
kept_command P keeps command.Macro s p h = kept_macro P keeps s p h

kept_word : (P : Style → Type 0) → Keeps P → (s : Style) (p : Place) (word : List ℕ) (o : Option Command) → P s → P (word_outcome s p word o).style
kept_word P keeps s p word None h = h
kept_word P keeps s p word (Some c) h = kept_command P keeps c s p h

kept_resumed : (P : Style → Type 0) → Keeps P → (c : Option Complaint) (s : Style) (p : Place) → P s → P (resumed c s p).style
kept_resumed P keeps None s p h = h
kept_resumed P keeps (Some c) s p h = keeps.on_message c p.number s h

kept_outcome : (P : Style → Type 0) → Keeps P → (s : Style) (p : Place) → P s → P (command_outcome s p).style
kept_outcome P keeps s p h = after P s (letters_at p) _ h (λ word q. kept_word P keeps s q word (command_named (folded word)) h)

kept_item : (P : Style → Type 0) → Keeps P → (s : Style) (p : Place) (line : List ℕ) → P s → OnTurn (λ (t : StyleState). P t.style) P (item_in s p line)
kept_item P keeps s p [] h = h
kept_item P keeps s p (b ∷ bs) h =
    let o = command_outcome s p in kept_resumed P keeps o.complaint o.style o.place (kept_outcome P keeps s p h)

pub kept-style : (P : Style → Type 0) → Keeps P → (file text : List ℕ) → P (unread_style file predefined) → P (style_of file text)
unfolding style_of style_from item_turn
kept-style P keeps file text h =
    let s : StyleState = style_state (unread_style file predefined) (beginning text) in
    turns-keep (λ (t : StyleState). P t.style) P item_turn style_so_far (λ t k. kept_item P keeps t.style (ink t.place) (ink t.place).line k) (λ t k. k)
    (suc (size s.place)) s h

-- ---- lists of names

abbrev KeptTurn : (Names → Type 0) → Turn Listing Listed → Type 0
KeptTurn P t = OnTurn (λ s. P s.names) (λ r. P r.listing.names) t

-- what each new name keeps
abbrev pub KeepsNames : (Names → Type 0) → Type 0
KeepsNames P = (k : Kind) (a : Names) (name : List ℕ) → named a name ≡ None → P a → P (with_name k (folded name) a)

names_new : (P : Names → Type 0) → KeepsNames P → (k : Kind) (a : Names) (name : List ℕ) (p : Place) (o : Option Callee) → named a name ≡ o → P a
    → KeptTurn P (with_new k a name p o)
names_new P each k a name p None new h = each k a name new h
names_new P each k a name p (Some other) new h = h

names_read : (P : Names → Type 0) → KeepsNames P → (k : Kind) (a : Names) (r : Read (List ℕ)) → P a → KeptTurn P (name_turn k a r)
names_read P each k a (Mistake c p) h = h
names_read P each k a (Took name p) h = names_new P each k a name p (named a name) refl h

names_turn : (P : Names → Type 0) → KeepsNames P → (k : Kind) (a : Names) (r : Read (Unit {0})) → P a → KeptTurn P (list_turn_in k a r)
names_turn P each k a (Took x p) h = h
names_turn P each k a (Mistake c p) h = names_read P each k a (next_name p) h

names_end : (P : Names → Type 0) → KeepsNames P → (k : Kind) (s : Listing) → P s.names → P (list_end k s).listing.names
unfolding list_end list_turn
names_end P each k s h =
    turns-keep (λ u. P u.names) (λ r. P r.listing.names) (list_turn k) unlisted
    (λ u f. names_turn P each k u.names (closing u.place) f) (λ u f. f) (suc (size s.place)) s h

-- the list keeps
pub kept_list : (P : Names → Type 0) → KeepsNames P → (k : Kind) (a : Names) (r : Read (Unit {0})) → P a → P (list_read k a r).listing.names
kept_list P each k a (Mistake c p) h = h
kept_list P each k a (Took x p) h = names_end P each k (listing a p) h
