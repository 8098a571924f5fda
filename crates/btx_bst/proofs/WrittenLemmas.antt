-- A style that is written without a fault is read as what its commands do.
use Rattle.std.proofs.Common.{◌≡◌, ℕ, ◌+◌, ◌==◌, Bool, true, false, cond, List, [], ◌∷◌, ◌++◌, length, map, refl, sym, ap, ◌∙◌, append_assoc, append-nil}
use Rattle.std.proofs.Common.{Option, None, Some}
use Rattle.std.proofs.lemmas.Bool.{eqb-true}
use Rattle.std.proofs.lemmas.List.{map-append}
use Rattle.btx_text.specs.language.Class.{is_white}
use Rattle.btx_text.specs.language.Keys.{folded}
use Rattle.btx_bst.specs.declared.callee.Callee.{Callee}
use Rattle.btx_bst.specs.declared.callee.Kind.{Kind}
use Rattle.btx_bst.specs.declared.callee.Kind.TheVariants as kind
use Rattle.btx_bst.specs.declared.command.Command.{Command}
use Rattle.btx_bst.specs.declared.command.Command.TheVariants as command
use Rattle.btx_bst.specs.declared.token.Token.{Token}
use Rattle.btx_bst.specs.declared.token.Token.TheVariants.{Quote, Run}
use Rattle.btx_bst.specs.language.Places.{Place, place_at, further, ink, ink_from, behind_white, line_or}
use Rattle.btx_bst.specs.language.Complaints.{NoCommand, NoClose, Another, BeforeEntry, BeforeRead, AfterRead}
use Rattle.btx_bst.specs.language.Reads.{Read as OneRead, Took, Mistake}
use Rattle.btx_bst.specs.language.Items as item
use Rattle.btx_bst.specs.language.Items.{Item}
use Rattle.btx_bst.specs.language.Fronts.{len_till}
use Rattle.btx_bst.specs.language.Words as words
use Rattle.btx_bst.specs.language.Words.{BodyWord}
use Rattle.btx_bst.specs.language.Names.{Names, named, with_name}
use Rattle.btx_bst.specs.language.Style.{Style}
use Rattle.btx_bst.specs.language.Turns.{Again, Ends}
use Rattle.btx_bst.specs.language.Lists.{brace_in, opening, closing, front_of, name_in, next_name, letters_at, listing, Listed, listed, name_turn, list_turn_in}
use Rattle.btx_bst.specs.language.Lists.{list_turn, list_end, list_read, list_at}
use Rattle.btx_bst.specs.language.Outcomes.{CommandOutcome, outcome, after_read, with_item}
use Rattle.btx_bst.specs.language.Commands.{after_list, entry_command, function_ended, function_command, read_command, run_of, run_command, sort_command}
use Rattle.btx_bst.specs.language.Commands.{declare, macro_command, command_at}
use Rattle.btx_bst.specs.language.StyleText.{StyleState, command_outcome}
use Rattle.btx_bst.specs.laws.Spelling.{Parts, Nothing, Plain, Group, Made, made_named, made_word, nameless_begun, nameless_defined, made_by}
use Rattle.btx_bst.specs.laws.Written.{Written, Entry, Function, Read, Execute, Iterate, Reverse, Sort, Integers, Strings, Macro, command_written, SpellsNames}
use Rattle.btx_bst.specs.laws.Written.{SpellsList, SpellsName, SpellsArguments, SpellsCommand, AreNew, declared, IsGoodWord, IsGoodBody, made_in}
use Rattle.btx_bst.specs.laws.Written.{ExecutesFunction, MakesStyle, WrittenLaw, item_command, FaultlessLaw}
use Rattle.btx_bst.proofs.ListLemmas.{list_end-again, list_end-ends}
use Rattle.btx_bst.proofs.StyleLemmas.{style_from-again}
use Rattle.btx_bst.proofs.SpellingLemmas.{spelled}
use Rattle.btx_bst.proofs.ItemSpellingLemmas.{given, more_turn}
use Rattle.btx_bst.specs.refinement.Commands.{entry_lists, run_name, macro_name, function_of, macro_of}
use Rattle.btx_bst.specs.refinement.Fronts.{letters_len}
use Rattle.btx_bst.specs.refinement.StyleText.{word_outcome}
use Rattle.btx_bst.specs.refinement.Lists.{with_new}

-- ---- whitespace

white_twice : (line : List ℕ) → behind_white (behind_white line) ≡ behind_white line
unfolding behind_white
white_twice [] = refl
white_twice (b ∷ bs) = at (is_white b) (b == 37) refl refl (white_twice bs) where
  at : (t u : Bool) → is_white b ≡ t → (b == 37) ≡ u → behind_white (behind_white bs) ≡ behind_white bs
      → behind_white (cond t (behind_white bs) (cond u [] (b ∷ bs))) ≡ cond t (behind_white bs) (cond u [] (b ∷ bs))
  at true u e f h = h
  at false true e f h = refl
  at false false e f h = ap (λ (t : Bool). cond t (behind_white bs) (cond (b == 37) [] (b ∷ bs))) e ∙ ap (λ (t : Bool). cond t [] (b ∷ bs)) f

ink_twice_at : (n : ℕ) (line : List ℕ) (next : List ℕ) (after : List (List ℕ)) (later : Place) → behind_white line ≡ line → ink later ≡ later
    → ink (line_or n line (next ∷ after) later) ≡ line_or n line (next ∷ after) later
unfolding ink_from
ink_twice_at n [] next after later e f = f
ink_twice_at n (b ∷ bs) next after later e f = ap (λ (x : List ℕ). line_or n x (next ∷ after) (ink_from (n + 1) next after)) e

ink_from_twice : (n : ℕ) (line : List ℕ) (after : List (List ℕ)) → ink (ink_from n line after) ≡ ink_from n line after
unfolding ink_from
ink_from_twice n line [] = ap (λ (x : List ℕ). place_at n x []) (white_twice line)
ink_from_twice n line (next ∷ after) = ink_twice_at n (behind_white line) next after (ink_from (n + 1) next after) (white_twice line)
    (ink_from_twice (n + 1) next after)

pub ink_twice : (p : Place) → ink (ink p) ≡ ink p
ink_twice p = ink_from_twice p.number p.line p.after

-- ---- lists of names

brace_no_name : (p q : Place) (b : ℕ) (bs name : List ℕ) → b ≡ 125 → name_in p (b ∷ bs) ≡ Took name q → ⊥
unfolding len_till
brace_no_name p q b bs name e h = let g : name_in p (125 ∷ bs) ≡ Took name q = rw e at h in absurd (cc)

-- where a name stands, no `}` does
pub name_no_brace : (p q : Place) (line name : List ℕ) → name_in p line ≡ Took name q → brace_in 125 NoClose p line ≡ Mistake NoClose p
name_no_brace p q [] name e = absurd (cc)
name_no_brace p q (b ∷ bs) name e = at (b == 125) refl where
  at : (t : Bool) → (b == 125) ≡ t → cond {A = OneRead (Unit {0})} t (Took tt (further p bs)) (Mistake NoClose p) ≡ Mistake NoClose p
  at true f = absurd (brace_no_name p q b bs name (eqb-true b 125 f) e)
  at false f = refl

pub listed_name : (k : Kind) (known : Names) (name : List ℕ) (p q : Place) → next_name p ≡ Took name q → named known name ≡ None → list_turn k (listing known p)
    ≡ Again (listing (with_name k (folded name) known) q)
unfolding list_turn
listed_name k known name p q e f =
    ap (list_turn_in k known) (name_no_brace (ink p) q (ink p).line name e)
    ∙ ap (λ (r : Place). name_turn k known (name_in r r.line)) (ink_twice p)
    ∙ ap (name_turn k known) e ∙ ap (with_new k known name q) f

list_closed : (k : Kind) (known : Names) (p q : Place) → closing p ≡ Took tt q → list_turn k (listing known p) ≡ Ends (listed None known q)
unfolding list_turn
list_closed k known p q e = ap (list_turn_in k known) e

names_listed : (k : Kind) (names : List (List ℕ)) (known : Names) (p q : Place) → SpellsNames names p q → AreNew k names known → list_end k (listing known p)
    ≡ listed None (declared k names known) q
names_listed k [] known p q h g = list_end-ends k (listing known p) (listed None known q) (list_closed k known p q h)
names_listed k (name ∷ names) known p q h g =
    list_end-again k (listing known p) (listing (with_name k (folded name) known) h.0) (listed_name k known name p h.0 h.1 g.0)
    ∙ names_listed k names (with_name k (folded name) known) h.0 q h.2 g.1

list_listed : (k : Kind) (names : List (List ℕ)) (known : Names) (p q : Place) → SpellsList names p q → AreNew k names known
    → list_at k known p ≡ listed None (declared k names known) q
list_listed k names known p q h g = ap (list_read k known) h.1 ∙ names_listed k names known h.0 q h.2 g

after_listed_names : (k : Kind) (names : List (List ℕ)) (style : Style) (p q : Place) (go : Style → Place → CommandOutcome) → SpellsList names p q
    → AreNew k names style.names → after_list style (list_at k style.names p) go ≡ go (record style { names = declared k names style.names }) q
after_listed_names k names style p q go h g = ap (λ (l : Listed). after_list style l go) (list_listed k names style.names p q h g)

took : {A : Type 0} (style : Style) (r : OneRead A) (x : A) (p : Place) (go : A → Place → CommandOutcome) → r ≡ Took x p → after_read style r go ≡ go x p
took style r x p go e = ap (λ (s : OneRead _). after_read style s go) e

-- ---- commands

entry_does : (fields integers strings : List (List ℕ)) (style end : Style) (p q : Place) → SpellsArguments (Entry fields integers strings) p q
    → MakesStyle (Entry fields integers strings) style end → entry_command style p ≡ outcome None end q
unfolding entry_command
entry_does fields integers strings style end p q h d =
    let first = declared kind.Field fields style.names in
    let second = declared kind.EntryInteger integers first in
    ap (λ (t : Bool). cond t (outcome (Some (Another command.Entry)) style p) (entry_lists style p)) d.0
    ∙ after_listed_names kind.Field fields style p h.0 _ h.2 d.1
    ∙ after_listed_names kind.EntryInteger integers (record style { names = first }) h.0 h.1 _ h.3 d.2
    ∙ after_listed_names kind.EntryString strings (record style { names = second }) h.1 q _ h.4 d.3
    ∙ ap (λ (s : Style). outcome None s q) d.4

named_does : (name : List ℕ) (style : Style) (p q : Place) (go : List ℕ → Place → CommandOutcome) (o : CommandOutcome) → (h : SpellsName name p q)
    → go name h.1 ≡ o → after_read style (opening p) (λ _ r. after_read style (next_name r) go) ≡ o
named_does name style p q go o h e = took style (opening p) tt h.0 _ h.2 ∙ took style (next_name h.0) name h.1 go h.3 ∙ e

function_does : (name : List ℕ) (body : Parts) (style end : Style) (p q : Place) → SpellsArguments (Function name body) p q
    → MakesStyle (Function name body) style end → function_command style p ≡ outcome None end q
unfolding function_command
function_does name body style end p q h d =
    let n = h.1 in
    let b = h.2 in
    named_does name style p h.0 _ _ n
    (ap (function_of style name n.1) d.0 ∙ took style (closing n.1) tt h.0 _ n.4 ∙ took style (opening h.0) tt b.0 _ b.1
    ∙ ap (function_ended style (folded name)) (spelled style.names body b.0 q (made_in style) b.2)
    ∙ ap (λ (s : Style). outcome None s q) d.2)

read_does : (style end : Style) (p q : Place) → p ≡ q → MakesStyle Read style end → read_command style p ≡ outcome None end q
unfolding read_command
read_does style end p q h d =
    let taken = with_item item.Read (record style { before_read = Some (length style.bodies) }) in
    ap (λ (t : Bool). cond t (outcome (Some (Another command.Read)) style p) (cond style.has_entry (outcome None taken p) (outcome (Some BeforeEntry) style p)))
    d.0
    ∙ ap (λ (t : Bool). cond t (outcome None taken p) (outcome (Some BeforeEntry) style p)) d.1
    ∙ ap (λ (s : Style). outcome None s p) d.2 ∙ ap (outcome None end) h

run_does : (c : Command) (make : Callee → Item) (name : List ℕ) (style end : Style) (p q : Place) → SpellsName name p q → ExecutesFunction make name style end
    → run_command c make style p ≡ outcome None end q
unfolding run_command
run_does c make name style end p q h d =
    ap (λ (t : Bool). cond t (run_name make style p) (outcome (Some (BeforeRead c)) style p)) d.1
    ∙ named_does name style p q _ _ h
    (ap (run_of make style name h.1) d.2 ∙ took style (closing h.1) tt q _ h.4 ∙ ap (λ (s : Style). outcome None s q) d.3)

sort_does : (style end : Style) (p q : Place) → p ≡ q → MakesStyle Sort style end → sort_command style p ≡ outcome None end q
unfolding sort_command
sort_does style end p q h d =
    ap (λ (t : Bool). cond t (outcome None (with_item item.Sort style) p) (outcome (Some (BeforeRead command.Sort)) style p)) d.0
    ∙ ap (λ (s : Style). outcome None s p) d.1 ∙ ap (outcome None end) h

declare_does : (k : Kind) (i : Item) (names : List (List ℕ)) (style end : Style) (p q : Place) → SpellsList names p q → AreNew k names style.names
    → with_item i (record style { names = declared k names style.names }) ≡ end → declare k i style p ≡ outcome None end q
unfolding declare
declare_does k i names style end p q h g e = after_listed_names k names style p q _ h g ∙ ap (λ (s : Style). outcome None s q) e

macro_does : (name text : List ℕ) (style end : Style) (p q : Place) → SpellsArguments (Macro name text) p q → MakesStyle (Macro name text) style end
    → macro_command style p ≡ outcome None end q
unfolding macro_command
macro_does name text style end p q h d =
    let n = h.1 in
    let t = h.2 in
    ap (λ (b : Bool). cond b (outcome (Some AfterRead) style p) (macro_name style p)) d.0
    ∙ named_does name style p h.0 _ _ n
    (ap (macro_of style name n.1) d.1 ∙ took style (closing n.1) tt h.0 _ n.4 ∙ took style (opening h.0) tt t.0 _ t.2 ∙ took style _ text t.1 _ t.3
    ∙ took style (closing t.1) tt q _ t.4 ∙ ap (λ (s : Style). outcome None s q) d.2)

command_does : (w : Written) (style end : Style) (p q : Place) → SpellsArguments w p q → MakesStyle w style end → command_at (command_written w) style p
    ≡ outcome None end q
command_does (Entry fields integers strings) style end p q h d = entry_does fields integers strings style end p q h d
command_does (Function name body) style end p q h d = function_does name body style end p q h d
command_does Read style end p q h d = read_does style end p q h d
command_does (Execute name) style end p q h d = run_does command.Execute item.Execute name style end p q h d
command_does (Iterate name) style end p q h d = run_does command.Iterate item.Iterate name style end p q h d
command_does (Reverse name) style end p q h d = run_does command.Reverse item.Reverse name style end p q h d
command_does Sort style end p q h d = sort_does style end p q h d
command_does (Integers names) style end p q h d = declare_does kind.GlobalInteger item.Integers names style end p q h d.0 d.1
command_does (Strings names) style end p q h d = declare_does kind.GlobalString item.Strings names style end p q h d.0 d.1
command_does (Macro name text) style end p q h d = macro_does name text style end p q h d

written_command : (w : Written) (style end : Style) (p q : Place) → SpellsCommand w p q → MakesStyle w style end → command_outcome style (ink p)
    ≡ outcome None end q
written_command w style end p q h d =
    took style (letters_at (ink p)) h.0 h.1 _ h.2 ∙ ap (word_outcome style h.1 h.0) h.3 ∙ command_does w style end h.1 q h.4 d

-- where a word stands, the text doesn't end
front_no_end : (p q : Place) (line word : List ℕ) → front_of NoCommand p line (letters_len line) ≡ Took word q → line ≡ [] → ⊥
unfolding len_till
front_no_end p q [] word e h = absurd (cc)
front_no_end p q (b ∷ bs) word e h = absurd (cc)

word_no_end : (p q : Place) (word : List ℕ) → letters_at p ≡ Took word q → p.line ≡ [] → ⊥
word_no_end p q word e h = front_no_end p q p.line word e h

pub written : WrittenLaw
written [] from end h = given [] from end h
written (w ∷ more) from end h =
    let t : StyleState = h.0 in
    let s = h.1 in
    style_from-again from t (more_turn from (outcome None t.style t.place) (word_no_end (ink from.place) s.1 s.0 s.2)
    (written_command w from.style t.style from.place t.place s h.2))
    ∙ written more t end h.3

-- ---- no message

good_named : (token : Callee → Token) (line : ℕ) (name : List ℕ) (o : Option Callee) (c : Callee) (m : Made) → o ≡ Some c
    → (made_named token line name o m).items ≡ m.items
good_named token line name None c m e = absurd (cc)
good_named token line name (Some d) c m e = refl

good_word : (known : Names) (line : ℕ) (w : BodyWord) (m : Made) → IsGoodWord known w → (made_word known line w m).items ≡ m.items
good_word known line (words.String text) m g = refl
good_word known line (words.Integer value) m g = refl
good_word known line (words.Quoted name) m g = good_named Quote line name (named known name) g.0 m g.1
good_word known line (words.Name name) m g = good_named Run line name (named known name) g.0 m g.1
good_word known line (words.Faulty c) m g = absurd g
good_word known line words.Open m g = refl
good_word known line words.Close m g = refl
good_word known line words.Unended m g = refl
good_word known line words.Ended m g = refl

good_body : (known : Names) (body : Parts) (m : Made) → IsGoodBody known body → (made_by known body m).items ≡ m.items
unfolding made_by
good_body known Nothing m g = refl
good_body known (Plain line w more) m g = good_body known more (made_word known line w m) g.1 ∙ good_word known line w m g.0
good_body known (Group inside more) m g =
    good_body known more (nameless_defined m.tokens (made_by known inside (nameless_begun m))) g.1 ∙ good_body known inside (nameless_begun m) g.0

abbrev Kinds : Type 0
Kinds = List (Option Command)

kinds_push : (is : List Item) (x : Item) → map item_command (is ++ x ∷ []) ≡ map item_command is ++ item_command x ∷ []
kinds_push is x = map-append item_command is (x ∷ [])

-- an item more, of this kind
pushed : (x : Item) (is : List Item) (end : Style) (js : List Item) → js ≡ is ++ x ∷ [] → end.items ≡ js → map item_command end.items ≡ map item_command is
    ++ item_command x ∷ []
pushed x is end js e f = ap (map item_command) (f ∙ e) ∙ kinds_push is x

does_kind : (w : Written) (style end : Style) → MakesStyle w style end → map item_command end.items ≡ map item_command style.items ++ Some (command_written w)
    ∷ []
does_kind (Entry fields integers strings) style end d = pushed item.Entry style.items end _ refl (ap (λ (s : Style). s.items) (sym d.4))
does_kind (Function name body) style end d =
    ap (λ (s : Style). map item_command s.items) (sym d.2) ∙ kinds_push (made_by style.names body (made_in style)).items (item.Function _)
    ∙ ap (λ (is : List Item). map item_command is ++ Some command.Function ∷ []) (good_body style.names body (made_in style) d.1)
does_kind Read style end d = pushed item.Read style.items end _ refl (ap (λ (s : Style). s.items) (sym d.2))
does_kind (Execute name) style end d = pushed (item.Execute d.0) style.items end _ refl (ap (λ (s : Style). s.items) (sym d.3))
does_kind (Iterate name) style end d = pushed (item.Iterate d.0) style.items end _ refl (ap (λ (s : Style). s.items) (sym d.3))
does_kind (Reverse name) style end d = pushed (item.Reverse d.0) style.items end _ refl (ap (λ (s : Style). s.items) (sym d.3))
does_kind Sort style end d = pushed item.Sort style.items end _ refl (ap (λ (s : Style). s.items) (sym d.1))
does_kind (Integers names) style end d = pushed item.Integers style.items end _ refl (ap (λ (s : Style). s.items) (sym d.1))
does_kind (Strings names) style end d = pushed item.Strings style.items end _ refl (ap (λ (s : Style). s.items) (sym d.1))
does_kind (Macro name text) style end d = pushed item.Macro style.items end _ refl (ap (λ (s : Style). s.items) (sym d.2))

pub faultless : FaultlessLaw
faultless [] from end h = ap (λ (s : Style). map item_command s.items) (sym h.1) ∙ sym (append-nil (map item_command from.style.items))
faultless (w ∷ more) from end h =
    let t : StyleState = h.0 in
    let rest = map (λ (x : Written). Some (command_written x)) more in
    faultless more t end h.3 ∙ ap (λ (xs : Kinds). xs ++ rest) (does_kind w from.style t.style h.2)
    ∙ append_assoc (map item_command from.style.items) (Some (command_written w) ∷ []) rest

pub ruleset written_laws = (written, faultless)
