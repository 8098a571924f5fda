-- What a command is spelled like is what it is read as.
use Rattle.std.proofs.Common.{◌≡◌, ℕ, zero, suc, ◌+◌, ◌<◌, ◌==◌, Bool, true, false, cond, List, [], ◌∷◌, ◌++◌, length, refl, sym, ap, ◌∙◌, arith, ◌⊎◌, inl, inr}
use Rattle.std.proofs.Common.{Option, Some, None}
use Rattle.std.specs.Prelude.{◌||◌, codes}
use Rattle.std.specs.Str.{bytes_eq}
use Rattle.std.proofs.lemmas.Slice.Eq.{bytes_eq-Decides}
use Rattle.btx_text.specs.language.Class.{begins_name}
use Rattle.btx_text.specs.language.Keys.{folded}
use Rattle.btx_bst.specs.declared.callee.Callee.{Callee}
use Rattle.btx_bst.specs.declared.callee.Kind.{Kind}
use Rattle.btx_bst.specs.declared.callee.Kind.TheVariants as kind
use Rattle.btx_bst.specs.declared.command.Command.{Command}
use Rattle.btx_bst.specs.declared.command.Command.TheVariants as command
use Rattle.btx_bst.specs.language.Places.{Place, place_at, further, ink, size, skipped, skipped_from}
use Rattle.btx_bst.specs.language.Complaints.{Complaint, NoOpen, NoClose, NoName, Defined, Unknown, Another, BeforeRead, BeforeEntry, AfterRead, EndOfFile}
use Rattle.btx_bst.specs.language.Reads.{Read, Took, Mistake}
use Rattle.btx_bst.specs.language.Items as item
use Rattle.btx_bst.specs.language.Items.{Item}
use Rattle.btx_bst.specs.language.CommandWords.{command_word_of}
use Rattle.btx_bst.specs.language.Names.{Names, named, with_name}
use Rattle.btx_bst.specs.language.Style.{Style}
use Rattle.btx_bst.specs.language.Turns.{Ends}
use Rattle.btx_bst.specs.language.Lists.{brace_in, opening, closing, name_in, next_name, quoted_in, quoted_at, letters_at, listing, Listed, listed, name_turn}
use Rattle.btx_bst.specs.language.Lists.{list_turn_in, list_turn, list_end, list_read, list_at}
use Rattle.btx_bst.specs.language.BodyText.{BodyEnd, Whole, Broken, body_end}
use Rattle.btx_bst.specs.language.Outcomes.{CommandOutcome, outcome, after_read, with_item}
use Rattle.btx_bst.specs.language.Commands.{after_list, entry_command, function_command, function_ended, has_read, read_command, run_command, run_of}
use Rattle.btx_bst.specs.language.Commands.{sort_command, declare, macro_command, function_in, command_at, command_named, after_listed, inside_at}
use Rattle.btx_bst.specs.language.Predefined.{predefined}
use Rattle.btx_bst.specs.language.StyleText.{StyleState, style_state, command_outcome, style_from, style_of, resumed}
use Rattle.btx_bst.specs.laws.Spelling.{complaint_in, made_by, made_till, Division, IsBroken}
use Rattle.btx_bst.specs.laws.ItemSpelling.{AreFull, IsEnd}
use Rattle.btx_bst.specs.laws.Written.{AreNew, declared, made_in, with_made_function}
use Rattle.btx_bst.specs.laws.TokenSpelling.{Gap, BehindGap, IsMissing, StyleSignHere, StyleNameHere, TextHere, LettersHere}
use Rattle.btx_bst.specs.laws.CommandSpelling.{Rule, AndThen, Opened, Closed, Where, Unless, New, HasMeaning, Makes, AreNames, is_list_byte, EndsList, InList}
use Rattle.btx_bst.specs.laws.CommandSpelling.{Lists, HasBody, Executes, Behind, IsWordOf, Named, CommandHere, Skips, GoesOn, IsStyle, ReadingLaw}
use Rattle.btx_bst.specs.laws.CommandSpelling.{OneReadingLaw}
use Rattle.btx_bst.proofs.ListLemmas.{Sized, name_at-size, list_end-again, list_end-ends}
use Rattle.btx_bst.proofs.StyleLemmas.{style_from-again, style_from-ends, item_turn-less}
use Rattle.btx_bst.proofs.SpellingLemmas.{spelled, broken, divided}
use Rattle.btx_bst.proofs.ItemSpellingLemmas.{end_turn, more_turn, skipped-lines, skipped-to_end}
use Rattle.btx_bst.proofs.WrittenLemmas.{ink_twice, name_no_brace, listed_name}
use Rattle.btx_bst.proofs.WordSpellingLemmas.{parts-spelled, spelled-parts, break-spelled, spelled-break}
use Rattle.btx_bst.proofs.TokenSpellingLemmas.{gap_one, gap_met, Agrees, spaced, sign_agrees, name_agrees, name_slip, text_agrees, letters_agrees}
use Rattle.btx_bst.specs.refinement.Commands.{entry_lists, function_of, macro_of}
use Rattle.btx_bst.specs.laws.StyleText.{unread_style}
use Rattle.btx_bst.specs.laws.Names.{macro_lower}
use Rattle.btx_bst.specs.laws.Places.{beginning}
use Rattle.btx_bst.specs.refinement.StyleText.{resumed_after, word_outcome}
use Rattle.btx_bst.specs.refinement.Lists.{with_new}

-- a rule has what a command comes to, and nothing else
pub record Gives (R : Style → Place → CommandOutcome → Type 0) (f : Style → Place → CommandOutcome) : Type 0 where
  pub met : (s : Style) (p : Place) → R s p (f s p)
  pub one : (s : Style) (p : Place) (o : CommandOutcome) → R s p o → f s p ≡ o

same : (R : Style → Place → CommandOutcome → Type 0) (f g : Style → Place → CommandOutcome) → ((s : Style) (p : Place) → f s p ≡ g s p) → Gives R f → Gives R g
same R f g e h = record { met = λ s p. rw (sym (e s p)) (h.met s p); one = λ s p o k. sym (e s p) ∙ h.one s p o k }

-- ---- how rules are made

then_met : {A : Type 0} (R : Place → Read A → Type 0) (rest : A → Rule) (go : A → Style → Place → CommandOutcome) → ((a : A) → Gives (rest a) (go a))
    → (s : Style) (p : Place) (x : Read A) → R p x → AndThen R rest s p (after_read s x (λ a q. go a s q))
then_met R rest go g s p (Took a q) k = inl (a, q, k, (g a).met s q)
then_met R rest go g s p (Mistake c q) k = inr (c, q, k, refl)

then_one : {A : Type 0} (R : Place → Read A → Type 0) (r : Place → Read A) (rest : A → Rule) (go : A → Style → Place → CommandOutcome) → Agrees R r
    → ((a : A) → Gives (rest a) (go a)) → (s : Style) (p : Place) (o : CommandOutcome) → AndThen R rest s p o → after_read s (r p) (λ a q. go a s q) ≡ o
then_one {A} R r rest go h g s p o (inl k) = ap (λ (x : Read A). after_read s x (λ a q. go a s q)) (h.one p (Took k.0 k.1) k.2) ∙ (g k.0).one s k.1 o k.3
then_one {A} R r rest go h g s p o (inr k) = ap (λ (x : Read A). after_read s x (λ a q. go a s q)) (h.one p (Mistake k.0 k.1) k.2) ∙ sym k.3

then_gives : {A : Type 0} (R : Place → Read A → Type 0) (r : Place → Read A) (rest : A → Rule) (go : A → Style → Place → CommandOutcome) → Agrees R r
    → ((a : A) → Gives (rest a) (go a)) → Gives (AndThen R rest) (λ s p. after_read s (r p) (λ a q. go a s q))
then_gives R r rest go h g = record { met = λ s p. then_met R rest go g s p (r p) (h.met p); one = then_one R r rest go h g }

opened : (rest : Rule) (go : Style → Place → CommandOutcome) → Gives rest go → Gives (Opened rest) (λ s p. after_read s (opening p) (λ x q. go s q))
opened rest go g = then_gives (BehindGap (StyleSignHere 123 NoOpen)) opening (λ x. rest) (λ x. go)
    (spaced (StyleSignHere 123 NoOpen) (λ p. brace_in 123 NoOpen p p.line) (sign_agrees 123 NoOpen)) (λ x. g)

closed : (rest : Rule) (go : Style → Place → CommandOutcome) → Gives rest go → Gives (Closed rest) (λ s p. after_read s (closing p) (λ x q. go s q))
closed rest go g = then_gives (BehindGap (StyleSignHere 125 NoClose)) closing (λ x. rest) (λ x. go)
    (spaced (StyleSignHere 125 NoClose) (λ p. brace_in 125 NoClose p p.line) (sign_agrees 125 NoClose)) (λ x. g)

a_name : (rest : List ℕ → Rule) (go : List ℕ → Style → Place → CommandOutcome) → ((name : List ℕ) → Gives (rest name) (go name))
    → Gives (AndThen (BehindGap StyleNameHere) rest) (λ s p. after_read s (next_name p) (λ name q. go name s q))
a_name rest go g = then_gives (BehindGap StyleNameHere) next_name rest go (spaced StyleNameHere (λ p. name_in p p.line) name_agrees) g

where_met : (test : Style → Bool) (wrong : Complaint) (rest : Rule) (go : Style → Place → CommandOutcome) → Gives rest go → (s : Style) (p : Place) (t : Bool)
    → test s ≡ t → Where test wrong rest s p (cond t (go s p) (outcome (Some wrong) s p))
where_met test wrong rest go g s p true e = inl (e, g.met s p)
where_met test wrong rest go g s p false e = inr (e, refl)

where_one : (test : Style → Bool) (wrong : Complaint) (rest : Rule) (go : Style → Place → CommandOutcome) → Gives rest go
    → (s : Style) (p : Place) (o : CommandOutcome) → Where test wrong rest s p o → cond (test s) (go s p) (outcome (Some wrong) s p) ≡ o
where_one test wrong rest go g s p o (inl k) = ap (λ (t : Bool). cond t (go s p) (outcome (Some wrong) s p)) k.0 ∙ g.one s p o k.1
where_one test wrong rest go g s p o (inr k) = ap (λ (t : Bool). cond t (go s p) (outcome (Some wrong) s p)) k.0 ∙ sym k.1

where_gives : (test : Style → Bool) (wrong : Complaint) (rest : Rule) (go : Style → Place → CommandOutcome) → Gives rest go
    → Gives (Where test wrong rest) (λ s p. cond (test s) (go s p) (outcome (Some wrong) s p))
where_gives test wrong rest go g = record { met = λ s p. where_met test wrong rest go g s p (test s) refl; one = where_one test wrong rest go g }

unless_met : (test : Style → Bool) (wrong : Complaint) (rest : Rule) (go : Style → Place → CommandOutcome) → Gives rest go → (s : Style) (p : Place) (t : Bool)
    → test s ≡ t → Unless test wrong rest s p (cond t (outcome (Some wrong) s p) (go s p))
unless_met test wrong rest go g s p true e = inl (e, refl)
unless_met test wrong rest go g s p false e = inr (e, g.met s p)

unless_one : (test : Style → Bool) (wrong : Complaint) (rest : Rule) (go : Style → Place → CommandOutcome) → Gives rest go
    → (s : Style) (p : Place) (o : CommandOutcome) → Unless test wrong rest s p o → cond (test s) (outcome (Some wrong) s p) (go s p) ≡ o
unless_one test wrong rest go g s p o (inl k) = ap (λ (t : Bool). cond t (outcome (Some wrong) s p) (go s p)) k.0 ∙ sym k.1
unless_one test wrong rest go g s p o (inr k) = ap (λ (t : Bool). cond t (outcome (Some wrong) s p) (go s p)) k.0 ∙ g.one s p o k.1

unless_gives : (test : Style → Bool) (wrong : Complaint) (rest : Rule) (go : Style → Place → CommandOutcome) → Gives rest go
    → Gives (Unless test wrong rest) (λ s p. cond (test s) (outcome (Some wrong) s p) (go s p))
unless_gives test wrong rest go g = record { met = λ s p. unless_met test wrong rest go g s p (test s) refl; one = unless_one test wrong rest go g }

new_gives : {A : Type 0} (meaning : Style → Option A) (wrong : Complaint) (rest : Rule) (f : Style → Place → Option A → CommandOutcome)
    → ((s : Style) (p : Place) (a : A) → f s p (Some a) ≡ outcome (Some wrong) s p) → Gives rest (λ s p. f s p None)
    → Gives (New meaning wrong rest) (λ s p. f s p (meaning s))
new_gives {A} meaning wrong rest f e g = record { met = λ s p. met s p (meaning s) refl; one = one } where
  met : (s : Style) (p : Place) (m : Option A) → meaning s ≡ m → New meaning wrong rest s p (f s p m)
  met s p None h = inl (h, g.met s p)
  met s p (Some a) h = inr (a, h, e s p a)

  one : (s : Style) (p : Place) (o : CommandOutcome) → New meaning wrong rest s p o → f s p (meaning s) ≡ o
  one s p o (inl k) = ap (f s p) k.0 ∙ g.one s p o k.1
  one s p o (inr k) = ap (f s p) k.1 ∙ e s p k.0 ∙ sym k.2

known_gives : {A : Type 0} (meaning : Style → Option A) (wrong : Complaint) (rest : A → Rule) (f : Style → Place → Option A → CommandOutcome)
    → ((s : Style) (p : Place) → f s p None ≡ outcome (Some wrong) s p) → ((a : A) → Gives (rest a) (λ s p. f s p (Some a)))
    → Gives (HasMeaning meaning wrong rest) (λ s p. f s p (meaning s))
known_gives {A} meaning wrong rest f e g = record { met = λ s p. met s p (meaning s) refl; one = one } where
  met : (s : Style) (p : Place) (m : Option A) → meaning s ≡ m → HasMeaning meaning wrong rest s p (f s p m)
  met s p None h = inr (h, e s p)
  met s p (Some a) h = inl (a, h, (g a).met s p)

  one : (s : Style) (p : Place) (o : CommandOutcome) → HasMeaning meaning wrong rest s p o → f s p (meaning s) ≡ o
  one s p o (inl k) = ap (f s p) k.1 ∙ (g k.0).one s p o k.2
  one s p o (inr k) = ap (f s p) k.0 ∙ e s p ∙ sym k.1

makes_gives : (change : Style → Style) → Gives (Makes change) (λ s p. outcome None (change s) p)
makes_gives change = record { met = λ s p. refl; one = λ s p o k. sym k }

-- ---- lists of names

brace_at : (p q : Place) → BehindGap (StyleSignHere 125 NoClose) p (Took tt q) → closing p ≡ Took tt q
brace_at p q h = (spaced (StyleSignHere 125 NoClose) (λ r. brace_in 125 NoClose r r.line) (sign_agrees 125 NoClose)).one p (Took tt q) h

name_at_one : (p : Place) (x : Read (List ℕ)) → BehindGap StyleNameHere p x → next_name p ≡ x
name_at_one p x h = (spaced StyleNameHere (λ r. name_in r r.line) name_agrees).one p x h

turn_name : (k : Kind) (known : Names) (p : Place) (c d : Complaint) (q : Place) → closing p ≡ Mistake d (ink p) → next_name p ≡ Mistake c q
    → list_turn k (listing known p) ≡ Ends (listed (Some c) known q)
unfolding list_turn
turn_name k known p c d q e f =
    ap (list_turn_in k known) e ∙ ap (λ (r : Place). name_turn k known (name_in r r.line)) (ink_twice p) ∙ ap (name_turn k known) f

turn_old : (k : Kind) (known : Names) (name : List ℕ) (p q : Place) (old : Callee) → next_name p ≡ Took name q → named known name ≡ Some old
    → list_turn k (listing known p) ≡ Ends (listed (Some (Defined name)) known q)
unfolding list_turn
turn_old k known name p q old e f =
    ap (list_turn_in k known) (name_no_brace (ink p) q (ink p).line name e) ∙ ap (λ (r : Place). name_turn k known (name_in r r.line)) (ink_twice p)
    ∙ ap (name_turn k known) e ∙ ap (with_new k known name q) f

turn_closed : (k : Kind) (known : Names) (p q : Place) → closing p ≡ Took tt q → list_turn k (listing known p) ≡ Ends (listed None known q)
unfolding list_turn
turn_closed k known p q e = ap (list_turn_in k known) e

-- what closing says where neither a `}` nor a name stands
said : List ℕ → Complaint
said [] = EndOfFile
said (b ∷ bs) = NoClose

or_left : (t u : Bool) → (t || u) ≡ false → t ≡ false
or_left true u h = absurd (cc)
or_left false u h = refl

or_right : (t u : Bool) → (t || u) ≡ false → u ≡ false
or_right true u h = absurd (cc)
or_right false u h = h

not_closed : (p : Place) (c : Complaint) (line : List ℕ) → IsMissing is_list_byte NoName c line → brace_in 125 NoClose p line ≡ Mistake (said line) p
unfolding said
not_closed p c [] m = refl
not_closed p c (b ∷ bs) m = ap (λ (t : Bool). cond {A = Read (Unit {0})} t (Took tt (further p bs)) (Mistake NoClose p)) (or_left (b == 125) (begins_name b) m.0)

no_name : (c : Complaint) (line : List ℕ) → IsMissing is_list_byte NoName c line → IsMissing begins_name NoName c line
no_name c [] m = m
no_name c (b ∷ bs) m = (or_right (b == 125) (begins_name b) m.0, m.1)

turn_missing : (k : Kind) (known : Names) (p q : Place) (c : Complaint) → Gap p q → IsMissing is_list_byte NoName c q.line → list_turn k (listing known p)
    ≡ Ends (listed (Some c) known q)
turn_missing k known p q c g m =
    let e = gap_one p q g in
    turn_name k known p c (said q.line) q
    (ap (λ (r : Place). brace_in 125 NoClose r r.line) e ∙ not_closed q c q.line m ∙ ap (Mistake (said q.line)) (sym e))
    (ap (λ (r : Place). name_in r r.line) e ∙ name_slip c q q q.line refl (no_name c q.line m))

ended : (k : Kind) (known : Names) (p : Place) (l : Listed) → EndsList known p l → list_turn k (listing known p) ≡ Ends l
ended k known p l (inl h) = turn_closed k known p h.0 (brace_at p h.0 h.1) ∙ ap Ends (sym h.2)
ended k known p l (inr (inl h)) = turn_missing k known p h.1 h.0 h.2 h.3 ∙ ap Ends (sym h.4)
ended k known p l (inr (inr h)) = turn_old k known h.0 p h.1 h.2 (name_at_one p (Took h.0 h.1) h.3) h.4 ∙ ap Ends (sym h.5)

in_one_names : (k : Kind) (names : List (List ℕ)) (known : Names) (p q : Place) (l : Listed) → AreNames names p q → AreNew k names known
    → EndsList (declared k names known) q l → list_end k (listing known p) ≡ l
in_one_names k [] known p q l h n e = ap (λ (r : Place). list_end k (listing known r)) h ∙ list_end-ends k (listing known q) l (ended k known q l e)
in_one_names k (name ∷ names) known p q l h n e =
    list_end-again k (listing known p) (listing (with_name k (folded name) known) h.0) (listed_name k known name p h.0 (name_at_one p (Took name h.0) h.1) n.0)
    ∙ in_one_names k names (with_name k (folded name) known) h.0 q l h.2 n.1 e

in_one : (k : Kind) (known : Names) (p : Place) (l : Listed) → InList k known p l → list_end k (listing known p) ≡ l
in_one k known p l h = in_one_names k h.0 known p h.1 l h.2 h.3 h.4

abbrev AList : Kind → Names → Place → Type 0
AList k known p = (l : Listed) × InList k known p l

or_false : (t u : Bool) → t ≡ false → u ≡ false → (t || u) ≡ false
or_false true u e f = absurd (cc)
or_false false u e f = f

both_missing : (c d : Complaint) (line : List ℕ) → IsMissing (λ b. b == 125) NoClose d line → IsMissing begins_name NoName c line
    → IsMissing is_list_byte NoName c line
both_missing c d [] m n = n
both_missing c d (b ∷ bs) m n = (or_false (b == 125) (begins_name b) m.0 n.0, n.1)

missing_list : (k : Kind) (known : Names) (p i j : Place) (c d : Complaint) → Gap p i → IsMissing (λ b. b == 125) NoClose d i.line → Gap p j
    → IsMissing begins_name NoName c j.line → AList k known p
missing_list k known p i j c d g m h n =
    let same_place : i ≡ j = sym (gap_one p i g) ∙ gap_one p j h in
    let m2 : IsMissing (λ b. b == 125) NoClose d j.line = rw (sym same_place) m in
    (listed (Some c) known j, ([], p, refl, tt, inr (inl (c, j, h, both_missing c d j.line m2 n, refl))))

name_less : (p q : Place) (name : List ℕ) → next_name p ≡ Took name q → size q < size p
name_less p q name e = let h : Sized (size p) (Took name q) = rw e at (name_at-size p) in h

named_list : (k : Kind) (known : Names) (p q : Place) (name : List ℕ) (o : Option Callee) → BehindGap StyleNameHere p (Took name q) → named known name ≡ o
    → ((known : Names) → AList k known q) → AList k known p
named_list k known p q name (Some old) h e more = (listed (Some (Defined name)) known q, ([], p, refl, tt, inr (inr (name, q, old, h, e, refl))))
named_list k known p q name None h e more =
    let m = more (with_name k (folded name) known) in
    (m.0, (name ∷ m.1.0, m.1.1, (q, h, m.1.2), (e, m.1.3), m.1.4))

name_list : (k : Kind) (known : Names) (p i : Place) (d : Complaint) (x : Read (List ℕ)) → Gap p i → IsMissing (λ b. b == 125) NoClose d i.line
    → BehindGap StyleNameHere p x → next_name p ≡ x → ((q : Place) → size q < size p → (known : Names) → AList k known q) → AList k known p
name_list k known p i d (Mistake c q) g m h e more = missing_list k known p i h.0 c d g m h.1 h.2.1
name_list k known p i d (Took name q) g m h e more = named_list k known p q name (named known name) h refl (more q (name_less p q name e))

brace_list : (k : Kind) (known : Names) (p : Place) (x : Read (Unit {0})) → BehindGap (StyleSignHere 125 NoClose) p x
    → ((q : Place) → size q < size p → (known : Names) → AList k known q) → AList k known p
brace_list k known p (Took none q) h more = (listed None known q, ([], p, refl, tt, inl (q, h, refl)))
brace_list k known p (Mistake d q) h more =
    name_list k known p h.0 d (next_name p) h.1 h.2.1 ((spaced StyleNameHere (λ r. name_in r r.line) name_agrees).met p) refl more

list_within : (n : ℕ) (k : Kind) (known : Names) (p : Place) → size p < n → AList k known p
list_within zero k known p h = absurd (omega arith)
list_within (suc n) k known p h =
    brace_list k known p (closing p) ((spaced (StyleSignHere 125 NoClose) (λ r. brace_in 125 NoClose r r.line) (sign_agrees 125 NoClose)).met p)
    (λ q l known. list_within n k known q (omega arith))

in_met : (k : Kind) (known : Names) (p : Place) → InList k known p (list_end k (listing known p))
in_met k known p =
    let a = list_within (suc (size p)) k known p (omega arith) in
    rw (in_one k known p a.0 a.1) a.1

abbrev Inner : Kind → Rule → Rule
Inner kind rest style from o =
    ((known : Names) × (to : Place) × InList kind style.names from (listed None known to) × rest (record style { names = known }) to o)
    ⊎ ((complaint : Complaint) × (known : Names) × (to : Place) × InList kind style.names from (listed (Some complaint) known to)
    × (o ≡ outcome (Some complaint) (record style { names = known }) to))

inner_met : (k : Kind) (rest : Rule) (go : Style → Place → CommandOutcome) → Gives rest go
    → (s : Style) (p : Place) (c : Option Complaint) (known : Names) (q : Place) → InList k s.names p (listed c known q)
    → Inner k rest s p (after_listed c (record s { names = known }) q go)
inner_met k rest go g s p None known q h = inl (known, q, h, g.met (record s { names = known }) q)
inner_met k rest go g s p (Some c) known q h = inr (c, known, q, h, refl)

inner_one : (k : Kind) (rest : Rule) (go : Style → Place → CommandOutcome) → Gives rest go → (s : Style) (p : Place) (o : CommandOutcome) → Inner k rest s p o
    → after_list s (list_end k (listing s.names p)) go ≡ o
inner_one k rest go g s p o (inl h) = ap (λ (l : Listed). after_list s l go) (in_one k s.names p (listed None h.0 h.1) h.2)
    ∙ g.one (record s { names = h.0 }) h.1 o h.3
inner_one k rest go g s p o (inr h) = ap (λ (l : Listed). after_list s l go) (in_one k s.names p (listed (Some h.0) h.1 h.2) h.3) ∙ sym h.4

inner_gives : (k : Kind) (rest : Rule) (go : Style → Place → CommandOutcome) → Gives rest go
    → Gives (Inner k rest) (λ s p. after_list s (list_end k (listing s.names p)) go)
inner_gives k rest go g = record {
  met = λ s p. let l = list_end k (listing s.names p) in inner_met k rest go g s p l.complaint l.listing.names l.listing.place (in_met k s.names p);
  one = inner_one k rest go g;
}

list_opened : (k : Kind) (s : Style) (go : Style → Place → CommandOutcome) (r : Read (Unit {0}))
    → after_read s r (λ x q. after_list s (list_end k (listing s.names q)) go) ≡ after_list s (list_read k s.names r) go
list_opened k s go (Took x q) = refl
list_opened k s go (Mistake c q) = refl

lists_gives : (k : Kind) (rest : Rule) (go : Style → Place → CommandOutcome) → Gives rest go
    → Gives (Lists k rest) (λ s p. after_list s (list_at k s.names p) go)
lists_gives k rest go g =
    same (Lists k rest) (λ s p. after_read s (opening p) (λ x q. after_list s (list_end k (listing s.names q)) go))
    (λ s p. after_list s (list_at k s.names p) go)
    (λ s p. list_opened k s go (opening p)) (opened (Inner k rest) (λ s p. after_list s (list_end k (listing s.names p)) go) (inner_gives k rest go g))

-- ---- bodies

body_broken : (s : Style) (name : List ℕ) (c : Complaint) (q : Place) (items : List Item) (e : BodyEnd) → IsBroken c q items e
    → function_ended s name e ≡ outcome (Some c) (record s { items = items }) q
body_broken s name c q items (Whole i) h = absurd h
body_broken s name c q items (Broken d i) h =
    ap (λ (x : Complaint). outcome (Some x) (record s { items = i.items }) i.place) h.0
    ∙ ap (λ (x : Place). outcome (Some c) (record s { items = i.items }) x) h.1
    ∙ ap (λ (x : List Item). outcome (Some c) (record s { items = x }) q) h.2

body_one : (name : List ℕ) (s : Style) (p : Place) (o : CommandOutcome) → HasBody name s p o → function_ended s (folded name) (body_end s.names (inside_at s p))
    ≡ o
body_one name s p o (inl h) = ap (function_ended s (folded name)) (spelled s.names h.0 p h.1 (made_in s) (parts-spelled h.0 p h.1 h.2)) ∙ sym h.3
body_one name s p o (inr h) =
    body_broken s (folded name) (complaint_in h.0) h.1 (made_till s.names h.0 (made_in s)).items (body_end s.names (inside_at s p))
    (broken s.names h.0 p h.1 (made_in s) (break-spelled h.0 p h.1 h.2)) ∙ sym h.3

body_met : (name : List ℕ) (s : Style) (p : Place) → HasBody name s p (function_ended s (folded name) (body_end s.names (inside_at s p)))
body_met name s p = at (divided p) where
  at : Division p → HasBody name s p (function_ended s (folded name) (body_end s.names (inside_at s p)))
  at (inl h) =
      let o = outcome None (with_made_function name (made_by s.names h.0 (made_in s)) s) h.1 in
      let k : HasBody name s p o = inl (h.0, h.1, spelled-parts h.0 p h.1 h.2, refl) in rw (body_one name s p o k) k
  at (inr h) =
      let o = outcome (Some (complaint_in h.0)) (record s { items = (made_till s.names h.0 (made_in s)).items }) h.1 in
      let k : HasBody name s p o = inr (h.0, h.1, spelled-break h.0 p h.1 h.2, refl) in rw (body_one name s p o k) k

body_gives : (name : List ℕ) → Gives (HasBody name) (λ s p. function_ended s (folded name) (body_end s.names (inside_at s p)))
body_gives name = record { met = body_met name; one = body_one name }

-- ---- commands

entry_gives : Gives (Behind command.Entry) entry_command
unfolding entry_command
entry_gives =
    unless_gives (λ s. s.has_entry) (Another command.Entry) _ entry_lists
    (lists_gives kind.Field _ _ (lists_gives kind.EntryInteger _ _
    (lists_gives kind.EntryString _ _ (makes_gives (λ s. with_item item.Entry (record s { has_entry = true }))))))

function_gives : Gives (Behind command.Function) function_command
unfolding function_command
function_gives =
    opened _ _ (a_name _ _ (λ name.
    new_gives (λ s. named s.names name) (Defined name) _ (λ s p o. function_of s name p o) (λ s p a. refl) (closed _ _ (opened _ _ (body_gives name)))))

read_gives : Gives (Behind command.Read) read_command
unfolding read_command
read_gives =
    unless_gives has_read (Another command.Read) _ _
    (where_gives (λ s. s.has_entry) BeforeEntry _ _ (makes_gives (λ s. with_item item.Read (record s { before_read = Some (length s.bodies) }))))

run_gives : (c : Command) (make : Callee → Item) → Gives (Executes c make) (run_command c make)
unfolding run_command
run_gives c make =
    where_gives has_read (BeforeRead c) _ _ (opened _ _ (a_name _ _ (λ name.
    known_gives (λ s. function_in (named s.names name)) (Unknown name) _ (λ s p o. run_of make s name p o) (λ s p. refl)
    (λ callee. closed _ _ (makes_gives (with_item (make callee)))))))

sort_gives : Gives (Behind command.Sort) sort_command
unfolding sort_command
sort_gives = where_gives has_read (BeforeRead command.Sort) _ _ (makes_gives (with_item item.Sort))

declare_gives : (k : Kind) (i : Item) → Gives (Lists k (Makes (with_item i))) (declare k i)
unfolding declare
declare_gives k i = lists_gives k _ _ (makes_gives (with_item i))

macro_gives : Gives (Behind command.Macro) macro_command
unfolding macro_command
macro_gives =
    unless_gives has_read AfterRead _ _ (opened _ _ (a_name _ _ (λ name.
    new_gives (λ s. macro_lower s.macros (folded name)) (Defined name) _ (λ s p o. macro_of s name p o) (λ s p a. refl) (closed _ _ (opened _ _
    (then_gives (BehindGap TextHere) quoted_at _ _ (spaced TextHere (λ p. quoted_in p p.line) text_agrees) (λ text.
    closed _ _ (makes_gives (λ s. with_item item.Macro (record s { macros = s.macros ++ (folded name, text) ∷ [] }))))))))))

command_gives : (c : Command) → Gives (Behind c) (command_at c)
command_gives command.Entry = entry_gives
command_gives command.Function = function_gives
command_gives command.Read = read_gives
command_gives command.Execute = run_gives command.Execute item.Execute
command_gives command.Iterate = run_gives command.Iterate item.Iterate
command_gives command.Reverse = run_gives command.Reverse item.Reverse
command_gives command.Sort = sort_gives
command_gives command.Integers = declare_gives kind.GlobalInteger item.Integers
command_gives command.Strings = declare_gives kind.GlobalString item.Strings
command_gives command.Macro = macro_gives

-- ---- the words of commands

pub word_named : (c : Command) → command_named (folded (command_word_of c)) ≡ Some c
unfolding command_named
word_named command.Entry = refl
word_named command.Function = refl
word_named command.Read = refl
word_named command.Execute = refl
word_named command.Iterate = refl
word_named command.Reverse = refl
word_named command.Sort = refl
word_named command.Integers = refl
word_named command.Strings = refl
word_named command.Macro = refl

-- what a name is if it is the word of a command
abbrev pub IsItsWord : List ℕ → Option Command → Type 0
IsItsWord name None = Unit {0}
IsItsWord name (Some c) = name ≡ folded (command_word_of c)

unfoldable pub its_word : (name lit : List ℕ) (c : Command) (rest : Option Command) → lit ≡ folded (command_word_of c) → IsItsWord name rest
    → IsItsWord name (cond (bytes_eq name lit) (Some c) rest)
its_word name lit c rest e h = at (bytes_eq name lit) refl where
  at : (t : Bool) → bytes_eq name lit ≡ t → IsItsWord name (cond t (Some c) rest)
  at true f = (bytes_eq-Decides name lit).0 f ∙ e
  at false f = h

unfoldable pub named_word : (name : List ℕ) → IsItsWord name (command_named name)
unfolding command_named
named_word name =
    its_word name (codes "entry") command.Entry _ refl (its_word name (codes "function") command.Function _ refl
    (its_word name (codes "read") command.Read _ refl (its_word name (codes "execute") command.Execute _ refl
    (its_word name (codes "iterate") command.Iterate _ refl (its_word name (codes "reverse") command.Reverse _ refl
    (its_word name (codes "sort") command.Sort _ refl (its_word name (codes "integers") command.Integers _ refl
    (its_word name (codes "strings") command.Strings _ refl (its_word name (codes "macro") command.Macro None refl tt)))))))))

is_named : (letters : List ℕ) (c : Command) → IsWordOf c letters → command_named (folded letters) ≡ Some c
is_named letters c e = ap command_named e ∙ word_named c

not_named : (letters : List ℕ) → command_named (folded letters) ≡ None → (c : Command) → IsWordOf c letters → ⊥
not_named letters e c h = let f = is_named letters c h in absurd (cc)

word_met : (letters : List ℕ) (s : Style) (p : Place) (o : Option Command) → command_named (folded letters) ≡ o → IsItsWord (folded letters) o
    → Named letters s p (word_outcome s p letters o)
word_met letters s p None e h = inr (not_named letters e, refl)
word_met letters s p (Some c) e h = inl (c, h, (command_gives c).met s p)

no_command : (letters : List ℕ) (o : Option Command) → IsItsWord (folded letters) o → ((c : Command) → IsWordOf c letters → ⊥) → o ≡ None
no_command letters None h k = refl
no_command letters (Some c) h k = absurd (k c h)

word_one : (letters : List ℕ) (s : Style) (p : Place) (o : CommandOutcome) → Named letters s p o → word_outcome s p letters (command_named (folded letters)) ≡ o
word_one letters s p o (inl h) = ap (word_outcome s p letters) (is_named letters h.0 h.1) ∙ (command_gives h.0).one s p o h.2
word_one letters s p o (inr h) = ap (word_outcome s p letters) (no_command letters (command_named (folded letters)) (named_word (folded letters)) h.0) ∙ sym h.1

pub outcome_gives : Gives CommandHere command_outcome
outcome_gives =
    then_gives LettersHere letters_at Named (λ letters s p. word_outcome s p letters (command_named (folded letters))) letters_agrees
    (λ letters. record { met = λ s p. word_met letters s p (command_named (folded letters)) refl (named_word (folded letters)); one = word_one letters })

-- ---- what is skipped

skips_one : (p q : Place) → Skips p q → skipped p ≡ q
skips_one p q h = at h.2 where
  at : ((after : List (List ℕ)) × (p.after ≡ h.0 ++ [] ∷ after) × (q ≡ place_at (p.number + length h.0 + 1) [] after))
      ⊎ ((p.after ≡ h.0) × (q ≡ place_at (p.number + length h.0) [] [])) → skipped p ≡ q
  at (inl k) = ap (skipped_from p.number) k.1 ∙ skipped-lines p.number p.line h.0 k.0 h.1 ∙ sym k.2
  at (inr k) = ap (skipped_from p.number) k.0 ∙ skipped-to_end p.number p.line h.0 h.1 ∙ sym k.1

-- lines up to an empty one, or all
abbrev pub Full : List (List ℕ) → Type 0
Full all = (lines : List (List ℕ)) × AreFull lines × (((after : List (List ℕ)) × (all ≡ lines ++ [] ∷ after)) ⊎ (all ≡ lines))

unfoldable pub full_more : (b : ℕ) (bs : List ℕ) (all : List (List ℕ)) → Full all → Full ((b ∷ bs) ∷ all)
full_more b bs all h = at h.2 where
  full : AreFull ((b ∷ bs) ∷ h.0)
  full = (λ e. absurd (cc), h.1)

  at : ((after : List (List ℕ)) × (all ≡ h.0 ++ [] ∷ after)) ⊎ (all ≡ h.0) → Full ((b ∷ bs) ∷ all)
  at (inl k) = ((b ∷ bs) ∷ h.0, full, inl (k.0, ap (λ (xs : List (List ℕ)). (b ∷ bs) ∷ xs) k.1))
  at (inr k) = ((b ∷ bs) ∷ h.0, full, inr (ap (λ (xs : List (List ℕ)). (b ∷ bs) ∷ xs) k))

unfoldable pub full_lines : (all : List (List ℕ)) → Full all
full_lines [] = ([], tt, inr refl)
full_lines ([] ∷ all) = ([], tt, inl (all, refl))
full_lines ((b ∷ bs) ∷ all) = full_more b bs all (full_lines all)

skips_met : (p : Place) → Skips p (skipped p)
skips_met p = at (full_lines p.after) where
  with_end : (q : Place) → Skips p q → Skips p (skipped p)
  with_end q h = rw (skips_one p q h) h

  at : Full p.after → Skips p (skipped p)
  at h = split h.2 where
    split : ((after : List (List ℕ)) × (p.after ≡ h.0 ++ [] ∷ after)) ⊎ (p.after ≡ h.0) → Skips p (skipped p)
    split (inl k) = with_end (place_at (p.number + length h.0 + 1) [] k.0) (h.0, h.1, inl (k.0, k.1, refl))
    split (inr k) = with_end (place_at (p.number + length h.0) [] []) (h.0, h.1, inr (k, refl))

goes_one : (c : Option Complaint) (s : Style) (p : Place) (next : StyleState) → GoesOn c s p next → resumed c s p ≡ next
goes_one None s p next h = sym h
goes_one (Some c) s p next h = ap (style_state (with_item (item.Message c p.number) s)) (skips_one p h.0 h.1) ∙ sym h.2

goes_met : (c : Option Complaint) (s : Style) (p : Place) → GoesOn c s p (resumed c s p)
goes_met None s p = refl
goes_met (Some c) s p = (skipped p, skips_met p, refl)

-- ---- styles

not_end : (p q : Place) → Gap p q → (q.line ≡ [] → ⊥) → IsEnd p → ⊥
not_end p q g h e = h (ap (λ (r : Place). r.line) (sym (gap_one p q g)) ∙ e)

command_one : (s : Style) (p here : Place) (o : CommandOutcome) → Gap p here → CommandHere s here o → command_outcome s (ink p) ≡ o
command_one s p here o g c = ap (command_outcome s) (gap_one p here g) ∙ outcome_gives.one s here o c

is_read_as : (os : List CommandOutcome) (from : StyleState) (end : Style) → IsStyle os from end → style_from from ≡ end
is_read_as [] from end h = style_from-ends from from.style (end_turn from (ap (λ (r : Place). r.line) (gap_one from.place h.0 h.1) ∙ h.2)) ∙ h.3
is_read_as (o ∷ os) from end h =
    style_from-again from (resumed_after o) (more_turn from o (not_end from.place h.0 h.2 h.3) (command_one from.style from.place h.0 o h.2 h.4))
    ∙ ap style_from (goes_one o.complaint o.style o.place h.1 h.5) ∙ is_read_as os h.1 end h.6

abbrev AStyle : StyleState → Type 0
AStyle from = (os : List CommandOutcome) × (end : Style) × IsStyle os from end

style_at : (from : StyleState) (line : List ℕ) → (ink from.place).line ≡ line → ((t : StyleState) → size t.place < size from.place → AStyle t) → AStyle from
style_at from [] e more = ([], from.style, (ink from.place, gap_met from.place, e, refl))
style_at from (b ∷ bs) e more =
    let o = command_outcome from.style (ink from.place) in
    let t = resumed_after o in
    let begun : IsEnd from.place → ⊥ = λ (k : IsEnd from.place). absurd (cc) in
    let g = more t (item_turn-less from t (more_turn from o begun refl)) in
    (o ∷ g.0, g.1, (ink from.place, t, gap_met from.place, begun, outcome_gives.met from.style (ink from.place), goes_met o.complaint o.style o.place, g.2))

style_within : (n : ℕ) (from : StyleState) → size from.place < n → AStyle from
style_within zero from h = absurd (omega arith)
style_within (suc n) from h = style_at from (ink from.place).line refl (λ t l. style_within n t (omega arith))

pub style-read : ReadingLaw
unfolding style_of
style-read file text =
    let from = style_state (unread_style file predefined) (beginning text) in
    let a = style_within (suc (size from.place)) from (omega arith) in
    (a.0, rw (is_read_as a.0 from a.1 a.2) a.2)

one_place : (p q r : Place) → Gap p q → Gap p r → q ≡ r
one_place p q r g h = sym (gap_one p q g) ∙ gap_one p r h

one_list : (from : StyleState) (first second : List CommandOutcome) (a b : Style) → IsStyle first from a → IsStyle second from b → first ≡ second
one_list from [] [] a b h k = refl
one_list from [] (o ∷ os) a b h k = absurd (k.3 (ap (λ (r : Place). r.line) (one_place from.place k.0 h.0 k.2 h.1) ∙ h.2))
one_list from (o ∷ os) [] a b h k = absurd (h.3 (ap (λ (r : Place). r.line) (one_place from.place h.0 k.0 h.2 k.1) ∙ k.2))
one_list from (o ∷ os) (x ∷ xs) a b h k =
    let same_outcome : o ≡ x = sym (command_one from.style from.place h.0 o h.2 h.4) ∙ command_one from.style from.place k.0 x k.2 k.4 in
    let same_next : h.1 ≡ k.1 = sym (goes_one o.complaint o.style o.place h.1 h.5) ∙ ap resumed_after same_outcome
    ∙ goes_one x.complaint x.style x.place k.1 k.5 in
    ap (λ (y : CommandOutcome). y ∷ os) same_outcome ∙ ap (λ (ys : List CommandOutcome). x ∷ ys) (one_list k.1 os xs a b (rw (sym same_next) h.6) k.6)

pub one-reading : OneReadingLaw
one-reading from first second a b h k = (one_list from first second a b h k, sym (is_read_as first from a h) ∙ is_read_as second from b k)
