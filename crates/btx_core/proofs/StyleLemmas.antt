-- A text is one style: what commands come to is determined.
use Rattle.std.proofs.Common.{◌≡◌, ℕ, ◌==◌, ◌||◌, ◌+◌, length, unwrap_or, ◌⊎◌, inl, inr, Bool, true, false, List, [], ◌∷◌, ◌++◌, Option, None, Some, is_some}
use Rattle.std.proofs.Common.{sym, ap, subst, ◌∙◌, refl, true≢false}
use Rattle.btx_text.specs.language.Class.{begins_name}
use Rattle.btx_text.specs.language.Keys.{folded}
use Rattle.btx_bst.specs.declared.command.Command.{Command as CommandName}
use Rattle.btx_bst.specs.declared.callee.Kind.{Kind}
use Rattle.btx_bst.specs.language.Places.{Place, ink, place_at, skipped, skipped_from}
use Rattle.btx_bst.specs.language.Reads.{Read, Took, Mistake}
use Rattle.btx_bst.specs.language.Complaints.{Complaint, NoOpen, NoClose, NoName, Unknown}
use Rattle.btx_bst.specs.language.Complaints.{Defined as NameTaken}
use Rattle.btx_bst.specs.language.Lists.{brace_in, name_in, quoted_in, letters_at}
use Rattle.btx_bst.specs.language.Words.{BodyWord, Open, Close, Unended, Ended, met, Met}
use Rattle.btx_bst.specs.language.Commands.{command_named}
use Rattle.btx_bst.specs.laws.Spelling.{Parts, Nothing, Plain, Group, IsPlain, Fragment, Here, After, AfterGroup, Inner, breaks, complaint_in}
use Rattle.btx_bst.specs.language.Words as words
use Rattle.btx_bst.proofs.ItemSpellingLemmas.{skipped-lines, skipped-to_end}
use Rattle.btx_bst.specs.laws.TokenSpelling.{StyleGrammar, Gap, BehindGap, Begins, IsMissing, StyleSignHere, StyleNameHere, TextHere, LettersHere}
use Rattle.btx_bst.specs.laws.WordSpelling.{NextWord, BreakOff}
use Rattle.btx_bst.specs.laws.WordSpelling.{AreParts as AreBodyParts}
use Rattle.btx_bst.specs.laws.CommandSpelling.{IsWordOf, Skips}
use Rattle.btx_bst.specs.laws.Places.{beginning}
use Rattle.btx_bst.proofs.CommandSpellingLemmas.{word_named}
use Rattle.btx_bst.proofs.TokenSpellingLemmas.{gap_one, Agrees, spaced, sign_agrees, name_agrees, text_agrees, letters_agrees}
use Rattle.btx_bst.proofs.WordSpellingLemmas.{token-met}
use Rattle.btx_core.specs.language.Styles.{Function, Declared, Defined, Command, Style}
use Rattle.btx_core.specs.language.StyleTexts.{SoFar, meaning, initial_style, and_name, and_command, and_says, CommandEnd, ended_at, Rule, Next, Opened, Closed, Requires}
use Rattle.btx_core.specs.language.StyleTexts.{HasEffect, Names, Lists, body_of, wrong_in, wrong_till, HasBody, is_function, Executes, Arguments, CommandNamed, FollowsOn}
use Rattle.btx_core.specs.language.StyleTexts.{AreCommands, IsStyle, is_a_field}
use Rattle.btx_text.specs.laws.Bytes.{open_brace, close_brace}
use Rattle.btx_core.proofs.RuleLemmas.{behind_by}

-- a byte that may stand in a list of names: its `}`, or one with which a name begins
abbrev pub is_list_byte : ℕ → Bool
is_list_byte b = b == close_brace || begins_name b

-- a rule determines what a command comes to
abbrev One : Rule → Type 0
One R = (s : SoFar) (p : Place) (o o' : CommandEnd) → R s p o → R s p o' → o ≡ o'

took_value : {A : Type 0} (a b : A) (p q : Place) → Took a p ≡ Took b q → a ≡ b
took_value a b p q e = cc

took_place : {A : Type 0} (a b : A) (p q : Place) → Took a p ≡ Took b q → p ≡ q
took_place a b p q e = cc

slip_value : {A : Type 0} (a b : Complaint) (p q : Place) → ◌≡◌ {A = Read A} (Mistake a p) (Mistake b q) → a ≡ b
slip_value a b p q e = cc

slip_place : {A : Type 0} (a b : Complaint) (p q : Place) → ◌≡◌ {A = Read A} (Mistake a p) (Mistake b q) → p ≡ q
slip_place a b p q e = cc

took_slip : {A : Type 0} (a : A) (b : Complaint) (p q : Place) → Took a p ≡ Mistake b q → ⊥
took_slip a b p q e = absurd (cc)

-- what a grammar reads after whitespace is one thing
one_read : {A : Type 0} (R : StyleGrammar A) (r : Place → Read A) → Agrees R r → (p : Place) (x y : Read A) → BehindGap R p x → BehindGap R p y → x ≡ y
one_read R r h p x y k l = sym ((spaced R r h).one p x k) ∙ (spaced R r h).one p y l

next_one : {A : Type 0} (R : StyleGrammar A) (r : Place → Read A) (rest : A → Rule) → Agrees R r → ((a : A) → One (rest a)) → One (Next R rest)
next_one {A} R r rest h g s p o o' (inl k) (inl l) =
    let e = one_read R r h p (Took k.0 k.1) (Took l.0 l.1) k.2 l.2 in
    let x = subst (λ a. rest a s k.1 o) (took_value k.0 l.0 k.1 l.1 e) k.3 in
    let y = subst (λ q. rest l.0 s q o) (took_place k.0 l.0 k.1 l.1 e) x in
    g l.0 s l.1 o o' y l.3
next_one {A} R r rest h g s p o o' (inl k) (inr l) = absurd (took_slip k.0 l.0 k.1 l.1 (one_read R r h p (Took k.0 k.1) (Mistake l.0 l.1) k.2 l.2))
next_one {A} R r rest h g s p o o' (inr k) (inl l) = absurd (took_slip l.0 k.0 l.1 k.1 (one_read R r h p (Took l.0 l.1) (Mistake k.0 k.1) l.2 k.2))
next_one {A} R r rest h g s p o o' (inr k) (inr l) =
    let e = one_read R r h p (Mistake k.0 k.1) (Mistake l.0 l.1) k.2 l.2 in
    k.3 ∙ ap (λ c. ended_at (Some c) s k.1) (slip_value {A = A} k.0 l.0 k.1 l.1 e) ∙ ap (λ q. ended_at (Some l.0) s q) (slip_place {A = A} k.0 l.0 k.1 l.1 e)
    ∙ sym l.3

opened_one : (rest : Rule) → One rest → One (Opened rest)
opened_one rest g = next_one (StyleSignHere open_brace NoOpen) (λ p. brace_in 123 NoOpen p p.line) (λ none. rest) (sign_agrees 123 NoOpen) (λ none. g)

closed_one : (rest : Rule) → One rest → One (Closed rest)
closed_one rest g = next_one (StyleSignHere close_brace NoClose) (λ p. brace_in 125 NoClose p p.line) (λ none. rest) (sign_agrees 125 NoClose) (λ none. g)

named_one : (rest : List ℕ → Rule) → ((name : List ℕ) → One (rest name)) → One (Next StyleNameHere rest)
named_one rest g = next_one StyleNameHere (λ p. name_in p p.line) rest name_agrees g

text_one : (rest : List ℕ → Rule) → ((text : List ℕ) → One (rest text)) → One (Next TextHere rest)
text_one rest g = next_one TextHere (λ p. quoted_in p p.line) rest text_agrees g

where_one : (test : SoFar → Bool) (wrong : Complaint) (rest : Rule) → One rest → One (Requires test wrong rest)
where_one test wrong rest g s p o o' (inl k) (inl l) = g s p o o' k.1 l.1
where_one test wrong rest g s p o o' (inl k) (inr l) = absurd (true≢false (sym k.0 ∙ l.0))
where_one test wrong rest g s p o o' (inr k) (inl l) = absurd (true≢false (sym l.0 ∙ k.0))
where_one test wrong rest g s p o o' (inr k) (inr l) = k.1 ∙ sym l.1

makes_one : (change : SoFar → SoFar) → One (HasEffect change)
makes_one change s p o o' k l = k ∙ sym l

-- ---- lists

one_name : (p : Place) (m n : List ℕ) (q r : Place) → BehindGap StyleNameHere p (Took m q) → BehindGap StyleNameHere p (Took n r) → Took m q ≡ Took n r
one_name p m n q r k l = one_read StyleNameHere (λ p. name_in p p.line) name_agrees p (Took m q) (Took n r) k l

-- no name begins where a list closes
name_begins : (name line rest : List ℕ) → line ≡ name ++ rest → Begins begins_name name → Begins begins_name line
name_begins [] line rest e h = absurd h
name_begins (b ∷ bs) line rest e h = subst (Begins begins_name) (sym e) h

named_line : (p : Place) (name : List ℕ) (q : Place) → BehindGap StyleNameHere p (Took name q) → Begins begins_name (ink p).line
named_line p name q k =
    subst (λ (r : Place). Begins begins_name r.line) (sym (gap_one p k.0 k.1)) (name_begins name k.0.line k.2.0 k.2.1.joined k.2.2)

closed_line : (p q : Place) → BehindGap (StyleSignHere close_brace NoClose) p (Took tt q) → (rest : List ℕ) × ((ink p).line ≡ close_brace ∷ rest)
closed_line p q k = (k.2.0, ap (λ (r : Place). r.line) (gap_one p k.0 k.1) ∙ k.2.1)

close_is_no_name : (line rest : List ℕ) → line ≡ close_brace ∷ rest → Begins begins_name line → ⊥
close_is_no_name line rest e h =
    let k : begins_name close_brace ≡ true = subst (Begins begins_name) e h in
    absurd (true≢false (sym k))

missing_line : (wrong : Complaint) (line : List ℕ) → IsMissing is_list_byte NoName wrong line → Begins is_list_byte line → ⊥
missing_line wrong [] h k = k
missing_line wrong (b ∷ bs) h k = absurd (true≢false (sym k ∙ h.0))

list_name : (line : List ℕ) → Begins begins_name line → Begins is_list_byte line
list_name [] h = h
list_name (b ∷ bs) h = by (b == close_brace) h where
  by : (t : Bool) → begins_name b ≡ true → (t || begins_name b) ≡ true
  by true h = refl
  by false h = h

list_close : (line rest : List ℕ) → line ≡ close_brace ∷ rest → Begins is_list_byte line
list_close line rest e = subst (Begins is_list_byte) (sym e) refl

one_missing : (line : List ℕ) (c d : Complaint) → IsMissing is_list_byte NoName c line → IsMissing is_list_byte NoName d line → c ≡ d
one_missing [] c d h k = h ∙ sym k
one_missing (b ∷ bs) c d h k = h.1 ∙ sym k.1

-- something that is neither a name nor the end of a list
missing_here : (p : Place) (wrong : Complaint) (to : Place) → Gap p to → IsMissing is_list_byte NoName wrong to.line
    → IsMissing is_list_byte NoName wrong (ink p).line
missing_here p wrong to g m = subst (λ (r : Place). IsMissing is_list_byte NoName wrong r.line) (sym (gap_one p to g)) m

names_one : (k : Kind) (rest : Rule) → One rest → (names names' : List (List ℕ)) (s : SoFar) (p : Place) (o o' : CommandEnd) → Names k names rest s p o
    → Names k names' rest s p o' → o ≡ o'
names_one k rest g [] [] s p o o' (inl h) (inl l) =
    let e = one_read (StyleSignHere close_brace NoClose) (λ p. brace_in 125 NoClose p p.line) (sign_agrees 125 NoClose) p (Took tt h.0) (Took tt l.0) h.1 l.1 in
    g s l.0 o o' (subst (λ q. rest s q o) (took_place tt tt h.0 l.0 e) h.2) l.2
names_one k rest g [] [] s p o o' (inl h) (inr (inl l)) =
    let c = closed_line p h.0 h.1 in
    absurd (missing_line l.0 (ink p).line (missing_here p l.0 l.1 l.2 l.3) (list_close (ink p).line c.0 c.1))
names_one k rest g [] [] s p o o' (inl h) (inr (inr l)) =
    let c = closed_line p h.0 h.1 in
    absurd (close_is_no_name (ink p).line c.0 c.1 (named_line p l.0 l.1 l.2))
names_one k rest g [] [] s p o o' (inr (inl h)) (inl l) =
    let c = closed_line p l.0 l.1 in
    absurd (missing_line h.0 (ink p).line (missing_here p h.0 h.1 h.2 h.3) (list_close (ink p).line c.0 c.1))
names_one k rest g [] [] s p o o' (inr (inr h)) (inl l) =
    let c = closed_line p l.0 l.1 in
    absurd (close_is_no_name (ink p).line c.0 c.1 (named_line p h.0 h.1 h.2))
names_one k rest g [] [] s p o o' (inr (inl h)) (inr (inl l)) =
    h.4 ∙ ap (λ c. ended_at (Some c) s h.1) (one_missing (ink p).line h.0 l.0 (missing_here p h.0 h.1 h.2 h.3) (missing_here p l.0 l.1 l.2 l.3))
    ∙ ap (λ q. ended_at (Some l.0) s q) (sym (gap_one p h.1 h.2) ∙ gap_one p l.1 l.2) ∙ sym l.4
names_one k rest g [] [] s p o o' (inr (inl h)) (inr (inr l)) =
    absurd (missing_line h.0 (ink p).line (missing_here p h.0 h.1 h.2 h.3) (list_name (ink p).line (named_line p l.0 l.1 l.2)))
names_one k rest g [] [] s p o o' (inr (inr h)) (inr (inl l)) =
    absurd (missing_line l.0 (ink p).line (missing_here p l.0 l.1 l.2 l.3) (list_name (ink p).line (named_line p h.0 h.1 h.2)))
names_one k rest g [] [] s p o o' (inr (inr h)) (inr (inr l)) =
    let e = one_name p h.0 l.0 h.1 l.1 h.2 l.2 in
    h.4 ∙ ap (λ n. ended_at (Some (NameTaken n)) s h.1) (took_value h.0 l.0 h.1 l.1 e)
    ∙ ap (λ q. ended_at (Some (NameTaken l.0)) s q) (took_place h.0 l.0 h.1 l.1 e) ∙ sym l.4
names_one k rest g [] (n ∷ ns) s p o o' (inl h) l =
    let c = closed_line p h.0 h.1 in
    absurd (close_is_no_name (ink p).line c.0 c.1 (named_line p n l.0 l.1))
names_one k rest g [] (n ∷ ns) s p o o' (inr (inl h)) l =
    absurd (missing_line h.0 (ink p).line (missing_here p h.0 h.1 h.2 h.3) (list_name (ink p).line (named_line p n l.0 l.1)))
names_one k rest g [] (n ∷ ns) s p o o' (inr (inr h)) l =
    let e = took_value h.0 n h.1 l.0 (one_name p h.0 n h.1 l.0 h.2 l.1) in
    absurd (true≢false (sym h.3 ∙ ap (λ m. is_some (meaning s m)) e ∙ l.2))
names_one k rest g (n ∷ ns) [] s p o o' h (inl l) =
    let c = closed_line p l.0 l.1 in
    absurd (close_is_no_name (ink p).line c.0 c.1 (named_line p n h.0 h.1))
names_one k rest g (n ∷ ns) [] s p o o' h (inr (inl l)) =
    absurd (missing_line l.0 (ink p).line (missing_here p l.0 l.1 l.2 l.3) (list_name (ink p).line (named_line p n h.0 h.1)))
names_one k rest g (n ∷ ns) [] s p o o' h (inr (inr l)) =
    let e = took_value l.0 n l.1 h.0 (one_name p l.0 n l.1 h.0 l.2 h.1) in
    absurd (true≢false (sym l.3 ∙ ap (λ m. is_some (meaning s m)) e ∙ h.2))
names_one k rest g (n ∷ ns) (m ∷ ms) s p o o' h l =
    let e = one_name p n m h.0 l.0 h.1 l.1 in
    let x = subst (λ q. Names k ns rest (and_name n (Declared k (folded n)) s) q o) (took_place n m h.0 l.0 e) h.3 in
    let y = subst (λ a. Names k ns rest (and_name a (Declared k (folded a)) s) l.0 o) (took_value n m h.0 l.0 e) x in
    names_one k rest g ns ms (and_name m (Declared k (folded m)) s) l.0 o o' y l.3

lists_one : (k : Kind) (rest : Rule) → One rest → One (Lists k rest)
lists_one k rest g = opened_one _ (λ s p o o' h l. names_one k rest g h.0 l.0 s p o o' h.1 l.1)

-- ---- bodies

one_word : (p q r : Place) (v w : BodyWord) → NextWord v p q → NextWord w p r → met v q ≡ met w r
one_word p q r v w h k = sym (token-met v p q h) ∙ token-met w p r k

same_word : (p q r : Place) (v w : BodyWord) → NextWord v p q → NextWord w p r → v ≡ w
same_word p q r v w h k = ap (λ (m : Met). m.word) (one_word p q r v w h k)

same_place : (p q r : Place) (v w : BodyWord) → NextWord v p q → NextWord w p r → q ≡ r
same_place p q r v w h k = ap (λ (m : Met). m.place) (one_word p q r v w h k)

no_close : (w : BodyWord) → Close ≡ w → IsPlain w → ⊥
no_close w e h = subst IsPlain (sym e) h

no_open : (w : BodyWord) → Open ≡ w → IsPlain w → ⊥
no_open w e h = subst IsPlain (sym e) h

close_open : Close ≡ Open → ⊥
close_open e = absurd (cc)

-- two that begin with a word of a body, and go on in the same way
plain_one : {R X : Type 0} (Are : R → Place → Place → Type 0) (make : ℕ → BodyWord → R → X) (line line' : ℕ) (w w' : BodyWord) (more more' : R) (p q r : Place)
    (h : (next : Place) × NextWord w p next × (line ≡ next.number) × IsPlain w × Are more next q)
    (k : (next : Place) × NextWord w' p next × (line' ≡ next.number) × IsPlain w' × Are more' next r)
    → (Are more k.0 q → Are more' k.0 r → (more ≡ more') × (q ≡ r)) → (make line w more ≡ make line' w' more') × (q ≡ r)
plain_one Are make line line' w w' more more' p q r h k go_on =
    let word = same_word p h.0 k.0 w w' h.1 k.1 in
    let place = same_place p h.0 k.0 w w' h.1 k.1 in
    let rest = go_on (subst (λ x. Are more x q) place h.4) k.4 in
    let lines : line ≡ line' = h.2 ∙ ap (λ (x : Place). x.number) place ∙ sym k.2 in
    (ap (λ l. make l w more) lines ∙ ap (λ v. make line' v more) word ∙ ap (make line' w') rest.0, rest.1)

-- two that begin with a group in braces, whose insides are the same, and go on in the same way
group_one : {R X : Type 0} (Are : R → Place → Place → Type 0) (make : Parts → R → X) (inside inside' : Parts) (more more' : R) (p q r : Place)
    (h : (first : Place) × (second : Place) × NextWord Open p first × AreBodyParts inside first second × Are more second q)
    (k : (first : Place) × (second : Place) × NextWord Open p first × AreBodyParts inside' first second × Are more' second r)
    → (AreBodyParts inside k.0 h.1 → AreBodyParts inside' k.0 k.1 → (inside ≡ inside') × (h.1 ≡ k.1))
    → (Are more k.1 q → Are more' k.1 r → (more ≡ more') × (q ≡ r)) → (make inside more ≡ make inside' more') × (q ≡ r)
group_one Are make inside inside' more more' p q r h k within go_on =
    let inner = within (subst (λ x. AreBodyParts inside x h.1) (same_place p h.0 k.0 Open Open h.2 k.2) h.3) k.3 in
    let rest = go_on (subst (λ x. Are more x q) inner.1 h.4) k.4 in
    (ap (λ i. make i more) inner.0 ∙ ap (make inside') rest.0, rest.1)

parts_one : (a b : Parts) (p q r : Place) → AreBodyParts a p q → AreBodyParts b p r → (a ≡ b) × (q ≡ r)
parts_one Nothing Nothing p q r h k = (refl, same_place p q r Close Close h k)
parts_one Nothing (Plain line w more) p q r h k = absurd (no_close w (same_word p q k.0 Close w h k.1) k.3)
parts_one Nothing (Group inside more) p q r h k = absurd (close_open (same_word p q k.0 Close Open h k.2))
parts_one (Plain line w more) Nothing p q r h k = absurd (no_close w (same_word p r h.0 Close w k h.1) h.3)
parts_one (Plain line w more) (Plain line' w' more') p q r h k =
    plain_one AreBodyParts Plain line line' w w' more more' p q r h k (parts_one more more' k.0 q r)
parts_one (Plain line w more) (Group inside more') p q r h k = absurd (no_open w (same_word p k.0 h.0 Open w k.2 h.1) h.3)
parts_one (Group inside more) Nothing p q r h k = absurd (close_open (same_word p r h.0 Close Open k h.2))
parts_one (Group inside more) (Plain line w more') p q r h k = absurd (no_open w (same_word p h.0 k.0 Open w h.2 k.1) k.3)
parts_one (Group inside more) (Group inside' more') p q r h k =
    group_one AreBodyParts Group inside inside' more more' p q r h k (parts_one inside inside' k.0 h.1 k.1) (parts_one more more' k.1 q r)

-- a word that breaks a body off is no part of one
abbrev Breaking : BodyWord → Type 0
Breaking w = (c : Complaint) × (breaks w ≡ Some c)

plain_no_break : (w : BodyWord) (c : Complaint) → IsPlain w → breaks w ≡ Some c → ⊥
plain_no_break Open c h e = h
plain_no_break Close c h e = h
plain_no_break (words.String text) c h e = absurd (cc)
plain_no_break (words.Integer value) c h e = absurd (cc)
plain_no_break (words.Quoted name) c h e = absurd (cc)
plain_no_break (words.Name name) c h e = absurd (cc)
plain_no_break (words.Faulty complaint) c h e = absurd (cc)
plain_no_break Unended c h e = h
plain_no_break Ended c h e = h

close_no_break : (w : BodyWord) (c : Complaint) → Close ≡ w → breaks w ≡ Some c → ⊥
close_no_break w c e h = let k : breaks Close ≡ Some c = subst (λ v. breaks v ≡ Some c) (sym e) h in absurd (cc)

open_no_break : (w : BodyWord) (c : Complaint) → Open ≡ w → breaks w ≡ Some c → ⊥
open_no_break w c e h = let k : breaks Open ≡ Some c = subst (λ v. breaks v ≡ Some c) (sym e) h in absurd (cc)

plain_is_no : (v w : BodyWord) (c : Complaint) → v ≡ w → IsPlain v → breaks w ≡ Some c → ⊥
plain_is_no v w c e h k = plain_no_break w c (subst IsPlain e h) k

parts_break : (a : Parts) (f : Fragment) (p q r : Place) → AreBodyParts a p q → BreakOff f p r → ⊥
parts_break Nothing (Here c) p q r h k = close_no_break k.0 c (same_word p q r Close k.0 h k.1) k.2
parts_break Nothing (After line w more) p q r h k = no_close w (same_word p q k.0 Close w h k.1) k.3
parts_break Nothing (AfterGroup inside more) p q r h k = close_open (same_word p q k.0 Close Open h k.2)
parts_break Nothing (Inner inside) p q r h k = close_open (same_word p q k.0 Close Open h k.1)
parts_break (Plain line w more) (Here c) p q r h k = plain_is_no w k.0 c (same_word p h.0 r w k.0 h.1 k.1) h.3 k.2
parts_break (Plain line w more) (After line' w' more') p q r h k =
    parts_break more more' k.0 q r (subst (λ x. AreBodyParts more x q) (same_place p h.0 k.0 w w' h.1 k.1) h.4) k.4
parts_break (Plain line w more) (AfterGroup inside more') p q r h k = no_open w (same_word p k.0 h.0 Open w k.2 h.1) h.3
parts_break (Plain line w more) (Inner inside) p q r h k = no_open w (same_word p k.0 h.0 Open w k.1 h.1) h.3
parts_break (Group inside more) (Here c) p q r h k = open_no_break k.0 c (same_word p h.0 r Open k.0 h.2 k.1) k.2
parts_break (Group inside more) (After line w more') p q r h k = no_open w (same_word p h.0 k.0 Open w h.2 k.1) k.3
parts_break (Group inside more) (AfterGroup inside' more') p q r h k =
    let place = same_place p h.0 k.0 Open Open h.2 k.2 in
    let inner = parts_one inside inside' k.0 h.1 k.1 (subst (λ x. AreBodyParts inside x h.1) place h.3) k.3 in
    parts_break more more' k.1 q r (subst (λ x. AreBodyParts more x q) inner.1 h.4) k.4
parts_break (Group inside more) (Inner inside') p q r h k =
    parts_break inside inside' k.0 h.1 r (subst (λ x. AreBodyParts inside x h.1) (same_place p h.0 k.0 Open Open h.2 k.1) h.3) k.2

some_one : (c d : Complaint) → Some c ≡ Some d → c ≡ d
some_one c d e = cc

break_one : (f g : Fragment) (p q r : Place) → BreakOff f p q → BreakOff g p r → (f ≡ g) × (q ≡ r)
break_one (Here c) (Here d) p q r h k =
    let word = same_word p q r h.0 k.0 h.1 k.1 in
    (ap Here (some_one c d (sym h.2 ∙ ap breaks word ∙ k.2)), same_place p q r h.0 k.0 h.1 k.1)
break_one (Here c) (After line w more) p q r h k = absurd (plain_is_no w h.0 c (same_word p k.0 q w h.0 k.1 h.1) k.3 h.2)
break_one (Here c) (AfterGroup inside more) p q r h k = absurd (open_no_break h.0 c (same_word p k.0 q Open h.0 k.2 h.1) h.2)
break_one (Here c) (Inner inside) p q r h k = absurd (open_no_break h.0 c (same_word p k.0 q Open h.0 k.1 h.1) h.2)
break_one (After line w more) (Here c) p q r h k = absurd (plain_is_no w k.0 c (same_word p h.0 r w k.0 h.1 k.1) h.3 k.2)
break_one (After line w more) (After line' w' more') p q r h k =
    plain_one BreakOff After line line' w w' more more' p q r h k (break_one more more' k.0 q r)
break_one (After line w more) (AfterGroup inside more') p q r h k = absurd (no_open w (same_word p k.0 h.0 Open w k.2 h.1) h.3)
break_one (After line w more) (Inner inside) p q r h k = absurd (no_open w (same_word p k.0 h.0 Open w k.1 h.1) h.3)
break_one (AfterGroup inside more) (Here c) p q r h k = absurd (open_no_break k.0 c (same_word p h.0 r Open k.0 h.2 k.1) k.2)
break_one (AfterGroup inside more) (After line w more') p q r h k = absurd (no_open w (same_word p h.0 k.0 Open w h.2 k.1) k.3)
break_one (AfterGroup inside more) (AfterGroup inside' more') p q r h k =
    group_one BreakOff AfterGroup inside inside' more more' p q r h k (parts_one inside inside' k.0 h.1 k.1) (break_one more more' k.1 q r)
break_one (AfterGroup inside more) (Inner inside') p q r h k =
    absurd (parts_break inside inside' k.0 h.1 r (subst (λ x. AreBodyParts inside x h.1) (same_place p h.0 k.0 Open Open h.2 k.1) h.3) k.2)
break_one (Inner inside) (Here c) p q r h k = absurd (open_no_break k.0 c (same_word p h.0 r Open k.0 h.1 k.1) k.2)
break_one (Inner inside) (After line w more) p q r h k = absurd (no_open w (same_word p h.0 k.0 Open w h.1 k.1) k.3)
break_one (Inner inside) (AfterGroup inside' more) p q r h k =
    absurd (parts_break inside' inside h.0 k.1 q (subst (λ x. AreBodyParts inside' x k.1) (same_place p k.0 h.0 Open Open k.2 h.1) k.3) h.2)
break_one (Inner inside) (Inner inside') p q r h k =
    let rest = break_one inside inside' k.0 q r (subst (λ x. BreakOff inside x q) (same_place p h.0 k.0 Open Open h.1 k.1) h.2) k.2 in
    (ap Inner rest.0, rest.1)

body_one : (name : List ℕ) → One (HasBody name)
body_one name s p o o' (inl h) (inl k) =
    let same = parts_one h.0 k.0 p h.1 k.1 h.2 k.2 in
    h.3 ∙ ap (λ a. ended_at None (and_name name (Defined (folded name) (body_of (meaning s) a)) (and_says (wrong_in (meaning s) a) s)) h.1) same.0
    ∙ ap (λ q. ended_at None (and_name name (Defined (folded name) (body_of (meaning s) k.0)) (and_says (wrong_in (meaning s) k.0) s)) q) same.1 ∙ sym k.3
body_one name s p o o' (inl h) (inr k) = absurd (parts_break h.0 k.0 p h.1 k.1 h.2 k.2)
body_one name s p o o' (inr h) (inl k) = absurd (parts_break k.0 h.0 p k.1 h.1 k.2 h.2)
body_one name s p o o' (inr h) (inr k) =
    let same = break_one h.0 k.0 p h.1 k.1 h.2 k.2 in
    h.3 ∙ ap (λ f. ended_at (Some (complaint_in f)) (and_says (wrong_till (meaning s) f) s) h.1) same.0
    ∙ ap (λ q. ended_at (Some (complaint_in k.0)) (and_says (wrong_till (meaning s) k.0) s) q) same.1 ∙ sym k.3

-- ---- commands

function_one : (f g : Function) → Some f ≡ Some g → f ≡ g
function_one f g e = cc

executes_one : (command : CommandName) (made : Function → Command) → One (Executes command made)
executes_one command made = where_one _ _ _ (opened_one _ (named_one _ by)) where
  by : (name : List ℕ) → One (λ style from o.
      ((f : Function) × (meaning style name ≡ Some f) × (is_function f ≡ true) × Closed (HasEffect (and_command (made f))) style from o)
      ⊎ (((f : Function) → meaning style name ≡ Some f → is_function f ≡ true → ⊥) × (o ≡ ended_at (Some (Unknown name)) style from)))
  by name s p o o' (inl h) (inl k) =
      let same = function_one h.0 k.0 (sym h.1 ∙ k.1) in
      closed_one (HasEffect (and_command (made k.0))) (makes_one (and_command (made k.0))) s p o o'
      (subst (λ f. Closed (HasEffect (and_command (made f))) s p o) same h.3) k.3
  by name s p o o' (inl h) (inr k) = absurd (k.0 h.0 h.1 h.2)
  by name s p o o' (inr h) (inl k) = absurd (h.0 k.0 k.1 k.2)
  by name s p o o' (inr h) (inr k) = h.1 ∙ sym k.1

behind_one : (c : CommandName) → One (Arguments c)
behind_one = behind_by One opened_one closed_one named_one text_one where_one makes_one lists_one body_one executes_one

command_name : (c d : CommandName) → Some c ≡ Some d → c ≡ d
command_name c d e = cc

one_command : (letters : List ℕ) (c d : CommandName) → IsWordOf c letters → IsWordOf d letters → c ≡ d
one_command letters c d h k = command_name c d (sym (word_named c) ∙ ap command_named (sym h ∙ k) ∙ word_named d)

word_one : (letters : List ℕ) → One (CommandNamed letters)
word_one letters s p o o' (inl h) (inl k) =
    behind_one k.0 s p o o' (subst (λ c. Arguments c s p o) (one_command letters h.0 k.0 h.1 k.1) h.2) k.2
word_one letters s p o o' (inl h) (inr k) = absurd (k.0 h.0 h.1)
word_one letters s p o o' (inr h) (inl k) = absurd (h.0 k.0 k.1)
word_one letters s p o o' (inr h) (inr k) = h.1 ∙ sym k.1

command_one : One (Next LettersHere CommandNamed)
command_one = next_one LettersHere letters_at CommandNamed letters_agrees word_one

-- ---- styles

one_gap : (p q r : Place) → Gap p q → Gap p r → q ≡ r
one_gap p q r g h = sym (gap_one p q g) ∙ gap_one p r h

pub skips_one : (p q : Place) → Skips p q → skipped p ≡ q
skips_one p q h = at h.2 where
  at : ((after : List (List ℕ)) × (p.after ≡ h.0 ++ [] ∷ after) × (q ≡ place_at (p.number + length h.0 + 1) [] after))
      ⊎ ((p.after ≡ h.0) × (q ≡ place_at (p.number + length h.0) [] [])) → skipped p ≡ q
  at (inl k) = ap (skipped_from p.number) k.1 ∙ skipped-lines p.number p.line h.0 k.0 h.1 ∙ sym k.2
  at (inr k) = ap (skipped_from p.number) k.0 ∙ skipped-to_end p.number p.line h.0 h.1 ∙ sym k.1

follows_one : (o : CommandEnd) (w : Option Complaint) (s s' : SoFar) (p p' : Place) → FollowsOn o w s p → FollowsOn o w s' p' → (s ≡ s') × (p ≡ p')
follows_one o None s s' p p' h k = (h.0 ∙ sym k.0, h.1 ∙ sym k.1)
follows_one o (Some c) s s' p p' h k = (h.1 ∙ sym k.1, sym (skips_one o.place p h.0) ∙ skips_one o.place p' k.0)

commands_one : (os os' : List CommandEnd) (s : SoFar) (p : Place) (end end' : SoFar) → AreCommands os s p end → AreCommands os' s p end' → end ≡ end'
commands_one [] [] s p end end' h k = h.3 ∙ sym k.3
commands_one [] (o ∷ os) s p end end' h k = absurd (k.2 (ap (λ (r : Place). r.line) (one_gap p k.0 h.0 k.1 h.1) ∙ h.2))
commands_one (o ∷ os) [] s p end end' h k = absurd (h.2 (ap (λ (r : Place). r.line) (one_gap p h.0 k.0 h.1 k.1) ∙ k.2))
commands_one (o ∷ os) (x ∷ xs) s p end end' h k =
    let here = one_gap p h.0 k.0 h.1 k.1 in
    let same = command_one s k.0 o x (subst (λ q. Next LettersHere CommandNamed s q o) here h.3) k.3 in
    let goes = follows_one x x.wrong h.4 k.4 h.5 k.5 (subst (λ (y : CommandEnd). FollowsOn y y.wrong h.4 h.5) same h.6) k.6 in
    let style = subst (λ t. AreCommands os t h.5 end) goes.0 h.7 in
    commands_one os xs k.4 k.5 end end' (subst (λ q. AreCommands os k.4 q end) goes.1 style) k.7

pub style_one : (file text : List ℕ) (a b : Style) → IsStyle file text a → IsStyle file text b → a ≡ b
style_one file text a b h k =
    h.3 ∙ ap (λ (end : SoFar). record {
      commands = end.commands;
      is_field = λ name. is_a_field (end.names name);
      macros = end.macros;
      types = unwrap_or end.types (λ name. None);
    }) (commands_one h.0 k.0 (initial_style file) (beginning text) h.1 k.1 h.2 k.2) ∙ sym k.3
