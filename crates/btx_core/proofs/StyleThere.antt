-- Each text is a style: commands, one after another, and its end.
use Rattle.std.proofs.Common.{◌≡◌, ◌⊎◌, inl, inr, ℕ, zero, suc, ◌+◌, ◌<◌, ◌≤◌, ◌==◌, ◌||◌, Bool, true, false, List, [], ◌∷◌, ◌++◌, length, Option, None}
use Rattle.std.proofs.Common.{Some, is_some, unwrap_or, sym, ap, subst, ◌∙◌, refl, arith, true≢false}
use Rattle.btx_text.specs.language.Class.{begins_name}
use Rattle.btx_text.specs.language.Keys.{folded}
use Rattle.btx_text.specs.laws.Bytes.{open_brace, close_brace}
use Rattle.btx_bst.specs.declared.callee.Kind.{Kind}
use Rattle.btx_bst.specs.declared.command.Command.{Command as CommandName}
use Rattle.btx_bst.specs.language.Places.{Place, ink, place_at, size}
use Rattle.btx_bst.specs.language.Reads.{Read, Took, Mistake}
use Rattle.btx_bst.specs.language.Complaints.{Complaint, NoOpen, NoClose, NoName, NoCommand, NotCommand, Unknown, NoQuoteEnd, EndOfFile}
use Rattle.btx_bst.specs.language.Complaints.{Defined as NameTaken}
use Rattle.btx_bst.specs.language.Lists.{brace_in, name_in, quoted_in, letters_at, closing, next_name}
use Rattle.btx_bst.specs.language.Words.{BodyWord, Open, Close, Unended, Ended, met, met_at}
use Rattle.btx_bst.specs.language.Words as words
use Rattle.btx_bst.specs.language.Commands.{command_named}
use Rattle.btx_bst.specs.laws.Spelling.{Parts, Nothing, Plain, Group, IsPlain, Spells, Fragment, Here, After, AfterGroup, Inner, Breaks, Division, complaint_in}
use Rattle.btx_bst.specs.laws.TokenSpelling.{StyleGrammar, Gap, BehindGap, IsMissing, StyleSignHere, StyleNameHere, TextHere, LettersHere}
use Rattle.btx_bst.specs.laws.CommandSpelling.{IsWordOf, Skips}
use Rattle.btx_bst.specs.laws.Places.{beginning}
use Rattle.btx_bst.proofs.CommandSpellingLemmas.{Full, IsItsWord, full_lines, named_word, word_named}
use Rattle.btx_bst.proofs.TokenSpellingLemmas.{gap_met, gap_one, Agrees, spaced, sign_agrees, name_agrees, text_agrees, letters_agrees}
use Rattle.btx_bst.proofs.WordSpellingLemmas.{spelled-parts, spelled-break}
use Rattle.btx_bst.proofs.SizeLemmas.{ink-size, skipped-size}
use Rattle.btx_bst.proofs.ListLemmas.{Sized, closing-size, opening-size, name_at-size, quoted_at-size, front_of-size}
use Rattle.btx_bst.proofs.BodyTurnLemmas.{is_ended, met_at-size}
use Rattle.btx_core.specs.language.Styles.{Function, Declared, Defined, Command, Style}
use Rattle.btx_core.specs.language.StyleTexts.{SoFar, meaning, initial_style, and_name, and_command, and_says, CommandEnd, ended_at, Rule, Next, Opened, Closed, Requires}
use Rattle.btx_core.specs.language.StyleTexts.{HasEffect, Names, Lists, body_of, wrong_in, wrong_till, HasBody, is_function, Executes, Arguments, CommandNamed, FollowsOn}
use Rattle.btx_core.specs.language.StyleTexts.{AreCommands, IsStyle, is_a_field}
use Rattle.btx_core.proofs.RuleLemmas.{behind_by}
use Rattle.btx_core.proofs.StyleLemmas.{skips_one, is_list_byte}
use Rattle.btx_bst.proofs.WrittenLemmas.{ink_twice}

-- a rule gives what a command comes to, from each place on, and ends no further from the end of the text
abbrev Has : Rule → Type 0
Has R = (n : ℕ) (s : SoFar) (p : Place) → size p ≤ n → (o : CommandEnd) × R s p o × (size o.place ≤ n)

unfoldable pub next_has : {A : Type 0} (R : StyleGrammar A) (r : Place → Read A) (rest : A → Rule) → Agrees R r → ((p : Place) → Sized (size p) (r (ink p)))
    → ((a : A) → Has (rest a)) → Has (Next R rest)
next_has {A} R r rest h sized g n s p le = by (r (ink p)) ((spaced R r h).met p) (sized p) where
  by : (x : Read A) → BehindGap R p x → Sized (size p) x → (o : CommandEnd) × Next R rest s p o × (size o.place ≤ n)
  by (Took a q) m z = let k = g a n s q (omega (arith, z, le)) in (k.0, inl (a, q, m, k.1), k.2)
  by (Mistake c q) m z = (ended_at (Some c) s q, inr (c, q, m, refl), omega (arith, z, le))

unfoldable pub opened_has : (rest : Rule) → Has rest → Has (Opened rest)
opened_has rest g = next_has (StyleSignHere open_brace NoOpen) (λ p. brace_in 123 NoOpen p p.line) (λ none. rest) (sign_agrees 123 NoOpen) opening-size
    (λ none. g)

unfoldable pub closed_has : (rest : Rule) → Has rest → Has (Closed rest)
closed_has rest g = next_has (StyleSignHere close_brace NoClose) (λ p. brace_in 125 NoClose p p.line) (λ none. rest) (sign_agrees 125 NoClose) closing-size
    (λ none. g)

unfoldable pub named_has : (rest : List ℕ → Rule) → ((name : List ℕ) → Has (rest name)) → Has (Next StyleNameHere rest)
named_has rest g = next_has StyleNameHere (λ p. name_in p p.line) rest name_agrees name_at-size g

unfoldable pub text_has : (rest : List ℕ → Rule) → ((text : List ℕ) → Has (rest text)) → Has (Next TextHere rest)
text_has rest g = next_has TextHere (λ p. quoted_in p p.line) rest text_agrees quoted_at-size g

unfoldable pub where_has : (test : SoFar → Bool) (wrong : Complaint) (rest : Rule) → Has rest → Has (Requires test wrong rest)
where_has test wrong rest g n s p le = by (test s) refl where
  by : (t : Bool) → test s ≡ t → (o : CommandEnd) × Requires test wrong rest s p o × (size o.place ≤ n)
  by true e = let k = g n s p le in (k.0, inl (e, k.1), k.2)
  by false e = (ended_at (Some wrong) s p, inr (e, refl), le)

unfoldable pub makes_has : (change : SoFar → SoFar) → Has (HasEffect change)
makes_has change n s p le = (ended_at None (change s) p, refl, le)

-- ---- lists

unfoldable pub missing_both : (c d : Complaint) (line : List ℕ) → IsMissing (λ b. b == close_brace) NoClose c line → IsMissing begins_name NoName d line
    → IsMissing is_list_byte NoName d line
missing_both c d [] h k = k
missing_both c d (b ∷ bs) h k = (by (b == close_brace) (begins_name b) h.0 k.0, k.1) where
  by : (t u : Bool) → t ≡ false → u ≡ false → (t || u) ≡ false
  by true u h k = h
  by false u h k = k

unfoldable pub gap_same : (p q r : Place) → Gap p q → Gap p r → q ≡ r
gap_same p q r g h = sym (gap_one p q g) ∙ gap_one p r h

abbrev NamesFrom : Kind → Rule → ℕ → SoFar → Place → Type 0
NamesFrom k rest n s p = (o : CommandEnd) × ((names : List (List ℕ)) × Names k names rest s p o) × (size o.place ≤ n)

unfoldable pub names_within : (m : ℕ) (k : Kind) (rest : Rule) → Has rest → (n : ℕ) (s : SoFar) (p : Place) → size p ≤ n → size p < m → NamesFrom k rest n s p
names_within zero k rest g n s p le lt = absurd (omega (arith, lt))
names_within (suc m) k rest g n s p le lt =
    by (closing p) ((spaced (StyleSignHere close_brace NoClose) (λ p. brace_in 125 NoClose p p.line) (sign_agrees 125 NoClose)).met p) (closing-size p)
    (next_name p) ((spaced StyleNameHere (λ p. name_in p p.line) name_agrees).met p) (name_at-size p)
    (λ s q le lt. names_within m k rest g n s q le lt) where
      by : (x : Read (Unit {0})) → BehindGap (StyleSignHere close_brace NoClose) p x → Sized (size p) x → (y : Read (List ℕ)) → BehindGap StyleNameHere p y
          → Sized (size p) y
          → ((s : SoFar) (q : Place) → size q ≤ n → size q < m → NamesFrom k rest n s q) → NamesFrom k rest n s p
      by (Took none q) h z y i u again = let r = g n s q (omega (arith, z, le)) in (r.0, ([], inl (q, h, r.1)), r.2)
      by (Mistake c q) h z (Mistake d r) i u again =
          let here = gap_same p i.0 h.0 i.1 h.1 in
          let missing = missing_both c d i.0.line (subst (λ (x : Place). IsMissing (λ b. b == close_brace) NoClose c x.line) (sym here) h.2.1) i.2.1 in (
            ended_at (Some d) s i.0,
            ([], inr (inl (d, i.0, i.1, missing, refl))),
            omega (arith, le, subst (λ (x : Place). size x ≤ size p) (gap_one p i.0 i.1) (ink-size p)),
          )
      by (Mistake c q) h z (Took name r) i u again = taken (is_some (meaning s name)) refl where
        taken : (t : Bool) → is_some (meaning s name) ≡ t → NamesFrom k rest n s p
        taken true e = (ended_at (Some (NameTaken name)) s r, ([], inr (inr (name, r, i, e, refl))), omega (arith, u, le))
        taken false e =
            let more = again (and_name name (Declared k (folded name)) s) r (omega (arith, u, le)) (omega (arith, u, lt)) in
            (more.0, (name ∷ more.1.0, (r, i, e, more.1.1)), more.2)

unfoldable pub lists_has : (k : Kind) (rest : Rule) → Has rest → Has (Lists k rest)
lists_has k rest g = opened_has _ (λ n s p le. names_within (suc (size p)) k rest g n s p le (omega arith))

-- ---- bodies

unfoldable pub met-less : (p q : Place) (w : BodyWord) → met_at p ≡ met w q → is_ended w ≡ false → size q < size p
met-less p q w e h =
    let s = met_at-size p in
    let t : (is_ended w ≡ false) → size q < size p = rw e at s.1 in t h

unfoldable pub met-most : (p q : Place) (w : BodyWord) → met_at p ≡ met w q → size q ≤ size p
met-most p q w e = let s = met_at-size p in rw e at s.0

unfoldable pub plain-less : (w : BodyWord) → IsPlain w → is_ended w ≡ false
plain-less Open h = refl
plain-less Close h = refl
plain-less (words.String text) h = refl
plain-less (words.Integer value) h = refl
plain-less (words.Quoted name) h = refl
plain-less (words.Name name) h = refl
plain-less (words.Faulty c) h = refl
plain-less Unended h = refl
plain-less Ended h = absurd h

unfoldable pub spells-less : (parts : Parts) (p q : Place) → Spells parts p q → size q < size p
spells-less Nothing p q h = met-less p q Close h refl
spells-less (Plain line w more) p q h =
    let a = met-less p h.0 w h.1 (plain-less w h.3) in let b = spells-less more h.0 q h.4 in omega (arith, a, b)
spells-less (Group inside more) p q h =
    let a = met-less p h.0 Open h.2 refl in let b = spells-less inside h.0 h.1 h.3 in let d = spells-less more h.1 q h.4 in omega (arith, a, b, d)

unfoldable pub breaks-most : (f : Fragment) (p q : Place) → Breaks f p q → size q ≤ size p
breaks-most (Here c) p q h = met-most p q h.0 h.1
breaks-most (After line w more) p q h =
    let a = met-less p h.0 w h.1 (plain-less w h.3) in let b = breaks-most more h.0 q h.4 in omega (arith, a, b)
breaks-most (AfterGroup inside more) p q h =
    let a = met-less p h.0 Open h.2 refl in let b = spells-less inside h.0 h.1 h.3 in let d = breaks-most more h.1 q h.4 in omega (arith, a, b, d)
breaks-most (Inner inside) p q h = let a = met-less p h.0 Open h.1 refl in let b = breaks-most inside h.0 q h.2 in omega (arith, a, b)

unfoldable pub plain_divided : (p q : Place) (w : BodyWord) → met_at p ≡ met w q → IsPlain w → Division q → Division p
plain_divided p q w e h (inl d) = inl (Plain q.number w d.0, d.1, (q, e, refl, h, d.2))
plain_divided p q w e h (inr d) = inr (After q.number w d.0, d.1, (q, e, refl, h, d.2))

unfoldable pub rest_divided : (p q s : Place) (inside : Parts) → met_at p ≡ met Open q → Spells inside q s → Division s → Division p
rest_divided p q s inside e h (inl d) = inl (Group inside d.0, d.1, (q, s, e, h, d.2))
rest_divided p q s inside e h (inr d) = inr (AfterGroup inside d.0, d.1, (q, s, e, h, d.2))

unfoldable pub open_divided : (p q : Place) → met_at p ≡ met Open q → ((s : Place) → size s < size q → Division s) → Division q → Division p
open_divided p q e more (inl d) = rest_divided p q d.1 d.0 e d.2 (more d.1 (spells-less d.0 q d.1 d.2))
open_divided p q e more (inr d) = inr (Inner d.0, d.1, (q, e, d.2))

unfoldable pub word_divided : (p q : Place) (w : BodyWord) → met_at p ≡ met w q → ((s : Place) → size s < size p → Division s) → Division p
word_divided p q Open e more =
    let l = met-less p q Open e refl in
    open_divided p q e (λ s h. more s (omega arith)) (more q l)
word_divided p q Close e more = inl (Nothing, q, e)
word_divided p q (words.String text) e more = plain_divided p q (words.String text) e tt (more q (met-less p q (words.String text) e refl))
word_divided p q (words.Integer value) e more = plain_divided p q (words.Integer value) e tt (more q (met-less p q (words.Integer value) e refl))
word_divided p q (words.Quoted name) e more = plain_divided p q (words.Quoted name) e tt (more q (met-less p q (words.Quoted name) e refl))
word_divided p q (words.Name name) e more = plain_divided p q (words.Name name) e tt (more q (met-less p q (words.Name name) e refl))
word_divided p q (words.Faulty c) e more = plain_divided p q (words.Faulty c) e tt (more q (met-less p q (words.Faulty c) e refl))
word_divided p q Unended e more = inr (Here NoQuoteEnd, q, (Unended, e, refl))
word_divided p q Ended e more = inr (Here EndOfFile, q, (Ended, e, refl))

unfoldable pub divided_within : (n : ℕ) (p : Place) → size p < n → Division p
divided_within zero p h = absurd (omega arith)
divided_within (suc n) p h = word_divided p (met_at p).place (met_at p).word refl (λ s l. divided_within n s (omega arith))

unfoldable pub divided : (p : Place) → Division p
divided p = divided_within (suc (size p)) p (omega arith)

unfoldable pub body_has : (name : List ℕ) → Has (HasBody name)
body_has name n s p le = by (divided p) where
  by : Division p → (o : CommandEnd) × HasBody name s p o × (size o.place ≤ n)
  by (inl h) = (
    ended_at None (and_name name (Defined (folded name) (body_of (meaning s) h.0)) (and_says (wrong_in (meaning s) h.0) s)) h.1,
    inl (h.0, h.1, spelled-parts h.0 p h.1 h.2, refl),
    omega (arith, le, spells-less h.0 p h.1 h.2),
  )
  by (inr h) = (
    ended_at (Some (complaint_in h.0)) (and_says (wrong_till (meaning s) h.0) s) h.1,
    inr (h.0, h.1, spelled-break h.0 p h.1 h.2, refl),
    omega (arith, le, breaks-most h.0 p h.1 h.2),
  )

-- ---- commands

unfoldable pub some_function : (f g : Function) → Some f ≡ Some g → f ≡ g
some_function f g e = cc

unfoldable pub executes_has : (command : CommandName) (made : Function → Command) → Has (Executes command made)
executes_has command made = where_has _ _ _ (opened_has _ (named_has _ by)) where
  by : (name : List ℕ) → Has (λ style from o.
      ((f : Function) × (meaning style name ≡ Some f) × (is_function f ≡ true) × Closed (HasEffect (and_command (made f))) style from o)
      ⊎ (((f : Function) → meaning style name ≡ Some f → is_function f ≡ true → ⊥) × (o ≡ ended_at (Some (Unknown name)) style from)))
  by name n s p le = of (meaning s name) refl where
    of : (m : Option Function) → meaning s name ≡ m → (o : CommandEnd)
        × (((f : Function) × (meaning s name ≡ Some f) × (is_function f ≡ true) × Closed (HasEffect (and_command (made f))) s p o)
        ⊎ (((f : Function) → meaning s name ≡ Some f → is_function f ≡ true → ⊥) × (o ≡ ended_at (Some (Unknown name)) s p))) × (size o.place ≤ n)
    of None e = (ended_at (Some (Unknown name)) s p, inr ((λ f h k. absurd (none_some f (sym e ∙ h))), refl), le) where
      none_some : (f : Function) → None ≡ Some f → ⊥
      none_some f e = absurd (cc)
    of (Some f) e = is (is_function f) refl where
      is : (t : Bool) → is_function f ≡ t → (o : CommandEnd)
          × (((f : Function) × (meaning s name ≡ Some f) × (is_function f ≡ true) × Closed (HasEffect (and_command (made f))) s p o)
          ⊎ (((f : Function) → meaning s name ≡ Some f → is_function f ≡ true → ⊥) × (o ≡ ended_at (Some (Unknown name)) s p))) × (size o.place ≤ n)
      is true k = let r = closed_has (HasEffect (and_command (made f))) (makes_has (and_command (made f))) n s p le in (r.0, inl (f, e, k, r.1), r.2)
      is false k = (
        ended_at (Some (Unknown name)) s p,
        inr ((λ g h l. absurd (true≢false (sym l ∙ ap is_function (some_function g f (sym h ∙ e)) ∙ k))), refl),
        le,
      )

unfoldable pub behind_has : (c : CommandName) → Has (Arguments c)
behind_has = behind_by Has opened_has closed_has named_has text_has where_has makes_has lists_has body_has executes_has

unfoldable pub no_word : (letters : List ℕ) → command_named (folded letters) ≡ None → (c : CommandName) → IsWordOf c letters → ⊥
no_word letters e c h = let f : command_named (folded letters) ≡ Some c = ap command_named h ∙ word_named c in absurd (cc)

unfoldable pub word_has : (letters : List ℕ) → Has (CommandNamed letters)
word_has letters n s p le = by (command_named (folded letters)) refl (named_word (folded letters)) where
  by : (o : Option CommandName) → command_named (folded letters) ≡ o → IsItsWord (folded letters) o → (end : CommandEnd) × CommandNamed letters s p end
      × (size end.place ≤ n)
  by None e w = (ended_at (Some (NotCommand letters)) s p, inr (no_word letters e, refl), le)
  by (Some c) e w = let k = behind_has c n s p le in (k.0, inl (c, w, k.1), k.2)

-- ---- styles

unfoldable pub skips_met : (p : Place) → (q : Place) × Skips p q
skips_met p = split (full_lines p.after) where
  split : Full p.after → (q : Place) × Skips p q
  split h = at h.2 where
    at : ((after : List (List ℕ)) × (p.after ≡ h.0 ++ [] ∷ after)) ⊎ (p.after ≡ h.0) → (q : Place) × Skips p q
    at (inl k) = (place_at (p.number + length h.0 + 1) [] k.0, (h.0, h.1, inl (k.0, k.1, refl)))
    at (inr k) = (place_at (p.number + length h.0) [] [], (h.0, h.1, inr (k, refl)))

unfoldable pub skips-most : (p q : Place) → Skips p q → size q + length p.line ≤ size p
skips-most p q h = subst (λ (x : Place). size x + length p.line ≤ size p) (skips_one p q h) (skipped-size p)

-- where the next command is looked for: nearer to the end, if the fault is nearer, or something stands where it is met
abbrev Follows : CommandEnd → ℕ → Type 0
Follows o n = (s : SoFar) × (p : Place) × FollowsOn o o.wrong s p × (size p < n)

unfoldable pub follows_by : (o : CommandEnd) (w : Option Complaint) (n : ℕ) → (size o.place < n)
    ⊎ ((size o.place ≤ n) × (0 < length o.place.line) × (is_some w ≡ true)) → (s : SoFar) × (p : Place) × FollowsOn o w s p × (size p < n)
follows_by o None n (inl lt) = (o.style, o.place, (refl, refl), lt)
follows_by o None n (inr h) = absurd (true≢false (sym h.2))
follows_by o (Some c) n (inl lt) =
    let k = skips_met o.place in
    let z = skips-most o.place k.0 k.1 in
    (and_says ((c, o.place.number) ∷ []) o.style, k.0, (k.1, refl), omega (arith, z, lt))
follows_by o (Some c) n (inr h) =
    let k = skips_met o.place in
    let z = skips-most o.place k.0 k.1 in
    (and_says ((c, o.place.number) ∷ []) o.style, k.0, (k.1, refl), omega (arith, z, h.0, h.1))

-- a command where something stands
abbrev Begun : SoFar → Place → Type 0
Begun s p = (o : CommandEnd) × Next LettersHere CommandNamed s p o
    × ((size o.place < size p) ⊎ ((size o.place ≤ size p) × (0 < length o.place.line) × (is_some o.wrong ≡ true)))

unfoldable pub begun : (s : SoFar) (p : Place) → Gap p p → 0 < length p.line → Begun s p
begun s p g some = by (letters_at p) (letters_agrees.met p) (front_of-size NoCommand p p.line _ (size p) refl some (omega arith)) where
  by : (x : Read (List ℕ)) → LettersHere p x → Sized (size p) x → Begun s p
  by (Took word q) h z =
      let k = word_has word (size q) s q (omega arith) in
      (k.0, inl (word, q, (p, g, h), k.1), inl (omega (arith, k.2, z)))
  by (Mistake c q) h z = (ended_at (Some c) s q, inr (c, q, (p, g, h), refl), inr (z, subst (λ (x : Place). 0 < length x.line) (sym h.0) some, refl))

unfoldable pub gap_again : (p : Place) → Gap (ink p) (ink p)
gap_again p = subst (Gap (ink p)) (ink_twice p) (gap_met (ink p))

abbrev Commands : SoFar → Place → Type 0
Commands s p = (os : List CommandEnd) × (end : SoFar) × AreCommands os s p end

unfoldable pub commands_by : (m : ℕ) (s : SoFar) (p here : Place) → Gap p here → Gap here here → size here ≤ size p → (line : List ℕ) → here.line ≡ line
    → ((t : SoFar) (q : Place) → size q < size p → Commands t q) → Commands s p
commands_by m s p here g g' le [] e more = ([], s, (here, g, e, refl))
commands_by m s p here g g' le (b ∷ bs) e more =
    let some : 0 < length here.line = subst (λ (l : List ℕ). 0 < length l) (sym e) (omega arith) in
    let o = begun s here g' some in
    let f = follows_by o.0 o.0.wrong (size here) o.2 in
    let k = more f.0 f.1 (omega (arith, f.3, le)) in
    (o.0 ∷ k.0, k.1, (here, g, full here e, o.1, f.0, f.1, f.2, k.2)) where
      full : (here : Place) → here.line ≡ b ∷ bs → here.line ≡ [] → ⊥
      full here e n = let k : b ∷ bs ≡ [] = sym e ∙ n in absurd (cc)

unfoldable pub commands_within : (m : ℕ) (s : SoFar) (p : Place) → size p < m → Commands s p
commands_within zero s p lt = absurd (omega (arith, lt))
commands_within (suc m) s p lt =
    commands_by m s p (ink p) (gap_met p) (gap_again p) (ink-size p) (ink p).line refl (λ t q less. commands_within m t q (omega (arith, less, lt)))

unfoldable pub there_is_style : (file text : List ℕ) → (style : Style) × IsStyle file text style
there_is_style file text =
    let k = commands_within (suc (size (beginning text))) (initial_style file) (beginning text) (omega arith) in (
      record {
        commands = k.1.commands;
        is_field = λ name. is_a_field (k.1.names name);
        macros = k.1.macros;
        types = unwrap_or k.1.types (λ name. None);
      },
      (k.0, k.1, k.2, refl),
    )
