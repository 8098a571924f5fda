-- What is spelled at the front of a text stays so where more comes after the text.
use Rattle.std.proofs.Common.{◌≡◌, ◌<◌, ℕ, zero, suc, Bool, true, false, if◌then◌else◌, eqb, List, [], ◌∷◌, ◌++◌, map, fold, length, ◌⊎◌, inl, inr, refl, sym}
use Rattle.std.proofs.Common.{◌∙◌, ap, subst, arith, append_assoc, Result, Ok, Err, Some, None, Option}
use Rattle.std.proofs.lemmas.Bool.{true≢false}
use Rattle.btx_text.specs.language.Class.{begins_name}
use Rattle.btx_bib.specs.declared.grammar.byte_sets.ByteSet.{ByteSet}
use Rattle.btx_bib.specs.declared.grammar.byte_sets.ByteSet.TheVariants.{Gap, NameByte, Digit, KeyByte}
use Rattle.btx_bib.specs.declared.grammar.byte_sets.Delimiter.{Delimiter}
use Rattle.btx_bib.specs.declared.grammar.byte_sets.Delimiter.TheVariants.{Braces, Parens}
use Rattle.btx_bib.specs.declared.grammar.commands.DatabaseCommand.{DatabaseCommand}
use Rattle.btx_bib.specs.declared.grammar.commands.DatabaseCommand.TheVariants as command
use Rattle.btx_bib.specs.declared.grammar.commands.Expected.{Expected}
use Rattle.btx_bib.specs.declared.grammar.commands.Expected.TheVariants.{Item, Closing, Fields}
use Rattle.btx_bib.specs.declared.grammar.slip.SyntaxError.{SyntaxError}
use Rattle.btx_bib.specs.declared.grammar.slip.SyntaxError.TheVariants.{NoName, NoDelimiter, NoComma, NoEquals, NoClosing, NoValue, Unbalanced, EndOfFile, Repeated}
use Rattle.btx_bib.specs.language.Grammar.ByteSets.{is_gap, is_in, begins}
use Rattle.btx_bib.specs.language.Grammar.Tokens.{slip_at, closing_delimiter}
use Rattle.btx_bib.specs.language.Grammar.Values.{Part, Braced, Quoted, Digits, Named}
use Rattle.btx_bib.specs.language.Grammar.Fields.{Field}
use Rattle.btx_bib.specs.language.Grammar.Items.{Event, Comment, Preamble, Definition, Entry, FieldOf, ItemEnd, Wrong, Placed, StoredKeys, as_known, command_of}
use Rattle.btx_bib.specs.laws.Grammar.Spelling.{Grammar, Gives, Both, Then, AllIn, IsWord, IsWrongHere, White, Spaced, NameHere, SignHere, IsWrongPart}
use Rattle.btx_bib.specs.laws.Grammar.Spelling.{PartHere, EndsThere, OthersFollow, ValueOf, ValueSpelling, FieldSpelling}
use Rattle.btx_bib.specs.laws.Grammar.Reading.{OnSign, WrongHere, OpenHere, KeyHere, AfterComma, MoreHere, HeadOf, Head, more_event, HasNoAt, Stands, IsEventOf}
use Rattle.btx_bib.specs.laws.Grammar.Reading.{IsReading}
use Rattle.btx_bib.specs.laws.Cuts.{EndsOutside}
use Rattle.std.specs.Char.{is_ascii_digit}

-- ---- what is left of a text

-- something
abbrev Left : List ℕ → Type 0
Left [] = ⊥
Left (b ∷ bs) = Unit {0}

-- something that isn't whitespace
abbrev NotWhite : List ℕ → Type 0
NotWhite [] = ⊥
NotWhite (b ∷ bs) = (is_gap b ≡ false) ⊎ NotWhite bs

left-append : (front rest : List ℕ) → Left rest → Left (front ++ rest)
left-append [] rest h = h
left-append (b ∷ bs) rest h = tt

left-front : (front rest : List ℕ) → Left front → Left (front ++ rest)
left-front [] rest h = absurd h
left-front (b ∷ bs) rest h = tt

left-some : (rest : List ℕ) → 0 < length rest → Left rest
left-some [] h = absurd (omega (arith, h))
left-some (b ∷ bs) h = tt

white-append : (front rest : List ℕ) → NotWhite rest → NotWhite (front ++ rest)
white-append [] rest h = h
white-append (b ∷ bs) rest h = inr (white-append bs rest h)

white-left : (rest : List ℕ) → NotWhite rest → Left rest
white-left [] h = h
white-left (b ∷ bs) h = tt

begins-white : (rest : List ℕ) → Left rest → begins is_gap rest ≡ false → NotWhite rest
begins-white [] h e = absurd h
begins-white (b ∷ bs) h e = inl e

behind-white : (gap behind : List ℕ) → AllIn Gap gap → NotWhite (gap ++ behind) → Left behind
behind-white [] behind all h = white-left behind h
behind-white (b ∷ bs) behind all (inl e) = absurd (true≢false (sym all.0 ∙ e))
behind-white (b ∷ bs) behind all (inr h) = behind-white bs behind all.1 h

begins-front : (test : ℕ → Bool) (front rest other : List ℕ) → Left front → begins test (front ++ rest) ≡ begins test (front ++ other)
begins-front test [] rest other h = absurd h
begins-front test (b ∷ bs) rest other h = refl

-- ---- with more after

module _ (more : List ℕ) where
  begins-on : (test : ℕ → Bool) (rest : List ℕ) → Left rest → begins test (rest ++ more) ≡ begins test rest
  begins-on test [] h = absurd h
  begins-on test (b ∷ bs) h = refl

  slip-on : (slip : SyntaxError) (rest : List ℕ) → Left rest → slip_at slip rest ≡ slip_at slip (rest ++ more)
  slip-on slip [] h = absurd h
  slip-on slip (b ∷ bs) h = refl

  abbrev outcome_on : {A : Type 0} → (A → A) → Result A SyntaxError → Result A SyntaxError
  outcome_on on (Ok a) = Ok (on a)
  outcome_on on (Err slip) = Err slip

  -- something is left, and where this was spelled also what is asked of it
  abbrev If : {A : Type 0} → (A → List ℕ → Type 0) → Result A SyntaxError → List ℕ → Type 0
  If P (Ok a) rest = Left rest × P a rest
  If P (Err slip) rest = Left rest

  abbrev Any : {A : Type 0} → A → List ℕ → Type 0
  Any a rest = Unit {0}

  abbrev Seen : {A : Type 0} → A → List ℕ → Type 0
  Seen a rest = NotWhite rest

  if-left : {A : Type 0} (P : A → List ℕ → Type 0) (o : Result A SyntaxError) (rest : List ℕ) → If P o rest → Left rest
  if-left P (Ok a) rest h = h.0
  if-left P (Err slip) rest h = h

  -- what is spelled stays so, and so does what is wrong
  abbrev Goes : {A : Type 0} → (A → List ℕ → Type 0) → (A → A) → Grammar A → Grammar A → Type 0
  Goes {A} P on R S = (o : Result A SyntaxError) (front rest : List ℕ) → If P o rest → R o front rest → S (outcome_on on o) front (rest ++ more)

  abbrev same : {A : Type 0} → A → A
  same a = a

  any-goes : {A : Type 0} (P : A → List ℕ → Type 0) (on : A → A) (R S : Grammar A) → Goes Any on R S → Goes P on R S
  any-goes P on R S D (Ok a) front rest h r = D (Ok a) front rest (h.0, tt) r
  any-goes P on R S D (Err slip) front rest h r = D (Err slip) front rest h r

  gives-goes : {A : Type 0} (P : A → List ℕ → Type 0) (on : A → A) (a : A) → Goes P on (Gives a) (Gives (on a))
  gives-goes P on a (Ok b) front rest h r = (r.0, ap on r.1)
  gives-goes P on a (Err slip) front rest h r = absurd r

  both-goes : {A B : Type 0} (P : B → List ℕ → Type 0) (on : A → A) (on_next : B → B) (R S : Grammar A) (next others : A → Grammar B)
      → Goes Any on R S → ((a : A) → Goes P on_next (next a) (others (on a)))
      → (o : Result B SyntaxError) (front rest : List ℕ) → If P o rest → Both R next o front rest → Both S others (outcome_on on_next o) front (rest ++ more)
  both-goes P on on_next R S next others D E o front rest h r =
      let first = subst (λ t. S (Ok (on r.0)) r.1 t) (append_assoc r.2 rest more)
      (D (Ok r.0) r.1 (r.2 ++ rest) (left-append r.2 rest (if-left P o rest h), tt) r.4) in
      (on r.0, r.1, r.2, r.3, first, E r.0 o r.2 rest h r.5)

  then-goes : {A B : Type 0} (P : B → List ℕ → Type 0) (on : A → A) (on_next : B → B) (R S : Grammar A) (next others : A → Grammar B)
      → Goes Any on R S → ((a : A) → Goes P on_next (next a) (others (on a))) → Goes P on_next (Then R next) (Then S others)
  then-goes P on on_next R S next others D E (Ok b) front rest h (inl r) = absurd r
  then-goes P on on_next R S next others D E (Err slip) front rest h (inl r) = inl (D (Err slip) front rest h r)
  then-goes P on on_next R S next others D E o front rest h (inr r) = inr (both-goes P on on_next R S next others D E o front rest h r)

  then-same : {A B : Type 0} (P : B → List ℕ → Type 0) (on : B → B) (R : Grammar A) (next : A → Grammar B)
      → Goes Any same R R → ((a : A) → Goes P on (next a) (next a)) → Goes P on (Then R next) (Then R next)
  then-same P on R next D E = then-goes P same on R R next next D E

  -- the last of what is spelled is decided by what comes after it
  last-goes : {A B : Type 0} (P : B → List ℕ → Type 0) (Q : A → List ℕ → Type 0) (on : A → A) (on_next : B → B) (R S : Grammar A) (give other : A → B)
      → Goes Q on R S → ((a : A) → on_next (give a) ≡ other (on a)) → ((a : A) (front rest : List ℕ) → P (give a) rest → Q a (front ++ rest))
      → Goes P on_next (Then R (λ a. Gives (give a))) (Then S (λ a. Gives (other a)))
  last-goes P Q on on_next R S give other D is behind (Ok b) front rest h (inl r) = absurd r
  last-goes P Q on on_next R S give other D is behind (Err slip) front rest h (inl r) = inl (D (Err slip) front rest h r)
  last-goes P Q on on_next R S give other D is behind (Err slip) front rest h (inr (a, first, second, whole, r, none)) = absurd none
  last-goes P Q on on_next R S give other D is behind (Ok b) front rest h (inr (a, first, second, whole, r, g)) =
      let asked = behind a second rest (subst (λ x. P x rest) g.1 h.1) in
      let there = subst (λ t. S (Ok (on a)) first t) (append_assoc second rest more) (D (Ok a) first (second ++ rest) (left-append second rest h.0, asked) r) in
      inr (on a, first, second, whole, there, (g.0, ap on_next g.1 ∙ is a))

  seen-behind : {A : Type 0} (a : A) (front rest : List ℕ) → NotWhite rest → NotWhite (front ++ rest)
  seen-behind a front rest h = white-append front rest h

  -- ---- words and signs

  white-goes : Goes Any same White White
  white-goes (Ok none) front rest h r = record { all = r.all; longest = begins-on (is_in Gap) rest h.0 ∙ r.longest }
  white-goes (Err slip) front rest h r = absurd r

  spaced-goes : {A : Type 0} (P : A → List ℕ → Type 0) (on : A → A) (R S : Grammar A) → Goes P on R S → Goes P on (Spaced R) (Spaced S)
  spaced-goes P on R S D = then-goes P same on White White (λ none. R) (λ none. S) white-goes (λ none. D)

  word-goes : (set : ByteSet) (first : ℕ → Bool) (word front rest : List ℕ) → Left rest → IsWord set first word front rest
      → IsWord set first word front (rest ++ more)
  word-goes set first word front rest h r = record {
    spelled = r.spelled;
    begins_well = r.begins_well;
    run = record { all = r.run.all; longest = begins-on (is_in set) rest h ∙ r.run.longest };
  }

  wrong-goes : (slip met : SyntaxError) (front rest : List ℕ) → Left rest → IsWrongHere slip met front rest → IsWrongHere slip met front (rest ++ more)
  wrong-goes slip met front rest h r = record { nothing = r.nothing; slip_is = r.slip_is ∙ slip-on slip rest h }

  name-goes : Goes Any same NameHere NameHere
  name-goes (Ok name) front rest h r = word-goes NameByte begins_name name front rest h.0 r
  name-goes (Err slip) front rest h r = (begins-on begins_name rest h ∙ r.0, wrong-goes NoName slip front rest h r.1)

  sign-goes : (sign : ℕ) (wrong : SyntaxError) → Goes Any same (SignHere sign wrong) (SignHere sign wrong)
  sign-goes sign wrong (Ok none) front rest h r = r
  sign-goes sign wrong (Err slip) front rest h r = (begins-on (λ b. eqb b sign) rest h ∙ r.0, wrong-goes wrong slip front rest h r.1)

  on_sign-goes : {A : Type 0} (P : A → List ℕ → Type 0) (on : A → A) (sign : ℕ) (R Longer S Other : Grammar A) → Goes P on R Longer → Goes P on S Other
      → Goes P on (OnSign sign R S) (OnSign sign Longer Other)
  on_sign-goes P on sign R Longer S Other D E o front rest h (inl (behind, is, r)) = inl (behind, is, D o behind rest h r)
  on_sign-goes P on sign R Longer S Other D E o front rest h (inr (other, r)) =
      let there = left-append front rest (if-left P o rest h) in
      inr (ap (begins (λ b. eqb b sign)) (sym (append_assoc front rest more)) ∙ begins-on (λ b. eqb b sign) (front ++ rest) there ∙ other, E o front rest h r)

  wrong_here-goes : {A : Type 0} (P : A → List ℕ → Type 0) (on : A → A) (slip : SyntaxError) → Goes P on (WrongHere slip) (WrongHere slip)
  wrong_here-goes P on slip (Ok a) front rest h r = absurd r
  wrong_here-goes P on slip (Err met) front rest h r = wrong-goes slip met front rest h r

  open-goes : Goes Any same OpenHere OpenHere
  open-goes =
      on_sign-goes Any same 123 (Gives Braces) (Gives Braces) (OnSign 40 (Gives Parens) (WrongHere NoDelimiter))
      (OnSign 40 (Gives Parens) (WrongHere NoDelimiter)) (gives-goes Any same Braces)
      (on_sign-goes Any same 40 (Gives Parens) (Gives Parens) (WrongHere NoDelimiter) (WrongHere NoDelimiter) (gives-goes Any same Parens)
      (wrong_here-goes Any same NoDelimiter))

  key-goes : (d : Delimiter) → Goes Any same (KeyHere d) (KeyHere d)
  key-goes d (Ok key) front rest h (is, run, some) = (
    is,
    record { all = run.all; longest = begins-on (is_in (KeyByte d)) rest h.0 ∙ run.longest },
    ap (begins (λ b. true)) (sym (append_assoc key rest more)) ∙ begins-on (λ b. true) (key ++ rest) (left-append key rest h.0) ∙ some,
  )
  key-goes d (Err slip) front rest h (is, nothing, none) = absurd (subst Left none h)

  -- ---- values

  abbrev pub part_on : Part → Part
  part_on (Braced text) = Braced text
  part_on (Quoted text) = Quoted text
  part_on (Digits text) = Digits text
  part_on (Named string) = Named (record { name = string.name; rest = string.rest ++ more })

  abbrev pub parts_on : List Part → List Part
  parts_on parts = map part_on parts

  wrong_part-goes : (slip : SyntaxError) (front rest : List ℕ) → Left rest → IsWrongPart slip front rest → IsWrongPart slip front (rest ++ more)
  wrong_part-goes NoValue front rest h (nothing, b, bs, is, other) = (nothing, b, bs ++ more, ap (λ t. t ++ more) is, other)
  wrong_part-goes Unbalanced front rest h (text, bs, is, behind, enclosed) = (text, bs ++ more, is, ap (λ t. t ++ more) behind, enclosed)
  wrong_part-goes EndOfFile front rest h (none, others) = absurd (subst Left none h)
  wrong_part-goes NoName front rest h r = absurd r
  wrong_part-goes NoDelimiter front rest h r = absurd r
  wrong_part-goes (NoComma d) front rest h r = absurd r
  wrong_part-goes NoEquals front rest h r = absurd r
  wrong_part-goes (NoClosing d) front rest h r = absurd r
  wrong_part-goes Repeated front rest h r = absurd r

  part-goes : Goes Any part_on PartHere PartHere
  part-goes (Ok (Braced text)) front rest h r = r
  part-goes (Ok (Quoted text)) front rest h r = r
  part-goes (Ok (Digits text)) front rest h r = word-goes Digit is_ascii_digit text front rest h.0 r
  part-goes (Ok (Named string)) front rest h r = (word-goes NameByte begins_name string.name front rest h.0 r.0, ap (λ t. t ++ more) r.1)
  part-goes (Err slip) front rest h r = wrong_part-goes slip front rest h r

  ends-goes : (part : Part) → Goes Seen parts_on (EndsThere part) (EndsThere (part_on part))
  ends-goes part (Ok parts) front rest h (nothing, is, gap, behind, whole, run, other) =
      let left = behind-white gap behind run.all (subst NotWhite whole h.1) in (
        nothing,
        ap parts_on is,
        gap,
        behind ++ more,
        ap (λ t. t ++ more) whole ∙ append_assoc gap behind more,
        record { all = run.all; longest = begins-on (is_in Gap) behind left ∙ run.longest },
        begins-on (λ b. eqb b 35) behind left ∙ other,
      )
  ends-goes part (Err slip) front rest h r = absurd r

  abbrev after_part : ℕ → Part → Grammar (List Part)
  after_part n part o front rest = EndsThere part o front rest ⊎ OthersFollow (ValueOf n) part o front rest

  value_of-goes : (n : ℕ) → Goes Seen parts_on (ValueOf n) (ValueOf n)
  value_of-goes zero o front rest h r = absurd r
  value_of-goes (suc n) o front rest h r =
      then-goes Seen part_on parts_on (Spaced PartHere) (Spaced PartHere) (after_part n) (after_part n) (spaced-goes Any part_on PartHere PartHere part-goes)
      (after n (value_of-goes n)) o front rest h r where
        after : (n : ℕ) → Goes Seen parts_on (ValueOf n) (ValueOf n) → (part : Part) → Goes Seen parts_on (after_part n part) (after_part n (part_on part))
        after n D part o front rest h (inl r) = inl (ends-goes part o front rest h r)
        after n D part o front rest h (inr r) =
            inr (both-goes Seen same parts_on (Spaced (SignHere 35 NoValue)) (Spaced (SignHere 35 NoValue))
            (λ none. Then (ValueOf n) (λ parts. Gives (part ∷ parts))) (λ none. Then (ValueOf n) (λ parts. Gives (part_on part ∷ parts)))
            (spaced-goes Any same (SignHere 35 NoValue) (SignHere 35 NoValue) (sign-goes 35 NoValue))
            (λ none. last-goes Seen Seen parts_on parts_on (ValueOf n) (ValueOf n) (λ parts. part ∷ parts) (λ parts. part_on part ∷ parts) D (λ parts. refl)
            seen-behind) o front rest h r)

  value-goes : Goes Seen parts_on ValueSpelling ValueSpelling
  value-goes o front rest h (n, r) = (n, value_of-goes n o front rest h r)

  -- ---- fields

  abbrev pub field_on : Field → Field
  field_on field = record { name = field.name; value = parts_on field.value }

  field-goes : Goes Seen field_on FieldSpelling FieldSpelling
  field-goes =
      then-same Seen field_on (Spaced NameHere) _ (spaced-goes Any same NameHere NameHere name-goes) (λ name.
      then-same Seen field_on (Spaced (SignHere 61 NoEquals)) _ (spaced-goes Any same (SignHere 61 NoEquals) (SignHere 61 NoEquals) (sign-goes 61 NoEquals))
      (λ sign.
      last-goes Seen Seen parts_on field_on ValueSpelling ValueSpelling (λ value. record { name = name; value = value })
      (λ value. record { name = name; value = value }) value-goes (λ value. refl) seen-behind))

  abbrev more_on : Option Field → Option Field
  more_on None = None
  more_on (Some field) = Some (field_on field)

  -- after a field something stands that isn't whitespace
  abbrev SeenField : Option Field → List ℕ → Type 0
  SeenField None rest = Unit {0}
  SeenField (Some field) rest = NotWhite rest

  comma-goes : (d : Delimiter) → Goes SeenField more_on (AfterComma d) (AfterComma d)
  comma-goes d =
      on_sign-goes SeenField more_on (closing_delimiter d) (Gives None) (Gives None) (Then FieldSpelling (λ field. Gives (Some field)))
      (Then FieldSpelling (λ field. Gives (Some field))) (gives-goes SeenField more_on None)
      (last-goes SeenField Seen field_on more_on FieldSpelling FieldSpelling (λ field. Some field) (λ field. Some field) field-goes (λ field. refl) seen-behind)

  more-goes : (d : Delimiter) → Goes SeenField more_on (MoreHere d) (MoreHere d)
  more-goes d =
      on_sign-goes SeenField more_on (closing_delimiter d) (Gives None) (Gives None) (OnSign 44 (Spaced (AfterComma d)) (WrongHere (NoComma d)))
      (OnSign 44 (Spaced (AfterComma d)) (WrongHere (NoComma d))) (gives-goes SeenField more_on None)
      (on_sign-goes SeenField more_on 44 (Spaced (AfterComma d)) (Spaced (AfterComma d)) (WrongHere (NoComma d)) (WrongHere (NoComma d))
      (spaced-goes SeenField more_on (AfterComma d) (AfterComma d) (comma-goes d)) (wrong_here-goes SeenField more_on (NoComma d)))

  -- ---- events

  abbrev pub event_on : Event → Event
  event_on Comment = Comment
  event_on (Preamble value) = Preamble (parts_on value)
  event_on (Definition name value) = Definition name (parts_on value)
  event_on (Entry kind key) = Entry kind key
  event_on (FieldOf field) = FieldOf (field_on field)
  event_on ItemEnd = ItemEnd
  event_on (Wrong slip) = Wrong slip

  abbrev head_on : Event × Expected → Event × Expected
  head_on got = (event_on got.0, got.1)

  -- where something is wanted of the item, something stands that isn't whitespace
  abbrev After : Expected → List ℕ → Type 0
  After Item rest = Unit {0}
  After (Closing d) rest = NotWhite rest
  After (Fields d) rest = NotWhite rest

  abbrev behind_event : Event → Expected → List ℕ → Type 0
  behind_event Comment next rest = After next rest
  behind_event (Preamble value) next rest = After next rest
  behind_event (Definition name value) next rest = After next rest
  behind_event (Entry kind key) next rest = Unit {0}
  behind_event (FieldOf field) next rest = After next rest
  behind_event ItemEnd next rest = After next rest
  behind_event (Wrong slip) next rest = After next rest

  abbrev Behind : Event × Expected → List ℕ → Type 0
  Behind got rest = behind_event got.0 got.1 rest

  head_of-goes : (c : DatabaseCommand) (name : List ℕ) → Goes Behind head_on (HeadOf c name) (HeadOf c name)
  head_of-goes command.Comment name = gives-goes Behind head_on (Comment, Item)
  head_of-goes command.Preamble name =
      then-same Behind head_on (Spaced OpenHere) _ (spaced-goes Any same OpenHere OpenHere open-goes) (λ d.
      last-goes Behind Seen parts_on head_on ValueSpelling ValueSpelling (λ value. (Preamble value, Closing d)) (λ value. (Preamble value, Closing d))
      value-goes (λ value. refl) seen-behind)
  head_of-goes command.Definition name =
      then-same Behind head_on (Spaced OpenHere) _ (spaced-goes Any same OpenHere OpenHere open-goes) (λ d.
      then-same Behind head_on (Spaced NameHere) _ (spaced-goes Any same NameHere NameHere name-goes) (λ string.
      then-same Behind head_on (Spaced (SignHere 61 NoEquals)) _ (spaced-goes Any same (SignHere 61 NoEquals) (SignHere 61 NoEquals) (sign-goes 61 NoEquals))
      (λ sign.
      last-goes Behind Seen parts_on head_on ValueSpelling ValueSpelling (λ value. (Definition string value, Closing d))
      (λ value. (Definition string value, Closing d)) value-goes (λ value. refl) seen-behind)))
  head_of-goes command.Entry name =
      then-same Behind head_on (Spaced OpenHere) _ (spaced-goes Any same OpenHere OpenHere open-goes) (λ d.
      then-same Behind head_on (Spaced (KeyHere d)) _ (spaced-goes Any same (KeyHere d) (KeyHere d) (key-goes d))
      (λ key. gives-goes Behind head_on (Entry name key, Fields d)))

  head-goes : Goes Behind head_on Head Head
  head-goes = then-same Behind head_on (Spaced NameHere) _ (spaced-goes Any same NameHere NameHere name-goes) (λ name. head_of-goes (command_of name) name)

  more_event-on : (d : Delimiter) (m : Option Field) → head_on (more_event d m) ≡ more_event d (more_on m)
  more_event-on d None = refl
  more_event-on d (Some field) = refl

  more_event-behind : (d : Delimiter) (m : Option Field) (front rest : List ℕ) → Behind (more_event d m) rest → SeenField m (front ++ rest)
  more_event-behind d None front rest h = tt
  more_event-behind d (Some field) front rest h = white-append front rest h

  stands-goes : (next : Expected) → Goes Behind head_on (Stands next) (Stands next)
  stands-goes Item o front rest h (ignored, behind, is, none, r) = (ignored, behind, is, none, head-goes o behind rest h r)
  stands-goes (Closing d) o front rest h r =
      then-same Behind head_on (Spaced (SignHere (closing_delimiter d) (NoClosing d))) _
      (spaced-goes Any same (SignHere (closing_delimiter d) (NoClosing d)) (SignHere (closing_delimiter d) (NoClosing d))
      (sign-goes (closing_delimiter d) (NoClosing d))) (λ sign. gives-goes Behind head_on (ItemEnd, Item)) o front rest h r
  stands-goes (Fields d) o front rest h r =
      last-goes Behind SeenField more_on head_on (Spaced (MoreHere d)) (Spaced (MoreHere d)) (more_event d) (more_event d)
      (spaced-goes SeenField more_on (MoreHere d) (MoreHere d) (more-goes d)) (more_event-on d) (more_event-behind d) o front rest h r

  -- ---- the end of an item

  -- only what is wanted of an item can be its end
  abbrev IsNoEnd : Event → Type 0
  IsNoEnd ItemEnd = ⊥
  IsNoEnd _ = Unit {0}

  -- only a comment is read as one
  abbrev IsNoComment : Event → Type 0
  IsNoComment Comment = ⊥
  IsNoComment _ = Unit {0}

  -- what is read so is an event of this kind
  abbrev Begins : (Event → Type 0) → Grammar (Event × Expected) → Type 0
  Begins P R = (got : Event × Expected) (front rest : List ℕ) → R (Ok got) front rest → P got.0

  gives-begins : (P : Event → Type 0) (a : Event × Expected) → P a.0 → Begins P (Gives a)
  gives-begins P a h got front rest r = subst (λ (x : Event × Expected). P x.0) (sym r.1) h

  then-begins : {A : Type 0} (P : Event → Type 0) (R : Grammar A) (next : A → Grammar (Event × Expected)) → ((a : A) → Begins P (next a)) → Begins P (Then R next)
  then-begins P R next E got front rest (inl r) = absurd r
  then-begins P R next E got front rest (inr r) = E r.0 got r.2 rest r.5

  preamble-begins : (P : Event → Type 0) → ((value : List Part) → P (Preamble value)) → (name : List ℕ) → Begins P (HeadOf command.Preamble name)
  preamble-begins P is name =
      then-begins P (Spaced OpenHere) (λ d. Then ValueSpelling (λ value. Gives (Preamble value, Closing d))) (λ d.
      then-begins P ValueSpelling (λ value. Gives (Preamble value, Closing d)) (λ value. gives-begins P (Preamble value, Closing d) (is value)))

  definition-begins : (P : Event → Type 0) → ((string : List ℕ) (value : List Part) → P (Definition string value)) → (name : List ℕ)
      → Begins P (HeadOf command.Definition name)
  definition-begins P is name =
      then-begins P (Spaced OpenHere) (λ d. Then (Spaced NameHere)
      (λ string. Then (Spaced (SignHere 61 NoEquals)) (λ sign. Then ValueSpelling (λ value. Gives (Definition string value, Closing d))))) (λ d.
      then-begins P (Spaced NameHere) (λ string. Then (Spaced (SignHere 61 NoEquals))
      (λ sign. Then ValueSpelling (λ value. Gives (Definition string value, Closing d)))) (λ string.
      then-begins P (Spaced (SignHere 61 NoEquals)) (λ sign. Then ValueSpelling (λ value. Gives (Definition string value, Closing d))) (λ sign.
      then-begins P ValueSpelling (λ value. Gives (Definition string value, Closing d))
      (λ value. gives-begins P (Definition string value, Closing d) (is string value)))))

  entry-begins : (P : Event → Type 0) → ((kind key : List ℕ) → P (Entry kind key)) → (name : List ℕ) → Begins P (HeadOf command.Entry name)
  entry-begins P is name =
      then-begins P (Spaced OpenHere) (λ d. Then (Spaced (KeyHere d)) (λ key. Gives (Entry name key, Fields d))) (λ d.
      then-begins P (Spaced (KeyHere d)) (λ key. Gives (Entry name key, Fields d)) (λ key. gives-begins P (Entry name key, Fields d) (is name key)))

  head_of-begins : (c : DatabaseCommand) (name : List ℕ) → Begins IsNoEnd (HeadOf c name)
  head_of-begins command.Comment name = gives-begins IsNoEnd (Comment, Item) tt
  head_of-begins command.Preamble name = preamble-begins IsNoEnd (λ value. tt) name
  head_of-begins command.Definition name = definition-begins IsNoEnd (λ string value. tt) name
  head_of-begins command.Entry name = entry-begins IsNoEnd (λ kind key. tt) name

  head-begins : Begins IsNoEnd Head
  head-begins = then-begins IsNoEnd (Spaced NameHere) (λ name. HeadOf (command_of name) name) (λ name. head_of-begins (command_of name) name)

  -- what ends with a sign of its own stays so, whatever comes after it
  spaced-free : {A : Type 0} (R : Grammar A) (a : A) (front rest : List ℕ)
      → ((inner : List ℕ) → R (Ok a) inner rest → Left inner × R (Ok a) inner (rest ++ more)) → Spaced R (Ok a) front rest
      → Spaced R (Ok a) front (rest ++ more)
  spaced-free R a front rest free (inl r) = absurd r
  spaced-free R a front rest free (inr (none, gap, inner, whole, white, r)) =
      let there = free inner r in
      inr (
        none,
        gap,
        inner,
        whole,
        record { all = white.all; longest = sym (begins-front (is_in Gap) inner rest (rest ++ more) there.0) ∙ white.longest },
        there.1,
      )

  sign-free : (sign : ℕ) (wrong : SyntaxError) (none : Unit {0}) (rest inner : List ℕ) → SignHere sign wrong (Ok none) inner rest
      → Left inner × SignHere sign wrong (Ok none) inner (rest ++ more)
  sign-free sign wrong none rest inner r = (subst Left (sym r) tt, r)

  first-sign : (sign b : ℕ) (bs rest : List ℕ) (inner : List ℕ) → inner ≡ b ∷ bs → begins (λ c. eqb c sign) (inner ++ rest) ≡ false
      → begins (λ c. eqb c sign) (inner ++ (rest ++ more)) ≡ false
  first-sign sign b bs rest inner is other = sym (begins-front (λ c. eqb c sign) inner rest (rest ++ more) (subst Left (sym is) tt)) ∙ other

  comma-free : (d : Delimiter) (rest inner : List ℕ) → AfterComma d (Ok None) inner rest → Left inner × AfterComma d (Ok None) inner (rest ++ more)
  comma-free d rest inner (inl (behind, is, r)) = (subst Left (sym is) tt, inl (behind, is, r))
  comma-free d rest inner (inr (other, inl r)) = absurd r
  comma-free d rest inner (inr (other, inr (field, first, second, whole, r, g))) = absurd (subst SomeField g.1 tt) where
    SomeField : Option Field → Type 0
    SomeField None = Unit {0}
    SomeField (Some field) = ⊥

  more-free : (d : Delimiter) (rest inner : List ℕ) → MoreHere d (Ok None) inner rest → Left inner × MoreHere d (Ok None) inner (rest ++ more)
  more-free d rest inner (inl (behind, is, r)) = (subst Left (sym is) tt, inl (behind, is, r))
  more-free d rest inner (inr (other, inl (behind, is, r))) = (
    subst Left (sym is) tt,
    inr (
      first-sign (closing_delimiter d) 44 behind rest inner is other,
      inl (behind, is, spaced-free (AfterComma d) None behind rest (comma-free d rest) r),
    ),
  )
  more-free d rest inner (inr (other, inr (not_comma, r))) = absurd r

  no-end : (event : Event) → IsNoEnd event → event ≡ ItemEnd → ⊥
  no-end event h is = subst IsNoEnd is h

  end-goes : (next : Expected) (got : Event × Expected) (front rest : List ℕ) → got.0 ≡ ItemEnd → Stands next (Ok got) front rest
      → Stands next (Ok (head_on got)) front (rest ++ more)
  end-goes Item got front rest end (ignored, behind, is, none, r) = absurd (no-end got.0 (head-begins got behind rest r) end)
  end-goes (Closing d) got front rest end (inl r) = absurd r
  end-goes (Closing d) got front rest end (inr (none, first, second, whole, r, g)) =
      let there = spaced-free (SignHere (closing_delimiter d) (NoClosing d)) none first (second ++ rest)
      (sign-free (closing_delimiter d) (NoClosing d) none (second ++ rest)) r in
      inr (
        none,
        first,
        second,
        whole,
        subst (λ t. Spaced (SignHere (closing_delimiter d) (NoClosing d)) (Ok none) first t) (append_assoc second rest more)
            there,
        (g.0, ap head_on g.1),
      )
  end-goes (Fields d) got front rest end (inl r) = absurd r
  end-goes (Fields d) got front rest end (inr (None, first, second, whole, r, g)) =
      let there = spaced-free (MoreHere d) None first (second ++ rest) (more-free d (second ++ rest)) r in
      inr (None, first, second, whole, subst (λ t. Spaced (MoreHere d) (Ok None) first t) (append_assoc second rest more) there, (g.0, ap head_on g.1))
  end-goes (Fields d) got front rest end (inr (Some field, first, second, whole, r, g)) =
      absurd (no-end (FieldOf field) tt (sym (ap (λ (x : Event × Expected). x.0) g.1) ∙ end))

  -- ---- a comment at the end of a text

  -- a name ends where it did, if the text after doesn't go on with it
  run-free : (set : ByteSet) (rest : List ℕ) → begins (is_in set) more ≡ false → begins (is_in set) rest ≡ false → begins (is_in set) (rest ++ more) ≡ false
  run-free set [] stops ended = stops
  run-free set (b ∷ bs) stops ended = ended

  begins-left : (test : ℕ → Bool) (word : List ℕ) → begins test word ≡ true → Left word
  begins-left test [] h = absurd (true≢false (sym h))
  begins-left test (b ∷ bs) h = tt

  name-free : begins (is_in NameByte) more ≡ false → (name rest inner : List ℕ) → NameHere (Ok name) inner rest
      → Left inner × NameHere (Ok name) inner (rest ++ more)
  name-free stops name rest inner r = (
    subst Left (sym r.spelled) (begins-left begins_name name r.begins_well),
    record {
      spelled = r.spelled;
      begins_well = r.begins_well;
      run = record { all = r.run.all; longest = run-free NameByte rest stops r.run.longest };
    },
  )

  no-comment : (event : Event) → IsNoComment event → event ≡ Comment → ⊥
  no-comment event h is = subst IsNoComment is h

  comment_of-goes : (c : DatabaseCommand) (name : List ℕ) (next : Expected) (front rest : List ℕ) → HeadOf c name (Ok (Comment, next)) front rest
      → HeadOf c name (Ok (Comment, next)) front (rest ++ more)
  comment_of-goes command.Comment name next front rest r = r
  comment_of-goes command.Preamble name next front rest r = absurd (preamble-begins IsNoComment (λ value. tt) name (Comment, next) front rest r)
  comment_of-goes command.Definition name next front rest r = absurd (definition-begins IsNoComment (λ string value. tt) name (Comment, next) front rest r)
  comment_of-goes command.Entry name next front rest r = absurd (entry-begins IsNoComment (λ kind key. tt) name (Comment, next) front rest r)

  comment-goes : begins (is_in NameByte) more ≡ false → (next : Expected) (front rest : List ℕ) → Head (Ok (Comment, next)) front rest
      → Head (Ok (Comment, next)) front (rest ++ more)
  comment-goes stops next front rest (inl r) = absurd r
  comment-goes stops next front rest (inr (name, first, second, whole, r, h)) =
      let there = spaced-free NameHere name first (second ++ rest) (name-free stops name (second ++ rest)) r in
      inr (
        name,
        first,
        second,
        whole,
        subst (λ t. Spaced NameHere (Ok name) first t) (append_assoc second rest more) there,
        comment_of-goes (command_of name) name next second rest h,
      )

  comment-stands : begins (is_in NameByte) more ≡ false → (first next : Expected) (front rest : List ℕ) → Stands first (Ok (Comment, next)) front rest
      → Stands first (Ok (Comment, next)) front (rest ++ more)
  comment-stands stops Item next front rest (ignored, behind, is, none, r) = (ignored, behind, is, none, comment-goes stops next behind rest r)
  comment-stands stops (Closing d) next front rest (inl r) = absurd r
  comment-stands stops (Closing d) next front rest (inr (none, first, second, whole, r, g)) =
      absurd (no-comment ItemEnd tt (sym (ap (λ (x : Event × Expected). x.0) g.1)))
  comment-stands stops (Fields d) next front rest (inl r) = absurd r
  comment-stands stops (Fields d) next front rest (inr (None, first, second, whole, r, g)) =
      absurd (no-comment ItemEnd tt (sym (ap (λ (x : Event × Expected). x.0) g.1)))
  comment-stands stops (Fields d) next front rest (inr (Some field, first, second, whole, r, g)) =
      absurd (no-comment (FieldOf field) tt (sym (ap (λ (x : Event × Expected). x.0) g.1)))

  -- ---- what stands at the place of an event

  abbrev ErrLeft : {A : Type 0} → Result A SyntaxError → List ℕ → Type 0
  ErrLeft (Ok a) rest = Unit {0}
  ErrLeft (Err slip) rest = Left rest

  spaced-white : {A : Type 0} (R : Grammar A) (o : Result A SyntaxError) (front rest : List ℕ) → ((inner : List ℕ) → R o inner rest → Left (inner ++ rest))
      → Spaced R o front rest → NotWhite (front ++ rest)
  spaced-white R (Ok a) front rest there (inl r) = absurd r
  spaced-white R (Err slip) front rest there (inl r) = absurd r
  spaced-white R o front rest there (inr (none, gap, inner, whole, white, r)) =
      subst NotWhite (sym (ap (λ t. t ++ rest) whole ∙ append_assoc gap inner rest))
      (white-append gap (inner ++ rest) (begins-white (inner ++ rest) (there inner r) white.longest))

  last-white : {A : Type 0} (R : Grammar A) (give : A → Event × Expected) → ((a : A) (front rest : List ℕ) → R (Ok a) front rest → Left front)
      → (o : Result (Event × Expected) SyntaxError) (front rest : List ℕ) → ErrLeft o rest → Then (Spaced R) (λ a. Gives (give a)) o front rest
      → NotWhite (front ++ rest)
  last-white R give some (Ok got) front rest h (inl r) = absurd r
  last-white R give some (Err slip) front rest h (inl r) = spaced-white R (Err slip) front rest (λ inner r. left-append inner rest h) r
  last-white R give some (Err slip) front rest h (inr (a, first, second, whole, r, none)) = absurd none
  last-white R give some (Ok got) front rest h (inr (a, first, second, whole, r, g)) =
      subst NotWhite (sym (ap (λ t. t ++ rest) whole ∙ append_assoc first second rest))
      (spaced-white R (Ok a) first (second ++ rest) (λ inner r. left-front inner (second ++ rest) (some a inner (second ++ rest) r)) r)

  sign-some : (sign : ℕ) (wrong : SyntaxError) (none : Unit {0}) (front rest : List ℕ) → SignHere sign wrong (Ok none) front rest → Left front
  sign-some sign wrong none front rest r = subst Left (sym r) tt

  more-some : (d : Delimiter) (m : Option Field) (front rest : List ℕ) → MoreHere d (Ok m) front rest → Left front
  more-some d m front rest (inl (behind, is, r)) = subst Left (sym is) tt
  more-some d m front rest (inr (other, inl (behind, is, r))) = subst Left (sym is) tt
  more-some d m front rest (inr (other, inr (not_comma, r))) = absurd r

  -- ---- a reading

  abbrev pub placed_on : Placed → Placed
  placed_on placed = record { event = event_on placed.event; rest = placed.rest ++ more }

  module _ {S : Type 0} (stored_keys : StoredKeys S) (after-on : (state : S) (event : Event) → stored_keys.after state (event_on event) ≡ stored_keys.after state event) where
    item-left : (p : Placed) (events : List Placed) (state : S) (text : List ℕ) → IsReading stored_keys state Item text (p ∷ events) → Left text
    item-left p events state text (o, next, front, whole, outcome, (ignored, behind, is, none, r), others) =
        subst Left whole (left-front front p.rest (subst Left (sym is) (left-append ignored (64 ∷ behind) tt)))

    err-left : (p : Placed) (events : List Placed) (state : S) (o : Result (Event × Expected) SyntaxError) (next : Expected) → EndsOutside (p ∷ events) more
        → IsEventOf stored_keys state p.event next o
        → IsReading stored_keys (stored_keys.after state p.event) next p.rest events → ErrLeft o p.rest
    err-left p events state (Ok got) next ends outcome others = tt
    err-left p [] state (Err slip) next (inl end) outcome others = absurd (no-end (Wrong slip) tt (sym outcome.0 ∙ end))
    err-left p [] state (Err slip) next (inr (inl some)) outcome others = left-some p.rest some
    err-left p [] state (Err slip) next (inr (inr comment)) outcome others = absurd (no-comment (Wrong slip) tt (sym outcome.0 ∙ comment.0))
    err-left p (q ∷ events) state (Err slip) next ends outcome others =
        item-left q events (stored_keys.after state p.event) p.rest
        (subst (λ n. IsReading stored_keys (stored_keys.after state p.event) n p.rest (q ∷ events)) outcome.1 others)

    -- where an event stands something is left, and what isn't whitespace where something of an item is wanted
    there : (p : Placed) (events : List Placed) (state : S) (next : Expected) (text : List ℕ) → EndsOutside (p ∷ events) more
        → IsReading stored_keys state next text (p ∷ events) → Left text × After next text
    there p events state Item text ends h = (item-left p events state text h, tt)
    there p events state (Closing d) text ends (o, next, front, whole, outcome, r, others) =
        let white = subst NotWhite whole (last-white (SignHere (closing_delimiter d) (NoClosing d)) (λ sign. (ItemEnd, Item))
        (sign-some (closing_delimiter d) (NoClosing d)) o front p.rest (err-left p events state o next ends outcome others) r) in
        (white-left text white, white)
    there p events state (Fields d) text ends (o, next, front, whole, outcome, r, others) =
        let white = subst NotWhite whole (last-white (MoreHere d) (more_event d) (more-some d) o front p.rest
        (err-left p events state o next ends outcome others) r) in
        (white-left text white, white)

    behind-known : (is_stored : List ℕ → Bool) (event : Event) (first next : Expected) (rest : List ℕ) → next ≡ (as_known is_stored (event, first)).1
        → After next rest → behind_event event first rest
    behind-known is_stored Comment first next rest is h = subst (λ n. After n rest) is h
    behind-known is_stored (Preamble value) first next rest is h = subst (λ n. After n rest) is h
    behind-known is_stored (Definition name value) first next rest is h = subst (λ n. After n rest) is h
    behind-known is_stored (Entry kind key) first next rest is h = tt
    behind-known is_stored (FieldOf field) first next rest is h = subst (λ n. After n rest) is h
    behind-known is_stored ItemEnd first next rest is h = subst (λ n. After n rest) is h
    behind-known is_stored (Wrong slip) first next rest is h = subst (λ n. After n rest) is h

    if-known : (state : S) (event : Event) (next : Expected) (o : Result (Event × Expected) SyntaxError) (rest : List ℕ) → IsEventOf stored_keys state event next o → Left rest
        → After next rest → If Behind o rest
    if-known state event next (Ok (got, first)) rest outcome left h = (left, behind-known (stored_keys.is_stored state) got first next rest outcome.1 h)
    if-known state event next (Err slip) rest outcome left h = left

    -- what is known to be something else than a repeated entry was read as that
    known-read : (other : Event) → (Wrong Repeated ≡ other → ⊥) → (is_stored : List ℕ → Bool) (event : Event) (first : Expected)
        → (as_known is_stored (event, first)).0 ≡ other → event ≡ other
    known-read other differs is_stored (Entry kind key) first is = by_test (is_stored key) is where
      by_test : (b : Bool) → (let got : Event × Expected = if b then (Wrong Repeated, Item) else (Entry kind key, first) in got.0 ≡ other)
          → Entry kind key ≡ other
      by_test true e = absurd (differs e)
      by_test false e = e
    known-read other differs is_stored Comment first is = is
    known-read other differs is_stored (Preamble value) first is = is
    known-read other differs is_stored (Definition name value) first is = is
    known-read other differs is_stored (FieldOf field) first is = is
    known-read other differs is_stored ItemEnd first is = is
    known-read other differs is_stored (Wrong slip) first is = is

    ended-on : (state : S) (p : Placed) (next first : Expected) (o : Result (Event × Expected) SyntaxError) (front : List ℕ) → p.event ≡ ItemEnd
        → IsEventOf stored_keys state p.event next o → Stands first o front p.rest → Stands first (outcome_on head_on o) front (p.rest ++ more)
    ended-on state p next first (Err slip) front end outcome r = absurd (no-end (Wrong slip) tt (sym outcome.0 ∙ end))
    ended-on state p next first (Ok (event, wanted)) front end outcome r =
        end-goes first (event, wanted) front p.rest (known-read ItemEnd (no-end (Wrong Repeated) tt) (stored_keys.is_stored state) event wanted (sym outcome.0 ∙ end)) r

    comment-on : (state : S) (p : Placed) (next first : Expected) (o : Result (Event × Expected) SyntaxError) (front : List ℕ) → p.event ≡ Comment
        → begins (is_in NameByte) more ≡ false → IsEventOf stored_keys state p.event next o
        → Stands first o front p.rest → Stands first (outcome_on head_on o) front (p.rest ++ more)
    comment-on state p next first (Err slip) front comment stops outcome r = absurd (no-comment (Wrong slip) tt (sym outcome.0 ∙ comment))
    comment-on state p next first (Ok (event, wanted)) front comment stops outcome r =
        let is : event ≡ Comment = known-read Comment (no-comment (Wrong Repeated) tt) (stored_keys.is_stored state) event wanted (sym outcome.0 ∙ comment) in
        subst (λ (x : Event). Stands first (Ok (event_on x, wanted)) front (p.rest ++ more)) (sym is)
        (comment-stands stops first wanted front p.rest (subst (λ (x : Event). Stands first (Ok (x, wanted)) front p.rest) is r))

    stands-on : (p : Placed) (events : List Placed) (state : S) (o : Result (Event × Expected) SyntaxError) (next first : Expected) (front : List ℕ)
        → EndsOutside (p ∷ events) more → IsEventOf stored_keys state p.event next o → Stands first o front p.rest
        → IsReading stored_keys (stored_keys.after state p.event) next p.rest events → Stands first (outcome_on head_on o) front (p.rest ++ more)
    stands-on p [] state o next first front (inl end) outcome r others = ended-on state p next first o front end outcome r
    stands-on p [] state o next first front (inr (inr comment)) outcome r others = comment-on state p next first o front comment.0 comment.1 outcome r
    stands-on p [] state o next first front (inr (inl some)) outcome r others =
        stands-goes first o front p.rest (if-known state p.event next o p.rest outcome (left-some p.rest some) (subst (λ n. After n p.rest) (sym others.0) tt))
        r
    stands-on p (q ∷ events) state o next first front ends outcome r others =
        let h = there q events (stored_keys.after state p.event) next p.rest ends others in
        stands-goes first o front p.rest (if-known state p.event next o p.rest outcome h.0 h.1) r

    known-on : (is_stored : List ℕ → Bool) (event : Event) (first : Expected) → as_known is_stored (event_on event, first)
        ≡ head_on (as_known is_stored (event, first))
    known-on is_stored (Entry kind key) first = by_test (is_stored key) where
      by_test : (b : Bool) → ◌≡◌ {A = Event × Expected} (if b then (Wrong Repeated, Item) else (Entry kind key, first))
          (head_on (if b then (Wrong Repeated, Item) else (Entry kind key, first)))
      by_test true = refl
      by_test false = refl
    known-on is_stored Comment first = refl
    known-on is_stored (Preamble value) first = refl
    known-on is_stored (Definition name value) first = refl
    known-on is_stored (FieldOf field) first = refl
    known-on is_stored ItemEnd first = refl
    known-on is_stored (Wrong slip) first = refl

    outcome-on : (state : S) (event : Event) (next : Expected) (o : Result (Event × Expected) SyntaxError) → IsEventOf stored_keys state event next o
        → IsEventOf stored_keys state (event_on event) next (outcome_on head_on o)
    outcome-on state event next (Err slip) h = (ap event_on h.0, h.1)
    outcome-on state event next (Ok (got, first)) h =
        let same_known = sym (known-on (stored_keys.is_stored state) got first) in
        (ap event_on h.0 ∙ ap (λ (g : Event × Expected). g.0) same_known, h.1 ∙ ap (λ (g : Event × Expected). g.1) same_known)

    no_at-append : (text behind : List ℕ) → HasNoAt text → HasNoAt behind → HasNoAt (text ++ behind)
    no_at-append [] behind h k = k
    no_at-append (b ∷ bs) behind h k = (h.0, no_at-append bs behind h.1 k)

    -- what stands before the first item is passed
    passed : (text : List ℕ) (events : List Placed) (state : S) (behind : List ℕ) → HasNoAt text → IsReading stored_keys state Item behind events
        → IsReading stored_keys state Item (text ++ behind) events
    passed text [] state behind none h = (h.0, no_at-append text behind none h.1)
    passed text (p ∷ events) state behind none (o, next, front, whole, outcome, (ignored, inner, is, no_at, r), others) = (
      o,
      next,
      text ++ front,
      append_assoc text front p.rest ∙ ap (λ t. text ++ t) whole,
      outcome,
      (text ++ ignored, inner, ap (λ t. text ++ t) is ∙ sym (append_assoc text ignored (64 ∷ inner)), no_at-append text ignored none no_at, r),
      others,
    )

    outside-tail : (p : Placed) (events : List Placed) → EndsOutside (p ∷ events) more → EndsOutside events more
    outside-tail p [] h = tt
    outside-tail p (q ∷ events) h = h

    abbrev pub after_events : S → List Placed → S
    after_events state events = fold (λ (s : S) (p : Placed). stored_keys.after s p.event) state events

    -- a text that ends outside any item, and more after it, are read one after the other
    pub reading-on : (events behind : List Placed) (state : S) (first : Expected) (text : List ℕ) → EndsOutside events more
        → IsReading stored_keys state first text events → IsReading stored_keys (after_events state events) Item more behind
        → IsReading stored_keys state first (text ++ more) (map placed_on events ++ behind)
    reading-on [] behind state first text ends h rest =
        subst (λ n. IsReading stored_keys state n (text ++ more) behind) (sym h.0) (passed text behind state more h.1 rest)
    reading-on (p ∷ events) behind state first text ends (o, next, front, whole, outcome, r, others) rest = (
      outcome_on head_on o,
      next,
      front,
      sym (append_assoc front p.rest more) ∙ ap (λ t. t ++ more) whole,
      outcome-on state p.event next o outcome,
      stands-on p events state o next first front ends outcome r others,
      subst (λ s. IsReading stored_keys s next (p.rest ++ more) (map placed_on events ++ behind)) (sym (after-on state p.event))
          (reading-on events behind (stored_keys.after state p.event) next p.rest (outside-tail p events ends) others rest),
    )
