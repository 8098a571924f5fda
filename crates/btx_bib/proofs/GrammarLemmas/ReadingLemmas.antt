-- The reading of a database is the list that is computed, and no other.
use Rattle.std.proofs.Common.{◌≡◌, ℕ, zero, suc, ◌<◌, Bool, true, false, cond, eqb, List, [], ◌∷◌, ◌++◌, length, drop, inl, inr, refl, sym, ◌∙◌, ap, subst}
use Rattle.std.proofs.Common.{arith, append_assoc, Result, Ok, Err, Some, None, Option}
use Rattle.std.proofs.lemmas.Bool.{eqb-true, eq-eqb, true≢false}
use Rattle.std.proofs.lemmas.List.{take-append-drop}
use Rattle.std.specs.Option.{option_map}
use Rattle.btx_bib.specs.declared.grammar.byte_sets.Delimiter.{Delimiter}
use Rattle.btx_bib.specs.declared.grammar.byte_sets.Delimiter.TheVariants.{Braces, Parens}
use Rattle.btx_bib.specs.declared.grammar.byte_sets.ByteSet.TheVariants.{KeyByte, Gap}
use Rattle.btx_bib.specs.declared.grammar.commands.DatabaseCommand.{DatabaseCommand}
use Rattle.btx_bib.specs.declared.grammar.commands.DatabaseCommand.TheVariants as command
use Rattle.btx_bib.specs.declared.grammar.commands.Expected.{Expected}
use Rattle.btx_bib.specs.declared.grammar.commands.Expected.TheVariants.{Item, Closing, Fields}
use Rattle.btx_bib.specs.declared.grammar.slip.SyntaxError.{SyntaxError}
use Rattle.btx_bib.specs.declared.grammar.slip.SyntaxError.TheVariants.{NoDelimiter, NoComma, NoEquals, NoClosing}
use Rattle.btx_bib.specs.language.Grammar.ByteSets.{begins, longest_run_len, longest_run, past}
use Rattle.btx_bib.specs.language.Grammar.Tokens.{Parsed, followed_by, wrong_at, name_at, open_in, open_at, sign_at, key_here, key_at, closing_delimiter}
use Rattle.btx_bib.specs.language.Grammar.Values.{value_at}
use Rattle.btx_bib.specs.language.Grammar.Fields.{Field, field_at, after_comma, more_in}
use Rattle.btx_bib.specs.language.Grammar.Items.{Event, Comment, Preamble, Definition, Entry, ItemEnd, Wrong, command_of, head_of, head_at, field_event, Step}
use Rattle.btx_bib.specs.language.Grammar.Items.{step_by, behind_at, expected_step, Placed, StoredKeys, as_known, events_from}
use Rattle.btx_bib.specs.laws.Grammar.Spelling.{Grammar, Gives, Then, Spaced, NameHere, SignHere, ValueSpelling, FieldSpelling, Splits, read_as}
use Rattle.btx_bib.specs.laws.Grammar.Reading.{OnSign, WrongHere, OpenHere, KeyHere, AfterComma, MoreHere, HeadOf, Head, more_event, HasNoAt, Stands, IsEventOf}
use Rattle.btx_bib.specs.laws.Grammar.Reading.{IsReading}
use Rattle.btx_bib.specs.refinement.Grammar.Reads.{left}
use Rattle.btx_bib.proofs.GrammarLemmas.LengthLemmas.{StepsTo, next-leaves, events_from-step, events-none}
use Rattle.btx_bib.proofs.GrammarLemmas.SpellingLemmas.{Decides, Only, then-decides, gives-decides, spaced-decides, name-decides, sign-decides, value-decides}
use Rattle.btx_bib.proofs.GrammarLemmas.SpellingLemmas.{field-decides, run-of, past-of, is_run}
use Rattle.btx_bib.specs.refinement.Grammar.Items.{item_end, known_step, events_by}
use Rattle.btx_bib.specs.refinement.Grammar.Fields.{one_more}
use Rattle.btx_bib.specs.laws.Grammar.Fields.{more_at}

-- ---- signs

abbrev on_sign : {A : Type 0} → ℕ → (List ℕ → Parsed A) → (List ℕ → Parsed A) → List ℕ → Parsed A
on_sign sign read other s = cond (begins (λ b. eqb b sign) s) (read (drop 1 s)) (other s)

sign-front : {A : Type 0} (sign : ℕ) (R S : Grammar A) (bs : List ℕ) (r : Parsed A) → Splits R bs r → Splits (OnSign sign R S) (sign ∷ bs) r
sign-front sign R S bs (Ok got) h = (sign ∷ h.0, ap (λ t. sign ∷ t) h.1, inl (h.0, refl, h.2))
sign-front sign R S bs (Err wrong) h = (sign ∷ h.0, ap (λ t. sign ∷ t) h.1, inl (h.0, refl, h.2))

other-front : {A : Type 0} (sign : ℕ) (R S : Grammar A) (s : List ℕ) (r : Parsed A) → begins (λ b. eqb b sign) s ≡ false → Splits S s r
    → Splits (OnSign sign R S) s r
other-front sign R S s (Ok got) e h = (h.0, h.1, inr (rw h.1 e, h.2))
other-front sign R S s (Err wrong) e h = (h.0, h.1, inr (rw h.1 e, h.2))

on-total : {A : Type 0} (sign : ℕ) (R S : Grammar A) (read other : List ℕ → Parsed A) → ((t : List ℕ) → Splits R t (read t))
    → ((t : List ℕ) → Splits S t (other t)) →
    (s : List ℕ) (t : Bool) → begins (λ b. eqb b sign) s ≡ t → Splits (OnSign sign R S) s (cond t (read (drop 1 s)) (other s))
on-total sign R S read other D E s false e = other-front sign R S s (other s) e (E s)
on-total sign R S read other D E [] true e = absurd (true≢false (sym e))
on-total sign R S read other D E (b ∷ bs) true e =
    subst (λ c. Splits (OnSign sign R S) (c ∷ bs) (read bs)) (sym (eqb-true b sign e)) (sign-front sign R S bs (read bs) (D bs))

on-only : {A : Type 0} (sign : ℕ) (R S : Grammar A) (read other : List ℕ → Parsed A) → Only read R → Only other S
    → Only (on_sign sign read other) (OnSign sign R S)
on-only sign R S read other D E o front rest (inl h) =
    rw (h.1, eq-eqb sign sign refl) (D o h.0 rest h.2)
on-only sign R S read other D E o front rest (inr h) = rw h.0 (E o front rest h.1)

on-decides : {A : Type 0} (sign : ℕ) (R S : Grammar A) (read other : List ℕ → Parsed A) → Decides read R → Decides other S
    → Decides (on_sign sign read other) (OnSign sign R S)
on-decides sign R S read other D E = record {
  total = λ s. on-total sign R S read other D.total E.total s (begins (λ b. eqb b sign) s) refl;
  only = on-only sign R S read other D.only E.only;
}

wrong-decides : {A : Type 0} (slip : SyntaxError) → Decides {A = A} (wrong_at slip) (WrongHere slip)
wrong-decides {A} slip = record { total = λ s. ([], refl, record { nothing = refl; slip_is = refl }); only = only } where
  only : (o : Result A SyntaxError) (front rest : List ℕ) → WrongHere slip o front rest → wrong_at slip (front ++ rest) ≡ read_as o rest
  only (Ok a) front rest h = absurd h
  only (Err met) front rest h = rw (h.nothing, h.slip_is) refl

open-decides : Decides open_in OpenHere
unfolding open_in
open-decides =
    on-decides 123 (Gives Braces) (OnSign 40 (Gives Parens) (WrongHere NoDelimiter)) (λ s. Ok (Braces, s)) _ (gives-decides Braces)
    (on-decides 40 (Gives Parens) (WrongHere NoDelimiter) (λ s. Ok (Parens, s)) (wrong_at NoDelimiter) (gives-decides Parens) (wrong-decides NoDelimiter))

-- ---- keys

key-total : (d : Delimiter) (s : List ℕ) → Splits (KeyHere d) s (key_here d s)
unfolding key_here
key-total d [] = ([], refl, (refl, refl, refl))
key-total d (b ∷ bs) =
    let whole = take-append-drop (longest_run_len (KeyByte d) (b ∷ bs)) (b ∷ bs) in
    (longest_run (KeyByte d) (b ∷ bs), whole, (refl, is_run (KeyByte d) (b ∷ bs), rw whole refl))

key_in-some : (d : Delimiter) (s : List ℕ) → begins (λ b. true) s ≡ true → key_here d s ≡ Ok (longest_run (KeyByte d) s, past (KeyByte d) s)
unfolding key_here
key_in-some d [] e = absurd (true≢false (sym e))
key_in-some d (b ∷ bs) e = refl

key-only : (d : Delimiter) → Only (key_here d) (KeyHere d)
unfolding key_here
key-only d (Ok key) front rest h = rw (h.0, key_in-some d (key ++ rest) h.2, run-of (KeyByte d) key rest h.1, past-of (KeyByte d) key rest h.1) refl
key-only d (Err slip) front rest h = rw (h.1, h.2, h.0) refl

key-decides : (d : Delimiter) → Decides (key_here d) (KeyHere d)
key-decides d = record { total = key-total d; only = key-only d }

-- ---- what may stand at a place

same-decides : {A : Type 0} (R : Grammar A) (read other : List ℕ → Parsed A) → ((s : List ℕ) → read s ≡ other s) → Decides read R → Decides other R
same-decides R read other e D = record {
  total = λ s. subst (Splits R s) (e s) (D.total s);
  only = λ o front rest h. sym (e (front ++ rest)) ∙ D.only o front rest h;
}

some-field-decides : Decides (λ s. one_more (field_at s)) (Then FieldSpelling (λ field. Gives (Some field)))
some-field-decides = then-decides FieldSpelling (λ field. Gives (Some field)) field_at (λ field rest. Ok (Some field, rest)) field-decides
    (λ field. gives-decides (Some field))

ended-decides : Decides (λ s. Ok (None, s)) (Gives {A = Option Field} None)
ended-decides = gives-decides None

after_comma-decides : (d : Delimiter) → Decides (after_comma d) (AfterComma d)
unfolding after_comma
after_comma-decides d = on-decides (closing_delimiter d) (Gives None) (Then FieldSpelling (λ field. Gives (Some field))) (λ s. Ok (None, s))
    (λ s. one_more (field_at s)) ended-decides some-field-decides

pub more_in-decides : (d : Delimiter) → Decides (more_in d) (MoreHere d)
unfolding more_in
more_in-decides d =
    on-decides (closing_delimiter d) (Gives None) (OnSign 44 (Spaced (AfterComma d)) (WrongHere (NoComma d))) (λ s. Ok (None, s)) _ ended-decides
    (on-decides 44 (Spaced (AfterComma d)) (WrongHere (NoComma d)) (λ s. after_comma d (past Gap s)) (wrong_at (NoComma d))
    (spaced-decides (AfterComma d) (after_comma d) (after_comma-decides d)) (wrong-decides (NoComma d)))

pub spaced-open : Decides open_at (Spaced OpenHere)
spaced-open = spaced-decides OpenHere open_in open-decides

pub spaced-key : (d : Delimiter) → Decides (key_at d) (Spaced (KeyHere d))
spaced-key d = spaced-decides (KeyHere d) (key_here d) (key-decides d)

head_of-decides : (c : DatabaseCommand) (name : List ℕ) → Decides (head_of c name) (HeadOf c name)
unfolding head_of
head_of-decides command.Comment name = gives-decides (Comment, Item)
head_of-decides command.Preamble name =
    then-decides (Spaced OpenHere) _ open_at _ spaced-open
    (λ d. then-decides ValueSpelling _ value_at _ value-decides (λ value. gives-decides (Preamble value, Closing d)))
head_of-decides command.Definition name =
    then-decides (Spaced OpenHere) _ open_at _ spaced-open (λ d.
    then-decides (Spaced NameHere) _ name_at _ name-decides (λ string.
    then-decides (Spaced (SignHere 61 NoEquals)) _ (sign_at 61 NoEquals) _ (sign-decides 61 NoEquals) (λ sign.
    then-decides ValueSpelling _ value_at _ value-decides (λ value. gives-decides (Definition string value, Closing d)))))
head_of-decides command.Entry name =
    then-decides (Spaced OpenHere) _ open_at _ spaced-open
    (λ d. then-decides (Spaced (KeyHere d)) _ (key_at d) _ (spaced-key d) (λ key. gives-decides (Entry name key, Fields d)))

head-decides : Decides head_at Head
unfolding head_at
head-decides = then-decides (Spaced NameHere) _ name_at _ name-decides (λ name. head_of-decides (command_of name) name)

end-decides : (d : Delimiter) → Decides (λ s. item_end (sign_at (closing_delimiter d) (NoClosing d) s)) (Stands (Closing d))
end-decides d =
    then-decides (Spaced (SignHere (closing_delimiter d) (NoClosing d))) (λ sign. Gives (ItemEnd, Item)) (sign_at (closing_delimiter d) (NoClosing d))
    (λ sign rest. Ok ((ItemEnd, Item), rest)) (sign-decides (closing_delimiter d) (NoClosing d)) (λ sign. gives-decides (ItemEnd, Item))

more-same : (d : Delimiter) (r : Parsed (Option Field)) → followed_by r (λ more rest. Ok (more_event d more, rest)) ≡ field_event d r
more-same d (Ok (None, rest)) = refl
more-same d (Ok (Some field, rest)) = refl
more-same d (Err wrong) = refl

fields-decides : (d : Delimiter) → Decides (λ s. field_event d (more_at d s)) (Stands (Fields d))
fields-decides d =
    same-decides (Stands (Fields d)) (λ s. followed_by (more_at d s) (λ more rest. Ok (more_event d more, rest))) _ (λ s. more-same d (more_at d s))
    (then-decides (Spaced (MoreHere d)) (λ more. Gives (more_event d more)) (more_at d) (λ more rest. Ok (more_event d more, rest))
    (spaced-decides (MoreHere d) (more_in d) (more_in-decides d)) (λ more. gives-decides (more_event d more)))

-- ---- the first `@`

at-splits : (s t : List ℕ) → behind_at s ≡ Some t → (ignored : List ℕ) × (s ≡ ignored ++ 64 ∷ t) × HasNoAt ignored
unfolding behind_at
at-splits [] t e = cc
at-splits (b ∷ bs) t e = at (eqb b 64) refl e (at-splits bs t) where
  at : (u : Bool) → eqb b 64 ≡ u → cond u (Some bs) (behind_at bs) ≡ Some t
      → (behind_at bs ≡ Some t → (ignored : List ℕ) × (bs ≡ ignored ++ 64 ∷ t) × HasNoAt ignored) →
      (ignored : List ℕ) × (b ∷ bs ≡ ignored ++ 64 ∷ t) × HasNoAt ignored
  at true is e h = let same : bs ≡ t = cc in let sign = eqb-true b 64 is in ([], rw (sign, same) refl, tt)
  at false is e h = let later = h e in (b ∷ later.0, ap (λ x. b ∷ x) later.1, (is, later.2))

at-none : (s : List ℕ) → behind_at s ≡ None → HasNoAt s
unfolding behind_at
at-none [] e = tt
at-none (b ∷ bs) e = at (eqb b 64) refl e (at-none bs) where
  at : (u : Bool) → eqb b 64 ≡ u → cond u (Some bs) (behind_at bs) ≡ None → (behind_at bs ≡ None → HasNoAt bs) → HasNoAt (b ∷ bs)
  at true is e h = cc
  at false is e h = (is, h e)

none-at : (s : List ℕ) → HasNoAt s → behind_at s ≡ None
unfolding behind_at
none-at [] h = refl
none-at (b ∷ bs) h = rw h.0 (none-at bs h.1)

at-of : (ignored t : List ℕ) → HasNoAt ignored → behind_at (ignored ++ 64 ∷ t) ≡ Some t
unfolding behind_at
at-of [] t h = refl
at-of (b ∷ bs) t h = rw h.0 (at-of bs t h.1)

-- ---- one step

-- a step is an outcome whose front may stand here
abbrev pub IsStep : Event → Expected → Result (Event × Expected) SyntaxError → Type 0
IsStep event next (Ok got) = (event ≡ got.0) × (next ≡ got.1)
IsStep event next (Err slip) = (event ≡ Wrong slip) × (next ≡ Item)

abbrev pub StepStands : Expected → List ℕ → Step → Type 0
StepStands w s step = (o : Result (Event × Expected) SyntaxError) × (front : List ℕ) × (front ++ step.rest ≡ s) × IsStep step.event step.wanted o
    × Stands w o front step.rest

read-stands : (w : Expected) (s : List ℕ) (r : Parsed (Event × Expected)) → Splits (Stands w) s r → StepStands w s (step_by r)
read-stands w s (Ok got) h = (Ok got.0, h.0, h.1, (refl, refl), h.2)
read-stands w s (Err wrong) h = (Err wrong.0, h.0, h.1, (refl, refl), h.2)

item-splits : (s t : List ℕ) (r : Parsed (Event × Expected)) → behind_at s ≡ Some t → Splits Head t r → Splits (Stands Item) s r
item-splits s t (Ok got) e h =
    let at = at-splits s t e in
    (at.0 ++ 64 ∷ h.0, append_assoc at.0 (64 ∷ h.0) got.1 ∙ ap (λ x. at.0 ++ 64 ∷ x) h.1 ∙ sym at.1, (at.0, h.0, refl, at.2, h.2))
item-splits s t (Err wrong) e h =
    let at = at-splits s t e in
    (at.0 ++ 64 ∷ h.0, append_assoc at.0 (64 ∷ h.0) wrong.1 ∙ ap (λ x. at.0 ++ 64 ∷ x) h.1 ∙ sym at.1, (at.0, h.0, refl, at.2, h.2))

abbrev pub OptionStands : Expected → List ℕ → Option Step → Type 0
OptionStands w s None = (w ≡ Item) × HasNoAt s
OptionStands w s (Some step) = StepStands w s step

item-step : (s : List ℕ) (o : Option (List ℕ)) → behind_at s ≡ o → OptionStands Item s (option_map (λ rest. step_by (head_at rest)) o)
item-step s None e = (refl, at-none s e)
item-step s (Some t) e = read-stands Item s (head_at t) (item-splits s t (head_at t) e (head-decides.total t))

pub step-stands : (w : Expected) (s : List ℕ) → OptionStands w s (expected_step w s)
unfolding expected_step
step-stands Item s = item-step s (behind_at s) refl
step-stands (Closing d) s = read-stands (Closing d) s (item_end (sign_at (closing_delimiter d) (NoClosing d) s)) ((end-decides d).total s)
step-stands (Fields d) s = read-stands (Fields d) s (field_event d (more_at d s)) ((fields-decides d).total s)

pub stands-step : (w : Expected) (o : Result (Event × Expected) SyntaxError) (front rest : List ℕ) → Stands w o front rest → expected_step w (front ++ rest)
    ≡ Some (step_by (read_as o rest))
unfolding expected_step
stands-step Item o front rest h =
    let text : front ++ rest ≡ h.0 ++ 64 ∷ (h.1 ++ rest) = ap (λ t. t ++ rest) h.2 ∙ append_assoc h.0 (64 ∷ h.1) rest in
    let at : behind_at (front ++ rest) ≡ Some (h.1 ++ rest) = ap behind_at text ∙ at-of h.0 (h.1 ++ rest) h.3 in
    rw (at, head-decides.only o h.1 rest h.4) refl
stands-step (Closing d) o front rest h = ap (λ r. Some (step_by r)) ((end-decides d).only o front rest h)
stands-step (Fields d) o front rest h = ap (λ r. Some (step_by r)) ((fields-decides d).only o front rest h)

-- what is known of a step is known of its outcome
pub known-outcome : {S : Type 0} (stored_keys : StoredKeys S) (state : S) (event : Event) (next : Expected) (o : Result (Event × Expected) SyntaxError) → IsStep event next o →
    let got = as_known (stored_keys.is_stored state) (event, next) in IsEventOf stored_keys state got.0 got.1 o
known-outcome stored_keys state event next (Ok got) h = rw (h.0, h.1) (refl, refl)
known-outcome stored_keys state event next (Err slip) h = rw (h.0, h.1) (refl, refl)

outcome-events : {S : Type 0} (stored_keys : StoredKeys S) (others : S → Expected → List ℕ → List Placed) (state : S) (event : Event) (next : Expected) (rest : List ℕ)
    (o : Result (Event × Expected) SyntaxError) →
    IsEventOf stored_keys state event next o → events_by stored_keys others state (known_step (stored_keys.is_stored state) (Some (step_by (read_as o rest))))
    ≡ record { event = event; rest = rest } ∷ others (stored_keys.after state event) next rest
outcome-events stored_keys others state event next rest (Ok got) h = rw (h.0, h.1) refl
outcome-events stored_keys others state event next rest (Err slip) h = rw (h.0, h.1) refl

-- ---- the whole reading

reading-by : {S : Type 0} (stored_keys : StoredKeys S) (state : S) (w : Expected) (s : List ℕ) (o : Option Step) → OptionStands w s o
    → StepsTo (left w (length s)) (known_step (stored_keys.is_stored state) o) →
    ((q : S) (v : Expected) (t : List ℕ) → left v (length t) < left w (length s) → IsReading stored_keys q v t (events_from stored_keys q v t)) →
    IsReading stored_keys state w s (events_by stored_keys (events_from stored_keys) state (known_step (stored_keys.is_stored state) o))
reading-by stored_keys state w s None h less others = h
reading-by stored_keys state w s (Some step) h less others =
    let got = as_known (stored_keys.is_stored state) (step.event, step.wanted) in
    (h.0, got.1, h.1, h.2, known-outcome stored_keys state step.event step.wanted h.0 h.3, h.4, others (stored_keys.after state got.0) got.1 step.rest less)

reading-total : {S : Type 0} (stored_keys : StoredKeys S) (m : ℕ) (state : S) (w : Expected) (s : List ℕ) → left w (length s) < m
    → IsReading stored_keys state w s (events_from stored_keys state w s)
reading-total stored_keys zero state w s lt = absurd (omega arith)
reading-total stored_keys (suc m) state w s lt =
    subst (IsReading stored_keys state w s) (sym (events_from-step stored_keys state w s))
    (reading-by stored_keys state w s (expected_step w s) (step-stands w s) (next-leaves (stored_keys.is_stored state) w s)
    (λ q v t less. reading-total stored_keys m q v t (omega arith)))

pub is_reading : {S : Type 0} (stored_keys : StoredKeys S) (state : S) (w : Expected) (s : List ℕ) → IsReading stored_keys state w s (events_from stored_keys state w s)
is_reading stored_keys state w s = reading-total stored_keys (suc (left w (length s))) state w s (omega arith)

pub nothing-step : (w : Expected) (s : List ℕ) → w ≡ Item → HasNoAt s → expected_step w s ≡ None
unfolding expected_step
nothing-step w s is h = rw (is, none-at s h) refl

pub one_reading : {S : Type 0} (stored_keys : StoredKeys S) (events : List Placed) (state : S) (w : Expected) (s : List ℕ) → IsReading stored_keys state w s events
    → events ≡ events_from stored_keys state w s
one_reading stored_keys [] state w s h = sym (events-none stored_keys state w s (ap (known_step (stored_keys.is_stored state)) (nothing-step w s h.0 h.1)))
one_reading stored_keys (p ∷ ps) state w s (o, next, front, text, outcome, stands, others) =
    let step : expected_step w s ≡ Some (step_by (read_as o p.rest)) = ap (expected_step w) (sym text) ∙ stands-step w o front p.rest stands in
    ap (λ xs. p ∷ xs) (one_reading stored_keys ps (stored_keys.after state p.event) next p.rest others)
    ∙ sym (outcome-events stored_keys (events_from stored_keys) state p.event next p.rest o outcome)
    ∙ sym (events_from-step stored_keys state w s ∙ ap (λ t. events_by stored_keys (events_from stored_keys) state (known_step (stored_keys.is_stored state) t)) step)
