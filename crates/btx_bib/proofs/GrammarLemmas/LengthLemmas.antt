-- What is read leaves a text that isn't longer.
use Rattle.std.proofs.Common.{◌≡◌, ℕ, zero, suc, ◌+◌, ◌*◌, ◌<◌, ◌≤◌, Bool, true, false, cond, eqb, List, [], ◌∷◌, length, drop, refl, ◌∙◌, ap, arith}
use Rattle.std.proofs.Common.{length-drop, Ok, Err, Some, None, Option}
use Rattle.std.specs.Option.{option_map}
use Rattle.btx_text.specs.language.Class.{begins_name}
use Rattle.btx_bib.specs.declared.grammar.byte_sets.Delimiter.{Delimiter}
use Rattle.btx_bib.specs.declared.grammar.byte_sets.ByteSet.TheVariants.{Gap, NameByte, Digit, KeyByte}
use Rattle.btx_bib.specs.declared.grammar.byte_sets.Enclosure.{Enclosure}
use Rattle.btx_bib.specs.declared.grammar.byte_sets.Enclosure.TheVariants.{Group, Quotes}
use Rattle.btx_bib.specs.declared.grammar.commands.DatabaseCommand.{DatabaseCommand}
use Rattle.btx_bib.specs.declared.grammar.commands.DatabaseCommand.TheVariants as command
use Rattle.btx_bib.specs.declared.grammar.commands.Expected.{Expected}
use Rattle.btx_bib.specs.declared.grammar.commands.Expected.TheVariants.{Item, Closing, Fields}
use Rattle.btx_bib.specs.declared.grammar.slip.SyntaxError.{SyntaxError}
use Rattle.btx_bib.specs.declared.grammar.slip.SyntaxError.TheVariants.{NoEquals, NoClosing, Repeated}
use Rattle.btx_bib.specs.language.Grammar.ByteSets.{begins, past, enclosed_len}
use Rattle.btx_bib.specs.language.Grammar.Tokens.{Parsed, followed_by, name_here, name_at, open_in, open_at, sign_in, sign_at, key_here, key_at}
use Rattle.btx_bib.specs.language.Grammar.Tokens.{closing_delimiter}
use Rattle.btx_bib.specs.language.Grammar.Values.{Part, closed_part, enclosed_in, part_in, part_at, next_part, value_within, value_at}
use Rattle.btx_bib.specs.language.Grammar.Fields.{Field, field_at, after_comma, more_in}
use Rattle.btx_bib.specs.language.Grammar.Items.{Event, Wrong, StoredKeys, is_repeated, as_known, next_step, command_of, head_of, head_at, field_event, Step}
use Rattle.btx_bib.specs.language.Grammar.Items.{step_by, behind_at, expected_step, Placed, events_within, events_from}
use Rattle.btx_bib.proofs.GrammarLemmas.ValueLemmas.{Within, behind_hash-within, past-le}
use Rattle.btx_bib.specs.refinement.Grammar.Items.{item_end, known_step, events_by}
use Rattle.btx_bib.specs.refinement.Grammar.Fields.{one_more}
use Rattle.std.specs.Char.{is_ascii_digit}
use Rattle.btx_bib.specs.laws.Grammar.Fields.{more_at}
use Rattle.btx_bib.specs.refinement.Grammar.Reads.{left}
use Rattle.btx_bib.specs.refinement.Grammar.Values.{joined}

-- the text that follows isn't longer than `n` bytes
abbrev pub Stays : {A : Type 0} → ℕ → Parsed A → Type 0
Stays n (Ok got) = length got.1 ≤ n
Stays n (Err wrong) = length wrong.1 ≤ n

stays-more : {A : Type 0} (r : Parsed A) (n m : ℕ) → n ≤ m → Stays n r → Stays m r
stays-more (Ok got) n m le h = omega arith
stays-more (Err wrong) n m le h = omega arith

stays-then : {A B : Type 0} (r : Parsed A) (next : A → List ℕ → Parsed B) (n : ℕ) → Stays n r
    → ((a : A) (rest : List ℕ) → length rest ≤ n → Stays n (next a rest)) → Stays n (followed_by r next)
stays-then (Ok got) next n h k = k got.0 got.1 h
stays-then (Err wrong) next n h k = h

-- a choice, and the two ways of it
stays-if : {A : Type 0} (t : Bool) (r s : Parsed A) (n : ℕ) → Stays n r → Stays n s → Stays n (cond t r s)
stays-if true r s n h k = h
stays-if false r s n h k = k

drop-le : (n : ℕ) (s : List ℕ) → length (drop n s) ≤ length s
drop-le n s = omega (arith, length-drop n s)

-- ---- words and signs

name_in-stays : (s : List ℕ) → Stays (length s) (name_here s)
unfolding name_here
name_in-stays s = stays-if (begins begins_name s) _ _ (length s) (past-le NameByte s) (omega arith)

name-stays : (s : List ℕ) (n : ℕ) → length s ≤ n → Stays n (name_at s)
name-stays s n le = stays-more (name_at s) (length (past Gap s)) n (omega (arith, past-le Gap s)) (name_in-stays (past Gap s))

open_in-stays : (s : List ℕ) → Stays (length s) (open_in s)
unfolding open_in
open_in-stays s =
    stays-if (begins (λ b. eqb b 123) s) _ _ (length s) (drop-le 1 s) (stays-if (begins (λ b. eqb b 40) s) _ _ (length s) (drop-le 1 s) (omega arith))

open-stays : (s : List ℕ) (n : ℕ) → length s ≤ n → Stays n (open_at s)
open-stays s n le = stays-more (open_at s) (length (past Gap s)) n (omega (arith, past-le Gap s)) (open_in-stays (past Gap s))

sign_in-stays : (sign : ℕ) (slip : SyntaxError) (s : List ℕ) → Stays (length s) (sign_in sign slip s)
unfolding sign_in
sign_in-stays sign slip s = stays-if (begins (λ b. eqb b sign) s) _ _ (length s) (drop-le 1 s) (omega arith)

sign-stays : (sign : ℕ) (slip : SyntaxError) (s : List ℕ) (n : ℕ) → length s ≤ n → Stays n (sign_at sign slip s)
sign-stays sign slip s n le = stays-more (sign_at sign slip s) (length (past Gap s)) n (omega (arith, past-le Gap s)) (sign_in-stays sign slip (past Gap s))

key_in-stays : (delimiter : Delimiter) (s : List ℕ) → Stays (length s) (key_here delimiter s)
unfolding key_here
key_in-stays delimiter [] = omega arith
key_in-stays delimiter (b ∷ bs) = past-le (KeyByte delimiter) (b ∷ bs)

key-stays : (delimiter : Delimiter) (s : List ℕ) (n : ℕ) → length s ≤ n → Stays n (key_at delimiter s)
key-stays delimiter s n le = stays-more (key_at delimiter s) (length (past Gap s)) n (omega (arith, past-le Gap s)) (key_in-stays delimiter (past Gap s))

-- ---- values

closed-stays : (enclosure : Enclosure) (text rest : List ℕ) (n : ℕ) → length rest ≤ n → Stays n (closed_part enclosure text rest)
closed-stays enclosure text [] n h = omega arith
closed-stays Group text (b ∷ bs) n h = omega arith
closed-stays Quotes text (b ∷ bs) n h = stays-if (eqb b 34) _ _ n (omega arith) h

enclosed-stays : (enclosure : Enclosure) (b : ℕ) (bs : List ℕ) → Stays (length (b ∷ bs)) (enclosed_in enclosure bs)
enclosed-stays enclosure b bs = closed-stays enclosure _ (drop (enclosed_len enclosure 0 bs) bs) (length (b ∷ bs))
    (omega (arith, drop-le (enclosed_len enclosure 0 bs) bs))

part_in-stays : (s : List ℕ) → Stays (length s) (part_in s)
unfolding part_in
part_in-stays [] = omega arith
part_in-stays (b ∷ bs) =
    let n = length (b ∷ bs) in
    stays-if (eqb b 123) _ _ n (enclosed-stays Group b bs)
    (stays-if (eqb b 34) _ _ n (enclosed-stays Quotes b bs)
    (stays-if (is_ascii_digit b) _ _ n (past-le Digit (b ∷ bs))
    (stays-if (begins_name b) _ _ n (past-le NameByte (b ∷ bs)) (omega arith))))

part-stays : (s : List ℕ) (n : ℕ) → length s ≤ n → Stays n (part_at s)
part-stays s n le = stays-more (part_at s) (length (past Gap s)) n (omega (arith, past-le Gap s)) (part_in-stays (past Gap s))

value_within-stays : (turns : ℕ) (s : List ℕ) (n : ℕ) → length s ≤ n → Stays n (value_within turns s)
unfolding value_within
value_within-stays zero s n le = omega arith
value_within-stays (suc turns) s n le = stays-then (part_at s) _ n (part-stays s n le)
    (λ part rest h. at part rest h (next_part rest) (behind_hash-within (past Gap rest) (length rest) (past-le Gap rest))
    (λ t k. value_within-stays turns t n k)) where
      at : (part : Part) (rest : List ℕ) → length rest ≤ n → (o : Option (List ℕ)) → Within (length rest) o
          → ((t : List ℕ) → length t ≤ n → Stays n (value_within turns t)) → Stays n (joined (value_within turns) part rest o)
      at part rest h None le others = h
      at part rest h (Some t) le others = stays-then (value_within turns t) _ n (others t (omega arith)) (λ parts end k. k)

value-stays : (s : List ℕ) (n : ℕ) → length s ≤ n → Stays n (value_at s)
unfolding value_at
value-stays s n le = value_within-stays (suc (length s)) s n le

-- ---- fields

field-stays : (s : List ℕ) (n : ℕ) → length s ≤ n → Stays n (field_at s)
unfolding field_at
field-stays s n le =
    stays-then (name_at s) _ n (name-stays s n le) (λ name r h.
    stays-then (sign_at 61 NoEquals r) _ n (sign-stays 61 NoEquals r n h) (λ sign q k.
    stays-then (value_at q) _ n (value-stays q n k) (λ value rest l. l)))

one_more-stays : (r : Parsed Field) (n : ℕ) → Stays n r → Stays n (one_more r)
one_more-stays (Ok got) n h = h
one_more-stays (Err wrong) n h = h

after_comma-stays : (delimiter : Delimiter) (s : List ℕ) (n : ℕ) → length s ≤ n → Stays n (after_comma delimiter s)
unfolding after_comma
after_comma-stays delimiter s n le =
    stays-if (begins (λ b. eqb b (closing_delimiter delimiter)) s) _ _ n (omega (arith, drop-le 1 s)) (one_more-stays (field_at s) n (field-stays s n le))

-- ---- what is read at a place: less is left, or as much and an item is wanted

left-le : (wanted : Expected) (n : ℕ) → left wanted n ≤ 2 * n + 1
left-le Item n = omega arith
left-le (Closing delimiter) n = omega arith
left-le (Fields delimiter) n = omega arith

begun : (r : Parsed (Event × Expected)) (n : ℕ) → Stays n r → left (step_by r).wanted (length (step_by r).rest) < 2 * suc n
begun (Ok got) n h = let le = left-le got.0.1 (length got.1) in omega arith
begun (Err wrong) n h = omega arith

head_of-stays : (c : DatabaseCommand) (name s : List ℕ) (n : ℕ) → length s ≤ n → Stays n (head_of c name s)
unfolding head_of
head_of-stays command.Comment name s n le = le
head_of-stays command.Preamble name s n le =
    stays-then (open_at s) _ n (open-stays s n le) (λ delimiter r h.
    stays-then (value_at r) _ n (value-stays r n h) (λ value rest l. l))
head_of-stays command.Definition name s n le =
    stays-then (open_at s) _ n (open-stays s n le) (λ delimiter r h.
    stays-then (name_at r) _ n (name-stays r n h) (λ string q k.
    stays-then (sign_at 61 NoEquals q) _ n (sign-stays 61 NoEquals q n k) (λ sign p m.
    stays-then (value_at p) _ n (value-stays p n m) (λ value rest l. l))))
head_of-stays command.Entry name s n le =
    stays-then (open_at s) _ n (open-stays s n le) (λ delimiter r h.
    stays-then (key_at delimiter r) _ n (key-stays delimiter r n h) (λ key rest l. l))

head-stays : (s : List ℕ) (n : ℕ) → length s ≤ n → Stays n (head_at s)
unfolding head_at
head-stays s n le = stays-then (name_at s) _ n (name-stays s n le) (λ name r h. head_of-stays (command_of name) name r n h)

ended-left : (r : Parsed (Unit {0})) (n : ℕ) → Stays n r → let step = step_by (item_end r) in left step.wanted (length step.rest) < 2 * n + 1
ended-left (Ok got) n h = omega arith
ended-left (Err wrong) n h = omega arith

-- a further field leaves less, its end no more
abbrev pub Shrinks : ℕ → Parsed (Option Field) → Type 0
Shrinks n (Ok (None, rest)) = length rest ≤ n
Shrinks n (Ok (Some field, rest)) = suc (length rest) ≤ n
Shrinks n (Err wrong) = length wrong.1 ≤ n

shrinks_ended : (n m : ℕ) (rest : List ℕ) → length rest ≤ n → Shrinks n (Ok (None, rest))
shrinks_ended n m rest h = h

shrinks-if : (t : Bool) (r s : Parsed (Option Field)) (n : ℕ) → Shrinks n r → Shrinks n s → Shrinks n (cond t r s)
shrinks-if true r s n h k = h
shrinks-if false r s n h k = k

shrinks-one : (r : Parsed Field) (n m : ℕ) → n < m → Stays n r → Shrinks m (one_more r)
shrinks-one (Ok got) n m lt h = omega arith
shrinks-one (Err wrong) n m lt h = omega arith

after_comma-shrinks : (delimiter : Delimiter) (s : List ℕ) (n m : ℕ) → length s ≤ n → n < m → Shrinks m (after_comma delimiter s)
unfolding after_comma
after_comma-shrinks delimiter s n m le lt =
    shrinks-if (begins (λ b. eqb b (closing_delimiter delimiter)) s) _ _ m (omega (arith, drop-le 1 s)) (shrinks-one (field_at s) n m lt (field-stays s n le))

pub more_in-shrinks : (delimiter : Delimiter) (s : List ℕ) → Shrinks (length s) (more_in delimiter s)
unfolding more_in
more_in-shrinks delimiter [] = omega arith
more_in-shrinks delimiter (b ∷ bs) =
    let n = length (b ∷ bs) in
    shrinks-if (eqb b (closing_delimiter delimiter)) _ _ n (omega arith)
    (shrinks-if (eqb b 44) _ _ n (after_comma-shrinks delimiter (past Gap bs) (length bs) n (past-le Gap bs) (omega arith)) (omega arith))

pub shrinks-more : (r : Parsed (Option Field)) (n m : ℕ) → n ≤ m → Shrinks n r → Shrinks m r
shrinks-more (Ok (None, rest)) n m le h = omega arith
shrinks-more (Ok (Some field, rest)) n m le h = omega arith
shrinks-more (Err wrong) n m le h = omega arith

field-left : (delimiter : Delimiter) (r : Parsed (Option Field)) (n : ℕ) → Shrinks n r → let step = step_by (field_event delimiter r) in
    left step.wanted (length step.rest) < 2 * n + 1
field-left delimiter (Ok (None, rest)) n h = omega arith
field-left delimiter (Ok (Some field, rest)) n h = omega arith
field-left delimiter (Err wrong) n h = omega arith

-- each step leaves less
abbrev pub StepsTo : ℕ → Option Step → Type 0
StepsTo n None = Unit {0}
StepsTo n (Some step) = left step.wanted (length step.rest) < n

behind_at-less : (s : List ℕ) (t : List ℕ) → behind_at s ≡ Some t → length t < length s
unfolding behind_at
behind_at-less [] t e = cc
behind_at-less (b ∷ bs) t e = at (eqb b 64) e (behind_at-less bs t) where
  at : (u : Bool) → cond u (Some bs) (behind_at bs) ≡ Some t → (behind_at bs ≡ Some t → length t < length bs) → length t < suc (length bs)
  at true e h = let same : bs ≡ t = cc in rw same (omega arith)
  at false e h = let lt = h e in omega arith

item-steps : (s : List ℕ) (o : Option (List ℕ)) → behind_at s ≡ o → StepsTo (2 * length s) (option_map (λ rest. step_by (head_at rest)) o)
item-steps s None e = tt
item-steps s (Some t) e =
    let lt = behind_at-less s t e in
    let h = begun (head_at t) (length t) (head-stays t (length t) (omega arith)) in
    omega arith

pub step-leaves : (wanted : Expected) (s : List ℕ) → StepsTo (left wanted (length s)) (expected_step wanted s)
unfolding expected_step
step-leaves Item s = item-steps s (behind_at s) refl
step-leaves (Closing delimiter) s = ended-left (sign_at (closing_delimiter delimiter) (NoClosing delimiter) s) (length s)
    (sign-stays (closing_delimiter delimiter) (NoClosing delimiter) s (length s) (omega arith))
step-leaves (Fields delimiter) s =
    field-left delimiter (more_at delimiter s) (length s)
    (shrinks-more (more_at delimiter s) (length (past Gap s)) (length s) (past-le Gap s) (more_in-shrinks delimiter (past Gap s)))

-- ---- the events, one at a time

-- where an entry is repeated, no more is left to read
known-left : (is_stored : List ℕ → Bool) (event : Event) (wanted : Expected) (n : ℕ) → left (as_known is_stored (event, wanted)).1 n ≤ left wanted n
known-left is_stored event wanted n = at (is_repeated is_stored event) wanted where
  at : (t : Bool) (w : Expected) → let got : Event × Expected = cond t (Wrong Repeated, Item) (event, w) in left got.1 n ≤ left w n
  at true Item = omega arith
  at true (Closing delimiter) = omega arith
  at true (Fields delimiter) = omega arith
  at false w = omega arith

known-steps : (is_stored : List ℕ → Bool) (n : ℕ) (o : Option Step) → StepsTo n o → StepsTo n (known_step is_stored o)
known-steps is_stored n None h = tt
known-steps is_stored n (Some step) h = let le = known-left is_stored step.event step.wanted (length step.rest) in omega arith

pub next-leaves : (is_stored : List ℕ → Bool) (wanted : Expected) (s : List ℕ) → StepsTo (left wanted (length s)) (next_step is_stored wanted s)
next-leaves is_stored wanted s = known-steps is_stored (left wanted (length s)) (expected_step wanted s) (step-leaves wanted s)

by-enough : {S : Type 0} (stored_keys : StoredKeys S) (f g : S → Expected → List ℕ → List Placed) (n : ℕ) (state : S) (o : Option Step) → StepsTo n o →
    ((q : S) (w : Expected) (s : List ℕ) → left w (length s) < n → f q w s ≡ g q w s) → events_by stored_keys f state o ≡ events_by stored_keys g state o
by-enough stored_keys f g n state None h same = refl
by-enough stored_keys f g n state (Some step) h same = rw (same (stored_keys.after state step.event) step.wanted step.rest h) refl

within-enough : {S : Type 0} (stored_keys : StoredKeys S) (n m : ℕ) (state : S) (w : Expected) (s : List ℕ) → left w (length s) < n → left w (length s) < m →
    events_within stored_keys n state w s ≡ events_within stored_keys m state w s
unfolding events_within
within-enough stored_keys zero m state w s h k = absurd (omega arith)
within-enough stored_keys (suc n) zero state w s h k = absurd (omega arith)
within-enough stored_keys (suc n) (suc m) state w s h k =
    by-enough stored_keys (events_within stored_keys n) (events_within stored_keys m) (left w (length s)) state (next_step (stored_keys.is_stored state) w s)
    (next-leaves (stored_keys.is_stored state) w s)
    (λ q v t lt. within-enough stored_keys n m q v t (omega arith) (omega arith))

pub events_from-step : {S : Type 0} (stored_keys : StoredKeys S) (state : S) (w : Expected) (s : List ℕ) →
    events_from stored_keys state w s ≡ events_by stored_keys (events_from stored_keys) state (next_step (stored_keys.is_stored state) w s)
unfolding events_from events_within
events_from-step stored_keys state w s =
    by-enough stored_keys (events_within stored_keys (2 * length s + 1)) (events_from stored_keys) (left w (length s)) state (next_step (stored_keys.is_stored state) w s)
    (next-leaves (stored_keys.is_stored state) w s)
    (λ q v t lt. within-enough stored_keys (2 * length s + 1) (suc (2 * length t + 1)) q v t (let le = left-le w (length s) in omega arith)
    (let le = left-le v (length t) in omega arith))

-- at the end of the text
pub events-none : {S : Type 0} (stored_keys : StoredKeys S) (state : S) (w : Expected) (s : List ℕ) → next_step (stored_keys.is_stored state) w s ≡ None
    → events_from stored_keys state w s ≡ []
events-none stored_keys state w s e = events_from-step stored_keys state w s ∙ ap (events_by stored_keys (events_from stored_keys) state) e

-- the reader's next event, and the others
pub events-some : {S : Type 0} (stored_keys : StoredKeys S) (state : S) (w : Expected) (s : List ℕ) (step : Step) → next_step (stored_keys.is_stored state) w s ≡ Some step →
    events_from stored_keys state w s ≡ record { event = step.event; rest = step.rest } ∷ events_from stored_keys (stored_keys.after state step.event) step.wanted step.rest
events-some stored_keys state w s step e = events_from-step stored_keys state w s ∙ ap (events_by stored_keys (events_from stored_keys) state) e

-- each event leaves less to read: the measure of a loop that reads to the end
pub events-less : (is_stored : List ℕ → Bool) (w : Expected) (s : List ℕ) (step : Step) → next_step is_stored w s ≡ Some step
    → left step.wanted (length step.rest) < left w (length s)
events-less is_stored w s step e = let lt : StepsTo (left w (length s)) (Some step) = rw e at (next-leaves is_stored w s) in lt
