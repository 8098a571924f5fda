-- Lemmas on the text of a value: whitespace is made one space while the bytes are read.
use Rattle.std.proofs.Common.{◌≡◌, ℕ, suc, ◌+◌, ◌<◌, ◌≤◌, Bool, true, false, cond, List, [], ◌∷◌, ◌++◌, length, take, drop, get_or, ◌-◌, ◌&&◌, ◌||◌, not, eqb}
use Rattle.std.proofs.Common.{refl, sym, ◌∙◌, ap, arith, append_assoc, Err}
use Rattle.std.proofs.lemmas.List.{append-nil, drop_all, drop_more, length-append, length-take, take_all, take_at, take_more}
use Rattle.std.proofs.lemmas.Bool.{and_parts, eqb-true, true≢false}
use Rattle.btx_text.specs.declared.fault.Fault.{Fault}
use Rattle.btx_text.specs.declared.fault.Fault.TheVariants.{Memory, Device, FileLimit, StringLimit}
use Rattle.btx_text.specs.language.Limits.{greatest_string}
use Rattle.btx_bib.specs.declared.grammar.byte_sets.ByteSet.TheVariants.{Gap}
use Rattle.btx_bib.specs.declared.grammar.value_ends.Ends.{Ends}
use Rattle.btx_bib.specs.declared.grammar.value_ends.Ends.TheVariants.{Kept, Trimmed}
use Rattle.btx_bib.specs.language.Grammar.ByteSets.{is_gap, begins, past, longest_run_len}
use Rattle.btx_bib.specs.language.Grammar.Values.{Part}
use Rattle.btx_bib.specs.language.Grammar.ValueTexts.{text_of_part, squeezed, shaped, without_first_space, without_last_space}
use Rattle.btx_bib.specs.refinement.Grammar.ValueTexts.{GathersWithin, MakesText, joined_text, StringValues}
use Rattle.btx_bib.specs.refinement.Grammar.Squeezing.{squeezed_after, white_after, stays_squeezed, is_squeezed, ends_in_gap, stands, without_last_gap}
use Rattle.btx_bib.specs.refinement.Grammar.Squeezing.{without_gaps}

both : (s : List ℕ) → (squeezed_after false s ≡ squeezed s) × (squeezed s ≡ cond (begins is_gap s) (32 ∷ squeezed_after true s) (squeezed_after true s))
unfolding squeezed
both [] = (refl, refl)
both (b ∷ bs) = at (is_gap b) (begins is_gap bs) (both bs) where
  at : (t u : Bool) → (squeezed_after false bs ≡ squeezed bs) × (squeezed bs ≡ cond u (32 ∷ squeezed_after true bs) (squeezed_after true bs)) →
      (cond t (32 ∷ squeezed_after true bs) (b ∷ squeezed_after false bs) ≡ cond t (cond u (squeezed bs) (32 ∷ squeezed bs)) (b ∷ squeezed bs)) ×
      (cond t (cond u (squeezed bs) (32 ∷ squeezed bs)) (b ∷ squeezed bs) ≡ cond t (32 ∷ cond t (squeezed_after true bs) (b ∷ squeezed_after false bs))
      (cond t (squeezed_after true bs) (b ∷ squeezed_after false bs)))
  at true true h = (sym h.1, h.1)
  at true false h = (ap (λ x. 32 ∷ x) (sym h.1), ap (λ x. 32 ∷ x) h.1)
  at false u h = (ap (λ x. b ∷ x) h.0, ap (λ x. b ∷ x) (sym h.0))

pub squeezed-from : (s : List ℕ) → squeezed s ≡ squeezed_after false s
squeezed-from s = sym (both s).0

pub squeezed_after-append : (white : Bool) (s t : List ℕ) → squeezed_after white (s ++ t) ≡ squeezed_after white s ++ squeezed_after (white_after white s) t
squeezed_after-append white [] t = refl
squeezed_after-append white (b ∷ bs) t = at (is_gap b) white (squeezed_after-append true bs t) (squeezed_after-append false bs t) where
  at : (g w : Bool) → squeezed_after true (bs ++ t) ≡ squeezed_after true bs ++ squeezed_after (white_after true bs) t → squeezed_after false (bs ++ t)
      ≡ squeezed_after false bs ++ squeezed_after (white_after false bs) t →
      cond g (cond w (squeezed_after true (bs ++ t)) (32 ∷ squeezed_after true (bs ++ t))) (b ∷ squeezed_after false (bs ++ t)) ≡
      cond g (cond w (squeezed_after true bs) (32 ∷ squeezed_after true bs)) (b ∷ squeezed_after false bs) ++ squeezed_after (white_after g bs) t
  at true true h k = h
  at true false h k = ap (λ x. 32 ∷ x) h
  at false w h k = ap (λ x. b ∷ x) k

-- ---- a whole text

pub ruleset squeezed_whole = (squeezed-from)

-- ---- part by part

-- after a part the text and what is still to come are what they were
pub part-goes : (strings : StringValues) (text new bytes total : List ℕ) (was white : Bool) (part : Part) (left parts : List Part) → left ≡ part ∷ parts
    → bytes ≡ text_of_part strings part →
    new ≡ text ++ squeezed_after was bytes → white ≡ white_after was bytes → text ++ squeezed_after was (joined_text strings left) ≡ total
    → new ++ squeezed_after white (joined_text strings parts) ≡ total
part-goes strings text new bytes total was white part left parts l b n w e =
    let others = joined_text strings parts in
    let before : text ++ squeezed_after was (bytes ++ others) ≡ total = ap (λ t. text ++ squeezed_after was (t ++ others)) b
    ∙ ap (λ ps. text ++ squeezed_after was (joined_text strings ps)) (sym l) ∙ e in
    rw (n, w) (append_assoc text (squeezed_after was bytes) (squeezed_after (white_after was bytes) others)
    ∙ ap (λ t. text ++ t) (sym (squeezed_after-append was bytes others)) ∙ before)

-- a text that is too long before its end is too long at it
pub part-long : (most : ℕ) (strings : StringValues) (new total : List ℕ) (white : Bool) (parts : List Part)
    → new ++ squeezed_after white (joined_text strings parts) ≡ total → most < length new → most < length total
part-long most strings new total white parts e lt =
    let len = ap length e in
    let sum = length-append new (squeezed_after white (joined_text strings parts)) in
    omega arith

-- ---- a field's value

gap-space : (b : ℕ) → is_gap b ≡ false → eqb b 32 ≡ false
gap-space b h = at (eqb b 32) refl where
  at : (t : Bool) → eqb b 32 ≡ t → t ≡ false
  at true is = absurd (true≢false (sym (ap is_gap (eqb-true b 32 is)) ∙ h))
  at false is = refl

first-space : (s : List ℕ) → squeezed_after true s ≡ without_first_space (squeezed s)
unfolding squeezed
first-space [] = refl
first-space (b ∷ bs) = at (is_gap b) refl (both (b ∷ bs)).1 where
  at : (t : Bool) → is_gap b ≡ t → squeezed (b ∷ bs) ≡ cond t (32 ∷ squeezed_after true (b ∷ bs)) (squeezed_after true (b ∷ bs)) → squeezed_after true (b ∷ bs)
      ≡ without_first_space (squeezed (b ∷ bs))
  at true is e = rw e refl
  at false is e = rw (is, gap-space b is) (ap (λ x. b ∷ x) (both bs).0)

-- a field's text is what is squeezed after whitespace, without a last space
pub shaped-trimmed : (s : List ℕ) → shaped Trimmed s ≡ without_last_space (squeezed_after true s)
shaped-trimmed s = ap without_last_space (sym (first-space s))

-- at most one byte goes
pub last-length : (s : List ℕ) → length s ≤ suc (length (without_last_space s))
last-length s = at (eqb (get_or s (length s - 1) 0) 32) where
  at : (t : Bool) → length s ≤ suc (length (cond t (take (length s - 1) s) s))
  at true = omega (arith, length-take (length s - 1) s)
  at false = omega arith

-- ---- values that stand in the file

-- what is squeezed is its own value
pub squeezed_after-plain : (white : Bool) (s : List ℕ) → is_squeezed white s ≡ true → squeezed_after white s ≡ s
unfolding is_squeezed
squeezed_after-plain white [] h = refl
squeezed_after-plain white (b ∷ bs) h = at (is_gap b) (eqb b 32) white refl h (squeezed_after-plain true bs) (squeezed_after-plain false bs) where
  at : (g t w : Bool) → eqb b 32 ≡ t → cond g ((t && not w) && is_squeezed true bs) (is_squeezed false bs) ≡ true →
      (is_squeezed true bs ≡ true → squeezed_after true bs ≡ bs) → (is_squeezed false bs ≡ true → squeezed_after false bs ≡ bs) →
      cond g (cond w (squeezed_after true bs) (32 ∷ squeezed_after true bs)) (b ∷ squeezed_after false bs) ≡ b ∷ bs
  at true true false e h here later = let is = eqb-true b 32 e in rw (is, here h) refl
  at true true true e h here later = absurd (true≢false (sym h))
  at true false w e h here later = absurd (true≢false (sym h))
  at false t w e h here later = rw (later h) refl

not-true : (t : Bool) → not t ≡ true → t ≡ false
not-true true h = sym h
not-true false h = refl

last-no-gap : (s : List ℕ) → ends_in_gap s ≡ false → without_last_space s ≡ s
last-no-gap s h = rw (gap-space (get_or s (length s - 1) 0) h) refl

-- the whitespace at the beginning goes
pub squeezed_after-past : (s : List ℕ) → squeezed_after true s ≡ squeezed_after true (past Gap s)
unfolding longest_run_len
squeezed_after-past [] = refl
squeezed_after-past (b ∷ bs) = at (is_gap b) refl (squeezed_after-past bs) where
  at : (g : Bool) → is_gap b ≡ g → squeezed_after true bs ≡ squeezed_after true (past Gap bs) →
      squeezed_after true (b ∷ bs) ≡ squeezed_after true (drop (cond g (suc (longest_run_len Gap bs)) 0) (b ∷ bs))
  at true is h = rw is h
  at false is h = refl

snoc-last : (s : List ℕ) (b : ℕ) → get_or (s ++ b ∷ []) (length (s ++ b ∷ []) - 1) 0 ≡ b
snoc-last [] b = refl
snoc-last (c ∷ cs) b =
    let len = length-append cs (b ∷ []) in
    let e : length (c ∷ (cs ++ b ∷ [])) - 1 ≡ suc (length (cs ++ b ∷ []) - 1) = omega arith in
    rw e (snoc-last cs b)

snoc-take : (s : List ℕ) (b : ℕ) → take (length (s ++ b ∷ []) - 1) (s ++ b ∷ []) ≡ s
snoc-take s b = take_at s (b ∷ []) (length (s ++ b ∷ []) - 1) (omega (arith, length-append s (b ∷ [])))

space-snoc : (s : List ℕ) → without_last_space (s ++ 32 ∷ []) ≡ s
space-snoc s = rw (snoc-last s 32) (snoc-take s 32)

-- one byte of whitespace at the end goes
last-gap : (u : List ℕ) (g : ℕ) → is_gap g ≡ true → squeezed_after true u ≡ u → ends_in_gap u ≡ false → without_last_space (squeezed_after true (u ++ g ∷ []))
    ≡ u
last-gap u g is plain ends = rw (squeezed_after-append true u (g ∷ []), plain, is) (at (white_after true u)) where
  at : (w : Bool) → without_last_space (u ++ cond w [] (32 ∷ [])) ≡ u
  at true = rw (append-nil u) (last-no-gap u ends)
  at false = space-snoc u

split-last : (s : List ℕ) → 0 < length s → s ≡ take (length s - 1) s ++ get_or s (length s - 1) 0 ∷ []
split-last s some =
    let e : length s ≡ (length s - 1) + 1 = omega arith in
    sym (take_all (length s) s (omega arith)) ∙ ap (λ n. take n s) e ∙ take_more s (length s - 1) 0 (omega arith)

some-last : (t : List ℕ) → ends_in_gap t ≡ true → 0 < length t
some-last [] e = cc
some-last (b ∷ bs) e = omega arith

trimmed-inner : (s : List ℕ) → is_squeezed true (without_last_gap s) ≡ true → ends_in_gap (without_last_gap s) ≡ false
    → without_last_space (squeezed_after true s) ≡ without_last_gap s
trimmed-inner s = at (ends_in_gap s) refl where
  at : (t : Bool) → ends_in_gap s ≡ t → is_squeezed true (cond t (take (length s - 1) s) s) ≡ true → ends_in_gap (cond t (take (length s - 1) s) s) ≡ false →
      without_last_space (squeezed_after true s) ≡ cond t (take (length s - 1) s) s
  at false is plain ends = rw (squeezed_after-plain true s plain) (last-no-gap s ends)
  at true is plain ends =
      let u = take (length s - 1) s in
      ap (λ t. without_last_space (squeezed_after true t)) (split-last s (some-last s is))
      ∙ last-gap u (get_or s (length s - 1) 0) is (squeezed_after-plain true u plain) ends

-- a text that stands as a value gives itself
pub shaped-stands : (ends : Ends) (s : List ℕ) → stands ends s ≡ true → shaped ends s ≡ s
shaped-stands Kept s h = squeezed-from s ∙ squeezed_after-plain false s h
shaped-stands Trimmed s h =
    let parts = and_parts (is_squeezed true s) _ h in
    shaped-trimmed s ∙ ap without_last_space (squeezed_after-plain true s parts.0) ∙ last-no-gap s (not-true _ parts.1)

pub shaped-nothing : (ends : Ends) → shaped ends [] ≡ []
unfolding squeezed
shaped-nothing Kept = refl
shaped-nothing Trimmed = refl

-- so does a field's text with whitespace round it
pub shaped-inner : (s : List ℕ) → stands Trimmed (without_gaps s) ≡ true → shaped Trimmed s ≡ without_gaps s
shaped-inner s h =
    let parts = and_parts (is_squeezed true (without_gaps s)) _ h in
    shaped-trimmed s ∙ ap without_last_space (squeezed_after-past s) ∙ trimmed-inner (past Gap s) parts.0 (not-true _ parts.1)

pub ruleset standing = (shaped-stands, shaped-inner)

-- what is squeezed has no whitespace but single spaces
squeezed_after-squeezed : (white : Bool) (s : List ℕ) → is_squeezed white (squeezed_after white s) ≡ true
unfolding is_squeezed
squeezed_after-squeezed white [] = refl
squeezed_after-squeezed white (b ∷ bs) = at (is_gap b) white refl (squeezed_after-squeezed true bs) (squeezed_after-squeezed false bs) where
  at : (g w : Bool) → is_gap b ≡ g → is_squeezed true (squeezed_after true bs) ≡ true → is_squeezed false (squeezed_after false bs) ≡ true →
      is_squeezed w (cond g (cond w (squeezed_after true bs) (32 ∷ squeezed_after true bs)) (b ∷ squeezed_after false bs)) ≡ true
  at true true is after_white after_other = after_white
  at true false is after_white after_other = after_white
  at false w is after_white after_other = rw is after_other

pub squeezed-squeezed : (s : List ℕ) → is_squeezed false (squeezed s) ≡ true
squeezed-squeezed s = ap (is_squeezed false) (squeezed-from s) ∙ squeezed_after-squeezed false s

-- of a squeezed text the ends alone show whether it stands
pub squeezed-begins : (s : List ℕ) → is_squeezed false s ≡ true → is_squeezed true s ≡ not (begins is_gap s)
unfolding is_squeezed
squeezed-begins [] h = refl
squeezed-begins (b ∷ bs) h = at (is_gap b) (eqb b 32) h where
  at : (g t : Bool) → cond g ((t && true) && is_squeezed true bs) (is_squeezed false bs) ≡ true
      → cond g ((t && false) && is_squeezed true bs) (is_squeezed false bs) ≡ not g
  at true true e = refl
  at true false e = refl
  at false t e = e

pub stands-kept : (s : List ℕ) → is_squeezed false s ≡ true → stands Kept s ≡ true
stands-kept s h = h

pub stands-trimmed : (s : List ℕ) → is_squeezed false s ≡ true → stands Trimmed s ≡ (not (begins is_gap s) && not (ends_in_gap s))
stands-trimmed s h = ap (λ (b : Bool). b && not (ends_in_gap s)) (squeezed-begins s h)

pub ruleset standing_squeezed = (stands-kept, stands-trimmed)

-- a value of one part
pub joined-one : (strings : StringValues) (part : Part) → joined_text strings (part ∷ []) ≡ text_of_part strings part
joined-one strings part = append-nil (text_of_part strings part)

pub ruleset lone = (joined-one)

-- ---- what the code makes

-- a fault of the text with its last space is one of the text without it
pub fault-fits : (fault : Fault) (s t : List ℕ) → t ≡ without_last_space s → GathersWithin (suc greatest_string) (Err fault) s → MakesText (Err fault) t
fault-fits Memory s t e h = tt
fault-fits StringLimit s t e h = omega (arith, last-length s, ap length e)
fault-fits Device s t e h = absurd h
fault-fits FileLimit s t e h = absurd h

-- so is one of a text that keeps its ends
pub fault-same : (fault : Fault) (s t : List ℕ) → t ≡ s → GathersWithin greatest_string (Err fault) s → MakesText (Err fault) t
fault-same Memory s t e h = tt
fault-same StringLimit s t e h = omega (arith, ap length e)
fault-same Device s t e h = absurd h
fault-same FileLimit s t e h = absurd h

-- ---- where what is enclosed ends, in one pass

-- a text is squeezed if its beginning is and the rest is after that
pub is_squeezed-append : (w : Bool) (s t : List ℕ) → is_squeezed w (s ++ t) ≡ (is_squeezed w s && is_squeezed (white_after w s) t)
unfolding is_squeezed
is_squeezed-append w [] t = refl
is_squeezed-append w (c ∷ cs) t = at (is_gap c) (eqb c 32 && not w) (is_squeezed-append true cs t) (is_squeezed-append false cs t) where
  at : (g u : Bool) → is_squeezed true (cs ++ t) ≡ (is_squeezed true cs && is_squeezed (white_after true cs) t) →
      is_squeezed false (cs ++ t) ≡ (is_squeezed false cs && is_squeezed (white_after false cs) t) →
      cond g (u && is_squeezed true (cs ++ t)) (is_squeezed false (cs ++ t)) ≡
      (cond g (u && is_squeezed true cs) (is_squeezed false cs) && is_squeezed (white_after g cs) t)
  at true true h k = h
  at true false h k = refl
  at false u h k = k

-- one byte is if it leaves what is before it squeezed
pub squeezed-alone : (w : Bool) (b : ℕ) → is_squeezed w (b ∷ []) ≡ stays_squeezed w b
unfolding is_squeezed
squeezed-alone w b = at (is_gap b) (eqb b 32 && not w) where
  at : (g t : Bool) → cond g (t && true) true ≡ (not g || t)
  at true true = refl
  at true false = refl
  at false t = refl

is_squeezed-snoc : (w : Bool) (s : List ℕ) (b : ℕ) → is_squeezed w (s ++ b ∷ []) ≡ (is_squeezed w s && stays_squeezed (white_after w s) b)
is_squeezed-snoc w s b = is_squeezed-append w s (b ∷ []) ∙ ap (λ (t : Bool). is_squeezed w s && t) (squeezed-alone (white_after w s) b)

pub white_after-snoc : (w : Bool) (s : List ℕ) (b : ℕ) → white_after w (s ++ b ∷ []) ≡ is_gap b
white_after-snoc w [] b = refl
white_after-snoc w (c ∷ cs) b = white_after-snoc (is_gap c) cs b

-- the bytes before a place are squeezed, and the last of them is whitespace or not
pub record IsSqueezedTo (s : List ℕ) (i : ℕ) (white : Bool) : Type 0 where
  pub squeezed : is_squeezed true (take i s) ≡ true
  pub last : white_after true (take i s) ≡ white

pub squeezed-none : (s : List ℕ) → IsSqueezedTo s 0 true
unfolding is_squeezed
squeezed-none s = record { squeezed = refl; last = refl }

pub squeezed-further : (s : List ℕ) (i : ℕ) (white : Bool) (b : ℕ) → i < length s → get_or s i 0 ≡ b → IsSqueezedTo s i white → stays_squeezed white b ≡ true
    → IsSqueezedTo s (i + 1) (is_gap b)
squeezed-further s i white b lt is so stays =
    let next : take (i + 1) s ≡ take i s ++ b ∷ [] = take_more s i 0 lt ∙ ap (λ c. take i s ++ c ∷ []) is in
    record {
      squeezed = rw next (is_squeezed-snoc true (take i s) b ∙ rw (so.squeezed, so.last) stays);
      last = rw next (white_after-snoc true (take i s) b);
    }
