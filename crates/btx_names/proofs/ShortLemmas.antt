-- Lemmas on texts that are no longer short: before a byte below 128, more text takes no character away.
use Rattle.std.proofs.Common.{◌≡◌, ℕ, zero, suc, ◌+◌, ◌-◌, ◌<◌, ◌≤◌, Bool, true, false, cond, eqb, ◌&&◌, ◌||◌, List, [], ◌∷◌, ◌++◌, length, take, drop, get_or}
use Rattle.std.proofs.Common.{count_by, ◌⊎◌, inl, inr, ⊎_elim, refl, sym, ◌∙◌, ap, arith, length-append, append_assoc}
use Rattle.std.specs.List.{list_all}
use Rattle.std.proofs.lemmas.Bool.{false≢true, and_parts, cases_lt, ltb-false, le-ltb}
use Rattle.std.proofs.lemmas.List.{take-append-le, drop-append-le, length-take, length-take-le, get_or-take}
use Rattle.std.proofs.lemmas.List.Sums.{sum_by-cons}
use Rattle.btx_text.specs.declared.element_kind.Kind.{Kind}
use Rattle.btx_text.specs.declared.element_kind.Kind.TheVariants.{Byte, Open, Close, Special, Wide}
use Rattle.btx_text.specs.declared.element_kind.TextMode.{TextMode}
use Rattle.btx_text.specs.language.Sequences.{is_further, sequence_size, is_sequence, begins_sequence}
use Rattle.btx_text.specs.language.Elements.{Element, depth_after, is_utf8, kind_at, extent, group_len, elements_from, elements_of, is_character}
use Rattle.btx_names.specs.declared.name_tokens.TokenSeparator.{TokenSeparator}
use Rattle.btx_names.specs.declared.name_tokens.TokenSeparator.TheVariants.{Space, Tie, Hyphen}
use Rattle.btx_names.specs.language.FormattedNames.{is_short, tie_of}
use Rattle.btx_text.specs.refinement.Elements.{begins_special, kind_of, element_at}
use Rattle.btx_text.proofs.SequenceLemmas.{further_high, is_sequence-size, second_fits-high}

-- ---- a sequence of UTF-8

further_at : (bs : List ℕ) → list_all is_further bs ≡ true → (i : ℕ) → i < length bs → 128 ≤ get_or bs i 0
further_at [] h i lt = absurd (omega arith)
further_at (b ∷ bs) h zero lt = further_high b (and_parts _ _ h).0
further_at (b ∷ bs) h (suc i) lt = further_at bs (and_parts _ _ h).1 i (omega arith)

-- after the first byte of a sequence no byte is below 128
sequence_at : (t : List ℕ) → is_sequence t ≡ true → (i : ℕ) → 0 < i → i < length t → 128 ≤ get_or t i 0
unfolding is_sequence
sequence_at [] h i some lt = absurd (omega arith)
sequence_at (a ∷ []) h i some lt = absurd (omega arith)
sequence_at (a ∷ b ∷ bs) h zero some lt = absurd (omega arith)
sequence_at (a ∷ b ∷ bs) h (suc zero) some lt = second_fits-high a b (and_parts _ _ (and_parts _ _ h).0).1
sequence_at (a ∷ b ∷ bs) h (suc (suc i)) some lt = further_at bs (and_parts _ _ h).1 i (omega arith)

byte_behind : (xs : List ℕ) (b : ℕ) (ys : List ℕ) → get_or (xs ++ b ∷ ys) (length xs) 0 ≡ b
byte_behind [] b ys = refl
byte_behind (x ∷ xs) b ys = byte_behind xs b ys

not_true : (t : Bool) → (t ≡ true → t ≡ false) → t ≡ false
not_true true h = h refl
not_true false h = refl

no_sequence : (n x : ℕ) (xs : List ℕ) (b : ℕ) (ys : List ℕ) → b < 128 → n ≡ sequence_size x → length (x ∷ xs) < n →
    (is_sequence (take n (x ∷ xs)) ≡ false) × (is_sequence (take n (x ∷ (xs ++ b ∷ ys))) ≡ false)
no_sequence n x xs b ys low size lt = (
  not_true _ (λ h.
      let len = is_sequence-size (take n (x ∷ xs)) h in
      let first : get_or (take n (x ∷ xs)) 0 0 ≡ x = get_or-take n (x ∷ xs) 0 0 (omega arith) in
      let same = ap sequence_size first in
      absurd (omega (arith, len.0, length-take n (x ∷ xs)))),
  not_true _ (λ h.
      let whole = x ∷ (xs ++ b ∷ ys) in
      let lens = length-append xs (b ∷ ys) in
      let here : get_or (take n whole) (length (x ∷ xs)) 0 ≡ b = get_or-take n whole (length (x ∷ xs)) 0 lt ∙ byte_behind (x ∷ xs) b ys in
      let high = sequence_at (take n whole) h (length (x ∷ xs)) (omega arith) (omega (arith, length-take n whole)) in
      absurd (omega arith)),
)

begins_same : (x : ℕ) (xs : List ℕ) (b : ℕ) (ys : List ℕ) → b < 128 → begins_sequence (x ∷ (xs ++ b ∷ ys)) ≡ begins_sequence (x ∷ xs)
unfolding begins_sequence
begins_same x xs b ys low = ⊎_elim
    (λ lt. let none = no_sequence (sequence_size x) x xs b ys low refl lt in none.1 ∙ sym none.0)
    (λ le. ap is_sequence (take-append-le (sequence_size x) (x ∷ xs) (b ∷ ys) le))
    (cases_lt (length (x ∷ xs)) (sequence_size x))

begins_len : (x : ℕ) (xs : List ℕ) → begins_sequence (x ∷ xs) ≡ true → sequence_size x ≤ length (x ∷ xs)
unfolding begins_sequence
begins_len x xs h =
    let n = sequence_size x in
    let len = is_sequence-size (take n (x ∷ xs)) h in
    let cut = length-take n (x ∷ xs) in
    ⊎_elim
    (λ lt. let all = no_sequence n x xs 0 [] (omega arith) refl lt in absurd (false≢true (sym all.0 ∙ h)))
    (λ le. le)
    (cases_lt (length (x ∷ xs)) n)

-- ---- a group

group_goes_on : (depth : ℕ) (xs ys : List ℕ) → (group_len depth (xs ++ ys) ≡ group_len depth xs) ⊎ (group_len depth xs ≡ length xs)
unfolding group_len
group_goes_on depth [] ys = inr refl
group_goes_on depth (x ∷ xs) ys = at (eqb (depth_after depth x) 0) (group_goes_on (depth_after depth x) xs ys) where
  at : (t : Bool) → (group_len (depth_after depth x) (xs ++ ys) ≡ group_len (depth_after depth x) xs) ⊎ (group_len (depth_after depth x) xs ≡ length xs) →
      (cond t 1 (suc (group_len (depth_after depth x) (xs ++ ys))) ≡ cond t 1 (suc (group_len (depth_after depth x) xs)))
      ⊎ (cond t 1 (suc (group_len (depth_after depth x) xs)) ≡ suc (length xs))
  at true h = inl refl
  at false (inl e) = inl (ap suc e)
  at false (inr e) = inr (ap suc e)

group_fits : (depth : ℕ) (xs : List ℕ) → group_len depth xs ≤ length xs
unfolding group_len
group_fits depth [] = omega arith
group_fits depth (x ∷ xs) = at (eqb (depth_after depth x) 0) _ (group_fits (depth_after depth x) xs) where
  at : (t : Bool) (n : ℕ) → n ≤ length xs → cond t 1 (suc n) ≤ suc (length xs)
  at true n h = omega arith
  at false n h = omega arith

-- ---- how many characters begin in the rest of a text

abbrev characters : TextMode → ℕ → ℕ → ℕ → List ℕ → ℕ
characters mode skip start depth text = count_by (λ (part : Element). is_character part.kind) (elements_from mode skip start depth text)

no_characters : (mode : TextMode) (skip start depth : ℕ) (xs : List ℕ) → length xs ≤ skip → characters mode skip start depth xs ≡ 0
unfolding elements_from
no_characters mode skip start depth [] h = refl
no_characters mode zero start depth (x ∷ xs) h = absurd (omega arith)
no_characters mode (suc skip) start depth (x ∷ xs) h = no_characters mode skip (start + 1) (depth_after depth x) xs (omega arith)

-- how many bytes more an element has than one
abbrev more_of : Kind → List ℕ → ℕ
more_of kind text = length (take (extent kind text) text) - 1

-- an element counts as much before more text, and it ends where it ended, unless it went to the end
record Goes (kind kind' : Kind) (xs : List ℕ) (x : ℕ) (more : List ℕ) : Type 0 where
  pub counts : cond (is_character kind) 1 0 ≤ cond (is_character kind') 1 0
  pub ends : (more_of kind' (x ∷ (xs ++ more)) ≡ more_of kind (x ∷ xs)) ⊎ (length xs ≤ more_of kind (x ∷ xs))

goes_special : (x : ℕ) (xs more : List ℕ) → Goes Special Special xs x more
goes_special x xs more = record {
  counts = omega arith;
  ends = at (group_goes_on 0 (x ∷ xs) more);
} where
  at : (group_len 0 (x ∷ (xs ++ more)) ≡ group_len 0 (x ∷ xs)) ⊎ (group_len 0 (x ∷ xs) ≡ length (x ∷ xs)) →
      (more_of Special (x ∷ (xs ++ more)) ≡ more_of Special (x ∷ xs)) ⊎ (length xs ≤ more_of Special (x ∷ xs))
  at (inl e) =
      let one = length-take-le (group_len 0 (x ∷ xs)) (x ∷ xs) (group_fits 0 (x ∷ xs)) in
      let two = length-take-le (group_len 0 (x ∷ (xs ++ more))) (x ∷ (xs ++ more)) (group_fits 0 (x ∷ (xs ++ more))) in
      inl (omega arith)
  at (inr e) =
      let one = length-take-le (group_len 0 (x ∷ xs)) (x ∷ xs) (group_fits 0 (x ∷ xs)) in
      inr (omega arith)

goes_wide : (x : ℕ) (xs more : List ℕ) → sequence_size x ≤ length (x ∷ xs) → Goes Wide Wide xs x more
goes_wide x xs more fits =
    let one = length-take-le (sequence_size x) (x ∷ xs) fits in
    let two = length-take-le (sequence_size x) (x ∷ (xs ++ more)) (omega (arith, length-append xs more)) in
    record { counts = omega arith; ends = inl (omega arith) }

goes_byte : (t u : Bool) (x : ℕ) (xs more : List ℕ) → Goes (cond t Open (cond u Close Byte)) (cond t Open (cond u Close Byte)) xs x more
goes_byte true u x xs more = record { counts = omega arith; ends = inl refl }
goes_byte false true x xs more = record { counts = omega arith; ends = inl refl }
goes_byte false false x xs more = record { counts = omega arith; ends = inl refl }

goes_same : (special wide : Bool) (x : ℕ) (xs more : List ℕ) → (wide ≡ true → sequence_size x ≤ length (x ∷ xs)) →
    Goes (cond special Special (cond wide Wide (kind_of x))) (cond special Special (cond wide Wide (kind_of x))) xs x more
goes_same true wide x xs more h = goes_special x xs more
goes_same false true x xs more h = goes_wide x xs more (h refl)
goes_same false false x xs more h = goes_byte (eqb x 123) (eqb x 125) x xs more

-- a last byte begins no special character
last_special : (depth x : ℕ) → begins_special depth (x ∷ []) ≡ false
last_special depth x = not_true _ (λ h. absurd (false≢true (and_parts _ _ (and_parts _ _ h).1).1))

goes_last : (special wide : Bool) (x : ℕ) (more : List ℕ) →
    Goes (cond wide Wide (kind_of x)) (cond special Special (cond wide Wide (kind_of x))) [] x more
goes_last special wide x more = record { counts = at special wide (eqb x 123) (eqb x 125); ends = inr (omega arith) } where
  at : (special wide t u : Bool) → cond (is_character (cond wide Wide (cond t Open (cond u Close Byte)))) 1 0
      ≤ cond (is_character (cond special Special (cond wide Wide (cond t Open (cond u Close Byte))))) 1 0
  at true true t u = omega arith
  at true false true u = omega arith
  at true false false true = omega arith
  at true false false false = omega arith
  at false wide t u = omega arith

goes : (mode : TextMode) (depth x : ℕ) (xs : List ℕ) (b : ℕ) (ys : List ℕ) → b < 128 →
    Goes (kind_at mode depth (x ∷ xs)) (kind_at mode depth (x ∷ (xs ++ b ∷ ys))) xs x (b ∷ ys)
unfolding kind_at
goes mode depth x [] b ys low =
    rw (begins_same x [] b ys low, last_special depth x)
    (goes_last (begins_special depth (x ∷ b ∷ ys)) (is_utf8 mode && begins_sequence (x ∷ [])) x (b ∷ ys))
goes mode depth x (z ∷ xs) b ys low =
    rw (begins_same x (z ∷ xs) b ys low)
    (goes_same (begins_special depth (x ∷ z ∷ xs)) (is_utf8 mode && begins_sequence (x ∷ z ∷ xs)) x (z ∷ xs) (b ∷ ys)
    (λ e. begins_len x (z ∷ xs) (and_parts _ _ e).1))

characters-cons : (mode : TextMode) (start depth x : ℕ) (xs : List ℕ) →
    characters mode 0 start depth (x ∷ xs)
    ≡ cond (is_character (kind_at mode depth (x ∷ xs))) 1 0 + characters mode (more_of (kind_at mode depth (x ∷ xs)) (x ∷ xs)) (start + 1) (depth_after depth x)
    xs
unfolding elements_from
characters-cons mode start depth x xs =
    sum_by-cons (λ (part : Element). cond (is_character part.kind) 1 0) (element_at mode start depth (x ∷ xs))
    (elements_from mode (more_of (kind_at mode depth (x ∷ xs)) (x ∷ xs)) (start + 1) (depth_after depth x) xs)

characters_grow : (mode : TextMode) (skip start depth : ℕ) (xs : List ℕ) (b : ℕ) (ys : List ℕ) → b < 128 →
    characters mode skip start depth xs ≤ characters mode skip start depth (xs ++ b ∷ ys)
unfolding elements_from
characters_grow mode skip start depth [] b ys low = omega arith
characters_grow mode (suc skip) start depth (x ∷ xs) b ys low = characters_grow mode skip (start + 1) (depth_after depth x) xs b ys low
characters_grow mode zero start depth (x ∷ xs) b ys low =
    let kind = kind_at mode depth (x ∷ xs) in
    let kind' = kind_at mode depth (x ∷ (xs ++ b ∷ ys)) in
    let h = goes mode depth x xs b ys low in
    let rest = characters_grow mode (more_of kind (x ∷ xs)) (start + 1) (depth_after depth x) xs b ys low in
    let counts = h.counts in
    let more = at kind kind' h.ends rest in
    omega (arith, characters-cons mode start depth x xs, characters-cons mode start depth x (xs ++ b ∷ ys), counts, more) where
      at : (kind kind' : Kind) → (more_of kind' (x ∷ (xs ++ b ∷ ys)) ≡ more_of kind (x ∷ xs)) ⊎ (length xs ≤ more_of kind (x ∷ xs)) →
          characters mode (more_of kind (x ∷ xs)) (start + 1) (depth_after depth x) xs ≤ characters mode (more_of kind (x ∷ xs)) (start + 1)
          (depth_after depth x) (xs ++ b ∷ ys) →
          characters mode (more_of kind (x ∷ xs)) (start + 1) (depth_after depth x) xs ≤ characters mode (more_of kind' (x ∷ (xs ++ b ∷ ys))) (start + 1)
          (depth_after depth x) (xs ++ b ∷ ys)
      at kind kind' (inl e) h = rw e h
      at kind kind' (inr e) h = let none = no_characters mode (more_of kind (x ∷ xs)) (start + 1) (depth_after depth x) xs e in omega arith

-- a text that is not short before a byte below 128 stays so, whatever follows
pub stays_long : (mode : TextMode) (text : List ℕ) (b : ℕ) (more : List ℕ) → b < 128 → is_short mode text ≡ false → is_short mode (text ++ b ∷ more) ≡ false
unfolding elements_of
stays_long mode text b more low long =
    let grows = characters_grow mode 0 0 0 text b more low in
    let enough = ltb-false _ _ long in
    le-ltb _ _ (omega arith)

-- ---- ties

space_is_long : (mode : TextMode) (so_far : List ℕ) (joint : TokenSeparator) (is_last : Bool) → tie_of mode so_far joint is_last ≡ 32 → is_short mode so_far ≡ false
space_is_long mode so_far Tie is_last h = absurd (omega arith)
space_is_long mode so_far Hyphen is_last h = absurd (omega arith)
space_is_long mode so_far Space is_last h = at is_last (is_short mode so_far) h where
  at : (last short : Bool) → ◌≡◌ {A = ℕ} (cond (last || short) 126 32) 32 → short ≡ false
  at true short h = absurd (omega arith)
  at false true h = absurd (omega arith)
  at false false h = refl

-- a space of the code's own says that the text before it is not short, and that it stays so
pub long_behind_space : (mode : TextMode) (start : ℕ) (text new more : List ℕ) (joint : TokenSeparator) (is_last : Bool) (tie : ℕ) → start ≤ length text →
    tie ≡ tie_of mode (drop start text) joint is_last → tie ≡ 32 → new ≡ text ++ tie ∷ [] →
    is_short mode (drop start new ++ more) ≡ false
long_behind_space mode start text new more joint is_last tie le is space added =
    let low : tie < 128 = omega arith in
    let long : is_short mode (drop start text) ≡ false = space_is_long mode (drop start text) joint is_last (sym is ∙ space) in
    rw (added, drop-append-le start text (tie ∷ []) le, append_assoc (drop start text) (tie ∷ []) more) (stays_long mode (drop start text) tie more low long)

-- a text that stays long does so with more after it
pub still_long : (mode : TextMode) (start : ℕ) (old word new : List ℕ) → start ≤ length old → new ≡ old ++ word →
    ((more : List ℕ) → is_short mode (drop start old ++ more) ≡ false) → (more : List ℕ) → is_short mode (drop start new ++ more) ≡ false
still_long mode start old word new le is long more =
    rw (is, drop-append-le start old word le, append_assoc (drop start old) word more) (long (word ++ more))
