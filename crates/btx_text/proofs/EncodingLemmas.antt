-- A sequence of UTF-8 is the encoding of a scalar value from 128 up.
use Rattle.std.proofs.Common.{◌≡◌, ℕ, ◌+◌, ◌-◌, ◌*◌, ◌/◌, ◌%◌, ◌<◌, ◌≤◌, ◌⊎◌, ⊎_elim, true, List, [], ◌∷◌, length, refl, sym, ◌∙◌, arith}
use Rattle.std.specs.Char.{IsScalar}
use Rattle.std.specs.List.{list_all}
use Rattle.std.proofs.lemmas.Bool.{false≢true, and_parts, and_from, eqb-true, eq-eqb, lt-ltb, le-ltb, le-leb, cases_lt, cases_eq}
use Rattle.std.proofs.lemmas.Bool.Decides.{nat_tests}
use lib.Utf8.{encode, scalar_cases}
use Rattle.btx_text.specs.language.Sequences.{is_further, sequence_size, second_fits, is_sequence}

-- ---- the tests, by numbers

size_two : (a : ℕ) → 194 ≤ a → a ≤ 223 → sequence_size a ≡ 2
unfolding sequence_size
size_two a h k = grind (arith, nat_tests)

size_three : (a : ℕ) → 224 ≤ a → a ≤ 239 → sequence_size a ≡ 3
unfolding sequence_size
size_three a h k = grind (arith, nat_tests)

size_four : (a : ℕ) → 240 ≤ a → a ≤ 244 → sequence_size a ≡ 4
unfolding sequence_size
size_four a h k = grind (arith, nat_tests)

abbrev IsSize : ℕ → ℕ → Type 0
IsSize a n = ((n ≡ 2) × (194 ≤ a) × (a ≤ 223)) ⊎ (((n ≡ 3) × (224 ≤ a) × (a ≤ 239)) ⊎ (((n ≡ 4) × (240 ≤ a) × (a ≤ 244)) ⊎ (n ≡ 0)))

size_cases : (a : ℕ) → IsSize a (sequence_size a)
unfolding sequence_size
size_cases a = grind (arith, nat_tests)

-- the second byte after a first
pub record Second (a b : ℕ) : Type 0 where
  low : 128 ≤ b
  high : b ≤ 191
  overlong_three : a ≡ 224 → 160 ≤ b
  surrogate : a ≡ 237 → b ≤ 159
  overlong_four : a ≡ 240 → 144 ≤ b
  last : a ≡ 244 → b ≤ 143

second_from : (a b : ℕ) → Second a b → second_fits a b ≡ true
unfolding second_fits
second_from a b h = grind (arith, nat_tests, h.overlong_three, h.surrogate, h.overlong_four, h.last)

second_shows : (a b : ℕ) → second_fits a b ≡ true → Second a b
unfolding second_fits
second_shows a b h = record {
  low = grind (arith, nat_tests);
  high = grind (arith, nat_tests);
  overlong_three = λ e. grind (arith, nat_tests);
  surrogate = λ e. grind (arith, nat_tests);
  overlong_four = λ e. grind (arith, nat_tests);
  last = λ e. grind (arith, nat_tests);
}

further_from : (b : ℕ) → 128 ≤ b → b ≤ 191 → is_further b ≡ true
further_from b h k = grind (arith, nat_tests)

further_shows : (b : ℕ) → is_further b ≡ true → (128 ≤ b) × (b ≤ 191)
further_shows b h = (grind (arith, nat_tests), grind (arith, nat_tests))

-- ---- an encoding is a sequence

two_is : (a b : ℕ) → 194 ≤ a → a ≤ 223 → Second a b → is_sequence (a ∷ b ∷ []) ≡ true
unfolding is_sequence
two_is a b h k s = and_from _ _ (and_from _ _ (eq-eqb 2 _ (sym (size_two a h k))) (second_from a b s)) refl

three_is : (a b c : ℕ) → 224 ≤ a → a ≤ 239 → Second a b → 128 ≤ c → c ≤ 191 → is_sequence (a ∷ b ∷ c ∷ []) ≡ true
unfolding is_sequence
three_is a b c h k s low high =
    and_from _ _ (and_from _ _ (eq-eqb 3 _ (sym (size_three a h k))) (second_from a b s)) (and_from _ _ (further_from c low high) refl)

four_is : (a b c d : ℕ) → 240 ≤ a → a ≤ 244 → Second a b → 128 ≤ c → c ≤ 191 → 128 ≤ d → d ≤ 191 → is_sequence (a ∷ b ∷ c ∷ d ∷ []) ≡ true
unfolding is_sequence
four_is a b c d h k s low high low' high' =
    and_from _ _ (and_from _ _ (eq-eqb 4 _ (sym (size_four a h k))) (second_from a b s))
    (and_from _ _ (further_from c low high) (and_from _ _ (further_from d low' high') refl))

encode_two : (c : ℕ) → 128 ≤ c → c < 2048 → encode c ≡ (192 + c / 64) ∷ (128 + c % 64) ∷ []
unfolding encode
encode_two c h k = rw (le-ltb c 128 h, lt-ltb c 2048 k) refl

encode_three : (c : ℕ) → 2048 ≤ c → c < 65536 → encode c ≡ (224 + c / 4096) ∷ (128 + c / 64 % 64) ∷ (128 + c % 64) ∷ []
unfolding encode
encode_three c h k = let some : 128 ≤ c = omega arith in rw (le-ltb c 128 some, le-ltb c 2048 h, lt-ltb c 65536 k) refl

encode_four : (c : ℕ) → 65536 ≤ c → encode c ≡ (240 + c / 262144) ∷ (128 + c / 4096 % 64) ∷ (128 + c / 64 % 64) ∷ (128 + c % 64) ∷ []
unfolding encode
encode_four c h = let some : 128 ≤ c = omega arith in let more : 2048 ≤ c = omega arith in rw (le-ltb c 128 some, le-ltb c 2048 more, le-ltb c 65536 h) refl

pub is_sequence-encode : (c : ℕ) → IsScalar c → 128 ≤ c → is_sequence (encode c) ≡ true
is_sequence-encode c scalar_c some = ⊎_elim two longer (cases_lt c 2048) where
  two : c < 2048 → is_sequence (encode c) ≡ true
  two lt = rw (encode_two c some lt) (two_is (192 + c / 64) (128 + c % 64) (omega arith) (omega arith) (record {
    low = omega arith;
    high = omega arith;
    overlong_three = λ e. absurd (omega arith);
    surrogate = λ e. absurd (omega arith);
    overlong_four = λ e. absurd (omega arith);
    last = λ e. absurd (omega arith);
  }))

  three : 2048 ≤ c → c < 65536 → is_sequence (encode c) ≡ true
  three le lt =
      let outside = scalar_cases c scalar_c in
      rw (encode_three c le lt) (three_is (224 + c / 4096) (128 + c / 64 % 64) (128 + c % 64) (omega arith) (omega arith) (record {
        low = omega arith;
        high = omega arith;
        overlong_three = λ e. omega arith;
        surrogate = λ e. ⊎_elim (λ below. omega arith) (λ above. absurd (omega (arith, above.0))) outside;
        overlong_four = λ e. absurd (omega arith);
        last = λ e. absurd (omega arith);
      }) (omega arith) (omega arith))

  four : 65536 ≤ c → is_sequence (encode c) ≡ true
  four le =
      let below : c < 1114112 = ⊎_elim (λ low. omega arith) (λ high. high.1) (scalar_cases c scalar_c) in
      rw (encode_four c le) (four_is (240 + c / 262144) (128 + c / 4096 % 64) (128 + c / 64 % 64) (128 + c % 64) (omega arith) (omega arith) (record {
        low = omega arith;
        high = omega arith;
        overlong_three = λ e. absurd (omega arith);
        surrogate = λ e. absurd (omega arith);
        overlong_four = λ e. omega arith;
        last = λ e. omega arith;
      }) (omega arith) (omega arith) (omega arith) (omega arith))

  longer : 2048 ≤ c → is_sequence (encode c) ≡ true
  longer le = ⊎_elim (λ lt. three le lt) (λ ge. four ge) (cases_lt c 65536)

-- ---- a sequence is an encoding

-- a scalar value from 128 up whose encoding a text is
abbrev IsEncoded : List ℕ → Type 0
IsEncoded text = (c : ℕ) × IsScalar c × (128 ≤ c) × (encode c ≡ text)

scalar_below : (c : ℕ) → c < 55296 → IsScalar c
scalar_below c h = rw (lt-ltb c 55296 h) refl

scalar_above : (c : ℕ) → 57344 ≤ c → c < 1114112 → IsScalar c
scalar_above c h k = let far : 55296 ≤ c = omega arith in rw (le-ltb c 55296 far, le-leb 57344 c h, lt-ltb c 1114112 k) refl

pair : (a b a' b' : ℕ) → a ≡ a' → b ≡ b' → (a ∷ b ∷ []) ≡ (a' ∷ b' ∷ [])
pair a b a' b' e f = rw (e, f) refl

triple : (a b c a' b' c' : ℕ) → a ≡ a' → b ≡ b' → c ≡ c' → (a ∷ b ∷ c ∷ []) ≡ (a' ∷ b' ∷ c' ∷ [])
triple a b c a' b' c' e f g = rw (e, f, g) refl

four_of : (a b c d a' b' c' d' : ℕ) → a ≡ a' → b ≡ b' → c ≡ c' → d ≡ d' → (a ∷ b ∷ c ∷ d ∷ []) ≡ (a' ∷ b' ∷ c' ∷ d' ∷ [])
four_of a b c d a' b' c' d' e f g h = rw (e, f, g, h) refl

encoded_two : (a b : ℕ) → 194 ≤ a → a ≤ 223 → Second a b → IsEncoded (a ∷ b ∷ [])
encoded_two a b h k s =
    let low = s.low in
    let high = s.high in
    let c = (a - 192) * 64 + (b - 128) in
    let some : 128 ≤ c = omega arith in
    let few : c < 2048 = omega arith in
    (c, scalar_below c (omega arith), some, encode_two c some few ∙ pair (192 + c / 64) (128 + c % 64) a b (omega arith) (omega arith))

encoded_three : (a b d : ℕ) → 224 ≤ a → a ≤ 239 → Second a b → 128 ≤ d → d ≤ 191 → IsEncoded (a ∷ b ∷ d ∷ [])
encoded_three a b d h k s low_d high_d =
    let low = s.low in
    let high = s.high in
    let overlong = s.overlong_three in
    let surrogate = s.surrogate in
    let c = (a - 224) * 4096 + (b - 128) * 64 + (d - 128) in
    let some : 2048 ≤ c = ⊎_elim (λ first. let b_low : 160 ≤ b = overlong first in omega arith) (λ other. omega arith) (cases_eq a 224) in
    let few : c < 65536 = omega arith in
    let outside : IsScalar c = ⊎_elim
    (λ lt. scalar_below c (omega arith))
    (λ ge. ⊎_elim (λ at. let b_high : b ≤ 159 = surrogate at in scalar_below c (omega arith)) (λ other. scalar_above c (omega arith) (omega arith))
    (cases_eq a 237))
    (cases_lt a 237) in (
      c,
      outside,
      omega arith,
      encode_three c some few ∙ triple (224 + c / 4096) (128 + c / 64 % 64) (128 + c % 64) a b d (omega arith) (omega arith)
          (omega arith),
    )

encoded_four : (a b d e : ℕ) → 240 ≤ a → a ≤ 244 → Second a b → 128 ≤ d → d ≤ 191 → 128 ≤ e → e ≤ 191 → IsEncoded (a ∷ b ∷ d ∷ e ∷ [])
encoded_four a b d e h k s low_d high_d low_e high_e =
    let low = s.low in
    let high = s.high in
    let overlong = s.overlong_four in
    let last = s.last in
    let c = (a - 240) * 262144 + (b - 128) * 4096 + (d - 128) * 64 + (e - 128) in
    let some : 65536 ≤ c = ⊎_elim (λ first. let b_low : 144 ≤ b = overlong first in omega arith) (λ other. omega arith) (cases_eq a 240) in
    let few : c < 1114112 = ⊎_elim (λ at. let b_high : b ≤ 143 = last at in omega arith) (λ other. omega arith) (cases_eq a 244) in (
      c,
      scalar_above c (omega arith) few,
      omega arith,
      encode_four c some ∙ four_of (240 + c / 262144) (128 + c / 4096 % 64) (128 + c / 64 % 64) (128 + c % 64)
          a b d e (omega arith) (omega arith) (omega arith) (omega arith),
    )

by_size : (a b : ℕ) (others : List ℕ) → length (a ∷ b ∷ others) ≡ sequence_size a → Second a b → list_all is_further others ≡ true → IsEncoded (a ∷ b ∷ others)
by_size a b [] len s f =
    ⊎_elim (λ two. encoded_two a b two.1 two.2 s)
    (λ more. ⊎_elim (λ three. absurd (omega (arith, three.0))) (λ most. ⊎_elim (λ four. absurd (omega (arith, four.0))) (λ none. absurd (omega arith)) most)
    more)
    (size_cases a)
by_size a b (d ∷ []) len s f =
    let fits = further_shows d (and_parts _ _ f).0 in
    ⊎_elim (λ two. absurd (omega (arith, two.0)))
    (λ more. ⊎_elim (λ three. encoded_three a b d three.1 three.2 s fits.0 fits.1)
    (λ most. ⊎_elim (λ four. absurd (omega (arith, four.0))) (λ none. absurd (omega arith)) most) more)
    (size_cases a)
by_size a b (d ∷ e ∷ []) len s f =
    let parts = and_parts _ _ f in
    let fits = further_shows d parts.0 in
    let fits_more = further_shows e (and_parts _ _ parts.1).0 in
    ⊎_elim (λ two. absurd (omega (arith, two.0)))
    (λ more. ⊎_elim (λ three. absurd (omega (arith, three.0)))
    (λ most. ⊎_elim (λ four. encoded_four a b d e four.1 four.2 s fits.0 fits.1 fits_more.0 fits_more.1) (λ none. absurd (omega arith)) most) more)
    (size_cases a)
by_size a b (d ∷ e ∷ f' ∷ others) len s f =
    ⊎_elim (λ two. absurd (omega (arith, two.0)))
    (λ more. ⊎_elim (λ three. absurd (omega (arith, three.0))) (λ most. ⊎_elim (λ four. absurd (omega (arith, four.0))) (λ none. absurd (omega arith)) most)
    more)
    (size_cases a)

pub is_sequence-encoded : (t : List ℕ) → is_sequence t ≡ true → (c : ℕ) × IsScalar c × (128 ≤ c) × (encode c ≡ t)
unfolding is_sequence
is_sequence-encoded [] h = absurd (false≢true h)
is_sequence-encoded (a ∷ []) h = absurd (false≢true h)
is_sequence-encoded (a ∷ b ∷ others) h =
    let parts = and_parts _ _ h in
    let front = and_parts _ _ parts.0 in
    by_size a b others (eqb-true _ _ front.0) (second_shows a b front.1) parts.1
