-- Lemmas on the block in which a field begins, whose bytes are seen as bits.
use Rattle.std.proofs.Common.{◌≡◌, ℕ, zero, suc, ◌+◌, ◌-◌, ◌*◌, ◌/◌, ◌%◌, ◌^◌, ◌<◌, ◌≤◌, Bool, true, false, not, ◌||◌, eqb, List, [], ◌∷◌, map}
use Rattle.std.proofs.Common.{length, take, drop, get_or, replicate, cond, bit_and, ltb, None, Fits, w8, refl, sym, ◌∙◌, ap, ap₂, arith}
use Rattle.std.proofs.Math.Nat.{div-div-eq-div-mul, div-one, mul_comm, pow-suc, zero-div}
use Rattle.std.proofs.lemmas.Bool.{agree_below, agree_below_at, cases_eq, eqb-true, not-false, not-true, true≢false}
use Rattle.std.proofs.lemmas.List.{drop-drop, drop-map, drop-take, drop_more, get_or-drop, length-drop, length-map, take_all}
use Rattle.std.proofs.lemmas.Simd.{first_set_mask_l, get_or-chunk, length-chunk, mask_l-mod, zip2_of_maps, zip2_splat}
use Rattle.std.proofs.lemmas.Simd.{run_in_chunk_fails, run_in_chunk_stops, splat_is_map}
use Rattle.std.specs.Int.{is_in_range}
use Rattle.std.specs.Int.Count.{count_trailing_zeros}
use Rattle.std.specs.List.{prefix_len}
use mathlib.Core.Logic.{inl, inr}
use lib.Lanes.{chunk, mask_l, top, zip2}
use Rattle.btx_text.specs.language.Class.{begins_name, is_name_byte}
use Rattle.btx_bib.specs.declared.grammar.byte_sets.ByteSet.{ByteSet}
use Rattle.btx_bib.specs.declared.grammar.byte_sets.ByteSet.TheVariants.{Gap, NameByte}
use Rattle.btx_bib.specs.declared.grammar.byte_sets.Delimiter.{Delimiter}
use Rattle.btx_bib.specs.declared.grammar.commands.Expected.{Expected}
use Rattle.btx_bib.specs.declared.grammar.commands.Expected.TheVariants.{Fields}
use Rattle.btx_bib.specs.language.Grammar.Items.{expected_step}
use Rattle.btx_bib.specs.language.Grammar.ByteSets.{is_gap, is_in, longest_run_len, past}
use Rattle.btx_bib.specs.language.Grammar.Values.{behind_hash, next_part, part_in}
use Rattle.btx_bib.specs.refinement.Grammar.PassedFields.{IsField, IsFieldNext, IsLastPart, IsValuePlace, first_from, solid_bits, unlike_letter_bits}
use Rattle.btx_bib.specs.refinement.Grammar.Squeezing.{lanes_before}
use Rattle.btx_bib.proofs.GrammarLemmas.PassedLemmas.{run-on}
use Rattle.btx_bib.proofs.GrammarLemmas.PlainLemmas.{plain-stands}
use Rattle.btx_bib.proofs.GrammarLemmas.ValueLemmas.{value-one}

-- ---- the bits that the code computes

abbrev apart : ℕ → ℕ → ℕ
apart a b = cond (not (eqb a b)) 255 0

abbrev above : ℕ → ℕ → ℕ
above a b = cond (ltb a b) 255 0

tops : (f : ℕ → ℕ) (test : ℕ → Bool) → agree_below (λ b. top 7 (f b)) test 256 ≡ true → (xs : List ℕ) → ((k : ℕ) → k < length xs → get_or xs k 0 < 256)
    → map (top 7) (map f xs) ≡ map test xs
tops f test all [] fits = refl
tops f test all (x ∷ xs) fits =
    ap₂ (λ (b : Bool) (bs : List Bool). b ∷ bs) (agree_below_at (λ b. top 7 (f b)) test 256 x all (fits 0 (omega arith)))
    (tops f test all xs (λ k lt. fits (suc k) (omega arith)))

bits-are : (s z : List ℕ) (f : ℕ → ℕ) (test : ℕ → Bool) → 17 ≤ length s → ((k : ℕ) → Fits w8 (get_or s k 0)) → z ≡ map f (chunk 1 16 s)
    → agree_below (λ b. top 7 (f b)) test 256 ≡ true → mask_l (map (top 7) z) % 2 ^ 64 ≡ mask_l (map test (take 16 (drop 1 s)))
bits-are s z f test room fits is all =
    let block = chunk 1 16 s in
    let long : length block ≡ 16 = length-chunk 1 16 s (omega arith) in
    let below : (k : ℕ) → k < length block → get_or block k 0 < 256 = λ k lt. rw (get_or-chunk 1 16 s k 0 (omega (arith, long))) (fits (1 + k)).fits in
    mask_l-mod (map (top 7) z) 64 (omega (arith, length-map z (top 7), ap length is, length-map block f, long))
    ∙ ap (λ l. mask_l (map (top 7) l)) is ∙ ap mask_l (tops f test all block below)

abbrev solid_lane : ℕ → ℕ
solid_lane b = bit_and (bit_and (bit_and (apart b 32) (apart b 10)) (apart b 9)) (apart b 13)

abbrev solid_lanes : List ℕ → List ℕ
solid_lanes block =
    zip2 bit_and (zip2 bit_and (zip2 bit_and (zip2 apart block (replicate 16 32)) (zip2 apart block (replicate 16 10))) (zip2 apart block (replicate 16 9)))
    (zip2 apart block (replicate 16 13))

lanes-are : (block : List ℕ) → length block ≡ 16 → solid_lanes block ≡ map solid_lane block
lanes-are block long =
    let two = zip2_of_maps bit_and (λ b. apart b 32) (λ b. apart b 10) block (zip2_splat apart block 16 32 long) (zip2_splat apart block 16 10 long) in
    let three = zip2_of_maps bit_and (λ b. bit_and (apart b 32) (apart b 10)) (λ b. apart b 9) block two (zip2_splat apart block 16 9 long) in
    zip2_of_maps bit_and (λ b. bit_and (bit_and (apart b 32) (apart b 10)) (apart b 9)) (λ b. apart b 13) block three (zip2_splat apart block 16 13 long)

pub solid-bits : (s : List ℕ) → 17 ≤ length s → ((k : ℕ) → Fits w8 (get_or s k 0)) → mask_l (map (top 7) (solid_lanes (chunk 1 16 s))) % 2 ^ 64 ≡ solid_bits s
solid-bits s room fits =
    bits-are s (solid_lanes (chunk 1 16 s)) solid_lane (λ b. not (is_gap b)) room fits (lanes-are (chunk 1 16 s) (length-chunk 1 16 s (omega arith))) refl

pub unlike_letter_bits-masked : (s : List ℕ) (less : ℕ → ℕ → ℕ) → 17 ≤ length s → ((k : ℕ) → Fits w8 (get_or s k 0))
    → agree_below (λ b. top 7 (above 25 (less b 97))) (λ b. not (is_in_range 97 122 b)) 256 ≡ true
    → mask_l (map (top 7) (zip2 above (replicate 16 25) (zip2 less (chunk 1 16 s) (replicate 16 97)))) % 2 ^ 64 ≡ unlike_letter_bits s
unlike_letter_bits-masked s less room fits all =
    let block = chunk 1 16 s in
    let long = length-chunk 1 16 s (omega arith) in
    bits-are s (zip2 above (replicate 16 25) (zip2 less block (replicate 16 97))) (λ b. above 25 (less b 97)) (λ b. not (is_in_range 97 122 b)) room fits
    (zip2_of_maps above (λ _. 25) (λ b. less b 97) block (splat_is_map block 16 25 long) (zip2_splat less block 16 97 long)) all

-- ---- the first bit that is set, from a place on

half : (b : Bool) (n : ℕ) → (cond b 1 0 + 2 * n) / 2 ≡ n
half true n = omega arith
half false n = omega arith

pub shifted : (ms : List Bool) (n : ℕ) → mask_l ms / 2 ^ n ≡ mask_l (drop n ms)
shifted ms zero = div-one (mask_l ms)
shifted [] (suc n) = zero-div (2 ^ suc n)
shifted (m ∷ ms) (suc n) =
    ap (λ k. mask_l (m ∷ ms) / k) (pow-suc 2 n ∙ mul_comm (2 ^ n) 2) ∙ sym (div-div-eq-div-mul (mask_l (m ∷ ms)) 2 (2 ^ n)) ∙ ap (λ k. k / 2 ^ n)
    (half m (mask_l ms)) ∙ shifted ms n

module _ (test : ℕ → Bool) (s : List ℕ) (from found : ℕ) (room : 17 ≤ length s) (is : found ≡ first_from (mask_l (map test (take 16 (drop 1 s)))) from)
    (short : found < 16) where
  abbrev block : List ℕ
  block = chunk (1 + from) (16 - from) s

  pub goes-up : from ≤ found
  goes-up = omega (arith, is)

  inside : 1 + from + (16 - from) ≤ length s
  inside = omega (arith, room, short, goes-up)

  bits : mask_l (map test (take 16 (drop 1 s))) / 2 ^ from ≡ mask_l (map test block)
  bits =
      let sum : from + (16 - from) ≡ 16 = omega (arith, short, goes-up) in
      let whole : drop from (take (from + (16 - from)) (drop 1 s)) ≡ take (16 - from) (drop from (drop 1 s)) = drop-take from (16 - from) (drop 1 s) in
      let cut = rw sum at whole in
      shifted (map test (take 16 (drop 1 s))) from ∙ ap mask_l (drop-map test from (take 16 (drop 1 s)))
      ∙ ap (λ l. mask_l (map test l)) (cut ∙ ap (take (16 - from)) (drop-drop from 1 s))

  counted : found - from ≡ prefix_len (λ b. not (test b)) block
  counted = at (eqb (mask_l (map test block)) 0) refl where
    first : cond (eqb (mask_l (map test block)) 0) (16 - from) (count_trailing_zeros 64 (mask_l (map test block))) ≡ prefix_len (λ b. not (test b)) block
    first = first_set_mask_l test block (16 - from) (length-chunk (1 + from) (16 - from) s inside) (omega arith)

    lanes : found ≡ from + lanes_before (mask_l (map test block))
    lanes = is ∙ ap (λ n. from + lanes_before n) bits

    at : (t : Bool) → eqb (mask_l (map test block)) 0 ≡ t → found - from ≡ prefix_len (λ b. not (test b)) block
    at true none = absurd (omega (arith, short, rw none at lanes))
    at false some = omega (arith, rw some at lanes, rw some at first)

  pub before-it : (k : ℕ) → 1 + from ≤ k → k < 1 + found → test (get_or s k 0) ≡ false
  before-it k up to = run_in_chunk_fails test s (1 + from) (16 - from) (found - from) 0 inside counted k up (omega (arith, goes-up))

  pub at-it : test (get_or s (1 + found) 0) ≡ true
  at-it =
      let there : 1 + from + (found - from) ≡ 1 + found = omega (arith, goes-up) in
      let stops = run_in_chunk_stops test s (1 + from) (16 - from) (found - from) 0 inside counted (omega (arith, goes-up, short)) in
      rw there at stops

-- ---- a run of bytes from a place to another one

module _ (set : ByteSet) (s : List ℕ) (i j : ℕ) (up : i ≤ j) (lt : j < length s) (all : (k : ℕ) → i ≤ k → k < j → is_in set (get_or s k 0) ≡ true)
    (ends : is_in set (get_or s j 0) ≡ false) where
  behind : drop (j - i) (drop i s) ≡ drop j s
  behind = let sum : i + (j - i) ≡ j = omega (arith, up) in drop-drop (j - i) i s ∙ ap (λ n. drop n s) sum

  none-there : (b : ℕ) (bs : List ℕ) → is_in set b ≡ false → longest_run_len set (b ∷ bs) ≡ 0
  unfolding longest_run_len
  none-there b bs h = rw h refl

  pub run-is : longest_run_len set (drop i s) ≡ j - i
  run-is =
      run-on set (j - i) (drop i s) (omega (arith, length-drop i s, lt)) (λ k from to.
      let here = get_or-drop i s k 0 in rw here (all (i + k) (omega arith) (omega (arith, up))))
      ∙ ap (λ l. j - i + longest_run_len set l) (behind ∙ drop_more s j 0 lt)
      ∙ ap (λ n. j - i + n) (none-there (get_or s j 0) (drop (j + 1) s) ends) ∙ omega arith

  pub past-is : past set (drop i s) ≡ drop j s
  past-is = ap (λ n. drop n (drop i s)) run-is ∙ behind

-- ---- where a value begins

letter : (b : ℕ) → b < 256 → not (is_in_range 97 122 b) ≡ false → (begins_name b ≡ true) × (is_name_byte b ≡ true)
letter b fits h = (
  at (is_in_range 97 122 b) (begins_name b) h (agree_below_at (λ b. not (is_in_range 97 122 b) || begins_name b) (λ _. true) 256 b refl fits),
  at (is_in_range 97 122 b) (is_name_byte b) h (agree_below_at (λ b. not (is_in_range 97 122 b) || is_name_byte b) (λ _. true) 256 b refl fits),
) where
  at : (t u : Bool) → not t ≡ false → (not t || u) ≡ true → u ≡ true
  at true u h all = all
  at false u h all = absurd (true≢false h)

comma-past : (text behind : List ℕ) → text ≡ 44 ∷ behind → past Gap text ≡ 44 ∷ behind
unfolding longest_run_len
comma-past text behind is = rw is refl

-- a byte of whitespace is no byte of a name
gap-ends : (b : ℕ) → b < 256 → is_gap b ≡ true → is_name_byte b ≡ false
gap-ends b fits h = at (is_gap b) (is_name_byte b) h (agree_below_at (λ b. not (is_gap b) || not (is_name_byte b)) (λ _. true) 256 b refl fits) where
  at : (t u : Bool) → t ≡ true → (not t || not u) ≡ true → u ≡ false
  at true true h all = absurd (true≢false (sym all))
  at true false h all = refl
  at false u h all = absurd (true≢false (sym h))

module _ (s : List ℕ) (name behind sign value : ℕ) (room : 17 ≤ length s) (fits : (k : ℕ) → Fits w8 (get_or s k 0)) (comma : get_or s 0 0 ≡ 44)
    (is-name : name ≡ first_from (solid_bits s) 0) (is-behind : behind ≡ first_from (unlike_letter_bits s) name) (some : name < behind)
    (is-sign : sign ≡ first_from (solid_bits s) behind) (signed : get_or s (1 + sign) 0 ≡ 61) (is-value : value ≡ first_from (solid_bits s) (sign + 1))
    (ends : value < 16) where
  abbrev solid : ℕ → Bool
  solid b = not (is_gap b)

  abbrev unlike_letter : ℕ → Bool
  unlike_letter b = not (is_in_range 97 122 b)

  ups : (name < 16) × (behind < 16) × (sign < 16) × (behind ≤ sign) × (sign + 1 ≤ value)
  ups = omega (arith, is-sign, is-value, some, ends)

  -- whitespace from one place to another
  gaps : (from to : ℕ) → to ≡ first_from (solid_bits s) from → to < 16 → past Gap (drop (1 + from) s) ≡ drop (1 + to) s
  gaps from to is short =
      past-is Gap s (1 + from) (1 + to) (omega (arith, goes-up solid s from to room is short)) (omega (arith, room, short))
      (λ k up lt. not-false _ (before-it solid s from to room is short k up lt)) (not-true _ (at-it solid s from to room is short))

  name-ends : is_name_byte (get_or s (1 + behind) 0) ≡ false
  name-ends = elim (cases_eq behind sign) [
    | inl same ↦ rw (same, signed) refl
    | inr apart ↦ gap-ends _ (fits (1 + behind)).fits
        (not-false _ (before-it solid s behind sign room is-sign ups.2 (1 + behind) (omega arith) (omega (arith, apart, ups))))
  ]

  letters : (k : ℕ) → 1 + name ≤ k → k < 1 + behind → not (is_in_range 97 122 (get_or s k 0)) ≡ false
  letters k up lt = before-it unlike_letter s name behind room is-behind ups.1 k up lt

  name-runs : longest_run_len NameByte (drop (1 + name) s) ≡ behind - name
  name-runs = run-is NameByte s (1 + name) (1 + behind) (omega (arith, some)) (omega (arith, room, ups))
      (λ k up lt. (letter (get_or s k 0) (fits k).fits (letters k up lt)).1) name-ends ∙ omega arith

  pub value-stands : IsValuePlace s (1 + value)
  value-stands =
      let first = letter (get_or s (1 + name) 0) (fits (1 + name)).fits (letters (1 + name) (omega arith) (omega (arith, some))) in
      let begun : s ≡ 44 ∷ drop 1 s = drop_more s 0 0 (omega (arith, room)) ∙ ap (λ b. b ∷ drop 1 s) comma in
      let behind-is : drop (1 + behind) s ≡ drop (behind - name) (drop (1 + name) s) =
      (let sum : 1 + name + (behind - name) ≡ 1 + behind = omega (arith, some) in sym (drop-drop (behind - name) (1 + name) s ∙ ap (λ n. drop n s) sum)) in
      let further : 1 + sign + 1 ≡ 1 + (sign + 1) = omega arith in
      let equals : past Gap (drop (1 + behind) s) ≡ 61 ∷ drop (1 + (sign + 1)) s =
      gaps behind sign is-sign ups.2 ∙ drop_more s (1 + sign) 0 (omega (arith, room, ups)) ∙ ap (λ b. b ∷ drop (1 + sign + 1) s) signed
      ∙ ap (λ n. 61 ∷ drop n s) further in
      record {
        name = take (behind - name) (drop (1 + name) s);
        field = λ delimiter part rest stands last.
            plain-stands s (drop 1 s) (drop (1 + name) s) (take (behind - name) (drop (1 + name) s)) (drop (1 + behind) s) (drop (1 + (sign + 1)) s) rest
            (part ∷ []) (get_or s (1 + name) 0) (drop (1 + name + 1) s) (behind - name) (comma-past s (drop 1 s) begun)
            (sym (gaps 0 name is-name ups.0)) (drop_more s (1 + name) 0 (omega (arith, room, ups))) first.0 (sym name-runs) refl behind-is equals
            (value-one (drop (1 + (sign + 1)) s) rest part (ap part_in (gaps (sign + 1) value is-value ends) ∙ stands) last) delimiter;
      }

-- a field whose value begins at a place, and which has one part
pub field-stands : (text : List ℕ) (place : ℕ) (rest : List ℕ) → IsValuePlace text place
    → IsLastPart (take (length text - place) (drop place text)) rest → IsField text rest
field-stands text place rest begins ends =
    let all : take (length text - place) (drop place text) ≡ drop place text =
    take_all (length text - place) (drop place text) (omega (arith, length-drop place text)) in
    record {
      field = record { name = begins.name; value = ends.part ∷ [] };
      stands = λ delimiter. begins.field delimiter ends.part rest (ap part_in (sym all) ∙ ends.stands) ends.last;
    }

-- where the text goes on with a comma, no part follows
pub comma-last : (text : List ℕ) → eqb (get_or text 0 0) 44 ≡ true → next_part text ≡ None
unfolding longest_run_len
comma-last [] h = refl
comma-last (b ∷ bs) h = ap behind_hash (comma-past (b ∷ bs) bs (ap (λ c. c ∷ bs) (eqb-true b 44 h)))

-- the reader reads it, where it wants fields
pub field-next : (place : Expected × List ℕ) (wanted : Expected) (delimiter : Delimiter) (text rest : List ℕ) → place ≡ (wanted, text) → wanted ≡ Fields delimiter
    → IsField text rest → IsFieldNext place rest
unfolding expected_step
field-next place wanted delimiter text rest is there field =
    let stands : place ≡ (Fields delimiter, text) = is ∙ ap (λ (w : Expected). (w, text)) there in
    rw stands (record { field = field.field; stands = rw (field.stands delimiter) refl })
