-- The items of a legal format, written one after another, are the format, and its literals are its bytes at depth 0.
use Rattle.std.proofs.Common.{◌≡◌, ℕ, zero, suc, ◌+◌, ◌-◌, ◌<◌, ◌≤◌, Bool, true, false, not, cond, eqb, ◌&&◌, ◌||◌, List, [], ◌∷◌, ◌++◌, Option, Some, None}
use Rattle.std.proofs.Common.{◌⊎◌, inl, inr, length, take, drop, refl, sym, ◌∙◌, ap, arith, append_assoc, length-append}
use Rattle.std.proofs.lemmas.Bool.{true≢false, cases_lt, eqb-true, eq-eqb, ne_eqb, and_parts}
use Rattle.std.proofs.lemmas.List.{take-append-drop, drop_all, drop-drop, map-append, append-nil, take_at, get_or_at}
use Rattle.std.proofs.lemmas.List.Sums.{fold-append}
use Rattle.std.specs.Prelude.{map, fold, filter, slice_index}
use Rattle.std.specs.List.{list_any, range_with_len}
use Rattle.std.specs.Char.{to_ascii_lowercase}
use Rattle.btx_text.specs.language.Elements.{depth_after, depth_of}
use Rattle.btx_names.specs.declared.format_items.PartName.{PartName}
use Rattle.btx_names.specs.declared.format_items.PartName.TheVariants.{First, Von, Last, Jr}
use Rattle.btx_names.specs.declared.runs.Stop.{Stop}
use Rattle.btx_names.specs.declared.runs.Stop.TheVariants.{Letter, Closing, Brace}
use Rattle.btx_names.specs.language.Runs.{stops, run_len}
use Rattle.btx_names.specs.language.Formats.{FormatPiece, FormatItem, Literal, Name, Illegal, part_named, is_doubled, between_of, behind_between, piece_item}
use Rattle.btx_names.specs.language.Formats.{split_item, inside_item, group_item, item_at, item_rest, items_from, items_of, is_illegal, is_legal}
use Rattle.btx_names.specs.laws.FormatTexts.{in_braces, letter_of, letters_of_part, text_of_between, text_of_piece, text_of_item, text_of_items, in_lower_case}
use Rattle.btx_names.specs.laws.FormatTexts.{literal_bytes, literals_bytes, is_brace, copies_at, copied_of}
use Rattle.btx_names.proofs.RunLemmas.{run_len-le}
use Rattle.btx_names.proofs.SeparatorLemmas.{depth_push}
use Rattle.btx_names.proofs.SplitLemmas.{never}
use Rattle.btx_names.specs.refinement.Formats.{behind_letters, lettered_item}
use Rattle.btx_names.specs.laws.Formats.{has_no_letter}

-- ---- where a run ends

record IsCut (stop : Stop) (depth : ℕ) (s : List ℕ) (size : ℕ) : Type 0 where
  byte : ℕ
  rest : List ℕ
  behind : drop size s ≡ byte ∷ rest
  with_it : take (suc size) s ≡ take size s ++ byte ∷ []
  is_stop : stops stop byte ≡ true
  level : fold depth_after depth (take size s) ≡ 0

run_cut : (stop : Stop) (depth : ℕ) (s : List ℕ) → run_len stop depth s < length s → IsCut stop depth s (run_len stop depth s)
unfolding run_len
run_cut stop depth [] less = absurd (omega (arith, less))
run_cut stop depth (b ∷ bs) less = at (eqb depth 0 && stops stop b) refl less (run_cut stop (depth_after depth b) bs) where
  at : (t : Bool) → (eqb depth 0 && stops stop b) ≡ t →
      cond t 0 (suc (run_len stop (depth_after depth b) bs)) < suc (length bs) →
      (run_len stop (depth_after depth b) bs < length bs → IsCut stop (depth_after depth b) bs (run_len stop (depth_after depth b) bs)) →
      IsCut stop depth (b ∷ bs) (cond t 0 (suc (run_len stop (depth_after depth b) bs)))
  at true is h more =
      let parts = and_parts (eqb depth 0) (stops stop b) is in
      record { byte = b; rest = bs; behind = refl; with_it = refl; is_stop = parts.1; level = eqb-true depth 0 parts.0 }
  at false is h more =
      let cut = more (omega (arith, h)) in
      record { byte = cut.byte; rest = cut.rest; behind = cut.behind; with_it = ap (λ xs. b ∷ xs) cut.with_it; is_stop = cut.is_stop; level = cut.level }

-- a text that goes down to depth 0 from above has a closing brace
pub deeper : (depth b : ℕ) → (eqb depth 0 && eqb b 125) ≡ false → depth_after (suc depth) b ≡ suc (depth_after depth b)
deeper depth b stays = at (eqb b 123) (eqb b 125) refl where
  down : (n : ℕ) → (eqb n 0 && true) ≡ false → suc n - 1 ≡ suc (n - 1)
  down zero h = absurd (true≢false h)
  down (suc n) h = omega arith

  at : (t u : Bool) → eqb b 125 ≡ u → cond t (suc depth + 1) (cond u (suc depth - 1) (suc depth)) ≡ suc (cond t (depth + 1) (cond u (depth - 1) depth))
  at true u is = omega arith
  at false true is = down depth (ap (λ v. eqb depth 0 && v) (sym is) ∙ stays)
  at false false is = refl

-- so a text whose braces match one depth further in has a brace that closes that depth
pub closes : (depth : ℕ) (s : List ℕ) → fold depth_after (suc depth) s ≡ 0 → run_len Closing depth s < length s
unfolding run_len
closes depth [] low = absurd (omega (arith, low))
closes depth (b ∷ bs) low = at (eqb depth 0 && eqb b 125) refl (closes (depth_after depth b) bs) where
  at : (t : Bool) → (eqb depth 0 && eqb b 125) ≡ t →
      (fold depth_after (suc (depth_after depth b)) bs ≡ 0 → run_len Closing (depth_after depth b) bs < length bs) →
      cond t 0 (suc (run_len Closing (depth_after depth b) bs)) < suc (length bs)
  at true is on = omega arith
  at false is on =
      let more = on (ap (λ n. fold depth_after n bs) (sym (deeper depth b is)) ∙ low) in
      omega (arith, more)

-- ---- a piece

-- the string between tokens and what follows it
between_joined : (s : List ℕ) → fold depth_after 0 s ≡ 0 → text_of_between (between_of s) ++ behind_between s ≡ s
between_joined [] low = refl
between_joined (b ∷ bs) low = at (eqb b 123) refl where
  size : ℕ
  size = run_len Closing 0 bs

  at : (t : Bool) → eqb b 123 ≡ t →
      text_of_between (cond t (Some (take size bs)) None) ++ cond t (drop (size + 1) bs) (b ∷ bs) ≡ b ∷ bs
  at false is = refl
  at true is =
      let is_brace : b ≡ 123 = eqb-true b 123 is in
      let start : depth_after 0 b ≡ 1 = rw is_brace refl in
      let cut = run_cut Closing 0 bs (closes 0 bs (ap (λ n. fold depth_after n bs) (sym start) ∙ low)) in
      let close : cut.byte ≡ 125 = eqb-true cut.byte 125 cut.is_stop in
      let rest : drop (size + 1) bs ≡ cut.rest = sym (drop-drop 1 size bs) ∙ ap (λ xs. drop 1 xs) cut.behind in
      let whole : take size bs ++ 125 ∷ cut.rest ≡ bs = ap (λ c. take size bs ++ c ∷ cut.rest) (sym close) ∙ ap (λ xs. take size bs ++ xs) (sym cut.behind)
      ∙ take-append-drop size bs in
      ap (λ xs. in_braces (take size bs) ++ xs) rest
      ∙ ap (λ xs. 123 ∷ xs) (append_assoc (take size bs) (125 ∷ []) cut.rest ∙ whole)
      ∙ ap (λ c. c ∷ bs) (sym is_brace)

pub named : (letter : ℕ) (part : PartName) → part_named letter ≡ Some part → to_ascii_lowercase letter ≡ letter_of part
unfolding part_named
named letter part is =
    at (eqb (to_ascii_lowercase letter) 102) (eqb (to_ascii_lowercase letter) 118) (eqb (to_ascii_lowercase letter) 108) (eqb (to_ascii_lowercase letter) 106)
    refl refl refl refl is where
      at : (f v l j : Bool) → eqb (to_ascii_lowercase letter) 102 ≡ f → eqb (to_ascii_lowercase letter) 118 ≡ v → eqb (to_ascii_lowercase letter) 108 ≡ l
          → eqb (to_ascii_lowercase letter) 106 ≡ j →
          cond f (Some First) (cond v (Some Von) (cond l (Some Last) (cond j (Some Jr) None))) ≡ Some part → to_ascii_lowercase letter ≡ letter_of part
      at true v l j a b c d same = let e : First ≡ part = cc in eqb-true _ 102 a ∙ ap letter_of e
      at false true l j a b c d same = let e : Von ≡ part = cc in eqb-true _ 118 b ∙ ap letter_of e
      at false false true j a b c d same = let e : Last ≡ part = cc in eqb-true _ 108 c ∙ ap letter_of e
      at false false false true a b c d same = let e : Jr ≡ part = cc in eqb-true _ 106 d ∙ ap letter_of e
      at false false false false a b c d same = let none : ⊥ = cc in absurd none

-- such a letter is no brace
pub letter_keeps : (part : PartName) (b depth : ℕ) → eqb (to_ascii_lowercase b) (letter_of part) ≡ true → depth_after depth b ≡ depth
letter_keeps First b depth is = rw (never (λ x. eqb (to_ascii_lowercase x) 102) b 123 is refl, never (λ x. eqb (to_ascii_lowercase x) 102) b 125 is refl) refl
letter_keeps Von b depth is = rw (never (λ x. eqb (to_ascii_lowercase x) 118) b 123 is refl, never (λ x. eqb (to_ascii_lowercase x) 118) b 125 is refl) refl
letter_keeps Last b depth is = rw (never (λ x. eqb (to_ascii_lowercase x) 108) b 123 is refl, never (λ x. eqb (to_ascii_lowercase x) 108) b 125 is refl) refl
letter_keeps Jr b depth is = rw (never (λ x. eqb (to_ascii_lowercase x) 106) b 123 is refl, never (λ x. eqb (to_ascii_lowercase x) 106) b 125 is refl) refl

lower_of_letter : (part : PartName) → to_ascii_lowercase (letter_of part) ≡ letter_of part
lower_of_letter First = refl
lower_of_letter Von = refl
lower_of_letter Last = refl
lower_of_letter Jr = refl

pub same_head : (a b : ℕ) (xs ys : List ℕ) → a ≡ b → xs ≡ ys → a ∷ xs ≡ b ∷ ys
same_head a b xs ys head tail = rw (head, tail) refl

abbrev tail_text : List ℕ → List ℕ
tail_text behind = text_of_between (between_of behind) ++ behind_between behind

from_letter : (part : PartName) (letter : ℕ) (rest : List ℕ) → to_ascii_lowercase letter ≡ letter_of part → fold depth_after 0 rest ≡ 0 →
    in_lower_case (letters_of_part part (is_doubled letter rest) ++ tail_text (behind_letters letter rest)) ≡ in_lower_case (letter ∷ rest)
from_letter part letter [] is low = same_head _ _ _ _ (lower_of_letter part ∙ sym is) refl
from_letter part letter (second ∷ rest) is low = at (eqb (to_ascii_lowercase second) (to_ascii_lowercase letter)) refl where
  at : (t : Bool) → eqb (to_ascii_lowercase second) (to_ascii_lowercase letter) ≡ t →
      in_lower_case (letters_of_part part t ++ tail_text (cond t rest (second ∷ rest))) ≡ in_lower_case (letter ∷ second ∷ rest)
  at false once = same_head _ _ _ _ (lower_of_letter part ∙ sym is) (ap in_lower_case (between_joined (second ∷ rest) low))
  at true twice =
      let test : eqb (to_ascii_lowercase second) (letter_of part) ≡ true = ap (λ n. eqb (to_ascii_lowercase second) n) (sym is) ∙ twice in
      let lower : to_ascii_lowercase second ≡ letter_of part = eqb-true _ _ test in
      let level : fold depth_after 0 rest ≡ 0 = ap (λ n. fold depth_after n rest) (sym (letter_keeps part second 0 test)) ∙ low in
      same_head _ _ _ _ (lower_of_letter part ∙ sym is) (same_head _ _ _ _ (lower_of_letter part ∙ sym lower) (ap in_lower_case (between_joined rest level)))

-- ---- a group

abbrev IsWritten : FormatItem → List ℕ → Type 0
IsWritten item text = is_illegal item ≡ false → in_lower_case (text_of_item item) ≡ in_lower_case text

lower_append : (xs ys : List ℕ) → in_lower_case (xs ++ ys) ≡ in_lower_case xs ++ in_lower_case ys
lower_append xs ys = map-append to_ascii_lowercase xs ys

braces_lower : (xs ys : List ℕ) → in_lower_case xs ≡ in_lower_case ys → in_lower_case (in_braces xs) ≡ in_lower_case (in_braces ys)
braces_lower xs ys same =
    ap (λ zs. 123 ∷ zs) (lower_append xs (125 ∷ []) ∙ ap (λ zs. zs ++ 125 ∷ []) same ∙ sym (lower_append ys (125 ∷ [])))

behind_lower : (before xs ys : List ℕ) → in_lower_case xs ≡ in_lower_case ys → in_lower_case (before ++ xs) ≡ in_lower_case (before ++ ys)
behind_lower before xs ys same = lower_append before xs ∙ ap (λ zs. in_lower_case before ++ zs) same ∙ sym (lower_append before ys)

-- the piece of a group whose first letter names a part
abbrev piece_of_letter : List ℕ → ℕ → List ℕ → PartName → FormatPiece
piece_of_letter before letter rest part =
    let behind = behind_letters letter rest in
    record { before = before; part = part; is_full = is_doubled letter rest; between = between_of behind; after = behind_between behind }

piece_written : (before : List ℕ) (letter : ℕ) (rest : List ℕ) (part : PartName) → part_named letter ≡ Some part → fold depth_after 0 (letter ∷ rest) ≡ 0 →
    IsWritten (piece_item before letter rest part) (in_braces (before ++ letter ∷ rest))
unfolding piece_item
piece_written before letter rest part is low = at (has_no_letter (behind_between (behind_letters letter rest))) where
  piece : FormatPiece
  piece = piece_of_letter before letter rest part

  lower : to_ascii_lowercase letter ≡ letter_of part
  lower = named letter part is

  same : eqb (to_ascii_lowercase letter) (letter_of part) ≡ true
  same = rw lower (elim part as (λ part. eqb (letter_of part) (letter_of part) ≡ true) [ First ↦ refl | Von ↦ refl | Last ↦ refl | Jr ↦ refl ])

  level : fold depth_after 0 rest ≡ 0
  level = ap (λ n. fold depth_after n rest) (sym (letter_keeps part letter 0 same)) ∙ low

  at : (t : Bool) → IsWritten (cond t (Name piece) Illegal) (in_braces (before ++ letter ∷ rest))
  at false legal = absurd (true≢false legal)
  at true legal =
      let letters = letters_of_part part piece.is_full in
      let between = text_of_between piece.between in
      let joined : text_of_piece piece ≡ before ++ (letters ++ (between ++ piece.after)) = append_assoc (before ++ letters) between piece.after
      ∙ append_assoc before letters (between ++ piece.after) in
      braces_lower (text_of_piece piece) (before ++ letter ∷ rest)
      (ap in_lower_case joined ∙ behind_lower before _ (letter ∷ rest) (from_letter part letter rest lower level))

lettered_written : (before : List ℕ) (letter : ℕ) (rest : List ℕ) (named_part : Option PartName) → part_named letter ≡ named_part
    → fold depth_after 0 (letter ∷ rest) ≡ 0 →
    IsWritten (lettered_item before letter rest named_part) (in_braces (before ++ letter ∷ rest))
lettered_written before letter rest None is low legal = absurd (true≢false legal)
lettered_written before letter rest (Some part) is low legal = piece_written before letter rest part is low legal

split_written : (before rest : List ℕ) → fold depth_after 0 rest ≡ 0 → IsWritten (split_item before rest) (in_braces (before ++ rest))
split_written before [] low legal = braces_lower before (before ++ []) (ap in_lower_case (sym (append-nil before)))
split_written before (letter ∷ rest) low legal = lettered_written before letter rest (part_named letter) refl low legal

inside_written : (inside : List ℕ) → fold depth_after 0 inside ≡ 0 → IsWritten (inside_item inside) (in_braces inside)
unfolding inside_item
inside_written inside low legal =
    split_written (take size inside) (drop size inside) (at (cases_lt size (length inside))) legal
    ∙ ap (λ xs. in_lower_case (in_braces xs)) (take-append-drop size inside) where
      size : ℕ
      size = run_len Letter 0 inside

      at : (size < length inside) ⊎ (length inside ≤ size) → fold depth_after 0 (drop size inside) ≡ 0
      at (inl less) =
          let cut = run_cut Letter 0 inside less in
          ap (λ n. fold depth_after n (drop size inside)) (sym cut.level)
          ∙ sym (fold-append depth_after 0 (take size inside) (drop size inside))
          ∙ ap (λ xs. fold depth_after 0 xs) (take-append-drop size inside)
          ∙ low
      at (inr all) = ap (λ xs. fold depth_after 0 xs) (drop_all size inside all)

group_written : (rest : List ℕ) → IsWritten (group_item rest) (123 ∷ take (suc (run_len Closing 0 rest)) rest)
unfolding group_item
group_written rest = at (eqb (run_len Closing 0 rest) (length rest)) refl where
  size : ℕ
  size = run_len Closing 0 rest

  at : (t : Bool) → eqb size (length rest) ≡ t → IsWritten (cond t Illegal (inside_item (take size rest))) (123 ∷ take (suc size) rest)
  at true is legal = absurd (true≢false legal)
  at false is legal =
      let other : size ≡ length rest → ⊥ = λ same. true≢false (sym (eq-eqb size (length rest) same) ∙ is) in
      let less : size < length rest = omega (arith, other, run_len-le Closing 0 rest) in
      let cut = run_cut Closing 0 rest less in
      let close : cut.byte ≡ 125 = eqb-true cut.byte 125 cut.is_stop in
      let whole : in_braces (take size rest) ≡ 123 ∷ take (suc size) rest =
      ap (λ xs. 123 ∷ xs) (ap (λ c. take size rest ++ c ∷ []) (sym close) ∙ sym cut.with_it) in
      inside_written (take size rest) cut.level legal ∙ ap in_lower_case whole

-- ---- the items

item_written : (b : ℕ) (bs : List ℕ) → IsWritten (item_at b bs) (b ∷ take (item_rest b bs) bs)
unfolding run_len
item_written b bs = at (eqb b 123) (eqb b 125) refl refl where
  size : ℕ
  size = run_len Brace 0 (b ∷ bs)

  at : (t u : Bool) → eqb b 123 ≡ t → eqb b 125 ≡ u →
      IsWritten (cond t (group_item bs) (cond u Illegal (Literal (take size (b ∷ bs)))))
      (b ∷ take (cond t (suc (run_len Closing 0 bs)) (cond u 0 (size - 1))) bs)
  at true u is_open is_close legal =
      group_written bs legal ∙ ap (λ c. in_lower_case (c ∷ take (suc (run_len Closing 0 bs)) bs)) (sym (eqb-true b 123 is_open))
  at false true is_open is_close legal = absurd (true≢false legal)
  at false false is_open is_close legal =
      let n = run_len Brace (depth_after 0 b) bs in
      let more : size ≡ suc n = rw (is_open, is_close) refl in
      let less : suc n - 1 ≡ n = omega arith in
      rw more (rw less refl)

or_parts : (a b : Bool) → (a || b) ≡ false → (a ≡ false) × (b ≡ false)
or_parts true b is = absurd (true≢false is)
or_parts false b is = (refl, is)

items_written : (skip : ℕ) (s : List ℕ) → list_any is_illegal (items_from skip s) ≡ false → in_lower_case (text_of_items (items_from skip s))
    ≡ in_lower_case (drop skip s)
unfolding items_from
items_written zero [] legal = refl
items_written (suc skip) [] legal = refl
items_written (suc skip) (b ∷ bs) legal = items_written skip bs legal
items_written zero (b ∷ bs) legal =
    let size = item_rest b bs in
    let parts = or_parts (is_illegal (item_at b bs)) (list_any is_illegal (items_from size bs)) legal in
    let first = item_written b bs parts.0 in
    let others = items_written size bs parts.1 in
    lower_append (text_of_item (item_at b bs)) (text_of_items (items_from size bs))
    ∙ ap (λ xs. xs ++ in_lower_case (text_of_items (items_from size bs))) first
    ∙ ap (λ xs. in_lower_case (b ∷ take size bs) ++ xs) others
    ∙ sym (lower_append (b ∷ take size bs) (drop size bs))
    ∙ ap (λ xs. in_lower_case (b ∷ xs)) (take-append-drop size bs)

pub written : (format : List ℕ) → is_legal format ≡ true → in_lower_case (text_of_items (items_of format)) ≡ in_lower_case format
unfolding items_of
written format legal = items_written 0 format (at (list_any is_illegal (items_from 0 format)) legal) where
  at : (t : Bool) → not t ≡ true → t ≡ false
  at true is = absurd (true≢false (sym is))
  at false is = refl

-- ---- the bytes that are copied

-- from front to back
copied_from : ℕ → List ℕ → List ℕ
copied_from depth [] = []
copied_from depth (b ∷ bs) = cond (eqb depth 0 && not (is_brace b)) (b ∷ copied_from (depth_after depth b) bs) (copied_from (depth_after depth b) bs)

map_cond : (f : ℕ → ℕ) (t : Bool) (place b : ℕ) (places rest : List ℕ) → f place ≡ b → map f places ≡ rest → map f (cond t (place ∷ places) places)
    ≡ cond t (b ∷ rest) rest
map_cond f true place b places rest head tail = same_head _ _ _ _ head tail
map_cond f false place b places rest head tail = tail

copied_places : (string before rest : List ℕ) → string ≡ before ++ rest →
    map (slice_index string) (filter (copies_at string) (range_with_len (length before) (length rest))) ≡ copied_from (depth_of before) rest
unfolding copied_from
copied_places string before [] is = refl
copied_places string before (b ∷ bs) is =
    let again : string ≡ (before ++ b ∷ []) ++ bs = is ∙ sym (append_assoc before (b ∷ []) bs) in
    let next : length (before ++ b ∷ []) ≡ length before + 1 = length-append before (b ∷ []) in
    let byte : slice_index string (length before) ≡ b = rw is (get_or_at before b bs 0 (length before) refl) in
    let test : copies_at string (length before) ≡ (eqb (depth_of before) 0 && not (is_brace b)) =
    rw (is, take_at before (b ∷ bs) (length before) refl, get_or_at before b bs 0 (length before) refl) refl in
    let more = copied_places string (before ++ b ∷ []) bs again in
    let rest = filter (copies_at string) (range_with_len (length before + 1) (length bs)) in
    let others : map (slice_index string) rest ≡ copied_from (depth_after (depth_of before) b) bs =
    ap (λ n. map (slice_index string) (filter (copies_at string) (range_with_len n (length bs)))) (sym next) ∙ more
    ∙ ap (λ n. copied_from n bs) (depth_push before b) in
    rw test (map_cond (slice_index string) (eqb (depth_of before) 0 && not (is_brace b)) (length before) b rest _ byte others)

-- nothing inside a group is copied
deep_copies_nothing : (depth b : ℕ) (bs : List ℕ) → copied_from (suc depth) (b ∷ bs) ≡ copied_from (depth_after (suc depth) b) bs
unfolding copied_from
deep_copies_nothing depth b bs = at (eqb (suc depth) 0) (ne_eqb (suc depth) 0 (omega arith)) where
  at : (t : Bool) → t ≡ false → cond (t && not (is_brace b)) (b ∷ copied_from (depth_after (suc depth) b) bs) (copied_from (depth_after (suc depth) b) bs)
      ≡ copied_from (depth_after (suc depth) b) bs
  at true is = absurd (true≢false is)
  at false is = refl

past_group : (depth : ℕ) (s : List ℕ) → copied_from (suc depth) s ≡ copied_from 0 (drop (suc (run_len Closing depth s)) s)
unfolding copied_from run_len
past_group depth [] = refl
past_group depth (b ∷ bs) = deep_copies_nothing depth b bs ∙ at (eqb depth 0 && eqb b 125) refl (past_group (depth_after depth b) bs) where
  at : (t : Bool) → (eqb depth 0 && eqb b 125) ≡ t →
      copied_from (suc (depth_after depth b)) bs ≡ copied_from 0 (drop (suc (run_len Closing (depth_after depth b) bs)) bs) →
      copied_from (depth_after (suc depth) b) bs ≡ copied_from 0 (drop (cond t 0 (suc (run_len Closing (depth_after depth b) bs))) bs)
  at true is on =
      let parts = and_parts (eqb depth 0) (eqb b 125) is in
      ap (λ n. copied_from n bs) (rw (eqb-true depth 0 parts.0, eqb-true b 125 parts.1) refl)
  at false is on = ap (λ n. copied_from n bs) (deeper depth b is) ∙ on

-- a run up to a brace is copied
run_copied : (s : List ℕ) → take (run_len Brace 0 s) s ++ copied_from 0 (drop (run_len Brace 0 s) s) ≡ copied_from 0 s
unfolding copied_from run_len
run_copied [] = refl
run_copied (b ∷ bs) = at (eqb b 123) (eqb b 125) refl refl (run_copied bs) where
  at : (t u : Bool) → eqb b 123 ≡ t → eqb b 125 ≡ u → take (run_len Brace 0 bs) bs ++ copied_from 0 (drop (run_len Brace 0 bs) bs) ≡ copied_from 0 bs →
      take (cond (t || u) 0 (suc (run_len Brace (cond t 1 (cond u 0 0)) bs))) (b ∷ bs)
      ++ copied_from 0 (drop (cond (t || u) 0 (suc (run_len Brace (cond t 1 (cond u 0 0)) bs))) (b ∷ bs))
      ≡ cond (not (t || u)) (b ∷ copied_from (cond t 1 (cond u 0 0)) bs) (copied_from (cond t 1 (cond u 0 0)) bs)
  at true u is_open is_close on = rw (is_open) refl
  at false true is_open is_close on = rw (is_open, is_close) refl
  at false false is_open is_close on = ap (λ xs. b ∷ xs) on

lettered_copies_nothing : (before : List ℕ) (letter : ℕ) (rest : List ℕ) (part : Option PartName) → literal_bytes (lettered_item before letter rest part) ≡ []
unfolding piece_item
lettered_copies_nothing before letter rest None = refl
lettered_copies_nothing before letter rest (Some part) =
    at (has_no_letter (behind_between (behind_letters letter rest))) (piece_of_letter before letter rest part) where
      at : (t : Bool) (piece : FormatPiece) → literal_bytes (cond t (Name piece) Illegal) ≡ []
      at true piece = refl
      at false piece = refl

split_copies_nothing : (before rest : List ℕ) → literal_bytes (split_item before rest) ≡ []
split_copies_nothing before [] = refl
split_copies_nothing before (letter ∷ rest) = lettered_copies_nothing before letter rest (part_named letter)

group_copies_nothing : (rest : List ℕ) → literal_bytes (group_item rest) ≡ []
unfolding group_item inside_item
group_copies_nothing rest = at (eqb (run_len Closing 0 rest) (length rest)) where
  inside : List ℕ
  inside = take (run_len Closing 0 rest) rest

  at : (t : Bool) → literal_bytes (cond t Illegal (inside_item inside)) ≡ []
  at true = refl
  at false = split_copies_nothing (take (run_len Letter 0 inside) inside) (drop (run_len Letter 0 inside) inside)

item_copied : (b : ℕ) (bs : List ℕ) → literal_bytes (item_at b bs) ++ copied_from 0 (drop (item_rest b bs) bs) ≡ copied_from 0 (b ∷ bs)
unfolding copied_from run_len
item_copied b bs = at (eqb b 123) (eqb b 125) refl refl where
  size : ℕ
  size = run_len Brace 0 (b ∷ bs)

  at : (t u : Bool) → eqb b 123 ≡ t → eqb b 125 ≡ u →
      literal_bytes (cond t (group_item bs) (cond u Illegal (Literal (take size (b ∷ bs)))))
      ++ copied_from 0 (drop (cond t (suc (run_len Closing 0 bs)) (cond u 0 (size - 1))) bs)
      ≡ copied_from 0 (b ∷ bs)
  at true u is_open is_close = rw (group_copies_nothing bs) (sym (past_group 0 bs) ∙ rw (is_open) refl)
  at false true is_open is_close = rw (is_open, is_close) refl
  at false false is_open is_close =
      let n = run_len Brace (depth_after 0 b) bs in
      let more : size ≡ suc n = rw (is_open, is_close) refl in
      let less : suc n - 1 ≡ n = omega arith in
      let rest : drop (size - 1) bs ≡ drop size (b ∷ bs) = rw more (rw less refl) in
      ap (λ xs. take size (b ∷ bs) ++ copied_from 0 xs) rest ∙ run_copied (b ∷ bs)

items_copied : (skip : ℕ) (s : List ℕ) → literals_bytes (items_from skip s) ≡ copied_from 0 (drop skip s)
unfolding items_from copied_from
items_copied zero [] = refl
items_copied (suc skip) [] = refl
items_copied (suc skip) (b ∷ bs) = items_copied skip bs
items_copied zero (b ∷ bs) = ap (λ xs. literal_bytes (item_at b bs) ++ xs) (items_copied (item_rest b bs) bs) ∙ item_copied b bs

pub copied : (format : List ℕ) → literals_bytes (items_of format) ≡ copied_of format
unfolding items_of
copied format = items_copied 0 format ∙ sym (copied_places format [] format refl)

pub ruleset format_laws = (written, copied)
