-- Items that can be written, written one after another, are a legal format that reads back as these items.
use Rattle.std.proofs.Common.{◌≡◌, ℕ, suc, ◌+◌, ◌<◌, ◌≤◌, Bool, true, false, not, cond, eqb, ltb, leb, ◌&&◌, ◌||◌, List, [], ◌∷◌, ◌++◌, Option, Some, None}
use Rattle.std.proofs.Common.{length, take, drop, refl, sym, ◌∙◌, ap, arith, append_assoc, length-append}
use Rattle.std.proofs.lemmas.Bool.{true≢false, eqb-true, eqb-false, eq-eqb, ne_eqb, ltb-true, ltb-false, le-leb, not-true, and_parts, or_parts, or_left}
use Rattle.std.proofs.lemmas.Bool.{or_right}
use Rattle.std.proofs.lemmas.List.{take_at, drop_at, take_all, drop_all}
use Rattle.std.proofs.lemmas.List.Sums.{fold-append}
use Rattle.std.specs.Prelude.{fold, slice_index}
use Rattle.std.specs.List.{list_all, list_any}
use Rattle.std.specs.Char.{to_ascii_lowercase}
use Rattle.btx_text.specs.language.Class.{is_alpha}
use Rattle.btx_text.specs.language.Elements.{depth_after, depth_of}
use Rattle.btx_names.specs.declared.format_items.PartName.{PartName}
use Rattle.btx_names.specs.declared.format_items.PartName.TheVariants.{First, Von, Last, Jr}
use Rattle.btx_names.specs.declared.runs.Stop.{Stop}
use Rattle.btx_names.specs.declared.runs.Stop.TheVariants.{Letter, Closing, Brace}
use Rattle.btx_names.specs.language.Runs.{stops, run_len}
use Rattle.btx_names.specs.language.Formats.{FormatPiece, FormatItem, Literal, Plain, Name, Illegal, part_named, is_doubled, between_of, behind_between}
use Rattle.btx_names.specs.language.Formats.{piece_item, split_item, inside_item, items_of, is_illegal, is_legal}
use Rattle.btx_names.specs.laws.FormatTexts.{in_braces, is_brace, letter_of, letters_of_part, text_of_between, in_lower_case}
use Rattle.btx_names.specs.laws.WrittenFormats.{is_balanced, is_outer, can_be_between, is_piece, is_item, begin_literal, are_items, IsTextOf, IsFormatOf}
use Rattle.btx_names.proofs.FormatLemmas.{items_of-nil, items_of-literal, items_of-group}
use Rattle.btx_names.proofs.ItemLemmas.{deeper}
use Rattle.btx_names.proofs.SplitLemmas.{never}
use Rattle.btx_names.specs.refinement.Formats.{behind_letters, legal_piece, lettered_item}
use Rattle.btx_names.specs.laws.Formats.{has_no_letter}

-- ---- runs

-- a run goes on through a text without a byte that ends it
run_through : (stop : Stop) (depth : ℕ) (xs ys : List ℕ) → run_len stop depth xs ≡ length xs →
    run_len stop depth (xs ++ ys) ≡ length xs + run_len stop (fold depth_after depth xs) ys
unfolding run_len
run_through stop depth [] ys all = omega arith
run_through stop depth (b ∷ bs) ys all = at (eqb depth 0 && stops stop b) all (run_through stop (depth_after depth b) bs ys) where
  n : ℕ
  n = run_len stop (fold depth_after (depth_after depth b) bs) ys

  at : (t : Bool) → cond t 0 (suc (run_len stop (depth_after depth b) bs)) ≡ suc (length bs) →
      (run_len stop (depth_after depth b) bs ≡ length bs → run_len stop (depth_after depth b) (bs ++ ys) ≡ length bs + n) →
      cond t 0 (suc (run_len stop (depth_after depth b) (bs ++ ys))) ≡ suc (length bs) + n
  at true h on = absurd (omega (arith, h))
  at false h on = let more = on (omega (arith, h)) in omega (arith, more)

run_ends : (stop : Stop) (b : ℕ) (bs : List ℕ) → stops stop b ≡ true → run_len stop 0 (b ∷ bs) ≡ 0
unfolding run_len
run_ends stop b bs is = rw is refl

-- up to a byte that ends it
run_up_to : (stop : Stop) (xs ys : List ℕ) (b : ℕ) → run_len stop 0 xs ≡ length xs → fold depth_after 0 xs ≡ 0 → stops stop b ≡ true →
    run_len stop 0 (xs ++ b ∷ ys) ≡ length xs
run_up_to stop xs ys b all low is =
    let more = run_through stop 0 xs (b ∷ ys) all in
    let ends : run_len stop (fold depth_after 0 xs) (b ∷ ys) ≡ 0 = ap (λ n. run_len stop n (b ∷ ys)) low ∙ run_ends stop b ys is in
    omega (arith, more, ends)

-- ---- balanced texts

record IsBalanced (text : List ℕ) : Type 0 where
  all : run_len Closing 0 text ≡ length text
  low : fold depth_after 0 text ≡ 0

balanced : (text : List ℕ) → is_balanced text ≡ true → IsBalanced text
balanced text is =
    let parts = and_parts (eqb (run_len Closing 0 text) (length text)) (eqb (depth_of text) 0) is in
    record { all = eqb-true _ _ parts.0; low = eqb-true _ 0 parts.1 }

balanced_append : (xs ys : List ℕ) → IsBalanced xs → IsBalanced ys → IsBalanced (xs ++ ys)
balanced_append xs ys left right =
    let more = run_through Closing 0 xs ys left.all in
    let there : run_len Closing (fold depth_after 0 xs) ys ≡ length ys = ap (λ n. run_len Closing n ys) left.low ∙ right.all in
    record {
      all = omega (arith, more, there, length-append xs ys);
      low = fold-append depth_after 0 xs ys ∙ ap (λ n. fold depth_after n ys) left.low ∙ right.low;
    }

balanced_nothing : IsBalanced []
unfolding run_len
balanced_nothing = record { all = refl; low = refl }

-- a byte that is no brace
balanced_byte : (b : ℕ) → eqb b 123 ≡ false → eqb b 125 ≡ false → IsBalanced (b ∷ [])
unfolding run_len
balanced_byte b not_open not_close = record { all = rw (not_close) refl; low = rw (not_open, not_close) refl }

-- one depth further in, no brace closes the depth
further_in : (depth : ℕ) (s : List ℕ) → run_len Closing depth s ≡ length s →
    (run_len Closing (suc depth) s ≡ length s) × (fold depth_after (suc depth) s ≡ suc (fold depth_after depth s))
unfolding run_len
further_in depth [] all = (refl, refl)
further_in depth (b ∷ bs) all = at (eqb depth 0 && eqb b 125) refl all (further_in (depth_after depth b) bs) where
  at : (t : Bool) → (eqb depth 0 && eqb b 125) ≡ t → cond t 0 (suc (run_len Closing (depth_after depth b) bs)) ≡ suc (length bs) →
      (run_len Closing (depth_after depth b) bs ≡ length bs →
      (run_len Closing (suc (depth_after depth b)) bs ≡ length bs)
      × (fold depth_after (suc (depth_after depth b)) bs ≡ suc (fold depth_after (depth_after depth b) bs))) →
      (run_len Closing (suc depth) (b ∷ bs) ≡ suc (length bs))
      × (fold depth_after (depth_after (suc depth) b) bs ≡ suc (fold depth_after (depth_after depth b) bs))
  at true is h on = absurd (omega (arith, h))
  at false is h on =
      let more = on (omega (arith, h)) in
      let down = deeper depth b is in
      let apart : eqb (suc depth) 0 ≡ false = ne_eqb (suc depth) 0 (omega arith) in
      (rw (apart, down) (ap suc more.0), ap (λ n. fold depth_after n bs) down ∙ more.1)

balanced_braces : (text : List ℕ) → IsBalanced text → IsBalanced (in_braces text)
unfolding run_len
balanced_braces text is =
    let deep = further_in 0 text is.all in
    let low : fold depth_after 1 text ≡ 1 = deep.1 ∙ ap suc is.low in
    let more = run_through Closing 1 text (125 ∷ []) deep.0 in
    let end : run_len Closing (fold depth_after 1 text) (125 ∷ []) ≡ 1 = ap (λ n. run_len Closing n (125 ∷ [])) low in
    let size : run_len Closing 1 (text ++ 125 ∷ []) ≡ length (text ++ 125 ∷ []) = omega (arith, more, end, length-append text (125 ∷ [])) in
    record {
      all = ap suc size;
      low = fold-append depth_after 1 text (125 ∷ []) ∙ ap (λ n. fold depth_after n (125 ∷ [])) low;
    }

-- ---- letters

-- a letter of a part, in either case
abbrev IsLetterOf : PartName → ℕ → Type 0
IsLetterOf part b = to_ascii_lowercase b ≡ letter_of part

letter_test : (part : PartName) (b : ℕ) → IsLetterOf part b → eqb (to_ascii_lowercase b) (letter_of part) ≡ true
letter_test part b is = rw is (elim part as (λ part. eqb (letter_of part) (letter_of part) ≡ true) [ First ↦ refl | Von ↦ refl | Last ↦ refl | Jr ↦ refl ])

-- such a byte passes what its value in either case passes
letter_no_brace : (part : PartName) (b : ℕ) → IsLetterOf part b → (eqb b 123 ≡ false) × (eqb b 125 ≡ false)
letter_no_brace First b is = let t = letter_test First b is in
    (never (λ x. eqb (to_ascii_lowercase x) 102) b 123 t refl, never (λ x. eqb (to_ascii_lowercase x) 102) b 125 t refl)
letter_no_brace Von b is = let t = letter_test Von b is in
    (never (λ x. eqb (to_ascii_lowercase x) 118) b 123 t refl, never (λ x. eqb (to_ascii_lowercase x) 118) b 125 t refl)
letter_no_brace Last b is = let t = letter_test Last b is in
    (never (λ x. eqb (to_ascii_lowercase x) 108) b 123 t refl, never (λ x. eqb (to_ascii_lowercase x) 108) b 125 t refl)
letter_no_brace Jr b is = let t = letter_test Jr b is in
    (never (λ x. eqb (to_ascii_lowercase x) 106) b 123 t refl, never (λ x. eqb (to_ascii_lowercase x) 106) b 125 t refl)

-- a byte whose lower case is a lower-case letter is a letter
letter_alpha : (part : PartName) (b : ℕ) → IsLetterOf part b → is_alpha b ≡ true
letter_alpha part b is = at (ltb b 65) (ltb b 91) refl refl is where
  low : (part : PartName) → (97 ≤ letter_of part) × (letter_of part ≤ 122)
  low First = (omega arith, omega arith)
  low Von = (omega arith, omega arith)
  low Last = (omega arith, omega arith)
  low Jr = (omega arith, omega arith)

  at : (t u : Bool) → ltb b 65 ≡ t → ltb b 91 ≡ u → cond t b (cond u (b + 32) b) ≡ letter_of part → is_alpha b ≡ true
  at true u a c same = let is_low = ltb-true b 65 a in let bound = low part in absurd (omega (arith, is_low, bound.0, same))
  at false true a c same =
      let high = ltb-false b 65 a in
      let less = ltb-true b 91 c in
      let from : leb 65 b ≡ true = le-leb 65 b (omega (arith, high)) in
      let to : leb b 90 ≡ true = le-leb b 90 (omega (arith, less)) in
      rw (from, to) refl
  at false false a c same =
      let bound = low part in
      let from : leb 97 b ≡ true = le-leb 97 b (omega (arith, bound.0, same)) in
      let to : leb b 122 ≡ true = le-leb b 122 (omega (arith, bound.1, same)) in
      let lower : (leb 97 b && leb b 122) ≡ true = rw (from, to) refl in
      or_left ((leb 65 b && leb b 90) || (leb 97 b && leb b 122)) (leb 128 b) (or_right (leb 65 b && leb b 90) (leb 97 b && leb b 122) lower)

named : (part : PartName) (b : ℕ) → IsLetterOf part b → part_named b ≡ Some part
unfolding part_named
named First b is = rw is refl
named Von b is = rw is refl
named Last b is = rw is refl
named Jr b is = rw is refl

-- ---- what follows the letters

-- no letter of a part stands at the beginning of a text without letters
first_is_none : (part : PartName) (letter : ℕ) (after : List ℕ) → IsLetterOf part letter → has_no_letter after ≡ true → is_doubled letter after ≡ false
first_is_none part letter [] is none = refl
first_is_none part letter (c ∷ cs) is none = at (eqb (to_ascii_lowercase c) (to_ascii_lowercase letter)) refl where
  at : (t : Bool) → eqb (to_ascii_lowercase c) (to_ascii_lowercase letter) ≡ t → t ≡ false
  at false same = refl
  at true same =
      let alpha = letter_alpha part c (eqb-true (to_ascii_lowercase c) (to_ascii_lowercase letter) same ∙ is) in
      let here : run_len Letter 0 (c ∷ cs) ≡ 0 = run_ends Letter c cs alpha in
      let all = eqb-true (run_len Letter 0 (c ∷ cs)) (suc (length cs)) none in
      absurd (omega (arith, here, all))

not_doubled : (part : PartName) (letter : ℕ) (between : Option (List ℕ)) (after : List ℕ) → IsLetterOf part letter → has_no_letter after ≡ true →
    is_doubled letter (text_of_between between ++ after) ≡ false
not_doubled part letter None after is none = first_is_none part letter after is none
not_doubled part letter (Some text) after is none =
    rw is (elim part as (λ part. eqb 123 (letter_of part) ≡ false) [ First ↦ refl | Von ↦ refl | Last ↦ refl | Jr ↦ refl ])

record AreRead (part : PartName) (is_full : Bool) (letters tail : List ℕ) : Type 0 where
  letter : ℕ
  rest : List ℕ
  joined : letters ++ tail ≡ letter ∷ rest
  is_letter : IsLetterOf part letter
  doubled : is_doubled letter rest ≡ is_full
  behind : behind_letters letter rest ≡ tail
  level : IsBalanced letters

letters_read : (part : PartName) (is_full : Bool) (letters tail : List ℕ) → in_lower_case letters ≡ letters_of_part part is_full →
    ((letter : ℕ) → IsLetterOf part letter → is_doubled letter tail ≡ false) → AreRead part is_full letters tail
letters_read part false [] tail are single = let none : ⊥ = cc in absurd none
letters_read part false (x ∷ []) tail are single =
    let is : IsLetterOf part x = cc in
    let once = single x is in
    let no_brace = letter_no_brace part x is in
    record { letter = x; rest = tail; joined = refl; is_letter = is; doubled = once; behind = rw once refl; level = balanced_byte x no_brace.0 no_brace.1 }
letters_read part false (x ∷ y ∷ more) tail are single = let none : ⊥ = cc in absurd none
letters_read part true [] tail are single = let none : ⊥ = cc in absurd none
letters_read part true (x ∷ []) tail are single = let none : ⊥ = cc in absurd none
letters_read part true (x ∷ y ∷ []) tail are single =
    let is : IsLetterOf part x = cc in
    let again : IsLetterOf part y = cc in
    let twice : eqb (to_ascii_lowercase y) (to_ascii_lowercase x) ≡ true = eq-eqb _ _ (again ∙ sym is) in
    let one = letter_no_brace part x is in
    let two = letter_no_brace part y again in
    record {
      letter = x;
      rest = y ∷ tail;
      joined = refl;
      is_letter = is;
      doubled = twice;
      behind = rw twice refl;
      level = balanced_append (x ∷ []) (y ∷ []) (balanced_byte x one.0 one.1) (balanced_byte y two.0 two.1);
    }
letters_read part true (x ∷ y ∷ z ∷ more) tail are single = let none : ⊥ = cc in absurd none

-- ---- a piece

between_read : (between : Option (List ℕ)) (after : List ℕ) → can_be_between between after ≡ true →
    (between_of (text_of_between between ++ after) ≡ between) × (behind_between (text_of_between between ++ after) ≡ after)
between_read None after is = let other : eqb (slice_index after 0) 123 ≡ false = not-true _ is in (rw other refl, rw other refl)
between_read (Some text) after is =
    let level = balanced text is in
    let joined = append_assoc text (125 ∷ []) after in
    let size : run_len Closing 0 ((text ++ 125 ∷ []) ++ after) ≡ length text = ap (λ xs. run_len Closing 0 xs) joined
    ∙ run_up_to Closing text after 125 level.all level.low refl in
    let front : take (length text) ((text ++ 125 ∷ []) ++ after) ≡ text = ap (λ xs. take (length text) xs) joined
    ∙ take_at text (125 ∷ after) (length text) refl in
    let back : drop (length text + 1) ((text ++ 125 ∷ []) ++ after) ≡ after =
    drop_at (text ++ 125 ∷ []) after (length text + 1) (length-append text (125 ∷ [])) in
    (rw (size, front) refl, rw size back)

between_level : (between : Option (List ℕ)) (after : List ℕ) → can_be_between between after ≡ true → IsBalanced (text_of_between between)
between_level None after is = balanced_nothing
between_level (Some text) after is = balanced_braces text (balanced text is)

legal_read : (before : List ℕ) (part : PartName) (is_full full : Bool) (between one : Option (List ℕ)) (after two : List ℕ) →
    is_full ≡ full → between ≡ one → after ≡ two → has_no_letter two ≡ true →
    legal_piece (record { before = before; part = part; is_full = is_full; between = between; after = after })
    ≡ Name (record { before = before; part = part; is_full = full; between = one; after = two })
legal_read before part is_full full between one after two a b c none = rw (a, b, c, none) refl

record IsOuter (text : List ℕ) : Type 0 where
  level : IsBalanced text
  no_letter : has_no_letter text ≡ true
  all : run_len Letter 0 text ≡ length text

outer : (text : List ℕ) → is_outer text ≡ true → IsOuter text
outer text is =
    let parts = and_parts (is_balanced text) (has_no_letter text) is in
    record { level = balanced text parts.0; no_letter = parts.1; all = eqb-true _ _ parts.1 }

abbrev piece_text_of : FormatPiece → List ℕ → List ℕ
piece_text_of piece letters = piece.before ++ letters ++ text_of_between piece.between ++ piece.after

record IsPieceRead (piece : FormatPiece) (inside : List ℕ) : Type 0 where
  item : inside_item inside ≡ Name piece
  level : IsBalanced inside

piece_read : (piece : FormatPiece) (letters : List ℕ) → is_piece piece ≡ true → in_lower_case letters ≡ letters_of_part piece.part piece.is_full →
    IsPieceRead piece (piece_text_of piece letters)
unfolding inside_item piece_item
piece_read piece letters is are =
    let parts = and_parts (is_outer piece.before) (can_be_between piece.between piece.after && is_outer piece.after) is in
    let more = and_parts (can_be_between piece.between piece.after) (is_outer piece.after) parts.1 in
    let front = outer piece.before parts.0 in
    let back = outer piece.after more.1 in
    let between = text_of_between piece.between in
    let tail = between ++ piece.after in
    let read = letters_read piece.part piece.is_full letters tail are
    (λ letter is_letter. not_doubled piece.part letter piece.between piece.after is_letter back.no_letter) in
    let strings = between_read piece.between piece.after more.0 in
    let parted : piece_text_of piece letters ≡ piece.before ++ (letters ++ tail) = append_assoc (piece.before ++ letters) between piece.after
    ∙ append_assoc piece.before letters tail in
    let whole : piece_text_of piece letters ≡ piece.before ++ read.letter ∷ read.rest = parted ∙ ap (λ xs. piece.before ++ xs) read.joined in
    let size = run_up_to Letter piece.before read.rest read.letter front.all front.level.low (letter_alpha piece.part read.letter read.is_letter) in
    let first = take_at piece.before (read.letter ∷ read.rest) (length piece.before) refl in
    let second = drop_at piece.before (read.letter ∷ read.rest) (length piece.before) refl in
    let item : inside_item (piece.before ++ read.letter ∷ read.rest) ≡ piece_item piece.before read.letter read.rest piece.part =
    ap (λ n. split_item (take n (piece.before ++ read.letter ∷ read.rest)) (drop n (piece.before ++ read.letter ∷ read.rest))) size
    ∙ ap (λ xs. split_item xs (drop (length piece.before) (piece.before ++ read.letter ∷ read.rest))) first
    ∙ ap (λ xs. split_item piece.before xs) second
    ∙ ap (λ named_part. lettered_item piece.before read.letter read.rest named_part) (named piece.part read.letter read.is_letter) in
    record {
      item = ap inside_item whole ∙ item ∙ legal_read piece.before piece.part _ piece.is_full _ piece.between _ piece.after
          read.doubled (ap between_of read.behind ∙ strings.0) (ap behind_between read.behind ∙ strings.1) back.no_letter;
      level = balanced_append (piece.before ++ letters ++ between) piece.after
          (balanced_append (piece.before ++ letters) between (balanced_append piece.before letters front.level read.level)
          (between_level piece.between piece.after more.0)) back.level;
    }

-- ---- an item

group_read : (inside rest : List ℕ) → IsBalanced inside → items_of (in_braces inside ++ rest) ≡ inside_item inside ∷ items_of rest
group_read inside rest level =
    let joined = append_assoc inside (125 ∷ []) rest in
    let size = run_up_to Closing inside rest 125 level.all level.low refl in
    let back : 125 ∷ rest ≡ drop (run_len Closing 0 (inside ++ 125 ∷ rest)) (inside ++ 125 ∷ rest) =
    rw size (sym (drop_at inside (125 ∷ rest) (length inside) refl)) in
    let front : take (run_len Closing 0 (inside ++ 125 ∷ rest)) (inside ++ 125 ∷ rest) ≡ inside = rw size (take_at inside (125 ∷ rest) (length inside) refl) in
    ap (λ xs. items_of (123 ∷ xs)) joined
    ∙ items_of-group (123 ∷ inside ++ 125 ∷ rest) (inside ++ 125 ∷ rest) (125 ∷ rest) 123 refl refl back (omega arith)
    ∙ ap (λ xs. inside_item xs ∷ items_of rest) front

plain_read : (text : List ℕ) → IsOuter text → inside_item text ≡ Plain text
unfolding inside_item
plain_read text is =
    let first : take (length text) text ≡ text = take_all (length text) text (omega arith) in
    let second : drop (length text) text ≡ [] = drop_all (length text) text (omega arith) in
    ap (λ n. split_item (take n text) (drop n text)) is.all ∙ ap (λ xs. split_item xs (drop (length text) text)) first ∙ ap (λ xs. split_item text xs) second

no_braces : (text : List ℕ) → list_all (λ b. not (is_brace b)) text ≡ true → (run_len Brace 0 text ≡ length text) × (fold depth_after 0 text ≡ 0)
unfolding run_len
no_braces [] none = (refl, refl)
no_braces (b ∷ bs) none =
    let parts = and_parts (not (is_brace b)) (list_all (λ b. not (is_brace b)) bs) none in
    let each = or_parts (eqb b 123) (eqb b 125) (not-true _ parts.0) in
    let more = no_braces bs parts.1 in
    (rw (each.0, each.1) (ap suc more.0), rw (each.0, each.1) more.1)

literal_read : (text rest : List ℕ) → 0 < length text → list_all (λ b. not (is_brace b)) text ≡ true → run_len Brace 0 rest ≡ 0 →
    items_of (text ++ rest) ≡ Literal text ∷ items_of rest
literal_read [] rest some none ends = absurd (omega (arith, some))
literal_read (b ∷ bs) rest some none ends =
    let text = b ∷ bs in
    let parts = and_parts (not (is_brace b)) (list_all (λ b. not (is_brace b)) bs) none in
    let each = or_parts (eqb b 123) (eqb b 125) (not-true _ parts.0) in
    let all = no_braces (b ∷ bs) none in
    let there : run_len Brace (fold depth_after 0 (b ∷ bs)) rest ≡ 0 = ap (λ n. run_len Brace n rest) all.1 ∙ ends in
    let size : run_len Brace 0 ((b ∷ bs) ++ rest) ≡ length (b ∷ bs) = omega (arith, run_through Brace 0 (b ∷ bs) rest all.0, there) in
    items_of-literal ((b ∷ bs) ++ rest) (bs ++ rest) b refl (eqb-false b 123 each.0) (eqb-false b 125 each.1)
    ∙ ap (λ n. Literal (take n ((b ∷ bs) ++ rest)) ∷ items_of (drop n ((b ∷ bs) ++ rest))) size
    ∙ ap (λ xs. Literal xs ∷ items_of (drop (length (b ∷ bs)) ((b ∷ bs) ++ rest))) (take_at (b ∷ bs) rest (length (b ∷ bs)) refl)
    ∙ ap (λ xs. Literal (b ∷ bs) ∷ items_of xs) (drop_at (b ∷ bs) rest (length (b ∷ bs)) refl)

item_read : (item : FormatItem) (text rest : List ℕ) → is_item item ≡ true → IsTextOf item text → (begin_literal (item ∷ []) ≡ true → run_len Brace 0 rest ≡ 0)
    →
    items_of (text ++ rest) ≡ item ∷ items_of rest
item_read (Literal literal) text rest is same ends =
    let parts = and_parts (ltb 0 (length literal)) (list_all (λ b. not (is_brace b)) literal) is in
    ap (λ xs. items_of (xs ++ rest)) same ∙ literal_read literal rest (ltb-true 0 (length literal) parts.0) parts.1 (ends refl)
item_read (Plain inside) text rest is same ends =
    let out = outer inside is in
    ap (λ xs. items_of (xs ++ rest)) same ∙ group_read inside rest out.level ∙ ap (λ item. item ∷ items_of rest) (plain_read inside out)
item_read (Name piece) text rest is same ends =
    let read = piece_read piece same.0 is same.1 in
    ap (λ xs. items_of (xs ++ rest)) same.2 ∙ group_read (piece_text_of piece same.0) rest read.level ∙ ap (λ item. item ∷ items_of rest) read.item
item_read Illegal text rest is same ends = absurd same

-- ---- items

-- items that begin with no literal begin with a brace, or there is none
run_starts : (items : List FormatItem) (format : List ℕ) → begin_literal items ≡ false → IsFormatOf items format → run_len Brace 0 format ≡ 0
unfolding run_len IsFormatOf
run_starts [] format other is = rw is refl
run_starts (Literal text ∷ items) format other is = absurd (true≢false other)
run_starts (Plain text ∷ items) format other is = rw (is.4, is.2) refl
run_starts (Name piece ∷ items) format other is = rw (is.4, is.2.2) refl
run_starts (Illegal ∷ items) format other is = absurd is.2

pub written_items : (items : List FormatItem) (format : List ℕ) → are_items items ≡ true → IsFormatOf items format → items_of format ≡ items
unfolding are_items IsFormatOf
written_items [] format are is = items_of-nil format (ap length is)
written_items (item ∷ items) format are is =
    let parts = and_parts (is_item item) (not (begin_literal (item ∷ []) && begin_literal items) && are_items items) are in
    let more = and_parts (not (begin_literal (item ∷ []) && begin_literal items)) (are_items items) parts.1 in
    let apart : (begin_literal (item ∷ []) && begin_literal items) ≡ false = not-true _ more.0 in
    let ends : begin_literal (item ∷ []) ≡ true → run_len Brace 0 is.1 ≡ 0 =
    λ literal. run_starts items is.1 (ap (λ t. t && begin_literal items) (sym literal) ∙ apart) is.3 in
    ap items_of is.4 ∙ item_read item is.0 is.1 parts.0 is.2 ends ∙ ap (λ xs. item ∷ xs) (written_items items is.1 more.1 is.3)

item_legal : (item : FormatItem) → is_item item ≡ true → is_illegal item ≡ false
item_legal (Literal text) is = refl
item_legal (Plain text) is = refl
item_legal (Name piece) is = refl
item_legal Illegal is = absurd (true≢false (sym is))

items_legal : (items : List FormatItem) → are_items items ≡ true → list_any is_illegal items ≡ false
unfolding are_items
items_legal [] are = refl
items_legal (item ∷ items) are =
    let parts = and_parts (is_item item) (not (begin_literal (item ∷ []) && begin_literal items) && are_items items) are in
    let more = and_parts (not (begin_literal (item ∷ []) && begin_literal items)) (are_items items) parts.1 in
    rw (item_legal item parts.0) (items_legal items more.1)

pub written_legal : (items : List FormatItem) (format : List ℕ) → are_items items ≡ true → IsFormatOf items format → is_legal format ≡ true
written_legal items format are is =
    ap (λ xs. not (list_any is_illegal xs)) (written_items items format are is) ∙ ap not (items_legal items are)

pub ruleset written_laws = (written_items, written_legal)
