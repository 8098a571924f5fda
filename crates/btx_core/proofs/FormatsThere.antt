-- Each legal format is written as its items say: so every string has divisions, and only one of each kind.
use Rattle.std.proofs.Common.{◌≡◌, ℕ, zero, suc, ◌+◌, ◌-◌, ◌<◌, ◌==◌, ◌⊎◌, inl, inr, Bool, true, false, cond, not, ◌&&◌, ◌||◌, List, [], ◌∷◌, ◌++◌, length}
use Rattle.std.proofs.Common.{take, drop, fold, Option, None, Some, if◌then◌else◌, sym, ap, ap₂, subst, ◌∙◌, refl, arith, true≢false, append_assoc, append-nil}
use Rattle.std.proofs.Common.{nat_lt}
use Rattle.std.specs.List.{list_all, list_any}
use Rattle.std.specs.Char.{to_ascii_lowercase}
use Rattle.std.specs.Option.{option_map_or}
use Rattle.std.proofs.lemmas.List.{take-append-drop, drop-drop, length-drop, take_all}
use Rattle.std.proofs.lemmas.List.Sums.{fold-append}
use Rattle.std.proofs.lemmas.Bool.{eqb-true, eq-eqb, lt-ltb}
use Rattle.btx_text.specs.language.Elements.{depth_after, depth_of}
use Rattle.btx_bib.specs.language.Grammar.ByteSets.{begins}
use Rattle.btx_names.specs.declared.format_items.PartName.{PartName}
use Rattle.btx_names.specs.declared.runs.Stop.{Stop}
use Rattle.btx_names.specs.declared.runs.Stop.TheVariants.{Letter, Closing, Brace}
use Rattle.btx_names.specs.language.Runs.{stops, run_len}
use Rattle.btx_names.specs.language.Formats.{FormatPiece, FormatItem, Literal, Name, Illegal, part_named, is_doubled, between_of, behind_between, piece_item}
use Rattle.btx_names.specs.language.Formats.{split_item, inside_item, group_item, item_at, item_rest, items_from, items_of, is_illegal}
use Rattle.btx_names.specs.laws.Formats.{has_no_letter}
use Rattle.btx_names.specs.laws.FormatTexts.{in_braces, in_lower_case, is_brace, letter_of, letters_of_part, text_of_between}
use Rattle.btx_names.specs.laws.WrittenFormats.{are_items, begin_literal, can_be_between, is_balanced, is_item, is_outer, IsFormatOf, IsTextOf}
use Rattle.btx_names.proofs.ItemLemmas.{closes, deeper, letter_keeps, named}
use Rattle.btx_names.proofs.RunLemmas.{run_len-le}
use Rattle.btx_core.specs.language.Names.{AreDivisions, IsUpTo}
use Rattle.btx_core.proofs.ComputedLemmas.{computed}
use Rattle.btx_core.proofs.DivisionsThere.{WrittenSo, are_divisions, run_front}

-- ---- balanced texts

-- no `}` closes more than was opened, and all is closed
record IsBalanced (text : List ℕ) : Type 0 where
  none : (before behind : List ℕ) (b : ℕ) → text ≡ before ++ b ∷ behind → depth_of before ≡ 0 → stops Closing b ≡ false
  level : depth_of text ≡ 0

depth_join : (a b : List ℕ) → depth_of (a ++ b) ≡ fold depth_after (depth_of a) b
depth_join a b = fold-append depth_after 0 a b

-- after a text at depth 0 the depth is that of the rest
behind_level : (a b : List ℕ) → depth_of a ≡ 0 → depth_of (a ++ b) ≡ depth_of b
behind_level a b z = depth_join a b ∙ ap (λ d. fold depth_after d b) z

balanced_front : (a b : List ℕ) → depth_of a ≡ 0 → IsBalanced (a ++ b) → IsBalanced a
balanced_front a b z h = record {
  none = λ before behind c e d. h.none before (behind ++ b) c (ap (λ l. l ++ b) e ∙ append_assoc before (c ∷ behind) b) d;
  level = z;
}

balanced_rest : (a b : List ℕ) → depth_of a ≡ 0 → IsBalanced (a ++ b) → IsBalanced b
balanced_rest a b z h = record {
  none = λ before behind c e d. h.none (a ++ before) behind c (ap (λ l. a ++ l) e ∙ sym (append_assoc a before (c ∷ behind))) (behind_level a before z ∙ d);
  level = sym (behind_level a b z) ∙ h.level;
}

full_run : (stop : Stop) (d : ℕ) (text : List ℕ)
    → ((before behind : List ℕ) (b : ℕ) → text ≡ before ++ b ∷ behind → fold depth_after d before ≡ 0 → stops stop b ≡ false)
    → run_len stop d text ≡ length text
unfolding run_len
full_run stop d [] h = refl
full_run stop d (x ∷ xs) h = by (d == 0) (stops stop x) refl refl
    (full_run stop (depth_after d x) xs (λ before behind b e z. h (x ∷ before) behind b (ap (λ l. x ∷ l) e) z)) where
      by : (z t : Bool) → (d == 0) ≡ z → stops stop x ≡ t → run_len stop (depth_after d x) xs ≡ length xs
          → (if z && t then 0 else suc (run_len stop (depth_after d x) xs)) ≡ suc (length xs)
      by true true k l more = absurd (true≢false (sym l ∙ h [] xs x refl (eqb-true d 0 k)))
      by true false k l more = ap suc more
      by false t k l more = ap suc more

eq_test : (a b : ℕ) → a ≡ b → (a == b) ≡ true
eq_test a b e = eq-eqb a b e

balanced_test : (text : List ℕ) → IsBalanced text → is_balanced text ≡ true
balanced_test text h = ap₂ (λ p q. p && q) (eq_test _ _ (full_run Closing 0 text h.none)) (eq_test _ _ h.level)

no_letter_test : (text : List ℕ) → ((before behind : List ℕ) (b : ℕ) → text ≡ before ++ b ∷ behind → depth_of before ≡ 0 → stops Letter b ≡ false)
    → has_no_letter text ≡ true
no_letter_test text h = eq_test _ _ (full_run Letter 0 text h)

outer_test : (text : List ℕ) → IsBalanced text → has_no_letter text ≡ true → is_outer text ≡ true
outer_test text h k = ap₂ (λ p q. p && q) (balanced_test text h) k

-- what a front leaves, if it leaves something
left_over : (test : ℕ → Bool) (front rest : List ℕ) → IsUpTo test front rest → 0 < length rest → (depth_of front ≡ 0) × (b : ℕ) × (bs : List ℕ)
    × (rest ≡ b ∷ bs) × (test b ≡ true)
left_over test front [] h some = absurd (omega (arith, some))
left_over test front (b ∷ bs) h some = by h.ends where
  by : (b ∷ bs ≡ []) ⊎ ((depth_of front ≡ 0) × (test b ≡ true)) → (depth_of front ≡ 0) × (c : ℕ) × (cs : List ℕ) × (b ∷ bs ≡ c ∷ cs) × (test c ≡ true)
  by (inl e) = absurd (omega (arith, ap length e))
  by (inr k) = (k.0, b, bs, refl, k.1)

-- a balanced text goes up to its own end
closing_front : (text : List ℕ) → IsBalanced text → take (run_len Closing 0 text) text ≡ text
closing_front text h = ap (λ n. take n text) (full_run Closing 0 text h.none) ∙ take_all (length text) text (omega arith)

-- ---- a letter

-- a letter that names a part keeps the depth
keeps : (part : PartName) (b depth : ℕ) → to_ascii_lowercase b ≡ letter_of part → depth_after depth b ≡ depth
keeps part b depth e = letter_keeps part b depth (eq-eqb _ _ e)

-- ---- what comes after the letters of a piece

-- a balanced text after letters: perhaps a braced string, and the rest
record IsTail (behind : List ℕ) (between : Option (List ℕ)) (after : List ℕ) : Type 0 where
  joined : behind ≡ text_of_between between ++ after
  can : can_be_between between after ≡ true
  rest : IsBalanced after

-- one depth further in
further : (depth : ℕ) (s : List ℕ) → run_len Closing depth s ≡ length s → fold depth_after (suc depth) s ≡ suc (fold depth_after depth s)
unfolding run_len
further depth [] all = refl
further depth (b ∷ bs) all = at (depth == 0 && b == 125) refl all (further (depth_after depth b) bs) where
  at : (t : Bool) → (depth == 0 && b == 125) ≡ t → cond t 0 (suc (run_len Closing (depth_after depth b) bs)) ≡ suc (length bs) →
      (run_len Closing (depth_after depth b) bs ≡ length bs → fold depth_after (suc (depth_after depth b)) bs ≡ suc (fold depth_after (depth_after depth b) bs))
      →
      fold depth_after (depth_after (suc depth) b) bs ≡ suc (fold depth_after (depth_after depth b) bs)
  at true is h on = absurd (omega (arith, h))
  at false is h on = ap (λ n. fold depth_after n bs) (deeper depth b is) ∙ on (omega (arith, h))

braces_level : (text : List ℕ) → IsBalanced text → depth_of (123 ∷ (text ++ 125 ∷ [])) ≡ 0
braces_level text h =
    let deep : fold depth_after 1 text ≡ 1 = further 0 text (full_run Closing 0 text h.none) ∙ ap suc h.level in
    fold-append depth_after 1 text (125 ∷ []) ∙ ap (λ n. fold depth_after n (125 ∷ [])) deep

-- a `{` that begins a balanced text is closed in it
record IsOpened (r : List ℕ) : Type 0 where
  rest : List ℕ
  at : drop (run_len Closing 0 r) r ≡ 125 ∷ rest
  inside : IsBalanced (take (run_len Closing 0 r) r)
  behind : IsBalanced rest

opened_closes : (r : List ℕ) → IsBalanced (123 ∷ r) → IsOpened r
opened_closes r h =
    let n = run_len Closing 0 r in
    let front = run_front Closing r in
    let shorter : n < length r = closes 0 r h.level in
    let len = length-drop n r in
    let k = left_over (stops Closing) (take n r) (drop n r) front (omega (arith, len, shorter)) in
    let closing : k.1 ≡ 125 = eqb-true k.1 125 k.4 in
    let rest : drop n r ≡ 125 ∷ k.2 = k.3 ∙ ap (λ c. c ∷ k.2) closing in
    let inside : IsBalanced (take n r) = record { none = λ before behind b e d. front.none before behind b e d; level = k.0 } in
    let whole : 123 ∷ r ≡ 123 ∷ (take n r ++ 125 ∷ []) ++ k.2 =
    ap (λ l. 123 ∷ l) (sym (take-append-drop n r) ∙ ap (λ l. take n r ++ l) rest ∙ sym (append_assoc (take n r) (125 ∷ []) k.2)) in
    record {
      rest = k.2;
      at = rest;
      inside = inside;
      behind = balanced_rest (123 ∷ (take n r ++ 125 ∷ [])) k.2 (braces_level (take n r) inside)
          (subst IsBalanced whole h);
    }

tail_by : (b : ℕ) (bs : List ℕ) (t : Bool) → (b == 123) ≡ t → IsBalanced (b ∷ bs)
    → IsTail (b ∷ bs) (if t then Some (take (run_len Closing 0 bs) bs) else None) (if t then drop (run_len Closing 0 bs + 1) bs else b ∷ bs)
tail_by b bs false e h = record { joined = refl; can = ap not e; rest = h }
tail_by b bs true e h =
    let brace : b ≡ 123 = eqb-true b 123 e in
    let k = opened_closes bs (subst (λ c. IsBalanced (c ∷ bs)) brace h) in
    let n = run_len Closing 0 bs in
    let rest : k.rest ≡ drop (n + 1) bs = ap (drop 1) (sym k.at) ∙ drop-drop 1 n bs in
    record {
      joined = ap (λ c. c ∷ bs) brace ∙ ap (λ l. 123 ∷ l) (sym (take-append-drop n bs) ∙ ap (λ l. take n bs ++ l) (k.at ∙ ap (λ l. 125 ∷ l) rest)
          ∙ sym (append_assoc (take n bs) (125 ∷ []) (drop (n + 1) bs)));
      can = balanced_test (take n bs) k.inside;
      rest = subst IsBalanced rest k.behind;
    }

tail_of : (behind : List ℕ) → IsBalanced behind → IsTail behind (between_of behind) (behind_between behind)
tail_of [] h = record { joined = refl; can = refl; rest = h }
tail_of (b ∷ bs) h = tail_by b bs (b == 123) refl h

-- ---- the letters of a piece

record HasLetters (part : PartName) (letter : ℕ) (rest : List ℕ) (doubled : Bool) (behind : List ℕ) : Type 0 where
  letters : List ℕ
  lower : in_lower_case letters ≡ letters_of_part part doubled
  joined : letter ∷ rest ≡ letters ++ behind
  level : depth_of letters ≡ 0

letters_by : (part : PartName) (letter second : ℕ) (rest : List ℕ) → to_ascii_lowercase letter ≡ letter_of part → (t : Bool)
    → (to_ascii_lowercase second == to_ascii_lowercase letter) ≡ t
    → HasLetters part letter (second ∷ rest) t (if t then rest else second ∷ rest)
letters_by part letter second rest is false e = record { letters = letter ∷ []; lower = ap (λ c. c ∷ []) is; joined = refl; level = keeps part letter 0 is }
letters_by part letter second rest is true e =
    let also : to_ascii_lowercase second ≡ letter_of part = eqb-true _ _ e ∙ is in
    record {
      letters = letter ∷ second ∷ [];
      lower = ap₂ (λ c d. c ∷ d ∷ []) is also;
      joined = refl;
      level = ap (λ d. depth_after d second) (keeps part letter 0 is) ∙ keeps part second 0 also;
    }

letters_there : (part : PartName) (letter : ℕ) (rest : List ℕ) → to_ascii_lowercase letter ≡ letter_of part
    → HasLetters part letter rest (is_doubled letter rest) (if is_doubled letter rest then drop 1 rest else rest)
letters_there part letter [] is = record { letters = letter ∷ []; lower = ap (λ c. c ∷ []) is; joined = refl; level = keeps part letter 0 is }
letters_there part letter (second ∷ rest) is = letters_by part letter second rest is (to_ascii_lowercase second == to_ascii_lowercase letter) refl

-- ---- what stands in a group

-- an item that isn't illegal is one that can be written, and a text of it
abbrev There : FormatItem → List ℕ → Type 0
There item text = is_illegal item ≡ false → (is_item item ≡ true) × IsTextOf item text

illegal_no : (text : List ℕ) → There Illegal text
illegal_no text h = absurd (true≢false h)

piece_by : (before letters behind : List ℕ) (part : PartName) (full : Bool) (text : List ℕ) → IsBalanced before → has_no_letter before ≡ true
    → in_lower_case letters ≡ letters_of_part part full
    → text ≡ before ++ (letters ++ behind) → IsTail behind (between_of behind) (behind_between behind) → (t : Bool)
    → (run_len Letter 0 (behind_between behind) == length (behind_between behind)) ≡ t
    → There (if t then Name (record { before = before; part = part; is_full = full; between = between_of behind; after = behind_between behind }) else Illegal)
    (in_braces text)
piece_by before letters behind part full text h nl low e k false is = illegal_no (in_braces text)
piece_by before letters behind part full text h nl low e k true is = λ legal. (
  ap₂ (λ p q. p && q) (outer_test before h nl) (ap₂ (λ p q. p && q) k.can (outer_test (behind_between behind) k.rest is)),
  (
    letters,
    low,
    ap in_braces (e ∙ ap (λ l. before ++ (letters ++ l)) k.joined
        ∙ sym (append_assoc before letters (text_of_between (between_of behind) ++ behind_between behind))
        ∙ sym (append_assoc (before ++ letters) (text_of_between (between_of behind)) (behind_between behind))),
  ),
)

piece_there : (before : List ℕ) (letter : ℕ) (rest : List ℕ) (part : PartName) → part_named letter ≡ Some part → IsBalanced (before ++ letter ∷ rest)
    → depth_of before ≡ 0 → has_no_letter before ≡ true
    → There (piece_item before letter rest part) (in_braces (before ++ letter ∷ rest))
unfolding piece_item
piece_there before letter rest part is h z nl =
    let l = letters_there part letter rest (named letter part is) in
    let behind = if is_doubled letter rest then drop 1 rest else rest in
    let balanced : IsBalanced behind = balanced_rest l.letters behind l.level (subst IsBalanced l.joined (balanced_rest before (letter ∷ rest) z h)) in
    piece_by before l.letters behind part (is_doubled letter rest) (before ++ letter ∷ rest) (balanced_front before (letter ∷ rest) z h) nl l.lower
    (ap (λ m. before ++ m) l.joined)
    (tail_of behind balanced) (run_len Letter 0 (behind_between behind) == length (behind_between behind)) refl

split_by : (before : List ℕ) (letter : ℕ) (rest : List ℕ) (o : Option PartName) → part_named letter ≡ o → IsBalanced (before ++ letter ∷ rest)
    → depth_of before ≡ 0 → has_no_letter before ≡ true
    → There (option_map_or (piece_item before letter rest) o Illegal) (in_braces (before ++ letter ∷ rest))
split_by before letter rest None e h z nl = illegal_no (in_braces (before ++ letter ∷ rest))
split_by before letter rest (Some part) e h z nl = piece_there before letter rest part e h z nl

split_there : (before rest : List ℕ) → IsBalanced (before ++ rest) → IsUpTo (stops Letter) before rest
    → There (split_item before rest) (in_braces (before ++ rest))
split_there before [] h f = λ legal.
    let same : before ++ [] ≡ before = append-nil before in
    (outer_test before (subst IsBalanced same h) (no_letter_test before f.none), ap in_braces same)
split_there before (letter ∷ rest) h f =
    let k = left_over (stops Letter) before (letter ∷ rest) f (omega arith) in
    split_by before letter rest (part_named letter) refl h k.0 (no_letter_test before f.none)

inside_there : (inside : List ℕ) → IsBalanced inside → There (inside_item inside) (in_braces inside)
unfolding inside_item
inside_there inside h =
    let n = run_len Letter 0 inside in
    subst (λ l. There (split_item (take n inside) (drop n inside)) (in_braces l)) (take-append-drop n inside)
    (split_there (take n inside) (drop n inside) (subst IsBalanced (sym (take-append-drop n inside)) h) (run_front Letter inside))

one_further : (n : ℕ) (l : List ℕ) (x : ℕ) (xs : List ℕ) → drop n l ≡ x ∷ xs → take n l ++ x ∷ [] ≡ take (suc n) l
one_further zero [] x xs e = absurd (omega (arith, ap length e))
one_further zero (y ∷ l) x xs e = let same : x ≡ y = cc in ap (λ c. c ∷ []) same
one_further (suc n) [] x xs e = absurd (omega (arith, ap length e))
one_further (suc n) (y ∷ l) x xs e = ap (λ m. y ∷ m) (one_further n l x xs e)

group_by : (rest : List ℕ) (t : Bool) → (run_len Closing 0 rest == length rest) ≡ t
    → There (if t then Illegal else inside_item (take (run_len Closing 0 rest) rest)) (123 ∷ take (suc (run_len Closing 0 rest)) rest)
group_by rest true e = illegal_no (123 ∷ take (suc (run_len Closing 0 rest)) rest)
group_by rest false e =
    let n = run_len Closing 0 rest in
    let front = run_front Closing rest in
    let len = length-drop n rest in
    by (drop n rest) refl len where
      by : (l : List ℕ) → drop (run_len Closing 0 rest) rest ≡ l → length (drop (run_len Closing 0 rest) rest) ≡ length rest - run_len Closing 0 rest
          → There (inside_item (take (run_len Closing 0 rest) rest)) (123 ∷ take (suc (run_len Closing 0 rest)) rest)
      by [] m len = absurd (true≢false (sym (eq-eqb _ _ (all_of rest m)) ∙ e)) where
        all_of : (rest : List ℕ) → drop (run_len Closing 0 rest) rest ≡ [] → run_len Closing 0 rest ≡ length rest
        all_of rest m = let a = length-drop (run_len Closing 0 rest) rest in let b = ap length m in let c = run_len-le Closing 0 rest in omega (arith, a, b, c)
      by (x ∷ xs) m len =
          let n = run_len Closing 0 rest in
          let k = left_over (stops Closing) (take n rest) (drop n rest) (run_front Closing rest) (subst (λ (l : List ℕ). 0 < length l) (sym m) (omega arith)) in
          let closing : k.1 ≡ 125 = eqb-true k.1 125 k.4 in
          let inside : IsBalanced (take n rest) = record { none = λ before behind b e d. (run_front Closing rest).none before behind b e d; level = k.0 } in
          let written : take n rest ++ 125 ∷ [] ≡ take (suc n) rest = ap (λ c. take n rest ++ c ∷ []) (sym closing) ∙ one_further n rest k.1 k.2 k.3 in
          subst (λ l. There (inside_item (take n rest)) (123 ∷ l)) written (inside_there (take n rest) inside)

group_there : (rest : List ℕ) → There (group_item rest) (123 ∷ take (suc (run_len Closing 0 rest)) rest)
unfolding group_item
group_there rest = group_by rest (run_len Closing 0 rest == length rest) refl

-- ---- literals

no_braces : (text : List ℕ) → ((before behind : List ℕ) (b : ℕ) → text ≡ before ++ b ∷ behind → depth_of before ≡ 0 → stops Brace b ≡ false)
    → list_all (λ b. not (is_brace b)) text ≡ true
no_braces [] h = refl
no_braces (x ∷ xs) h =
    let first : stops Brace x ≡ false = h [] xs x refl refl in
    let level : depth_after 0 x ≡ 0 = flat x first in
    ap₂ (λ p q. p && q) (ap not first) (no_braces xs
    (λ before behind b e z. h (x ∷ before) behind b (ap (λ l. x ∷ l) e) (ap (λ d. fold depth_after d before) level ∙ z))) where
      flat : (x : ℕ) → (x == 123 || x == 125) ≡ false → depth_after 0 x ≡ 0
      flat x e = by (x == 123) (x == 125) e where
        by : (s t : Bool) → (s || t) ≡ false → (if s then 0 + 1 else if t then 0 - 1 else 0) ≡ 0
        by false false e = refl
        by true t e = absurd (true≢false e)
        by false true e = absurd (true≢false e)

-- an item of a group is no literal
group_no_literal : (rest : List ℕ) (items : List FormatItem) → begin_literal (group_item rest ∷ items) ≡ false
unfolding group_item inside_item piece_item
group_no_literal rest items = by (run_len Closing 0 rest == length rest) where
  piece : (t : Bool) (p : FormatPiece) → begin_literal ((if t then Name p else Illegal) ∷ items) ≡ false
  piece true p = refl
  piece false p = refl

  named_ : (o : Option PartName) (before : List ℕ) (letter : ℕ) (rest : List ℕ)
      → begin_literal (option_map_or (piece_item before letter rest) o Illegal ∷ items) ≡ false
  named_ None before letter rest = refl
  named_ (Some part) before letter rest = piece _ _

  split : (before rest : List ℕ) → begin_literal (split_item before rest ∷ items) ≡ false
  split before [] = refl
  split before (letter ∷ rest) = named_ (part_named letter) before letter rest

  by : (t : Bool) → begin_literal ((if t then Illegal else inside_item (take (run_len Closing 0 rest) rest)) ∷ items) ≡ false
  by true = refl
  by false = split _ _

-- no literal begins where a brace does, or nothing
no_literal : (skip : ℕ) (text : List ℕ) → (drop skip text ≡ []) ⊎ (begins (stops Brace) (drop skip text) ≡ true) → begin_literal (items_from skip text) ≡ false
unfolding items_from
no_literal zero [] h = refl
no_literal (suc skip) [] h = refl
no_literal (suc skip) (b ∷ bs) h = no_literal skip bs h
no_literal zero (b ∷ bs) (inl e) = absurd (omega (arith, ap length e))
no_literal zero (b ∷ bs) (inr e) = by (b == 123) (b == 125) e where
  by : (s t : Bool) → (s || t) ≡ true
      → begin_literal ((if s then group_item bs else if t then Illegal else Literal (take (run_len Brace 0 (b ∷ bs)) (b ∷ bs)))
      ∷ items_from (item_rest b bs) bs) ≡ false
  by true t e = group_no_literal bs (items_from (item_rest b bs) bs)
  by false true e = refl
  by false false e = absurd (true≢false (sym e))

-- ---- items

abbrev Follows : FormatItem → ℕ → List ℕ → Type 0
Follows item n bs = not (begin_literal (item ∷ []) && begin_literal (items_from n bs)) ≡ true

abbrev ItemThere : ℕ → List ℕ → FormatItem → ℕ → Type 0
ItemThere b bs item n = is_illegal item ≡ false → (is_item item ≡ true) × IsTextOf item (b ∷ take n bs) × Follows item n bs

not_literal : (item : FormatItem) (n : ℕ) (bs : List ℕ) → begin_literal (item ∷ []) ≡ false → Follows item n bs
not_literal item n bs e = ap (λ t. not (t && begin_literal (items_from n bs))) e

literal_size : (b : ℕ) (bs : List ℕ) → stops Brace b ≡ false → run_len Brace 0 (b ∷ bs) ≡ suc (run_len Brace (depth_after 0 b) bs)
unfolding run_len
literal_size b bs e = ap (λ (t : Bool). if t then 0 else suc (run_len Brace (depth_after 0 b) bs)) e

literal_there : (b : ℕ) (bs : List ℕ) → stops Brace b ≡ false → ItemThere b bs (Literal (take (run_len Brace 0 (b ∷ bs)) (b ∷ bs)))
    (run_len Brace 0 (b ∷ bs) - 1)
literal_there b bs e = λ legal.
    let front = run_front Brace (b ∷ bs) in
    let m = run_len Brace (depth_after 0 b) bs in
    let size : run_len Brace 0 (b ∷ bs) ≡ suc m = literal_size b bs e in
    let less : run_len Brace 0 (b ∷ bs) - 1 ≡ m = let z : suc m - 1 ≡ m = omega arith in ap (λ n. n - 1) size ∙ z in
    let text : take (run_len Brace 0 (b ∷ bs)) (b ∷ bs) ≡ b ∷ take (run_len Brace 0 (b ∷ bs) - 1) bs = ap (λ n. take n (b ∷ bs)) size
    ∙ ap (λ n. b ∷ take n bs) (sym less) in
    let some : nat_lt 0 (length (take (run_len Brace 0 (b ∷ bs)) (b ∷ bs))) ≡ true = ap (λ l. nat_lt 0 (length l)) text ∙ lt-ltb 0 _ (omega arith) in
    let ends : (drop (run_len Brace 0 (b ∷ bs) - 1) bs ≡ []) ⊎ (begins (stops Brace) (drop (run_len Brace 0 (b ∷ bs) - 1) bs) ≡ true) =
    subst (λ n. (drop n bs ≡ []) ⊎ (begins (stops Brace) (drop n bs) ≡ true)) (sym less)
    (end_of m (subst (λ n. (drop n (b ∷ bs) ≡ []) ⊎ ((depth_of (take n (b ∷ bs)) ≡ 0) × (begins (stops Brace) (drop n (b ∷ bs)) ≡ true))) size
    front.ends)) in (
      ap₂ (λ p q. p && q) some (no_braces _ front.none),
      sym text,
      ap (λ t. not (true && t)) (no_literal (run_len Brace 0 (b ∷ bs) - 1) bs ends),
    ) where
      end_of : (m : ℕ) → (drop (suc m) (b ∷ bs) ≡ []) ⊎ ((depth_of (take (suc m) (b ∷ bs)) ≡ 0) × (begins (stops Brace) (drop (suc m) (b ∷ bs)) ≡ true))
          → (drop m bs ≡ []) ⊎ (begins (stops Brace) (drop m bs) ≡ true)
      end_of m (inl h) = inl h
      end_of m (inr h) = inr h.1

item_there : (b : ℕ) (bs : List ℕ) → ItemThere b bs (item_at b bs) (item_rest b bs)
item_there b bs = by (b == 123) (b == 125) refl refl where
  by : (s t : Bool) → (b == 123) ≡ s → (b == 125) ≡ t
      → ItemThere b bs (if s then group_item bs else if t then Illegal else Literal (take (run_len Brace 0 (b ∷ bs)) (b ∷ bs)))
      (if s then suc (run_len Closing 0 bs) else if t then 0 else run_len Brace 0 (b ∷ bs) - 1)
  by true t e k = λ legal.
      let g = group_there bs legal in
      let open_ : 123 ≡ b = sym (eqb-true b 123 e) in (
        g.0,
        subst (λ c. IsTextOf (group_item bs) (c ∷ take (suc (run_len Closing 0 bs)) bs)) open_ g.1,
        not_literal (group_item bs) (suc (run_len Closing 0 bs)) bs (group_no_literal bs []),
      )
  by false true e k = λ legal. absurd (true≢false legal)
  by false false e k = literal_there b bs (ap₂ (λ p q. p || q) e k)

or_parts : (a b : Bool) → (a || b) ≡ false → (a ≡ false) × (b ≡ false)
or_parts false false h = (refl, refl)
or_parts true b h = absurd (true≢false h)
or_parts false true h = absurd (true≢false h)

all_there : (skip : ℕ) (text : List ℕ) → list_any is_illegal (items_from skip text) ≡ false → (are_items (items_from skip text) ≡ true)
    × IsFormatOf (items_from skip text) (drop skip text)
unfolding items_from are_items IsFormatOf
all_there zero [] h = (refl, refl)
all_there (suc skip) [] h = (refl, refl)
all_there (suc skip) (b ∷ bs) h = all_there skip bs h
all_there zero (b ∷ bs) h =
    let p = or_parts (is_illegal (item_at b bs)) (list_any is_illegal (items_from (item_rest b bs) bs)) h in
    let first = item_there b bs p.0 in
    let more = all_there (item_rest b bs) bs p.1 in (
      ap₂ (λ x y. x && y) first.0 (ap₂ (λ x y. x && y) first.2 more.0),
      (b ∷ take (item_rest b bs) bs, drop (item_rest b bs) bs, first.1, more.1, ap (λ l. b ∷ l) (sym (take-append-drop (item_rest b bs) bs))),
    )

not_true : (b : Bool) → not b ≡ true → b ≡ false
not_true false h = refl
not_true true h = absurd (true≢false (sym h))

written_so : WrittenSo
unfolding items_of
written_so format legal = all_there 0 format (not_true _ legal)

-- every string is divided, by the computed divisions
pub divided : AreDivisions computed
divided = are_divisions written_so
