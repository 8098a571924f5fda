-- Names and tokens are the pieces between what separates them.
use Rattle.std.proofs.Common.{◌≡◌, ℕ, zero, suc, ◌+◌, ◌-◌, ◌<◌, Bool, true, false, cond, eqb, ltb, ◌&&◌, List, [], ◌∷◌, ◌++◌, length, take, map, refl, sym, ◌∙◌}
use Rattle.std.proofs.Common.{ap, arith, append_assoc, length-append}
use Rattle.std.proofs.lemmas.Bool.{eqb-true, and_parts, and_right, lt-ltb}
use Rattle.std.proofs.lemmas.List.{take_at, drop_at, append-nil, get_or_at}
use Rattle.std.specs.Prelude.{filter, slice_range}
use Rattle.std.specs.List.{range_with_len, onto_first}
use Rattle.btx_text.specs.language.Elements.{depth_after, depth_of}
use Rattle.btx_names.specs.declared.runs.Stop.TheVariants.{Break}
use Rattle.btx_names.specs.language.Runs.{is_break, run_len}
use Rattle.btx_names.specs.language.Tokens.{NameToken, tokens_from, tokens_of}
use Rattle.btx_names.specs.laws.Tokens.{breaks_at, breaks_of, is_some_text}
use Rattle.btx_names.specs.language.NameLists.{is_separator, pieces_from, names_of}
use Rattle.btx_names.specs.laws.NameLists.{separators_of}
use Rattle.btx_names.specs.laws.Gaps.{pieces_between, and_word_range, byte_gap}
use Rattle.btx_names.proofs.SplitLemmas.{break_keeps}
use Rattle.btx_names.proofs.SeparatorLemmas.{IsInk, separator_is_ink, separator_is_white, ink_separates_nothing, white_keeps, places_from, depth_push}
use Rattle.btx_names.proofs.SeparatorLemmas.{filter_places}

-- ---- a piece so far, in front of the others

prepend : List ℕ → List (List ℕ) → List (List ℕ)
prepend cur [] = cur ∷ []
prepend cur (piece ∷ pieces) = (cur ++ piece) ∷ pieces

prepend_front : (cur : List ℕ) (b : ℕ) (pieces : List (List ℕ)) → prepend (cur ++ b ∷ []) pieces ≡ prepend cur (onto_first b pieces)
unfolding prepend
prepend_front cur b [] = refl
prepend_front cur b (piece ∷ pieces) = ap (λ xs. xs ∷ pieces) (append_assoc cur (b ∷ []) piece)

prepend_nothing : (pieces : List (List ℕ)) → 0 < length pieces → prepend [] pieces ≡ pieces
unfolding prepend
prepend_nothing [] some = absurd (omega arith)
prepend_nothing (piece ∷ pieces) some = refl

pieces_some : (skip depth : ℕ) (s : List ℕ) → 0 < length (pieces_from skip depth s)
unfolding pieces_from
pieces_some skip depth [] = omega arith
pieces_some (suc skip) depth (b ∷ bs) = pieces_some skip depth bs
pieces_some zero depth (b ∷ bs) = at (eqb depth 0 && is_separator (b ∷ bs)) (pieces_from 0 (depth_after depth b) bs) where
  at : (t : Bool) (pieces : List (List ℕ)) → 0 < length (cond t ((b ∷ []) ∷ pieces_from 3 0 bs) (onto_first b pieces))
  at true pieces = omega arith
  at false [] = omega arith
  at false (piece ∷ pieces) = omega arith

-- a slice that ends after one byte more
slice_more : (before cur bs string : List ℕ) (b : ℕ) → string ≡ before ++ (cur ++ b ∷ bs) →
    slice_range string (length before) (length (before ++ cur) + 1) ≡ cur ++ b ∷ []
slice_more before cur bs string b is =
    let size : length (before ++ cur) + 1 - length before ≡ length (cur ++ b ∷ []) = omega (arith, length-append before cur, length-append cur (b ∷ [])) in
    let again : cur ++ b ∷ bs ≡ (cur ++ b ∷ []) ++ bs = sym (append_assoc cur (b ∷ []) bs) in
    rw (is, drop_at before (cur ++ b ∷ bs) (length before) refl, size, again) (take_at (cur ++ b ∷ []) bs (length (cur ++ b ∷ [])) refl)

-- ---- names

abbrev NamesAre : List ℕ → List ℕ → List ℕ → List ℕ → Type 0
NamesAre string before cur rest =
    string ≡ before ++ (cur ++ rest) →
    pieces_between (length before) (map and_word_range (places_from (before ++ cur) rest)) string ≡ prepend cur (pieces_from 0 (depth_of (before ++ cur)) rest)

no_place : (before bs : List ℕ) (b : ℕ) → (eqb (depth_of before) 0 && is_separator (b ∷ bs)) ≡ false → places_from before (b ∷ bs)
    ≡ places_from (before ++ b ∷ []) bs
unfolding places_from
no_place before bs b none = rw none refl

a_place : (before bs : List ℕ) (b : ℕ) → (eqb (depth_of before) 0 && is_separator (b ∷ bs)) ≡ true → places_from before (b ∷ bs) ≡ length before
    ∷ places_from (before ++ b ∷ []) bs
unfolding places_from
a_place before bs b is = rw is refl

ink_is_no_place : (before bs : List ℕ) (b : ℕ) → IsInk b → places_from before (b ∷ bs) ≡ places_from (before ++ b ∷ []) bs
ink_is_no_place before bs b ink = no_place before bs b (and_right (eqb (depth_of before) 0) (is_separator (b ∷ bs)) (ink_separates_nothing b bs ink))

no_separator : (string before cur bs : List ℕ) (b : ℕ) → (eqb (depth_of (before ++ cur)) 0 && is_separator (b ∷ bs)) ≡ false →
    NamesAre string before (cur ++ b ∷ []) bs → NamesAre string before cur (b ∷ bs)
unfolding pieces_from
no_separator string before cur bs b none more is =
    let joined = append_assoc before cur (b ∷ []) in
    let again : string ≡ before ++ ((cur ++ b ∷ []) ++ bs) = is ∙ ap (λ xs. before ++ xs) (sym (append_assoc cur (b ∷ []) bs)) in
    let deep : depth_of (before ++ (cur ++ b ∷ [])) ≡ depth_after (depth_of (before ++ cur)) b = ap depth_of (sym joined) ∙ depth_push (before ++ cur) b in
    ap (λ places. pieces_between (length before) (map and_word_range places) string) (no_place (before ++ cur) bs b none ∙ ap (λ xs. places_from xs bs) joined)
    ∙ more again
    ∙ ap (λ n. prepend (cur ++ b ∷ []) (pieces_from 0 n bs)) deep
    ∙ prepend_front cur b (pieces_from 0 (depth_after (depth_of (before ++ cur)) b) bs)
    ∙ ap (prepend cur) (rw none refl)

a_separator : (string before cur rest : List ℕ) (b x y z : ℕ) →
    (eqb (depth_of (before ++ cur)) 0 && is_separator (b ∷ x ∷ y ∷ z ∷ rest)) ≡ true →
    NamesAre string ((((before ++ cur ++ b ∷ []) ++ x ∷ []) ++ y ∷ []) ++ z ∷ []) [] rest → NamesAre string before cur (b ∷ x ∷ y ∷ z ∷ rest)
unfolding pieces_from pieces_between prepend
a_separator string before cur rest b x y z test more is =
    let all = before ++ cur in
    let past = (((all ++ b ∷ []) ++ x ∷ []) ++ y ∷ []) ++ z ∷ [] in
    let parts = and_parts (eqb (depth_of all) 0) (is_separator (b ∷ x ∷ y ∷ z ∷ rest)) test in
    let ink = separator_is_ink b (x ∷ y ∷ z ∷ rest) parts.1 in
    let low : depth_of all ≡ 0 = eqb-true (depth_of all) 0 parts.0 in
    let one : depth_of (all ++ b ∷ []) ≡ 0 = depth_push all b ∙ rw low (white_keeps b (separator_is_white b (x ∷ y ∷ z ∷ rest) parts.1)) in
    let two : depth_of ((all ++ b ∷ []) ++ x ∷ []) ≡ 0 = depth_push (all ++ b ∷ []) x ∙ rw one ink.0.keeps in
    let three : depth_of (((all ++ b ∷ []) ++ x ∷ []) ++ y ∷ []) ≡ 0 = depth_push ((all ++ b ∷ []) ++ x ∷ []) y ∙ rw two ink.1.0.keeps in
    let four : depth_of past ≡ 0 = depth_push (((all ++ b ∷ []) ++ x ∷ []) ++ y ∷ []) z ∙ rw three ink.1.1.0.keeps in
    let joined : past ++ ([] ++ rest) ≡ before ++ (cur ++ b ∷ x ∷ y ∷ z ∷ rest) = simp append_assoc in
    let size : length past ≡ length all + 4 =
    omega (
      arith,
      length-append all (b ∷ []),
      length-append (all ++ b ∷ []) (x ∷ []),
      length-append ((all ++ b ∷ []) ++ x ∷ []) (y ∷ []),
      length-append (((all ++ b ∷ []) ++ x ∷ []) ++ y ∷ []) (z ∷ []),
    ) in
    let places : places_from all (b ∷ x ∷ y ∷ z ∷ rest) ≡ length all ∷ places_from past rest =
    a_place all (x ∷ y ∷ z ∷ rest) b test
    ∙ ap (λ ps. length all ∷ ps) (ink_is_no_place (all ++ b ∷ []) (y ∷ z ∷ rest) x ink.0 ∙ ink_is_no_place ((all ++ b ∷ []) ++ x ∷ []) (z ∷ rest) y ink.1.0
    ∙ ink_is_no_place (((all ++ b ∷ []) ++ x ∷ []) ++ y ∷ []) rest z ink.1.1.0) in
    let nothing : past ++ [] ≡ past = append-nil past in
    let others : pieces_between (length past) (map and_word_range (places_from past rest)) string ≡ pieces_from 0 0 rest =
    ap (λ xs. pieces_between (length past) (map and_word_range (places_from xs rest)) string) (sym nothing)
    ∙ more (is ∙ sym joined)
    ∙ prepend_nothing (pieces_from 0 (depth_of (past ++ [])) rest) (pieces_some 0 (depth_of (past ++ [])) rest)
    ∙ ap (λ n. pieces_from 0 n rest) (ap depth_of nothing ∙ four) in
    let found : pieces_from 0 (depth_of all) (b ∷ x ∷ y ∷ z ∷ rest) ≡ (b ∷ []) ∷ pieces_from 0 0 rest = rw test refl in
    ap (λ ps. pieces_between (length before) (map and_word_range ps) string) places
    ∙ ap (λ piece. piece ∷ pieces_between (length all + 4) (map and_word_range (places_from past rest)) string) (slice_more before cur (x ∷ y ∷ z ∷ rest) string b is)
    ∙ ap (λ n. (cur ++ b ∷ []) ∷ pieces_between n (map and_word_range (places_from past rest)) string) (sym size)
    ∙ ap (λ ps. (cur ++ b ∷ []) ∷ ps) others
    ∙ sym (ap (prepend cur) found)

either_way : (string before cur rest : List ℕ) (b x y z : ℕ) (t : Bool) → (eqb (depth_of (before ++ cur)) 0 && is_separator (b ∷ x ∷ y ∷ z ∷ rest)) ≡ t →
    NamesAre string before (cur ++ b ∷ []) (x ∷ y ∷ z ∷ rest) → NamesAre string ((((before ++ cur ++ b ∷ []) ++ x ∷ []) ++ y ∷ []) ++ z ∷ []) [] rest →
    NamesAre string before cur (b ∷ x ∷ y ∷ z ∷ rest)
either_way string before cur rest b x y z true test one four = a_separator string before cur rest b x y z test four
either_way string before cur rest b x y z false test one four = no_separator string before cur (x ∷ y ∷ z ∷ rest) b test one

names_are : (string before cur rest : List ℕ) → NamesAre string before cur rest
unfolding pieces_from pieces_between places_from prepend is_separator
names_are string before cur [] = λ is. rw (is, drop_at before (cur ++ []) (length before) refl) refl
names_are string before cur (b ∷ []) = no_separator string before cur [] b (and_right (eqb (depth_of (before ++ cur)) 0) false refl)
    (names_are string before (cur ++ b ∷ []) [])
names_are string before cur (b ∷ x ∷ []) = no_separator string before cur (x ∷ []) b (and_right (eqb (depth_of (before ++ cur)) 0) false refl)
    (names_are string before (cur ++ b ∷ []) (x ∷ []))
names_are string before cur (b ∷ x ∷ y ∷ []) = no_separator string before cur (x ∷ y ∷ []) b (and_right (eqb (depth_of (before ++ cur)) 0) false refl)
    (names_are string before (cur ++ b ∷ []) (x ∷ y ∷ []))
names_are string before cur (b ∷ x ∷ y ∷ z ∷ rest) =
    either_way string before cur rest b x y z (eqb (depth_of (before ++ cur)) 0 && is_separator (b ∷ x ∷ y ∷ z ∷ rest)) refl
    (names_are string before (cur ++ b ∷ []) (x ∷ y ∷ z ∷ rest))
    (names_are string ((((before ++ cur ++ b ∷ []) ++ x ∷ []) ++ y ∷ []) ++ z ∷ []) [] rest)

pub names_between : (b : ℕ) (bs : List ℕ) → names_of (b ∷ bs) ≡ pieces_between 0 (map and_word_range (separators_of (b ∷ bs))) (b ∷ bs)
unfolding names_of
names_between b bs =
    sym (ap (λ places. pieces_between 0 (map and_word_range places) (b ∷ bs)) (filter_places (b ∷ bs) [] (b ∷ bs) refl)
    ∙ names_are (b ∷ bs) [] [] (b ∷ bs) refl
    ∙ prepend_nothing (pieces_from 0 0 (b ∷ bs)) (pieces_some 0 0 (b ∷ bs)))

-- ---- tokens

-- the places of what stands between tokens, by what stands before
break_places : List ℕ → List ℕ → List ℕ
break_places before [] = []
break_places before (b ∷ bs) =
    cond (eqb (depth_of before) 0 && is_break b) (length before ∷ break_places (before ++ b ∷ []) bs) (break_places (before ++ b ∷ []) bs)

filter_breaks : (string before rest : List ℕ) → string ≡ before ++ rest → filter (breaks_at string) (range_with_len (length before) (length rest))
    ≡ break_places before rest
unfolding break_places
filter_breaks string before [] is = refl
filter_breaks string before (b ∷ bs) is =
    let test : breaks_at string (length before) ≡ (eqb (depth_of before) 0 && is_break b) =
    rw (is, take_at before (b ∷ bs) (length before) refl, get_or_at before b bs 0 (length before) refl) refl in
    let next : length (before ++ b ∷ []) ≡ length before + 1 = length-append before (b ∷ []) in
    let more = filter_breaks string (before ++ b ∷ []) bs (is ∙ sym (append_assoc before (b ∷ []) bs)) in
    rw (test, sym next, more) refl

abbrev texts_of : List NameToken → List (List ℕ)
texts_of tokens = map (λ token. token.text) tokens

-- the texts of the tokens to come, of which one has begun
words : List ℕ → ℕ → List ℕ → List (List ℕ)
words [] depth rest = texts_of (tokens_from 0 rest)
words (c ∷ cs) depth rest = ((c ∷ cs) ++ take (run_len Break depth rest) rest) ∷ texts_of (tokens_from (run_len Break depth rest) rest)

-- a slice that ends before a place
slice_here : (before cur rest string : List ℕ) → string ≡ before ++ (cur ++ rest) → slice_range string (length before) (length (before ++ cur)) ≡ cur
slice_here before cur rest string is =
    let size : length (before ++ cur) - length before ≡ length cur = omega (arith, length-append before cur) in
    rw (is, drop_at before (cur ++ rest) (length before) refl, size) (take_at cur rest (length cur) refl)

abbrev TokensAre : List ℕ → List ℕ → List ℕ → List ℕ → Type 0
TokensAre string before cur rest =
    string ≡ before ++ (cur ++ rest) → (length cur ≡ 0 → depth_of (before ++ cur) ≡ 0) →
    filter is_some_text (pieces_between (length before) (map byte_gap (break_places (before ++ cur) rest)) string) ≡ words cur (depth_of (before ++ cur)) rest

-- a byte between tokens ends the one that has begun
ends_word : (depth b : ℕ) (cur bs : List ℕ) → (eqb depth 0 && is_break b) ≡ true →
    cond (is_some_text cur) (cur ∷ texts_of (tokens_from 0 bs)) (texts_of (tokens_from 0 bs)) ≡ words cur depth (b ∷ bs)
unfolding words tokens_from run_len
ends_word depth b [] bs test = rw (and_parts (eqb depth 0) (is_break b) test).1 refl
ends_word depth b (c ∷ cs) bs test =
    let some : ltb 0 (suc (length cs)) ≡ true = lt-ltb 0 (suc (length cs)) (omega arith) in
    rw (test, some, (and_parts (eqb depth 0) (is_break b) test).1, append-nil cs) refl

-- another byte goes on with it
goes_on : (depth b : ℕ) (cur bs : List ℕ) → (eqb depth 0 && is_break b) ≡ false → (length cur ≡ 0 → depth ≡ 0) →
    words (cur ++ b ∷ []) (depth_after depth b) bs ≡ words cur depth (b ∷ bs)
unfolding words tokens_from run_len
goes_on depth b [] bs test low =
    let zero_depth = low refl in
    let none : is_break b ≡ false = rw zero_depth at test in
    let size : suc (run_len Break (depth_after 0 b) bs) - 1 ≡ run_len Break (depth_after 0 b) bs = omega arith in
    rw (zero_depth, none, size) refl
goes_on depth b (c ∷ cs) bs test low =
    rw test (ap (λ xs. (c ∷ xs) ∷ texts_of (tokens_from (run_len Break (depth_after depth b) bs) bs))
    (append_assoc cs (b ∷ []) (take (run_len Break (depth_after depth b) bs) bs)))

tokens_step : (string before cur bs : List ℕ) (b : ℕ) (t : Bool) → (eqb (depth_of (before ++ cur)) 0 && is_break b) ≡ t →
    TokensAre string (before ++ cur ++ b ∷ []) [] bs → TokensAre string before (cur ++ b ∷ []) bs → TokensAre string before cur (b ∷ bs)
unfolding break_places pieces_between tokens_from words
tokens_step string before cur bs b true test ended on is low =
    let all = before ++ cur in
    let parts = and_parts (eqb (depth_of all) 0) (is_break b) test in
    let nothing : (all ++ b ∷ []) ++ [] ≡ all ++ b ∷ [] = append-nil (all ++ b ∷ []) in
    let deep : depth_of ((all ++ b ∷ []) ++ []) ≡ 0 = ap depth_of nothing ∙ depth_push all b ∙ rw (eqb-true (depth_of all) 0 parts.0) (break_keeps b parts.1) in
    let joined : (all ++ b ∷ []) ++ ([] ++ bs) ≡ before ++ (cur ++ b ∷ bs) = simp append_assoc in
    let size : length (all ++ b ∷ []) ≡ length all + 1 = length-append all (b ∷ []) in
    let more = ended (is ∙ sym joined) (λ none. deep) in
    let others : filter is_some_text (pieces_between (length all + 1) (map byte_gap (break_places (all ++ b ∷ []) bs)) string) ≡ texts_of (tokens_from 0 bs) =
    ap (λ n. filter is_some_text (pieces_between n (map byte_gap (break_places (all ++ b ∷ []) bs)) string)) (sym size)
    ∙ ap (λ xs. filter is_some_text (pieces_between (length (all ++ b ∷ [])) (map byte_gap (break_places xs bs)) string)) (sym nothing)
    ∙ more in
    rw (test, slice_here before cur (b ∷ bs) string is, others) (ends_word (depth_of all) b cur bs test)
tokens_step string before cur bs b false test ended on is low =
    let joined = append_assoc before cur (b ∷ []) in
    let again : string ≡ before ++ ((cur ++ b ∷ []) ++ bs) = is ∙ ap (λ xs. before ++ xs) (sym (append_assoc cur (b ∷ []) bs)) in
    let deep : depth_of (before ++ (cur ++ b ∷ [])) ≡ depth_after (depth_of (before ++ cur)) b = ap depth_of (sym joined) ∙ depth_push (before ++ cur) b in
    let some : length (cur ++ b ∷ []) ≡ 0 → depth_of (before ++ (cur ++ b ∷ [])) ≡ 0 = λ none. absurd (omega (arith, length-append cur (b ∷ []))) in
    rw test (ap (λ xs. filter is_some_text (pieces_between (length before) (map byte_gap (break_places xs bs)) string)) joined
    ∙ on again some
    ∙ ap (λ n. words (cur ++ b ∷ []) n bs) deep
    ∙ goes_on (depth_of (before ++ cur)) b cur bs test low)

tokens_end : (cur : List ℕ) (depth : ℕ) → filter is_some_text ((cur ++ []) ∷ []) ≡ words cur depth []
unfolding words tokens_from run_len
tokens_end [] depth = refl
tokens_end (c ∷ cs) depth = let some : ltb 0 (suc (length (cs ++ []))) ≡ true = lt-ltb 0 (suc (length (cs ++ []))) (omega arith) in rw some refl

tokens_are : (string before cur rest : List ℕ) → TokensAre string before cur rest
unfolding break_places pieces_between
tokens_are string before cur [] = λ is low. rw (is, drop_at before (cur ++ []) (length before) refl) (tokens_end cur (depth_of (before ++ cur)))
tokens_are string before cur (b ∷ bs) =
    tokens_step string before cur bs b (eqb (depth_of (before ++ cur)) 0 && is_break b) refl (tokens_are string (before ++ cur ++ b ∷ []) [] bs)
    (tokens_are string before (cur ++ b ∷ []) bs)

pub tokens_between : (text : List ℕ) → map (λ token. token.text) (tokens_of text) ≡ filter is_some_text (pieces_between 0 (map byte_gap (breaks_of text)) text)
unfolding tokens_of words
tokens_between text =
    sym (ap (λ places. filter is_some_text (pieces_between 0 (map byte_gap places) text)) (filter_breaks text [] text refl)
    ∙ tokens_are text [] [] text refl (λ none. refl))

pub ruleset between = (names_between, tokens_between)
