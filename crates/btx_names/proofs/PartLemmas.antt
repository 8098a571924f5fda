-- Lemmas on the parts of a name and the list of its tokens.
use Rattle.std.proofs.Common.{◌≡◌, ℕ, zero, suc, ◌+◌, ◌-◌, ◌<◌, ◌≤◌, List, [], ◌∷◌, ◌++◌, length, take, drop, refl, sym, ◌∙◌, ap, arith, get_or, set, add-one}
use Rattle.std.proofs.Common.{min, Bool, true, false, cond, leb, eqb, length-append}
use Rattle.std.proofs.lemmas.Bool.{leb-true, leb-false, eqb-true, true≢false}
use Rattle.std.proofs.lemmas.List.{take-map, drop-map, length-map, drop_all, take_at, drop_at, length-drop, drop-drop, drop_more, drop-set, get_or-set_same}
use Rattle.std.proofs.lemmas.List.Elements.{All-take, All-drop, All-get_or, All-head, All-tail}
use Rattle.std.specs.List.{All, flat_map}
use Rattle.btx_text.specs.declared.element_kind.TextMode.{TextMode}
use Rattle.btx_names.specs.language.FormattedNames.{initial_of}
use Rattle.btx_names.specs.language.Tokens.{NameToken as Token, tokens_of}
use Rattle.btx_names.specs.language.NameParts.{Sections, One, Two, Three, parts_by, von_end, last_start}
use Rattle.btx_names.specs.laws.NameParts.{surname_of}
use Rattle.btx_names.specs.refinement.NameTokens.{Hold, token_of, tokens_in, lettered_in, lettered_of_bare}
use Rattle.btx_names.specs.refinement.Places.{bytes_at}
use Rattle.btx_names.specs.refinement.SectionViews.{has_commas, jr_of, first_section}
use Rattle.btx_names.specs.refinement.TokenLists.{AreRangesOf, IsListOf, surname_in}
use Rattle.btx_names.specs.declared.name_ranges.Ranges.{Ranges}
use Rattle.btx_names.specs.declared.name_token.NameToken.{NameToken}
use Rattle.btx_names.specs.declared.name_tokens.TokenSeparator.TheVariants.{Space}
use Rattle.btx_names.specs.declared.token_list.TokenList.{TokenList}
use Rattle.btx_names.proofs.InitialLemmas.{elements_of_nothing, initial_from}
use Rattle.btx_names.proofs.RangeLemmas.{ranges_within, tokens_of_nothing}
use Rattle.btx_names.specs.refinement.NameParts.{von_start}

-- ---- tokens that are said to have no abbreviation

both_none : (x y : ℕ) → x + y ≡ 0 → (x ≡ 0) × (y ≡ 0)
both_none x y is = (omega (arith, is), omega (arith, is))

-- no token of a front of some has one where none of them has
pub bare_front : (n : ℕ) (tokens : List NameToken) → lettered_of_bare tokens ≡ 0 → lettered_of_bare (take n tokens) ≡ 0
unfolding lettered_of_bare lettered_in
bare_front zero tokens none = refl
bare_front (suc n) [] none = refl
bare_front (suc n) (token ∷ tokens) none =
    let h = both_none (lettered_in (take token.bare_behind tokens)) (lettered_of_bare tokens) none in
    rw (front_first token.bare_behind n tokens h.0, bare_front n tokens h.1) refl where
      front_first : (k n : ℕ) (tokens : List NameToken) → lettered_in (take k tokens) ≡ 0 → lettered_in (take k (take n tokens)) ≡ 0
      front_first zero n tokens none = refl
      front_first (suc k) zero tokens none = refl
      front_first (suc k) (suc n) [] none = refl
      front_first (suc k) (suc n) (token ∷ tokens) none =
          let h = both_none token.lettered.len (lettered_in (take k tokens)) none in
          rw (h.0, front_first k n tokens h.1) refl

pub bare_rest : (n : ℕ) (tokens : List NameToken) → lettered_of_bare tokens ≡ 0 → lettered_of_bare (drop n tokens) ≡ 0
unfolding lettered_of_bare
bare_rest zero tokens none = none
bare_rest (suc n) [] none = refl
bare_rest (suc n) (token ∷ tokens) none =
    bare_rest n tokens (both_none (lettered_in (take token.bare_behind tokens)) (lettered_of_bare tokens) none).1

pub held_front : (bytes : List ℕ) (n : ℕ) (tokens : List NameToken) → All (Hold bytes) tokens → All (Hold bytes) (take n tokens)
held_front bytes n tokens held = All-take (Hold bytes) n tokens held

pub held_rest : (bytes : List ℕ) (n : ℕ) (tokens : List NameToken) → All (Hold bytes) tokens → All (Hold bytes) (drop n tokens)
held_rest bytes n tokens held = All-drop (Hold bytes) n tokens held

pub split_front : (bytes : List ℕ) (n : ℕ) (tokens : List NameToken) → tokens_in bytes (take n tokens) ≡ take n (tokens_in bytes tokens)
split_front bytes n tokens = sym (take-map (token_of bytes) n tokens)

pub split_rest : (bytes : List ℕ) (n : ℕ) (tokens : List NameToken) → tokens_in bytes (drop n tokens) ≡ drop n (tokens_in bytes tokens)
split_rest bytes n tokens = sym (drop-map (token_of bytes) n tokens)

pub tokens_counted : (bytes : List ℕ) (tokens : List NameToken) → length (tokens_in bytes tokens) ≡ length tokens
tokens_counted bytes tokens = length-map tokens (token_of bytes)

pub ruleset split_steps = (bare_front, bare_rest, held_front, held_rest, split_front, split_rest, tokens_counted)

-- ---- counting them

pub none_counted : (tokens : List NameToken) → lettered_of_bare (drop (length tokens) tokens) ≡ 0
unfolding lettered_of_bare
none_counted tokens = rw (drop_all (length tokens) tokens (omega arith)) refl

pub nothing_counted : lettered_of_bare [] ≡ 0
unfolding lettered_of_bare
nothing_counted = refl

pub none_bare : lettered_in [] ≡ 0
unfolding lettered_in
none_bare = refl

-- a token in whose place another one with the same text is put
pub set_same : (bytes : List ℕ) (tokens : List NameToken) (i : ℕ) (default counted : NameToken) → i < length tokens →
    token_of bytes counted ≡ token_of bytes (get_or tokens i default) → tokens_in bytes (set tokens i counted) ≡ tokens_in bytes tokens
set_same bytes [] i default counted h is = absurd (omega arith)
set_same bytes (token ∷ tokens) zero default counted h is = ap (λ (first : Token). first ∷ tokens_in bytes tokens) is
set_same bytes (token ∷ tokens) (suc i) default counted h is =
    ap (λ (others : List Token). token_of bytes token ∷ others) (set_same bytes tokens i default counted (omega arith) is)

counted_first : (tokens : List NameToken) (place : ℕ) (counted : NameToken) → 0 < place → place ≤ length tokens →
    drop (place - 1) (set tokens (place - 1) counted) ≡ counted ∷ drop place tokens
counted_first tokens place counted some le =
    let e : place - 1 + 1 ≡ place = omega arith in
    drop-set tokens (place - 1) counted (omega arith) ∙ ap (λ n. counted ∷ drop n tokens) e

-- one token more is counted after
pub one_counted : (tokens : List NameToken) (place bare : ℕ) (counted : NameToken) → 0 < place → place ≤ length tokens → counted.bare_behind ≡ bare →
    lettered_of_bare (drop place tokens) ≡ 0 → lettered_in (take bare (drop place tokens)) ≡ 0 →
    lettered_of_bare (drop (place - 1) (set tokens (place - 1) counted)) ≡ 0
unfolding lettered_of_bare
one_counted tokens place bare counted some le is rest none = rw (counted_first tokens place counted some le, is, none, rest) refl

-- and it has no abbreviation itself
pub one_bare_more : (tokens : List NameToken) (place bare : ℕ) (counted default : NameToken) → 0 < place → place ≤ length tokens →
    (get_or (set tokens (place - 1) counted) (place - 1) default).lettered.len ≡ 0 →
    lettered_in (take bare (drop place tokens)) ≡ 0 →
    lettered_in (take (bare + 1) (drop (place - 1) (set tokens (place - 1) counted))) ≡ 0
unfolding lettered_in
one_bare_more tokens place bare counted default some le empty none =
    let is : get_or (set tokens (place - 1) counted) (place - 1) default ≡ counted = get_or-set_same tokens (place - 1) counted default (omega arith) in
    let nothing : counted.lettered.len ≡ 0 = rw is at empty in
    rw (counted_first tokens place counted some le, add-one bare, nothing, none) refl

-- ---- one by one

-- what reading a list beyond its end would give
abbrev pub no_token : NameToken
no_token = record { text = record { from = 0; len = 0 }; joint = Space; lettered = record { from = 0; len = 0 }; bare_behind = 0 }

pub no_tokens : (bytes : List ℕ) (tokens : List NameToken) (test : Bool) → test ≡ eqb (length tokens) 0 → test ≡ true → length (tokens_in bytes tokens) ≡ 0
no_tokens bytes tokens test asked is = length-map tokens (token_of bytes) ∙ eqb-true (length tokens) 0 (sym asked ∙ is)

pub some_tokens : (bytes : List ℕ) (tokens : List NameToken) (test : Bool) → test ≡ eqb (length tokens) 0 → test ≡ false → 0 < length (tokens_in bytes tokens)
some_tokens bytes [] test asked is = absurd (true≢false (sym asked ∙ is))
some_tokens bytes (token ∷ tokens) test asked is = omega arith

pub tokens_at : (bytes : List ℕ) (tokens : List NameToken) (i : ℕ) (default : NameToken) → i < length tokens →
    tokens_in bytes (drop i tokens) ≡ token_of bytes (get_or tokens i default) ∷ tokens_in bytes (drop (i + 1) tokens)
tokens_at bytes tokens i default lt = ap (tokens_in bytes) (drop_more tokens i default lt)

pub held_at : (bytes : List ℕ) (tokens : List NameToken) (i : ℕ) (default : NameToken) → i < length tokens → All (Hold bytes) tokens →
    Hold bytes (get_or tokens i default)
held_at bytes tokens i default lt held = All-get_or (Hold bytes) tokens i default lt held

pub tokens_left : (bytes : List ℕ) (tokens : List NameToken) (i : ℕ) → length (tokens_in bytes (drop i tokens)) ≡ length tokens - i
tokens_left bytes tokens i = length-map (drop i tokens) (token_of bytes) ∙ length-drop i tokens

pub no_tokens_left : (bytes : List ℕ) (tokens : List NameToken) (i : ℕ) → length tokens ≤ i → tokens_in bytes (drop i tokens) ≡ []
no_tokens_left bytes tokens i le = rw (drop_all i tokens le) refl

-- ---- passing over them

-- tokens without an abbreviation give nothing
bare_gives_nothing : (mode : TextMode) (bytes : List ℕ) (n : ℕ) (tokens : List NameToken) → All (Hold bytes) tokens → lettered_in (take n tokens) ≡ 0 →
    flat_map (λ token. initial_of mode token.text) (tokens_in bytes tokens) ≡ flat_map (λ token. initial_of mode token.text) (tokens_in bytes (drop n tokens))
unfolding lettered_in
bare_gives_nothing mode bytes zero tokens held none = refl
bare_gives_nothing mode bytes (suc n) [] held none = refl
bare_gives_nothing mode bytes (suc n) (token ∷ tokens) held none =
    let h = both_none token.lettered.len (lettered_in (take n tokens)) none in
    let first = All-head (Hold bytes) token tokens held in
    let empty : bytes_at bytes token.lettered ≡ [] = ap (λ n. take n (drop token.lettered.from bytes)) h.0 in
    let nothing : initial_of mode (bytes_at bytes token.text) ≡ [] =
    initial_from mode (bytes_at bytes token.text) (bytes_at bytes token.lettered) first.2 ∙ rw (empty, elements_of_nothing mode) refl in
    rw nothing (bare_gives_nothing mode bytes n tokens (All-tail (Hold bytes) token tokens held) h.1)

-- one turn
pub one_initial_more : (mode : TextMode) (bytes : List ℕ) (token : NameToken) (others rest : List NameToken) → All (Hold bytes) others →
    lettered_of_bare (token ∷ others) ≡ 0 → rest ≡ drop token.bare_behind others →
    flat_map (λ token. initial_of mode token.text) (tokens_in bytes (token ∷ others))
    ≡ initial_of mode (bytes_at bytes token.text) ++ flat_map (λ token. initial_of mode token.text) (tokens_in bytes rest)
unfolding lettered_of_bare
one_initial_more mode bytes token others rest held none is =
    let h = both_none (lettered_in (take token.bare_behind others)) (lettered_of_bare others) none in
    ap (λ text. initial_of mode (bytes_at bytes token.text) ++ text) (bare_gives_nothing mode bytes token.bare_behind others held h.0 ∙ rw is refl)

-- the tokens passed over
passed_over : (tokens : List NameToken) (from next bare : ℕ) → from ≤ length tokens → next ≡ from + min bare (length tokens - from) →
    drop next tokens ≡ drop bare (drop from tokens)
passed_over tokens from next bare le is = at (leb (from + bare) (length tokens)) refl ∙ sym (drop-drop bare from tokens) where
  at : (t : Bool) → leb (from + bare) (length tokens) ≡ t → drop next tokens ≡ drop (from + bare) tokens
  at true within = let e : next ≡ from + bare = omega (arith, is, leb-true (from + bare) (length tokens) within) in rw e refl
  at false past =
      let more = leb-false (from + bare) (length tokens) past in
      rw (drop_all next tokens (omega (arith, is, more)), drop_all (from + bare) tokens (omega (arith, more))) refl

-- one turn, at a place in the tokens
pub one_turn_more : (mode : TextMode) (bytes : List ℕ) (tokens : List NameToken) (place next : ℕ) (default : NameToken) → place < length tokens →
    All (Hold bytes) tokens → lettered_of_bare tokens ≡ 0 →
    next ≡ place + (1 + min (get_or tokens place default).bare_behind (length tokens - 1 - place)) →
    flat_map (λ token. initial_of mode token.text) (tokens_in bytes (drop place tokens))
    ≡ initial_of mode (bytes_at bytes (get_or tokens place default).text) ++ flat_map (λ token. initial_of mode token.text) (tokens_in bytes (drop next tokens))
one_turn_more mode bytes tokens place next default lt held none is =
    let token = get_or tokens place default in
    let others = drop (place + 1) tokens in
    let split : drop place tokens ≡ token ∷ others = drop_more tokens place default lt in
    let kept = rw split at (bare_rest place tokens none) in
    let passed = passed_over tokens (place + 1) next token.bare_behind (omega arith) (omega (arith, is)) in
    rw split (one_initial_more mode bytes token others (drop next tokens) (held_rest bytes (place + 1) tokens held) kept passed)

-- ---- the sections of a name in the list of its tokens

pub sections_split : (bytes : List ℕ) (list : TokenList) (sections : Sections) (all surname others jr first : List Token) → IsListOf bytes list sections
    → all ≡ tokens_in bytes list.tokens.items →
    surname ≡ take list.surname all → others ≡ drop list.surname all → jr ≡ take list.jr others → first ≡ drop list.jr others →
    (surname ≡ tokens_of (surname_of sections)) × (jr ≡ tokens_of (jr_of sections)) × (first ≡ tokens_of (first_section sections))
sections_split bytes list sections all surname others jr first is kept one two three four =
    let a = tokens_of (surname_of sections) in
    let b = tokens_of (jr_of sections) in
    let d = tokens_of (first_section sections) in
    let whole : all ≡ a ++ (b ++ d) = kept ∙ is.tokens in
    let rest : others ≡ b ++ d = rw (two, whole) (drop_at a (b ++ d) list.surname (sym is.surname)) in (
      rw (one, whole) (take_at a (b ++ d) list.surname (sym is.surname)),
      rw (three, rest) (take_at b d list.jr (sym is.jr)),
      rw (four, rest) (drop_at b d list.jr (sym is.jr)),
    )

-- the first section in a list
pub surname_of_list : (bytes : List ℕ) (list : TokenList) (sections : Sections) → IsListOf bytes list sections →
    surname_in bytes list ≡ tokens_of (surname_of sections)
surname_of_list bytes list sections is =
    let all = tokens_in bytes list.tokens.items in
    let rest = drop list.surname all in
    (sections_split bytes list sections all (take list.surname all) rest (take list.jr rest) (drop list.jr rest) is refl refl refl refl refl).0

pub surname_inside : (bytes : List ℕ) (list : TokenList) (sections : Sections) → IsListOf bytes list sections → list.surname ≤ length list.tokens.items
surname_inside bytes list sections is =
    let one = tokens_of (surname_of sections) in
    let others = tokens_of (jr_of sections) ++ tokens_of (first_section sections) in
    omega (arith, ap length is.tokens, length-append one others, length-map list.tokens.items (token_of bytes), is.surname)

-- ---- its parts

-- where von and Last begin, in the first section
abbrev pub von_from : Sections → ℕ
von_from sections = cond (has_commas sections) 0 (von_start (tokens_of (surname_of sections)))

abbrev pub last_from : Sections → ℕ
last_from sections = cond (has_commas sections) (von_end (tokens_of (surname_of sections))) (last_start (tokens_of (surname_of sections)))

pub ranges_of_sections : (bytes : List ℕ) (list : TokenList) (ranges : Ranges) (sections : Sections) → IsListOf bytes list sections
    → AreRangesOf bytes list ranges →
    (ranges.von_start ≡ von_from sections) × (ranges.last_start ≡ last_from sections)
ranges_of_sections bytes list ranges sections is at =
    let surname = surname_of_list bytes list sections is in
    (rw (surname, is.commas) at at.von_start, rw (surname, is.commas) at at.last_start)

pub first_by_ranges : (sections : Sections) →
    (parts_by sections).first ≡ cond (has_commas sections) (tokens_of (first_section sections)) (take (von_from sections) (tokens_of (surname_of sections)))
first_by_ranges (One name) = refl
first_by_ranges (Two surname first) = refl
first_by_ranges (Three surname jr first) = refl

from_the_first : (n : ℕ) (tokens : List Token) → take n tokens ≡ take (n - 0) tokens
from_the_first n tokens = let e : n - 0 ≡ n = omega arith in rw e refl

pub von_by_ranges : (sections : Sections) →
    (parts_by sections).von ≡ take (last_from sections - von_from sections) (drop (von_from sections) (tokens_of (surname_of sections)))
von_by_ranges (One name) = refl
von_by_ranges (Two surname first) = from_the_first (von_end (tokens_of surname)) (tokens_of surname)
von_by_ranges (Three surname jr first) = from_the_first (von_end (tokens_of surname)) (tokens_of surname)

pub last_by_ranges : (sections : Sections) → (parts_by sections).last ≡ drop (last_from sections) (tokens_of (surname_of sections))
last_by_ranges (One name) = refl
last_by_ranges (Two surname first) = refl
last_by_ranges (Three surname jr first) = refl

pub jr_of_sections : (sections : Sections) → (parts_by sections).jr ≡ tokens_of (jr_of sections)
jr_of_sections (One name) = sym tokens_of_nothing
jr_of_sections (Two surname first) = sym tokens_of_nothing
jr_of_sections (Three surname jr first) = refl

-- the parts are cut out of the list by their ranges
pub parts_cut : (bytes : List ℕ) (list : TokenList) (ranges : Ranges) (sections : Sections) (all surname others jr behind before rest von last : List Token) →
    IsListOf bytes list sections → AreRangesOf bytes list ranges → all ≡ tokens_in bytes list.tokens.items →
    surname ≡ take list.surname all → others ≡ drop list.surname all → jr ≡ take list.jr others → behind ≡ drop list.jr others →
    before ≡ take ranges.von_start surname → rest ≡ drop ranges.von_start surname →
    von ≡ take (ranges.last_start - ranges.von_start) rest → last ≡ drop (ranges.last_start - ranges.von_start) rest →
    (cond list.has_commas behind before ≡ (parts_by sections).first) × (von ≡ (parts_by sections).von) × (last ≡ (parts_by sections).last)
    × (jr ≡ (parts_by sections).jr)
parts_cut bytes list ranges sections all surname others jr behind before rest von last is within whole one two three four five six seven eight =
    let cut = sections_split bytes list sections all surname others jr behind is whole one two three four in
    let starts = ranges_of_sections bytes list ranges sections is within in
    let tokens = tokens_of (surname_of sections) in
    let front : before ≡ take ranges.von_start tokens = rw cut.0 at five in
    let back : rest ≡ drop ranges.von_start tokens = rw cut.0 at six in
    let e : ranges.von_start + (ranges.last_start - ranges.von_start) ≡ ranges.last_start = omega (arith, (ranges_within bytes list ranges within).0) in (
      rw (cut.2, front, is.commas, starts.0) refl ∙ sym (first_by_ranges sections),
      seven ∙ rw (back, starts.0, starts.1) refl ∙ sym (von_by_ranges sections),
      eight ∙ rw (back, drop-drop (ranges.last_start - ranges.von_start) ranges.von_start tokens, e, starts.1) refl ∙ sym (last_by_ranges sections),
      cut.1 ∙ sym (jr_of_sections sections),
    )
