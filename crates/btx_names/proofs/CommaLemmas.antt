-- The commas of a name that count say its form.
use Rattle.std.proofs.Common.{◌≡◌, ℕ, suc, ◌+◌, Bool, true, false, not, cond, eqb, min, ◌&&◌, List, [], ◌∷◌, ◌++◌, Option, Some, None, length, take, drop, refl}
use Rattle.std.proofs.Common.{sym, ◌∙◌, ap, arith, append_assoc, length-append}
use Rattle.std.proofs.lemmas.Bool.{eqb-true, and_parts, and_right, lt-ltb}
use Rattle.std.proofs.lemmas.List.{take_at, drop_at, get_or_at}
use Rattle.std.specs.Prelude.{filter, nat_lt}
use Rattle.std.specs.List.{range_with_len}
use Rattle.std.specs.Option.{is_some}
use Rattle.btx_text.specs.language.Elements.{depth_after, depth_of}
use Rattle.btx_names.specs.declared.runs.Stop.TheVariants.{Comma}
use Rattle.btx_names.specs.language.Runs.{is_break, run_len}
use Rattle.btx_names.specs.language.NameParts.{split_at_comma, cut_first, cut_again, sections_of, has_third_comma}
use Rattle.btx_names.specs.laws.Commas.{is_comma_at, counts_at, commas_of, commas_in}
use Rattle.btx_names.proofs.SeparatorLemmas.{depth_push}
use Rattle.btx_names.specs.laws.NameParts.{is_all_breaks}

-- ---- a place, by what stands before and after it

pub comma_here : (string before : List ℕ) (b : ℕ) (bs : List ℕ) → string ≡ before ++ b ∷ bs → is_comma_at string (length before)
    ≡ (eqb (depth_of before) 0 && eqb b 44)
comma_here string before b bs is = rw (is, take_at before (b ∷ bs) (length before) refl, get_or_at before b bs 0 (length before) refl) refl

pub behind : (string before : List ℕ) (b : ℕ) (bs : List ℕ) → string ≡ before ++ b ∷ bs → drop (length before + 1) string ≡ bs
behind string before b bs is = rw (is ∙ sym (append_assoc before (b ∷ []) bs))
    (drop_at (before ++ b ∷ []) bs (length before + 1) (length-append before (b ∷ [])))

-- ---- counting from front to back

-- how many commas count in a text whose brace depth is given
unfoldable pub commas_from : ℕ → List ℕ → ℕ
commas_from depth [] = 0
commas_from depth (b ∷ bs) =
    cond ((eqb depth 0 && eqb b 44) && not (is_all_breaks bs)) (suc (commas_from (depth_after depth b) bs)) (commas_from (depth_after depth b) bs)

length_cond : (t : Bool) (place : ℕ) (places : List ℕ) → length (cond t (place ∷ places) places) ≡ cond t (suc (length places)) (length places)
length_cond true place places = refl
length_cond false place places = refl

count_places : (string before rest : List ℕ) → string ≡ before ++ rest →
    length (filter (counts_at string) (range_with_len (length before) (length rest))) ≡ commas_from (depth_of before) rest
unfolding commas_from
count_places string before [] is = refl
count_places string before (b ∷ bs) is =
    let again : string ≡ (before ++ b ∷ []) ++ bs = is ∙ sym (append_assoc before (b ∷ []) bs) in
    let next : length (before ++ b ∷ []) ≡ length before + 1 = length-append before (b ∷ []) in
    let test : counts_at string (length before) ≡ ((eqb (depth_of before) 0 && eqb b 44) && not (is_all_breaks bs)) =
    rw (comma_here string before b bs is, behind string before b bs is) refl in
    let more = count_places string (before ++ b ∷ []) bs again in
    let rest = filter (counts_at string) (range_with_len (length before + 1) (length bs)) in
    let others : length rest ≡ commas_from (depth_after (depth_of before) b) bs =
    ap (λ n. length (filter (counts_at string) (range_with_len n (length bs)))) (sym next) ∙ more ∙ ap (λ n. commas_from n bs) (depth_push before b) in
    rw test (length_cond ((eqb (depth_of before) 0 && eqb b 44) && not (is_all_breaks bs)) (length before) rest ∙ rw others refl)

-- ---- the first comma

-- without a token after it no comma counts
pub none_counts : (depth : ℕ) (s : List ℕ) → is_all_breaks s ≡ true → commas_from depth s ≡ 0
unfolding commas_from
none_counts depth [] all = refl
none_counts depth (b ∷ bs) all =
    let rest = (and_parts (is_break b) (is_all_breaks bs) all).1 in
    let no : ((eqb depth 0 && eqb b 44) && not (is_all_breaks bs)) ≡ false = and_right (eqb depth 0 && eqb b 44) (not (is_all_breaks bs)) (rw rest refl) in
    rw no (none_counts (depth_after depth b) bs rest)

abbrev FirstCounts : ℕ → List ℕ → Type 0
FirstCounts depth s =
    let after = drop (suc (run_len Comma depth s)) s in
    commas_from depth s ≡ cond (is_all_breaks after) 0 (suc (commas_from 0 after))

first_here : (depth b : ℕ) (bs : List ℕ) → (eqb depth 0 && eqb b 44) ≡ true → FirstCounts depth (b ∷ bs)
unfolding commas_from run_len
first_here depth b bs is = rw is (at (is_all_breaks bs) refl) where
  parts : (eqb depth 0 ≡ true) × (eqb b 44 ≡ true)
  parts = and_parts (eqb depth 0) (eqb b 44) is

  low : depth_after depth b ≡ 0
  low = rw (eqb-true depth 0 parts.0, eqb-true b 44 parts.1) refl

  at : (t : Bool) → is_all_breaks bs ≡ t → cond (not t) (suc (commas_from (depth_after depth b) bs)) (commas_from (depth_after depth b) bs)
      ≡ cond t 0 (suc (commas_from 0 bs))
  at true all = none_counts (depth_after depth b) bs all
  at false all = ap (λ n. suc (commas_from n bs)) low

first_counts : (depth : ℕ) (s : List ℕ) → FirstCounts depth s
unfolding commas_from run_len
first_counts depth [] = refl
first_counts depth (b ∷ bs) = at (eqb depth 0 && eqb b 44) refl (first_counts (depth_after depth b) bs) where
  at : (t : Bool) → (eqb depth 0 && eqb b 44) ≡ t → FirstCounts (depth_after depth b) bs → FirstCounts depth (b ∷ bs)
  at true is more = first_here depth b bs is
  at false is more = rw is more

-- ---- the form

abbrev pub CountsAs : List ℕ → Option (List ℕ × List ℕ) → Type 0
CountsAs text None = commas_from 0 text ≡ 0
CountsAs text (Some cut) = commas_from 0 text ≡ suc (commas_from 0 cut.1)

pub counts_as : (text : List ℕ) → CountsAs text (split_at_comma text)
unfolding split_at_comma
counts_as text = at (is_all_breaks (drop (run_len Comma 0 text + 1) text)) (rw one_more (first_counts 0 text)) where
  one_more : run_len Comma 0 text + 1 ≡ suc (run_len Comma 0 text)
  one_more = omega arith

  at : (t : Bool) → commas_from 0 text ≡ cond t 0 (suc (commas_from 0 (drop (run_len Comma 0 text + 1) text))) →
      CountsAs text (cond t None (Some (take (run_len Comma 0 text) text, drop (run_len Comma 0 text + 1) text)))
  at true is = is
  at false is = is

in_all : (name : List ℕ) → length (commas_of name) ≡ commas_from 0 name
in_all name = count_places name [] name refl

pub form_by_commas : (name : List ℕ) → commas_in (sections_of name) ≡ min (length (commas_of name)) 2
unfolding sections_of
form_by_commas name = rw (in_all name) (at (split_at_comma name) (counts_as name)) where
  at_second : (surname rest : List ℕ) (cut : Option (List ℕ × List ℕ)) → CountsAs rest cut →
      commas_in (cut_again surname rest cut) ≡ min (suc (commas_from 0 rest)) 2
  at_second surname rest None is = omega arith
  at_second surname rest (Some cut) is = omega arith

  at : (cut : Option (List ℕ × List ℕ)) → CountsAs name cut → commas_in (cut_first name cut) ≡ min (commas_from 0 name) 2
  at None is = omega arith
  at (Some cut) is = rw is (at_second cut.0 cut.1 (split_at_comma cut.1) (counts_as cut.1))

pub third_by_count : (name : List ℕ) → has_third_comma (sections_of name) ≡ nat_lt 2 (commas_from 0 name)
unfolding sections_of
third_by_count name = at (split_at_comma name) (counts_as name) where
  at_third : (rest : List ℕ) (cut : Option (List ℕ × List ℕ)) → CountsAs rest cut → is_some cut ≡ nat_lt 2 (suc (suc (commas_from 0 rest)))
  at_third rest None is = rw is refl
  at_third rest (Some cut) is = rw is (sym (lt-ltb 2 (suc (suc (suc (commas_from 0 cut.1)))) (omega arith)))

  at_second : (surname rest : List ℕ) (cut : Option (List ℕ × List ℕ)) → CountsAs rest cut →
      has_third_comma (cut_again surname rest cut) ≡ nat_lt 2 (suc (commas_from 0 rest))
  at_second surname rest None is = rw is refl
  at_second surname rest (Some cut) is = rw is (at_third cut.1 (split_at_comma cut.1) (counts_as cut.1))

  at : (cut : Option (List ℕ × List ℕ)) → CountsAs name cut → has_third_comma (cut_first name cut) ≡ nat_lt 2 (commas_from 0 name)
  at None is = rw is refl
  at (Some cut) is = rw is (at_second cut.0 cut.1 (split_at_comma cut.1) (counts_as cut.1))

pub third_by_commas : (name : List ℕ) → has_third_comma (sections_of name) ≡ nat_lt 2 (length (commas_of name))
third_by_commas name = rw (in_all name) (third_by_count name)

pub ruleset comma_laws = (form_by_commas, third_by_commas)
