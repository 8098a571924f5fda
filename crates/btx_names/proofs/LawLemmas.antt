-- The laws of the parts of a name.
use Rattle.std.proofs.Common.{◌≡◌, ℕ, zero, suc, ◌+◌, ◌-◌, ◌<◌, ◌≤◌, Bool, true, false, cond, List, [], ◌∷◌, ◌++◌, Option, Some, None, ◌⊎◌, inl, inr, length}
use Rattle.std.proofs.Common.{take, drop, refl, sym, ◌∙◌, ap, arith, append_assoc}
use Rattle.std.specs.Prelude.{slice_get, nat_lt}
use Rattle.std.proofs.lemmas.Bool.{true≢false, cases_lt}
use Rattle.std.proofs.lemmas.List.{take-append-drop, drop_all, drop-drop, length-drop}
use Rattle.btx_names.specs.declared.runs.Stop.TheVariants.{Comma}
use Rattle.btx_names.specs.refinement.Steps.{passes}
use Rattle.btx_names.specs.declared.token_counts.TokenTest.TheVariants.{Von, Apart}
use Rattle.btx_names.specs.language.Runs.{run_len}
use Rattle.btx_names.specs.language.Tokens.{NameToken, tokens_of}
use Rattle.btx_names.specs.language.NameParts.{Sections, One, Two, Three, split_at_comma, cut_first, cut_again, sections_of, unsplit, parts_by, von_end}
use Rattle.btx_names.specs.language.NameParts.{last_start, up_to_last, before_final}
use Rattle.btx_names.specs.laws.NameParts.{parts_in_order, HasJrByForm, surname_of, before_last, final_of, is_all_breaks, parts_of}
use Rattle.btx_names.proofs.SplitLemmas.{tokens_of-comma}
use Rattle.btx_names.proofs.RangeLemmas.{up_to_last-lt, von_start-le}
use Rattle.btx_names.specs.refinement.NameParts.{von_start}

-- ---- commas

-- a text that is cut at a comma has the tokens of both pieces
pub tokens_of-cut : (text : List ℕ) (cut : List ℕ × List ℕ) → split_at_comma text ≡ Some cut → tokens_of text ≡ tokens_of cut.0 ++ tokens_of cut.1
unfolding split_at_comma
tokens_of-cut text cut is = at (is_all_breaks (drop (run_len Comma 0 text + 1) text)) refl is where
  size : ℕ
  size = run_len Comma 0 text

  one_more : size + 1 ≡ suc size
  one_more = omega arith

  at : (t : Bool) → is_all_breaks (drop (size + 1) text) ≡ t → cond t None (Some (take size text, drop (size + 1) text)) ≡ Some cut
      → tokens_of text ≡ tokens_of cut.0 ++ tokens_of cut.1
  at true all same = let never : ⊥ = cc in absurd never
  at false all same = within (cases_lt size (length text)) where
    pieces : cut ≡ (take size text, drop (size + 1) text)
    pieces = cc

    within : (size < length text) ⊎ (length text ≤ size) → tokens_of text ≡ tokens_of cut.0 ++ tokens_of cut.1
    within (inl less) = rw (pieces, one_more) (tokens_of-comma text less)
    within (inr all_of_it) = absurd (true≢false (sym (ap is_all_breaks (drop_all (size + 1) text (omega arith))) ∙ all))

-- ---- order

covers_unsplit : (tokens : List NameToken) → (unsplit tokens).first ++ (unsplit tokens).von ++ (unsplit tokens).last ≡ tokens
covers_unsplit tokens =
    let start = von_start tokens in
    let end = last_start tokens in
    let le = von_start-le tokens in
    let size : start + (end - start) ≡ end = omega arith in
    let rest : drop (end - start) (drop start tokens) ≡ drop end tokens = rw (drop-drop (end - start) start tokens, size) refl in
    append_assoc (take start tokens) (take (end - start) (drop start tokens)) (drop end tokens)
    ∙ ap (λ more. take start tokens ++ more) (rw (sym rest) (take-append-drop (end - start) (drop start tokens)))
    ∙ take-append-drop start tokens

pub covers : (name : List ℕ) → parts_in_order (sections_of name) (parts_of name) ≡ tokens_of name
unfolding sections_of
covers name = at (split_at_comma name) refl where
  at_second : (surname rest : List ℕ) (cut : Option (List ℕ × List ℕ)) → split_at_comma rest ≡ cut →
      parts_in_order (cut_again surname rest cut) (parts_by (cut_again surname rest cut)) ≡ tokens_of surname ++ tokens_of rest
  at_second surname rest None is = ap (λ tokens. tokens ++ tokens_of rest) (take-append-drop (von_end (tokens_of surname)) (tokens_of surname))
  at_second surname rest (Some cut) is =
      append_assoc (take (von_end (tokens_of surname)) (tokens_of surname) ++ drop (von_end (tokens_of surname)) (tokens_of surname)) (tokens_of cut.0)
      (tokens_of cut.1)
      ∙ ap (λ tokens. tokens ++ (tokens_of cut.0 ++ tokens_of cut.1)) (take-append-drop (von_end (tokens_of surname)) (tokens_of surname))
      ∙ ap (λ tokens. tokens_of surname ++ tokens) (sym (tokens_of-cut rest cut is))

  at : (cut : Option (List ℕ × List ℕ)) → split_at_comma name ≡ cut → parts_in_order (cut_first name cut) (parts_by (cut_first name cut)) ≡ tokens_of name
  at None is = covers_unsplit (tokens_of name)
  at (Some cut) is = at_second cut.0 cut.1 (split_at_comma cut.1) refl ∙ sym (tokens_of-cut name cut is)

pub jr_by_form : (name : List ℕ) → HasJrByForm (sections_of name) (parts_of name)
jr_by_form name = at (sections_of name) where
  at : (sections : Sections) → HasJrByForm sections (parts_by sections)
  at (One name) = refl
  at (Two surname first) = refl
  at (Three surname jr first) = tt

-- ---- the final token

drop_none : (n : ℕ) → let none : List NameToken = [] in drop n none ≡ []
drop_none zero = refl
drop_none (suc n) = refl

slice_get-drop : (n : ℕ) (tokens : List NameToken) (i : ℕ) → slice_get (drop n tokens) i ≡ slice_get tokens (n + i)
slice_get-drop zero tokens i = let e : 0 + i ≡ i = omega arith in rw e refl
slice_get-drop (suc n) [] i = refl
slice_get-drop (suc n) (token ∷ tokens) i = let e : suc n + i ≡ suc (n + i) = omega arith in rw e (slice_get-drop n tokens i)

final_behind : (tokens : List NameToken) (n : ℕ) → n < length tokens → final_of (drop n tokens) ≡ final_of tokens
final_behind tokens n less =
    let size : n + (length (drop n tokens) - 1) ≡ length tokens - 1 = omega (arith, length-drop n tokens) in
    slice_get-drop n tokens (length (drop n tokens) - 1) ∙ ap (λ i. slice_get tokens i) size

final_of_von : (tokens : List NameToken) → final_of (drop (von_end tokens) tokens) ≡ final_of tokens
final_of_von [] = rw (drop_none (von_end [])) refl
final_of_von (token ∷ tokens) = final_behind (token ∷ tokens) (von_end (token ∷ tokens)) (up_to_last-lt Von token tokens)

last_start-lt : (token : NameToken) (tokens : List NameToken) → last_start (token ∷ tokens) < length (token ∷ tokens)
last_start-lt token tokens = at (nat_lt 0 (von_end (token ∷ tokens))) (up_to_last-lt Von token tokens) (up_to_last-lt Apart token tokens) where
  at : (t : Bool) → von_end (token ∷ tokens) < length (token ∷ tokens) → up_to_last (passes Apart) (before_final (token ∷ tokens)) < length (token ∷ tokens) →
      cond t (von_end (token ∷ tokens)) (up_to_last (passes Apart) (before_final (token ∷ tokens))) < length (token ∷ tokens)
  at true h g = h
  at false h g = g

final_of_last : (tokens : List NameToken) → final_of (drop (last_start tokens) tokens) ≡ final_of tokens
final_of_last [] = rw (drop_none (last_start [])) refl
final_of_last (token ∷ tokens) = final_behind (token ∷ tokens) (last_start (token ∷ tokens)) (last_start-lt token tokens)

pub final_is_last : (name : List ℕ) → final_of (parts_of name).last ≡ final_of (tokens_of (surname_of (sections_of name)))
final_is_last name = at (sections_of name) where
  at : (sections : Sections) → final_of (parts_by sections).last ≡ final_of (tokens_of (surname_of sections))
  at (One name) = final_of_last (tokens_of name)
  at (Two surname first) = final_of_von (tokens_of surname)
  at (Three surname jr first) = final_of_von (tokens_of surname)

-- what stands before a list that isn't empty is a front of the whole without its final one
front_of-final : (before behind front : List NameToken) (final : NameToken) → front ++ final ∷ [] ≡ before ++ behind → 0 < length behind →
    (rest : List NameToken) × (front ≡ before ++ rest)
front_of-final [] behind front final is some = (front, refl)
front_of-final (token ∷ before) behind [] final is some = absurd (none before tail_is) where
  tail_is : [] ≡ before ++ behind
  tail_is = cc

  none : (before : List NameToken) → [] ≡ before ++ behind → ⊥
  none [] is = let is_none : length behind ≡ 0 = rw (sym is) refl in omega (arith, is_none, some)
  none (next ∷ before) is = cc
front_of-final (token ∷ before) behind (next ∷ front) final is some = one_more (front_of-final before behind front final tail_is some) where
  tail_is : front ++ final ∷ [] ≡ before ++ behind
  tail_is = cc

  head_is : next ≡ token
  head_is = cc

  one_more : (rest : List NameToken) × (front ≡ before ++ rest) → (rest : List NameToken) × (next ∷ front ≡ (token ∷ before) ++ rest)
  one_more more = (more.0, rw (head_is, more.1) refl)

last_is_some : (tokens : List NameToken) (front : List NameToken) (final : NameToken) → tokens ≡ front ++ final ∷ []
    → 0 < length (drop (last_start tokens) tokens)
last_is_some [] [] final is = cc
last_is_some [] (next ∷ front) final is = cc
last_is_some (token ∷ tokens) front final is =
    let less = last_start-lt token tokens in
    let size = length-drop (last_start (token ∷ tokens)) (token ∷ tokens) in
    omega (arith, size)

von_leaves_some : (tokens : List NameToken) (front : List NameToken) (final : NameToken) → tokens ≡ front ++ final ∷ []
    → 0 < length (drop (von_end tokens) tokens)
von_leaves_some [] [] final is = cc
von_leaves_some [] (next ∷ front) final is = cc
von_leaves_some (token ∷ tokens) front final is =
    let less = up_to_last-lt Von token tokens in
    let size = length-drop (von_end (token ∷ tokens)) (token ∷ tokens) in
    omega (arith, size)

pub final_is_never_von : (name : List ℕ) (front : List NameToken) (final : NameToken) → tokens_of (surname_of (sections_of name)) ≡ front ++ final ∷ [] →
    (rest : List NameToken) × (front ≡ before_last (sections_of name) (parts_of name) ++ rest)
final_is_never_von name front final = at (sections_of name) where
  surname_at : (tokens : List NameToken) → tokens ≡ front ++ final ∷ [] → (rest : List NameToken) × (front ≡ take (von_end tokens) tokens ++ rest)
  surname_at tokens is =
      front_of-final (take (von_end tokens) tokens) (drop (von_end tokens) tokens) front final
      (sym is ∙ sym (take-append-drop (von_end tokens) tokens)) (von_leaves_some tokens front final is)

  at : (sections : Sections) → tokens_of (surname_of sections) ≡ front ++ final ∷ [] →
      (rest : List NameToken) × (front ≡ before_last sections (parts_by sections) ++ rest)
  at (One whole) is =
      let tokens = tokens_of whole in
      front_of-final ((unsplit tokens).first ++ (unsplit tokens).von) (unsplit tokens).last front final
      (sym is ∙ sym (covers_unsplit tokens)) (last_is_some tokens front final is)
  at (Two surname first) is = surname_at (tokens_of surname) is
  at (Three surname jr first) is = surname_at (tokens_of surname) is

pub ruleset part_laws = (covers, jr_by_form, final_is_last, final_is_never_von)
