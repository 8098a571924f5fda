-- A name ends in a comma where it has a comma at depth 0 that no token follows.
use Rattle.std.proofs.Common.{◌≡◌, ℕ, suc, ◌+◌, Bool, true, false, not, cond, eqb, ◌&&◌, ◌||◌, List, [], ◌∷◌, ◌++◌, Option, Some, None, length, reverse, refl}
use Rattle.std.proofs.Common.{sym, ◌∙◌, ap, arith, append_assoc, length-append}
use Rattle.std.proofs.lemmas.Bool.{eqb-true, and_parts, and_right, lt-ltb, true≢false}
use Rattle.std.proofs.lemmas.List.{reverse-append}
use Rattle.std.proofs.lemmas.List.Folds.{find-append}
use Rattle.std.specs.Prelude.{filter, find, fold, nat_lt}
use Rattle.std.specs.List.{range_with_len}
use Rattle.std.specs.Option.{option_map_or, option_or}
use Rattle.btx_text.specs.language.Class.{is_white, is_sep}
use Rattle.btx_text.specs.language.Elements.{depth_after, depth_of}
use Rattle.btx_names.specs.language.Runs.{is_break}
use Rattle.btx_names.specs.language.NameParts.{ends_in_comma}
use Rattle.btx_names.specs.laws.Commas.{ends_at, final_commas_of}
use Rattle.btx_names.proofs.SplitLemmas.{never}
use Rattle.btx_names.proofs.SeparatorLemmas.{depth_push}
use Rattle.btx_names.proofs.CommaLemmas.{comma_here, behind}
use Rattle.btx_names.specs.refinement.NameParts.{is_ink, last_ink}
use Rattle.btx_names.specs.laws.NameParts.{is_all_breaks}

-- ---- the last byte that is ink

-- a byte in front of a text is its last ink where the text has none
last_push : (b : ℕ) (bs : List ℕ) → last_ink (b ∷ bs) ≡ option_or (last_ink bs) (cond (is_ink b) (Some b) None)
last_push b bs = rw (reverse-append (b ∷ []) bs) (find-append is_ink (reverse bs) (b ∷ []) ∙ ap (option_or (last_ink bs)) (alone (is_ink b) refl)) where
  alone : (t : Bool) → is_ink b ≡ t → find is_ink (b ∷ []) ≡ cond t (Some b) None
  alone true is = rw is refl
  alone false is = rw is refl

-- a break that is ink is a comma, and what isn't ink is a break
inked : (b : ℕ) → is_break b ≡ true → is_ink b ≡ true → eqb b 44 ≡ true
inked b = at (is_white b || is_sep b) where
  at : (t : Bool) → (t || eqb b 44) ≡ true → not t ≡ true → eqb b 44 ≡ true
  at true is ink = absurd (true≢false (sym ink))
  at false is ink = is

blank : (b : ℕ) → is_ink b ≡ false → is_break b ≡ true
blank b = at (is_white b || is_sep b) where
  at : (t : Bool) → not t ≡ false → (t || eqb b 44) ≡ true
  at true is = refl
  at false is = absurd (true≢false is)

-- ---- a text without tokens

-- its last ink, if any, is a comma
comma_last : (s : List ℕ) → is_all_breaks s ≡ true → option_map_or (λ b. eqb b 44) (last_ink s) true ≡ true
comma_last [] all = refl
comma_last (b ∷ bs) all =
    let parts = and_parts (is_break b) (is_all_breaks bs) all in
    rw (last_push b bs) (at (last_ink bs) (is_ink b) refl parts.0 (comma_last bs parts.1)) where
      at : (last : Option ℕ) (ink : Bool) → is_ink b ≡ ink → is_break b ≡ true → option_map_or (λ b. eqb b 44) last true ≡ true →
          option_map_or (λ b. eqb b 44) (option_or last (cond ink (Some b) None)) true ≡ true
      at (Some x) ink is breaks more = more
      at None true is breaks more = inked b breaks is
      at None false is breaks more = refl

-- it keeps the depth
break_stays : (depth b : ℕ) → is_break b ≡ true → depth_after depth b ≡ depth
break_stays depth b is = rw (never is_break b 123 is refl, never is_break b 125 is refl) refl

stays : (depth : ℕ) (s : List ℕ) → is_all_breaks s ≡ true → fold depth_after depth s ≡ depth
stays depth [] all = refl
stays depth (b ∷ bs) all =
    let parts = and_parts (is_break b) (is_all_breaks bs) all in
    rw (break_stays depth b parts.0) (stays depth bs parts.1)

-- and a text without ink is one
no_token : (s : List ℕ) → last_ink s ≡ None → is_all_breaks s ≡ true
no_token [] none = refl
no_token (b ∷ bs) none = at (last_ink bs) (is_ink b) refl (no_token bs) (sym (last_push b bs) ∙ none) where
  at : (last : Option ℕ) (ink : Bool) → is_ink b ≡ ink → (last ≡ None → is_all_breaks bs ≡ true) → option_or last (cond ink (Some b) None) ≡ None
      → is_all_breaks (b ∷ bs) ≡ true
  at (Some x) ink is more none = cc
  at None true is more none = cc
  at None false is more none = rw (blank b is) (more refl)

-- ---- from front to back

-- a text, whose brace depth is given, ends in a comma
unfoldable pub ends : ℕ → List ℕ → Bool
ends depth s = option_map_or (λ b. eqb b 44) (last_ink s) false && eqb (fold depth_after depth s) 0

-- a comma here that no token follows, or one later
pub ends_push : (depth b : ℕ) (bs : List ℕ) → ends depth (b ∷ bs) ≡ (((eqb depth 0 && eqb b 44) && is_all_breaks bs) || ends (depth_after depth b) bs)
unfolding ends
ends_push depth b bs = rw (last_push b bs) (at (last_ink bs) refl) where
  deep : ℕ
  deep = fold depth_after (depth_after depth b) bs

  later : (x : ℕ) (t : Bool) → last_ink bs ≡ Some x → ((eqb depth 0 && eqb b 44) && is_all_breaks bs) ≡ t → (eqb x 44 && eqb deep 0)
      ≡ (t || (eqb x 44 && eqb deep 0))
  later x true last is =
      let parts = and_parts (eqb depth 0 && eqb b 44) (is_all_breaks bs) is in
      let here = and_parts (eqb depth 0) (eqb b 44) parts.0 in
      let comma_x : eqb x 44 ≡ true = rw last at (comma_last bs parts.1) in
      let low : deep ≡ 0 = stays (depth_after depth b) bs parts.1 ∙ rw (eqb-true depth 0 here.0, eqb-true b 44 here.1) refl in
      rw (comma_x, low) refl
  later x false last is = refl

  alone : (t : Bool) → eqb b 44 ≡ t → is_all_breaks bs ≡ true →
      (option_map_or (λ b. eqb b 44) (cond (is_ink b) (Some b) None) false && eqb deep 0) ≡ (((eqb depth 0 && t) && true) || false)
  alone true is all = rw (stays (depth_after depth b) bs all, eqb-true b 44 is) (at_depth (eqb depth 0)) where
    at_depth : (t : Bool) → t ≡ (((t && true) && true) || false)
    at_depth true = refl
    at_depth false = refl
  alone false is all = rw (none (is_ink b), and_right (eqb depth 0) false refl) refl where
    none : (ink : Bool) → option_map_or (λ b. eqb b 44) (cond ink (Some b) None) false ≡ false
    none true = is
    none false = refl

  at : (last : Option ℕ) → last_ink bs ≡ last →
      (option_map_or (λ b. eqb b 44) (option_or last (cond (is_ink b) (Some b) None)) false && eqb deep 0)
      ≡ (((eqb depth 0 && eqb b 44) && is_all_breaks bs) || (option_map_or (λ b. eqb b 44) last false && eqb deep 0))
  at (Some x) is = later x ((eqb depth 0 && eqb b 44) && is_all_breaks bs) is refl
  at None is = rw (no_token bs is) (alone (eqb b 44) refl (no_token bs is))

any_cond : (t : Bool) (place : ℕ) (places : List ℕ) → nat_lt 0 (length (cond t (place ∷ places) places)) ≡ (t || nat_lt 0 (length places))
any_cond true place places = lt-ltb 0 (suc (length places)) (omega arith)
any_cond false place places = refl

any_place : (string before rest : List ℕ) → string ≡ before ++ rest →
    nat_lt 0 (length (filter (ends_at string) (range_with_len (length before) (length rest)))) ≡ ends (depth_of before) rest
unfolding ends
any_place string before [] is = refl
any_place string before (b ∷ bs) is =
    let again : string ≡ (before ++ b ∷ []) ++ bs = is ∙ sym (append_assoc before (b ∷ []) bs) in
    let next : length (before ++ b ∷ []) ≡ length before + 1 = length-append before (b ∷ []) in
    let test : ends_at string (length before) ≡ ((eqb (depth_of before) 0 && eqb b 44) && is_all_breaks bs) =
    rw (comma_here string before b bs is, behind string before b bs is) refl in
    let more = any_place string (before ++ b ∷ []) bs again in
    let rest = filter (ends_at string) (range_with_len (length before + 1) (length bs)) in
    let others : nat_lt 0 (length rest) ≡ ends (depth_after (depth_of before) b) bs =
    ap (λ n. nat_lt 0 (length (filter (ends_at string) (range_with_len n (length bs))))) (sym next) ∙ more ∙ ap (λ n. ends n bs) (depth_push before b) in
    rw test (any_cond ((eqb (depth_of before) 0 && eqb b 44) && is_all_breaks bs) (length before) rest ∙ rw others (sym (ends_push (depth_of before) b bs)))

pub ending_by_commas : (name : List ℕ) → ends_in_comma name ≡ nat_lt 0 (length (final_commas_of name))
unfolding ends_in_comma ends
ending_by_commas name = sym (any_place name [] name refl)
