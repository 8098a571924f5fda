-- Where a title, or a part of one, begins.
use Rattle.std.proofs.Common.{◌≡◌, ◌↔◌, ◌<◌, ◌⊎◌, inl, inr, Bool, true, false, cond, List, [], ◌∷◌, ◌++◌, length, IsTrue, refl, ap, ◌∙◌, arith}
use Rattle.std.specs.Prelude.{ℕ, codes}
use Rattle.std.specs.Str.{bytes_eq}
use Rattle.std.proofs.lemmas.Bool.Decides.{nat_tests}
use Rattle.std.specs.List.{list_all}
use Rattle.std.proofs.lemmas.Bool.{false≢true, and_parts, and_from}
use Rattle.btx_text.specs.language.Elements.{Element}
use Rattle.btx_strings.specs.language.Case.{is_white_text, after_colon, begins_title}
use Rattle.btx_strings.specs.laws.Case.{EndInColonAndWhite}
use Rattle.btx_strings.specs.refinement.Case.{is_colon}

abbrev is_white_part : Element → Bool
is_white_part part = is_white_text part.text

-- whitespace, if there is any, and then a colon
record EndInColon (before : List Element) : Type 0 where
  white : List Element
  colon : Element
  others : List Element
  parts : before ≡ white ++ colon ∷ others
  all_white : list_all is_white_part white ≡ true
  colon_is : is_colon colon ≡ true

colon_from : (before : List Element) → after_colon before ≡ true → EndInColon before
colon_from [] h = absurd (false≢true h)
colon_from (part ∷ before) h = at (is_white_text part.text) refl h (colon_from before) where
  at : (t : Bool) → is_white_text part.text ≡ t → cond t (after_colon before) (is_colon part) ≡ true → (after_colon before ≡ true → EndInColon before)
      → EndInColon (part ∷ before)
  at true is e rest =
      let r = rest e in
      record {
        white = part ∷ r.white;
        colon = r.colon;
        others = r.others;
        parts = ap (λ ps. part ∷ ps) r.parts;
        all_white = and_from _ _ is r.all_white;
        colon_is = r.colon_is;
      }
  at false is e rest = record { white = []; colon = part; others = before; parts = refl; all_white = refl; colon_is = e }

-- a colon is no whitespace
colon_is_no_white : (part : Element) → is_colon part ≡ true → is_white_text part.text ≡ false
colon_is_no_white part h = at part.text (and_parts _ _ h).1 where
  at : (text : List ℕ) → bytes_eq text (codes ":") ≡ true → is_white_text text ≡ false
  at [] e = refl
  at (b ∷ []) e = grind (arith, nat_tests)
  at (b ∷ c ∷ bs) e = refl

after_colon-white : (white : List Element) (colon : Element) (others : List Element) → list_all is_white_part white ≡ true → is_colon colon ≡ true
    → after_colon (white ++ colon ∷ others) ≡ true
after_colon-white [] colon others h k = rw (colon_is_no_white colon k) k
after_colon-white (part ∷ white) colon others h k =
    let parts = and_parts (is_white_part part) (list_all is_white_part white) h in
    let here : is_white_text part.text ≡ true = parts.0 in
    rw here (after_colon-white white colon others parts.1 k)

title_from : (before : List Element) → begins_title before ≡ true → (before ≡ []) ⊎ EndInColonAndWhite before
title_from [] h = inl refl
title_from (part ∷ before) h =
    let parts = and_parts _ _ h in
    let r = colon_from before parts.1 in
    inr (record {
      white = part ∷ r.white;
      colon = r.colon;
      others = r.others;
      parts = ap (λ ps. part ∷ ps) r.parts;
      some = omega arith;
      all_white =
          and_from _ _ parts.0 r.all_white;
      is_colon = r.colon_is;
    })

title_white : (white : List Element) (colon : Element) (others : List Element) → 0 < length white → list_all is_white_part white ≡ true → is_colon colon ≡ true
    → begins_title (white ++ colon ∷ others) ≡ true
title_white [] colon others some h k = absurd (omega arith)
title_white (part ∷ white) colon others some h k = let parts = and_parts (is_white_part part) (list_all is_white_part white) h in
    and_from _ _ parts.0 (after_colon-white white colon others parts.1 k)

title_to : (before : List Element) → (before ≡ []) ⊎ EndInColonAndWhite before → begins_title before ≡ true
title_to before (inl none) = rw none refl
title_to before (inr e) = ap begins_title e.parts ∙ title_white e.white e.colon e.others e.some e.all_white e.is_colon

pub title_beginnings : (before : List Element) → IsTrue (begins_title before) ↔ ((before ≡ []) ⊎ EndInColonAndWhite before)
title_beginnings before = (title_from before, title_to before)
