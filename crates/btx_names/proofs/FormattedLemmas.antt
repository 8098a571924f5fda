-- Lemmas on a name in a format.
use Rattle.std.proofs.Common.{Ok, Err, Result, cond, Bool, true, false, ◌≡◌, ℕ, zero, suc, ◌-◌, ◌≤◌, ◌∙◌, ap, length, ℤ, pos, Some, None, List, [], refl, sym}
use Rattle.std.proofs.Common.{arith}
use Rattle.std.specs.Prelude.{slice_get, IfOk, IsTrue, ◌||◌}
use Rattle.btx_names.specs.language.NameLists.{names_of}
use Rattle.btx_text.specs.declared.element_kind.TextMode.{TextMode}
use Rattle.btx_text.specs.declared.fault.Fault.{Fault}
use Rattle.btx_text.specs.declared.fault.Fault.TheVariants.{Memory, Device, FileLimit, StringLimit}
use Rattle.btx_strings.specs.declared.answers.Complaints.{Complaints}
use Rattle.btx_strings.specs.refinement.Answers.{Answers}
use Rattle.btx_names.specs.refinement.Becomes.{WritesLegal}
use Rattle.btx_names.specs.language.NameParts.{NameParts, Sections, sections_of, ends_in_comma, has_third_comma, parts_by}
use Rattle.btx_names.specs.language.Formats.{is_legal}
use Rattle.btx_names.specs.refinement.Right.{IsWritten, IsText}
use Rattle.btx_strings.specs.language.Answers.{no_complaints}
use Rattle.btx_names.specs.language.Answered.{names_before, nth_name, one_name_text, one_name_complaints}
use Rattle.btx_names.specs.refinement.Answered.{complaints_with, text_of_answer, complaints_of_answer}
use Rattle.btx_names.specs.refinement.FormattedNames.{formatted}
use Rattle.btx_names.specs.laws.NameParts.{parts_of}

pub nth_name_none : (names : List ℕ) (number : ℤ) → names_before number ≡ None → nth_name names number ≡ None
unfolding nth_name
nth_name_none names number is = rw is refl

pub nth_name_some : (names : List ℕ) (number : ℤ) (n : ℕ) → names_before number ≡ Some n → nth_name names number ≡ slice_get (names_of names) n
unfolding nth_name
nth_name_some names number n is = rw is refl

pub ruleset nth_steps = (nth_name_none, nth_name_some)

pub names_before_some : (number : ℤ) (n : ℕ) → number ≡ pos n → (n ≡ 0 → ⊥) → names_before number ≡ Some (n - 1)
unfolding names_before
names_before_some number zero is some = absurd (some refl)
names_before_some number (suc n) is some = let e : suc n - 1 ≡ n = omega arith in rw (is, e) refl

pub ruleset before_steps = (names_before_some)

-- ---- one name

pub one_illegal : (mode : TextMode) (name format : List ℕ) (sections : Sections) (legal : Bool) (complaints : Complaints) → sections ≡ sections_of name
    → legal ≡ is_legal format →
    legal ≡ false → complaints ≡ complaints_with (ends_in_comma name) (has_third_comma sections) legal →
    (one_name_text mode name format ≡ []) × (one_name_complaints name format ≡ complaints)
unfolding one_name_text one_name_complaints
one_illegal mode name format sections legal complaints cut asked illegal are =
    (rw (sym asked, illegal) refl, rw (are, cut, asked) refl)

pub one_legal : (mode : TextMode) (name format : List ℕ) (sections : Sections) (legal : Bool) (parts : NameParts) (complaints : Complaints)
    → sections ≡ sections_of name →
    legal ≡ is_legal format → legal ≡ true → parts ≡ parts_by sections → complaints ≡ complaints_with (ends_in_comma name) (has_third_comma sections) legal →
    (one_name_text mode name format ≡ formatted mode parts format) × (one_name_complaints name format ≡ complaints)
unfolding one_name_text one_name_complaints
one_legal mode name format sections legal parts complaints cut asked is_so made are =
    (rw (sym asked, is_so, made, cut) refl, rw (are, cut, asked) refl)

-- a fault on the way is the fault of the whole
pub answers_fault : (mode : TextMode) (name format text : List ℕ) (sections : Sections) (parts : NameParts) (fault : Fault) → sections ≡ sections_of name
    → parts ≡ parts_by sections →
    WritesLegal 1000000 (is_legal format) (Err fault) text (formatted mode parts format)
    → Answers (Err fault) (one_name_text mode name format) (one_name_complaints name format)
unfolding one_name_text one_name_complaints
answers_fault mode name format text sections parts Memory cut made h = tt
answers_fault mode name format text sections parts StringLimit cut made h = rw (h.0, sym cut, sym made) h.1
answers_fault mode name format text sections parts Device cut made h = h
answers_fault mode name format text sections parts FileLimit cut made h = h

-- ---- where nothing is wrong

right_with : (comma third legal : Bool) → (comma || third) ≡ false → legal ≡ true → complaints_with comma third legal ≡ no_complaints
right_with false false true w l = refl
right_with false true legal w l = cc
right_with true third legal w l = cc
right_with false false false w l = cc

pub written_right : (r : Result Bool Fault) (mode : TextMode) (name format text : List ℕ) (parts : NameParts) (wrong : Bool)
    → WritesLegal 1000000 (is_legal format) r text (formatted mode parts format) → parts ≡ parts_of name
    → wrong ≡ (ends_in_comma name || has_third_comma (sections_of name)) → wrong ≡ false →
    IfOk r (λ written. IsTrue written → IsWritten mode name format text)
unfolding one_name_text one_name_complaints
written_right (Ok true) mode name format text parts wrong w p is f = λ t. record {
  text_is = w.1 ∙ (ap (λ ps. formatted mode ps format) p ∙ sym (ap (λ b. cond b (formatted mode (parts_of name) format) []) w.0));
  right = right_with (ends_in_comma name) (has_third_comma (sections_of name)) (is_legal format) (sym is ∙ f) w.0;
}
written_right (Ok false) mode name format text parts wrong w p is f = λ t. cc
written_right (Err e) mode name format text parts wrong w p is f = tt

pub text_right : (mode : TextMode) (names format text name : List ℕ) (number : ℤ) → nth_name names number ≡ Some name → IsWritten mode name format text
    → length text ≤ 1000000 → IsText mode names number format text
text_right mode names format text name number n w l = record {
  text_is = w.text_is ∙ sym (ap (λ o. text_of_answer mode o format) n);
  right = ap (λ o. complaints_of_answer o format) n ∙ w.right;
  within = l;
}
