-- Lemmas on lengths and beginnings.
use Rattle.std.proofs.Common.{◌≡◌, ℕ, zero, suc, ◌+◌, ◌-◌, ◌<◌, cond, List, [], ◌∷◌, ◌++◌, length, take, drop, refl, sym, ◌∙◌, ap, arith, append_assoc}
use Rattle.std.proofs.Common.{length-append}
use Rattle.std.proofs.lemmas.List.{take_at, drop_at, drop-drop, append-nil, take_all}
use Rattle.std.proofs.Math.Seq.{take-add}
use Rattle.btx_text.specs.language.Elements.{Element, is_character}
use Rattle.btx_strings.specs.language.Lengths.{take_characters}
use Rattle.btx_text.specs.laws.Elements.{text_of}

-- one element more, where characters are wanted
take_characters-cons : (n : ℕ) (part : Element) (parts : List Element) → 0 < n → take_characters n (part ∷ parts) ≡ part
    ∷ take_characters (cond (is_character part.kind) (n - 1) n) parts
unfolding take_characters
take_characters-cons zero part parts h = absurd (omega arith)
take_characters-cons (suc n) part parts h = let e : suc n - 1 ≡ n = omega arith in rw e refl

take_characters-none : (parts : List Element) → take_characters 0 parts ≡ []
unfolding take_characters
take_characters-none [] = refl
take_characters-none (part ∷ parts) = refl

take_characters-nil : (n : ℕ) → take_characters n [] ≡ []
unfolding take_characters
take_characters-nil n = refl

-- how far a loop has come that looks for the end of the beginning `whole`, and how many characters are left to find
pub record IsFront (string : List ℕ) (end left : ℕ) (parts : List Element) (whole : List ℕ) : Type 0 where
  pub front : take end string ++ text_of (take_characters left parts) ≡ whole
  pub rest : drop end string ≡ text_of parts
  pub bound : end + length (text_of parts) ≡ length string

pub IsFront-more : (string : List ℕ) (end left left' : ℕ) (parts parts' : List Element) (part : Element) (whole : List ℕ) →
    IsFront string end left parts whole → parts ≡ part ∷ parts' → (left ≡ 0 → ⊥) → left' ≡ cond (is_character part.kind) (left - 1) left →
    IsFront string (end + length part.text) left' parts' whole
IsFront-more string end left left' parts parts' part whole h is some count =
    let text = part.text in
    let rest : drop end string ≡ text ++ text_of parts' = h.rest ∙ ap text_of is in
    let some' : 0 < left = omega arith in
    let taken : take_characters left parts ≡ part ∷ take_characters left' parts' = rw is (take_characters-cons left part parts' some' ∙ rw count refl) in
    let here : take (length text) (drop end string) ≡ text = ap (take (length text)) rest ∙ take_at text (text_of parts') (length text) refl in
    let front : take end string ++ (text ++ text_of (take_characters left' parts')) ≡ whole = ap (λ ps. take end string ++ text_of ps) (sym taken) ∙ h.front in
    let len : length (text_of parts) ≡ length text + length (text_of parts') = ap (λ (ps : List Element). length (text_of ps)) is
    ∙ length-append text (text_of parts') in
    let bound = h.bound in
    record {
      front = rw (take-add end (length text) string, here, append_assoc) front;
      rest = sym (drop-drop (length text) end string) ∙ ap (drop (length text)) rest ∙ drop_at text (text_of parts') (length text) refl;
      bound = omega arith;
    }

-- where no character is left to find, the beginning is what there is so far
pub IsFront-done : (string : List ℕ) (end : ℕ) (parts : List Element) (whole : List ℕ) → IsFront string end 0 parts whole → take end string ≡ whole
IsFront-done string end parts whole h = let front = h.front in rw (take_characters-none parts, append-nil) at front

-- where no element is left, it is the whole string
pub IsFront-all : (string : List ℕ) (end left : ℕ) (whole : List ℕ) → IsFront string end left [] whole → string ≡ whole
IsFront-all string end left whole h =
    let front = h.front in
    let same : take end string ≡ whole = rw (take_characters-nil left, append-nil) at front in
    let bound = h.bound in
    sym (take_all end string (omega arith)) ∙ same
