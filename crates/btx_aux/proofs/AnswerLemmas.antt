-- What is known by a finder's answers, part after part, and files that answer so.
use Rattle.std.proofs.Common.{◌≡◌, ℕ, Bool, false, if◌then◌else◌, List, [], ◌∷◌, ◌++◌, Option, None, Some, Result, Ok, Err, OnErr, IfSome, refl, sym, ap, ◌∙◌}
use Rattle.std.proofs.Common.{subst, append_assoc, append-nil}
use Rattle.std.proofs.lemmas.List.{map-append}
use Rattle.std.proofs.lemmas.Cmp.{nat_list_eq_equiv}
use Rattle.std.proofs.lemmas.Map.Keys.{IsDistinct-head, IsDistinct-tail}
use Rattle.std.specs.List.{AllByRecursion, IsDistinct}
use Rattle.std.specs.Str.{bytes_eq}
use Rattle.btx_aux.specs.language.Files.{Files}
use Rattle.btx_aux.specs.language.Answers.{Agree, FinderAnswer, names_asked}
use Rattle.btx_aux.specs.refinement.Answers.{ByAnswers}

-- ---- lists

pub all-front : {T : Type 0} (P : T → Type 0) (xs ys : List T) → AllByRecursion P (xs ++ ys) → AllByRecursion P xs
all-front P [] ys all = tt
all-front P (x ∷ xs) ys all = (all.0, all-front P xs ys all.1)

pub all-back : {T : Type 0} (P : T → Type 0) (xs ys : List T) → AllByRecursion P (xs ++ ys) → AllByRecursion P ys
all-back P [] ys all = all
all-back P (x ∷ xs) ys all = all-back P xs ys all.1

pub all-both : {T : Type 0} (P : T → Type 0) (xs ys : List T) → AllByRecursion P xs → AllByRecursion P ys → AllByRecursion P (xs ++ ys)
all-both P [] ys first second = second
all-both P (x ∷ xs) ys first second = (first.0, all-both P xs ys first.1 second)

pub on_err : {T E P : Type 0} (result : Result T E) → P → OnErr result P
on_err (Ok value) holds = tt
on_err (Err fault) holds = holds

-- ---- parts

module _ {content : Option Files} {before after : List FinderAnswer} {Asks : List (List ℕ) → Type 0} {Claim : Files → Type 0} where
  -- nothing was asked
  pub by_none : after ≡ before → Asks [] → ((files : Files) → Claim files) → ByAnswers content before after Asks Claim
  by_none same asks holds = record {
    answers = [];
    given = same ∙ sym (append-nil before);
    shown = of_any content;
    asks = asks;
    holds = λ files agree. holds files;
  } where
    of_any : (content : Option Files) → IfSome content (λ files. Agree files [])
    of_any None = tt
    of_any (Some files) = tt

  -- what follows from a part
  pub by_map : {Asks' : List (List ℕ) → Type 0} {Claim' : Files → Type 0} → ByAnswers content before after Asks' Claim'
      → ((names : List (List ℕ)) → Asks' names → Asks names)
      → ((files : Files) → Claim' files → Claim files) → ByAnswers content before after Asks Claim
  by_map part asks holds = record {
    answers = part.answers;
    given = part.given;
    shown = part.shown;
    asks = asks (names_asked part.answers) part.asks;
    holds = λ files agree. holds files (part.holds files agree);
  }

  -- what follows from two parts, one after the other
  pub by_both : {later : Option Files} {between : List FinderAnswer} {Asks₁ Asks₂ : List (List ℕ) → Type 0} {Claim₁ Claim₂ : Files → Type 0} → later ≡ content
      → ByAnswers content before between Asks₁ Claim₁ → ByAnswers later between after Asks₂ Claim₂
      → ((xs ys : List (List ℕ)) → Asks₁ xs → Asks₂ ys → Asks (xs ++ ys)) → ((files : Files) → Claim₁ files → Claim₂ files → Claim files)
      → ByAnswers content before after Asks Claim
  by_both same first second asks holds = record {
    answers = first.answers ++ second.answers;
    given = second.given ∙ ap (λ (xs : List FinderAnswer). xs ++ second.answers) first.given ∙ append_assoc before first.answers second.answers;
    shown = shown_both content first.shown (subst (λ (content : Option Files). IfSome content (λ files. Agree files second.answers)) same second.shown);
    asks = subst Asks (sym (map-append (λ (given : FinderAnswer). given.name) first.answers second.answers)) (asks _ _ first.asks second.asks);
    holds = λ files agree. holds files (first.holds files (all-front _ first.answers second.answers agree))
        (second.holds files (all-back _ first.answers second.answers agree));
  } where
    shown_both : (content : Option Files) → IfSome content (λ files. Agree files first.answers) → IfSome content (λ files. Agree files second.answers)
        → IfSome content (λ files. Agree files (first.answers ++ second.answers))
    shown_both None a b = tt
    shown_both (Some files) a b = all-both _ first.answers second.answers a b

  -- what holds by the answers holds of the content that a finder shows
  pub shown_by : ByAnswers content before after Asks Claim → IfSome content Claim
  shown_by part = of content part.shown where
    of : (content : Option Files) → IfSome content (λ files. Agree files part.answers) → IfSome content Claim
    of None agree = tt
    of (Some files) agree = part.holds files agree

-- a file was asked for
pub by_fetch : {content : Option Files} {before after : List FinderAnswer} (name : List ℕ) (bytes : Option (List ℕ))
    → after ≡ before ++ record { name = name; bytes = bytes } ∷ [] → IfSome content (λ files. files name ≡ bytes)
    → ByAnswers content before after (λ names. names ≡ name ∷ []) (λ files. files name ≡ bytes)
by_fetch {content} name bytes given shown = record {
  answers = record { name = name; bytes = bytes } ∷ [];
  given = given;
  shown = of content shown;
  asks = refl;
  holds = λ files agree. agree.0;
} where
  of : (content : Option Files) → IfSome content (λ files. files name ≡ bytes)
      → IfSome content (λ files. Agree files (record { name = name; bytes = bytes } ∷ []))
  of None is = tt
  of (Some files) is = (is, tt)

-- ---- files that answer so

-- the files that were answered, and no other
abbrev pub files_answered : List FinderAnswer → Files
files_answered [] name = None
files_answered (given ∷ answers) name = if bytes_eq given.name name then given.bytes else files_answered answers name

others_agree : (given : FinderAnswer) (files : Files) (answers : List FinderAnswer)
    → AllByRecursion (λ name. bytes_eq given.name name ≡ false) (names_asked answers) → Agree files answers
    → Agree (λ name. if bytes_eq given.name name then given.bytes else files name) answers
others_agree given files [] apart agree = tt
others_agree given files (other ∷ answers) apart agree =
    (ap (λ (b : Bool). if b then given.bytes else files other.name) apart.0 ∙ agree.0, others_agree given files answers apart.1 agree.1)

-- answers for names of which none was asked for twice
pub files_agree : (answers : List FinderAnswer) → IsDistinct bytes_eq (names_asked answers) → Agree (files_answered answers) answers
files_agree [] distinct = tt
files_agree (given ∷ answers) distinct = (
  ap (λ (b : Bool). if b then given.bytes else files_answered answers given.name) (nat_list_eq_equiv.refl given.name),
  others_agree given (files_answered answers) answers (IsDistinct-head bytes_eq given.name (names_asked answers) distinct)
      (files_agree answers (IsDistinct-tail bytes_eq given.name (names_asked answers) distinct)),
)

-- where none was asked for twice there are files of which the claim holds
pub some_files : {content : Option Files} {before after : List FinderAnswer} {Claim : Files → Type 0}
    → ByAnswers content before after (λ names. IsDistinct bytes_eq names) Claim → (files : Files) × Claim files
some_files part = (files_answered part.answers, part.holds (files_answered part.answers) (files_agree part.answers part.asks))
