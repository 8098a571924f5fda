-- Which files a run asks for, and that none is asked for twice.
use Rattle.std.proofs.Common.{◌≡◌, ℕ, ◌+◌, ◌<◌, inl, inr, Bool, true, false, List, [], ◌∷◌, ◌++◌, Option, None, Some, length, take, drop, get_or, refl, sym, ap}
use Rattle.std.proofs.Common.{◌∙◌, subst}
use Rattle.std.specs.Prelude.{codes}
use Rattle.std.specs.List.{AllByRecursion, IsDistinct}
use Rattle.std.specs.Str.{bytes_eq}
use Rattle.std.proofs.lemmas.List.{map-append, take-append-drop}
use Rattle.std.proofs.lemmas.Map.Keys.{IsDistinct-cons, IsDistinct-head, IsDistinct-tail}
use Rattle.std.proofs.lemmas.Slice.Eq.{bytes_eq-Decides}
use Rattle.btx_aux.specs.language.Answers.{FinderAnswer}
use Rattle.btx_aux.specs.refinement.Answers.{AsksTop, AsksTopAtMost, ByAnswers}
use Rattle.btx_aux.specs.refinement.Entries.{Bytes, texts_of}
use Rattle.btx_aux.specs.language.Files.{Files}
use Rattle.btx_aux.specs.language.Job.{AuxJob, job_of_files}
use Rattle.btx_aux.specs.language.Names.{has_ending}
use Rattle.btx_aux.proofs.AnswerLemmas.{all-both, by_both, by_map, some_files}
use Rattle.btx_aux.proofs.NameEndings.{distinct-both, job_databases_end, job_databases_once, job_style_ends, one_ending, with_ending-ends}
use Rattle.btx_run.specs.refinement.Files.Asked.{AreAmong, names_in, style_name}
use Rattle.btx_core.specs.refinement.Files.Readings.{job_named}
use Rattle.btx_run.proofs.ReadingLemmas.{names_more}
use Rattle.btx_run.specs.refinement.Files.Names.{top_name}

abbrev Names : Type 0
Names = List (List ℕ)

-- ---- names among others

pub among-none : (all : Names) → AreAmong [] all
unfolding AreAmong
among-none all = tt

among-behind : (names front all : Names) → AreAmong names all → AreAmong names (front ++ all)
unfolding AreAmong
among-behind names [] all among = among
among-behind [] (first ∷ front) all among = tt
among-behind (name ∷ names) (first ∷ front) all among = inr (among-behind (name ∷ names) front all among)

pub among-both : (xs ys all more : Names) → AreAmong xs all → AreAmong ys more → AreAmong (xs ++ ys) (all ++ more)
unfolding AreAmong
among-both [] ys all more among among' = among-behind ys all more among'
among-both (x ∷ xs) ys [] more among among' = absurd among
among-both (x ∷ xs) ys (first ∷ all) more (inl here) among' = inl (here.0, among-both xs ys all more here.1 among')
among-both (x ∷ xs) ys (first ∷ all) more (inr there) among' = inr (among-both (x ∷ xs) ys all more there among')

pub among-one : (name : List ℕ) (names : Names) → names ≡ name ∷ [] → AreAmong names (name ∷ [])
unfolding AreAmong
among-one name names is = subst (λ (names : Names). AreAmong names (name ∷ [])) (sym is) (inl (refl, tt))

-- a name that was asked for, and some of those after it
pub among-first : (name : List ℕ) (all : Names) (xs ys : Names) → xs ≡ name ∷ [] → AreAmong ys all → AreAmong (xs ++ ys) (name ∷ all)
among-first name all xs ys is among = among-both xs ys (name ∷ []) all (among-one name xs is) among

pub among-named : (job : AuxJob) (name : List ℕ) → job.style ≡ Some name → (names : Names) → AreAmong names (name ∷ job.databases)
    → AreAmong names (names_in job)
among-named job name is names among = subst (λ (style : Option (List ℕ)). AreAmong names (style_name style ++ job.databases)) (sym is) among

-- the name of one database more
pub among-more : (names : List Bytes) (i : ℕ) (name : Bytes) (text : List ℕ) → i < length names → name ≡ get_or names i name → text ≡ name.items
    → (xs ys : Names) → AreAmong xs (texts_of (take i names)) → AreAmong ys (text ∷ []) → AreAmong (xs ++ ys) (texts_of (take (i + 1) names))
among-more names i name text lt is same xs ys among one =
    subst (AreAmong (xs ++ ys)) (ap (λ text. texts_of (take i names) ++ text ∷ []) same ∙ sym (names_more names i name lt is)) (among-both xs ys _ _ among one)

-- some of the first names are some of all
pub among-front : (names all more : Names) → AreAmong names all → AreAmong names (all ++ more)
unfolding AreAmong
among-front [] all more among = tt
among-front (name ∷ names) [] more among = absurd among
among-front (name ∷ names) (first ∷ all) more (inl here) = inl (here.0, among-front names all more here.1)
among-front (name ∷ names) (first ∷ all) more (inr there) = inr (among-front (name ∷ names) all more there)

pub among-all : (names : List Bytes) (i : ℕ) (name : Bytes) (text : List ℕ) → i < length names → name ≡ get_or names i name → text ≡ name.items
    → (xs ys : Names) → AreAmong xs (texts_of (take i names)) → AreAmong ys (text ∷ []) → AreAmong (xs ++ ys) (texts_of names)
among-all names i name text lt is same xs ys among one =
    subst (AreAmong (xs ++ ys)) (sym (map-append (λ (name : Bytes). name.items) (take (i + 1) names) (drop (i + 1) names))
    ∙ ap texts_of (take-append-drop (i + 1) names))
    (among-front (xs ++ ys) (texts_of (take (i + 1) names)) (texts_of (drop (i + 1) names)) (among-more names i name text lt is same xs ys among one))

-- what holds of all holds of these
pub all-among : (P : List ℕ → Type 0) (names all : Names) → AreAmong names all → AllByRecursion P all → AllByRecursion P names
unfolding AreAmong
all-among P [] all among holds = tt
all-among P (name ∷ names) [] among holds = absurd among
all-among P (name ∷ names) (first ∷ all) (inl here) holds = (subst P (sym here.0) holds.0, all-among P names all here.1 holds.1)
all-among P (name ∷ names) (first ∷ all) (inr there) holds = all-among P (name ∷ names) all there holds.1

distinct-none : IsDistinct bytes_eq []
unfolding IsDistinct
distinct-none = tt

pub distinct-among : (names all : Names) → AreAmong names all → IsDistinct bytes_eq all → IsDistinct bytes_eq names
unfolding AreAmong
distinct-among [] all among once = distinct-none
distinct-among (name ∷ names) [] among once = absurd among
distinct-among (name ∷ names) (first ∷ all) (inl here) once =
    IsDistinct-cons bytes_eq name names
    (subst (λ x. AllByRecursion (λ y. bytes_eq x y ≡ false) names) (sym here.0) (all-among _ names all here.1 (IsDistinct-head bytes_eq first all once)))
    (distinct-among names all here.1 (IsDistinct-tail bytes_eq first all once))
distinct-among (name ∷ names) (first ∷ all) (inr there) once = distinct-among (name ∷ names) all there (IsDistinct-tail bytes_eq first all once)

-- ---- a job's names

-- a name with this ending has no other of that length
other-ending : (ending other name : List ℕ) → length ending ≡ length other → bytes_eq ending other ≡ false → has_ending ending name ≡ true
    → has_ending other name ≡ false
other-ending ending other name long apart ends = by (has_ending other name) refl where
  by : (b : Bool) → has_ending other name ≡ b → b ≡ false
  by true ends' = let same = (bytes_eq-Decides ending other).1 (one_ending ending other name long ends ends') in sym same ∙ apart
  by false ends' = refl

others-end : (ending other : List ℕ) → length ending ≡ length other → bytes_eq ending other ≡ false → (names : Names)
    → AllByRecursion (λ name. has_ending ending name ≡ true) names
    → AllByRecursion (λ name. has_ending other name ≡ false) names
others-end ending other long apart [] ends = tt
others-end ending other long apart (name ∷ names) ends = (other-ending ending other name long apart ends.0, others-end ending other long apart names ends.1)

style-end : (style : Option (List ℕ)) → ((name : List ℕ) → style ≡ Some name → has_ending (codes ".bst") name ≡ true)
    → AllByRecursion (λ name. has_ending (codes ".bst") name ≡ true) (style_name style)
style-end None ends = tt
style-end (Some name) ends = (ends name refl, tt)

style-once : (style : Option (List ℕ)) → IsDistinct bytes_eq (style_name style)
unfolding IsDistinct
style-once None = tt
style-once (Some name) = (tt, tt)

module _ (files : Files) (top : List ℕ) (job : AuxJob) (is : job ≡ job_of_files files top) where
  style_ends : AllByRecursion (λ name. has_ending (codes ".bst") name ≡ true) (style_name job.style)
  style_ends = style-end job.style (λ name named. job_style_ends files top name (sym (ap (λ (job : AuxJob). job.style) is) ∙ named))

  databases_end : AllByRecursion (λ name. has_ending (codes ".bib") name ≡ true) job.databases
  databases_end = subst (λ (job : AuxJob). AllByRecursion (λ name. has_ending (codes ".bib") name ≡ true) job.databases) (sym is) (job_databases_end files top)

  databases_once : IsDistinct bytes_eq job.databases
  databases_once = subst (λ (job : AuxJob). IsDistinct bytes_eq job.databases) (sym is) (job_databases_once files top)

  names_once : IsDistinct bytes_eq (names_in job)
  names_once =
      distinct-both (has_ending (codes ".bst")) (style_name job.style) job.databases style_ends
      (others-end (codes ".bib") (codes ".bst") refl refl job.databases databases_end)
      (style-once job.style) databases_once

  none_aux : AllByRecursion (λ name. has_ending (codes ".aux") name ≡ false) (names_in job)
  none_aux =
      all-both _ (style_name job.style) job.databases (others-end (codes ".bst") (codes ".aux") refl refl (style_name job.style) style_ends)
      (others-end (codes ".bib") (codes ".aux") refl refl job.databases databases_end)

-- ---- a whole run

top-ends : (name : List ℕ) → has_ending (codes ".aux") (top_name name) ≡ true
top-ends name = with_ending-ends (codes ".aux") name

-- the names that a job's `.aux` files are asked for by, and then those of its style and its databases
asked-once : (files : Files) (name : List ℕ) (job : AuxJob) → job ≡ job_named files name → (xs ys : Names) → AsksTop (top_name name) xs
    → AreAmong ys (names_in job) → IsDistinct bytes_eq (xs ++ ys)
asked-once files name job is xs ys top among =
    distinct-both (has_ending (codes ".aux")) xs ys
    (subst (λ (names : Names). AllByRecursion (λ name. has_ending (codes ".aux") name ≡ true) names) (sym top.is) (top-ends name, top.endings))
    (all-among _ ys (names_in job) among (none_aux files (top_name name) job is)) top.once
    (distinct-among ys (names_in job) among (names_once files (top_name name) job is))

-- what holds of all files that answer so, in the whole of a run; none is asked for twice
pub of_run : {content later : Option Files} {given between after : List FinderAnswer} (name : List ℕ) (job : AuxJob) {Claim : Files → Type 0}
    {Whole : Files → Type 0} → later ≡ content
    → ByAnswers content given between (AsksTop (top_name name)) (λ files. job ≡ job_named files name)
    → ByAnswers later between after (λ asked. AreAmong asked (names_in job)) Claim
    → ((files : Files) → job ≡ job_named files name → Claim files → Whole files) → ByAnswers content given after (λ names. IsDistinct bytes_eq names) Whole
of_run {content} name job {Claim} {Whole} same first second holds =
    let known = some_files (by_map first (λ names asks. asks.once) (λ files is. is)) in
    by_both same first second (asked-once known.0 name job known.1) holds

-- as far as the `.aux` files were asked for none was asked for twice
pub begun_once : (top : List ℕ) (names : Names) → AsksTopAtMost top names → IsDistinct bytes_eq names
begun_once top names (inl none) = subst (λ (names : Names). IsDistinct bytes_eq names) (sym none) distinct-none
begun_once top names (inr asks) = asks.once
