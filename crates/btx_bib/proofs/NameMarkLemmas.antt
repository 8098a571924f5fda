-- Marks of names: they stay, and a name whose mark isn't there isn't there.
use Rattle.std.proofs.Common.{◌≡◌, ℕ, zero, suc, ◌+◌, ◌<◌, arith, Bool, true, false, if◌then◌else◌, List, [], ◌∷◌, ◌++◌, length, map, take, get_or, None, Some}
use Rattle.std.proofs.Common.{Result, Ok, Err, OnOk, OnErr, ◌⊎◌, inl, inr, refl, ap, ◌∙◌, sym, subst, true≢false, append_assoc}
use Rattle.std.specs.Prelude.{slice_index_or, slice_set}
use Rattle.std.specs.Option.{option_map}
use Rattle.std.specs.Str.{bytes_eq}
use Rattle.std.proofs.lemmas.List.{map-append, take_more}
use Rattle.std.proofs.lemmas.Slice.Eq.{bytes_eq-Decides}
use Rattle.btx_text.specs.language.Keys.{folded}
use Rattle.btx_aux.specs.refinement.Entries.{Bytes, texts_of}
use Rattle.btx_bib.specs.refinement.Finding.{first_place}
use Rattle.btx_bib.specs.refinement.Marks.{AreMarked, is_marked, mark, marked}
use Rattle.btx_bib.proofs.TableNameLemmas.{texts_of-push}

-- a mark that is set
set_there : (marks : List Bool) (i j : ℕ) → j < length marks → slice_index_or marks i false ≡ true → slice_index_or (slice_set marks j true) i false ≡ true
set_there [] i j h e = cc
set_there (m ∷ ms) zero zero h e = refl
set_there (m ∷ ms) zero (suc j) h e = e
set_there (m ∷ ms) (suc i) zero h e = e
set_there (m ∷ ms) (suc i) (suc j) h e = set_there ms i j (grind arith) e

set_itself : (marks : List Bool) (i : ℕ) → i < length marks → slice_index_or (slice_set marks i true) i false ≡ true
set_itself [] i h = grind arith
set_itself (m ∷ ms) zero h = refl
set_itself (m ∷ ms) (suc i) h = set_itself ms i (grind arith)

small : (marks : List Bool) (name : List ℕ) → length marks ≡ 2048 → mark name < length marks
unfolding mark
small marks name h = grind arith

pub marked-new : (marks : List Bool) (name : List ℕ) → length marks ≡ 2048 → is_marked (marked marks name) name ≡ true
unfolding is_marked marked
marked-new marks name h = set_itself marks (mark name) (small marks name h)

pub marked-stay : (marks : List Bool) (name : List ℕ) (names : List (List ℕ)) → length marks ≡ 2048 → AreMarked marks names
    → AreMarked (marked marks name) names
unfolding is_marked marked
marked-stay marks name [] h are = are
marked-stay marks name (first ∷ names) h are = (set_there marks (mark first) (mark name) (small marks name h) are.0, marked-stay marks name names h are.1)

pub marked-both : (marks : List Bool) (names more : List (List ℕ)) → AreMarked marks names → AreMarked marks more → AreMarked marks (names ++ more)
marked-both marks [] more are also = also
marked-both marks (first ∷ names) more are also = (are.0, marked-both marks names more are.1 also)

pub unmarked : (marks : List Bool) (name : List ℕ) (names : List (List ℕ)) → AreMarked marks names → is_marked marks name ≡ false
    → None ≡ first_place (bytes_eq name) names
unmarked marks name [] are lacks = refl
unmarked marks name (first ∷ names) are lacks = at_first (bytes_eq name first) refl (unmarked marks name names are.1 lacks) where
  at_first : (same : Bool) → bytes_eq name first ≡ same → None ≡ first_place (bytes_eq name) names
      → None ≡ (if same then Some 0 else option_map suc (first_place (bytes_eq name) names))
  at_first true same none = absurd (true≢false (sym are.0 ∙ ap (is_marked marks) (sym ((bytes_eq-Decides name first).0 same)) ∙ lacks))
  at_first false other none = ap (option_map suc) none

-- a name that is added to others, or isn't for want of memory
pub marked-added : (marks : List Bool) (name : List ℕ) (cited more after : List (List ℕ)) → length marks ≡ 2048 → AreMarked marks (cited ++ more)
    → (after ≡ more ++ name ∷ []) ⊎ (after ≡ more) → AreMarked (marked marks name) (cited ++ after)
marked-added marks name cited more after h are (inl is) =
    subst (AreMarked (marked marks name)) (append_assoc cited more (name ∷ []) ∙ ap (λ (rest : List (List ℕ)). cited ++ rest) (sym is))
    (marked-both (marked marks name) (cited ++ more) (name ∷ []) (marked-stay marks name (cited ++ more) h are) (marked-new marks name h, tt))
marked-added marks name cited more after h are (inr is) =
    subst (AreMarked (marked marks name)) (ap (λ (rest : List (List ℕ)). cited ++ rest) (sym is)) (marked-stay marks name (cited ++ more) h are)

pub either : {A E P Q : Type 0} (r : Result A E) → OnOk r P → OnErr r Q → P ⊎ Q
either (Ok a) p q = inl p
either (Err e) p q = inr q

-- the next key of a list
pub marked-next : (marks : List Bool) (keys : List Bytes) (place : ℕ) (key : Bytes) → length marks ≡ 2048 → place < length keys
    → AreMarked marks (map folded (texts_of (take place keys)))
    → AreMarked (marked marks (folded (get_or keys place key).items)) (map folded (texts_of (take (place + 1) keys)))
marked-next marks keys place key h within are =
    let name = folded (get_or keys place key).items in
    let before = map folded (texts_of (take place keys)) in
    let is : before ++ name ∷ [] ≡ map folded (texts_of (take (place + 1) keys)) =
    sym (ap (λ (front : List Bytes). map folded (texts_of front)) (take_more keys place key within)
    ∙ ap (map folded) (texts_of-push (take place keys) (get_or keys place key))
    ∙ map-append folded (texts_of (take place keys)) ((get_or keys place key).items ∷ [])) in
    subst (AreMarked (marked marks name)) is
    (marked-both (marked marks name) before (name ∷ []) (marked-stay marks name before h are) (marked-new marks name h, tt))
