-- A table of names, as a list of names.
use Rattle.std.proofs.Common.{◌≡◌, ℕ, Bool, true, false, ◌||◌, if◌then◌else◌, List, [], ◌∷◌, ◌++◌, refl, ap, ◌∙◌}
use Rattle.std.specs.Str.{bytes_eq}
use Rattle.std.specs.List.{list_any}
use Rattle.indexmap.specs.IndexSet.{insert_key}
use Rattle.btx_aux.specs.refinement.Entries.{Bytes, texts_of}
use Rattle.btx_aux.specs.language.Names.{with_name_once}
use Rattle.btx_aux.proofs.TableLemmas.{same_key}
use Rattle.btx_text.specs.language.Lists.{is_among}

pub is_among-texts_of : (names : List Bytes) (name : List ℕ) → list_any (λ (other : Bytes). bytes_eq name other.items) names ≡ is_among (texts_of names) name
is_among-texts_of [] name = refl
is_among-texts_of (first ∷ names) name = ap (λ (b : Bool). bytes_eq name first.items || b) (is_among-texts_of names name)

pub texts_of-push : (names : List Bytes) (name : Bytes) → texts_of (names ++ name ∷ []) ≡ texts_of names ++ name.items ∷ []
texts_of-push [] name = refl
texts_of-push (first ∷ names) name = ap (λ (rest : List (List ℕ)). first.items ∷ rest) (texts_of-push names name)

texts_of-if : (b : Bool) (names : List Bytes) (name : Bytes) → texts_of (if b then names else names ++ name ∷ [])
    ≡ (if b then texts_of names else texts_of names ++ name.items ∷ [])
texts_of-if true names name = refl
texts_of-if false names name = texts_of-push names name

pub with_name-texts_of : (names : List Bytes) (name : Bytes) → texts_of (insert_key same_key names name) ≡ with_name_once (texts_of names) name.items
with_name-texts_of names name =
    texts_of-if (list_any (same_key name) names) names name
    ∙ ap (λ (b : Bool). if b then texts_of names else texts_of names ++ name.items ∷ []) (is_among-texts_of names name.items)
