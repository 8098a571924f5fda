-- The table of strings, as a list of names and values.
use Rattle.std.proofs.Common.{◌≡◌, ℕ, Bool, true, false, cond, if◌then◌else◌, List, [], ◌∷◌, Option, None, Some, refl, sym, ap, subst}
use Rattle.std.specs.Prelude.{IfSome}
use Rattle.std.specs.Borrow.{Bor}
use Rattle.std.specs.Option.{option_map}
use Rattle.std.specs.Str.{bytes_eq}
use Rattle.std.specs.Map.{lookup}
use Rattle.indexmap.specs.IndexMap.{insert_entry}
use Rattle.btx_aux.specs.refinement.Entries.{Bytes}
use Rattle.btx_bib.specs.refinement.Grammar.Squeezing.{is_squeezed}
use Rattle.btx_bib.specs.refinement.Strings.{AreSqueezed, pairs_of, Strings}

pub pairs-insert : (entries : List (Bytes × List ℕ)) (name : Bytes) (value : List ℕ)
    → pairs_of (insert_entry (λ (a b : Bytes). bytes_eq a.items b.items) entries name value) ≡ insert_entry bytes_eq (pairs_of entries) name.items value
pairs-insert [] name value = refl
pairs-insert (e ∷ entries) name value = by_test (bytes_eq name.items e.0.items) (pairs-insert entries name value) where
  by_test : (b : Bool) → pairs_of (insert_entry (λ (a b : Bytes). bytes_eq a.items b.items) entries name value) ≡ insert_entry bytes_eq (pairs_of entries)
      name.items value
      → pairs_of (if b then (e.0, value) ∷ entries else e ∷ insert_entry (λ (a b : Bytes). bytes_eq a.items b.items) entries name value)
      ≡ (if b then (e.0.items, value) ∷ pairs_of entries else (e.0.items, e.1) ∷ insert_entry bytes_eq (pairs_of entries) name.items value)
  by_test true rest = refl
  by_test false rest = ap (λ (pairs : Strings). (e.0.items, e.1) ∷ pairs) rest

pub lookup-pairs : (entries : List (Bytes × List ℕ)) (name : List ℕ) → lookup (λ (key : Bytes). bytes_eq name key.items) entries
    ≡ lookup (bytes_eq name) (pairs_of entries)
lookup-pairs [] name = refl
lookup-pairs (e ∷ entries) name = ap (cond (bytes_eq name e.0.items) (Some e.1)) (lookup-pairs entries name)

-- ---- squeezed values

pub lookup-squeezed : (test : List ℕ → Bool) (strings : Strings) → AreSqueezed strings → IfSome (lookup test strings) (λ text. is_squeezed false text ≡ true)
lookup-squeezed test [] h = tt
lookup-squeezed test (e ∷ strings) h = by_test (test e.0) (lookup-squeezed test strings h.1) where
  by_test : (b : Bool) → IfSome (lookup test strings) (λ text. is_squeezed false text ≡ true)
      → IfSome (cond b (Some e.1) (lookup test strings)) (λ text. is_squeezed false text ≡ true)
  by_test true rest = h.0
  by_test false rest = rest

pub found-squeezed : (found : Option (Bor (List ℕ))) (value : Option (List ℕ)) → option_map (λ (text : Bor (List ℕ)). text.now) found ≡ value
    → IfSome value (λ text. is_squeezed false text ≡ true) → IfSome found (λ text. is_squeezed false text.now ≡ true)
found-squeezed None value is h = tt
found-squeezed (Some text) value is h = subst (λ (o : Option (List ℕ)). IfSome o (λ t. is_squeezed false t ≡ true)) (sym is) h

pub insert-squeezed : (strings : Strings) (name value : List ℕ) → AreSqueezed strings → is_squeezed false value ≡ true
    → AreSqueezed (insert_entry bytes_eq strings name value)
insert-squeezed [] name value h new = (new, tt)
insert-squeezed (e ∷ strings) name value h new = by_test (bytes_eq name e.0) (insert-squeezed strings name value h.1 new) where
  by_test : (b : Bool) → AreSqueezed (insert_entry bytes_eq strings name value)
      → AreSqueezed (if b then (e.0, value) ∷ strings else e ∷ insert_entry bytes_eq strings name value)
  by_test true rest = (new, h.1)
  by_test false rest = (h.0, rest)
