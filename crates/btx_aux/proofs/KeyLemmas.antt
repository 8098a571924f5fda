-- Keys and the table of their lowered forms, as a list of keys.
use Rattle.std.proofs.Common.{◌≡◌, ℕ, ◌+◌, nat_lt, arith, ◌||◌, Bool, true, false, not, cond, if◌then◌else◌, IfSome, List, [], ◌∷◌, ◌++◌, map, length, Option}
use Rattle.std.proofs.Common.{None, Some, is_some, refl, sym, ap, ◌∙◌}
use Rattle.std.specs.Prelude.{position, slice_get}
use Rattle.std.specs.declared.alloc.Global.{Global}
use Rattle.std.specs.declared.vec.Vec.{Vec}
use Rattle.std.specs.Str.{bytes_eq}
use Rattle.std.specs.Option.{option_and_then, option_map}
use Rattle.std.specs.List.{find, list_any, position_or_len}
use Rattle.std.proofs.lemmas.List.{length-map}
use Rattle.std.proofs.lemmas.List.Folds.{find_at}
use Rattle.std.proofs.lemmas.Option.{slice_get_past, slice_get-map}
use Rattle.std.proofs.lemmas.Bool.Decides.{nat_tests}
use Rattle.std.proofs.lemmas.Slice.Eq.{bytes_eq-Decides}
use Rattle.indexmap.specs.IndexSet.{insert_key}
use Rattle.btx_text.specs.language.Keys.{folded}
use Rattle.btx_aux.specs.refinement.Entries.{Bytes, texts_of}
use Rattle.btx_aux.specs.refinement.KeyTable.{IsTableOf, listed_by}
use Rattle.btx_aux.specs.language.Names.{is_same_key, listed_as, with_key, with_name_once}
use Rattle.btx_aux.proofs.NameLemmas.{is_among-texts_of, texts_of-push, with_name-texts_of}
use Rattle.btx_aux.proofs.TableLemmas.{same_key}

-- ---- where something stands in a list

position_or_len-map : {A B : Type 0} (test : B → Bool) (f : A → B) (xs : List A) → position_or_len test (map f xs) ≡ position_or_len (λ (x : A). test (f x)) xs
position_or_len-map test f [] = refl
position_or_len-map test f (x ∷ xs) = ap (λ (n : ℕ). cond (not (test (f x))) (1 + n) 0) (position_or_len-map test f xs)

position-map : {A B : Type 0} (test : B → Bool) (f : A → B) (xs : List A) → position test (map f xs) ≡ position (λ (x : A). test (f x)) xs
position-map test f xs =
    ap (λ (n : ℕ). cond (nat_lt n (length (map f xs))) (Some n) None) (position_or_len-map test f xs)
    ∙ ap (λ (n : ℕ). cond (nat_lt (position_or_len (λ (x : _). test (f x)) xs) n) (Some (position_or_len (λ (x : _). test (f x)) xs)) None) (length-map xs f)

-- what stands at the place of the first that passes is the first that passes
find-position : {A : Type 0} (test : A → Bool) (xs : List A) → find test xs ≡ option_and_then (slice_get xs) (position test xs)
find-position test xs = find_at test xs ∙ by_test (nat_lt (position_or_len test xs) (length xs)) refl where
  by_test : (b : Bool) → nat_lt (position_or_len test xs) (length xs) ≡ b → slice_get xs (position_or_len test xs)
      ≡ option_and_then (slice_get xs) (cond b (Some (position_or_len test xs)) None)
  by_test true within = refl
  by_test false past = slice_get_past xs (position_or_len test xs) (grind (arith, nat_tests))

-- ---- the table

-- the place that the table finds
pub place_in : (lowered keys : List Bytes) (key : List ℕ) (view : List (List ℕ)) → IsTableOf lowered keys → texts_of keys ≡ view
    → position (λ (other : Bytes). bytes_eq key other.items) lowered ≡ position (bytes_eq key) (map folded view)
place_in lowered keys key view table is =
    sym (position-map (bytes_eq key) (λ (b : Bytes). b.items) lowered)
    ∙ ap (position (bytes_eq key)) (table ∙ ap (map folded) is)

-- the key at that place
pub listed_at : (keys : List (List ℕ)) (lowered : List ℕ)
    → listed_by keys lowered ≡ option_and_then (slice_get keys) (position (bytes_eq lowered) (map folded keys))
listed_at keys lowered =
    find-position (λ (other : List ℕ). bytes_eq lowered (folded other)) keys
    ∙ ap (option_and_then (slice_get keys)) (sym (position-map (bytes_eq lowered) folded keys))

pub listed_by-some : (keys : List Bytes) (view : List (List ℕ)) (lowered : List ℕ) (place : ℕ) (key : Option Bytes) → texts_of keys ≡ view
    → Some place ≡ position (bytes_eq lowered) (map folded view) → key ≡ slice_get keys place
    → option_map (λ (b : Bytes). b.items) key ≡ listed_by view lowered
listed_by-some keys view lowered place key is at there =
    ap (option_map (λ (b : Bytes). b.items)) there
    ∙ sym (slice_get-map (λ (b : Bytes). b.items) keys place)
    ∙ ap (λ (names : List (List ℕ)). slice_get names place) is
    ∙ ap (option_and_then (slice_get view)) at
    ∙ sym (listed_at view lowered)

pub listed_by-none : (view : List (List ℕ)) (lowered : List ℕ) → None ≡ position (bytes_eq lowered) (map folded view) → None ≡ listed_by view lowered
listed_by-none view lowered at = ap (option_and_then (slice_get view)) at ∙ sym (listed_at view lowered)

-- ---- one more key

is_listed : (keys : List (List ℕ)) (lowered : List ℕ) → listed_by keys lowered ≡ None → list_any (bytes_eq lowered) (map folded keys) ≡ false
is_listed [] lowered none = refl
is_listed (key ∷ keys) lowered none = by_test (bytes_eq lowered (folded key)) refl none (is_listed keys lowered) where
  by_test : (b : Bool) → bytes_eq lowered (folded key) ≡ b → cond b (Some key) (listed_by keys lowered) ≡ None
      → (listed_by keys lowered ≡ None → list_any (bytes_eq lowered) (map folded keys) ≡ false) → list_any (bytes_eq lowered) (map folded (key ∷ keys)) ≡ false
  by_test true same none rest = cc
  by_test false other none rest = rw other (rest none)

pub absent_in : (lowered keys : List Bytes) (key : List ℕ) (view : List (List ℕ)) → IsTableOf lowered keys → texts_of keys ≡ view → listed_by view key ≡ None
    → list_any (λ (other : Bytes). bytes_eq key other.items) lowered ≡ false
absent_in lowered keys key view table is none =
    is_among-texts_of lowered key ∙ ap (list_any (bytes_eq key)) (table ∙ ap (map folded) is) ∙ is_listed view key none

map-push : (names : List (List ℕ)) (name : List ℕ) → map folded (names ++ name ∷ []) ≡ map folded names ++ folded name ∷ []
map-push [] name = refl
map-push (first ∷ names) name = ap (λ (rest : List (List ℕ)). folded first ∷ rest) (map-push names name)

pub IsTableOf-push : (lowered keys : List Bytes) (l k : Bytes) → IsTableOf lowered keys → l.items ≡ folded k.items
    → IsTableOf (lowered ++ l ∷ []) (keys ++ k ∷ [])
IsTableOf-push lowered keys l k table form =
    texts_of-push lowered l
    ∙ ap (λ (names : List (List ℕ)). names ++ l.items ∷ []) table
    ∙ ap (λ (name : List ℕ). map folded (texts_of keys) ++ name ∷ []) form
    ∙ sym (ap (map folded) (texts_of-push keys k) ∙ map-push (texts_of keys) k.items)

-- ---- keys without capital letters

list_any-folded : (keys : List (List ℕ)) (key : List ℕ) → list_any (is_same_key key) keys ≡ list_any (bytes_eq (folded key)) (map folded keys)
list_any-folded [] key = refl
list_any-folded (first ∷ keys) key = ap (λ (b : Bool). bytes_eq (folded key) (folded first) || b) (list_any-folded keys key)

-- among keys that are lowered, a lowered key is listed where it stands
module _ (keys : List (List ℕ)) (key : List ℕ) where
  with_name-lowered : keys ≡ map folded keys → folded key ≡ key → with_name_once keys key ≡ with_key keys key
  with_name-lowered table form =
      let test : list_any (bytes_eq key) keys ≡ list_any (is_same_key key) keys =
      ap (λ (k : List ℕ). list_any (bytes_eq k) keys) (sym form) ∙ ap (list_any (bytes_eq (folded key))) table ∙ sym (list_any-folded keys key) in
      ap (λ (b : Bool). if b then keys else keys ++ key ∷ []) test

pub listed_as-lowered : (keys : List (List ℕ)) (key : List ℕ) → keys ≡ map folded keys → folded key ≡ key
    → IfSome (listed_as keys key) (λ (earlier : List ℕ). earlier ≡ key)
listed_as-lowered [] key table form = tt
listed_as-lowered (first ∷ keys) key table form = by_test (is_same_key key first) refl (listed_as-lowered keys key rest form) where
  at_first : first ≡ folded first
  at_first = cc

  rest : keys ≡ map folded keys
  rest = cc

  by_test : (b : Bool) → is_same_key key first ≡ b → IfSome (listed_as keys key) (λ (earlier : List ℕ). earlier ≡ key)
      → IfSome (cond b (Some first) (listed_as keys key)) (λ (earlier : List ℕ). earlier ≡ key)
  by_test true same others = at_first ∙ sym ((bytes_eq-Decides (folded key) (folded first)).0 same) ∙ form
  by_test false other others = others

-- the table with a further lowered key
module _ (lowered : List Bytes) (key : Bytes) where
  pub IsTableOf-lowered : IsTableOf lowered lowered → folded key.items ≡ key.items
      → IsTableOf (insert_key same_key lowered key) (insert_key same_key lowered key)
  IsTableOf-lowered table form = by_test (list_any (same_key key) lowered) where
    by_test : (b : Bool) → IsTableOf (if b then lowered else lowered ++ key ∷ []) (if b then lowered else lowered ++ key ∷ [])
    by_test true = table
    by_test false = IsTableOf-push lowered lowered key key table (sym form)

  pub with_key-lowered : (view : List (List ℕ)) → IsTableOf lowered lowered → texts_of lowered ≡ view → folded key.items ≡ key.items
      → texts_of (insert_key same_key lowered key) ≡ with_key view key.items
  with_key-lowered view table is form =
      with_name-texts_of lowered key
      ∙ with_name-lowered (texts_of lowered) key.items table form
      ∙ ap (λ (keys : List (List ℕ)). with_key keys key.items) is

pub unspelled : (spelled : Option (Vec Bytes Global)) → is_some spelled ≡ false → spelled ≡ None
unspelled None none = refl
unspelled (Some list) none = let bad : true ≡ false = none in cc
