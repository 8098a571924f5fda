-- What a table by name has after an entry is put into it.
use Rattle.std.proofs.Common.{◌≡◌, ℕ, List, [], ◌∷◌, Bool, true, false, Option, None, Some, cond, if◌then◌else◌, refl, sym, ap, ◌∙◌, arith}
use Rattle.std.proofs.lemmas.Slice.Eq.{bytes_eq-Decides}
use Rattle.std.specs.Str.{bytes_eq}
use Rattle.std.specs.Option.{option_or, option_map}
use Rattle.std.specs.Map.{lookup}
use Rattle.indexmap.specs.IndexMap.{insert_entry}
use Rattle.btx_aux.specs.refinement.Entries.{Bytes, pairs_in}
use Rattle.btx_aux.specs.laws.Pairs.{file_of_pair}
use Rattle.btx_aux.specs.refinement.Pairs.{first_file}

-- two keys are the same where their bytes are
abbrev pub same_key : Bytes → Bytes → Bool
same_key a b = bytes_eq a.items b.items

-- the heads differ from the new key, or are it
step_same : (b : Bool) (v old : List ℕ) (rest : Option (List ℕ)) → cond b (Some v) rest ≡ option_or (cond b (Some v) None) (cond b (Some old) rest)
step_same true v old rest = refl
step_same false v old rest = refl

step_other : (at_head at_new : Bool) (v old : List ℕ) (rest : Option (List ℕ)) → (at_head ≡ true → at_new ≡ false)
    → cond at_head (Some old) (option_or (cond at_new (Some v) None) rest) ≡ option_or (cond at_new (Some v) None) (cond at_head (Some old) rest)
step_other true true v old rest h = let bad : true ≡ false = h refl in cc
step_other true false v old rest h = refl
step_other false b v old rest h = refl

apart : (new head other : List ℕ) → bytes_eq new head ≡ false → bytes_eq other head ≡ true → bytes_eq other new ≡ false
apart new head other differ same = grind (arith, bytes_eq-Decides)

alone : (b : Bool) (v : List ℕ) → cond b (Some v) None ≡ option_or (cond b (Some v) None) None
alone true v = refl
alone false v = refl

pub first_file-insert_entry : (es : List (Bytes × Bytes)) (k v : Bytes) (other : List ℕ) → first_file (pairs_in (insert_entry same_key es k v)) other
    ≡ option_or (file_of_pair (k.items, v.items) other) (first_file (pairs_in es) other)
first_file-insert_entry [] k v other = alone (bytes_eq other k.items) v.items
first_file-insert_entry (e ∷ es) k v other = by_test (same_key k e.0) refl (first_file-insert_entry es k v other) where
  by_test : (b : Bool) → b ≡ same_key k e.0 → first_file (pairs_in (insert_entry same_key es k v)) other ≡ option_or (file_of_pair (k.items, v.items) other)
      (first_file (pairs_in es) other)
      → first_file (pairs_in (if b then (e.0, v) ∷ es else e ∷ insert_entry same_key es k v)) other ≡ option_or (file_of_pair (k.items, v.items) other)
      (first_file (pairs_in (e ∷ es)) other)
  by_test true same before = rw ((bytes_eq-Decides k.items e.0.items).0 (sym same)) (step_same (bytes_eq other e.0.items) v.items e.1.items _)
  by_test false same before = ap (cond (bytes_eq other e.0.items) (Some e.1.items)) before
      ∙ step_other (bytes_eq other e.0.items) (bytes_eq other k.items) v.items e.1.items _ (apart k.items e.0.items other (sym same))

map_cond : (b : Bool) (v : Bytes) (rest : Option Bytes) → cond b (Some v.items) (option_map (λ (v : Bytes). v.items) rest)
    ≡ option_map (λ (v : Bytes). v.items) (cond b (Some v) rest)
map_cond true v rest = refl
map_cond false v rest = refl

-- a look-up by bytes
pub first_file-pairs_in : (es : List (Bytes × Bytes)) (name : List ℕ) → first_file (pairs_in es) name
    ≡ option_map (λ (v : Bytes). v.items) (lookup (λ (k : Bytes). bytes_eq name k.items) es)
first_file-pairs_in [] name = refl
first_file-pairs_in (e ∷ es) name = ap (cond (bytes_eq name e.0.items) (Some e.1.items)) (first_file-pairs_in es name)
    ∙ map_cond (bytes_eq name e.0.items) e.1 _
