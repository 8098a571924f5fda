-- The files that were handed in, one after another.
use Rattle.std.proofs.Common.{◌≡◌, ◌⊎◌, inl, inr, ℕ, ◌+◌, ◌<◌, Bool, true, false, List, [], ◌∷◌, Option, None, Some, is_some, length, if◌then◌else◌, get_or}
use Rattle.std.proofs.Common.{drop, refl}
use Rattle.std.proofs.lemmas.List.{drop_more}
use Rattle.std.specs.Str.{bytes_eq}
use Rattle.btx_aux.specs.language.Files.{Files}
use Rattle.btx_c.specs.declared.handed.BtxFile.{BtxFile}
use Rattle.btx_c.specs.CallerFiles.{beside, bytes_in, is_known, known}

pub known_here : (files : List BtxFile) (i : ℕ) (d : BtxFile) (name : List ℕ) → i < length files → bytes_eq (get_or files i d).name.now name ≡ true
    → known (drop i files) name ≡ Some (bytes_in (get_or files i d))
known_here files i d name within test = rw (drop_more files i d within, test) refl

pub known_next : (files : List BtxFile) (i : ℕ) (d : BtxFile) (name : List ℕ) → i < length files → bytes_eq (get_or files i d).name.now name ≡ false
    → known (drop i files) name ≡ known (drop (i + 1) files) name
known_next files i d name within test = rw (drop_more files i d within, test) refl

-- whatever others there are, a file of which something was said is as it was said
pub beside_known : (files : List BtxFile) (others : Files) (name : List ℕ) (said : Option (List ℕ)) → known files name ≡ Some said → beside files others name
    ≡ said
beside_known [] others name said is = cc
beside_known (file ∷ files) others name said is =
    let Said : Bool → Type 0 = λ b. (if b then Some (bytes_in file) else known files name) ≡ Some said → (if b then bytes_in file else beside files others name)
    ≡ said in
    (elim (bytes_eq file.name.now name) as Said [ true ↦ λ here. cc | false ↦ λ later. beside_known files others name said later ]) is

-- a file of which nothing was said is as the others are
pub beside_unknown : (files : List BtxFile) (others : Files) (name : List ℕ) → known files name ≡ None → beside files others name ≡ others name
beside_unknown [] others name is = refl
beside_unknown (file ∷ files) others name is =
    let Said : Bool → Type 0 = λ b. (if b then Some (bytes_in file) else known files name) ≡ None → (if b then bytes_in file else beside files others name)
    ≡ others name in
    (elim (bytes_eq file.name.now name) as Said [ true ↦ λ here. cc | false ↦ λ later. beside_unknown files others name later ]) is

-- a file of which something was said is the same whatever others there are
pub known_same : (files : List BtxFile) (others more : Files) (name : List ℕ) → is_known files name ≡ true → beside files others name ≡ beside files more name
known_same [] others more name is = cc
known_same (file ∷ files) others more name is = by_test (bytes_eq file.name.now name) is (known_same files others more name) where
  by_test : (b : Bool) → is_some (if b then Some (bytes_in file) else known files name) ≡ true
      → (is_known files name ≡ true → beside files others name ≡ beside files more name)
      → (if b then bytes_in file else beside files others name) ≡ (if b then bytes_in file else beside files more name)
  by_test true is later = refl
  by_test false is later = later is

-- a file is as it was said, or as the others are, of which it has the same
pub same_or_other : (files : List BtxFile) (others more : Files) (name : List ℕ) → (beside files more name ≡ beside files others name)
    ⊎ (beside files others name ≡ others name)
same_or_other [] others more name = inr refl
same_or_other (file ∷ files) others more name = by_test (bytes_eq file.name.now name) (same_or_other files others more name) where
  by_test : (b : Bool) → (beside files more name ≡ beside files others name) ⊎ (beside files others name ≡ others name)
      → ((if b then bytes_in file else beside files more name) ≡ (if b then bytes_in file else beside files others name))
      ⊎ ((if b then bytes_in file else beside files others name) ≡ others name)
  by_test true later = inl refl
  by_test false later = later
