-- The table of the files by name.
use Rattle.std.proofs.Common.{◌≡◌, ℕ, ◌+◌, ◌<◌, Bool, true, false, List, [], ◌∷◌, Option, None, Some, is_some, length, if◌then◌else◌, cond, get_or, drop, refl}
use Rattle.std.proofs.Common.{ap, ◌∙◌, arith}
use Rattle.std.proofs.lemmas.List.{drop_more}
use Rattle.std.proofs.lemmas.Slice.Eq.{bytes_eq-Decides}
use Rattle.std.specs.Borrow.{Bor}
use Rattle.std.specs.Map.{lookup}
use Rattle.std.specs.Option.{option_map, option_or}
use Rattle.std.specs.Str.{bytes_eq}
use Rattle.indexmap.specs.IndexMap.{insert_entry}
use Rattle.btx_c.specs.declared.handed.BtxFile.{BtxFile}
use Rattle.btx_c.specs.CallerFiles.{bytes_in, known}
use Rattle.btx_c.specs.Known.{AddsFile, said_in}

-- the entries of a table by name
abbrev pub Entries : Type 0
Entries = List (Bor (List ℕ) × Bor BtxFile)

-- two keys are the same where their bytes are
abbrev pub same_key : Bor (List ℕ) → Bor (List ℕ) → Bool
same_key a b = bytes_eq a.now b.now

-- the file of a name, if there is one
abbrev pub file_of_name : Entries → List ℕ → Option (Bor BtxFile)
file_of_name entries name = lookup (λ (key : Bor (List ℕ)). bytes_eq name key.now) entries

-- what a table has for each name after a new key was put into it
file-insert : (es : Entries) (k : Bor (List ℕ)) (v : Bor BtxFile) (name : List ℕ) → is_some (file_of_name es k.now) ≡ false
    → file_of_name (insert_entry same_key es k v) name ≡ option_or (file_of_name es name) (cond (bytes_eq name k.now) (Some v) None)
file-insert [] k v name none = refl
file-insert (e ∷ es) k v name none = by_test (same_key k e.0) none (file-insert es k v name) where
  heads : (b : Bool) (rest other : Option (Bor BtxFile)) → cond b (Some e.1) (option_or rest other) ≡ option_or (cond b (Some e.1) rest) other
  heads true rest other = refl
  heads false rest other = refl

  by_test : (b : Bool) → is_some (cond b (Some e.1) (file_of_name es k.now)) ≡ false
      → (is_some (file_of_name es k.now) ≡ false → file_of_name (insert_entry same_key es k v) name
      ≡ option_or (file_of_name es name) (cond (bytes_eq name k.now) (Some v) None))
      → file_of_name (if b then (e.0, v) ∷ es else e ∷ insert_entry same_key es k v) name ≡ option_or (file_of_name (e ∷ es) name)
      (cond (bytes_eq name k.now) (Some v) None)
  by_test true none later = cc
  by_test false none later =
      ap (cond (bytes_eq name e.0.now) (Some e.1)) (later none)
      ∙ heads (bytes_eq name e.0.now) (file_of_name es name) (cond (bytes_eq name k.now) (Some v) None)

-- a file whose name isn't there adds what it says
pub adds_new : (es : Entries) (k : Bor (List ℕ)) (v : Bor BtxFile) → k ≡ v.now.name → is_some (file_of_name es k.now) ≡ false
    → AddsFile es (insert_entry same_key es k v) v.now
adds_new es k v is none = λ name.
    ap (option_map (λ (file : Bor BtxFile). bytes_in file.now)) (file-insert es k v name none)
    ∙ by_test (bytes_eq name k.now) (bytes_eq v.now.name.now name) (turned name) (file_of_name es name) where
      turned : (name : List ℕ) → bytes_eq name k.now ≡ bytes_eq v.now.name.now name
      turned name = rw is (grind (arith, bytes_eq-Decides))

      by_test : (a b : Bool) → a ≡ b → (found : Option (Bor BtxFile))
          → option_map (λ (file : Bor BtxFile). bytes_in file.now) (option_or found (cond a (Some v) None))
          ≡ option_or (option_map (λ (file : Bor BtxFile). bytes_in file.now) found) (if b then Some (bytes_in v.now) else None)
      by_test a b same (Some file) = refl
      by_test true true same None = refl
      by_test false false same None = refl
      by_test true false same None = cc
      by_test false true same None = cc

-- a file whose name is there adds nothing
pub adds_none : (es : Entries) (file : BtxFile) → is_some (file_of_name es file.name.now) ≡ true → AddsFile es es file
adds_none es file some = λ name. by_found name (file_of_name es name) refl where
  by_test : (name : List ℕ) (b : Bool) → bytes_eq file.name.now name ≡ b → file_of_name es name ≡ None → None ≡ (if b then Some (bytes_in file) else None)
  by_test name true same none =
      let is : file.name.now ≡ name = (bytes_eq-Decides file.name.now name).0 same in
      grind (arith, is, none, some)
  by_test name false same none = refl

  by_found : (name : List ℕ) (found : Option (Bor BtxFile)) → file_of_name es name ≡ found
      → option_map (λ (file : Bor BtxFile). bytes_in file.now) found
      ≡ option_or (option_map (λ (file : Bor BtxFile). bytes_in file.now) found) (known (file ∷ []) name)
  by_found name (Some here) is = refl
  by_found name None is = by_test name (bytes_eq file.name.now name) refl is

-- what one more file adds to what is said of a name
pub adds_next : (before after : Entries) (files : List BtxFile) (i : ℕ) (d : BtxFile) (name : List ℕ) → i < length files
    → said_in after name ≡ option_or (said_in before name) (known (get_or files i d ∷ []) name)
    → option_or (said_in before name) (known (drop i files) name) ≡ option_or (said_in after name) (known (drop (i + 1) files) name)
adds_next before after files i d name within adds =
    rw (drop_more files i d within, adds) (by_test (bytes_eq (get_or files i d).name.now name) (said_in before name)) where
      by_test : (b : Bool) (said : Option (Option (List ℕ)))
          → option_or said (if b then Some (bytes_in (get_or files i d)) else known (drop (i + 1) files) name)
          ≡ option_or (option_or said (if b then Some (bytes_in (get_or files i d)) else None)) (known (drop (i + 1) files) name)
      by_test b (Some said) = refl
      by_test true None = refl
      by_test false None = refl
