-- What is read of a folder's file.
use Rattle.std.proofs.Common.{◌≡◌, ◌∙◌, ◌++◌, ap, sym, subst, refl, ℕ, Bool, true, false, List, [], Option, Some, None, take}
use Rattle.std.specs.Prelude.{IfSome, IsUtf8, if◌then◌else◌}
use Rattle.std.specs.Option.{option_map}
use Rattle.std.specs.Str.{is_utf8}
use Rattle.std.proofs.lemmas.Str.{IsUtf8-from_is_utf8, is_utf8-from_IsUtf8}
use Rattle.btx_aux.specs.language.Files.{Files}
use Rattle.btx_command.specs.FolderFiles.{Holds, folder_files, most_read}
use Rattle.btx_command.specs.Paths.{path_in}

-- ---- a file of a folder

chosen : (b : Bool) (x y : Option (List ℕ)) → b ≡ true → (if b then x else y) ≡ x
chosen b x y is = ap (λ (it : Bool). if it then x else y) is

other : (b : Bool) (x y : Option (List ℕ)) → (b ≡ true → ⊥) → (if b then x else y) ≡ y
other true x y isnt = absurd (isnt refl)
other false x y isnt = refl

-- a name that isn't UTF-8 is no file's
pub no_text : (content : Option Files) (directory name : List ℕ) → (IsUtf8 name → ⊥) → IfSome content (λ files. folder_files directory files name ≡ None)
no_text None directory name isnt = tt
no_text (Some files) directory name isnt = other (is_utf8 name) _ None (λ is. isnt (IsUtf8-from_is_utf8 name is))

-- a file that was opened and read
pub read_whole : (content : Option Files) (directory name text path : List ℕ) (bytes : Option (List ℕ)) (before after : List ℕ)
    → text ≡ name → IsUtf8 name → path ≡ path_in directory text → IfSome content (λ files. Holds files path bytes)
    → IfSome bytes (λ held. after ≡ before ++ take most_read held) → before ≡ [] → IfSome content (λ files. folder_files directory files name ≡ Some after)
read_whole None directory name text path bytes before after same utf8 is_path holds read empty = tt
read_whole (Some files) directory name text path bytes before after same utf8 is_path (held, is_held, is_bytes) read empty =
    let Read : Option (List ℕ) → Type 0 = λ it. IfSome it (λ held. after ≡ before ++ take most_read held) in
    let whole : after ≡ before ++ take most_read held = subst Read is_bytes read in
    let same_path : path_in directory name ≡ path = ap (λ (it : List ℕ). path_in directory it) (sym same) ∙ sym is_path in
    chosen (is_utf8 name) _ None (is_utf8-from_IsUtf8 name utf8)
    ∙ (ap (λ (it : Option (List ℕ)). option_map (λ (xs : List ℕ). take most_read xs) it) (ap files same_path ∙ is_held)
    ∙ ap Some (sym (whole ∙ ap (λ (it : List ℕ). it ++ take most_read held) empty)))
