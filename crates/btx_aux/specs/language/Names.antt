-- Names of files and keys.
use Rattle.std.specs.Prelude.{ℕ, nat_eq, Bool, List, [], ◌∷◌, ◌++◌, fold, if◌then◌else◌, Option}
use Rattle.std.specs.Str.{bytes_eq}
use Rattle.std.specs.List.{ends_with, list_any, find}
use Rattle.btx_text.specs.language.Keys.{folded}
use Rattle.btx_text.specs.language.Lists.{is_among}

-- the name ends in `ending`
abbrev pub has_ending : List ℕ → List ℕ → Bool
has_ending ending name = ends_with nat_eq name ending

-- `name` with `ending` appended, unless it ends in that already (this project's own rule for `.bib` and `.bst`)
abbrev pub with_ending : List ℕ → List ℕ → List ℕ
with_ending ending name = if has_ending ending name then name else name ++ ending

-- a list of names with `name` appended, unless it is there already
abbrev pub with_name_once : List (List ℕ) → List ℕ → List (List ℕ)
with_name_once names name = if is_among names name then names else names ++ name ∷ []

-- the list of names without repetitions, in the order in which each first occurs
abbrev pub distinct : List (List ℕ) → List (List ℕ)
distinct names = fold with_name_once [] names

-- the two are one key: they are equal without case (btxdoc, section 3)
abbrev pub is_same_key : List ℕ → List ℕ → Bool
is_same_key key other = bytes_eq (folded key) (folded other)

-- the first of `keys` that equals `key` without case
abbrev pub listed_as : List (List ℕ) → List ℕ → Option (List ℕ)
listed_as keys key = find (is_same_key key) keys

-- a list of keys with a further one: it is listed if no listed key equals it without case
abbrev pub with_key : List (List ℕ) → List ℕ → List (List ℕ)
with_key keys key = if list_any (is_same_key key) keys then keys else keys ++ key ∷ []
