-- Options that are spelt as the original's, with one hyphen, and what is reported of them.
use Rattle.std.specs.Prelude.{◌||◌, ℕ, Bool, List, [], String, codes, if◌then◌else◌, nat_eq, not, string_bytes, take_while}
use Rattle.std.specs.List.{list_any, starts_with}
use Rattle.std.specs.Str.{bytes_eq}

-- a word begins with an option of the original
abbrev pub is_of_original : List ℕ → Bool
is_of_original word =
    starts_with nat_eq word (codes "-min-crossrefs") || starts_with nat_eq word (codes "-terse") || starts_with nat_eq word (codes "-version")

-- a word before `--` does
abbrev pub spells_as_original : {A : Type 0} → List (String A) → Bool
spells_as_original words =
    list_any (λ word. is_of_original (string_bytes word)) (take_while (λ word. not (bytes_eq (string_bytes word) (codes "--"))) words)

-- what is reported after a mistake of these words: a line where one is spelt so, and else nothing
abbrev pub hint_of : {A : Type 0} → List (String A) → List ℕ
hint_of words = if spells_as_original words
    then codes "bibtex: options have two hyphens here, as in '--min-crossrefs'; the script bibtex-search takes the original's\n"
    else []
