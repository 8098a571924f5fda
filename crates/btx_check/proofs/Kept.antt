-- What is known between commands, in the form in which the code meets it.
use Rattle.std.proofs.Common.{◌≡◌, ℕ, [], ◌∷◌, None, get_or, inl}
use Rattle.btx_check.specs.States.{Abstract}
use Rattle.btx_check.specs.Inclusion.{Into, Within}
use Rattle.btx_check.specs.Between.{IsGlobal}

pub global_of : (a : Abstract) → a.stack ≡ [] → ((i : ℕ) → get_or a.entry_integers i None ≡ None) → ((i : ℕ) → get_or a.entry_strings i None ≡ None)
    → ((i : ℕ) → get_or a.fields i None ≡ None) → IsGlobal a
global_of a s e1 e2 e3 = record { stack = s; entry_integers = e1; entry_strings = e2; fields = e3 }

pub into_only : (a b : Abstract) → Within a b → Into a (b ∷ [])
into_only a b h = record { into = λ job left s i. inl (h.within job left s i) }
