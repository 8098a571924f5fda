-- The last pair of a name, one pair after another.
use Rattle.std.proofs.Common.{◌≡◌, ℕ, List, [], ◌∷◌, ◌++◌, Option, None, Some, refl, sym, ap, ◌∙◌}
use Rattle.std.specs.Option.{option_or}
use Rattle.btx_aux.specs.laws.Pairs.{files_of_pairs, file_of_pair}

option_or-assoc : (a b c : Option (List ℕ)) → option_or a (option_or b c) ≡ option_or (option_or a b) c
option_or-assoc None b c = refl
option_or-assoc (Some x) b c = refl

option_or-none : (a : Option (List ℕ)) → option_or a None ≡ a
option_or-none None = refl
option_or-none (Some x) = refl

-- a further pair, if it has the name, and else those before
pub files_of_pairs-push : (pairs : List (List ℕ × List ℕ)) (pair : List ℕ × List ℕ) (name : List ℕ) → files_of_pairs (pairs ++ pair ∷ []) name
    ≡ option_or (file_of_pair pair name) (files_of_pairs pairs name)
files_of_pairs-push [] pair name = sym (option_or-none (file_of_pair pair name))
files_of_pairs-push (first ∷ pairs) pair name = ap (λ o. option_or o (file_of_pair first name)) (files_of_pairs-push pairs pair name)
    ∙ sym (option_or-assoc (file_of_pair pair name) (files_of_pairs pairs name) (file_of_pair first name))
