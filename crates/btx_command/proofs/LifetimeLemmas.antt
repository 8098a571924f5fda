-- The lifetimes that a file of the system may have, as they stand in the type of what is seen where a list's file is opened.
use Rattle.std.proofs.Common.{ℕ, List, [], ◌++◌}
use contract.BorrowLft.{◌⊑◌, ⊑_meet, ⊑_static}

and_nothing : (κ lives : List ℕ) → κ ⊑ lives → κ ⊑ lives ++ []
and_nothing κ lives within = ⊑_meet κ lives [] within (⊑_static κ)

abbrev part : List ℕ → List ℕ
part lives = ((lives ++ []) ++ (lives ++ [])) ++ []

abbrev whole : List ℕ → List ℕ
whole lives = (part lives ++ (part lives ++ [])) ++ []

within_part : (κ lives : List ℕ) → κ ⊑ lives → κ ⊑ part lives
within_part κ lives within =
    let one = and_nothing κ lives within in and_nothing κ ((lives ++ []) ++ (lives ++ [])) (⊑_meet κ (lives ++ []) (lives ++ []) one one)

within_whole : (κ lives : List ℕ) → κ ⊑ lives → κ ⊑ whole lives
within_whole κ lives within =
    let one = within_part κ lives within in
    and_nothing κ (part lives ++ (part lives ++ [])) (⊑_meet κ (part lives) (part lives ++ []) one (and_nothing κ (part lives) one))

pub within_opened : (κ lives : List ℕ) → κ ⊑ lives → κ ⊑ whole lives ++ whole lives
within_opened κ lives within = let one = within_whole κ lives within in ⊑_meet κ (whole lives) (whole lives) one one
