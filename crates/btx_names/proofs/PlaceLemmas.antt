-- Lemmas on places in bytes, and on the bytes of tokens.
use Rattle.std.proofs.Common.{◌≡◌, ℕ, min, List, length, take, drop}
use Rattle.std.proofs.lemmas.List.{take_min, drop_min}

pub take_no_more : (n : ℕ) (xs : List ℕ) → take (min n (length xs)) xs ≡ take n xs
take_no_more n xs = take_min n xs

pub drop_no_more : (n : ℕ) (xs : List ℕ) → drop (min n (length xs)) xs ≡ drop n xs
drop_no_more n xs = drop_min n xs

pub ruleset place_steps = (take_no_more, drop_no_more)
