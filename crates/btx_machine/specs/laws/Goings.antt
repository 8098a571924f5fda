-- How what was written and logged goes on.
use Rattle.std.specs.Prelude.{◌≡◌, ℕ, List, ◌∷◌, ◌++◌, ◌⊎◌}
use Rattle.btx_machine.specs.language.States.{Out}

-- the text `xs` is a prefix of `ys`, possibly all of it
abbrev pub IsPrefix : List ℕ → List ℕ → Type 0
IsPrefix xs ys = (rest : List ℕ) × (ys ≡ xs ++ rest)

-- between `s` and `t` no line has ended, and the pending one grew
abbrev pub Grown : Out → Out → Type 0
Grown s t = (more : List ℕ) × (t.lines ≡ s.lines) × (t.pending ≡ s.pending ++ more)

-- between `s` and `t` the pending line has ended, perhaps longer than it was, and perhaps others after it
abbrev pub Ended : Out → Out → Type 0
Ended s t = (more : List ℕ) × (others : List (List ℕ)) × (t.lines ≡ s.lines ++ (s.pending ++ more) ∷ others)

-- what was written and logged in `s` is a prefix of what was in `t`
abbrev pub Starts : Out → Out → Type 0
Starts s t = (Grown s t ⊎ Ended s t) × IsPrefix s.log t.log
