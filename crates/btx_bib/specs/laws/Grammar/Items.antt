-- Reading that remembers all events before: what is known of them is the list of them.
use Rattle.std.specs.Prelude.{ℕ, Bool, List, [], ◌∷◌, ◌++◌}
use Rattle.btx_bib.specs.language.Grammar.Items.{Event, StoredKeys}

-- the events so far are known, and they say which keys are stored
abbrev pub by_history : (List Event → List ℕ → Bool) → StoredKeys (List Event)
by_history is_stored = record { is_stored = is_stored; after = λ before event. before ++ event ∷ [] }
