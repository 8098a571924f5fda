-- The end of an item, as the code's clauses have it.
use Rattle.std.specs.Prelude.{Ok, ℕ, Bool, List, Option, [], ◌∷◌, option_map}
use Rattle.btx_bib.specs.declared.grammar.commands.Expected.{Expected}
use Rattle.btx_bib.specs.declared.grammar.commands.Expected.TheVariants.{Item}
use Rattle.btx_bib.specs.language.Grammar.Tokens.{Parsed, followed_by}
use Rattle.btx_bib.specs.language.Grammar.Items.{Event, ItemEnd, Step, as_known, Placed, StoredKeys}
use Rattle.std.specs.Option.{option_map_or}

-- what is read next, where some keys are stored: an entry that repeats one of them is a fault
abbrev pub known_step : (List ℕ → Bool) → Option Step → Option Step
known_step is_stored next =
    option_map (λ (step : Step). let got = as_known is_stored (step.event, step.wanted) in record { event = got.0; wanted = got.1; rest = step.rest }) next

-- the events of a text from the next step on, if there is one: its event, and those that `others` give of the rest
abbrev pub events_by : {S : Type 0} → StoredKeys S → (S → Expected → List ℕ → List Placed) → S → Option Step → List Placed
events_by stored_keys others state next =
    option_map_or (λ (step : Step). record { event = step.event; rest = step.rest } ∷ others (stored_keys.after state step.event) step.wanted step.rest) next []

-- the end of an item as an event; an item is expected next
abbrev pub item_end : Parsed (Unit {0}) → Parsed (Event × Expected)
item_end parsed = followed_by parsed (λ _ rest. Ok ((ItemEnd, Item), rest))
