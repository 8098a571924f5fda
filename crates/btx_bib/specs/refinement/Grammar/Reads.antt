-- What a call of the reader gives.
use Rattle.std.specs.Prelude.{◌≡◌, ℕ, ◌+◌, ◌*◌, Bool, List, Option, None, Some}
use Rattle.btx_bib.specs.declared.grammar.commands.Expected.{Expected}
use Rattle.btx_bib.specs.declared.grammar.commands.Expected.TheVariants.{Item, Closing, Fields}
use Rattle.btx_bib.specs.declared.grammar.events.Placed.{Placed}
use Rattle.btx_bib.specs.language.Grammar.Items.{next_step}
use Rattle.btx_bib.specs.refinement.Grammar.EventViews.{event_view}

-- where these keys are stored, a call read what stands at the old place and left the reader at the new one, or nothing was left
abbrev pub IsRead : (List ℕ → Bool) → Expected × List ℕ → Option Placed → Expected × List ℕ → Type 0
IsRead is_stored old None new = (next_step is_stored old.0 old.1 ≡ None) × (new ≡ old)
IsRead is_stored old (Some placed) new =
    (next_step is_stored old.0 old.1 ≡ Some (record { event = event_view placed.event; wanted = new.0; rest = new.1 })) ×
    (placed.rest.now ≡ new.1)

-- the measure of what is left to read, of a text of this length
abbrev pub left : Expected → ℕ → ℕ
left Item n = 2 * n
left (Closing delimiter) n = 2 * n + 1
left (Fields delimiter) n = 2 * n + 1
