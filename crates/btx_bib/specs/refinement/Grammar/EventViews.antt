-- What clauses see of an event in the code.
use Rattle.std.specs.Prelude.{ℕ, List}
use Rattle.std.specs.Borrow.{Bor}
use Rattle.btx_bib.specs.language.Grammar.Items as spec
use Rattle.btx_bib.specs.refinement.Grammar.FieldViews.{field_view}
use Rattle.btx_bib.specs.declared.grammar.commands.Expected.{Expected}
use Rattle.btx_bib.specs.declared.grammar.events.Event.{Event}
use Rattle.btx_bib.specs.declared.grammar.events.Event.TheVariants.{Comment, Preamble, Definition, Entry, Field, ItemEnd, Wrong}
use Rattle.btx_bib.specs.declared.grammar.events.Placed.{Placed}

-- an event, without where its texts lie in memory
abbrev pub event_view : Event → spec.Event
event_view Comment = spec.Comment
event_view (Preamble value) = spec.Preamble value
event_view (Definition name value) = spec.Definition name.now value
event_view (Entry kind key) = spec.Entry kind.now key.now
event_view (Field field) = spec.FieldOf (field_view field)
event_view ItemEnd = spec.ItemEnd
event_view (Wrong slip) = spec.Wrong slip

abbrev pub head_view : Event × Expected → spec.Event × Expected
head_view head = (event_view head.0, head.1)

abbrev pub placed_view : Placed → spec.Placed
placed_view placed = record { event = event_view placed.event; rest = placed.rest.now }

abbrev pub step_view : Event × Expected × Bor (List ℕ) → spec.Step
step_view step = record { event = event_view step.0; wanted = step.1; rest = step.2.now }
