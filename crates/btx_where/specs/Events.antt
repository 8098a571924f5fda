-- The notes of a run, event by event, and the scenes that stand in them.
use Rattle.std.specs.Prelude.{◌≡◌, ℕ, ◌-◌, List, [], ◌∷◌, ◌++◌, Option, IfSome, length, slice_get}
use Rattle.std.specs.List.{flat_map}
use Rattle.btx_aux.specs.language.Files.{Files}
use Rattle.btx_aux.specs.language.Job.{AuxJob}
use Rattle.btx_bst.specs.language.Style.{Style}
use Rattle.btx_bst.specs.laws.StylePlaces.{StylePlaces, places_of}
use Rattle.btx_step.specs.language.Jobs.{Job}
use Rattle.btx_machine.specs.declared.report.LogCounts.{LogCounts}
use Rattle.btx_core.specs.declared.found.FilesRead.{FilesRead}
use Rattle.btx_core.specs.declared.found.FilesRead.TheVariants.{Ends, Found}
use Rattle.btx_core.specs.declared.options.Options.{Options}
use Rattle.btx_core.specs.language.Files.Counts.{counts_of}
use Rattle.btx_core.specs.refinement.Files.Readings.{Logged, job_named, reading_of}
use Rattle.btx_run.specs.refinement.Product.{work_in}
use Rattle.btx_where.specs.Lines.{item_line, token_line}
use Rattle.btx_where.specs.Notes.{event_note, found_note, item_note, since_note, word_text}
use Rattle.btx_where.specs.Scenes.{IsScene}
use Rattle.btx_where.specs.declared.course.Event.{Event}
use Rattle.btx_where.specs.declared.course.Word.{Word}
use Rattle.btx_where.specs.declared.course.Word.TheVariants as kind
use Rattle.btx_where.specs.declared.place.Place.{Place}
use Rattle.btx_where.specs.declared.scene.StoppedState.{StoppedState}

-- after how many steps the run stands that is shown for an event of this word: where the run was stopped, after all of them; else before the last of them,
-- which is the event's
abbrev pub steps_before : Word → ℕ → ℕ
steps_before kind.Stop steps = steps
steps_before _ steps = steps - 1

-- the first lines of an event: what it is, with its step and its errors, and the command of its item
abbrev pub head_note : Style → StylePlaces → Event → List ℕ
head_note style places event =
    event_note (word_text event.word) event.moment.steps event.moment.before.errors event.moment.after.errors
    ++ item_note style (item_line places event.item) (slice_get style.items event.item)

-- A text is what is noted of this event of a job's run: its first lines; for each literal that a command left, since which token it has been there, or for those
-- that a step takes which token pushed them (both are only tested); and the scene before the event's step, in the command of this item, if one was found (that one is found is only
-- tested). `began` is the token that is said to have begun the loop, if the event is a loop's
-- test
pub record IsNoteOf (style : Style) (job : Job) (counts : LogCounts) (places : StylePlaces) (event : Event) (text : List ℕ) : Type 0 where
  pub since : List (Option Place)
  pub as_many : length since ≡ length event.since.items
  pub began : Option Place
  pub found : Option StoppedState
  pub of_run : IfSome found (λ scene. IsScene job counts (steps_before event.word event.moment.steps) scene)
  pub of_item : IfSome found (λ scene. scene.item ≡ event.item)
  pub is : text ≡ head_note style places event ++ flat_map (since_note style (token_line places)) since
      ++ found_note style job (token_line places) event.word began found

-- a text is what is noted of these events, of one after another
abbrev pub AreNotesOf : Style → Job → LogCounts → StylePlaces → List Event → List ℕ → Type 0
AreNotesOf style job counts places [] text = text ≡ []
AreNotesOf style job counts places (event ∷ events) text =
    (first : List ℕ) × (rest : List ℕ) × (text ≡ first ++ rest) × IsNoteOf style job counts places event first × AreNotesOf style job counts places events rest

-- after the notes that there were stands a text of which this holds
pub record GrowsBy (IsText : List ℕ → Type 0) (old new : List ℕ) : Type 0 where
  pub text : List ℕ
  pub behind : new ≡ old ++ text
  pub is : IsText text

-- the notes grew by those of events of a job's run, with the lines of these places of its style (which events these are is only tested)
pub record Explains (job : Job) (counts : LogCounts) (places : StylePlaces) (old new : List ℕ) : Type 0 where
  pub events : List Event
  pub notes : GrowsBy (AreNotesOf job.style job counts places events) old new

-- ---- a job, by its files

-- of files that were read so, after a log with these counts: if a style was found, the notes grew by those of some events of its run, with the
-- lines that its text has; else nothing is noted
abbrev pub ExplainsFiles : AuxJob → FilesRead → Options → LogCounts → List ℕ → List ℕ → Type 0
ExplainsFiles job (Ends end) options counts old new = new ≡ old
ExplainsFiles job (Found found) options counts old new = Explains (work_in job found options) counts (places_of found.style.name found.style.bytes) old new

-- the same of a reading, which logged the lines that are counted
abbrev pub ExplainsReading : AuxJob → Logged FilesRead → Options → List ℕ → List ℕ → Type 0
ExplainsReading job read options old new = ExplainsFiles job read.gives options (counts_of read.lines) old new

-- the same of the job of this name, whose files these are
abbrev pub ExplainsJob : Files → List ℕ → Options → List ℕ → List ℕ → Type 0
ExplainsJob files name options old new = ExplainsReading (job_named files name) (reading_of files name) options old new
