-- The product of a job by relations, where functions, fields, strings and entries keep their numbers: the text of a style, databases, what a style means and
-- SORT are said by relations, and all else is as `product` has it. It holds of `product` and of nothing else (`IsTheProduct` below). For `Meaning`,
-- `IsMeaning`, `IsStyle` and `IsReading` see the laws of btx_machine, btx_bst and btx_bib.
use Rattle.btx_aux.specs.language.Files.{Files}
use Rattle.btx_aux.specs.language.Job.{AuxJob}
use Rattle.btx_bib.specs.language.Databases.{library_by}
use Rattle.btx_bib.specs.language.Grammar.Items.{Placed}
use Rattle.btx_bib.specs.language.Known.{goes_on, stored_keys, with_current_stored}
use Rattle.btx_bib.specs.language.Library.{Library}
use Rattle.btx_bib.specs.language.MessageTexts.{message_line}
use Rattle.btx_bib.specs.language.Messages.{Database, Reading, read_next}
use Rattle.btx_bib.specs.language.Requests.{asked}
use Rattle.btx_bib.specs.language.Request.{Request}
use Rattle.btx_bib.specs.laws.Databases.{with_macros}
use Rattle.btx_bib.specs.laws.Grammar.Reading.{IsReading}
use Rattle.btx_bst.specs.declared.callee.Callee.{Callee}
use Rattle.btx_bst.specs.declared.token.Token.{Token}
use Rattle.btx_bst.specs.declared.token.Token.TheVariants.{Run}
use Rattle.btx_bst.specs.language.Items.{Item}
use Rattle.btx_bst.specs.language.MessageTexts.{complaint_line}
use Rattle.btx_bst.specs.language.Outcomes.{CommandOutcome}
use Rattle.btx_bst.specs.language.Predefined.{predefined}
use Rattle.btx_bst.specs.language.Style.{Style}
use Rattle.btx_bst.specs.language.StyleText.{style_state}
use Rattle.btx_bst.specs.laws.CommandSpelling.{IsStyle}
use Rattle.btx_bst.specs.laws.Places.{beginning}
use Rattle.btx_bst.specs.laws.StyleText.{unread_style}
use Rattle.btx_machine.specs.declared.command.Command.{Command}
use Rattle.btx_machine.specs.declared.report.LogCounts.{LogCounts}
use Rattle.btx_machine.specs.language.Commands.{cleared, in_order}
use Rattle.btx_machine.specs.language.Items.{read_limit}
use Rattle.btx_machine.specs.language.Meaning.{Action, then_do}
use Rattle.btx_machine.specs.language.Product.{Product, product_of}
use Rattle.btx_machine.specs.language.Reports.{report_of}
use Rattle.btx_machine.specs.language.Saying.{ended_line, logging}
use Rattle.btx_machine.specs.language.States.{Done, Limit, Outcome, State, Stopped, state}
use Rattle.btx_machine.specs.laws.Meaning.{IsMeaning, Meaning}
use Rattle.btx_core.specs.declared.found.FilesRead.{FilesRead}
use Rattle.btx_core.specs.declared.found.FilesRead.TheVariants.{Ends, Found}
use Rattle.btx_core.specs.declared.found.JobFiles.{JobFiles}
use Rattle.btx_core.specs.declared.options.Options.{Options}
use Rattle.btx_core.specs.language.Files.Counts.{counts_of}
use Rattle.btx_core.specs.language.Files.Found.{NamedFile}
use Rattle.btx_core.specs.refinement.Files.Readings.{job_named, reading_of}
use Rattle.btx_core.specs.refinement.ComputedProduct.{product}
use Rattle.btx_step.specs.language.Jobs.{Job}
use Rattle.btx_step.specs.language.Starts.{first_store}
use Rattle.btx_step.specs.language.Stores.{Store}
use Rattle.btx_step.specs.language.Variables.{string_of}
use Rattle.btx_step.specs.laws.Orders.{IsInOrder}
use Rattle.btx_text.specs.language.Limits.{is_too_long}
use Rattle.btx_text.specs.language.LogLines.{Line}
use Rattle.std.specs.List.{flat_map, range_with_len}
use Rattle.std.specs.Option.{option_map_or}
use Rattle.std.specs.Prelude.{Bool, List, None, Option, Some, [], false, fold, length, map, reverse, true, ℕ, ◌++◌, ◌↔◌, ◌∷◌, ◌≡◌}
use Rattle.btx_bst.specs.language.Items as item
use Rattle.btx_machine.specs.declared.command.Command.TheVariants as command
use Rattle.btx_text.specs.declared.limits.Limit.{Limit as Kind}
use Rattle.btx_bib.specs.declared.end.End.TheVariants as end
use Rattle.btx_bib.specs.declared.grammar.commands.Expected.TheVariants as wants
use Rattle.std.specs.Prelude.{◌↔◌}

-- ---- commands

-- executes the function of a command, where `means` says what tokens mean
abbrev pub visit_by : (Token → Action) → Job → Command → Callee → Option ℕ → ℕ → State → Outcome
visit_by means job command f entry left s =
    then_do (means (Run f) 0 0 left (record s { store = record s.store { current = entry } })) (λ left t. Done (cleared job command t) left)

-- what an item does
abbrev pub item_by : (Token → Action) → Job → List ℕ → Item → ℕ → State → Outcome
item_by means job list (item.Message complaint line) left s = Done (logging (complaint_line complaint line job.style.file ∷ []) s) left
item_by means job list item.Read left s =
    let read = logging (map message_line job.library.messages) s in
    option_map_or (λ (kind : Kind). Limit kind read left) (read_limit job.library.ending) (Done read left)
item_by means job list (item.Execute f) left s = visit_by means job command.Execute f None left s
item_by means job list (item.Iterate f) left s = in_order (λ entry. visit_by means job command.Iterate f (Some entry)) list left s
item_by means job list (item.Reverse f) left s = in_order (λ entry. visit_by means job command.Reverse f (Some entry)) (reverse list) left s
item_by means job list _ left s = Done s left

-- the list after an item: SORT puts it into the order of the keys
abbrev pub IsListAfter : Job → Item → List ℕ → Store → List ℕ → Type 0
IsListAfter job item.Read list store next = next ≡ range_with_len 0 (length job.library.entries)
IsListAfter job item.Sort list store next = IsInOrder (λ (entry : ℕ). string_of store.entries entry 0) list next
IsListAfter job _ list store next = next ≡ list

-- after the first outcome the next follows as `Next` says, if the first is done; else it is the last
abbrev pub GoesOn : Outcome → (ℕ → State → Outcome → Type 0) → Outcome → Type 0
GoesOn (Done s left) Next outcome = Next left s outcome
GoesOn (Stopped s) Next outcome = outcome ≡ Stopped s
GoesOn (Limit kind s left) Next outcome = outcome ≡ Limit kind s left

-- what items come to, one after another
abbrev pub ItemsCome : (Token → Action) → Job → List Item → List ℕ → ℕ → State → Outcome → Type 0
ItemsCome means job [] list left s outcome = outcome ≡ Done s left
ItemsCome means job (x ∷ xs) list left s outcome =
    (next : List ℕ) × IsListAfter job x list s.store next × GoesOn (item_by means job list x left s) (ItemsCome means job xs next) outcome

-- ---- a style

-- what the style of a job comes to
pub record IsStyleProduct (job : Job) (counts : LogCounts) (line_length budget : ℕ) (product : Product) : Type 0 where
  pub means : Meaning
  pub meant : IsMeaning job means
  pub outcome : Outcome
  pub come : ItemsCome means.token job job.style.items [] budget
      (state (first_store job) (record { lines = []; pending = []; log = []; warnings = counts.warnings; errors = counts.errors })) outcome
  pub product_is : product ≡ product_of line_length budget outcome

-- ---- databases

-- a database is read along its one reading
abbrev pub IsReadBy : Bool → Bool → Request → Reading → Database → Reading → Type 0
IsReadBy false too_long wanted reading database next = next ≡ reading
IsReadBy true true wanted reading database next = next ≡ record reading { known = record reading.known { ending = end.FileLimit } }
IsReadBy true false wanted reading database next = (events : List Placed) × IsReading (stored_keys wanted) reading.known wants.Item database.text events
    × (next ≡ record (fold (read_next wanted database) reading events) { known = with_current_stored (fold (read_next wanted database) reading events).known })

-- databases are read, one after another
abbrev pub AreRead : Request → Reading → List Database → Reading → Type 0
AreRead wanted reading [] last = last ≡ reading
AreRead wanted reading (database ∷ databases) last =
    (next : Reading) × IsReadBy (goes_on reading.known.ending) (is_too_long database.text) wanted reading database next × AreRead wanted next databases last

-- the library of databases, for a style with these macros
abbrev pub IsLibrary : Request → List (List ℕ × List ℕ) → List Database → Library → Type 0
IsLibrary wanted macros databases library = (last : Reading) × AreRead wanted (record { known = with_macros macros; messages = [] }) databases last
    × (library ≡ library_by last.known.ending wanted last.known last.messages)

-- ---- the job

-- the style of a file: what its commands come to
abbrev pub IsStyleOf : List ℕ → List ℕ → Style → Type 0
IsStyleOf file text style = (commands : List CommandOutcome) × IsStyle commands (style_state (unread_style file predefined) (beginning text)) style

-- a style was found, and the databases
pub record IsExecuted (job : AuxJob) (found : JobFiles) (options : Options) (counts : LogCounts) (budget : ℕ) (product : Product) : Type 0 where
  pub style : Style
  pub styled : IsStyleOf found.style.name found.style.bytes style
  pub library : Library
  pub gathered : IsLibrary (asked style job options.min_crossrefs) style.macros
      (map (λ (file : NamedFile). record { file = file.name; text = file.bytes }) found.databases) library
  pub executed : IsStyleProduct
      (record { style = style; library = library; mode = options.text; entry_max = options.entry_max; global_max = options.global_max })
      counts options.line budget product

-- what follows the files
abbrev pub IsProductOfFiles : AuxJob → FilesRead → Options → LogCounts → ℕ → Product → Type 0
IsProductOfFiles job (Ends ending) options counts budget product = product ≡ record { bbl = []; log_so_far = []; report = report_of ending 0 0 counts }
IsProductOfFiles job (Found found) options counts budget product = IsExecuted job found options counts budget product

-- the product of a job: what follows the reading of its files, after the log lines of the reading
pub record IsProductWith (files : Files) (name : List ℕ) (options : Options) (budget : ℕ) (whole : Product) : Type 0 where
  pub rest : Product
  pub follows : IsProductOfFiles (job_named files name) (reading_of files name).gives options (counts_of (reading_of files name).lines) budget rest
  pub whole_is : whole ≡ record rest { log_so_far = flat_map (λ (line : Line). ended_line line.text) (reading_of files name).lines ++ rest.log_so_far }

-- the relation holds of the product, and of nothing else
abbrev pub IsTheProduct : Type 0
IsTheProduct = (files : Files) (name : List ℕ) (options : Options) (whole : Product) →
    IsProductWith files name options options.budget whole ↔ (whole ≡ product files name options)
