-- The relation of `Stage` holds of the product, and of nothing else.
use Rattle.std.proofs.Common.{◌≡◌, ℕ, Bool, true, false, not, List, [], ◌∷◌, ◌++◌, map, fold, if◌then◌else◌, sym, ap, subst, ◌∙◌, refl}
use Rattle.std.specs.List.{flat_map}
use Rattle.btx_text.specs.language.Limits.{is_too_long}
use Rattle.btx_text.specs.language.LogLines.{Line}
use Rattle.btx_aux.specs.language.Job.{AuxJob}
use Rattle.btx_bst.specs.language.Items as item
use Rattle.btx_bst.specs.language.Items.{Item}
use Rattle.btx_bst.specs.language.Style.{Style}
use Rattle.btx_bst.specs.language.StyleText.{style_of, style_state}
use Rattle.btx_bst.specs.language.Predefined.{predefined}
use Rattle.btx_bst.specs.laws.StyleText.{unread_style}
use Rattle.btx_bst.specs.laws.Places.{beginning}
use Rattle.btx_bst.proofs.CommandSpellingLemmas.{style-read, one-reading}
use Rattle.btx_bib.specs.declared.end.End.TheVariants as end
use Rattle.btx_bib.specs.declared.grammar.commands.Expected.TheVariants as wants
use Rattle.btx_bib.specs.language.Grammar.Items.{events_from}
use Rattle.btx_bib.specs.language.Known.{goes_on, stored_keys, with_current_stored}
use Rattle.btx_bib.specs.language.Databases.{library_of, library_by, read_one}
use Rattle.btx_bib.specs.language.Library.{Library}
use Rattle.btx_bib.specs.language.Messages.{Database, Reading, read_next}
use Rattle.btx_bib.specs.language.Requests.{asked}
use Rattle.btx_bib.specs.language.Request.{Request}
use Rattle.btx_bib.specs.laws.Databases.{with_macros}
use Rattle.btx_bib.proofs.GrammarLemmas.ReadingLemmas.{is_reading, one_reading}
use Rattle.btx_step.specs.language.Jobs.{Job}
use Rattle.btx_step.specs.language.Stores.{Store}
use Rattle.btx_step.specs.language.Starts.{first_store}
use Rattle.btx_step.specs.language.Variables.{string_of}
use Rattle.btx_step.proofs.Orders.{sorted_once}
use Rattle.btx_machine.specs.language.States.{State, Outcome, Done, Stopped, Limit, state}
use Rattle.btx_machine.specs.language.Meaning.{then_do}
use Rattle.btx_machine.specs.language.MeaningBySteps.{meaning}
use Rattle.btx_machine.specs.language.Commands.{visit}
use Rattle.btx_machine.specs.language.Items.{do_item, do_items, list_after}
use Rattle.btx_machine.specs.language.Product.{Product, product_of, style_product}
use Rattle.btx_machine.specs.declared.report.LogCounts.{LogCounts}
use Rattle.btx_machine.specs.laws.Meaning.{Meaning, IsMeaning}
use Rattle.btx_machine.specs.laws.MeaningBySteps.{by_steps}
use Rattle.btx_machine.proofs.EquationLemmas as exists
use Rattle.btx_machine.proofs.UniqueLemmas as unique
use Rattle.btx_core.specs.declared.found.FilesRead.{FilesRead}
use Rattle.btx_core.specs.declared.found.FilesRead.TheVariants.{Ends, Found}
use Rattle.btx_core.specs.declared.options.Options.{Options}
use Rattle.btx_core.specs.refinement.Contents.{style_in}
use Rattle.btx_core.specs.language.Files.Found.{NamedFile}
use Rattle.btx_core.specs.language.Files.Counts.{counts_of}
use Rattle.btx_core.specs.refinement.Files.Readings.{job_named, reading_of}
use Rattle.btx_core.specs.refinement.ComputedProduct.{product_of_files, product}
use Rattle.btx_machine.specs.language.Saying.{ended_line}
use Rattle.btx_core.specs.laws.ByNumbers.{item_by, IsListAfter, GoesOn, ItemsCome, IsStyleProduct, IsReadBy, AreRead, IsLibrary, IsStyleOf, IsProductOfFiles}
use Rattle.btx_core.specs.laws.ByNumbers.{IsTheProduct}

-- ---- commands

same_tokens : (job : Job) (means : Meaning) → IsMeaning job means → means.token ≡ meaning job
same_tokens job means is = λ i x d w b s. (unique.holds job means (by_steps job) is (exists.holds job)).tokens x d w b s i

item_same : (job : Job) (list : List ℕ) (x : Item) (left : ℕ) (s : State) → item_by (meaning job) job list x left s ≡ do_item job list x left s
unfolding do_item visit
item_same job list (item.Message complaint line) left s = refl
item_same job list item.Read left s = refl
item_same job list (item.Execute f) left s = refl
item_same job list (item.Iterate f) left s = refl
item_same job list (item.Reverse f) left s = refl
item_same job list item.Entry left s = refl
item_same job list (item.Function number) left s = refl
item_same job list item.Sort left s = refl
item_same job list item.Integers left s = refl
item_same job list item.Strings left s = refl
item_same job list item.Macro left s = refl

behind : (job : Job) (x : Item) (list : List ℕ) (store : Store) → IsListAfter job x list store (list_after job x list store)
behind job (item.Message complaint line) list store = refl
behind job item.Read list store = refl
behind job (item.Execute f) list store = refl
behind job (item.Iterate f) list store = refl
behind job (item.Reverse f) list store = refl
behind job item.Entry list store = refl
behind job (item.Function number) list store = refl
behind job item.Sort list store = (sorted_once (λ (entry : ℕ). string_of store.entries entry 0) list _).1 refl
behind job item.Integers list store = refl
behind job item.Strings list store = refl
behind job item.Macro list store = refl

behind_only : (job : Job) (x : Item) (list : List ℕ) (store : Store) (next : List ℕ) → IsListAfter job x list store next → next ≡ list_after job x list store
behind_only job (item.Message complaint line) list store next h = h
behind_only job item.Read list store next h = h
behind_only job (item.Execute f) list store next h = h
behind_only job (item.Iterate f) list store next h = h
behind_only job (item.Reverse f) list store next h = h
behind_only job item.Entry list store next h = h
behind_only job (item.Function number) list store next h = h
behind_only job item.Sort list store next h = (sorted_once (λ (entry : ℕ). string_of store.entries entry 0) list next).0 h
behind_only job item.Integers list store next h = h
behind_only job item.Strings list store next h = h
behind_only job item.Macro list store next h = h

goes : (o : Outcome) (Next : ℕ → State → Outcome → Type 0) (go : ℕ → State → Outcome) → ((left : ℕ) (s : State) → Next left s (go left s))
    → GoesOn o Next (then_do o go)
goes (Done s left) Next go h = h left s
goes (Stopped s) Next go h = refl
goes (Limit kind s left) Next go h = refl

goes_only : (o : Outcome) (Next : ℕ → State → Outcome → Type 0) (go : ℕ → State → Outcome) (outcome : Outcome)
    → ((left : ℕ) (s : State) (r : Outcome) → Next left s r → r ≡ go left s)
    → GoesOn o Next outcome → outcome ≡ then_do o go
goes_only (Done s left) Next go outcome h g = h left s outcome g
goes_only (Stopped s) Next go outcome h g = g
goes_only (Limit kind s left) Next go outcome h g = g

come : (job : Job) (xs : List Item) (list : List ℕ) (left : ℕ) (s : State) → ItemsCome (meaning job) job xs list left s (do_items job xs list left s)
unfolding do_items
come job [] list left s = refl
come job (x ∷ xs) list left s =
    let next = list_after job x list s.store in (
      next,
      behind job x list s.store,
      subst (λ o. GoesOn o (ItemsCome (meaning job) job xs next) (then_do (do_item job list x left s) (do_items job xs next)))
          (sym (item_same job list x left s))
          (goes (do_item job list x left s) (ItemsCome (meaning job) job xs next) (do_items job xs next) (λ left s. come job xs next left s)),
    )

come_only : (job : Job) (xs : List Item) (list : List ℕ) (left : ℕ) (s : State) (outcome : Outcome) → ItemsCome (meaning job) job xs list left s outcome
    → outcome ≡ do_items job xs list left s
unfolding do_items
come_only job [] list left s outcome h = h
come_only job (x ∷ xs) list left s outcome h =
    let next = list_after job x list s.store in
    let same = behind_only job x list s.store h.0 h.1 in
    let g = subst (λ n. GoesOn (item_by (meaning job) job list x left s) (ItemsCome (meaning job) job xs n) outcome) same h.2 in
    goes_only (item_by (meaning job) job list x left s) (ItemsCome (meaning job) job xs next) (do_items job xs next) outcome
    (λ left s r k. come_only job xs next left s r k) g
    ∙ ap (λ o. then_do o (do_items job xs next)) (item_same job list x left s)

-- ---- a style

executed : (job : Job) (counts : LogCounts) (line_length budget : ℕ)
    → IsStyleProduct job counts line_length budget (style_product job counts line_length budget)
executed job counts line_length budget = record {
  means = by_steps job;
  meant = exists.holds job;
  outcome = do_items job job.style.items [] budget
      (state (first_store job) (record { lines = []; pending = []; log = []; warnings = counts.warnings; errors = counts.errors }));
  come = come job job.style.items [] budget
      (state (first_store job) (record { lines = []; pending = []; log = []; warnings = counts.warnings; errors = counts.errors }));
  product_is = refl;
}

executed_only : (job : Job) (counts : LogCounts) (line_length budget : ℕ) (product : Product) → IsStyleProduct job counts line_length budget product
    → product ≡ style_product job counts line_length budget
executed_only job counts line_length budget product h =
    let first = state (first_store job) (record { lines = []; pending = []; log = []; warnings = counts.warnings; errors = counts.errors }) in
    let come = subst (λ means. ItemsCome means job job.style.items [] budget first h.outcome) (same_tokens job h.means h.meant) h.come in
    h.product_is ∙ ap (product_of line_length budget) (come_only job job.style.items [] budget first h.outcome come)

styled : (file text : List ℕ) → IsStyleOf file text (style_of file text)
styled file text = style-read file text

styled_only : (file text : List ℕ) (style : Style) → IsStyleOf file text style → style ≡ style_of file text
styled_only file text style h =
    (one-reading (style_state (unread_style file predefined) (beginning text)) h.0 (style-read file text).0 style (style_of file text) h.1
    (style-read file text).1).1

-- ---- databases

-- what reading a database comes to, by its two tests
abbrev one_by : Bool → Bool → Request → Reading → Database → Reading
one_by goes too_long wanted reading database =
    if not goes then reading
    else if too_long then record reading { known = record reading.known { ending = end.FileLimit } }
    else
    let last =
    fold (read_next wanted database) reading
    (events_from (stored_keys wanted) reading.known wants.Item database.text) in
    record last { known = with_current_stored last.known }

read_by : (goes too_long : Bool) (wanted : Request) (reading : Reading) (database : Database)
    → IsReadBy goes too_long wanted reading database (one_by goes too_long wanted reading database)
read_by false too_long wanted reading database = refl
read_by true true wanted reading database = refl
read_by true false wanted reading database =
    (events_from (stored_keys wanted) reading.known wants.Item database.text, is_reading (stored_keys wanted) reading.known wants.Item database.text, refl)

read_by_only : (goes too_long : Bool) (wanted : Request) (reading : Reading) (database : Database) (next : Reading)
    → IsReadBy goes too_long wanted reading database next → next ≡ one_by goes too_long wanted reading database
read_by_only false too_long wanted reading database next h = h
read_by_only true true wanted reading database next h = h
read_by_only true false wanted reading database next h =
    h.2 ∙ ap (λ events. record (fold (read_next wanted database) reading events) {
      known =
          with_current_stored (fold (read_next wanted database) reading events).known;
    })
    (one_reading (stored_keys wanted) h.0 reading.known wants.Item database.text h.1)

all_read : (wanted : Request) (reading : Reading) (databases : List Database) → AreRead wanted reading databases (fold (read_one wanted) reading databases)
all_read wanted reading [] = refl
all_read wanted reading (database ∷ databases) = (
  read_one wanted reading database,
  read_by (goes_on reading.known.ending) (is_too_long database.text) wanted reading database,
  all_read wanted (read_one wanted reading database) databases,
)

all_read_only : (wanted : Request) (reading : Reading) (databases : List Database) (last : Reading) → AreRead wanted reading databases last
    → last ≡ fold (read_one wanted) reading databases
all_read_only wanted reading [] last h = h
all_read_only wanted reading (database ∷ databases) last h =
    let same = read_by_only (goes_on reading.known.ending) (is_too_long database.text) wanted reading database h.0 h.1 in
    all_read_only wanted h.0 databases last h.2 ∙ ap (λ next. fold (read_one wanted) next databases) same

gathered : (wanted : Request) (macros : List (List ℕ × List ℕ)) (databases : List Database)
    → IsLibrary wanted macros databases (library_of wanted macros databases)
unfolding library_of
gathered wanted macros databases =
    let first : Reading = record { known = with_macros macros; messages = [] } in
    (fold (read_one wanted) first databases, all_read wanted first databases, refl)

gathered_only : (wanted : Request) (macros : List (List ℕ × List ℕ)) (databases : List Database) (library : Library) → IsLibrary wanted macros databases library
    → library ≡ library_of wanted macros databases
unfolding library_of
gathered_only wanted macros databases library h =
    let first : Reading = record { known = with_macros macros; messages = [] } in
    h.2 ∙ ap (λ (last : Reading). library_by last.known.ending wanted last.known last.messages) (all_read_only wanted first databases h.0 h.1)

-- ---- the job

abbrev work : Style → Library → Options → Job
work style library options = record { style = style; library = library; mode = options.text; entry_max = options.entry_max; global_max = options.global_max }

of_files : (job : AuxJob) (read : FilesRead) (options : Options) (counts : LogCounts) (budget : ℕ)
    → IsProductOfFiles job read options counts budget (product_of_files job read options counts budget)
of_files job (Ends ending) options counts budget = refl
of_files job (Found found) options counts budget = record {
  style = style_in found;
  styled = styled found.style.name found.style.bytes;
  library = library_of (asked (style_in found) job options.min_crossrefs) (style_in found).macros
      (map (λ (file : NamedFile). record { file = file.name; text = file.bytes }) found.databases);
  gathered = gathered (asked (style_in found) job options.min_crossrefs) (style_in found).macros
      (map (λ (file : NamedFile). record { file = file.name; text = file.bytes }) found.databases);
  executed = executed (work (style_in found)
      (library_of (asked (style_in found) job options.min_crossrefs) (style_in found).macros
      (map (λ (file : NamedFile). record { file = file.name; text = file.bytes }) found.databases)) options)
      counts options.line budget;
}

of_files_only : (job : AuxJob) (read : FilesRead) (options : Options) (counts : LogCounts) (budget : ℕ) (rest : Product)
    → IsProductOfFiles job read options counts budget rest → rest ≡ product_of_files job read options counts budget
of_files_only job (Ends ending) options counts budget rest h = h
of_files_only job (Found found) options counts budget rest h =
    let databases : List Database = map (λ (file : NamedFile). record { file = file.name; text = file.bytes }) found.databases in
    executed_only (work h.style h.library options) counts options.line budget rest h.executed
    ∙ ap (λ library. style_product (work h.style library options) counts options.line budget)
    (gathered_only (asked h.style job options.min_crossrefs) h.style.macros databases h.library h.gathered)
    ∙ ap (λ style. style_product (work style (library_of (asked style job options.min_crossrefs) style.macros databases) options) counts options.line budget)
    (styled_only found.style.name found.style.bytes h.style h.styled)

abbrev behind_lines : List Line → Product → Product
behind_lines lines rest = record rest { log_so_far = flat_map (λ (line : Line). ended_line line.text) lines ++ rest.log_so_far }

pub holds : IsTheProduct
holds files name options whole = (
  λ h. h.whole_is ∙ ap (behind_lines (reading_of files name).lines)
      (of_files_only (job_named files name) (reading_of files name).gives options (counts_of (reading_of files name).lines) options.budget h.rest h.follows),
  λ e. record {
    rest = product_of_files (job_named files name) (reading_of files name).gives options (counts_of (reading_of files name).lines) options.budget;
    follows = of_files (job_named files name) (reading_of files name).gives options (counts_of (reading_of files name).lines) options.budget;
    whole_is = e;
  },
)
