-- Each job has a product.
use Rattle.std.proofs.Common.{◌≡◌, ◌≤◌, ℕ, Bool, true, false, List, [], ◌∷◌, ◌++◌, map, Option, None, Some, refl}
use Rattle.std.specs.Prelude.{codes}
use Rattle.btx_text.specs.language.LogLines.{Line}
use Rattle.btx_text.specs.language.Limits.{is_too_long}
use Rattle.btx_text.specs.declared.limits.Limit.TheVariants as limit
use Rattle.btx_aux.specs.declared.end.End.{End as AuxEnd}
use Rattle.btx_aux.specs.declared.end.End.TheVariants as aux
use Rattle.btx_aux.specs.language.Files.{Files}
use Rattle.btx_aux.specs.language.Names.{with_ending}
use Rattle.btx_bib.specs.language.Messages.{Database}
use Rattle.btx_machine.specs.declared.report.End.TheVariants as ended
use Rattle.btx_machine.specs.language.Product.{Product}
use Rattle.btx_out.specs.language.Breaking.{wrap, committed}
use Rattle.btx_core.specs.declared.options.Options.{Options}
use Rattle.btx_core.specs.language.Files.Found.{NamedFile}
use Rattle.btx_core.specs.language.Files.Lines.{no_style_line, style_line}
use Rattle.btx_core.specs.language.Files.Databases.{databases_logged, files_found}
use Rattle.btx_core.specs.language.Styles.{Command, Says, Read, Execute, Iterate, Reverse, Sort, Entry, Job, Library, State, first_state}
use Rattle.btx_core.specs.language.Divisions.{Divisions}
use Rattle.btx_core.specs.language.Names.{AreDivisions}
use Rattle.btx_core.specs.language.Meanings.{Outcome, Done, Stopped, Limited, Meaning}
use Rattle.btx_core.specs.language.Runs.{IsListAfter, sort_key, command_does, GoesOn, CommandsCome}
use Rattle.btx_core.specs.language.AuxFiles.{AuxContents}
use Rattle.btx_core.specs.language.Product.{comes_to, ends_with, IsExecuted, asked_by, IsExecutionOfStyle, FollowsStyleSize, FollowsStyleFile, FollowsStyleName, FollowsAuxFiles}
use Rattle.btx_core.specs.laws.ProductLaws.{SomeProduct}
use Rattle.btx_core.proofs.SortLemmas.{there_is_order}
use Rattle.btx_core.proofs.MeaningLemmas.{by_steps, there_is_meaning}
use Rattle.btx_core.proofs.PartLemmas.{wrapped, sure_is}
use Rattle.btx_core.proofs.StyleThere.{there_is_style}
use Rattle.btx_core.proofs.LibraryLemmas.{there_is_library}
use Rattle.btx_core.proofs.AuxLemmas.{is_said, said_by}
use Rattle.btx_core.proofs.ComputedLemmas.{computed}
use Rattle.btx_core.proofs.FormatsThere.{divided}

unfoldable pub behind_there : (library : Library) (c : Command) (list : List Entry) (s : State) → (next : List Entry) × IsListAfter library c list s next
behind_there library (Says line) list s = (list, refl)
behind_there library Read list s = (library.entries, refl)
behind_there library (Execute f) list s = (list, refl)
behind_there library (Iterate f) list s = (list, refl)
behind_there library (Reverse f) list s = (list, refl)
behind_there library Sort list s = there_is_order (sort_key s) list

unfoldable pub goes_there : (o : Outcome) (Next : ℕ → State → Outcome → Type 0) → ((left : ℕ) (s : State) → (r : Outcome) × Next left s r)
    → (r : Outcome) × GoesOn o Next r
goes_there (Done s left) Next n = n left s
goes_there (Stopped s) Next n = (Stopped s, refl)
goes_there (Limited kind s left) Next n = (Limited kind s left, refl)

unfoldable pub come_there : (means : Meaning) (library : Library) (cs : List Command) (list : List Entry) (left : ℕ) (s : State)
    → (r : Outcome) × CommandsCome means library cs list left s r
come_there means library [] list left s = (Done s left, refl)
come_there means library (c ∷ cs) list left s =
    let b = behind_there library c list s in
    let g = goes_there (command_does means library list c left s) (CommandsCome means library cs b.0) (λ left s. come_there means library cs b.0 left s) in
    (g.0, (b.0, b.1, g.1))

module _ (divisions : Divisions) (are : AreDivisions divisions) (options : Options) (wide : 3 ≤ options.line) where
  -- a style is executed as its commands come to
  pub executed_so : (job : Job) (log : List Line) (outcome : Outcome)
      → CommandsCome (by_steps divisions job) job.library job.style.commands [] options.budget (first_state job log) outcome
      → (product : Product) → product ≡ comes_to (wrap options.line) (committed options.line) options.budget outcome → IsExecuted job log options product
  executed_so job log outcome come product is = record {
    divisions = divisions;
    divided = are;
    means = by_steps divisions job;
    meant = there_is_meaning divisions job;
    wrapped = wrap options.line;
    are_wrapped = wrapped options.line wide;
    committed = committed options.line;
    are_committed = sure_is options.line wide;
    outcome = outcome;
    come = come;
    product_is = is;
  }

  unfoldable pub executed_there : (job : Job) (log : List Line) → (p : Product) × IsExecuted job log options p
  executed_there job log =
      let c = come_there (by_steps divisions job) job.library job.style.commands [] options.budget (first_state job log) in
      let product : Product = comes_to (wrap options.line) (committed options.line) options.budget c.0 in
      (product, executed_so job log c.0 c.1 product refl)

  unfoldable pub styled_there : (files : Files) (job : AuxContents) (name text : List ℕ) (log : List Line)
      → (p : Product) × IsExecutionOfStyle files job name text log options p
  styled_there files job name text log =
      let databases : List Database = map (λ (file : NamedFile). record { file = file.name; text = file.bytes }) (files_found files job.databases) in
      let s = there_is_style name text in
      let l = there_is_library (asked_by job s.0 options) s.0.macros databases in
      let work : Job = record { style = s.0; library = l.0; mode = options.text; entry_max = options.entry_max; global_max = options.global_max } in
      let e = executed_there work (log ++ databases_logged files [] job.databases) in
      (e.0, record { style = s.0; styled = s.1; library = l.0; gathered = l.1; executed = e.1 })

  unfoldable pub found_there : (t : Bool) (files : Files) (job : AuxContents) (name text : List ℕ) (log : List Line)
      → (p : Product) × FollowsStyleSize t files job name text log options p
  found_there true files job name text log = (ends_with (ended.Limit limit.File) 0 0 [] log, refl)
  found_there false files job name text log = styled_there files job name text log

  unfoldable pub named_there : (f : Option (List ℕ)) (files : Files) (job : AuxContents) (name : List ℕ) → (p : Product) × FollowsStyleFile f files job name options p
  named_there None files job name = (ends_with ended.Finished 0 0 [] (job.log ++ no_style_line name ∷ []), refl)
  named_there (Some text) files job name = found_there (is_too_long text) files job name text (job.log ++ style_line name ∷ [])

  unfoldable pub asked_there : (n : Option (List ℕ)) (files : Files) (job : AuxContents) → (p : Product) × FollowsStyleName n files job options p
  asked_there None files job = (ends_with ended.Finished 0 0 [] job.log, refl)
  asked_there (Some name) files job = named_there (files name) files job name

  unfoldable pub behind_files_there : (e : AuxEnd) (files : Files) (job : AuxContents) → (p : Product) × FollowsAuxFiles e files job options p
  behind_files_there aux.Whole files job = asked_there job.style files job
  behind_files_there aux.TooManyOpen files job = (ends_with (ended.Limit limit.Files) 0 0 [] job.log, refl)
  behind_files_there aux.TopMissing files job = (ends_with ended.NoTopFile 0 0 [] job.log, refl)
  behind_files_there aux.FileLimit files job = (ends_with (ended.Limit limit.File) 0 0 [] job.log, refl)

unfoldable pub holds : SomeProduct
holds files name options wide =
    let top = with_ending (codes ".aux") name in
    let job = said_by files top in
    let b = behind_files_there computed divided options wide job.ending files job in
    (b.0, record { job = job; said = is_said files top; behind = b.1 })
