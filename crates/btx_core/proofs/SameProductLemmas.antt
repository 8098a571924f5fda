-- The product of each job, with numbers, is one in names.
use Rattle.std.proofs.Common.{◌≡◌, ℕ, ℤ, pos, zero, suc, ◌-◌, ◌<◌, ◌≤◌, Bool, true, false, if◌then◌else◌, List, [], ◌∷◌, ◌++◌, length, map, replicate, Option}
use Rattle.std.proofs.Common.{None, Some, option_map, sym, ap, subst, ◌∙◌, refl, arith, append_assoc, append-nil, true≢false, codes}
use Rattle.std.specs.List.{flat_map}
use Rattle.std.specs.Option.{option_map_or}
use Rattle.std.specs.Prelude.{slice_set}
use Rattle.std.specs.Str.{bytes_eq}
use Rattle.std.proofs.lemmas.List.{length-replicate}
use Rattle.std.proofs.lemmas.Slice.Eq.{bytes_eq-Decides}
use Rattle.btx_text.specs.declared.limits.Limit.TheVariants as limit
use Rattle.btx_text.specs.language.Limits.{is_too_long}
use Rattle.btx_text.specs.language.LogLines.{Line}
use Rattle.btx_aux.specs.declared.end.End.{End as AuxEnd}
use Rattle.btx_aux.specs.declared.end.End.TheVariants as aux
use Rattle.btx_aux.specs.language.Files.{Files}
use Rattle.btx_aux.specs.language.Job.{AuxJob}
use Rattle.btx_aux.specs.language.Names.{with_ending}
use Rattle.btx_bib.specs.language.Databases.{library_of}
use Rattle.btx_bib.specs.language.Messages.{Database}
use Rattle.btx_bib.specs.language.Requests.{asked}
use Rattle.btx_bib.proofs.ListLemmas.{keys-differ}
use Rattle.btx_bst.specs.declared.callee.Callee.TheVariants as callee
use Rattle.btx_bst.specs.language.Names.{Names}
use Rattle.btx_bst.specs.language.Style.{field_of}
use Rattle.btx_bst.specs.language.StyleText.{style_of}
use Rattle.btx_bst.proofs.MeaningLemmas.{meanings}
use Rattle.btx_bst.proofs.ReferenceLemmas.{style-refers_within}
use Rattle.btx_step.specs.language.Jobs.{Job as NumberedJob}
use Rattle.btx_step.specs.language.Starts.{first_store}
use Rattle.btx_step.specs.language.Stores.{EntryVariables}
use Rattle.btx_machine.specs.declared.report.End.{End}
use Rattle.btx_machine.specs.declared.report.End.TheVariants as ended
use Rattle.btx_machine.specs.language.Items.{do_items}
use Rattle.btx_machine.specs.language.Product.{Product, product_of, style_product}
use Rattle.btx_machine.specs.language.Reports.{report_of}
use Rattle.btx_machine.specs.language.Saying.{ended_line}
use Rattle.btx_machine.specs.language.States.{state}
use Rattle.btx_machine.specs.language.States.{State as NumberedState, Outcome as Came, Done as CameDone, Stopped as CameStopped, Limit as CameLimit}
use Rattle.btx_out.specs.language.Breaking.{wrap, committed}
use Rattle.btx_out.specs.language.Breakers.{written_at_end}
use Rattle.btx_core.specs.declared.found.FilesRead.{FilesRead}
use Rattle.btx_core.specs.declared.found.FilesRead.TheVariants.{Ends, Found}
use Rattle.btx_core.specs.declared.options.Options.{Options}
use Rattle.btx_core.specs.language.Files.Counts.{counts_of}
use Rattle.btx_core.specs.language.Files.Found.{NamedFile}
use Rattle.btx_core.specs.language.Files.Lines.{no_style_line, style_line}
use Rattle.btx_core.specs.language.Files.Databases.{databases_logged, files_found}
use Rattle.btx_core.specs.refinement.Files.Readings.{Logged, after_job, style_named, style_read}
use Rattle.btx_core.specs.refinement.ComputedProduct.{product, product_of_files}
use Rattle.btx_core.specs.language.AuxFiles.{AuxContents}
use Rattle.btx_core.specs.language.Meanings.{Done, Limited, Outcome, Stopped}
use Rattle.btx_core.specs.language.Product.{comes_to, ends_with, line_at_end, FollowsStyleName, FollowsAuxFiles, IsExecuted, FollowsStyleSize, FollowsStyleFile, IsProduct, IsExecutionOfStyle, asked_by}
use Rattle.btx_core.specs.laws.SameParts.{job_said}
use Rattle.btx_core.specs.laws.ProductLaws.{SameProduct}
use Rattle.btx_core.specs.laws.SameLibraries.{IsSameLibrary}
use Rattle.btx_core.specs.laws.SameStyles.{IsSameStyle, numbers_of}
use Rattle.btx_core.specs.language.Styles.{Job, Library, State, Style, first_state, set}
use Rattle.btx_core.proofs.AuxLemmas.{is_said, said_by, same_job as same_aux_job}
use Rattle.btx_core.proofs.ComputedLemmas.{computed}
use Rattle.btx_core.proofs.FormatsThere.{divided}
use Rattle.btx_core.proofs.LibraryLemmas.{there_is_library}
use Rattle.btx_core.proofs.ProductLemmas.{holds as one_product}
use Rattle.btx_core.proofs.SameJobLemmas as of_job
use Rattle.btx_core.proofs.SameJobLemmas.{SameJob}
use Rattle.btx_core.proofs.SameLibraryLemmas.{predefined_first, same_library}
use Rattle.btx_core.proofs.SameRunLemmas as runs
use Rattle.btx_core.proofs.SameRunLemmas.{global_integer_named}
use Rattle.btx_core.proofs.SameStepLemmas as steps
use Rattle.btx_core.proofs.SameStyleLemmas.{same_style}
use Rattle.btx_core.proofs.StyleThere.{there_is_style}
use Rattle.btx_core.proofs.ThereIsProduct.{executed_so}
use Rattle.btx_core.proofs.VariableLemmas.{Numbering, by_name, item, set_item}

-- ---- the variables before the first command

flat : {A : Type 0} (numbers : Numbering) (f : ℕ → A) (d : A) → ((j : ℕ) → f j ≡ d) → by_name numbers f d ≡ (λ n. d)
flat numbers f d all = λ k n. by (numbers.find n) k where
  by : (o : Option ℕ) → option_map_or f o d ≡ d
  by None = refl
  by (Some j) = all j

item_same : {A : Type 0} (n : ℕ) (x : A) (i : ℕ) → item (replicate n x) x i ≡ x
item_same zero x i = refl
item_same (suc n) x zero = refl
item_same (suc n) x (suc i) = item_same n x i

item_in : {A : Type 0} (n : ℕ) (x d : A) (i : ℕ) → i < n → item (replicate n x) d i ≡ x
item_in zero x d i lt = absurd (omega (arith, lt))
item_in (suc n) x d zero lt = refl
item_in (suc n) x d (suc i) lt = item_in n x d i (omega (arith, lt))

item_or : {A : Type 0} (P : A → Type 0) (n : ℕ) (x d : A) (i : ℕ) → P x → P d → P (item (replicate n x) d i)
item_or P zero x d i p q = q
item_or P (suc n) x d zero p q = p
item_or P (suc n) x d (suc i) p q = item_or P n x d i p q

set_length : {A : Type 0} (xs : List A) (i : ℕ) (v : A) → length (slice_set xs i v) ≡ length xs
set_length [] i v = refl
set_length (x ∷ xs) zero v = refl
set_length (x ∷ xs) (suc i) v = ap suc (set_length xs i v)

-- the order in which two names are set is nothing
set_either : {A : Type 0} (a b : List ℕ) (x y : A) (f : List ℕ → A) → bytes_eq a b ≡ false → set a x (set b y f) ≡ set b y (set a x f)
set_either a b x y f apart = λ k n. by n (bytes_eq n a) (bytes_eq n b) refl refl k where
  by : (n : List ℕ) (t u : Bool) → bytes_eq n a ≡ t → bytes_eq n b ≡ u → (if t then x else if u then y else f n) ≡ (if u then y else if t then x else f n)
  by n true true e g =
      let same : a ≡ b = sym ((bytes_eq-Decides n a).0 e) ∙ (bytes_eq-Decides n b).0 g in
      absurd (true≢false (sym ((bytes_eq-Decides a b).1 same) ∙ apart))
  by n true false e g = refl
  by n false true e g = refl
  by n false false e g = refl

-- ---- the first state

module _ (job : NumberedJob) (style : Style) (library : Library) (h : SameJob job style library) (before : List Line) where
  abbrev names : Names
  names = job.style.names

  abbrev here : Job
  here = steps.here job style library h before

  abbrev Same : NumberedState → State → Type 0
  Same = runs.Same job style library h before

  abbrev start : NumberedState
  start = state (first_store job) (record { lines = []; pending = []; log = []; warnings = (counts_of before).warnings; errors = (counts_of before).errors })

  abbrev variables : EntryVariables
  variables = record { integers = replicate (length names.entry_integers) (pos 0); strings = replicate (length names.entry_strings) [] }

  abbrev none : EntryVariables
  none = record { integers = []; strings = [] }

  abbrev entries : ℕ
  entries = length job.library.entries

  abbrev zeros : List ℤ
  zeros = replicate (length names.global_integers) (pos 0)

  integers_first : set (codes "entry.max$") (pos job.entry_max) (set (codes "global.max$") (pos job.global_max) (λ name. pos 0))
      ≡ by_name (steps.gi job style library h before) (item (slice_set (slice_set zeros 0 (pos job.entry_max)) 1 (pos job.global_max)) (pos 0)) (pos 0)
  integers_first =
      let gi = steps.gi job style library h before in
      let one : 0 < length names.global_integers = h.refers.names (codes "entry.max$") (callee.GlobalInteger 0) h.first.entry_limit in
      let two : 1 < length names.global_integers = h.refers.names (codes "global.max$") (callee.GlobalInteger 1) h.first.global_limit in
      let first = global_integer_named names (codes "entry.max$") 0 h.first.entry_limit in
      let second = global_integer_named names (codes "global.max$") 1 h.first.global_limit in
      let long = length-replicate (length names.global_integers) (pos 0) in
      let longer = set_length zeros 0 (pos job.entry_max) in
      set_either (codes "entry.max$") (codes "global.max$") (pos job.entry_max) (pos job.global_max) (λ name. pos 0) refl
      ∙ ap (λ f. set (codes "global.max$") (pos job.global_max) (set (codes "entry.max$") (pos job.entry_max) f))
      (sym (flat gi (item zeros (pos 0)) (pos 0) (item_same (length names.global_integers) (pos 0))))
      ∙ ap (λ n. set (codes "global.max$") (pos job.global_max) (set n (pos job.entry_max) (by_name gi (item zeros (pos 0)) (pos 0)))) (sym first)
      ∙ ap (set (codes "global.max$") (pos job.global_max))
      (set_item gi zeros (pos 0) (pos job.entry_max) 0 (of_job.global_integer_number job style library h 0 one) (omega (arith, one, long)))
      ∙ ap (λ n. set n (pos job.global_max) (by_name gi (item (slice_set zeros 0 (pos job.entry_max)) (pos 0)) (pos 0))) (sym second)
      ∙ set_item gi (slice_set zeros 0 (pos job.entry_max)) (pos 0) (pos job.global_max) 1 (of_job.global_integer_number job style library h 1 two)
      (omega (arith, two, long, longer))

  abbrev no_strings : List ℕ → List ℕ
  no_strings n = []

  strings_first : no_strings ≡ by_name {A = List ℕ} (steps.gs job style library h before) (item (replicate (length names.global_strings) []) []) []
  strings_first = sym (flat (steps.gs job style library h before) (item (replicate (length names.global_strings) []) []) []
      (item_same (length names.global_strings) []))

  entry_integers_first : (λ (key name : List ℕ). pos 0) ≡ by_name (steps.keys job style library h before)
      (λ j. by_name (steps.ei job style library h before) (item (item (replicate entries variables) none j).integers (pos 0)) (pos 0)) (λ n. pos 0)
  entry_integers_first = sym (flat (steps.keys job style library h before) _ (λ n. pos 0) (λ j. flat (steps.ei job style library h before) _ (pos 0)
      (item_or (λ (v : EntryVariables). (i : ℕ) → item v.integers (pos 0) i ≡ pos 0) entries variables none j (item_same (length names.entry_integers) (pos 0))
      (λ i. refl))))

  entry_strings_first : (λ (key : List ℕ). no_strings) ≡ by_name {A = List ℕ → List ℕ} (steps.keys job style library h before)
      (λ j. by_name (steps.es job style library h before) (item (item (replicate entries variables) none j).strings []) []) (λ n. [])
  entry_strings_first = sym (flat (steps.keys job style library h before) _ (λ n. []) (λ j. flat (steps.es job style library h before) _ []
      (item_or (λ (v : EntryVariables). (i : ℕ) → item v.strings [] i ≡ []) entries variables none j (item_same (length names.entry_strings) []) (λ i. refl))))

  start_same : Same start (first_state here before)
  start_same = record {
    whole = record {
      literals = tt;
      integers = set_length (slice_set zeros 0 (pos job.entry_max)) 1 (pos job.global_max) ∙ set_length zeros 0 (pos job.entry_max)
          ∙ length-replicate (length names.global_integers) (pos 0);
      strings = length-replicate (length names.global_strings) [];
      entries = length-replicate entries variables;
      entry_integers = λ e lt. let long = length-replicate entries variables in
          ap (λ (v : EntryVariables). length v.integers) (item_in entries variables none e (omega (arith, lt, long)))
          ∙ length-replicate (length names.entry_integers) (pos 0);
      entry_strings = λ e lt. let long = length-replicate entries variables in
          ap (λ (v : EntryVariables). length v.strings) (item_in entries variables none e (omega (arith, lt, long)))
          ∙ length-replicate (length names.entry_strings) [];
      current = λ e is. absurd (cc);
    };
    is = λ i. record (first_state here before) {
      integers = integers_first i;
      strings = strings_first i;
      entry_integers = entry_integers_first i;
      entry_strings = entry_strings_first i;
    };
    out = record { lines = refl; pending = refl; log = sym (append-nil (steps.ended before)); warnings = refl; errors = refl };
  }

  -- ---- what an outcome comes to

  at_end : (line : ℕ) (text : List ℕ) → written_at_end line text ≡ line_at_end (wrap line) text
  at_end line [] = refl
  at_end line (b ∷ bs) = refl

  abbrev lines_behind : List Line → Product → Product
  lines_behind lines rest = record rest { log_so_far = steps.ended lines ++ rest.log_so_far }

  report_same : (end : End) (steps_ : ℕ) (S : NumberedState) (s : State) → Same S s → (one other : List ℕ) → one ≡ other
      → record {
        bbl = one;
        log_so_far = steps.ended before ++ S.out.log;
        report =
            report_of end steps_ S.store.deepest (record { warnings = S.out.warnings; errors = S.out.errors });
      } ≡ ends_with end steps_ s.deepest other s.log
  report_same end steps_ S s r one other bbl =
      let deepest : S.store.deepest ≡ s.deepest = sym (ap (λ (u : State). u.deepest) r.is) in
      let log = sym r.out.log in
      let warnings = r.out.warnings in
      let errors = r.out.errors in
      λ i. record { bbl = bbl i; log_so_far = log i; report = report_of end steps_ (deepest i) (record { warnings = warnings i; errors = errors i }) }

  lines_same : (line : ℕ) (S : NumberedState) (s : State) → Same S s → (at at' : List ℕ → List ℕ) → ((text : List ℕ) → at text ≡ at' text)
      → flat_map (wrap line) S.out.lines ++ at S.out.pending ≡ flat_map (wrap line) s.lines ++ at' s.pending
  lines_same line S s r at at' e =
      ap (λ t. flat_map (wrap line) S.out.lines ++ t) (e S.out.pending) ∙ ap (λ (ls : List (List ℕ)). flat_map (wrap line) ls ++ at' S.out.pending)
      (sym r.out.lines)
      ∙ ap (λ (p : List ℕ). flat_map (wrap line) s.lines ++ at' p) (sym r.out.pending)

  come_same : (line budget : ℕ) (o : Came) (p : Outcome) → runs.SameCame job style library h before o p → lines_behind before (product_of line budget o)
      ≡ comes_to (wrap line) (committed line) budget p
  come_same line budget (CameDone S b) (Done s c) k =
      report_same ended.Finished (budget - b) S s k.0 _ _ (lines_same line S s k.0 (written_at_end line) (line_at_end (wrap line)) (at_end line))
      ∙ ap (λ c. ends_with ended.Finished (budget - c) s.deepest (flat_map (wrap line) s.lines ++ line_at_end (wrap line) s.pending) s.log) k.1
  come_same line budget (CameStopped S) (Stopped s) k =
      report_same ended.Stopped budget S s k _ _ (lines_same line S s k (committed line) (committed line) (λ text. refl))
  come_same line budget (CameLimit kind S b) (Limited limit s c) k =
      report_same (ended.Limit kind) (budget - b) S s k.0 _ _ (lines_same line S s k.0 (committed line) (committed line) (λ text. refl))
      ∙ ap (λ kind. ends_with (ended.Limit kind) (budget - b) s.deepest (flat_map (wrap line) s.lines ++ committed line s.pending) s.log) k.1.0
      ∙ ap (λ c. ends_with (ended.Limit limit) (budget - c) s.deepest (flat_map (wrap line) s.lines ++ committed line s.pending) s.log) k.1.1
  come_same line budget (CameDone S b) (Stopped s) k = absurd (true≢false k)
  come_same line budget (CameDone S b) (Limited limit s c) k = absurd (true≢false k)
  come_same line budget (CameStopped S) (Done s c) k = absurd (true≢false k)
  come_same line budget (CameStopped S) (Limited limit s c) k = absurd (true≢false k)
  come_same line budget (CameLimit kind S b) (Done s c) k = absurd (true≢false k)
  come_same line budget (CameLimit kind S b) (Stopped s) k = absurd (true≢false k)

  -- what the style comes to, executed with numbers, is what it comes to in names
  pub executed_same : (options : Options) → 3 ≤ options.line
      → IsExecuted here before options (lines_behind before (style_product job (counts_of before) options.line options.budget))
  executed_same options wide =
      let comes = runs.run_same job style library h before options.budget start (first_state here before) start_same in
      executed_so computed divided options wide here before comes.outcome comes.come _
      (come_same options.line options.budget (do_items job job.style.items [] options.budget start) comes.outcome comes.same)

-- ---- the files of a job

abbrev lines_with : List Line → Product → Product
lines_with lines rest = record rest { log_so_far = flat_map (λ (line : Line). ended_line line.text) lines ++ rest.log_so_far }

-- what the reading of the files comes to
abbrev out_of : AuxJob → Options → Logged FilesRead → Product
out_of job options read = lines_with (job.log ++ read.lines) (product_of_files job read.gives options (counts_of (job.log ++ read.lines)) options.budget)

-- a reading that ended
early : (ending : End) (lines : List Line) → lines_with lines (record { bbl = []; log_so_far = []; report = report_of ending 0 0 (counts_of lines) })
    ≡ ends_with ending 0 0 [] lines
early ending lines = λ i. record {
  bbl = [];
  log_so_far = append-nil (flat_map (λ (line : Line). ended_line line.text) lines) i;
  report =
      report_of ending 0 0 (counts_of lines);
}

-- the job with numbers
abbrev work_of : List ℕ → List ℕ → AuxJob → List Database → Options → NumberedJob
work_of file text job databases options = record {
  style = style_of file text;
  library = library_of (asked (style_of file text) job options.min_crossrefs) (style_of file text).macros databases;
  mode = options.text;
  entry_max = options.entry_max;
  global_max = options.global_max;
}

-- the two say the same job
same_job : (file text : List ℕ) (style : Style) (same : IsSameStyle (style_of file text) style) (job : AuxJob) (databases : List Database) (library : Library)
    (options : Options)
    → IsSameLibrary (numbers_of (style_of file text) same.functions) (field_of (style_of file text))
    (library_of (asked (style_of file text) job options.min_crossrefs) (style_of file text).macros databases) library
    → SameJob (work_of file text job databases options) style library
same_job file text style same job databases library options k = record {
  same_style = same;
  same_library = k;
  refers = style-refers_within file text;
  meanings = meanings file text;
  first = predefined_first file text;
  keys = keys-differ (asked (style_of file text) job options.min_crossrefs) (style_of file text).macros databases;
}

abbrev databases_of : Files → AuxContents → List Database
databases_of files job = map (λ (file : NamedFile). record { file = file.name; text = file.bytes }) (files_found files job.databases)

styled : (files : Files) (job : AuxContents) (name text : List ℕ) (options : Options) → 3 ≤ options.line
    → IsExecutionOfStyle files job name text (job.log ++ style_line name ∷ []) options
    (out_of (job_said job) options (record {
      lines = style_line name ∷ databases_logged files [] job.databases;
      gives =
          Found (record { style = record { name = name; bytes = text }; databases = files_found files job.databases });
    }))
styled files job name text options wide =
    let databases = databases_of files job in
    let s = there_is_style name text in
    let l = there_is_library (asked_by job s.0 options) s.0.macros databases in
    let same = same_style name text s.0 s.1 in
    let h = same_job name text s.0 same (job_said job) databases l.0 options
    (same_library name text s.0 same (job_said job) options.min_crossrefs databases l.0 l.1) in
    let before = (job.log ++ style_line name ∷ []) ++ databases_logged files [] job.databases in
    let work = work_of name text (job_said job) databases options in
    let ran = executed_same work s.0 l.0 h before options wide in
    let lines : before ≡ job.log ++ style_line name ∷ databases_logged files [] job.databases =
    append_assoc job.log (style_line name ∷ []) (databases_logged files [] job.databases) in
    record {
      style = s.0;
      styled = s.1;
      library = l.0;
      gathered = l.1;
      executed = subst (λ (all : List Line). IsExecuted
          (record { style = s.0; library = l.0; mode = options.text; entry_max = options.entry_max; global_max = options.global_max }) before options
          (lines_with all (style_product work (counts_of all) options.line options.budget))) lines ran;
    }

-- a style that was found
abbrev read_if : Bool → Files → AuxJob → NamedFile → Logged FilesRead
read_if t files job style =
    if t then record { lines = []; gives = Ends (ended.Limit limit.File) }
    else record { lines = databases_logged files [] job.databases; gives = Found (record { style = style; databases = files_found files job.databases }) }

found : (t : Bool) (files : Files) (job : AuxContents) (name text : List ℕ) (options : Options) → 3 ≤ options.line
    → FollowsStyleSize t files job name text (job.log ++ style_line name ∷ []) options
    (out_of (job_said job) options (record {
      lines = style_line name ∷ (read_if t files (job_said job) (record { name = name; bytes = text })).lines;
      gives =
          (read_if t files (job_said job) (record { name = name; bytes = text })).gives;
    }))
found true files job name text options wide = early (ended.Limit limit.File) (job.log ++ style_line name ∷ [])
found false files job name text options wide = styled files job name text options wide

named : (f : Option (List ℕ)) (files : Files) (job : AuxContents) (name : List ℕ) (options : Options) → 3 ≤ options.line
    → FollowsStyleFile f files job name options (out_of (job_said job) options
    (style_read files (job_said job) name (option_map (λ (bytes : List ℕ). record { name = name; bytes = bytes }) f)))
unfolding style_read
named None files job name options wide = early ended.Finished (job.log ++ no_style_line name ∷ [])
named (Some text) files job name options wide = found (is_too_long text) files job name text options wide

ended_at : (ending : End) (lines : List Line)
    → lines_with (lines ++ []) (record { bbl = []; log_so_far = []; report = report_of ending 0 0 (counts_of (lines ++ [])) }) ≡ ends_with ending 0 0 [] lines
ended_at ending lines = early ending (lines ++ []) ∙ ap (λ l. ends_with ending 0 0 [] l) (append-nil lines)

asked_is : (s : Option (List ℕ)) (files : Files) (job : AuxContents) (options : Options) → 3 ≤ options.line
    → FollowsStyleName s files job options (out_of (job_said job) options (style_named files (job_said job) s))
unfolding style_named
asked_is None files job options wide = ended_at ended.Finished job.log
asked_is (Some name) files job options wide = named (files name) files job name options wide

behind_is : (e : AuxEnd) (files : Files) (job : AuxContents) (options : Options) → 3 ≤ options.line
    → FollowsAuxFiles e files job options (out_of (job_said job) options (after_job files (job_said job) e))
unfolding after_job
behind_is aux.Whole files job options wide = asked_is job.style files job options wide
behind_is aux.TooManyOpen files job options wide = ended_at (ended.Limit limit.Files) job.log
behind_is aux.TopMissing files job options wide = ended_at ended.NoTopFile job.log
behind_is aux.FileLimit files job options wide = ended_at (ended.Limit limit.File) job.log

-- the product with numbers is a product in names
pub is_product : (files : Files) (name : List ℕ) (options : Options) → 3 ≤ options.line → IsProduct files name options (product files name options)
is_product files name options wide =
    let top = with_ending (codes ".aux") name in
    let said = said_by files top in
    record {
      job = said;
      said = is_said files top;
      behind = subst (FollowsAuxFiles said.ending files said options)
          (ap (λ (j : AuxJob). out_of j options (after_job files j j.ending)) (same_aux_job files top))
          (behind_is said.ending files said options wide);
    }

-- and there is no other
pub holds : SameProduct
holds files name options wide p = (
  λ is. one_product files name options wide p (product files name options) is (is_product files name options wide),
  λ same. subst (IsProduct files name options) (sym same) (is_product files name options wide),
)
