-- Where the lines of a whole run are met.
use Rattle.std.proofs.Common.{◌≡◌, ℕ, inl, inr, List, [], Option, Result, refl, subst, ◌∙◌}
use Rattle.btx_text.specs.declared.fault.Fault.{Fault}
use Rattle.btx_text.specs.language.LogLines.{Line}
use Rattle.btx_aux.specs.language.Answers.{FinderAnswer}
use Rattle.btx_aux.specs.language.Files.{Files}
use Rattle.btx_aux.specs.language.Job.{AuxJob}
use Rattle.btx_aux.specs.refinement.Answers.{AsksTop, ByAnswers}
use Rattle.btx_aux.proofs.AnswerLemmas.{some_files}
use Rattle.btx_step.specs.language.Jobs.{Job}
use Rattle.btx_machine.specs.declared.report.End.{End}
use Rattle.btx_machine.specs.declared.report.LogCounts.{LogCounts}
use Rattle.btx_machine.specs.declared.report.Report.{Report}
use Rattle.btx_machine.specs.language.Reports.{report_of}
use Rattle.btx_machine.specs.laws.Reports.{log_counts}
use Rattle.btx_machine.specs.refinement.Met.{Met}
use Rattle.btx_machine.specs.refinement.Places.{EndsWithLast, Hands, MeetsInStyle, MetLast, Shown, most_steps, showing}
use Rattle.btx_machine.proofs.HandLemmas.{handed_as, handed_then}
use Rattle.btx_core.specs.declared.found.FilesRead.{FilesRead}
use Rattle.btx_core.specs.declared.found.FilesRead.TheVariants.{Ends, Found}
use Rattle.btx_core.specs.declared.found.JobFiles.{JobFiles}
use Rattle.btx_core.specs.declared.options.Options.{Options}
use Rattle.btx_core.specs.language.Files.Counts.{counts_of}
use Rattle.btx_core.specs.refinement.Files.Readings.{Logged, job_named}
use Rattle.btx_run.specs.refinement.Files.Asked.{AreAmong, names_in}
use Rattle.btx_run.specs.refinement.Files.Names.{top_name}
use Rattle.btx_run.specs.refinement.Files.Places.{MetInFiles}
use Rattle.btx_run.specs.refinement.Files.Readings.{IsRead, files_read}
use Rattle.btx_run.specs.refinement.Places.{MetAfterFiles, MetInReading, MetInRun}
use Rattle.btx_run.specs.refinement.Product.{work_in}
use Rattle.btx_run.proofs.AskedLemmas.{of_run}
use Rattle.btx_run.proofs.ProductLemmas.{counts_of_lines}

-- ---- what a notebook shows

-- between equal ends of what a notebook shows
shown_between : (P : Shown → Shown → Type 0) {a a' c c' : Option (List Line)} {b b' d d' : Option (List Met)} → a ≡ a' → b ≡ b' → c ≡ c' → d ≡ d'
    → P (showing a b) (showing c d) → P (showing a' b') (showing c' d')
shown_between P {a} {a'} {c} {c'} {b} {b'} {d} {d'} f g h k holds =
    subst (λ c. P (showing a' b') (showing c d')) h (subst (λ d. P (showing a' b') (showing c d)) k
    (subst (λ a. P (showing a b') (showing c d)) f (subst (λ b. P (showing a b) (showing c d)) g holds)))

pub hands_between : {claim : Met → Type 0} {a a' c c' : Option (List Line)} {b b' d d' : Option (List Met)} → a ≡ a' → b ≡ b' → c ≡ c' → d ≡ d'
    → Hands (showing a b) (showing c d) claim → Hands (showing a' b') (showing c' d') claim
hands_between {claim} f g h k hands = shown_between (λ old new. Hands old new claim) f g h k hands

pub last_between : {report : Report} {a a' c c' : Option (List Line)} {b b' d d' : Option (List Met)} → a ≡ a' → b ≡ b' → c ≡ c' → d ≡ d'
    → EndsWithLast (showing a b) (showing c d) report → EndsWithLast (showing a' b') (showing c' d') report
last_between {report} f g h k ends = shown_between (λ old new. EndsWithLast old new report) f g h k ends

-- ---- what follows the reading

-- what was met on the style that was read was met on the one that was found
pub style_same : (counts : LogCounts) (line_length budget : ℕ) (result : Result Report Fault) (old new : Shown) (here there : Job) → here ≡ there
    → MeetsInStyle here counts line_length budget result old new → MeetsInStyle there counts line_length budget result old new
style_same counts line_length budget result old new here there is = subst (λ work. MeetsInStyle work counts line_length budget result old new) is

-- where the run ends at once
pub ends_met : (job : AuxJob) (end : End) (options : Options) (counts : LogCounts) (most : ℕ) (report : Report) (old new : Shown)
    → report ≡ report_of end 0 0 counts → Hands old new (MetLast report) → Hands old new (MetAfterFiles job (Ends end) options counts most)
ends_met job end options counts most report old new is hands = handed_as (λ m last. subst (λ report. MetLast report m) is last) hands

-- where the style is executed
pub found_met : (job : AuxJob) (found : JobFiles) (options : Options) (counts : LogCounts) (result : Result Report Fault) (old new : Shown)
    → MeetsInStyle (work_in job found options) counts options.line options.budget result old new
    → Hands old new (MetAfterFiles job (Found found) options counts (most_steps result options.budget))
found_met job found options counts result old new hands = handed_as (λ m is. is) hands

module _ (job : AuxJob) (options : Options) (most : ℕ) (old mid new : Shown) where
  -- only lines of the reading
  pub reading_begun : (part : Logged FilesRead) → Hands old new (MetInFiles part.lines) → Hands old new (MetInReading job part options most)
  reading_begun part hands = handed_as (λ m is. inl is) hands

  -- the lines of the reading, and those after it
  pub reading_met : (read : FilesRead) (given first counts : LogCounts) (l m : Option (List ℕ)) → given ≡ log_counts counts.warnings counts.errors
      → first ≡ counts_of [] → (part : Logged FilesRead) → IsRead read (first, counts) (l, m) part → Hands old mid (MetInFiles part.lines)
      → Hands mid new (MetAfterFiles job read options given most) → Hands old new (MetInReading job part options most)
  reading_met read given first counts l m is_given none part is_read hands after =
      let counted : given ≡ counts_of part.lines =
      is_given ∙ counts_of_lines counts.warnings counts.errors first counts (l, m) part.lines refl refl none is_read.logs in
      handed_then (handed_as (λ m is. inl is) hands)
      (handed_as (λ n is. inr (subst (λ counts. MetAfterFiles job part.gives options counts most n) counted
      (subst (λ read. MetAfterFiles job read options given most n) is_read.gives is))) after)

-- ---- a whole run

-- what holds by the answers of a run, whatever the files are, holds: there are files that agree with them
pub run_ends : {C : Type 0} {content later : Option Files} {given between after : List FinderAnswer} (name : List ℕ) (job : AuxJob) → later ≡ content
    → ByAnswers content given between (AsksTop (top_name name)) (λ files. job ≡ job_named files name)
    → ByAnswers later between after (λ asked. AreAmong asked (names_in job)) (λ files. C) → C
run_ends {C} name job same first second =
    (some_files (of_run name job {Claim = λ files. C} {Whole = λ files. C} same first second (λ files is claim. claim))).1

-- the reading of the job of this name
pub named_met : (files : Files) (name : List ℕ) (options : Options) (most : ℕ) (job : AuxJob) (old new : Shown) → job ≡ job_named files name
    → Hands old new (MetInReading job (files_read files job) options most) → Hands old new (MetInRun files name options most)
named_met files name options most job old new is hands =
    handed_as (λ m here. here) (subst (λ (job : AuxJob). Hands old new (MetInReading job (files_read files job) options most)) is hands)
