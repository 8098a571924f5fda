-- The whole: what BibTeX writes for a job. Read this first, and then `Styles` to `Lists` downwards.
use Rattle.btx_aux.specs.language.Files.{Files}
use Rattle.btx_aux.specs.language.Names.{with_ending}
use Rattle.btx_core.specs.language.AuxFiles.{AuxContents, AreAuxContents}
use Rattle.btx_core.specs.language.Databases.{Request}
use Rattle.btx_core.specs.language.Divisions.{Divisions}
use Rattle.btx_core.specs.language.Lines.{IsCommitted, IsWrapped}
use Rattle.btx_core.specs.language.Lists.{IsLibrary}
use Rattle.btx_core.specs.language.Meanings.{Done, IsMeaning, Limited, Meaning, Outcome, Stopped}
use Rattle.btx_core.specs.language.Names.{AreDivisions}
use Rattle.btx_core.specs.language.Runs.{CommandsCome}
use Rattle.btx_core.specs.language.StyleTexts.{IsStyle}
use Rattle.btx_core.specs.language.Styles.{Job, Library, Style, first_state}
use Rattle.btx_machine.specs.language.Product.{Product}
use Rattle.btx_machine.specs.language.Reports.{report_of}
use Rattle.btx_machine.specs.language.Saying.{ended_line}
use Rattle.btx_core.specs.declared.options.Options.{Options}
use Rattle.btx_core.specs.language.Files.Counts.{counts_of}
use Rattle.btx_core.specs.language.Files.Found.{NamedFile}
use Rattle.btx_core.specs.language.Files.Lines.{no_style_line, style_line}
use Rattle.btx_core.specs.language.Files.Databases.{databases_logged, files_found}
use Rattle.btx_text.specs.language.Limits.{is_too_long}
use Rattle.btx_text.specs.language.LogLines.{Line}
use Rattle.std.specs.List.{flat_map}
use Rattle.std.specs.Prelude.{Bool, List, None, Option, Some, [], codes, false, if◌then◌else◌, is_some, map, true, ℕ, ◌++◌, ◌-◌, ◌∷◌, ◌≡◌}
use Rattle.btx_aux.specs.declared.end.End.TheVariants as aux
use Rattle.btx_machine.specs.declared.report.End.TheVariants as ended
use Rattle.btx_text.specs.declared.limits.Limit.TheVariants as limit
use Rattle.btx_aux.specs.declared.end.End.{End as AuxEnd}
use Rattle.btx_machine.specs.declared.report.End.{End}

-- ---- the end of a run

-- a run ended after some steps, with this list and these lines of the log
abbrev pub ends_with : End → ℕ → ℕ → List ℕ → List Line → Product
ends_with end steps deepest bbl log = record {
  bbl = bbl;
  log_so_far = flat_map (λ (line : Line). ended_line line.text) log;
  report = report_of end steps deepest (counts_of log);
}

-- a line that is pending at the end of a style is ended, unless it is empty (the original drops it)
abbrev pub line_at_end : (List ℕ → List ℕ) → List ℕ → List ℕ
line_at_end wrapped [] = []
line_at_end wrapped (b ∷ bs) = wrapped (b ∷ bs)

-- the product of an outcome, with a budget: a run that is stopped took all its steps; one that doesn't finish has written what is committed of its last line
abbrev pub comes_to : (wrapped committed : List ℕ → List ℕ) → ℕ → Outcome → Product
comes_to wrapped committed budget (Done s left) =
    ends_with ended.Finished (budget - left) s.deepest (flat_map wrapped s.lines ++ line_at_end wrapped s.pending) s.log
comes_to wrapped committed budget (Stopped s) = ends_with ended.Stopped budget s.deepest (flat_map wrapped s.lines ++ committed s.pending) s.log
comes_to wrapped committed budget (Limited limit s left) =
    ends_with (ended.Limit limit) (budget - left) s.deepest (flat_map wrapped s.lines ++ committed s.pending) s.log

-- ---- the execution of a style

-- what is read, executed: strings are divided as they are, functions mean what the equations say, commands come to an outcome one after another, and its
-- lines are broken; `log` is what was logged before
pub record IsExecuted (job : Job) (log : List Line) (options : Options) (product : Product) : Type 0 where
  pub divisions : Divisions
  pub divided : AreDivisions divisions
  pub means : Meaning
  pub meant : IsMeaning divisions job means
  pub wrapped : List ℕ → List ℕ
  pub are_wrapped : IsWrapped options.line wrapped
  pub committed : List ℕ → List ℕ
  pub are_committed : IsCommitted options.line committed
  pub outcome : Outcome
  pub come : CommandsCome means job.library job.style.commands [] options.budget (first_state job log) outcome
  pub product_is : product ≡ comes_to wrapped committed options.budget outcome

-- ---- the files of a job

-- what a job and its style ask of the databases
abbrev pub asked_by : AuxContents → Style → Options → Request
asked_by job style options = record {
  cited = job.keys;
  all = job.all;
  is_field = style.is_field;
  types = style.types;
  fewest = if is_some job.all then 0 else options.min_crossrefs;
}

-- a style was found: its text is read, the databases that are there are read, and the style is executed. A style that is too long ends the run
pub record IsExecutionOfStyle (files : Files) (job : AuxContents) (name text : List ℕ) (log : List Line) (options : Options) (product : Product) : Type 0 where
  pub style : Style
  pub styled : IsStyle name text style
  pub library : Library
  pub gathered : IsLibrary (asked_by job style options) style.macros
      (map (λ (file : NamedFile). record { file = file.name; text = file.bytes }) (files_found files job.databases)) library
  pub executed : IsExecuted
      (record { style = style; library = library; mode = options.text; entry_max = options.entry_max; global_max = options.global_max })
      (log ++ databases_logged files [] job.databases) options product

-- what follows, by whether the style is too long
abbrev pub FollowsStyleSize : Bool → Files → AuxContents → List ℕ → List ℕ → List Line → Options → Product → Type 0
FollowsStyleSize true files job name text log options product = product ≡ ends_with (ended.Limit limit.File) 0 0 [] log
FollowsStyleSize false files job name text log options product = IsExecutionOfStyle files job name text log options product

-- what follows the name of a style, by whether its file is there (the original names databases that aren't there in any case)
abbrev pub FollowsStyleFile : Option (List ℕ) → Files → AuxContents → List ℕ → Options → Product → Type 0
FollowsStyleFile None files job name options product = product ≡ ends_with ended.Finished 0 0 [] (job.log ++ no_style_line name ∷ [])
FollowsStyleFile (Some text) files job name options product = FollowsStyleSize (is_too_long text) files job name text (job.log ++ style_line name ∷ []) options product

-- what follows the `.aux` files, where they were read to their ends, by whether they name a style
abbrev pub FollowsStyleName : Option (List ℕ) → Files → AuxContents → Options → Product → Type 0
FollowsStyleName None files job options product = product ≡ ends_with ended.Finished 0 0 [] job.log
FollowsStyleName (Some name) files job options product = FollowsStyleFile (files name) files job name options product

-- what follows them, by how their reading ended
abbrev pub FollowsAuxFiles : AuxEnd → Files → AuxContents → Options → Product → Type 0
FollowsAuxFiles aux.Whole files job options product = FollowsStyleName job.style files job options product
FollowsAuxFiles aux.TooManyOpen files job options product = product ≡ ends_with (ended.Limit limit.Files) 0 0 [] job.log
FollowsAuxFiles aux.TopMissing files job options product = product ≡ ends_with ended.NoTopFile 0 0 [] job.log
FollowsAuxFiles aux.FileLimit files job options product = product ≡ ends_with (ended.Limit limit.File) 0 0 [] job.log

-- THE PRODUCT OF A JOB: what its `.aux` files say, and what follows from that
pub record IsProduct (files : Files) (name : List ℕ) (options : Options) (product : Product) : Type 0 where
  pub job : AuxContents
  pub said : AreAuxContents files (with_ending (codes ".aux") name) job
  pub behind : FollowsAuxFiles job.ending files job options product

-- THE ONE PRODUCT OF A JOB: it stands in the relation, and nothing else does
pub record IsTheOne (files : Files) (name : List ℕ) (options : Options) (product : Product) : Type 0 where
  pub stands : IsProduct files name options product
  pub alone : (other : Product) → IsProduct files name options other → other ≡ product
