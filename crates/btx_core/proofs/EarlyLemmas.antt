-- Where no style is executed, the relation in names holds of the product.
use Rattle.std.proofs.Common.{◌≡◌, ℕ, Bool, true, false, List, [], ◌∷◌, ◌++◌, Option, None, Some, if◌then◌else◌, sym, ap, subst, ◌∙◌, refl, append-nil}
use Rattle.std.specs.List.{flat_map}
use Rattle.std.specs.Prelude.{codes, option_map}
use Rattle.btx_text.specs.language.LogLines.{Line}
use Rattle.btx_text.specs.language.Limits.{is_too_long}
use Rattle.btx_text.specs.declared.limits.Limit.TheVariants as limit
use Rattle.btx_aux.specs.declared.end.End.{End as AuxEnd}
use Rattle.btx_aux.specs.declared.end.End.TheVariants as aux
use Rattle.btx_aux.specs.language.Files.{Files}
use Rattle.btx_aux.specs.language.Job.{AuxJob, job_of_files}
use Rattle.btx_aux.specs.language.Names.{with_ending}
use Rattle.btx_machine.specs.declared.report.End.{End}
use Rattle.btx_machine.specs.declared.report.End.TheVariants as ended
use Rattle.btx_machine.specs.language.Product.{Product}
use Rattle.btx_machine.specs.language.Reports.{report_of}
use Rattle.btx_machine.specs.language.Saying.{ended_line}
use Rattle.btx_core.specs.declared.found.FilesRead.{FilesRead}
use Rattle.btx_core.specs.declared.found.FilesRead.TheVariants.{Ends, Found}
use Rattle.btx_core.specs.declared.found.JobFiles.{JobFiles}
use Rattle.btx_core.specs.declared.options.Options.{Options}
use Rattle.btx_core.specs.language.Files.Counts.{counts_of}
use Rattle.btx_core.specs.language.Files.Found.{NamedFile}
use Rattle.btx_core.specs.language.Files.Lines.{style_line}
use Rattle.btx_core.specs.language.Files.Databases.{databases_logged, files_found}
use Rattle.btx_core.specs.refinement.Files.Readings.{Logged, after_job, style_named, style_read}
use Rattle.btx_core.specs.refinement.ComputedProduct.{product_of_files}
use Rattle.btx_core.specs.language.AuxFiles.{AuxContents}
use Rattle.btx_core.specs.language.Product.{ends_with, FollowsStyleSize, FollowsStyleFile, FollowsStyleName, FollowsAuxFiles}
use Rattle.btx_core.specs.laws.ProductLaws.{EarlyEnds}
use Rattle.btx_core.specs.laws.SameParts.{job_said}
use Rattle.btx_core.proofs.AuxLemmas.{is_said, said_by, same_job}

-- the product of a reading that ended
abbrev whole : End → List Line → Product
whole ending lines = record {
  bbl = [];
  log_so_far = flat_map (λ (line : Line). ended_line line.text) lines ++ [];
  report = report_of ending 0 0 (counts_of lines);
}

whole_is : (ending : End) (lines : List Line) → whole ending lines ≡ ends_with ending 0 0 [] lines
whole_is ending lines = λ i. record {
  bbl = [];
  log_so_far = append-nil (flat_map (λ (line : Line). ended_line line.text) lines) i;
  report =
      report_of ending 0 0 (counts_of lines);
}

end_one : (a b : End) → Ends a ≡ Ends b → a ≡ b
end_one a b e = cc

found_ends : (found : JobFiles) (ending : End) → Found found ≡ Ends ending → ⊥
found_ends found ending e = absurd (cc)

-- with the lines that are logged
ended_is : (ending other : End) (lines more : List Line) → lines ≡ more → Ends other ≡ Ends ending → whole ending lines ≡ ends_with other 0 0 [] more
ended_is ending other lines more e h = whole_is ending lines ∙ ap (λ l. ends_with ending 0 0 [] l) e
    ∙ ap (λ x. ends_with x 0 0 [] more) (sym (end_one other ending h))

-- a style that was found
abbrev read_if : Bool → Files → AuxJob → NamedFile → Logged FilesRead
read_if t files job style =
    if t then record { lines = []; gives = Ends (ended.Limit limit.File) }
    else record { lines = databases_logged files [] job.databases; gives = Found (record { style = style; databases = files_found files job.databases }) }

early_found : (t : Bool) (files : Files) (job : AuxContents) (name text : List ℕ) (options : Options) (ending : End)
    → (read_if t files (job_said job) (record { name = name; bytes = text })).gives ≡ Ends ending
    → FollowsStyleSize t files job name text (job.log ++ style_line name ∷ []) options
    (whole ending (job.log ++ style_line name ∷ (read_if t files (job_said job) (record { name = name; bytes = text })).lines))
early_found true files job name text options ending h = ended_is ending (ended.Limit limit.File) _ _ refl h
early_found false files job name text options ending h = absurd (found_ends _ ending h)

early_named : (f : Option (List ℕ)) (files : Files) (job : AuxContents) (name : List ℕ) (options : Options) (ending : End)
    → (style_read files (job_said job) name (option_map (λ (bytes : List ℕ). record { name = name; bytes = bytes }) f)).gives ≡ Ends ending
    → FollowsStyleFile f files job name options (whole ending
    (job.log ++ (style_read files (job_said job) name (option_map (λ (bytes : List ℕ). record { name = name; bytes = bytes }) f)).lines))
unfolding style_read
early_named None files job name options ending h = ended_is ending ended.Finished _ _ refl h
early_named (Some text) files job name options ending h = early_found (is_too_long text) files job name text options ending h

early_asked : (s : Option (List ℕ)) (files : Files) (job : AuxContents) (options : Options) (ending : End)
    → (style_named files (job_said job) s).gives ≡ Ends ending
    → FollowsStyleName s files job options (whole ending (job.log ++ (style_named files (job_said job) s).lines))
unfolding style_named
early_asked None files job options ending h = ended_is ending ended.Finished _ _ (append-nil job.log) h
early_asked (Some name) files job options ending h = early_named (files name) files job name options ending h

early_behind : (e : AuxEnd) (files : Files) (job : AuxContents) (options : Options) (ending : End)
    → (after_job files (job_said job) e).gives ≡ Ends ending → FollowsAuxFiles e files job options (whole ending (job.log ++ (after_job files (job_said job) e).lines))
unfolding after_job
early_behind aux.Whole files job options ending h = early_asked job.style files job options ending h
early_behind aux.TooManyOpen files job options ending h = ended_is ending (ended.Limit limit.Files) _ _ (append-nil job.log) h
early_behind aux.TopMissing files job options ending h = ended_is ending ended.NoTopFile _ _ (append-nil job.log) h
early_behind aux.FileLimit files job options ending h = ended_is ending (ended.Limit limit.File) _ _ (append-nil job.log) h

abbrev lines_behind : List Line → Product → Product
lines_behind lines rest = record rest { log_so_far = flat_map (λ (line : Line). ended_line line.text) lines ++ rest.log_so_far }

pub holds : EarlyEnds
holds files name options ending h =
    let top = with_ending (codes ".aux") name in
    let said = said_by files top in
    let outcome : AuxJob → Product = λ job. lines_behind (job.log ++ (after_job files job job.ending).lines)
    (product_of_files job (after_job files job job.ending).gives options (counts_of (job.log ++ (after_job files job job.ending).lines)) options.budget) in
    let job = job_said said in
    let same : job ≡ job_of_files files top = same_job files top in
    let read = after_job files job job.ending in
    let ends : read.gives ≡ Ends ending = ap (λ (j : AuxJob). (after_job files j j.ending).gives) same ∙ h in
    let is = early_behind said.ending files said options ending ends in
    let whole_ = ap (λ r. lines_behind (job.log ++ read.lines) (product_of_files job r options (counts_of (job.log ++ read.lines)) options.budget)) ends in
    record {
      job = said;
      said = is_said files top;
      behind = subst (FollowsAuxFiles said.ending files said options) (sym whole_ ∙ ap outcome same) is;
    }
