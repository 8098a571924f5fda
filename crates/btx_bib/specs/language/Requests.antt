-- What a job and its style ask of databases, and what the code's request asks.
use Rattle.std.specs.Prelude.{ℕ, length, is_some, if◌then◌else◌}
use Rattle.btx_aux.specs.language.Job.{AuxJob}
use Rattle.btx_bst.specs.language.Style.{Style, field_of, type_of}
use Rattle.btx_bib.specs.language.Request.{Request}

-- what a job and its style ask. An uncited parent stays in the list if at least `fewest` stored entries name it: `least`, which is `--min-crossrefs`, or
-- 0 if `*` is cited
abbrev pub asked : Style → AuxJob → ℕ → Request
asked style job least = record {
  cited = job.keys;
  all = job.all;
  field = field_of style;
  count = length style.names.fields;
  kind = type_of style;
  fewest = if is_some job.all then 0 else least;
}
