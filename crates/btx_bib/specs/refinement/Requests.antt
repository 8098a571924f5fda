-- What a request wants of the databases, as the definitions have it.
use Rattle.std.specs.Prelude.{length, ℕ, Option, is_some, if◌then◌else◌}
use Rattle.btx_bib.specs.declared.request.Request.{Request}
use Rattle.btx_bst.specs.language.Style.{field_of, type_of}
use Rattle.btx_bib.specs.language.Request.{Request as Expected}

-- how many stored entries have to name an uncited parent for it to stay in the list: `least`, or 0 if `*` is cited
abbrev pub fewest_of : Option ℕ → ℕ → ℕ
fewest_of all least = if is_some all then 0 else least

abbrev pub wanted : Request → Expected
wanted request = record {
  cited = request.job.now.keys;
  all = request.all;
  field = field_of request.style;
  count = length request.style.names.fields;
  kind = type_of request.style;
  fewest = request.fewest;
}
