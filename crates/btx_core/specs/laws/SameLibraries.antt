-- Two ways to say one library: with numbers (`Library` of btx_bib), where an entry has a list of values by the numbers of fields, and the number of its type's
-- function; and in names (`Library` of `Styles`), where it has a map from names of fields to values, and the function itself.
use Rattle.btx_aux.specs.language.Job.{AuxJob}
use Rattle.btx_bib.specs.declared.end.End.{End}
use Rattle.btx_bib.specs.declared.end.End.TheVariants as end
use Rattle.btx_bib.specs.declared.entry.Entry.{Entry as NumberedEntry}
use Rattle.btx_bib.specs.language.Databases.{library_of}
use Rattle.btx_bib.specs.language.Library.{Library as NumberedLibrary}
use Rattle.btx_bib.specs.language.MessageTexts.{message_line}
use Rattle.btx_bib.specs.language.Messages.{Database}
use Rattle.btx_bib.specs.language.Requests.{asked}
use Rattle.btx_bib.specs.language.Values.{field_value}
use Rattle.btx_bst.specs.declared.callee.Callee.TheVariants as callee
use Rattle.btx_bst.specs.language.Style.{field_of}
use Rattle.btx_bst.specs.language.StyleText.{style_of}
use Rattle.btx_core.specs.language.Databases.{Request}
use Rattle.btx_core.specs.language.Lists.{IsLibrary}
use Rattle.btx_core.specs.laws.SameStyles.{IsMeant, IsSameStyle, Numbers, numbers_of}
use Rattle.btx_core.specs.language.Styles.{Entry, Library, Style}
use Rattle.btx_text.specs.declared.limits.Limit.{Limit}
use Rattle.btx_text.specs.declared.limits.Limit.TheVariants as limit
use Rattle.std.specs.Prelude.{List, None, Option, Some, [], if◌then◌else◌, is_some, map, option_and_then, option_map, ℕ, ◌∷◌, ◌≡◌}

-- the value of a field, by its name, among values by the numbers of fields
abbrev pub value_named : (List ℕ → Option ℕ) → List (Option (List ℕ)) → List ℕ → Option (List ℕ)
value_named field values name = option_and_then (λ (number : ℕ). field_value number values) (field name)

-- two entries of one key, with the same function for their type, and the same value for each name
pub record IsSameEntry (numbers : Numbers) (field : List ℕ → Option ℕ) (numbered : NumberedEntry) (entry : Entry) : Type 0 where
  pub key : entry.key ≡ numbered.key
  pub kind : IsMeant numbers (option_map callee.User numbered.kind) entry.kind
  pub values : (name : List ℕ) → entry.value name ≡ value_named field numbered.values name

-- the same entries, one after another
abbrev pub AreSameEntries : Numbers → (List ℕ → Option ℕ) → List NumberedEntry → List Entry → Type 0
AreSameEntries numbers field [] entries = entries ≡ []
AreSameEntries numbers field (numbered ∷ more) entries =
    (entry : Entry) × (others : List Entry) × IsSameEntry numbers field numbered entry × AreSameEntries numbers field more others × (entries ≡ entry ∷ others)

-- the limit that the reading of databases met, if it met one
abbrev pub limit_met : End → Option Limit
limit_met end.Whole = None
limit_met end.FileLimit = Some limit.File
limit_met end.StringLimit = Some limit.String

-- the two say the same library: entries in the order of the list, all `@preamble`s, the lines of the log, and the limit that was met
pub record IsSameLibrary (numbers : Numbers) (field : List ℕ → Option ℕ) (numbered : NumberedLibrary) (library : Library) : Type 0 where
  pub entries : AreSameEntries numbers field numbered.entries library.entries
  pub preamble : library.preamble ≡ numbered.preamble
  pub log : library.log ≡ map message_line numbered.messages
  pub limit : library.limit ≡ limit_met numbered.ending

-- what a job and its style ask of databases; `least` is `--min-crossrefs`
abbrev pub asked_of : AuxJob → Style → ℕ → Request
asked_of job style least = record {
  cited = job.keys;
  all = job.all;
  is_field = style.is_field;
  types = style.types;
  fewest = if is_some job.all then 0 else least;
}

-- The library that databases give to a job and the style of a text, in names, is the one that the reader of databases makes of them, with numbers.
abbrev pub SameLibrary : Type 0
SameLibrary = (file text : List ℕ) (style : Style) (same : IsSameStyle (style_of file text) style) (job : AuxJob) (least : ℕ) (databases : List Database)
    (library : Library)
    → IsLibrary (asked_of job style least) style.macros databases library
    → IsSameLibrary (numbers_of (style_of file text) same.functions) (field_of (style_of file text))
    (library_of (asked (style_of file text) job least) (style_of file text).macros databases) library
