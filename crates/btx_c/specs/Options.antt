-- What can be asked of a run, in numbers.
use Rattle.std.specs.Prelude.{Bool, true, false}
use Rattle.btx_text.specs.declared.element_kind.TextMode.{TextMode}
use Rattle.btx_text.specs.declared.element_kind.TextMode.TheVariants.{Bytes, Utf8}
use Rattle.btx_out.specs.laws.Lengths.{IsLineLength}
use Rattle.btx_step.specs.refinement.Limits.{IsKeptBytes}
use Rattle.btx_core.specs.declared.options.Options.{Options}
use Rattle.btx_c.specs.declared.options.BtxOptions.{BtxOptions}

-- how text is read: as UTF-8, or byte by byte
abbrev pub mode : Bool → TextMode
mode true = Utf8
mode false = Bytes

-- each number is one that can be asked for
abbrev pub IsInRange : BtxOptions → Type 0
IsInRange given = IsLineLength given.line × IsKeptBytes given.entry_max × IsKeptBytes given.global_max

-- the options that these numbers ask for
abbrev pub asked : BtxOptions → Options
asked given = record {
  min_crossrefs = given.min_crossrefs;
  budget = given.budget;
  text = mode given.utf8;
  line = given.line;
  entry_max = given.entry_max;
  global_max = given.global_max;
}
