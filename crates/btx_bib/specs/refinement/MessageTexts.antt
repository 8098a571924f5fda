-- Parts of definitions by their names.
use Rattle.std.specs.Prelude.{ℕ, List, [], Option}
use Rattle.btx_text.specs.language.LogLines.{place_text}
use Rattle.btx_bib.specs.declared.message.SourcePosition.{SourcePosition}
use Rattle.std.specs.Option.{option_map_or}

-- the end of a log line that has a place: `--line 7 of file refs.bib`
abbrev pub spot_text : Option SourcePosition → List ℕ
spot_text spot = option_map_or (λ (found : SourcePosition). place_text found.line found.file) spot []
