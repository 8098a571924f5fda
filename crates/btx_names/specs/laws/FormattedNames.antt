-- Parts of a name in a format, of which laws speak.
use Rattle.std.specs.Prelude.{ℕ, List, Bool, if◌then◌else◌}
use Rattle.btx_text.specs.declared.element_kind.TextMode.{TextMode}
use Rattle.btx_names.specs.language.FormattedNames.{initial_of}

-- a token in full, or abbreviated
abbrev pub shown : TextMode → Bool → List ℕ → List ℕ
shown mode is_full token = if is_full then token else initial_of mode token
