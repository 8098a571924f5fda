-- What is printed.
use Rattle.std.specs.Prelude.{ℕ, List, [], if◌then◌else◌}
use Rattle.btx_command.specs.declared.given.Settings.{Settings}

-- of a log: all of it, and nothing where the settings are terse
abbrev pub printed_log : Settings → List ℕ → List ℕ
printed_log settings log = if settings.terse then [] else log
