-- Lines of the log on files.
use Rattle.std.specs.Prelude.{ℕ, List, ◌++◌, codes, decimal}
use Rattle.btx_text.specs.declared.log_line.LineKind.TheVariants.{Plain, Error}
use Rattle.btx_text.specs.language.LogLines.{Line, message}

-- the log line that the style was found
unfoldable pub style_line : List ℕ → Line
style_line name = message Plain (codes "The style file: " ++ name)

-- the log line that the style is missing
unfoldable pub no_style_line : List ℕ → Line
no_style_line name = message Error (codes "I couldn't open style file " ++ name)

-- the log line that a database was found; `number` counts those that were found
unfoldable pub database_line : ℕ → List ℕ → Line
database_line number name = message Plain (codes "Database file #" ++ decimal number ++ codes ": " ++ name)

-- the log line that a database is missing
unfoldable pub no_database_line : List ℕ → Line
no_database_line name = message Error (codes "I couldn't open database file " ++ name)
