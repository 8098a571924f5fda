-- Laws of what is logged of databases that are looked for.
use Rattle.std.proofs.Common.{◌≡◌, ℕ, suc, ◌+◌, List, [], ◌∷◌, ◌++◌, Option, None, Some, cond, length, map, refl, ap, ◌∙◌, append-nil, length-append, arith}
use Rattle.std.specs.List.{filter}
use Rattle.std.specs.Option.{option_map}
use Rattle.std.specs.Prelude.{is_none, option_to_list}
use Rattle.std.proofs.lemmas.Grind.{flat_map-append}
use Rattle.btx_text.specs.language.LogLines.{Line, is_error}
use Rattle.btx_aux.specs.language.Files.{Files}
use Rattle.btx_core.specs.language.Files.Lines.{database_line, no_database_line}
use Rattle.btx_core.specs.language.Files.Found.{NamedFile, file_at}
use Rattle.btx_run.specs.laws.Files.Laws.{FoundAreNumbered, MissingAreErrors, OneLineEach, is_plain_line, numbered}
use Rattle.btx_core.specs.language.Files.Databases.{databases_logged, files_found}
use Rattle.btx_core.specs.refinement.Files.Found.{named_file}
use Rattle.btx_run.specs.refinement.Files.Readings.{database_logged}

-- ---- the databases that were found are numbered

numbered_step : (n : ℕ) (name : List ℕ) (bytes : Option (List ℕ)) (lines : List Line) (later : List NamedFile)
    → filter (λ line. is_plain_line line.kind) lines ≡ numbered (n + length (option_to_list (option_map (named_file name) bytes)) + 1) later
    → filter (λ line. is_plain_line line.kind) (database_logged (n + 1) name (option_map (named_file name) bytes) ∷ lines)
    ≡ numbered (n + 1) (option_to_list (option_map (named_file name) bytes) ++ later)
unfolding database_line no_database_line
numbered_step n name None lines later is = is ∙ ap (λ k. numbered k later) (omega arith)
numbered_step n name (Some bytes) lines later is = ap (λ l. database_line (n + 1) name ∷ l) (is ∙ ap (λ k. numbered (k + 1) later) (omega arith))

-- how many are found with one more name
found_with : (files : Files) (earlier : List (List ℕ)) (name : List ℕ)
    → length (files_found files (earlier ++ name ∷ [])) ≡ length (files_found files earlier) + length (option_to_list (file_at files name))
found_with files earlier name =
    ap length (flat_map-append (λ name. option_to_list (file_at files name)) earlier (name ∷ [])
    ∙ ap (λ l. files_found files earlier ++ l) (append-nil (option_to_list (file_at files name))))
    ∙ length-append (files_found files earlier) (option_to_list (file_at files name))

numbered_from : (files : Files) (earlier names : List (List ℕ))
    → filter (λ line. is_plain_line line.kind) (databases_logged files earlier names) ≡ numbered (length (files_found files earlier) + 1)
    (files_found files names)
numbered_from files earlier [] = refl
numbered_from files earlier (name ∷ names) =
    numbered_step (length (files_found files earlier)) name (files name) (databases_logged files (earlier ++ name ∷ []) names) (files_found files names)
    (numbered_from files (earlier ++ name ∷ []) names ∙ ap (λ k. numbered (k + 1) (files_found files names)) (found_with files earlier name))

pub found_are_numbered : FoundAreNumbered
found_are_numbered = λ files names. numbered_from files [] names

-- ---- those that weren't found are errors

missing_step : (n : ℕ) (name : List ℕ) (bytes : Option (List ℕ)) (lines : List Line) (later : List (List ℕ))
    → filter (λ line. is_error line.kind) lines ≡ map no_database_line later
    → filter (λ line. is_error line.kind) (database_logged n name (option_map (named_file name) bytes) ∷ lines)
    ≡ map no_database_line (cond (is_none bytes) (name ∷ later) later)
unfolding database_line no_database_line
missing_step n name None lines later is = ap (λ l. no_database_line name ∷ l) is
missing_step n name (Some bytes) lines later is = is

missing_from : (files : Files) (earlier names : List (List ℕ))
    → filter (λ line. is_error line.kind) (databases_logged files earlier names) ≡ map no_database_line (filter (λ name. is_none (files name)) names)
missing_from files earlier [] = refl
missing_from files earlier (name ∷ names) =
    missing_step (length (files_found files earlier) + 1) name (files name) (databases_logged files (earlier ++ name ∷ []) names)
    (filter (λ name. is_none (files name)) names)
    (missing_from files (earlier ++ name ∷ []) names)

pub missing_are_errors : MissingAreErrors
missing_are_errors = λ files names. missing_from files [] names

-- ---- one line each

lines_from : (files : Files) (earlier names : List (List ℕ)) → length (databases_logged files earlier names) ≡ length names
lines_from files earlier [] = refl
lines_from files earlier (name ∷ names) = ap suc (lines_from files (earlier ++ name ∷ []) names)

pub one_line_each : OneLineEach
one_line_each = λ files names. lines_from files [] names
