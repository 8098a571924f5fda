-- What the parts of a reading give together.
use Rattle.std.proofs.Common.{◌≡◌, ℕ, ◌+◌, ◌<◌, Bool, true, false, List, [], ◌∷◌, ◌++◌, Option, None, Some, Result, Ok, Err, IsErr, IfSome, length, take, drop}
use Rattle.std.proofs.Common.{get_or, refl, sym, ap, ◌∙◌, subst, append_assoc, append-nil, ◌≤◌, arith}
use Rattle.std.specs.Option.{option_map}
use Rattle.std.proofs.lemmas.Bool.Decides.{nat_tests}
use Rattle.std.proofs.lemmas.Grind.{flat_map-append}
use Rattle.std.proofs.lemmas.List.{map-append, take-append-drop, take_more}
use Rattle.btx_text.specs.declared.fault.Fault.{Fault}
use Rattle.btx_text.specs.language.Limits.{greatest_file, is_too_long}
use Rattle.btx_text.specs.language.LogLines.{Line}
use Rattle.btx_aux.specs.refinement.Entries.{Bytes, texts_of}
use Rattle.btx_aux.specs.language.Files.{Files, file_of}
use Rattle.btx_out.specs.language.Pieces.{AppendsPrefix}
use Rattle.btx_out.proofs.PieceLemmas.{prefix-none_same}
use Rattle.btx_machine.specs.declared.report.LogCounts.{LogCounts}
use Rattle.btx_core.specs.language.Files.Found.{NamedFile, file_at}
use Rattle.btx_aux.specs.language.Job.{AuxJob}
use Rattle.btx_aux.specs.declared.end.End.{End as AuxEnd}
use Rattle.btx_aux.specs.declared.end.End.TheVariants as aux
use Rattle.btx_core.specs.declared.found.FilesRead.{FilesRead}
use Rattle.btx_core.specs.declared.found.FilesRead.TheVariants.{Ends, Found}
use Rattle.btx_text.specs.declared.limits.Limit.TheVariants as kind
use Rattle.btx_machine.specs.declared.report.End.TheVariants as ended
use Rattle.btx_run.specs.refinement.Files.Logging.{Counted, LogReceived, Logs, bytes_of_lines}
use Rattle.btx_core.specs.language.Files.Lines.{no_style_line, style_line}
use Rattle.btx_run.proofs.LoggingLemmas.{logs_both, logs_nothing, part_begins, rest_begins}
use Rattle.btx_core.specs.language.Files.Databases.{databases_logged, files_found}
use Rattle.btx_core.specs.refinement.Files.Readings.{Logged, after_job, behind, logged, style_named, style_read}
use Rattle.btx_run.specs.refinement.Files.Readings.{AddsAs, IsAdded, IsRead, ReadsAs, after_style, database_logged, database_read, databases_read}
use Rattle.std.specs.Prelude.{option_to_list}
use Rattle.btx_core.specs.refinement.Files.Found.{named_file}

-- ---- contents

-- what holds of every content holds of the one that is logged
pub of_any : (content : Option Files) (P : Files → Type 0) → ((files : Files) → P files) → IfSome content P
of_any None P p = tt
of_any (Some files) P p = p files

-- what follows from what is known of the content
pub of_logged : (content : Option Files) (Q P : Files → Type 0) → IfSome content Q → ((files : Files) → Q files → P files) → IfSome content P
of_logged None Q P q p = tt
of_logged (Some files) Q P q p = p files q

-- what follows from two things that are known of it, one after the other
pub of_both : (content later : Option Files) (Q R P : Files → Type 0) → later ≡ content → IfSome content Q → IfSome later R
    → ((files : Files) → Q files → R files → P files) → IfSome content P
of_both None later Q R P is q r p = tt
of_both (Some files) later Q R P is q r p = p files q (subst (λ (content : Option Files). IfSome content R) is r)

-- ---- a file that was asked for

pub file_is_there : (files : Files) (name bytes : List ℕ) (found : Bool) (file : NamedFile) → files name ≡ file_of found bytes → found ≡ true
    → file ≡ named_file name bytes → Some file ≡ file_at files name
file_is_there files name bytes true file is there made = ap Some made ∙ sym (ap (option_map (named_file name)) is)
file_is_there files name bytes false file is there made = cc

pub file_is_missing : (files : Files) (name bytes : List ℕ) (found : Bool) → files name ≡ file_of found bytes → found ≡ false → None ≡ file_at files name
file_is_missing files name bytes true is missing = cc
file_is_missing files name bytes false is missing = sym (ap (option_map (named_file name)) is)

-- a file that was found has the name that was asked for
pub file_is_named : (files : Files) (name : List ℕ) (file : NamedFile) → Some file ≡ file_at files name → file.name ≡ name
file_is_named files name file is = by (files name) is where
  name_of : (o : Option NamedFile) → List ℕ
  name_of None = name
  name_of (Some file) = file.name

  by : (bytes : Option (List ℕ)) → Some file ≡ option_map (named_file name) bytes → file.name ≡ name
  by None is = cc
  by (Some bytes) is = ap name_of is

-- ---- parts, one after another

untrue : false ≡ true → ⊥
untrue h = cc

-- a fault before anything was written
pub reads_nothing : {T : Type 0} (r : Result T Fault) (a b : LogCounts) (x : Option (List ℕ)) (part : Logged T) → IsErr r → ReadsAs r (a, b) (x, x) part
reads_nothing (Ok value) a b x part err = absurd (untrue err)
reads_nothing (Err fault) a b x part err = prefix-none_same x _

-- a fault, where a prefix of the part was written
pub reads_failing : {T : Type 0} (r : Result T Fault) (a b : LogCounts) (x y : Option (List ℕ)) (part : Logged T) → IsErr r
    → AppendsPrefix x y (bytes_of_lines part.lines) → ReadsAs r (a, b) (x, y) part
reads_failing (Ok value) a b x y part err begins = absurd (untrue err)
reads_failing (Err fault) a b x y part err begins = begins

-- lines, and then a part
pub reads_behind : {T : Type 0} (r : Result T Fault) (a b c : LogCounts) (x y z : Option (List ℕ)) (lines : List Line) (part : Logged T)
    → Logs (a, b) (x, y) lines → ReadsAs r (b, c) (y, z) part → ReadsAs r (a, c) (x, z) (behind lines part)
reads_behind (Ok value) a b c x y z lines part logs read = record { gives = read.gives; logs = logs_both a b c x y z _ _ logs read.logs }
reads_behind (Err fault) a b c x y z lines part logs read = rest_begins x y z a b _ _ logs read

-- a fault while the lines before a part were written
pub reads_part : {T : Type 0} (r : Result T Fault) (a b : LogCounts) (x y : Option (List ℕ)) (lines : List Line) (part : Logged T)
    → IsErr r → AppendsPrefix x y (bytes_of_lines lines) → ReadsAs r (a, b) (x, y) (behind lines part)
reads_part (Ok value) a b x y lines part err begins = absurd (untrue err)
reads_part (Err fault) a b x y lines part err begins = part_begins x y _ _ begins

-- a part without a line
pub reads_at_once : {T : Type 0} (value : T) (a : LogCounts) (x : Option (List ℕ)) → IsRead value (a, a) (x, x) (logged [] value)
reads_at_once value a x = record { gives = refl; logs = logs_nothing a x }

-- ---- databases

-- none yet
pub no_database : (files : Files) (found : List NamedFile) (a : LogCounts) (x : Option (List ℕ)) → found ≡ []
    → IsRead found (a, a) (x, x) (databases_read files [])
no_database files found a x none = subst (λ (found : List NamedFile). IsRead found (a, a) (x, x) (logged [] [])) (sym none) (reads_at_once [] a x)

pub databases_logged-append : (files : Files) (earlier xs ys : List (List ℕ))
    → databases_logged files earlier (xs ++ ys) ≡ databases_logged files earlier xs ++ databases_logged files (earlier ++ xs) ys
databases_logged-append files earlier [] ys = ap (λ l. databases_logged files l ys) (sym (append-nil earlier))
databases_logged-append files earlier (x ∷ xs) ys =
    ap (λ l. database_logged (length (files_found files earlier) + 1) x (file_at files x) ∷ l)
    (databases_logged-append files (earlier ++ x ∷ []) xs ys
    ∙ ap (λ l. databases_logged files (earlier ++ x ∷ []) xs ++ databases_logged files l ys) (append_assoc earlier (x ∷ []) xs))

-- the names of one database more
pub names_more : (names : List Bytes) (i : ℕ) (name : Bytes) → i < length names → name ≡ get_or names i name
    → texts_of (take (i + 1) names) ≡ texts_of (take i names) ++ name.items ∷ []
names_more names i name lt is =
    ap texts_of (take_more names i name lt ∙ ap (λ x. take i names ++ x ∷ []) (sym is)) ∙ map-append (λ (name : Bytes). name.items) (take i names) (name ∷ [])

pub logged_more : (files : Files) (names : List Bytes) (i : ℕ) (name : Bytes) → i < length names → name ≡ get_or names i name
    → databases_logged files [] (texts_of (take (i + 1) names))
    ≡ databases_logged files [] (texts_of (take i names)) ++ database_logged (length (files_found files (texts_of (take i names))) + 1) name.items
    (file_at files name.items) ∷ []
logged_more files names i name lt is = ap (databases_logged files []) (names_more names i name lt is)
    ∙ databases_logged-append files [] (texts_of (take i names)) (name.items ∷ [])

found_more : (files : Files) (names : List Bytes) (i : ℕ) (name : Bytes) → i < length names → name ≡ get_or names i name
    → files_found files (texts_of (take (i + 1) names)) ≡ files_found files (texts_of (take i names)) ++ option_to_list (file_at files name.items)
found_more files names i name lt is =
    ap (files_found files) (names_more names i name lt is)
    ∙ flat_map-append (λ name. option_to_list (file_at files name)) (texts_of (take i names)) (name.items ∷ [])
    ∙ ap (λ l. files_found files (texts_of (take i names)) ++ l) (append-nil (option_to_list (file_at files name.items)))

-- a database's line was logged
pub database_is_read : (files : Files) (number : ℕ) (name : List ℕ) (found : Option NamedFile) (line : Line) (a b : LogCounts) (x y : Option (List ℕ))
    → found ≡ file_at files name
    → line ≡ database_logged number name found → Logs (a, b) (x, y) (line ∷ []) → IsRead found (a, b) (x, y) (database_read files number name)
database_is_read files number name found line a b x y is is_line logs = record {
  gives = is;
  logs = subst (λ line. Logs (a, b) (x, y) (line ∷ [])) (is_line ∙ ap (database_logged number name) is) logs;
}

-- a prefix of it
pub database_is_begun : (files : Files) (number : ℕ) (name : List ℕ) (found : Option NamedFile) (line : Line) (r : Result (Option NamedFile) Fault)
    (a b : LogCounts) (x y : Option (List ℕ))
    → IsErr r → found ≡ file_at files name → line ≡ database_logged number name found → AppendsPrefix x y (bytes_of_lines (line ∷ []))
    → ReadsAs r (a, b) (x, y) (database_read files number name)
database_is_begun files number name found line r a b x y err is is_line part =
    reads_failing r a b x y _ err (subst (λ line. AppendsPrefix x y (bytes_of_lines (line ∷ []))) (is_line ∙ ap (database_logged number name) is) part)

-- a database that was read as the next one is kept
pub adds_found : (files : Files) (before after : List NamedFile) (number : ℕ) (name : List ℕ) (found : Option NamedFile) (a b : LogCounts)
    (x y : Option (List ℕ))
    → number ≡ length before + 1 → after ≡ before ++ option_to_list found → IsRead found (a, b) (x, y) (database_read files number name)
    → IsAdded before after (a, b) (x, y) (database_read files (length before + 1) name)
adds_found files before after number name found a b x y next kept read = record {
  kept = kept ∙ ap (λ found. before ++ option_to_list found) read.gives;
  logs = subst (λ number. Logs (a, b) (x, y) (database_read files number name).lines) next read.logs;
}

-- a fault at a database
pub adds_begun : (files : Files) (before after : List NamedFile) (number : ℕ) (name : List ℕ) (r : Result (Unit {0}) Fault) (a b : LogCounts)
    (x y : Option (List ℕ))
    → IsErr r → number ≡ length before + 1 → AppendsPrefix x y (bytes_of_lines (database_read files number name).lines)
    → AddsAs r before after (a, b) (x, y) (database_read files (length before + 1) name)
adds_begun files before after number name (Ok done) a b x y err next part = absurd (untrue err)
adds_begun files before after number name (Err fault) a b x y err next part =
    subst (λ number. AppendsPrefix x y (bytes_of_lines (database_read files number name).lines)) next part

-- one database more
pub databases_more : (files : Files) (names : List Bytes) (i : ℕ) (name : Bytes) (text : List ℕ) (found later : List NamedFile) (a b c : LogCounts)
    (x y z : Option (List ℕ))
    → i < length names → name ≡ get_or names i name → text ≡ name.items
    → IsRead found (a, b) (x, y) (databases_read files (texts_of (take i names)))
    → IsAdded found later (b, c) (y, z) (database_read files (length found + 1) text)
    → IsRead later (a, c) (x, z) (databases_read files (texts_of (take (i + 1) names)))
databases_more files names i name text found later a b c x y z lt is same read added = record {
  gives = added.kept ∙ ap (λ l. found ++ option_to_list (file_at files l)) same ∙ ap (λ l. l ++ option_to_list (file_at files name.items)) read.gives
      ∙ sym (found_more files names i name lt is);
  logs =
      let here = subst (λ text. Logs (b, c) (y, z) (database_logged (length found + 1) text (file_at files text) ∷ [])) same added.logs in
      let next = subst (λ l. Logs (b, c) (y, z) (database_logged (length l + 1) name.items (file_at files name.items) ∷ [])) read.gives here in
      subst (Logs (a, c) (x, z)) (sym (logged_more files names i name lt is)) (logs_both a b c x y z _ _ read.logs next);
}

-- a fault at a database
pub databases_begin : (files : Files) (names : List Bytes) (i : ℕ) (name : Bytes) (text : List ℕ) (found : List NamedFile) (a b : LogCounts)
    (x y z : Option (List ℕ))
    → i < length names → name ≡ get_or names i name → text ≡ name.items
    → IsRead found (a, b) (x, y) (databases_read files (texts_of (take i names)))
    → AppendsPrefix y z (bytes_of_lines (database_logged (length found + 1) text (file_at files text) ∷ []))
    → AppendsPrefix x z (bytes_of_lines (databases_logged files [] (texts_of names)))
databases_begin files names i name text found a b x y z lt is same read part =
    let here = subst (λ text. AppendsPrefix y z (bytes_of_lines (database_logged (length found + 1) text (file_at files text) ∷ []))) same part in
    let next = subst (λ l. AppendsPrefix y z (bytes_of_lines (database_logged (length l + 1) name.items (file_at files name.items) ∷ []))) read.gives here in
    let first = rest_begins x y z a b _ _ read.logs next in
    let so_far = subst (λ l. AppendsPrefix x z (bytes_of_lines l)) (sym (logged_more files names i name lt is)) first in
    let whole : texts_of names ≡ texts_of (take (i + 1) names) ++ texts_of (drop (i + 1) names) =
    ap texts_of (sym (take-append-drop (i + 1) names)) ∙ map-append (λ (name : Bytes). name.items) (take (i + 1) names) (drop (i + 1) names) in
    let lines : databases_logged files [] (texts_of names) ≡ databases_logged files [] (texts_of (take (i + 1) names))
    ++ databases_logged files (texts_of (take (i + 1) names)) (texts_of (drop (i + 1) names)) =
    ap (databases_logged files []) whole ∙ databases_logged-append files [] (texts_of (take (i + 1) names)) (texts_of (drop (i + 1) names)) in
    subst (λ l. AppendsPrefix x z (bytes_of_lines l)) (sym lines) (part_begins x z _ _ so_far)

-- ---- the style

pub style_too_long : (files : Files) (job : AuxJob) (style : NamedFile) (a : LogCounts) (x : Option (List ℕ)) → is_too_long style.bytes ≡ true
    → IsRead (Ends (ended.Limit kind.File)) (a, a) (x, x) (after_style files job style)
unfolding after_style
style_too_long files job style a x long = rw long (reads_at_once (Ends (ended.Limit kind.File)) a x)

-- a style that isn't too long
pub style_fits : (bytes : List ℕ) → is_too_long bytes ≡ false → length bytes ≤ greatest_file
style_fits bytes short = grind (arith, nat_tests)

pub databases_found : (files : Files) (job : AuxJob) (style : NamedFile) (names : List (List ℕ)) (found : List NamedFile) (a b : LogCounts)
    (x y : Option (List ℕ))
    → is_too_long style.bytes ≡ false → names ≡ job.databases → IsRead found (a, b) (x, y) (databases_read files names)
    → IsRead (Found (record { style = style; databases = found })) (a, b) (x, y) (after_style files job style)
unfolding after_style
databases_found files job style names found a b x y short is read =
    let here = subst (λ names. IsRead found (a, b) (x, y) (databases_read files names)) is read in
    rw short (record { gives = ap (λ l. Found (record { style = style; databases = l })) here.gives; logs = here.logs })

pub databases_fail : (r : Result FilesRead Fault) (files : Files) (job : AuxJob) (style : NamedFile) (names : List (List ℕ)) (a b : LogCounts)
    (x y : Option (List ℕ))
    → IsErr r → is_too_long style.bytes ≡ false → names ≡ job.databases → AppendsPrefix x y (bytes_of_lines (databases_logged files [] names))
    → ReadsAs r (a, b) (x, y) (after_style files job style)
unfolding after_style
databases_fail (Ok value) files job style names a b x y err short is part = absurd (untrue err)
databases_fail (Err fault) files job style names a b x y err short is part =
    rw short (subst (λ names. AppendsPrefix x y (bytes_of_lines (databases_logged files [] names))) is part)

pub style_is_read : (files : Files) (job : AuxJob) (name : List ℕ) (style : NamedFile) → style_read files job name (Some style)
    ≡ behind (style_line name ∷ []) (after_style files job style)
unfolding style_read after_style
style_is_read files job name style = refl

pub style_is_missed : (files : Files) (job : AuxJob) (name : List ℕ) → style_read files job name None
    ≡ behind (no_style_line name ∷ []) (logged [] (Ends ended.Finished))
unfolding style_read
style_is_missed files job name = refl

pub style_missed : (files : Files) (job : AuxJob) (name : List ℕ) (line : Line) (a b : LogCounts) (x y : Option (List ℕ))
    → line ≡ no_style_line name → Logs (a, b) (x, y) (line ∷ []) → IsRead (Ends ended.Finished) (a, b) (x, y) (style_read files job name None)
unfolding style_read
style_missed files job name line a b x y is logs = record { gives = refl; logs = subst (λ line. Logs (a, b) (x, y) (line ∷ [])) is logs }

-- the same answer for the same part
pub reads_is : {T : Type 0} (r : Result T Fault) (counted : Counted) (log : LogReceived) (part same : Logged T) → part ≡ same → ReadsAs r counted log same
    → ReadsAs r counted log part
reads_is r counted log part same is read = subst (λ part. ReadsAs r counted log part) (sym is) read

-- a style that was found by its name
pub style_is_found : (r : Result FilesRead Fault) (files : Files) (job : AuxJob) (name : List ℕ) (found : Option NamedFile) (style : NamedFile)
    (counted : Counted) (log : LogReceived)
    → found ≡ Some style → found ≡ file_at files name → ReadsAs r counted log (style_read files job style.name (Some style))
    → ReadsAs r counted log (style_read files job name (file_at files name))
style_is_found r files job name found style counted log some is read =
    let here = sym some ∙ is in
    subst (λ (style : Option NamedFile). ReadsAs r counted log (style_read files job name style)) here
    (subst (λ name. ReadsAs r counted log (style_read files job name (Some style))) (file_is_named files name style here) read)

-- a style that isn't there
pub style_is_missing : (r : Result FilesRead Fault) (files : Files) (job : AuxJob) (name : List ℕ) (found : Option NamedFile) (counted : Counted)
    (log : LogReceived)
    → found ≡ None → found ≡ file_at files name → ReadsAs r counted log (style_read files job name None)
    → ReadsAs r counted log (style_read files job name (file_at files name))
style_is_missing r files job name found counted log none is read = subst (λ (style : Option NamedFile). ReadsAs r counted log (style_read files job name style))
    (sym none ∙ is) read

-- ---- the job

style_unnamed : (files : Files) (job : AuxJob) (named : Option (List ℕ)) (a : LogCounts) (x : Option (List ℕ)) → named ≡ None
    → IsRead (Ends ended.Finished) (a, a) (x, x) (style_named files job named)
unfolding style_named
style_unnamed files job named a x is = subst (λ named. IsRead (Ends ended.Finished) (a, a) (x, x) (style_named files job named)) (sym is)
    (reads_at_once (Ends ended.Finished) a x)

style_is_named : (files : Files) (job : AuxJob) (named : Option (List ℕ)) (name : List ℕ) → named ≡ Some name → style_named files job named
    ≡ style_read files job name (file_at files name)
unfolding style_named
style_is_named files job named name is = ap (style_named files job) is

after_whole : (files : Files) (job : AuxJob) (end : AuxEnd) → end ≡ aux.Whole → after_job files job end ≡ style_named files job job.style
unfolding after_job
after_whole files job end is = ap (after_job files job) is

-- then a style is looked for by the name that the files give, or none is
pub after_named : (files : Files) (job : AuxJob) (end : AuxEnd) (name : List ℕ) → end ≡ aux.Whole → job.style ≡ Some name → after_job files job end
    ≡ style_read files job name (file_at files name)
after_named files job end name whole is = after_whole files job end whole ∙ style_is_named files job job.style name is

pub after_unnamed : (files : Files) (job : AuxJob) (end : AuxEnd) (a : LogCounts) (x : Option (List ℕ)) → end ≡ aux.Whole → job.style ≡ None
    → IsRead (Ends ended.Finished) (a, a) (x, x) (after_job files job end)
after_unnamed files job end a x whole is =
    subst (λ part. IsRead (Ends ended.Finished) (a, a) (x, x) part) (sym (after_whole files job end whole)) (style_unnamed files job job.style a x is)

pub after_many : (files : Files) (job : AuxJob) (end : AuxEnd) (a : LogCounts) (x : Option (List ℕ)) → end ≡ aux.TooManyOpen
    → IsRead (Ends (ended.Limit kind.Files)) (a, a) (x, x) (after_job files job end)
unfolding after_job
after_many files job end a x is = subst (λ end. IsRead (Ends (ended.Limit kind.Files)) (a, a) (x, x) (after_job files job end)) (sym is)
    (reads_at_once (Ends (ended.Limit kind.Files)) a x)

pub after_none : (files : Files) (job : AuxJob) (end : AuxEnd) (a : LogCounts) (x : Option (List ℕ)) → end ≡ aux.TopMissing
    → IsRead (Ends ended.NoTopFile) (a, a) (x, x) (after_job files job end)
unfolding after_job
after_none files job end a x is = subst (λ end. IsRead (Ends ended.NoTopFile) (a, a) (x, x) (after_job files job end)) (sym is)
    (reads_at_once (Ends ended.NoTopFile) a x)

pub after_long : (files : Files) (job : AuxJob) (end : AuxEnd) (a : LogCounts) (x : Option (List ℕ)) → end ≡ aux.FileLimit
    → IsRead (Ends (ended.Limit kind.File)) (a, a) (x, x) (after_job files job end)
unfolding after_job
after_long files job end a x is = subst (λ end. IsRead (Ends (ended.Limit kind.File)) (a, a) (x, x) (after_job files job end)) (sym is)
    (reads_at_once (Ends (ended.Limit kind.File)) a x)
