-- What each line is about that reading a job's files logs.
use Rattle.std.proofs.Common.{◌≡◌, ℕ, ◌+◌, inl, inr, ◌⊎◌, ⊎_elim, Bool, true, false, if◌then◌else◌, List, [], ◌∷◌, ◌++◌, Option, None, Some, length, map, refl, sym, ap, ◌∙◌, arith}
use Rattle.std.specs.Prelude.{Contains, codes}
use Rattle.std.proofs.lemmas.List.Elements.{Contains-append_cases, Contains-append_left, Contains-append_right, Contains-push_cases}
use Rattle.btx_text.specs.declared.limits.Limit.TheVariants as kind
use Rattle.btx_text.specs.language.Limits.{is_too_long}
use Rattle.btx_text.specs.language.LogLines.{Line, message}
use Rattle.btx_aux.specs.declared.end.End.{End as AuxEnd}
use Rattle.btx_aux.specs.declared.end.End.TheVariants as aux
use Rattle.btx_aux.specs.language.Events.{job_events}
use Rattle.btx_aux.specs.language.Files.{Files}
use Rattle.btx_aux.specs.language.Job.{AuxJob, job_of_files, notes_of}
use Rattle.btx_aux.specs.language.Names.{with_ending}
use Rattle.btx_aux.specs.language.Notes.{AuxNote, aux_note_kind, aux_note_text}
use Rattle.btx_machine.specs.declared.report.End.TheVariants as ended
use Rattle.btx_core.specs.declared.found.FilesRead.{FilesRead}
use Rattle.btx_core.specs.declared.found.FilesRead.TheVariants.{Ends, Found}
use Rattle.btx_core.specs.language.Files.Databases.{databases_logged, files_found}
use Rattle.btx_core.specs.language.Files.Found.{NamedFile, file_at}
use Rattle.btx_core.specs.language.Files.Lines.{style_line}
use Rattle.btx_core.specs.refinement.Files.Readings.{Logged, after_job, job_named, logged, style_named, style_read}
use Rattle.btx_run.specs.laws.Files.Origins.{IsOfDatabase, IsOfNote, IsOfStyle, LinesAreOfFiles, style_logged}
use Rattle.btx_run.specs.refinement.Files.Readings.{database_logged}

-- ---- elements of lists

module _ {X : Type 0} where
  nothing_in : (y : X) → Contains [] y → ⊥
  nothing_in y h = let lt = h.1 in omega arith

  only_one : (x y : X) → Contains (x ∷ []) y → y ≡ x
  only_one x y h = ⊎_elim (λ none. absurd (nothing_in y none)) (λ is. sym is) (Contains-push_cases [] x y h)

  first_or_later : (x : X) (xs : List X) (y : X) → Contains (x ∷ xs) y → (y ≡ x) ⊎ Contains xs y
  first_or_later x xs y h = ⊎_elim (λ here. inl (only_one x y here)) (λ later. inr later) (Contains-append_cases (x ∷ []) xs y h)

  is_first : (x : X) (xs : List X) → Contains (x ∷ xs) x
  is_first x xs = Contains-append_left (x ∷ []) xs x (0, omega arith, refl)

-- ---- notes

of_note : (notes : List AuxNote) (line : Line) → Contains (map (λ (note : AuxNote). message (aux_note_kind note) (aux_note_text note)) notes) line
    → IsOfNote notes line
of_note [] line h = absurd (nothing_in line h)
of_note (note ∷ notes) line h =
    ⊎_elim (λ is. record { note = note; is_one = is_first note notes; is_line = is })
    (λ later. let of = of_note notes line later in
    record { note = of.note; is_one = Contains-append_right (note ∷ []) notes of.note of.is_one; is_line = of.is_line })
    (first_or_later (message (aux_note_kind note) (aux_note_text note)) _ line h)

-- ---- databases and the style

of_database : (files : Files) (earlier names : List (List ℕ)) (line : Line) → Contains (databases_logged files earlier names) line → IsOfDatabase files names line
of_database files earlier [] line h = absurd (nothing_in line h)
of_database files earlier (name ∷ names) line h =
    let number = length (files_found files earlier) + 1 in
    ⊎_elim (λ is. record { name = name; is_one = is_first name names; number = number; is_line = is })
    (λ later. let of = of_database files (earlier ++ name ∷ []) names line later in
    record { name = of.name; is_one = Contains-append_right (name ∷ []) names of.name of.is_one; number = of.number; is_line = of.is_line })
    (first_or_later (database_logged number name (file_at files name)) (databases_logged files (earlier ++ name ∷ []) names) line h)

module _ (files : Files) (job : AuxJob) (line : Line) where
  -- after a style that was found
  of_databases : (long : Bool) (style : NamedFile)
      → Contains (if long then logged [] (Ends (ended.Limit kind.File))
      else logged (databases_logged files [] job.databases) (Found (record { style = style; databases = files_found files job.databases }))).lines line
      → IsOfDatabase files job.databases line
  of_databases true style h = absurd (nothing_in line h)
  of_databases false style h = of_database files [] job.databases line h

  of_style_read : (name : List ℕ) → job.style ≡ Some name → (found : Option NamedFile) → found ≡ file_at files name
      → Contains (style_read files job name found).lines line → IsOfStyle files job.style line ⊎ IsOfDatabase files job.databases line
  unfolding style_read
  of_style_read name named None is h =
      inl (record { name = name; is_named = named; is_line = only_one _ line h ∙ ap (λ found. style_logged name found) is })
  of_style_read name named (Some style) is h =
      ⊎_elim (λ here. inl (record { name = name; is_named = named; is_line = here ∙ ap (λ found. style_logged name found) is }))
      (λ later. inr (of_databases (is_too_long style.bytes) style later))
      (first_or_later (style_line name) _ line h)

  of_style_named : (style : Option (List ℕ)) → job.style ≡ style → Contains (style_named files job style).lines line
      → IsOfStyle files job.style line ⊎ IsOfDatabase files job.databases line
  unfolding style_named
  of_style_named None is h = absurd (nothing_in line h)
  of_style_named (Some name) is h = of_style_read name is (file_at files name) refl h

  of_after_job : (end : AuxEnd) → Contains (after_job files job end).lines line
      → IsOfStyle files job.style line ⊎ IsOfDatabase files job.databases line
  unfolding after_job
  of_after_job aux.Whole h = of_style_named job.style refl h
  of_after_job aux.TooManyOpen h = absurd (nothing_in line h)
  of_after_job aux.TopMissing h = absurd (nothing_in line h)
  of_after_job aux.FileLimit h = absurd (nothing_in line h)

-- ---- the whole reading

of_aux_files : (files : Files) (top : List ℕ) (line : Line) → Contains (job_of_files files top).log line → IsOfNote (notes_of (job_events files top)) line
unfolding job_of_files
of_aux_files files top line h = of_note (notes_of (job_events files top)) line h

pub lines_are_of_files : LinesAreOfFiles
lines_are_of_files = λ files name line h.
    let job = job_named files name in
    ⊎_elim (λ first. inl (of_aux_files files (with_ending (codes ".aux") name) line first))
    (λ later. inr (of_after_job files job line job.ending later))
    (Contains-append_cases job.log (after_job files job job.ending).lines line h)
