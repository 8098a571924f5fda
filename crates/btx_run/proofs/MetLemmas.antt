-- Where the lines are met that reading a job's files logs, one part after another.
use Rattle.std.proofs.Common.{◌≡◌, ℕ, ◌+◌, ◌<◌, false, List, [], ◌∷◌, ◌++◌, Option, Some, length, take, drop, get_or, arith, refl, sym, ap, ◌∙◌, subst}
use Rattle.std.specs.Prelude.{Contains}
use Rattle.std.proofs.lemmas.List.{append_cancel_left, map-append, take-append-drop}
use Rattle.std.proofs.lemmas.List.Elements.{Contains-append_left, Contains-append_right}
use Rattle.btx_text.specs.language.Limits.{is_too_long}
use Rattle.btx_text.specs.language.LogLines.{Line}
use Rattle.btx_aux.specs.language.Answers.{Agree, FinderAnswer}
use Rattle.btx_aux.specs.language.Files.{Files}
use Rattle.btx_aux.specs.language.Job.{AuxJob}
use Rattle.btx_aux.specs.refinement.Answers.{ByAnswers}
use Rattle.btx_aux.specs.refinement.Entries.{Bytes, texts_of}
use Rattle.btx_machine.specs.declared.notebook.About.TheVariants as about
use Rattle.btx_machine.specs.laws.Noting.{AddsLines}
use Rattle.btx_machine.specs.refinement.Met.{AddsMet, met}
use Rattle.btx_machine.specs.refinement.Outputs.{Journal}
use Rattle.btx_machine.specs.refinement.Places.{shown}
use Rattle.btx_machine.proofs.HandLemmas.{handed_as, handed_none, handed_one, handed_then}
use Rattle.btx_core.specs.language.Files.Databases.{databases_logged, files_found}
use Rattle.btx_core.specs.language.Files.Found.{NamedFile, file_at}
use Rattle.btx_core.specs.refinement.Files.Readings.{Logged, behind, style_read}
use Rattle.btx_run.specs.refinement.Files.Places.{HandsOf}
use Rattle.btx_run.specs.refinement.Files.Readings.{after_style, database_logged}
use Rattle.btx_run.proofs.ReadingLemmas.{databases_logged-append, file_is_named, logged_more}

-- ---- two claims of the same answers

-- two claims of the same answers are one
pub by_with : {content : Option Files} {before after : List FinderAnswer} {Asks : List (List ℕ) → Type 0} {P Q : Files → Type 0}
    → ByAnswers content before after Asks P → ByAnswers content before after Asks Q → ByAnswers content before after Asks (λ files. P files × Q files)
by_with {content} {before} p q = record {
  answers = p.answers;
  given = p.given;
  shown = p.shown;
  asks = p.asks;
  holds = λ files agree. (p.holds files agree, q.holds files (subst (Agree files) same agree));
} where
  same : p.answers ≡ q.answers
  same = append_cancel_left before p.answers q.answers (sym p.given ∙ q.given)

-- ---- the lines of parts of the reading

-- nothing was handed
pub hands_nothing : (journal : Journal) (lines : List Line) → HandsOf journal journal lines
hands_nothing journal lines = handed_none (shown journal)

-- one of these lines
pub hands_line : (old new : Journal) (line : Line) (lines : List Line) → AddsLines old.noted new.noted (line ∷ [])
    → AddsMet old.handed new.handed (met line about.Files ∷ []) → Contains lines line → HandsOf old new lines
hands_line old new line lines noted handed is =
    handed_one (shown old) (shown new) line about.Files noted handed (record { about_it = refl; is_said = is })

-- the only line
pub hands_this : (old new : Journal) (line same : Line) → AddsLines old.noted new.noted (line ∷ [])
    → AddsMet old.handed new.handed (met line about.Files ∷ []) → line ≡ same → HandsOf old new (same ∷ [])
hands_this old new line same noted handed is = subst (λ same. HandsOf old new (same ∷ [])) is (hands_line old new line (line ∷ []) noted handed (0, omega arith, refl))

-- those of a part are lines of the whole
pub hands_first : (old new : Journal) (lines more : List Line) → HandsOf old new lines → HandsOf old new (lines ++ more)
hands_first old new lines more = handed_as (λ m is. record { about_it = is.about_it; is_said = Contains-append_left lines more m.line is.is_said })

pub hands_last : (old new : Journal) (lines more : List Line) → HandsOf old new more → HandsOf old new (lines ++ more)
hands_last old new lines more = handed_as (λ m is. record { about_it = is.about_it; is_said = Contains-append_right lines more m.line is.is_said })

-- those of one part, and then those of the next
pub hands_both : (old mid new : Journal) (lines more : List Line) → HandsOf old mid lines → HandsOf mid new more → HandsOf old new (lines ++ more)
hands_both old mid new lines more first second = handed_then (hands_first old mid lines more first) (hands_last mid new lines more second)

-- ---- databases

-- the line of one database more
pub database_met : (files : Files) (names : List Bytes) (i : ℕ) (name : Bytes) (text : List ℕ) (found : List NamedFile) (old mid new : Journal)
    → i < length names → name ≡ get_or names i name → text ≡ name.items → found ≡ files_found files (texts_of (take i names))
    → HandsOf old mid (databases_logged files [] (texts_of (take i names)))
    → HandsOf mid new (database_logged (length found + 1) text (file_at files text) ∷ [])
    → HandsOf old new (databases_logged files [] (texts_of (take (i + 1) names)))
database_met files names i name text found old mid new lt is same here first next =
    subst (HandsOf old new) (sym (logged_more files names i name lt is)) (hands_both old mid new _ _ first
    (subst (λ found. HandsOf mid new (database_logged (length found + 1) name.items (file_at files name.items) ∷ [])) here
    (subst (λ text. HandsOf mid new (database_logged (length found + 1) text (file_at files text) ∷ [])) same next)))

-- those of the first databases are lines of all
pub databases_met : (files : Files) (names : List Bytes) (i : ℕ) (old new : Journal) → HandsOf old new (databases_logged files [] (texts_of (take i names)))
    → HandsOf old new (databases_logged files [] (texts_of names))
databases_met files names i old new first =
    let whole : texts_of names ≡ texts_of (take i names) ++ texts_of (drop i names) =
    ap texts_of (sym (take-append-drop i names)) ∙ map-append (λ (name : Bytes). name.items) (take i names) (drop i names) in
    let lines : databases_logged files [] (texts_of names) ≡ databases_logged files [] (texts_of (take i names))
    ++ databases_logged files (texts_of (take i names)) (texts_of (drop i names)) =
    ap (databases_logged files []) whole ∙ databases_logged-append files [] (texts_of (take i names)) (texts_of (drop i names)) in
    subst (HandsOf old new) (sym lines) (hands_first old new _ _ first)

-- ---- the style

-- the lines of a part that has these before those of another one
pub part_met : {T : Type 0} (old mid new : Journal) (lines : List Line) (part more : Logged T) → part ≡ behind lines more → HandsOf old mid lines
    → HandsOf mid new more.lines → HandsOf old new part.lines
part_met old mid new lines part more is first second = subst (λ part. HandsOf old new part.lines) (sym is) (hands_both old mid new lines more.lines first second)

-- only some of those before it
pub part_begun : {T : Type 0} (old new : Journal) (lines : List Line) (part more : Logged T) → part ≡ behind lines more → HandsOf old new lines
    → HandsOf old new part.lines
part_begun old new lines part more is first = subst (λ part. HandsOf old new part.lines) (sym is) (hands_first old new lines more.lines first)

-- those of the same part
pub part_same : {T : Type 0} (old new : Journal) (part same : Logged T) → part ≡ same → HandsOf old new same.lines → HandsOf old new part.lines
part_same old new part same is = subst (λ part. HandsOf old new part.lines) (sym is)

-- those of the databases, after a style that isn't too long
pub style_met : (files : Files) (job : AuxJob) (style : NamedFile) (names : List (List ℕ)) (old new : Journal) → is_too_long style.bytes ≡ false
    → names ≡ job.databases → HandsOf old new (databases_logged files [] names) → HandsOf old new (after_style files job style).lines
unfolding after_style
style_met files job style names old new short is hands = rw short (subst (λ names. HandsOf old new (databases_logged files [] names)) is hands)

-- a style that was found by its name
pub style_there : (files : Files) (job : AuxJob) (name : List ℕ) (found : Option NamedFile) (style : NamedFile) → found ≡ Some style → found ≡ file_at files name
    → style_read files job name (file_at files name) ≡ style_read files job style.name (Some style)
style_there files job name found style some is =
    let here = sym some ∙ is in
    ap (style_read files job name) (sym here) ∙ ap (λ name. style_read files job name (Some style)) (sym (file_is_named files name style here))
